use Rattle.std.proofs.Common.{◌∙◌}
use Rattle.clap.specs.Matches.{found_of}
use Rattle.clap.proofs.WalkLemmas.{one_text-rows}
use Rattle.command_line.proofs.matches.flag.Goals as goal

pub returns : goal.returns
returns c =
    let same = one_text-rows (found_of c.args.given.now) c.args.id.now in
    let e = c.get_flag.ensures in
    (λ given. e.value (same ∙ given), λ given. e.other (same ∙ given), λ given. e.none (same ∙ given))
