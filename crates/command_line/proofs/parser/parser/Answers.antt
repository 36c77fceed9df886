use Rattle.std.proofs.Common.{codes, rules}
use Rattle.clap.specs.Words.{new_app}
use Rattle.command_line.specs.CommandLine.{Reads, wants_subcommand}
use Rattle.command_line.proofs.parser.parser.Goals as goal

pub returns : goal.returns
returns c =
    let doac_new : Reads (wants_subcommand (new_app (codes "doac"))) c.version-app.result =
    search (rules, c.version-app.ensures, c.subcommand_required.ensures, c.about.ensures, c.new.ensures.app) in
    c.with_pictures.ensures _ (c.with_schedules-app.ensures _ (c.with_sources-app.ensures _ doac_new))
