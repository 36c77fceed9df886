use Rattle.std.proofs.Common.{sym, ap, ◌∙◌}
use Rattle.std.specs.Prelude.{is_some}
use Rattle.replay.proofs.Onwards.{not_there}
use Rattle.replay.proofs.whole.Core.holds.Goals as goal

pub returns-then-q-len : goal.returns-then-q-len
returns-then-q-len c =
    sym (ap is_some (not_there c.self.inside.input.now c.self.inside.activities c.self.inside.schedule c.args.self.now c.args.q c.len.result c.self.view_is (c.len.ensures ∙ c.self.inside.activities.held.ok.0) c.if-q-len.true))
