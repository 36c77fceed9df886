use Rattle.std.proofs.Common.{refl, sym, ◌∙◌}
use Rattle.replay.proofs.Onwards.{has_ended}
use Rattle.replay.proofs.whole.Core.pick.Goals as goal

pub returns-then-is_some-clause-ok : goal.returns-then-is_some-clause-ok
returns-then-is_some-clause-ok c =
    (refl, has_ended c.self.inside.input.now c.self.inside.activities c.self.inside.schedule c.args.self.now c.self.view_is (sym c.is_some.ensures ∙ c.if-is_some.true))
