use Rattle.std.proofs.Common.{[], ◌∷◌, ◌++◌, ap, ◌∙◌, arith}
use Rattle.schedules.specs.declared.short.Short.{Short}
use Rattle.schedules.proofs.Recounting.{kept_recounted, seen_recounted}
use Rattle.schedules.proofs.schedule.Schedule.recount.Goals as goal

pub invariant_of-self : goal.invariant_of-self
invariant_of-self c =
    kept_recounted c.self.inside.version c.self.inside.processors c.self.inside.slots c.pop.new.self.items c.self.inside.shorts.items c.self.inside.picked.items
    c.args.made (omega (arith, c.if-made-eq0.false)) c.requires.few c.in-Some.last c.push_reserved.new.self.items
    c.in-Some.ensures.items (c.push_reserved.ensures.items ∙ ap (λ (s : Short). c.pop.new.self.items ++ s ∷ []) c.counting.ensures) c.self.invariant

pub returns-in-Some-clause-last : goal.returns-in-Some-clause-last
returns-in-Some-clause-last c x q n e =
    seen_recounted c.self.inside.version c.self.inside.processors c.self.inside.slots c.pop.new.self.items c.self.inside.shorts.items c.self.inside.picked.items
    c.args.made (omega (arith, c.if-made-eq0.false)) c.requires.few x q n (c.self.view_is ∙ e) c.in-Some.last c.push_reserved.new.self.items
    c.in-Some.ensures.items (c.push_reserved.ensures.items ∙ ap (λ (s : Short). c.pop.new.self.items ++ s ∷ []) c.counting.ensures) c.self.invariant

pub returns-in-Some-clause-kept : goal.returns-in-Some-clause-kept
returns-in-Some-clause-kept c = (invariant_of-self c).schedule
