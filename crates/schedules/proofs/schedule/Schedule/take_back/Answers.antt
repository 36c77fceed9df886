use Rattle.std.proofs.Common.{[], ap, sym, ◌∙◌}
use Rattle.std.proofs.lemmas.List.{append-nil}
use Rattle.schedules.specs.Schedules.{Schedule}
use Rattle.schedules.proofs.Taking.{kept_back, kept_numbered, seen_back, seen_numbered, some_seen}
use Rattle.schedules.proofs.schedule.Schedule.take_back.Goals as goal

pub invariant_of-self-then-has_number : goal.invariant_of-self-then-has_number
invariant_of-self-then-has_number c =
    kept_numbered c.self.inside.version c.self.inside.processors c.self.inside.slots c.pop.new.self.items c.self.inside.shorts.items c.in-Some.last
    c.pop-then-has_number.new.self.items c.self.inside.picked.items c.pop-then-has_number.result
    c.in-Some.ensures.items c.pop-then-has_number.ensures.items c.if-has_number.ensures
    (λ e. sym c.self.inside.picked.ok.0 ∙ (rw e at c.pop-then-has_number.ensures.cases).0) c.self.invariant

pub returns-then-has_number-clause-last : goal.returns-then-has_number-clause-last
returns-then-has_number-clause-last c x e h =
    seen_numbered c.self.inside.version c.self.inside.processors c.self.inside.slots c.pop.new.self.items c.self.inside.shorts.items c.in-Some.last
    c.pop-then-has_number.new.self.items c.self.inside.picked.items c.pop-then-has_number.result x e
    c.in-Some.ensures.items c.pop-then-has_number.ensures.items c.if-has_number.ensures
    (λ e. sym c.self.inside.picked.ok.0 ∙ (rw e at c.pop-then-has_number.ensures.cases).0) c.self.invariant
    (c.self.view_is ∙ h)

pub returns-then-has_number-clause-none : goal.returns-then-has_number-clause-none
returns-then-has_number-clause-none c h =
    absurd (some_seen c.pop.new.self.items c.self.inside.shorts.items c.in-Some.last c.self.inside.picked.items c.in-Some.ensures.items (ap (λ (y : Schedule). y.entries) c.self.view_is ∙ h))

pub invariant_of-self-else-has_number : goal.invariant_of-self-else-has_number
invariant_of-self-else-has_number c =
    kept_back c.self.inside.version c.self.inside.processors c.self.inside.slots c.pop.new.self.items c.self.inside.shorts.items c.in-Some.last
    c.self.inside.picked.items [] c.self.inside.picked.items
    c.in-Some.ensures.items (sym (append-nil c.self.inside.picked.items)) c.if-has_number.ensures c.self.invariant

pub returns-else-has_number-clause-last : goal.returns-else-has_number-clause-last
returns-else-has_number-clause-last c x e h =
    seen_back c.self.inside.version c.self.inside.processors c.self.inside.slots c.pop.new.self.items c.self.inside.shorts.items c.in-Some.last
    c.self.inside.picked.items [] c.self.inside.picked.items x e
    c.in-Some.ensures.items (sym (append-nil c.self.inside.picked.items)) c.if-has_number.ensures c.self.invariant
    (c.self.view_is ∙ h)

pub returns-else-has_number-clause-none : goal.returns-else-has_number-clause-none
returns-else-has_number-clause-none c h =
    absurd (some_seen c.pop.new.self.items c.self.inside.shorts.items c.in-Some.last c.self.inside.picked.items c.in-Some.ensures.items (ap (λ (y : Schedule). y.entries) c.self.view_is ∙ h))

pub returns-then-has_number-clause-kept : goal.returns-then-has_number-clause-kept
returns-then-has_number-clause-kept c = (invariant_of-self-then-has_number c).schedule

pub returns-else-has_number-clause-kept : goal.returns-else-has_number-clause-kept
returns-else-has_number-clause-kept c = (invariant_of-self-else-has_number c).schedule
