use Rattle.std.proofs.Common.{◌≡◌, ℕ, Option, arith, sym, subst, ◌∙◌}
use Rattle.std.specs.Prelude.{IfSome, ◌-◌, get_or}
use Rattle.schedules.specs.Noting.{EndsIn}
use Rattle.schedules.proofs.Lasting.{ends_in, ends_so, none_kept}
use Rattle.schedules.proofs.schedule.Schedule.last_burst.Goals as goal

pub returns-then-len-eq0-clause-none : goal.returns-then-len-eq0-clause-none
returns-then-len-eq0-clause-none c x q n e =
    absurd (none_kept c.self.inside.version c.self.inside.processors c.self.inside.slots c.self.inside.shorts.items c.self.inside.picked.items c.args.self.now c.self.view_is
    (omega (arith, c.len-len.ensures, c.self.inside.shorts.ok.0, c.if-len-eq0.true)) x _ e)

pub returns-clause-some : goal.returns-clause-some
returns-clause-some c =
    subst (λ (o : Option (ℕ × ℕ)). IfSome o (λ r. EndsIn r.0 r.1 c.args.self.now)) (sym c.burst.ensures)
    (ends_in c.self.inside.version c.self.inside.processors c.self.inside.slots c.self.inside.shorts.items c.self.inside.picked.items c.args.self.now c.index.result.now c.self.view_is c.self.invariant
    (omega (arith, c.len-len.ensures, c.self.inside.shorts.ok.0, c.if-len-eq0.false))
    (subst (λ (i : ℕ). c.index.result.now ≡ get_or c.self.inside.shorts.items (i - 1) c.index.result.now) (c.len-len.ensures ∙ c.self.inside.shorts.ok.0) c.index.ensures))

pub returns-clause-none : goal.returns-clause-none
returns-clause-none c x q n e =
    c.burst.ensures ∙ ends_so c.self.inside.version c.self.inside.processors c.self.inside.slots c.self.inside.shorts.items c.self.inside.picked.items c.args.self.now c.index.result.now c.self.view_is
    (omega (arith, c.len-len.ensures, c.self.inside.shorts.ok.0, c.if-len-eq0.false))
    (subst (λ (i : ℕ). c.index.result.now ≡ get_or c.self.inside.shorts.items (i - 1) c.index.result.now) (c.len-len.ensures ∙ c.self.inside.shorts.ok.0) c.index.ensures)
    x q n e
