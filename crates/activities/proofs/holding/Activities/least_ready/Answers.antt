use Rattle.std.proofs.Common.{◌≡◌, ℕ, arith, true, subst, sym, ◌∙◌, false, inl, inr}
use Rattle.std.proofs.lemmas.Bool.{cases_lt}
use Rattle.activities.specs.Activities.{point_in}
use Rattle.activities.specs.Least.{IsReady}
use Rattle.activities.proofs.Leasts.{open_there}
use Rattle.activities.proofs.holding.Activities.least_ready.Goals as goal

pub loop-k-init : goal.loop-k-init
loop-k-init c = λ j l r. let o = open_there j c.args.self.now c.requires.stand r in absurd (omega (arith, l, o.0, c.read-k.ensures))

pub loop-k-preserved : goal.loop-k-preserved
loop-k-preserved c = λ j l r. elim (cases_lt j c.loop-k.k) [
  | inl m ↦ c.loop-k.invariant j m r
  | inr m ↦ (let e : j ≡ c.loop-k.k = omega (arith, l, m) in
      let z : true ≡ false = sym (c.is_ready.ensures.1 (subst (λ (i : ℕ). IsReady (point_in c.args.self.now).machine i) e r)) ∙ c.if-is_ready.false in
      cc)
]

pub returns : goal.returns
returns c = λ k r. let o = open_there k c.args.self.now c.requires.stand r in c.loop-k.invariant k (omega (arith, o.1, c.loop-k-test.false, c.next_ticket.ensures)) r
