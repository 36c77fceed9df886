-- The turns of a DO, cut in two.
use Rattle.std.proofs.Common.{◌≡◌, ◌∙◌, ◌+◌, ℕ, zero, suc, ℤ, Bool, Result, refl, sym, ap, arith}
use Rattle.std.specs.Prelude.{if◌then◌else◌}
use Rattle.ast.specs.Exact.{trips}
use Rattle.ast.specs.Meaning.{Run, exec_block, given, going_on, looked_up, looped, step_value, then_do, turns, value, written}
use Rattle.ast.specs.declared.fault.End.{End}
use Rattle.ast.specs.declared.fault.End.TheVariants.{Done, Stopped, Fault as Faulted}
use Rattle.ast.specs.declared.fault.Fault.{Fault}
use Rattle.ast.specs.declared.fault.Fault.TheVariants.{ZeroStep}
use Rattle.codegen.specs.Turns.{AreItsTurns, turn}

-- going on twice
then_twice : (run : Run) (f g : Run → Run) → then_do (then_do run f) g ≡ then_do run (λ r. then_do (f r) g)
then_twice run f g = by run.end refl
  where
    by : (x : End) → run.end ≡ x → then_do (going_on x run f) g ≡ going_on x run (λ r. then_do (f r) g)
    by Done e = refl
    by (Stopped y) e = ap (λ (z : End). going_on z run g) e
    by (Faulted k y) e = ap (λ (z : End). going_on z run g) e

then_alike : (run : Run) (f g : Run → Run) → (run.end ≡ Done → f run ≡ g run) → then_do run f ≡ then_do run g
then_alike run f g h = by run.end refl
  where
    by : (x : End) → run.end ≡ x → going_on x run f ≡ going_on x run g
    by Done e = h e
    by (Stopped y) e = refl
    by (Faulted k y) e = refl

pub cut : (f : Run → Run) (k n : ℕ) (run : Run) → run.end ≡ Done → turns f (k + n) run ≡ then_do (turns f k run) (λ r. turns f n r)
cut f zero n run d =
    let e : 0 + n ≡ n = omega arith in
    ap (λ (m : ℕ). turns f m run) e ∙ sym (ap (λ (x : End). going_on x run (λ r. turns f n r)) d)
cut f (suc k) n run d =
    let e : suc k + n ≡ suc (k + n) = omega arith in
    ap (λ (m : ℕ). turns f m run) e
    ∙ then_alike (f run) (λ r. turns f (k + n) r) (λ r. then_do (turns f k r) (λ s. turns f n s)) (λ h. cut f k n (f run) h)
    ∙ sym (then_twice (f run) (λ r. turns f k r) (λ s. turns f n s))

-- one turn more
pub turn_more : (f : Run → Run) (k : ℕ) (run : Run) → run.end ≡ Done → turns f (suc k) run ≡ then_do (turns f k run) f
turn_more f k run d =
    let e : suc k ≡ k + 1 = omega arith in
    ap (λ (m : ℕ). turns f m run) e ∙ cut f k 1 run d ∙ then_alike (turns f k run) (λ r. then_do (f r) (λ s. s)) f (λ h. still (f (turns f k run)))
  where
    still : (r : Run) → then_do r (λ s. s) ≡ r
    still r = by r.end
      where
        by : (x : End) → going_on x r (λ s. s) ≡ r
        by Done = refl
        by (Stopped y) = refl
        by (Faulted q y) = refl

pub its_turns : AreItsTurns
its_turns symbols line h b run m1 m2 m3 k n d e1 e2 e3 nonzero all =
    ap (λ (q : Result ℤ Fault). given q line run (λ m1. given (value (looked_up symbols run.store) h.last) line run (λ m2. given (step_value (looked_up symbols run.store) h.step) line run (λ m3. looped line h.variable.name (λ before. exec_block symbols b before) m1 m2 m3 run)))) e1
    ∙ ap (λ (q : Result ℤ Fault). given q line run (λ m2. given (step_value (looked_up symbols run.store) h.step) line run (λ m3. looped line h.variable.name (λ before. exec_block symbols b before) m1 m2 m3 run))) e2
    ∙ ap (λ (q : Result ℤ Fault). given q line run (λ m3. looped line h.variable.name (λ before. exec_block symbols b before) m1 m2 m3 run)) e3
    ∙ ap (λ (z : Bool). if z then record run { end = Faulted ZeroStep line } else turns (turn line h.variable.name (λ before. exec_block symbols b before) m3) (trips m1 m2 m3) (written run h.variable.name 0 m1)) nonzero
    ∙ sym (ap (λ (t : ℕ). turns (turn line h.variable.name (λ before. exec_block symbols b before) m3) t (written run h.variable.name 0 m1)) all)
    ∙ cut (turn line h.variable.name (λ before. exec_block symbols b before) m3) k n (written run h.variable.name 0 m1) d
