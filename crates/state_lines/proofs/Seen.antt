-- Lines one after another, and maps of a state by the lists that are kept.
use Rattle.std.proofs.Common.{◌≡◌, ◌∙◌, ◌<◌, ◌≤◌, ◌-◌, ◌+◌, ◌%◌, ◌++◌, ℕ, zero, suc, Bool, true, false, List, length, Option, None, Result, Ok, Err, get_or, refl, sym, ap, append_assoc, arith}
use Rattle.std.proofs.lemmas.Bool.{eq-eqb, ne_eqb}
use Rattle.std.specs.Prelude.{OnOk, cond, eqb}
use Rattle.std.specs.declared.alloc.AllocError.{AllocError}
use Rattle.std.proofs.lemmas.List.{get_or_past}
use Rattle.machine.specs.Code.{Code}
use Rattle.machine.specs.State.{Machine}
use Rattle.activities.specs.Activities.{frame_at}
use Rattle.activities.specs.Parts.{Standing, counts_of, numbered, standing}
use Rattle.activities.specs.Points.{Point}
use Rattle.state_lines.specs.States.{count_line, count_lines, event_lines, held_line, held_lines, iteration_line, parked_lines}

-- ---- maps

counts_is : (xs : List ℕ) (e : ℕ) → counts_of xs e ≡ cond (eqb e 0) 0 (get_or xs e 0)
unfolding counts_of
counts_is xs e = refl

pub counted : (xs : List ℕ) (e : ℕ) → 0 < e → get_or xs e 0 ≡ counts_of xs e
counted xs e h = sym (counts_is xs e ∙ ap (λ (b : Bool). cond b 0 (get_or xs e 0)) (ne_eqb e 0 (λ z. omega (arith, z, h))))

pub not_counted : (xs : List ℕ) (e : ℕ) → e ≡ 0 → 0 ≡ counts_of xs e
not_counted xs e h = sym (counts_is xs e ∙ ap (λ (b : Bool). cond b 0 (get_or xs e 0)) (eq-eqb e 0 h))

pub beyond : (xs : List ℕ) (e : ℕ) → length xs ≤ e → 0 ≡ counts_of xs e
beyond xs e h = sym (counts_is xs e ∙ by (eqb e 0))
  where
    by : (b : Bool) → cond b 0 (get_or xs e 0) ≡ 0
    by true = refl
    by false = get_or_past xs e 0 h

pub stands_at : (xs : List (Option Standing)) (s k : ℕ) → standing xs s k ≡ numbered k (get_or xs (k % s) None)
unfolding standing
stands_at xs s k = refl

pub events_shown : (m : Machine) → event_lines m ≡ count_lines m.counts 1 64
unfolding event_lines
events_shown m = refl

-- ---- lines

-- a line is appended, with which what was left begins
pub line_on : (new out line rest all shown : List ℕ) → new ≡ out ++ line → all ≡ line ++ rest → out ++ all ≡ shown → new ++ rest ≡ shown
line_on new out line rest all shown n a h = ap (λ (t : List ℕ). t ++ rest) n ∙ append_assoc out line rest ∙ ap (λ (t : List ℕ). out ++ t) (sym a) ∙ h

pub counts_on : (f : ℕ → ℕ) (e n : ℕ) → 0 < n → count_lines f e n ≡ count_line e (f e) ++ count_lines f (e + 1) (n - 1)
counts_on f e zero h = absurd (omega (arith, h))
counts_on f e (suc n) h =
    let next : suc e ≡ e + 1 = omega (arith) in
    let less : n ≡ suc n - 1 = omega (arith) in
    ap (λ (k : ℕ). count_line e (f e) ++ count_lines f k n) next ∙ ap (λ (k : ℕ). count_line e (f e) ++ count_lines f (e + 1) k) less

pub parked_on : (code : Code) (m : Machine) (k n : ℕ) → 0 < n → parked_lines code m k n ≡ iteration_line code m k ++ parked_lines code m (k + 1) (n - 1)
parked_on code m k zero h = absurd (omega (arith, h))
parked_on code m k (suc n) h =
    let next : suc k ≡ k + 1 = omega (arith) in
    let less : n ≡ suc n - 1 = omega (arith) in
    ap (λ (i : ℕ). iteration_line code m k ++ parked_lines code m i n) next ∙ ap (λ (i : ℕ). iteration_line code m k ++ parked_lines code m (k + 1) i) less

pub held_on : (code : Code) (x : Point) (q n : ℕ) → q < n → held_lines code x q (n - q) ≡ held_line code q (frame_at q x) ++ held_lines code x (q + 1) (n - (q + 1))
held_on code x q n h =
    let left : n - q ≡ suc (n - (q + 1)) = omega (arith, h) in
    let next : suc q ≡ q + 1 = omega (arith) in
    ap (λ (k : ℕ). held_lines code x q k) left ∙ ap (λ (i : ℕ). held_line code q (frame_at q x) ++ held_lines code x i (n - (q + 1))) next

-- one text was appended, and then another one
pub appended_both : (a b c d e : List ℕ) → a ≡ b ++ e → b ≡ c ++ d → a ≡ c ++ (d ++ e)
appended_both a b c d e h k = h ∙ ap (λ (t : List ℕ). t ++ e) k ∙ append_assoc c d e

pub appended : {A : Type 0} (r : Result A AllocError) (a b c d e : List ℕ) → OnOk r (a ≡ b ++ e) → b ≡ c ++ d → OnOk r (a ≡ c ++ (d ++ e))
appended (Ok u) a b c d e h k = h ∙ ap (λ (t : List ℕ). t ++ e) k ∙ append_assoc c d e
appended (Err x) a b c d e h k = h
