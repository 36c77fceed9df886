-- The code of an expression does what its process does, whatever the steps are made into.
use Rattle.std.proofs.Common.{◌≡◌, ◌∙◌, ◌⊎◌, inl, inr, ◌<◌, ◌≤◌, ◌+◌, ◌*◌, ◌^◌, ℕ, zero, suc, ℤ, pos, Bool, true, false, List, [], ◌∷◌, ◌++◌, Option, Some, None, Result, Ok, Err, length, map, drop, refl, sym, ap, subst, arith, length-append}
use Rattle.std.specs.Prelude.{◌-ℤ◌, ◌==◌, unsigned_abs, max, slice_get, slice_set, if◌then◌else◌}
use Rattle.std.proofs.Math.Nat.{le-max_left, le-max_right}
use Rattle.std.proofs.lemmas.Bool.{lt-ltb, eqb-true}
use Rattle.ast.proofs.Sizes.{some_elements}
use Rattle.ast.specs.Exact.{absolute, greater, intrinsic_value, less, prefixed_value, remainder, truth_value, value_of}
use Rattle.ast.specs.Results.{◌>>=◌}
use Rattle.ast.specs.Symbols.{Extent, elements, is_within, width, place_of, most_elements}
use Rattle.ast.specs.Tree.{Ref, Term, constant, truth, parameter, element, call, parentheses, unary, binary, Terms, no_terms, then_term}
use Rattle.ast.specs.declared.expression.Intrinsic.{Intrinsic}
use Rattle.ast.specs.declared.expression.Intrinsic.TheVariants.{Abs, Iabs, Max, Max0, Min, Min0, Mod}
use Rattle.ast.specs.declared.expression.Operator.{Operator}
use Rattle.ast.specs.declared.expression.Operator.TheVariants.{Add}
use Rattle.ast.specs.declared.expression.Prefix.{Prefix}
use Rattle.ast.specs.declared.fault.Fault.{Fault}
use Rattle.ast.specs.declared.fault.Fault.TheVariants.{Index as BadIndex}
use Rattle.ast.proofs.Places.{Open, rest_open, others_few, longer_positive, place_below}
use Rattle.machine.specs.Code.{Code, Cell, cell_at}
use Rattle.machine.specs.Frame.{Frame}
use Rattle.machine.specs.Local.{answered, answered_at, defined, faulted, if_replaced, made_at, part_of, with_operands}
use Rattle.machine.specs.View.{View, doing, loading, doing_if, loading_if, view}
use Rattle.machine.specs.declared.code.Open.{Open as Opened}
use Rattle.machine.specs.declared.instr.Act.{Act}
use Rattle.machine.specs.declared.instr.Act.TheVariants.{Constant, Private, Binary, Modulo, Greatest, Least, Unary, Absolute, Check, Load, LoadElement}
use Rattle.machine.specs.declared.instr.Axis.{Axis}
use Rattle.machine.specs.declared.instr.Instr.{Instr}
use Rattle.expr_code.specs.Computes.{operands, operands_kept, operands_chosen, operands_further, with_place}
use Rattle.expr_code.specs.Emitted.{axis, applied_to, checks_code, chosen_code, dropping, further_code, instr, located_code, next_stride, nowhere, place_code, reached_code, scalar_act, short, sums_code, target_code, term_code, terms_code}
use Rattle.expr_code.specs.Places.{Places, Home, loop_index, private_scalar, in_store, dimensions_at, home, is_loop_name, number_in, private_or_stored}
use Rattle.expr_code.specs.Process.{Steps, answered_into, at_place, checked_into, chosen_into, count, fewer, further_into, just, locals_into, located_into, place_into, reached_into, scalar_into, target_into, term_into, terms_into}
use Rattle.expr_code.proofs.Checking.{stride_is, part_within, part_outside, part_nowhere, total, one_more}
use Rattle.expr_code.proofs.Finding.{Reach, cell_law, number_below, short_is}
use Rattle.expr_code.proofs.Standing.{HasAt, has_front, has_back, onto, get_onto, set_onto, at, seen, constant_seen, index_seen, private_seen, dropped_seen}

-- The steps' rules: A: what an activity may still do, St: a frame stands where it may do that.
pub record Rules (A : Type 0) (S : Steps A) (code : Code) (f : Frame) (line limit : ℕ) (St : A → Frame → Type 0) : Type 0 where
  pub loads : (r : Ref) (c : Cell) (κ : ℤ → A) (pc : ℕ) (st us : List ℤ) → view code (at code f pc st) ≡ loading c (λ v. at code f (pc + 1) (v ∷ us)) → ((v : ℤ) → St (κ v) (at code f (pc + 1) (v ∷ us))) → St (S.load r c κ) (at code f pc st)
  pub owns : (r : Ref) (x : ℕ) (κ : ℤ → A) (pc : ℕ) (st : List ℤ) (o : Option ℤ) → slice_get f.privates x ≡ Some o → view code (at code f pc st) ≡ doing (at code f (pc + 1) (defined o ∷ st)) → ((v : ℤ) → St (κ v) (at code f (pc + 1) (v ∷ st))) → St (S.own r x κ) (at code f pc st)
  pub indexes : (r : Ref) (κ : ℤ → A) (pc : ℕ) (st : List ℤ) → view code (at code f pc st) ≡ doing (at code f (pc + 1) (f.index ∷ st)) → St (κ f.index) (at code f (pc + 1) (f.index ∷ st)) → St (S.index r κ) (at code f pc st)
  pub goes : (a : A) (pc : ℕ) (st us : List ℤ) → view code (at code f pc st) ≡ doing (at code f (pc + 1) us) → St a (at code f (pc + 1) us) → St (S.local a) (at code f pc st)
  pub faults : (e : Fault) (pc : ℕ) (st : List ℤ) → pc < limit → view code (at code f pc st) ≡ doing (faulted e line (at code f pc st)) → St (S.fails e) (at code f pc st)

private_there : (ps : List (Option ℤ)) (x : ℕ) → x < length ps → (o : Option ℤ) × (slice_get ps x ≡ Some o)
private_there [] x h = absurd (omega (arith, h))
private_there (p ∷ ps) zero h = (p, refl)
private_there (p ∷ ps) (suc x) h = private_there ps x (omega (arith, h))

one_left : (xs : List ℤ) → length xs ≡ 1 → (x : ℤ) × (xs ≡ x ∷ [])
one_left [] h = absurd (omega (arith, h))
one_left (x ∷ []) h = (x, refl)
one_left (x ∷ y ∷ xs) h = absurd (omega (arith, h))

two_left : (xs : List ℤ) → length xs ≡ 2 → (x : ℤ) × (y : ℤ) × (xs ≡ x ∷ y ∷ [])
two_left [] h = absurd (omega (arith, h))
two_left (x ∷ []) h = absurd (omega (arith, h))
two_left (x ∷ y ∷ []) h = (x, y, refl)
two_left (x ∷ y ∷ z ∷ xs) h = absurd (omega (arith, h))

none_left : (xs : List ℤ) → length xs ≡ 0 → xs ≡ []
none_left [] h = refl
none_left (x ∷ xs) h = absurd (omega (arith, h))

fewer_none : (m : ℕ) → fewer m 0 ≡ 0
fewer_none zero = refl
fewer_none (suc m) = refl

fewer_below : (m n : ℕ) → fewer m n ≤ n
fewer_below zero n = omega arith
fewer_below (suc m) zero = omega arith
fewer_below (suc m) (suc n) = let k = fewer_below m n in omega (arith, k)

fewer_first : (m n : ℕ) → fewer m n ≤ m
fewer_first zero n = omega arith
fewer_first (suc m) zero = omega arith
fewer_first (suc m) (suc n) = let k = fewer_first m n in omega (arith, k)

module _ (code : Code) (p : Places) where
  -- each reference reaches its cells, and its subscripts can be numbered
  abbrev mutual
    pub Reaches : Term → Type 0
    Reaches (element r es) = Reach code.variables r (dimensions_at p.symbols r.cell) × (count es ≤ 2 ^ 32) × AllReach es
    Reaches (call g es) = AllReach es
    Reaches (parentheses e) = Reaches e
    Reaches (unary o e) = Reaches e
    Reaches (binary o a b) = Reaches a × Reaches b
    Reaches _ = Unit {0}

    pub AllReach : Terms → Type 0
    AllReach no_terms = Unit {0}
    AllReach (then_term e es) = Reaches e × AllReach es

module _ (A : Type 0) (S : Steps A) (code : Code) (f : Frame) (line limit : ℕ) (St : A → Frame → Type 0) (R : Rules A S code f line limit St) where
  abbrev frame : ℕ → List ℤ → Frame
  frame pc st = at code f pc st

  abbrev Has : ℕ → List Instr → Type 0
  Has pc is = HasAt code.instructions limit pc is

  moved : (a : A) (pc to : ℕ) (st : List ℤ) → to ≡ pc → St a (frame pc st) → St a (frame to st)
  moved a pc to st e h = subst (λ (n : ℕ). St a (frame n st)) (sym e) h

  -- an instruction that makes a value of the operands on top, or faults
  answers : (r : Result ℤ Fault) (n : ℕ) (κ : ℤ → A) (pc : ℕ) (st : List ℤ) → pc < limit → view code (frame pc st) ≡ doing (with_operands (answered r n (frame pc st).operands) line (frame pc st))
      → ((v : ℤ) → St (κ v) (frame (pc + 1) (v ∷ drop n st))) → St (answered_into A S r κ) (frame pc st)
  answers (Ok v) n κ pc st near h next = R.goes (κ v) pc st (v ∷ drop n st) h (next v)
  answers (Err e) n κ pc st near h next = R.faults e pc st near h

  unary_answers : (o : Prefix) (a : ℤ) (κ : ℤ → A) (pc : ℕ) (st : List ℤ) → pc < limit → slice_get code.instructions pc ≡ Some (instr line (Unary o)) → ((v : ℤ) → St (κ v) (frame (pc + 1) (v ∷ st))) → St (answered_into A S (prefixed_value o a) κ) (frame pc (a ∷ st))
  unary_answers o a κ pc st near h next = answers (prefixed_value o a) 1 κ pc (a ∷ st) near (seen code f (instr line (Unary o)) pc (a ∷ st) h) next

  pub binary_answers : (o : Operator) (a b : ℤ) (κ : ℤ → A) (pc : ℕ) (st : List ℤ) → pc < limit → slice_get code.instructions pc ≡ Some (instr line (Binary o)) → ((v : ℤ) → St (κ v) (frame (pc + 1) (v ∷ st))) → St (answered_into A S (value_of o a b) κ) (frame pc (b ∷ a ∷ st))
  binary_answers o a b κ pc st near h next = answers (value_of o a b) 2 κ pc (b ∷ a ∷ st) near (seen code f (instr line (Binary o)) pc (b ∷ a ∷ st) h) next

  -- ---- subscripts

  abbrev shown : Frame → View Frame Opened
  shown g = doing g

  -- a check of the subscript that so many operands lie above
  check_seen : (d : Axis) (xs b : List ℤ) (x : ℤ) (r : Result ℤ Fault) (pc n : ℕ) → slice_get code.instructions pc ≡ Some (instr line (Check n d)) → n ≡ length xs → part_of d x ≡ r
      → view code (frame pc (onto xs (x ∷ b))) ≡ doing (with_operands (answered_at r n (frame pc (onto xs (x ∷ b))).operands) line (frame pc (onto xs (x ∷ b))))
  check_seen d xs b x r pc n h e p =
      seen code f (instr line (Check n d)) pc (onto xs (x ∷ b)) h
      ∙ ap (λ (o : Option ℤ). doing_if (if_replaced (made_at (part_of d) o n (frame pc (onto xs (x ∷ b))).operands) line (frame pc (onto xs (x ∷ b))))) (get_onto xs (x ∷ b) n 0 (omega (arith, e)))
      ∙ ap (λ (q : Result ℤ Fault). doing_if (if_replaced (Some (answered_at q n (frame pc (onto xs (x ∷ b))).operands)) line (frame pc (onto xs (x ∷ b))))) p

  check_goes : (d : Axis) (xs b : List ℤ) (x v : ℤ) (a : A) (pc n : ℕ) → slice_get code.instructions pc ≡ Some (instr line (Check n d)) → n ≡ length xs → part_of d x ≡ Ok v → St a (frame (pc + 1) (onto xs (v ∷ b))) → St (S.local a) (frame pc (onto xs (x ∷ b)))
  check_goes d xs b x v a pc n h e p next =
      let there : slice_set (onto xs (x ∷ b)) n v ≡ onto xs (v ∷ b) = set_onto xs (x ∷ b) n 0 v (omega (arith, e)) in
      R.goes a pc (onto xs (x ∷ b)) (slice_set (onto xs (x ∷ b)) n v) (check_seen d xs b x (Ok v) pc n h e p) (subst (λ (us : List ℤ). St a (frame (pc + 1) us)) (sym there) next)

  check_faults : (d : Axis) (xs b : List ℤ) (x : ℤ) (e : Fault) (pc n : ℕ) → pc < limit → slice_get code.instructions pc ≡ Some (instr line (Check n d)) → n ≡ length xs → part_of d x ≡ Err e → St (S.fails e) (frame pc (onto xs (x ∷ b)))
  check_faults d xs b x e pc n near h c p = R.faults e pc (onto xs (x ∷ b)) near (check_seen d xs b x (Err e) pc n h c p)

  -- the parts made so far, the last first
  abbrev parts : List ℕ → List ℤ → List ℤ
  parts ns st = map (λ n. pos n) ns ++ st

  checks_run : (ds : List Extent) (xs : List ℤ) (ns : List ℕ) (a : A) (s pc : ℕ) (st : List ℤ) → 1 ≤ s → Open ds → s * elements ds ≤ most_elements → 1 ≤ length xs + length ns → length xs ≤ length ds → length xs ≤ 2 ^ 32
      → Has pc (checks_code line s ds (length xs))
      → ((n : ℕ) (rs : List ℕ) → place_of ds xs ≡ Ok n → total rs ≡ total ns + s * n → length rs ≡ length ns + length ds → St a (frame (pc + length (checks_code line s ds (length xs))) (parts rs st)))
      → St (checked_into A S ds xs a) (frame pc (onto xs (parts ns st)))
  checks_run [] [] ns a s pc st l o few some most short_enough has next = moved a (pc + 0) pc (parts ns st) (omega arith) (next 0 ns refl (omega arith) (omega arith))
  checks_run [] (x ∷ xs) ns a s pc st l o few some most short_enough has next = absurd (omega (arith, most))
  checks_run (d ∷ ds) [] [] a s pc st l o few some most short_enough has next = absurd (omega (arith, some))
  checks_run (d ∷ ds) [] (n ∷ ns) a s pc st l o few some most short_enough has next = check_faults nowhere [] (parts ns st) (pos n) BadIndex pc 0 has.1 has.0 refl (part_nowhere (pos n))
  checks_run (d ∷ ds) (x ∷ xs) ns a s pc st l o few some most short_enough has next =
      by (is_within d x) refl
      (λ t later. checks_run ds xs (s * unsigned_abs (x -ℤ d.lower) ∷ ns) a (s * width d) (pc + 1) st (longer_positive s d l) (rest_open d ds o) (others_few s d ds few) (omega arith) (omega (arith, most)) (omega (arith, short_enough))
      (subst (λ (k : ℕ). Has (pc + 1) (checks_code line k ds (length xs))) stride has.2) later)
    where
      stride : next_stride s d ≡ s * width d
      stride = stride_is s d ds l few

      above : short (length xs) ≡ length xs
      above = short_is (length xs) (omega (arith, short_enough))

      by : (t : Bool) → is_within d x ≡ t
          → (is_within d x ≡ true → ((n : ℕ) (rs : List ℕ) → place_of ds xs ≡ Ok n → total rs ≡ total (s * unsigned_abs (x -ℤ d.lower) ∷ ns) + (s * width d) * n → length rs ≡ length (s * unsigned_abs (x -ℤ d.lower) ∷ ns) + length ds → St a (frame (pc + 1 + length (checks_code line (s * width d) ds (length xs))) (parts rs st)))
          → St (checked_into A S ds xs a) (frame (pc + 1) (onto xs (parts (s * unsigned_abs (x -ℤ d.lower) ∷ ns) st))))
          → St (if t then S.local (checked_into A S ds xs a) else S.fails BadIndex) (frame pc (onto xs (x ∷ parts ns st)))
      by true t ih =
          check_goes (axis s d) xs (parts ns st) x (pos (s * unsigned_abs (x -ℤ d.lower))) (checked_into A S ds xs a) pc (short (length xs)) has.0 above (part_within s d ds x l o few t)
          (ih t (λ n rs p q c.
          let place : place_of (d ∷ ds) (x ∷ xs) ≡ Ok (unsigned_abs (x -ℤ d.lower) + width d * n) =
          ap (λ (b : Bool). if b then (place_of ds xs >>= λ k. Ok (unsigned_abs (x -ℤ d.lower) + width d * k)) else Err BadIndex) t ∙ ap (λ (z : Result ℕ Fault). z >>= λ k. Ok (unsigned_abs (x -ℤ d.lower) + width d * k)) p in
          let len : pc + 1 + length (checks_code line (s * width d) ds (length xs)) ≡ pc + length (checks_code line s (d ∷ ds) (length (x ∷ xs))) = far n in
          subst (λ (k : ℕ). St a (frame k (parts rs st))) (sym len) (next (unsigned_abs (x -ℤ d.lower) + width d * n) rs place (one_more s (unsigned_abs (x -ℤ d.lower)) (total ns) (width d) n (total rs) q) (omega (arith, c)))))
        where
          far : (n : ℕ) → pc + 1 + length (checks_code line (s * width d) ds (length xs)) ≡ pc + length (checks_code line s (d ∷ ds) (length (x ∷ xs)))
          far n = let k : length (checks_code line (next_stride s d) ds (length xs)) ≡ length (checks_code line (s * width d) ds (length xs)) = ap (λ (z : ℕ). length (checks_code line z ds (length xs))) stride in omega (arith, k)
      by false t ih = check_faults (axis s d) xs (parts ns st) x BadIndex pc (short (length xs)) has.1 has.0 above (part_outside s d ds x l o few t)

  sum_is : (m n : ℕ) → m + n < 2 ^ 63 → value_of Add (pos m) (pos n) ≡ Ok (pos (m + n))
  sum_is m n h = ap (λ (b : Bool). if b then Ok (pos (m + n)) else Err Rattle.ast.specs.declared.fault.Fault.TheVariants.Overflow) (lt-ltb (m + n) (2 ^ 63) h)

  sums_run : (ns : List ℕ) (n : ℕ) (a : A) (pc : ℕ) (st : List ℤ) → n + total ns < 2 ^ 63 → Has pc (sums_code line (length ns)) → St a (frame (pc + length (sums_code line (length ns))) (pos (n + total ns) ∷ st)) → St (locals_into A S (length ns) a) (frame pc (pos n ∷ parts ns st))
  sums_run [] n a pc st h has next =
      let same : n + 0 ≡ n = omega arith in
      moved a (pc + 0) pc (pos n ∷ st) (omega arith) (subst (λ (k : ℕ). St a (frame (pc + 0) (pos k ∷ st))) same next)
  sums_run (m ∷ ns) n a pc st h has next =
      let fits : m + n < 2 ^ 63 = omega (arith, h) in
      let here : view code (frame pc (pos n ∷ pos m ∷ parts ns st)) ≡ doing (frame (pc + 1) (pos (m + n) ∷ parts ns st)) =
      seen code f (instr line (Binary Add)) pc (pos n ∷ pos m ∷ parts ns st) has.0
      ∙ ap (λ (r : Result ℤ Fault). shown (with_operands (answered r 2 (frame pc (pos n ∷ pos m ∷ parts ns st)).operands) line (frame pc (pos n ∷ pos m ∷ parts ns st)))) (sum_is m n fits) in
      let sum : n + (m + total ns) ≡ (m + n) + total ns = omega arith in
      let len : pc + 1 + length (sums_code line (length ns)) ≡ pc + length (sums_code line (length (m ∷ ns))) = omega arith in
      R.goes (locals_into A S (length ns) a) pc (pos n ∷ pos m ∷ parts ns st) (pos (m + n) ∷ parts ns st) here
      (sums_run ns (m + n) a (pc + 1) st (omega (arith, h)) has.2 (subst (λ (k : ℕ). St a (frame (pc + 1 + length (sums_code line (length ns))) (pos k ∷ st))) sum (subst (λ (k : ℕ). St a (frame k (pos (n + total (m ∷ ns)) ∷ st))) (sym len) next)))

  place_runs : (d : Extent) (ds : List Extent) (xs : List ℤ) (κ : ℕ → A) (pc : ℕ) (st : List ℤ) → Open (d ∷ ds) → elements (d ∷ ds) ≤ most_elements → length xs ≤ length (d ∷ ds) → length xs ≤ 2 ^ 32 → length st + 1 ≤ f.operands.room
      → Has pc (place_code line d ds (length xs))
      → ((n : ℕ) → n < elements (d ∷ ds) → St (κ n) (frame (pc + length (place_code line d ds (length xs))) (pos n ∷ st)))
      → St (place_into A S d ds xs κ) (frame pc (onto xs st))
  place_runs d ds [] κ pc st o few most short_enough room has next =
      R.goes (S.fails BadIndex) pc st (pos 0 ∷ st) (constant_seen code f (pos 0) line pc st has.0 (omega (arith, room))) (check_faults nowhere [] st (pos 0) BadIndex (pc + 1) 0 has.2.1 has.2.0 refl (part_nowhere (pos 0)))
  place_runs d ds (x ∷ xs) κ pc st o few most short_enough room has next =
      checks_run (d ∷ ds) (x ∷ xs) [] (locals_into A S (length ds) (at_place A S (place_of (d ∷ ds) (x ∷ xs)) κ)) 1 pc st (omega arith) o (omega (arith, few)) (omega arith) most short_enough
      (has_front code.instructions limit pc (checks_code line 1 (d ∷ ds) (length (x ∷ xs))) (sums_code line (length ds)) has)
      (λ n rs p q c. summed n rs p q c)
    where
      summed : (n : ℕ) (rs : List ℕ) → place_of (d ∷ ds) (x ∷ xs) ≡ Ok n → total rs ≡ 0 + 1 * n → length rs ≡ 0 + length (d ∷ ds)
          → St (locals_into A S (length ds) (at_place A S (place_of (d ∷ ds) (x ∷ xs)) κ)) (frame (pc + length (checks_code line 1 (d ∷ ds) (length (x ∷ xs)))) (parts rs st))
      summed n [] p q c = absurd (omega (arith, c))
      summed n (r ∷ rs) p q c =
          let below : n < elements (d ∷ ds) = place_below (d ∷ ds) (x ∷ xs) n o p in
          let many : length rs ≡ length ds = omega (arith, c) in
          let is : r + total rs ≡ n = omega (arith, q) in
          let len : pc + length (checks_code line 1 (d ∷ ds) (length (x ∷ xs))) + length (sums_code line (length ds)) ≡ pc + length ((checks_code line 1 (d ∷ ds) (length (x ∷ xs))) ++ sums_code line (length ds)) = omega (arith, length-append (checks_code line 1 (d ∷ ds) (length (x ∷ xs))) (sums_code line (length ds))) in
          let back : Has (pc + length (checks_code line 1 (d ∷ ds) (length (x ∷ xs)))) (sums_code line (length ds)) = has_back code.instructions limit pc (checks_code line 1 (d ∷ ds) (length (x ∷ xs))) (sums_code line (length ds)) has in
          let end : St (κ n) (frame (pc + length (checks_code line 1 (d ∷ ds) (length (x ∷ xs))) + length (sums_code line (length ds))) (pos n ∷ st)) = subst (λ (k : ℕ). St (κ n) (frame k (pos n ∷ st))) (sym len) (next n below) in
          let placed : St (at_place A S (place_of (d ∷ ds) (x ∷ xs)) κ) (frame (pc + length (checks_code line 1 (d ∷ ds) (length (x ∷ xs))) + length (sums_code line (length ds))) (pos n ∷ st)) = subst (λ (z : Result ℕ Fault). St (at_place A S z κ) (frame (pc + length (checks_code line 1 (d ∷ ds) (length (x ∷ xs))) + length (sums_code line (length ds))) (pos n ∷ st))) (sym p) end in
          let to : St (at_place A S (place_of (d ∷ ds) (x ∷ xs)) κ) (frame (pc + length (checks_code line 1 (d ∷ ds) (length (x ∷ xs))) + length (sums_code line (length rs))) (pos (r + total rs) ∷ st)) =
          subst (λ (k : ℕ). St (at_place A S (place_of (d ∷ ds) (x ∷ xs)) κ) (frame (pc + length (checks_code line 1 (d ∷ ds) (length (x ∷ xs))) + length (sums_code line k)) (pos (r + total rs) ∷ st))) (sym many)
          (subst (λ (k : ℕ). St (at_place A S (place_of (d ∷ ds) (x ∷ xs)) κ) (frame (pc + length (checks_code line 1 (d ∷ ds) (length (x ∷ xs))) + length (sums_code line (length ds))) (pos k ∷ st))) (sym is) placed) in
          subst (λ (k : ℕ). St (locals_into A S k (at_place A S (place_of (d ∷ ds) (x ∷ xs)) κ)) (frame (pc + length (checks_code line 1 (d ∷ ds) (length (x ∷ xs)))) (pos r ∷ parts rs st))) many
          (sums_run rs r (at_place A S (place_of (d ∷ ds) (x ∷ xs)) κ) (pc + length (checks_code line 1 (d ∷ ds) (length (x ∷ xs)))) st (omega (arith, is, below, few)) (subst (λ (k : ℕ). Has (pc + length (checks_code line 1 (d ∷ ds) (length (x ∷ xs)))) (sums_code line k)) (sym many) back) to)

  -- ---- variables

  module _ (p : Places) (privates : length p.privates ≤ length f.privates) (few_privates : length p.privates ≤ 2 ^ 32) (lines : p.line ≡ line) where
    pub scalar_runs : (r : Ref) (h : Home) (ds : List Extent) (κ : ℤ → A) (pc : ℕ) (st : List ℤ) → home p [] r.name ≡ h → Reach code.variables r ds → length st < f.operands.room → slice_get code.instructions pc ≡ Some (instr line (scalar_act h r.cell))
        → ((v : ℤ) → St (κ v) (frame (pc + 1) (v ∷ st))) → St (scalar_into A S h r κ) (frame pc st)
    scalar_runs r loop_index ds κ pc st e w room has next = R.indexes r κ pc st (index_seen code f line pc st has room) (next f.index)
    scalar_runs r (private_scalar x) ds κ pc st e w room has next =
        let below : x < length p.privates = private_below in
        let there = private_there f.privates x (omega (arith, below, privates)) in
        let number : short x ≡ x = short_is x (omega (arith, below, few_privates)) in
        let here : slice_get code.instructions pc ≡ Some (instr line (Private x)) = has ∙ ap (λ (k : ℕ). Some (instr line (Private k))) number in
        R.owns r x κ pc st there.0 there.1 (private_seen code f x there.0 line pc st here there.1 room) next
      where
        chosen : (b : Bool) (o : Option ℕ) → o ≡ number_in 0 r.name p.privates → (if b then loop_index else private_or_stored o) ≡ private_scalar x → x < length p.privates
        chosen true o h k = cc
        chosen false None h k = cc
        chosen false (Some y) h k =
            let is : y ≡ x = cc in
            let z = number_below 0 r.name p.privates y (sym h) in
            omega (arith, z, is)

        private_below : x < length p.privates
        private_below = chosen (is_loop_name p.loop_name r.name) (number_in 0 r.name p.privates) refl e
    scalar_runs r in_store ds κ pc st e w room has next =
        R.loads r (record { name = r.name; place = 0 }) κ pc st st
        (seen code f (instr line (Load (short r.cell))) pc st has
        ∙ ap (λ (b : Bool). if b then loading_if (cell_at (slice_get code.variables (short r.cell)) 0) 0 (frame pc st) else Rattle.machine.specs.View.stuck) (lt-ltb (length st) f.operands.room room)
        ∙ ap (λ (c : Option Cell). loading_if c 0 (frame pc st)) (cell_law code.variables r ds 0 w (some_elements ds)))
        next

    reached_runs : (r : Ref) (ds : List Extent) (xs : List ℤ) (κ : ℤ → A) (pc : ℕ) (st : List ℤ) → Reach code.variables r ds → length xs ≤ length ds → length xs ≤ 2 ^ 32 → length st + 1 ≤ f.operands.room
        → Has pc (reached_code p r ds (length xs)) → ((v : ℤ) → St (κ v) (frame (pc + length (reached_code p r ds (length xs))) (v ∷ st)))
        → St (reached_into A S p r ds xs κ) (frame pc (onto xs st))
    reached_runs r [] [] κ pc st w most short_enough room has next =
        scalar_runs r (home p [] r.name) [] κ pc st refl w (omega (arith, room)) (has.0 ∙ ap (λ (n : ℕ). Some (instr n (scalar_act (home p [] r.name) r.cell))) lines) next
    reached_runs r [] (x ∷ xs) κ pc st w most short_enough room has next = absurd (omega (arith, most))
    reached_runs r (d ∷ ds) xs κ pc st w most short_enough room has next =
        place_runs d ds xs (λ n. S.load r (record { name = r.name; place = n }) κ) pc st w.open_bounds w.few most short_enough room
        (subst (λ (k : ℕ). Has pc (place_code k d ds (length xs))) lines (has_front code.instructions limit pc (place_code p.line d ds (length xs)) (instr p.line (LoadElement (short r.cell)) ∷ []) has))
        (λ n below. loaded n below)
      where
        loaded : (n : ℕ) → n < elements (d ∷ ds) → St (S.load r (record { name = r.name; place = n }) κ) (frame (pc + length (place_code line d ds (length xs))) (pos n ∷ st))
        loaded n below =
            let same : pc + length (place_code p.line d ds (length xs)) ≡ pc + length (place_code line d ds (length xs)) = ap (λ (k : ℕ). pc + length (place_code k d ds (length xs))) lines in
            let back = has_back code.instructions limit pc (place_code p.line d ds (length xs)) (instr p.line (LoadElement (short r.cell)) ∷ []) has in
            let len : pc + length (place_code p.line d ds (length xs)) + 1 ≡ pc + length (reached_code p r (d ∷ ds) (length xs)) = omega (arith, length-append (place_code p.line d ds (length xs)) (instr p.line (LoadElement (short r.cell)) ∷ [])) in
            subst (λ (k : ℕ). St (S.load r (record { name = r.name; place = n }) κ) (frame k (pos n ∷ st))) same
            (R.loads r (record { name = r.name; place = n }) κ (pc + length (place_code p.line d ds (length xs))) (pos n ∷ st) st
            (seen code f (instr p.line (LoadElement (short r.cell))) (pc + length (place_code p.line d ds (length xs))) (pos n ∷ st) back.0
            ∙ ap (λ (c : Option Cell). loading_if c 1 (frame (pc + length (place_code p.line d ds (length xs))) (pos n ∷ st))) (cell_law code.variables r (d ∷ ds) n w below))
            (λ v. subst (λ (k : ℕ). St (κ v) (frame k (v ∷ st))) (sym len) (next v)))

    -- an instruction on two operands that makes one of them
    abbrev Chooses : Act → (ℤ → ℤ → ℤ) → Type 0
    Chooses act choice = (pc : ℕ) (a b : ℤ) (st : List ℤ) → slice_get code.instructions pc ≡ Some (instr line act) → view code (frame pc (b ∷ a ∷ st)) ≡ doing (frame (pc + 1) (choice a b ∷ st))

    greatest_chooses : Chooses Greatest greater
    greatest_chooses pc a b st h = seen code f (instr line Greatest) pc (b ∷ a ∷ st) h

    least_chooses : Chooses Least less
    least_chooses pc a b st h = seen code f (instr line Least) pc (b ∷ a ∷ st) h

    -- on line: what stands in the code of this statement
    on_line : (pc : ℕ) (act : Act) → slice_get code.instructions pc ≡ Some (instr p.line act) → slice_get code.instructions pc ≡ Some (instr line act)
    on_line pc act h = h ∙ ap (λ (n : ℕ). Some (instr n act)) lines

    constant_runs : (v : ℤ) (κ : ℤ → A) (pc : ℕ) (st : List ℤ) → Has pc (instr p.line (Constant v) ∷ []) → length st + 1 ≤ f.operands.room → ((u : ℤ) → St (κ u) (frame (pc + 1) (u ∷ st))) → St (S.local (κ v)) (frame pc st)
    constant_runs v κ pc st has room next = R.goes (κ v) pc st (v ∷ st) (constant_seen code f v line pc st (on_line pc (Constant v) has.0) (omega (arith, room))) (next v)

    just_cases : (n m : ℕ) → ((just n m ≡ n) × (m ≡ n)) ⊎ (just n m ≡ 0)
    just_cases n m = by (m == n) refl
      where
        by : (b : Bool) → (m == n) ≡ b → (((if b then n else 0) ≡ n) × (m ≡ n)) ⊎ ((if b then n else 0) ≡ 0)
        by true e = inl (refl, eqb-true m n e)
        by false e = inr refl

    modulo_runs : (m : ℕ) (xs : List ℤ) (κ : ℤ → A) (pc : ℕ) (st : List ℤ) → length xs ≡ fewer m (just 2 m) → Has pc (applied_to p.line Modulo (just 2 m)) → length st + 1 ≤ f.operands.room → ((v : ℤ) → St (κ v) (frame (pc + 1) (v ∷ st)))
        → St (answered_into A S (intrinsic_value Mod xs) κ) (frame pc (onto xs st))
    modulo_runs m xs κ pc st len has room next = by (just_cases 2 m)
      where
        some : (k : ℕ) → k ≡ 2 → length xs ≡ fewer m k → m ≡ 2 → Has pc (applied_to p.line Modulo k) → St (answered_into A S (intrinsic_value Mod xs) κ) (frame pc (onto xs st))
        some k e l i h =
            let two : length xs ≡ 2 = l ∙ ap (λ (z : ℕ). fewer z k) i ∙ ap (fewer 2) e in
            let x = two_left xs two in
            let here : Has pc (applied_to p.line Modulo 2) = subst (λ (z : ℕ). Has pc (applied_to p.line Modulo z)) e h in
            subst (λ (ys : List ℤ). St (answered_into A S (intrinsic_value Mod ys) κ) (frame pc (onto ys st))) (sym x.2)
            (answers (remainder x.0 x.1) 2 κ pc (x.1 ∷ x.0 ∷ st) here.1 (seen code f (instr line Modulo) pc (x.1 ∷ x.0 ∷ st) (on_line pc Modulo here.0)) next)

        nothing : (k : ℕ) → k ≡ 0 → length xs ≡ fewer m k → Has pc (applied_to p.line Modulo k) → St (answered_into A S (intrinsic_value Mod xs) κ) (frame pc (onto xs st))
        nothing k e l h =
            let empty : xs ≡ [] = none_left xs (l ∙ ap (fewer m) e ∙ fewer_none m) in
            subst (λ (ys : List ℤ). St (answered_into A S (intrinsic_value Mod ys) κ) (frame pc (onto ys st))) (sym empty)
            (constant_runs (pos 0) κ pc st (subst (λ (z : ℕ). Has pc (applied_to p.line Modulo z)) e h) room next)

        by : ((just 2 m ≡ 2) × (m ≡ 2)) ⊎ (just 2 m ≡ 0) → St (answered_into A S (intrinsic_value Mod xs) κ) (frame pc (onto xs st))
        by (inl h) = some (just 2 m) h.0 len h.1 has
        by (inr h) = nothing (just 2 m) h len has

    -- the same of ABS by either name
    absolute_runs : (g : Intrinsic) (m : ℕ) (xs : List ℤ) (κ : ℤ → A) (pc : ℕ) (st : List ℤ) → ((a : ℤ) → intrinsic_value g (a ∷ []) ≡ absolute a) → intrinsic_value g [] ≡ Ok (pos 0) → length xs ≡ fewer m (just 1 m) → Has pc (applied_to p.line Absolute (just 1 m)) → length st + 1 ≤ f.operands.room → ((v : ℤ) → St (κ v) (frame (pc + 1) (v ∷ st)))
        → St (answered_into A S (intrinsic_value g xs) κ) (frame pc (onto xs st))
    absolute_runs g m xs κ pc st one_is none_is len has room next = by (just_cases 1 m)
      where
        some : (k : ℕ) → k ≡ 1 → length xs ≡ fewer m k → m ≡ 1 → Has pc (applied_to p.line Absolute k) → St (answered_into A S (intrinsic_value g xs) κ) (frame pc (onto xs st))
        some k e l i h =
            let one : length xs ≡ 1 = l ∙ ap (λ (z : ℕ). fewer z k) i ∙ ap (fewer 1) e in
            let x = one_left xs one in
            let here : Has pc (applied_to p.line Absolute 1) = subst (λ (z : ℕ). Has pc (applied_to p.line Absolute z)) e h in
            subst (λ (ys : List ℤ). St (answered_into A S (intrinsic_value g ys) κ) (frame pc (onto ys st))) (sym x.1)
            (subst (λ (z : Result ℤ Fault). St (answered_into A S z κ) (frame pc (x.0 ∷ st))) (sym (one_is x.0))
            (answers (absolute x.0) 1 κ pc (x.0 ∷ st) here.1 (seen code f (instr line Absolute) pc (x.0 ∷ st) (on_line pc Absolute here.0)) next))

        nothing : (k : ℕ) → k ≡ 0 → length xs ≡ fewer m k → Has pc (applied_to p.line Absolute k) → St (answered_into A S (intrinsic_value g xs) κ) (frame pc (onto xs st))
        nothing k e l h =
            let empty : xs ≡ [] = none_left xs (l ∙ ap (fewer m) e ∙ fewer_none m) in
            subst (λ (ys : List ℤ). St (answered_into A S (intrinsic_value g ys) κ) (frame pc (onto ys st))) (sym empty)
            (subst (λ (z : Result ℤ Fault). St (answered_into A S z κ) (frame pc st)) (sym none_is)
            (constant_runs (pos 0) κ pc st (subst (λ (z : ℕ). Has pc (applied_to p.line Absolute z)) e h) room next))

        by : ((just 1 m ≡ 1) × (m ≡ 1)) ⊎ (just 1 m ≡ 0) → St (answered_into A S (intrinsic_value g xs) κ) (frame pc (onto xs st))
        by (inl h) = some (just 1 m) h.0 len h.1 has
        by (inr h) = nothing (just 1 m) h len has

    -- ---- expressions

    -- room for a part of what there is room for
    left_room : (n a b : ℕ) → n + max a b ≤ f.operands.room → n + a ≤ f.operands.room
    left_room n a b h = let k = le-max_left a b in omega (arith, h, k)

    right_room : (n a b : ℕ) → n + max a b ≤ f.operands.room → n + b ≤ f.operands.room
    right_room n a b h = let k = le-max_right a b in omega (arith, h, k)

    next_room : (n m : ℕ) → n + (m + 1) ≤ f.operands.room → suc n + m ≤ f.operands.room
    next_room n m h = omega (arith, h)

    less_room : (n m : ℕ) → n + (m + 1) ≤ f.operands.room → n + m ≤ f.operands.room
    less_room n m h = omega (arith, h)

    mutual
      pub term_runs : (e : Term) (κ : ℤ → A) (pc : ℕ) (st : List ℤ) → Reaches code p e → Has pc (term_code p e) → length st + operands e ≤ f.operands.room → ((v : ℤ) → St (κ v) (frame (pc + length (term_code p e)) (v ∷ st))) → St (term_into A S p e κ) (frame pc st)
      term_runs (constant n) κ pc st w has room next = constant_runs n κ pc st has room next
      term_runs (truth b) κ pc st w has room next = constant_runs (truth_value b) κ pc st has room next
      term_runs (parameter x n) κ pc st w has room next = constant_runs n κ pc st has room next
      term_runs (element r es) κ pc st w has room next =
          let ds = dimensions_at p.symbols r.cell in
          let n = pc + length (terms_code p es (length ds)) in
          terms_run es (length ds) (λ xs. reached_into A S p r ds xs κ) pc st w.2 (has_front code.instructions limit pc (terms_code p es (length ds)) (reached_code p r ds (fewer (count es) (length ds))) has) (right_room (length st) 1 (operands_kept es) room) (λ xs len.
          reached_runs r ds xs κ n st w.0 (most xs len) (enough xs len) (left_room (length st) 1 (operands_kept es) room)
          (subst (λ (k : ℕ). Has n (reached_code p r ds k)) (sym len) (has_back code.instructions limit pc (terms_code p es (length ds)) (reached_code p r ds (fewer (count es) (length ds))) has))
          (λ v. subst (λ (k : ℕ). St (κ v) (frame k (v ∷ st))) (far xs len) (next v)))
        where
          most : (xs : List ℤ) → length xs ≡ fewer (count es) (length (dimensions_at p.symbols r.cell)) → length xs ≤ length (dimensions_at p.symbols r.cell)
          most xs len = omega (arith, len, fewer_below (count es) (length (dimensions_at p.symbols r.cell)))

          enough : (xs : List ℤ) → length xs ≡ fewer (count es) (length (dimensions_at p.symbols r.cell)) → length xs ≤ 2 ^ 32
          enough xs len = omega (arith, len, fewer_first (count es) (length (dimensions_at p.symbols r.cell)), w.1)

          far : (xs : List ℤ) → length xs ≡ fewer (count es) (length (dimensions_at p.symbols r.cell)) → pc + length (term_code p (element r es)) ≡ pc + length (terms_code p es (length (dimensions_at p.symbols r.cell))) + length (reached_code p r (dimensions_at p.symbols r.cell) (length xs))
          far xs len =
              let same : length (reached_code p r (dimensions_at p.symbols r.cell) (length xs)) ≡ length (reached_code p r (dimensions_at p.symbols r.cell) (fewer (count es) (length (dimensions_at p.symbols r.cell)))) = ap (λ (k : ℕ). length (reached_code p r (dimensions_at p.symbols r.cell) k)) len in
              omega (arith, same, length-append (terms_code p es (length (dimensions_at p.symbols r.cell))) (reached_code p r (dimensions_at p.symbols r.cell) (fewer (count es) (length (dimensions_at p.symbols r.cell)))))
      term_runs (call Mod es) κ pc st w has room next =
          let n = just 2 (count es) in
          let last = applied_to p.line Modulo n in
          let len : pc + length (terms_code p es n ++ last) ≡ pc + length (terms_code p es n) + 1 = omega (arith, length-append (terms_code p es n) last) in
          terms_run es n (λ xs. answered_into A S (intrinsic_value Mod xs) κ) pc st w (has_front code.instructions limit pc (terms_code p es n) last has) (right_room (length st) 1 (operands_kept es) room) (λ xs many.
          modulo_runs (count es) xs κ (pc + length (terms_code p es n)) st many (has_back code.instructions limit pc (terms_code p es n) last has) (left_room (length st) 1 (operands_kept es) room) (λ v. subst (λ (k : ℕ). St (κ v) (frame k (v ∷ st))) len (next v)))
      term_runs (call Abs es) κ pc st w has room next =
          let n = just 1 (count es) in
          let last = applied_to p.line Absolute n in
          let len : pc + length (terms_code p es n ++ last) ≡ pc + length (terms_code p es n) + 1 = omega (arith, length-append (terms_code p es n) last) in
          terms_run es n (λ xs. answered_into A S (intrinsic_value Abs xs) κ) pc st w (has_front code.instructions limit pc (terms_code p es n) last has) (right_room (length st) 1 (operands_kept es) room) (λ xs many.
          absolute_runs Abs (count es) xs κ (pc + length (terms_code p es n)) st (λ a. refl) refl many (has_back code.instructions limit pc (terms_code p es n) last has) (left_room (length st) 1 (operands_kept es) room) (λ v. subst (λ (k : ℕ). St (κ v) (frame k (v ∷ st))) len (next v)))
      term_runs (call Iabs es) κ pc st w has room next =
          let n = just 1 (count es) in
          let last = applied_to p.line Absolute n in
          let len : pc + length (terms_code p es n ++ last) ≡ pc + length (terms_code p es n) + 1 = omega (arith, length-append (terms_code p es n) last) in
          terms_run es n (λ xs. answered_into A S (intrinsic_value Iabs xs) κ) pc st w (has_front code.instructions limit pc (terms_code p es n) last has) (right_room (length st) 1 (operands_kept es) room) (λ xs many.
          absolute_runs Iabs (count es) xs κ (pc + length (terms_code p es n)) st (λ a. refl) refl many (has_back code.instructions limit pc (terms_code p es n) last has) (left_room (length st) 1 (operands_kept es) room) (λ v. subst (λ (k : ℕ). St (κ v) (frame k (v ∷ st))) len (next v)))
      term_runs (call Max es) κ pc st w has room next = chosen_runs es Greatest greater κ pc st greatest_chooses w has room next
      term_runs (call Max0 es) κ pc st w has room next = chosen_runs es Greatest greater κ pc st greatest_chooses w has room next
      term_runs (call Min es) κ pc st w has room next = chosen_runs es Least less κ pc st least_chooses w has room next
      term_runs (call Min0 es) κ pc st w has room next = chosen_runs es Least less κ pc st least_chooses w has room next
      term_runs (parentheses e) κ pc st w has room next = term_runs e κ pc st w has room next
      term_runs (unary o e) κ pc st w has room next =
          let last = instr p.line (Unary o) ∷ [] in
          let back = has_back code.instructions limit pc (term_code p e) last has in
          let len : pc + length (term_code p e ++ last) ≡ pc + length (term_code p e) + 1 = omega (arith, length-append (term_code p e) last) in
          term_runs e (λ a. answered_into A S (prefixed_value o a) κ) pc st w (has_front code.instructions limit pc (term_code p e) last has) room (λ a.
          unary_answers o a κ (pc + length (term_code p e)) st back.1 (on_line (pc + length (term_code p e)) (Unary o) back.0) (λ v. subst (λ (k : ℕ). St (κ v) (frame k (v ∷ st))) len (next v)))
      term_runs (binary o a b) κ pc st w has room next =
          let last = instr p.line (Binary o) ∷ [] in
          let n = pc + length (term_code p a) in
          let rest = has_back code.instructions limit pc (term_code p a) (term_code p b ++ last) has in
          let back = has_back code.instructions limit n (term_code p b) last rest in
          let len : pc + length (term_code p a ++ (term_code p b ++ last)) ≡ n + length (term_code p b) + 1 = omega (arith, length-append (term_code p a) (term_code p b ++ last), length-append (term_code p b) last) in
          term_runs a (λ u. term_into A S p b (λ v. answered_into A S (value_of o u v) κ)) pc st w.0 (has_front code.instructions limit pc (term_code p a) (term_code p b ++ last) has) (left_room (length st) (operands a) (operands b + 1) room) (λ u.
          term_runs b (λ v. answered_into A S (value_of o u v) κ) n (u ∷ st) w.1 (has_front code.instructions limit n (term_code p b) last rest) (next_room (length st) (operands b) (right_room (length st) (operands a) (operands b + 1) room)) (λ v.
          binary_answers o u v κ (n + length (term_code p b)) st back.1 (on_line (n + length (term_code p b)) (Binary o) back.0) (λ x. subst (λ (k : ℕ). St (κ x) (frame k (x ∷ st))) len (next x))))

      pub terms_run : (es : Terms) (n : ℕ) (κ : List ℤ → A) (pc : ℕ) (st : List ℤ) → AllReach code p es → Has pc (terms_code p es n) → length st + operands_kept es ≤ f.operands.room
          → ((xs : List ℤ) → length xs ≡ fewer (count es) n → St (κ xs) (frame (pc + length (terms_code p es n)) (onto xs st))) → St (terms_into A S p es n κ) (frame pc st)
      terms_run no_terms n κ pc st w has room next = moved (κ []) (pc + 0) pc st (omega arith) (next [] refl)
      terms_run (then_term e es) zero κ pc st w has room next =
          let last = instr p.line dropping ∷ terms_code p es zero in
          let n = pc + length (term_code p e) in
          let rest = has_back code.instructions limit pc (term_code p e) last has in
          let len : pc + length (term_code p e ++ last) ≡ n + 1 + length (terms_code p es zero) = omega (arith, length-append (term_code p e) last) in
          term_runs e (λ x. S.local (terms_into A S p es zero κ)) pc st w.0 (has_front code.instructions limit pc (term_code p e) last has) (left_room (length st) (operands e) (operands_kept es + 1) room) (λ v.
          R.goes (terms_into A S p es zero κ) n (v ∷ st) st (dropped_seen code f v line n st (on_line n dropping rest.0))
          (terms_run es zero κ (n + 1) st w.1 rest.2 (less_room (length st) (operands_kept es) (right_room (length st) (operands e) (operands_kept es + 1) room)) (λ xs many. subst (λ (k : ℕ). St (κ xs) (frame k (onto xs st))) len (next xs (many ∙ fewer_none (count es))))))
      terms_run (then_term e es) (suc m) κ pc st w has room next =
          let n = pc + length (term_code p e) in
          let rest = has_back code.instructions limit pc (term_code p e) (terms_code p es m) has in
          let len : pc + length (term_code p e ++ terms_code p es m) ≡ n + length (terms_code p es m) = omega (arith, length-append (term_code p e) (terms_code p es m)) in
          term_runs e (λ x. terms_into A S p es m (λ xs. κ (x ∷ xs))) pc st w.0 (has_front code.instructions limit pc (term_code p e) (terms_code p es m) has) (left_room (length st) (operands e) (operands_kept es + 1) room) (λ x.
          terms_run es m (λ xs. κ (x ∷ xs)) n (x ∷ st) w.1 rest (next_room (length st) (operands_kept es) (right_room (length st) (operands e) (operands_kept es + 1) room)) (λ xs many.
          subst (λ (k : ℕ). St (κ (x ∷ xs)) (frame k (onto xs (x ∷ st)))) len (next (x ∷ xs) (ap suc many))))

      pub chosen_runs : (es : Terms) (act : Act) (choice : ℤ → ℤ → ℤ) (κ : ℤ → A) (pc : ℕ) (st : List ℤ) → Chooses act choice → AllReach code p es → Has pc (chosen_code p es act) → length st + operands_chosen es ≤ f.operands.room
          → ((v : ℤ) → St (κ v) (frame (pc + length (chosen_code p es act)) (v ∷ st))) → St (chosen_into A S p es choice κ) (frame pc st)
      chosen_runs no_terms act choice κ pc st sees w has room next = constant_runs (pos 0) κ pc st has room next
      chosen_runs (then_term e es) act choice κ pc st sees w has room next =
          let n = pc + length (term_code p e) in
          let rest = has_back code.instructions limit pc (term_code p e) (further_code p es act) has in
          let len : pc + length (term_code p e ++ further_code p es act) ≡ n + length (further_code p es act) = omega (arith, length-append (term_code p e) (further_code p es act)) in
          term_runs e (λ x. further_into A S p es choice x κ) pc st w.0 (has_front code.instructions limit pc (term_code p e) (further_code p es act) has) (left_room (length st) (operands e) (operands_further es) room) (λ x.
          further_run es act choice x κ n st sees w.1 rest (right_room (length st) (operands e) (operands_further es) room) (λ v. subst (λ (k : ℕ). St (κ v) (frame k (v ∷ st))) len (next v)))

      pub further_run : (es : Terms) (act : Act) (choice : ℤ → ℤ → ℤ) (best : ℤ) (κ : ℤ → A) (pc : ℕ) (st : List ℤ) → Chooses act choice → AllReach code p es → Has pc (further_code p es act) → length st + operands_further es ≤ f.operands.room
          → ((v : ℤ) → St (κ v) (frame (pc + length (further_code p es act)) (v ∷ st))) → St (further_into A S p es choice best κ) (frame pc (best ∷ st))
      further_run no_terms act choice best κ pc st sees w has room next = moved (κ best) (pc + 0) pc (best ∷ st) (omega arith) (next best)
      further_run (then_term e es) act choice best κ pc st sees w has room next =
          let last = instr p.line act ∷ further_code p es act in
          let n = pc + length (term_code p e) in
          let rest = has_back code.instructions limit pc (term_code p e) last has in
          let len : pc + length (term_code p e ++ last) ≡ n + 1 + length (further_code p es act) = omega (arith, length-append (term_code p e) last) in
          term_runs e (λ x. S.local (further_into A S p es choice (choice best x) κ)) pc (best ∷ st) w.0 (has_front code.instructions limit pc (term_code p e) last has) (next_room (length st) (operands e) (left_room (length st) (operands e + 1) (operands_further es) room)) (λ x.
          R.goes (further_into A S p es choice (choice best x) κ) n (x ∷ best ∷ st) (choice best x ∷ st) (sees n best x st (on_line n act rest.0))
          (further_run es act choice (choice best x) κ (n + 1) st sees w.1 rest.2 (right_room (length st) (operands e + 1) (operands_further es) room) (λ v. subst (λ (k : ℕ). St (κ v) (frame k (v ∷ st))) len (next v))))

    located_run : (ds : List Extent) (xs : List ℤ) (κ : ℕ → A) (pc : ℕ) (st : List ℤ) → Open ds → elements ds ≤ most_elements → length xs ≤ length ds → length xs ≤ 2 ^ 32 → length st + 1 ≤ f.operands.room
        → Has pc (located_code p.line ds (length xs)) → ((n : ℕ) → n < elements ds → St (κ n) (frame (pc + length (located_code p.line ds (length xs))) (with_place ds n st)))
        → St (located_into A S ds xs κ) (frame pc (onto xs st))
    located_run [] [] κ pc st o few most short_enough room has next = moved (κ 0) (pc + 0) pc st (omega arith) (next 0 (omega arith))
    located_run [] (x ∷ xs) κ pc st o few most short_enough room has next = absurd (omega (arith, most))
    located_run (d ∷ ds) xs κ pc st o few most short_enough room has next =
        place_runs d ds xs κ pc st o few most short_enough room (subst (λ (k : ℕ). Has pc (place_code k d ds (length xs))) lines has)
        (λ n below. subst (λ (k : ℕ). St (κ n) (frame (pc + length (place_code k d ds (length xs))) (pos n ∷ st))) lines (next n below))

    -- the code of the place of a variable that is given a value
    pub target_runs : (r : Ref) (es : Terms) (κ : ℕ → A) (pc : ℕ) (st : List ℤ) → Reaches code p (element r es) → Has pc (target_code p r es) → length st + operands (element r es) ≤ f.operands.room
        → ((n : ℕ) → n < elements (dimensions_at p.symbols r.cell) → St (κ n) (frame (pc + length (target_code p r es)) (with_place (dimensions_at p.symbols r.cell) n st))) → St (target_into A S p r es κ) (frame pc st)
    target_runs r es κ pc st w has room next =
        let ds = dimensions_at p.symbols r.cell in
        let n = pc + length (terms_code p es (length ds)) in
        terms_run es (length ds) (λ xs. located_into A S ds xs κ) pc st w.2 (has_front code.instructions limit pc (terms_code p es (length ds)) (located_code p.line ds (fewer (count es) (length ds))) has) (right_room (length st) 1 (operands_kept es) room) (λ xs len.
        located_run ds xs κ n st w.0.open_bounds w.0.few (most xs len) (enough xs len) (left_room (length st) 1 (operands_kept es) room)
        (subst (λ (k : ℕ). Has n (located_code p.line ds k)) (sym len) (has_back code.instructions limit pc (terms_code p es (length ds)) (located_code p.line ds (fewer (count es) (length ds))) has))
        (λ m below. subst (λ (k : ℕ). St (κ m) (frame k (with_place ds m st))) (far xs len) (next m below)))
      where
        most : (xs : List ℤ) → length xs ≡ fewer (count es) (length (dimensions_at p.symbols r.cell)) → length xs ≤ length (dimensions_at p.symbols r.cell)
        most xs len = omega (arith, len, fewer_below (count es) (length (dimensions_at p.symbols r.cell)))

        enough : (xs : List ℤ) → length xs ≡ fewer (count es) (length (dimensions_at p.symbols r.cell)) → length xs ≤ 2 ^ 32
        enough xs len = omega (arith, len, fewer_first (count es) (length (dimensions_at p.symbols r.cell)), w.1)

        far : (xs : List ℤ) → length xs ≡ fewer (count es) (length (dimensions_at p.symbols r.cell)) → pc + length (target_code p r es) ≡ pc + length (terms_code p es (length (dimensions_at p.symbols r.cell))) + length (located_code p.line (dimensions_at p.symbols r.cell) (length xs))
        far xs len =
            let same : length (located_code p.line (dimensions_at p.symbols r.cell) (length xs)) ≡ length (located_code p.line (dimensions_at p.symbols r.cell) (fewer (count es) (length (dimensions_at p.symbols r.cell)))) = ap (λ (k : ℕ). length (located_code p.line (dimensions_at p.symbols r.cell) k)) len in
            omega (arith, same, length-append (terms_code p es (length (dimensions_at p.symbols r.cell))) (located_code p.line (dimensions_at p.symbols r.cell) (fewer (count es) (length (dimensions_at p.symbols r.cell)))))
