-- Instructions that stand in code one after another, and frames at them.
use Rattle.std.proofs.Common.{◌≡◌, ◌∙◌, ◌<◌, ◌≤◌, ◌+◌, ℕ, suc, Bool, true, false, List, [], ◌∷◌, ◌++◌, Option, Some, None, length, refl, sym, ap, subst, arith, length-append, append_assoc}
use Rattle.std.specs.Prelude.{ℤ, slice_get, slice_set, if◌then◌else◌}
use Rattle.std.proofs.lemmas.Bool.{lt-ltb}
use Rattle.ast.specs.Exact.{is_true}
use Rattle.machine.specs.Code.{Code}
use Rattle.machine.specs.Frame.{Frame, with_items}
use Rattle.machine.specs.Local.{defined, if_pushed, pushed, skipping, without}
use Rattle.machine.specs.View.{View, doing, doing_if, view, instr_view, act_view}
use Rattle.machine.specs.declared.code.Open.{Open}
use Rattle.machine.specs.declared.instr.Act.TheVariants.{Constant, Private, Index, SkipUnless}
use Rattle.machine.specs.declared.instr.Instr.{Instr}
use Rattle.expr_code.specs.Emitted.{instr}

-- The instructions stand in code at this place, and before a limit.
abbrev pub HasAt : List Instr → ℕ → ℕ → List Instr → Type 0
HasAt code limit pc [] = Unit {0}
HasAt code limit pc (i ∷ is) = (slice_get code pc ≡ Some i) × (pc < limit) × HasAt code limit (pc + 1) is

pub has_front : (code : List Instr) (limit pc : ℕ) (a b : List Instr) → HasAt code limit pc (a ++ b) → HasAt code limit pc a
has_front code limit pc [] b h = tt
has_front code limit pc (i ∷ a) b h = (h.0, h.1, has_front code limit (pc + 1) a b h.2)

pub has_back : (code : List Instr) (limit pc : ℕ) (a b : List Instr) → HasAt code limit pc (a ++ b) → HasAt code limit (pc + length a) b
has_back code limit pc [] b h = let e : pc ≡ pc + 0 = omega arith in subst (λ (n : ℕ). HasAt code limit n b) e h
has_back code limit pc (i ∷ a) b h =
    let e : pc + 1 + length a ≡ pc + length (i ∷ a) = omega arith in
    subst (λ (n : ℕ). HasAt code limit n b) e (has_back code limit (pc + 1) a b h.2)

seam : (before after : List Instr) (i : Instr) → slice_get (before ++ (i ∷ after)) (length before) ≡ Some i
seam [] after i = refl
seam (j ∷ before) after i = seam before after i

pub has_here : (before is after : List Instr) (limit : ℕ) → length before + length is ≤ limit → HasAt (before ++ (is ++ after)) limit (length before) is
has_here before [] after limit h = tt
has_here before (i ∷ is) after limit h =
    let one : before ++ (i ∷ (is ++ after)) ≡ (before ++ (i ∷ [])) ++ (is ++ after) = sym (append_assoc before (i ∷ []) (is ++ after)) in
    let count : length (before ++ (i ∷ [])) ≡ length before + 1 = length-append before (i ∷ []) in
    let rest : HasAt ((before ++ (i ∷ [])) ++ (is ++ after)) limit (length (before ++ (i ∷ []))) is = has_here (before ++ (i ∷ [])) is after limit (omega (arith, h, count)) in
    let near : length before < limit = omega (arith, h) in
    (seam before (is ++ after) i, near, subst (λ (n : ℕ). HasAt (before ++ (i ∷ (is ++ after))) limit n is) count (subst (λ (c : List Instr). HasAt c limit (length (before ++ (i ∷ []))) is) (sym one) rest))

-- values pushed one after another
abbrev pub onto : List ℤ → List ℤ → List ℤ
onto [] b = b
onto (x ∷ xs) b = onto xs (x ∷ b)

pub get_onto : (xs b : List ℤ) (n i : ℕ) → n ≡ length xs + i → slice_get (onto xs b) n ≡ slice_get b i
get_onto [] b n i h = let e : n ≡ i = omega (arith, h) in ap (slice_get b) e
get_onto (x ∷ xs) b n i h = get_onto xs (x ∷ b) n (suc i) (omega (arith, h))

pub set_onto : (xs b : List ℤ) (n i : ℕ) (v : ℤ) → n ≡ length xs + i → slice_set (onto xs b) n v ≡ onto xs (slice_set b i v)
set_onto [] b n i v h = let e : n ≡ i = omega (arith, h) in ap (λ (k : ℕ). slice_set b k v) e
set_onto (x ∷ xs) b n i v h = set_onto xs (x ∷ b) n (suc i) v (omega (arith, h))

module _ (code : Code) (f : Frame) where
  -- the frame at another place, without a fault, with these operands
  abbrev pub at : ℕ → List ℤ → Frame
  at pc st = record f { place = pc; operands = with_items st f.operands; fault = None }

  pub seen : (i : Instr) (pc : ℕ) (st : List ℤ) → slice_get code.instructions pc ≡ Some i → view code (at pc st) ≡ act_view code i.act i.line (at pc st)
  seen i pc st h = ap (λ (o : Option Instr). instr_view code o (at pc st)) h

  pushed_law : (v : ℤ) (pc : ℕ) (st : List ℤ) → length st < f.operands.room → doing_if (if_pushed (pushed v (at pc st).operands) (at pc st)) ≡ doing (at (pc + 1) (v ∷ st))
  pushed_law v pc st h = ap (λ (b : Bool). doing_if (if_pushed (if b then Some (with_items (v ∷ st) f.operands) else None) (at pc st))) (lt-ltb (length st) f.operands.room h)

  pub constant_seen : (v : ℤ) (line pc : ℕ) (st : List ℤ) → slice_get code.instructions pc ≡ Some (instr line (Constant v)) → length st < f.operands.room → view code (at pc st) ≡ doing (at (pc + 1) (v ∷ st))
  constant_seen v line pc st h r = seen (instr line (Constant v)) pc st h ∙ pushed_law v pc st r

  pub index_seen : (line pc : ℕ) (st : List ℤ) → slice_get code.instructions pc ≡ Some (instr line Index) → length st < f.operands.room → view code (at pc st) ≡ doing (at (pc + 1) (f.index ∷ st))
  index_seen line pc st h r = seen (instr line Index) pc st h ∙ pushed_law f.index pc st r

  pub private_seen : (x : ℕ) (o : Option ℤ) (line pc : ℕ) (st : List ℤ) → slice_get code.instructions pc ≡ Some (instr line (Private x)) → slice_get f.privates x ≡ Some o → length st < f.operands.room → view code (at pc st) ≡ doing (at (pc + 1) (defined o ∷ st))
  private_seen x o line pc st h e r =
      seen (instr line (Private x)) pc st h
      ∙ ap (λ (p : Option (Option ℤ)). doing_if (Rattle.machine.specs.Local.private_pushed p (at pc st))) e
      ∙ pushed_law (defined o) pc st r

  pub dropped_seen : (v : ℤ) (line pc : ℕ) (st : List ℤ) → slice_get code.instructions pc ≡ Some (instr line (SkipUnless 0)) → view code (at pc (v ∷ st)) ≡ doing (at (pc + 1) st)
  dropped_seen v line pc st h = seen (instr line (SkipUnless 0)) pc (v ∷ st) h ∙ by (is_true v)
    where
      there : pc + 1 + 0 ≡ pc + 1
      there = omega arith

      by : (b : Bool) → ◌≡◌ {A = View Frame Open} (doing (record (skipping (if b then 0 else 0) (at pc (v ∷ st))) { operands = without 1 (at pc (v ∷ st)).operands })) (doing (at (pc + 1) st))
      by true = ap (λ (n : ℕ). doing (at n st)) there
      by false = ap (λ (n : ℕ). doing (at n st)) there
