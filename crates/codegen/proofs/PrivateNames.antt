-- The private names of a plan, none of which is given twice: there are no more of them than the
-- program has symbols.
use Rattle.std.proofs.Common.{◌≡◌, ◌∙◌, ◌<◌, ◌≤◌, inl, inr, ℕ, zero, suc, Bool, true, false, List, [], ◌∷◌, map, length, get_or, refl, sym, ap, subst, arith, Option, Some, None}
use Rattle.std.specs.Prelude.{◌==◌, ◌||◌, slice_get}
use Rattle.std.specs.List.{AllByRecursion, IsDistinct, list_any}
use Rattle.std.proofs.lemmas.Bool.{eqb-true, or_parts}
use Rattle.std.proofs.lemmas.Map.Steps.{length-le_from_distinct_below}
use Rattle.std.proofs.lemmas.Option.{slice_get_within}
use Rattle.ast.specs.Program.{is_placed, is_variable_named}
use Rattle.ast.specs.Store.{same_name}
use Rattle.ast.specs.Symbols.{Symbol, names_of}
use Rattle.ast.specs.Tree.{Ref}
use Rattle.ast.proofs.SameNames.{same_itself}
use Rattle.loop_tree.specs.Loops.{has_cell}
use Rattle.placement.proofs.AssignedOnce.{Apart, unlike}
use Rattle.plan_check.proofs.Members.{In}
use Rattle.codegen.proofs.RangeSound.{same_names}

-- ---- how many they are

abbrev Cells : List Ref → List ℕ
Cells rs = map (λ (r : Ref). r.cell) rs

cells_distinct : (rs : List Ref) → Apart rs → IsDistinct (λ m n. m == n) (Cells rs)
unfolding IsDistinct
cells_distinct [] a = tt
cells_distinct (r ∷ rs) a = (others rs a.0, cells_distinct rs a.1)
  where
    others : (qs : List Ref) → has_cell r.cell qs ≡ false → AllByRecursion (λ n. (r.cell == n) ≡ false) (Cells qs)
    others [] h = tt
    others (q ∷ qs) h = let k = or_parts (q.cell == r.cell) (has_cell r.cell qs) h in (unlike q.cell r.cell k.0, others qs k.1)

placed_within : (symbols : List Symbol) (r : Ref) → is_placed symbols r ≡ true → r.cell < length symbols
placed_within symbols r h = by (slice_get symbols r.cell) refl h
  where
    by : (o : Option Symbol) → slice_get symbols r.cell ≡ o → is_variable_named r.name o ≡ true → r.cell < length symbols
    by None e k = cc
    by (Some s) e k = slice_get_within symbols r.cell s e

cell_of : (rs : List Ref) (c : ℕ) → list_any (λ n. c == n) (Cells rs) ≡ true → (r : Ref) × In r rs × (r.cell ≡ c)
cell_of [] c h = cc
cell_of (r ∷ rs) c h = by (c == r.cell) refl (λ k. cell_of rs c k) h
  where
    by : (b : Bool) → (c == r.cell) ≡ b → (list_any (λ n. c == n) (Cells rs) ≡ true → (q : Ref) × In q rs × (q.cell ≡ c)) → (b || list_any (λ n. c == n) (Cells rs)) ≡ true → (q : Ref) × In q (r ∷ rs) × (q.cell ≡ c)
    by true e more k = (r, inl refl, sym (eqb-true c r.cell e))
    by false e more k = let g = more k in (g.0, inr g.1, g.2)

lengths : (rs : List Ref) → length (Cells rs) ≡ length rs
lengths [] = refl
lengths (r ∷ rs) = ap suc (lengths rs)

names_long : (rs : List Ref) → length (map (λ (r : Ref). r.name) rs) ≡ length rs
names_long [] = refl
names_long (r ∷ rs) = ap suc (names_long rs)

-- scalars at places of symbols are no more than these
pub few_scalars : (symbols : List Symbol) (rs : List Ref) → Apart rs → ((r : Ref) → In r rs → is_placed symbols r ≡ true) → length (map (λ (r : Ref). r.name) rs) ≤ length symbols
few_scalars symbols rs a placed =
    let k = length-le_from_distinct_below (Cells rs) (length symbols) (cells_distinct rs a)
    (λ c h. let g = cell_of rs c h in subst (λ (n : ℕ). n < length symbols) g.2 (placed_within symbols g.0 (placed g.0 g.1))) in
    let l = lengths rs in
    let m = names_long rs in
    omega (arith, k, l, m)

-- ---- scalars of names that stand once

abbrev Placed : List Symbol → List Ref → Type 0
Placed symbols given = (r : Ref) → In r given → is_placed symbols r ≡ true

-- among some scalars, those of names
pub record HasScalars (given : List Ref) (ns : List (List ℕ)) : Type 0 where
  pub scalars : List Ref
  pub named : map (λ (r : Ref). r.name) scalars ≡ ns
  pub apart : Apart scalars
  pub among : (r : Ref) → In r scalars → In r given

alone : (symbols : List Symbol) → IsDistinct same_name (names_of symbols) → (given : List Ref) → Placed symbols given → (r : Ref) (n : List ℕ) (qs : List Ref) → r.name ≡ n → In r given → ((q : Ref) → In q qs → In q given)
    → AllByRecursion (λ m. same_name n m ≡ false) (map (λ (q : Ref). q.name) qs) → has_cell r.cell qs ≡ false
alone symbols distinct given placed r n [] e i among a = refl
alone symbols distinct given placed r n (q ∷ qs) e i among a = by (q.cell == r.cell) refl (alone symbols distinct given placed r n qs e i (λ p j. among p (inr j)) a.1)
  where
    by : (b : Bool) → (q.cell == r.cell) ≡ b → has_cell r.cell qs ≡ false → (b || has_cell r.cell qs) ≡ false
    by true c more =
        let z : q.name ≡ r.name = same_names symbols distinct q r (placed q (among q (inl refl))) (placed r i) (eqb-true q.cell r.cell c) in
        let y : same_name n q.name ≡ true = subst (λ (m : List ℕ). same_name n m ≡ true) (sym (z ∙ e)) (same_itself n) in
        let x : true ≡ false = sym y ∙ a.0 in cc
    by false c more = more

pub scalars_of : (symbols : List Symbol) → IsDistinct same_name (names_of symbols) → (given : List Ref) → Placed symbols given → (ns : List (List ℕ)) → IsDistinct same_name ns
    → ((n : List ℕ) → In n ns → (r : Ref) × In r given × (r.name ≡ n)) → HasScalars given ns
unfolding IsDistinct
scalars_of symbols distinct given placed [] d has = record { scalars = []; named = refl; apart = tt; among = λ r i. absurd i }
scalars_of symbols distinct given placed (n ∷ ns) d has = by (has n (inl refl)) (scalars_of symbols distinct given placed ns d.1 (λ m i. has m (inr i))) d.0
  where
    by : (r : Ref) × In r given × (r.name ≡ n) → HasScalars given ns → AllByRecursion (λ m. same_name n m ≡ false) ns → HasScalars given (n ∷ ns)
    by g more a = record {
      scalars = g.0 ∷ more.scalars;
      named = ap (λ (m : List ℕ). m ∷ map (λ (r : Ref). r.name) more.scalars) g.2 ∙ ap (λ (ms : List (List ℕ)). n ∷ ms) more.named;
      apart = (alone symbols distinct given placed g.0 n more.scalars g.2 g.1 more.among (subst (λ (ms : List (List ℕ)). AllByRecursion (λ m. same_name n m ≡ false) ms) (sym more.named) a), more.apart);
      among = λ r i. one r i;
    }
      where
        one : (r : Ref) → In r (g.0 ∷ more.scalars) → In r given
        one r (inl e) = subst (λ (q : Ref). In q given) (sym e) g.1
        one r (inr i) = more.among r i

-- ---- their places

differs_at : (n : List ℕ) (ns : List (List ℕ)) (j : ℕ) → AllByRecursion (λ m. same_name n m ≡ false) ns → j < length ns → n ≡ get_or ns j [] → ⊥
differs_at n [] j a h e = absurd (omega (arith, h))
differs_at n (m ∷ ns) zero a h e =
    let y : same_name n m ≡ true = subst (λ (z : List ℕ). same_name n z ≡ true) e (same_itself n) in
    let x : true ≡ false = sym y ∙ a.0 in cc
differs_at n (m ∷ ns) (suc j) a h e = differs_at n ns j a.1 (omega (arith, h)) e

-- of names of which none is given twice each stands at one place
pub names_once : (ns : List (List ℕ)) → IsDistinct same_name ns → (i j : ℕ) → i < length ns → j < length ns → get_or ns i [] ≡ get_or ns j [] → i ≡ j
unfolding IsDistinct
names_once [] d i j h k e = absurd (omega (arith, h))
names_once (n ∷ ns) d zero zero h k e = refl
names_once (n ∷ ns) d zero (suc j) h k e = absurd (differs_at n ns j d.0 (omega (arith, k)) e)
names_once (n ∷ ns) d (suc i) zero h k e = absurd (differs_at n ns i d.0 (omega (arith, h)) (sym e))
names_once (n ∷ ns) d (suc i) (suc j) h k e = ap suc (names_once ns d.1 i j (omega (arith, h)) (omega (arith, k)) e)
