-- References of one cell are all that a reference is to be judged with.
use Rattle.std.proofs.Common.{◌≡◌, ◌∙◌, ◌==◌, ℕ, Bool, true, false, ◌&&◌, ◌||◌, List, [], ◌∷◌, Option, Some, None, slice_get, ap, refl, sym}
use Rattle.std.specs.Prelude.{if◌then◌else◌}
use Rattle.std.specs.List.{list_all}
use Rattle.std.proofs.lemmas.Bool.{and_from, and_parts}
use Rattle.ast.specs.Store.{same_name}
use Rattle.ast.specs.Tree.{Ref}
use Rattle.ast.proofs.Lists.{all_right, all_weaker}
use Rattle.dependence.specs.declared.relation.Relation.{Relation}
use Rattle.loop_tree.specs.Loops.{Loop}
use Rattle.loop_tree.specs.Occurrences.{Occurrence}
use Rattle.loop_tree.specs.Told.{are_told, iff, is_told, known, references}
use Rattle.plan_check.specs.Entries.{entries_by}
use Rattle.plan_check.specs.Grouping.{at_cell, cell_of, chosen, row_at, with_chosen, with_groups, with_optional, with_places}
use Rattle.plan_check.specs.Judging.{Entry, Verdict, by_claim, is_own, with_all, with_entry, with_pair, with_partners}
use Rattle.plan_check.specs.Walking.{Note}

-- what holds of all references holds of those of entries
of_entries : (f : Ref → Bool) (l : Loop) (os : List Occurrence) (ns : List Note) → list_all f (references os) ≡ true → list_all (λ (e : Entry). f e.occurrence.ref) (entries_by l os ns) ≡ true
of_entries f l [] ns h = refl
of_entries f l (o ∷ os) [] h = refl
of_entries f l (o ∷ os) (n ∷ ns) h =
    let q = and_parts (f o.ref) (list_all f (references os)) h in
    and_from (f o.ref) (list_all (λ (e : Entry). f e.occurrence.ref) (entries_by l os ns)) q.0 (of_entries f l os ns q.1)

-- the cells of entries tell whether their names are the same
abbrev AreTold : List Entry → List Entry → Type 0
AreTold xs ys = list_all (λ (x : Entry). list_all (λ (y : Entry). is_told x.occurrence.ref y.occurrence.ref) ys) xs ≡ true

pub entries_told : (l : Loop) (ns : List Note) → are_told (known l) ≡ true → AreTold (entries_by l l.references ns) (entries_by l l.references ns)
entries_told l ns h =
    let rs = l.head.variable ∷ l.assigned in
    let some = all_right (λ (r : Ref). list_all (λ (s : Ref). is_told r s) (known l)) rs (references l.references) h in
    of_entries (λ (r : Ref). list_all (λ (y : Entry). is_told r y.occurrence.ref) (entries_by l l.references ns)) l l.references ns
    (all_weaker (λ (r : Ref). list_all (λ (s : Ref). is_told r s) (known l)) (λ (r : Ref). list_all (λ (y : Entry). is_told r y.occurrence.ref) (entries_by l l.references ns)) (references l.references)
    (λ r k. of_entries (λ (s : Ref). is_told r s) l l.references ns (all_right (λ (s : Ref). is_told r s) rs (references l.references) k)) some)

module _ (l : Loop) (events : List ℕ) (claim : ℕ → ℕ → Option Relation) where
  -- references of other cells aren't judged
  no_pair : (x y : Entry) (v : Verdict) → is_told x.occurrence.ref y.occurrence.ref ≡ true → (cell_of x == cell_of y) ≡ false → with_pair l events claim x y v ≡ v
  no_pair x y v t e = by (same_name x.occurrence.ref.name y.occurrence.ref.name) (sym (ap (λ b. iff b (same_name x.occurrence.ref.name y.occurrence.ref.name)) e) ∙ t)
    where
      by : (b : Bool) → iff false b ≡ true → (if b && (x.occurrence.defines || y.occurrence.defines) then by_claim l events claim x y (claim x.occurrence.ref.id y.occurrence.ref.id) v else v) ≡ v
      by true h = cc
      by false h = refl

  of_cell : (x : Entry) (ys : List Entry) (v : Verdict) → list_all (λ (y : Entry). is_told x.occurrence.ref y.occurrence.ref) ys ≡ true
      → with_partners l events claim x (at_cell true (cell_of x) ys) v ≡ with_partners l events claim x ys v
  of_cell x [] v h = refl
  of_cell x (y ∷ ys) v h = by (cell_of x == cell_of y) refl (λ w k. of_cell x ys w k)
    where
      told : (is_told x.occurrence.ref y.occurrence.ref ≡ true) × (list_all (λ (y : Entry). is_told x.occurrence.ref y.occurrence.ref) ys ≡ true)
      told = and_parts (is_told x.occurrence.ref y.occurrence.ref) (list_all (λ (y : Entry). is_told x.occurrence.ref y.occurrence.ref) ys) h

      by : (b : Bool) → (cell_of x == cell_of y) ≡ b
          → ((w : Verdict) → list_all (λ (y : Entry). is_told x.occurrence.ref y.occurrence.ref) ys ≡ true → with_partners l events claim x (at_cell true (cell_of x) ys) w ≡ with_partners l events claim x ys w)
          → with_partners l events claim x (if b then y ∷ at_cell true (cell_of x) ys else at_cell true (cell_of x) ys) v ≡ with_partners l events claim x ys (with_pair l events claim x y v)
      by true e rest = rest (with_pair l events claim x y v) told.1
      by false e rest = rest v told.1 ∙ ap (λ (w : Verdict). with_partners l events claim x ys w) (sym (no_pair x y v told.0 e))

  of_places : (x : Entry) (es : List Entry) (ns : List ℕ) (v : Verdict) → with_places l events claim x es ns v ≡ with_partners l events claim x (chosen es ns) v
  of_places x es [] v = refl
  of_places x es (n ∷ ns) v = by (slice_get es n) (λ w. of_places x es ns w)
    where
      by : (o : Option Entry) → ((w : Verdict) → with_places l events claim x es ns w ≡ with_partners l events claim x (chosen es ns) w)
          → with_places l events claim x es ns (with_optional l events claim x o v) ≡ with_partners l events claim x (with_chosen o (chosen es ns)) v
      by None h = h v
      by (Some y) h = h (with_pair l events claim x y v)

  -- two that only use their variables are no pair
  no_value : (x y : Entry) (v : Verdict) → x.occurrence.defines ≡ false → y.occurrence.defines ≡ false → with_pair l events claim x y v ≡ v
  no_value x y v e f =
      ap (λ (a : Bool). if same_name x.occurrence.ref.name y.occurrence.ref.name && (a || y.occurrence.defines) then by_claim l events claim x y (claim x.occurrence.ref.id y.occurrence.ref.id) v else v) e
      ∙ ap (λ (a : Bool). if same_name x.occurrence.ref.name y.occurrence.ref.name && a then by_claim l events claim x y (claim x.occurrence.ref.id y.occurrence.ref.id) v else v) f
      ∙ by (same_name x.occurrence.ref.name y.occurrence.ref.name)
    where
      by : (b : Bool) → (if b && false then by_claim l events claim x y (claim x.occurrence.ref.id y.occurrence.ref.id) v else v) ≡ v
      by true = refl
      by false = refl

  of_defining : (x : Entry) (ys : List Entry) (v : Verdict) → x.occurrence.defines ≡ false → list_all (λ (y : Entry). is_told x.occurrence.ref y.occurrence.ref) ys ≡ true
      → with_partners l events claim x (at_cell false (cell_of x) ys) v ≡ with_partners l events claim x ys v
  of_defining x [] v e h = refl
  of_defining x (y ∷ ys) v e h = by y.occurrence.defines (cell_of x == cell_of y) refl refl (λ w k. of_defining x ys w e k)
    where
      told : (is_told x.occurrence.ref y.occurrence.ref ≡ true) × (list_all (λ (y : Entry). is_told x.occurrence.ref y.occurrence.ref) ys ≡ true)
      told = and_parts (is_told x.occurrence.ref y.occurrence.ref) (list_all (λ (y : Entry). is_told x.occurrence.ref y.occurrence.ref) ys) h

      by : (d b : Bool) → y.occurrence.defines ≡ d → (cell_of x == cell_of y) ≡ b
          → ((w : Verdict) → list_all (λ (y : Entry). is_told x.occurrence.ref y.occurrence.ref) ys ≡ true → with_partners l events claim x (at_cell false (cell_of x) ys) w ≡ with_partners l events claim x ys w)
          → with_partners l events claim x (if d && b then y ∷ at_cell false (cell_of x) ys else at_cell false (cell_of x) ys) v ≡ with_partners l events claim x ys (with_pair l events claim x y v)
      by true true f g rest = rest (with_pair l events claim x y v) told.1
      by true false f g rest = rest v told.1 ∙ ap (λ (w : Verdict). with_partners l events claim x ys w) (sym (no_pair x y v told.0 g))
      by false b f g rest = rest v told.1 ∙ ap (λ (w : Verdict). with_partners l events claim x ys w) (sym (no_value x y v e f))

  pub by_groups : (privates : List (List ℕ)) (all defining : List (List ℕ)) (xs es : List Entry) (v : Verdict) → AreTold xs es → ((c : ℕ) → chosen es (row_at all c) ≡ at_cell true c es) → ((c : ℕ) → chosen es (row_at defining c) ≡ at_cell false c es)
      → with_groups l events claim privates all defining es xs v ≡ with_all l events claim privates xs es v
  by_groups privates all defining [] es v t r d = refl
  by_groups privates all defining (x ∷ xs) es v t r d =
      let q = and_parts (list_all (λ (y : Entry). is_told x.occurrence.ref y.occurrence.ref) es) (list_all (λ (x : Entry). list_all (λ (y : Entry). is_told x.occurrence.ref y.occurrence.ref) es) xs) t in
      ap (λ (w : Verdict). with_groups l events claim privates all defining es xs w) (same (is_own l privates x.occurrence) x.occurrence.defines refl q.0)
      ∙ by_groups privates all defining xs es (with_entry l events claim privates x es v) q.1 r d
    where
      same : (b f : Bool) → x.occurrence.defines ≡ f → list_all (λ (y : Entry). is_told x.occurrence.ref y.occurrence.ref) es ≡ true
          → (if b then v else with_places l events claim x es (if f then row_at all (cell_of x) else row_at defining (cell_of x)) v) ≡ (if b then v else with_partners l events claim x es v)
      same true f e h = refl
      same false true e h = of_places x es (row_at all (cell_of x)) v ∙ ap (λ (zs : List Entry). with_partners l events claim x zs v) (r (cell_of x)) ∙ of_cell x es v h
      same false false e h = of_places x es (row_at defining (cell_of x)) v ∙ ap (λ (zs : List Entry). with_partners l events claim x zs v) (d (cell_of x)) ∙ of_defining x es v e h
