-- Of a loop's references those with private names are those of private scalars.
use Rattle.std.proofs.Common.{◌≡◌, ◌∙◌, ◌+◌, inr, ℕ, Bool, true, false, List, None, ap, refl, sym, subst}
use Rattle.std.specs.Prelude.{◌==◌}
use Rattle.std.specs.List.{list_all}
use Rattle.std.proofs.lemmas.Bool.{eqb-true}
use Rattle.ast.specs.Store.{same_name}
use Rattle.ast.specs.Tree.{Ref}
use Rattle.ast.proofs.SameNames.{same_is}
use Rattle.dependence.specs.Kept.{block_variables}
use Rattle.loop_tree.specs.Loops.{IsWhole, Loop}
use Rattle.loop_tree.specs.Occurrences.{Occurrence}
use Rattle.loop_tree.specs.Private.{Private}
use Rattle.loop_tree.specs.Told.{are_told, iff, is_told, known, references}
use Rattle.placement.proofs.Privates.{name_of, scalar_of}
use Rattle.placement.proofs.Variables.{block_shows}
use Rattle.plan_check.proofs.Members.{In, in_left, in_right, all_in}
use Rattle.plan_check.proofs.Sound.{any_in, in_any, in_map, is_same, told_same}
use Rattle.plan_check.specs.Checking.{has_name}
use Rattle.privatise.specs.Privates.{ArePrivate}

pub one_cell : (rs : List Ref) (q r : Ref) → are_told rs ≡ true → In q rs → In r rs → q.name ≡ r.name → q.cell ≡ r.cell
one_cell rs q r h i j e =
    let row = all_in (λ (x : Ref). list_all (λ (s : Ref). is_told x s) rs) rs q h i in
    let one = all_in (λ (s : Ref). is_told q s) rs r row j in
    eqb-true q.cell r.cell (by (q.cell == r.cell) (same_name q.name r.name) one (is_same q.name r.name e))
  where
    by : (a b : Bool) → iff a b ≡ true → b ≡ true → a ≡ true
    by true b h e = refl
    by false true h e = cc
    by false false h e = cc

module _ (l : Loop) where
  pub known_reference : (o : Occurrence) → In o l.references → In o.ref (known l)
  known_reference o i = inr (in_right o.ref l.assigned (references l.references) (in_map (λ (x : Occurrence). x.ref) o l.references i))

  pub known_scalar : (r : Ref) → In r l.assigned → In r (known l)
  known_scalar r i = inr (in_left r l.assigned (references l.references) i)

  -- the variable of a loop inside
  pub known_variable : IsWhole l → (r : Ref) → In r (block_variables l.body) → In r (known l)
  known_variable whole r i =
      let s = block_shows None 0 0 (l.statement + 1) l.body r i in
      let at = ap (λ (m : Loop). m.references) whole in
      subst (λ (q : Ref). In q (known l)) s.2 (known_reference s.0 (subst (λ (os : List Occurrence). In s.0 os) (sym at) s.1))

module _ (l : Loop) (names : List (List ℕ)) (told : are_told (known l) ≡ true) (privates : ArePrivate l names) where
  pub has_private : (name : List ℕ) → In name names → has_name names name ≡ true
  has_private name i = in_any (λ (x : List ℕ). same_name x name) names name i (is_same name name refl)

  -- a reference whose cell is private has a private name
  pub private_cell : (r : Ref) → In r (known l) → Private l r.cell → has_name names r.name ≡ true
  private_cell r i v =
      let q = any_in (λ (x : Ref). x.cell == r.cell) l.assigned v.assigned in
      let c = eqb-true q.0.cell r.cell q.2 in
      let name = told_same (known l) q.0 r told (known_scalar l q.0 q.1) i c in
      has_private r.name (subst (λ (x : List ℕ). In x names) name (name_of l names privates q.0 q.1 (subst (λ (x : ℕ). Private l x) (sym c) v)))

  -- and one with a private name has a private cell
  pub private_name : (r : Ref) → In r (known l) → has_name names r.name ≡ true → Private l r.cell
  private_name r i h =
      let x = any_in (λ (y : List ℕ). same_name y r.name) names h in
      let q = scalar_of l names privates x.0 x.1 in
      let c = one_cell (known l) q.0 r told (known_scalar l q.0 q.1) i (q.2 ∙ same_is x.0 r.name x.2) in
      subst (λ (y : ℕ). Private l y) c q.3
