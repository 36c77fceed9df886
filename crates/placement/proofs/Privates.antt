-- The names of the private scalars.
use Rattle.std.proofs.Common.{◌≡◌, inl, inr, ℕ, List, [], ◌∷◌, map, refl, ap, sym, subst, ⊎_elim}
use Rattle.ast.specs.Tree.{Ref}
use Rattle.loop_tree.specs.Loops.{Loop}
use Rattle.loop_tree.specs.Private.{Private}
use Rattle.plan_check.proofs.Members.{In}
use Rattle.privatise.specs.Privates.{ArePrivate, Picked}

pub picked_in : (P : Ref → Type 0) (rs ps : List Ref) → Picked P rs ps → (r : Ref) → In r ps → In r rs × P r
picked_in P [] ps e r i = absurd (subst (λ (z : List Ref). In r z) e i)
picked_in P (x ∷ rs) ps (inl h) r i =
    ⊎_elim
    (λ e. (inl e, subst P (sym e) h.0))
    (λ j. let g = picked_in P rs h.1 h.3 r j in (inr g.0, g.1))
    (subst (λ (z : List Ref). In r z) h.2 i)
picked_in P (x ∷ rs) ps (inr h) r i = let g = picked_in P rs ps h.1 r i in (inr g.0, g.1)

in_picked : (P : Ref → Type 0) (rs ps : List Ref) → Picked P rs ps → (r : Ref) → In r rs → P r → In r ps
in_picked P [] ps e r i k = absurd i
in_picked P (x ∷ rs) ps (inl h) r i k = subst (λ (z : List Ref). In r z) (sym h.2) (⊎_elim (λ e. inl e) (λ j. inr (in_picked P rs h.1 h.3 r j k)) i)
in_picked P (x ∷ rs) ps (inr h) r (inl e) k = absurd (h.0 (subst P e k))
in_picked P (x ∷ rs) ps (inr h) r (inr i) k = in_picked P rs ps h.1 r i k

in_names : (rs : List Ref) (r : Ref) → In r rs → In r.name (map (λ (q : Ref). q.name) rs)
in_names [] r i = absurd i
in_names (x ∷ rs) r (inl e) = inl (ap (λ (q : Ref). q.name) e)
in_names (x ∷ rs) r (inr i) = inr (in_names rs r i)

names_in : (rs : List Ref) (n : List ℕ) → In n (map (λ (q : Ref). q.name) rs) → (r : Ref) × In r rs × (r.name ≡ n)
names_in [] n i = absurd i
names_in (x ∷ rs) n (inl e) = (x, inl refl, sym e)
names_in (x ∷ rs) n (inr i) = let g = names_in rs n i in (g.0, inr g.1, g.2)

pub scalar_of : (l : Loop) (names : List (List ℕ)) → ArePrivate l names → (n : List ℕ) → In n names → (r : Ref) × In r l.assigned × (r.name ≡ n) × Private l r.cell
scalar_of l names a n i =
    let g = names_in a.scalars n (subst (λ (z : List (List ℕ)). In n z) a.named i) in
    let p = picked_in (λ r. Private l r.cell) l.assigned a.scalars a.picked g.0 g.1 in
    (g.0, p.0, g.2, p.1)

pub name_of : (l : Loop) (names : List (List ℕ)) → ArePrivate l names → (r : Ref) → In r l.assigned → Private l r.cell → In r.name names
name_of l names a r i p = subst (λ (z : List (List ℕ)). In r.name z) (sym a.named) (in_names a.scalars r (in_picked (λ q. Private l q.cell) l.assigned a.scalars a.picked r i p))
