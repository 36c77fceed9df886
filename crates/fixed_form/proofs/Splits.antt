-- Two places in one list.
use Rattle.std.proofs.Common.{◌≡◌, ◌⊎◌, List, [], ◌∷◌, ◌++◌, refl, sym, ap, subst, inl, inr}

-- Two cuts of a list are at one place, or one of them is in the other's front.
pub record AreOne {X : Type 0} (a c : List X) (x y : X) : Type 0 where
  pub fronts : a ≡ c
  pub items : x ≡ y

pub record IsEarlier {X : Type 0} (a c : List X) (x : X) : Type 0 where
  pub between : List X
  pub longer : c ≡ a ++ x ∷ between

abbrev pub Places : {X : Type 0} → List X → List X → X → X → Type 0
Places a c x y = AreOne a c x y ⊎ (IsEarlier a c x ⊎ IsEarlier c a y)

further : {X : Type 0} (z : X) (a c : List X) (x y : X) → Places a c x y → Places (z ∷ a) (z ∷ c) x y
further z a c x y (inl s) = inl (record { fronts = ap (λ l. z ∷ l) s.fronts; items = s.items })
further z a c x y (inr (inl s)) = inr (inl (record { between = s.between; longer = ap (λ l. z ∷ l) s.longer }))
further z a c x y (inr (inr s)) = inr (inr (record { between = s.between; longer = ap (λ l. z ∷ l) s.longer }))

pub heads : {X : Type 0} (z w : X) (a c : List X) → z ∷ a ≡ w ∷ c → (z ≡ w) × (a ≡ c)
heads z w a c e = (cc, cc)

pub places : {X : Type 0} (a b c d : List X) (x y : X) → a ++ x ∷ b ≡ c ++ y ∷ d → Places a c x y
places [] b [] d x y e = inl (record { fronts = refl; items = (heads x y b d e).0 })
places [] b (z ∷ c) d x y e = inr (inl (record { between = c; longer = ap (λ w. w ∷ c) (sym (heads x z b (c ++ y ∷ d) e).0) }))
places (w ∷ a) b [] d x y e = inr (inr (record { between = a; longer = ap (λ z. z ∷ a) (heads w y (a ++ x ∷ b) d e).0 }))
places (w ∷ a) b (z ∷ c) d x y e =
    let h = heads w z (a ++ x ∷ b) (c ++ y ∷ d) e in
    subst (λ v. Places (w ∷ a) (v ∷ c) x y) h.0 (further w a c x y (places a b c d x y h.1))
