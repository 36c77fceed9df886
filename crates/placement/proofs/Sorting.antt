-- What is kept, sorted, each once.
use Rattle.std.proofs.Common.{◌≡◌, ◌∙◌, inl, inr, ℕ, Bool, true, false, ◌&&◌, ◌||◌, List, [], ◌∷◌, map, refl, ap, sym, subst, if◌then◌else◌}
use Rattle.std.specs.Prelude.{◌==◌, ◌↔◌, nat_lt}
use Rattle.std.specs.Cmp.{IsEquivalence, IsTotalOrder}
use Rattle.std.specs.List.{Contains, dedup}
use Rattle.std.specs.List.Sorted.{IsPermutation, IsSorted, IsStrictlySortedBy}
use Rattle.std.specs.Ordering.{eq_by_cmp, is_eq, nat_cmp, ordering_then}
use Rattle.std.specs.declared.cmp.Ordering.{Ordering}
use Rattle.std.specs.declared.cmp.Ordering.TheVariants.{Less, Equal, Greater}
use Rattle.std.proofs.lemmas.Bool.{and_from, eqb-true}
use Rattle.std.proofs.lemmas.Cmp.{nat_cmp_total, on_total, then_total, eq_by_cmp_equiv}
use Rattle.std.proofs.lemmas.List.Kept.{Contains-dedup, Contains-from_dedup, IsStrictlySortedBy-dedup}
use Rattle.std.proofs.lemmas.List.Sorted.{Contains-permutation, IsPermutation-sym}
use Rattle.placement.specs.Analysed.{Triple, are_sorted, precedes, triple}
use Rattle.placement.specs.declared.analysis.Kept.{Kept}
use Rattle.plan_check.proofs.Members.{In, among, contained}
use Rattle.plan_check.proofs.Sound.{in_map}

abbrev pub order : Kept → Kept → Ordering
order x y = ordering_then (nat_cmp x.sink y.sink) (ordering_then (nat_cmp x.source y.source) (nat_cmp x.distance y.distance))

total : IsTotalOrder order
total = then_total (on_total (λ k. k.sink) nat_cmp_total) (then_total (on_total (λ k. k.source) nat_cmp_total) (on_total (λ k. k.distance) nat_cmp_total))

-- ---- the order of triples

choice : Bool → Bool → Ordering
choice true q = Less
choice false true = Equal
choice false false = Greater

by_choice : (x y : ℕ) → nat_cmp x y ≡ choice (nat_lt x y) (x == y)
unfolding choice
by_choice x y = by (nat_lt x y) (x == y)
  where
    by : (p q : Bool) → (if p then Less else if q then Equal else Greater) ≡ choice p q
    by true q = refl
    by false true = refl
    by false false = refl

less_then : (p q r : Bool) (rest : Ordering) → (rest ≡ Less → r ≡ true) → ordering_then (choice p q) rest ≡ Less → (p || (q && r)) ≡ true
unfolding choice
less_then true q r rest h e = refl
less_then false true r rest h e = h e
less_then false false r rest h e = cc

less_last : (p q : Bool) → choice p q ≡ Less → p ≡ true
unfolding choice
less_last true q e = refl
less_last false true e = cc
less_last false false e = cc

less_precedes : (x y : Kept) → order x y ≡ Less → precedes (triple x) (triple y) ≡ true
less_precedes x y e =
    less_then (nat_lt x.sink y.sink) (x.sink == y.sink) _ (ordering_then (nat_cmp x.source y.source) (nat_cmp x.distance y.distance))
    (λ f. less_then (nat_lt x.source y.source) (x.source == y.source) _ (nat_cmp x.distance y.distance)
    (λ g. less_last (nat_lt x.distance y.distance) (x.distance == y.distance) (sym (by_choice x.distance y.distance) ∙ g))
    (sym (ap (λ (o : Ordering). ordering_then o (nat_cmp x.distance y.distance)) (by_choice x.source y.source)) ∙ f))
    (sym (ap (λ (o : Ordering). ordering_then o (ordering_then (nat_cmp x.source y.source) (nat_cmp x.distance y.distance))) (by_choice x.sink y.sink)) ∙ e)

strictly : (xs : List Kept) → IsStrictlySortedBy order xs → are_sorted (map triple xs) ≡ true
unfolding IsStrictlySortedBy
strictly [] h = refl
strictly (x ∷ []) h = refl
strictly (x ∷ y ∷ xs) h = and_from (precedes (triple x) (triple y)) (are_sorted (map triple (y ∷ xs))) (less_precedes x y h.0.0) (strictly (y ∷ xs) h.1)

-- ---- equal ones

both_equal : (a b : Ordering) → is_eq (ordering_then a b) ≡ true → (is_eq a ≡ true) × (is_eq b ≡ true)
both_equal Less b h = cc
both_equal Equal b h = (refl, h)
both_equal Greater b h = cc

equal_is : (x y : ℕ) → is_eq (nat_cmp x y) ≡ true → x ≡ y
unfolding choice
equal_is x y h = eqb-true x y (by (nat_lt x y) (x == y) (sym (ap is_eq (by_choice x y)) ∙ h))
  where
    by : (p q : Bool) → is_eq (choice p q) ≡ true → q ≡ true
    by true q e = cc
    by false true e = refl
    by false false e = cc

one_kept : (x y : Kept) → eq_by_cmp order x y ≡ true → x ≡ y
one_kept x y h =
    let a = both_equal (nat_cmp x.sink y.sink) (ordering_then (nat_cmp x.source y.source) (nat_cmp x.distance y.distance)) h in
    let b = both_equal (nat_cmp x.source y.source) (nat_cmp x.distance y.distance) a.1 in
    let make : ℕ → ℕ → ℕ → Kept = λ s t d. record { sink = s; source = t; distance = d } in
    ap (λ (s : ℕ). make s x.source x.distance) (equal_is x.sink y.sink a.0)
    ∙ ap (λ (s : ℕ). make y.sink s x.distance) (equal_is x.source y.source b.0)
    ∙ ap (λ (s : ℕ). make y.sink y.source s) (equal_is x.distance y.distance b.1)

-- ---- in lists

in_triples : (xs : List Kept) (k : Triple) → In k (map triple xs) → (x : Kept) × In x xs × (k ≡ triple x)
in_triples [] k i = absurd i
in_triples (x ∷ xs) k (inl e) = (x, inl refl, e)
in_triples (x ∷ xs) k (inr i) = let g = in_triples xs k i in (g.0, inr g.1, g.2)

moved : (xs ys : List Kept) → ((x : Kept) → Contains xs x → Contains ys x) → (k : Triple) → Contains (map triple xs) k → Contains (map triple ys) k
moved xs ys h k c =
    let g = in_triples xs k (among k (map triple xs) c) in
    subst (λ (t : Triple). Contains (map triple ys) t) (sym g.2)
    (contained (triple g.0) (map triple ys) (in_map triple g.0 ys (among g.0 ys (h g.0 (contained g.0 xs g.1)))))

module _ (E : Kept → Kept → Bool) (ties : (x y : Kept) → E x y ≡ eq_by_cmp order x y) where
  pub in_order : (xs ys : List Kept) → IsSorted order xs → ys ≡ dedup E xs → are_sorted (map triple ys) ≡ true
  in_order xs ys h is = subst (λ (zs : List Kept). are_sorted (map triple zs) ≡ true) (sym is) (strictly (dedup E xs) (IsStrictlySortedBy-dedup total ties xs h))

  kept_in : (xs : List Kept) (x : Kept) → Contains xs x → Contains (dedup E xs) x
  kept_in xs x c = Contains-dedup same (λ a b e. one_kept a b (sym (ties a b) ∙ e)) xs x c
    where
      same : IsEquivalence E
      same = let o = eq_by_cmp_equiv total in record {
        refl = λ a. ties a a ∙ o.refl a;
        symm = λ a b. ties a b ∙ o.symm a b ∙ sym (ties b a);
        congr = λ a b d e. ties a d ∙ o.congr a b d (sym (ties a b) ∙ e) ∙ sym (ties b d);
      }

  pub same_triples : (xs ys zs : List Kept) → IsPermutation xs ys → zs ≡ dedup E ys → (k : Triple) → Contains (map triple zs) k ↔ Contains (map triple xs) k
  same_triples xs ys zs p is k = (
      (λ c. moved zs xs (λ x d. Contains-permutation ys xs x (IsPermutation-sym xs ys p) (Contains-from_dedup E ys x (subst (λ (ws : List Kept). Contains ws x) is d))) k c),
      (λ c. moved xs zs (λ x d. subst (λ (ws : List Kept). Contains ws x) (sym is) (kept_in ys x (Contains-permutation xs ys x p d))) k c))
