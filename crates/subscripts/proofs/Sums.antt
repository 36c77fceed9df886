-- Sums of shares.
use Rattle.std.proofs.Common.{◌≡◌, ◌∙◌, ap, sym, refl, ℕ, List, [], ◌∷◌, map, arith, true≢false}
use Rattle.std.proofs.lemmas.Int.{ints}
use Rattle.std.proofs.lemmas.Bool.Decides.{Decides-int_eq, Decides-eqb}
use Rattle.std.proofs.Math.IntN.{zero-*ℤ, *ℤ-zero}
use Rattle.std.specs.Prelude.{ℤ, pos, ◌+ℤ◌, ◌*ℤ◌, ◌++◌, ◌==◌, ◌||◌, not, Bool, true, false, if◌then◌else◌, filter, ⊤}
use Rattle.std.specs.Ordering.{int_eq}
use Rattle.subscripts.specs.Proper.{Once}
use Rattle.subscripts.specs.Forms.{Share, factor_in, has_share, is_nonzero, nonzero, new_share, others, times_share, total, total_share, total_shares}
use Rattle.subscripts.specs.Values.{sum_of}
use Rattle.subscripts.proofs.Products.{times_sum, times_difference, sum_times, times_assoc}

-- ---- each scalar once

-- what a test keeps has no cell that the whole lacks
kept_lacks : (p : Share → Bool) (c : ℕ) (ss : List Share) → has_share c ss ≡ false → has_share c (filter p ss) ≡ false
kept_lacks p c [] h = refl
kept_lacks p c (s ∷ ss) h = by (s.cell == c) (p s) refl h (λ k. kept_lacks p c ss k)
  where
    by : (b k : Bool) → (s.cell == c) ≡ b → (b || has_share c ss) ≡ false → (has_share c ss ≡ false → has_share c (filter p ss) ≡ false)
        → has_share c (if k then s ∷ filter p ss else filter p ss) ≡ false
    by true k e h more = absurd (true≢false h)
    by false true e h more = ap (λ (x : Bool). x || has_share c (filter p ss)) e ∙ more h
    by false false e h more = more h

pub once_kept : (p : Share → Bool) (ss : List Share) → Once ss → Once (filter p ss)
once_kept p [] h = tt
once_kept p (s ∷ ss) h = by (p s) (once_kept p ss h.1)
  where
    by : (k : Bool) → Once (filter p ss) → Once (if k then s ∷ filter p ss else filter p ss)
    by true more = (kept_lacks p s.cell ss h.0, more)
    by false more = more

-- a change of factors keeps the cells
same_cells : (f : Share → Share) → ((s : Share) → (f s).cell ≡ s.cell) → (c : ℕ) (ss : List Share) → has_share c (map f ss) ≡ has_share c ss
same_cells f e c [] = refl
same_cells f e c (s ∷ ss) = ap (λ (n : ℕ). (n == c) || has_share c (map f ss)) (e s) ∙ ap (λ (x : Bool). (s.cell == c) || x) (same_cells f e c ss)

once_changed : (f : Share → Share) → ((s : Share) → (f s).cell ≡ s.cell) → (ss : List Share) → Once ss → Once (map f ss)
once_changed f e [] h = tt
once_changed f e (s ∷ ss) h = (same_cells f e (f s).cell ss ∙ ap (λ c. has_share c ss) (e s) ∙ h.0, once_changed f e ss h.1)

-- no scalar of the second is in the first
abbrev Apart : List Share → List Share → Type 0
Apart us [] = ⊤
Apart us (v ∷ vs) = (has_share v.cell us ≡ false) × Apart us vs

either_lacks : (c : ℕ) (us vs : List Share) → has_share c us ≡ false → has_share c vs ≡ false → has_share c (us ++ vs) ≡ false
either_lacks c [] vs h k = k
either_lacks c (u ∷ us) vs h k = by (u.cell == c) h (λ g. either_lacks c us vs g k)
  where
    by : (b : Bool) → (b || has_share c us) ≡ false → (has_share c us ≡ false → has_share c (us ++ vs) ≡ false) → (b || has_share c (us ++ vs)) ≡ false
    by true h more = absurd (true≢false h)
    by false h more = more h

-- a cell that isn't the first's
apart_first : (u : Share) (us vs : List Share) → Apart (u ∷ us) vs → has_share u.cell vs ≡ false
apart_first u us [] h = refl
apart_first u us (v ∷ vs) h = by (u.cell == v.cell) (v.cell == u.cell) (λ e. (Decides-eqb u.cell v.cell).1 (sym ((Decides-eqb v.cell u.cell).0 e))) refl refl h.0 (apart_first u us vs h.1)
  where
    by : (b d : Bool) → ((v.cell == u.cell) ≡ true → (u.cell == v.cell) ≡ true) → (u.cell == v.cell) ≡ b → (v.cell == u.cell) ≡ d → (b || has_share v.cell us) ≡ false → has_share u.cell vs ≡ false → (d || has_share u.cell vs) ≡ false
    by true d f e g h more = absurd (true≢false h)
    by false true f e g h more = absurd (true≢false (sym (f g) ∙ e))
    by false false f e g h more = more

apart_rest : (u : Share) (us vs : List Share) → Apart (u ∷ us) vs → Apart us vs
apart_rest u us [] h = tt
apart_rest u us (v ∷ vs) h = (by (u.cell == v.cell) h.0, apart_rest u us vs h.1)
  where
    by : (b : Bool) → (b || has_share v.cell us) ≡ false → has_share v.cell us ≡ false
    by true k = absurd (true≢false k)
    by false k = k

once_both : (us vs : List Share) → Once us → Once vs → Apart us vs → Once (us ++ vs)
once_both [] vs h k a = k
once_both (u ∷ us) vs h k a = (either_lacks u.cell us vs h.0 (apart_first u us vs a), once_both us vs h.1 k (apart_rest u us vs a))

others_apart : (minus : Bool) (us fs gs : List Share) → ((c : ℕ) → has_share c us ≡ has_share c fs) → Apart us (map (new_share minus) (others fs gs))
others_apart minus us fs [] e = tt
others_apart minus us fs (g ∷ gs) e = by (has_share g.cell fs) refl (others_apart minus us fs gs e)
  where
    by : (b : Bool) → has_share g.cell fs ≡ b → Apart us (map (new_share minus) (others fs gs)) → Apart us (map (new_share minus) (if not b then g ∷ others fs gs else others fs gs))
    by true k more = more
    by false k more = (e g.cell ∙ k, more)

pub once_total : (minus : Bool) (fs gs : List Share) → Once fs → Once gs → Once (total_shares minus fs gs)
once_total minus fs gs h k =
    once_kept is_nonzero (map (total_share minus gs) fs ++ map (new_share minus) (others fs gs))
    (once_both (map (total_share minus gs) fs) (map (new_share minus) (others fs gs))
    (once_changed (total_share minus gs) (λ s. refl) fs h)
    (once_changed (new_share minus) (λ s. refl) (others fs gs) (once_kept (λ (s : Share). not (has_share s.cell fs)) gs k))
    (others_apart minus (map (total_share minus gs) fs) fs gs (λ c. same_cells (total_share minus gs) (λ s. refl) c fs)))

pub once_times : (k : ℤ) (fs : List Share) → Once fs → Once (nonzero (map (times_share k) fs))
once_times k fs h = once_kept is_nonzero (map (times_share k) fs) (once_changed (times_share k) (λ s. refl) fs h)

-- ---- sums

sum_both : (x : ℕ → ℤ) (ss ts : List Share) → sum_of x (ss ++ ts) ≡ sum_of x ss +ℤ sum_of x ts
sum_both x [] ts = omega (arith, ints)
sum_both x (s ∷ ss) ts = let h = sum_both x ss ts in omega (arith, ints, h)

sum_nonzero : (x : ℕ → ℤ) (ss : List Share) → sum_of x (nonzero ss) ≡ sum_of x ss
sum_nonzero x [] = refl
sum_nonzero x (s ∷ ss) = by (int_eq s.factor (pos 0)) refl (sum_nonzero x ss)
  where
    by : (b : Bool) → int_eq s.factor (pos 0) ≡ b → sum_of x (nonzero ss) ≡ sum_of x ss → sum_of x (if not b then s ∷ nonzero ss else nonzero ss) ≡ (s.factor *ℤ x s.cell) +ℤ sum_of x ss
    by true e h =
        let z : s.factor *ℤ x s.cell ≡ pos 0 = ap (λ n. n *ℤ x s.cell) ((Decides-int_eq s.factor (pos 0)).0 e) ∙ zero-*ℤ (x s.cell) in
        omega (arith, ints, h, z)
    by false e h = ap (λ n. (s.factor *ℤ x s.cell) +ℤ n) h

pub total_times : (minus : Bool) (a b c : ℤ) → total minus a b *ℤ c ≡ total minus (a *ℤ c) (b *ℤ c)
total_times false a b c = times_sum a b c
total_times true a b c = times_difference a b c

-- how much of the second's scalars the first takes, by the second's factors
abbrev pub taken_share : List Share → Share → Share
taken_share gs s = record { cell = s.cell; factor = factor_in gs s.cell }

abbrev pub taken : (ℕ → ℤ) → List Share → List Share → ℤ
taken x gs fs = sum_of x (map (taken_share gs) fs)

regroup : (minus : Bool) (a b c d : ℤ) → total minus a b +ℤ total minus c d ≡ total minus (a +ℤ c) (b +ℤ d)
regroup false a b c d = omega (arith, ints)
regroup true a b c d = omega (arith, ints)

no_total : (minus : Bool) → pos 0 ≡ total minus (pos 0) (pos 0)
no_total false = refl
no_total true = refl

sum_totals : (x : ℕ → ℤ) (minus : Bool) (gs fs : List Share) → sum_of x (map (total_share minus gs) fs) ≡ total minus (sum_of x fs) (taken x gs fs)
sum_totals x minus gs [] = no_total minus
sum_totals x minus gs (s ∷ fs) =
    ap (λ n. n +ℤ sum_of x (map (total_share minus gs) fs)) (total_times minus s.factor (factor_in gs s.cell) (x s.cell))
    ∙ ap (λ n. total minus (s.factor *ℤ x s.cell) (factor_in gs s.cell *ℤ x s.cell) +ℤ n) (sum_totals x minus gs fs)
    ∙ regroup minus (s.factor *ℤ x s.cell) (factor_in gs s.cell *ℤ x s.cell) (sum_of x fs) (taken x gs fs)

sum_new : (x : ℕ → ℤ) (minus : Bool) (os : List Share) → sum_of x (map (new_share minus) os) ≡ total minus (pos 0) (sum_of x os)
sum_new x minus [] = no_total minus
sum_new x minus (s ∷ os) =
    ap (λ n. n +ℤ sum_of x (map (new_share minus) os)) (total_times minus (pos 0) s.factor (x s.cell) ∙ ap (λ n. total minus n (s.factor *ℤ x s.cell)) (zero-*ℤ (x s.cell)))
    ∙ ap (λ n. total minus (pos 0) (s.factor *ℤ x s.cell) +ℤ n) (sum_new x minus os)
    ∙ regroup minus (pos 0) (s.factor *ℤ x s.cell) (pos 0) (sum_of x os)

-- a scalar that isn't there is taken no time
not_taken : (c : ℕ) (ss : List Share) → has_share c ss ≡ false → factor_in ss c ≡ pos 0
not_taken c [] h = refl
not_taken c (s ∷ ss) h = by (s.cell == c) h (λ k. not_taken c ss k)
  where
    by : (b : Bool) → (b || has_share c ss) ≡ false → (has_share c ss ≡ false → factor_in ss c ≡ pos 0) → (if b then s.factor else factor_in ss c) ≡ pos 0
    by true h more = absurd (true≢false h)
    by false h more = more h

pub turned : (n m : ℕ) (b : Bool) → (n == m) ≡ b → (m == n) ≡ b
turned n m true e = (Decides-eqb m n).1 (sym ((Decides-eqb n m).0 e))
turned n m false e = by (m == n) refl
  where
    by : (b : Bool) → (m == n) ≡ b → b ≡ false
    by true f = absurd (true≢false (sym ((Decides-eqb n m).1 (sym ((Decides-eqb m n).0 f))) ∙ e))
    by false f = refl

taken_without : (x : ℕ → ℤ) (g : Share) (gs fs : List Share) → has_share g.cell fs ≡ false → taken x (g ∷ gs) fs ≡ taken x gs fs
taken_without x g gs [] h = refl
taken_without x g gs (f ∷ fs) h = by (f.cell == g.cell) refl h (λ k. taken_without x g gs fs k)
  where
    by : (b : Bool) → (f.cell == g.cell) ≡ b → (b || has_share g.cell fs) ≡ false → (has_share g.cell fs ≡ false → taken x (g ∷ gs) fs ≡ taken x gs fs)
        → ((if g.cell == f.cell then g.factor else factor_in gs f.cell) *ℤ x f.cell) +ℤ taken x (g ∷ gs) fs ≡ (factor_in gs f.cell *ℤ x f.cell) +ℤ taken x gs fs
    by true e h more = absurd (true≢false h)
    by false e h more =
        ap (λ (b : Bool). ((if b then g.factor else factor_in gs f.cell) *ℤ x f.cell) +ℤ taken x (g ∷ gs) fs) (turned f.cell g.cell false e)
        ∙ ap (λ n. (factor_in gs f.cell *ℤ x f.cell) +ℤ n) (more h)

taken_with : (x : ℕ → ℤ) (g : Share) (gs fs : List Share) → Once fs → has_share g.cell gs ≡ false → has_share g.cell fs ≡ true → taken x (g ∷ gs) fs ≡ (g.factor *ℤ x g.cell) +ℤ taken x gs fs
taken_with x g gs [] o k h = absurd (true≢false (sym h))
taken_with x g gs (f ∷ fs) o k h = by (f.cell == g.cell) refl h (λ j. taken_with x g gs fs o.1 k j)
  where
    by : (b : Bool) → (f.cell == g.cell) ≡ b → (b || has_share g.cell fs) ≡ true → (has_share g.cell fs ≡ true → taken x (g ∷ gs) fs ≡ (g.factor *ℤ x g.cell) +ℤ taken x gs fs)
        → ((if g.cell == f.cell then g.factor else factor_in gs f.cell) *ℤ x f.cell) +ℤ taken x (g ∷ gs) fs ≡ (g.factor *ℤ x g.cell) +ℤ ((factor_in gs f.cell *ℤ x f.cell) +ℤ taken x gs fs)
    by true e h more =
        let same : f.cell ≡ g.cell = (Decides-eqb f.cell g.cell).0 e in
        let lacks : has_share g.cell fs ≡ false = ap (λ c. has_share c fs) (sym same) ∙ o.0 in
        let none : factor_in gs f.cell *ℤ x f.cell ≡ pos 0 = ap (λ n. n *ℤ x f.cell) (ap (λ c. factor_in gs c) same ∙ not_taken g.cell gs k) ∙ zero-*ℤ (x f.cell) in
        ap (λ (b : Bool). ((if b then g.factor else factor_in gs f.cell) *ℤ x f.cell) +ℤ taken x (g ∷ gs) fs) (turned f.cell g.cell true e)
        ∙ ap (λ c. (g.factor *ℤ x c) +ℤ taken x (g ∷ gs) fs) same
        ∙ ap (λ n. (g.factor *ℤ x g.cell) +ℤ n) (taken_without x g gs fs lacks)
        ∙ (let t : (g.factor *ℤ x g.cell) +ℤ taken x gs fs ≡ (g.factor *ℤ x g.cell) +ℤ ((factor_in gs f.cell *ℤ x f.cell) +ℤ taken x gs fs) = omega (arith, ints, none) in t)
    by false e h more =
        let rest = more h in
        ap (λ (b : Bool). ((if b then g.factor else factor_in gs f.cell) *ℤ x f.cell) +ℤ taken x (g ∷ gs) fs) (turned f.cell g.cell false e)
        ∙ (let t : (factor_in gs f.cell *ℤ x f.cell) +ℤ taken x (g ∷ gs) fs ≡ (g.factor *ℤ x g.cell) +ℤ ((factor_in gs f.cell *ℤ x f.cell) +ℤ taken x gs fs) = omega (arith, ints, rest) in t)

none_taken : (x : ℕ → ℤ) (fs : List Share) → taken x [] fs ≡ pos 0
none_taken x [] = refl
none_taken x (f ∷ fs) = let h = none_taken x fs in let z = zero-*ℤ (x f.cell) in omega (arith, ints, h, z)

-- the second's shares are those of scalars that the first takes, and the others
pub split : (x : ℕ → ℤ) (fs gs : List Share) → Once fs → Once gs → taken x gs fs +ℤ sum_of x (others fs gs) ≡ sum_of x gs
split x fs [] h k = let z = none_taken x fs in omega (arith, ints, z)
split x fs (g ∷ gs) h k = by (has_share g.cell fs) refl (split x fs gs h k.1)
  where
    by : (b : Bool) → has_share g.cell fs ≡ b → taken x gs fs +ℤ sum_of x (others fs gs) ≡ sum_of x gs
        → taken x (g ∷ gs) fs +ℤ sum_of x (if not b then g ∷ others fs gs else others fs gs) ≡ (g.factor *ℤ x g.cell) +ℤ sum_of x gs
    by true e more = let t = taken_with x g gs fs h k.0 e in omega (arith, ints, t, more)
    by false e more = let t = taken_without x g gs fs e in omega (arith, ints, t, more)

regroup_all : (minus : Bool) (f t o g : ℤ) → t +ℤ o ≡ g → total minus f t +ℤ total minus (pos 0) o ≡ total minus f g
regroup_all false f t o g e = omega (arith, ints, e)
regroup_all true f t o g e = omega (arith, ints, e)

pub sum_total : (x : ℕ → ℤ) (minus : Bool) (fs gs : List Share) → Once fs → Once gs → sum_of x (total_shares minus fs gs) ≡ total minus (sum_of x fs) (sum_of x gs)
sum_total x minus fs gs h k =
    let us = map (total_share minus gs) fs in
    let vs = map (new_share minus) (others fs gs) in
    sum_nonzero x (us ++ vs)
    ∙ sum_both x us vs
    ∙ ap (λ n. n +ℤ sum_of x vs) (sum_totals x minus gs fs)
    ∙ ap (λ n. total minus (sum_of x fs) (taken x gs fs) +ℤ n) (sum_new x minus (others fs gs))
    ∙ regroup_all minus (sum_of x fs) (taken x gs fs) (sum_of x (others fs gs)) (sum_of x gs) (split x fs gs h k)

sum_multiple : (x : ℕ → ℤ) (k : ℤ) (fs : List Share) → sum_of x (map (times_share k) fs) ≡ k *ℤ sum_of x fs
sum_multiple x k [] = sym (times_zero k)
  where
    times_zero : (n : ℤ) → n *ℤ pos 0 ≡ pos 0
    times_zero n = *ℤ-zero n
sum_multiple x k (s ∷ fs) =
    ap (λ n. n +ℤ sum_of x (map (times_share k) fs)) (times_assoc k s.factor (x s.cell))
    ∙ ap (λ n. (k *ℤ (s.factor *ℤ x s.cell)) +ℤ n) (sum_multiple x k fs)
    ∙ sym (sum_times k (s.factor *ℤ x s.cell) (sum_of x fs))

pub sum_product : (x : ℕ → ℤ) (k : ℤ) (fs : List Share) → sum_of x (nonzero (map (times_share k) fs)) ≡ k *ℤ sum_of x fs
sum_product x k fs = sum_nonzero x (map (times_share k) fs) ∙ sum_multiple x k fs
