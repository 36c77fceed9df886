-- Forms that are alike take as much of all scalars.
use Rattle.std.proofs.Common.{◌≡◌, ◌∙◌, ap, sym, refl, ℕ, List, [], ◌∷◌, arith, true≢false}
use Rattle.std.proofs.lemmas.Int.{ints}
use Rattle.std.proofs.lemmas.Bool.Decides.{Decides-eqb}
use Rattle.std.proofs.Math.IntN.{zero-*ℤ}
use Rattle.std.specs.Prelude.{ℤ, pos, ◌+ℤ◌, ◌*ℤ◌, unsigned_abs, Bool, true, false, not, ◌&&◌, ◌||◌, if◌then◌else◌}
use Rattle.std.specs.List.{list_all}
use Rattle.std.proofs.lemmas.Bool.{not-true}
use Rattle.loop_tree.specs.Loops.{Loop}
use Rattle.subscripts.specs.Forms.{Form, Share, factor_in, others, varies}
use Rattle.subscripts.specs.Values.{Agree, sum_of}
use Rattle.subscripts.specs.Proper.{Once}
use Rattle.subscripts.proofs.Sums.{split, taken}
use Rattle.dependence.specs.Tests.{are_alike, gap, gaps, is_nothing, no_gaps, no_others, sizes, steady, vary}
use Rattle.dependence.proofs.Distances.{no_gap, none_abs}

pub first_of_both : (a b : Bool) → (a && b) ≡ true → a ≡ true
first_of_both true b e = refl
first_of_both false b e = absurd (true≢false (sym e))

pub second_of_both : (a b : Bool) → (a && b) ≡ true → b ≡ true
second_of_both true b e = e
second_of_both false b e = absurd (true≢false (sym e))

first_not : (a b : Bool) → (a || b) ≡ false → a ≡ false
first_not true b e = absurd (true≢false e)
first_not false b e = refl

second_not : (a b : Bool) → (a || b) ≡ false → b ≡ false
second_not true b e = absurd (true≢false e)
second_not false b e = e

-- where none varies, values that agree make the same sum
pub by_steady : (l : Loop) (held x : ℕ → ℤ) (ss : List Share) → vary l ss ≡ false → Agree l held x → sum_of x ss ≡ sum_of held ss
by_steady l held x [] e a = refl
by_steady l held x (s ∷ ss) e a =
    ap (λ n. (s.factor *ℤ n) +ℤ sum_of x ss) (a s.cell (first_not (varies l s.cell) (vary l ss) e))
    ∙ ap (λ n. (s.factor *ℤ held s.cell) +ℤ n) (by_steady l held x ss (second_not (varies l s.cell) (vary l ss) e) a)

all_steady : (l : Loop) (ss : List Share) → vary l ss ≡ false → steady l ss ≡ ss
all_steady l [] e = refl
all_steady l (s ∷ ss) e =
    ap (λ (b : Bool). if not b then s ∷ steady l ss else steady l ss) (first_not (varies l s.cell) (vary l ss) e)
    ∙ ap (λ ts. s ∷ ts) (all_steady l ss (second_not (varies l s.cell) (vary l ss) e))

-- the second takes the first's scalars as often
as_often : (x : ℕ → ℤ) (gs fs : List Share) → list_all is_nothing (gaps fs gs) ≡ true → taken x gs fs ≡ sum_of x fs
as_often x gs [] e = refl
as_often x gs (f ∷ fs) e =
    ap (λ n. (n *ℤ x f.cell) +ℤ taken x gs fs) (sym (no_gap f.factor (factor_in gs f.cell) (first_of_both (is_nothing (gap f.factor (factor_in gs f.cell))) (list_all is_nothing (gaps fs gs)) e)))
    ∙ ap (λ n. (f.factor *ℤ x f.cell) +ℤ n) (as_often x gs fs (second_of_both (is_nothing (gap f.factor (factor_in gs f.cell))) (list_all is_nothing (gaps fs gs)) e))

no_sum : (x : ℕ → ℤ) (os : List Share) → list_all is_nothing (sizes os) ≡ true → sum_of x os ≡ pos 0
no_sum x [] e = refl
no_sum x (s ∷ os) e =
    let z : s.factor *ℤ x s.cell ≡ pos 0 = ap (λ n. n *ℤ x s.cell) (none_abs s.factor ((Decides-eqb (unsigned_abs s.factor) 0).0 (first_of_both (is_nothing (unsigned_abs s.factor)) (list_all is_nothing (sizes os)) e))) ∙ zero-*ℤ (x s.cell) in
    let h = no_sum x os (second_of_both (is_nothing (unsigned_abs s.factor)) (list_all is_nothing (sizes os)) e) in
    omega (arith, ints, z, h)

pub alike_sums : (l : Loop) (f g : Form) (held x y : ℕ → ℤ) → are_alike l f g ≡ true → Once f.shares → Once g.shares → Agree l held x → Agree l held y → sum_of x f.shares ≡ sum_of y g.shares
alike_sums l f g held x y e o p a b =
    let not_f = not-true (vary l f.shares) (first_of_both (not (vary l f.shares)) (not (vary l g.shares) && (no_gaps l f.shares g.shares && no_others l f.shares g.shares)) e) in
    let rest = second_of_both (not (vary l f.shares)) (not (vary l g.shares) && (no_gaps l f.shares g.shares && no_others l f.shares g.shares)) e in
    let not_g = not-true (vary l g.shares) (first_of_both (not (vary l g.shares)) (no_gaps l f.shares g.shares && no_others l f.shares g.shares) rest) in
    let last = second_of_both (not (vary l g.shares)) (no_gaps l f.shares g.shares && no_others l f.shares g.shares) rest in
    let often : list_all is_nothing (gaps f.shares g.shares) ≡ true = sym (ap (λ ss. list_all is_nothing (gaps ss g.shares)) (all_steady l f.shares not_f)) ∙ first_of_both (no_gaps l f.shares g.shares) (no_others l f.shares g.shares) last in
    let none : list_all is_nothing (sizes (others f.shares g.shares)) ≡ true = sym (ap (λ ss. list_all is_nothing (sizes (others f.shares ss))) (all_steady l g.shares not_g)) ∙ second_of_both (no_gaps l f.shares g.shares) (no_others l f.shares g.shares) last in
    let t = as_often held g.shares f.shares often in
    let n = no_sum held (others f.shares g.shares) none in
    let s = split held f.shares g.shares o p in
    by_steady l held x f.shares not_f a
    ∙ (let q : sum_of held f.shares ≡ sum_of held g.shares = omega (arith, ints, t, n, s) in q)
    ∙ sym (by_steady l held y g.shares not_g b)
