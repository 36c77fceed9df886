-- What the greatest common divisor of all else divides.
use Rattle.std.proofs.Common.{◌≡◌, ◌∙◌, ap, sym, refl, ℕ, List, [], ◌∷◌, subst, arith, true≢false, ◌<◌}
use Rattle.std.proofs.lemmas.Int.{ints, unsigned_abs-mul}
use Rattle.std.proofs.lemmas.Bool.Decides.{Decides-eqb}
use Rattle.std.proofs.Math.IntN.{zero-*ℤ, *ℤ_comm, pos-*ℤ-pos}
use Rattle.std.proofs.Math.Nat.{mod-lt, div-add-mod, mul-mod_left}
use Rattle.std.specs.Prelude.{ℤ, pos, negsuc, zero, suc, ◌*◌, ◌/◌, ◌%◌, ◌++◌, ◌==◌, ◌+ℤ◌, ◌-ℤ◌, ◌*ℤ◌, unsigned_abs, Bool, true, false, not, ◌||◌, if◌then◌else◌, ⊤}
use Rattle.std.proofs.lemmas.Bool.{not-true}
use Rattle.loop_tree.specs.Loops.{Loop}
use Rattle.subscripts.specs.Forms.{Form, Share, factor_in, has_share, others, varies}
use Rattle.subscripts.specs.Values.{sum_of}
use Rattle.subscripts.proofs.Products.{times_sum, times_difference, times_assoc}
use Rattle.subscripts.specs.Proper.{Once}
use Rattle.subscripts.proofs.Sums.{once_kept, split, taken}
use Rattle.dependence.specs.Tests.{by_divisor, divided, gap, gaps, gcd, gcd_of, gcd_with, gcd_within, sizes, steady, vary, varying}
use Rattle.dependence.proofs.Alike.{by_steady, second_of_both}
use Rattle.dependence.proofs.Divisors.{positive}
use Rattle.dependence.proofs.Meeting.{Equal}

-- d divides z
record Divides (d : ℕ) (z : ℤ) : Type 0 where
  times : ℤ
  is : z ≡ times *ℤ pos d

sum_divided : (d : ℕ) (a b : ℤ) → Divides d a → Divides d b → Divides d (a +ℤ b)
sum_divided d a b p q = record { times = p.times +ℤ q.times; is = ap (λ n. n +ℤ b) p.is ∙ ap (λ n. (p.times *ℤ pos d) +ℤ n) q.is ∙ sym (times_sum p.times q.times (pos d)) }

difference_divided : (d : ℕ) (a b : ℤ) → Divides d a → Divides d b → Divides d (a -ℤ b)
difference_divided d a b p q = record { times = p.times -ℤ q.times; is = ap (λ n. n -ℤ b) p.is ∙ ap (λ n. (p.times *ℤ pos d) -ℤ n) q.is ∙ sym (times_difference p.times q.times (pos d)) }

multiple_divided : (d : ℕ) (c a : ℤ) → Divides d a → Divides d (c *ℤ a)
multiple_divided d c a p = record { times = c *ℤ p.times; is = ap (λ n. c *ℤ n) p.is ∙ sym (times_assoc c p.times (pos d)) }

product_divided : (d : ℕ) (a c : ℤ) → Divides d a → Divides d (a *ℤ c)
product_divided d a c p = subst (λ n. Divides d n) (*ℤ_comm c a) (multiple_divided d c a p)

none_divided : (d : ℕ) → Divides d (pos 0)
none_divided d = record { times = pos 0; is = sym (zero-*ℤ (pos d)) }

by_size : (d : ℕ) (z : ℤ) → Divides d (pos (unsigned_abs z)) → Divides d z
by_size d (pos n) p = p
by_size d (negsuc n) p = subst (λ z. Divides d z) (let e : pos 0 -ℤ pos (unsigned_abs (negsuc n)) ≡ negsuc n = omega (arith, ints) in e) (difference_divided d (pos 0) (pos (unsigned_abs (negsuc n))) (none_divided d) p)

through_divisor : (d e : ℕ) (z : ℤ) → Divides e z → Divides d (pos e) → Divides d z
through_divisor d e z p q = subst (λ n. Divides d n) (sym p.is) (multiple_divided d p.times (pos e) q)

-- ---- greatest common divisors

record DividesBoth (d a b : ℕ) : Type 0 where
  first : Divides d (pos a)
  second : Divides d (pos b)

itself : (a : ℕ) → Divides a (pos a)
itself a = record { times = pos 1; is = sym (pos-*ℤ-pos 1 a ∙ ap pos (let e : 1 * a ≡ a = omega arith in e)) }

gcd_divides : (n a b : ℕ) → b < n → DividesBoth (gcd_within n a b) a b
gcd_divides zero a b h = absurd (omega (arith, h))
gcd_divides (suc n) a b h = by (b == 0) refl (λ k. gcd_divides n b (a % b) k)
  where
    by : (c : Bool) → (b == 0) ≡ c → (a % b < n → DividesBoth (gcd_within n b (a % b)) b (a % b)) → DividesBoth (if c then a else gcd_within n b (a % b)) a b
    by true e more = record {
      first = itself a;
      second = subst (λ m. Divides a (pos m)) (sym ((Decides-eqb b 0).0 e)) (none_divided a);
    }
    by false e more =
        let less = mod-lt a (positive b e) in
        let r = more (omega (arith, less, h)) in
        let d = gcd_within n b (a % b) in
        record {
          first = subst (λ z. Divides d z) (whole e) (sum_divided d (pos (a / b) *ℤ pos b) (pos (a % b)) (multiple_divided d (pos (a / b)) (pos b) r.first) r.second);
          second = r.first;
        }
      where
        whole : (b == 0) ≡ false → (pos (a / b) *ℤ pos b) +ℤ pos (a % b) ≡ pos a
        whole e = ap (λ z. z +ℤ pos (a % b)) (pos-*ℤ-pos (a / b) b) ∙ (let q = div-add-mod a b in let t : pos ((a / b) * b) +ℤ pos (a % b) ≡ pos a = omega (arith, ints, q) in t)

abbrev DividesAll : ℕ → List ℕ → Type 0
DividesAll d [] = ⊤
DividesAll d (n ∷ ns) = Divides d (pos n) × DividesAll d ns

all_divided : (g : ℕ) (ns : List ℕ) → DividesAll (gcd_with g ns) (g ∷ ns)
all_divided g [] = (itself g, tt)
all_divided g (n ∷ ns) =
    let r = all_divided (gcd g n) ns in
    let b = gcd_divides (suc n) g n (omega arith) in
    let d = gcd_with (gcd g n) ns in
    (through_divisor d (gcd g n) (pos g) b.first r.0, (through_divisor d (gcd g n) (pos n) b.second r.0, r.1))

first_all : (d : ℕ) (ns ms : List ℕ) → DividesAll d (ns ++ ms) → DividesAll d ns
first_all d [] ms h = tt
first_all d (n ∷ ns) ms h = (h.0, first_all d ns ms h.1)

second_all : (d : ℕ) (ns ms : List ℕ) → DividesAll d (ns ++ ms) → DividesAll d ms
second_all d [] ms h = h
second_all d (n ∷ ns) ms h = second_all d ns ms h.1

-- ---- sums

sum_of_divided : (d : ℕ) (x : ℕ → ℤ) (ss : List Share) → DividesAll d (sizes ss) → Divides d (sum_of x ss)
sum_of_divided d x [] h = none_divided d
sum_of_divided d x (s ∷ ss) h = sum_divided d (s.factor *ℤ x s.cell) (sum_of x ss) (product_divided d s.factor (x s.cell) (by_size d s.factor h.0)) (sum_of_divided d x ss h.1)

gaps_divided : (d : ℕ) (x : ℕ → ℤ) (gs fs : List Share) → DividesAll d (gaps fs gs) → Divides d (sum_of x fs -ℤ taken x gs fs)
gaps_divided d x gs [] h = none_divided d
gaps_divided d x gs (f ∷ fs) h =
    let a = f.factor in
    let b = factor_in gs f.cell in
    let one = product_divided d (a -ℤ b) (x f.cell) (by_size d (a -ℤ b) h.0) in
    let rest = gaps_divided d x gs fs h.1 in
    let t = times_difference a b (x f.cell) in
    subst (λ z. Divides d z)
    (let e : ((a -ℤ b) *ℤ x f.cell) +ℤ (sum_of x fs -ℤ taken x gs fs) ≡ ((a *ℤ x f.cell) +ℤ sum_of x fs) -ℤ ((b *ℤ x f.cell) +ℤ taken x gs fs) = omega (arith, ints, t) in e)
    (sum_divided d ((a -ℤ b) *ℤ x f.cell) (sum_of x fs -ℤ taken x gs fs) one rest)

parted : (l : Loop) (x : ℕ → ℤ) (ss : List Share) → sum_of x ss ≡ sum_of x (varying l ss) +ℤ sum_of x (steady l ss)
parted l x [] = refl
parted l x (s ∷ ss) = by (varies l s.cell) (parted l x ss)
  where
    by : (b : Bool) → sum_of x ss ≡ sum_of x (varying l ss) +ℤ sum_of x (steady l ss)
        → (s.factor *ℤ x s.cell) +ℤ sum_of x ss ≡ sum_of x (if b then s ∷ varying l ss else varying l ss) +ℤ sum_of x (if not b then s ∷ steady l ss else steady l ss)
    by true h = omega (arith, ints, h)
    by false h = omega (arith, ints, h)

none_vary : (l : Loop) (ss : List Share) → vary l (steady l ss) ≡ false
none_vary l [] = refl
none_vary l (s ∷ ss) = by (varies l s.cell) refl (none_vary l ss)
  where
    by : (b : Bool) → varies l s.cell ≡ b → vary l (steady l ss) ≡ false → vary l (if not b then s ∷ steady l ss else steady l ss) ≡ false
    by true e h = h
    by false e h = ap (λ (b : Bool). b || vary l (steady l ss)) e ∙ h

-- what the scalars that don't vary are taken is what it was among all
other_cell : (l : Loop) (n c : ℕ) → varies l n ≡ true → varies l c ≡ false → (n == c) ≡ false
other_cell l n c e h = by (n == c) refl
  where
    by : (b : Bool) → (n == c) ≡ b → b ≡ false
    by true k = absurd (true≢false (sym e ∙ ap (λ m. varies l m) ((Decides-eqb n c).0 k) ∙ h))
    by false k = refl

same_factor : (l : Loop) (c : ℕ) (ss : List Share) → varies l c ≡ false → factor_in (steady l ss) c ≡ factor_in ss c
same_factor l c [] h = refl
same_factor l c (s ∷ ss) h = by (varies l s.cell) refl (same_factor l c ss h)
  where
    by : (b : Bool) → varies l s.cell ≡ b → factor_in (steady l ss) c ≡ factor_in ss c → factor_in (if not b then s ∷ steady l ss else steady l ss) c ≡ (if s.cell == c then s.factor else factor_in ss c)
    by true e more = more ∙ sym (ap (λ (b : Bool). if b then s.factor else factor_in ss c) (other_cell l s.cell c e h))
    by false e more = ap (λ n. if s.cell == c then s.factor else n) more

same_has : (l : Loop) (c : ℕ) (ss : List Share) → varies l c ≡ false → has_share c (steady l ss) ≡ has_share c ss
same_has l c [] h = refl
same_has l c (s ∷ ss) h = by (varies l s.cell) refl (same_has l c ss h)
  where
    by : (b : Bool) → varies l s.cell ≡ b → has_share c (steady l ss) ≡ has_share c ss → has_share c (if not b then s ∷ steady l ss else steady l ss) ≡ ((s.cell == c) || has_share c ss)
    by true e more = more ∙ sym (ap (λ (b : Bool). b || has_share c ss) (other_cell l s.cell c e h))
    by false e more = ap (λ (b : Bool). (s.cell == c) || b) more

same_taken : (l : Loop) (x : ℕ → ℤ) (gs fs : List Share) → taken x (steady l gs) (steady l fs) ≡ taken x gs (steady l fs)
same_taken l x gs [] = refl
same_taken l x gs (f ∷ fs) = by (varies l f.cell) refl (same_taken l x gs fs)
  where
    by : (b : Bool) → varies l f.cell ≡ b → taken x (steady l gs) (steady l fs) ≡ taken x gs (steady l fs) → taken x (steady l gs) (if not b then f ∷ steady l fs else steady l fs) ≡ taken x gs (if not b then f ∷ steady l fs else steady l fs)
    by true e h = h
    by false e h = ap (λ n. (n *ℤ x f.cell) +ℤ taken x (steady l gs) (steady l fs)) (same_factor l f.cell gs e) ∙ ap (λ n. (factor_in gs f.cell *ℤ x f.cell) +ℤ n) h

same_others : (l : Loop) (fs gs : List Share) → others (steady l fs) (steady l gs) ≡ others fs (steady l gs)
same_others l fs [] = refl
same_others l fs (g ∷ gs) = by (varies l g.cell) refl (same_others l fs gs)
  where
    by : (b : Bool) → varies l g.cell ≡ b → others (steady l fs) (steady l gs) ≡ others fs (steady l gs) → others (steady l fs) (if not b then g ∷ steady l gs else steady l gs) ≡ others fs (if not b then g ∷ steady l gs else steady l gs)
    by true e h = h
    by false e h =
        ap (λ (b : Bool). if not b then g ∷ others (steady l fs) (steady l gs) else others (steady l fs) (steady l gs)) (same_has l g.cell fs e)
        ∙ ap (λ ts. if not (has_share g.cell fs) then g ∷ ts else ts) h

steady_divided : (l : Loop) (d : ℕ) (held : ℕ → ℤ) (f g : Form) → Once f.shares → Once g.shares → DividesAll d (gaps (steady l f.shares) g.shares) → DividesAll d (sizes (others f.shares (steady l g.shares)))
    → Divides d (sum_of held (steady l g.shares) -ℤ sum_of held (steady l f.shares))
steady_divided l d held f g o p h k =
    let fs = steady l f.shares in
    let gs = steady l g.shares in
    let t = same_taken l held g.shares f.shares in
    let s : taken held gs fs +ℤ sum_of held (others fs gs) ≡ sum_of held gs = split held fs gs (once_kept (λ (s : Share). not (varies l s.cell)) f.shares o) (once_kept (λ (s : Share). not (varies l s.cell)) g.shares p) in
    let u : sum_of held (others fs gs) ≡ sum_of held (others f.shares gs) = ap (λ ts. sum_of held ts) (same_others l f.shares g.shares) in
    subst (λ z. Divides d z)
    (let e : sum_of held (others f.shares gs) -ℤ (sum_of held fs -ℤ taken held g.shares fs) ≡ sum_of held gs -ℤ sum_of held fs = omega (arith, ints, t, s, u) in e)
    (difference_divided d (sum_of held (others f.shares gs)) (sum_of held fs -ℤ taken held g.shares fs) (sum_of_divided d held (others f.shares gs) k) (gaps_divided d held g.shares fs h))

-- ---- the test

difference_is : (l : Loop) (held : ℕ → ℤ) (i j : ℤ) (f g : Form) → Equal l held i j f g → Divides (gcd_of (divided l f g)) (f.constant -ℤ g.constant)
difference_is l held i j f g q =
    let d = gcd_of (divided l f g) in
    let fv = sizes (varying l f.shares) in
    let gv = sizes (varying l g.shares) in
    let gs = gaps (steady l f.shares) g.shares in
    let os = sizes (others f.shares (steady l g.shares)) in
    let all = all_divided 0 (divided l f g) in
    let c = by_size d f.coefficient all.1.0 in
    let e = by_size d g.coefficient all.1.1.0 in
    let rest = all.1.1.1 in
    let vf = sum_of_divided d q.x (varying l f.shares) (first_all d fv (gv ++ (gs ++ os)) rest) in
    let rest2 = second_all d fv (gv ++ (gs ++ os)) rest in
    let vg = sum_of_divided d q.y (varying l g.shares) (first_all d gv (gs ++ os) rest2) in
    let rest3 = second_all d gv (gs ++ os) rest2 in
    let st = steady_divided l d held f g q.once_f q.once_g (first_all d gs os rest3) (second_all d gs os rest3) in
    let pf = parted l q.x f.shares in
    let pg = parted l q.y g.shares in
    let hf = by_steady l held q.x (steady l f.shares) (none_vary l f.shares) q.agree_x in
    let hg = by_steady l held q.y (steady l g.shares) (none_vary l g.shares) q.agree_y in
    let same = q.same in
    let a = (g.coefficient *ℤ j) -ℤ (f.coefficient *ℤ i) in
    let b = sum_of q.y (varying l g.shares) -ℤ sum_of q.x (varying l f.shares) in
    let s = sum_of held (steady l g.shares) -ℤ sum_of held (steady l f.shares) in
    subst (λ z. Divides d z)
    (let t : (((g.coefficient *ℤ j) -ℤ (f.coefficient *ℤ i)) +ℤ (sum_of q.y (varying l g.shares) -ℤ sum_of q.x (varying l f.shares))) +ℤ (sum_of held (steady l g.shares) -ℤ sum_of held (steady l f.shares)) ≡ f.constant -ℤ g.constant = omega (arith, ints, pf, pg, hf, hg, same) in t)
    (sum_divided d (a +ℤ b) s
    (sum_divided d a b
    (difference_divided d (g.coefficient *ℤ j) (f.coefficient *ℤ i) (product_divided d g.coefficient j e) (product_divided d f.coefficient i c))
    (difference_divided d (sum_of q.y (varying l g.shares)) (sum_of q.x (varying l f.shares)) vg vf))
    st)

no_rest : (d : ℕ) (z : ℤ) → Divides d z → unsigned_abs z % d ≡ 0
no_rest d z p = ap (λ n. unsigned_abs n % d) p.is ∙ ap (λ n. n % d) (unsigned_abs-mul p.times (pos d)) ∙ mul-mod_left (unsigned_abs p.times) d

pub not_divided : (l : Loop) (held : ℕ → ℤ) (i j : ℤ) (f g : Form) → by_divisor l f g ≡ true → Equal l held i j f g → ⊥
not_divided l held i j f g e q =
    let d = gcd_of (divided l f g) in
    let r = gap f.constant g.constant % d in
    true≢false (sym ((Decides-eqb r 0).1 (no_rest d (f.constant -ℤ g.constant) (difference_is l held i j f g q))) ∙ not-true (r == 0) (second_of_both (not (d == 0)) (not (r == 0)) e))
