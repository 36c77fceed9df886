-- What the tests say of two subscripts that are equal.
use Rattle.std.proofs.Common.{◌≡◌, ◌∙◌, ap, sym, refl, ℕ, arith, true≢false, inl, inr, ◌<◌}
use Rattle.std.proofs.lemmas.Int.{ints}
use Rattle.std.proofs.lemmas.Bool.Decides.{Decides-int_eq}
use Rattle.std.proofs.Math.IntN.{zero-*ℤ, *ℤ-zero, *ℤ_comm}
use Rattle.std.specs.Prelude.{ℤ, pos, ◌-◌, ◌+ℤ◌, ◌-ℤ◌, ◌*ℤ◌, ◌⊎◌, Bool, true, false, not, ◌&&◌, if◌then◌else◌, Option, Some, None}
use Rattle.std.specs.Ordering.{int_eq}
use Rattle.std.proofs.lemmas.Bool.{not-true}
use Rattle.loop_tree.specs.Loops.{Loop}
use Rattle.subscripts.specs.Forms.{Form}
use Rattle.subscripts.specs.Values.{Agree, form_value}
use Rattle.subscripts.proofs.Products.{sum_times, times_assoc, times_difference}
use Rattle.subscripts.specs.Proper.{Once}
use Rattle.dependence.specs.Meets.{IsStep}
use Rattle.dependence.specs.Tests.{are_alike, at_step, by_constant, by_distance, by_stride, difference, is_zero}
use Rattle.dependence.specs.declared.relation.Found.TheVariants.{Nothing, Only}
use Rattle.dependence.proofs.Alike.{alike_sums, first_of_both, second_of_both}
use Rattle.dependence.proofs.Distances.{found_only, zero_stride}

-- Forms have equal values, the one where the loop's variable is i, the other where it is j.
pub record Equal (l : Loop) (held : ℕ → ℤ) (i j : ℤ) (f g : Form) : Type 0 where
  pub once_f : Once f.shares
  pub once_g : Once g.shares
  pub x : ℕ → ℤ
  pub y : ℕ → ℤ
  pub agree_x : Agree l held x
  pub agree_y : Agree l held y
  pub same : form_value x i f ≡ form_value y j g

pub not_constant : (l : Loop) (held : ℕ → ℤ) (i j : ℤ) (f g : Form) → by_constant l f g ≡ true → Equal l held i j f g → ⊥
not_constant l held i j f g e q =
    let differ = not (int_eq f.constant g.constant) in
    let alike = first_of_both (are_alike l f g) (is_zero f.coefficient && (is_zero g.coefficient && differ)) e in
    let rest = second_of_both (are_alike l f g) (is_zero f.coefficient && (is_zero g.coefficient && differ)) e in
    let zero_f = (Decides-int_eq f.coefficient (pos 0)).0 (first_of_both (is_zero f.coefficient) (is_zero g.coefficient && differ) rest) in
    let last = second_of_both (is_zero f.coefficient) (is_zero g.coefficient && differ) rest in
    let zero_g = (Decides-int_eq g.coefficient (pos 0)).0 (first_of_both (is_zero g.coefficient) differ last) in
    let sums = alike_sums l f g held q.x q.y alike q.once_f q.once_g q.agree_x q.agree_y in
    let none_f : f.coefficient *ℤ i ≡ pos 0 = ap (λ n. n *ℤ i) zero_f ∙ zero-*ℤ i in
    let none_g : g.coefficient *ℤ j ≡ pos 0 = ap (λ n. n *ℤ j) zero_g ∙ zero-*ℤ j in
    let all = q.same in
    let constants : f.constant ≡ g.constant = omega (arith, ints, sums, none_f, none_g, all) in
    true≢false (sym ((Decides-int_eq f.constant g.constant).1 constants) ∙ not-true (int_eq f.constant g.constant) (second_of_both (is_zero g.coefficient) differ last))

-- a coefficient times so many steps
strides : (c n s : ℤ) → c *ℤ (n *ℤ s) ≡ n *ℤ (c *ℤ s)
strides c n s = sym (times_assoc c n s) ∙ ap (λ m. m *ℤ s) (*ℤ_comm c n) ∙ times_assoc n c s

moved : (m c s : ℤ) (k j : ℕ) → k < j → (c *ℤ (m +ℤ (pos j *ℤ s))) -ℤ (c *ℤ (m +ℤ (pos k *ℤ s))) ≡ pos (j - k) *ℤ (c *ℤ s)
moved m c s k j h =
    let a = sum_times c m (pos j *ℤ s) in
    let b = sum_times c m (pos k *ℤ s) in
    let d = strides c (pos j) s in
    let e = strides c (pos k) s in
    let t = times_difference (pos j) (pos k) (c *ℤ s) in
    let n : pos j -ℤ pos k ≡ pos (j - k) = omega (arith, ints, h) in
    (let u : (c *ℤ (m +ℤ (pos j *ℤ s))) -ℤ (c *ℤ (m +ℤ (pos k *ℤ s))) ≡ (pos j -ℤ pos k) *ℤ (c *ℤ s) = omega (arith, ints, a, b, d, e, t) in u)
    ∙ ap (λ x. x *ℤ (c *ℤ s)) n

nonzero_step : (c t : ℤ) → is_zero (c *ℤ t) ≡ false → int_eq t (pos 0) ≡ false
nonzero_step c t h = by (int_eq t (pos 0)) refl
  where
    by : (b : Bool) → int_eq t (pos 0) ≡ b → b ≡ false
    by true e = absurd (true≢false (sym ((Decides-int_eq (c *ℤ t) (pos 0)).1 (ap (λ n. c *ℤ n) ((Decides-int_eq t (pos 0)).0 e) ∙ *ℤ-zero c)) ∙ h))
    by false e = refl

apart_by : (l : Loop) (held : ℕ → ℤ) (m s : ℤ) (k j : ℕ) (f g : Form) → k < j → are_alike l f g ≡ true → f.coefficient ≡ g.coefficient
    → Equal l held (m +ℤ (pos k *ℤ s)) (m +ℤ (pos j *ℤ s)) f g → difference f g ≡ pos (j - k) *ℤ (f.coefficient *ℤ s)
apart_by l held m s k j f g h e c q =
    let sums = alike_sums l f g held q.x q.y e q.once_f q.once_g q.agree_x q.agree_y in
    let t = moved m f.coefficient s k j h in
    let z : g.coefficient *ℤ (m +ℤ (pos j *ℤ s)) ≡ f.coefficient *ℤ (m +ℤ (pos j *ℤ s)) = ap (λ n. n *ℤ (m +ℤ (pos j *ℤ s))) (sym c) in
    let all = q.same in
    omega (arith, ints, sums, t, z, all)

-- The distance test gives nothing, or the distance of the iterations.
pub distance_is : (l : Loop) (held : ℕ → ℤ) (m s : ℤ) (k j : ℕ) (f g : Form) → k < j → IsStep l.step s
    → Equal l held (m +ℤ (pos k *ℤ s)) (m +ℤ (pos j *ℤ s)) f g → (by_distance l f g ≡ Nothing) ⊎ (by_distance l f g ≡ Only (j - k))
distance_is l held m s k j f g h i q = by (are_alike l f g && int_eq f.coefficient g.coefficient) refl
  where
    stride_is : (t : ℤ) → s ≡ t → is_zero (f.coefficient *ℤ t) ≡ false → are_alike l f g ≡ true → f.coefficient ≡ g.coefficient → by_stride (difference f g) (f.coefficient *ℤ t) ≡ Only (j - k)
    stride_is t e z a c = found_only (difference f g) (f.coefficient *ℤ t) (j - k) (omega (arith, h)) z (apart_by l held m s k j f g h a c q ∙ ap (λ n. pos (j - k) *ℤ (f.coefficient *ℤ n)) e)

    some_step : (t : ℤ) → IsStep (Some t) s → are_alike l f g ≡ true → f.coefficient ≡ g.coefficient → (by_stride (difference f g) (f.coefficient *ℤ t) ≡ Nothing) ⊎ (by_stride (difference f g) (f.coefficient *ℤ t) ≡ Only (j - k))
    some_step t e a c = here (is_zero (f.coefficient *ℤ t)) refl
      where
        here : (b : Bool) → is_zero (f.coefficient *ℤ t) ≡ b → (by_stride (difference f g) (f.coefficient *ℤ t) ≡ Nothing) ⊎ (by_stride (difference f g) (f.coefficient *ℤ t) ≡ Only (j - k))
        here true z = inl (zero_stride (difference f g) (f.coefficient *ℤ t) z)
        here false z = inr (stride_is t (e (nonzero_step f.coefficient t z)) z a c)

    steps : (o : Option ℤ) → IsStep o s → are_alike l f g ≡ true → f.coefficient ≡ g.coefficient → (at_step o f.coefficient (difference f g) ≡ Nothing) ⊎ (at_step o f.coefficient (difference f g) ≡ Only (j - k))
    steps None e a c = inl refl
    steps (Some t) e a c = some_step t e a c

    by : (b : Bool) → (are_alike l f g && int_eq f.coefficient g.coefficient) ≡ b
        → ((if b then at_step l.step f.coefficient (difference f g) else Nothing) ≡ Nothing) ⊎ ((if b then at_step l.step f.coefficient (difference f g) else Nothing) ≡ Only (j - k))
    by true e = steps l.step i (first_of_both (are_alike l f g) (int_eq f.coefficient g.coefficient) e) ((Decides-int_eq f.coefficient g.coefficient).0 (second_of_both (are_alike l f g) (int_eq f.coefficient g.coefficient) e))
    by false e = inl refl
