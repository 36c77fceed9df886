-- Products of whole numbers.
use Rattle.std.proofs.Common.{◌≡◌, ◌∙◌, ap, sym, arith}
use Rattle.std.proofs.lemmas.Int.{ints}
use Rattle.std.proofs.Math.IntN.{suc_ℤ, pred_ℤ, suc_ℤ-*ℤ, pred_ℤ-*ℤ, zero-*ℤ, *ℤ_comm, suc_ℤ-+ℤ, pred_ℤ-+ℤ, +ℤ_idl}
use Rattle.std.specs.Prelude.{ℤ, pos, negsuc, zero, suc, ◌+ℤ◌, ◌-ℤ◌, ◌*ℤ◌}

one_more : (a b c : ℤ) → (a +ℤ b) *ℤ c ≡ (a *ℤ c) +ℤ (b *ℤ c) → (suc_ℤ a +ℤ b) *ℤ c ≡ (suc_ℤ a *ℤ c) +ℤ (b *ℤ c)
one_more a b c h =
    ap (λ x. x *ℤ c) (suc_ℤ-+ℤ a b) ∙ suc_ℤ-*ℤ (a +ℤ b) c ∙ ap (λ x. x +ℤ c) h
    ∙ (let e : ((a *ℤ c) +ℤ (b *ℤ c)) +ℤ c ≡ ((a *ℤ c) +ℤ c) +ℤ (b *ℤ c) = omega (arith, ints) in e)
    ∙ ap (λ x. x +ℤ (b *ℤ c)) (sym (suc_ℤ-*ℤ a c))

one_less : (a b c : ℤ) → (a +ℤ b) *ℤ c ≡ (a *ℤ c) +ℤ (b *ℤ c) → (pred_ℤ a +ℤ b) *ℤ c ≡ (pred_ℤ a *ℤ c) +ℤ (b *ℤ c)
one_less a b c h =
    ap (λ x. x *ℤ c) (pred_ℤ-+ℤ a b) ∙ pred_ℤ-*ℤ (a +ℤ b) c ∙ ap (λ x. x -ℤ c) h
    ∙ (let e : ((a *ℤ c) +ℤ (b *ℤ c)) -ℤ c ≡ ((a *ℤ c) -ℤ c) +ℤ (b *ℤ c) = omega (arith, ints) in e)
    ∙ ap (λ x. x +ℤ (b *ℤ c)) (sym (pred_ℤ-*ℤ a c))

zero_sum : (b c : ℤ) → (pos 0 +ℤ b) *ℤ c ≡ (pos 0 *ℤ c) +ℤ (b *ℤ c)
zero_sum b c = ap (λ x. x *ℤ c) (+ℤ_idl b) ∙ sym (ap (λ x. x +ℤ (b *ℤ c)) (zero-*ℤ c) ∙ +ℤ_idl (b *ℤ c))

pub times_sum : (a b c : ℤ) → (a +ℤ b) *ℤ c ≡ (a *ℤ c) +ℤ (b *ℤ c)
times_sum (pos zero) b c = zero_sum b c
times_sum (pos (suc n)) b c = one_more (pos n) b c (times_sum (pos n) b c)
times_sum (negsuc zero) b c = one_less (pos 0) b c (zero_sum b c)
times_sum (negsuc (suc n)) b c = one_less (negsuc n) b c (times_sum (negsuc n) b c)

pub times_difference : (a b c : ℤ) → (a -ℤ b) *ℤ c ≡ (a *ℤ c) -ℤ (b *ℤ c)
times_difference a b c =
    let e : a ≡ (a -ℤ b) +ℤ b = omega (arith, ints) in
    let f : a *ℤ c ≡ ((a -ℤ b) *ℤ c) +ℤ (b *ℤ c) = ap (λ x. x *ℤ c) e ∙ times_sum (a -ℤ b) b c in
    omega (arith, ints, f)

pub sum_times : (c a b : ℤ) → c *ℤ (a +ℤ b) ≡ (c *ℤ a) +ℤ (c *ℤ b)
sum_times c a b =
    *ℤ_comm c (a +ℤ b) ∙ times_sum a b c ∙ ap (λ x. x +ℤ (b *ℤ c)) (*ℤ_comm a c) ∙ ap (λ x. (c *ℤ a) +ℤ x) (*ℤ_comm b c)

zero_assoc : (b c : ℤ) → (pos 0 *ℤ b) *ℤ c ≡ pos 0 *ℤ (b *ℤ c)
zero_assoc b c = ap (λ x. x *ℤ c) (zero-*ℤ b) ∙ zero-*ℤ c ∙ sym (zero-*ℤ (b *ℤ c))

pub times_assoc : (a b c : ℤ) → (a *ℤ b) *ℤ c ≡ a *ℤ (b *ℤ c)
times_assoc (pos zero) b c = zero_assoc b c
times_assoc (pos (suc n)) b c =
    ap (λ x. x *ℤ c) (suc_ℤ-*ℤ (pos n) b) ∙ times_sum (pos n *ℤ b) b c ∙ ap (λ x. x +ℤ (b *ℤ c)) (times_assoc (pos n) b c) ∙ sym (suc_ℤ-*ℤ (pos n) (b *ℤ c))
times_assoc (negsuc zero) b c =
    ap (λ x. x *ℤ c) (pred_ℤ-*ℤ (pos 0) b) ∙ times_difference (pos 0 *ℤ b) b c ∙ ap (λ x. x -ℤ (b *ℤ c)) (zero_assoc b c) ∙ sym (pred_ℤ-*ℤ (pos 0) (b *ℤ c))
times_assoc (negsuc (suc n)) b c =
    ap (λ x. x *ℤ c) (pred_ℤ-*ℤ (negsuc n) b) ∙ times_difference (negsuc n *ℤ b) b c ∙ ap (λ x. x -ℤ (b *ℤ c)) (times_assoc (negsuc n) b c) ∙ sym (pred_ℤ-*ℤ (negsuc n) (b *ℤ c))
