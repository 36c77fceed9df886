-- Numbers of operands in 32 bits.
use Rattle.std.proofs.Common.{◌≡◌, ◌∙◌, ◌⊎◌, inl, inr, ◌<◌, ◌≤◌, ◌+◌, ℕ, zero, suc, Bool, true, false, List, [], ◌∷◌, drop, length, map, refl, ap, sym, arith}
use Rattle.std.specs.Prelude.{max, nat_lt, if◌then◌else◌}
use Rattle.std.proofs.Math.Nat.{max-eq_left, max-eq_right}
use Rattle.std.proofs.lemmas.Bool.{ltb-true, ltb-false}
use Rattle.ast.specs.Tree.{Terms, terms}
use Rattle.ast.specs.View.{access as access_of, term}
use Rattle.ast.specs.declared.expression.Access.{Access}
use Rattle.ast.specs.declared.expression.Expr.{Expr}
use Rattle.ast.proofs.Numbers.{either_way}
use Rattle.expr_code.specs.Computes.{operands_further, operands_kept}
use Rattle.expr_code.specs.Emitted.{short}
use Rattle.expr_code.proofs.Accesses.{subscripts_of}

short_cases : (n : ℕ) → ((n < 4294967296) × (short n ≡ n)) ⊎ ((4294967296 ≤ n) × (short n ≡ 4294967295))
short_cases n = by (nat_lt n 4294967296) refl
  where
    by : (b : Bool) → nat_lt n 4294967296 ≡ b → ((n < 4294967296) × ((if b then n else 4294967295) ≡ n)) ⊎ ((4294967296 ≤ n) × ((if b then n else 4294967295) ≡ 4294967295))
    by true e = inl (ltb-true n 4294967296 e, refl)
    by false e = inr (ltb-false n 4294967296 e, refl)

grown : (m n : ℕ) → m ≤ n → short m ≤ short n
grown m n h = by (short_cases m) (short_cases n)
  where
    by : ((m < 4294967296) × (short m ≡ m)) ⊎ ((4294967296 ≤ m) × (short m ≡ 4294967295)) → ((n < 4294967296) × (short n ≡ n)) ⊎ ((4294967296 ≤ n) × (short n ≡ 4294967295)) → short m ≤ short n
    by (inl a) (inl b) = omega (arith, h, a.1, b.1)
    by (inl a) (inr b) = omega (arith, h, a.0, a.1, b.1)
    by (inr a) (inl b) = absurd (omega (arith, h, a.0, b.0))
    by (inr a) (inr b) = omega (arith, a.1, b.1)

more_by : (n m r : ℕ) → n ≡ short m → ((n < 4294967295) × (r ≡ n + 1)) ⊎ ((4294967295 ≤ n) × (r ≡ n)) → r ≡ short (m + 1)
more_by n m r e h = by (short_cases m) (short_cases (m + 1)) h
  where
    by : ((m < 4294967296) × (short m ≡ m)) ⊎ ((4294967296 ≤ m) × (short m ≡ 4294967295)) → ((m + 1 < 4294967296) × (short (m + 1) ≡ m + 1)) ⊎ ((4294967296 ≤ m + 1) × (short (m + 1) ≡ 4294967295)) → ((n < 4294967295) × (r ≡ n + 1)) ⊎ ((4294967295 ≤ n) × (r ≡ n)) → r ≡ short (m + 1)
    by (inl a) (inl b) (inl c) = omega (arith, e, a.1, b.1, c.1)
    by (inl a) (inl b) (inr c) = absurd (omega (arith, e, a.1, b.0, c.0))
    by (inl a) (inr b) (inl c) = absurd (omega (arith, e, a.1, b.0, c.0))
    by (inl a) (inr b) (inr c) = omega (arith, e, a.0, a.1, b.0, b.1, c.1)
    by (inr a) (inl b) c = absurd (omega (arith, a.0, b.0))
    by (inr a) (inr b) (inl c) = absurd (omega (arith, e, a.1, c.0))
    by (inr a) (inr b) (inr c) = omega (arith, e, a.1, b.1, c.1)

pub more_law : (n m : ℕ) → n < 4294967295 → n ≡ short m → n + 1 ≡ short (m + 1)
more_law n m l e = more_by n m (n + 1) e (inl (l, refl))

pub most_law : (n m : ℕ) → 4294967295 ≤ n → n ≡ short m → n ≡ short (m + 1)
most_law n m l e = more_by n m n e (inr (l, refl))

pub greater_law : (a b m n r : ℕ) → a ≡ short m → b ≡ short n → ((a < b) × (r ≡ b)) ⊎ ((b ≤ a) × (r ≡ a)) → r ≡ short (max m n)
greater_law a b m n r e f h = by (either_way m n) h
  where
    by : (m ≤ n) ⊎ (n ≤ m) → ((a < b) × (r ≡ b)) ⊎ ((b ≤ a) × (r ≡ a)) → r ≡ short (max m n)
    by (inl l) (inl c) = c.1 ∙ f ∙ ap short (sym (max-eq_right l))
    by (inl l) (inr c) = let k = grown m n l in let same : r ≡ short n = omega (arith, e, f, c.0, c.1, k) in same ∙ ap short (sym (max-eq_right l))
    by (inr l) (inl c) = let k = grown n m l in absurd (omega (arith, e, f, c.0, k))
    by (inr l) (inr c) = c.1 ∙ e ∙ ap short (sym (max-eq_left l))

pub second_law : (a b m n : ℕ) → a < b → a ≡ short m → b ≡ short n → b ≡ short (max m n)
second_law a b m n l e f = greater_law a b m n b e f (inl (l, refl))

pub first_law : (a b m n : ℕ) → b ≤ a → a ≡ short m → b ≡ short n → a ≡ short (max m n)
first_law a b m n l e f = greater_law a b m n a e f (inr (l, refl))

pub kept_law : (a : Access) (es : List Expr) → es ≡ a.subscripts.items → short (max 1 (operands_kept (terms (map term es)))) ≡ short (max 1 (operands_kept (access_of a).subscripts))
kept_law a es h =
    ap (λ (xs : List Expr). short (max 1 (operands_kept (terms (map term xs))))) h
    ∙ ap (λ (ts : Terms). short (max 1 (operands_kept ts))) (sym (subscripts_of a))

pub kept_done : (es : List Expr) (n most : ℕ) → n ≤ 0 → most ≡ short (operands_kept (terms (map term (drop n es)))) → most ≡ short (operands_kept (terms (map term es)))
kept_done es n most h e = let z : n ≡ 0 = omega (arith, h) in e ∙ ap (λ (k : ℕ). short (operands_kept (terms (map term (drop k es))))) z

pub further_done : (es : List Expr) (n most : ℕ) → n ≤ 1 → (1 ≤ length es → 1 ≤ n) → most ≡ short (operands_further (terms (map term (drop n es)))) → most ≡ short (operands_further (terms (map term (drop 1 es))))
further_done [] zero most h some e = e
further_done [] (suc n) most h some e = e
further_done (x ∷ es) n most h some e = let k = some (omega arith) in let one : n ≡ 1 = omega (arith, h, k) in e ∙ ap (λ (j : ℕ). short (operands_further (terms (map term (drop j (x ∷ es)))))) one
