-- Counts that go no further than one more than the most.
use Rattle.std.proofs.Common.{◌≡◌, ◌∙◌, ℕ, suc, ◌+◌, ◌*◌, ◌<◌, ◌^◌, Bool, true, false, [], ◌∷◌, ◌++◌, refl, ap, sym, arith, ◌≤◌}
use Rattle.std.proofs.lemmas.Bool.{lt-ltb, ltb-true, ltb-false}
use Rattle.std.specs.Prelude.{nat_lt, if◌then◌else◌}
use Rattle.ast.specs.Symbols.{most_elements}
use Rattle.profile_check.specs.Counted.{few_or_more, counted}
use Rattle.profile_check.specs.Declarations.{Arrays, array_elements, total_elements}

cut_at : (n : ℕ) (b : Bool) → nat_lt most_elements n ≡ b → few_or_more n ≡ (if b then suc most_elements else n)
cut_at n b h = ap (λ c. if c then suc most_elements else n) h

mul-grows : (k e : ℕ) → e ≤ suc k * e
mul-grows k e = omega arith

over : (k e : ℕ) → nat_lt most_elements e ≡ true → nat_lt most_elements (suc k * e) ≡ true
over k e h = lt-ltb most_elements (suc k * e) (let below = ltb-true most_elements e h in omega (arith, below, mul-grows k e))

pub product : (k e : ℕ) (b : Bool) → nat_lt most_elements e ≡ b → few_or_more (suc k * few_or_more e) ≡ few_or_more (suc k * e)
product k e false h = ap (λ x. few_or_more (suc k * x)) (cut_at e false h)
product k e true h =
    ap (λ x. few_or_more (suc k * x)) (cut_at e true h) ∙ cut_at (suc k * suc most_elements) true (over k (suc most_elements) refl)
    ∙ sym (cut_at (suc k * e) true (over k e h))

pub product_law : (w k e : ℕ) → w ≡ k + 1 → few_or_more (w * few_or_more e) ≡ few_or_more (w * e)
product_law w k e h =
    let same : w ≡ suc k = omega (arith, h) in
    ap (λ x. few_or_more (x * few_or_more e)) same ∙ product k e (nat_lt most_elements e) refl ∙ ap (λ x. few_or_more (x * e)) (sym same)

sum : (t e : ℕ) (b : Bool) → nat_lt most_elements e ≡ b → few_or_more (t + few_or_more e) ≡ few_or_more (t + e)
sum t e false h = ap (λ x. few_or_more (t + x)) (cut_at e false h)
sum t e true h =
    ap (λ x. few_or_more (t + x)) (cut_at e true h) ∙ cut_at (t + suc most_elements) true (lt-ltb most_elements (t + suc most_elements) (omega arith)) ∙ sym (cut_at (t + e) true (lt-ltb most_elements (t + e) (let below = ltb-true most_elements e h in omega (arith, below))))

pub sum_law : (t e : ℕ) → few_or_more (t + few_or_more e) ≡ few_or_more (t + e)
sum_law t e = sum t e (nat_lt most_elements e) refl

not-lt : (n : ℕ) → nat_lt most_elements n ≡ false → n ≤ most_elements
not-lt n h = ltb-false most_elements n h

few_by : (n : ℕ) (b : Bool) → nat_lt most_elements n ≡ b → few_or_more n < 2 ^ 32
few_by n true h = omega (arith, cut_at n true h)
few_by n false h = let same = cut_at n false h in let low = not-lt n h in omega (arith, same, low)

pub few : (n : ℕ) → few_or_more n < 2 ^ 32
few n = few_by n (nat_lt most_elements n) refl

-- ---- the count and the sum

regrouped : (f : ℕ → ℕ) (a b c : ℕ) → f ((a + b) + c) ≡ f (a + (b + c))
regrouped f a b c = ap f (let z : (a + b) + c ≡ a + (b + c) = omega arith in z)

no-more : (n : ℕ) → n ≡ n + 0
no-more n = omega arith

few-before : (n m : ℕ) → few_or_more (few_or_more n + m) ≡ few_or_more (n + m)
few-before n m =
    let turned : few_or_more n + m ≡ m + few_or_more n = omega arith in
    let back : m + n ≡ n + m = omega arith in
    ap few_or_more turned ∙ sum_law m n ∙ ap few_or_more back

-- the count is the sum, as far as it goes
pub counted_law : (n : ℕ) (more : Arrays) → counted (few_or_more n) more ≡ few_or_more (n + total_elements more)
counted_law n [] = ap few_or_more (no-more n)
counted_law n (a ∷ more) =
    ap (λ t. counted t more) (few-before n (array_elements a.1)) ∙ counted_law (n + array_elements a.1) more ∙ regrouped few_or_more n (array_elements a.1) (total_elements more)

limit : (n m : ℕ) (b : Bool) → nat_lt most_elements n ≡ b → nat_lt most_elements (few_or_more n + m) ≡ nat_lt most_elements (n + m)
limit n m false h = ap (λ k. nat_lt most_elements (k + m)) (cut_at n false h)
limit n m true h =
    ap (λ k. nat_lt most_elements (k + m)) (cut_at n true h)
    ∙ lt-ltb most_elements (suc most_elements + m) (omega arith)
    ∙ sym (lt-ltb most_elements (n + m) (let below = ltb-true most_elements n h in omega (arith, below)))

pub limit_before : (n m : ℕ) → nat_lt most_elements (few_or_more n + m) ≡ nat_lt most_elements (n + m)
limit_before n m = limit n m (nat_lt most_elements n) refl

-- the count is above the limit where the sum is
pub limit_law : (n : ℕ) (more : Arrays) → nat_lt most_elements (counted n more) ≡ nat_lt most_elements (n + total_elements more)
limit_law n [] = ap (nat_lt most_elements) (no-more n)
limit_law n (a ∷ more) =
    let sum : (n + array_elements a.1) + total_elements more ≡ n + (array_elements a.1 + total_elements more) = omega arith in
    limit_law (few_or_more (n + array_elements a.1)) more ∙ limit_before (n + array_elements a.1) (total_elements more) ∙ ap (nat_lt most_elements) sum

pub total-append : (arrays more : Arrays) → total_elements (arrays ++ more) ≡ total_elements arrays + total_elements more
total-append [] more = let z : total_elements more ≡ 0 + total_elements more = omega arith in z
total-append (a ∷ arrays) more = let rest = total-append arrays more in omega (arith, rest)
