-- What an intrinsic function gives, by how many arguments there are.
use Rattle.std.proofs.Common.{◌≡◌, ◌∙◌, ◌-◌, ◌<◌, ◌≤◌, ℤ, pos, inl, inr, List, [], ◌∷◌, Result, Ok, sym, ap, arith, length, take, drop, get_or}
use Rattle.std.specs.Prelude.{◌⊎◌}
use Rattle.std.proofs.lemmas.List.{take_all}
use Rattle.ast.specs.Exact.{absolute, greatest, intrinsic_value, least, remainder}
use Rattle.ast.specs.declared.expression.Intrinsic.{Intrinsic}
use Rattle.ast.specs.declared.expression.Intrinsic.TheVariants.{Abs, Iabs, Max, Max0, Min, Min0, Mod}
use Rattle.ast.specs.declared.fault.Fault.{Fault}

-- one argument
pub absolute_of : (f : Intrinsic) (xs : List ℤ) (x : ℤ) (r : Result ℤ Fault) → 1 ≤ length xs → length xs < 2 → (f ≡ Abs) ⊎ (f ≡ Iabs) → x ≡ get_or xs 0 (pos 0) → r ≡ absolute x → r ≡ intrinsic_value f xs
absolute_of f [] x r h k is at given = absurd (omega (arith, h))
absolute_of f (a ∷ []) x r h k (inl is) at given = given ∙ ap absolute at ∙ ap (λ g. intrinsic_value g (a ∷ [])) (sym is)
absolute_of f (a ∷ []) x r h k (inr is) at given = given ∙ ap absolute at ∙ ap (λ g. intrinsic_value g (a ∷ [])) (sym is)
absolute_of f (a ∷ b ∷ xs) x r h k is at given = absurd (omega (arith, k))

pub same_of : (f : Intrinsic) (xs : List ℤ) (x : ℤ) → 1 ≤ length xs → length xs < 2 → (f ≡ Max) ⊎ ((f ≡ Max0) ⊎ ((f ≡ Min) ⊎ (f ≡ Min0))) → x ≡ get_or xs 0 (pos 0) → ◌≡◌ {A = Result ℤ Fault} (Ok x) (intrinsic_value f xs)
same_of f [] x h k is at = absurd (omega (arith, h))
same_of f (a ∷ []) x h k (inl is) at = ap Ok at ∙ ap (λ g. intrinsic_value g (a ∷ [])) (sym is)
same_of f (a ∷ []) x h k (inr (inl is)) at = ap Ok at ∙ ap (λ g. intrinsic_value g (a ∷ [])) (sym is)
same_of f (a ∷ []) x h k (inr (inr (inl is))) at = ap Ok at ∙ ap (λ g. intrinsic_value g (a ∷ [])) (sym is)
same_of f (a ∷ []) x h k (inr (inr (inr is))) at = ap Ok at ∙ ap (λ g. intrinsic_value g (a ∷ [])) (sym is)
same_of f (a ∷ b ∷ xs) x h k is at = absurd (omega (arith, k))

-- two
pub remainder_of : (f : Intrinsic) (xs : List ℤ) (x y : ℤ) (r : Result ℤ Fault) → 2 ≤ length xs → length xs < 3 → f ≡ Mod → x ≡ get_or xs 0 (pos 0) → y ≡ get_or xs 1 (pos 0) → r ≡ remainder x y → r ≡ intrinsic_value f xs
remainder_of f [] x y r h k is at next given = absurd (omega (arith, h))
remainder_of f (a ∷ []) x y r h k is at next given = absurd (omega (arith, h))
remainder_of f (a ∷ b ∷ []) x y r h k is at next given =
    given ∙ ap (λ z. remainder z y) at ∙ ap (λ z. remainder a z) next ∙ ap (λ g. intrinsic_value g (a ∷ b ∷ [])) (sym is)
remainder_of f (a ∷ b ∷ c ∷ xs) x y r h k is at next given = absurd (omega (arith, k))

-- one or more
pub greatest_of : (f : Intrinsic) (xs : List ℤ) (x r : ℤ) → 1 ≤ length xs → (f ≡ Max) ⊎ (f ≡ Max0) → x ≡ get_or xs 0 (pos 0) → r ≡ greatest x (take (length xs - 1) (drop 1 xs)) → ◌≡◌ {A = Result ℤ Fault} (Ok r) (intrinsic_value f xs)
greatest_of f [] x r h is at given = absurd (omega (arith, h))
greatest_of f (a ∷ xs) x r h is at given =
    ap Ok (given ∙ ap (λ y. greatest y (take (length (a ∷ xs) - 1) xs)) at ∙ ap (λ l. greatest a l) (take_all (length (a ∷ xs) - 1) xs (omega arith))) ∙ by is
  where
    by : (f ≡ Max) ⊎ (f ≡ Max0) → ◌≡◌ {A = Result ℤ Fault} (Ok (greatest a xs)) (intrinsic_value f (a ∷ xs))
    by (inl e) = ap (λ g. intrinsic_value g (a ∷ xs)) (sym e)
    by (inr e) = ap (λ g. intrinsic_value g (a ∷ xs)) (sym e)

pub least_of : (f : Intrinsic) (xs : List ℤ) (x r : ℤ) → 1 ≤ length xs → (f ≡ Min) ⊎ (f ≡ Min0) → x ≡ get_or xs 0 (pos 0) → r ≡ least x (take (length xs - 1) (drop 1 xs)) → ◌≡◌ {A = Result ℤ Fault} (Ok r) (intrinsic_value f xs)
least_of f [] x r h is at given = absurd (omega (arith, h))
least_of f (a ∷ xs) x r h is at given =
    ap Ok (given ∙ ap (λ y. least y (take (length (a ∷ xs) - 1) xs)) at ∙ ap (λ l. least a l) (take_all (length (a ∷ xs) - 1) xs (omega arith))) ∙ by is
  where
    by : (f ≡ Min) ⊎ (f ≡ Min0) → ◌≡◌ {A = Result ℤ Fault} (Ok (least a xs)) (intrinsic_value f (a ∷ xs))
    by (inl e) = ap (λ g. intrinsic_value g (a ∷ xs)) (sym e)
    by (inr e) = ap (λ g. intrinsic_value g (a ∷ xs)) (sym e)
