-- A constant expression has its value on any store, so known trips are those that are made.
use Rattle.std.proofs.Common.{◌≡◌, ◌∙◌, ℕ, ℤ, pos, Bool, true, false, List, ◌∷◌, Option, Some, None, Result, Ok, Err, refl, sym, ap}
use Rattle.std.specs.Prelude.{if◌then◌else◌}
use Rattle.std.specs.Ordering.{int_eq}
use Rattle.std.specs.Result.{result_ok}
use Rattle.ast.specs.Exact.{intrinsic_value, prefixed_value, trips, value_of}
use Rattle.ast.specs.Meaning.{LookUp, step_value, value, values}
use Rattle.ast.specs.Results.{◌>>=◌}
use Rattle.ast.specs.Tree.{Term, constant, truth, parameter, element, call, parentheses, unary, binary, Terms, no_terms, then_term, DoHead}
use Rattle.ast.specs.declared.fault.Fault.{Fault}
use Rattle.loop_tree.specs.Constants.{constant_value, if_some, no_variables, step_of, trips_by, trips_of}

-- a value, and what comes of it
both : {X Y : Type 0} (r s : Result X Fault) (f g : X → Result Y Fault) (y : Y) → ((x : X) → r ≡ Ok x → s ≡ Ok x) → ((x : X) → f x ≡ Ok y → g x ≡ Ok y) → (r >>= f) ≡ Ok y → (s >>= g) ≡ Ok y
both {Y = Y} (Ok x) s f g y h k e = ap (λ (z : Result _ Fault). z >>= g) (h x refl) ∙ k x e
both (Err c) s f g y h k e = cc

module _ (look : LookUp) where
  mutual
    pub known : (e : Term) (v : ℤ) → value no_variables e ≡ Ok v → value look e ≡ Ok v
    known (constant n) v h = h
    known (truth b) v h = h
    known (parameter x n) v h = h
    known (element r es) v h = by (values no_variables es) h
      where
        by : (q : Result (List ℤ) Fault) → (q >>= λ xs. no_variables r xs) ≡ Ok v → value look (element r es) ≡ Ok v
        by (Ok xs) k = cc
        by (Err f) k = cc
    known (call f es) v h = both (values no_variables es) (values look es) (λ xs. intrinsic_value f xs) (λ xs. intrinsic_value f xs) v (λ xs k. all_known es xs k) (λ xs k. k) h
    known (parentheses e) v h = known e v h
    known (unary o e) v h = both (value no_variables e) (value look e) (λ a. prefixed_value o a) (λ a. prefixed_value o a) v (λ a k. known e a k) (λ a k. k) h
    known (binary o a b) v h =
        both (value no_variables a) (value look a) (λ x. value no_variables b >>= λ y. value_of o x y) (λ x. value look b >>= λ y. value_of o x y) v (λ x k. known a x k)
        (λ x k. both (value no_variables b) (value look b) (λ y. value_of o x y) (λ y. value_of o x y) v (λ y m. known b y m) (λ y m. m) k) h

    all_known : (es : Terms) (vs : List ℤ) → values no_variables es ≡ Ok vs → values look es ≡ Ok vs
    all_known no_terms vs h = h
    all_known (then_term e es) vs h =
        both (value no_variables e) (value look e) (λ x. values no_variables es >>= λ xs. Ok (x ∷ xs)) (λ x. values look es >>= λ xs. Ok (x ∷ xs)) vs (λ x k. known e x k)
        (λ x k. both (values no_variables es) (values look es) (λ xs. Ok (x ∷ xs)) (λ xs. Ok (x ∷ xs)) vs (λ xs m. all_known es xs m) (λ xs m. m) k) h

  is_ok : {X : Type 0} (r : Result X Fault) (x : X) → result_ok r ≡ Some x → r ≡ Ok x
  is_ok {X} (Ok y) x h = let is : y ≡ x = cc in ap (λ (z : X). Ok z) is
  is_ok (Err f) x h = cc

  pub constant_is : (e : Term) (v : ℤ) → constant_value e ≡ Some v → value look e ≡ Ok v
  constant_is e v h = known e v (is_ok (value no_variables e) v h)

  pub step_is : (s : Option Term) (v : ℤ) → result_ok (step_value no_variables s) ≡ Some v → step_value look s ≡ Ok v
  step_is None v h = is_ok (step_value look None) v h
  step_is (Some e) v h = constant_is e v h

  -- known trips are those of the values
  pub trips_are : (d : DoHead) (n : ℕ) (m1 m2 m3 : ℤ) → trips_of d ≡ Some n → value look d.first ≡ Ok m1 → value look d.last ≡ Ok m2 → step_value look d.step ≡ Ok m3 → trips m1 m2 m3 ≡ n
  trips_are d n m1 m2 m3 h e1 e2 e3 = by (constant_value d.first) (constant_value d.last) (step_of d) refl refl refl h
    where
      same : (x y : ℤ) (r : Result ℤ Fault) → r ≡ Ok x → r ≡ Ok y → x ≡ y
      same x y r a b = let z : Ok x ≡ Ok y = sym a ∙ b in cc

      told : (a b c : ℤ) (z : Bool) → (if z then None else Some (trips a b c)) ≡ Some n → trips a b c ≡ n
      told a b c true k = cc
      told a b c false k = cc

      by : (a b c : Option ℤ) → constant_value d.first ≡ a → constant_value d.last ≡ b → step_of d ≡ c → if_some a (λ x. if_some b (λ y. if_some c (λ z. trips_by x y z))) ≡ Some n → trips m1 m2 m3 ≡ n
      by (Some a) (Some b) (Some c) f g k q =
          let x : m1 ≡ a = same m1 a (value look d.first) e1 (constant_is d.first a f) in
          let y : m2 ≡ b = same m2 b (value look d.last) e2 (constant_is d.last b g) in
          let z : m3 ≡ c = same m3 c (step_value look d.step) e3 (step_is d.step c k) in
          ap (λ (i : ℤ). trips i m2 m3) x ∙ ap (λ (i : ℤ). trips a i m3) y ∙ ap (λ (i : ℤ). trips a b i) z ∙ told a b c (int_eq c (pos 0)) q
      by None b c f g k q = cc
      by (Some a) None c f g k q = cc
      by (Some a) (Some b) None f g k q = cc
