-- The value of a constant expression, by the values of its parts.
use Rattle.std.proofs.Common.{◌≡◌, ℤ, List, ◌∷◌, refl, Option, Some, None, Result, Ok, Err}
use Rattle.std.specs.Prelude.{option_and_then}
use Rattle.std.specs.Result.{result_ok}
use Rattle.ast.specs.Exact.{prefixed_value, value_of}
use Rattle.ast.specs.Meaning.{value, values}
use Rattle.ast.specs.Results.{◌>>=◌}
use Rattle.ast.specs.Tree.{Ref, Term, Terms, element, unary, binary, then_term}
use Rattle.ast.specs.declared.expression.Operator.{Operator}
use Rattle.ast.specs.declared.expression.Prefix.{Prefix}
use Rattle.ast.specs.declared.fault.Fault.{Fault}
use Rattle.profile_check.specs.Declarations.{Constants, or_fault, constants_look, constant_value}
use Rattle.profile_check.specs.Erasure.{ref_to, erased, all_erased}

pub name_law : (o : Option ℤ) → result_ok (or_fault o) ≡ o
name_law None = refl
name_law (Some n) = refl

-- a name with a list has no value
listed : (cs : Constants) (r : Ref) (v : Result ℤ Fault) (vs : Result (List ℤ) Fault)
    → result_ok ((v >>= λ x. vs >>= λ xs. Ok (x ∷ xs)) >>= λ xs. constants_look cs r xs) ≡ None
listed cs r (Err f) vs = refl
listed cs r (Ok x) (Err f) = refl
listed cs r (Ok x) (Ok xs) = refl

pub list_law : (cs : Constants) (r : Ref) (e : Term) (es : Terms) → constant_value cs (element r (then_term e es)) ≡ None
list_law cs r e es = listed cs (ref_to r.name) (value (constants_look cs) (erased e)) (values (constants_look cs) (all_erased es))

followed : (r : Result ℤ Fault) (next : ℤ → Result ℤ Fault) → result_ok (r >>= next) ≡ option_and_then (λ a. result_ok (next a)) (result_ok r)
followed (Ok a) next = refl
followed (Err f) next = refl

pub prefixed_law : (cs : Constants) (p : Prefix) (e : Term) → constant_value cs (unary p e) ≡ option_and_then (λ a. result_ok (prefixed_value p a)) (constant_value cs e)
prefixed_law cs p e = followed (value (constants_look cs) (erased e)) (λ a. prefixed_value p a)

both : (r s : Result ℤ Fault) (next : ℤ → ℤ → Result ℤ Fault)
    → result_ok (r >>= λ u. s >>= λ v. next u v) ≡ option_and_then (λ u. option_and_then (λ v. result_ok (next u v)) (result_ok s)) (result_ok r)
both (Ok u) s next = followed s (next u)
both (Err f) s next = refl

pub binary_law : (cs : Constants) (o : Operator) (a b : Term)
    → constant_value cs (binary o a b) ≡ option_and_then (λ u. option_and_then (λ v. result_ok (value_of o u v)) (constant_value cs b)) (constant_value cs a)
binary_law cs o a b = both (value (constants_look cs) (erased a)) (value (constants_look cs) (erased b)) (λ u v. value_of o u v)
