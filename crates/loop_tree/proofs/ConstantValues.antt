-- The value of a constant expression, by the values of its parts.
use Rattle.std.proofs.Common.{◌≡◌, ◌∙◌, ◌+◌, ◌<◌, ◌≤◌, ap, sym, refl, subst, ℕ, ℤ, List, [], ◌∷◌, Option, Some, None, Result, Ok, Err, length, map, drop, get_or}
use Rattle.std.proofs.lemmas.List.{append_assoc, append-nil, drop_all, drop_more}
use Rattle.std.specs.Prelude.{◌++◌, IfOk, option_map}
use Rattle.std.specs.Result.{result_ok}
use Rattle.ast.specs.Exact.{intrinsic_value, prefixed_value, value_of}
use Rattle.ast.specs.Meaning.{value, values}
use Rattle.ast.specs.Results.{◌>>=◌}
use Rattle.ast.specs.Tree.{Ref, Term, Terms, element, call, terms, unary, binary, no_terms, then_term}
use Rattle.ast.specs.View.{term}
use Rattle.ast.specs.declared.expression.Expr.{Expr}
use Rattle.ast.specs.declared.expression.Intrinsic.{Intrinsic}
use Rattle.ast.specs.declared.expression.Operator.{Operator}
use Rattle.ast.specs.declared.expression.Prefix.{Prefix}
use Rattle.ast.specs.declared.fault.Fault.{Fault}
use Rattle.loop_tree.specs.Constants.{if_some, no_variables, constant_value, constant_values}

followed : {X Y : Type 0} (r : Result X Fault) (next : X → Result Y Fault) → result_ok (r >>= next) ≡ if_some (result_ok r) (λ x. result_ok (next x))
followed (Ok x) next = refl
followed (Err f) next = refl

-- what a variable is in has no value
pub element_law : (r : Ref) (es : Terms) → constant_value (element r es) ≡ None
element_law r es = by (values no_variables es)
  where
    by : (xs : Result (List ℤ) Fault) → result_ok (xs >>= λ ys. no_variables r ys) ≡ None
    by (Ok ys) = refl
    by (Err f) = refl

pub call_law : (f : Intrinsic) (es : Terms) → constant_value (call f es) ≡ if_some (constant_values es) (λ xs. result_ok (intrinsic_value f xs))
call_law f es = followed (values no_variables es) (λ xs. intrinsic_value f xs)

pub prefixed_law : (p : Prefix) (e : Term) → constant_value (unary p e) ≡ if_some (constant_value e) (λ a. result_ok (prefixed_value p a))
prefixed_law p e = followed (value no_variables e) (λ a. prefixed_value p a)

both : (r s : Result ℤ Fault) (next : ℤ → ℤ → Result ℤ Fault)
    → result_ok (r >>= λ u. s >>= λ v. next u v) ≡ if_some (result_ok r) (λ u. if_some (result_ok s) (λ v. result_ok (next u v)))
both (Ok u) s next = followed s (next u)
both (Err f) s next = refl

pub binary_law : (o : Operator) (a b : Term) → constant_value (binary o a b) ≡ if_some (constant_value a) (λ u. if_some (constant_value b) (λ v. result_ok (value_of o u v)))
binary_law o a b = both (value no_variables a) (value no_variables b) (λ u v. value_of o u v)

pub operation_law : (o : Operator) (e a b : Term) (u v w : Option ℤ) → e ≡ binary o a b → u ≡ constant_value a → v ≡ constant_value b
    → w ≡ if_some u (λ x. if_some v (λ y. result_ok (value_of o x y))) → w ≡ constant_value e
operation_law o e a b u v w i h k r =
    r
    ∙ ap (λ (z : Option ℤ). if_some z (λ x. if_some v (λ y. result_ok (value_of o x y)))) h
    ∙ ap (λ (z : Option ℤ). if_some (constant_value a) (λ x. if_some z (λ y. result_ok (value_of o x y)))) k
    ∙ sym (binary_law o a b)
    ∙ ap constant_value (sym i)

-- values behind others
abbrev pub behind : List ℤ → Option (List ℤ) → Option (List ℤ)
behind xs o = option_map (λ ys. xs ++ ys) o

one_more : (xs : List ℤ) (r : Result ℤ Fault) (s : Result (List ℤ) Fault)
    → behind xs (result_ok (r >>= λ y. s >>= λ ys. Ok (y ∷ ys))) ≡ if_some (result_ok r) (λ y. behind (xs ++ y ∷ []) (result_ok s))
one_more xs (Ok y) (Ok ys) = ap (λ zs. Some zs) (sym (append_assoc xs (y ∷ []) ys))
one_more xs (Ok y) (Err f) = refl
one_more xs (Err f) s = refl

pub next_value : (xs : List ℤ) (e : Term) (es : Terms) → behind xs (constant_values (then_term e es)) ≡ if_some (constant_value e) (λ y. behind (xs ++ y ∷ []) (constant_values es))
next_value xs e es = one_more xs (value no_variables e) (values no_variables es)

pub no_values : (xs : List ℤ) → behind xs (constant_values no_terms) ≡ Some xs
no_values xs = ap (λ ys. Some ys) (append-nil xs)

pub from_none : (o : Option (List ℤ)) → behind [] o ≡ o
from_none None = refl
from_none (Some ys) = refl

-- an answer on one tree is one on another that it is
pub of_tree : {E : Type 0} (r : Result (Option ℤ) E) (t u : Term) → t ≡ u → IfOk r (λ v. v ≡ constant_value u) → IfOk r (λ v. v ≡ constant_value t)
of_tree r t u is h = subst (λ (x : Term). IfOk r (λ v. v ≡ constant_value x)) (sym is) h

-- what an operator or an intrinsic makes of what there is
pub called : (f : Intrinsic) (es : Terms) (xs : List ℤ) (r : Result ℤ Fault) (v : Option ℤ) → v ≡ result_ok r → r ≡ intrinsic_value f xs → Some xs ≡ constant_values es → v ≡ constant_value (call f es)
called f es xs r v is given known =
    is ∙ ap result_ok given
    ∙ ap (λ (o : Option (List ℤ)). if_some o (λ ys. result_ok (intrinsic_value f ys))) known
    ∙ sym (call_law f es)

pub not_called : (f : Intrinsic) (es : Terms) → None ≡ constant_values es → None ≡ constant_value (call f es)
not_called f es known = ap (λ (o : Option (List ℤ)). if_some o (λ ys. result_ok (intrinsic_value f ys))) known ∙ sym (call_law f es)

pub prefixed : (t e : Term) (p : Prefix) (a : ℤ) (r : Result ℤ Fault) (v : Option ℤ) → t ≡ unary p e → v ≡ result_ok r → r ≡ prefixed_value p a → Some a ≡ constant_value e → v ≡ constant_value t
prefixed t e p a r v tree is given known =
    is ∙ ap result_ok given
    ∙ ap (λ (o : Option ℤ). if_some o (λ y. result_ok (prefixed_value p y))) known
    ∙ sym (prefixed_law p e)
    ∙ ap constant_value (sym tree)

pub not_prefixed : (t e : Term) (p : Prefix) → t ≡ unary p e → None ≡ constant_value e → None ≡ constant_value t
not_prefixed t e p tree known = ap (λ (o : Option ℤ). if_some o (λ y. result_ok (prefixed_value p y))) known ∙ sym (prefixed_law p e) ∙ ap constant_value (sym tree)

-- the same of each of a list of expressions
left_at : (xs : List ℤ) (es : List Expr) (i : ℕ) (e : Expr) (v : Option ℤ) (whole : Option (List ℤ)) → i < length es → e ≡ get_or es i e → v ≡ constant_value (term e)
    → behind xs (constant_values (terms (map term (drop i es)))) ≡ whole → if_some v (λ y. behind (xs ++ y ∷ []) (constant_values (terms (map term (drop (i + 1) es))))) ≡ whole
left_at xs es i e v whole h is known so_far =
    let rest = constant_values (terms (map term (drop (i + 1) es))) in
    ap (λ (o : Option ℤ). if_some o (λ y. behind (xs ++ y ∷ []) rest)) known
    ∙ ap (λ (x : Expr). if_some (constant_value (term x)) (λ y. behind (xs ++ y ∷ []) rest)) is
    ∙ sym (next_value xs (term (get_or es i e)) (terms (map term (drop (i + 1) es))))
    ∙ sym (ap (λ (l : List Expr). behind xs (constant_values (terms (map term l)))) (drop_more es i e h))
    ∙ so_far

pub none_in : (xs : List ℤ) (es : List Expr) (i : ℕ) (e : Expr) (whole : Option (List ℤ)) → i < length es → e ≡ get_or es i e → None ≡ constant_value (term e)
    → behind xs (constant_values (terms (map term (drop i es)))) ≡ whole → None ≡ whole
none_in xs es i e whole h is known so_far = left_at xs es i e None whole h is known so_far

pub some_in : (xs longer : List ℤ) (es : List Expr) (i : ℕ) (e : Expr) (y : ℤ) (whole : Option (List ℤ)) → i < length es → e ≡ get_or es i e → Some y ≡ constant_value (term e) → longer ≡ xs ++ y ∷ []
    → behind xs (constant_values (terms (map term (drop i es)))) ≡ whole → behind longer (constant_values (terms (map term (drop (i + 1) es)))) ≡ whole
some_in xs longer es i e y whole h is known more so_far =
    ap (λ (l : List ℤ). behind l (constant_values (terms (map term (drop (i + 1) es))))) more ∙ left_at xs es i e (Some y) whole h is known so_far

pub all_in : (xs : List ℤ) (es : List Expr) (i : ℕ) (whole : Option (List ℤ)) → length es ≤ i → behind xs (constant_values (terms (map term (drop i es)))) ≡ whole → Some xs ≡ whole
all_in xs es i whole h so_far = sym (no_values xs) ∙ sym (ap (λ (l : List Expr). behind xs (constant_values (terms (map term l)))) (drop_all i es h)) ∙ so_far
