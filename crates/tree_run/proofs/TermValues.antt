-- What expressions give, by their parts.
use Rattle.std.proofs.Common.{◌≡◌, ◌∙◌, Box, List, Vec, Global, Bool, map, Result, Ok, ap, sym}
use Rattle.std.specs.Prelude.{ℤ}
use Rattle.ast.proofs.Terms.{call_of, constant_of, element_of, parameter_of, parentheses_of, truth_of}
use Rattle.ast.specs.Exact.{prefixed_value, truth_value, value_of}
use Rattle.ast.specs.Meaning.{LookUp, value}
use Rattle.ast.specs.Results.{◌>>=◌}
use Rattle.ast.specs.Tree.{Term, accessed, binary, call, terms, unary}
use Rattle.ast.specs.View.{access, term}
use Rattle.ast.specs.declared.expression.Access.{Access}
use Rattle.ast.specs.declared.expression.Expr.{Expr}
use Rattle.ast.specs.declared.expression.Expr.TheVariants.{Call, Constant, Element, Parameter, Parentheses, Truth}
use Rattle.ast.specs.declared.expression.Intrinsic.{Intrinsic}
use Rattle.ast.specs.declared.expression.Operator.{Operator}
use Rattle.ast.specs.declared.expression.Prefix.{Prefix}
use Rattle.ast.specs.declared.fault.Fault.{Fault}
use Rattle.ast.specs.declared.name.Name.{Name}

-- what an expression gives that is one of these
pub constant_value : (look : LookUp) (t : Expr) (n : ℤ) → t ≡ Constant n → Ok n ≡ value look (term t)
constant_value look t n is = sym (ap (λ (u : Term). value look u) (constant_of t n is))

pub truth_value_of : (look : LookUp) (t : Expr) (b : Bool) → t ≡ Truth b → Ok (truth_value b) ≡ value look (term t)
truth_value_of look t b is = sym (ap (λ (u : Term). value look u) (truth_of t b is))

pub parameter_value : (look : LookUp) (t : Expr) (x : Name) (n : ℤ) → t ≡ Parameter x n → Ok n ≡ value look (term t)
parameter_value look t x n is = sym (ap (λ (u : Term). value look u) (parameter_of t x n is))

pub element_value : (look : LookUp) (t : Expr) (a : Access) → t ≡ Element a → value look (accessed (access a)) ≡ value look (term t)
element_value look t a is = sym (ap (λ (u : Term). value look u) (element_of t a is))

pub call_value : (look : LookUp) (t : Expr) (f : Intrinsic) (es : Vec Expr Global) (others : List Expr) → t ≡ Call f es → others ≡ es.items → value look (call f (terms (map term others))) ≡ value look (term t)
call_value look t f es others is same = sym (ap (λ (u : Term). value look u) (call_of t f es others is same))

pub parentheses_value : (look : LookUp) (t : Expr) (e : Box Expr Global) (inner : Expr) → t ≡ Parentheses e → inner ≡ e.value → value look (term inner) ≡ value look (term t)
parentheses_value look t e inner is same = sym (ap (λ (u : Term). value look u) (parentheses_of t e inner is same))

-- what an expression makes of what its operands gave
pub unary_value : (look : LookUp) (t e : Term) (p : Prefix) (r : Result ℤ Fault) → t ≡ unary p e → value look e ≡ r → (r >>= λ a. prefixed_value p a) ≡ value look t
unary_value look t e p r is given =
    ap (λ (s : Result ℤ Fault). s >>= λ a. prefixed_value p a) (sym given)
    ∙ ap (λ (u : Term). value look u) (sym is)

pub binary_value : (look : LookUp) (t a b : Term) (o : Operator) (r : Result ℤ Fault) → t ≡ binary o a b → value look a ≡ r → (r >>= λ u. value look b >>= λ v. value_of o u v) ≡ value look t
binary_value look t a b o r is given =
    ap (λ (s : Result ℤ Fault). s >>= λ u. value look b >>= λ v. value_of o u v) (sym given)
    ∙ ap (λ (u : Term). value look u) (sym is)

pub second_value : (look : LookUp) (t a b : Term) (o : Operator) (m : ℤ) (r : Result ℤ Fault) → t ≡ binary o a b → value look a ≡ Ok m → value look b ≡ r → (r >>= λ v. value_of o m v) ≡ value look t
second_value look t a b o m r is first second =
    ap (λ (s : Result ℤ Fault). s >>= λ v. value_of o m v) (sym second)
    ∙ binary_value look t a b o (Ok m) is first
