-- Expressions, seen as trees.
use Rattle.std.proofs.Common.{◌≡◌, ◌∙◌, Box, List, Vec, Global, Bool, ℤ, map, ap, rules, sym}
use Rattle.ast.specs.Tree as tree
use Rattle.ast.specs.Tree.{Term, accessed, binary, call, constant, parameter, parentheses, terms, truth, unary}
use Rattle.ast.specs.View.{access, access_step, ref, term, term_step}
use Rattle.ast.specs.declared.expression.Access.{Access, fold_out-Access}
use Rattle.ast.specs.declared.expression.Expr.{Expr, Expr-F, fold-roll-Expr}
use Rattle.ast.specs.declared.expression.Expr.TheVariants.{Binary, Call, Constant, Element, Parameter, Parentheses, Truth, Unary, rolls-Binary, rolls-Call, rolls-Constant, rolls-Element, rolls-Parameter, rolls-Parentheses, rolls-Truth, rolls-Unary}
use Rattle.ast.specs.declared.expression.Intrinsic.{Intrinsic}
use Rattle.ast.specs.declared.expression.Operator.{Operator}
use Rattle.ast.specs.declared.expression.Prefix.{Prefix}
use Rattle.ast.specs.declared.name.Name.{Name}

pub constant_of : (t : Expr) (n : ℤ) → t ≡ Constant n → term t ≡ constant n
constant_of t n is = ap term is ∙ ap term (sym (rolls-Constant n)) ∙ fold-roll-Expr Term tree.Access term_step access_step (Expr-F.Constant n)

pub truth_of : (t : Expr) (b : Bool) → t ≡ Truth b → term t ≡ truth b
truth_of t b is = ap term is ∙ ap term (sym (rolls-Truth b)) ∙ fold-roll-Expr Term tree.Access term_step access_step (Expr-F.Truth b)

pub parameter_of : (t : Expr) (x : Name) (n : ℤ) → t ≡ Parameter x n → term t ≡ parameter x.letters n
parameter_of t x n is = ap term is ∙ ap term (sym (rolls-Parameter x n)) ∙ fold-roll-Expr Term tree.Access term_step access_step (Expr-F.Parameter x n)

pub element_of : (t : Expr) (a : Access) → t ≡ Element a → term t ≡ accessed (access a)
element_of t a is = ap term is ∙ ap term (sym (rolls-Element a)) ∙ fold-roll-Expr Term tree.Access term_step access_step (Expr-F.Element a)

-- the same with parts that stand elsewhere
pub call_of : (t : Expr) (f : Intrinsic) (es : Vec Expr Global) (others : List Expr) → t ≡ Call f es → others ≡ es.items → term t ≡ call f (terms (map term others))
call_of t f es others is same =
    ap term is
    ∙ ap term (sym (rolls-Call f es))
    ∙ fold-roll-Expr Term tree.Access term_step access_step (Expr-F.Call f es)
    ∙ ap (λ (l : List Expr). call f (terms (map term l))) (sym same)

pub parentheses_of : (t : Expr) (e : Box Expr Global) (inner : Expr) → t ≡ Parentheses e → inner ≡ e.value → term t ≡ parentheses (term inner)
parentheses_of t e inner is same =
    ap term is
    ∙ ap term (sym (rolls-Parentheses e))
    ∙ fold-roll-Expr Term tree.Access term_step access_step (Expr-F.Parentheses e)
    ∙ ap (λ (x : Expr). parentheses (term x)) (sym same)

pub unary_of : (t : Expr) (p : Prefix) (e : Box Expr Global) (inner : Expr) → t ≡ Unary p e → inner ≡ e.value → term t ≡ unary p (term inner)
unary_of t p e inner is same =
    ap term is
    ∙ ap term (sym (rolls-Unary p e))
    ∙ fold-roll-Expr Term tree.Access term_step access_step (Expr-F.Unary p e)
    ∙ ap (λ (x : Expr). unary p (term x)) (sym same)

pub binary_of : (t : Expr) (o : Operator) (a b : Box Expr Global) (left right : Expr) → t ≡ Binary o a b → left ≡ a.value → right ≡ b.value → term t ≡ binary o (term left) (term right)
binary_of t o a b left right is one other =
    ap term is
    ∙ ap term (sym (rolls-Binary o a b))
    ∙ fold-roll-Expr Term tree.Access term_step access_step (Expr-F.Binary o a b)
    ∙ ap (λ (x : Expr). binary o (term x) (term b.value)) (sym one)
    ∙ ap (λ (x : Expr). binary o (term left) (term x)) (sym other)

-- the parts of an access
pub subscripts_of : (a : Access) → (access a).subscripts ≡ terms (map term a.subscripts.items)
subscripts_of a = ap (λ (b : tree.Access). b.subscripts) (fold_out-Access Term tree.Access term_step access_step a) ∙ search rules

pub reference_of : (a : Access) → (access a).ref ≡ ref a.reference
reference_of a = ap (λ (b : tree.Access). b.ref) (fold_out-Access Term tree.Access term_step access_step a) ∙ search rules

pub access_of : (a : Access) → access a ≡ record { ref = ref a.reference; subscripts = terms (map term a.subscripts.items) }
access_of a = fold_out-Access Term tree.Access term_step access_step a ∙ search rules
