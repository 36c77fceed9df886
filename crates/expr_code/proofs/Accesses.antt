-- An access, seen as a tree.
use Rattle.std.proofs.Common.{◌≡◌, ◌∙◌, ◌≤◌, ◌<◌, ℕ, zero, suc, List, [], ◌∷◌, length, refl, ap, sym, map, rules, arith}
use Rattle.ast.specs.Tree as tree
use Rattle.ast.specs.Tree.{Ref, Term, Terms, terms}
use Rattle.ast.specs.View.{access as access_of, access_step, ref, term, term_step}
use Rattle.ast.specs.declared.expression.Access.{Access, fold_out-Access}
use Rattle.ast.specs.declared.expression.Expr.{Expr}
use Rattle.expr_code.specs.Emitted.{element_code, target_code}
use Rattle.expr_code.specs.Places.{Places}
use Rattle.expr_code.specs.Process.{count, fewer}

pub subscripts_of : (a : Access) → (access_of a).subscripts ≡ terms (map term a.subscripts.items)
subscripts_of a = ap (λ (b : tree.Access). b.subscripts) (fold_out-Access Term tree.Access term_step access_step a) ∙ search rules

reference_of : (a : Access) → (access_of a).ref ≡ ref a.reference
reference_of a = ap (λ (b : tree.Access). b.ref) (fold_out-Access Term tree.Access term_step access_step a) ∙ search rules

pub element_code_law : (p : Places) (a : Access) (es : List Expr) → es ≡ a.subscripts.items → element_code p (ref a.reference) (terms (map term es)) ≡ element_code p (access_of a).ref (access_of a).subscripts
element_code_law p a es h =
    ap (λ (xs : List Expr). element_code p (ref a.reference) (terms (map term xs))) h
    ∙ ap (λ (r : Ref). element_code p r (terms (map term a.subscripts.items))) (sym (reference_of a))
    ∙ ap (λ (ts : Terms). element_code p (access_of a).ref ts) (sym (subscripts_of a))

pub target_code_law : (p : Places) (a : Access) (es : List Expr) → es ≡ a.subscripts.items → target_code p (ref a.reference) (terms (map term es)) ≡ target_code p (access_of a).ref (access_of a).subscripts
target_code_law p a es h =
    ap (λ (xs : List Expr). target_code p (ref a.reference) (terms (map term xs))) h
    ∙ ap (λ (r : Ref). target_code p r (terms (map term a.subscripts.items))) (sym (reference_of a))
    ∙ ap (λ (ts : Terms). target_code p (access_of a).ref ts) (sym (subscripts_of a))

pub count_terms : (es : List Expr) → count (terms (map term es)) ≡ length es
count_terms [] = refl
count_terms (e ∷ es) = ap suc (count_terms es)

pub fewer_first : (m n : ℕ) → m < n → m ≡ fewer m n
fewer_first zero n h = refl
fewer_first (suc m) zero h = absurd (omega (arith, h))
fewer_first (suc m) (suc n) h = ap suc (fewer_first m n (omega (arith, h)))

pub fewer_second : (m n : ℕ) → n ≤ m → n ≡ fewer m n
fewer_second zero zero h = refl
fewer_second zero (suc n) h = absurd (omega (arith, h))
fewer_second (suc m) zero h = refl
fewer_second (suc m) (suc n) h = ap suc (fewer_second m n (omega (arith, h)))
