-- References in lists of expressions.
use Rattle.std.proofs.Common.{◌≡◌, ◌∙◌, ap, sym, refl, List, [], ◌∷◌, ℕ, ◌+◌, Bool, true, length, subst, arith}
use Rattle.std.proofs.lemmas.Bool.{and_parts}
use Rattle.std.proofs.lemmas.List.{append_assoc}
use Rattle.std.specs.Prelude.{◌++◌, ◌&&◌, ◌==◌}
use Rattle.ast.specs.References.{term_references, expressions_references, are_numbered}
use Rattle.ast.specs.Tree.{Term, Ref}

pub references_append : (es fs : List Term) → expressions_references (es ++ fs) ≡ expressions_references es ++ expressions_references fs
references_append [] fs = refl
references_append (e ∷ es) fs =
    ap (λ rs. term_references e ++ rs) (references_append es fs) ∙ sym (append_assoc (term_references e) (expressions_references es) (expressions_references fs))

pub numbered_parts : (n : ℕ) (xs ys : List Ref) → are_numbered n (xs ++ ys) ≡ true → (are_numbered n xs ≡ true) × (are_numbered (n + length xs) ys ≡ true)
numbered_parts n [] ys h = (refl, subst (λ (m : ℕ). are_numbered m ys ≡ true) (omega arith) h)
numbered_parts n (x ∷ xs) ys h =
    let p = and_parts (x.id == n) (are_numbered (n + 1) (xs ++ ys)) h in
    let q = numbered_parts (n + 1) xs ys p.1 in
    (ap (λ (b : Bool). b && are_numbered (n + 1) xs) p.0 ∙ q.0, subst (λ (m : ℕ). are_numbered m ys ≡ true) (omega arith) q.1)
