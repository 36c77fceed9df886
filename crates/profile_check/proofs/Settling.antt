-- Expressions with each name meant, placed and numbered, put together from their parts.
use Rattle.std.proofs.Common.{◌≡◌, ◌∙◌, ℕ, ◌+◌, true, List, [], ◌∷◌, ◌++◌, length, refl, ap, sym, subst, arith}
use Rattle.std.specs.Prelude.{◌==◌}
use Rattle.std.specs.List.{list_all}
use Rattle.std.proofs.lemmas.Bool.{and_parts, and_from, eq-eqb}
use Rattle.std.proofs.lemmas.List.{length-append}
use Rattle.ast.specs.Program.{is_placed}
use Rattle.ast.specs.References.{term_references, terms_references, expressions_references, are_numbered}
use Rattle.ast.specs.Symbols.{Symbol}
use Rattle.ast.specs.Tree.{Ref, Term, Terms, constant, truth, parameter, element, call, parentheses, unary, binary, no_terms, then_term}
use Rattle.ast.proofs.Lists.{all_joined}
use Rattle.ast.proofs.References.{references_append}
use Rattle.profile_check.specs.Reads.{is_meant, are_meant}
use Rattle.profile_check.specs.Resolving.{count, count_terms}
use Rattle.profile_check.proofs.Erased.{Settled, AllSettled, ListSettled}

-- references numbered from n on, and then from behind them on
numbered-append : (n : ℕ) (xs ys : List Ref) → are_numbered n xs ≡ true → are_numbered (n + length xs) ys ≡ true → are_numbered n (xs ++ ys) ≡ true
numbered-append n [] ys h k = subst (λ (m : ℕ). are_numbered m ys ≡ true) (omega arith) k
numbered-append n (x ∷ xs) ys h k =
    let p = and_parts (x.id == n) (are_numbered (n + 1) xs) h in
    let more = numbered-append (n + 1) xs ys p.1 (subst (λ (m : ℕ). are_numbered m ys ≡ true) (omega arith) k) in
    rw (p.0, more) refl

mutual
  pub term-counted : (e : Term) → length (term_references e) ≡ count e
  term-counted (constant v) = refl
  term-counted (truth b) = refl
  term-counted (parameter x v) = refl
  term-counted (element r es) = length-append (terms_references es) (r ∷ []) ∙ ap (λ m. m + 1) (terms-counted es)
  term-counted (call f es) = terms-counted es
  term-counted (parentheses e) = term-counted e
  term-counted (unary p e) = term-counted e
  term-counted (binary o a b) = length-append (term_references a) (term_references b) ∙ (λ i. term-counted a i + term-counted b i)

  terms-counted : (es : Terms) → length (terms_references es) ≡ count_terms es
  terms-counted no_terms = refl
  terms-counted (then_term e es) = length-append (term_references e) (terms_references es) ∙ (λ i. term-counted e i + terms-counted es i)

module _ (symbols : List Symbol) where
  pub no-terms-settled : (n : ℕ) → AllSettled symbols n no_terms
  no-terms-settled n = record { meant = refl; placed = refl; numbered = refl }

  pub element-settled : (n : ℕ) (r : Ref) (es : Terms) → AllSettled symbols n es → is_placed symbols r ≡ true → r.id ≡ n + count_terms es → Settled symbols n (element r es)
  element-settled n r es h placed id = record {
    meant = h.meant;
    placed = all_joined (λ s. is_placed symbols s) (terms_references es) (r ∷ []) h.placed (and_from (is_placed symbols r) true placed refl);
    numbered = numbered-append n (terms_references es) (r ∷ []) h.numbered
        (and_from (r.id == n + length (terms_references es)) true (eq-eqb r.id (n + length (terms_references es)) (id ∙ ap (λ m. n + m) (sym (terms-counted es)))) refl);
  }

  pub binary-settled : (n : ℕ) (o : _) (a b : Term) → Settled symbols n a → Settled symbols (n + count a) b → Settled symbols n (binary o a b)
  binary-settled n o a b h k = record {
    meant = and_from (is_meant symbols a) (is_meant symbols b) h.meant k.meant;
    placed = all_joined (λ r. is_placed symbols r) (term_references a) (term_references b) h.placed k.placed;
    numbered = numbered-append n (term_references a) (term_references b) h.numbered (subst (λ (m : ℕ). are_numbered (n + m) (term_references b) ≡ true) (sym (term-counted a)) k.numbered);
  }

  pub then-settled : (n : ℕ) (e : Term) (es : Terms) → Settled symbols n e → AllSettled symbols (n + count e) es → AllSettled symbols n (then_term e es)
  then-settled n e es h k = record {
    meant = and_from (is_meant symbols e) (are_meant symbols es) h.meant k.meant;
    placed = all_joined (λ r. is_placed symbols r) (term_references e) (terms_references es) h.placed k.placed;
    numbered = numbered-append n (term_references e) (terms_references es) h.numbered (subst (λ (m : ℕ). are_numbered (n + m) (terms_references es) ≡ true) (sym (term-counted e)) k.numbered);
  }

  pub nothing-settled : (n : ℕ) → ListSettled symbols n []
  nothing-settled n = record { meant = refl; placed = refl; numbered = refl }

  pub more-settled : (n : ℕ) (e : Term) (es : List Term) → Settled symbols n e → ListSettled symbols (n + count e) es → ListSettled symbols n (e ∷ es)
  more-settled n e es h k = record {
    meant = and_from (is_meant symbols e) (list_all (λ f. is_meant symbols f) es) h.meant k.meant;
    placed = all_joined (λ r. is_placed symbols r) (term_references e) (expressions_references es) h.placed k.placed;
    numbered = numbered-append n (term_references e) (expressions_references es) h.numbered (subst (λ (m : ℕ). are_numbered (n + m) (expressions_references es) ≡ true) (sym (term-counted e)) k.numbered);
  }

  pub append-settled : (n m : ℕ) (xs ys : List Term) → length (expressions_references xs) ≡ m → ListSettled symbols n xs → ListSettled symbols (n + m) ys → ListSettled symbols n (xs ++ ys)
  append-settled n m xs ys counted h k = record {
    meant = all_joined (λ e. is_meant symbols e) xs ys h.meant k.meant;
    placed = rw (references_append xs ys) (all_joined (λ r. is_placed symbols r) (expressions_references xs) (expressions_references ys) h.placed k.placed);
    numbered = rw (references_append xs ys) (numbered-append n (expressions_references xs) (expressions_references ys) h.numbered (rw counted k.numbered));
  }
