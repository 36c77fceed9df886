-- The tests on forms are those on subscripts.
use Rattle.std.proofs.Common.{◌≡◌, ◌∙◌, ap, refl, ℕ, zero, suc, List, [], ◌∷◌, ◌+◌, Bool, Option, map}
use Rattle.ast.specs.Tree.{Term, Terms, no_terms, then_term, terms}
use Rattle.dependence.specs.Formed.{by_forms, forms_of, nth_form, verified_by}
use Rattle.dependence.specs.Tests.{before, by_distance, dimension, dimensions, form_at, is_only, is_verified, on_forms, relation, says_apart}
use Rattle.dependence.specs.declared.relation.Relation.{Relation}
use Rattle.dependence.specs.declared.relation.Relation.TheVariants.{Apart, Distance, Any}
use Rattle.loop_tree.specs.Loops.{Loop}
use Rattle.loop_tree.specs.Occurrences.{Occurrence}
use Rattle.subscripts.specs.Forms.{Form, form_of}

same_dimensions : (l : Loop) (n : ℕ) (es fs : Terms) → by_forms l n (forms_of l es) (forms_of l fs) ≡ dimensions l n es fs
same_dimensions l n no_terms fs = refl
same_dimensions l n (then_term e es) no_terms = refl
same_dimensions l n (then_term e es) (then_term f fs) = ap (λ r. before (dimension l n (form_of l e) (form_of l f)) r) (same_dimensions l (n + 1) es fs)

same_nth : (l : Loop) (es : Terms) (n : ℕ) → nth_form (forms_of l es) n ≡ form_at l es n
same_nth l no_terms n = refl
same_nth l (then_term e es) zero = refl
same_nth l (then_term e es) (suc zero) = refl
same_nth l (then_term e es) (suc (suc n)) = same_nth l es (suc n)

pub related_by : (l : Loop) (a b : Occurrence) (fs gs : List (Option Form)) → fs ≡ forms_of l a.subscripts → gs ≡ forms_of l b.subscripts → by_forms l 1 fs gs ≡ relation l a b
related_by l a b fs gs p q = ap (λ hs. by_forms l 1 hs gs) p ∙ ap (λ hs. by_forms l 1 (forms_of l a.subscripts) hs) q ∙ same_dimensions l 1 a.subscripts b.subscripts

both_nth : (l : Loop) (a b : Occurrence) (n : ℕ) (test : Form → Form → Bool)
    → on_forms (nth_form (forms_of l a.subscripts) n) (nth_form (forms_of l b.subscripts) n) test ≡ on_forms (form_at l a.subscripts n) (form_at l b.subscripts n) test
both_nth l a b n test =
    ap (λ f. on_forms f (nth_form (forms_of l b.subscripts) n) test) (same_nth l a.subscripts n)
    ∙ ap (λ g. on_forms (form_at l a.subscripts n) g test) (same_nth l b.subscripts n)

verified_same : (l : Loop) (a b : Occurrence) (r : Relation) → verified_by l (forms_of l a.subscripts) (forms_of l b.subscripts) r ≡ is_verified l a b r
verified_same l a b (Apart n reason) = both_nth l a b n (λ f g. says_apart l reason f g)
verified_same l a b (Distance n d) = both_nth l a b n (λ f g. is_only (by_distance l f g) d)
verified_same l a b Any = refl

pub verified_forms : (l : Loop) (a b : Occurrence) (r : Relation) (fs gs : List (Option Form)) → fs ≡ forms_of l a.subscripts → gs ≡ forms_of l b.subscripts → verified_by l fs gs r ≡ is_verified l a b r
verified_forms l a b r fs gs p q = ap (λ hs. verified_by l hs gs r) p ∙ ap (λ hs. verified_by l (forms_of l a.subscripts) hs r) q ∙ verified_same l a b r

-- the forms of subscripts one by one
pub mapped : (l : Loop) (es : List Term) → map (λ e. form_of l e) es ≡ forms_of l (terms es)
mapped l [] = refl
mapped l (e ∷ es) = ap (λ fs. form_of l e ∷ fs) (mapped l es)
