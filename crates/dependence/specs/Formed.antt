-- The tests on forms that are made once for a reference.
use Rattle.std.specs.Prelude.{ℕ, zero, suc, ◌+◌, Bool, true, List, [], ◌∷◌, Option, Some, None}
use Rattle.ast.specs.Tree.{Terms, no_terms, then_term}
use Rattle.dependence.specs.Tests.{before, by_distance, dimension, is_only, on_forms, says_apart}
use Rattle.dependence.specs.declared.relation.Relation.{Relation}
use Rattle.dependence.specs.declared.relation.Relation.TheVariants.{Apart, Distance, Any}
use Rattle.loop_tree.specs.Loops.{Loop}
use Rattle.subscripts.specs.Forms.{Form, form_of}

-- the forms of subscripts, dimension by dimension
abbrev pub forms_of : Loop → Terms → List (Option Form)
forms_of l no_terms = []
forms_of l (then_term e es) = form_of l e ∷ forms_of l es

-- the relation by the dimensions from the nth on
abbrev pub by_forms : Loop → ℕ → List (Option Form) → List (Option Form) → Relation
by_forms l n (f ∷ fs) (g ∷ gs) = before (dimension l n f g) (by_forms l (n + 1) fs gs)
by_forms l n _ _ = Any

-- the form that may be there
abbrev pub present : {X : Type 0} → (X → Option Form) → Option X → Option Form
present form None = None
present form (Some x) = form x

-- the nth of forms, counted from 1
abbrev pub nth_form : List (Option Form) → ℕ → Option Form
nth_form [] n = None
nth_form (f ∷ fs) zero = None
nth_form (f ∷ fs) (suc zero) = f
nth_form (f ∷ fs) (suc (suc n)) = nth_form fs (suc n)

-- whether the test that a relation names gives it
abbrev pub verified_by : Loop → List (Option Form) → List (Option Form) → Relation → Bool
verified_by l fs gs (Apart n reason) =
    on_forms (nth_form fs n) (nth_form gs n) (λ f g. says_apart l reason f g)
verified_by l fs gs (Distance n d) =
    on_forms (nth_form fs n) (nth_form gs n) (λ f g. is_only (by_distance l f g) d)
verified_by l fs gs Any = true
