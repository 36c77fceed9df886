-- What is appended behind the references that were there.
use Rattle.std.proofs.Common.{◌≡◌, ◌∙◌, ℤ, Bool, inl, inr, ◌+◌, ◌<◌, ◌≤◌, ℕ, List, [], ◌∷◌, ◌++◌, Result, Ok, Err, sym, ap, subst, length, drop, get_or, map, append_assoc, append-nil}
use Rattle.std.specs.Prelude.{◌⊎◌, IfOk, IsErr, OnOk}
use Rattle.std.proofs.lemmas.Result.{on_ok_weaker}
use Rattle.ast.specs.Tree as tree
use Rattle.ast.specs.Tree.{Ref, Term, Terms, accessed, terms}
use Rattle.ast.specs.View.{access, ref, term}
use Rattle.ast.specs.declared.expression.Access.{Access}
use Rattle.ast.specs.declared.expression.Expr.{Expr}
use Rattle.ast.specs.declared.expression.Expr.TheVariants.{Constant, Parameter, Truth}
use Rattle.ast.specs.declared.name.Name.{Name}
use Rattle.loop_tree.specs.Occurrences.{Occurrence, term_occurrences, terms_occurrences}
use Rattle.loop_tree.proofs.Passing.{next, passed}
use Rattle.ast.proofs.Terms.{constant_of, parameter_of, truth_of, access_of}

-- a call that failed says nothing
pub no_answer : {X E : Type 0} (r : Result X E) (P : X → Type 0) → IsErr r → IfOk r P
no_answer (Ok x) P h = absurd cc
no_answer (Err e) P h = tt

-- a leaf without a variable has none
abbrev pub IsLeaf : Expr → Type 0
IsLeaf t = ((x : ℤ) × (t ≡ Constant x)) ⊎ (((x : Bool) × (t ≡ Truth x)) ⊎ ((x : Name) × (y : ℤ) × (t ≡ Parameter x y)))

none_of : (t : Expr) (n : ℕ) → IsLeaf t → term_occurrences n (term t) ≡ []
none_of t n (inl (x, is)) = ap (term_occurrences n) (constant_of t x is)
none_of t n (inr (inl (x, is))) = ap (term_occurrences n) (truth_of t x is)
none_of t n (inr (inr (x, y, is))) = ap (term_occurrences n) (parameter_of t x y is)

pub no_more : (old : List Occurrence) (t : Expr) (n : ℕ) → IsLeaf t → old ≡ old ++ term_occurrences n (term t)
no_more old t n leaf = sym (ap (λ (l : List Occurrence). old ++ l) (none_of t n leaf) ∙ append-nil old)

-- the references of an expression that is another tree
pub of_tree : {X E : Type 0} (r : Result X E) (new old : List Occurrence) (n : ℕ) (t u : Term) → t ≡ u → OnOk r (new ≡ old ++ term_occurrences n u) → OnOk r (new ≡ old ++ term_occurrences n t)
of_tree r new old n t u is h = subst (λ (x : Term). OnOk r (new ≡ old ++ term_occurrences n x)) (sym is) h

one_more : (before after old some : List Occurrence) (o : Occurrence) → before ≡ old ++ some → after ≡ before ++ o ∷ [] → after ≡ old ++ (some ++ o ∷ [])
one_more before after old some o is more = more ∙ ap (λ (l : List Occurrence). l ++ o ∷ []) is ∙ append_assoc old some (o ∷ [])

pub element_more : {X E : Type 0} (r : Result X E) (made : Ref → Terms → Occurrence) (a : Access) (n : ℕ) (old before after : List Occurrence) (es ds : List Expr) → es ≡ a.subscripts.items → ds ≡ a.subscripts.items
    → before ≡ old ++ terms_occurrences n (terms (map term es)) → OnOk r (after ≡ before ++ made (ref a.reference) (terms (map term ds)) ∷ [])
    → OnOk r (after ≡ old ++ (terms_occurrences n (access a).subscripts ++ made (access a).ref (access a).subscripts ∷ []))
element_more r made a n old before after es ds one other is more =
    on_ok_weaker {P = after ≡ before ++ made (ref a.reference) (terms (map term ds)) ∷ []} {Q = after ≡ old ++ (terms_occurrences n (access a).subscripts ++ made (access a).ref (access a).subscripts ∷ [])} r
    (λ h. one_more before after old (terms_occurrences n (terms (map term es))) (made (ref a.reference) (terms (map term ds))) is h
    ∙ ap (λ (l : List Expr). old ++ (terms_occurrences n (terms (map term l)) ++ made (ref a.reference) (terms (map term ds)) ∷ [])) one
    ∙ ap (λ (l : List Expr). old ++ (terms_occurrences n (terms (map term a.subscripts.items)) ++ made (ref a.reference) (terms (map term l)) ∷ [])) other
    ∙ ap (λ (x : tree.Access). old ++ (terms_occurrences n x.subscripts ++ made x.ref x.subscripts ∷ [])) (sym (access_of a))) more

-- the same of each of a list, of which one is appended behind another
module _ {X : Type 0} (one : X → List Occurrence) (all : List X → List Occurrence) where
  pub next_occurs : ((x : X) (xs : List X) → all (x ∷ xs) ≡ one x ++ all xs) → (xs : List X) (i : ℕ) (x : X) (before after whole : List Occurrence) → i < length xs → x ≡ get_or xs i x → after ≡ before ++ one x
      → before ++ all (drop i xs) ≡ whole → after ++ all (drop (i + 1) xs) ≡ whole
  next_occurs steps =
      next (λ (x : X) (s : List Occurrence). s ++ one x) (λ (xs : List X) (s : List Occurrence). s ++ all xs)
      (λ (x : X) (xs : List X) (s : List Occurrence). ap (λ (l : List Occurrence). s ++ l) (steps x xs) ∙ sym (append_assoc s (one x) (all xs)))

  pub all_occurred : all [] ≡ [] → (xs : List X) (i : ℕ) (list whole : List Occurrence) → length xs ≤ i → list ++ all (drop i xs) ≡ whole → list ≡ whole
  all_occurred none =
      passed (λ (x : X) (s : List Occurrence). s ++ one x) (λ (xs : List X) (s : List Occurrence). s ++ all xs)
      (λ (s : List Occurrence). ap (λ (l : List Occurrence). s ++ l) none ∙ append-nil s)
