-- What is resolved is what its text says, with each name meant, placed and numbered.
use Rattle.std.proofs.Common.{◌≡◌, ℕ, ◌+◌, true, false, List, [], ◌∷◌, ◌++◌, map, refl, ap, subst, arith, Option, Some, None, option_map, inl, inr}
use Rattle.std.specs.Prelude.{◌⊎◌, ⊤}
use Rattle.std.specs.List.{list_all}
use Rattle.ast.specs.References.{optional, items_expressions, kind_expressions, head_expressions}
use Rattle.ast.specs.Symbols.{Symbol}
use Rattle.ast.specs.Tree.{Ref, Term, Terms, element, no_terms, Access, accessed, PrintItem, value_item, text_item, DoHead, Kind, assign, do_loop, block_if, else_if, logical_if, print, read, Statement}
use Rattle.ast.proofs.Lists.{all_joined, all_parts}
use Rattle.structure.specs.Rules.{holds_wrong_statement}
use Rattle.profile_check.specs.Erasure.{erased, access_erased, item_erased, kind_erased, head_erased}
use Rattle.profile_check.specs.Resolving.{Table, numbered, count, count_terms, resolved, all_resolved, access_count, access_resolved, accesses_resolved, items_resolved, count_optional, head_resolved, kind_resolved, kind_count, statements_resolved}
use Rattle.profile_check.specs.Uses.{count_of, term_uses, terms_uses, given_uses, optional_uses, all_uses, item_uses, head_uses, uses}
use Rattle.profile_check.proofs.Erased.{Settled, ListSettled}
use Rattle.profile_check.proofs.Parts.{own_expressions, expressions_in, own_text, are_shallow_in, Serves, is_sound}
use Rattle.profile_check.proofs.ResolvedKinds.{kind-counted, kind-below, kind-shallow, below-nothing}
use Rattle.profile_check.proofs.ResolvedTerms.{Sound, given-placed, term-settled, terms-settled}
use Rattle.profile_check.proofs.Settling.{no-terms-settled, element-settled, nothing-settled, more-settled, append-settled}

module _ (symbols : List Symbol) (t : Table) (serves : Serves symbols t) where
  access-settled : (n : ℕ) (a : Access) → access_erased a ≡ a → Sound t (given_uses a) → Settled symbols n (accessed (access_resolved t n a))
  access-settled n a bare sound =
      let p = all_parts (λ u. is_sound t u) (terms_uses a.subscripts) _ sound in
      let es : Terms = all_resolved t n a.subscripts in
      element-settled symbols n (access_resolved t n a).ref es
      (terms-settled symbols t serves n a.subscripts (ap (λ (b : Access). b.subscripts) bare) p.0)
      (given-placed symbols t serves (n + count_terms es) a.ref (count_of a.subscripts) p.1) refl

  accesses-settled : (n : ℕ) (elements : List Access) → map access_erased elements ≡ elements → Sound t (all_uses given_uses elements) → ListSettled symbols n (map accessed (accesses_resolved t n elements))
  accesses-settled n [] bare sound = nothing-settled symbols n
  accesses-settled n (a ∷ more) bare sound =
      let p = all_parts (λ u. is_sound t u) (given_uses a) (all_uses given_uses more) sound in
      let b : Access = access_resolved t n a in
      let m : ℕ = n + access_count b in
      more-settled symbols n (accessed b) (map accessed (accesses_resolved t m more))
      (access-settled n a (let z : access_erased a ≡ a = cc in z) p.0)
      (accesses-settled m more (let z : map access_erased more ≡ more = cc in z) p.1)

  items-settled : (n : ℕ) (items : List PrintItem) → map item_erased items ≡ items → Sound t (all_uses item_uses items) → ListSettled symbols n (items_expressions (items_resolved t n items))
  items-settled n [] bare sound = nothing-settled symbols n
  items-settled n (value_item e ∷ more) bare sound =
      let p = all_parts (λ u. is_sound t u) (term_uses e) (all_uses item_uses more) sound in
      let f : Term = resolved t n e in
      more-settled symbols n f (items_expressions (items_resolved t (n + count f) more))
      (term-settled symbols t serves n e (let z : erased e ≡ e = cc in z) p.0)
      (items-settled (n + count f) more (let z : map item_erased more ≡ more = cc in z) p.1)
  items-settled n (text_item x ∷ more) bare sound =
      let h = items-settled (n + 0) more (let z : map item_erased more ≡ more = cc in z) sound in
      subst (λ (m : ℕ). ListSettled symbols m (items_expressions (items_resolved t (n + 0) more))) (omega arith) h

  given-settled : (n m : ℕ) (r : Ref) → Sound t (record { name = r.name; count = 0; is_given = true } ∷ []) → m ≡ n + 0 → ListSettled symbols n (element (numbered t m r) no_terms ∷ [])
  given-settled n m r given e =
      more-settled symbols n (element (numbered t m r) no_terms) []
      (element-settled symbols n (numbered t m r) no_terms (no-terms-settled symbols n) (given-placed symbols t serves m r 0 given) e)
      (nothing-settled symbols (n + 1))

  -- the last parameter of a DO and its variable
  step-settled : (n m : ℕ) (o : Option Term) (r : Ref) → option_map erased o ≡ o → Sound t (optional_uses o) → Sound t (record { name = r.name; count = 0; is_given = true } ∷ [])
      → m ≡ n + count_optional (option_map (λ e. resolved t n e) o)
      → ListSettled symbols n (optional (option_map (λ e. resolved t n e) o) ++ element (numbered t m r) no_terms ∷ [])
  step-settled n m None r bare sound given e = given-settled n m r given e
  step-settled n m (Some step) r bare sound given e =
      let f : Term = resolved t n step in
      more-settled symbols n f (element (numbered t m r) no_terms ∷ [])
      (term-settled symbols t serves n step (let z : erased step ≡ step = cc in z) sound)
      (given-settled (n + count f) m r given (omega arith))

  head-settled : (n : ℕ) (h : DoHead) → head_erased h ≡ h → Sound t (head_uses h) → ListSettled symbols n (head_expressions (head_resolved t n h))
  head-settled n h bare sound =
      let p = all_parts (λ u. is_sound t u) (term_uses h.first ++ term_uses h.last ++ optional_uses h.step) _ sound in
      let q = all_parts (λ u. is_sound t u) (term_uses h.first ++ term_uses h.last) (optional_uses h.step) p.0 in
      let both = all_parts (λ u. is_sound t u) (term_uses h.first) (term_uses h.last) q.0 in
      let first : Term = resolved t n h.first in
      let m : ℕ = n + count first in
      let last : Term = resolved t m h.last in
      let step : Option Term = option_map (λ e. resolved t (m + count last) e) h.step in
      let v : Ref = (head_resolved t n h).variable in
      more-settled symbols n first (last ∷ optional step ++ element v no_terms ∷ [])
      (term-settled symbols t serves n h.first (ap (λ (z : DoHead). z.first) bare) both.0)
      (more-settled symbols m last (optional step ++ element v no_terms ∷ [])
      (term-settled symbols t serves m h.last (ap (λ (z : DoHead). z.last) bare) both.1)
      (step-settled (m + count last) (m + count last + count_optional step) h.step h.variable (ap (λ (z : DoHead). z.step) bare) q.1 p.1 refl))

  inner-settled : (n : ℕ) (k : Kind) → kind_erased k ≡ k → Sound t (uses k) → ListSettled symbols n (kind_expressions (kind_resolved t n k))
  inner-settled n (assign a e) bare sound =
      let p = all_parts (λ u. is_sound t u) (term_uses e) (given_uses a) sound in
      let f : Term = resolved t n e in
      let m : ℕ = n + count f in
      let b : Access = access_resolved t m a in
      more-settled symbols n f (accessed b ∷ []) (term-settled symbols t serves n e (let z : erased e ≡ e = cc in z) p.0)
      (more-settled symbols m (accessed b) [] (access-settled m a (let z : access_erased a ≡ a = cc in z) p.1) (nothing-settled symbols (m + access_count b)))
  inner-settled n (print items) bare sound = items-settled n items (let z : map item_erased items ≡ items = cc in z) sound
  inner-settled n (read elements) bare sound = accesses-settled n elements (let z : map access_erased elements ≡ elements = cc in z) sound
  inner-settled n _ bare sound = nothing-settled symbols n

  condition-settled : (n : ℕ) (c : Term) → erased c ≡ c → Sound t (term_uses c) → ListSettled symbols n (resolved t n c ∷ [])
  condition-settled n c bare sound =
      more-settled symbols n (resolved t n c) [] (term-settled symbols t serves n c bare sound) (nothing-settled symbols (n + count (resolved t n c)))

  pub kind-settled : (n : ℕ) (k : Kind) → own_text k ≡ k → list_all (λ u. is_sound t u) (uses k) ≡ true → ListSettled symbols n (own_expressions (kind_resolved t n k))
  kind-settled n (assign a e) bare sound = inner-settled n (assign a e) bare sound
  kind-settled n (print items) bare sound = inner-settled n (print items) bare sound
  kind-settled n (read elements) bare sound = inner-settled n (read elements) bare sound
  kind-settled n (do_loop h) bare sound = head-settled n h (let z : head_erased h ≡ h = cc in z) sound
  kind-settled n (block_if c) bare sound = condition-settled n c (let z : erased c ≡ c = cc in z) sound
  kind-settled n (else_if c) bare sound = condition-settled n c (let z : erased c ≡ c = cc in z) sound
  kind-settled n (logical_if c k) bare sound =
      let p = all_parts (λ u. is_sound t u) (term_uses c) (uses k) sound in
      let d : Term = resolved t n c in
      more-settled symbols n d (kind_expressions (kind_resolved t (n + count d) k))
      (term-settled symbols t serves n c (let z : erased c ≡ c = cc in z) p.0)
      (inner-settled (n + count d) k (let z : kind_erased k ≡ k = cc in z) p.1)
  kind-settled n _ bare sound = nothing-settled symbols n

-- ---- statements one after another

-- what a statement of a text has to meet: a logical IF holds a statement that it may hold, no name
-- is resolved yet, each name of its expressions stands for something, and no expression is too deep
pub record Fits (t : Table) (s : Statement) : Type 0 where
  pub alone : holds_wrong_statement s.kind ≡ false
  pub bare : own_text s.kind ≡ s.kind
  pub sound : (own_expressions s.kind ≡ []) ⊎ (list_all (λ u. is_sound t u) (uses s.kind) ≡ true)
  pub shallow : are_shallow_in (own_expressions s.kind) ≡ true

abbrev pub AllFit : Table → List Statement → Type 0
AllFit t [] = ⊤
AllFit t (s ∷ ss) = Fits t s × AllFit t ss

-- where there are no expressions none come
pub none-resolved : (t : Table) (n : ℕ) (k : Kind) → own_expressions k ≡ [] → own_expressions (kind_resolved t n k) ≡ []
none-resolved t n k e = below-nothing (own_expressions (kind_resolved t n k)) (rw e at (kind-below t n k))

statement-settled : (symbols : List Symbol) (t : Table) → Serves symbols t → (n : ℕ) (s : Statement) → Fits t s → ListSettled symbols n (own_expressions (kind_resolved t n s.kind))
statement-settled symbols t serves n s h = elim h.sound [
  | inl none ↦ rw (none-resolved t n s.kind none) (nothing-settled symbols n)
  | inr sound ↦ kind-settled symbols t serves n s.kind h.bare sound
]

pub list-settled : (symbols : List Symbol) (t : Table) → Serves symbols t → (n : ℕ) (ss : List Statement) → AllFit t ss → ListSettled symbols n (expressions_in (statements_resolved t n ss))
list-settled symbols t serves n [] h = nothing-settled symbols n
list-settled symbols t serves n (s ∷ ss) h =
    let k : Kind = kind_resolved t n s.kind in
    append-settled symbols n (kind_count k) (own_expressions k) (expressions_in (statements_resolved t (n + kind_count k) ss))
    (kind-counted t n s.kind h.0.alone) (statement-settled symbols t serves n s h.0) (list-settled symbols t serves (n + kind_count k) ss h.1)

pub list-shallow : (t : Table) (n : ℕ) (ss : List Statement) → AllFit t ss → are_shallow_in (expressions_in (statements_resolved t n ss)) ≡ true
list-shallow t n [] h = refl
list-shallow t n (s ∷ ss) h =
    let k : Kind = kind_resolved t n s.kind in
    all_joined _ (own_expressions k) (expressions_in (statements_resolved t (n + kind_count k) ss)) (kind-shallow t n s.kind h.0.shallow) (list-shallow t (n + kind_count k) ss h.1)
