-- A reference of a program has as many subscripts as its name has dimensions, by what its text has.
use Rattle.std.proofs.Common.{◌≡◌, ◌∙◌, ℕ, ◌+◌, Bool, true, false, not, List, [], ◌∷◌, ◌++◌, length, map, refl, ap, sym, Option, Some, None, option_map}
use Rattle.std.specs.Prelude.{◌&&◌, ◌==◌, nat_lt, if◌then◌else◌}
use Rattle.std.specs.List.{list_any, list_all}
use Rattle.std.proofs.lemmas.Bool.{or_parts, and_parts, and_from, not-false}
use Rattle.ast.specs.Program.{is_placed}
use Rattle.ast.specs.References.{term_references, terms_references, expressions_references, optional, items_expressions, kind_expressions}
use Rattle.ast.specs.Regular.{is_counted, are_counted}
use Rattle.ast.specs.Symbols.{Symbol, dimensions_in}
use Rattle.ast.specs.Tree.{Ref, Term, Terms, constant, truth, parameter, element, call, parentheses, unary, binary, no_terms, then_term, count_of, Access, accessed, PrintItem, value_item, text_item, Kind, assign, do_loop, block_if, else_if, logical_if, print, read}
use Rattle.ast.proofs.Lists.{all_parts, any_parts}
use Rattle.profile_check.proofs.Parts.{own_expressions, own_text}
use Rattle.profile_check.specs.Declarations.{Arrays, dimensions_named}
use Rattle.profile_check.specs.Erasure.{erased, all_erased, access_erased, item_erased, kind_erased}
use Rattle.profile_check.specs.Rules.{is_miscounted}
use Rattle.profile_check.specs.Uses.{Use, is_call, is_intrinsic, has_its_arguments, term_uses, terms_uses, given_uses, optional_uses, all_uses, item_uses, uses}

same-count : (es : Terms) → count_of (all_erased es) ≡ count_of es
same-count no_terms = refl
same-count (then_term e es) = ap (λ n. n + 1) (same-count es)

-- a name with a place is no intrinsic function's, and its symbol has the dimensions of its array
pub record Ranked (symbols : List Symbol) (arrays : Arrays) : Type 0 where
  pub other : (r : Ref) → is_placed symbols r ≡ true → is_intrinsic r.name ≡ false
  pub dimensions : (r : Ref) → is_placed symbols r ≡ true → dimensions_in symbols r.name ≡ dimensions_named arrays r.name

called : (name : List ℕ) (n : ℕ) (given : Bool) → is_intrinsic name ≡ false → is_call (record { name = name; count = n; is_given = given }) ≡ false
called name n given h = ap (λ (b : Bool). b && (nat_lt 0 n && not given)) h

module _ (symbols : List Symbol) (arrays : Arrays) (ranked : Ranked symbols arrays) where
  abbrev Placed : List Ref → Type 0
  Placed rs = list_all (λ r. is_placed symbols r) rs ≡ true

  abbrev Right : List Use → Type 0
  Right us = list_any (is_miscounted arrays) us ≡ false

  count-right : (r : Ref) (es : Terms) (given : Bool) → is_placed symbols r ≡ true → Right (record { name = r.name; count = count_of (all_erased es); is_given = given } ∷ [])
      → (count_of es == length (dimensions_in symbols r.name)) ≡ true
  count-right r es given p h =
      let u : Use = record { name = r.name; count = count_of (all_erased es); is_given = given } in
      let a = (or_parts (is_miscounted arrays u) false h).0 in
      let b : not (count_of (all_erased es) == length (dimensions_named arrays r.name)) ≡ false =
      sym (ap (λ (c : Bool). if c then not (has_its_arguments u) else not (u.count == length (dimensions_named arrays r.name))) (called r.name (count_of (all_erased es)) given (ranked.other r p))) ∙ a in
      let n = sym (same-count es) in
      let d = ranked.dimensions r p in
      (λ i. n i == length (d i)) ∙ not-false (count_of (all_erased es) == length (dimensions_named arrays r.name)) b

  mutual
    term-counted : (e : Term) → Placed (term_references e) → Right (term_uses (erased e)) → is_counted symbols e ≡ true
    term-counted (constant n) p h = refl
    term-counted (truth b) p h = refl
    term-counted (parameter x n) p h = refl
    term-counted (element r es) p h =
        let q = all_parts (λ r. is_placed symbols r) (terms_references es) (r ∷ []) p in
        let k = any_parts (is_miscounted arrays) (terms_uses (all_erased es)) _ h in
        and_from (count_of es == length (dimensions_in symbols r.name)) (are_counted symbols es)
        (count-right r es false (and_parts (is_placed symbols r) true q.1).0 k.1) (terms-counted es q.0 k.0)
    term-counted (call f es) p h = terms-counted es p (any_parts (is_miscounted arrays) (terms_uses (all_erased es)) _ h).0
    term-counted (parentheses e) p h = term-counted e p h
    term-counted (unary o e) p h = term-counted e p h
    term-counted (binary o a b) p h =
        let q = all_parts (λ r. is_placed symbols r) (term_references a) (term_references b) p in
        let k = any_parts (is_miscounted arrays) (term_uses (erased a)) (term_uses (erased b)) h in
        and_from (is_counted symbols a) (is_counted symbols b) (term-counted a q.0 k.0) (term-counted b q.1 k.1)

    terms-counted : (es : Terms) → Placed (terms_references es) → Right (terms_uses (all_erased es)) → are_counted symbols es ≡ true
    terms-counted no_terms p h = refl
    terms-counted (then_term e es) p h =
        let q = all_parts (λ r. is_placed symbols r) (term_references e) (terms_references es) p in
        let k = any_parts (is_miscounted arrays) (term_uses (erased e)) (terms_uses (all_erased es)) h in
        and_from (is_counted symbols e) (are_counted symbols es) (term-counted e q.0 k.0) (terms-counted es q.1 k.1)

  -- an element, also where it is given a value
  element-counted : (r : Ref) (es : Terms) (given : Bool) → Placed (terms_references es ++ r ∷ [])
      → Right (terms_uses (all_erased es) ++ record { name = r.name; count = count_of (all_erased es); is_given = given } ∷ [])
      → is_counted symbols (element r es) ≡ true
  element-counted r es given p h =
      let q = all_parts (λ r. is_placed symbols r) (terms_references es) (r ∷ []) p in
      let k = any_parts (is_miscounted arrays) (terms_uses (all_erased es)) _ h in
      and_from (count_of es == length (dimensions_in symbols r.name)) (are_counted symbols es)
      (count-right r es given (and_parts (is_placed symbols r) true q.1).0 k.1) (terms-counted es q.0 k.0)

  -- ---- statements

  variable-counted : (r : Ref) → Placed (r ∷ []) → Right (record { name = r.name; count = 0; is_given = true } ∷ [])
      → list_all (λ e. is_counted symbols e) (element r no_terms ∷ []) ≡ true
  variable-counted r p k = and_from (is_counted symbols (element r no_terms)) true (element-counted r no_terms true p k) refl

  head-rest : (o : Option Term) (r : Ref) → Placed (expressions_references (optional o ++ element r no_terms ∷ []))
      → Right (optional_uses (option_map erased o)) → Right (record { name = r.name; count = 0; is_given = true } ∷ [])
      → list_all (λ e. is_counted symbols e) (optional o ++ element r no_terms ∷ []) ≡ true
  head-rest None r p h k = variable-counted r p k
  head-rest (Some e) r p h k =
      let q = all_parts (λ r. is_placed symbols r) (term_references e) (r ∷ []) p in
      and_from (is_counted symbols e) _ (term-counted e q.0 h) (variable-counted r q.1 k)

  items-counted : (items : List PrintItem) → Placed (expressions_references (items_expressions items)) → Right (all_uses item_uses (map item_erased items))
      → list_all (λ e. is_counted symbols e) (items_expressions items) ≡ true
  items-counted [] p h = refl
  items-counted (text_item t ∷ items) p h = items-counted items p h
  items-counted (value_item e ∷ items) p h =
      let q = all_parts (λ r. is_placed symbols r) (term_references e) _ p in
      let k = any_parts (is_miscounted arrays) (term_uses (erased e)) (all_uses item_uses (map item_erased items)) h in
      and_from (is_counted symbols e) _ (term-counted e q.0 k.0) (items-counted items q.1 k.1)

  targets-counted : (elements : List Access) → Placed (expressions_references (map accessed elements)) → Right (all_uses given_uses (map access_erased elements))
      → list_all (λ e. is_counted symbols e) (map accessed elements) ≡ true
  targets-counted [] p h = refl
  targets-counted (a ∷ elements) p h =
      let q = all_parts (λ r. is_placed symbols r) (term_references (accessed a)) (expressions_references (map accessed elements)) p in
      let k = any_parts (is_miscounted arrays) (given_uses (access_erased a)) (all_uses given_uses (map access_erased elements)) h in
      and_from (is_counted symbols (accessed a)) _ (element-counted a.ref a.subscripts true q.0 k.0) (targets-counted elements q.1 k.1)

  inner-counted : (k : Kind) → Placed (expressions_references (kind_expressions k)) → Right (uses (kind_erased k)) → list_all (λ e. is_counted symbols e) (kind_expressions k) ≡ true
  inner-counted (assign a e) p h =
      let q = all_parts (λ r. is_placed symbols r) (term_references e) (expressions_references (accessed a ∷ [])) p in
      let s = all_parts (λ r. is_placed symbols r) (term_references (accessed a)) [] q.1 in
      let k = any_parts (is_miscounted arrays) (term_uses (erased e)) (given_uses (access_erased a)) h in
      and_from (is_counted symbols e) _ (term-counted e q.0 k.0) (and_from (is_counted symbols (accessed a)) true (element-counted a.ref a.subscripts true s.0 k.1) refl)
  inner-counted (print items) p h = items-counted items p h
  inner-counted (read elements) p h = targets-counted elements p h
  inner-counted k p h = refl

  one-counted : (c : Term) → Placed (term_references c ++ []) → Right (term_uses (erased c)) → list_all (λ e. is_counted symbols e) (c ∷ []) ≡ true
  one-counted c p h = and_from (is_counted symbols c) true (term-counted c (all_parts (λ r. is_placed symbols r) (term_references c) [] p).0 h) refl

  pub kind-counted : (k : Kind) → Placed (expressions_references (own_expressions k)) → Right (uses (own_text k)) → list_all (λ e. is_counted symbols e) (own_expressions k) ≡ true
  kind-counted (do_loop d) p h =
      let a = all_parts (λ r. is_placed symbols r) (term_references d.first) _ p in
      let b = all_parts (λ r. is_placed symbols r) (term_references d.last) _ a.1 in
      let x = any_parts (is_miscounted arrays) (term_uses (erased d.first) ++ term_uses (erased d.last) ++ optional_uses (option_map erased d.step)) _ h in
      let y = any_parts (is_miscounted arrays) (term_uses (erased d.first) ++ term_uses (erased d.last)) (optional_uses (option_map erased d.step)) x.0 in
      let z = any_parts (is_miscounted arrays) (term_uses (erased d.first)) (term_uses (erased d.last)) y.0 in
      and_from (is_counted symbols d.first) _ (term-counted d.first a.0 z.0)
      (and_from (is_counted symbols d.last) _ (term-counted d.last b.0 z.1) (head-rest d.step d.variable b.1 y.1 x.1))
  kind-counted (block_if c) p h = one-counted c p h
  kind-counted (else_if c) p h = one-counted c p h
  kind-counted (logical_if c k) p h =
      let q = all_parts (λ r. is_placed symbols r) (term_references c) (expressions_references (kind_expressions k)) p in
      let x = any_parts (is_miscounted arrays) (term_uses (erased c)) (uses (kind_erased k)) h in
      and_from (is_counted symbols c) _ (term-counted c q.0 x.0) (inner-counted k q.1 x.1)
  kind-counted (assign a e) p h = inner-counted (assign a e) p h
  kind-counted (print items) p h = inner-counted (print items) p h
  kind-counted (read elements) p h = inner-counted (read elements) p h
  kind-counted k p h = refl
