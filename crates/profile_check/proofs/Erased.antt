-- An expression is known by its text, by what names stand for, and by the number of its first
-- reference.
use Rattle.std.proofs.Common.{◌≡◌, ◌∙◌, ℕ, ◌+◌, Bool, true, false, List, [], ◌∷◌, ◌++◌, length, refl, ap, sym, subst, map, Option, Some, None, option_map}
use Rattle.std.specs.Prelude.{ℤ, ◌==◌}
use Rattle.std.specs.List.{list_all}
use Rattle.std.proofs.lemmas.Bool.{and_parts, eqb-false, eqb-true}
use Rattle.std.proofs.lemmas.List.Folds.{list_all-append}
use Rattle.ast.specs.Program.{is_placed}
use Rattle.ast.specs.References.{term_references, terms_references, expressions_references, are_numbered, optional, item_expressions, items_expressions, kind_expressions, head_expressions, node_expressions, block_expressions, arms_expressions}
use Rattle.ast.specs.Symbols.{Symbol}
use Rattle.ast.specs.Tree.{Ref, Term, Terms, constant, truth, parameter, element, call, parentheses, unary, binary, no_terms, then_term, Access, accessed, PrintItem, value_item, text_item, Kind, program, integer, dimension, parameters, assign, do_loop, go_on, block_if, else_if, else_arm, end_if, logical_if, print, read, stop, end, DoHead, Statement, Node, plain, loop, choose, Block, no_nodes, then_node, Arms, no_arms, then_arm}
use Rattle.ast.specs.declared.expression.Intrinsic.{Intrinsic}
use Rattle.ast.proofs.References.{references_append, numbered_parts}
use Rattle.ast.specs.Spelling.{intrinsic_name}
use Rattle.profile_check.specs.Erasure.{ref_to, erased, all_erased, access_erased, item_erased, kind_erased, head_erased, node_erased, block_erased, arms_erased}
use Rattle.profile_check.specs.Reads.{is_constant, is_meant, are_meant}

-- a name stands for one thing: a variable in one place, a constant with one value, or an intrinsic
-- function
pub record Known (symbols : List Symbol) : Type 0 where
  pub place : (r s : Ref) → is_placed symbols r ≡ true → is_placed symbols s ≡ true → r.name ≡ s.name → r.cell ≡ s.cell
  pub value : (x : List ℕ) (n m : ℤ) → is_constant symbols x n ≡ true → is_constant symbols x m ≡ true → n ≡ m
  pub no_constant : (r : Ref) (n : ℤ) → is_placed symbols r ≡ true → is_constant symbols r.name n ≡ true → ⊥
  pub no_function : (r : Ref) (f : Intrinsic) → is_placed symbols r ≡ true → r.name ≡ intrinsic_name f → ⊥
  pub no_value : (f : Intrinsic) (n : ℤ) → is_constant symbols (intrinsic_name f) n ≡ true → ⊥
  pub function : (f g : Intrinsic) → intrinsic_name f ≡ intrinsic_name g → f ≡ g

-- each name is what it stands for, and references are numbered from n on
pub record Settled (symbols : List Symbol) (n : ℕ) (e : Term) : Type 0 where
  pub meant : is_meant symbols e ≡ true
  pub placed : list_all (λ r. is_placed symbols r) (term_references e) ≡ true
  pub numbered : are_numbered n (term_references e) ≡ true

pub record AllSettled (symbols : List Symbol) (n : ℕ) (es : Terms) : Type 0 where
  pub meant : are_meant symbols es ≡ true
  pub placed : list_all (λ r. is_placed symbols r) (terms_references es) ≡ true
  pub numbered : are_numbered n (terms_references es) ≡ true

placed-parts : (symbols : List Symbol) (xs ys : List Ref) → list_all (λ r. is_placed symbols r) (xs ++ ys) ≡ true
    → (list_all (λ r. is_placed symbols r) xs ≡ true) × (list_all (λ r. is_placed symbols r) ys ≡ true)
placed-parts symbols xs ys h = and_parts (list_all (λ r. is_placed symbols r) xs) (list_all (λ r. is_placed symbols r) ys) (sym (list_all-append (λ r. is_placed symbols r) xs ys) ∙ h)

left : (symbols : List Symbol) (n : ℕ) (o : _) (a b : Term) → Settled symbols n (binary o a b) → Settled symbols n a
left symbols n o a b h = record {
  meant = (and_parts (is_meant symbols a) (is_meant symbols b) h.meant).0;
  placed = (placed-parts symbols (term_references a) (term_references b) h.placed).0;
  numbered = (numbered_parts n (term_references a) (term_references b) h.numbered).0;
}

right : (symbols : List Symbol) (n : ℕ) (o : _) (a b : Term) → Settled symbols n (binary o a b) → Settled symbols (n + length (term_references a)) b
right symbols n o a b h = record {
  meant = (and_parts (is_meant symbols a) (is_meant symbols b) h.meant).1;
  placed = (placed-parts symbols (term_references a) (term_references b) h.placed).1;
  numbered = (numbered_parts n (term_references a) (term_references b) h.numbered).1;
}

first : (symbols : List Symbol) (n : ℕ) (e : Term) (es : Terms) → AllSettled symbols n (then_term e es) → Settled symbols n e
first symbols n e es h = record {
  meant = (and_parts (is_meant symbols e) (are_meant symbols es) h.meant).0;
  placed = (placed-parts symbols (term_references e) (terms_references es) h.placed).0;
  numbered = (numbered_parts n (term_references e) (terms_references es) h.numbered).0;
}

rest : (symbols : List Symbol) (n : ℕ) (e : Term) (es : Terms) → AllSettled symbols n (then_term e es) → AllSettled symbols (n + length (term_references e)) es
rest symbols n e es h = record {
  meant = (and_parts (is_meant symbols e) (are_meant symbols es) h.meant).1;
  placed = (placed-parts symbols (term_references e) (terms_references es) h.placed).1;
  numbered = (numbered_parts n (term_references e) (terms_references es) h.numbered).1;
}

subscripts : (symbols : List Symbol) (n : ℕ) (r : Ref) (es : Terms) → Settled symbols n (element r es) → AllSettled symbols n es
subscripts symbols n r es h = record {
  meant = h.meant;
  placed = (placed-parts symbols (terms_references es) (r ∷ []) h.placed).0;
  numbered = (numbered_parts n (terms_references es) (r ∷ []) h.numbered).0;
}

own-placed : (symbols : List Symbol) (n : ℕ) (r : Ref) (es : Terms) → Settled symbols n (element r es) → is_placed symbols r ≡ true
own-placed symbols n r es h = (and_parts (is_placed symbols r) true ((placed-parts symbols (terms_references es) (r ∷ []) h.placed).1)).0

own-number : (symbols : List Symbol) (n : ℕ) (r : Ref) (es : Terms) → Settled symbols n (element r es) → r.id ≡ n + length (terms_references es)
own-number symbols n r es h = eqb-true r.id (n + length (terms_references es)) ((and_parts (r.id == n + length (terms_references es)) true ((numbered_parts n (terms_references es) (r ∷ []) h.numbered).1)).0)

arguments : (symbols : List Symbol) (n : ℕ) (f : Intrinsic) (es : Terms) → Settled symbols n (call f es) → AllSettled symbols n es
arguments symbols n f es h = record { meant = h.meant; placed = h.placed; numbered = h.numbered }

-- the name of what an element, a call or a constant is written as
abbrev name-of : Term → List ℕ
name-of (element r es) = r.name
name-of _ = []

same-name : {x y : List ℕ} {es fs : Terms} → element (ref_to x) es ≡ element (ref_to y) fs → x ≡ y
same-name {x = x} {y = y} e = ap name-of e

same-element : (r s : Ref) (es fs : Terms) → r.name ≡ s.name → r.id ≡ s.id → r.cell ≡ s.cell → es ≡ fs → element r es ≡ element s fs
same-element r s es fs a b c d = λ i. element (record { name = a i; id = b i; cell = c i }) (d i)

-- which form an expression has; what is written as an element is one
abbrev form-of : Term → ℕ
form-of (constant a) = 0
form-of (truth a) = 1
form-of (parentheses a) = 2
form-of (unary p a) = 3
form-of (binary o a b) = 4
form-of _ = 5

mutual
  pub same-term : (symbols : List Symbol) → Known symbols → (n : ℕ) (e f : Term) → erased e ≡ erased f → Settled symbols n e → Settled symbols n f → e ≡ f
  same-term symbols k n (constant a) (constant b) e h g = e
  same-term symbols k n (truth a) (truth b) e h g = e
  same-term symbols k n (parameter x a) (parameter y b) e h g =
      let q : x ≡ y = same-name e in
      let v : a ≡ b = k.value y a b (subst (λ (z : List ℕ). is_constant symbols z a ≡ true) q h.meant) g.meant in
      λ i. parameter (q i) (v i)
  same-term symbols k n (parameter x a) (element s fs) e h g =
      absurd (k.no_constant s a (own-placed symbols n s fs g) (subst (λ (z : List ℕ). is_constant symbols z a ≡ true) (same-name e) h.meant))
  same-term symbols k n (parameter x a) (call f fs) e h g =
      absurd (k.no_value f a (subst (λ (z : List ℕ). is_constant symbols z a ≡ true) (same-name e) h.meant))
  same-term symbols k n (element r es) (parameter y b) e h g =
      absurd (k.no_constant r b (own-placed symbols n r es h) (subst (λ (z : List ℕ). is_constant symbols z b ≡ true) (sym (same-name e)) g.meant))
  same-term symbols k n (call f es) (parameter y b) e h g =
      absurd (k.no_value f b (subst (λ (z : List ℕ). is_constant symbols z b ≡ true) (sym (same-name e)) g.meant))
  same-term symbols k n (element r es) (element s fs) e h g =
      let q : r.name ≡ s.name = same-name e in
      let t : es ≡ fs = same-terms symbols k n es fs (let z : all_erased es ≡ all_erased fs = cc in z) (subscripts symbols n r es h) (subscripts symbols n s fs g) in
      same-element r s es fs q
      (own-number symbols n r es h ∙ ap (λ (ts : Terms). n + length (terms_references ts)) t ∙ sym (own-number symbols n s fs g))
      (k.place r s (own-placed symbols n r es h) (own-placed symbols n s fs g) q) t
  same-term symbols k n (element r es) (call f fs) e h g = absurd (k.no_function r f (own-placed symbols n r es h) (same-name e))
  same-term symbols k n (call f es) (element s fs) e h g = absurd (k.no_function s f (own-placed symbols n s fs g) (sym (same-name e)))
  same-term symbols k n (call f es) (call g fs) e h i =
      let q : f ≡ g = k.function f g (same-name e) in
      let t : es ≡ fs = same-terms symbols k n es fs (let z : all_erased es ≡ all_erased fs = cc in z) (arguments symbols n f es h) (arguments symbols n g fs i) in
      λ j. call (q j) (t j)
  same-term symbols k n (parentheses a) (parentheses b) e h g =
      ap parentheses (same-term symbols k n a b (let z : erased a ≡ erased b = cc in z) (record { meant = h.meant; placed = h.placed; numbered = h.numbered }) (record { meant = g.meant; placed = g.placed; numbered = g.numbered }))
  same-term symbols k n (unary p a) (unary o b) e h g =
      let q : p ≡ o = cc in
      let t : a ≡ b = same-term symbols k n a b (let z : erased a ≡ erased b = cc in z) (record { meant = h.meant; placed = h.placed; numbered = h.numbered }) (record { meant = g.meant; placed = g.placed; numbered = g.numbered }) in
      λ j. unary (q j) (t j)
  same-term symbols k n (binary o a b) (binary p c d) e h g =
      let q : o ≡ p = cc in
      let t : a ≡ c = same-term symbols k n a c (let z : erased a ≡ erased c = cc in z) (left symbols n o a b h) (left symbols n p c d g) in
      let u : b ≡ d = same-term symbols k (n + length (term_references a)) b d (let z : erased b ≡ erased d = cc in z) (right symbols n o a b h)
      (subst (λ (x : Term). Settled symbols (n + length (term_references x)) d) (sym t) (right symbols n p c d g)) in
      λ j. binary (q j) (t j) (u j)
  same-term symbols k n a b e h g = absurd (eqb-false (form-of (erased a)) (form-of (erased b)) refl (ap form-of e))

  pub same-terms : (symbols : List Symbol) → Known symbols → (n : ℕ) (es fs : Terms) → all_erased es ≡ all_erased fs → AllSettled symbols n es → AllSettled symbols n fs → es ≡ fs
  same-terms symbols k n no_terms no_terms e h g = refl
  same-terms symbols k n no_terms (then_term f fs) e h g = absurd cc
  same-terms symbols k n (then_term a es) no_terms e h g = absurd cc
  same-terms symbols k n (then_term a es) (then_term b fs) e h g =
      let t : a ≡ b = same-term symbols k n a b (let z : erased a ≡ erased b = cc in z) (first symbols n a es h) (first symbols n b fs g) in
      let u : es ≡ fs = same-terms symbols k (n + length (term_references a)) es fs (let z : all_erased es ≡ all_erased fs = cc in z) (rest symbols n a es h)
      (subst (λ (x : Term). AllSettled symbols (n + length (term_references x)) fs) (sym t) (rest symbols n b fs g)) in
      λ j. then_term (t j) (u j)

-- ---- lists of expressions, statements and trees

pub record ListSettled (symbols : List Symbol) (n : ℕ) (es : List Term) : Type 0 where
  pub meant : list_all (λ e. is_meant symbols e) es ≡ true
  pub placed : list_all (λ r. is_placed symbols r) (expressions_references es) ≡ true
  pub numbered : are_numbered n (expressions_references es) ≡ true

abbrev count : List Term → ℕ
count es = length (expressions_references es)

one : (symbols : List Symbol) (n : ℕ) (e : Term) (es : List Term) → ListSettled symbols n (e ∷ es) → Settled symbols n e
one symbols n e es h = record {
  meant = (and_parts (is_meant symbols e) (list_all (λ e. is_meant symbols e) es) h.meant).0;
  placed = (placed-parts symbols (term_references e) (expressions_references es) h.placed).0;
  numbered = (numbered_parts n (term_references e) (expressions_references es) h.numbered).0;
}

others : (symbols : List Symbol) (n : ℕ) (e : Term) (es : List Term) → ListSettled symbols n (e ∷ es) → ListSettled symbols (n + length (term_references e)) es
others symbols n e es h = record {
  meant = (and_parts (is_meant symbols e) (list_all (λ e. is_meant symbols e) es) h.meant).1;
  placed = (placed-parts symbols (term_references e) (expressions_references es) h.placed).1;
  numbered = (numbered_parts n (term_references e) (expressions_references es) h.numbered).1;
}

front : (symbols : List Symbol) (n : ℕ) (xs ys : List Term) → ListSettled symbols n (xs ++ ys) → ListSettled symbols n xs
front symbols n xs ys h = record {
  meant = (and_parts (list_all (λ e. is_meant symbols e) xs) (list_all (λ e. is_meant symbols e) ys) (sym (list_all-append (λ e. is_meant symbols e) xs ys) ∙ h.meant)).0;
  placed = (placed-parts symbols (expressions_references xs) (expressions_references ys) (subst (λ (rs : List Ref). list_all (λ r. is_placed symbols r) rs ≡ true) (references_append xs ys) h.placed)).0;
  numbered = (numbered_parts n (expressions_references xs) (expressions_references ys) (subst (λ (rs : List Ref). are_numbered n rs ≡ true) (references_append xs ys) h.numbered)).0;
}

back : (symbols : List Symbol) (n : ℕ) (xs ys : List Term) → ListSettled symbols n (xs ++ ys) → ListSettled symbols (n + count xs) ys
back symbols n xs ys h = record {
  meant = (and_parts (list_all (λ e. is_meant symbols e) xs) (list_all (λ e. is_meant symbols e) ys) (sym (list_all-append (λ e. is_meant symbols e) xs ys) ∙ h.meant)).1;
  placed = (placed-parts symbols (expressions_references xs) (expressions_references ys) (subst (λ (rs : List Ref). list_all (λ r. is_placed symbols r) rs ≡ true) (references_append xs ys) h.placed)).1;
  numbered = (numbered_parts n (expressions_references xs) (expressions_references ys) (subst (λ (rs : List Ref). are_numbered n rs ≡ true) (references_append xs ys) h.numbered)).1;
}

abbrev access-of : Term → Access
access-of (element r es) = record { ref = r; subscripts = es }
access-of _ = record { ref = ref_to []; subscripts = no_terms }

abbrev is-assign : Kind → Bool
is-assign (assign a e) = true
is-assign _ = false

abbrev is-print : Kind → Bool
is-print (print items) = true
is-print _ = false

abbrev is-read : Kind → Bool
is-read (read elements) = true
is-read _ = false

-- which form a node has
abbrev node-form : Node → ℕ
node-form (plain s) = 0
node-form (loop l d b) = 1
node-form (choose a) = 2

clash : true ≡ false → ⊥
clash e = cc

-- a statement without references is as its text has it
unchanged : (x y : Kind) → is-assign x ≡ false → is-print x ≡ false → is-read x ≡ false → x ≡ kind_erased y → x ≡ y
unchanged x (assign a c) p q r e = absurd (clash (sym (ap is-assign e) ∙ p))
unchanged x (print items) p q r e = absurd (clash (sym (ap is-print e) ∙ q))
unchanged x (read elements) p q r e = absurd (clash (sym (ap is-read e) ∙ r))
unchanged x _ p q r e = e

module _ (symbols : List Symbol) (k : Known symbols) where
  same-access : (n : ℕ) (a b : Access) → access_erased a ≡ access_erased b → Settled symbols n (accessed a) → Settled symbols n (accessed b) → a ≡ b
  same-access n a b e h g = ap access-of (same-term symbols k n (accessed a) (accessed b) (ap accessed e) h g)

  same-optional : (n : ℕ) (c d : Option Term) → option_map erased c ≡ option_map erased d → ListSettled symbols n (optional c) → ListSettled symbols n (optional d) → c ≡ d
  same-optional n None None e h g = refl
  same-optional n None (Some d) e h g = absurd cc
  same-optional n (Some c) None e h g = absurd cc
  same-optional n (Some c) (Some d) e h g = ap (λ (x : Term). Some x) (same-term symbols k n c d (let z : erased c ≡ erased d = cc in z) (one symbols n c [] h) (one symbols n d [] g))

  same-item : (n : ℕ) (a b : PrintItem) → item_erased a ≡ item_erased b → ListSettled symbols n (item_expressions a) → ListSettled symbols n (item_expressions b) → a ≡ b
  same-item n (value_item c) (value_item d) e h g = ap value_item (same-term symbols k n c d (let z : erased c ≡ erased d = cc in z) (one symbols n c [] h) (one symbols n d [] g))
  same-item n (text_item s) (text_item t) e h g = e
  same-item n (value_item c) (text_item t) e h g = absurd cc
  same-item n (text_item s) (value_item d) e h g = absurd cc

  same-items : (n : ℕ) (xs ys : List PrintItem) → map item_erased xs ≡ map item_erased ys → ListSettled symbols n (items_expressions xs) → ListSettled symbols n (items_expressions ys) → xs ≡ ys
  same-items n [] [] e h g = refl
  same-items n [] (b ∷ bs) e h g = absurd cc
  same-items n (a ∷ xs) [] e h g = absurd cc
  same-items n (a ∷ xs) (b ∷ ys) e h g =
      let t : a ≡ b = same-item n a b (let z : item_erased a ≡ item_erased b = cc in z) (front symbols n (item_expressions a) (items_expressions xs) h) (front symbols n (item_expressions b) (items_expressions ys) g) in
      let u : xs ≡ ys = same-items (n + count (item_expressions a)) xs ys (let z : map item_erased xs ≡ map item_erased ys = cc in z) (back symbols n (item_expressions a) (items_expressions xs) h)
      (subst (λ (x : PrintItem). ListSettled symbols (n + count (item_expressions x)) (items_expressions ys)) (sym t) (back symbols n (item_expressions b) (items_expressions ys) g)) in
      λ j. t j ∷ u j

  same-accesses : (n : ℕ) (xs ys : List Access) → map access_erased xs ≡ map access_erased ys → ListSettled symbols n (map accessed xs) → ListSettled symbols n (map accessed ys) → xs ≡ ys
  same-accesses n [] [] e h g = refl
  same-accesses n [] (b ∷ bs) e h g = absurd cc
  same-accesses n (a ∷ xs) [] e h g = absurd cc
  same-accesses n (a ∷ xs) (b ∷ ys) e h g =
      let t : a ≡ b = same-access n a b (let z : access_erased a ≡ access_erased b = cc in z) (one symbols n (accessed a) (map accessed xs) h) (one symbols n (accessed b) (map accessed ys) g) in
      let u : xs ≡ ys = same-accesses (n + length (term_references (accessed a))) xs ys (let z : map access_erased xs ≡ map access_erased ys = cc in z) (others symbols n (accessed a) (map accessed xs) h)
      (subst (λ (x : Access). ListSettled symbols (n + length (term_references (accessed x))) (map accessed ys)) (sym t) (others symbols n (accessed b) (map accessed ys) g)) in
      λ j. t j ∷ u j

  same-kind : (n : ℕ) (x y : Kind) → kind_erased x ≡ kind_erased y → ListSettled symbols n (kind_expressions x) → ListSettled symbols n (kind_expressions y) → x ≡ y
  same-kind n (assign a c) (assign b d) e h g =
      let t : c ≡ d = same-term symbols k n c d (let z : erased c ≡ erased d = cc in z) (one symbols n c (accessed a ∷ []) h) (one symbols n d (accessed b ∷ []) g) in
      let u : a ≡ b = same-access (n + length (term_references c)) a b (let z : access_erased a ≡ access_erased b = cc in z)
      (one symbols (n + length (term_references c)) (accessed a) [] (others symbols n c (accessed a ∷ []) h))
      (one symbols (n + length (term_references c)) (accessed b) [] (subst (λ (x : Term). ListSettled symbols (n + length (term_references x)) (accessed b ∷ [])) (sym t) (others symbols n d (accessed b ∷ []) g))) in
      λ j. assign (u j) (t j)
  same-kind n (print a) (print b) e h g = ap print (same-items n a b (let z : map item_erased a ≡ map item_erased b = cc in z) h g)
  same-kind n (read a) (read b) e h g = ap read (same-accesses n a b (let z : map access_erased a ≡ map access_erased b = cc in z) h g)
  same-kind n (assign a c) _ e h g = absurd (clash (ap is-assign e))
  same-kind n (print a) _ e h g = absurd (clash (ap is-print e))
  same-kind n (read a) _ e h g = absurd (clash (ap is-read e))
  same-kind n (program a) y e h g = unchanged (program a) y refl refl refl e
  same-kind n (integer a) y e h g = unchanged (integer a) y refl refl refl e
  same-kind n (dimension a) y e h g = unchanged (dimension a) y refl refl refl e
  same-kind n (parameters a) y e h g = unchanged (parameters a) y refl refl refl e
  same-kind n (do_loop a) y e h g = unchanged (do_loop a) y refl refl refl e
  same-kind n go_on y e h g = unchanged go_on y refl refl refl e
  same-kind n (block_if a) y e h g = unchanged (block_if a) y refl refl refl e
  same-kind n (else_if a) y e h g = unchanged (else_if a) y refl refl refl e
  same-kind n else_arm y e h g = unchanged else_arm y refl refl refl e
  same-kind n end_if y e h g = unchanged end_if y refl refl refl e
  same-kind n (logical_if a b) y e h g = unchanged (logical_if a b) y refl refl refl e
  same-kind n stop y e h g = unchanged stop y refl refl refl e
  same-kind n end y e h g = unchanged end y refl refl refl e

  same-head : (n : ℕ) (x y : DoHead) → head_erased x ≡ head_erased y → ListSettled symbols n (head_expressions x) → ListSettled symbols n (head_expressions y) → x ≡ y
  same-head n x y e h g =
      let v : Term = element x.variable no_terms in
      let w : Term = element y.variable no_terms in
      let xs : List Term = optional x.step ++ v ∷ [] in
      let ys : List Term = optional y.step ++ w ∷ [] in
      let m : ℕ = n + length (term_references x.first) in
      let a : x.first ≡ y.first = same-term symbols k n x.first y.first (ap (λ (z : DoHead). z.first) e) (one symbols n x.first (x.last ∷ xs) h) (one symbols n y.first (y.last ∷ ys) g) in
      let h1 = others symbols n x.first (x.last ∷ xs) h in
      let g1 = subst (λ (z : Term). ListSettled symbols (n + length (term_references z)) (y.last ∷ ys)) (sym a) (others symbols n y.first (y.last ∷ ys) g) in
      let b : x.last ≡ y.last = same-term symbols k m x.last y.last (ap (λ (z : DoHead). z.last) e) (one symbols m x.last xs h1) (one symbols m y.last ys g1) in
      let l : ℕ = m + length (term_references x.last) in
      let h2 = others symbols m x.last xs h1 in
      let g2 = subst (λ (z : Term). ListSettled symbols (m + length (term_references z)) ys) (sym b) (others symbols m y.last ys g1) in
      let c : x.step ≡ y.step = same-optional l x.step y.step (ap (λ (z : DoHead). z.step) e) (front symbols l (optional x.step) (v ∷ []) h2) (front symbols l (optional y.step) (w ∷ []) g2) in
      let h3 = back symbols l (optional x.step) (v ∷ []) h2 in
      let g3 = subst (λ (z : Option Term). ListSettled symbols (l + count (optional z)) (w ∷ [])) (sym c) (back symbols l (optional y.step) (w ∷ []) g2) in
      let d : v ≡ w = same-term symbols k (l + count (optional x.step)) v w (ap (λ (z : DoHead). element z.variable no_terms) e) (one symbols (l + count (optional x.step)) v [] h3) (one symbols (l + count (optional x.step)) w [] g3) in
      λ i. record { terminal = (e i).terminal; variable = (access-of (d i)).ref; first = a i; last = b i; step = c i }

  mutual
    pub same-node : (n : ℕ) (x y : Node) → node_erased x ≡ node_erased y → ListSettled symbols n (node_expressions x) → ListSettled symbols n (node_expressions y) → x ≡ y
    same-node n (plain s) (plain t) e h g =
        let q : record { line = s.line; label = s.label; kind = kind_erased s.kind } ≡ record { line = t.line; label = t.label; kind = kind_erased t.kind } = cc in
        let m : s.kind ≡ t.kind = same-kind n s.kind t.kind (ap (λ (z : Statement). z.kind) q) h g in
        λ i. plain (record { line = (q i).line; label = (q i).label; kind = m i })
    same-node n (loop l d b) (loop m f c) e h g =
        let q : l ≡ m = cc in
        let t : d ≡ f = same-head n d f (let z : head_erased d ≡ head_erased f = cc in z) (front symbols n (head_expressions d) (block_expressions b) h) (front symbols n (head_expressions f) (block_expressions c) g) in
        let u : b ≡ c = same-block (n + count (head_expressions d)) b c (let z : block_erased b ≡ block_erased c = cc in z) (back symbols n (head_expressions d) (block_expressions b) h)
        (subst (λ (x : DoHead). ListSettled symbols (n + count (head_expressions x)) (block_expressions c)) (sym t) (back symbols n (head_expressions f) (block_expressions c) g)) in
        λ i. loop (q i) (t i) (u i)
    same-node n (choose a) (choose b) e h g = ap choose (same-arms n a b (let z : arms_erased a ≡ arms_erased b = cc in z) h g)
    same-node n x y e h g = absurd (eqb-false (node-form (node_erased x)) (node-form (node_erased y)) refl (ap node-form e))

    pub same-block : (n : ℕ) (x y : Block) → block_erased x ≡ block_erased y → ListSettled symbols n (block_expressions x) → ListSettled symbols n (block_expressions y) → x ≡ y
    same-block n no_nodes no_nodes e h g = refl
    same-block n no_nodes (then_node b y) e h g = absurd cc
    same-block n (then_node a x) no_nodes e h g = absurd cc
    same-block n (then_node a x) (then_node b y) e h g =
        let t : a ≡ b = same-node n a b (let z : node_erased a ≡ node_erased b = cc in z) (front symbols n (node_expressions a) (block_expressions x) h) (front symbols n (node_expressions b) (block_expressions y) g) in
        let u : x ≡ y = same-block (n + count (node_expressions a)) x y (let z : block_erased x ≡ block_erased y = cc in z) (back symbols n (node_expressions a) (block_expressions x) h)
        (subst (λ (m : Node). ListSettled symbols (n + count (node_expressions m)) (block_expressions y)) (sym t) (back symbols n (node_expressions b) (block_expressions y) g)) in
        λ i. then_node (t i) (u i)

    pub same-arms : (n : ℕ) (x y : Arms) → arms_erased x ≡ arms_erased y → ListSettled symbols n (arms_expressions x) → ListSettled symbols n (arms_expressions y) → x ≡ y
    same-arms n no_arms no_arms e h g = refl
    same-arms n no_arms (then_arm l c b y) e h g = absurd cc
    same-arms n (then_arm l c b x) no_arms e h g = absurd cc
    same-arms n (then_arm l c b x) (then_arm m d a y) e h g =
        let q : l ≡ m = cc in
        let h1 = front symbols n (optional c ++ block_expressions b) (arms_expressions x) h in
        let g1 = front symbols n (optional d ++ block_expressions a) (arms_expressions y) g in
        let t : c ≡ d = same-optional n c d (let z : option_map erased c ≡ option_map erased d = cc in z) (front symbols n (optional c) (block_expressions b) h1) (front symbols n (optional d) (block_expressions a) g1) in
        let u : b ≡ a = same-block (n + count (optional c)) b a (let z : block_erased b ≡ block_erased a = cc in z) (back symbols n (optional c) (block_expressions b) h1)
        (subst (λ (o : Option Term). ListSettled symbols (n + count (optional o)) (block_expressions a)) (sym t) (back symbols n (optional d) (block_expressions a) g1)) in
        let parts : optional d ++ block_expressions a ≡ optional c ++ block_expressions b = λ i. optional (sym t i) ++ block_expressions (sym u i) in
        let v : x ≡ y = same-arms (n + count (optional c ++ block_expressions b)) x y (let z : arms_erased x ≡ arms_erased y = cc in z) (back symbols n (optional c ++ block_expressions b) (arms_expressions x) h)
        (subst (λ (es : List Term). ListSettled symbols (n + count es) (arms_expressions y)) parts (back symbols n (optional d ++ block_expressions a) (arms_expressions y) g)) in
        λ i. then_arm (q i) (t i) (u i) (v i)
