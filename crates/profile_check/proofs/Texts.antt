-- Statements that a text spells: their references have no numbers and no places yet, there are no
-- more of them than the text has characters, and their expressions are shallow.
use Rattle.std.proofs.Common.{◌≡◌, ◌∙◌, ℕ, ◌+◌, ◌-◌, ◌*◌, ◌<◌, ◌≤◌, Bool, true, false, cond, eqb, leb, ◌&&◌, ◌⊎◌, inl, inr, List, [], ◌∷◌, ◌++◌, length, map, Option, Some, None, option_map, refl, ap, ap₂, sym, subst, arith}
use Rattle.std.specs.Prelude.{codes, max, ⊤}
use Rattle.std.proofs.lemmas.Bool.{le-leb}
use Rattle.std.proofs.lemmas.List.{length-append}
use Rattle.ast.specs.Program.{greatest_depth}
use Rattle.ast.specs.References.{optional, items_expressions, kind_expressions}
use Rattle.ast.specs.Tree.{Ref, Term, Terms, constant, truth, parameter, element, call, parentheses, unary, binary, no_terms, then_term, Access, accessed, PrintItem, value_item, text_item, DoHead, Kind, assign, do_loop, block_if, else_if, logical_if, print, read, Statement, depth}
use Rattle.expressions.proofs.Tools.{some_is, on_true, on_false, choice, after_law}
use Rattle.expressions.specs.Characters.{begins_with, after}
use Rattle.expressions.specs.Grammar.{Spells, AreSubscripts, AreFurther, IsReference, IsAccess}
use Rattle.ast.specs.Spelling.{prefix_spelling, spelling}
use Rattle.expressions.proofs.Complete.{letter_some}
use Rattle.expressions.specs.Levels.{primary, top, left_level, right_level, operand_level}
use Rattle.fixed_form.specs.declared.labelled.Labelled.{Labelled}
use Rattle.fixed_form.specs.Answers.{entries}
use Rattle.fixed_form.specs.Limits.{longest_text}
use Rattle.fixed_form.specs.Lines.{Entry}
use Rattle.syntax.specs.declared.class.Keyword.{Keyword}
use Rattle.syntax.specs.declared.class.Keyword.TheVariants as keywords
use Rattle.syntax.specs.Classes as classes
use Rattle.syntax.specs.Classes.{Class, worded, assignment, unclosed, unknown, level_after, enclosed_from, enclosed, is_word, are_labels, if_class, is_do, stands_at_level_zero, first_keyword, class_by_keyword, simple_class, other_class, class_behind_if, class_of}
use Rattle.syntax.specs.Depths.{greatest, depth_of_kind, depth_of_optional, depth_of_access, depth_of_item}
use Rattle.syntax.specs.Pieces.{Piece, mark, quoted, doubled, Cut, folded, marks}
use Rattle.syntax.specs.Statements as statements
use Rattle.syntax.specs.Statements.{AreParts, AreOptional, AreBehindComma, nothing, IsStep, IsDoHead, IsItem, AreFurtherItems, AreItems, IsKind, IsStatement}
use Rattle.profile_check.proofs.Parts.{own_expressions, own_text, are_shallow_in}
use Rattle.profile_check.specs.Erasure.{ref_to, erased, all_erased, access_erased, item_erased, kind_erased, head_erased}
use Rattle.profile_check.specs.Reads.{Spelled}
use Rattle.profile_check.specs.Resolving.{count, count_terms, total, access_count, count_optional, item_count, head_count, kind_count, references_in}

-- ---- as the text has them

reference-bare : (r : Ref) (t : List ℕ) → IsReference r t → ref_to r.name ≡ r
reference-bare r t h = ap (λ (q : Ref). ref_to q.name) h.2 ∙ sym h.2

mutual
  term-bare : (e : Term) (level : ℕ) (t : List ℕ) → Spells level e t → erased e ≡ e
  term-bare (constant n) level t h = refl
  term-bare (truth b) level t h = refl
  term-bare (parameter x n) level t h = absurd h
  term-bare (element r es) level t h = ap₂ element (reference-bare r h.0 h.3) (subscripts-bare es h.1 h.4)
  term-bare (call f es) level t h = absurd h
  term-bare (parentheses e) level t h = ap parentheses (term-bare e top h.0 h.2)
  term-bare (unary p e) level t h = ap (unary p) (term-bare e (operand_level p) h.1 h.3)
  term-bare (binary o a b) level t h = ap₂ (binary o) (term-bare a (left_level o) h.1 h.4) (term-bare b (right_level o) h.2 h.5)

  subscripts-bare : (es : Terms) (t : List ℕ) → AreSubscripts es t → all_erased es ≡ es
  subscripts-bare no_terms t h = refl
  subscripts-bare (then_term e es) t h = ap₂ then_term (term-bare e top h.0 h.3) (further-bare es h.1 h.4)

  further-bare : (es : Terms) (t : List ℕ) → AreFurther es t → all_erased es ≡ es
  further-bare no_terms t h = refl
  further-bare (then_term e es) t h = ap₂ then_term (term-bare e top h.0 h.3) (further-bare es h.1 h.4)

access-bare : (a : Access) (t : List ℕ) → IsAccess a t → access_erased a ≡ a
access-bare a t h =
    let r = reference-bare a.ref h.0 h.3 in
    let es = subscripts-bare a.subscripts h.1 h.4 in
    λ i. record { ref = r i; subscripts = es i }

further-accesses-bare : (es : List Access) (t : List ℕ) → statements.AreFurther IsAccess nothing es t → map access_erased es ≡ es
further-accesses-bare [] t h = refl
further-accesses-bare (a ∷ es) t h = ap₂ (λ (x : Access) xs. x ∷ xs) (access-bare a h.0 h.3) (further-accesses-bare es h.1 h.4)

accesses-bare : (es : List Access) (t : List ℕ) → AreParts IsAccess nothing es t → map access_erased es ≡ es
accesses-bare [] t h = refl
accesses-bare (a ∷ es) t h = ap₂ (λ (x : Access) xs. x ∷ xs) (access-bare a h.0 h.3) (further-accesses-bare es h.1 h.4)

item-bare : (i : PrintItem) (t : List ℕ) (cs left : List (List ℕ)) → IsItem i t cs left → item_erased i ≡ i
item-bare (value_item e) t cs left h = ap value_item (term-bare e top t h.0)
item-bare (text_item s) t cs left h = refl

further-items-bare : (cs : List (List ℕ)) (items : List PrintItem) (t : List ℕ) → AreFurtherItems cs items t → map item_erased items ≡ items
further-items-bare cs [] t h = refl
further-items-bare cs (i ∷ items) t h = ap₂ (λ (x : PrintItem) xs. x ∷ xs) (item-bare i h.0 cs h.2 h.4) (further-items-bare h.2 items h.1 h.5)

items-bare : (cs : List (List ℕ)) (items : List PrintItem) (t : List ℕ) → AreItems cs items t → map item_erased items ≡ items
items-bare cs [] t h = refl
items-bare cs (i ∷ items) t h = ap₂ (λ (x : PrintItem) xs. x ∷ xs) (item-bare i h.0 cs h.2 h.4) (further-items-bare h.2 items h.1 h.5)

step-bare : (o : Option Term) (t : List ℕ) → IsStep o t → option_map erased o ≡ o
step-bare None t h = refl
step-bare (Some e) t h = ap Some (term-bare e top h.0 h.2)

head-bare : (d : DoHead) (t : List ℕ) → IsDoHead d t → head_erased d ≡ d
head-bare d t h =
    let p = h.8 in
    let variable = reference-bare d.variable h.2 h.7 in
    let first = term-bare d.first top p.0 p.4 in
    let last = term-bare d.last top p.1 p.5 in
    let step = step-bare d.step p.2 p.6 in
    λ i. record { terminal = d.terminal; variable = variable i; first = first i; last = last i; step = step i }

print-bare : (cs : List (List ℕ)) (items : List PrintItem) (u : List ℕ) → AreBehindComma (AreItems cs) items u ⊎ AreOptional (AreItems cs) items u → map item_erased items ≡ items
print-bare cs [] u h = refl
print-bare cs (i ∷ items) u (inl h) = items-bare cs (i ∷ items) h.0 h.2
print-bare cs (i ∷ items) u (inr h) = items-bare cs (i ∷ items) u h

read-bare : (es : List Access) (u : List ℕ) → AreBehindComma (AreParts IsAccess nothing) es u ⊎ AreOptional (AreParts IsAccess nothing) es u → map access_erased es ≡ es
read-bare [] u h = refl
read-bare (a ∷ es) u (inl h) = accesses-bare (a ∷ es) h.0 h.2
read-bare (a ∷ es) u (inr h) = accesses-bare (a ∷ es) u h

-- which of two ways of writing a list was taken doesn't matter for its parts
pub either-way : {A B C D : Type 0} → (A × B) ⊎ (C × D) → B ⊎ D
either-way (inl h) = inl h.1
either-way (inr h) = inr h.1

kind-bare : (k : Kind) (t : List ℕ) (cs : List (List ℕ)) → IsKind k t cs → kind_erased k ≡ k
kind-bare (assign a e) t cs h = ap₂ assign (access-bare a h.0 h.3) (term-bare e top h.1 h.4)
kind-bare (print items) t cs h = ap print (print-bare cs items h.0 (either-way h.1))
kind-bare (read es) t cs h = ap read (read-bare es h.0 (either-way h.1))
kind-bare k t cs h = refl

pub bare : (k : Kind) (t : List ℕ) (cs : List (List ℕ)) → IsKind k t cs → own_text k ≡ k
bare (assign a e) t cs h = kind-bare (assign a e) t cs h
bare (do_loop d) t cs h = ap do_loop (head-bare d h.0 h.2)
bare (block_if e) t cs h = ap block_if (term-bare e top h.0 h.2)
bare (else_if e) t cs h = ap else_if (term-bare e top h.0 h.2)
bare (logical_if e k) t cs h = ap₂ logical_if (term-bare e top h.0 h.3) (kind-bare k h.1 cs h.4)
bare (print items) t cs h = kind-bare (print items) t cs h
bare (read es) t cs h = kind-bare (read es) t cs h
bare k t cs h = refl

pub statement-bare : (line : ℕ) (label : Option ℕ) (text : List ℕ) (s : Statement) → IsStatement line label text s → own_text s.kind ≡ s.kind
statement-bare line label text s h = bare s.kind _ _ h.derived

-- ---- no more references than characters

reference-long : (r : Ref) (t : List ℕ) → IsReference r t → 0 < length t
reference-long r t h = letter_some t h.1.0

mutual
  term-few : (e : Term) (level : ℕ) (t : List ℕ) → Spells level e t → count e ≤ length t
  term-few (constant n) level t h = omega arith
  term-few (truth b) level t h = omega arith
  term-few (parameter x n) level t h = absurd h
  term-few (element r es) level t h = omega (arith, reference-long r h.0 h.3, subscripts-few es h.1 h.4, ap length h.2, length-append h.0 h.1)
  term-few (call f es) level t h = absurd h
  term-few (parentheses e) level t h = omega (arith, term-few e top h.0 h.2, ap length h.1, length-append h.0 (codes ")"))
  term-few (unary p e) level t h = omega (arith, term-few e (operand_level p) h.1 h.3, ap length h.2, length-append (prefix_spelling p) h.1)
  term-few (binary o a b) level t h =
      omega (arith, term-few a (left_level o) h.1 h.4, term-few b (right_level o) h.2 h.5, ap length h.3, length-append h.1 (spelling o ++ h.2), length-append (spelling o) h.2)

  subscripts-few : (es : Terms) (t : List ℕ) → AreSubscripts es t → count_terms es ≤ length t
  subscripts-few no_terms t h = omega arith
  subscripts-few (then_term e es) t h = omega (arith, term-few e top h.0 h.3, further-few es h.1 h.4, ap length h.2, length-append h.0 h.1)

  further-few : (es : Terms) (t : List ℕ) → AreFurther es t → count_terms es ≤ length t
  further-few no_terms t h = omega arith
  further-few (then_term e es) t h = omega (arith, term-few e top h.0 h.3, further-few es h.1 h.4, ap length h.2, length-append h.0 h.1)

access-few : (a : Access) (t : List ℕ) → IsAccess a t → access_count a ≤ length t
access-few a t h = term-few (accessed a) primary t h

further-accesses-few : (es : List Access) (t : List ℕ) → statements.AreFurther IsAccess nothing es t → total access_count es ≤ length t
further-accesses-few [] t h = omega arith
further-accesses-few (a ∷ es) t h = omega (arith, access-few a h.0 h.3, further-accesses-few es h.1 h.4, ap length h.2, length-append h.0 h.1)

accesses-few : (es : List Access) (t : List ℕ) → AreParts IsAccess nothing es t → total access_count es ≤ length t
accesses-few [] t h = absurd h
accesses-few (a ∷ es) t h = omega (arith, access-few a h.0 h.3, further-accesses-few es h.1 h.4, ap length h.2, length-append h.0 h.1)

item-few : (i : PrintItem) (t : List ℕ) (cs left : List (List ℕ)) → IsItem i t cs left → item_count i ≤ length t
item-few (value_item e) t cs left h = term-few e top t h.0
item-few (text_item s) t cs left h = omega arith

further-items-few : (cs : List (List ℕ)) (items : List PrintItem) (t : List ℕ) → AreFurtherItems cs items t → total item_count items ≤ length t
further-items-few cs [] t h = omega arith
further-items-few cs (i ∷ items) t h = omega (arith, item-few i h.0 cs h.2 h.4, further-items-few h.2 items h.1 h.5, ap length h.3, length-append h.0 h.1)

items-few : (cs : List (List ℕ)) (items : List PrintItem) (t : List ℕ) → AreItems cs items t → total item_count items ≤ length t
items-few cs [] t h = absurd h
items-few cs (i ∷ items) t h = omega (arith, item-few i h.0 cs h.2 h.4, further-items-few h.2 items h.1 h.5, ap length h.3, length-append h.0 h.1)

step-few : (o : Option Term) (t : List ℕ) → IsStep o t → count_optional o ≤ length t
step-few None t h = omega arith
step-few (Some e) t h = omega (arith, term-few e top h.0 h.2, ap length h.1)

head-few : (d : DoHead) (t : List ℕ) → IsDoHead d t → head_count d ≤ length t
head-few d t h =
    let p = h.8 in
    let behind : length h.2 + (1 + length h.3) ≤ length t = omega (arith, ap length h.4, length-append h.0 (h.1 ++ (h.2 ++ (codes "=" ++ h.3))), length-append h.1 (h.2 ++ (codes "=" ++ h.3)), length-append h.2 (codes "=" ++ h.3)) in
    omega (
      arith,
      reference-long d.variable h.2 h.7,
      term-few d.first top p.0 p.4,
      term-few d.last top p.1 p.5,
      step-few d.step p.2 p.6,
      ap length p.3,
      length-append p.0 (codes "," ++ (p.1 ++ p.2)),
      length-append p.1 p.2,
    )

print-few : (cs : List (List ℕ)) (items : List PrintItem) (u : List ℕ) → AreBehindComma (AreItems cs) items u ⊎ AreOptional (AreItems cs) items u → total item_count items ≤ length u
print-few cs [] u h = omega arith
print-few cs (i ∷ items) u (inl h) = omega (arith, items-few cs (i ∷ items) h.0 h.2, ap length h.1)
print-few cs (i ∷ items) u (inr h) = items-few cs (i ∷ items) u h

read-few : (es : List Access) (u : List ℕ) → AreBehindComma (AreParts IsAccess nothing) es u ⊎ AreOptional (AreParts IsAccess nothing) es u → total access_count es ≤ length u
read-few [] u h = omega arith
read-few (a ∷ es) u (inl h) = omega (arith, accesses-few (a ∷ es) h.0 h.2, ap length h.1)
read-few (a ∷ es) u (inr h) = accesses-few (a ∷ es) u h

-- ---- a class has no more of the text than there is

abbrev kept : Class → ℕ
kept (classes.block_if u) = length u
kept (classes.logical_if u v) = length u + length v
kept (classes.do_loop u) = length u
kept (assignment u) = length u
kept (worded k u) = length u
kept unclosed = 0
kept unknown = 0

kept-either : (b : Bool) (c d : Class) (n : ℕ) → kept c ≤ n → kept d ≤ n → kept (cond b c d) ≤ n
kept-either true c d n h k = h
kept-either false c d n h k = k

after-short : (word t u : List ℕ) → after word t ≡ Some u → length u ≤ length t
after-short word t u e = omega (arith, ap length (after_law word t u e), length-append word u)

keyword-kept : (ks : List (List ℕ × Keyword)) (t : List ℕ) → kept (first_keyword ks t) ≤ length t
keyword-kept [] t = omega arith
keyword-kept (k ∷ ks) t = go (after k.0 t) refl (keyword-kept ks t)
  where
    go : (o : Option (List ℕ)) → after k.0 t ≡ o → kept (first_keyword ks t) ≤ length t → kept (elim o [ Some u ↦ worded k.1 u | None ↦ first_keyword ks t ]) ≤ length t
    go None e h = h
    go (Some u) e h = after-short k.0 t u e

word-kept : (t : List ℕ) → kept (class_by_keyword t) ≤ length t
unfolding class_by_keyword
word-kept t = keyword-kept classes.keywords t

simple-kept : (t : List ℕ) → kept (simple_class t) ≤ length t
simple-kept t = kept-either (stands_at_level_zero 61 t) (assignment t) (class_by_keyword t) (length t) (omega arith) (word-kept t)

other-kept : (t : List ℕ) → kept (other_class t) ≤ length t
other-kept t = go (after (codes "DO") t) refl
  where
    go : (o : Option (List ℕ)) → after (codes "DO") t ≡ o → kept (elim o [ Some u ↦ cond (is_do u) (classes.do_loop u) (simple_class t) | None ↦ simple_class t ]) ≤ length t
    go None e = simple-kept t
    go (Some u) e = kept-either (is_do u) (classes.do_loop u) (simple_class t) (length t) (after-short (codes "DO") t u e) (simple-kept t)

enclosed-short : (level : ℕ) (u t : List ℕ) (x : List ℕ × List ℕ) → enclosed_from level u t ≡ Some x → length x.0 + length x.1 ≤ length u + length t
enclosed-short level u [] x e = absurd cc
enclosed-short level u (c ∷ cs) x e =
    elim (choice (eqb level 0 && eqb c 41) (Some (u, cs)) (enclosed_from (level_after level c) (u ++ c ∷ []) cs) (Some x) e) [
      | on_true closes is ↦
          let same : (u, cs) ≡ x = some_is (u, cs) x is in
          omega (arith, ap (λ (y : List ℕ × List ℕ). length y.0 + length y.1) same)
      | on_false more is ↦ omega (arith, enclosed-short (level_after level c) (u ++ c ∷ []) cs x is, length-append u (c ∷ []))
    ]

if-kept : (condition rest : List ℕ) (n : ℕ) → length condition + length rest ≤ n → kept (if_class condition rest) ≤ n
if-kept condition rest n h =
    kept-either (is_word (codes "THEN") rest) (classes.block_if condition) (cond (are_labels rest) (worded keywords.LeftOut rest) (classes.logical_if condition rest)) n (omega arith)
    (kept-either (are_labels rest) (worded keywords.LeftOut rest) (classes.logical_if condition rest) n (omega arith) (omega arith))

behind-kept : (t u : List ℕ) → length u ≤ length t → kept (class_behind_if t u) ≤ length t
behind-kept t u h = go (enclosed u) refl
  where
    go : (o : Option (List ℕ × List ℕ)) → enclosed u ≡ o → kept (elim o [ Some x ↦ cond (begins_with 61 x.1) (other_class t) (if_class x.0 x.1) | None ↦ unclosed ]) ≤ length t
    go None e = omega arith
    go (Some x) e =
        kept-either (begins_with 61 x.1) (other_class t) (if_class x.0 x.1) (length t) (other-kept t)
        (let short = enclosed-short 0 [] u x e in if-kept x.0 x.1 (length t) (omega (arith, short)))

class-kept : (t : List ℕ) → kept (class_of t) ≤ length t
class-kept t = go (after (codes "IF(") t) refl
  where
    go : (o : Option (List ℕ)) → after (codes "IF(") t ≡ o → kept (elim o [ Some u ↦ class_behind_if t u | None ↦ other_class t ]) ≤ length t
    go None e = other-kept t
    go (Some u) e = behind-kept t u (after-short (codes "IF(") t u e)

kept-of : (t : List ℕ) (c : Class) → class_of t ≡ c → kept c ≤ length t
kept-of t c e = subst (λ (d : Class). kept d ≤ length t) e (class-kept t)

-- behind one of two keywords
behind-word : {A B : Type 0} (t u : List ℕ) (a b : Keyword) → ((class_of t ≡ worded a u) × A) ⊎ ((class_of t ≡ worded b u) × B) → length u ≤ length t
behind-word t u a b (inl h) = kept-of t (worded a u) h.0
behind-word t u a b (inr h) = kept-of t (worded b u) h.0

-- ---- statements

kind-few : (k : Kind) (t : List ℕ) (cs : List (List ℕ)) → IsKind k t cs → kind_count k ≤ length t
kind-few (assign a e) t cs h =
    omega (arith, kept-of t (assignment (h.0 ++ (codes "=" ++ h.1))) h.2, length-append h.0 (codes "=" ++ h.1), access-few a h.0 h.3, term-few e top h.1 h.4)
kind-few (do_loop d) t cs h = omega (arith, kept-of t (classes.do_loop h.0) h.1, head-few d h.0 h.2)
kind-few (block_if e) t cs h = omega (arith, kept-of t (classes.block_if h.0) h.1, term-few e top h.0 h.2)
kind-few (else_if e) t cs h =
    omega (arith, kept-of t (worded keywords.ElseIf (codes "(" ++ h.0 ++ codes ")THEN")) h.1, length-append h.0 (codes ")THEN"), term-few e top h.0 h.2)
kind-few (logical_if e k) t cs h = omega (arith, kept-of t (classes.logical_if h.0 h.1) h.2, term-few e top h.0 h.3, kind-few k h.1 cs h.4)
kind-few (print items) t cs h = omega (arith, behind-word t h.0 keywords.Print keywords.Write h.1, print-few cs items h.0 (either-way h.1))
kind-few (read es) t cs h = omega (arith, behind-word t h.0 keywords.Read keywords.ReadUnit h.1, read-few es h.0 (either-way h.1))
kind-few k t cs h = omega arith

folded-short : (c : ℕ) → length (folded c) ≤ 1
folded-short c = by (eqb c 32) (leb 97 c && leb c 122)
  where
    by : (a b : Bool) → length (cond a [] (cond b ((c - 32) ∷ []) (c ∷ []))) ≤ 1
    by true b = omega arith
    by false true = omega arith
    by false false = omega arith

marks-short : (ps : List Piece) (t : List ℕ) → Cut ps t → length (marks ps) ≤ length t
marks-short [] t h = omega arith
marks-short (mark c ∷ ps) t h = omega (arith, folded-short c, length-append (folded c) (marks ps), marks-short ps h.0 h.3, ap length h.1)
marks-short (quoted s ∷ ps) t h = omega (arith, marks-short ps h.0 h.3, ap length h.1, length-append (doubled s) (39 ∷ h.0))

pub few-references : (line : ℕ) (label : Option ℕ) (text : List ℕ) (s : Statement) → IsStatement line label text s → kind_count s.kind ≤ length text
few-references line label text s h = omega (arith, kind-few s.kind (marks h.pieces) _ h.derived, marks-short h.pieces text h.cut)

-- ---- shallow

are-shallow : (es : List Term) → greatest depth es ≤ greatest_depth → are_shallow_in es ≡ true
are-shallow [] h = refl
are-shallow (e ∷ es) h = ap₂ (λ (a b : Bool). a && b) (le-leb (depth e) greatest_depth (omega arith)) (are-shallow es (omega arith))

items-depth : (items : List PrintItem) → greatest depth (items_expressions items) ≤ greatest depth_of_item items
items-depth [] = omega arith
items-depth (value_item e ∷ items) = omega (arith, items-depth items)
items-depth (text_item s ∷ items) = omega (arith, items-depth items)

accesses-depth : (es : List Access) → greatest depth (map accessed es) ≤ greatest depth_of_access es
accesses-depth [] = omega arith
accesses-depth (a ∷ es) = omega (arith, accesses-depth es)

kind-depth : (k : Kind) → greatest depth (kind_expressions k) ≤ depth_of_kind k
kind-depth (assign a e) = omega arith
kind-depth (print items) = items-depth items
kind-depth (read es) = accesses-depth es
kind-depth k = omega arith

-- the variable of a DO stands among its expressions
head-depth : (o : Option Term) (r : Ref) → greatest depth (optional o ++ element r no_terms ∷ []) ≤ max (depth_of_optional o) 1
head-depth None r = omega arith
head-depth (Some e) r = omega arith

own-depth : (k : Kind) → greatest depth (own_expressions k) ≤ max (depth_of_kind k) 1
own-depth (do_loop d) = omega (arith, head-depth d.step d.variable)
own-depth (block_if e) = omega arith
own-depth (else_if e) = omega arith
own-depth (logical_if e k) = omega (arith, kind-depth k)
own-depth (assign a e) = omega (arith, kind-depth (assign a e))
own-depth (print items) = omega (arith, kind-depth (print items))
own-depth (read es) = omega (arith, kind-depth (read es))
own-depth k = omega arith

pub shallow : (line : ℕ) (label : Option ℕ) (text : List ℕ) (s : Statement) → IsStatement line label text s → are_shallow_in (own_expressions s.kind) ≡ true
shallow line label text s h = are-shallow (own_expressions s.kind) (omega (arith, own-depth s.kind, h.shallow))

-- ---- all statements of a text

abbrev pub AreShort : List Entry → Type 0
AreShort [] = ⊤
AreShort (e ∷ es) = (length e.text ≤ longest_text) × AreShort es

pub entries-short : (xs : List Labelled) → AreShort (entries xs)
entries-short [] = tt
entries-short (x ∷ xs) = (x.text_in_range, entries-short xs)

pub all-few : (es : List Entry) (ss : List Statement) → Spelled es ss → AreShort es → references_in ss ≤ length ss * longest_text
all-few [] [] h short = omega arith
all-few [] (s ∷ ss) h short = absurd h
all-few (e ∷ es) [] h short = absurd h
all-few (e ∷ es) (s ∷ ss) h short = omega (arith, few-references e.line e.label e.text s h.0, all-few es ss h.1 short.1)

-- a statement in its place is spelled by an entry
abbrev pub IsSpelled : Statement → Type 0
IsSpelled s = (e : Entry) × IsStatement e.line e.label e.text s

spelled-at : (es : List Entry) (front : List Statement) (s : Statement) (back : List Statement) → Spelled es (front ++ s ∷ back) → IsSpelled s
spelled-at [] [] s back h = absurd h
spelled-at [] (f ∷ front) s back h = absurd h
spelled-at (e ∷ es) [] s back h = (e, h.0)
spelled-at (e ∷ es) (f ∷ front) s back h = spelled-at es front s back h.1

pub spelled-in : (es : List Entry) (ss front : List Statement) (s : Statement) (back : List Statement) → ss ≡ front ++ s ∷ back → Spelled es ss → IsSpelled s
spelled-in es ss front s back e h = spelled-at es front s back (subst (λ (xs : List Statement). Spelled es xs) e h)

pub all-bare : (es : List Entry) (ss front : List Statement) (s : Statement) (back : List Statement) → ss ≡ front ++ s ∷ back → Spelled es ss → own_text s.kind ≡ s.kind
all-bare es ss front s back e h = let x = spelled-in es ss front s back e h in statement-bare _ _ _ s x.1

pub all-shallow : (es : List Entry) (ss front : List Statement) (s : Statement) (back : List Statement) → ss ≡ front ++ s ∷ back → Spelled es ss → are_shallow_in (own_expressions s.kind) ≡ true
all-shallow es ss front s back e h = let x = spelled-in es ss front s back e h in shallow _ _ _ s x.1
