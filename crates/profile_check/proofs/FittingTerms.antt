-- The constants of a program are 64-bit integers: those of its text by their digits, those that
-- names stand for because the symbols' are.
use Rattle.std.proofs.Common.{◌≡◌, ℕ, ℤ, Bool, true, false, List, [], ◌∷◌, ◌++◌, map, refl, ap, sym, subst, Option, Some, None, option_map, inl, inr}
use Rattle.std.specs.Prelude.{◌⊎◌, if◌then◌else◌, ◌^◌}
use Rattle.std.specs.List.{list_all}
use Rattle.std.proofs.lemmas.Bool.{and_parts, and_from, lt-ltb}
use Rattle.std.proofs.lemmas.Bool.Decides.{Decides-int_eq}
use Rattle.ast.specs.Exact.{fits}
use Rattle.ast.specs.References.{optional, items_expressions, kind_expressions, head_expressions}
use Rattle.ast.specs.Regular.{is_fitting, terms_fit}
use Rattle.ast.specs.Store.{same_name}
use Rattle.ast.specs.Symbols.{Symbol, Sort, variable, fixed}
use Rattle.ast.specs.Tree.{Ref, Term, Terms, constant, truth, parameter, element, call, parentheses, unary, binary, no_terms, then_term, Access, accessed, PrintItem, value_item, text_item, DoHead, Kind, assign, do_loop, block_if, else_if, logical_if, print, read, Statement}
use Rattle.expressions.specs.Grammar.{Spells, AreSubscripts, AreFurther, IsAccess}
use Rattle.expressions.specs.Levels.{primary, top, left_level, right_level, operand_level}
use Rattle.syntax.specs.Statements as statements
use Rattle.syntax.specs.Statements.{AreParts, AreOptional, AreBehindComma, nothing, IsStep, IsDoHead, AreFurtherItems, AreItems, IsKind, IsStatement}
use Rattle.profile_check.proofs.Parts.{own_expressions, own_text}
use Rattle.profile_check.specs.Erasure.{erased, all_erased, access_erased, item_erased, kind_erased}
use Rattle.profile_check.specs.Fitting.{sort_fits, symbol_fits}
use Rattle.profile_check.specs.Reads.{is_fixed, is_constant, is_meant, are_meant}
use Rattle.profile_check.proofs.Texts.{either-way}

abbrev pub Fit : List Term → Type 0
Fit es = list_all (λ e. is_fitting e) es ≡ true

-- ---- of a text

mutual
  term-spelled : (e : Term) (level : ℕ) (t : List ℕ) → Spells level e t → is_fitting e ≡ true
  term-spelled (constant n) level t h = subst (λ (m : ℤ). fits m ≡ true) (sym h.3) (lt-ltb _ (2 ^ 63) h.2)
  term-spelled (truth b) level t h = refl
  term-spelled (parameter x n) level t h = absurd h
  term-spelled (element r es) level t h = subscripts-spelled es h.1 h.4
  term-spelled (call f es) level t h = absurd h
  term-spelled (parentheses e) level t h = term-spelled e top h.0 h.2
  term-spelled (unary p e) level t h = term-spelled e (operand_level p) h.1 h.3
  term-spelled (binary o a b) level t h = and_from (is_fitting a) (is_fitting b) (term-spelled a (left_level o) h.1 h.4) (term-spelled b (right_level o) h.2 h.5)

  subscripts-spelled : (es : Terms) (t : List ℕ) → AreSubscripts es t → terms_fit es ≡ true
  subscripts-spelled no_terms t h = refl
  subscripts-spelled (then_term e es) t h = and_from (is_fitting e) (terms_fit es) (term-spelled e top h.0 h.3) (further-spelled es h.1 h.4)

  further-spelled : (es : Terms) (t : List ℕ) → AreFurther es t → terms_fit es ≡ true
  further-spelled no_terms t h = refl
  further-spelled (then_term e es) t h = and_from (is_fitting e) (terms_fit es) (term-spelled e top h.0 h.3) (further-spelled es h.1 h.4)

access-spelled : (a : Access) (t : List ℕ) → IsAccess a t → is_fitting (accessed a) ≡ true
access-spelled a t h = term-spelled (accessed a) primary t h

further-accesses : (es : List Access) (t : List ℕ) → statements.AreFurther IsAccess nothing es t → Fit (map accessed es)
further-accesses [] t h = refl
further-accesses (a ∷ es) t h = and_from (is_fitting (accessed a)) _ (access-spelled a h.0 h.3) (further-accesses es h.1 h.4)

accesses-spelled : (es : List Access) (t : List ℕ) → AreParts IsAccess nothing es t → Fit (map accessed es)
accesses-spelled [] t h = refl
accesses-spelled (a ∷ es) t h = and_from (is_fitting (accessed a)) _ (access-spelled a h.0 h.3) (further-accesses es h.1 h.4)

further-items : (cs : List (List ℕ)) (items : List PrintItem) (t : List ℕ) → AreFurtherItems cs items t → Fit (items_expressions items)
further-items cs [] t h = refl
further-items cs (value_item e ∷ items) t h = and_from (is_fitting e) _ (term-spelled e top h.0 h.4.0) (further-items h.2 items h.1 h.5)
further-items cs (text_item s ∷ items) t h = further-items h.2 items h.1 h.5

items-spelled : (cs : List (List ℕ)) (items : List PrintItem) (t : List ℕ) → AreItems cs items t → Fit (items_expressions items)
items-spelled cs [] t h = refl
items-spelled cs (value_item e ∷ items) t h = and_from (is_fitting e) _ (term-spelled e top h.0 h.4.0) (further-items h.2 items h.1 h.5)
items-spelled cs (text_item s ∷ items) t h = further-items h.2 items h.1 h.5

print-spelled : (cs : List (List ℕ)) (items : List PrintItem) (u : List ℕ) → AreBehindComma (AreItems cs) items u ⊎ AreOptional (AreItems cs) items u → Fit (items_expressions items)
print-spelled cs [] u h = refl
print-spelled cs (i ∷ items) u (inl h) = items-spelled cs (i ∷ items) h.0 h.2
print-spelled cs (i ∷ items) u (inr h) = items-spelled cs (i ∷ items) u h

read-spelled : (es : List Access) (u : List ℕ) → AreBehindComma (AreParts IsAccess nothing) es u ⊎ AreOptional (AreParts IsAccess nothing) es u → Fit (map accessed es)
read-spelled [] u h = refl
read-spelled (a ∷ es) u (inl h) = accesses-spelled (a ∷ es) h.0 h.2
read-spelled (a ∷ es) u (inr h) = accesses-spelled (a ∷ es) u h

step-spelled : (o : Option Term) (r : Ref) (t : List ℕ) → IsStep o t → Fit (optional o ++ element r no_terms ∷ [])
step-spelled None r t h = refl
step-spelled (Some e) r t h = and_from (is_fitting e) true (term-spelled e top h.0 h.2) refl

head-spelled : (d : DoHead) (t : List ℕ) → IsDoHead d t → Fit (head_expressions d)
head-spelled d t h =
    let p = h.8 in
    and_from (is_fitting d.first) _ (term-spelled d.first top p.0 p.4)
    (and_from (is_fitting d.last) _ (term-spelled d.last top p.1 p.5) (step-spelled d.step d.variable p.2 p.6))

inner-spelled : (k : Kind) (t : List ℕ) (cs : List (List ℕ)) → IsKind k t cs → Fit (kind_expressions k)
inner-spelled (assign a e) t cs h = and_from (is_fitting e) _ (term-spelled e top h.1 h.4) (and_from (is_fitting (accessed a)) true (access-spelled a h.0 h.3) refl)
inner-spelled (print items) t cs h = print-spelled cs items h.0 (either-way h.1)
inner-spelled (read es) t cs h = read-spelled es h.0 (either-way h.1)
inner-spelled k t cs h = refl

one-fits : (e : Term) → is_fitting e ≡ true → Fit (e ∷ [])
one-fits e h = and_from (is_fitting e) true h refl

kind-spelled : (k : Kind) (t : List ℕ) (cs : List (List ℕ)) → IsKind k t cs → Fit (own_expressions k)
kind-spelled (assign a e) t cs h = inner-spelled (assign a e) t cs h
kind-spelled (do_loop d) t cs h = head-spelled d h.0 h.2
kind-spelled (block_if e) t cs h = one-fits e (term-spelled e top h.0 h.2)
kind-spelled (else_if e) t cs h = one-fits e (term-spelled e top h.0 h.2)
kind-spelled (logical_if e k) t cs h = and_from (is_fitting e) _ (term-spelled e top h.0 h.3) (inner-spelled k h.1 cs h.4)
kind-spelled (print items) t cs h = inner-spelled (print items) t cs h
kind-spelled (read es) t cs h = inner-spelled (read es) t cs h
kind-spelled k t cs h = refl

pub statement-spelled : (line : ℕ) (label : Option ℕ) (text : List ℕ) (s : Statement) → IsStatement line label text s → Fit (own_expressions s.kind)
statement-spelled line label text s h = kind-spelled s.kind _ _ h.derived

-- ---- the expressions of a text are the erased ones

items-erased : (items : List PrintItem) → items_expressions (map item_erased items) ≡ map erased (items_expressions items)
items-erased [] = refl
items-erased (value_item e ∷ items) = ap (λ (es : List Term). erased e ∷ es) (items-erased items)
items-erased (text_item t ∷ items) = items-erased items

targets-erased : (es : List Access) → map accessed (map access_erased es) ≡ map erased (map accessed es)
targets-erased [] = refl
targets-erased (a ∷ es) = ap (λ (xs : List Term). erased (accessed a) ∷ xs) (targets-erased es)

inner-erased : (k : Kind) → kind_expressions (kind_erased k) ≡ map erased (kind_expressions k)
inner-erased (assign a e) = refl
inner-erased (print items) = items-erased items
inner-erased (read es) = targets-erased es
inner-erased k = refl

step-erased : (o : Option Term) (r : Ref) → optional (option_map erased o) ++ erased (element r no_terms) ∷ [] ≡ map erased (optional o ++ element r no_terms ∷ [])
step-erased None r = refl
step-erased (Some e) r = refl

own-erased : (k : Kind) → own_expressions (own_text k) ≡ map erased (own_expressions k)
own-erased (assign a e) = refl
own-erased (do_loop d) = ap (λ (es : List Term). erased d.first ∷ erased d.last ∷ es) (step-erased d.step d.variable)
own-erased (block_if c) = refl
own-erased (else_if c) = refl
own-erased (logical_if c k) = ap (λ (es : List Term). erased c ∷ es) (inner-erased k)
own-erased (print items) = items-erased items
own-erased (read es) = targets-erased es
own-erased k = refl

-- ---- of a tree with this text

-- a constant of fitting symbols fits
fixed-fits : (s : Sort) (n : ℤ) → is_fixed s n ≡ true → sort_fits s ≡ true → fits n ≡ true
fixed-fits (variable ds) n h k = absurd cc
fixed-fits (fixed m) n h k = subst (λ (v : ℤ). fits v ≡ true) ((Decides-int_eq m n).0 h) k

pub constants-fit : (symbols : List Symbol) → list_all symbol_fits symbols ≡ true → (x : List ℕ) (n : ℤ) → is_constant symbols x n ≡ true → fits n ≡ true
constants-fit [] h x n c = absurd cc
constants-fit (s ∷ symbols) h x n c =
    let p = and_parts (symbol_fits s) (list_all symbol_fits symbols) h in
    by (same_name s.name x) p.0 (constants-fit symbols p.1 x n) c
  where
    by : (b : Bool) → symbol_fits s ≡ true → (is_constant symbols x n ≡ true → fits n ≡ true) → (if b then is_fixed s.sort n else is_constant symbols x n) ≡ true → fits n ≡ true
    by true f rest c = fixed-fits s.sort n c f
    by false f rest c = rest c

module _ (symbols : List Symbol) (fit : list_all symbol_fits symbols ≡ true) where
  mutual
    term-fitting : (e : Term) → is_meant symbols e ≡ true → is_fitting (erased e) ≡ true → is_fitting e ≡ true
    term-fitting (constant n) m h = h
    term-fitting (truth b) m h = refl
    term-fitting (parameter x n) m h = constants-fit symbols fit x n m
    term-fitting (element r es) m h = terms-fitting es m h
    term-fitting (call f es) m h = terms-fitting es m h
    term-fitting (parentheses e) m h = term-fitting e m h
    term-fitting (unary o e) m h = term-fitting e m h
    term-fitting (binary o a b) m h =
        let p = and_parts (is_meant symbols a) (is_meant symbols b) m in
        let q = and_parts (is_fitting (erased a)) (is_fitting (erased b)) h in
        and_from (is_fitting a) (is_fitting b) (term-fitting a p.0 q.0) (term-fitting b p.1 q.1)

    terms-fitting : (es : Terms) → are_meant symbols es ≡ true → terms_fit (all_erased es) ≡ true → terms_fit es ≡ true
    terms-fitting no_terms m h = refl
    terms-fitting (then_term e es) m h =
        let p = and_parts (is_meant symbols e) (are_meant symbols es) m in
        let q = and_parts (is_fitting (erased e)) (terms_fit (all_erased es)) h in
        and_from (is_fitting e) (terms_fit es) (term-fitting e p.0 q.0) (terms-fitting es p.1 q.1)

  list-fitting : (es : List Term) → list_all (λ e. is_meant symbols e) es ≡ true → Fit (map erased es) → Fit es
  list-fitting [] m h = refl
  list-fitting (e ∷ es) m h =
      let p = and_parts (is_meant symbols e) (list_all (λ f. is_meant symbols f) es) m in
      let q = and_parts (is_fitting (erased e)) (list_all (λ f. is_fitting f) (map erased es)) h in
      and_from (is_fitting e) _ (term-fitting e p.0 q.0) (list-fitting es p.1 q.1)

  pub kind-fitting : (k : Kind) → list_all (λ e. is_meant symbols e) (own_expressions k) ≡ true → Fit (own_expressions (own_text k)) → Fit (own_expressions k)
  kind-fitting k m h = list-fitting (own_expressions k) m (subst (λ (es : List Term). Fit es) (own-erased k) h)
