-- The references before which something is known are those of the loop's range, in order.
use Rattle.std.proofs.Common.{◌≡◌, ◌∙◌, ℕ, ◌+◌, Bool, true, false, List, [], ◌∷◌, ◌++◌, length, refl, sym, ap, subst, Option, Some, None}
use Rattle.std.specs.Prelude.{if◌then◌else◌}
use Rattle.std.proofs.lemmas.Bool.{and_parts}
use Rattle.std.proofs.lemmas.List.{append_assoc, append-nil}
use Rattle.ast.specs.References.{expressions_references, items_expressions, optional, term_references, terms_references}
use Rattle.ast.specs.Tree as tree
use Rattle.ast.specs.Tree.{Ref, Term, Terms, constant, truth, parameter, element, call, parentheses, unary, binary, no_terms, then_term, Access, PrintItem, value_item, text_item, DoHead, Kind, program, integer, dimension, parameters, assign, do_loop, go_on, block_if, else_if, else_arm, end_if, logical_if, print, read, stop, end}
use Rattle.dependence.specs.Plan.{awaits, advances, plain, loop, choose, PlanBlock, no_nodes, then_node, PlanArms, no_arms, made_else, then_arm}
use Rattle.loop_tree.specs.Occurrences.{Occurrence, arms_occurrences, block_occurrences, head_occurrences, items_occurrences, kind_occurrences, optional_occurrences, target_occurrences, targets_occurrences, term_occurrences, terms_occurrences, node_lines, block_lines}
use Rattle.loop_tree.specs.Paths.{Token, uses, defines, await, advance, used, term_tokens, target_tokens, targets_tokens, head_tokens}
use Rattle.loop_tree.proofs.References.{used_append}
use Rattle.plan_check.specs.Checking.{reference_tokens, tokens_of}
use Rattle.plan_check.specs.Flow.{Known, Point, after, after_arms, after_kind, arms_points, block_points, kind_tokens, nowhere, points, step}
use Rattle.plan_check.specs.GoodPlan.{made_bare, made_bare_arms, only_events, stripped, stripped_arms, token_of}

pub tokens_append : (os ps : List Occurrence) → tokens_of (os ++ ps) ≡ tokens_of os ++ tokens_of ps
tokens_append [] ps = refl
tokens_append (o ∷ os) ps = ap (λ (t : List Token). token_of o ∷ t) (tokens_append os ps)

reference_append : (ps qs : List Point) → reference_tokens (ps ++ qs) ≡ reference_tokens ps ++ reference_tokens qs
reference_append [] qs = refl
reference_append ((uses r, s) ∷ ps) qs = ap (λ (t : List Token). uses r ∷ t) (reference_append ps qs)
reference_append ((defines r, s) ∷ ps) qs = ap (λ (t : List Token). defines r ∷ t) (reference_append ps qs)
reference_append ((await e d, s) ∷ ps) qs = reference_append ps qs
reference_append ((advance e, s) ∷ ps) qs = reference_append ps qs

-- ---- one list after another

pub two : {a b c d : List Token} → a ≡ b → c ≡ d → a ++ c ≡ b ++ d
two {a} {b} {c} {d} e f = ap (λ (t : List Token). t ++ c) e ∙ ap (λ (t : List Token). b ++ t) f

abbrev Are : List Occurrence → List Token → Type 0
Are os ts = tokens_of os ≡ ts

are_two : (os ps : List Occurrence) (ts us : List Token) → Are os ts → Are ps us → Are (os ++ ps) (ts ++ us)
are_two os ps ts us e f = tokens_append os ps ∙ two e f

are_used : (os ps : List Occurrence) (xs ys : List Ref) → Are os (used xs) → Are ps (used ys) → Are (os ++ ps) (used (xs ++ ys))
are_used os ps xs ys e f = are_two os ps (used xs) (used ys) e f ∙ sym (used_append xs ys)

mutual
  pub term_are : (n : ℕ) (e : Term) → Are (term_occurrences n e) (used (term_references e))
  term_are n (constant x) = refl
  term_are n (truth x) = refl
  term_are n (parameter x y) = refl
  term_are n (element r es) = are_used (terms_occurrences n es) (record { ref = r; subscripts = es; defines = false; statement = n } ∷ []) (terms_references es) (r ∷ []) (terms_are n es) refl
  term_are n (call f es) = terms_are n es
  term_are n (parentheses e) = term_are n e
  term_are n (unary p e) = term_are n e
  term_are n (binary o a b) = are_used (term_occurrences n a) (term_occurrences n b) (term_references a) (term_references b) (term_are n a) (term_are n b)

  terms_are : (n : ℕ) (es : Terms) → Are (terms_occurrences n es) (used (terms_references es))
  terms_are n no_terms = refl
  terms_are n (then_term e es) = are_used (term_occurrences n e) (terms_occurrences n es) (term_references e) (terms_references es) (term_are n e) (terms_are n es)

target_are : (n : ℕ) (a : Access) → Are (target_occurrences n a) (target_tokens a)
target_are n a = are_two (terms_occurrences n a.subscripts) (record { ref = a.ref; subscripts = a.subscripts; defines = true; statement = n } ∷ []) (used (terms_references a.subscripts)) (defines a.ref ∷ []) (terms_are n a.subscripts) refl

targets_are : (n : ℕ) (xs : List Access) → Are (targets_occurrences n xs) (targets_tokens xs)
targets_are n [] = refl
targets_are n (a ∷ more) = are_two (target_occurrences n a) (targets_occurrences n more) (target_tokens a) (targets_tokens more) (target_are n a) (targets_are n more)

items_are : (n : ℕ) (xs : List PrintItem) → Are (items_occurrences n xs) (used (expressions_references (items_expressions xs)))
items_are n [] = refl
items_are n (value_item e ∷ xs) = are_used (term_occurrences n e) (items_occurrences n xs) (term_references e) (expressions_references (items_expressions xs)) (term_are n e) (items_are n xs)
items_are n (text_item t ∷ xs) = items_are n xs

pub kind_are : (n : ℕ) (k : Kind) → Are (kind_occurrences n k) (kind_tokens k)
kind_are n (assign a e) = are_two (term_occurrences n e) (target_occurrences n a) (term_tokens e) (target_tokens a) (term_are n e) (target_are n a)
kind_are n (print items) = items_are n items
kind_are n (read elements) = targets_are n elements
kind_are n stop = refl
kind_are n (program x) = refl
kind_are n (integer x) = refl
kind_are n (dimension x) = refl
kind_are n (parameters x) = refl
kind_are n (do_loop x) = refl
kind_are n go_on = refl
kind_are n (block_if x) = refl
kind_are n (else_if x) = refl
kind_are n else_arm = refl
kind_are n end_if = refl
kind_are n (logical_if x y) = refl
kind_are n end = refl

optional_are : (n : ℕ) (o : Option Term) → Are (optional_occurrences n o) (used (expressions_references (optional o)))
optional_are n None = refl
optional_are n (Some e) = term_are n e ∙ ap used (sym (append-nil (term_references e)))

pub head_are : (n : ℕ) (h : DoHead) → Are (head_occurrences n h) (head_tokens h)
head_are n h =
    let v : List Occurrence = record { ref = h.variable; subscripts = no_terms; defines = true; statement = n } ∷ [] in
    let a = term_occurrences n h.first in
    let b = term_occurrences n h.last in
    let c = optional_occurrences n h.step in
    let x = term_references h.first in
    let y = term_references h.last in
    let z = expressions_references (optional h.step) in
    are_two ((a ++ b) ++ c) v ((used x ++ used y) ++ used z) (defines h.variable ∷ [])
    (are_two (a ++ b) c (used x ++ used y) (used z) (are_two a b (used x) (used y) (term_are n h.first) (term_are n h.last)) (optional_are n h.step)) refl
    ∙ regroup x y z
  where
    regroup : (x y z : List Ref) → ((used x ++ used y) ++ used z) ++ defines h.variable ∷ [] ≡ used (x ++ (y ++ z)) ++ defines h.variable ∷ []
    regroup x y z = ap (λ (t : List Token). t ++ defines h.variable ∷ []) (append_assoc (used x) (used y) (used z) ∙ ap (λ (t : List Token). used x ++ t) (sym (used_append y z)) ∙ sym (used_append x (y ++ z)))

-- ---- points of tokens

abbrev pub NoEvents : List Token → Type 0
NoEvents [] = Unit {0}
NoEvents (uses r ∷ t) = NoEvents t
NoEvents (defines r ∷ t) = NoEvents t
NoEvents (await e d ∷ t) = ⊥
NoEvents (advance e ∷ t) = ⊥

pub no_events : (os : List Occurrence) → NoEvents (tokens_of os)
no_events [] = tt
no_events (o ∷ os) = by o.defines (no_events os)
  where
    by : (b : Bool) → NoEvents (tokens_of os) → NoEvents ((if b then defines o.ref else uses o.ref) ∷ tokens_of os)
    by true h = h
    by false h = h

points_tokens : (t : List Token) (s : Known) → NoEvents t → reference_tokens (points t s) ≡ t
points_tokens [] s h = refl
points_tokens (uses r ∷ t) s h = ap (λ (u : List Token). uses r ∷ u) (points_tokens t s h)
points_tokens (defines r ∷ t) s h = ap (λ (u : List Token). defines r ∷ u) (points_tokens t (step (defines r) s) h)
points_tokens (await e d ∷ t) s h = absurd h
points_tokens (advance e ∷ t) s h = absurd h

pub points_are : (os : List Occurrence) (t : List Token) (s : Known) → Are os t → tokens_of os ≡ reference_tokens (points t s)
points_are os t s e = e ∙ sym (points_tokens t s (subst NoEvents e (no_events os)))

pub points_two : (os os' : List Occurrence) (ps qs : List Point) → tokens_of os ≡ reference_tokens ps → tokens_of os' ≡ reference_tokens qs → tokens_of (os ++ os') ≡ reference_tokens (ps ++ qs)
points_two os os' ps qs e f = tokens_append os os' ∙ two e f ∙ sym (reference_append ps qs)

bare_points : (b : PlanBlock) (s : Known) → only_events b ≡ true → reference_tokens (block_points b s) ≡ []
bare_points no_nodes s h = refl
bare_points (then_node (awaits e d) b) s h = bare_points b (step (await e d) s) h
bare_points (then_node (advances e) b) s h = bare_points b (step (advance e) s) h
bare_points (then_node (plain x) b) s h = cc
bare_points (then_node (loop l x c) b) s h = cc
bare_points (then_node (choose a) b) s h = cc

mutual
  pub block_are : (n : ℕ) (b : PlanBlock) (s : Known) → made_bare b ≡ true → tokens_of (block_occurrences n (stripped b)) ≡ reference_tokens (block_points b s)
  block_are n no_nodes s h = refl
  block_are n (then_node (awaits e d) b) s h = block_are n b (step (await e d) s) h
  block_are n (then_node (advances e) b) s h = block_are n b (step (advance e) s) h
  block_are n (then_node (plain x) b) s h =
      let u = after_kind x.kind s in
      let m = n + length (node_lines (tree.plain x)) in
      points_two (kind_occurrences n x.kind) (block_occurrences m (stripped b)) (points (kind_tokens x.kind) s) (block_points b u) (points_are (kind_occurrences n x.kind) (kind_tokens x.kind) s (kind_are n x.kind)) (block_are m b u h)
  block_are n (then_node (loop l x c) b) s h =
      let g = and_parts (made_bare c) (made_bare b) h in
      let u = after (head_tokens x) s in
      let m = n + length (node_lines (tree.loop l x (stripped c))) in
      points_two (head_occurrences n x ++ block_occurrences (n + 1) (stripped c)) (block_occurrences m (stripped b)) (points (head_tokens x) s ++ block_points c u) (block_points b u)
      (points_two (head_occurrences n x) (block_occurrences (n + 1) (stripped c)) (points (head_tokens x) s) (block_points c u) (points_are (head_occurrences n x) (head_tokens x) s (head_are n x)) (block_are (n + 1) c u g.0))
      (block_are m b u g.1)
  block_are n (then_node (choose a) b) s h =
      let g = and_parts (made_bare_arms a) (made_bare b) h in
      let u = after_arms a (nowhere s) s in
      let m = n + length (node_lines (tree.choose (stripped_arms a))) in
      points_two (arms_occurrences n (n + 1) (stripped_arms a)) (block_occurrences m (stripped b)) (arms_points a s) (block_points b u) (arms_are n (n + 1) a s g.0) (block_are m b u g.1)

  pub arms_are : (i n : ℕ) (a : PlanArms) (s : Known) → made_bare_arms a ≡ true → tokens_of (arms_occurrences i n (stripped_arms a)) ≡ reference_tokens (arms_points a s)
  arms_are i n no_arms s h = refl
  arms_are i n (made_else b) s h = sym (bare_points b s h)
  arms_are i n (then_arm l None b more) s h =
      let g = and_parts (made_bare b) (made_bare_arms more) h in
      let m = n + length (block_lines (stripped b)) in
      points_two (block_occurrences n (stripped b)) (arms_occurrences i m (stripped_arms more)) (block_points b s) (arms_points more (nowhere s)) (block_are n b s g.0) (arms_are i m more (nowhere s) g.1)
  arms_are i n (then_arm l (Some c) b more) s h =
      let g = and_parts (made_bare b) (made_bare_arms more) h in
      let m = n + length (block_lines (stripped b)) in
      let u = after (term_tokens c) s in
      ap tokens_of (append_assoc (term_occurrences i c) (block_occurrences n (stripped b)) (arms_occurrences i m (stripped_arms more)))
      ∙ points_two (term_occurrences i c) (block_occurrences n (stripped b) ++ arms_occurrences i m (stripped_arms more)) (points (term_tokens c) s) (block_points b u ++ arms_points more u) (points_are (term_occurrences i c) (term_tokens c) s (term_are i c))
      (points_two (block_occurrences n (stripped b)) (arms_occurrences i m (stripped_arms more)) (block_points b u) (arms_points more u) (block_are n b u g.0) (arms_are i m more u g.1))
