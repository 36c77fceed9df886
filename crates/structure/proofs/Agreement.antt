-- The rules by what the code keeps are the rules by the statements themselves.
use Rattle.std.proofs.Common.{◌≡◌, ◌∙◌, ℕ, Bool, true, false, not, cond, List, [], ◌∷◌, ◌++◌, refl, ap, sym, Option, Some, None, option_to_list, nat_eq}
use Rattle.std.specs.Prelude.{◌||◌, if◌then◌else◌}
use Rattle.std.proofs.lemmas.Bool.{eqb-true}
use Rattle.std.proofs.lemmas.List.Folds.{list_any-append}
use Rattle.std.proofs.lemmas.List.Sums.{fold-append}
use Rattle.std.proofs.Math.Bool.{or-false, or_assoc}
use Rattle.std.specs.List.{list_any}
use Rattle.indexmap.specs.IndexSet.{insert_key, insert_all}
use Rattle.ast.specs.Tree.{Statement}
use Rattle.ast.specs.declared.rule.Rule.TheVariants.{OutOfOrder, OpenLoop, WrongTerminal, CrossedBlocks, RepeatedLabel}
use Rattle.structure.specs.Open.{Open, open_from, open_after, after}
use Rattle.structure.specs.Rules.{is_empty, is_executable, is_out_of_order, is_some_and, has_label, crosses, ends_wrongly, breaks_blocks, checks, lowest_broken}
use Rattle.std.proofs.Common.{length, map}
use Rattle.std.proofs.lemmas.List.{length-map}
use Rattle.structure.specs.View.{opened}
use Rattle.structure.specs.declared.opened.Open as written
use Rattle.structure.specs.Standing.{labels_of, standing_after, next, rule_by}

-- A set has what was taken into it.
module _ {X : Type 0} (eq : X → X → Bool) (same : (x y : X) → eq x y ≡ true → x ≡ y) where
  had-equal : (x y : X) (keys : List X) (b : Bool) → eq x y ≡ b → list_any (eq y) keys ≡ true → list_any (eq x) keys ≡ (list_any (eq x) keys || b)
  had-equal x y keys false e h = sym (or-false (list_any (eq x) keys))
  had-equal x y keys true e h =
      let there = ap (λ z. list_any (eq z) keys) (same x y e) ∙ h in
      there ∙ sym (ap (λ b. b || true) there)

  had-key : (x y : X) (keys : List X) (b : Bool) → list_any (eq y) keys ≡ b → list_any (eq x) (cond b keys (keys ++ y ∷ [])) ≡ (list_any (eq x) keys || eq x y)
  had-key x y keys true h = had-equal x y keys (eq x y) refl h
  had-key x y keys false h = list_any-append (eq x) keys (y ∷ []) ∙ ap (λ b. list_any (eq x) keys || b) (or-false (eq x y))

  had-one : (x y : X) (keys : List X) → list_any (eq x) (insert_key eq keys y) ≡ (list_any (eq x) keys || eq x y)
  had-one x y keys = had-key x y keys (list_any (eq y) keys) refl

  had-all : (x : X) (keys xs : List X) → list_any (eq x) (insert_all eq keys xs) ≡ (list_any (eq x) keys || list_any (eq x) xs)
  had-all x keys [] = sym (or-false (list_any (eq x) keys))
  had-all x keys (y ∷ ys) =
      had-all x (insert_key eq keys y) ys ∙ ap (λ b. b || list_any (eq x) ys) (had-one x y keys)
      ∙ or_assoc (list_any (eq x) keys) (eq x y) (list_any (eq x) ys)

labelled : (l : ℕ) (label : Option ℕ) → list_any (nat_eq l) (option_to_list label) ≡ is_some_and (λ m. nat_eq l m) label
labelled l None = refl
labelled l (Some m) = or-false (nat_eq l m)

label-front : (l : ℕ) (front : List Statement) → list_any (nat_eq l) (labels_of front) ≡ list_any (has_label l) front
label-front l [] = refl
label-front l (s ∷ ss) =
    list_any-append (nat_eq l) (option_to_list s.label) (labels_of ss)
    ∙ ap (λ b. b || list_any (nat_eq l) (labels_of ss)) (labelled l s.label)
    ∙ ap (λ b. has_label l s || b) (label-front l ss)

label-set : (front : List Statement) (l : ℕ) → list_any (nat_eq l) (insert_all nat_eq [] (labels_of front)) ≡ list_any (has_label l) front
label-set front l = had-all nat_eq eqb-true l [] (labels_of front) ∙ label-front l front

label-again : (front : List Statement) (label : Option ℕ) → is_some_and (λ l. list_any (nat_eq l) (insert_all nat_eq [] (labels_of front))) label ≡ is_some_and (λ l. list_any (has_label l) front) label
label-again front None = refl
label-again front (Some l) = label-set front l

-- a statement breaks the same rule by what is kept and by the statements before it
pub agrees : (front : List Statement) (s : Statement) → rule_by (standing_after front) s ≡ lowest_broken checks front s
agrees front s =
    let label = label-again front s.label in
    λ i.
    if is_out_of_order front s then Some OutOfOrder
    else if crosses (open_after front) s then Some OpenLoop
    else if ends_wrongly (open_after front) s then Some WrongTerminal
    else if breaks_blocks (open_after front) s then Some CrossedBlocks
    else if label i then Some RepeatedLabel
    else None

pub open-append : (opened : List Open) (front : List Statement) (s : Statement) → open_from opened (front ++ s ∷ []) ≡ after (open_from opened front) s
open-append opened [] s = refl
open-append opened (f ∷ front) s = open-append (after opened f) front s

labels-append : (front : List Statement) (s : Statement) → labels_of (front ++ s ∷ []) ≡ labels_of front ++ option_to_list s.label
labels-append [] s = by s.label
  where
    by : (l : Option ℕ) → option_to_list l ++ [] ≡ option_to_list l
    by None = refl
    by (Some l) = refl
labels-append (f ∷ front) s = by f.label (labels-append front s)
  where
    by : (l : Option ℕ) → labels_of (front ++ s ∷ []) ≡ labels_of front ++ option_to_list s.label → option_to_list l ++ labels_of (front ++ s ∷ []) ≡ (option_to_list l ++ labels_of front) ++ option_to_list s.label
    by None h = h
    by (Some l) h = ap (λ ls. l ∷ ls) h

not-empty : (front : List Statement) (s : Statement) → not (is_empty (front ++ s ∷ [])) ≡ true
not-empty [] s = refl
not-empty (f ∷ front) s = refl

pub one-more : (front : List Statement) (s : Statement) → standing_after (front ++ s ∷ []) ≡ next (standing_after front) s
one-more front s =
    let begun = not-empty front s in
    let executable = list_any-append (λ f. is_executable f.kind) front (s ∷ []) ∙ ap (λ b. list_any (λ f. is_executable f.kind) front || b) (or-false (is_executable s.kind)) in
    let opened = open-append [] front s in
    let labels = ap (insert_all nat_eq []) (labels-append front s) ∙ fold-append (insert_key nat_eq) [] (labels_of front) (option_to_list s.label) in
    λ i. record { begun = begun i; executable = executable i; opened = opened i; labels = labels i }

pub opened_length : (xs : List written.Open) → length (map opened xs) ≡ length xs
opened_length xs = length-map xs opened
