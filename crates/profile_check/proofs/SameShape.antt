-- Resolving a statement changes nothing that nesting and the rules on structure look at, so
-- resolved statements nest as those of the text do.
use Rattle.std.proofs.Common.{◌≡◌, ◌∙◌, ℕ, ◌+◌, Bool, not, List, [], ◌∷◌, ◌++◌, refl, ap, sym, subst, append_assoc, Option, Some, None}
use Rattle.std.specs.Prelude.{◌&&◌, ◌||◌}
use Rattle.ast.specs.Tree.{Statement, Kind, do_loop, block_if, else_if, else_arm, end_if, logical_if, program, integer, dimension, parameters, assign, go_on, print, read, stop, end, Node, block}
use Rattle.structure.specs.Open.{Open, open_after, after, begun, ended as spec_ended}
use Rattle.structure.specs.Rules.{is_end, is_some_and, is_around, is_other_range, is_range_of, is_block, is_any_range, begins_with, may_not_end_a_range, is_misplaced_arm, holds_wrong_statement, checks, lowest_broken, Keep}
use Rattle.structure.proofs.Agreement.{open-append}
use Rattle.profile_check.specs.Layout.{Lays}
use Rattle.profile_check.specs.Nesting.{Frame, Nest, nest, ended, own_node, with_kind, with_statement, nested_from, nested}
use Rattle.profile_check.specs.Resolving.{Table, kind_resolved, statement_resolved, statements_resolved, statement_count}
use Rattle.profile_check.proofs.Frames.{Kept, kept, shapes, shape, may_stand, all-ended}
use Rattle.profile_check.proofs.Laid.{LaysNest, kind-lays}
use Rattle.profile_check.proofs.ResolvedKinds.{may-stand}
use Rattle.std.specs.List.{list_any}

-- what nesting and the rules on structure look at is the same
pub record IsAlike (j k : Kind) : Type 0 where
  pub ends : is_end j ≡ is_end k
  pub terminal : may_not_end_a_range j ≡ may_not_end_a_range k
  pub arm : (opened : List Open) → is_misplaced_arm j opened ≡ is_misplaced_arm k opened
  pub inner : holds_wrong_statement j ≡ holds_wrong_statement k
  pub opens : (opened : List Open) → begun j opened ≡ begun k opened

itself : (k : Kind) → IsAlike k k
itself k = record { ends = refl; terminal = refl; arm = λ o. refl; inner = refl; opens = λ o. refl }

pub alike : (t : Table) (n : ℕ) (k : Kind) → IsAlike (kind_resolved t n k) k
alike t n (assign a e) = record { ends = refl; terminal = refl; arm = λ o. refl; inner = refl; opens = λ o. refl }
alike t n (do_loop h) = record { ends = refl; terminal = refl; arm = λ o. refl; inner = refl; opens = λ o. refl }
alike t n (block_if e) = record { ends = refl; terminal = refl; arm = λ o. refl; inner = refl; opens = λ o. refl }
alike t n (else_if e) = record { ends = refl; terminal = refl; arm = λ o. refl; inner = refl; opens = λ o. refl }
alike t n (logical_if e k) = record { ends = refl; terminal = refl; arm = λ o. refl; inner = ap not (may-stand t _ k); opens = λ o. refl }
alike t n (print items) = record { ends = refl; terminal = refl; arm = λ o. refl; inner = refl; opens = λ o. refl }
alike t n (read elements) = record { ends = refl; terminal = refl; arm = λ o. refl; inner = refl; opens = λ o. refl }
alike t n (program x) = itself (program x)
alike t n (integer ds) = itself (integer ds)
alike t n (dimension ds) = itself (dimension ds)
alike t n (parameters ds) = itself (parameters ds)
alike t n go_on = itself go_on
alike t n else_arm = itself else_arm
alike t n end_if = itself end_if
alike t n stop = itself stop
alike t n end = itself end

-- a resolved statement keeps the rules that the statement keeps
pub kept-alike : (opened : List Open) (s : Statement) (j : Kind) → IsAlike j s.kind → Kept opened s → Kept opened (record { line = s.line; label = s.label; kind = j })
kept-alike opened s j a h = record {
  crosses = ap (λ (b : Bool). (not b && is_some_and (λ l. is_around (is_other_range l) l opened) s.label) || (b && begins_with is_any_range opened)) a.ends ∙ h.crosses;
  ends = (λ i. a.terminal i && (not (a.ends i) && is_some_and (λ l. list_any (is_range_of l) opened) s.label)) ∙ h.ends;
  blocks = (λ i. a.arm opened i || ((not (a.ends i) && is_some_and (λ l. is_around is_block l opened) s.label) || a.inner i)) ∙ h.blocks;
}

-- statements nested, resolved, beside what those of the text leave open
pub record Nested (n : Nest) (ss resolved : List Statement) : Type 0 where
  pub laid : LaysNest n.frames n.nodes resolved
  pub shaped : shapes n.frames ≡ open_after ss

pub nested-one : (t : Table) (m : ℕ) (n : Nest) (ss resolved : List Statement) (s : Statement) → Nested n ss resolved → lowest_broken checks ss s ≡ None
    → Nested (with_statement n (statement_resolved t m s)) (ss ++ s ∷ []) (resolved ++ statement_resolved t m s ∷ [])
nested-one t m n ss resolved s h k =
    let r = statement_resolved t m s in
    let a = alike t m s.kind in
    let q : Kept (shapes n.frames) r = subst (λ (o : List Open). Kept o r) (sym h.shaped) (kept-alike (open_after ss) s r.kind a (kept ss s k)) in
    record {
      laid = kind-lays n resolved r r.kind refl (may_stand n.frames r q) h.laid;
      shaped = shape n r q ∙ ap (λ (o : List Open). after o r) h.shaped ∙ a.opens (spec_ended s.label (open_after ss)) ∙ sym (open-append [] ss s);
    }

-- behind END nothing is open
nested-last : (n : Nest) (resolved : List Statement) (r : Statement) → r.kind ≡ end → Kept (shapes n.frames) r → LaysNest n.frames n.nodes resolved
    → Lays (block (with_statement n r).nodes) (resolved ++ r ∷ [])
nested-last n resolved r e q laid =
    let none : n.frames ≡ [] = all-ended n.frames r e q in
    let left : (with_statement n r).frames ≡ [] = ap (λ (j : Kind). (with_kind n r j).frames) e ∙ ap (λ (fs : List Frame). (ended r.label fs (n.nodes ++ own_node r end ∷ [])).frames) none ∙ nothing-left r.label (n.nodes ++ own_node r end ∷ []) in
    subst (λ (fs : List Frame). LaysNest fs (with_statement n r).nodes (resolved ++ r ∷ [])) left (kind-lays n resolved r r.kind refl (may_stand n.frames r q) laid)
  where
    nothing-left : (label : Option ℕ) (ns : List Node) → (ended label [] ns).frames ≡ []
    nothing-left None ns = refl
    nothing-left (Some l) ns = refl

-- the last of the statements is END
abbrev pub EndsInEnd : List Statement → Type 0
EndsInEnd [] = ⊥
EndsInEnd (s ∷ []) = s.kind ≡ end
EndsInEnd (s ∷ s2 ∷ ss) = EndsInEnd (s2 ∷ ss)

nested-all : (t : Table) (m : ℕ) (n : Nest) (whole front resolved rest : List Statement) → Keep checks whole → whole ≡ front ++ rest → EndsInEnd rest
    → Nested n front resolved → Lays (block (nested_from n (statements_resolved t m rest)).nodes) (resolved ++ statements_resolved t m rest)
nested-all t m n whole front resolved [] keep cut last h = absurd last
nested-all t m n whole front resolved (s ∷ []) keep cut last h =
    let r = statement_resolved t m s in
    let k = kept-alike (open_after front) s r.kind (alike t m s.kind) (kept front s (keep.each front s [] cut)) in
    nested-last n resolved r (ap (λ (j : Kind). kind_resolved t m j) last) (subst (λ (o : List Open). Kept o r) (sym h.shaped) k) h.laid
nested-all t m n whole front resolved (s ∷ s2 ∷ ss) keep cut last h =
    let r = statement_resolved t m s in
    let more = statements_resolved t (m + statement_count r) (s2 ∷ ss) in
    subst (λ (xs : List Statement). Lays (block (nested_from (with_statement n r) more).nodes) xs) (append_assoc resolved (r ∷ []) more)
    (nested-all t (m + statement_count r) (with_statement n r) whole (front ++ s ∷ []) (resolved ++ r ∷ []) (s2 ∷ ss) keep (cut ∙ sym (append_assoc front (s ∷ []) (s2 ∷ ss))) last
    (nested-one t m n front resolved s h (keep.each front s (s2 ∷ ss) cut)))

-- The resolved statements of a text that keeps the rules, nested, lay out as they stand.
pub nested-lays : (t : Table) (ss : List Statement) → Keep checks ss → EndsInEnd ss → Lays (block (nested (statements_resolved t 0 ss)).nodes) (statements_resolved t 0 ss)
nested-lays t ss keep last = nested-all t 0 (nest [] []) ss [] [] ss keep refl last (record { laid = refl; shaped = refl })
