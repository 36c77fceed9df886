-- What a statement adds to what was collected before it.
use Rattle.std.proofs.Common.{◌≡◌, ◌∙◌, ◌+◌, ◌<◌, ℕ, List, ◌++◌, Option, Some, Result, Ok, Err, refl, sym, ap, length, map, drop, get_or}
use Rattle.std.specs.Prelude.{OnOk}
use Rattle.ast.specs.Tree.{Arms, Block, DoHead, Term, arms as arms_of, choose, loop}
use Rattle.ast.specs.View.{arm as arm_of, block_view, optional_term}
use Rattle.ast.specs.declared.tree.Arm.{Arm}
use Rattle.ast.specs.declared.tree.Node.{Node}
use Rattle.ast.proofs.Nodes.{condition_of}
use Rattle.loop_tree.specs.Collecting.{Collected, after_arms, after_block, after_node, begun, ended, with_line}
use Rattle.loop_tree.specs.Occurrences.{Occurrence, first_line, optional_occurrences}
use Rattle.loop_tree.proofs.Nodes.{body_of}
use Rattle.loop_tree.proofs.Passing.{next}

-- a loop, whose place is the number of those before it
pub after_loop : (around : Option ℕ) (l : ℕ) (h : DoHead) (b : Block) (place : ℕ) (old opened passed new : Collected) → place ≡ length old.spans → opened ≡ begun around l h b old
    → passed ≡ after_block (Some (place + 1)) b opened → new ≡ ended place passed → new ≡ after_node around (loop l h b) old
after_loop around l h b place old opened passed new at begins goes ends =
    ends
    ∙ ap (λ (c : Collected). ended place c) (goes ∙ ap (λ (c : Collected). after_block (Some (place + 1)) b c) begins)
    ∙ ap (λ (n : ℕ). ended n (after_block (Some (n + 1)) b (begun around l h b old))) at

-- an IF, whose arms belong to the statement of its number
pub after_choice : {X E : Type 0} (r : Result X E) (around : Option ℕ) (a : Arms) (number line : ℕ) (old lined new : Collected) → number ≡ length old.lines → line ≡ first_line a → lined ≡ with_line line old
    → OnOk r (new ≡ after_arms around number a lined) → OnOk r (new ≡ after_node around (choose a) old)
after_choice (Err e) around a number line old lined new at is has h = h
after_choice (Ok x) around a number line old lined new at is has h =
    h
    ∙ ap (λ (c : Collected). after_arms around number a c) (has ∙ ap (λ (l : ℕ). with_line l old) is)
    ∙ ap (λ (n : ℕ). after_arms around n a (with_line (first_line a) old)) at

abbrev with_condition : ℕ → Option Term → Collected → Collected
with_condition i e c = record { lines = c.lines; references = c.references ++ optional_occurrences i e; spans = c.spans }

-- an arm: its condition, then its statements
abbrev pub after_arm : Option ℕ → ℕ → Arm → Collected → Collected
after_arm around i a c = after_block around (arm_of a).body (with_condition i (arm_of a).condition c)

arm_passed : (around : Option ℕ) (i : ℕ) (a : Arm) (ns : List Node) (references : List Occurrence) (old new : Collected) → ns ≡ a.body.items → references ≡ old.references ++ optional_occurrences i (optional_term a.condition)
    → new ≡ after_block around (block_view ns) (record { lines = old.lines; references = references; spans = old.spans }) → new ≡ after_arm around i a old
arm_passed around i a ns references old new same more is =
    is
    ∙ ap (λ (rs : List Occurrence). after_block around (block_view ns) (record { lines = old.lines; references = rs; spans = old.spans })) more
    ∙ sym (ap (λ (b : Block). after_block around b (with_condition i (optional_term a.condition) old)) (body_of a ns same))
    ∙ sym (ap (λ (e : Option Term). after_block around (arm_of a).body (with_condition i e old)) (condition_of a))

pub next_arm : (around : Option ℕ) (number : ℕ) (xs : List Arm) (i : ℕ) (a : Arm) (ns : List Node) (references : List Occurrence) (before after whole : Collected) → i < length xs → a ≡ get_or xs i a → ns ≡ a.body.items
    → references ≡ before.references ++ optional_occurrences number (optional_term a.condition)
    → after ≡ after_block around (block_view ns) (record { lines = before.lines; references = references; spans = before.spans })
    → after_arms around number (arms_of (map arm_of (drop i xs))) before ≡ whole → after_arms around number (arms_of (map arm_of (drop (i + 1) xs))) after ≡ whole
next_arm around number xs i a ns references before after whole h is same more passed so_far =
    next (λ (x : Arm) (s : Collected). after_arm around number x s) (λ (as_left : List Arm) (s : Collected). after_arms around number (arms_of (map arm_of as_left)) s) (λ x as_left s. refl) xs i a before after whole h is
    (arm_passed around number a ns references before after same more passed) so_far
