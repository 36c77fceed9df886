-- The frames that nesting keeps are the structures that are open, as long as no rule is broken.
use Rattle.std.proofs.Common.{◌≡◌, ◌∙◌, ℕ, Bool, true, false, not, List, [], ◌∷◌, ◌++◌, refl, ap, sym, Option, Some, None}
use Rattle.std.specs.Prelude.{◌&&◌, ◌||◌, ◌==◌, if◌then◌else◌}
use Rattle.std.proofs.lemmas.Bool.{or_parts}
use Rattle.std.specs.List.{list_any}
use Rattle.ast.specs.Tree.{Term, Statement, Kind, do_loop, block_if, else_if, else_arm, end_if, logical_if, program, integer, dimension, parameters, assign, go_on, print, read, stop, end, Node, loop, block}
use Rattle.ast.specs.declared.rule.Rule.TheVariants.{OutOfOrder, OpenLoop, WrongTerminal, CrossedBlocks}
use Rattle.structure.specs.Open.{Open, do_range, if_block, open_after, after, begun, ended_by, ended as spec_ended, with_else, without_block}
use Rattle.structure.specs.Rules.{is_out_of_order, is_some_and, is_end, by_label, is_range_of, is_around, is_other_range, is_block, is_any_range, begins_with, may_go_on, may_not_end_a_range, is_misplaced_arm, holds_wrong_statement, crosses, ends_wrongly, breaks_blocks, checks, lowest_broken}
use Rattle.profile_check.specs.Nesting.{Frame, in_range, in_block, Nest, nest, next_arm, end_block, end_ranges, ended, own_node, with_kind, with_statement}
use Rattle.profile_check.proofs.Laid.{IsInBlock, MayStand}
use Rattle.profile_check.proofs.Fresh.{none-first}

abbrev is_last : Option Term → Bool
is_last None = true
is_last (Some c) = false

abbrev pub shape_of : Frame → Open
shape_of (in_range line h before) = do_range h.terminal h.variable.name
shape_of (in_block done line c before) = if_block (is_last c)

abbrev pub shapes : List Frame → List Open
shapes [] = []
shapes (f ∷ frames) = shape_of f ∷ shapes frames

-- ---- the rules that a statement keeps

pub record Kept (opened : List Open) (s : Statement) : Type 0 where
  pub crosses : crosses opened s ≡ false
  pub ends : ends_wrongly opened s ≡ false
  pub blocks : breaks_blocks opened s ≡ false

pub kept : (front : List Statement) (s : Statement) → lowest_broken checks front s ≡ None → Kept (open_after front) s
kept front s h =
    let a = none-first (is_out_of_order front s) OutOfOrder _ h in
    let b = none-first (crosses (open_after front) s) OpenLoop _ a.1 in
    let c = none-first (ends_wrongly (open_after front) s) WrongTerminal _ b.1 in
    let d = none-first (breaks_blocks (open_after front) s) CrossedBlocks _ c.1 in
    record { crosses = b.0; ends = c.0; blocks = d.0 }

is-not : (b : Bool) → not b ≡ false → b ≡ true
is-not true h = refl
is-not false h = absurd cc

-- a part of an IF block stands in one
in-block-arm : (frames : List Frame) → begins_with may_go_on (shapes frames) ≡ true → IsInBlock frames
in-block-arm [] h = absurd cc
in-block-arm (in_range line d before ∷ frames) h = absurd cc
in-block-arm (in_block done line c before ∷ frames) h = tt

in-block : (frames : List Frame) → begins_with is_block (shapes frames) ≡ true → IsInBlock frames
in-block [] h = absurd cc
in-block (in_range line d before ∷ frames) h = absurd cc
in-block (in_block done line c before ∷ frames) h = tt

misplaced : (opened : List Open) (s : Statement) → breaks_blocks opened s ≡ false → is_misplaced_arm s.kind opened ≡ false
misplaced opened s h = (or_parts (is_misplaced_arm s.kind opened) (by_label (λ label around. is_around is_block label around) opened s || holds_wrong_statement s.kind) h).0

pub held : (opened : List Open) (s : Statement) → breaks_blocks opened s ≡ false → holds_wrong_statement s.kind ≡ false
held opened s h =
    let inside = by_label (λ label around. is_around is_block label around) opened s in
    (or_parts inside (holds_wrong_statement s.kind) (or_parts (is_misplaced_arm s.kind opened) (inside || holds_wrong_statement s.kind) h).1).1

may-stand : (k : Kind) (frames : List Frame) → is_misplaced_arm k (shapes frames) ≡ false → holds_wrong_statement k ≡ false → MayStand k frames
may-stand (else_if c) frames h w = in-block-arm frames (is-not (begins_with may_go_on (shapes frames)) h)
may-stand else_arm frames h w = in-block-arm frames (is-not (begins_with may_go_on (shapes frames)) h)
may-stand end_if frames h w = in-block frames (is-not (begins_with is_block (shapes frames)) h)
may-stand (do_loop d) frames h w = tt
may-stand (block_if c) frames h w = tt
may-stand (logical_if c k) frames h w = w
may-stand (program x) frames h w = tt
may-stand (integer ds) frames h w = tt
may-stand (dimension ds) frames h w = tt
may-stand (parameters ds) frames h w = tt
may-stand (assign a v) frames h w = tt
may-stand go_on frames h w = tt
may-stand (print items) frames h w = tt
may-stand (read elements) frames h w = tt
may-stand stop frames h w = tt
may-stand end frames h w = tt

pub may_stand : (frames : List Frame) (s : Statement) → Kept (shapes frames) s → MayStand s.kind frames
may_stand frames s k = may-stand s.kind frames (misplaced (shapes frames) s k.blocks) (held (shapes frames) s k.blocks)

-- ---- what is open after one more statement

ranges-shape : (label : ℕ) (frames : List Frame) (ns : List Node) → shapes (end_ranges label frames ns).frames ≡ ended_by label (shapes frames)
ranges-shape label [] ns = refl
ranges-shape label (in_block done line c before ∷ frames) ns = refl
ranges-shape label (in_range line d before ∷ frames) ns = by (d.terminal == label) (ranges-shape label frames (before ++ loop line d (block ns) ∷ []))
  where
    by : (b : Bool) → shapes (end_ranges label frames (before ++ loop line d (block ns) ∷ [])).frames ≡ ended_by label (shapes frames)
        → shapes (if b then end_ranges label frames (before ++ loop line d (block ns) ∷ []) else nest (in_range line d before ∷ frames) ns).frames ≡ (if b then ended_by label (shapes frames) else do_range d.terminal d.variable.name ∷ shapes frames)
    by true h = h
    by false h = refl

ended-shape : (label : Option ℕ) (frames : List Frame) (ns : List Node) → shapes (ended label frames ns).frames ≡ spec_ended label (shapes frames)
ended-shape None frames ns = refl
ended-shape (Some label) frames ns = ranges-shape label frames ns

-- a label that no range has ends none
no-range : (label : ℕ) (opened : List Open) → list_any (is_range_of label) opened ≡ false → ended_by label opened ≡ opened
no-range label [] h = refl
no-range label (if_block b ∷ opened) h = refl
no-range label (do_range terminal x ∷ opened) h =
    let p = or_parts (terminal == label) (list_any (is_range_of label) opened) h in
    ap (λ (b : Bool). if b then ended_by label opened else do_range terminal x ∷ opened) p.0

no-end : (k : Kind) (label : Option ℕ) (opened : List Open) → is_end k ≡ false → (not (is_end k) && is_some_and (λ l. list_any (is_range_of l) opened) label) ≡ false → spec_ended label opened ≡ opened
no-end k None opened e h = refl
no-end k (Some l) opened e h = no-range l opened (sym (ap (λ (b : Bool). not b && list_any (is_range_of l) opened) e) ∙ h)

-- a statement that may not end a range ends none
ends-none : (opened : List Open) (s : Statement) → is_end s.kind ≡ false → may_not_end_a_range s.kind ≡ true → ends_wrongly opened s ≡ false → spec_ended s.label opened ≡ opened
ends-none opened s e m h = no-end s.kind s.label opened e (sym (ap (λ (b : Bool). b && by_label (λ label around. list_any (is_range_of label) around) opened s) m) ∙ h)

next-shape : (line : ℕ) (c : Term) (frames : List Frame) (ns : List Node) → begins_with may_go_on (shapes frames) ≡ true → shapes (next_arm line (Some c) frames ns).frames ≡ shapes frames
next-shape line c [] ns h = refl
next-shape line c (in_range l d before ∷ frames) ns h = refl
next-shape line c (in_block done l (Some k) before ∷ frames) ns h = refl
next-shape line c (in_block done l None before ∷ frames) ns h = absurd cc

else-shape : (line : ℕ) (frames : List Frame) (ns : List Node) → shapes (next_arm line None frames ns).frames ≡ with_else (shapes frames)
else-shape line [] ns = refl
else-shape line (in_range l d before ∷ frames) ns = refl
else-shape line (in_block done l c before ∷ frames) ns = refl

block-shape : (frames : List Frame) (ns : List Node) → shapes (end_block frames ns).frames ≡ without_block (shapes frames)
block-shape [] ns = refl
block-shape (in_range l d before ∷ frames) ns = refl
block-shape (in_block done l c before ∷ frames) ns = refl

shape-by : (n : Nest) (s : Statement) (k : Kind) → s.kind ≡ k → Kept (shapes n.frames) s → shapes (with_kind n s k).frames ≡ begun k (spec_ended s.label (shapes n.frames))
shape-by n s (do_loop d) e h = ap (λ (o : List Open). do_range d.terminal d.variable.name ∷ o) (sym (ends-none (shapes n.frames) s (ap is_end e) (ap may_not_end_a_range e) h.ends))
shape-by n s (block_if c) e h = ap (λ (o : List Open). if_block false ∷ o) (sym (ends-none (shapes n.frames) s (ap is_end e) (ap may_not_end_a_range e) h.ends))
shape-by n s (else_if c) e h =
    let m = sym (ap (λ (k : Kind). is_misplaced_arm k (shapes n.frames)) e) ∙ misplaced (shapes n.frames) s h.blocks in
    next-shape s.line c n.frames n.nodes (is-not (begins_with may_go_on (shapes n.frames)) m) ∙ sym (ends-none (shapes n.frames) s (ap is_end e) (ap may_not_end_a_range e) h.ends)
shape-by n s else_arm e h = else-shape s.line n.frames n.nodes ∙ ap with_else (sym (ends-none (shapes n.frames) s (ap is_end e) (ap may_not_end_a_range e) h.ends))
shape-by n s end_if e h = block-shape n.frames n.nodes ∙ ap without_block (sym (ends-none (shapes n.frames) s (ap is_end e) (ap may_not_end_a_range e) h.ends))
shape-by n s (logical_if c j) e h = ended-shape s.label n.frames (n.nodes ++ own_node s (logical_if c j) ∷ [])
shape-by n s (program x) e h = ended-shape s.label n.frames (n.nodes ++ own_node s (program x) ∷ [])
shape-by n s (integer ds) e h = ended-shape s.label n.frames (n.nodes ++ own_node s (integer ds) ∷ [])
shape-by n s (dimension ds) e h = ended-shape s.label n.frames (n.nodes ++ own_node s (dimension ds) ∷ [])
shape-by n s (parameters ds) e h = ended-shape s.label n.frames (n.nodes ++ own_node s (parameters ds) ∷ [])
shape-by n s (assign a v) e h = ended-shape s.label n.frames (n.nodes ++ own_node s (assign a v) ∷ [])
shape-by n s go_on e h = ended-shape s.label n.frames (n.nodes ++ own_node s go_on ∷ [])
shape-by n s (print items) e h = ended-shape s.label n.frames (n.nodes ++ own_node s (print items) ∷ [])
shape-by n s (read elements) e h = ended-shape s.label n.frames (n.nodes ++ own_node s (read elements) ∷ [])
shape-by n s stop e h = ended-shape s.label n.frames (n.nodes ++ own_node s stop ∷ [])
shape-by n s end e h = ended-shape s.label n.frames (n.nodes ++ own_node s end ∷ [])

pub shape : (n : Nest) (s : Statement) → Kept (shapes n.frames) s → shapes (with_statement n s).frames ≡ after (shapes n.frames) s
shape n s h = shape-by n s s.kind refl h

-- where END breaks no rule, nothing is open
pub all-ended : (frames : List Frame) (s : Statement) → s.kind ≡ end → Kept (shapes frames) s → frames ≡ []
all-ended [] s e h = refl
all-ended (in_range line d before ∷ frames) s e h =
    let p = (or_parts (by_label (λ label around. is_around (is_other_range label) label around) (shapes (in_range line d before ∷ frames)) s) (is_end s.kind && begins_with is_any_range (shapes (in_range line d before ∷ frames))) h.crosses).1 in
    absurd (let q : true ≡ false = sym (ap (λ (k : Kind). is_end k && true) e) ∙ p in cc)
all-ended (in_block done line c before ∷ frames) s e h =
    absurd (let q : true ≡ false = sym (ap (λ (k : Kind). is_misplaced_arm k (shapes (in_block done line c before ∷ frames))) e) ∙ misplaced (shapes (in_block done line c before ∷ frames)) s h.blocks in cc)
