-- A plan whose body is a range without READ has none.
use Rattle.std.proofs.Common.{◌≡◌, ◌∙◌, true, false, List, ℕ, ap}
use Rattle.std.proofs.lemmas.Bool.{and_parts, or_parts}
use Rattle.ast.specs.Tree.{Kind, program, integer, dimension, parameters, assign, do_loop, go_on, block_if, else_if, else_arm, end_if, logical_if, print, read, stop, end, Block}
use Rattle.dependence.specs.Fitting.{arms_read, reads}
use Rattle.dependence.specs.Kept.{block_reads, is_read}
use Rattle.dependence.specs.Plan.{awaits, advances, plain, loop, choose, PlanBlock, no_nodes, then_node, PlanArms, no_arms, made_else, then_arm, PlanTree}
use Rattle.dependence.proofs.Fitted.{has_read}
use Rattle.loop_tree.specs.Loops.{Loop}
use Rattle.plan_check.specs.GoodPlan.{SameBody, made_bare, made_bare_arms, only_events, stripped, stripped_arms}
use Rattle.plan_check.proofs.Bridge.{NoRead, NoReadArms, NoReads}

module _ (privates : List (List ℕ)) where
  no_read : (k : Kind) → is_read k ≡ false → NoRead privates k
  no_read (read xs) h = cc
  no_read (assign a e) h = tt
  no_read (print items) h = tt
  no_read stop h = tt
  no_read (program x) h = tt
  no_read (integer x) h = tt
  no_read (dimension x) h = tt
  no_read (parameters x) h = tt
  no_read (do_loop x) h = tt
  no_read go_on h = tt
  no_read (block_if x) h = tt
  no_read (else_if x) h = tt
  no_read else_arm h = tt
  no_read end_if h = tt
  no_read (logical_if x y) h = tt
  no_read end h = tt

  bare_reads : (b : PlanBlock) → only_events b ≡ true → NoReads privates b
  bare_reads no_nodes h = tt
  bare_reads (then_node (awaits e d) b) h = bare_reads b h
  bare_reads (then_node (advances e) b) h = bare_reads b h
  bare_reads (then_node (plain x) b) h = cc
  bare_reads (then_node (loop l x c) b) h = cc
  bare_reads (then_node (choose a) b) h = cc

  mutual
    block_no_reads : (b : PlanBlock) → made_bare b ≡ true → reads (stripped b) ≡ false → NoReads privates b
    block_no_reads no_nodes m h = tt
    block_no_reads (then_node (awaits e d) b) m h = block_no_reads b m h
    block_no_reads (then_node (advances e) b) m h = block_no_reads b m h
    block_no_reads (then_node (plain x) b) m h =
        let q = or_parts (is_read x.kind) (reads (stripped b)) h in
        (no_read x.kind q.0, block_no_reads b m q.1)
    block_no_reads (then_node (loop l x c) b) m h =
        let n = and_parts (made_bare c) (made_bare b) m in
        let q = or_parts (reads (stripped c)) (reads (stripped b)) h in
        (block_no_reads c n.0 q.0, block_no_reads b n.1 q.1)
    block_no_reads (then_node (choose a) b) m h =
        let n = and_parts (made_bare_arms a) (made_bare b) m in
        let q = or_parts (arms_read (stripped_arms a)) (reads (stripped b)) h in
        (arms_no_reads a n.0 q.0, block_no_reads b n.1 q.1)

    arms_no_reads : (a : PlanArms) → made_bare_arms a ≡ true → arms_read (stripped_arms a) ≡ false → NoReadArms privates a
    arms_no_reads no_arms m h = tt
    arms_no_reads (made_else b) m h = bare_reads b m
    arms_no_reads (then_arm l c b more) m h =
        let n = and_parts (made_bare b) (made_bare_arms more) m in
        let q = or_parts (reads (stripped b)) (arms_read (stripped_arms more)) h in
        (block_no_reads b n.0 q.0, arms_no_reads more n.1 q.1)

pub no_reads : (l : Loop) (p : PlanTree) → block_reads l.body ≡ false → SameBody l p → NoReads p.privates p.body
no_reads l p h s = block_no_reads p.privates p.body s.bare (has_read (stripped p.body) ∙ ap (λ (b : Block). block_reads b) s.same ∙ h)
