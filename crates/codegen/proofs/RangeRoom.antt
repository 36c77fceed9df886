-- What a plan's body wants of operands and serial loops is no more than there is room for in the
-- code: its range stands among the program's statements, whose room that is.
use Rattle.std.proofs.Common.{◌≤◌, ℕ, Option, Some, None, sym, subst, arith}
use Rattle.std.specs.Prelude.{max}
use Rattle.std.proofs.Math.Nat.{le-max_left, le-max_right}
use Rattle.ast.specs.Tree as tree
use Rattle.ast.specs.Tree.{Term, Block, Arms}
use Rattle.loop_tree.specs.Loops.{Loop, loops_of}
use Rattle.expr_code.specs.Computes.{operands}
use Rattle.plan_check.specs.GoodPlan.{SameBody, stripped}
use Rattle.plan_check.proofs.Members.{In}
use Rattle.codegen.specs.Plain.{plain_arms, plain_block, plain_node}
use Rattle.codegen.specs.Program.{Planned}
use Rattle.codegen.specs.Room.{arms_loops, arms_room, block_loops, block_room, head_room, node_loops, node_room}
use Rattle.codegen.proofs.RangeParts as bodies
use Rattle.codegen.proofs.RangeParts.{Made, made, of_block}

-- both of two numbers are at most a third
both : (a b n : ℕ) → max a b ≤ n → (a ≤ n) × (b ≤ n)
both a b n h = let l = le-max_left a b in let r = le-max_right a b in (omega (arith, h, l), omega (arith, h, r))

-- n: the room there is
module _ (n : ℕ) where
  range_room : (b : Block) (l : Loop) → In l (loops_of b) → block_room (plain_block b) ≤ n → block_room (plain_block l.body) ≤ n
  range_room b l i h =
      of_block (λ x. block_room (plain_block x) ≤ n) (λ x. node_room (plain_node x) ≤ n) (λ x. arms_room (plain_arms x) ≤ n)
      (λ x c q. both (node_room (plain_node x)) (block_room (plain_block c)) n q)
      (λ line d c q. (both 2 (block_room (plain_block c)) n (both (head_room d) (max 2 (block_room (plain_block c))) n q).1).1)
      (λ a q. q)
      (λ line c x more q. arm c line x more q)
      b None 0 0 l i h
    where
      arm : (c : Option Term) (line : ℕ) (x : Block) (more : Arms) → arms_room (plain_arms (tree.then_arm line c x more)) ≤ n → (block_room (plain_block x) ≤ n) × (arms_room (plain_arms more) ≤ n)
      arm None line x more q = both (block_room (plain_block x)) (arms_room (plain_arms more)) n q
      arm (Some c) line x more q = both (block_room (plain_block x)) (arms_room (plain_arms more)) n (both (operands c) (max (block_room (plain_block x)) (arms_room (plain_arms more))) n q).1

  range_loops : (b : Block) (l : Loop) → In l (loops_of b) → block_loops (plain_block b) ≤ n → block_loops (plain_block l.body) ≤ n
  range_loops b l i h =
      of_block (λ x. block_loops (plain_block x) ≤ n) (λ x. node_loops (plain_node x) ≤ n) (λ x. arms_loops (plain_arms x) ≤ n)
      (λ x c q. both (node_loops (plain_node x)) (block_loops (plain_block c)) n q)
      (λ line d c q. omega (arith, q))
      (λ a q. q)
      (λ line c x more q. arm c line x more q)
      b None 0 0 l i h
    where
      arm : (c : Option Term) (line : ℕ) (x : Block) (more : Arms) → arms_loops (plain_arms (tree.then_arm line c x more)) ≤ n → (block_loops (plain_block x) ≤ n) × (arms_loops (plain_arms more) ≤ n)
      arm None line x more q = both (block_loops (plain_block x)) (arms_loops (plain_arms more)) n q
      arm (Some c) line x more q = both (block_loops (plain_block x)) (arms_loops (plain_arms more)) n q

-- the room of a program's statements is enough for a plan of one of its loops
pub plan_room : (b : Block) (x : Planned) → In x.loop (loops_of b) → SameBody x.loop x.plan → block_room x.plan.body ≤ block_room (plain_block b)
plan_room b x i same =
    let w : Made x.plan.body = made x.plan.body same.bare in
    let r = bodies.room_of x.plan.body w in
    let s = range_room (block_room (plain_block b)) b x.loop i (omega arith) in
    let t : block_room (plain_block (stripped x.plan.body)) ≤ block_room (plain_block b) = subst (λ (c : Block). block_room (plain_block c) ≤ block_room (plain_block b)) (sym same.same) s in
    omega (arith, r, t)

pub plan_loops : (b : Block) (x : Planned) → In x.loop (loops_of b) → SameBody x.loop x.plan → block_loops x.plan.body ≤ block_loops (plain_block b)
plan_loops b x i same =
    let w : Made x.plan.body = made x.plan.body same.bare in
    let r = bodies.loops_of x.plan.body w in
    let s = range_loops (block_loops (plain_block b)) b x.loop i (omega arith) in
    let t : block_loops (plain_block (stripped x.plan.body)) ≤ block_loops (plain_block b) = subst (λ (c : Block). block_loops (plain_block c) ≤ block_loops (plain_block b)) (sym same.same) s in
    omega (arith, r, t)
