use Rattle.std.proofs.Common.{◌≡◌, ◌+◌, ◌*◌, ◌++◌, drop, length, max}
use Rattle.dependence.proofs.plan.PlanStmt.TheLaws.{the_size}
use Rattle.dependence.specs.PlanView.{plan_block}
use Rattle.dependence.specs.declared.plan.PlanStmt.TheShapes.{weighed-PlanStmt-Choice-1}
use Rattle.expr_code.specs.PlacesView.{places_of}
use Rattle.codegen.specs.Blocks.{Ends}
use Rattle.codegen.specs.Emitted.{arms_awaits, arms_code, arms_records, block_awaits, block_code, block_records}
use Rattle.codegen.specs.PlanParts.{arms_of}
use Rattle.codegen.specs.Program.{none_open}
use Rattle.codegen.specs.Records.{records_of}
use Rattle.codegen.proofs.plans.+plans.Given as goal

abbrev pub invariant-emit_plan-loop-i : goal.invariant-emit_plan-loop-i
invariant-emit_plan-loop-i l = record {
  code : l.code.items ++ block_code (places_of l.places) none_open (length l.records.items) (length l.awaits.items) (plan_block (drop l.i l.body))
      ≡ l.fn.code.items ++ block_code (places_of l.places) none_open (length l.fn.records.items) (length l.fn.awaits.items) (plan_block l.body);
  records : records_of l.records ++ block_records (places_of l.places) none_open (plan_block (drop l.i l.body)) ≡ records_of l.fn.records ++ block_records (places_of l.places) none_open (plan_block l.body);
  awaits : l.awaits.items ++ block_awaits (places_of l.places) none_open (plan_block (drop l.i l.body)) ≡ l.fn.awaits.items ++ block_awaits (places_of l.places) none_open (plan_block l.body);
}

abbrev pub invariant-emit_arms-loop-arm : goal.invariant-emit_arms-loop-arm
invariant-emit_arms-loop-arm l = record {
  code : Ends l.pending.items (l.code.items ++ arms_code (places_of l.places) none_open (length l.records.items) (length l.awaits.items) (arms_of (drop l.arm-index l.arms) l.made))
      (l.fn.code.items ++ arms_code (places_of l.places) none_open (length l.fn.records.items) (length l.fn.awaits.items) (arms_of l.arms l.made));
  records : records_of l.records ++ arms_records (places_of l.places) none_open (arms_of (drop l.arm-index l.arms) l.made) ≡ records_of l.fn.records ++ arms_records (places_of l.places) none_open (arms_of l.arms l.made);
  awaits : l.awaits.items ++ arms_awaits (places_of l.places) none_open (arms_of (drop l.arm-index l.arms) l.made) ≡ l.fn.awaits.items ++ arms_awaits (places_of l.places) none_open (arms_of l.arms l.made);
}

-- ---- the cycle ends: an ELSE that was made is a part of its IF as the arms are

abbrev pub decreases-emit_made : goal.decreases-emit_made
decreases-emit_made l = 4 * goal.size-emit_made l + 2

abbrev pub decreases-emit_arms : goal.decreases-emit_arms
decreases-emit_arms l = 4 * max (goal.size-emit_arms l) (weighed-PlanStmt-Choice-1.weight _ the_size l.made.now) + 3

abbrev pub decreases-emit_plan : goal.decreases-emit_plan
decreases-emit_plan l = 4 * goal.size-emit_plan l + 1

abbrev pub decreases-emit_body : goal.decreases-emit_body
decreases-emit_body l = 4 * goal.size-emit_body l + 2

abbrev pub decreases-emit_trips : goal.decreases-emit_trips
decreases-emit_trips l = 4 * goal.size-emit_trips l + 2

abbrev pub decreases-emit_loop : goal.decreases-emit_loop
decreases-emit_loop l = 4 * goal.size-emit_loop l + 3

abbrev pub decreases-emit_statement : goal.decreases-emit_statement
decreases-emit_statement l = 4 * goal.size-emit_statement l
