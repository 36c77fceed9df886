use Rattle.std.proofs.Common.{rules, ◌≡◌, ◌+◌, ◌-◌, ◌≤◌, ◌++◌, ◌∷◌, [], length, drop, OnOk, Some, None, List, ap, true, refl, sym, subst, ◌∙◌}
use Rattle.std.proofs.lemmas.List.{drop_all}
use Rattle.std.proofs.lemmas.Result.{on_ok_weaker}
use Rattle.ast.specs.View.{ref, term}
use Rattle.ast.proofs.Lists.{part_left}
use Rattle.dependence.specs.Plan.{then_arm}
use Rattle.dependence.specs.declared.plan.PlanArm.{PlanArm}
use Rattle.dependence.specs.declared.plan.PlanStmt.{PlanStmt}
use Rattle.dependence.specs.PlanView.{plan_block, plan_node}
use Rattle.expr_code.specs.Emitted.{term_code}
use Rattle.expr_code.specs.Places.{Places}
use Rattle.expr_code.specs.PlacesView.{places_of}
use Rattle.codegen.specs.Blocks.{Ends, trip_ended}
use Rattle.codegen.specs.Emitted.{arms_awaits, arms_code, arms_records, block_awaits, block_code, block_records, node_awaits, node_records}
use Rattle.codegen.specs.PlanParts.{arms_of, ends_with_stop, made_arms}
use Rattle.codegen.specs.Program.{none_open}
use Rattle.codegen.specs.Records.{records_of}
use Rattle.codegen.specs.declared.skips.Pending.{Pending}
use Rattle.codegen.proofs.Emitting.{arm_awaits_next, arm_next, arm_records_next, awaits_count, awaits_next, block_next, body_emitted, count_on, records_next, trips_emitted}
use Rattle.codegen.proofs.Ending.{last_appended, last_closed, nothing_left, stop_awaits, stop_code, stop_records}
use Rattle.codegen.proofs.PlanPieces.{plan_arm_here, plan_goes_on, statement_here}
use Rattle.codegen.proofs.plans.+plans.Goals as goal

pub emit_trips-returns-clause-code : goal.emit_trips-returns-clause-code
emit_trips-returns-clause-code t c =
    let p = places_of c.args.places.now in
    let q = record p { line = c.args.line } in
    let variable = ref c.args.variable.now in
    let range = block_code p none_open (length c.args.records.now.items) (length c.args.awaits.now.items) (plan_block c.args.range.now) in
    let start : c.len-start.result ≡ length c.args.code.now.items = search rules in
    let ended : OnOk c.end_trip.result (c.end_trip.new.code.items ≡ trip_ended q variable c.len-start.result c.emit_plan.new.code.items) =
    subst (λ (l : Places). OnOk c.end_trip.result (c.end_trip.new.code.items ≡ trip_ended l variable c.len-start.result c.emit_plan.new.code.items)) c.on.ensures c.end_trip.ensures in
    on_ok_weaker c.end_trip.result (trips_emitted q variable c.args.code.now.items range c.put.new.code.items c.emit_plan.new.code.items c.end_trip.new.code.items c.len-start.result start c.in_ok-put.ensures c.in_ok-emit_plan.ensures.code) ended

pub emit_body-returns-clause-code : goal.emit_body-returns-clause-code
emit_body-returns-clause-code t c =
    let body = block_code (places_of c.args.places.now) none_open (length c.args.records.now.items) (length c.args.awaits.now.items) (plan_block c.args.body.now) in
    let start : c.len-start.result ≡ length c.args.code.now.items = search rules in
    on_ok_weaker c.end_body.result (body_emitted c.args.line c.args.code.now.items body c.put.new.code.items c.emit_plan.new.code.items c.end_body.new.code.items c.len-start.result start c.in_ok-put.ensures c.in_ok-emit_plan.ensures.code) c.end_body.ensures

pub emit_arms-loop-arm-preserved : goal.emit_arms-loop-arm-preserved
emit_arms-loop-arm-preserved t c =
    let p = places_of c.args.places.now in
    let made = c.args.made.now in
    let line = c.arm-item.result.line in
    let body : c.arm-item.result.body.items ≡ c.deref-in-loop-arm.result.now = search rules in
    let b = plan_block c.deref-in-loop-arm.result.now in
    let x = term c.in-Some.condition in
    let others = arms_of (drop (c.loop-arm.arm-index + 1) c.args.arms.now) made in
    let all = arms_of (drop c.loop-arm.arm-index c.args.arms.now) made in
    let whole = arms_of c.args.arms.now made in
    let target = c.args.code.now.items ++ arms_code p none_open (length c.args.records.now.items) (length c.args.awaits.now.items) whole in
    let here : all ≡ then_arm line (Some x) b others = plan_arm_here c.args.arms.now c.loop-arm.arm-index c.arm-item.result (Some c.in-Some.condition) c.deref-in-loop-arm.result.now made c.loop-arm-test.true c.arm-item.is c.in-Some.is body in
    let pushed : c.push.new.self.items ≡ c.loop-arm.pending.items ++ record { place = length c.emit_body.new.code.items - 1; line = line } ∷ [] = search rules in
    let emitted : c.emit.new.code.items ≡ c.loop-arm.code.items ++ term_code (record p { line = line }) x = search rules in
    let counted : length c.emit_body.new.records.items ≡ length c.loop-arm.records.items + length (block_records p none_open b) = count_on c.loop-arm.records c.emit_body.new.records (block_records p none_open b) c.in_ok-emit_body.ensures.records in
    let waits : length c.emit_body.new.awaits.items ≡ length c.loop-arm.awaits.items + length (block_awaits p none_open b) = awaits_count c.loop-arm.awaits.items c.emit_body.new.awaits.items (block_awaits p none_open b) c.in_ok-emit_body.ensures.awaits in
    record {
      code = subst (λ (ss : List Pending). Ends ss (c.emit_body.new.code.items ++ arms_code p none_open (length c.emit_body.new.records.items) (length c.emit_body.new.awaits.items) others) target) (sym pushed)
          (arm_next p none_open line x b others all (length c.loop-arm.records.items) (length c.emit_body.new.records.items) (length c.loop-arm.awaits.items) (length c.emit_body.new.awaits.items) c.loop-arm.pending.items c.loop-arm.code.items c.emit.new.code.items c.emit_body.new.code.items target (length c.emit_body.new.code.items - 1) here emitted c.in_ok-emit_body.ensures.code counted waits refl c.loop-arm.invariant.code);
      records = arm_records_next p none_open line x b others all (records_of c.loop-arm.records) (records_of c.emit_body.new.records) (records_of c.args.records.now ++ arms_records p none_open whole) here c.in_ok-emit_body.ensures.records c.loop-arm.invariant.records;
      awaits = arm_awaits_next p none_open line x b others all c.loop-arm.awaits.items c.emit_body.new.awaits.items (c.args.awaits.now.items ++ arms_awaits p none_open whole) here c.in_ok-emit_body.ensures.awaits c.loop-arm.invariant.awaits;
    }

pub emit_plan-loop-i-preserved : goal.emit_plan-loop-i-preserved
emit_plan-loop-i-preserved t c =
    let p = places_of c.args.places.now in
    let n = plan_node c.index-body-i.result in
    let b = plan_block (drop (c.loop-i.i + 1) c.args.body.now) in
    let all = plan_block (drop c.loop-i.i c.args.body.now) in
    let whole = plan_block c.args.body.now in
    let here = statement_here c.args.body.now c.loop-i.i c.index-body-i.result c.loop-i-test.true c.index-body-i.is in
    let goes = plan_goes_on c.args.body.now c.loop-i.i c.index-body-i.result c.loop-i-test.true c.index-body-i.is (sym c.if-is_last_stop.false ∙ c.is_last_stop.ensures) in
    let counted : length c.emit_statement.new.records.items ≡ length c.loop-i.records.items + length (node_records p none_open n) = count_on c.loop-i.records c.emit_statement.new.records (node_records p none_open n) c.in_ok-emit_statement.ensures.records in
    let waits : length c.emit_statement.new.awaits.items ≡ length c.loop-i.awaits.items + length (node_awaits p none_open n) = awaits_count c.loop-i.awaits.items c.emit_statement.new.awaits.items (node_awaits p none_open n) c.in_ok-emit_statement.ensures.awaits in
    record {
      code = block_next p none_open n b all (length c.loop-i.records.items) (length c.emit_statement.new.records.items) (length c.loop-i.awaits.items) (length c.emit_statement.new.awaits.items) c.loop-i.code.items c.emit_statement.new.code.items
          (c.args.code.now.items ++ block_code p none_open (length c.args.records.now.items) (length c.args.awaits.now.items) whole) here goes c.in_ok-emit_statement.ensures.code counted waits c.loop-i.invariant.code;
      records = records_next p none_open n b all (records_of c.loop-i.records) (records_of c.emit_statement.new.records) (records_of c.args.records.now ++ block_records p none_open whole) here goes c.in_ok-emit_statement.ensures.records c.loop-i.invariant.records;
      awaits = awaits_next p none_open n b all c.loop-i.awaits.items c.emit_statement.new.awaits.items (c.args.awaits.now.items ++ block_awaits p none_open whole) here goes c.in_ok-emit_statement.ensures.awaits c.loop-i.invariant.awaits;
    }

pub emit_plan-returns-then-is_last_stop-clause-code : goal.emit_plan-returns-then-is_last_stop-clause-code
emit_plan-returns-then-is_last_stop-clause-code t c =
    let p = places_of c.args.places.now in
    let b = plan_block (drop c.loop-i.i c.args.body.now) in
    let stops : true ≡ ends_with_stop b = sym c.if-is_last_stop.true ∙ c.is_last_stop.ensures ∙ ap (λ (ms : List PlanStmt). ends_with_stop (plan_block ms)) (part_left c.args.body.now c.loop-i.i) in
    nothing_left c.loop-i.code.items (block_code p none_open (length c.loop-i.records.items) (length c.loop-i.awaits.items) b) (c.args.code.now.items ++ block_code p none_open (length c.args.records.now.items) (length c.args.awaits.now.items) (plan_block c.args.body.now)) (stop_code p none_open b (length c.loop-i.records.items) (length c.loop-i.awaits.items) stops) c.loop-i.invariant.code

pub emit_plan-returns-clause-code : goal.emit_plan-returns-clause-code
emit_plan-returns-clause-code t c =
    let p = places_of c.args.places.now in
    let b = plan_block (drop c.loop-i.i c.args.body.now) in
    let ended : length c.args.body.now ≤ c.loop-i.i = search rules in
    nothing_left c.loop-i.code.items (block_code p none_open (length c.loop-i.records.items) (length c.loop-i.awaits.items) b) (c.args.code.now.items ++ block_code p none_open (length c.args.records.now.items) (length c.args.awaits.now.items) (plan_block c.args.body.now)) (ap (λ (ms : List PlanStmt). block_code p none_open (length c.loop-i.records.items) (length c.loop-i.awaits.items) (plan_block ms)) (drop_all c.loop-i.i c.args.body.now ended)) c.loop-i.invariant.code

pub emit_plan-returns-then-is_last_stop-clause-records : goal.emit_plan-returns-then-is_last_stop-clause-records
emit_plan-returns-then-is_last_stop-clause-records t c =
    let p = places_of c.args.places.now in
    let b = plan_block (drop c.loop-i.i c.args.body.now) in
    let stops : true ≡ ends_with_stop b = sym c.if-is_last_stop.true ∙ c.is_last_stop.ensures ∙ ap (λ (ms : List PlanStmt). ends_with_stop (plan_block ms)) (part_left c.args.body.now c.loop-i.i) in
    nothing_left (records_of c.loop-i.records) (block_records p none_open b) (records_of c.args.records.now ++ block_records p none_open (plan_block c.args.body.now)) (stop_records p none_open b stops) c.loop-i.invariant.records

pub emit_plan-returns-clause-records : goal.emit_plan-returns-clause-records
emit_plan-returns-clause-records t c =
    let p = places_of c.args.places.now in
    let b = plan_block (drop c.loop-i.i c.args.body.now) in
    let ended : length c.args.body.now ≤ c.loop-i.i = search rules in
    nothing_left (records_of c.loop-i.records) (block_records p none_open b) (records_of c.args.records.now ++ block_records p none_open (plan_block c.args.body.now)) (ap (λ (ms : List PlanStmt). block_records p none_open (plan_block ms)) (drop_all c.loop-i.i c.args.body.now ended)) c.loop-i.invariant.records

pub emit_plan-returns-then-is_last_stop-clause-awaits : goal.emit_plan-returns-then-is_last_stop-clause-awaits
emit_plan-returns-then-is_last_stop-clause-awaits t c =
    let p = places_of c.args.places.now in
    let b = plan_block (drop c.loop-i.i c.args.body.now) in
    let stops : true ≡ ends_with_stop b = sym c.if-is_last_stop.true ∙ c.is_last_stop.ensures ∙ ap (λ (ms : List PlanStmt). ends_with_stop (plan_block ms)) (part_left c.args.body.now c.loop-i.i) in
    nothing_left c.loop-i.awaits.items (block_awaits p none_open b) (c.args.awaits.now.items ++ block_awaits p none_open (plan_block c.args.body.now)) (stop_awaits p none_open b stops) c.loop-i.invariant.awaits

pub emit_plan-returns-clause-awaits : goal.emit_plan-returns-clause-awaits
emit_plan-returns-clause-awaits t c =
    let p = places_of c.args.places.now in
    let b = plan_block (drop c.loop-i.i c.args.body.now) in
    let ended : length c.args.body.now ≤ c.loop-i.i = search rules in
    nothing_left c.loop-i.awaits.items (block_awaits p none_open b) (c.args.awaits.now.items ++ block_awaits p none_open (plan_block c.args.body.now)) (ap (λ (ms : List PlanStmt). block_awaits p none_open (plan_block ms)) (drop_all c.loop-i.i c.args.body.now ended)) c.loop-i.invariant.awaits

pub emit_arms-returns-clause-code : goal.emit_arms-returns-clause-code
emit_arms-returns-clause-code t c =
    let p = places_of c.args.places.now in
    let made = c.args.made.now in
    let ended : length c.args.arms.now ≤ c.loop-arm.arm-index = search rules in
    let last = ap (λ (as_list : List PlanArm). arms_code p none_open (length c.loop-arm.records.items) (length c.loop-arm.awaits.items) (arms_of as_list made)) (drop_all c.loop-arm.arm-index c.args.arms.now ended) in
    let pending : c.deref-2.result.now ≡ c.loop-arm.pending.items = search rules in
    last_closed c.loop-arm.pending.items c.deref-2.result.now c.loop-arm.code.items c.emit_made.new.code.items (arms_code p none_open (length c.loop-arm.records.items) (length c.loop-arm.awaits.items) (made_arms made)) (arms_code p none_open (length c.loop-arm.records.items) (length c.loop-arm.awaits.items) (arms_of (drop c.loop-arm.arm-index c.args.arms.now) made)) c.close-2.new.code.items (c.args.code.now.items ++ arms_code p none_open (length c.args.records.now.items) (length c.args.awaits.now.items) (arms_of c.args.arms.now made)) pending last c.in_ok-emit_made.ensures.code c.close-2.ensures c.loop-arm.invariant.code

pub emit_arms-returns-in_default-clause-code : goal.emit_arms-returns-in_default-clause-code
emit_arms-returns-in_default-clause-code t c =
    let p = places_of c.args.places.now in
    let made = c.args.made.now in
    let a = c.arm-item.result in
    let body : a.body.items ≡ c.deref.result.now = search rules in
    let none : a.condition ≡ None = search rules in
    let last = ap (arms_code p none_open (length c.loop-arm.records.items) (length c.loop-arm.awaits.items)) (plan_arm_here c.args.arms.now c.loop-arm.arm-index a None c.deref.result.now made c.loop-arm-test.true c.arm-item.is none body) in
    let pending : c.deref-in_default.result.now ≡ c.loop-arm.pending.items = search rules in
    last_closed c.loop-arm.pending.items c.deref-in_default.result.now c.loop-arm.code.items c.emit_plan.new.code.items (block_code p none_open (length c.loop-arm.records.items) (length c.loop-arm.awaits.items) (plan_block c.deref.result.now)) (arms_code p none_open (length c.loop-arm.records.items) (length c.loop-arm.awaits.items) (arms_of (drop c.loop-arm.arm-index c.args.arms.now) made)) c.close.new.code.items (c.args.code.now.items ++ arms_code p none_open (length c.args.records.now.items) (length c.args.awaits.now.items) (arms_of c.args.arms.now made)) pending last c.in_ok-emit_plan.ensures.code c.close.ensures c.loop-arm.invariant.code

pub emit_arms-returns-clause-records : goal.emit_arms-returns-clause-records
emit_arms-returns-clause-records t c =
    let p = places_of c.args.places.now in
    let made = c.args.made.now in
    let ended : length c.args.arms.now ≤ c.loop-arm.arm-index = search rules in
    let last = ap (λ (as_list : List PlanArm). arms_records p none_open (arms_of as_list made)) (drop_all c.loop-arm.arm-index c.args.arms.now ended) in
    last_appended (records_of c.loop-arm.records) (records_of c.emit_made.new.records) (arms_records p none_open (made_arms made)) (arms_records p none_open (arms_of (drop c.loop-arm.arm-index c.args.arms.now) made)) (records_of c.args.records.now ++ arms_records p none_open (arms_of c.args.arms.now made)) last c.in_ok-emit_made.ensures.records c.loop-arm.invariant.records

pub emit_arms-returns-in_default-clause-records : goal.emit_arms-returns-in_default-clause-records
emit_arms-returns-in_default-clause-records t c =
    let p = places_of c.args.places.now in
    let made = c.args.made.now in
    let a = c.arm-item.result in
    let body : a.body.items ≡ c.deref.result.now = search rules in
    let none : a.condition ≡ None = search rules in
    let last = ap (arms_records p none_open) (plan_arm_here c.args.arms.now c.loop-arm.arm-index a None c.deref.result.now made c.loop-arm-test.true c.arm-item.is none body) in
    last_appended (records_of c.loop-arm.records) (records_of c.emit_plan.new.records) (block_records p none_open (plan_block c.deref.result.now)) (arms_records p none_open (arms_of (drop c.loop-arm.arm-index c.args.arms.now) made)) (records_of c.args.records.now ++ arms_records p none_open (arms_of c.args.arms.now made)) last c.in_ok-emit_plan.ensures.records c.loop-arm.invariant.records

pub emit_arms-returns-clause-awaits : goal.emit_arms-returns-clause-awaits
emit_arms-returns-clause-awaits t c =
    let p = places_of c.args.places.now in
    let made = c.args.made.now in
    let ended : length c.args.arms.now ≤ c.loop-arm.arm-index = search rules in
    let last = ap (λ (as_list : List PlanArm). arms_awaits p none_open (arms_of as_list made)) (drop_all c.loop-arm.arm-index c.args.arms.now ended) in
    last_appended c.loop-arm.awaits.items c.emit_made.new.awaits.items (arms_awaits p none_open (made_arms made)) (arms_awaits p none_open (arms_of (drop c.loop-arm.arm-index c.args.arms.now) made)) (c.args.awaits.now.items ++ arms_awaits p none_open (arms_of c.args.arms.now made)) last c.in_ok-emit_made.ensures.awaits c.loop-arm.invariant.awaits

pub emit_arms-returns-in_default-clause-awaits : goal.emit_arms-returns-in_default-clause-awaits
emit_arms-returns-in_default-clause-awaits t c =
    let p = places_of c.args.places.now in
    let made = c.args.made.now in
    let a = c.arm-item.result in
    let body : a.body.items ≡ c.deref.result.now = search rules in
    let none : a.condition ≡ None = search rules in
    let last = ap (arms_awaits p none_open) (plan_arm_here c.args.arms.now c.loop-arm.arm-index a None c.deref.result.now made c.loop-arm-test.true c.arm-item.is none body) in
    last_appended c.loop-arm.awaits.items c.emit_plan.new.awaits.items (block_awaits p none_open (plan_block c.deref.result.now)) (arms_awaits p none_open (arms_of (drop c.loop-arm.arm-index c.args.arms.now) made)) (c.args.awaits.now.items ++ arms_awaits p none_open (arms_of c.args.arms.now made)) last c.in_ok-emit_plan.ensures.awaits c.loop-arm.invariant.awaits
