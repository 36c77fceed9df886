use Rattle.std.proofs.Common.{rules, ◌≡◌, ◌+◌, ◌-◌, ◌≤◌, ◌++◌, ◌∷◌, [], length, map, drop, List, OnOk, Some, None, true, refl, sym, ap, subst, ◌∙◌}
use Rattle.std.proofs.lemmas.List.{append-nil, drop_all}
use Rattle.std.proofs.lemmas.Result.{on_ok_weaker}
use Rattle.ast.specs.Meaning.{is_last_stop_of}
use Rattle.ast.specs.Tree.{arms as arms_tree}
use Rattle.ast.specs.declared.tree.Arm.{Arm}
use Rattle.ast.specs.declared.tree.Node.{Node}
use Rattle.ast.specs.View.{arm as arm_of, block_view, node as node_of, ref, term}
use Rattle.ast.proofs.Lists.{part_left}
use Rattle.dependence.specs.Plan.{then_arm}
use Rattle.expr_code.specs.Emitted.{term_code}
use Rattle.expr_code.specs.Places.{Places}
use Rattle.expr_code.specs.PlacesView.{places_of}
use Rattle.machine.specs.declared.code.Await.{Await}
use Rattle.codegen.specs.Blocks.{Ends, code_of_arms, code_of_block, records_in_arms, records_in_block, records_in_node, trip_ended}
use Rattle.codegen.specs.OpenedView.{opens_in}
use Rattle.codegen.specs.Emitted.{arms_code, arms_records, block_code, block_records}
use Rattle.codegen.specs.Plain.{plain_arms, plain_block, plain_node}
use Rattle.codegen.specs.Records.{records_of}
use Rattle.codegen.specs.declared.skips.Pending.{Pending}
use Rattle.codegen.proofs.Emitting.{arm_next, arm_records_next, block_next, body_emitted, count_on, records_next, trips_emitted}
use Rattle.codegen.proofs.Ending.{last_appended, last_closed, nothing_left, stop_code, stop_records, stop_told}
use Rattle.codegen.proofs.NodeParts.{arm_here, goes_on, node_here}
use Rattle.codegen.proofs.Waiting.{block_waits, node_waits}
use Rattle.codegen.proofs.nodes.+nodes.Goals as goal

pub emit_trips-returns-clause-code : goal.emit_trips-returns-clause-code
emit_trips-returns-clause-code t c =
    let opens = opens_in c.args.opened.now in
    let p = places_of c.args.places.now in
    let q = record p { line = c.args.line } in
    let variable = ref c.args.variable.now in
    let range = code_of_block opens p (length c.args.records.now.items) (block_view c.args.range.now) in
    let start : c.len-start.result ≡ length c.args.code.now.items = search rules in
    let ended : OnOk c.end_trip.result (c.end_trip.new.code.items ≡ trip_ended q variable c.len-start.result c.emit_block.new.code.items) =
    subst (λ (l : Places). OnOk c.end_trip.result (c.end_trip.new.code.items ≡ trip_ended l variable c.len-start.result c.emit_block.new.code.items)) c.on.ensures c.end_trip.ensures in
    on_ok_weaker c.end_trip.result (trips_emitted q variable c.args.code.now.items range c.put.new.code.items c.emit_block.new.code.items c.end_trip.new.code.items c.len-start.result start c.in_ok-put.ensures c.in_ok-emit_block.ensures.code) ended

pub emit_body-returns-clause-code : goal.emit_body-returns-clause-code
emit_body-returns-clause-code t c =
    let body = code_of_block (opens_in c.args.opened.now) (places_of c.args.places.now) (length c.args.records.now.items) (block_view c.args.body.now) in
    let start : c.len-start.result ≡ length c.args.code.now.items = search rules in
    on_ok_weaker c.end_body.result (body_emitted c.args.line c.args.code.now.items body c.put.new.code.items c.emit_block.new.code.items c.end_body.new.code.items c.len-start.result start c.in_ok-put.ensures c.in_ok-emit_block.ensures.code) c.end_body.ensures

pub emit_arms-loop-arm-preserved : goal.emit_arms-loop-arm-preserved
emit_arms-loop-arm-preserved t c =
    let opens = opens_in c.args.opened.now in
    let p = places_of c.args.places.now in
    let line = c.arm-item.result.line in
    let body : c.arm-item.result.body.items ≡ c.deref-in-loop-arm.result.now = search rules in
    let b = block_view c.deref-in-loop-arm.result.now in
    let x = term c.in-Some.condition in
    let others = plain_arms (arms_tree (map arm_of (drop (c.loop-arm.arm-index + 1) c.args.arms.now))) in
    let all = plain_arms (arms_tree (map arm_of (drop c.loop-arm.arm-index c.args.arms.now))) in
    let target = c.args.code.now.items ++ code_of_arms opens p (length c.args.records.now.items) (arms_tree (map arm_of c.args.arms.now)) in
    let here : all ≡ then_arm line (Some x) (plain_block b) others = arm_here c.args.arms.now c.loop-arm.arm-index c.arm-item.result (Some c.in-Some.condition) c.deref-in-loop-arm.result.now c.loop-arm-test.true c.arm-item.is c.in-Some.is body in
    let pushed : c.push.new.self.items ≡ c.loop-arm.pending.items ++ record { place = length c.emit_body.new.code.items - 1; line = line } ∷ [] = search rules in
    let emitted : c.emit.new.code.items ≡ c.loop-arm.code.items ++ term_code (record p { line = line }) x = search rules in
    let counted : length c.emit_body.new.records.items ≡ length c.loop-arm.records.items + length (records_in_block opens p b) = count_on c.loop-arm.records c.emit_body.new.records (records_in_block opens p b) c.in_ok-emit_body.ensures.records in
    let waits = ap (λ (ws : List Await). 0 + length ws) (sym (block_waits p opens b)) in
    record {
      code = subst (λ (ss : List Pending). Ends ss (c.emit_body.new.code.items ++ code_of_arms opens p (length c.emit_body.new.records.items) (arms_tree (map arm_of (drop (c.loop-arm.arm-index + 1) c.args.arms.now)))) target) (sym pushed)
          (arm_next p opens line x (plain_block b) others all (length c.loop-arm.records.items) (length c.emit_body.new.records.items) 0 0 c.loop-arm.pending.items c.loop-arm.code.items c.emit.new.code.items c.emit_body.new.code.items target (length c.emit_body.new.code.items - 1) here emitted c.in_ok-emit_body.ensures.code counted waits refl c.loop-arm.invariant.code);
      records = arm_records_next p opens line x (plain_block b) others all (records_of c.loop-arm.records) (records_of c.emit_body.new.records) (records_of c.args.records.now ++ records_in_arms opens p (arms_tree (map arm_of c.args.arms.now))) here c.in_ok-emit_body.ensures.records c.loop-arm.invariant.records;
    }

pub emit_block-loop-i-preserved : goal.emit_block-loop-i-preserved
emit_block-loop-i-preserved t c =
    let opens = opens_in c.args.opened.now in
    let p = places_of c.args.places.now in
    let n = node_of c.index-nodes-i.result in
    let b = plain_block (block_view (drop (c.loop-i.i + 1) c.args.nodes.now)) in
    let all = plain_block (block_view (drop c.loop-i.i c.args.nodes.now)) in
    let here = node_here c.args.nodes.now c.loop-i.i c.index-nodes-i.result c.loop-i-test.true c.index-nodes-i.is in
    let goes = goes_on c.args.nodes.now c.loop-i.i c.index-nodes-i.result c.loop-i-test.true c.index-nodes-i.is (sym c.if-is_last_stop.false ∙ c.is_last_stop.ensures) in
    let counted : length c.emit_node.new.records.items ≡ length c.loop-i.records.items + length (records_in_node opens p n) = count_on c.loop-i.records c.emit_node.new.records (records_in_node opens p n) c.in_ok-emit_node.ensures.records in
    let waits = ap (λ (ws : List Await). 0 + length ws) (sym (node_waits p opens n)) in
    record {
      code = block_next p opens (plain_node n) b all (length c.loop-i.records.items) (length c.emit_node.new.records.items) 0 0 c.loop-i.code.items c.emit_node.new.code.items (c.args.code.now.items ++ code_of_block opens p (length c.args.records.now.items) (block_view c.args.nodes.now)) here goes c.in_ok-emit_node.ensures.code counted waits c.loop-i.invariant.code;
      records = records_next p opens (plain_node n) b all (records_of c.loop-i.records) (records_of c.emit_node.new.records) (records_of c.args.records.now ++ records_in_block opens p (block_view c.args.nodes.now)) here goes c.in_ok-emit_node.ensures.records c.loop-i.invariant.records;
    }

pub emit_block-returns-then-is_last_stop-clause-code : goal.emit_block-returns-then-is_last_stop-clause-code
emit_block-returns-then-is_last_stop-clause-code t c =
    let opens = opens_in c.args.opened.now in
    let p = places_of c.args.places.now in
    let b = block_view (drop c.loop-i.i c.args.nodes.now) in
    let stops : true ≡ is_last_stop_of b = sym c.if-is_last_stop.true ∙ c.is_last_stop.ensures ∙ ap (λ (ms : List Node). is_last_stop_of (block_view ms)) (part_left c.args.nodes.now c.loop-i.i) in
    nothing_left c.loop-i.code.items (block_code p opens (length c.loop-i.records.items) 0 (plain_block b)) (c.args.code.now.items ++ code_of_block opens p (length c.args.records.now.items) (block_view c.args.nodes.now)) (stop_code p opens (plain_block b) (length c.loop-i.records.items) 0 (stop_told b stops)) c.loop-i.invariant.code

pub emit_block-returns-clause-code : goal.emit_block-returns-clause-code
emit_block-returns-clause-code t c =
    let opens = opens_in c.args.opened.now in
    let p = places_of c.args.places.now in
    let b = block_view (drop c.loop-i.i c.args.nodes.now) in
    let ended : length c.args.nodes.now ≤ c.loop-i.i = search rules in
    nothing_left c.loop-i.code.items (block_code p opens (length c.loop-i.records.items) 0 (plain_block b)) (c.args.code.now.items ++ code_of_block opens p (length c.args.records.now.items) (block_view c.args.nodes.now)) (ap (λ (ms : List Node). block_code p opens (length c.loop-i.records.items) 0 (plain_block (block_view ms))) (drop_all c.loop-i.i c.args.nodes.now ended)) c.loop-i.invariant.code

pub emit_block-returns-then-is_last_stop-clause-records : goal.emit_block-returns-then-is_last_stop-clause-records
emit_block-returns-then-is_last_stop-clause-records t c =
    let opens = opens_in c.args.opened.now in
    let p = places_of c.args.places.now in
    let b = block_view (drop c.loop-i.i c.args.nodes.now) in
    let stops : true ≡ is_last_stop_of b = sym c.if-is_last_stop.true ∙ c.is_last_stop.ensures ∙ ap (λ (ms : List Node). is_last_stop_of (block_view ms)) (part_left c.args.nodes.now c.loop-i.i) in
    nothing_left (records_of c.loop-i.records) (block_records p opens (plain_block b)) (records_of c.args.records.now ++ records_in_block opens p (block_view c.args.nodes.now)) (stop_records p opens (plain_block b) (stop_told b stops)) c.loop-i.invariant.records

pub emit_block-returns-clause-records : goal.emit_block-returns-clause-records
emit_block-returns-clause-records t c =
    let opens = opens_in c.args.opened.now in
    let p = places_of c.args.places.now in
    let b = block_view (drop c.loop-i.i c.args.nodes.now) in
    let ended : length c.args.nodes.now ≤ c.loop-i.i = search rules in
    nothing_left (records_of c.loop-i.records) (block_records p opens (plain_block b)) (records_of c.args.records.now ++ records_in_block opens p (block_view c.args.nodes.now)) (ap (λ (ms : List Node). block_records p opens (plain_block (block_view ms))) (drop_all c.loop-i.i c.args.nodes.now ended)) c.loop-i.invariant.records

pub emit_arms-returns-clause-code : goal.emit_arms-returns-clause-code
emit_arms-returns-clause-code t c =
    let opens = opens_in c.args.opened.now in
    let p = places_of c.args.places.now in
    let ended : length c.args.arms.now ≤ c.loop-arm.arm-index = search rules in
    let last = ap (λ (as_list : List Arm). arms_code p opens (length c.loop-arm.records.items) 0 (plain_arms (arms_tree (map arm_of as_list)))) (drop_all c.loop-arm.arm-index c.args.arms.now ended) in
    let pending : c.deref-2.result.now ≡ c.loop-arm.pending.items = search rules in
    last_closed c.loop-arm.pending.items c.deref-2.result.now c.loop-arm.code.items c.loop-arm.code.items [] (arms_code p opens (length c.loop-arm.records.items) 0 (plain_arms (arms_tree (map arm_of (drop c.loop-arm.arm-index c.args.arms.now))))) c.close-2.new.code.items (c.args.code.now.items ++ code_of_arms opens p (length c.args.records.now.items) (arms_tree (map arm_of c.args.arms.now))) pending last (sym (append-nil c.loop-arm.code.items)) c.close-2.ensures c.loop-arm.invariant.code

pub emit_arms-returns-clause-records : goal.emit_arms-returns-clause-records
emit_arms-returns-clause-records t c =
    let opens = opens_in c.args.opened.now in
    let p = places_of c.args.places.now in
    let ended : length c.args.arms.now ≤ c.loop-arm.arm-index = search rules in
    nothing_left (records_of c.loop-arm.records) (arms_records p opens (plain_arms (arms_tree (map arm_of (drop c.loop-arm.arm-index c.args.arms.now))))) (records_of c.args.records.now ++ records_in_arms opens p (arms_tree (map arm_of c.args.arms.now))) (ap (λ (as_list : List Arm). arms_records p opens (plain_arms (arms_tree (map arm_of as_list)))) (drop_all c.loop-arm.arm-index c.args.arms.now ended)) c.loop-arm.invariant.records

pub emit_arms-returns-in_default-clause-code : goal.emit_arms-returns-in_default-clause-code
emit_arms-returns-in_default-clause-code t c =
    let opens = opens_in c.args.opened.now in
    let p = places_of c.args.places.now in
    let a = c.arm-item.result in
    let body : a.body.items ≡ c.deref.result.now = search rules in
    let none : a.condition ≡ None = search rules in
    let last = ap (arms_code p opens (length c.loop-arm.records.items) 0) (arm_here c.args.arms.now c.loop-arm.arm-index a None c.deref.result.now c.loop-arm-test.true c.arm-item.is none body) in
    let pending : c.deref-in_default.result.now ≡ c.loop-arm.pending.items = search rules in
    last_closed c.loop-arm.pending.items c.deref-in_default.result.now c.loop-arm.code.items c.emit_block.new.code.items (block_code p opens (length c.loop-arm.records.items) 0 (plain_block (block_view c.deref.result.now))) (arms_code p opens (length c.loop-arm.records.items) 0 (plain_arms (arms_tree (map arm_of (drop c.loop-arm.arm-index c.args.arms.now))))) c.close.new.code.items (c.args.code.now.items ++ code_of_arms opens p (length c.args.records.now.items) (arms_tree (map arm_of c.args.arms.now))) pending last c.in_ok-emit_block.ensures.code c.close.ensures c.loop-arm.invariant.code

pub emit_arms-returns-in_default-clause-records : goal.emit_arms-returns-in_default-clause-records
emit_arms-returns-in_default-clause-records t c =
    let opens = opens_in c.args.opened.now in
    let p = places_of c.args.places.now in
    let a = c.arm-item.result in
    let body : a.body.items ≡ c.deref.result.now = search rules in
    let none : a.condition ≡ None = search rules in
    let last = ap (arms_records p opens) (arm_here c.args.arms.now c.loop-arm.arm-index a None c.deref.result.now c.loop-arm-test.true c.arm-item.is none body) in
    last_appended (records_of c.loop-arm.records) (records_of c.emit_block.new.records) (block_records p opens (plain_block (block_view c.deref.result.now))) (arms_records p opens (plain_arms (arms_tree (map arm_of (drop c.loop-arm.arm-index c.args.arms.now))))) (records_of c.args.records.now ++ records_in_arms opens p (arms_tree (map arm_of c.args.arms.now))) last c.in_ok-emit_block.ensures.records c.loop-arm.invariant.records
