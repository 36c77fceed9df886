use Rattle.std.proofs.Common.{◌<◌, ◌++◌, ◌+◌, ◌-◌, arith, length}
use Rattle.activities.specs.Activities.{code_in, frame_at, point_in}
use Rattle.state_lines.specs.States.{held_line, held_lines}
use Rattle.state_lines.proofs.Seen.{held_on, line_on}
use Rattle.state_lines.proofs.states.append_all_held.Goals as goal

pub loop-q-preserved : goal.loop-q-preserved
loop-q-preserved c =
    let code = code_in c.args.activities.now in
    let x = point_in c.args.activities.now in
    let q = c.loop-q.q in
    let n = length c.args.activities.now.held.items in
    let below : q < n = omega (arith, c.loop-q-test.true, c.len-q-end.ensures) in
    line_on c.append_held.new.out.items c.loop-q.out.items (held_line code q (frame_at q x)) (held_lines code x (q + 1) (n - (q + 1))) (held_lines code x q (n - q)) (c.args.out.now.items ++ held_lines code x 0 n) c.in_ok-append_held.ensures
    (held_on code x q n below) c.loop-q.invariant
