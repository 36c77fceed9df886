use Rattle.std.proofs.Common.{◌≡◌, ◌++◌, ◌-◌, Bool, length, subst}
use Rattle.std.specs.Prelude.{OnOk, is_some}
use Rattle.activities.specs.Activities.{code_in, point_in}
use Rattle.state_lines.specs.States.{ended_line, event_lines, held_lines, main_line, open_line, parked_lines}
use Rattle.state_lines.proofs.Seen.{appended, appended_both}
use Rattle.state_lines.proofs.states.append_state.Goals as goal

pub returns : goal.returns
returns c =
    let code = code_in c.args.activities.now in
    let x = point_in c.args.activities.now in
    let m = x.machine in
    let p = length c.args.activities.now.held.items in
    let parked = parked_lines code m m.retired (m.ticket - m.retired) in
    let ended = ended_line (is_some m.ended) in
    let r = c.append_ended.result in
    let last = c.append_ended.new.out.items in
    let first = c.args.out.now.items in
    let two = appended_both c.append_events.new.out.items c.append_open.new.out.items first (open_line m) (event_lines m) c.in_ok-append_events.ensures c.in_ok-append_open.ensures in
    let three = appended_both c.append_all_held.new.out.items c.append_events.new.out.items first (open_line m ++ event_lines m) (held_lines code x 0 p) c.in_ok-append_all_held.ensures two in
    let four = appended_both c.append_main.new.out.items c.append_all_held.new.out.items first ((open_line m ++ event_lines m) ++ held_lines code x 0 p) (main_line code m) c.in_ok-append_main.ensures three in
    let five = appended_both c.append_iterations.new.out.items c.append_main.new.out.items first (((open_line m ++ event_lines m) ++ held_lines code x 0 p) ++ main_line code m) parked c.in_ok-append_iterations.ensures four in
    appended r last c.append_iterations.new.out.items first ((((open_line m ++ event_lines m) ++ held_lines code x 0 p) ++ main_line code m) ++ parked) ended
    (subst (λ (b : Bool). OnOk r (last ≡ c.append_iterations.new.out.items ++ ended_line b)) c.is_some.ensures c.append_ended.ensures) five
