use Rattle.std.proofs.Common.{ℕ, [], length, subst}
use Rattle.std.specs.Io.KnownBytes.{Appends}
use Rattle.activities.specs.Activities.{code_in, point_in}
use Rattle.state_lines.specs.States.{first_block}
use Rattle.states.specs.Followed.{AreShown, Falls, Halts}
use Rattle.states.proofs.Showing.{halts_behind, halts_first, if_err, on_ok, shown_behind}
use Rattle.states.proofs.following.show.Goals as goal

pub returns-in-Err-clause-halted : goal.returns-in-Err-clause-halted
returns-in-Err-clause-halted g c =
    let a = c.args.activities.now in
    let x = c.args.schedule.now in
    let o = g.W.Write.contents c.args.out.now in
    let n = g.W.Write.contents c.show_first.new.out in
    halts_first (first_block (code_in a) x.processors (point_in a)) c.in-Err.halt x a o n
    (subst (λ (p : ℕ). Falls o n (first_block (code_in a) p (point_in a)) c.in-Err.halt) c.requires.of.processors c.in-Err.ensures.err)

pub returns-clause-shown : goal.returns-clause-shown
returns-clause-shown g c =
    let a = c.args.activities.now in
    let x = c.args.schedule.now in
    let o = g.W.Write.contents c.args.out.now in
    let m = g.W.Write.contents c.show_first.new.out in
    let n = g.W.Write.contents c.show_entries.new.out in
    let b = c.show_entries.new.activities in
    let first = first_block (code_in a) x.processors (point_in a) in
    let grown : Appends o m first = subst (λ (p : ℕ). Appends o m (first_block (code_in a) p (point_in a))) c.requires.of.processors c.in_default.ensures.ok in
    on_ok c.show_entries.result (AreShown [] x a b m n) (AreShown first x a b o n) (λ h. shown_behind first x a b o m n grown h) c.show_entries.ensures.shown

pub returns-clause-halted : goal.returns-clause-halted
returns-clause-halted g c =
    let a = c.args.activities.now in
    let x = c.args.schedule.now in
    let o = g.W.Write.contents c.args.out.now in
    let m = g.W.Write.contents c.show_first.new.out in
    let n = g.W.Write.contents c.show_entries.new.out in
    let first = first_block (code_in a) x.processors (point_in a) in
    let grown : Appends o m first = subst (λ (p : ℕ). Appends o m (first_block (code_in a) p (point_in a))) c.requires.of.processors c.in_default.ensures.ok in
    if_err c.show_entries.result (Halts [] x a m n) (Halts first x a o n) (λ f h. halts_behind first f x a o m n grown h) c.show_entries.ensures.halted
