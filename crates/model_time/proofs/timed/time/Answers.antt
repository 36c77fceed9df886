use Rattle.std.proofs.Common.{◌≡◌, ◌∙◌, ap, sym, length}
use Rattle.std.proofs.lemmas.List.{length-map}
use Rattle.machine.specs.CodeView.{code_of, loop_of}
use Rattle.unrecorded.specs.View.{point_at}
use Rattle.model_time.specs.Units.{no_figures_of}
use Rattle.model_time.proofs.Recording.{is_wanted}
use Rattle.model_time.proofs.Timing.{answers_of, timed}
use Rattle.model_time.proofs.timed.time.Goals as goal

pub returns-clause-ok : goal.returns-clause-ok
returns-clause-ok c =
    let loops : length (code_of c.args.code.now).loops ≡ length c.args.code.now.loops.items = length-map c.args.code.now.loops.items loop_of in
    timed c.in_ok-run.run' c.units.new.run (code_of c.args.code.now) c.args.input.now c.args.pace c.schedule_at_first-kept.result c.in_ok-totals.totals.program c.in_ok-totals.totals.loops.items
    (record { answer = c.in_ok-answer.answer; program = c.units.new.totals.program; loops = c.units.new.totals.loops; schedule = c.units.new.kept })
    c.in_ok-run.ensures.new (is_wanted c.args.pace.schedule c.args.pace.processors c.args.pace.slots c.schedule_at_first-kept.result c.schedule_at_first-kept.ensures.new) c.in_ok-totals.ensures.program (c.in_ok-totals.ensures.loops ∙ ap no_figures_of (sym loops))
    c.in_ok-units.ensures.units c.in_ok-units.ensures.records c.in_ok-units.ensures.left c.in_ok-answer.ensures.reached
    (answers_of c.units.new.run.code (point_at c.units.new.run).machine c.in_ok-answer.answer c.in_ok-answer.ensures.some c.in_ok-answer.ensures.none)
