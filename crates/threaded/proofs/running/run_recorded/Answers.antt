use Rattle.ast.specs.ProgramView.{program as program_of}
use Rattle.machine.specs.CodeView.{code_of}
use Rattle.threaded.proofs.Answered.{cells_fit, comes_recorded, refused_recorded}
use Rattle.threaded.proofs.running.run_recorded.Goals as goal

pub ended-requires : goal.ended-requires
ended-requires g c = cells_fit c.args.coded.now.program (code_of c.args.coded.now.code) c.in-Ok.ensures.ok.replay.point.machine c.in-Ok.field-0.answer c.requires.given.0 c.in-Ok.ensures.ok.replay.is

pub returns-in-Ok : goal.returns-in-Ok
returns-in-Ok g c =
    let x = c.args.coded.now in
    let report = c.in-Ok.field-0 in
    comes_recorded (program_of x.program) (code_of x.code) c.args.input.now c.args.wants report.answer report.schedule c.wanted_text-text.result c.ended.result c.requires.given.0 c.requires.given.1 c.in-Ok.ensures.ok
    c.wanted_text-text.ensures c.ended.ensures

pub returns-in-Err : goal.returns-in-Err
returns-in-Err g c =
    let x = c.args.coded.now in
    refused_recorded (program_of x.program) (code_of x.code) c.args.input.now c.args.wants c.in-Err.refusal c.unanswered.result c.requires.given.1 c.in-Err.ensures.err c.unanswered.ensures
