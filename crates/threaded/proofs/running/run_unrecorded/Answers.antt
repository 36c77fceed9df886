use Rattle.std.proofs.Common.{Ok, None}
use Rattle.ast.specs.ProgramView.{program as program_of}
use Rattle.machine.specs.CodeView.{code_of}
use Rattle.threaded.proofs.Answered.{cells_fit, comes_to, refused_unrecorded}
use Rattle.threaded.proofs.running.run_unrecorded.Goals as goal

pub ended-requires : goal.ended-requires
ended-requires g c = cells_fit c.args.coded.now.program (code_of c.args.coded.now.code) c.in-Ok.ensures.ok.machine c.in-Ok.answer c.requires.given.0 c.in-Ok.ensures.ok.holds

pub returns-in-Ok : goal.returns-in-Ok
returns-in-Ok g c =
    let x = c.args.coded.now in
    comes_to (program_of x.program) (code_of x.code) c.args.input.now c.args.wants c.in-Ok.answer (Ok None) c.ended.result c.requires.given.0 c.requires.given.1 c.in-Ok.ensures.ok
    (rw c.requires.unwanted tt) c.ended.ensures

pub returns-in-Err : goal.returns-in-Err
returns-in-Err g c =
    let x = c.args.coded.now in
    refused_unrecorded (program_of x.program) (code_of x.code) c.args.input.now c.args.wants c.in-Err.refusal c.unanswered.result c.requires.given.1 c.in-Err.ensures.err c.unanswered.ensures
