use Rattle.std.proofs.Common.{inr, subst, ℕ, List, IfOk}
use Rattle.schedules.specs.Schedules.{Schedule}
use Rattle.processors.specs.Calls.{HasTally}
use Rattle.machine.specs.CodeView.{code_of}
use Rattle.machine.specs.State.{AreSizes}
use Rattle.replay.specs.Stepping.{NoCore}
use Rattle.replay.specs.declared.stepped.CoreRefusal.{CoreRefusal}
use Rattle.processors.proofs.running.run.Goals as goal

pub returns-in-Err-Memory-clause-err : goal.returns-in-Err-Memory-clause-err
returns-in-Err-Memory-clause-err g c =
    let sizes : AreSizes c.args.p c.args.s = subst (λ (f : CoreRefusal). NoCore c.args.p c.args.s f) c.in-Err-Memory.field-0-is c.in-Err-Memory.ensures.refused in
    inr (sizes, c.nothing.ensures.recorded (code_of c.args.code.now) c.args.input.now c.args.p c.args.s sizes)

pub returns-clause-tally : goal.returns-clause-tally
returns-clause-tally g c =
    let new = c.in-Ok.ensures.new in
    subst (λ (i : List ℕ). IfOk c.run_call.result (λ r. HasTally (code_of c.args.code.now) i c.args.s r.schedule r.tally.made r.tally.again)) new.input_is
    (subst (λ (x : Schedule). IfOk c.run_call.result (λ r. HasTally (code_of c.args.code.now) c.in-Ok.core.input x.slots r.schedule r.tally.made r.tally.again)) new.schedule c.run_call.ensures.tally)
