use Rattle.std.proofs.Common.{inr, subst}
use Rattle.machine.specs.CodeView.{code_of}
use Rattle.machine.specs.State.{AreSizes}
use Rattle.replay.specs.Stepping.{NoCore}
use Rattle.replay.specs.declared.stepped.CoreRefusal.{CoreRefusal}
use Rattle.processors.proofs.Shown.{if_err}
use Rattle.processors.proofs.running.run_onto.Goals as goal

pub returns-in-Err-Memory-clause-refused : goal.returns-in-Err-Memory-clause-refused
returns-in-Err-Memory-clause-refused g c =
    let sizes : AreSizes c.args.p c.args.s = subst (λ (f : CoreRefusal). NoCore c.args.p c.args.s f) c.in-Err-Memory.field-0-is c.in-Err-Memory.ensures.refused in
    if_err _ _ _ c.unshown-in-Err-Memory.ensures.came (inr (sizes, c.nothing.ensures.unrecorded (code_of c.args.code.now) c.args.input.now c.args.p c.args.s sizes))
