use Rattle.std.proofs.Common.{subst}
use Rattle.machine.specs.CodeView.{code_of}
use Rattle.machine.specs.FrameView.{frame_of}
use Rattle.machine.specs.Local.{going_on, without}
use Rattle.machine.specs.Next.{Tells}
use Rattle.machine.specs.View.{view}
use Rattle.machine.specs.declared.next.Next.{Next}
use Rattle.activities.proofs.Opening.{opened_indices}
use Rattle.activities.proofs.sharing.may_open.Goals as goal

pub returns-in-Opens-clause-indices : goal.returns-in-Opens-clause-indices
returns-in-Opens-clause-indices c l e =
    let code = code_of c.args.code.now in
    let f = frame_of c.args.frame.now in
    let t = subst (λ (n : Next). Tells code f (view code f) n) e c.requires.told in
    opened_indices code f (going_on (without 2 f.operands) f) l c.operand-first.result c.operand-last.result t.0 c.operand-last.ensures.value c.operand-first.ensures.value c.operand-first.ensures.fits c.operand-last.ensures.fits
