use Rattle.machine.specs.CodeView.{code_of}
use Rattle.machine.specs.FrameView.{frame_of}
use Rattle.machine.proofs.Telling.{by_own}
use Rattle.machine.proofs.next.by_act.Goals as goal

pub returns-in-None : goal.returns-in-None
returns-in-None c =
    by_own (code_of c.args.code.now) c.args.act.now c.args.line (frame_of c.args.frame.now) c.local.result (rw c.in-None.is at c.shared.ensures) (c.local.ensures (code_of c.args.code.now) c.args.line)
