use Rattle.std.proofs.Common.{sym, subst}
use Rattle.machine.specs.CodeView.{code_of}
use Rattle.machine.specs.FrameView.{frame_of}
use Rattle.machine.specs.Next.{Tells}
use Rattle.machine.specs.View.{act_view}
use Rattle.machine.specs.declared.instr.Act.{Act}
use Rattle.machine.proofs.next.by_counts.Goals as goal

pub returns-in-Advance : goal.returns-in-Advance
returns-in-Advance c =
    let code = code_of c.args.code.now in
    let f = frame_of c.args.frame.now in
    subst (λ (a : Act). Tells code f (act_view code a c.args.line f) c.advance.result) (sym c.in-Advance.is) (c.advance.ensures code)
