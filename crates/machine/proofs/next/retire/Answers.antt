use Rattle.std.proofs.Common.{ap, arith, length}
use Rattle.ast.proofs.Lists.{mapped_none}
use Rattle.machine.specs.CodeView.{code_of, loop_of}
use Rattle.machine.specs.FrameView.{frame_of}
use Rattle.machine.specs.View.{leaving_if}
use Rattle.machine.proofs.Telling.{mapped_some, retire_law}
use Rattle.machine.proofs.next.retire.Goals as goal

pub returns-then-number-loops : goal.returns-then-number-loops
returns-then-number-loops c =
    let k = mapped_some loop_of c.args.code.now.loops.items c.args.number (omega (arith, ap (λ xs. length xs) c.as_slice-loops.ensures.value)) in
    retire_law (code_of c.args.code.now) (frame_of c.args.frame.now) c.args.number k.0 k.1

pub returns-else-number-loops : goal.returns-else-number-loops
returns-else-number-loops c =
    ap (λ o. leaving_if (code_of c.args.code.now) o (frame_of c.args.frame.now)) (mapped_none loop_of c.args.code.now.loops.items c.args.number (omega (arith, ap (λ xs. length xs) c.as_slice-loops.ensures.value)))
