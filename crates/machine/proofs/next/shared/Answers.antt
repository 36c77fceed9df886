use Rattle.machine.specs.CodeView.{code_of}
use Rattle.machine.proofs.next.shared.Goals as goal

pub returns-in-TakeValue : goal.returns-in-TakeValue
returns-in-TakeValue c = rw c.in-TakeValue.is (c.take_value.ensures (code_of c.args.code.now))

pub returns-in-Advance : goal.returns-in-Advance
returns-in-Advance c = rw c.in-Advance.is (c.advance.ensures (code_of c.args.code.now))
