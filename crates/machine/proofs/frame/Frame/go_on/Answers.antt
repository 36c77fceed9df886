use Rattle.std.proofs.Common.{arith}
use Rattle.machine.proofs.Stacks.{popped_within}
use Rattle.machine.proofs.frame.Frame.go_on.Goals as goal

pub overflow_add-self : goal.overflow_add-self
overflow_add-self c =
    let f = c.args.self.now in
    omega (arith, popped_within f.top c.args.popped f.slots.items c.if-popped-gt0.true c.requires.popped, c.len-slots.ensures.value, c.len-slots.type_inv)
