use Rattle.std.proofs.Common.{arith}
use Rattle.std.proofs.lemmas.List.{length-drop}
use Rattle.machine.proofs.Naming.{element_room}
use Rattle.machine.proofs.next.element_load.Goals as goal

pub load-requires : goal.load-requires
load-requires c =
    let f = c.args.frame.now in
    let e = c.in-Some.ensures {u = tt} in
    let w = rw c.as_slice.ensures at e.within in
    record { pushes = ((c.requires.place, omega (arith, w, length-drop f.top f.slots.items)), element_room f.top f.slots.items w) }
