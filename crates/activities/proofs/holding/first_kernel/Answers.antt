use Rattle.std.proofs.Common.{◌≡◌, ◌∙◌, ◌+◌, [], sym, ap, subst}
use Rattle.ec_kernel.specs.View.{NoWaiter, View, advanced, new_kernel, parked}
use Rattle.activities.proofs.Beginning.{no_waiters}
use Rattle.activities.proofs.holding.first_kernel.Goals as goal

pub reset-requires : goal.reset-requires
reset-requires c =
    let emptied : c.take_slots.new.kernel ≡ record (new_kernel (1 + c.args.slots) 65) { free = [] } = c.take_slots.ensures.kernel ∙ ap (λ (v : View). record v { free = [] }) c.in_ok-kernel.ensures.kernel in
    let readied : c.advance.new.self ≡ advanced (parked (record (new_kernel (1 + c.args.slots) 65) { free = [] }) 0 1 0) 0 =
    c.advance.ensures.kernel ∙ ap (λ (v : View). advanced v 0) (c.park.ensures.kernel ∙ ap (λ (v : View). parked v 0 1 0) emptied) in
    subst (λ (v : View). NoWaiter v.waiters) (sym readied) (no_waiters 65)
