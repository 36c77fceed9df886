use Rattle.std.proofs.Common.{◌∙◌, sym}
use Rattle.machine.specs.Gone.{Stores, StridesTo}
use Rattle.machine.proofs.Alone.{store_told}
use Rattle.machine.proofs.Memories.{some_map, within_map}
use Rattle.machine.proofs.touches.store_scalar.Goals as goal

pub returns-in-Some-clause-leads : goal.returns-in-Some-clause-leads
returns-in-Some-clause-leads g c =
    let a = c.args in
    some_map c.store.result _ _ (λ t w. within_map _ _ (λ cells ds. Stores c.in-Some.cell a.at.top a.slots.now cells t ds) (λ cells ds. StridesTo a.code.now a.at a.slots.now cells t a.slots.now ds) w
    (λ cells ds s. store_told a.code.now a.at a.variable c.in-Some.cell t a.slots.now cells ds c.requires.stores (sym c.cell_of.ensures ∙ c.in-Some.is) s)) c.store.ensures.stores
