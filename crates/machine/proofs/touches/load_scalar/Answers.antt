use Rattle.std.proofs.Common.{◌∙◌, sym}
use Rattle.machine.specs.Gone.{Loads, StridesTo}
use Rattle.machine.proofs.Alone.{load_told}
use Rattle.machine.proofs.Memories.{known_within, some_map}
use Rattle.machine.proofs.touches.load_scalar.Goals as goal

pub returns-in-Some-clause-leads : goal.returns-in-Some-clause-leads
returns-in-Some-clause-leads g c =
    let a = c.args in
    let e = c.load.ensures in
    some_map c.load.result _ _ (λ t k. known_within _ _ (λ cells. Loads cells c.in-Some.cell a.at.top a.slots.now t c.load.new.slots) (λ cells ds. StridesTo a.code.now a.at a.slots.now cells t c.load.new.slots ds)
    e.looks k (λ cells l. load_told a.code.now a.at a.variable c.in-Some.cell t a.slots.now c.load.new.slots cells c.requires.loads (sym c.cell_of.ensures ∙ c.in-Some.is) l)) e.loads
