use Rattle.std.proofs.Common.{◌≡◌, ◌∙◌, ℤ, Ok, sym, ap, rules, w64, to_z, of_z}
use Rattle.std.specs.Prelude.{get_or, pos}
use Rattle.machine.specs.FrameView.{stack_of}
use Rattle.machine.specs.Gone.{StridesTo}
use Rattle.machine.specs.Local.{answered}
use Rattle.machine.proofs.Alone.{load_element_alone}
use Rattle.machine.proofs.Memories.{known_within}
use Rattle.machine.proofs.touches.load_element.Goals as goal

pub returns-clause-leads : goal.returns-clause-leads
returns-clause-leads g c =
    let a = c.args in
    let e = c.in_ok-value.ensures {u = tt} in
    let v : ℤ = c.in_ok-value.value in
    let m = c.in_ok-cell.cell in
    let r : to_z w64 (of_z w64 c.in_ok-place.place) ≡ c.in_ok-place.place = search rules in
    let s : to_z w64 (of_z w64 v) ≡ v = search rules in
    let d : answered (Ok v) 1 (stack_of a.at.top a.slots.now) ≡ Ok (stack_of c.replace.result c.replace.new.slots) = rw s at c.replace.ensures in
    known_within _ _ (λ cells. v ≡ get_or cells m (pos 0)) (λ cells ds. StridesTo a.code.now a.at a.slots.now cells c.replace.result c.replace.new.slots ds) e.looks e.value
    (λ cells i. load_element_alone a.code.now a.at a.variable m c.replace.result c.in_ok-place.place a.slots.now c.replace.new.slots cells c.requires.loads
    (rw r at (sym c.cell_of.ensures ∙ c.in_ok-cell.was {u = tt})) (sym c.one.ensures.operand ∙ c.in_ok-place.was {u = tt}) (ap (λ (x : ℤ). answered (Ok x) 1 (stack_of a.at.top a.slots.now)) (sym i) ∙ d))
