use Rattle.std.proofs.Common.{◌≡◌, ◌∙◌, ◌<◌, ◌+◌, ℤ, sym, length, rules, w64, to_z, of_z}
use Rattle.std.specs.Prelude.{set}
use Rattle.machine.specs.Gone.{StridesTo}
use Rattle.machine.specs.Memory.{Within}
use Rattle.machine.proofs.Alone.{store_element_alone}
use Rattle.machine.proofs.Memories.{within_map}
use Rattle.machine.proofs.touches.store_element.Goals as goal

pub returns-clause-leads : goal.returns-clause-leads
returns-clause-leads g c =
    let a = c.args in
    let v : ℤ = c.in_ok-value.value in
    let z : ℤ = c.in_ok-value.place in
    let m = c.in_ok-cell.cell in
    let r : to_z w64 (of_z w64 z) ≡ z = search rules in
    let s : to_z w64 (of_z w64 v) ≡ v = search rules in
    let w : Within (g.M.Memory.seen a.memory.now) (g.M.Memory.seen c.put.new.self) (λ cells ds. (m < length cells) × (ds ≡ set cells m v)) = rw (c.if-not-put.false, s) at c.put.ensures in
    within_map _ _ (λ cells ds. (m < length cells) × (ds ≡ set cells m v)) (λ cells ds. StridesTo a.code.now a.at a.slots.now cells (a.at.top + 2) a.slots.now ds) w
    (λ cells ds p. rw p.1 (store_element_alone a.code.now a.at a.variable m v z a.slots.now cells p.0 c.requires.stores
    (rw r at (sym c.cell_of.ensures ∙ c.in_ok-cell.was {u = tt})) (sym c.two.ensures.operands ∙ c.in_ok-value.was {u = tt}) (c.in_ok-value.ensures {u = tt}).within))
