-- Where a stretch leads.
use Rattle.std.specs.Prelude.{◌≡◌, ℕ, ℤ, true, List, Some}
use Rattle.machine.specs.Code.{Code}
use Rattle.machine.specs.Frame.{Frame}
use Rattle.machine.specs.StoreView.{store_of}
use Rattle.machine.specs.Strides.{Held, Passed, strides_past}
use Rattle.stretches.specs.Notes.{all_hold, cells_by}
use Rattle.stretches.specs.declared.note.Note.{Note}

-- a frame on cells of the code
abbrev pub held_on : Code → Frame → List ℤ → Held
held_on code f cells = record { frame = f; store = store_of code.variables cells }

-- so many steps, past such awaits, lead from one frame on cells to another on others
abbrev pub Leads : Passed → Code → ℕ → Frame → List ℤ → Frame → List ℤ → Type 0
Leads ok code n f cells g ds =
    strides_past ok code n (held_on code f cells) ≡ Some (held_on code g ds)

-- on all cells of which the notes hold, so many steps lead from one frame to the other, and to what
-- the notes make of the cells
abbrev pub LeadsBy : Passed → Code → ℕ → Frame → Frame → List Note → Type 0
LeadsBy ok code n f g notes =
    (cells : List ℤ) → all_hold notes cells ≡ true
    → Leads ok code n f cells g (cells_by notes cells)
