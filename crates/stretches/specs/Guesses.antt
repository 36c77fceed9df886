-- What a memory of guesses knows of the cells.
use Rattle.std.specs.Prelude.{List, take}
use Rattle.machine.specs.Memory.{Seen}
use Rattle.stretches.specs.Notes.{all_hold, cells_by}
use Rattle.stretches.specs.declared.guesses.Guesses.{Guesses}
use Rattle.stretches.specs.declared.note.Note.{Note}

-- the notes that count
abbrev pub notes_of : Guesses → List Note
notes_of g = take g.made g.notes.items

-- the cells may be those of which all notes hold, and they are what the notes make of them
abbrev pub seen_by : List Note → Seen
seen_by notes = record { agrees = all_hold notes; now = cells_by notes }
