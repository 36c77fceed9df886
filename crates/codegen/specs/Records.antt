-- The records that code prints.
use Rattle.std.specs.Prelude.{List, Vec, map}
use Rattle.std.specs.Global.{Global}
use Rattle.machine.specs.Code.{Part}
use Rattle.machine.specs.CodeView.{part}
use Rattle.machine.specs.declared.code.Piece.{Piece}

-- the parts of a record
abbrev pub pieces_of : Vec Piece Global → List Part
pieces_of ps = map part ps.items

-- those of all records
abbrev pub records_of : Vec (Vec Piece Global) Global → List (List Part)
records_of rs = map (λ r. pieces_of r) rs.items
