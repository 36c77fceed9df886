-- The numbers and the names of the faults: the names are the profile's.
use Rattle.std.specs.Prelude.{ℕ, List, codes}
use Rattle.ast.specs.declared.fault.Fault.{Fault}
use Rattle.ast.specs.declared.fault.Fault.TheVariants.{Overflow, Index, ZeroDivisor}
use Rattle.ast.specs.declared.fault.Fault.TheVariants.{ZeroStep, EndOfInput, BadInput}

-- the number of a fault
abbrev pub fault_number : Fault → ℕ
fault_number Overflow = 1
fault_number Index = 2
fault_number ZeroDivisor = 3
fault_number ZeroStep = 4
fault_number EndOfInput = 5
fault_number BadInput = 6

-- the name of a fault
abbrev pub fault_name : Fault → List ℕ
fault_name Overflow = codes "OVERFLOW"
fault_name Index = codes "INDEX"
fault_name ZeroDivisor = codes "ZERO DIVISOR"
fault_name ZeroStep = codes "ZERO STEP"
fault_name EndOfInput = codes "END OF INPUT"
fault_name BadInput = codes "BAD INPUT"
