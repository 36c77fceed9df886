-- The numbers by which the reasons of serial loops are known.
use Rattle.std.specs.Prelude.{ℕ}
use Rattle.dependence.specs.declared.serial.SerialReason.{SerialReason}
use Rattle.dependence.specs.declared.serial.SerialReason.TheVariants.{NoStep, Reads, SharedVariable}
use Rattle.dependence.specs.declared.serial.SerialReason.TheVariants.{ManySources, Inside, Refused}

abbrev pub number_of : SerialReason → ℕ
number_of NoStep = 1
number_of Reads = 2
number_of SharedVariable = 3
number_of ManySources = 4
number_of Inside = 5
number_of Refused = 6
