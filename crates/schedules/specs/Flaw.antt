-- The numbers by which the refusals of schedules are known.
use Rattle.std.specs.Prelude.{ℕ}
use Rattle.schedules.specs.declared.flaw.Flaw.{Flaw}
use Rattle.schedules.specs.declared.flaw.Flaw.TheVariants.{Header, Entry, Processor}
use Rattle.schedules.specs.declared.flaw.Flaw.TheVariants.{Impossible, Unended, BehindEnd}

abbrev pub number_of : Flaw → ℕ
number_of Header = 51
number_of Entry = 52
number_of Processor = 53
number_of Impossible = 54
number_of Unended = 55
number_of BehindEnd = 56
