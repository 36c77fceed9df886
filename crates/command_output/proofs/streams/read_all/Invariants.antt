use Rattle.std.proofs.Common.{◌-◌, ◌^◌, length}
use Rattle.std.specs.Io.KnownBytes.{Consumes}
use Rattle.command_output.proofs.streams.read_all.Given as goal

abbrev pub invariant-loop-bytes : goal.invariant-loop-bytes
invariant-loop-bytes g l = Consumes (g.R.Read.remaining l.fn.reader) (g.R.Read.remaining l.reader) l.bytes.items

abbrev pub decreases-loop-bytes : goal.decreases-loop-bytes
decreases-loop-bytes g l = 2 ^ 64 - length l.bytes.items
