use Rattle.std.proofs.Common.{◌≡◌, [], drop, map}
use Rattle.machine.specs.CodeView.{loop_of}
use Rattle.engines.specs.CodeLines.{privates_at}
use Rattle.engines.proofs.code_lines.privates_at.Given as goal

abbrev pub invariant-loop-one : goal.invariant-loop-one
invariant-loop-one l = privates_at l.found (map loop_of (drop l.one-index l.loops)) l.place ≡ privates_at [] (map loop_of l.loops) l.place
