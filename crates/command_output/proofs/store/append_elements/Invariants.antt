use Rattle.std.proofs.Common.{◌≡◌, ◌++◌, drop, map}
use Rattle.ast.specs.View.{extent}
use Rattle.command_output.specs.Shown.{lines_from}
use Rattle.command_output.proofs.store.append_elements.Given as goal

abbrev pub invariant-loop-place : goal.invariant-loop-place
invariant-loop-place l =
    l.out.items ++ lines_from l.name.letters (map extent l.dimensions) l.place (drop l.place l.values)
    ≡ l.fn.out.items ++ lines_from l.name.letters (map extent l.dimensions) 0 l.values
