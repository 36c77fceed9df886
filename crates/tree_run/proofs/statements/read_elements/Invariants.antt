use Rattle.std.proofs.Common.{◌≡◌, map, drop}
use Rattle.ast.specs.Meaning.{read_elements}
use Rattle.ast.specs.View.{access as access_of}
use Rattle.ast.specs.declared.fault.End.TheVariants.{Done}
use Rattle.tree_run.specs.Placed.{PlacedAccesses}
use Rattle.tree_run.specs.Runs.{left, run_of, symbols_of}
use Rattle.tree_run.proofs.statements.read_elements.Given as goal

abbrev pub invariant-loop-element : goal.invariant-loop-element
invariant-loop-element l = record {
  symbols : symbols_of l.machine ≡ symbols_of l.fn.machine;
  placed : PlacedAccesses (symbols_of l.machine) (map access_of (drop l.element-index l.elements));
  on : read_elements (symbols_of l.machine) l.line (map access_of (drop l.element-index l.elements)) (left l.machine.input) (run_of l.machine Done) ≡ read_elements (symbols_of l.fn.machine) l.line (map access_of l.elements) (left l.fn.machine.input) (run_of l.fn.machine Done);
}
