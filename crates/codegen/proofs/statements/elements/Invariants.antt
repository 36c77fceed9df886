use Rattle.std.proofs.Common.{◌≡◌, ◌++◌, drop, map}
use Rattle.ast.specs.View.{access as access_of}
use Rattle.codegen.specs.Emitted.{elements_code}
use Rattle.expr_code.specs.PlacesView.{places_of}
use Rattle.codegen.proofs.statements.elements.Given as goal

abbrev pub invariant-loop-target : goal.invariant-loop-target
invariant-loop-target l = l.code.items ++ elements_code (places_of l.places) (map access_of (drop l.target-index l.targets)) ≡ l.fn.code.items ++ elements_code (places_of l.places) (map access_of l.targets)
