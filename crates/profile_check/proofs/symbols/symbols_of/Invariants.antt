use Rattle.std.proofs.Common.{◌≡◌, map, take, true}
use Rattle.std.specs.List.{list_all}
use Rattle.ast.specs.View as view
use Rattle.profile_check.specs.Declarations as spec
use Rattle.profile_check.specs.DeclarationsView.{declared}
use Rattle.profile_check.specs.Fitting.{symbol_fits}
use Rattle.profile_check.proofs.symbols.symbols_of.Given as goal

abbrev pub invariant-loop-name : goal.invariant-loop-name
invariant-loop-name l =
    (map view.symbol l.symbols.items ≡ map (spec.symbol_of (declared l.declarations)) (map view.letters (take l.name-index l.names)))
    × (list_all symbol_fits (map view.symbol l.symbols.items) ≡ true)
