-- What the values of the run's types stand for.
use Rattle.std.specs.Prelude.{List, map}
use Rattle.ast.specs.Meaning.{LookUp, looked_up}
use Rattle.ast.specs.Store.{StoreOf, store_of}
use Rattle.ast.specs.Symbols.{Symbol}
use Rattle.ast.specs.View.{cells, extent, symbol}
use Rattle.tree_run.specs.Steps.{Way}
use Rattle.tree_run.specs.declared.memory.Memory.{Memory}
use Rattle.tree_run.specs.declared.places.Walk.{Walk}

abbrev pub symbols_in : Memory → List Symbol
symbols_in m = map symbol m.symbols.now

abbrev pub store_in : Memory → StoreOf
store_in m = store_of (cells m.store)

abbrev pub look : Memory → LookUp
look m = looked_up (symbols_in m) (store_in m)

abbrev pub way : Walk → Way
way w = record { rest = map extent w.rest.now; stride = w.stride; place = w.place }
