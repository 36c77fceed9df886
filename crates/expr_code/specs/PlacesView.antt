-- The plain places that places stand for.
use Rattle.std.specs.Prelude.{map, option_map}
use Rattle.ast.specs.View.{letters, symbol}
use Rattle.expr_code.specs.Places as plain
use Rattle.expr_code.specs.declared.places.Places.{Places}

abbrev pub places_of : Places → plain.Places
places_of p = record {
  symbols = map symbol p.program.now.symbols.items;
  privates = map letters p.privates.now.names.items;
  loop_name = option_map letters p.loop_name;
  line = p.line;
}
