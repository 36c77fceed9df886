-- What the code's values stand for.
use Rattle.std.specs.Prelude.{map}
use Rattle.ast.specs.Tree.{terms}
use Rattle.ast.specs.View.{ref, term}
use Rattle.loop_tree.specs.Occurrences as spec
use Rattle.loop_tree.specs.declared.occurrence.Occurrence.{Occurrence}

abbrev pub occurrence : Occurrence → spec.Occurrence
occurrence o = record {
  ref = ref o.reference;
  subscripts = terms (map term o.subscripts.now);
  defines = o.defines;
  statement = o.statement;
}
