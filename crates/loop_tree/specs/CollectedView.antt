-- What the code's collection stands for.
use Rattle.std.specs.Prelude.{List, map}
use Rattle.ast.specs.View.{head, block_view}
use Rattle.loop_tree.specs.Collecting as spec
use Rattle.loop_tree.specs.Collecting.{Span}
use Rattle.loop_tree.specs.Loops.{Loop}
use Rattle.loop_tree.specs.ScalarsView.{scalars}
use Rattle.loop_tree.specs.View.{occurrence}
use Rattle.loop_tree.specs.declared.collecting.Collected.{Collected}
use Rattle.loop_tree.specs.declared.collecting.Info.{Info}
use Rattle.loop_tree.specs.declared.occurrence.Occurrence.{Occurrence}

abbrev pub span : Info → Span
span i = record {
  around = i.around;
  statement = i.statement;
  line = i.line;
  head = head i.head.now;
  body = block_view i.body.now;
  step = i.step;
  trips = i.trips;
  first = i.first;
  last = i.last;
  assigned = scalars i.assigned;
}

abbrev pub collected : Collected → spec.Collected
collected c = record {
  lines = c.lines.items;
  references = map occurrence c.references.items;
  spans = map span c.loops.items;
}

-- the loop of which this is known, with the references of its range
abbrev pub loop_shown : Info → List Occurrence → Loop
loop_shown i os = record {
  around = i.around;
  statement = i.statement;
  line = i.line;
  head = head i.head.now;
  body = block_view i.body.now;
  step = i.step;
  trips = i.trips;
  references = map occurrence os;
  assigned = scalars i.assigned;
}
