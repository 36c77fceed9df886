-- What a set of scalars stands for.
use Rattle.std.specs.Prelude.{List, map}
use Rattle.ast.specs.Tree.{Ref}
use Rattle.ast.specs.View.{ref}
use Rattle.loop_tree.specs.declared.scalars.Scalars.{Scalars}

abbrev pub scalars : Scalars → List Ref
scalars s = map ref s.list.items
