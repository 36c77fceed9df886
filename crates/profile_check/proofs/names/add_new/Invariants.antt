use Rattle.std.proofs.Common.{◌≡◌, map, drop}
use Rattle.indexmap.specs.IndexSet.{insert_all}
use Rattle.ast.specs.Store.{same_name}
use Rattle.ast.specs.View.{letters}
use Rattle.profile_check.specs.TakenBefore.{taken_before}
use Rattle.profile_check.proofs.names.add_new.Given as goal

abbrev pub invariant-loop-name : goal.invariant-loop-name
invariant-loop-name l = record {
  again : taken_before (map letters l.table.keys) (map letters (drop l.name-index l.names))
      ≡ taken_before (map letters l.fn.table.keys) (map letters l.names);
  added : insert_all same_name (map letters l.table.keys) (map letters (drop l.name-index l.names))
      ≡ insert_all same_name (map letters l.fn.table.keys) (map letters l.names);
}
