-- An account of the code: references with what is known of them.
use Rattle.std.specs.Prelude.{List, [], ◌∷◌}
use Rattle.dependence.specs.Formed.{forms_of}
use Rattle.loop_tree.specs.Loops.{Loop}
use Rattle.loop_tree.specs.Occurrences.{Occurrence}
use Rattle.plan_check.specs.Checking as checking
use Rattle.plan_check.specs.Judging.{Entry}
use Rattle.plan_check.specs.Walking.{Note}

abbrev pub entry_by : Loop → Occurrence → Note → Entry
entry_by l o n =
    record { occurrence = o; near = n.near; free = n.free; forms = forms_of l o.subscripts }

-- the same, by what is known before the reference
abbrev pub joined_entry : Loop → checking.Entry → Entry
joined_entry l x =
    record { occurrence = x.0; near = x.1.near; free = x.1.free; forms = forms_of l x.0.subscripts }

abbrev pub entries_by : Loop → List Occurrence → List Note → List Entry
entries_by l [] ns = []
entries_by l (o ∷ os) [] = []
entries_by l (o ∷ os) (n ∷ ns) = entry_by l o n ∷ entries_by l os ns
