-- What the code's notes stand for.
use Rattle.std.specs.Prelude.{map}
use Rattle.ast.specs.View.{ref}
use Rattle.plan_check.specs.Walking as spec
use Rattle.plan_check.specs.declared.seen.Note.{Note}
use Rattle.plan_check.specs.declared.seen.Seen.{Seen}

-- a reference, and what is known of the events before it
abbrev pub note : Note → spec.Note
note n =
    record { ref = ref n.reference; defines = n.defines; near = n.near.items; free = n.free.items }

-- what a walk has noted so far
abbrev pub seen : Seen → spec.Seen
seen s = record { early = s.early; disorder = s.disorder; notes = map note s.notes.items }
