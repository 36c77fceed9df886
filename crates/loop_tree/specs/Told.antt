-- What holds of the references of one program: they are numbered one after another, and two have
-- one cell exactly where they have one name.
use Rattle.std.specs.Prelude.{Bool, true, false, not, ◌==◌, List, [], ◌∷◌, ◌++◌, map}
use Rattle.std.specs.List.{list_all}
use Rattle.ast.specs.References.{are_numbered}
use Rattle.ast.specs.Store.{same_name}
use Rattle.ast.specs.Tree.{Ref}
use Rattle.loop_tree.specs.Loops.{Loop}
use Rattle.loop_tree.specs.Occurrences.{Occurrence}

-- the references alone
abbrev pub references : List Occurrence → List Ref
references os = map (λ (o : Occurrence). o.ref) os

-- they have numbers in turn, from that of the first on
abbrev pub are_in_turn : List Ref → Bool
are_in_turn [] = true
are_in_turn (r ∷ rs) = are_numbered r.id (r ∷ rs)

abbrev pub iff : Bool → Bool → Bool
iff true b = b
iff false b = not b

-- the cells tell whether the names are the same
abbrev pub is_told : Ref → Ref → Bool
is_told r s = iff (r.cell == s.cell) (same_name r.name s.name)

-- the same of each two references
abbrev pub are_told : List Ref → Bool
are_told rs = list_all (λ (r : Ref). list_all (λ (s : Ref). is_told r s) rs) rs

-- the references that a loop shows: its variable, one to each scalar that its range gives values,
-- and those of its range
abbrev pub known : Loop → List Ref
known l = l.head.variable ∷ (l.assigned ++ references l.references)
