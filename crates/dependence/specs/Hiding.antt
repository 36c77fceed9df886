-- Names of which each iteration has a variable of its own.
use Rattle.std.specs.Prelude.{ℕ, Bool, List}
use Rattle.std.specs.List.{list_all, list_any}
use Rattle.ast.specs.Store.{same_name}
use Rattle.ast.specs.Tree.{Ref}
use Rattle.dependence.specs.Kept.{block_variables}
use Rattle.loop_tree.specs.Loops.{Loop}

-- a name is among others
abbrev pub has_name : List (List ℕ) → List ℕ → Bool
has_name names name = list_any (λ (n : List ℕ). same_name n name) names

-- the variables of all loops inside are among names
abbrev pub hides : List (List ℕ) → Loop → Bool
hides names l = list_all (λ (r : Ref). has_name names r.name) (block_variables l.body)
