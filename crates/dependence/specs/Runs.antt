-- Relations of pairs that stand in runs, each of which has a relation by its number among different
-- ones.
use Rattle.std.specs.Prelude.{ℕ, zero, suc, ◌+◌, ◌*◌, nat_lt, Bool}
use Rattle.std.specs.Prelude.{List, [], ◌∷◌, ◌++◌, slice_index_or}
use Rattle.std.specs.List.{list_all}
use Rattle.dependence.specs.declared.relation.Relation.{Relation}
use Rattle.dependence.specs.declared.relation.Relation.TheVariants.{Any}
use Rattle.dependence.specs.declared.run.Run.{Run}

-- the relation of a number; of one that none has, nothing is known
abbrev pub relation_at : List Relation → ℕ → Relation
relation_at different n = slice_index_or different n Any

-- one relation of a reference to n others, whose numbers go up by a step
abbrev pub stepped : (first second step : ℕ) → (n : ℕ) → Relation → List (ℕ × ℕ × Relation)
stepped a b step zero r = []
stepped a b step (suc n) r = (a, b, r) ∷ stepped a (b + step) step n r

-- the claims of a run: two references by their numbers, and the relation of them
abbrev pub run : List Relation → Run → List (ℕ × ℕ × Relation)
run different r = stepped r.first r.second r.step r.count (relation_at different r.relation)

-- those of runs, one after another
abbrev pub runs : List Relation → List Run → List (ℕ × ℕ × Relation)
runs different [] = []
runs different (r ∷ rs) = run different r ++ runs different rs

-- the numbers of all runs' relations are below this one
abbrev pub are_numbered : ℕ → List Run → Bool
are_numbered n rs = list_all (λ (r : Run). nat_lt r.relation n) rs

-- the references of the pair at a place of a run
abbrev pub pair_at : Run → ℕ → ℕ × ℕ
pair_at r k = (r.first, r.second + r.step * k)
