-- What the code's groups stand for.
use Rattle.std.specs.Prelude.{ℕ, List, map}
use Rattle.plan_check.specs.declared.groups.Groups.{Groups}

abbrev pub groups : Groups → List (List ℕ)
groups g = map (λ row. row.items) g.rows.items
