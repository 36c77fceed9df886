use Rattle.std.proofs.Common.{◌≡◌, drop}
use Rattle.std.specs.Prelude.{map, option_map}
use Rattle.activities.specs.PartsView.{standing_of}
use Rattle.activities.specs.Turns.{none_open}
use Rattle.activities.proofs.sharing.none_open.Given as goal

abbrev pub invariant-loop-iteration : goal.invariant-loop-iteration
invariant-loop-iteration l = none_open (map (λ o. option_map standing_of o) (drop l.iteration-index l.iterations)) ≡ none_open (map (λ o. option_map standing_of o) l.iterations)
