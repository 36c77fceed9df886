use Rattle.std.proofs.Common.{◌≡◌, ◌+◌, ◌++◌, drop}
use Rattle.modelled.specs.Modelling.{heads_from}
use Rattle.modelled.proofs.heads.heads.Given as goal

abbrev pub invariant-loop-place : goal.invariant-loop-place
invariant-loop-place l = l.heads.items ++ heads_from (1 + l.place) (drop l.place l.reports) ≡ heads_from 1 l.reports
