use Rattle.std.proofs.Common.{◌≡◌, ◌≤◌, drop, length, map}
use Rattle.ast.specs.View.{letters}
use Rattle.plan_check.specs.Checking.{are_once}
use Rattle.plan_check.proofs.fits.are_once.Given as goal

abbrev pub invariant-loop-place : goal.invariant-loop-place
invariant-loop-place l = are_once (map letters (drop l.place l.names)) ≡ are_once (map letters l.names)
