use Rattle.std.proofs.Common.{◌≡◌, ◌≤◌, ℕ, drop, length, map}
use Rattle.codegen.specs.OpenedView.{number_of, opens_in}
use Rattle.codegen.proofs.opened.Opened.new.Given as goal

abbrev pub invariant-loop-left : goal.invariant-loop-left
invariant-loop-left l = record {
  within : l.left ≤ length l.variables;
  has : (id : ℕ) → opens_in l.opened id ≡ number_of l.left (map (λ v. v.0) (drop l.left l.variables)) id;
}

abbrev pub decreases-loop-left : goal.decreases-loop-left
decreases-loop-left l = l.left
