use Rattle.std.proofs.Common.{◌≡◌, map, drop}
use Rattle.syntax.specs.Classes.{first_keyword}
use Rattle.syntax.proofs.class.first_keyword.Given as goal

abbrev pub invariant-loop-entry : goal.invariant-loop-entry
invariant-loop-entry l = first_keyword (map (λ w. (w.0.now, w.1)) (drop l.entry-index l.words)) l.text ≡ first_keyword (map (λ w. (w.0.now, w.1)) l.words) l.text
