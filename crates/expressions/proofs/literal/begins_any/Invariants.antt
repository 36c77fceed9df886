use Rattle.std.proofs.Common.{◌≡◌, map, drop}
use Rattle.expressions.specs.Real.{begins_any}
use Rattle.expressions.proofs.literal.begins_any.Given as goal

abbrev pub invariant-loop-word : goal.invariant-loop-word
invariant-loop-word l = begins_any (map (λ w. w.now) (drop l.word-index l.words)) l.text ≡ begins_any (map (λ w. w.now) l.words) l.text
