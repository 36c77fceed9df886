use Rattle.std.proofs.Common.{◌≡◌, ◌∙◌, ap, get_or, of_z, pos, refl, rules, to_z, w64}
use Rattle.std.specs.Prelude.{int_lt}
use Rattle.ast.specs.Exact.{least}
use Rattle.loop_tree.proofs.Picked.{kept, picked, taken}
use Rattle.loop_tree.proofs.constants.least.Goals as goal
use Rattle.loop_tree.proofs.constants.least.Goals.{then-other-best, else-other-best}

pub loop-other-preserved : goal.loop-other-preserved
loop-other-preserved c =
    let bs = c.args.others.now in
    let i = c.loop-other.other-index in
    let b = get_or bs i (pos 0) in
    let back : to_z w64 (of_z w64 b) ≡ b = search rules in
    elim c.if-other-best.branch [
      | then-other-best w ↦
          taken least (λ a b. int_lt b a) (λ a b bs. refl) (to_z w64 c.loop-other.best-bits) (to_z w64 (of_z w64 b)) _ bs i _ c.loop-other-test.true back w.if-other-best.true w.best-is c.loop-other.invariant
      | else-other-best w ↦
          kept least (λ a b. int_lt b a) (λ a b bs. refl) (to_z w64 c.loop-other.best-bits) (to_z w64 (of_z w64 b)) _ bs i _ c.loop-other-test.true back w.if-other-best.false w.best-is c.loop-other.invariant
    ]

pub returns : goal.returns
returns c =
    let back : to_z w64 (of_z w64 c.args.first) ≡ c.args.first = search rules in
    picked least (to_z w64 c.loop-other.best-bits) c.args.others.now c.loop-other.other-index _ refl c.loop-other-test.false c.loop-other.invariant
    ∙ ap (λ n. least n c.args.others.now) back
