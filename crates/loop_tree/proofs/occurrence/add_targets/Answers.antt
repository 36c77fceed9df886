use Rattle.std.proofs.Common.{map, refl}
use Rattle.ast.specs.View.{access}
use Rattle.loop_tree.specs.Occurrences.{target_occurrences, targets_occurrences}
use Rattle.loop_tree.proofs.Occurring.{all_occurred, next_occurs}
use Rattle.loop_tree.proofs.occurrence.add_targets.Goals as goal

pub loop-element-preserved : goal.loop-element-preserved
loop-element-preserved c =
    next_occurs (λ a. target_occurrences c.args.statement (access a)) (λ more. targets_occurrences c.args.statement (map access more)) (λ a more. refl) c.args.elements.now c.loop-element.element-index c.element-item.result _ _ _ c.loop-element-test.true c.element-item.is c.in_ok-add_target.ensures c.loop-element.invariant

pub returns : goal.returns
returns c =
    all_occurred (λ a. target_occurrences c.args.statement (access a)) (λ more. targets_occurrences c.args.statement (map access more)) refl c.args.elements.now c.loop-element.element-index _ _ c.loop-element-test.false c.loop-element.invariant
