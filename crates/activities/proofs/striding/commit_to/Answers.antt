use Rattle.std.proofs.Common.{refl, rules, ◌≡◌}
use Rattle.machine.specs.CodeView.{code_of}
use Rattle.machine.specs.FrameView.{frame_of}
use Rattle.stretches.specs.Reached.{AreReached, passed_by}
use Rattle.activities.specs.Told.{is_told}
use Rattle.activities.proofs.Passing.{reached_told, strides_more}
use Rattle.activities.proofs.striding.commit_to.Goals as goal

pub returns-clause-made : goal.returns-clause-made
returns-clause-made c =
    let seen = c.args.stretch.now.reached in
    let counts = c.args.kernel.now.counts in
    let k = c.args.iteration.now.number in
    let reached : AreReached seen.counts.items counts = search rules in
    let same : seen.number ≡ k = search rules in
    record {
      frame = frame_of c.commit_on.new.frame;
      leads = strides_more (passed_by seen) (is_told counts k) (λ e d h. reached_told seen.counts.items counts k e d reached (rw same at h)) (code_of c.args.stretch.now.code.now) c.commit_on.result _ _ (rw c.deref_mut.ensures.value at c.commit_on.ensures.made);
      standing = refl;
    }
