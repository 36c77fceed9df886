use Rattle.std.proofs.Common.{subst}
use Rattle.schedules.specs.declared.entry.Version.TheVariants.{Second}
use Rattle.activities.specs.Activities.{code_in, point_in}
use Rattle.activities.specs.Points.{beginning}
use Rattle.replay.specs.CoreView.{CoreView}
use Rattle.replay.specs.Striding.{Strides}
use Rattle.replay.specs.Whole.{seen_as}
use Rattle.replay.proofs.Onwards.{whole_same}
use Rattle.replay.proofs.Strode.{strides_seen, tallies_count, whole_strode}
use Rattle.replay.proofs.whole.Core.stride_on.Goals as goal

pub invariant_of-self : goal.invariant_of-self
invariant_of-self c =
    whole_same c.self.inside.input.now c.self.inside.activities c.stride.new.activities c.self.inside.schedule c.stride.new.schedule c.self.inside.tally c.stride.new.tally c.self.invariant
    c.in-Err.ensures.parts c.in-Err.ensures.stays c.in-Err.ensures.err

pub invariant_of-self-2 : goal.invariant_of-self-2
invariant_of-self-2 c =
    whole_strode c.self.inside.input.now c.self.inside.activities c.stride.new.activities c.self.inside.schedule c.stride.new.schedule c.self.inside.tally c.stride.new.tally
    c.args.q c.in-Ok.made c.self.invariant c.in-Ok.ensures.parts c.in-Ok.ensures.stays c.in-Ok.ensures.did

pub returns-clause-made : goal.returns-clause-made
returns-clause-made c =
    subst (λ (V : CoreView). Strides V c.args.q c.in-Ok.made (seen_as c.self.inside.input.now c.stride.new.activities c.stride.new.schedule)) c.self.view_is
    (strides_seen c.self.inside.input.now c.self.inside.activities c.stride.new.activities c.self.inside.schedule c.stride.new.schedule c.self.inside.tally c.stride.new.tally c.args.q c.in-Ok.made
    c.self.invariant.parts c.in-Ok.ensures.parts c.in-Ok.ensures.stays c.in-Ok.ensures.did)

pub stride-requires-clause-counted : goal.stride-requires-clause-counted
stride-requires-clause-counted c =
    tallies_count Second (code_in c.self.inside.activities) c.self.inside.schedule.slots c.self.inside.schedule.entries (beginning (code_in c.self.inside.activities) c.self.inside.input.now c.self.inside.schedule.slots)
    (point_in c.self.inside.activities) c.self.inside.tally.made c.self.inside.tally.again c.self.invariant.tallies
