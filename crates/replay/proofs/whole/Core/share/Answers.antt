use Rattle.std.proofs.Common.{◌∙◌}
use Rattle.schedules.specs.Schedules.{shares}
use Rattle.activities.specs.Activities.{who}
use Rattle.replay.proofs.Onwards.{seen_same, stuck_seen, whole_more}
use Rattle.replay.proofs.whole.Core.share.Goals as goal

pub invariant_of-self-then-went : goal.invariant_of-self-then-went
invariant_of-self-then-went c =
    let more = rw c.if-went.true at c.in-Ok.ensures.did in
    whole_more c.self.inside.input.now c.self.inside.activities c.share.new.activities c.self.inside.schedule c.share.new.schedule c.self.inside.tally c.share.new.tally
    (record { processor = c.args.q; act = shares }) c.self.invariant c.in-Ok.ensures.parts c.in-Ok.ensures.stays more.step more.schedule more.tally

pub returns-clause-ok : goal.returns-clause-ok
returns-clause-ok c =
    let none = rw c.if-went.false at c.in-Ok.ensures.did in (
      seen_same c.self.inside.input.now c.self.inside.activities c.share.new.activities c.self.inside.schedule c.share.new.schedule c.self.inside.tally c.share.new.tally c.in-Ok.ensures.stays none.0 ∙ c.self.view_is,
      c.requires.going,
      λ b. stuck_seen c.self.inside.input.now c.self.inside.activities c.self.inside.schedule c.self.inside.tally c.args.self.now c.args.q (who c.args.holder) c.self.invariant.parts c.self.view_is c.requires.holds none.1,
    )
