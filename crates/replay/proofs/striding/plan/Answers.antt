use Rattle.std.proofs.Common.{◌∙◌, ◌≤◌, ◌^◌, arith, rules}
use Rattle.replay.specs.Striding.{kinds_of}
use Rattle.replay.proofs.Noting.{same_header}
use Rattle.replay.proofs.Pathways.{few_before, leg_on, noted_leg}
use Rattle.replay.proofs.striding.plan.Goals as goal

pub loop-planned-preserved : goal.loop-planned-preserved
loop-planned-preserved c =
    let code = c.args.legs.now.code.now.instructions.items in
    let some : 1 ≤ c.at-leg.result.steps = search rules in (
      leg_on code c.args.start c.loop-planned.place c.at-leg.result.next c.loop-planned.planned c.at-leg.result.steps c.loop-planned.invariant.0 c.at-leg.ensures.leg.0,
      noted_leg code c.args.q c.args.start c.loop-planned.place c.loop-planned.planned c.at-leg.result c.args.schedule.now c.loop-planned.schedule c.note_leg.new.schedule c.loop-planned.invariant.0 c.at-leg.ensures.leg
          c.loop-planned.invariant.1 c.in_default.ensures.ok,
      c.note_leg.ensures.kept,
      (same_header c.args.q (kinds_of c.at-leg.result) c.loop-planned.schedule c.note_leg.new.schedule c.in_default.ensures.ok).processors ∙ c.loop-planned.invariant.3,
      omega (arith, c.at-leg.ensures.few, c.loop-planned-test.true),
      few_before c.args.q c.loop-planned.planned c.args.start (2 ^ 63) c.at-leg.result.steps code c.args.schedule.now c.loop-planned.schedule c.loop-planned.invariant.1 c.loop-planned.invariant.5 c.note_leg.ensures.few,
      λ h. absurd (omega (arith, h, some)),
    )
