use Rattle.std.proofs.Common.{refl, sym, ap, arith, ◌∙◌, Some, None}
use Rattle.activities.specs.Activities.{chosen}
use Rattle.replay.specs.CoreView.{CoreView}
use Rattle.activities.specs.Parts.{held_of}
use Rattle.replay.proofs.Ongoing.{went_if, goes_on}
use Rattle.replay.proofs.Onwards.{by_rule, has_ended, holds}
use Rattle.replay.proofs.whole.Core.step.Goals as goal

pub returns-then-is_some-clause-ok : goal.returns-then-is_some-clause-ok
returns-then-is_some-clause-ok c =
    (refl, has_ended c.self.inside.input.now c.self.inside.activities c.self.inside.schedule c.args.self.now c.self.view_is (sym c.is_some.ensures ∙ c.if-is_some.true))

pub share-requires-clause-holds : goal.share-requires-clause-holds
share-requires-clause-holds c =
    ap (λ (V : CoreView). held_of V.kept.held c.args.q) (sym c.self.view_is)
    ∙ holds c.self.inside.activities c.args.q c.index.result.now (Some c.in-Some.holder) (omega (arith, c.if-q-len.false, c.len.ensures, c.self.inside.activities.held.ok.0)) (sym c.index.ensures ∙ c.in-Some.is)

pub returns-in-None-clause-ok : goal.returns-in-None-clause-ok
returns-in-None-clause-ok c =
    by_rule c.self.inside.input.now c.self.inside.activities c.self.inside.schedule c.self.inside.tally c.args.q (chosen c.choice-choice.result) c.take.result c.args.self.now _
    c.self.view_is c.self.invariant.parts (omega (arith, c.if-q-len.false, c.len.ensures, c.self.inside.activities.held.ok.0))
    (holds c.self.inside.activities c.args.q c.index.result.now None (omega (arith, c.if-q-len.false, c.len.ensures, c.self.inside.activities.held.ok.0)) (sym c.index.ensures ∙ c.in-None.is))
    c.choice-choice.ensures.rule c.choice-choice.ensures.only c.take.ensures.ok

pub returns-then-q-len-clause-goes_on : goal.returns-then-q-len-clause-goes_on
returns-then-q-len-clause-goes_on c = goes_on c.self.inside.input.now c.self.inside.activities c.self.inside.schedule c.self.inside.tally c.args.self.now c.self.invariant.parts c.self.view_is

pub returns-in-Some-clause-goes_on : goal.returns-in-Some-clause-goes_on
returns-in-Some-clause-goes_on c = goes_on c.self.inside.input.now c.self.inside.activities c.self.inside.schedule c.self.inside.tally c.args.self.now c.self.invariant.parts c.self.view_is

pub returns-in-None-clause-goes_on : goal.returns-in-None-clause-goes_on
returns-in-None-clause-goes_on c = goes_on c.self.inside.input.now c.self.inside.activities c.self.inside.schedule c.self.inside.tally c.args.self.now c.self.invariant.parts c.self.view_is

pub returns-in-Some-clause-went : goal.returns-in-Some-clause-went
returns-in-Some-clause-went c = went_if c.args.self.now _ c.args.q c.share.result c.share.ensures.ok

pub returns-in-None-clause-went : goal.returns-in-None-clause-went
returns-in-None-clause-went c = went_if c.args.self.now _ c.args.q c.take.result (returns-in-None-clause-ok c)
