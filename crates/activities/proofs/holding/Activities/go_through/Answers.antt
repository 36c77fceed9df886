use denote.Enum.Bare.{sameb}
use Rattle.std.proofs.Common.{◌≡◌, ◌∙◌, ◌-◌, false, refl, subst, arith}
use Rattle.std.specs.Prelude.{not}
use Rattle.activities.specs.Activities.{AreActivities, code_in, point_in}
use Rattle.activities.specs.Points.{Steps}
use Rattle.activities.specs.Seating.{seat, seated}
use Rattle.activities.specs.contracts.turn.Outcome.{the_type}
use Rattle.activities.specs.declared.turn.Outcome.{Outcome}
use Rattle.activities.specs.declared.turn.Outcome.TheVariants as outcomes
use Rattle.activities.proofs.Seats.{others_on, so_many}
use Rattle.activities.proofs.holding.Activities.go_through.Goals as goal

is_stays : (o : Outcome) → false ≡ not (sameb the_type o outcomes.Stays) → o ≡ outcomes.Stays
is_stays outcomes.Stays e = refl
is_stays o e = cc

pub returns-then-made-eq0-clause-made : goal.returns-then-made-eq0-clause-made
returns-then-made-eq0-clause-made c =
    so_many c.args.n c.loop-left.left c.go_on-made.result.made c.args.q c.args.place c.go_on-made.result.outcome c.args.iteration.now c.loop-left.iteration c.go_on-made.new.iteration c.args.self.now c.loop-left.self c.go_on-made.new.self
    c.loop-left.invariant.few c.go_on-made.ensures.few c.loop-left.invariant.others c.loop-left.invariant.made c.go_on-made.ensures.made

pub loop-left-preserved : goal.loop-left-preserved
loop-left-preserved c =
    let old = c.args.self.now in
    let it = c.args.iteration.now in
    let stays : c.go_on-made.result.outcome ≡ outcomes.Stays = is_stays c.go_on-made.result.outcome c.if-ne.ensures in
    let made = so_many c.args.n c.loop-left.left c.go_on-made.result.made c.args.q c.args.place c.go_on-made.result.outcome it c.loop-left.iteration c.go_on-made.new.iteration old c.loop-left.self c.go_on-made.new.self
    c.loop-left.invariant.few c.go_on-made.ensures.few c.loop-left.invariant.others c.loop-left.invariant.made c.go_on-made.ensures.made in
    record {
      few = omega (arith, c.loop-left.invariant.few);
      made = subst (λ (o : Outcome). Steps (code_in old) old.slots (c.args.n - (c.loop-left.left - c.go_on-made.result.made)) (point_in (seated c.args.q c.args.place it old)) c.args.q (point_in (seat o c.args.q c.args.place c.go_on-made.new.iteration c.go_on-made.new.self))) stays made;
      seated = subst (λ (o : Outcome). AreActivities (seat o c.args.q c.args.place c.go_on-made.new.iteration c.go_on-made.new.self)) stays c.go_on-made.ensures.seated;
      number = c.go_on-made.ensures.number stays ∙ c.loop-left.invariant.number;
      going = c.go_on-made.ensures.going stays;
      others = others_on old c.loop-left.self c.go_on-made.new.self c.loop-left.invariant.others c.go_on-made.ensures.others;
    }
