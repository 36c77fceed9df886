use Rattle.std.proofs.Common.{◌≡◌, ℕ, ◌+◌, List, arith, subst, sym, length}
use Rattle.replay.specs.Striding.{AllLegs, IsLegOf}
use Rattle.replay.specs.declared.legs.Leg.{Leg}
use Rattle.replay.proofs.Pathways.{legs_more}
use Rattle.replay.proofs.legs.Legs.new.Goals as goal

pub loop-legs-preserved : goal.loop-legs-preserved
loop-legs-preserved c =
    let code = c.args.code.now.instructions.items in
    let place : c.len-in-loop-legs-3.result ≡ 0 + length c.loop-legs.legs.items = omega (arith, c.len-in-loop-legs-3.ensures, c.loop-legs.legs.ok.0) in
    subst (λ (legs : List Leg). AllLegs code 0 legs) (sym c.in_ok-push.ensures.items)
    (legs_more code 0 c.loop-legs.legs.items c.leg_at.result c.loop-legs.invariant (subst (λ (p : ℕ). IsLegOf code p c.leg_at.result) place c.leg_at.ensures.leg))
