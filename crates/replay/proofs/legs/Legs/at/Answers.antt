use Rattle.std.proofs.Common.{◌≡◌, ℕ, ◌+◌, arith, get_or, subst, sym}
use Rattle.replay.specs.Striding.{IsLegOf}
use Rattle.replay.specs.declared.legs.Leg.{Leg}
use Rattle.replay.proofs.Pathways.{leg_there}
use Rattle.replay.proofs.legs.Legs.at.Goals as goal

pub returns-clause-leg : goal.returns-clause-leg
returns-clause-leg c =
    let code = c.args.self.now.code.now.instructions.items in
    let there : Leg = get_or c.args.self.now.legs.items c.args.place c.index-2.result.now in
    subst (λ (leg : Leg). IsLegOf code c.args.place leg) (sym c.index-2.ensures)
    (subst (λ (p : ℕ). IsLegOf code p there) (let e : 0 + c.args.place ≡ c.args.place = omega arith in e)
    (leg_there code 0 c.args.place c.args.self.now.legs.items c.index-2.result.now c.args.self.now.stand (omega (arith, c.if-place-len.false, c.len.ensures, c.args.self.now.legs.ok.0))))
