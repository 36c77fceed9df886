use Rattle.std.proofs.Common.{arith}
use Rattle.std.proofs.lemmas.Bool.{eqb-true}
use Rattle.activities.proofs.Labour.{stands_there}
use Rattle.activities.proofs.holding.Activities.stands_at.Goals as goal

pub returns-in-Some : goal.returns-in-Some
returns-in-Some c e =
    stands_there c.args.k c.args.place c.index.result.now c.in-Some.iteration c.args.self.now c.requires.stand (omega (arith, c.if-place-len.false, c.len.ensures, c.args.self.now.iterations.ok.0)) c.index.ensures c.in-Some.is (eqb-true _ _ e)
