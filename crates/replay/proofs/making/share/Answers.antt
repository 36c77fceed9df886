use Rattle.std.proofs.Common.{false, subst}
use Rattle.std.specs.Prelude.{ℕ}
use Rattle.machine.specs.Code.{Code}
use Rattle.activities.specs.Activities.{code_in, point_in}
use Rattle.activities.specs.Points.{Moves, Point}
use Rattle.replay.proofs.Alone.{made_share, point_stays}
use Rattle.replay.proofs.making.share.Goals as goal

pub returns-then-branch-clause-made : goal.returns-then-branch-clause-made
returns-then-branch-clause-made c =
    made_share c.args.version (code_in c.args.activities.now) c.args.activities.now.slots (point_in c.args.activities.now) c.args.q (point_in c.share.new.self)
    (rw c.if-branch.true at c.in_ok-share.ensures.did)

pub pick_by_rule-requires-clause-still : goal.pick_by_rule-requires-clause-still
pick_by_rule-requires-clause-still c b m =
    let did = rw c.if-branch.false at c.in_ok-share.ensures.did in
    let stays = c.in_ok-share.ensures.stays in
    let one = subst (λ (k : Code). Moves k c.share.new.self.slots false (point_in c.share.new.self) c.args.q b) stays.code_is m in
    let two = subst (λ (n : ℕ). Moves (code_in c.args.activities.now) n false (point_in c.share.new.self) c.args.q b) stays.slots one in
    did.1 b (subst (λ (p : Point). Moves (code_in c.args.activities.now) c.args.activities.now.slots false p c.args.q b) (point_stays c.args.activities.now c.share.new.self stays did.0) two)
