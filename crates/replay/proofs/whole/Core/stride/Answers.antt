use Rattle.machine.specs.CodeView.{code_of}
use Rattle.replay.proofs.Strode.{holds_more}
use Rattle.replay.proofs.whole.Core.stride.Goals as goal

pub loop-goes-preserved-in-Ok : goal.loop-goes-preserved-in-Ok
loop-goes-preserved-in-Ok c =
    holds_more (code_of c.args.legs.now.code.now) c.args.self.now c.loop-goes.self c.stride_on-in-loop-goes.new.self c.args.q c.args.n c.loop-goes.made c.in-Ok.more c.loop-goes.invariant c.in-Ok.ensures.few c.in-Ok.ensures.made
