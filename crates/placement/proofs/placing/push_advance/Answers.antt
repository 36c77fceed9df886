use Rattle.placement.proofs.Appended.{advanced}
use Rattle.placement.proofs.placing.push_advance.Goals as goal

pub returns : goal.returns
returns c = advanced c.args.list.now.items c.push.new.self.items c.push-2.new.self.items c.args.event c.in_ok-push.ensures.items c.in_ok-push-2.ensures.items
