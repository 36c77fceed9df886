use Rattle.placement.proofs.Pushing.{pushed}
use Rattle.placement.proofs.nested.push_at.Goals as goal

pub returns : goal.returns
returns g c =
    pushed c.args.lists.now.items c.lengthen.new.lists.items c.args.number c.index_mut.result.now c.push.new.self c.args.value c.in_ok-lengthen.ensures.long c.index_mut.ensures.value
    c.in_ok-push.ensures.items c.in_ok-lengthen.ensures.same
