use Rattle.plan_check.proofs.Adding.{added}
use Rattle.plan_check.proofs.groups.add.Goals as goal

pub returns : goal.returns
returns c = λ n. added (λ row. row.items) c.args.groups.now.rows.items c.args.cell c.index_mut.result.now c.push.new.self c.args.place c.requires c.index_mut.ensures.value c.in_ok-push.ensures.items n
