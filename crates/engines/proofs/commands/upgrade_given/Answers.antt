use Rattle.engines.specs.Schedules.{Upgrading}
use Rattle.engines.proofs.Upgrading.{of_written}
use Rattle.engines.proofs.commands.upgrade_given.Goals as goal

pub returns : goal.returns
returns g c =
    of_written (Upgrading c.args.source.now c.args.input.now c.args.schedule.now) c.in_ok-made.made
    (g.W.Write.contents c.args.out.now) (g.W.Write.contents c.write.new.out) (g.V.Write.contents c.args.upgraded.now) (g.V.Write.contents c.write.new.upgraded)
    c.write.result c.in_ok-made.ensures c.write.ensures.ok c.write.ensures.err
