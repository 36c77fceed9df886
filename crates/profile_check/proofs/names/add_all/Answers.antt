use Rattle.std.proofs.Common.{◌∙◌}
use Rattle.profile_check.proofs.Tables.{insert_all-next}
use Rattle.profile_check.proofs.names.add_all.Goals as goal

pub loop-name-preserved : goal.loop-name-preserved
loop-name-preserved c =
    insert_all-next c.loop-name.table.keys c.insert.new.self.keys c.args.names.now c.loop-name.name-index _ c.loop-name-test.true c.in_ok-insert.ensures.keys
    ∙ c.loop-name.invariant
