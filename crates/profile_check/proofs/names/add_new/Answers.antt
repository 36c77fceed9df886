use Rattle.std.proofs.Common.{sym, ◌∙◌}
use Rattle.profile_check.proofs.Tables.{insert_all-next, taken_before-next, taken_before-here, was_there, was_new}
use Rattle.profile_check.proofs.names.add_new.Goals as goal

pub returns-then-not-branch-clause-again : goal.returns-then-not-branch-clause-again
returns-then-not-branch-clause-again c =
    sym (taken_before-here c.loop-name.table.keys c.args.names.now c.loop-name.name-index _ c.loop-name-test.true
    (was_there _ _ c.in_ok-insert.ensures.added c.if-not-branch.true))
    ∙ c.loop-name.invariant.again

pub loop-name-preserved : goal.loop-name-preserved
loop-name-preserved c = record {
  again = taken_before-next c.loop-name.table.keys c.insert.new.self.keys c.args.names.now c.loop-name.name-index _ c.loop-name-test.true c.in_ok-insert.ensures.keys
      (was_new _ _ c.in_ok-insert.ensures.added c.if-not-branch.false)
      ∙ c.loop-name.invariant.again;
  added = insert_all-next c.loop-name.table.keys c.insert.new.self.keys c.args.names.now c.loop-name.name-index _ c.loop-name-test.true c.in_ok-insert.ensures.keys
      ∙ c.loop-name.invariant.added;
}
