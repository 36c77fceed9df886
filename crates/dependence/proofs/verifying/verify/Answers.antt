use Rattle.loop_tree.specs.Occurrences.{numbered}
use Rattle.loop_tree.specs.TreeView.{seen}
use Rattle.dependence.proofs.Promise.{promised_if}
use Rattle.dependence.proofs.verifying.verify.Goals as goal

pub returns-clause-promise : goal.returns-clause-promise
returns-clause-promise c =
    promised_if (seen c.args.view.now) (numbered (seen c.args.view.now).references c.args.a.0) (numbered (seen c.args.view.now).references c.args.b.0) c.args.relation c.is_claim_verified.result c.is_claim_verified.ensures
