use Rattle.engines.proofs.Lists.{of_prepared_as}
use Rattle.doac.proofs.Statuses.{list_nothing}
use Rattle.doac.proofs.sources.list_source.Goals as goal

pub returns-after-is_ok : goal.returns-after-is_ok
returns-after-is_ok g c =
    record {
      came = c.tell_loops-outcome.result;
      writes = of_prepared_as c.args.why c.args.text.now c.in-Ok.prepared _ _ c.tell_loops-outcome.result c.in-Ok.ensures c.tell_loops-outcome.ensures;
      is = c.tell.ensures;
    }

pub returns-in-Err : goal.returns-in-Err
returns-in-Err g c = list_nothing c.args.why c.args.text.now _ _ c.tell-in-Err.ensures
