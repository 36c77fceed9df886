use Rattle.doac.proofs.Statuses.{of_nothing, of_verdict}
use Rattle.doac.proofs.sources.check_source.Goals as goal

pub returns-after-is_told-2 : goal.returns-after-is_told-2
returns-after-is_told-2 g c =
    record {
      came = c.tell_verdict-outcome.result;
      works = of_verdict c.args.text.now c.in-Ok.verdict _ _ c.tell_verdict-outcome.result c.in-Ok.ensures c.tell_verdict-outcome.ensures;
      is = c.tell-status.ensures;
    }

pub returns-in-Err : goal.returns-in-Err
returns-in-Err g c = of_nothing _ _ _ c.tell.ensures
