use Rattle.engines.proofs.Lists.{of_prepared}
use Rattle.engines.proofs.commands.list_text.Goals as goal

pub returns : goal.returns
returns g c = of_prepared c.args.source.now c.in_ok-prepared.prepared _ _ c.tell_listing.result c.in_ok-prepared.ensures c.tell_listing.ensures
