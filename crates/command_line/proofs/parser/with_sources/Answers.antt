use Rattle.command_line.specs.CommandLine.{check, list, seq}
use Rattle.command_line.proofs.parser.with_sources.Goals as goal

pub returns : goal.returns
returns c base is = c.adding.ensures _ seq (c.adding-app-2.ensures _ list (c.adding-app.ensures _ check is c.checking.ensures) c.listing.ensures) c.running.ensures
