use Rattle.command_line.specs.CommandLine.{model, replay, run, upgrade}
use Rattle.command_line.proofs.parser.with_schedules.Goals as goal

pub returns : goal.returns
returns c base is = c.adding.ensures _ upgrade (c.adding-app-3.ensures _ replay (c.adding-app-2.ensures _ model (c.adding-app.ensures _ run is c.threading.ensures) c.modelling.ensures) c.replaying.ensures) c.upgrading.ensures
