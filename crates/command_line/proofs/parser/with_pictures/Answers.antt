use Rattle.command_line.specs.CommandLine.{code, draw, explain, timeline}
use Rattle.command_line.proofs.parser.with_pictures.Goals as goal

pub returns : goal.returns
returns c base is = c.adding.ensures _ explain (c.adding-app-3.ensures _ code (c.adding-app-2.ensures _ timeline (c.adding-app.ensures _ draw is c.drawing.ensures) c.timing.ensures) c.coding.ensures) c.explaining.ensures
