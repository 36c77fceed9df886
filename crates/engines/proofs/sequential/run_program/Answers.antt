use Rattle.std.proofs.Common.{◌∙◌}
use Rattle.std.proofs.lemmas.List.{length-map}
use Rattle.ast.specs.ProgramView.{program}
use Rattle.ast.specs.View.{symbol}
use Rattle.engines.proofs.Pages.{cells_fit, streams_on}
use Rattle.engines.proofs.sequential.run_program.Goals as goal

pub follow-requires : goal.follow-requires
follow-requires g c =
    cells_fit (program c.args.program.now) c.args.input.now c.in-Ok.ended (g.W.Write.contents c.args.out.now) (g.W.Write.contents c.run_onto.new.writer) c.in-Ok.ensures
    ∙ length-map c.args.program.now.symbols.items symbol

pub returns-in-Ok : goal.returns-in-Ok
returns-in-Ok g c source reads =
    streams_on c.args.store source c.args.input.now (program c.args.program.now) c.in-Ok.ended (g.W.Write.contents c.args.out.now) (g.W.Write.contents c.run_onto.new.writer) (g.W.Write.contents c.follow.new.out) c.follow.result
    reads c.in-Ok.ensures c.follow.ensures
