use Rattle.std.proofs.Common.{◌≡◌, ◌∙◌, ◌++◌, rules}
use Rattle.pictures.proofs.Groups.{figures_more, is_figure}
use Rattle.pictures.proofs.lanes.figures.Goals as goal

pub loop-processor-preserved : goal.loop-processor-preserved
loop-processor-preserved c =
    let grows : c.extend_from_slice.new.self.items ≡ c.loop-processor.text.items ++ c.in_ok-line.line.items = search rules in
    let told : c.deref.result.now ≡ c.in_ok-told.told.items = search rules in
    figures_more c.args.lanes.now c.loop-processor.processor _ c.loop-processor.text.items c.in_ok-line.line.items c.extend_from_slice.new.self.items c.loop-processor-test.true c.loop-processor.invariant
    (is_figure c.plain-class.result c.line_at.result _ _ c.deref.result.now c.in_ok-line.line.items (told ∙ c.in_ok-told.ensures) c.in_ok-line.ensures) grows
