use Rattle.std.proofs.Common.{codes}
use Rattle.arrows.specs.Arrows.{hued, lines, span}
use Rattle.arrows.proofs.Appended.{appended}
use Rattle.arrows.proofs.arrows.append_head.Goals as goal

pub returns : goal.returns
returns c =
    let a = c.args.arrow.now in
    appended c.args.out.now.items (hued a) (lines a) (span a) (codes "</title>")
    c.append_hue.new.out.items c.append_lines.new.out.items c.append_span.new.out.items c.extend_from_slice.new.self.items
    c.in_ok-append_hue.ensures c.in_ok-append_lines.ensures c.in_ok-append_span.ensures c.in_ok-extend_from_slice.ensures.items
