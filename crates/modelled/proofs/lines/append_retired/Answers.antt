use Rattle.std.specs.Prelude.{codes, decimal}
use Rattle.modelled.proofs.Listed.{appended}
use Rattle.modelled.proofs.lines.append_retired.Goals as goal

pub returns : goal.returns
returns c =
    appended c.append_number.result c.append_number.new.out.items c.extend_from_slice.new.self.items c.args.out.now.items (codes " ITERATIONS ") (decimal c.args.retired) c.append_number.ensures
    c.in_ok-extend_from_slice.ensures.items
