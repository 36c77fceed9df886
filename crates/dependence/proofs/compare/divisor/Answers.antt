use Rattle.std.proofs.Common.{◌∙◌}
use Rattle.std.specs.Prelude.{unsigned_abs}
use Rattle.dependence.specs.Tests.{gaps, gcd, sizes, steady, varying}
use Rattle.loop_tree.specs.TreeView.{seen}
use Rattle.subscripts.specs.Forms.{others}
use Rattle.subscripts.specs.View.{form}
use Rattle.dependence.proofs.Divisors.{pieces}
use Rattle.dependence.proofs.compare.divisor.Goals as goal

pub returns : goal.returns
returns c =
    let l = seen c.args.view.now in
    let f = form c.args.first.now in
    let g = form c.args.second.now in
    c.divisor_by_parts.ensures
    ∙ pieces (gcd (gcd 0 (unsigned_abs f.coefficient)) (unsigned_abs g.coefficient))
    (sizes (varying l f.shares)) (sizes (varying l g.shares)) (gaps (steady l f.shares) g.shares) (sizes (others f.shares (steady l g.shares)))
