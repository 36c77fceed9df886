use Rattle.std.proofs.Common.{arith}
use Rattle.codegen.specs.OpenedView.{opens_in}
use Rattle.codegen.proofs.Numbering.{numbers_more}
use Rattle.codegen.proofs.opened.Opened.new.Goals as goal

pub loop-left-preserved : goal.loop-left-preserved
loop-left-preserved c =
    let some = c.loop-left-test.true in
    let most = c.loop-left.invariant.within in
    record {
      within = omega (arith, some, most);
      has = numbers_more (λ v. v.0) c.args.variables.now c.loop-left.left _ (opens_in c.add.new.opened) (opens_in c.loop-left.opened) some most c.in_ok-add.ensures c.loop-left.invariant.has;
    }
