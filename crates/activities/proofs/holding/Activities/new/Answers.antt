use Rattle.std.proofs.Common.{◌≡◌, ◌∙◌, ◌<◌, None, length, ap, subst, sym, arith}
use Rattle.std.specs.Prelude.{Option}
use Rattle.std.proofs.lemmas.List.{length-replicate}
use Rattle.ec_kernel.specs.View.{IsKernel, View}
use Rattle.machine.specs.CodeView.{code_of}
use Rattle.activities.specs.Activities.{kept_in}
use Rattle.activities.specs.Core.{IsCore}
use Rattle.activities.specs.Parts.{Kept, Shared, point_of}
use Rattle.activities.specs.declared.holding.Activities.{Activities}
use Rattle.activities.specs.declared.holding.Holder.{Holder}
use Rattle.activities.proofs.Beginning.{begins, first_core, first_kept, kept_first}
use Rattle.activities.proofs.holding.Activities.new.Goals as goal

pub returns-clause-point : goal.returns-clause-point
returns-clause-point c =
    let code = code_of c.args.code.now in
    let a : Activities = record {
      code = c.args.code;
      slots = c.args.slots;
      shared = c.in_ok-shared.shared;
      main = c.in_ok-main.main;
      iterations = c.in_ok-iterations.iterations;
      held = c.in_ok-iterations.held;
    } in
    let same : kept_in a ≡ first_kept code c.args.input.now c.args.processors c.args.slots =
    kept_first code c.args.input.now c.args.processors c.args.slots a c.in_ok-shared.ensures.shared c.in_ok-main.ensures.input c.in_ok-main.ensures.frame c.in_ok-main.ensures.wait
    c.in_ok-iterations.ensures.iterations c.in_ok-iterations.ensures.held in
    ap (λ (y : Kept). point_of code.variables c.args.slots y) same ∙ begins code c.args.input.now c.args.processors c.args.slots

pub returns-clause-stand : goal.returns-clause-stand
returns-clause-stand c =
    let code = code_of c.args.code.now in
    let a : Activities = record {
      code = c.args.code;
      slots = c.args.slots;
      shared = c.in_ok-shared.shared;
      main = c.in_ok-main.main;
      iterations = c.in_ok-iterations.iterations;
      held = c.in_ok-iterations.held;
    } in
    let same : kept_in a ≡ first_kept code c.args.input.now c.args.processors c.args.slots =
    kept_first code c.args.input.now c.args.processors c.args.slots a c.in_ok-shared.ensures.shared c.in_ok-main.ensures.input c.in_ok-main.ensures.frame c.in_ok-main.ensures.wait
    c.in_ok-iterations.ensures.iterations c.in_ok-iterations.ensures.held in
    let kernel = subst (λ (v : View). IsKernel v) (ap (λ (s : Shared). s.order) c.in_ok-shared.ensures.shared) c.in_ok-shared.ensures.kept in
    let some : 0 < c.args.slots = omega (arith, c.requires.sizes.1.0) in
    record {
      core = subst (λ (y : Kept). IsCore code c.args.slots y) (sym same) (first_core code c.args.input.now c.args.processors c.args.slots some kernel);
      processors = omega (arith, c.requires.sizes.0.0, ap (λ xs. length xs) c.in_ok-iterations.ensures.held, length-replicate {A = Option Holder} c.args.processors None);
    }
