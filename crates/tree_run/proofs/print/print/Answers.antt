use Rattle.std.proofs.Common.{◌≡◌, ◌∙◌, true, false, map, refl, sym, arith, is_err}
use Rattle.std.proofs.lemmas.Grind.{common_steps}
use Rattle.ast.specs.View.{item as item_of}
use Rattle.ast.specs.declared.fault.End.TheVariants.{Done}
use Rattle.tree_run.specs.Runs.{run_of, symbols_of}
use Rattle.tree_run.proofs.Items.{settled}
use Rattle.tree_run.proofs.print.print.Goals as goal

pub returns-then-is_err-clause-reached : goal.returns-then-is_err-clause-reached
returns-then-is_err-clause-reached c =
    let m = c.args.machine.now in
    let taken_back : c.truncate.new.self.items ≡ m.output.items = grind (arith, common_steps) in
    let failed : is_err c.append_record-printed.result ≡ true = sym c.is_err.ensures.value ∙ c.if-is_err.true in
    settled (symbols_of m) c.append_record-printed.result (run_of m Done) c.append_record-printed.new.output.items c.truncate.new.self.items (map item_of c.args.items.now) c.args.line refl c.append_record-printed.ensures.appended (λ _. taken_back) (λ went. cc)

pub returns-else-is_err-clause-reached : goal.returns-else-is_err-clause-reached
returns-else-is_err-clause-reached c =
    let m = c.args.machine.now in
    let went : is_err c.append_record-printed.result ≡ false = sym c.is_err.ensures.value ∙ c.if-is_err.false in
    settled (symbols_of m) c.append_record-printed.result (run_of m Done) c.append_record-printed.new.output.items c.append_record-printed.new.output.items (map item_of c.args.items.now) c.args.line refl c.append_record-printed.ensures.appended (λ failed. cc) (λ _. refl)
