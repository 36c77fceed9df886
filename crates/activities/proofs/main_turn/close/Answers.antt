use Rattle.std.proofs.Common.{◌≡◌, ◌∙◌, None, List, sym, ap, rules, w64, to_z, of_z}
use Rattle.std.specs.Prelude.{ℤ}
use Rattle.machine.specs.CodeView.{code_of}
use Rattle.activities.specs.PartsView.{shared_of}
use Rattle.activities.proofs.Leading.{closed_cells}
use Rattle.activities.proofs.main_turn.close.Goals as goal

pub returns-in-Ok-clause-shared : goal.returns-in-Ok-clause-shared
returns-in-Ok-clause-shared c =
    let x = c.args.shared.now in
    let v = c.variable_and_step-variable.ensures in
    let rf : to_z w64 (of_z w64 c.args.opened.first) ≡ c.args.opened.first = search rules in
    let rs : to_z w64 (of_z w64 c.variable_and_step-variable.result.1) ≡ c.variable_and_step-variable.result.1 = search rules in
    let rv : to_z w64 (of_z w64 c.in-Ok.value) ≡ c.in-Ok.value = search rules in
    let r = rw (rf, rs) at (sym c.value_after.ensures ∙ c.in-Ok.is) in
    rw rv at c.store_last.ensures
    ∙ ap (λ (cs : List ℤ). record (record (shared_of x) { loop = None }) { cells = cs }) (closed_cells (code_of c.args.code.now) c.args.opened c.variable_and_step-variable.result.0 c.variable_and_step-variable.result.1 c.in-Ok.value x.cells.items v.variable v.step r)
