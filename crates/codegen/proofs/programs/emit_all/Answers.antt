use Rattle.std.proofs.Common.{◌≡◌, ◌∙◌, ap, map}
use mathlib.Core.Path.{fun_ext}
use Rattle.ast.specs.ProgramView.{program as program_of}
use Rattle.loop_tree.specs.TreeView.{loops_seen}
use Rattle.codegen.specs.Made.{main_made, with_ranges}
use Rattle.codegen.specs.OpenedView.{number_of, opens_in}
use Rattle.codegen.specs.Program.{opened_by}
use Rattle.codegen.specs.Reports.{planned_in}
use Rattle.codegen.proofs.OpenedReports.{numbers_are}
use Rattle.codegen.proofs.programs.emit_all.Goals as goal

pub returns : goal.returns
returns c =
    let t = program_of c.args.program.now in
    let xs = planned_in (loops_seen c.args.tree.now) c.args.reports.now in
    let opened : opens_in c.in_ok-opened.opened ≡ opened_by xs = fun_ext (λ id.
    c.in_ok-opened.ensures id
    ∙ ap (λ vs. number_of 0 (map (λ v. v.0) vs) id) c.deref.ensures.value
    ∙ ap (λ ids. number_of 0 ids id) c.in_ok-variables.ensures
    ∙ numbers_are 0 xs id) in
    c.in_ok-emit_ranges.ensures
    ∙ ap (λ m. with_ranges t.symbols xs m) (c.in_ok-made.ensures ∙ ap (λ opens. main_made t opens) opened)
