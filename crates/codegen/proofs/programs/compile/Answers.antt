use Rattle.std.proofs.Common.{◌≡◌, ◌∙◌, ap, length, rules, subst, sym}
use Rattle.ast.specs.ProgramView.{program as program_of}
use Rattle.ast.specs.View.{block_view}
use Rattle.loop_tree.specs.Loops.{loops_of}
use Rattle.loop_tree.specs.Occurrences.{block_lines}
use Rattle.loop_tree.specs.TreeView.{lines_seen, loops_seen}
use Rattle.machine.specs.CodeView.{code_of}
use Rattle.codegen.specs.Noted.{AreNested}
use Rattle.codegen.specs.Program.{Refuses, RefusesWith}
use Rattle.codegen.specs.Reports.{opened_of, planned_in}
use Rattle.codegen.proofs.Compiling.{are_told, awaits_law, bounded_law, carried_law, ends_law, headline_law, made, opened_law, refused_law, states_law, way_law}
use Rattle.codegen.proofs.Nested.{are_nested}
use Rattle.codegen.proofs.OpenedReports.{are_opened, as_many}
use Rattle.codegen.proofs.programs.compile.Goals as goal

pub reports-requires-clause-nested : goal.reports-requires-clause-nested
reports-requires-clause-nested c = subst (λ ls. AreNested ls) (sym c.in_ok-tree.ensures.all) (are_nested (block_view c.args.program.now.body.items))

pub whole-requires : goal.whole-requires
whole-requires c =
    let tree = c.in_ok-tree.tree in
    record { count = ap length c.deref.ensures.value ∙ as_many (loops_seen tree) (lines_seen tree) (loops_seen tree) c.in_ok-reports.reports.items c.in_ok-reports.ensures }

pub returns-clause-code : goal.returns-clause-code
returns-clause-code c =
    let p = c.args.program.now in
    let reports = c.in_ok-reports.reports.items in
    let code = code_of c.in_ok-code.code in
    let is = made c.args.program.now (loops_seen c.in_ok-tree.tree) (lines_seen c.in_ok-tree.tree) c.in_ok-reports.reports.items c.deref.result.now (code_of c.in_ok-code.code) c.in_ok-tree.ensures.all c.in_ok-tree.ensures.lines c.in_ok-reports.ensures c.deref.ensures.value c.in_ok-code.ensures.code in
    (opened_of (program_of p) reports, opened_law p reports code is, is.code_is)

pub returns-clause-opened : goal.returns-clause-opened
returns-clause-opened c =
    let p = c.args.program.now in
    let reports = c.in_ok-reports.reports.items in
    let code = code_of c.in_ok-code.code in
    let is = made c.args.program.now (loops_seen c.in_ok-tree.tree) (lines_seen c.in_ok-tree.tree) c.in_ok-reports.reports.items c.deref.result.now (code_of c.in_ok-code.code) c.in_ok-tree.ensures.all c.in_ok-tree.ensures.lines c.in_ok-reports.ensures c.deref.ensures.value c.in_ok-code.ensures.code in
    (opened_law p reports code is, is.code_is)

pub returns-in_err-code-clause-refused : goal.returns-in_err-code-clause-refused
returns-in_err-code-clause-refused c =
    let p = c.args.program.now in
    let t = program_of p in
    let ls = loops_seen c.in_ok-tree.tree in
    let reports = c.in_ok-reports.reports.items in
    let told = are_told p ls (lines_seen c.in_ok-tree.tree) reports c.in_ok-tree.ensures.all c.in_ok-tree.ensures.lines c.in_ok-reports.ensures in
    let same : planned_in ls c.deref.result.now ≡ opened_of t reports = ap (λ ms. planned_in ms c.deref.result.now) c.in_ok-tree.ensures.all ∙ ap (λ rs. planned_in (loops_of t.block) rs) c.deref.ensures.value in
    let refusal = c.in_err-code.field-0.0 in
    let given : RefusesWith t (opened_of t reports) refusal = subst (λ xs. RefusesWith t xs refusal) same c.in_err-code.ensures.refused in
    let refused : Refuses t refusal = refused_law t (opened_of t reports) (are_opened (loops_of t.block) (block_lines t.block) (loops_of t.block) reports told) refusal given in
    search (rules, refused)

pub returns-clause-headline : goal.returns-clause-headline
returns-clause-headline c =
    let is = made c.args.program.now (loops_seen c.in_ok-tree.tree) (lines_seen c.in_ok-tree.tree) c.in_ok-reports.reports.items c.deref.result.now (code_of c.in_ok-code.code) c.in_ok-tree.ensures.all c.in_ok-tree.ensures.lines c.in_ok-reports.ensures c.deref.ensures.value c.in_ok-code.ensures.code in
    headline_law c.args.program.now c.in_ok-reports.reports.items (code_of c.in_ok-code.code) is

pub returns-clause-ends : goal.returns-clause-ends
returns-clause-ends c =
    let is = made c.args.program.now (loops_seen c.in_ok-tree.tree) (lines_seen c.in_ok-tree.tree) c.in_ok-reports.reports.items c.deref.result.now (code_of c.in_ok-code.code) c.in_ok-tree.ensures.all c.in_ok-tree.ensures.lines c.in_ok-reports.ensures c.deref.ensures.value c.in_ok-code.ensures.code in
    ends_law c.args.program.now c.in_ok-reports.reports.items (code_of c.in_ok-code.code) is

pub returns-clause-bounded : goal.returns-clause-bounded
returns-clause-bounded c =
    let is = made c.args.program.now (loops_seen c.in_ok-tree.tree) (lines_seen c.in_ok-tree.tree) c.in_ok-reports.reports.items c.deref.result.now (code_of c.in_ok-code.code) c.in_ok-tree.ensures.all c.in_ok-tree.ensures.lines c.in_ok-reports.ensures c.deref.ensures.value c.in_ok-code.ensures.code in
    bounded_law c.args.program.now c.in_ok-reports.reports.items (code_of c.in_ok-code.code) is

pub returns-clause-carried : goal.returns-clause-carried
returns-clause-carried c =
    let is = made c.args.program.now (loops_seen c.in_ok-tree.tree) (lines_seen c.in_ok-tree.tree) c.in_ok-reports.reports.items c.deref.result.now (code_of c.in_ok-code.code) c.in_ok-tree.ensures.all c.in_ok-tree.ensures.lines c.in_ok-reports.ensures c.deref.ensures.value c.in_ok-code.ensures.code in
    carried_law c.args.program.now c.in_ok-reports.reports.items (code_of c.in_ok-code.code) is

pub returns-clause-states : goal.returns-clause-states
returns-clause-states c =
    let is = made c.args.program.now (loops_seen c.in_ok-tree.tree) (lines_seen c.in_ok-tree.tree) c.in_ok-reports.reports.items c.deref.result.now (code_of c.in_ok-code.code) c.in_ok-tree.ensures.all c.in_ok-tree.ensures.lines c.in_ok-reports.ensures c.deref.ensures.value c.in_ok-code.ensures.code in
    states_law c.args.program.now c.in_ok-reports.reports.items (code_of c.in_ok-code.code) is

pub returns-clause-on_the_way : goal.returns-clause-on_the_way
returns-clause-on_the_way c =
    let is = made c.args.program.now (loops_seen c.in_ok-tree.tree) (lines_seen c.in_ok-tree.tree) c.in_ok-reports.reports.items c.deref.result.now (code_of c.in_ok-code.code) c.in_ok-tree.ensures.all c.in_ok-tree.ensures.lines c.in_ok-reports.ensures c.deref.ensures.value c.in_ok-code.ensures.code in
    way_law c.args.program.now c.in_ok-reports.reports.items (code_of c.in_ok-code.code) is

pub returns-clause-awaits : goal.returns-clause-awaits
returns-clause-awaits c =
    let is = made c.args.program.now (loops_seen c.in_ok-tree.tree) (lines_seen c.in_ok-tree.tree) c.in_ok-reports.reports.items c.deref.result.now (code_of c.in_ok-code.code) c.in_ok-tree.ensures.all c.in_ok-tree.ensures.lines c.in_ok-reports.ensures c.deref.ensures.value c.in_ok-code.ensures.code in
    awaits_law c.args.program.now c.in_ok-reports.reports.items (code_of c.in_ok-code.code) is
