use Rattle.std.proofs.Common.{List, subst}
use Rattle.ast.specs.ProgramView.{program as program_of}
use Rattle.codegen.specs.declared.reports.LoopReport.{LoopReport}
use Rattle.machine.specs.CodeView.{code_of}
use Rattle.modelled.specs.Modelling.{AreTexts, heads_from}
use Rattle.modelled.proofs.Modelled.{shows}
use Rattle.modelled.proofs.modelling.model_code.Goals as goal

pub returns-in_ok-texts-in-Ok-clause-ok : goal.returns-in_ok-texts-in-Ok-clause-ok
returns-in_ok-texts-in-Ok-clause-ok c =
    let coded = c.args.coded.now in
    let texts = subst (λ (reports : List LoopReport). AreTexts (heads_from 1 reports) c.in-Ok.timed c.in_ok-texts-in-Ok.field-0) c.deref.ensures.value c.in_ok-texts-in-Ok.ensures in
    shows (program_of coded.program) (code_of coded.code) c.args.input.now c.args.pace coded.reports.items c.in-Ok.timed c.in_ok-texts-in-Ok.field-0 c.requires.headline c.requires.reports c.in-Ok.ensures.ok texts
