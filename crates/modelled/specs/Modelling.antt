-- What `model` shows of a source and an input.
use Rattle.std.specs.Prelude.{◌≡◌, ◌≤◌, ◌+◌, ◌⊎◌, ⊤, ℕ, suc, false, if◌then◌else◌, is_some, codes}
use Rattle.std.specs.Prelude.{List, [], ◌∷◌, ◌++◌, Option, Some, None, IfSome, Vec, option_map}
use Rattle.std.specs.Global.{Global}
use Rattle.ast.specs.Meaning.{seq}
use Rattle.ast.specs.Program.{ProgramTree}
use Rattle.ast.specs.declared.answer.Answer.{Answer}
use Rattle.codegen.specs.Headline.{Agrees}
use Rattle.codegen.specs.Reports.{Reports}
use Rattle.codegen.specs.declared.reports.LoopReport.{LoopReport}
use Rattle.dependence.specs.PlanView.{plan_of}
use Rattle.machine.specs.Code.{Code}
use Rattle.model_time.specs.Timed.{IsTimed}
use Rattle.model_time.specs.declared.pace.Pace.{Pace}
use Rattle.model_time.specs.declared.timed.Timed.{Timed}
use Rattle.command_output.specs.Outcomes.{outcome_of}
use Rattle.command_output.specs.Shown.{EndShown, Extends}
use Rattle.command_output.specs.declared.fault.EngineFault.{EngineFault}
use Rattle.command_output.specs.declared.fault.EngineFault.TheVariants as faults
use Rattle.command_output.specs.declared.outcomes.Outcome.{Outcome}
use Rattle.command_output.specs.declared.outcomes.Outcome.TheVariants.{Completed}
use Rattle.schedules.specs.Schedules.{SchedText, Schedule}
use Rattle.engines.specs.Prepared.{IsUncoded, WithCode}
use Rattle.modelled.specs.Lines.{loop_lines, program_line}
use Rattle.modelled.specs.declared.heads.Head.{Head}
use Rattle.modelled.specs.declared.modelling.Timing.{Timing}

-- the loops that the code opens, of which the first has this number
abbrev pub heads_from : ℕ → List LoopReport → List Head
heads_from n [] = []
heads_from n (r ∷ rs) =
    if is_some (plan_of r.plan) then record { number = n; line = r.line } ∷ heads_from (suc n) rs
    else heads_from (suc n) rs

-- what follows the figures: what follows the records of a run that has ended, or that it hasn't
abbrev pub EndsSo : Option Answer → List ℕ → Type 0
EndsSo None text = text ≡ codes "NOT ENDED\n"
EndsSo (Some answer) text = EndShown false [] answer.end text

-- the outcome of a run, also of one that hasn't ended
abbrev pub outcome_with : Option Answer → Outcome
outcome_with None = Completed
outcome_with (Some answer) = outcome_of answer.end

-- The figures of a run are shown, those of the whole first, and then those of its loops.
pub record IsShown (heads : List Head) (x : Timed) (outcome : Outcome)
    (text : List ℕ) : Type 0 where
  pub ended : outcome ≡ outcome_with x.answer
  pub shown :
      Extends (EndsSo x.answer) (program_line x.program ++ loop_lines heads x.loops.items) text

abbrev pub text_of : Option (Vec ℕ Global) → Option (List ℕ)
text_of = option_map (λ v. v.items)

-- a text is there exactly where a schedule is, and is that of it
abbrev pub IsTextOf : Option Schedule → Option (List ℕ) → Type 0
IsTextOf None None = ⊤
IsTextOf (Some x) (Some text) = SchedText x text
IsTextOf _ _ = ⊥

-- a run is shown, and its schedule is there as it is written, if it was kept
abbrev pub AreTexts : List Head → Timed → Timing → Type 0
AreTexts heads x t =
    IsShown heads x t.page.outcome t.page.text.items × IsTextOf x.schedule (text_of t.schedule)

-- A run of code in model time is shown, of the loops that the program's reports say are opened. The
-- state to which it and its schedule lead agrees with the sequential program: where it has ended it
-- has as that does, and where it hasn't, at least as many steps were made as were to be.
pub record ShowsModel (tree : ProgramTree) (code : Code) (input : List ℕ) (pace : Pace)
    (t : Timing) : Type 0 where
  pub reports : List LoopReport
  pub are : Reports tree reports
  pub timed : Timed
  pub is : IsTimed code input pace timed
  pub texts : AreTexts (heads_from 1 reports) timed t
  pub agrees : Agrees code tree input pace.processors pace.slots is.point.machine
  pub sequential : IfSome timed.answer (λ answer. answer.end ≡ (seq tree input).end)
  pub left : timed.answer ≡ None → pace.most ≤ timed.program.steps + timed.program.again

-- What `model` may come to with a source and an input: a run of its code is shown; or the source's
-- refusal, and there is no schedule.
abbrev pub Modelling : Pace → (source input : List ℕ) → Timing → Type 0
Modelling pace source input t =
    WithCode source (λ tree code. ShowsModel tree code input pace t)
    ⊎ (IsUncoded source t.page.outcome t.page.text.items × (t.schedule ≡ None))

-- nothing is shown: there was no memory, or the numbers are out of range
abbrev pub IsEarly : EngineFault → Type 0
IsEarly faults.Memory = ⊤
IsEarly faults.OutOfRange = ⊤
IsEarly _ = ⊥
