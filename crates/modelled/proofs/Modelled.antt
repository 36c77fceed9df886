-- What a run in model time shows is what the sequential program comes to.
use Rattle.std.proofs.Common.{inl, inr, ◌≡◌, ◌∙◌, ◌+◌, ℕ, List, Option, Some, None, sym}
use Rattle.std.specs.Prelude.{◌≤◌, ◌⊎◌, IfSome}
use Rattle.std.proofs.lemmas.Option.{same_Some}
use Rattle.ast.specs.Meaning.{seq}
use Rattle.ast.specs.Program.{ProgramTree}
use Rattle.ast.specs.declared.answer.Answer.{Answer}
use Rattle.codegen.specs.Headline.{Agrees, Headline}
use Rattle.codegen.specs.Reports.{Reports}
use Rattle.codegen.specs.declared.reports.LoopReport.{LoopReport}
use Rattle.machine.specs.Code.{Code}
use Rattle.machine.specs.State.{Machine}
use Rattle.model_time.specs.Timed.{Answers, IsTimed}
use Rattle.model_time.specs.Units.{MayLeave, NoneSteps}
use Rattle.model_time.specs.declared.figures.Figures.{Figures}
use Rattle.model_time.specs.declared.pace.Pace.{Pace}
use Rattle.model_time.specs.declared.timed.Timed.{Timed}
use Rattle.modelled.specs.Modelling.{AreTexts, ShowsModel, heads_from}
use Rattle.modelled.specs.declared.modelling.Timing.{Timing}

-- where the run has ended it has as the sequential program does
ended_so : (tree : ProgramTree) (code : Code) (input : List ℕ) (p s : ℕ) (m : Machine) → Agrees code tree input p s m → (o : Option Answer) → Answers code m o → IfSome o (λ answer. answer.end ≡ (seq tree input).end)
ended_so tree code input p s m agrees None h = tt
ended_so tree code input p s m agrees (Some answer) h =
    let ended = agrees.answer answer.end h.end in
    same_Some answer.end (seq tree input).end (sym h.end ∙ ended.is)

-- where there is no answer it hasn't
going : (code : Code) (m : Machine) (o : Option Answer) → Answers code m o → o ≡ None → m.ended ≡ None
going code m None h e = h
going code m (Some answer) h e = cc

-- it is left then for the steps that were made, since there always is another one
left_so : (tree : ProgramTree) (code : Code) (input : List ℕ) (p s most : ℕ) (m : Machine) (f : Figures) → Agrees code tree input p s m → MayLeave code p s most m f → m.ended ≡ None → most ≤ f.steps + f.again
left_so tree code input p s most m f agrees may e = by (may e)
  where
    by : (most ≤ f.steps + f.again) ⊎ NoneSteps code p s m → most ≤ f.steps + f.again
    by (inl h) = h
    by (inr none) = let next = agrees.next e in absurd (none next.0 next.1 next.2 next.3)

pub shows : (tree : ProgramTree) (code : Code) (input : List ℕ) (pace : Pace) (reports : List LoopReport) (x : Timed) (t : Timing) → Headline code tree → Reports tree reports → IsTimed code input pace x → AreTexts (heads_from 1 reports) x t
    → ShowsModel tree code input pace t
shows tree code input pace reports x t headline are is texts =
    let m : Machine = is.point.machine in
    let agrees : Agrees code tree input pace.processors pace.slots m = headline input pace.processors pace.slots is.reached.turns m is.sizes is.reached.run in
    record {
      reports = reports;
      are = are;
      timed = x;
      is = is;
      texts = texts;
      agrees = agrees;
      sequential = ended_so tree code input pace.processors pace.slots m agrees x.answer is.answers;
      left = λ none. left_so tree code input pace.processors pace.slots pace.most m x.program agrees is.left (going code m x.answer is.answers none);
    }
