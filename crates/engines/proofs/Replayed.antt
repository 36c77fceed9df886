-- What is shown of a replay is what the sequential program prints, and how it ends.
use Rattle.std.proofs.Common.{inl, inr, ◌≡◌, ◌∙◌, ◌⊎◌, false, List, [], ℕ, ◌++◌, ap, map, refl, subst, sym}
use Rattle.std.proofs.lemmas.Option.{same_Some}
use Rattle.ast.specs.Meaning.{seq}
use Rattle.ast.specs.Program.{ProgramTree}
use Rattle.ast.specs.ProgramView.{program as program_of}
use Rattle.ast.specs.declared.answer.Answer.{Answer}
use Rattle.ast.specs.declared.fault.End.{End}
use Rattle.ast.specs.declared.fault.End.TheVariants.{Done, Stopped, Fault as FaultedAt}
use Rattle.codegen.specs.Headline.{Headline}
use Rattle.machine.specs.Code.{Code}
use Rattle.machine.specs.CodeView.{code_of}
use Rattle.machine.specs.State.{Ended}
use Rattle.replay.proofs.Running.{is_run}
use Rattle.replay.specs.Replayed.{GivesNone, HasStop, IsReplay}
use Rattle.schedules.specs.Schedules.{IsSchedule, Schedule}
use Rattle.schedules.specs.declared.flaw.Flaw.{Flaw}
use Rattle.schedules.specs.declared.flaw.Flaw.TheVariants.{BehindEnd, Entry, Header, Impossible, Processor, Unended}
use Rattle.command_output.specs.Outcomes.{outcome_of}
use Rattle.command_output.specs.Shown.{EndShown, Extends, Row, no_schedule, row_of}
use Rattle.command_output.specs.declared.outcomes.Outcome.{Outcome}
use Rattle.command_output.specs.declared.outcomes.Outcome.TheVariants.{NoSchedule}
use Rattle.engines.specs.Prepared.{IsDescribedRun, IsLine, IsStop, WithRun}
use Rattle.engines.specs.Schedules.{IsReplayed, Replaying}
use Rattle.engines.specs.Timeline.{IsBegun, IsTimed}
use Rattle.engines.specs.declared.prepared.Run.{Run}

-- without a store the rows don't count
any_rows : (e : End) (old new : List Row) (text : List ℕ) → EndShown false old e text → EndShown false new e text
any_rows Done old new text h = h
any_rows (Stopped line) old new text h = h
any_rows (FaultedAt fault line) old new text h = h

-- a run that a schedule leads to an answer ends as the sequential program does
ended_so : (tree : ProgramTree) (code : Code) (input : List ℕ) (x : Schedule) (answer : Answer) → Headline code tree → IsSchedule x → (r : IsReplay code input x answer)
    → Ended r.point.machine (seq tree input).output (seq tree input).end (seq tree input).store
ended_so tree code input x answer headline kept r =
    let run = is_run code input x r.point kept r.replays in
    let agrees = headline input x.processors x.slots run.0 r.point.machine kept.0 run.1 in
    agrees.answer answer.end r.is.end

-- what is shown of its answer
replayed : (tree : ProgramTree) (code : Code) (input : List ℕ) (x : Schedule) (answer : Answer) (outcome : Outcome) (text : List ℕ) → Headline code tree → IsSchedule x → IsReplay code input x answer
    → outcome ≡ outcome_of answer.end → Extends (EndShown false [] answer.end) answer.output.items text → IsReplayed tree code input x outcome text
replayed tree code input x answer outcome text headline kept r ended more =
    let end = ended_so tree code input x answer headline kept r in
    let same : answer.end ≡ (seq tree input).end = same_Some answer.end (seq tree input).end (sym r.is.end ∙ end.is) in
    let rows = map (row_of (seq tree input).store) tree.symbols in
    record {
      point = r.point;
      replays = r.replays;
      ended = end.is;
      run = record {
        ended = ended ∙ ap outcome_of same;
        shown = record {
          last = more.last;
          ends = subst (λ (e : End). EndShown false rows e more.last) same (any_rows answer.end [] rows more.last more.fits);
          whole = more.grown ∙ ap (λ (out : List ℕ). out ++ more.last) (r.is.output ∙ end.printed);
        };
      };
    }

-- ---- of a run that is described

-- what holds of the program, the code and the schedule of a run
pub with_run : (source schedule : List ℕ) (x : Run) (P : ProgramTree → Code → Schedule → Type 0) → IsDescribedRun source schedule x → P (program_of x.coded.program) (code_of x.coded.code) x.schedule → WithRun source schedule P
with_run source schedule x P is holds = record {
  tree = program_of x.coded.program;
  code = code_of x.coded.code;
  reads = is.coded.reads;
  compiled = is.coded.compiled;
  holds = (x.schedule, is.spelled, holds);
}

pub replaying : (source input schedule : List ℕ) (x : Run) (answer : Answer) (outcome : Outcome) (text : List ℕ) → IsDescribedRun source schedule x → IsReplay (code_of x.coded.code) input x.schedule answer
    → outcome ≡ outcome_of answer.end → Extends (EndShown false [] answer.end) answer.output.items text → Replaying source input schedule outcome text
replaying source input schedule x answer outcome text is r ended more =
    inl (with_run source schedule x (λ tree code run. IsReplayed tree code input run outcome text) is
    (replayed (program_of x.coded.program) (code_of x.coded.code) input x.schedule answer outcome text is.coded.headline is.spelled.schedule r ended more))

-- the line of a replay that is refused
pub unreplayed : (source input schedule : List ℕ) (x : Run) (flaw : Flaw) (line : ℕ) (outcome : Outcome) (text : List ℕ) → IsDescribedRun source schedule x → GivesNone (code_of x.coded.code) input x.schedule flaw line → outcome ≡ NoSchedule flaw line
    → text ≡ no_schedule flaw line → Replaying source input schedule outcome text
unreplayed source input schedule x flaw line outcome text is cause so shown =
    inr (inr (with_run source schedule x (λ tree code run. IsStop GivesNone code input run outcome text) is
    (subst (λ (o : Outcome). IsStop GivesNone (code_of x.coded.code) input x.schedule o text) (sym so) (cause, shown))))

-- a schedule that is refused, but not since its run hasn't ended, has an entry that can't be made
stops : (code : Code) (input : List ℕ) (x : Schedule) (flaw : Flaw) (line : ℕ) → (flaw ≡ Unended → ⊥) → GivesNone code input x flaw line → HasStop code input x flaw line
stops code input x Header line other cause = cause
stops code input x Entry line other cause = cause
stops code input x Processor line other cause = cause
stops code input x Impossible line other cause = cause
stops code input x Unended line other cause = absurd (other refl)
stops code input x BehindEnd line other cause = cause

-- the line in place of a picture of a run
pub unpictured : (source input schedule : List ℕ) (x : Run) (flaw : Flaw) (line : ℕ) (outcome : Outcome) (text : List ℕ) → IsDescribedRun source schedule x → (flaw ≡ Unended → ⊥) → GivesNone (code_of x.coded.code) input x.schedule flaw line
    → outcome ≡ NoSchedule flaw line → text ≡ no_schedule flaw line → IsLine HasStop source input schedule outcome text
unpictured source input schedule x flaw line outcome text is other cause so shown =
    inr (with_run source schedule x (λ tree code run. IsStop HasStop code input run outcome text) is
    (subst (λ (o : Outcome). IsStop HasStop (code_of x.coded.code) input x.schedule o text) (sym so) (stops (code_of x.coded.code) input x.schedule flaw line other cause, shown)))

-- what a schedule that leads to an answer leads to
pub timed : (source input schedule : List ℕ) (x : Run) (answer : Answer) → IsDescribedRun source schedule x → IsReplay (code_of x.coded.code) input x.schedule answer
    → WithRun source schedule (λ tree code run. IsTimed tree code input run ⊎ IsBegun code input run)
timed source input schedule x answer is r =
    with_run source schedule x (λ tree code run. IsTimed tree code input run ⊎ IsBegun code input run) is
    (inl (record { point = r.point; replays = r.replays; ended = (ended_so (program_of x.coded.program) (code_of x.coded.code) input x.schedule answer is.coded.headline is.spelled.schedule r).is }))
