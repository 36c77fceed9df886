-- What is written of a verdict, and for want of memory.
use Rattle.std.proofs.Common.{◌≡◌, inl, ℕ, Bool, true, false, List, Option, Result, Ok, Err, subst, sym}
use Rattle.std.proofs.KnownBytes.{Keeps-refl}
use Rattle.ast.specs.ProgramView.{program as program_of}
use Rattle.command_output.specs.declared.fault.EngineFault.{EngineFault}
use Rattle.command_output.specs.declared.fault.EngineFault.TheVariants.{Source, Input, Schedule, Writing, Memory, OutOfRange, NotStarted, Stuck}
use Rattle.command_output.specs.declared.outcomes.Outcome.{Outcome}
use Rattle.command_output.specs.declared.outcomes.Outcome.TheVariants.{Completed, Refused, Faulted, NoSchedule}
use Rattle.command_output.specs.declared.status.Status.{Status}
use Rattle.engines.specs.Engines.{Checks, IsRefused, IsVerdict, Tells, Works}
use Rattle.engines.specs.declared.verdict.Verdict.{Verdict}
use Rattle.engines.specs.declared.verdict.Verdict.TheVariants as verdict
use Rattle.doac.specs.Statuses.{Ends, EndsList, exit_of}

-- what is told of a source's verdict is what `check` may write of the source
allowed_by : (source : List ℕ) (v : Verdict) (outcome : Outcome) (text : List ℕ) → IsVerdict source v → Tells v outcome text → Checks source outcome text
allowed_by source (verdict.Accepted program) Completed text judged told = record { tree = program_of program; reads = judged; line = told }
allowed_by source (verdict.Accepted program) (Refused rule line) text judged told = absurd told
allowed_by source (verdict.Accepted program) (Faulted fault line) text judged told = absurd told
allowed_by source (verdict.Refused rule line) Completed text judged told = absurd told
allowed_by source (verdict.Refused rule line) (Refused n l) text judged told =
    let shown : IsRefused source rule line text = record { refusal = judged; shown = told.2 } in
    subst (λ m. IsRefused source m l text) (sym told.0) (subst (λ m. IsRefused source rule m text) (sym told.1) shown)
allowed_by source (verdict.Refused rule line) (Faulted fault l) text judged told = absurd told
allowed_by source (verdict.Accepted program) (NoSchedule flaw line) text judged told = absurd told
allowed_by source (verdict.Refused rule line) (NoSchedule n l) text judged told = absurd told

pub of_verdict : (source : List ℕ) (v : Verdict) (old new : Option (List ℕ)) (r : Result Outcome EngineFault) → IsVerdict source v
    → Works (Tells v) old new r → Works (Checks source) old new r
of_verdict source v old new (Ok outcome) judged wrote =
    record { text = wrote.text; allowed = allowed_by source v outcome wrote.text judged wrote.allowed; grown = wrote.grown }
of_verdict source v old new (Err (Source e)) judged wrote = wrote
of_verdict source v old new (Err (Input e)) judged wrote = wrote
of_verdict source v old new (Err (Schedule e)) judged wrote = wrote
of_verdict source v old new (Err (Writing e)) judged wrote =
    record { outcome = wrote.outcome; text = wrote.text; allowed = allowed_by source v wrote.outcome wrote.text judged wrote.allowed; grown = wrote.grown }
of_verdict source v old new (Err Memory) judged wrote = wrote
of_verdict source v old new (Err OutOfRange) judged wrote = wrote
of_verdict source v old new (Err NotStarted) judged wrote = wrote
of_verdict source v old new (Err Stuck) judged wrote = wrote

-- for want of memory nothing is written
pub of_nothing : (allows : Outcome → List ℕ → Type 0) (old : Option (List ℕ)) (status : Status) → status ≡ exit_of (Err Memory) → Ends allows old old status
of_nothing allows old status is = record { came = Err Memory; works = Keeps-refl old; is = is }

pub list_nothing : (why : Bool) (source : List ℕ) (old : Option (List ℕ)) (status : Status) → status ≡ exit_of (Err Memory) → EndsList why source old old status
list_nothing true source old status is = record { came = Err Memory; writes = inl (Keeps-refl old); is = is }
list_nothing false source old status is = record { came = Err Memory; writes = Keeps-refl old; is = is }
