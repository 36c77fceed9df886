-- What is told of a prepared source's loops is what `list` may write of the source.
use Rattle.std.proofs.Common.{ℕ, IfErr, IfOk, List, Option, Result, Ok, Err, inl, inr, refl, subst, sym}
use Rattle.std.specs.Prelude.{◌≡◌, Bool, true, false}
use Rattle.std.specs.Io.KnownBytes.{Appends}
use Rattle.ast.specs.Program.{ProgramTree}
use Rattle.ast.specs.ProgramView.{program as program_of}
use Rattle.codegen.specs.declared.reports.LoopReport.{LoopReport}
use Rattle.record_writer.specs.Written.{AppendsPart}
use Rattle.machine.specs.CodeView.{code_of}
use Rattle.command_output.specs.Outcomes.{IsWriting}
use Rattle.command_output.specs.declared.fault.EngineFault.{EngineFault}
use Rattle.command_output.specs.declared.fault.EngineFault.TheVariants.{Source, Input, Schedule, Writing, Memory, OutOfRange, NotStarted, Stuck}
use Rattle.command_output.specs.declared.outcomes.Outcome.{Outcome}
use Rattle.command_output.specs.declared.outcomes.Outcome.TheVariants.{Completed, Refused, Faulted, NoSchedule}
use Rattle.command_output.specs.declared.page.Page.{Page}
use Rattle.engines.specs.Engines.{Works}
use Rattle.engines.specs.Listing.{Lines, LinesWhy}
use Rattle.engines.specs.Explained.{StreamsLoops}
use Rattle.engines.specs.Lists.{IsReported, Lists, ListsBy, StreamsList, StreamsWhy, TellsBy, TellsLoops, WritesList, WritesLoops}
use Rattle.engines.specs.Prepared.{IsCoded, IsPrepared, IsUncoded}
use Rattle.engines.specs.declared.prepared.Coded.{Coded}
use Rattle.engines.specs.declared.prepared.Prepared.{Prepared}
use Rattle.engines.specs.declared.prepared.Prepared.TheVariants as prepared

-- a prepared program's reports are those of its source
pub of_coded : (source : List ℕ) (x : Coded) → IsCoded source x → IsReported source (program_of x.program) x.reports.items
of_coded source x is = record { reads = is.reads; code = code_of x.code; compiled = is.compiled; are = is.reports }

-- a line of a refusal is what `list` may write of the source
of_refusal : (L : ℕ → LoopReport → List ℕ → Type 0) (source : List ℕ) (outcome : Outcome) (text : List ℕ) → IsUncoded source outcome text → ListsBy L source outcome text
of_refusal L source Completed text is = absurd is
of_refusal L source (Refused rule line) text is = is
of_refusal L source (Faulted fault line) text is = absurd is
of_refusal L source (NoSchedule flaw line) text is = absurd is

-- and that of a page is the page's
of_page : (L : ℕ → LoopReport → List ℕ → Type 0) (source : List ℕ) (page : Page) (outcome : Outcome) (text : List ℕ) → IsUncoded source page.outcome page.text.items
    → (outcome ≡ page.outcome) × (text ≡ page.text.items) → ListsBy L source outcome text
of_page L source page outcome text is told =
    of_refusal L source outcome text
    (subst (λ (o : Outcome). IsUncoded source o text) (sym told.0) (subst (λ (t : List ℕ). IsUncoded source page.outcome t) (sym told.1) is))

listed_by : (L : ℕ → LoopReport → List ℕ → Type 0) (source : List ℕ) (s : Prepared) (outcome : Outcome) (text : List ℕ) → IsPrepared source s → TellsBy L s outcome text → ListsBy L source outcome text
listed_by L source (prepared.Coded x) Completed text is told =
    record { tree = program_of x.program; reports = x.reports.items; reported = of_coded source x is; listing = told }
listed_by L source (prepared.Coded x) (Refused rule line) text is told = absurd told
listed_by L source (prepared.Coded x) (Faulted fault line) text is told = absurd told
listed_by L source (prepared.Coded x) (NoSchedule flaw line) text is told = absurd told
listed_by L source (prepared.Refused page) outcome text is told = of_page L source page outcome text is told

pub of_prepared_by : (L : ℕ → LoopReport → List ℕ → Type 0) (source : List ℕ) (s : Prepared) (old new : Option (List ℕ)) (r : Result Outcome EngineFault) → IsPrepared source s
    → Works (TellsBy L s) old new r → Works (ListsBy L source) old new r
of_prepared_by L source s old new (Ok outcome) is wrote =
    record { text = wrote.text; allowed = listed_by L source s outcome wrote.text is wrote.allowed; grown = wrote.grown }
of_prepared_by L source s old new (Err (Source e)) is wrote = wrote
of_prepared_by L source s old new (Err (Input e)) is wrote = wrote
of_prepared_by L source s old new (Err (Schedule e)) is wrote = wrote
of_prepared_by L source s old new (Err (Writing e)) is wrote =
    record { outcome = wrote.outcome; text = wrote.text; allowed = listed_by L source s wrote.outcome wrote.text is wrote.allowed; grown = wrote.grown }
of_prepared_by L source s old new (Err Memory) is wrote = wrote
of_prepared_by L source s old new (Err OutOfRange) is wrote = wrote
of_prepared_by L source s old new (Err NotStarted) is wrote = wrote
of_prepared_by L source s old new (Err Stuck) is wrote = wrote

pub of_prepared : (source : List ℕ) (s : Prepared) (old new : Option (List ℕ)) (r : Result Outcome EngineFault) → IsPrepared source s
    → Works (TellsLoops s) old new r → Works (Lists source) old new r
of_prepared = of_prepared_by Lines

-- the page of a refused source is told as it is
pub of_written_page : (page : Page) (old new : Option (List ℕ)) (r : Result Outcome EngineFault)
    → IfOk r (λ outcome. (outcome ≡ page.outcome) × Appends old new page.text.items)
    → IfErr r (λ fault. IsWriting fault × AppendsPart old new page.text.items) → Works (TellsLoops (prepared.Refused page)) old new r
of_written_page page old new (Ok outcome) ok err = record { text = page.text.items; allowed = (ok.0, refl); grown = ok.1 }
of_written_page page old new (Err (Writing e)) ok err = record { outcome = page.outcome; text = page.text.items; allowed = (refl, refl); grown = err.1 }
of_written_page page old new (Err (Source e)) ok err = absurd err.0
of_written_page page old new (Err (Input e)) ok err = absurd err.0
of_written_page page old new (Err (Schedule e)) ok err = absurd err.0
of_written_page page old new (Err Memory) ok err = absurd err.0
of_written_page page old new (Err OutOfRange) ok err = absurd err.0
of_written_page page old new (Err NotStarted) ok err = absurd err.0
of_written_page page old new (Err Stuck) ok err = absurd err.0

-- ---- with `--why`, by what is written of the program's loops

of_loops : (source : List ℕ) (tree : ProgramTree) (reports : List LoopReport) (old new : Option (List ℕ)) (r : Result Outcome EngineFault) → IsReported source tree reports → StreamsLoops reports old new r → StreamsList source old new r
of_loops source tree reports old new (Ok outcome) is wrote =
    record { text = wrote.1.0; allowed = subst (λ (o : Outcome). ListsBy LinesWhy source o wrote.1.0) (sym wrote.0) (record { tree = tree; reports = reports; reported = is; listing = wrote.1.1 }); grown = wrote.1.2 }
of_loops source tree reports old new (Err (Source e)) is wrote = wrote
of_loops source tree reports old new (Err (Input e)) is wrote = wrote
of_loops source tree reports old new (Err (Schedule e)) is wrote = wrote
of_loops source tree reports old new (Err (Writing e)) is wrote = inr (record { tree = tree; reports = reports; reported = is; grew = wrote })
of_loops source tree reports old new (Err Memory) is wrote = inr (record { tree = tree; reports = reports; reported = is; grew = wrote })
of_loops source tree reports old new (Err OutOfRange) is wrote = wrote
of_loops source tree reports old new (Err NotStarted) is wrote = wrote
of_loops source tree reports old new (Err Stuck) is wrote = wrote

of_refused : (source : List ℕ) (page : Page) (old new : Option (List ℕ)) (r : Result Outcome EngineFault) → IsUncoded source page.outcome page.text.items → Works (TellsLoops (prepared.Refused page)) old new r → StreamsList source old new r
of_refused source page old new (Ok outcome) is wrote = record { text = wrote.text; allowed = of_page LinesWhy source page outcome wrote.text is wrote.allowed; grown = wrote.grown }
of_refused source page old new (Err (Source e)) is wrote = wrote
of_refused source page old new (Err (Input e)) is wrote = wrote
of_refused source page old new (Err (Schedule e)) is wrote = wrote
of_refused source page old new (Err (Writing e)) is wrote =
    inl (record { outcome = wrote.outcome; text = wrote.text; allowed = of_page LinesWhy source page wrote.outcome wrote.text is wrote.allowed; grown = wrote.grown })
of_refused source page old new (Err Memory) is wrote = inl wrote
of_refused source page old new (Err OutOfRange) is wrote = wrote
of_refused source page old new (Err NotStarted) is wrote = wrote
of_refused source page old new (Err Stuck) is wrote = wrote

of_prepared_why : (source : List ℕ) (s : Prepared) (old new : Option (List ℕ)) (r : Result Outcome EngineFault) → IsPrepared source s → StreamsWhy s old new r → StreamsList source old new r
of_prepared_why source (prepared.Coded x) old new r is wrote = of_loops source (program_of x.program) x.reports.items old new r (of_coded source x is) wrote
of_prepared_why source (prepared.Refused page) old new r is wrote = of_refused source page old new r is wrote

-- with what `--why` adds or without
pub of_prepared_as : (why : Bool) (source : List ℕ) (s : Prepared) (old new : Option (List ℕ)) (r : Result Outcome EngineFault) → IsPrepared source s
    → WritesLoops why s old new r → WritesList why source old new r
of_prepared_as true = of_prepared_why
of_prepared_as false = of_prepared_by Lines
