-- Pages.
use Rattle.std.proofs.Common.{◌≡◌, ℕ, ◌+◌, ◌<◌, Bool, List, [], Option, Result, Ok, Err, length, take, map, ap, refl, sym, subst, ◌++◌, ◌∙◌, append-nil, arith, inl, inr}
use Rattle.std.specs.Io.KnownBytes.{Appends}
use Rattle.std.proofs.KnownBytes.{Appends-kept, Appends-trans}
use Rattle.std.proofs.Math.Seq.{take-append-add}
use Rattle.std.proofs.lemmas.List.{length-append, length-map}
use Rattle.ast.specs.Answers.{Fails}
use Rattle.ast.specs.Meaning.{seq}
use Rattle.ast.specs.Program.{ProgramTree}
use Rattle.ast.specs.Symbols.{cell_of}
use Rattle.ast.specs.View.{cells}
use Rattle.ast.specs.declared.fault.End.{End}
use Rattle.ast.specs.declared.fault.End.TheVariants.{Done, Stopped, Fault as FaultedAt}
use Rattle.ast.specs.declared.refusal.Refusal.TheVariants.{Refused as RefusedAt}
use Rattle.ast.specs.declared.rule.Rule.{Rule}
use Rattle.interpreter.specs.Answers.{Streams as Ended}
use Rattle.record_writer.specs.Written.{AppendsPart}
use Rattle.interpreter.specs.declared.run_end.RunEnd.{RunEnd}
use Rattle.interpreter.specs.declared.run_end.RunFault.{RunFault}
use Rattle.interpreter.specs.declared.run_end.RunFault.TheVariants as run_faults
use Rattle.profile_check.specs.Causes.{Refuses}
use Rattle.profile_check.specs.Reads.{Reads}
use Rattle.command_output.specs.Outcomes.{outcome_of}
use Rattle.command_output.specs.Shown.{EndShown, Extends, Row, refused, row_of}
use Rattle.command_output.specs.View.{rows_from}
use Rattle.command_output.specs.declared.fault.EngineFault.{EngineFault}
use Rattle.command_output.specs.declared.fault.EngineFault.TheVariants.{Source, Input, Schedule, Writing, Memory, OutOfRange, NotStarted, Stuck}
use Rattle.command_output.specs.declared.outcomes.Outcome.{Outcome}
use Rattle.command_output.specs.declared.outcomes.Outcome.TheVariants.{Refused}
use Rattle.command_output.proofs.StoreRows.{rows_whole}
use Rattle.engines.specs.Engines.{FollowsRecords, IsRefusal, IsRun, Runs, ShowsRun, Streaming, Works, engine_fault}

-- the store at the end of a run has a cell for each symbol
pub cells_fit : (program : ProgramTree) (input : List ℕ) (ended : RunEnd) (old new : Option (List ℕ)) → Ended program input old new (Ok ended) → length (cells ended.store) ≡ length program.symbols
cells_fit program input ended old new h = ap length h.2 ∙ length-map program.symbols (cell_of (seq program input).store)

-- a text that grew from nothing is of its kind
pub extends_first : (kind : List ℕ → Type 0) (old new : List ℕ) → Extends kind old new → old ≡ [] → kind new
extends_first kind old new more empty = subst kind (sym (more.grown ∙ ap (λ (z : List ℕ). z ++ more.last) empty)) more.fits

-- a run is one that `seq` may show
runs_so : (store : Bool) (source input : List ℕ) (end : End) (text : List ℕ) → IsRun store source input (outcome_of end) text → Runs store source input (outcome_of end) text
runs_so store source input Done text h = h
runs_so store source input (Stopped line) text h = h
runs_so store source input (FaultedAt fault line) text h = h

-- what follows the records is shown behind them
shown_behind : (store : Bool) (source input : List ℕ) (program : ProgramTree) (ended : RunEnd) (old mid : Option (List ℕ)) (outcome : Outcome) (last : List ℕ)
    → Reads source program → Ended program input old mid (Ok ended) → FollowsRecords store program.symbols ended outcome last → Runs store source input outcome ((seq program input).output ++ last)
shown_behind store source input program ended old mid outcome last reads h follows =
    let run = seq program input in
    let rows : rows_from (cells ended.store) 0 program.symbols ≡ map (row_of run.store) program.symbols =
    ap (λ cs. rows_from cs 0 program.symbols) h.2 ∙ rows_whole run.store program.symbols in
    let fits = subst (λ (rs : List Row). EndShown store rs ended.end last) rows follows.1 in
    let is : outcome ≡ outcome_of run.end = follows.0 ∙ ap outcome_of h.1 in
    let shown : ShowsRun store program input (outcome_of run.end) (run.output ++ last) = record {
      ended = refl;
      shown = record {
        last = last;
        ends = subst (λ (e : End). EndShown store (map (row_of run.store) program.symbols) e last) h.1 fits;
        whole = refl;
      };
    } in
    subst (λ (o : Outcome). Runs store source input o (run.output ++ last)) (sym is)
    (runs_so store source input run.end (run.output ++ last) (record { tree = program; reads = reads; run = shown }))

part_behind : (old mid new : Option (List ℕ)) (out last : List ℕ) → Appends old mid out → AppendsPart mid new last → AppendsPart old new (out ++ last)
part_behind old mid new out last h part =
    let few = part.1 in
    let is = length-append out last in
    let fewer : length out + part.0 < length (out ++ last) = omega (arith, few, is) in
    (length out + part.0, fewer, subst (Appends old new) (sym (take-append-add out last part.0)) (Appends-trans old mid new out (take part.0 last) h part.2))

-- the records of a run were written, and then what follows them, or not
pub streams_on : (store : Bool) (source input : List ℕ) (program : ProgramTree) (ended : RunEnd) (old mid new : Option (List ℕ)) (came : Result Outcome EngineFault)
    → Reads source program → Ended program input old mid (Ok ended) → Works (FollowsRecords store program.symbols ended) mid new came → Streaming store source input old new came
streams_on store source input program ended old mid new (Ok outcome) reads h w = record {
  text = (seq program input).output ++ w.text;
  allowed = shown_behind store source input program ended old mid outcome w.text reads h w.allowed;
  grown = Appends-trans old mid new (seq program input).output w.text h.0 w.grown;
}
streams_on store source input program ended old mid new (Err (Writing e)) reads h w = inl (record {
  outcome = w.outcome;
  text = (seq program input).output ++ w.text;
  allowed = shown_behind store source input program ended old mid w.outcome w.text reads h w.allowed;
  grown = part_behind old mid new (seq program input).output w.text h.0 w.grown;
})
streams_on store source input program ended old mid new (Err Memory) reads h w = inr (record {
  tree = program;
  reads = reads;
  got = (seq program input).output;
  so = ([], sym (append-nil (seq program input).output));
  grown = Appends-kept old mid new (seq program input).output h.0 w;
})
streams_on store source input program ended old mid new (Err (Source e)) reads h w = w
streams_on store source input program ended old mid new (Err (Input e)) reads h w = w
streams_on store source input program ended old mid new (Err (Schedule e)) reads h w = w
streams_on store source input program ended old mid new (Err OutOfRange) reads h w = w
streams_on store source input program ended old mid new (Err NotStarted) reads h w = w
streams_on store source input program ended old mid new (Err Stuck) reads h w = w

-- a run came to no end
pub streams_halted : (store : Bool) (source input : List ℕ) (program : ProgramTree) (fault : RunFault) (old new : Option (List ℕ))
    → Reads source program → Ended program input old new (Err fault) → Streaming store source input old new (Err (engine_fault fault))
streams_halted store source input program run_faults.Memory old new reads h =
    inr (record { tree = program; reads = reads; got = h.0; so = h.2; grown = h.1 })
streams_halted store source input program (run_faults.Writing e) old new reads h =
    inr (record { tree = program; reads = reads; got = h.0; so = h.2; grown = h.1 })

refused_so : (store : Bool) (source input : List ℕ) (rule : Rule) (line : ℕ) (outcome : Outcome) (text : List ℕ) → IsRefusal source rule line → (outcome ≡ Refused rule line) × (text ≡ refused rule line) → Runs store source input outcome text
refused_so store source input rule line outcome text refusal is =
    subst (λ (o : Outcome). Runs store source input o text) (sym is.0) (record { refusal = refusal; shown = is.1 })

-- a source is refused
pub streams_refused : (store : Bool) (source input : List ℕ) (rule : Rule) (line : ℕ) (old new : Option (List ℕ)) (came : Result Outcome EngineFault)
    → IsRefusal source rule line → Works (λ outcome text. (outcome ≡ Refused rule line) × (text ≡ refused rule line)) old new came → Streaming store source input old new came
streams_refused store source input rule line old new (Ok outcome) refusal w = record { text = w.text; allowed = refused_so store source input rule line outcome w.text refusal w.allowed; grown = w.grown }
streams_refused store source input rule line old new (Err (Writing e)) refusal w = inl (record { outcome = w.outcome; text = w.text; allowed = refused_so store source input rule line w.outcome w.text refusal w.allowed; grown = w.grown })
streams_refused store source input rule line old new (Err Memory) refusal w = inl w
streams_refused store source input rule line old new (Err (Source e)) refusal w = w
streams_refused store source input rule line old new (Err (Input e)) refusal w = w
streams_refused store source input rule line old new (Err (Schedule e)) refusal w = w
streams_refused store source input rule line old new (Err OutOfRange) refusal w = w
streams_refused store source input rule line old new (Err NotStarted) refusal w = w
streams_refused store source input rule line old new (Err Stuck) refusal w = w

-- a tree is what a refusal says
abbrev pub Answers : Rule → ℕ → ProgramTree → Type 0
Answers rule line tree = Fails (RefusedAt rule line) (Ok tree)

-- a source that is refused: no tree reads it, and the rule is broken
pub refusal : (source : List ℕ) (rule : Rule) (line : ℕ) → ((tree : ProgramTree) → Reads source tree → Answers rule line tree) → Refuses source rule line
    → IsRefusal source rule line
refusal source rule line unread truly = record { unread = λ tree reads. none (unread tree reads); cause = truly }
  where
    none : {tree : ProgramTree} → Answers rule line tree → ⊥
    none h = cc
