-- What is written of a run whose records are written while it goes on.
use Rattle.std.proofs.Common.{◌≡◌, ◌∙◌, ◌⊎◌, inl, inr, ℕ, ◌+◌, ◌<◌, false, List, [], ◌∷◌, ◌++◌, length, take, drop, Option, Result, Ok, Err, IfOk, append-nil, append_assoc, sym, ap, subst, arith}
use Rattle.std.specs.Prelude.{◌≤◌, IfErr}
use Rattle.std.proofs.KnownBytes.{Appends-trans}
use Rattle.std.proofs.Math.Seq.{take-add}
use Rattle.std.proofs.lemmas.List.{drop_all, length-append, length-drop, take-append-drop, take-append-le}
use Rattle.std.proofs.lemmas.Bool.{cases_lt}
use Rattle.std.specs.Io.KnownBytes.{Appends}
use Rattle.std.specs.declared.io.Error.{Error}
use Rattle.ast.specs.Meaning.{seq}
use Rattle.ast.specs.Program.{ProgramTree}
use Rattle.ast.specs.declared.answer.Answer.{Answer}
use Rattle.codegen.specs.Headline.{Headline}
use Rattle.codegen.specs.Program.{IsCompiled}
use Rattle.machine.specs.Code.{Code}
use Rattle.machine.specs.State.{AreSizes, Machine}
use Rattle.record_writer.proofs.Onward.{part_got}
use Rattle.record_writer.specs.Written.{AppendsPart, Begins, FallsShort}
use Rattle.command_output.specs.declared.fault.EngineFault.{EngineFault}
use Rattle.command_output.specs.declared.fault.EngineFault.TheVariants as faults
use Rattle.command_output.specs.declared.outcomes.Outcome.{Outcome}
use Rattle.processors.specs.Reached.{IsAnswerOf, IsUnanswered}
use Rattle.processors.specs.Telling.{Shows as HandsOn, WritesNone}
use Rattle.unrecorded.specs.View.{IsReached}
use Rattle.processors.specs.declared.report.RunRefusal.{RunRefusal}
use Rattle.processors.specs.declared.report.Streamed.{Streamed}
use Rattle.processors.specs.declared.report.RunRefusal.TheVariants as runs
use Rattle.engines.specs.Engines.{ShowsRun}
use Rattle.engines.specs.declared.given.Wants.{Wants}
use Rattle.threaded.proofs.Answered.{agrees_at, comes_to, ended_at, never_stuck, sequential}
use Rattle.threaded.specs.Running.{IsRefusal, IsWhole, WritesText}
use Rattle.threaded.specs.Streaming.{ShowsCame, StreamsCode, WritesRest, no_text}
use Rattle.threaded.specs.declared.ran.Ran.{Ran}
use Rattle.threaded.specs.declared.ran.Ran.TheVariants.{Refused, Whole as Came, Memory, OutOfRange, NotStarted, Stuck}
use Rattle.threaded.specs.declared.ran.Whole.{Whole}

-- ---- a page of which a beginning was written before

-- so many bytes of the records are so many of a text that begins with them
of_page : (output last text : List ℕ) (n : ℕ) → text ≡ output ++ last → n ≤ length output → take n output ≡ take n text
of_page output last text n is h = sym (ap (λ (z : List ℕ). take n z) is ∙ take-append-le n output last h)

page_part : (output last text : List ℕ) (n : ℕ) (old mid new : Option (List ℕ)) → text ≡ output ++ last → HandsOn output n old mid → AppendsPart mid new (drop n text) → AppendsPart old new text
page_part output last text n old mid new is h part =
    let front = of_page output last text n is h.0 in
    let many : length (drop n text) + n ≡ length text =
    let size = length-drop n text in let whole = ap length is ∙ length-append output last in let few = h.0 in omega (arith, size, whole, few) in
    let less = part.1 in (
      n + part.0,
      omega (arith, many, less),
      subst (λ (z : List ℕ). Appends old new z) (ap (λ (z : List ℕ). z ++ take part.0 (drop n text)) front ∙ sym (take-add n part.0 text))
          (Appends-trans old mid new (take n output) (take part.0 (drop n text)) h.1 part.2),
    )

page_all : (output last text : List ℕ) (n : ℕ) (old mid new : Option (List ℕ)) → text ≡ output ++ last → HandsOn output n old mid → Appends mid new (drop n text) → Appends old new text
page_all output last text n old mid new is h rest =
    subst (λ (z : List ℕ). Appends old new z) (ap (λ (z : List ℕ). z ++ drop n text) (of_page output last text n is h.0) ∙ take-append-drop n text)
    (Appends-trans old mid new (take n output) (drop n text) h.1 rest)

whole_so : (tree : ProgramTree) (input : List ℕ) (w : Wants) (whole : Whole) (n : ℕ) (old mid new : Option (List ℕ)) (result : Result Outcome EngineFault)
    → AreSizes w.processors w.slots → ShowsRun w.store tree input whole.page.outcome whole.page.text.items → HandsOn (seq tree input).output n old mid → WritesText (drop n whole.page.text.items) (Ok whole.page.outcome) mid new result
    → StreamsCode tree input w old new result
whole_so tree input w whole n old mid new (Ok outcome) sizes shown h t = (
  sizes,
  record {
    text = whole.page.text.items;
    allowed = let same : outcome ≡ whole.page.outcome = cc in subst (λ (o : Outcome). ShowsRun w.store tree input o whole.page.text.items) (sym same) shown;
    grown = page_all (seq tree input).output shown.shown.last whole.page.text.items n old mid new shown.shown.whole h t.1;
  },
)
whole_so tree input w whole n old mid new (Err (faults.Writing e)) sizes shown h t = (
  sizes,
  inl (record {
    outcome = whole.page.outcome;
    text = whole.page.text.items;
    allowed = shown;
    grown = page_part (seq tree input).output shown.shown.last whole.page.text.items n old mid new shown.shown.whole h t;
  }),
)
whole_so tree input w whole n old mid new (Err (faults.Source e)) sizes shown h t = absurd (let bad = t.0 in cc)
whole_so tree input w whole n old mid new (Err (faults.Input e)) sizes shown h t = absurd (let bad = t.0 in cc)
whole_so tree input w whole n old mid new (Err (faults.Schedule e)) sizes shown h t = absurd (let bad = t.0 in cc)
whole_so tree input w whole n old mid new (Err faults.Memory) sizes shown h t = absurd (let bad = t.0 in cc)
whole_so tree input w whole n old mid new (Err faults.OutOfRange) sizes shown h t = absurd (let bad = t.0 in cc)
whole_so tree input w whole n old mid new (Err faults.NotStarted) sizes shown h t = absurd (let bad = t.0 in cc)
whole_so tree input w whole n old mid new (Err faults.Stuck) sizes shown h t = absurd (let bad = t.0 in cc)

-- ---- records alone, of which a beginning was written before

-- They are a beginning of the text. What was written before is too, and may be longer.
rest_got : (text output more : List ℕ) (n : ℕ) (old mid new : Option (List ℕ)) → text ≡ output ++ more → HandsOn text n old mid → Appends mid new (drop n output) → (got : List ℕ) × Appends old new got × Begins got text
rest_got text output more n old mid new is h rest = by (cases_lt (length output) n)
  where
    both : Appends old new (take n text ++ drop n output)
    both = Appends-trans old mid new (take n text) (drop n output) h.1 rest

    by : (length output < n) ⊎ (n ≤ length output) → (got : List ℕ) × Appends old new got × Begins got text
    by (inr few) = (
      output,
      subst (λ (z : List ℕ). Appends old new z) (ap (λ (z : List ℕ). z ++ drop n output) (ap (λ (z : List ℕ). take n z) is ∙ take-append-le n output more few) ∙ take-append-drop n output) both,
      (more, is),
    )
    by (inl many) = (
      take n text,
      subst (λ (z : List ℕ). Appends old new z) (ap (λ (z : List ℕ). take n text ++ z) (drop_all n output (omega (arith, many))) ∙ append-nil (take n text)) both,
      (drop n text, sym (take-append-drop n text)),
    )

part_left : (text output more : List ℕ) (n : ℕ) (old mid new : Option (List ℕ)) → text ≡ output ++ more → HandsOn text n old mid → AppendsPart mid new (drop n output) → (got : List ℕ) × Appends old new got × FallsShort got text
part_left text output more n old mid new is h part =
    let few : n ≤ length output = let size = length-drop n output in let less = part.1 in omega (arith, size, less) in
    let front : take n text ≡ take n output = ap (λ (z : List ℕ). take n z) is ∙ take-append-le n output more few in
    let stands : output ≡ take n text ++ drop n output = sym (ap (λ (z : List ℕ). z ++ drop n output) front ∙ take-append-drop n output) in
    let got = part_got old mid new (drop n output) output (take n text, h.1, stands) part in
    (got.0, got.1, (got.2.0, got.2.1 ++ more, is ∙ ap (λ (z : List ℕ). z ++ more) got.2.2 ∙ append_assoc got.0 (got.2.0 ∷ got.2.1) more))

records_so : (tree : ProgramTree) (input : List ℕ) (w : Wants) (output more : List ℕ) (n : ℕ) (old mid new : Option (List ℕ)) (result : Result Outcome EngineFault)
    → AreSizes w.processors w.slots → (seq tree input).output ≡ output ++ more → HandsOn (seq tree input).output n old mid → WritesText (drop n output) (Err faults.Memory) mid new result → StreamsCode tree input w old new result
records_so tree input w output more n old mid new (Ok outcome) sizes is h t = absurd (let bad = t.0 in cc)
records_so tree input w output more n old mid new (Err (faults.Writing e)) sizes is h t = (sizes, inr (part_left (seq tree input).output output more n old mid new is h t))
records_so tree input w output more n old mid new (Err (faults.Source e)) sizes is h t = absurd (let bad = t.0 in cc)
records_so tree input w output more n old mid new (Err (faults.Input e)) sizes is h t = absurd (let bad = t.0 in cc)
records_so tree input w output more n old mid new (Err (faults.Schedule e)) sizes is h t = absurd (let bad = t.0 in cc)
records_so tree input w output more n old mid new (Err faults.Memory) sizes is h t = rest_got (seq tree input).output output more n old mid new is h t.1
records_so tree input w output more n old mid new (Err faults.OutOfRange) sizes is h t = absurd (let bad = t.0 in cc)
records_so tree input w output more n old mid new (Err faults.NotStarted) sizes is h t = absurd (let bad = t.0 in cc)
records_so tree input w output more n old mid new (Err faults.Stuck) sizes is h t = absurd (let bad = t.0 in cc)

-- ---- what comes of a run

answered_so : (tree : ProgramTree) (code : Code) (input : List ℕ) (w : Wants) (answer : Answer) (n : ℕ) (ran : Ran) (old mid new : Option (List ℕ)) (result : Result Outcome EngineFault)
    → IsCompiled tree code → Headline code tree → IsAnswerOf code input w.processors w.slots answer → HandsOn (seq tree input).output n old mid
    → ShowsCame w.store tree.symbols (Ok answer) ran → WritesRest ran n mid new result → StreamsCode tree input w old new result
answered_so tree code input w answer n (Came whole) old mid new result compiled headline r h shows t =
    let came : IsWhole tree code input (record w { schedule = false }) whole = comes_to tree code input (record w { schedule = false }) answer no_text (Came whole) compiled headline r tt shows in
    whole_so tree input w whole n old mid new result r.sizes came.shown h t
answered_so tree code input w answer n (Memory output) old mid new result compiled headline r h shows t =
    let ended = ended_at tree code input w.processors w.slots answer headline r in
    let own = sequential tree code input r.machine answer compiled ended r.holds in
    let same : (seq tree input).output ≡ output.items = sym own.output ∙ sym shows in
    records_so tree input w output.items [] n old mid new result r.sizes (same ∙ sym (append-nil output.items)) h t
answered_so tree code input w answer n (Refused page) old mid new result compiled headline r h shows t = absurd shows
answered_so tree code input w answer n OutOfRange old mid new result compiled headline r h shows t = absurd shows
answered_so tree code input w answer n (NotStarted failure) old mid new result compiled headline r h shows t = absurd shows
answered_so tree code input w answer n Stuck old mid new result compiled headline r h shows t = absurd shows

out_of_range_so : (tree : ProgramTree) (input : List ℕ) (w : Wants) (old new : Option (List ℕ)) (result : Result Outcome EngineFault) → (AreSizes w.processors w.slots → ⊥) → result ≡ Err faults.OutOfRange → new ≡ old → StreamsCode tree input w old new result
out_of_range_so tree input w old new result none is same = subst (λ (r : Result Outcome EngineFault). StreamsCode tree input w old new r) (sym is) (none, same)

not_started_so : (tree : ProgramTree) (input : List ℕ) (w : Wants) (old new : Option (List ℕ)) (result : Result Outcome EngineFault) → AreSizes w.processors w.slots → result ≡ Err faults.NotStarted → new ≡ old → StreamsCode tree input w old new result
not_started_so tree input w old new result sizes is same = subst (λ (r : Result Outcome EngineFault). StreamsCode tree input w old new r) (sym is) (sizes, same)

refused_so : (tree : ProgramTree) (code : Code) (input : List ℕ) (w : Wants) (why : RunRefusal) (n : ℕ) (ran : Ran) (old mid new : Option (List ℕ)) (result : Result Outcome EngineFault)
    → Headline code tree → IsUnanswered code input w.processors w.slots why → HandsOn (seq tree input).output n old mid → WritesNone old mid why
    → IsRefusal why ran → WritesRest ran n mid new result → StreamsCode tree input w old new result
refused_so tree code input w (runs.Memory output) n ran old mid new result headline (inl x) h none is t = absurd x
refused_so tree code input w (runs.Memory output) n ran old mid new result headline (inr x) h none is t =
    let agrees = agrees_at tree code input w.processors w.slots (λ m. output.items ≡ m.output) headline x.1 in
    let begins : (seq tree input).output ≡ output.items ++ agrees.beginning.0 = agrees.beginning.1 ∙ ap (λ (z : List ℕ). z ++ agrees.beginning.0) (sym x.1.holds) in
    records_so tree input w output.items agrees.beginning.0 n old mid new result x.0 begins h (subst (λ (r : Ran). WritesRest r n mid new result) is t)
refused_so tree code input w runs.OutOfRange n ran old mid new result headline (inl x) h none is t =
    let so = subst (λ (r : Ran). WritesRest r n mid new result) is t in out_of_range_so tree input w old new result x so.0 (so.1 ∙ none)
refused_so tree code input w runs.OutOfRange n ran old mid new result headline (inr x) h none is t = absurd x.1
refused_so tree code input w (runs.NotStarted failure) n ran old mid new result headline (inl x) h none is t = absurd x
refused_so tree code input w (runs.NotStarted failure) n ran old mid new result headline (inr x) h none is t =
    let so = subst (λ (r : Ran). WritesRest r n mid new result) is t in not_started_so tree input w old new result x.0 so.0 (so.1 ∙ none)
refused_so tree code input w runs.Stuck n ran old mid new result headline (inl x) h none is t = absurd x
refused_so tree code input w runs.Stuck n ran old mid new result headline (inr x) h none is t = absurd (never_stuck tree code input w.processors w.slots headline x.1)

streams_code : (tree : ProgramTree) (code : Code) (input : List ℕ) (w : Wants) (came : Result Answer RunRefusal) (n : ℕ) (ran : Ran) (old mid new : Option (List ℕ)) (result : Result Outcome EngineFault)
    → IsCompiled tree code → Headline code tree
    → IfOk came (IsAnswerOf code input w.processors w.slots) → IfErr came (IsUnanswered code input w.processors w.slots)
    → HandsOn (seq tree input).output n old mid → IfErr came (WritesNone old mid)
    → ShowsCame w.store tree.symbols came ran → WritesRest ran n mid new result → StreamsCode tree input w old new result
streams_code tree code input w (Ok answer) n ran old mid new result compiled headline a b h none shows t = answered_so tree code input w answer n ran old mid new result compiled headline a h shows t
streams_code tree code input w (Err why) n ran old mid new result compiled headline a b h none shows t = refused_so tree code input w why n ran old mid new result headline b h none shows t

-- ---- what `processors::run_onto` came to

if_ok : {X E : Type 0} (r : Result X E) (x : X) (P : X → Type 0) → r ≡ Ok x → IfOk r P → P x
if_ok {X} {E} r x P is h = subst (λ (z : Result X E). IfOk z P) is h

pub streams_from : (tree : ProgramTree) (code : Code) (input text : List ℕ) (w : Wants) (r : Result Streamed Error) (x : Streamed) (ran : Ran) (first old mid new : Option (List ℕ)) (result : Result Outcome EngineFault)
    → IsCompiled tree code → Headline code tree → text ≡ (seq tree input).output → first ≡ old → r ≡ Ok x
    → IfOk r (λ y. IfOk y.came (IsAnswerOf code input w.processors w.slots)) → IfOk r (λ y. IfErr y.came (IsUnanswered code input w.processors w.slots))
    → IfOk r (λ y. HandsOn text y.shown first mid) → IfOk r (λ y. IfErr y.came (WritesNone first mid))
    → ShowsCame w.store tree.symbols x.came ran → WritesRest ran x.shown mid new result → StreamsCode tree input w old new result
streams_from tree code input text w r x ran first old mid new result compiled headline same was is a b h none shows t =
    streams_code tree code input w x.came x.shown ran old mid new result compiled headline
    (if_ok r x (λ y. IfOk y.came (IsAnswerOf code input w.processors w.slots)) is a)
    (if_ok r x (λ y. IfErr y.came (IsUnanswered code input w.processors w.slots)) is b)
    (subst (λ (z : List ℕ). HandsOn z x.shown old mid) same (subst (λ (z : Option (List ℕ)). HandsOn text x.shown z mid) was (if_ok r x (λ y. HandsOn text y.shown first mid) is h)))
    (subst (λ (z : Option (List ℕ)). IfErr x.came (WritesNone z mid)) was (if_ok r x (λ y. IfErr y.came (WritesNone first mid)) is none))
    shows t

-- each state of a run has printed a beginning of what the sequential program prints
pub begins_all : (tree : ProgramTree) (code : Code) (input text : List ℕ) (p s : ℕ) → Headline code tree → text ≡ (seq tree input).output → AreSizes p s → (m : Machine) → IsReached code input p s m → Begins m.output text
begins_all tree code input text p s headline same sizes m r =
    let agrees = headline input p s r.turns m sizes r.run in
    (agrees.beginning.0, same ∙ agrees.beginning.1)
