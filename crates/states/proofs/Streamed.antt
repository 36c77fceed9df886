-- What is shown of a schedule is what the sequential program comes to.
use Rattle.std.proofs.Common.{◌≡◌, ◌∙◌, ◌⊎◌, inl, inr, false, ℕ, ◌+◌, List, [], ◌∷◌, ◌++◌, length, Option, Some, None, Result, Ok, Err, IfOk, IfErr, take, drop, refl, sym, ap, subst, append_assoc, append-nil}
use Rattle.std.proofs.KnownBytes.{Appends-nil, Appends-trans, Keeps-refl}
use Rattle.std.proofs.lemmas.List.{take-append-drop}
use Rattle.std.proofs.lemmas.Option.{same_Some}
use Rattle.std.proofs.lemmas.Result.{IfOk-weaker}
use Rattle.std.specs.Io.KnownBytes.{Appends, Keeps}
use Rattle.ast.specs.Meaning.{seq}
use Rattle.ast.specs.ProgramView.{program as program_of}
use Rattle.ast.specs.declared.fault.End.{End}
use Rattle.machine.specs.Code.{Code}
use Rattle.machine.specs.CodeView.{code_of}
use Rattle.schedules.specs.Schedules.{Entry, Schedule}
use Rattle.schedules.specs.declared.flaw.Flaw.{Flaw}
use Rattle.schedules.specs.declared.flaw.Flaw.TheVariants.{Unended}
use Rattle.activities.specs.Activities.{code_in, point_in}
use Rattle.activities.specs.Points.{Point, beginning}
use Rattle.activities.specs.declared.holding.Activities.{Activities}
use Rattle.replay.proofs.Running.{is_run}
use Rattle.replay.specs.Replayed.{CannotBeMade}
use Rattle.engines.proofs.Replayed.{with_run}
use Rattle.engines.specs.Prepared.{IsNoRun, IsDescribedRun}
use Rattle.engines.specs.declared.prepared.Run.{Run}
use Rattle.command_output.specs.Outcomes.{outcome_of}
use Rattle.command_output.specs.Shown.{EndShown, no_schedule}
use Rattle.command_output.specs.declared.fault.EngineFault.{EngineFault}
use Rattle.command_output.specs.declared.fault.EngineFault.TheVariants.{Source, Input, Schedule as OfSchedule, Writing, Memory, OutOfRange, NotStarted, Stuck}
use Rattle.command_output.specs.declared.outcomes.Outcome.{Outcome}
use Rattle.command_output.specs.declared.outcomes.Outcome.TheVariants.{NoSchedule}
use Rattle.command_output.specs.declared.page.Page.{Page}
use Rattle.state_lines.specs.States.{first_block}
use Rattle.states.proofs.Showing.{shows_leads}
use Rattle.states.specs.Followed.{AreShown, IsPartShown, Shows, StopsShown}
use Rattle.states.specs.Shown.{AreBlocks, Began, Blocks, IsLast, IsStated, IsStopped, StatesStream, Stating, Streams, WrotePage}

-- ---- streams

-- blocks were written and no more
kept : (P : Outcome → List ℕ → Type 0) (Q : List ℕ → Type 0) (blocks : List ℕ) (old mid new : Option (List ℕ)) → Q blocks → Appends old mid blocks → new ≡ mid → Keeps old new ⊎ Began P Q old new
kept P Q blocks old mid new q g is =
    inr (record { text = blocks; some = inr q; got = blocks; begins = ([], sym (append-nil blocks)); grown = subst (λ (z : Option (List ℕ)). Appends old z blocks) (sym is) g })

-- and behind them a page
page_behind : (P : Outcome → List ℕ → Type 0) (Q : List ℕ → Type 0) (o : Outcome) (text blocks : List ℕ) (old mid new : Option (List ℕ)) (r : Result Outcome EngineFault) → P o (blocks ++ text) → Appends old mid blocks → (new ≡ mid → Keeps old new ⊎ Began P Q old new)
    → WrotePage o text mid new r → Streams P Q old new r
page_behind P Q o text blocks old mid new (Ok outcome) p g alone h = record { text = blocks ++ text; allowed = subst (λ (z : Outcome). P z (blocks ++ text)) (sym h.0) p; grown = Appends-trans old mid new blocks text g h.1 }
page_behind P Q o text blocks old mid new (Err (Writing e)) p g alone h = inr (record {
  text = blocks ++ text;
  some = inl (o, p);
  got = blocks ++ take h.0 text;
  begins = (drop h.0 text, ap (λ (t : List ℕ). blocks ++ t) (sym (take-append-drop h.0 text)) ∙ sym (append_assoc blocks (take h.0 text) (drop h.0 text)));
  grown = Appends-trans old mid new blocks (take h.0 text) g h.2;
})
page_behind P Q o text blocks old mid new (Err Memory) p g alone h = alone h
page_behind P Q o text blocks old mid new (Err (Source e)) p g alone h = absurd h
page_behind P Q o text blocks old mid new (Err (Input e)) p g alone h = absurd h
page_behind P Q o text blocks old mid new (Err (OfSchedule e)) p g alone h = absurd h
page_behind P Q o text blocks old mid new (Err OutOfRange) p g alone h = absurd h
page_behind P Q o text blocks old mid new (Err NotStarted) p g alone h = absurd h
page_behind P Q o text blocks old mid new (Err Stuck) p g alone h = absurd h

-- where there was memory for it
written : {E : Type 0} (P : Outcome → List ℕ → Type 0) (Q : List ℕ → Type 0) (page : Result Page E) (blocks : List ℕ) (old mid new : Option (List ℕ)) (r : Result Outcome EngineFault) → IfOk page (λ x. P x.outcome (blocks ++ x.text.items)) → Q blocks → Appends old mid blocks
    → IfOk page (λ x. WrotePage x.outcome x.text.items mid new r) → IfErr page (λ e. (r ≡ Err Memory) × (new ≡ mid)) → Streams P Q old new r
written P Q (Ok x) blocks old mid new r p q g ok err = page_behind P Q x.outcome x.text.items blocks old mid new r p g (kept P Q blocks old mid new q g) ok
written P Q (Err e) blocks old mid new r p q g ok err = subst (λ (z : Result Outcome EngineFault). Streams P Q old new z) (sym err.0) (kept P Q blocks old mid new q g err.1)

-- ---- blocks

-- what always holds here: the run begins as the schedule says
pub record Begun (input : List ℕ) (run : Run) (a : Activities) : Type 0 where
  pub code_is : code_in a ≡ code_of run.coded.code
  pub point : point_in a ≡ beginning (code_of run.coded.code) input run.schedule.slots

-- entries lead from where it begins to a point, and this is shown of them
abbrev ShowsTo : Schedule → Activities → List Entry → Point → List ℕ → Type 0
ShowsTo x a front b text = Shows x.version (code_in a) x.processors x.slots 3 (point_in a) front b text

-- the first block, and those of entries
abbrev blocks_of : Schedule → Activities → List ℕ → List ℕ
blocks_of x a text = first_block (code_in a) x.processors (point_in a) ++ text

abbrev blocks_for : (input : List ℕ) (run : Run) (a : Activities) (front rest : List Entry) (b : Point) (text : List ℕ) → Begun input run a → run.schedule.entries ≡ front ++ rest → ShowsTo run.schedule a front b text
    → Blocks (code_of run.coded.code) input run.schedule (blocks_of run.schedule a text)
blocks_for input run a front rest b text h is shows =
    let x = run.schedule in
    let code = code_of run.coded.code in
    record {
      front = front;
      rest = rest;
      is = is;
      point = b;
      behind = text;
      shows = subst (λ (y : Point). Shows x.version code x.processors x.slots 3 y front b text) h.point
          (subst (λ (k : Code). Shows x.version k x.processors x.slots 3 (point_in a) front b text) h.code_is shows);
      shown = ap (λ (k : Code). first_block k x.processors (point_in a) ++ text) h.code_is ∙ ap (λ (y : Point). first_block code x.processors y ++ text) h.point;
    }

are_blocks : (source input schedule : List ℕ) (run : Run) (a : Activities) (front rest : List Entry) (b : Point) (text : List ℕ) → IsDescribedRun source schedule run → Begun input run a → run.schedule.entries ≡ front ++ rest → ShowsTo run.schedule a front b text
    → AreBlocks source input schedule (blocks_of run.schedule a text)
are_blocks source input schedule run a front rest b text described h is shows =
    with_run source schedule run (λ tree code x. Blocks code input x (blocks_of run.schedule a text)) described (blocks_for input run a front rest b text h is shows)

-- ---- the end

stated : (source input schedule : List ℕ) (run : Run) (a : Activities) (b : Point) (behind text : List ℕ) (outcome : Outcome) (e : End) → IsDescribedRun source schedule run → Begun input run a → ShowsTo run.schedule a run.schedule.entries b behind
    → b.machine.ended ≡ Some e → outcome ≡ outcome_of e → EndShown false [] e text → IsStated (program_of run.coded.program) (code_of run.coded.code) input run.schedule outcome (blocks_of run.schedule a behind ++ text)
stated source input schedule run a b behind text outcome e described h shows ended is ends =
    let tree = program_of run.coded.program in
    let code = code_of run.coded.code in
    let x = run.schedule in
    let blocks = blocks_for input run a x.entries [] b behind h (sym (append-nil x.entries)) shows in
    let reached = is_run code input x b described.spelled.schedule (record { leads = shows_leads x.version code x.processors x.slots 3 (beginning code input x.slots) b x.entries behind blocks.shows }) in
    let agrees = described.coded.headline input x.processors x.slots reached.0 b.machine described.spelled.schedule.0 reached.1 in
    let end = agrees.answer e ended in
    let same : e ≡ (seq tree input).end = same_Some e (seq tree input).end (sym ended ∙ end.is) in
    record {
      blocks = blocks_of x a behind;
      are = blocks;
      all = refl;
      ended = end.is;
      output = end.printed;
      outcome_is = is ∙ ap outcome_of same;
      last = text;
      ends = subst (λ (z : End). EndShown false [] z text) same ends;
      shown = refl;
    }

unended : (input : List ℕ) (run : Run) (a : Activities) (b : Point) (behind text : List ℕ) (outcome : Outcome) (line : ℕ) → Begun input run a → ShowsTo run.schedule a run.schedule.entries b behind
    → b.machine.ended ≡ None → line ≡ 2 + length run.schedule.entries → outcome ≡ NoSchedule Unended line → text ≡ no_schedule Unended line → IsStopped (code_of run.coded.code) input run.schedule outcome (blocks_of run.schedule a behind ++ text)
unended input run a b behind text outcome line h shows going at is last = record {
  flaw = Unended;
  line = line;
  outcome_is = is;
  blocks = blocks_of run.schedule a behind;
  are = blocks_for input run a run.schedule.entries [] b behind h (sym (append-nil run.schedule.entries)) shows;
  stops = (refl, at, going);
  shown = ap (λ (t : List ℕ). blocks_of run.schedule a behind ++ t) last;
}

-- what is allowed of a run
abbrev Allows : (input : List ℕ) → Run → Outcome → List ℕ → Type 0
Allows input run outcome text =
    IsStated (program_of run.coded.program) (code_of run.coded.code) input run.schedule outcome text ⊎ IsStopped (code_of run.coded.code) input run.schedule outcome text

-- it is allowed of the source
stating : (source input schedule : List ℕ) (run : Run) (outcome : Outcome) (text : List ℕ) → IsDescribedRun source schedule run → Allows input run outcome text → Stating source input schedule outcome text
stating source input schedule run outcome text described h =
    inr (with_run source schedule run (λ tree code x. IsStated tree code input x outcome text ⊎ IsStopped code input x outcome text) described h)

last_allowed : (source input schedule : List ℕ) (run : Run) (a : Activities) (b : Point) (behind text : List ℕ) (outcome : Outcome) (line : ℕ) (o : Option End) → IsDescribedRun source schedule run → Begun input run a → ShowsTo run.schedule a run.schedule.entries b behind
    → b.machine.ended ≡ o → line ≡ 2 + length run.schedule.entries → IsLast o line outcome text → Allows input run outcome (blocks_of run.schedule a behind ++ text)
last_allowed source input schedule run a b behind text outcome line None described h shows going at last = inr (unended input run a b behind text outcome line h shows going at last.0 last.1)
last_allowed source input schedule run a b behind text outcome line (Some e) described h shows ended at last = inl (stated source input schedule run a b behind text outcome e described h shows ended last.0 last.1)

pub finished : {E : Type 0} (source input schedule : List ℕ) (run : Run) (a b : Activities) (line : ℕ) (page : Result Page E) (old mid new : Option (List ℕ)) (r : Result Outcome EngineFault) → IsDescribedRun source schedule run → Begun input run a
    → AreShown (first_block (code_in a) run.schedule.processors (point_in a)) run.schedule a b old mid → line ≡ 2 + length run.schedule.entries → IfOk page (λ p. IsLast (point_in b).machine.ended line p.outcome p.text.items)
    → IfOk page (λ p. WrotePage p.outcome p.text.items mid new r) → IfErr page (λ e. (r ≡ Err Memory) × (new ≡ mid)) → StatesStream source input schedule old new r
finished source input schedule run a b line page old mid new r described h shown at last ok err =
    written (Stating source input schedule) (AreBlocks source input schedule) page (blocks_of run.schedule a shown.text) old mid new r
    (IfOk-weaker page _ _
    (λ p is. stating source input schedule run p.outcome (blocks_of run.schedule a shown.text ++ p.text.items) described
    (last_allowed source input schedule run a (point_in b) shown.text p.text.items p.outcome line (point_in b).machine.ended described h shown.shows refl at is)) last)
    (are_blocks source input schedule run a run.schedule.entries [] (point_in b) shown.text described h (sym (append-nil run.schedule.entries)) shown.shows) shown.grown ok err

-- ---- what stops before it

pub stopped : {E : Type 0} (source input schedule : List ℕ) (run : Run) (a : Activities) (flaw : Flaw) (line : ℕ) (page : Result Page E) (old mid new : Option (List ℕ)) (r : Result Outcome EngineFault) → IsDescribedRun source schedule run → Begun input run a
    → StopsShown (first_block (code_in a) run.schedule.processors (point_in a)) run.schedule a flaw line old mid → IfOk page (λ p. (p.outcome ≡ NoSchedule flaw line) × (p.text.items ≡ no_schedule flaw line))
    → IfOk page (λ p. WrotePage p.outcome p.text.items mid new r) → IfErr page (λ e. (r ≡ Err Memory) × (new ≡ mid)) → StatesStream source input schedule old new r
stopped source input schedule run a flaw line page old mid new r described h s is ok err =
    let x = run.schedule in
    let blocks = blocks_of x a s.text in
    written (Stating source input schedule) (AreBlocks source input schedule) page blocks old mid new r
    (IfOk-weaker page _ _
    (λ p so. stating source input schedule run p.outcome (blocks ++ p.text.items) described (inr (record {
      flaw = flaw;
      line = line;
      outcome_is = so.0;
      blocks = blocks;
      are = blocks_for input run a s.shown.front (s.entry ∷ s.behind) s.point s.text h s.shown.is s.shown.shows;
      stops = (s.at, subst (λ (k : Code). CannotBeMade x.version k x.slots s.entry.act s.point s.entry.processor flaw) h.code_is s.cannot);
      shown = ap (λ (t : List ℕ). blocks ++ t) so.1;
    }))) is)
    (are_blocks source input schedule run a s.shown.front (s.entry ∷ s.behind) s.point s.text described h s.shown.is s.shown.shows) s.grown ok err

-- some blocks were written, or a beginning of them
pub part : (source input schedule : List ℕ) (run : Run) (a : Activities) (old new : Option (List ℕ)) → IsDescribedRun source schedule run → Begun input run a → IsPartShown (first_block (code_in a) run.schedule.processors (point_in a)) run.schedule a old new
    → Began (Stating source input schedule) (AreBlocks source input schedule) old new
part source input schedule run a old new described h s = record {
  text = blocks_of run.schedule a s.text;
  some = inr (are_blocks source input schedule run a s.shown.front s.rest s.point s.text described h s.shown.is s.shown.shows);
  got = s.got;
  begins = s.begins;
  grown = s.grown;
}

-- the source is refused, or the schedule's text
pub no_run : (source input schedule : List ℕ) (page : Page) (old new : Option (List ℕ)) (r : Result Outcome EngineFault) → IsNoRun source schedule page.outcome page.text.items → WrotePage page.outcome page.text.items old new r → StatesStream source input schedule old new r
no_run source input schedule page old new r is w =
    page_behind (Stating source input schedule) (AreBlocks source input schedule) page.outcome page.text.items [] old old new r (inl is) (Appends-nil old) (λ same. inl (subst (λ (z : Option (List ℕ)). Keeps old z) (sym same) (Keeps-refl old))) w
