-- What comes of a run of code is the sequential program's.
use Rattle.std.proofs.Common.{◌≡◌, ◌∙◌, ◌⊎◌, ℕ, ℤ, zero, suc, ◌+◌, Bool, true, false, List, [], ◌∷◌, ◌++◌, length, map, Option, Some, None, Result, IfOk, Vec, append-nil, inl, inr, ap, refl, subst, sym}
use Rattle.std.specs.Global.{Global}
use Rattle.std.proofs.lemmas.List.{length-map}
use Rattle.std.proofs.lemmas.Option.{same_Some}
use Rattle.std.proofs.lemmas.Result.{IfOk-weaker}
use Rattle.ast.specs.Meaning.{seq}
use Rattle.ast.specs.Program.{ProgramTree}
use Rattle.ast.specs.ProgramView.{program as program_of}
use Rattle.ast.specs.Store.{StoreOf, values_from}
use Rattle.ast.specs.Symbols.{Symbol, cells_of, size}
use Rattle.ast.specs.View.{cells, symbol}
use Rattle.ast.specs.declared.answer.Answer.{Answer}
use Rattle.ast.specs.declared.fault.End.{End}
use Rattle.ast.specs.declared.fault.End.TheVariants.{Done, Stopped, Fault as FaultedAt}
use Rattle.ast.specs.declared.program.Program.{Program}
use Rattle.codegen.specs.Headline.{Agrees, Headline, IsBeginning}
use Rattle.codegen.specs.Program.{IsCompiled}
use Rattle.machine.specs.Code.{Code}
use Rattle.machine.specs.State.{AreSizes, CodeRun, Ended, Init, Machine}
use Rattle.machine.specs.declared.code.Variable.{Variable}
use Rattle.processors.specs.Calls.{IsRunOf, IsStateOf}
use Rattle.processors.specs.Reached.{IsAnswerOf, IsUnanswered, Reaches}
use Rattle.processors.specs.Refused.{IsRefused, IsStuckAt}
use Rattle.processors.specs.declared.report.RunRefusal.{RunRefusal}
use Rattle.processors.specs.declared.report.RunRefusal.TheVariants as runs
use Rattle.replay.proofs.Running.{is_run}
use Rattle.replay.specs.CoreView.{CoreView, point_at}
use Rattle.replay.specs.Replayed.{IsAnswer, stored}
use Rattle.replay.specs.Replays.{Replays}
use Rattle.replay.specs.Stepping.{HasLocal, IsWent}
use Rattle.replay.specs.declared.stepped.Stepped.{Stepped}
use Rattle.schedules.specs.Schedules.{IsSchedule, SchedText, Schedule}
use Rattle.command_output.specs.Outcomes.{outcome_of}
use Rattle.command_output.specs.Shown.{EndShown, Extends, Row, row_of}
use Rattle.command_output.specs.View.{rows_from}
use Rattle.command_output.specs.declared.outcomes.Outcome.{Outcome}
use Rattle.command_output.proofs.StoreRows.{rows_whole}
use Rattle.engines.specs.Engines.{ShowsRun}
use Rattle.engines.specs.declared.given.Wants.{Wants}
use Rattle.threaded.specs.Joined.{AnswersAreSequential, GoesOn, IsSequential, NoAnswerIsStuck, NoRunIsStuck, ReplaysAreSequential, RunsAreSequential}
use Rattle.threaded.specs.Running.{ComesOf, IsRefusal, IsScheduleOf, Shows, WhereWanted}
use Rattle.threaded.specs.declared.ran.Ran.{Ran}
use Rattle.threaded.specs.declared.ran.Ran.TheVariants.{Refused, Whole as Came, Memory, OutOfRange, NotStarted, Stuck}

-- ---- a run of which a schedule is kept is a run

abbrev reaches : (code : Code) (input : List ℕ) (p s : ℕ) (P : Machine → Type 0) → AreSizes p s → IsStateOf code input p s P → Reaches code input p s P
reaches code input p s P sizes o =
    let run = is_run code input o.schedule o.point o.kept o.replays in
    let here : CodeRun code s p (Init code input) run.0 o.point.machine = rw (sym o.slots, sym o.processors) run.1 in
    record { sizes = sizes; machine = o.point.machine; reached = record { turns = run.0; run = here }; holds = o.holds }

abbrev state_of : (code : Code) (input : List ℕ) (p s : ℕ) (answer : Answer) (x : Schedule) → IsRunOf code input p s answer x → IsStateOf code input p s (λ m. IsAnswer code m answer)
state_of code input p s answer x r =
    record { schedule = x; processors = r.processors; slots = r.slots; kept = r.kept; point = r.replay.point; replays = r.replay.replays; holds = r.replay.is }

unanswered_of : (code : Code) (input : List ℕ) (p s : ℕ) (why : RunRefusal) → IsRefused code input p s why → IsUnanswered code input p s why
unanswered_of code input p s why (inl h) = inl h
unanswered_of code input p s (runs.Memory output) (inr h) = inr (h.0, reaches code input p s (λ m. output.items ≡ m.output) h.0 h.1)
unanswered_of code input p s runs.OutOfRange (inr h) = inr h
unanswered_of code input p s (runs.NotStarted failure) (inr h) = inr h
unanswered_of code input p s runs.Stuck (inr h) = inr (h.0, reaches code input p s (IsStuckAt code p s) h.0 h.1)

-- ---- the state at the end

pub agrees_at : (tree : ProgramTree) (code : Code) (input : List ℕ) (p s : ℕ) (P : Machine → Type 0) → Headline code tree → (r : Reaches code input p s P) → Agrees code tree input p s r.machine
agrees_at tree code input p s P headline r = headline input p s r.reached.turns r.machine r.sizes r.reached.run

pub ended_at : (tree : ProgramTree) (code : Code) (input : List ℕ) (p s : ℕ) (answer : Answer) → Headline code tree → (r : IsAnswerOf code input p s answer) → Ended r.machine (seq tree input).output (seq tree input).end (seq tree input).store
ended_at tree code input p s answer headline r = (agrees_at tree code input p s (λ m. IsAnswer code m answer) headline r).answer answer.end r.holds.end

-- ---- its store

same_values : (f g : ℕ → ℤ) → ((i : ℕ) → f i ≡ g i) → (n count : ℕ) → values_from f n count ≡ values_from g n count
same_values f g same n zero = refl
same_values f g same n (suc count) = rw (same n, same_values f g same (n + 1) count) refl

abbrev variables_in : List Variable → List (List ℕ × ℕ)
variables_in xs = map (λ x. (x.name.letters, x.size)) xs

abbrev variables_for : List Symbol → List (List ℕ × ℕ)
variables_for symbols = map (λ s. (s.name, size s.sort)) symbols

same_head : (p q : List ℕ × ℕ) (ps qs : List (List ℕ × ℕ)) → p ∷ ps ≡ q ∷ qs → p ≡ q
same_head p q ps qs h = cc

-- variables that are a program's symbols have in equal stores what the symbols have
stored_as : (xs : List Variable) (ss : List Symbol) (a b : StoreOf) → ((name : List ℕ) (place : ℕ) → a name place ≡ b name place) → variables_in xs ≡ variables_for ss → stored xs a ≡ cells_of ss b
stored_as [] [] a b same are = refl
stored_as [] (s ∷ ss) a b same are = absurd cc
stored_as (x ∷ xs) [] a b same are = absurd cc
stored_as (x ∷ xs) (s ∷ ss) a b same are =
    let pair : (x.name.letters, x.size) ≡ (s.name, size s.sort) = same_head (x.name.letters, x.size) (s.name, size s.sort) (variables_in xs) (variables_for ss) are in
    let name : x.name.letters ≡ s.name = ap (λ (p : List ℕ × ℕ). p.0) pair in
    let many : x.size ≡ size s.sort = ap (λ (p : List ℕ × ℕ). p.1) pair in
    let rest : variables_in xs ≡ variables_for ss = cc in
    rw (name, many, same_values (a s.name) (b s.name) (same s.name) 0 (size s.sort), stored_as xs ss a b same rest) refl

-- an answer has the cells of each symbol
pub cells_fit : (program : Program) (code : Code) (m : Machine) (answer : Answer) → IsCompiled (program_of program) code → IsAnswer code m answer → length (cells answer.store) ≡ length program.symbols.items
cells_fit program code m answer compiled is =
    ap length is.store
    ∙ length-map code.variables (λ x. (x.name.letters, values_from (m.store x.name.letters) 0 x.size))
    ∙ sym (length-map code.variables (λ x. (x.name.letters, x.size)))
    ∙ ap length compiled.2.variables
    ∙ length-map (map symbol program.symbols.items) (λ s. (s.name, size s.sort))
    ∙ length-map program.symbols.items symbol

-- the answer of a state that has ended as the sequential program does
pub sequential : (tree : ProgramTree) (code : Code) (input : List ℕ) (m : Machine) (answer : Answer) → IsCompiled tree code → Ended m (seq tree input).output (seq tree input).end (seq tree input).store → IsAnswer code m answer → IsSequential tree input answer
sequential tree code input m answer compiled ended is =
    let same : answer.end ≡ (seq tree input).end = same_Some answer.end (seq tree input).end (sym is.end ∙ ended.is) in
    record {
      output = is.output ∙ ended.printed;
      end = same;
      store = λ done. is.store ∙ stored_as code.variables tree.symbols m.store (seq tree input).store (ended.stored (sym same ∙ done)) compiled.2.variables;
    }

-- ---- what is shown of the answer

-- the rows count at END alone
by_rows : (wanted : Bool) (e : End) (old new : List Row) (text : List ℕ) → (e ≡ Done → old ≡ new) → EndShown wanted old e text → EndShown wanted new e text
by_rows wanted Done old new text same h = subst (λ (rows : List Row). EndShown wanted rows Done text) (same refl) h
by_rows wanted (Stopped line) old new text same h = h
by_rows wanted (FaultedAt fault line) old new text same h = h

shown_so : (wanted : Bool) (tree : ProgramTree) (code : Code) (input : List ℕ) (m : Machine) (answer : Answer) (outcome : Outcome) (text : List ℕ) → IsCompiled tree code
    → Ended m (seq tree input).output (seq tree input).end (seq tree input).store → IsAnswer code m answer → outcome ≡ outcome_of answer.end
    → Extends (EndShown wanted (rows_from (cells answer.store) 0 tree.symbols) answer.end) answer.output.items text → ShowsRun wanted tree input outcome text
shown_so wanted tree code input m answer outcome text compiled ended is out more =
    let store = (seq tree input).store in
    let own = sequential tree code input m answer compiled ended is in
    let same : answer.end ≡ (seq tree input).end = own.end in
    let rows : answer.end ≡ Done → rows_from (cells answer.store) 0 tree.symbols ≡ map (row_of store) tree.symbols =
    λ done. ap (λ cs. rows_from cs 0 tree.symbols) (own.store done) ∙ rows_whole store tree.symbols in
    record {
      ended = out ∙ ap outcome_of same;
      shown = record {
        last = more.last;
        ends = subst (λ (e : End). EndShown wanted (map (row_of store) tree.symbols) e more.last) same (by_rows wanted answer.end _ _ more.last rows more.fits);
        whole = more.grown ∙ ap (λ out. out ++ more.last) (is.output ∙ ended.printed);
      };
    }

-- ---- what comes of the run

-- what of an answer's page is shown, beside the schedule that is kept
pub comes_to : {E : Type 0} (tree : ProgramTree) (code : Code) (input : List ℕ) (w : Wants) (answer : Answer) (text : Result (Option (Vec ℕ Global)) E) (ran : Ran) → IsCompiled tree code → Headline code tree
    → IsAnswerOf code input w.processors w.slots answer → IfOk text (λ t. WhereWanted w.schedule t (IsScheduleOf tree code input w.processors w.slots)) → Shows w.store tree.symbols answer text ran → ComesOf tree code input w ran
comes_to tree code input w answer text (Came whole) compiled headline r kept h =
    record {
      sizes = r.sizes;
      shown = shown_so w.store tree code input r.machine answer whole.page.outcome whole.page.text.items compiled (ended_at tree code input w.processors w.slots answer headline r) r.holds h.0 h.1;
      schedule = rw h.2 at kept;
    }
comes_to tree code input w answer text (Memory output) compiled headline r kept h =
    let ended = ended_at tree code input w.processors w.slots answer headline r in
    ([], sym ended.printed ∙ sym r.holds.output ∙ sym h ∙ sym (append-nil output.items))
comes_to tree code input w answer text (Refused page) compiled headline r kept h = absurd h
comes_to tree code input w answer text OutOfRange compiled headline r kept h = absurd h
comes_to tree code input w answer text (NotStarted failure) compiled headline r kept h = absurd h
comes_to tree code input w answer text Stuck compiled headline r kept h = absurd h

where_wanted : (wanted : Bool) (text : Option (Vec ℕ Global)) (P Q : List ℕ → Type 0) → ((xs : List ℕ) → P xs → Q xs) → WhereWanted wanted text P → WhereWanted wanted text Q
where_wanted true (Some text) P Q f h = f text.items h
where_wanted true None P Q f h = h
where_wanted false (Some text) P Q f h = h
where_wanted false None P Q f h = h

pub comes_recorded : {E : Type 0} (tree : ProgramTree) (code : Code) (input : List ℕ) (w : Wants) (answer : Answer) (x : Schedule) (text : Result (Option (Vec ℕ Global)) E) (ran : Ran) → IsCompiled tree code → Headline code tree
    → IsRunOf code input w.processors w.slots answer x → IfOk text (λ t. WhereWanted w.schedule t (SchedText x)) → Shows w.store tree.symbols answer text ran → ComesOf tree code input w ran
comes_recorded tree code input w answer x text ran compiled headline r kept h =
    let reached = reaches code input w.processors w.slots (λ m. IsAnswer code m answer) r.sizes (state_of code input w.processors w.slots answer x r) in
    let ended = ended_at tree code input w.processors w.slots answer headline reached in
    comes_to tree code input w answer text ran compiled headline reached
    (IfOk-weaker text _ _
    (λ t. where_wanted w.schedule t (SchedText x) (IsScheduleOf tree code input w.processors w.slots)
    (λ xs spelled. record { schedule = x; spelled = spelled; processors = r.processors; slots = r.slots; point = r.replay.point; replays = r.replay.replays; ended = ended })) kept) h

-- ---- why there is no answer

-- a run of code that the headline holds of never stands where no step leads
pub never_stuck : (tree : ProgramTree) (code : Code) (input : List ℕ) (p s : ℕ) → Headline code tree → Reaches code input p s (IsStuckAt code p s) → ⊥
never_stuck tree code input p s headline r =
    let next = (agrees_at tree code input p s (IsStuckAt code p s) headline r).next r.holds.0 in
    r.holds.1 next.0 next.1 next.2 next.3

pub refused_unrecorded : (tree : ProgramTree) (code : Code) (input : List ℕ) (w : Wants) (why : RunRefusal) (ran : Ran) → Headline code tree → IsUnanswered code input w.processors w.slots why → IsRefusal why ran → ComesOf tree code input w ran
refused_unrecorded tree code input w (runs.Memory output) ran headline (inl h) e = absurd h
refused_unrecorded tree code input w (runs.Memory output) ran headline (inr h) e =
    let agrees = agrees_at tree code input w.processors w.slots (λ m. output.items ≡ m.output) headline h.1 in
    rw e (subst (λ (xs : List ℕ). IsBeginning xs (seq tree input).output) (sym h.1.holds) agrees.beginning)
refused_unrecorded tree code input w runs.OutOfRange ran headline (inl h) e = rw e h
refused_unrecorded tree code input w runs.OutOfRange ran headline (inr h) e = absurd h.1
refused_unrecorded tree code input w (runs.NotStarted failure) ran headline (inl h) e = absurd h
refused_unrecorded tree code input w (runs.NotStarted failure) ran headline (inr h) e = rw e h.0
refused_unrecorded tree code input w runs.Stuck ran headline (inl h) e = absurd h
refused_unrecorded tree code input w runs.Stuck ran headline (inr h) e = absurd (never_stuck tree code input w.processors w.slots headline h.1)

pub refused_recorded : (tree : ProgramTree) (code : Code) (input : List ℕ) (w : Wants) (why : RunRefusal) (ran : Ran) → Headline code tree → IsRefused code input w.processors w.slots why → IsRefusal why ran → ComesOf tree code input w ran
refused_recorded tree code input w why ran headline h e = refused_unrecorded tree code input w why ran headline (unanswered_of code input w.processors w.slots why h) e

-- ---- what compiler, machine and runs promise together

pub replays : ReplaysAreSequential
replays t code input x answer given kept r =
    let run = is_run code input x r.point kept r.replays in
    let agrees = given.1 input x.processors x.slots run.0 r.point.machine kept.0 run.1 in
    sequential t code input r.point.machine answer given.0 (agrees.answer answer.end r.is.end) r.is

pub runs_unrecorded : AnswersAreSequential
runs_unrecorded t code input p s answer given r = sequential t code input r.machine answer given.0 (ended_at t code input p s answer given.1 r) r.holds

pub runs_recorded : RunsAreSequential
runs_recorded t code input p s answer x given r = replays t code input x answer given r.kept r.replay

pub no_answer_stuck : NoAnswerIsStuck
no_answer_stuck t code input p s given (inl h) = absurd h
no_answer_stuck t code input p s given (inr h) = never_stuck t code input p s given.1 h.1

pub no_run_stuck : NoRunIsStuck
no_run_stuck t code input p s given h = no_answer_stuck t code input p s given (unanswered_of code input p s runs.Stuck h)

pub goes_on : (x : CoreView) → Replays x.code x.input x.schedule (point_at x) → IsSchedule x.schedule → GoesOn x
goes_on x replays kept t given on =
    let run = is_run x.code x.input x.schedule (point_at x) kept replays in
    let agrees = given.1 x.input x.schedule.processors x.schedule.slots run.0 (point_at x).machine kept.0 run.1 in
    let next = agrees.next on in
    (next.0, next.2, λ answer went. either x next.0 answer (went next.1 (next.2, next.3)))
  where
    either : (x : CoreView) (q : ℕ) (answer : Stepped) → HasLocal x q ⊎ IsWent answer → IsWent answer ⊎ HasLocal x q
    either x q answer (inl h) = inr h
    either x q answer (inr h) = inl h
