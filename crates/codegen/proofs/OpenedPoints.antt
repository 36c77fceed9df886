-- Where main's process opens a loop its meaning does, and behind the loop they go on alike.
use Rattle.std.proofs.Common.{◌≡◌, ◌∙◌, ◌+◌, ℕ, ℤ, Bool, List, [], ◌∷◌, ◌++◌, Option, Some, Result, Ok, Err, refl, sym, ap, subst, arith}
use Rattle.std.specs.Prelude.{map, slice_get, if◌then◌else◌}
use Rattle.ast.specs.Exact.{in_range, trips}
use Rattle.ast.specs.Meaning.{Run, exec, exec_block, given, grown, looked_up, looped, step_value, then_do, turns, value, written}
use Rattle.ast.specs.Store.{StoreOf}
use Rattle.ast.specs.Symbols.{Symbol}
use Rattle.ast.specs.Tree as tree
use Rattle.ast.specs.Tree.{Block, DoHead}
use Rattle.ast.specs.declared.fault.End.{End}
use Rattle.ast.specs.declared.fault.End.TheVariants.{Done, Stopped, Fault as Faulted}
use Rattle.ast.specs.declared.fault.Fault.{Fault}
use Rattle.ast.specs.declared.fault.Fault.TheVariants.{ZeroStep}
use Rattle.ast.proofs.Fitting.{Fits, RunFits, expression_fits}
use Rattle.ast.proofs.Trips.{next_value, no_trip}
use Rattle.dependence.specs.Plan.{PlanBlock}
use Rattle.loop_tree.proofs.KnownTrips.{step_is, trips_are}
use Rattle.machine.specs.Code.{Code, Cell, cell_at, loop_at}
use Rattle.machine.specs.State.{put_cells}
use Rattle.machine.specs.View.{Cause, Input, failure, stop_at, index_at, join_stores, joined_with, trips_of}
use Rattle.machine.specs.declared.code.Open.{Open as Opened}
use Rattle.expr_code.specs.Places.{Places}
use Rattle.expr_code.specs.Process.{term_into}
use Rattle.plan_check.specs.GoodPlan.{stripped}
use Rattle.codegen.specs.Process as process
use Rattle.codegen.specs.Process.{opened_into}
use Rattle.codegen.specs.Program.{main_places}
use Rattle.codegen.specs.Turns.{Opening, given_openings, head_openings, loop_openings}
use Rattle.codegen.proofs.Comes.{loop_is}
use Rattle.codegen.proofs.IterationMeaning.{At}
use Rattle.codegen.proofs.IterationSteps.{Process}
use Rattle.codegen.proofs.LoopMeaning.{Reached, first_at, last_is, none, ok_is, turns_reach}
use Rattle.codegen.proofs.MainSteps.{after_join, loop_opened, main_doing, meant, open_then}
use Rattle.codegen.proofs.Meaning.{going_told}
use Rattle.codegen.proofs.Meant as meant_by
use Rattle.codegen.proofs.OpenedLoop.{IsOpened, in_range_is, opened_is, starts}
use Rattle.codegen.proofs.Outcomes.{Outcome, done, failed, told_by}
use Rattle.codegen.proofs.Outcomes as outcomes
use Rattle.codegen.proofs.Points.{Point, as_point, behind, opening_acts, openings_seen, opens_from, points}
use Rattle.codegen.proofs.ProgramSteps.{Main, astray, halt, loop_meaning, whole}

module _ (code : Code) (may : ℕ → ℤ → ℤ → Bool) (places : ℕ → Places) (bodies : ℕ → PlanBlock) (fixed : ℕ → Cell → Bool) (symbols : List Symbol) (line n : ℕ) (h : DoHead) (b : Block) (w : IsOpened code may places bodies fixed symbols n h b) (a : Main Opened) (run : Run) (d : run.end ≡ Done) (f : RunFits symbols run) where
  abbrev start : Opened → StoreOf → ℕ → Process
  start = starts code may places bodies fixed

  abbrev N : Run → List (Point Opened)
  N r = opens_from start a [] r

  abbrev then_seen : Run → (Run → List (Point Opened)) → List (Point Opened)
  then_seen r next = meant_by.then_told (List (Point Opened)) (openings_seen code) r next

  abbrev trip : ℤ → Run → Run
  trip step r = then_do (exec_block symbols b r) (λ y. grown line h.variable.name step y)

  module _ (m1 m2 : ℤ) (f1 : Fits m1) (f2 : Fits m2) where
    abbrev l : Opened
    l = loop_opened code may n m1 m2

    abbrev step : ℤ
    step = (loop_at code n).step

    abbrev first : Run
    first = written run h.variable.name 0 m1

    -- the loop's turns, as its iterations make them
    abbrev raw : Run → Run
    raw r = then_do (exec_block (places n).symbols (stripped (bodies n)) r) (λ y. grown line h.variable.name (loop_at code n).step y)

    abbrev E : Run
    E = turns (trip w.step) (trips m1 m2 w.step) (written run h.variable.name 0 m1)

    abbrev unread : Input
    unread = record { left = []; records = run.input }

    -- behind the join
    abbrev J : StoreOf → List ℕ → List (Point Opened)
    J τ t = points Opened trips_of start (after_join (in_range (index_at code l l.trips)) line a) (put_cells τ (join_stores code l)) unread t

    raw_is : turns raw l.trips first ≡ E
    raw_is =
        ap (λ (ss : List Symbol). turns (λ r. then_do (exec_block ss (stripped (bodies n)) r) (λ y. grown line h.variable.name step y)) l.trips first) w.symbols_are
        ∙ ap (λ (c : Block). turns (λ r. then_do (exec_block symbols c r) (λ y. grown line h.variable.name step y)) l.trips first) w.body_is
        ∙ ap (λ (s : ℤ). turns (λ r. then_do (exec_block symbols b r) (λ y. grown line h.variable.name s y)) (trips m1 m2 s) first) w.step_is

    -- all turns are made
    made : (turns raw l.trips first).end ≡ Done → behind (loop_meaning Opened trips_of start l run.store run.output) J ≡ N (turns raw l.trips first)
    made e =
        let r : Reached code l (places n) (bodies n) (fixed n) h.variable.name w.loop run.store raw l.trips 0 first run.store
        = turns_reach code l (places n) (bodies n) (fixed n) h.variable.name w.loop run.store line step (λ k. next_value m1 (loop_at code n).step k) l.trips 0 first run.store d
        (first_at code l (places n) (bodies n) (fixed n) h.variable.name w.loop run.store m1 (sym (no_trip m1 step)))
        (m1, ap in_range (no_trip m1 step) ∙ in_range_is m1 f1) e in
        let z : 0 + l.trips ≡ l.trips = omega arith in
        let v : ℤ = (r.valid).0 in
        let valid : in_range (index_at code l l.trips) ≡ Ok v = subst (λ (k : ℕ). in_range (index_at code l k) ≡ Ok v) z (r.valid).1 in
        let at = subst (λ (k : ℕ). At (places n) (index_at code l k) (fixed n) run.store (turns raw l.trips first).store (none code l (places n) (bodies n) (fixed n) h.variable.name w.loop run.store) r.left) z r.at in
        let o = (turns raw l.trips first).output in
        ap (λ (q : Outcome). behind q J) (loop_is (starts code may places bodies fixed l run.store) l.trips run.store run.output ∙ r.comes)
        ∙ ap (λ (q : Result ℤ Fault). points Opened trips_of start (after_join q line a) (put_cells r.left (joined_with q (cell_at (slice_get code.variables (loop_at code n).variable) 0))) unread o) valid
        ∙ ap (λ (c : Option Cell). points Opened trips_of start a (put_cells r.left (joined_with (Ok v) c)) unread o) (w.loop).joins
        ∙ ap (λ (s : StoreOf). points Opened trips_of start a s unread o) (last_is code l (places n) (bodies n) (fixed n) h.variable.name w.loop run.store l.trips (turns raw l.trips first).store r.left v (ok_is (index_at code l l.trips) v valid) at)
        ∙ ap (λ (i : List (List ℕ)). points Opened trips_of start a (turns raw l.trips first).store (record { left = []; records = i }) o) (sym r.unread)

    abbrev any : Outcome
    any = failed (stop_at 0) []

    -- the loop breaks off
    ended : (q : Outcome) (c : Cause) (u : List ℕ) → outcomes.then_do q (λ τ t. whole Opened trips_of start any (after_join (in_range (index_at code l l.trips)) line halt) (put_cells τ (join_stores code l)) unread t) ≡ failed c u → behind q J ≡ []
    ended (failed k o) c u e = refl
    ended (done τ t) c u e = by (in_range (index_at code l l.trips)) e
      where
        by : (q : Result ℤ Fault) → whole Opened trips_of start any (after_join q line halt) (put_cells τ (join_stores code l)) unread t ≡ failed c u → points Opened trips_of start (after_join q line a) (put_cells τ (join_stores code l)) unread t ≡ []
        by (Ok v) e = cc
        by (Err k) e = refl

    tail : behind (loop_meaning Opened trips_of start l run.store run.output) J ≡ then_seen E N
    tail = by E.end refl
      where
        whole_is : meant start any (open_then code may l line halt) [] run ≡ going_told E.end E (λ r. meant start any halt [] r)
        whole_is = opened_is code may places bodies fixed symbols any line n h b w halt run d f m1 m2 f1 f2

        by : (x : End) → E.end ≡ x → behind (loop_meaning Opened trips_of start l run.store run.output) J ≡ meant_by.going_told (List (Point Opened)) (openings_seen code) E.end E N
        by Done e =
            made (ap (λ (r : Run). r.end) raw_is ∙ e) ∙ ap N raw_is
            ∙ sym (ap (λ (z : End). meant_by.going_told (List (Point Opened)) (openings_seen code) z E N) e)
        by (Stopped y) e =
            ended (loop_meaning Opened trips_of start l run.store run.output) (stop_at y) E.output (whole_is ∙ ap (λ (z : End). going_told z E (λ r. meant start any halt [] r)) e ∙ ap (λ (z : End). told_by z E) e)
            ∙ sym (ap (λ (z : End). meant_by.going_told (List (Point Opened)) (openings_seen code) z E N) e)
        by (Faulted k y) e =
            ended (loop_meaning Opened trips_of start l run.store run.output) (failure k y) E.output (whole_is ∙ ap (λ (z : End). going_told z E (λ r. meant start any halt [] r)) e ∙ ap (λ (z : End). told_by z E) e)
            ∙ sym (ap (λ (z : End). meant_by.going_told (List (Point Opened)) (openings_seen code) z E N) e)

  module _ (inner : Run → List Opening) where
    abbrev range : Run → Run
    range before = exec_block symbols b before

    -- what is opened, and then seen, by the loop's step
    abbrev by_step : ℤ → ℤ → Result ℤ Fault → List (Point Opened)
    by_step m1 m2 r =
        map (as_point code) (given_openings r (λ m3. loop_openings (Some n) line h.variable.name inner range m1 m2 m3 run))
        ++ then_seen (given r line run (λ m3. looped line h.variable.name range m1 m2 m3 run)) N

    stepped : (m1 m2 : ℤ) → value (looked_up symbols run.store) h.first ≡ Ok m1 → value (looked_up symbols run.store) h.last ≡ Ok m2
        → opens_from start (if may n m1 m2 then open_then code may (loop_opened code may n m1 m2) line a else astray) [] run ≡ by_step m1 m2 (step_value (looked_up symbols run.store) h.step)
    stepped m1 m2 e1 e2 =
        let f1 = expression_fits symbols run.store f h.first w.first_fits m1 e1 in
        let f2 = expression_fits symbols run.store f h.last w.last_fits m2 e2 in
        let s : step_value (looked_up symbols run.store) h.step ≡ Ok w.step = step_is (looked_up symbols run.store) h.step w.step w.step_known in
        let ok = w.allowed m1 m2 f1 f2 (λ t e. trips_are (looked_up symbols run.store) h t m1 m2 w.step e e1 e2 s) in
        ap (λ (c : Bool). opens_from start (if c then open_then code may (loop_opened code may n m1 m2) line a else astray) [] run) ok
        ∙ ap (λ (ps : List (Point Opened)). record { loop = loop_opened code may n m1 m2; cells = join_stores code (loop_opened code may n m1 m2); store = run.store; input = record { left = []; records = run.input }; output = run.output } ∷ ps) (tail m1 m2 f1 f2)
        ∙ ap (λ (z : ℤ). record { loop = record { number = n; first = m1; trips = trips m1 m2 z }; cells = join_stores code (record { number = n; first = m1; trips = trips m1 m2 z }); store = run.store; input = record { left = []; records = run.input }; output = run.output } ∷ then_seen (E m1 m2 f1 f2) N) w.step_is
        ∙ sym (ap (λ (c : Bool). map (as_point code) (loop_openings (Some n) line h.variable.name inner range m1 m2 w.step run) ++ then_seen (if c then record run { end = Faulted ZeroStep line } else E m1 m2 f1 f2) N) w.nonzero)
        ∙ sym (ap (λ (r : Result ℤ Fault). by_step m1 m2 r) s)

    -- main opens the loop as its meaning does, and goes on behind it
    pub open_points : opens_from start (opened_into (Main Opened) (main_doing code may) (main_places symbols) line h n a) [] run
        ≡ map (as_point code) (head_openings symbols (Some n) line h inner range run) ++ then_seen (exec symbols (tree.loop line h b) run) N
    open_points =
        let p = main_places symbols in
        let D = main_doing code may in
        let look = looked_up symbols run.store in
        let acts = opening_acts code may start symbols in
        meant_by.value_meant (List (Point Opened)) (openings_seen code) (Main Opened) D p (opens_from start) acts line h.first (λ m1. term_into (Main Opened) (D.evaluate line) (process.on (Main Opened) D p line) h.last (λ m2. D.opening line n m1 m2 a)) [] run w.first
        ∙ meant_by.given_more (List (Point Opened)) (openings_seen code) (value look h.first) line run (λ m1. opens_from start (term_into (Main Opened) (D.evaluate line) (process.on (Main Opened) D p line) h.last (λ m2. D.opening line n m1 m2 a)) [] run)
        (λ m1. given_openings (value look h.last) (λ m2. given_openings (step_value look h.step) (λ m3. loop_openings (Some n) line h.variable.name inner range m1 m2 m3 run)))
        (λ m1. given (value look h.last) line run (λ m2. given (step_value look h.step) line run (λ m3. looped line h.variable.name range m1 m2 m3 run))) N (λ m1 e1.
        meant_by.value_meant (List (Point Opened)) (openings_seen code) (Main Opened) D p (opens_from start) acts line h.last (λ m2. D.opening line n m1 m2 a) [] run w.last
        ∙ meant_by.given_more (List (Point Opened)) (openings_seen code) (value look h.last) line run (λ m2. opens_from start (D.opening line n m1 m2 a) [] run)
        (λ m2. given_openings (step_value look h.step) (λ m3. loop_openings (Some n) line h.variable.name inner range m1 m2 m3 run))
        (λ m2. given (step_value look h.step) line run (λ m3. looped line h.variable.name range m1 m2 m3 run)) N (λ m2 e2. stepped m1 m2 e1 e2))
