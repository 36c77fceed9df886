-- Main's process at a loop that is opened comes to what the DO means.
use Rattle.std.proofs.Common.{◌≡◌, ◌∙◌, ◌<◌, ℕ, suc, ℤ, pos, Bool, true, false, List, [], Option, Some, Result, Ok, Err, refl, sym, ap, arith}
use Rattle.std.specs.Prelude.{◌+ℤ◌, ◌*ℤ◌, slice_get, if◌then◌else◌}
use Rattle.std.specs.Ordering.{int_eq}
use Rattle.ast.specs.Exact.{in_range, trips}
use Rattle.ast.specs.Meaning.{Run, then_do, given, written, turns, grown, looped, exec, exec_block, looked_up, step_value, value}
use Rattle.ast.specs.Store.{StoreOf}
use Rattle.ast.specs.Symbols.{Symbol}
use Rattle.ast.specs.Tree as tree
use Rattle.ast.specs.Tree.{Block, DoHead}
use Rattle.ast.specs.declared.fault.End.TheVariants.{Done, Fault as Faulted}
use Rattle.ast.specs.declared.fault.Fault.{Fault}
use Rattle.ast.specs.declared.fault.Fault.TheVariants.{Overflow, ZeroStep}
use Rattle.dependence.specs.Plan.{PlanBlock}
use Rattle.loop_tree.specs.Constants.{step_of, trips_of as trips_known}
use Rattle.machine.specs.Code.{Code, Cell, cell_at, loop_at}
use Rattle.machine.specs.State.{put_cells}
use Rattle.machine.specs.View.{failure, index_at, join_stores, joined_with, trips_of}
use Rattle.machine.specs.declared.code.Open.{Open as Opened}
use Rattle.expr_code.specs.Places.{Places}
use Rattle.expr_code.specs.Process.{term_into}
use Rattle.expr_code.proofs.Meaning.{Named, on, term_meant}
use Rattle.codegen.specs.Process as process
use Rattle.codegen.specs.Process.{opened_into}
use Rattle.codegen.specs.Program.{main_places}
use Rattle.codegen.proofs.IterationCode.{iteration_process}
use Rattle.codegen.proofs.IterationSteps.{Process}
use Rattle.codegen.proofs.MainSteps.{after_join, loop_opened, main_acts, main_doing, meant, open_then}
use Rattle.codegen.proofs.Meaning.{given_told, then_told}
use Rattle.codegen.proofs.Outcomes.{Outcome, failed}
use Rattle.codegen.proofs.Outcomes as outcomes
use Rattle.codegen.proofs.ProgramSteps.{Main, astray, whole}
use Rattle.loop_tree.proofs.KnownTrips.{step_is, trips_are}
use Rattle.ast.proofs.Trips.{in_trips, next_value, no_trip}
use Rattle.ast.specs.Regular.{is_fitting}
use Rattle.ast.proofs.Fitting.{Fits, RunFits, expression_fits}
use Rattle.codegen.proofs.Comes.{loop_is}
use Rattle.codegen.proofs.IterationMeaning.{At}
use Rattle.codegen.proofs.LoopMeaning.{IsLoop, first_at, last_is, loop_comes, none, ok_is}
use Rattle.plan_check.specs.GoodPlan.{stripped}

pub in_range_is : (z : ℤ) → Fits z → in_range z ≡ Ok z
in_range_is z f = ap (λ (b : Bool). if b then Ok z else Err Overflow) f

given_then : {V : Type 0} (r : Result V Fault) (line : ℕ) (run : Run) (f : V → Outcome) (g : V → Run) (N : Run → Outcome) → ((v : V) → r ≡ Ok v → f v ≡ then_told (g v) N) → given_told r line run f ≡ then_told (given r line run g) N
given_then (Ok v) line run f g N h = h v refl
given_then (Err e) line run f g N h = refl

on_told : (r : Result ℤ Fault) (line : ℕ) (run : Run) (k : ℤ → Outcome) → on (λ e. failed (failure e line) run.output) r k ≡ given_told r line run k
on_told (Ok v) line run k = refl
on_told (Err e) line run k = refl

-- places, bodies and fixed: of each loop that is opened, by its number
module _ (code : Code) (may : ℕ → ℤ → ℤ → Bool) (places : ℕ → Places) (bodies : ℕ → PlanBlock) (fixed : ℕ → Cell → Bool) where
  abbrev pub starts : Opened → StoreOf → ℕ → Process
  starts l ι k = iteration_process code l.number (places l.number) (bodies l.number) (fixed l.number) ι (index_at code l k)

  -- Loop n is this one of the program.
  pub record IsOpened (symbols : List Symbol) (n : ℕ) (h : DoHead) (b : Block) : Type 0 where
    pub symbols_are : (places n).symbols ≡ symbols
    pub body_is : stripped (bodies n) ≡ b
    pub step : ℤ
    pub step_known : step_of h ≡ Some step
    pub nonzero : int_eq step (pos 0) ≡ false
    pub step_is : (loop_at code n).step ≡ step
    pub loop : IsLoop code n (places n) (bodies n) (fixed n) h.variable.name
    pub allowed : (m1 m2 : ℤ) → Fits m1 → Fits m2 → ((t : ℕ) → trips_known h ≡ Some t → trips m1 m2 step ≡ t) → may n m1 m2 ≡ true
    pub first : Named (main_places symbols) h.first
    pub last : Named (main_places symbols) h.last
    pub first_fits : is_fitting h.first ≡ true
    pub last_fits : is_fitting h.last ≡ true

  module _ (symbols : List Symbol) (x : Outcome) (line n : ℕ) (h : DoHead) (b : Block) (w : IsOpened symbols n h b) (a : Main Opened) (run : Run) (d : run.end ≡ Done) (f : RunFits symbols run) where
    abbrev N : Run → Outcome
    N r = meant starts x a [] r

    abbrev trip : ℤ → Run → Run
    trip step r = then_do (exec_block symbols b r) (λ y. grown line h.variable.name step y)

    -- the loop's iterations, then its join
    pub opened_is : (m1 m2 : ℤ) → Fits m1 → Fits m2 → meant starts x (open_then code may (loop_opened code may n m1 m2) line a) [] run ≡ then_told (turns (trip w.step) (trips m1 m2 w.step) (written run h.variable.name 0 m1)) N
    opened_is m1 m2 f1 f2 =
        ap (λ (q : Outcome). outcomes.then_do q K) (loop_is (starts l run.store) l.trips run.store run.output)
        ∙ loop_comes code l (places n) (bodies n) (fixed n) h.variable.name w.loop run.store line l.trips step steps inside K N run.input fine over l.trips 0 (omega arith) (written run h.variable.name 0 m1) run.store d
        (first_at code l (places n) (bodies n) (fixed n) h.variable.name w.loop run.store m1 (sym (no_trip m1 step))) refl empty
        ∙ ap (λ (ss : List Symbol). then_told (turns (λ r. then_do (exec_block ss (stripped (bodies n)) r) (λ y. grown line h.variable.name step y)) l.trips (written run h.variable.name 0 m1)) N) w.symbols_are
        ∙ ap (λ (c : Block). then_told (turns (λ r. then_do (exec_block symbols c r) (λ y. grown line h.variable.name step y)) l.trips (written run h.variable.name 0 m1)) N) w.body_is
        ∙ ap (λ (s : ℤ). then_told (turns (λ r. then_do (exec_block symbols b r) (λ y. grown line h.variable.name s y)) (trips m1 m2 s) (written run h.variable.name 0 m1)) N) w.step_is
      where
        l : Opened
        l = loop_opened code may n m1 m2

        step : ℤ
        step = (loop_at code n).step

        nonzero : int_eq (loop_at code n).step (pos 0) ≡ false
        nonzero = ap (λ (s : ℤ). int_eq s (pos 0)) w.step_is ∙ w.nonzero

        K : StoreOf → List ℕ → Outcome
        K τ t = whole Opened trips_of starts x (after_join (in_range (index_at code (loop_opened code may n m1 m2) (loop_opened code may n m1 m2).trips)) line a) (put_cells τ (join_stores code (loop_opened code may n m1 m2))) (record { left = []; records = run.input }) t

        steps : (k : ℕ) → index_at code (loop_opened code may n m1 m2) k +ℤ (loop_at code n).step ≡ index_at code (loop_opened code may n m1 m2) (suc k)
        steps k = next_value m1 (loop_at code n).step k

        inside : (k : ℕ) → k < trips m1 m2 (loop_at code n).step → in_range (index_at code (loop_opened code may n m1 m2) k) ≡ Ok (index_at code (loop_opened code may n m1 m2) k)
        inside k lt = in_range_is (index_at code (loop_opened code may n m1 m2) k) (in_trips m1 m2 (loop_at code n).step k f1 f2 lt nonzero)

        empty : trips m1 m2 (loop_at code n).step ≡ 0 → (v : ℤ) × (in_range (index_at code (loop_opened code may n m1 m2) (trips m1 m2 (loop_at code n).step)) ≡ Ok v)
        empty z = (m1, ap (λ (k : ℕ). in_range (m1 +ℤ (pos k *ℤ (loop_at code n).step))) z ∙ ap in_range (no_trip m1 (loop_at code n).step) ∙ in_range_is m1 f1)

        fine : (v : ℤ) → in_range (index_at code (loop_opened code may n m1 m2) (loop_opened code may n m1 m2).trips) ≡ Ok v → (r : Run) (σ : StoreOf) → r.end ≡ Done
            → At (places n) (index_at code (loop_opened code may n m1 m2) (loop_opened code may n m1 m2).trips) (fixed n) run.store r.store (none code (loop_opened code may n m1 m2) (places n) (bodies n) (fixed n) h.variable.name w.loop run.store) σ → r.input ≡ run.input → K σ r.output ≡ meant starts x a [] r
        fine v e r σ done_is at same =
            ap (λ (q : Result ℤ Fault). whole Opened trips_of starts x (after_join q line a) (put_cells σ (joined_with q (cell_at (slice_get code.variables (loop_at code n).variable) 0))) (record { left = []; records = run.input }) r.output) e
            ∙ ap (λ (o : Option Cell). whole Opened trips_of starts x a (put_cells σ (joined_with (Ok v) o)) (record { left = []; records = run.input }) r.output) (w.loop).joins
            ∙ ap (λ (s : StoreOf). whole Opened trips_of starts x a s (record { left = []; records = run.input }) r.output) (last_is code (loop_opened code may n m1 m2) (places n) (bodies n) (fixed n) h.variable.name w.loop run.store (loop_opened code may n m1 m2).trips r.store σ v (ok_is (index_at code (loop_opened code may n m1 m2) (loop_opened code may n m1 m2).trips) v e) at)
            ∙ ap (λ (i : List (List ℕ)). whole Opened trips_of starts x a r.store (record { left = []; records = i }) r.output) (sym same)

        over : (e : Fault) → in_range (index_at code (loop_opened code may n m1 m2) (loop_opened code may n m1 m2).trips) ≡ Err e → (σ : StoreOf) (o : List ℕ) → K σ o ≡ failed (failure e line) o
        over e g σ o = ap (λ (q : Result ℤ Fault). whole Opened trips_of starts x (after_join q line a) (put_cells σ (join_stores code (loop_opened code may n m1 m2))) (record { left = []; records = run.input }) o) g

    -- main opens the loop and goes on behind it
    pub open_meant : meant starts x (opened_into (Main Opened) (main_doing code may) (main_places symbols) line h n a) [] run ≡ then_told (exec symbols (tree.loop line h b) run) N
    open_meant =
        let p = main_places symbols in
        let D = main_doing code may in
        let look = looked_up symbols run.store in
        let M = (main_acts code may starts symbols x).evaluates line [] run in
        term_meant (Main Opened) (D.evaluate line) (process.on (Main Opened) D p line) run.store Outcome (λ c. meant starts x c [] run) (λ e. failed (failure e line) run.output) M h.first (λ m1. term_into (Main Opened) (D.evaluate line) (process.on (Main Opened) D p line) h.last (λ m2. D.opening line n m1 m2 a)) w.first
        ∙ on_told (value look h.first) line run (λ m1. meant starts x (term_into (Main Opened) (D.evaluate line) (process.on (Main Opened) D p line) h.last (λ m2. D.opening line n m1 m2 a)) [] run)
        ∙ given_then (value look h.first) line run (λ m1. meant starts x (term_into (Main Opened) (D.evaluate line) (process.on (Main Opened) D p line) h.last (λ m2. D.opening line n m1 m2 a)) [] run) (λ m1. given (value look h.last) line run (λ m2. given (step_value look h.step) line run (λ m3. looped line h.variable.name (λ before. exec_block symbols b before) m1 m2 m3 run))) N (λ m1 e1.
        term_meant (Main Opened) (D.evaluate line) (process.on (Main Opened) D p line) run.store Outcome (λ c. meant starts x c [] run) (λ e. failed (failure e line) run.output) M h.last (λ m2. D.opening line n m1 m2 a) w.last
        ∙ on_told (value look h.last) line run (λ m2. meant starts x (D.opening line n m1 m2 a) [] run)
        ∙ given_then (value look h.last) line run (λ m2. meant starts x (D.opening line n m1 m2 a) [] run) (λ m2. given (step_value look h.step) line run (λ m3. looped line h.variable.name (λ before. exec_block symbols b before) m1 m2 m3 run)) N (λ m2 e2. stepped m1 m2 e1 e2))
      where
        stepped : (m1 m2 : ℤ) → value (looked_up symbols run.store) h.first ≡ Ok m1 → value (looked_up symbols run.store) h.last ≡ Ok m2
            → meant starts x (if may n m1 m2 then open_then code may (loop_opened code may n m1 m2) line a else astray) [] run ≡ then_told (given (step_value (looked_up symbols run.store) h.step) line run (λ m3. looped line h.variable.name (λ before. exec_block symbols b before) m1 m2 m3 run)) N
        stepped m1 m2 e1 e2 =
            let f1 = expression_fits symbols run.store f h.first w.first_fits m1 e1 in
            let f2 = expression_fits symbols run.store f h.last w.last_fits m2 e2 in
            let s : step_value (looked_up symbols run.store) h.step ≡ Ok w.step = step_is (looked_up symbols run.store) h.step w.step w.step_known in
            let ok = w.allowed m1 m2 f1 f2 (λ t e. trips_are (looked_up symbols run.store) h t m1 m2 w.step e e1 e2 s) in
            ap (λ (c : Bool). meant starts x (if c then open_then code may (loop_opened code may n m1 m2) line a else astray) [] run) ok
            ∙ opened_is m1 m2 f1 f2
            ∙ sym (ap (λ (c : Bool). then_told (if c then record run { end = Faulted ZeroStep line } else turns (λ r. then_do (exec_block symbols b r) (λ y. grown line h.variable.name w.step y)) (trips m1 m2 w.step) (written run h.variable.name 0 m1)) N) w.nonzero)
            ∙ sym (ap (λ (q : Result ℤ Fault). then_told (given q line run (λ m3. looped line h.variable.name (λ before. exec_block symbols b before) m1 m2 m3 run)) N) s)
