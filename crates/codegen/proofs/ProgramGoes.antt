-- No state that hasn't ended is without a next step, and each activity that is held has one.
use Rattle.std.proofs.Common.{◌≡◌, ◌∙◌, ℕ, zero, suc, ◌+◌, ◌-◌, ◌<◌, ◌≤◌, ℤ, List, [], ◌∷◌, ◌++◌, Option, Some, None, ◌⊎◌, inl, inr, refl, sym, subst, ⊎_elim, arith}
use Rattle.std.proofs.lemmas.Bool.{cases_eq, cases_lt}
use Rattle.ast.specs.Input.{records_of}
use Rattle.ast.specs.Store.{StoreOf, zeros}
use Rattle.ast.specs.declared.fault.End.TheVariants.{Done}
use Rattle.machine.specs.Code.{Cell}
use Rattle.machine.specs.State.{State, Active, Wait, until_count, until_retired, Who, the_main, iteration, take_main, take_iteration, take_ticket, Reached, with_frame, park, Move, MainMove, Turn, Step, Run, initial, put_at, put_cell, put_cells, end_of}
use Rattle.machine.specs.View.{View}
use Rattle.codegen.proofs.IterationSteps.{Process, load, store, print, await, advance, tick, fault, leave, gone, after, cell_value}
use Rattle.codegen.proofs.LoopMachine.{Inside, Loads, Advances, Awaits}
use Rattle.codegen.proofs.LoopRuns.{may_advance, reached}
use Rattle.codegen.proofs.ProgramMoves.{never_astray, step_out}
use Rattle.codegen.proofs.ProgramPlaces.{none_open, places_init}
use Rattle.codegen.proofs.ProgramStanding.{WaitsFor, Stands, MainStands, Loops, Ghost, between, within, inner, Between, Within, Good}
use Rattle.codegen.proofs.Outcomes.{Outcome}
use Rattle.codegen.proofs.ProgramSteps.{Main, take, keep, say, get, work, crash, halt, open_loop, astray, Here, meaning}

busy_or_idle : {A : Type 0} (held : ℕ → Option A) (n : ℕ) → ((q : ℕ) × (q < n) × (u : A) × (held q ≡ Some u)) ⊎ ((q : ℕ) → q < n → held q ≡ None)
busy_or_idle held zero = inr (λ q lt. absurd (omega arith))
busy_or_idle {A = A} held (suc n) = by (held n) refl (busy_or_idle held n)
  where
    by : (o : Option A) → held n ≡ o → ((q : ℕ) × (q < n) × (u : A) × (held q ≡ Some u)) ⊎ ((q : ℕ) → q < n → held q ≡ None) → ((q : ℕ) × (q < suc n) × (u : A) × (held q ≡ Some u)) ⊎ ((q : ℕ) → q < suc n → held q ≡ None)
    by (Some u) e h = inl (n, omega arith, u, e)
    by None e (inl h) = inl (h.0, omega arith, h.2, h.3)
    by None e (inr h) = inr (λ q lt. ⊎_elim (λ x. subst (λ y. held y ≡ None) (sym x) e) (λ ne. h q (omega arith)) (cases_eq q n))

module _ (F L : Type 0) (view : F → View F L) (trips : L → ℕ) (begin : L → ℕ → F) (slots : ℕ) (Hidden Fixed : L → Cell → Type 0) (Named : L → ℕ → Type 0) (start : L → StoreOf → ℕ → Process) (Valid : L → Type 0) (p : ℕ) (origin : Here L) (answer : Outcome) (means : (x : Outcome) → meaning L trips start x origin ≡ answer)
    (loops : Loops F L view trips begin Hidden Fixed Named start Valid) where
  abbrev G : Ghost L → State F L → Type 0
  G g m = Good F L view trips begin Hidden Fixed start Valid p origin answer g m

  abbrev Goes : State F L → Type 0
  Goes m = (q : ℕ) × (q < p) × (n : State F L) × Step F L view trips begin slots m q n

  -- processor q has a step
  abbrev Moves : State F L → ℕ → Type 0
  Moves m q = (n : State F L) × Step F L view trips begin slots m q n

  module _ (l : L) (ι : StoreOf) (past : ℕ → List ℤ) (before : List ℕ) (xs : List (Cell × ℤ)) (M : Main L) (m : State F L) (good : G (within l ι past before xs M) m) where
    abbrev W : Within F L view trips begin Hidden Fixed start Valid p origin answer l ι past before xs M m
    W = good.kept

    abbrev s : Inside
    s = inner m past

    -- an iteration that is held can go on or park
    can : (q k : ℕ) → m.retired ≤ k → k < trips l → (a : Active F) → (P : Process) → after (start l ι k) (past k) ≡ P → Stands F L view (Hidden l) (Fixed l) ι P a.frame → (n : State F L) × Move (view a.frame) a m q k n
    can q k le lt a (load r c κ) eq st' =
        let st = st' (loops.never l W.valid ι k (past k) c (subst (λ x. Loads x c) (sym eq) refl)) in
        let n = with_frame m k (st.0 (cell_value m.store c)) a.out in
        (n, subst (λ V. Move V a m q k n) (sym st.1) refl)
    can q k le lt a (store r c v P) eq st =
        let n : State F L = record (with_frame m k st.0 a.out) { store = put_cell m.store c v } in
        (n, subst (λ V. Move V a m q k n) (sym st.1) refl)
    can q k le lt a (print v P) eq st =
        let n = with_frame m k st.0 (a.out ++ v) in
        (n, subst (λ V. Move V a m q k n) (sym st.1) refl)
    can q k le lt a (tick P) eq (inl st) =
        let n = with_frame m k st.0 a.out in
        (n, subst (λ V. Move V a m q k n) (sym st.1) refl)
    can q k le lt a (tick P) eq (inr st) =
        let n = with_frame m k (st.1 (cell_value m.store st.0)) a.out in
        (n, subst (λ V. Move V a m q k n) (sym st.3) refl)
    can q k le lt a (advance e P) eq st =
        let n : State F L = record (with_frame m k st.0 a.out) { counts = put_at m.counts e (m.counts e + 1) } in
        let c = may_advance (start l ι) (trips l) (Named l) (loops.plan l W.valid ι) ι s W.inv k e lt (subst (λ x. Advances x e) (sym eq) refl) in
        (n, subst (λ V. Move V a m q k n) (sym st.1) (c, refl))
    can q k le lt a (await e d P) eq st = ⊎_elim
        (λ b. let n = with_frame m k st.0 a.out in (n, subst (λ V. Move V a m q k n) (sym st.1) (inl (b, refl))))
        (λ b. let n = park m q k (until_count e (k + 1 - d)) in (n, subst (λ V. Move V a m q k n) (sym st.1) (inr (b, refl))))
        (cases_lt k (m.counts e + d))
    can q k le lt a (leave ws) eq st = ⊎_elim
        (λ b. let n = park m q k (until_retired k) in (n, subst (λ V. Move V a m q k n) (sym st) (inr (b, refl))))
        (λ b.
        let n : State F L = record m { store = put_cells m.store ws; output = m.output ++ a.out; retired = m.retired + 1; iterations = put_at m.iterations k None; held = put_at m.held q None } in
        (n, subst (λ V. Move V a m q k n) (sym st) (inl (omega arith, refl))))
        (cases_lt m.retired k)
    can q k le lt a (fault c) eq st = ⊎_elim
        (λ b. let n = park m q k (until_retired k) in (n, subst (λ V. Move V a m q k n) (sym st) (inr (b, refl))))
        (λ b.
        let n : State F L = record m { output = m.output ++ a.out; ended = Some (end_of c) } in
        (n, subst (λ V. Move V a m q k n) (sym st) (inl (omega arith, refl))))
        (cases_lt m.retired k)
    can q k le lt a gone eq st = let x = (W.inv).has_left k ((loops.plan l W.valid ι).lasts k (past k) eq) in absurd (omega arith)

    -- the lowest never waits
    pub lowest_reached : (P : Process) → after (start l ι m.retired) (past m.retired) ≡ P → (w : Wait) → WaitsFor P m.retired w → Reached m w
    lowest_reached (await e d P) eq w h =
        let a = (loops.plan l W.valid ι).far m.retired (past m.retired) e d (subst (λ x. Awaits x e d) (sym eq) (refl, refl)) in
        let r = reached (start l ι) (trips l) (Named l) (loops.plan l W.valid ι) ι s W.inv e a.1 in
        subst (Reached m) (sym h) (omega arith)
    lowest_reached (leave xs) eq w h = subst (Reached m) (sym h) (omega arith)
    lowest_reached (fault f) eq w h = subst (Reached m) (sym h) (omega arith)
    lowest_reached _ eq w h = absurd h

    within_held : m.ended ≡ None → (q : ℕ) (u : Who) → m.held q ≡ Some u → Moves m q
    within_held going q (iteration k) hold =
        let here = (good.places).holds q k hold in
        let tk = W.ticket in
        let o = (good.places).opened k here.0 here.1 in
        let a = W.active k o.0 o.1 in
        let c = can q k here.0 (omega arith) o.0 (after (start l ι k) (past k)) refl a.0 in
        (c.0, record { going = going; turn = subst (λ o. Turn F L view trips begin slots o m q c.0) (sym hold) (o.0, o.1, c.1) })
    within_held going q the_main hold =
        let at = W.at in
        ⊎_elim
        (λ lt.
        let n : State F L = record m { waiting = Some (until_retired (trips l)); held = put_at m.held q None } in
        (n, record { going = going; turn = subst (λ o. Turn F L view trips begin slots o m q n) (sym hold) (subst (λ V. MainMove trips V m q n) (sym at.2) (l, W.loop, inr (lt, refl))) }))
        (λ ge.
        let n : State F L = record m { main = at.1 l; store = put_cells m.store (at.0 l); loop = None } in
        (n, record { going = going; turn = subst (λ o. Turn F L view trips begin slots o m q n) (sym hold) (subst (λ V. MainMove trips V m q n) (sym at.2) (l, W.loop, inl (ge, refl))) }))
        (cases_lt m.retired (trips l))

    within_goes : m.ended ≡ None → 0 < p → 0 < slots → Goes m
    within_goes going some_p some_s = ⊎_elim
        (λ b. busy b.0 b.1 b.2 b.3)
        (λ idle.
        let none : m.held 0 ≡ None = idle 0 (omega arith) in
        ⊎_elim
        (λ more. ⊎_elim
        (λ opened. ⊎_elim
        (λ parked.
        let r = lowest_reached (after (start l ι m.retired) (past m.retired)) refl parked.0 (W.waits m.retired parked.0 parked.1) in
        let n : State F L = record m { parked = put_at m.parked m.retired None; held = put_at m.held 0 (Some (iteration m.retired)) } in
        (0, omega arith, n, record { going = going; turn = subst (λ o. Turn F L view trips begin slots o m 0 n) (sym none) (take_iteration m.retired, (parked.0, parked.1, r, refl)) }))
        (λ held. let e : None ≡ Some (iteration m.retired) = sym (idle held.0 held.1) ∙ held.2 in absurd cc)
        ((good.places).somewhere m.retired (omega arith) opened))
        (λ le.
        let bh = (good.places).behind in
        let n : State F L = record m { ticket = m.ticket + 1; iterations = put_at m.iterations m.ticket (Some (record { frame = begin l m.ticket; out = [] })); held = put_at m.held 0 (Some (iteration m.ticket)) } in
        (0, omega arith, n, record { going = going; turn = subst (λ o. Turn F L view trips begin slots o m 0 n) (sym none) (take_ticket, (l, W.loop, omega arith, omega arith, refl)) }))
        (cases_lt m.retired m.ticket))
        (λ all. ⊎_elim
        (λ parked.
        let is = W.waits_main parked.0 parked.1 in
        let r : Reached m parked.0 = subst (Reached m) (sym is) all in
        let n : State F L = record m { waiting = None; held = put_at m.held 0 (Some the_main) } in
        (0, omega arith, n, record { going = going; turn = subst (λ o. Turn F L view trips begin slots o m 0 n) (sym none) (take_main, (parked.0, parked.1, r, refl)) }))
        (λ held. let e : None ≡ Some the_main = sym (idle held.0 held.1) ∙ held.2 in absurd cc)
        (good.places).main_somewhere)
        (cases_lt m.retired (trips l)))
        (busy_or_idle m.held p)
      where
        busy : (q : ℕ) → q < p → (u : Who) → m.held q ≡ Some u → Goes m
        busy q below u hold = let c = within_held going q u hold in (q, below, c.0, c.1)

  module _ (m : State F L) where
    main_can : (M : Main L) → m.ended ≡ None → G (between M) m → (q : ℕ) → MainStands F L view Valid M m.main → (n : State F L) × MainMove trips (view m.main) m q n
    main_can (take c κ) going good q st = let n : State F L = record m { main = st.0 (cell_value m.store c) } in (n, subst (λ (V : View F L). MainMove trips V m q n) (sym st.1) refl)
    main_can (keep c v M) going good q st = let n : State F L = record m { main = st.0; store = put_cell m.store c v } in (n, subst (λ (V : View F L). MainMove trips V m q n) (sym st.1) refl)
    main_can (say bytes M) going good q st = let n : State F L = record m { main = st.0; output = m.output ++ bytes } in (n, subst (λ (V : View F L). MainMove trips V m q n) (sym st.1) refl)
    main_can (get ρ κ) going good q st = let n : State F L = record m { main = st.0 m.input; input = ρ m.input } in (n, subst (λ (V : View F L). MainMove trips V m q n) (sym st.1) refl)
    main_can (work M) going good q st = let n : State F L = record m { main = st.0 } in (n, subst (λ (V : View F L). MainMove trips V m q n) (sym st.1) refl)
    main_can (crash c) going good q st = let n : State F L = record m { ended = Some (end_of c) } in (n, subst (λ (V : View F L). MainMove trips V m q n) (sym st) refl)
    main_can halt going good q st = let n : State F L = record m { ended = Some Done } in (n, subst (λ (V : View F L). MainMove trips V m q n) (sym st) refl)
    main_can astray going good q st = absurd (never_astray F L view trips begin slots Hidden Fixed Named start Valid p origin answer means loops m going q good)
    main_can (open_loop l xs M) going good q st =
        let B : Between F L view trips begin Hidden Fixed start Valid p origin answer (open_loop l xs M) m = good.kept in
        let n : State F L = record m { main = st.1; loop = Some l; counts = λ e. 0; retired = 0; ticket = 0 } in
        (n, subst (λ (V : View F L). MainMove trips V m q n) (sym st.2) (none_open (Active F) p m.retired m.ticket m.iterations m.parked m.waiting m.held good.places q B.none, refl))

    between_held : (M : Main L) → G (between M) m → m.ended ≡ None → (q : ℕ) (u : Who) → m.held q ≡ Some u → Moves m q
    between_held M good going q the_main hold =
        let B : Between F L view trips begin Hidden Fixed start Valid p origin answer M m = good.kept in
        let c = main_can M going good q B.at in
        (c.0, record { going = going; turn = subst (λ o. Turn F L view trips begin slots o m q c.0) (sym hold) c.1 })
    between_held M good going q (iteration k) hold =
        let B : Between F L view trips begin Hidden Fixed start Valid p origin answer M m = good.kept in
        let o = (good.places).holds q k hold in
        let e = B.none in absurd (omega arith)

    between_goes : (M : Main L) → G (between M) m → m.ended ≡ None → 0 < p → Goes m
    between_goes M good going some_p = ⊎_elim
        (λ held. let c = between_held M good going held.0 the_main held.2 in (held.0, held.1, c.0, c.1))
        (λ parked. ⊎_elim
        (λ b. busy parked b.0 b.1 b.2 b.3)
        (λ idle. picked parked (idle 0 (omega arith)))
        (busy_or_idle m.held p))
        (⊎_elim (λ a. inr a) (λ a. inl a) (good.places).main_somewhere)
      where
        B : Between F L view trips begin Hidden Fixed start Valid p origin answer M m
        B = good.kept

        picked : (w : Wait) × (m.waiting ≡ Some w) → m.held 0 ≡ None → Goes m
        picked parked none =
            let r : Reached m parked.0 = subst (Reached m) (sym (B.waits parked.0 parked.1)) (omega arith) in
            let n : State F L = record m { waiting = None; held = put_at m.held 0 (Some the_main) } in
            (0, omega arith, n, record { going = going; turn = subst (λ o. Turn F L view trips begin slots o m 0 n) (sym none) (take_main, (parked.0, parked.1, r, refl)) })

        busy : (w : Wait) × (m.waiting ≡ Some w) → (q : ℕ) → q < p → (u : Who) → m.held q ≡ Some u → Goes m
        busy parked q below the_main hold = absurd ((good.places).main_apart q parked.0 hold parked.1)
        busy parked q below (iteration k) hold = let o = (good.places).holds q k hold in let e = B.none in absurd (omega arith)

  -- a state that has not ended has a step of some processor below p
  pub goes_on : (g : Ghost L) (m : State F L) → G g m → m.ended ≡ None → 0 < p → 0 < slots → Goes m
  goes_on (between M) m good going some_p some_s = between_goes m M good going some_p
  goes_on (within l ι past before xs M) m good going some_p some_s = within_goes l ι past before xs M m good going some_p some_s

  -- nor does anything that is held wait there
  pub held_goes : (g : Ghost L) (m : State F L) → G g m → m.ended ≡ None → (q : ℕ) (u : Who) → m.held q ≡ Some u → Moves m q
  held_goes (between M) m good going q u hold = between_held m M good going q u hold
  held_goes (within l ι past before xs M) m good going q u hold = within_held l ι past before xs M m good going q u hold

  pub good_run : (qs : List ℕ) (g : Ghost L) (m n : State F L) → G g m → Run F L view trips begin slots p m qs n → (h : Ghost L) × G h n
  good_run [] g m n good r = (g, subst (G g) r good)
  good_run (q ∷ qs) g m n good r = let o = step_out F L view trips begin slots Hidden Fixed Named start Valid p origin answer means loops g m r.0 q r.1 good r.2 in good_run qs o.ghost r.0 n o.good r.3

-- main is parked at the beginning
pub good_init : (F L : Type 0) (view : F → View F L) (trips : L → ℕ) (begin : L → ℕ → F) (Hidden Fixed : L → Cell → Type 0) (start : L → StoreOf → ℕ → Process) (Valid : L → Type 0) (p : ℕ) (answer : Outcome) (M : Main L) (f : F) (input : List ℕ)
    → MainStands F L view Valid M f → Good F L view trips begin Hidden Fixed start Valid p (record { main = M; store = zeros; input = record { left = []; records = records_of input }; output = [] }) answer (between M) (initial f input)
good_init F L view trips begin Hidden Fixed start Valid p answer M f input st = record {
  places = places_init (Active F) p (until_retired 0);
  kept = record { loop = refl; at = st; sofar = (0, refl); waits = λ w h. let z : until_retired 0 ≡ w = cc in sym z; none = omega arith };
  final = λ e h. cc;
}
