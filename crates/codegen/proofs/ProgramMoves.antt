-- Each step of the machine is one of main or of an iteration, or none, and keeps what holds.
use Rattle.std.proofs.Common.{◌≡◌, ◌∙◌, ℕ, suc, ◌+◌, ◌-◌, ◌<◌, ◌≤◌, ℤ, pos, List, [], ◌∷◌, ◌++◌, Option, Some, None, ◌⊎◌, inl, inr, refl, sym, ap, subst, ⊎_elim, arith, append_assoc}
use Rattle.std.proofs.lemmas.List.{append-nil}
use Rattle.ast.specs.Store.{StoreOf}
use Rattle.ast.specs.declared.fault.End.{End}
use Rattle.ast.specs.declared.fault.End.TheVariants.{Done, Stopped, Fault as Faulted}
use Rattle.machine.specs.Code.{Cell}
use Rattle.machine.specs.State.{State, Active, Wait, until_count, until_retired, Who, the_main, iteration, Choice, take_main, take_iteration, take_ticket, Reached, with_frame, park, NoneOpen, Move, MainMove, Takes, Turn, Step, put_at, put_cell, put_cells, end_of}
use Rattle.machine.specs.View.{Cause, failure, stop_at, Input, View, doing, loading, storing, printing, awaiting, advancing}
use Rattle.machine.proofs.Puts.{put_same}
use Rattle.codegen.proofs.IterationLaws.{put_other, put_cases, cell_other, cells_other, after-snoc, acts-snoc}
use Rattle.codegen.proofs.IterationSteps.{Process, load, store, print, await, advance, tick, fault, leave, gone, Whole, follow, act, after, acts, cell_value, stopped, sequential}
use Rattle.codegen.proofs.LoopKeeps.{grows}
use Rattle.codegen.proofs.LoopMachine.{Inside, Possible, value_of, written, counted, lowered, effect, Inv, Loads, Stores}
use Rattle.codegen.proofs.LoopRuns.{prints, shown, pasts, step_keeps, opens, finished, faulted, prints-append, pasts_same, pasts-snoc, shown-snoc}
use Rattle.codegen.proofs.ProgramPlaces.{Whereabouts, places_go, places_park, places_park_main, places_pick, places_pick_main, places_ticket, places_retire, places_open}
use Rattle.codegen.proofs.ProgramStanding.{Leads, Steps, leads_on, WaitsFor, Stands, MainStands, Loops, Ghost, between, within, inner, Final, Between, Within, Good}
use Rattle.codegen.proofs.Outcomes.{Outcome, done, failed, then_do}
use Rattle.codegen.proofs.ProgramSteps.{Main, take, keep, say, get, work, crash, halt, open_loop, astray, seen, loop_meaning, whole, Here, after_loop, next_by, alone, meaning, alone_is, solo}

-- where main stands in a state, with this left to do
abbrev pub here : {F L : Type 0} → Main L → State F L → Here L
here M m = record { main = M; store = m.store; input = m.input; output = m.output }

-- what a step was
module _ (F L : Type 0) (trips : L → ℕ) (slots : ℕ) (start : L → StoreOf → ℕ → Process) where
  pub data Change (m n : State F L) (q : ℕ) (g g' : Ghost L) : Type 0 where
    acted : (l : L) (ι : StoreOf) (past : ℕ → List ℤ) (before : List ℕ) (xs : List (Cell × ℤ)) (M : Main L) (k : ℕ) (v : ℤ) → g ≡ within l ι past before xs M → g' ≡ within l ι (put_at past k (past k ++ v ∷ [])) before xs M
        → m.held q ≡ Some (iteration k) → n.parked ≡ m.parked → n.waiting ≡ m.waiting → n.ticket ≡ m.ticket → ((e : ℕ) → m.counts e ≤ n.counts e) → m.retired ≤ n.retired → n.ended ≡ None → n.input ≡ m.input → Change m n q g g'
    parks : (l : L) (ι : StoreOf) (past : ℕ → List ℤ) (before : List ℕ) (xs : List (Cell × ℤ)) (M : Main L) (k : ℕ) (w : Wait) → g ≡ within l ι past before xs M → g' ≡ g
        → m.held q ≡ Some (iteration k) → (Reached m w → ⊥) → WaitsFor (after (start l ι k) (past k)) k w → n ≡ park m q k w → Change m n q g g'
    picks : (l : L) (ι : StoreOf) (past : ℕ → List ℤ) (before : List ℕ) (xs : List (Cell × ℤ)) (M : Main L) (k : ℕ) (w : Wait) → g ≡ within l ι past before xs M → g' ≡ g → m.parked k ≡ Some w → Reached m w → n ≡ record m { parked = put_at m.parked k None; held = put_at m.held q (Some (iteration k)) } → Change m n q g g'
    begins : (l : L) (ι : StoreOf) (past : ℕ → List ℤ) (before : List ℕ) (xs : List (Cell × ℤ)) (M : Main L) → g ≡ within l ι past before xs M → g' ≡ g
        → n.parked ≡ m.parked → n.waiting ≡ m.waiting → n.ticket ≡ m.ticket + 1 → n.counts ≡ m.counts → n.retired ≡ m.retired → m.ticket < m.retired + slots → n.ended ≡ None → n.input ≡ m.input → Change m n q g g'
    works : (M M' : Main L) → g ≡ between M → g' ≡ between M' → m.held q ≡ Some the_main → n.parked ≡ m.parked → n.waiting ≡ m.waiting → n.ended ≡ None → solo L trips start M m.store m.input ≡ 1 + solo L trips start M' n.store n.input → next_by L trips start M (here M m) ≡ here M' n → Change m n q g g'
    opens_up : (l : L) (xs : List (Cell × ℤ)) (M : Main L) → g ≡ between (open_loop l xs M) → g' ≡ within l m.store (λ k. []) m.output xs M → m.held q ≡ Some the_main → n.parked ≡ m.parked → n.waiting ≡ m.waiting → n.ticket ≡ 0 → n.ended ≡ None → n.input ≡ m.input → Change m n q g g'
    joins : (l : L) (ι : StoreOf) (past : ℕ → List ℤ) (before : List ℕ) (xs : List (Cell × ℤ)) (M : Main L) → g ≡ within l ι past before xs M → g' ≡ between M
        → m.held q ≡ Some the_main → trips l ≤ m.retired → n.parked ≡ m.parked → n.waiting ≡ m.waiting → n.ended ≡ None → n.store ≡ put_cells m.store xs → n.input ≡ m.input → next_by L trips start (open_loop l xs M) (record { main = open_loop l xs M; store = ι; input = m.input; output = before }) ≡ here M n → Change m n q g g'
    main_parks : (l : L) (ι : StoreOf) (past : ℕ → List ℤ) (before : List ℕ) (xs : List (Cell × ℤ)) (M : Main L) → g ≡ within l ι past before xs M → g' ≡ g
        → m.held q ≡ Some the_main → m.retired < trips l → n ≡ record m { waiting = Some (until_retired (trips l)); held = put_at m.held q None } → Change m n q g g'
    main_picked : (w : Wait) → g' ≡ g → m.waiting ≡ Some w → Reached m w → n ≡ record m { waiting = None; held = put_at m.held q (Some the_main) } → Change m n q g g'
    ends_main : (M : Main L) (e : End) → g ≡ between M → g' ≡ g → n.ended ≡ Some e → solo L trips start M m.store m.input ≡ 1 → n.parked ≡ m.parked → n.waiting ≡ m.waiting → here M n ≡ here M m → Change m n q g g'
    breaks_off : (l : L) (ι : StoreOf) (past : ℕ → List ℤ) (before : List ℕ) (xs : List (Cell × ℤ)) (M : Main L) (c : Cause) → g ≡ within l ι past before xs M → g' ≡ g
        → m.held q ≡ Some (iteration m.retired) → m.retired < trips l → after (start l ι m.retired) (past m.retired) ≡ fault c → n.ended ≡ Some (end_of c) → n.parked ≡ m.parked → n.waiting ≡ m.waiting → n.ticket ≡ m.ticket → Change m n q g g'

module _ (F L : Type 0) (view : F → View F L) (trips : L → ℕ) (begin : L → ℕ → F) (slots : ℕ) (Hidden Fixed : L → Cell → Type 0) (Named : L → ℕ → Type 0) (start : L → StoreOf → ℕ → Process) (Valid : L → Type 0) (p : ℕ) (origin : Here L) (answer : Outcome) (means : (x : Outcome) → meaning L trips start x origin ≡ answer)
    (loops : Loops F L view trips begin Hidden Fixed Named start Valid) where
  abbrev G : Ghost L → State F L → Type 0
  G g m = Good F L view trips begin Hidden Fixed start Valid p origin answer g m

  pub record Out (m : State F L) (q : ℕ) (g : Ghost L) (n : State F L) : Type 0 where
    pub ghost : Ghost L
    pub good : Good F L view trips begin Hidden Fixed start Valid p origin answer ghost n
    pub how : Change F L trips slots start m n q g ghost

  module _ (l : L) (ι : StoreOf) (past : ℕ → List ℤ) (before : List ℕ) (xs : List (Cell × ℤ)) (M : Main L) (m : State F L) (good : G (within l ι past before xs M) m) (going : m.ended ≡ None) (q : ℕ) where
    abbrev W : Within F L view trips begin Hidden Fixed start Valid p origin answer l ι past before xs M m
    W = good.kept

    abbrev St : Process → F → Type 0
    St P f = Stands F L view (Hidden l) (Fixed l) ι P f

    -- an iteration's frame and output, after these values
    abbrev Has : ℕ → List ℤ → F → List ℕ → Type 0
    Has i x f out = St (after (start l ι i) x) f × (out ≡ prints (acts (start l ι i) x)) × Leads F L view (Hidden l) (Fixed l) ι (begin l i) x f

    abbrev Now : State F L → Type 0
    Now n = Out m q (within l ι past before xs M) n

    abbrev s : Inside
    s = inner m past

    left : then_do (loop_meaning L trips start l ι before) (λ τ t. whole L trips start answer M (put_cells τ xs) m.input t) ≡ answer
    left = ap (meaning L trips start answer) (sym (W.sofar).1) ∙ alone_is L trips start answer (W.sofar).0 origin ∙ means answer

    module _ (k : ℕ) (hold : m.held q ≡ Some (iteration k)) (lt : k < trips l) where
      -- k made a step after which it still runs
      goes : (P : Process) → after (start l ι k) (past k) ≡ P → Possible P s k → (g : F) (out : List ℕ) → St (follow P (value_of P m.store)) g
          → out ≡ prints (acts (start l ι k) (past k)) ++ prints (act P (value_of P m.store) ∷ []) → ((c : Cell) → Fixed l c → cell_value (written P m.store) c ≡ cell_value ι c) → lowered P m.retired ≡ m.retired → Leads F L view (Hidden l) (Fixed l) ι (begin l k) (past k ++ value_of P m.store ∷ []) g
          → (n : State F L) → n ≡ record m { store = written P m.store; counts = counted P m.counts; iterations = put_at m.iterations k (Some (record { frame = g; out = out })) } → Now n
      goes P eq may g out st out_is fixed' low_is leads n is = subst Now (sym is) (record {
        ghost = within l ι past' before xs M;
        good = record {
          places = places_go (Active F) p m.retired m.ticket m.iterations m.parked m.waiting m.held good.places q k hold a;
          kept = record {
            loop = W.loop;
            valid = W.valid;
            at = W.at;
            sofar = W.sofar;
            waits_main = W.waits_main;
            inv = subst (λ x. Inv (start l ι) (trips l) ι (record { cells = written P m.store; counts = counted P m.counts; low = x; past = past' })) low_is
                (step_keeps (start l ι) (trips l) (Named l) (loops.plan l W.valid ι) ι s (effect P s k) k W.inv (record { below = lt; may = subst (λ x. Possible x s k) (sym eq) may; is = ap (λ x. effect x s k) (sym eq) }));
            fixed = fixed';
            ticket = W.ticket;
            fresh = λ i le. put_other past k (past k ++ v ∷ []) i (λ e. absurd (omega (arith, here))) ∙ W.fresh i le;
            active = λ i b h. ⊎_elim
                (λ c. subst (λ x. Has x (past' x) b.frame b.out) (sym c.0)
                (let y = c.1 in let z : a ≡ b = cc in subst (λ (x : Active F). Has k (past' k) x.frame x.out) z at_k))
                (λ c. subst (λ x. Has i x b.frame b.out) (sym (put_other past k (past k ++ v ∷ []) i c.0)) (W.active i b c.1))
                (put_cases m.iterations k (Some a) i (Some b) h);
            waits = λ i w h.
                let ne : i ≡ k → ⊥ = λ e. (good.places).apart q k w hold (subst (λ x. m.parked x ≡ Some w) e h) in
                subst (λ x. WaitsFor (after (start l ι i) x) i w) (sym (put_other past k (past k ++ v ∷ []) i ne)) (W.waits i w h);
            printed = λ e. W.printed e ∙ ap (λ x. before ++ shown (start l ι) 0 x) (sym (pasts_same past past' m.retired 0 (λ i b. put_other past k (past k ++ v ∷ []) i (λ e. absurd (omega (arith, here))))));
          };
          final = λ e h. cc;
        };
        how = acted l ι past before xs M k v refl refl hold refl refl refl (grows P m.counts) (omega arith) going refl;
      })
        where
          v : ℤ
          v = value_of P m.store

          past' : ℕ → List ℤ
          past' = put_at past k (past k ++ v ∷ [])

          a : Active F
          a = record { frame = g; out = out }

          here : (m.retired ≤ k) × (k < m.ticket)
          here = (good.places).holds q k hold

          at_k : Has k (past' k) g out
          at_k = (
            subst (λ x. St x g) (sym (ap (after (start l ι k)) (put_same past k (past k ++ v ∷ [])) ∙ after-snoc (start l ι k) (past k) v ∙ ap (λ x. follow x v) eq)) st,
            out_is ∙ ap (λ x. prints (acts (start l ι k) (past k)) ++ prints (act x v ∷ [])) (sym eq)
                ∙ sym (prints-append (acts (start l ι k) (past k)) (act (after (start l ι k) (past k)) v ∷ []))
                ∙ sym (ap prints (ap (acts (start l ι k)) (put_same past k (past k ++ v ∷ [])) ∙ acts-snoc (start l ι k) (past k) v)),
            subst (λ x. Leads F L view (Hidden l) (Fixed l) ι (begin l k) x g) (sym (put_same past k (past k ++ v ∷ []))) leads,
          )

      -- k was parked
      stops : (w : Wait) → WaitsFor (after (start l ι k) (past k)) k w → (Reached m w → ⊥) → (n : State F L) → n ≡ park m q k w → Now n
      stops w wf not n is = subst Now (sym is) (record {
        ghost = within l ι past before xs M;
        good = record {
          places = places_park (Active F) p m.retired m.ticket m.iterations m.parked m.waiting m.held good.places q k hold w;
          kept = record {
            loop = W.loop;
            valid = W.valid;
            at = W.at;
            sofar = W.sofar;
            waits_main = W.waits_main;
            inv = W.inv;
            fixed = W.fixed;
            ticket = W.ticket;
            fresh = W.fresh;
            active = W.active;
            waits = λ i x h. ⊎_elim
                (λ a. subst (λ y. WaitsFor (after (start l ι y) (past y)) y x) (sym a.0) (let y = a.1 in let z : w ≡ x = cc in subst (WaitsFor (after (start l ι k) (past k)) k) z wf))
                (λ b. W.waits i x b.1)
                (put_cases m.parked k (Some w) i (Some x) h);
            printed = W.printed;
          };
          final = λ e h. cc;
        };
        how = parks l ι past before xs M k w refl refl hold not wf refl;
      })

      -- k, the lowest, retired
      retires : (a : Active F) → a.out ≡ prints (acts (start l ι k) (past k)) → (ws : List (Cell × ℤ)) → after (start l ι k) (past k) ≡ leave ws → m.retired ≡ k
          → (n : State F L) → n ≡ record m { store = put_cells m.store ws; output = m.output ++ a.out; retired = m.retired + 1; iterations = put_at m.iterations k None; held = put_at m.held q None } → Now n
      retires a out ws eq low_is n is = subst Now (sym is) (record {
        ghost = within l ι past' before xs M;
        good = record {
          places = subst (λ x. Whereabouts (Active F) p (m.retired + 1) m.ticket (put_at m.iterations x None) m.parked m.waiting (put_at m.held q None)) low_is
              (places_retire (Active F) p m.retired m.ticket m.iterations m.parked m.waiting m.held good.places q (hold ∙ ap (λ x. Some (iteration x)) (sym low_is)));
          kept = record {
            loop = W.loop;
            valid = W.valid;
            at = W.at;
            sofar = W.sofar;
            waits_main = W.waits_main;
            inv = step_keeps (start l ι) (trips l) (Named l) (loops.plan l W.valid ι) ι s (effect (leave ws) s k) k W.inv (record { below = lt; may = subst (λ x. Possible x s k) (sym eq) low_is; is = ap (λ x. effect x s k) (sym eq) });
            fixed = λ d fx. cells_other ws m.store d (λ z. loops.free_leave l W.valid ι k (past k) ws eq d z fx) ∙ W.fixed d fx;
            ticket = W.ticket;
            fresh = λ i le. put_other past k (past k ++ pos 0 ∷ []) i (λ e. absurd (omega (arith, here))) ∙ W.fresh i le;
            active = λ i b h. ⊎_elim (λ c. cc)
                (λ c. subst (λ x. Has i x b.frame b.out) (sym (put_other past k (past k ++ pos 0 ∷ []) i c.0)) (W.active i b c.1))
                (put_cases m.iterations k None i (Some b) h);
            waits = λ i w h.
                let ne : i ≡ k → ⊥ = λ e. (good.places).apart q k w hold (subst (λ x. m.parked x ≡ Some w) e h) in
                subst (λ x. WaitsFor (after (start l ι i) x) i w) (sym (put_other past k (past k ++ pos 0 ∷ []) i ne)) (W.waits i w h);
            printed = λ e. ap (λ x. x ++ a.out) (W.printed going) ∙ append_assoc before (shown (start l ι) 0 (pasts past m.retired 0)) a.out ∙ ap (λ x. before ++ x) (sym text);
          };
          final = λ e h. cc;
        };
        how = acted l ι past before xs M k (pos 0) refl refl hold refl refl refl (λ e. omega arith) (omega arith) going refl;
      })
        where
          past' : ℕ → List ℤ
          past' = put_at past k (past k ++ pos 0 ∷ [])

          here : (m.retired ≤ k) × (k < m.ticket)
          here = (good.places).holds q k hold

          b : 0 + m.retired ≡ k
          b = omega arith

          mine : prints (acts (start l ι (0 + m.retired)) (past' (0 + m.retired))) ≡ a.out
          mine = ap (λ x. prints (acts (start l ι x) (past' x))) b ∙ ap (λ x. prints (acts (start l ι k) x)) (put_same past k (past k ++ pos 0 ∷ []))
              ∙ ap prints (acts-snoc (start l ι k) (past k) (pos 0)) ∙ prints-append (acts (start l ι k) (past k)) (act (after (start l ι k) (past k)) (pos 0) ∷ [])
              ∙ ap (λ x. prints (acts (start l ι k) (past k)) ++ prints (act x (pos 0) ∷ [])) eq ∙ append-nil (prints (acts (start l ι k) (past k))) ∙ sym out

          text : shown (start l ι) 0 (pasts past' (m.retired + 1) 0) ≡ shown (start l ι) 0 (pasts past m.retired 0) ++ a.out
          text = ap (shown (start l ι) 0) (pasts-snoc past' m.retired 0) ∙ shown-snoc (start l ι) past' m.retired 0
              ∙ ap (λ x. shown (start l ι) 0 x ++ prints (acts (start l ι (0 + m.retired)) (past' (0 + m.retired)))) (pasts_same past past' m.retired 0 (λ i lt. put_other past k (past k ++ pos 0 ∷ []) i (λ z. absurd (omega arith))))
              ∙ ap (λ x. shown (start l ι) 0 (pasts past m.retired 0) ++ x) mine

      -- k, the lowest, ended the run
      breaks : (a : Active F) → a.out ≡ prints (acts (start l ι k) (past k)) → (c : Cause) → after (start l ι k) (past k) ≡ fault c → m.retired ≡ k
          → (n : State F L) → n ≡ record m { output = m.output ++ a.out; ended = Some (end_of c) } → Now n
      breaks a out c eq low_is n is = subst Now (sym is) (record {
        ghost = within l ι past before xs M;
        good = record {
          places = good.places;
          kept = record { loop = W.loop; valid = W.valid; at = W.at; sofar = W.sofar; waits_main = W.waits_main; inv = W.inv; fixed = W.fixed; ticket = W.ticket; fresh = W.fresh; active = W.active; waits = W.waits; printed = λ e. cc };
          final = λ e h. let z : end_of c ≡ e = cc in subst (λ (x : End). Final x (record m { output = m.output ++ a.out; ended = Some (end_of c) }) answer) z (told_final c told);
        };
        how = breaks_off l ι past before xs M c refl refl (hold ∙ ap (λ x. Some (iteration x)) (sym low_is)) (subst (λ x. x < trips l) (sym low_is) lt) (subst (λ x. after (start l ι x) (past x) ≡ fault c) (sym low_is) eq) refl refl refl refl;
      })
        where
          z : 0 + m.retired ≡ m.retired
          z = omega arith

          told_final : (d : Cause) → answer ≡ failed d (m.output ++ a.out) → Final (end_of d) (record m { output = m.output ++ a.out; ended = Some (end_of c) }) answer
          told_final (failure e line) h = h
          told_final (stop_at line) h = h

          stop_is : sequential (start l ι) (trips l) ι ≡ stopped (pasts past m.retired 0 ++ past m.retired ∷ []) c
          stop_is = faulted (start l ι) (trips l) (Named l) (loops.plan l W.valid ι) ι s W.inv c (subst (λ x. x < trips l) (sym low_is) lt) (subst (λ x. after (start l ι x) (past x) ≡ fault c) (sym low_is) eq)

          text : shown (start l ι) 0 (pasts past m.retired 0 ++ past m.retired ∷ []) ≡ shown (start l ι) 0 (pasts past m.retired 0) ++ a.out
          text = subst (λ x. shown (start l ι) 0 (pasts past m.retired 0 ++ past x ∷ []) ≡ shown (start l ι) 0 (pasts past m.retired 0) ++ prints (acts (start l ι x) (past x))) z (shown-snoc (start l ι) past m.retired 0)
              ∙ ap (λ x. shown (start l ι) 0 (pasts past m.retired 0) ++ prints (acts (start l ι x) (past x))) low_is ∙ ap (λ x. shown (start l ι) 0 (pasts past m.retired 0) ++ x) (sym out)

          told : answer ≡ failed c (m.output ++ a.out)
          told = sym left ∙ ap (λ (x : Whole). then_do (seen (start l ι) before x) (λ τ t. whole L trips start answer M (put_cells τ xs) m.input t)) stop_is
              ∙ ap (λ x. failed c (before ++ x)) text ∙ ap (failed c) (sym (append_assoc before (shown (start l ι) 0 (pasts past m.retired 0)) a.out)) ∙ ap (λ x. failed c (x ++ a.out)) (sym (W.printed going))

      -- one step of k
      -- one step more
      on : (f g : F) (v : ℤ) → Leads F L view (Hidden l) (Fixed l) ι (begin l k) (past k) f → Steps F L view (Hidden l) (Fixed l) ι (view f) v g → Leads F L view (Hidden l) (Fixed l) ι (begin l k) (past k ++ v ∷ []) g
      on f g v h s = leads_on F L view (Hidden l) (Fixed l) ι (begin l k) (past k) v f g h s

      by_view : (f : F) (V : View F L) (v : ℤ) (g : F) → view f ≡ V → Steps F L view (Hidden l) (Fixed l) ι V v g → Steps F L view (Hidden l) (Fixed l) ι (view f) v g
      by_view f V v g e s = subst (λ (U : View F L). Steps F L view (Hidden l) (Fixed l) ι U v g) (sym e) s

      move : (a : Active F) → Leads F L view (Hidden l) (Fixed l) ι (begin l k) (past k) a.frame → a.out ≡ prints (acts (start l ι k) (past k)) → (P : Process) → after (start l ι k) (past k) ≡ P → St P a.frame → (n : State F L) → Move (view a.frame) a m q k n → Now n
      move a lead out (load r c κ) eq st' n mv =
          let st = st' (loops.never l W.valid ι k (past k) c (subst (λ x. Loads x c) (sym eq) refl)) in
          goes (load r c κ) eq tt (st.0 (cell_value m.store c)) a.out (st.2 (cell_value m.store c)) (out ∙ sym (append-nil (prints (acts (start l ι k) (past k))))) W.fixed refl
          (on a.frame (st.0 (cell_value m.store c)) (cell_value m.store c) lead (by_view a.frame (loading c st.0) (cell_value m.store c) (st.0 (cell_value m.store c)) st.1 (⊎_elim (λ fx. inr (fx, ap st.0 (sym (W.fixed c fx)))) (λ no_fx. inl (no_fx, refl)) (loops.decides l W.valid c))))
          n (subst (λ V. Move V a m q k n) st.1 mv)
      move a lead out (store r c v P) eq st n mv =
          goes (store r c v P) eq tt st.0 a.out st.2 (out ∙ sym (append-nil (prints (acts (start l ι k) (past k)))))
          (λ d fx. cell_other m.store c v d (λ z. loops.free_store l W.valid ι k (past k) c (subst (λ x. Stores x c) (sym eq) refl) (subst (Fixed l) z fx)) ∙ W.fixed d fx) refl (on a.frame st.0 (pos 0) lead (by_view a.frame (storing c v st.0) (pos 0) st.0 st.1 refl)) n (subst (λ V. Move V a m q k n) st.1 mv)
      move a lead out (print v P) eq st n mv =
          goes (print v P) eq tt st.0 (a.out ++ v) st.2 (ap (λ (x : List ℕ). x ++ v) out ∙ ap (λ (x : List ℕ). prints (acts (start l ι k) (past k)) ++ x) (sym (append-nil v))) W.fixed refl (on a.frame st.0 (pos 0) lead (by_view a.frame (printing v st.0) (pos 0) st.0 st.1 refl)) n (subst (λ V. Move V a m q k n) st.1 mv)
      move a lead out (tick P) eq (inl st) n mv =
          goes (tick P) eq tt st.0 a.out st.2 (out ∙ sym (append-nil (prints (acts (start l ι k) (past k))))) W.fixed refl (on a.frame st.0 (pos 0) lead (by_view a.frame (doing st.0) (pos 0) st.0 st.1 refl)) n (subst (λ V. Move V a m q k n) st.1 mv)
      move a lead out (tick P) eq (inr st) n mv =
          goes (tick P) eq tt (st.1 (cell_value m.store st.0)) a.out (subst (λ v. St P (st.1 v)) (sym (W.fixed st.0 st.2)) st.4) (out ∙ sym (append-nil (prints (acts (start l ι k) (past k))))) W.fixed refl
          (on a.frame (st.1 (cell_value m.store st.0)) (pos 0) lead (by_view a.frame (loading st.0 st.1) (pos 0) (st.1 (cell_value m.store st.0)) st.3 (inr (st.2, ap st.1 (sym (W.fixed st.0 st.2)))))) n (subst (λ V. Move V a m q k n) st.3 mv)
      move a lead out (advance e P) eq st n mv =
          let is : (m.counts e ≡ k) × (n ≡ record (with_frame m k st.0 a.out) { counts = put_at m.counts e (m.counts e + 1) }) = subst (λ V. Move V a m q k n) st.1 mv in
          goes (advance e P) eq is.0 st.0 a.out st.2 (out ∙ sym (append-nil (prints (acts (start l ι k) (past k))))) W.fixed refl (on a.frame st.0 (pos 0) lead (by_view a.frame (advancing e st.0) (pos 0) st.0 st.1 refl)) n is.1
      move a lead out (await e d P) eq st n mv =
          let is : ((k < m.counts e + d) × (n ≡ with_frame m k st.0 a.out)) ⊎ ((m.counts e + d ≤ k) × (n ≡ park m q k (until_count e (k + 1 - d)))) = subst (λ V. Move V a m q k n) st.1 mv in
          ⊎_elim
          (λ b. goes (await e d P) eq b.0 st.0 a.out st.2 (out ∙ sym (append-nil (prints (acts (start l ι k) (past k))))) W.fixed refl (on a.frame st.0 (pos 0) lead (by_view a.frame (awaiting e d st.0) (pos 0) st.0 st.1 refl)) n b.1)
          (λ b. stops (until_count e (k + 1 - d)) (subst (λ x. WaitsFor x k (until_count e (k + 1 - d))) (sym eq) refl) (λ z. absurd (omega arith)) n b.1)
          is
      move a lead out (leave ws) eq st n mv =
          let is : ((m.retired ≡ k) × (n ≡ record m { store = put_cells m.store ws; output = m.output ++ a.out; retired = m.retired + 1; iterations = put_at m.iterations k None; held = put_at m.held q None })) ⊎ ((m.retired < k) × (n ≡ park m q k (until_retired k))) = subst (λ V. Move V a m q k n) st mv in
          ⊎_elim (λ b. retires a out ws eq b.0 n b.1)
          (λ b. stops (until_retired k) (subst (λ x. WaitsFor x k (until_retired k)) (sym eq) refl) (λ z. absurd (omega arith)) n b.1)
          is
      move a lead out (fault c) eq st n mv =
          let is : ((m.retired ≡ k) × (n ≡ record m { output = m.output ++ a.out; ended = Some (end_of c) })) ⊎ ((m.retired < k) × (n ≡ park m q k (until_retired k))) = subst (λ V. Move V a m q k n) st mv in
          ⊎_elim (λ b. breaks a out c eq b.0 n b.1)
          (λ b. stops (until_retired k) (subst (λ x. WaitsFor x k (until_retired k)) (sym eq) refl) (λ z. absurd (omega arith)) n b.1)
          is
      move a lead out gone eq st n mv =
          let here = (good.places).holds q k hold in
          let x = (W.inv).has_left k ((loops.plan l W.valid ι).lasts k (past k) eq) in absurd (omega arith)

    -- iteration k, which q holds, moves
    iteration_turn : (k : ℕ) → m.held q ≡ Some (iteration k) → (a : Active F) → m.iterations k ≡ Some a → (n : State F L) → Move (view a.frame) a m q k n → Now n
    iteration_turn k hold a at n mv =
        let here = (good.places).holds q k hold in
        let tk = W.ticket in
        let st = W.active k a at in
        move k hold (omega arith) a st.2 st.1 (after (start l ι k) (past k)) refl st.0 n mv

    -- main, at the join, moves
    join_turn : m.held q ≡ Some the_main → (n : State F L) → MainMove trips (view m.main) m q n → Now n
    join_turn hold n mv =
        let at = W.at in
        let is : (k : L) × (m.loop ≡ Some k) × (((trips k ≤ m.retired) × (n ≡ record m { main = at.1 k; store = put_cells m.store (at.0 k); loop = None })) ⊎ ((m.retired < trips k) × (n ≡ record m { waiting = Some (until_retired (trips k)); held = put_at m.held q None })))
        = subst (λ V. MainMove trips V m q n) at.2 mv in
        let same : l ≡ is.0 = let a = W.loop in let b = is.1 in cc in
        let now : ((trips l ≤ m.retired) × (n ≡ record m { main = at.1 l; store = put_cells m.store (at.0 l); loop = None })) ⊎ ((m.retired < trips l) × (n ≡ record m { waiting = Some (until_retired (trips l)); held = put_at m.held q None }))
        = subst (λ k. ((trips k ≤ m.retired) × (n ≡ record m { main = at.1 k; store = put_cells m.store (at.0 k); loop = None })) ⊎ ((m.retired < trips k) × (n ≡ record m { waiting = Some (until_retired (trips k)); held = put_at m.held q None }))) (sym same) is.2 in
        ⊎_elim
        (λ b. subst Now (sym (b.1 ∙ ap (λ x. record m { main = at.1 l; store = put_cells m.store x; loop = None }) at.3)) (joined b.0))
        (λ b. subst Now (sym b.1) (record {
          ghost = within l ι past before xs M;
          good = record {
            places = places_park_main (Active F) p m.retired m.ticket m.iterations m.parked m.waiting m.held good.places q hold (until_retired (trips l));
            kept = record {
              loop = W.loop;
              valid = W.valid;
              at = W.at;
              sofar = W.sofar;
              waits_main = λ w h. let z : until_retired (trips l) ≡ w = cc in sym z;
              inv = W.inv;
              fixed = W.fixed;
              ticket = W.ticket;
              fresh = W.fresh;
              active = W.active;
              waits = W.waits;
              printed = W.printed;
            };
            final = λ e h. cc;
          };
          how = main_parks l ι past before xs M refl refl hold b.0 refl;
        }))
        now
      where
        joined : trips l ≤ m.retired → Now (record m { main = (W.at).1 l; store = put_cells m.store xs; loop = None })
        joined le =
            let inside = (W.inv).within in
            let tk = W.ticket in
            let bh = (good.places).behind in
            let all : m.retired ≡ trips l = omega arith in
            let fin = finished (start l ι) (trips l) (Named l) (loops.plan l W.valid ι) ι s W.inv all in
            let text = W.printed going in
            let back : loop_meaning L trips start l ι before ≡ done m.store m.output
            = ap (seen (start l ι) before) fin ∙ ap (done m.store) (sym (text ∙ ap (λ x. before ++ shown (start l ι) 0 (pasts past x 0)) all)) in
            let so = W.sofar in
            record {
              ghost = between M;
              good = record {
                places = good.places;
                kept = record {
                  loop = refl;
                  at = (W.at).4;
                  sofar = (suc so.0, ap (λ h. next_by L trips start h.main h) so.1 ∙ ap (λ (d : Outcome). after_loop d xs M (record { main = open_loop l xs M; store = ι; input = m.input; output = before })) back);
                  waits = λ w h. absurd ((good.places).main_apart q w hold h);
                  none = omega arith;
                };
                final = λ e h. cc;
              };
              how = joins l ι past before xs M refl refl hold le refl refl going refl refl (ap (λ (d : Outcome). after_loop d xs M (record { main = open_loop l xs M; store = ι; input = m.input; output = before })) back);
            }

    -- q picks main, an iteration, or the next ticket
    pick_turn : q < p → m.held q ≡ None → (n : State F L) (c : Choice) → Takes F L view trips begin slots c m q n → Now n
    pick_turn below idle n take_main t = subst Now (sym t.3) (record {
      ghost = within l ι past before xs M;
      good = record {
        places = places_pick_main (Active F) p m.retired m.ticket m.iterations m.parked m.waiting m.held good.places q t.0 below idle t.1;
        kept = record {
          loop = W.loop;
          valid = W.valid;
          at = W.at;
          sofar = W.sofar;
          waits_main = λ w h. cc;
          inv = W.inv;
          fixed = W.fixed;
          ticket = W.ticket;
          fresh = W.fresh;
          active = W.active;
          waits = W.waits;
          printed = W.printed;
        };
        final = λ e h. cc;
      };
      how = main_picked t.0 refl t.1 t.2 refl;
    })
    pick_turn below idle n (take_iteration k) t = subst Now (sym t.3) (record {
      ghost = within l ι past before xs M;
      good = record {
        places = places_pick (Active F) p m.retired m.ticket m.iterations m.parked m.waiting m.held good.places q k t.0 below idle t.1;
        kept = record {
          loop = W.loop;
          valid = W.valid;
          at = W.at;
          sofar = W.sofar;
          waits_main = W.waits_main;
          inv = W.inv;
          fixed = W.fixed;
          ticket = W.ticket;
          fresh = W.fresh;
          active = W.active;
          waits = λ i x h. ⊎_elim (λ a. cc) (λ b. W.waits i x b.1) (put_cases m.parked k None i (Some x) h);
          printed = W.printed;
        };
        final = λ e h. cc;
      };
      how = picks l ι past before xs M k t.0 refl refl t.1 t.2 refl;
    })
    pick_turn below idle n take_ticket t =
        let same : l ≡ t.0 = let a = W.loop in let b = t.1 in cc in
        let is : (m.ticket < trips l) × (n ≡ record m { ticket = m.ticket + 1; iterations = put_at m.iterations m.ticket (Some (record { frame = begin l m.ticket; out = [] })); held = put_at m.held q (Some (iteration m.ticket)) })
        = subst (λ x. (m.ticket < trips x) × (n ≡ record m { ticket = m.ticket + 1; iterations = put_at m.iterations m.ticket (Some (record { frame = begin x m.ticket; out = [] })); held = put_at m.held q (Some (iteration m.ticket)) })) (sym same) (t.2, t.4) in
        subst Now (sym is.1) (record {
          ghost = within l ι past before xs M;
          good = record {
            places = places_ticket (Active F) p m.retired m.ticket m.iterations m.parked m.waiting m.held good.places q below idle a;
            kept = record {
              loop = W.loop;
              valid = W.valid;
              at = W.at;
              sofar = W.sofar;
              waits_main = W.waits_main;
              inv = W.inv;
              fixed = W.fixed;
              ticket = let z = is.0 in omega arith;
              fresh = λ i le. W.fresh i (omega arith);
              active = λ i b h. ⊎_elim
                  (λ c. subst (λ x. Has x (past x) b.frame b.out) (sym c.0)
                  (let y = c.1 in let z : a ≡ b = cc in subst (λ (x : Active F). Has m.ticket (past m.ticket) x.frame x.out) z (at_ticket is.0)))
                  (λ c. W.active i b c.1)
                  (put_cases m.iterations m.ticket (Some a) i (Some b) h);
              waits = W.waits;
              printed = W.printed;
            };
            final = λ e h. cc;
          };
          how = begins l ι past before xs M refl refl refl refl refl refl refl t.3 going refl;
        })
      where
        a : Active F
        a = record { frame = begin l m.ticket; out = [] }

        none : past m.ticket ≡ []
        none = W.fresh m.ticket (omega arith)

        at_ticket : m.ticket < trips l → Has m.ticket (past m.ticket) (begin l m.ticket) []
        at_ticket lt = (subst (λ x. St (after (start l ι m.ticket) x) (begin l m.ticket)) (sym none) (loops.begins l W.valid ι m.ticket lt), ap (λ x. prints (acts (start l ι m.ticket) x)) (sym none), subst (λ x. Leads F L view (Hidden l) (Fixed l) ι (begin l m.ticket) x (begin l m.ticket)) (sym none) refl)

    within_turn : q < p → (o : Option Who) → m.held q ≡ o → (n : State F L) → Turn F L view trips begin slots o m q n → Now n
    within_turn below None idle n t = pick_turn below idle n t.0 t.1
    within_turn below (Some the_main) hold n t = join_turn hold n t
    within_turn below (Some (iteration k)) hold n t = iteration_turn k hold t.0 t.1 n t.2

  -- no loop is open
  module _ (m : State F L) (going : m.ended ≡ None) (q : ℕ) where
    -- main goes on with M'
    main_goes : (M M' : Main L) → (good : G (between M) m) → m.held q ≡ Some the_main → (f : F) (σ : StoreOf) (output : List ℕ) (input : Input) → MainStands F L view Valid M' f → next_by L trips start M (record { main = M; store = m.store; input = m.input; output = m.output }) ≡ record { main = M'; store = σ; input = input; output = output }
        → solo L trips start M m.store m.input ≡ 1 + solo L trips start M' σ input → (n : State F L) → n ≡ record m { main = f; store = σ; output = output; input = input } → Out m q (between M) n
    main_goes M M' good hold f σ output input st same count n is =
        let B : Between F L view trips begin Hidden Fixed start Valid p origin answer M m = good.kept in
        subst (Out m q (between M)) (sym is) (record {
          ghost = between M';
          good = record {
            places = good.places;
            kept = record { loop = B.loop; at = st; sofar = (suc (B.sofar).0, ap (λ (h : Here L). next_by L trips start h.main h) (B.sofar).1 ∙ same); waits = B.waits; none = B.none };
            final = λ e h. cc;
          };
          how = works M M' refl refl hold refl refl going count same;
        })

    main_ends : (M : Main L) (good : G (between M) m) (e : End) → Final e m answer → solo L trips start M m.store m.input ≡ 1 → (n : State F L) → n ≡ record m { ended = Some e } → Out m q (between M) n
    main_ends M good e told last n is =
        let B : Between F L view trips begin Hidden Fixed start Valid p origin answer M m = good.kept in
        subst (Out m q (between M)) (sym is) (record {
          ghost = between M;
          good = record {
            places = good.places;
            kept = record { loop = B.loop; at = B.at; sofar = B.sofar; waits = B.waits; none = B.none };
            final = λ x h. let z : e ≡ x = cc in subst (λ y. Final y (record m { ended = Some e }) answer) z (told_again e told);
          };
          how = ends_main M e refl refl refl last refl refl refl;
        })
      where
        told_again : (e : End) → Final e m answer → Final e (record m { ended = Some e }) answer
        told_again Done h = h
        told_again (Faulted k line) h = h
        told_again (Stopped line) h = h

    -- what main comes to from here
    told_here : (x : Outcome) (M : Main L) → G (between M) m → whole L trips start x M m.store m.input m.output ≡ answer
    told_here x M good =
        let B : Between F L view trips begin Hidden Fixed start Valid p origin answer M m = good.kept in
        ap (meaning L trips start x) (sym (B.sofar).1) ∙ alone_is L trips start x (B.sofar).0 origin ∙ means x

    final_of : (c : Cause) → answer ≡ failed c m.output → Final (end_of c) m answer
    final_of (failure e line) h = h
    final_of (stop_at line) h = h

    -- main doesn't go astray
    pub never_astray : G (between astray) m → ⊥
    never_astray good = let z : failed (stop_at 0) [] ≡ failed (stop_at 1) [] = told_here (failed (stop_at 0) []) astray good ∙ sym (told_here (failed (stop_at 1) []) astray good) in cc

    main_turn : (M : Main L) (good : G (between M) m) → m.held q ≡ Some the_main → MainStands F L view Valid M m.main → (j : ℕ) × (alone L trips start j origin ≡ record { main = M; store = m.store; input = m.input; output = m.output }) → (n : State F L) → MainMove trips (view m.main) m q n → Out m q (between M) n
    main_turn (take c κ) good hold st so n mv = main_goes (take c κ) (κ (cell_value m.store c)) good hold (st.0 (cell_value m.store c)) m.store m.output m.input (st.2 (cell_value m.store c)) refl refl n (subst (λ (V : View F L). MainMove trips V m q n) st.1 mv)
    main_turn (keep c v M) good hold st so n mv = main_goes (keep c v M) M good hold st.0 (put_cell m.store c v) m.output m.input st.2 refl refl n (subst (λ (V : View F L). MainMove trips V m q n) st.1 mv)
    main_turn (say bytes M) good hold st so n mv = main_goes (say bytes M) M good hold st.0 m.store (m.output ++ bytes) m.input st.2 refl refl n (subst (λ (V : View F L). MainMove trips V m q n) st.1 mv)
    main_turn (get ρ κ) good hold st so n mv = main_goes (get ρ κ) (κ m.input) good hold (st.0 m.input) m.store m.output (ρ m.input) (st.2 m.input) refl refl n (subst (λ (V : View F L). MainMove trips V m q n) st.1 mv)
    main_turn (work M) good hold st so n mv = main_goes (work M) M good hold st.0 m.store m.output m.input st.2 refl refl n (subst (λ (V : View F L). MainMove trips V m q n) st.1 mv)
    main_turn (crash c) good hold st so n mv = main_ends (crash c) good (end_of c) (final_of c (sym (told_here answer (crash c) good))) refl n (subst (λ (V : View F L). MainMove trips V m q n) st mv)
    main_turn halt good hold st so n mv = main_ends halt good Done (sym (told_here answer halt good)) refl n (subst (λ (V : View F L). MainMove trips V m q n) st mv)
    main_turn astray good hold st so n mv = absurd (never_astray good)
    main_turn (open_loop l xs M) good hold st so n mv =
        let B : Between F L view trips begin Hidden Fixed start Valid p origin answer (open_loop l xs M) m = good.kept in
        let P = good.places in
        let is : NoneOpen m × (n ≡ record m { main = st.1; loop = Some l; counts = λ e. 0; retired = 0; ticket = 0 }) = subst (λ (V : View F L). MainMove trips V m q n) st.2 mv in
        subst (Out m q (between (open_loop l xs M))) (sym is.1) (record {
          ghost = within l m.store (λ k. []) m.output xs M;
          good = record {
            places = places_open (Active F) p m.retired m.ticket m.iterations m.parked m.waiting m.held good.places q is.0;
            kept = record {
              loop = refl;
              valid = st.0;
              at = (st.3, st.4, st.5, st.6, st.7);
              sofar = so;
              waits_main = λ w h. absurd (P.main_apart q w hold h);
              inv = opens (start l m.store) (trips l) (Named l) (loops.plan l st.0 m.store) m.store (loops.not_gone l st.0 m.store);
              fixed = λ c fx. refl;
              ticket = omega arith;
              fresh = λ i le. refl;
              active = λ i a h. let z = is.0 i in absurd cc;
              waits = λ i w h. let o = P.waits i w h in let e = B.none in absurd (omega arith);
              printed = λ e. sym (append-nil m.output);
            };
            final = λ e h. cc;
          };
          how = opens_up l xs M refl refl hold refl refl refl going refl;
        })

    between_pick : (M : Main L) → G (between M) m → q < p → m.held q ≡ None → (n : State F L) (c : Choice) → Takes F L view trips begin slots c m q n → Out m q (between M) n
    between_pick M good below idle n take_main t =
        let B : Between F L view trips begin Hidden Fixed start Valid p origin answer M m = good.kept in
        subst (Out m q (between M)) (sym t.3) (record {
          ghost = between M;
          good = record {
            places = places_pick_main (Active F) p m.retired m.ticket m.iterations m.parked m.waiting m.held good.places q t.0 below idle t.1;
            kept = record { loop = B.loop; at = B.at; sofar = B.sofar; waits = λ w h. cc; none = B.none };
            final = λ e h. cc;
          };
          how = main_picked t.0 refl t.1 t.2 refl;
        })
    between_pick M good below idle n (take_iteration k) t =
        let B : Between F L view trips begin Hidden Fixed start Valid p origin answer M m = good.kept in
        let o = (good.places).waits k t.0 t.1 in let e = B.none in absurd (omega arith)
    between_pick M good below idle n take_ticket t =
        let B : Between F L view trips begin Hidden Fixed start Valid p origin answer M m = good.kept in
        let e = B.loop in let z = t.1 in absurd cc

    between_turn : (M : Main L) → G (between M) m → q < p → (o : Option Who) → m.held q ≡ o → (n : State F L) → Turn F L view trips begin slots o m q n → Out m q (between M) n
    between_turn M good below (Some the_main) hold n t = let B : Between F L view trips begin Hidden Fixed start Valid p origin answer M m = good.kept in main_turn M good hold B.at B.sofar n t
    between_turn M good below (Some (iteration k)) hold n t =
        let B : Between F L view trips begin Hidden Fixed start Valid p origin answer M m = good.kept in
        let o = (good.places).holds q k hold in let e = B.none in absurd (omega arith)
    between_turn M good below None idle n t = between_pick M good below idle n t.0 t.1

  -- each step is one of the processes, or none, and keeps what holds
  pub step_out : (g : Ghost L) (m n : State F L) (q : ℕ) → q < p → G g m → Step F L view trips begin slots m q n → Out m q g n
  step_out (between M) m n q below good st = between_turn m st.going q M good below (m.held q) refl n st.turn
  step_out (within l ι past before xs M) m n q below good st = within_turn l ι past before xs M m good st.going q below (m.held q) refl n st.turn
