-- What holds of every state of every run, also where loops are open.
use Rattle.std.proofs.Common.{◌≡◌, ◌∙◌, ℕ, ◌<◌, List, [], ◌++◌, Option, Some, None, refl, sym, ap, subst, append_assoc}
use Rattle.std.proofs.lemmas.List.{append-nil}
use Rattle.ast.specs.Input.{records_of}
use Rattle.ast.specs.Store.{StoreOf, zeros}
use Rattle.ast.specs.declared.fault.End.{End}
use Rattle.ast.specs.declared.fault.End.TheVariants.{Done, Stopped, Fault as Faulted}
use Rattle.machine.specs.Code.{Cell}
use Rattle.machine.specs.State.{State, Who, Step, Run, initial, put_cell, put_cells}
use Rattle.machine.specs.View.{Input, View}
use Rattle.codegen.specs.Headline.{IsBeginning}
use Rattle.codegen.proofs.IterationSteps.{Process, Whole, cell_value, sequential, stopped, went}
use Rattle.codegen.proofs.LoopRuns.{list_of, output, pasts, shown}
use Rattle.codegen.proofs.ProgramGoes.{goes_on, held_goes, good_init, good_run}
use Rattle.codegen.proofs.ProgramStanding.{Between, Final, Ghost, Good, Loops, MainStands, Within, between, inner, within}
use Rattle.codegen.proofs.Outcomes.{text_of, Outcome, done, failed, then_do}
use Rattle.codegen.proofs.ProgramSteps.{Main, take, keep, say, get, work, crash, halt, open_loop, astray, seen, Here, alone_is, meaning, whole}

begins_on : (xs ys zs : List ℕ) → IsBeginning xs ys → IsBeginning xs (ys ++ zs)
begins_on xs ys zs h = (h.0 ++ zs, ap (λ (us : List ℕ). us ++ zs) h.1 ∙ append_assoc xs h.0 zs)

begins_same : (xs : List ℕ) → IsBeginning xs xs
begins_same xs = ([], sym (append-nil xs))

then_begins : (b : List ℕ) (d : Outcome) (go : StoreOf → List ℕ → Outcome) → IsBeginning b (text_of d) → ((σ : StoreOf) (o : List ℕ) → IsBeginning b o → IsBeginning b (text_of (go σ o))) → IsBeginning b (text_of (then_do d go))
then_begins b (done σ o) go h next = next σ o h
then_begins b (failed c o) go h next = h

seen_text : (start : ℕ → Process) (o : List ℕ) (w : Whole) → text_of (seen start o w) ≡ o ++ shown start 0 (list_of w)
seen_text start o (went ls σ) = refl
seen_text start o (stopped ls c) = refl

module _ (L : Type 0) (trips : L → ℕ) (start : L → StoreOf → ℕ → Process) (b : List ℕ) (x : Outcome) (lost : IsBeginning b (text_of x)) where
  -- what was printed is never taken back
  whole_begins : (M : Main L) (σ : StoreOf) (i : Input) (o : List ℕ) → IsBeginning b o → IsBeginning b (text_of (whole L trips start x M σ i o))
  whole_begins (take c κ) σ i o h = whole_begins (κ (cell_value σ c)) σ i o h
  whole_begins (keep c v M) σ i o h = whole_begins M (put_cell σ c v) i o h
  whole_begins (say bytes M) σ i o h = whole_begins M σ i (o ++ bytes) (begins_on b o bytes h)
  whole_begins (get ρ κ) σ i o h = whole_begins (κ i) σ (ρ i) o h
  whole_begins (work M) σ i o h = whole_begins M σ i o h
  whole_begins (crash c) σ i o h = h
  whole_begins halt σ i o h = h
  whole_begins (open_loop l xs M) σ i o h =
      let w = sequential (start l σ) (trips l) σ in
      then_begins b (seen (start l σ) o w) (λ τ t. whole L trips start x M (put_cells τ xs) i t)
      (subst (λ (t : List ℕ). IsBeginning b t) (sym (seen_text (start l σ) o w)) (begins_on b o (shown (start l σ) 0 (list_of w)) h))
      (λ τ t k. whole_begins M (put_cells τ xs) i t k)
  whole_begins astray σ i o h = lost

module _ (F L : Type 0) (view : F → View F L) (trips : L → ℕ) (begin : L → ℕ → F) (slots : ℕ) (Hidden Fixed : L → Cell → Type 0) (Named : L → ℕ → Type 0) (start : L → StoreOf → ℕ → Process) (Valid : L → Type 0) (p : ℕ)
    (loops : Loops F L view trips begin Hidden Fixed Named start Valid) where
  pub record Claims (origin : Here L) (answer : Outcome) (m : State F L) : Type 0 where
    pub final : (e : End) → m.ended ≡ Some e → Final e m answer
    pub goes : m.ended ≡ None → (q : ℕ) × (q < p) × (n : State F L) × Step F L view trips begin slots m q n
    pub held : m.ended ≡ None → (q : ℕ) (u : Who) → m.held q ≡ Some u → (n : State F L) × Step F L view trips begin slots m q n
    pub begins : IsBeginning m.output (text_of answer)

  module _ (origin : Here L) (answer : Outcome) (means : (x : Outcome) → meaning L trips start x origin ≡ answer) (m : State F L) (some_p : 0 < p) (some_s : 0 < slots) where
    abbrev G : Ghost L → Type 0
    G g = Good F L view trips begin Hidden Fixed start Valid p origin answer g m

    -- what is told of a state that has ended has its output
    final_text : (e : End) → Final e m answer → IsBeginning m.output (text_of answer)
    final_text Done h = subst (λ (t : List ℕ). IsBeginning m.output t) (sym (ap text_of h)) (begins_same m.output)
    final_text (Faulted e line) h = subst (λ (t : List ℕ). IsBeginning m.output t) (sym (ap text_of h)) (begins_same m.output)
    final_text (Stopped line) h = subst (λ (t : List ℕ). IsBeginning m.output t) (sym (ap text_of h)) (begins_same m.output)

    over : (o : Option End) → m.ended ≡ o → (g : Ghost L) → G g → (m.ended ≡ None → IsBeginning m.output (text_of answer)) → IsBeginning m.output (text_of answer)
    over None e g good h = h e
    over (Some d) e g good h = final_text d (good.final d e)

    -- an outcome for a main that goes astray
    abbrev lost : Outcome
    lost = done zeros m.output

    claims : (g : Ghost L) → G g → Claims origin answer m
    claims (between M) good =
        let B : Between F L view trips begin Hidden Fixed start Valid p origin answer M m = good.kept in
        let so = B.sofar in
        let same : whole L trips start lost M m.store m.input m.output ≡ answer = ap (meaning L trips start lost) (sym so.1) ∙ alone_is L trips start lost so.0 origin ∙ means lost in
        record {
          final = good.final;
          goes = λ going. goes_on F L view trips begin slots Hidden Fixed Named start Valid p origin answer means loops (between M) m good going some_p some_s;
          held = held_goes F L view trips begin slots Hidden Fixed Named start Valid p origin answer means loops (between M) m good;
          begins = subst (λ (d : Outcome). IsBeginning m.output (text_of d)) same (whole_begins L trips start m.output lost (begins_same m.output) M m.store m.input m.output (begins_same m.output));
        }
    claims (within l ι past before xs M) good =
        let W : Within F L view trips begin Hidden Fixed start Valid p origin answer l ι past before xs M m = good.kept in
        let so = W.sofar in
        let s = inner m past in
        let w = sequential (start l ι) (trips l) ι in
        let same : then_do (seen (start l ι) before w) (λ τ t. whole L trips start lost M (put_cells τ xs) m.input t) ≡ answer = ap (meaning L trips start lost) (sym so.1) ∙ alone_is L trips start lost so.0 origin ∙ means lost in
        let o = output (start l ι) (trips l) (Named l) (loops.plan l W.valid ι) ι s W.inv in
        let lead : text_of (seen (start l ι) before w) ≡ (before ++ shown (start l ι) 0 (pasts past m.retired 0)) ++ o.0
        = seen_text (start l ι) before w ∙ ap (λ (t : List ℕ). before ++ t) o.1 ∙ sym (append_assoc before (shown (start l ι) 0 (pasts past m.retired 0)) o.0) in
        record {
          final = good.final;
          goes = λ going. goes_on F L view trips begin slots Hidden Fixed Named start Valid p origin answer means loops (within l ι past before xs M) m good going some_p some_s;
          held = held_goes F L view trips begin slots Hidden Fixed Named start Valid p origin answer means loops (within l ι past before xs M) m good;
          begins = over m.ended refl (within l ι past before xs M) good (λ going.
              let first : IsBeginning m.output (text_of (seen (start l ι) before w)) = (o.0, lead ∙ ap (λ (t : List ℕ). t ++ o.0) (sym (W.printed going))) in
              subst (λ (d : Outcome). IsBeginning m.output (text_of d)) same
              (then_begins m.output (seen (start l ι) before w) (λ τ t. whole L trips start lost M (put_cells τ xs) m.input t) first
              (λ τ t k. whole_begins L trips start m.output lost (begins_same m.output) M (put_cells τ xs) m.input t k)));
        }

  -- every run of the machine
  pub claimed : (M : Main L) (f : F) (input : List ℕ) (answer : Outcome) → ((x : Outcome) → whole L trips start x M zeros (record { left = []; records = records_of input }) [] ≡ answer) → MainStands F L view Valid M f → 0 < p → 0 < slots
      → (qs : List ℕ) (m : State F L) → Run F L view trips begin slots p (initial f input) qs m → Claims (record { main = M; store = zeros; input = record { left = []; records = records_of input }; output = [] }) answer m
  claimed M f input answer means st some_p some_s qs m r =
      let origin : Here L = record { main = M; store = zeros; input = record { left = []; records = records_of input }; output = [] } in
      let g = good_run F L view trips begin slots Hidden Fixed Named start Valid p origin answer means loops qs (between M) (initial f input) m (good_init F L view trips begin Hidden Fixed start Valid p answer M f input st) r in
      claims origin answer means m some_p some_s g.0 g.1
