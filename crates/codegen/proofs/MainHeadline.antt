-- The headline, and how long runs are, for code that may open loops.
use Rattle.std.proofs.Common.{◌≡◌, ◌∙◌, ◌*◌, ◌+◌, ◌≤◌, ◌<◌, ◌^◌, ◌⊎◌, inl, inr, ⊎_elim, ℕ, ℤ, pos, Bool, true, List, [], ◌++◌, Option, Some, None, refl, sym, ap, subst, arith, length-append}
use Rattle.std.specs.Prelude.{length, slice_get}
use Rattle.std.specs.List.{IsDistinct}
use Rattle.ast.specs.Input.{records_of}
use Rattle.ast.specs.Meaning.{Run, exec_block, seq, start}
use Rattle.ast.specs.Program.{ProgramTree, are_placed}
use Rattle.ast.specs.Store.{StoreOf, zeros, same_name}
use Rattle.ast.specs.Symbols.{Symbol, names_of}
use Rattle.ast.specs.Tree.{Block}
use Rattle.ast.specs.declared.fault.End.{End}
use Rattle.ast.specs.declared.fault.End.TheVariants.{Done, Stopped, Fault as Faulted}
use Rattle.ast.specs.declared.fault.Fault.{Fault}
use Rattle.dependence.specs.Plan.{PlanBlock}
use Rattle.machine.specs.Code.{Code, Cell}
use Rattle.machine.specs.Frame.{Frame}
use Rattle.machine.specs.Solo.{Solo}
use Rattle.machine.specs.State.{Machine, AreSizes, CodeRun, CodeStep, Init, end_of}
use Rattle.machine.specs.View.{Cause, Input, begin, main_frame, stop_at, failure, trips_of, view}
use Rattle.machine.specs.declared.code.Open.{Open as Opened}
use Rattle.machine.specs.declared.instr.Act.TheVariants as acts
use Rattle.expr_code.specs.Emitted.{instr}
use Rattle.expr_code.specs.Places.{Places}
use Rattle.expr_code.proofs.Standing.{HasAt, at, seen}
use Rattle.codegen.specs.Emitted.{block_awaits, block_code, block_records}
use Rattle.codegen.specs.Alone.{AllRetire, Before, BreaksOff}
use Rattle.codegen.specs.Headline.{HasOneStep, Headline, IsBeginning}
use Rattle.codegen.specs.Plain.{plain_block}
use Rattle.codegen.specs.Process.{block_into}
use Rattle.codegen.specs.Program.{Planned, main_places}
use Rattle.codegen.specs.Room.{block_loops, block_room}
use Rattle.codegen.specs.States.{AreAsAlone, AsAlone, IsAlone, IsWithin}
use Rattle.codegen.proofs.AloneRuns.{AtOpening, SameMain, run_on}
use Rattle.codegen.proofs.Beside.{Beside, beside}
use Rattle.codegen.proofs.Blocks.{BlockReaches, HasList, block_runs}
use Rattle.codegen.proofs.MainStanding.{Goes, Opens, main_does}
use Rattle.codegen.proofs.MainSteps.{Valid, main_acts, main_doing, meant}
use Rattle.codegen.proofs.Meaning.{going_told, outcomes, then_told}
use Rattle.codegen.proofs.Outcomes.{Outcome, done, failed, text_of, told, told_by}
use Rattle.codegen.proofs.OneStep.{same_step}
use Rattle.codegen.proofs.ProgramBound.{alone_takes, bounded as most_steps, carried as to_end, exactly, narrow, weighed}
use Rattle.codegen.proofs.ProgramClaims.{Claims, claimed}
use Rattle.codegen.proofs.IterationSteps.{after}
use Rattle.codegen.proofs.LoopRuns.{reached}
use Rattle.codegen.proofs.OwnBefore.{stands_alone}
use Rattle.codegen.proofs.OwnFates.{fails_so, fates as fates_of}
use Rattle.codegen.proofs.ProgramGoes.{lowest_reached}
use Rattle.codegen.proofs.ProgramStanding.{Between, Final, Ghost, Good, Loops, Within, between, inner, within}
use Rattle.codegen.proofs.ProgramSteps.{Here, Main, halt, whole}
use Rattle.plan_check.specs.GoodPlan.{Names}
use Rattle.ast.specs.Regular.{are_fitting}
use Rattle.ast.proofs.Fitting.{zeros_fit}
use Rattle.codegen.proofs.OpenedLoop.{open_meant, starts}
use Rattle.codegen.proofs.Meaning.{block_meant}
use Rattle.codegen.proofs.MainNaming.{BlockRight, block_named}

-- the answer of a state is that of a run (as in MainHeadline)
module _ (m : Machine) (run : Run) where
  ended_by : (d e : End) → run.end ≡ d → Final e m (told_by d run) → (e ≡ run.end) × (m.output ≡ run.output) × (e ≡ Done → m.store ≡ run.store)
  ended_by Done Done h f = let s : run.store ≡ m.store = cc in let o : run.output ≡ m.output = cc in (sym h, sym o, λ z. sym s)
  ended_by Done (Faulted k l) h f = cc
  ended_by Done (Stopped l) h f = cc
  ended_by (Stopped l) Done h f = cc
  ended_by (Stopped l) (Faulted k j) h f = cc
  ended_by (Stopped l) (Stopped j) h f = let s : l ≡ j = cc in let o : run.output ≡ m.output = cc in (ap Stopped (sym s) ∙ sym h, sym o, λ z. cc)
  ended_by (Faulted k l) Done h f = cc
  ended_by (Faulted k l) (Stopped j) h f = cc
  ended_by (Faulted k l) (Faulted i j) h f =
      let s : k ≡ i = cc in
      let t : l ≡ j = cc in
      let o : run.output ≡ m.output = cc in
      (ap (λ (x : Fault). Faulted x j) (sym s) ∙ ap (λ (x : ℕ). Faulted k x) (sym t) ∙ sym h, sym o, λ z. cc)

  fails_by : (d : End) (b : Cause) (o : List ℕ) → told_by d run ≡ failed b o → d ≡ end_of b
  fails_by Done b o h = cc
  fails_by (Stopped l) b o h = let s : stop_at l ≡ b = cc in ap end_of s
  fails_by (Faulted k l) b o h = let s : failure k l ≡ b = cc in ap end_of s

  text_by : (d : End) → text_of (told_by d run) ≡ run.output
  text_by Done = refl
  text_by (Stopped l) = refl
  text_by (Faulted k l) = refl

-- The code of a program: main's code stands in it from its beginning, with its records, a halt
-- behind it, and room; each loop that it opens is that of its number. opens: the number of the loop
-- that a DO opens.
pub record OpenCompiled (code : Code) (may : ℕ → ℤ → ℤ → Bool) (places : ℕ → Places) (bodies : ℕ → PlanBlock) (fixed : ℕ → Cell → Bool) (opens : ℕ → Option ℕ) (symbols : List Symbol) (body : Block) : Type 0 where
  pub distinct : IsDistinct same_name (names_of symbols)
  pub placed : are_placed symbols body ≡ true
  pub fit : are_fitting body ≡ true
  pub reaches : BlockReaches code (main_places symbols) opens (plain_block body)
  pub limit : ℕ
  pub few : limit ≤ 2 ^ 32
  pub stands : HasAt code.instructions limit 0 (block_code (main_places symbols) opens 0 0 (plain_block body))
  pub records : HasList code.records 0 (block_records (main_places symbols) opens (plain_block body))
  pub awaits : HasList code.awaits 0 (block_awaits (main_places symbols) opens (plain_block body))
  pub operands : block_room (plain_block body) ≤ code.operands
  pub counters : block_loops (plain_block body) ≤ code.counters
  pub line : ℕ
  pub halts : slice_get code.instructions (length (block_code (main_places symbols) opens 0 0 (plain_block body))) ≡ Some (instr line acts.Halt)
  pub right : BlockRight code may places bodies fixed symbols distinct opens body
  pub sound : (n : ℕ) (m1 m2 : ℤ) → may n m1 m2 ≡ true → Opens code n

module _ (code : Code) (may : ℕ → ℤ → ℤ → Bool) (places : ℕ → Places) (bodies : ℕ → PlanBlock) (fixed : ℕ → Cell → Bool) (opens : ℕ → Option ℕ) (Hidden Fixed : Opened → Cell → Type 0) (Named : Opened → ℕ → Type 0)
    (loops : Loops Frame Opened (view code) trips_of (begin code) Hidden Fixed Named (starts code may places bodies fixed) (Valid code may)) (program : ProgramTree) (compiled : OpenCompiled code may places bodies fixed opens program.symbols program.block) (input : List ℕ) where
  abbrev pub main : Main Opened
  main = block_into (Main Opened) (main_doing code may) (main_places program.symbols) opens (plain_block program.block) halt

  abbrev taken_in : Input
  taken_in = record { left = []; records = records_of input }

  abbrev answer : Outcome
  answer = told (seq program input)

  ends_so : (x : Outcome) (run : Run) → then_told run (λ r. meant (starts code may places bodies fixed) x halt [] r) ≡ told run
  ends_so x run = by run.end refl
    where
      by : (e : End) → run.end ≡ e → going_told e run (λ r. meant (starts code may places bodies fixed) x halt [] r) ≡ told run
      by Done e = ap (λ (k : End). told_by k run) (sym e)
      by (Stopped l) e = refl
      by (Faulted k l) e = refl

  pub means : (x : Outcome) → whole Opened trips_of (starts code may places bodies fixed) x main zeros taken_in [] ≡ answer
  means x =
      block_meant (Main Opened) (main_doing code may) (main_places program.symbols) (meant (starts code may places bodies fixed) x) (main_acts code may (starts code may places bodies fixed) program.symbols x) opens program.block halt (start input)
      (block_named code may places bodies fixed program.symbols compiled.distinct opens Outcome outcomes (meant (starts code may places bodies fixed) x) (main_acts code may (starts code may places bodies fixed) program.symbols x) (λ n line d b r a run e f. open_meant code may places bodies fixed program.symbols x line n d b r a run e f) program.block compiled.right compiled.placed) compiled.fit refl zeros_fit
      ∙ ends_so x (exec_block program.symbols program.block (start input))

  -- main's frame stands where main's process does
  pub standing : Goes code may main (main_frame code)
  standing =
      block_runs (Main Opened) (main_doing code may) code compiled.limit (pos 0) (Goes code may) (main_does code may compiled.sound compiled.limit) (main_places program.symbols) (omega arith) compiled.few opens (plain_block program.block) 0 0 halt (main_frame code) 0 []
      compiled.reaches compiled.records compiled.awaits (record { indexed = refl; privates = omega arith }) compiled.stands
      (record { above = omega (arith, compiled.operands); loops = omega (arith, compiled.counters) })
      (λ g k. halts g)
    where
      size : ℕ
      size = length (block_code (main_places program.symbols) opens 0 0 (plain_block program.block))

      halts : (g : Frame) → Goes code may halt (at code g (0 + size) [])
      halts g = let z : size ≡ 0 + size = omega arith in subst (λ (n : ℕ). Goes code may halt (at code g n [])) z (seen code g (instr compiled.line acts.Halt) size [] compiled.halts)

  module _ (p s : ℕ) where
    pub claims : (qs : List ℕ) (m : Machine) → 0 < p → 0 < s → CodeRun code s p (Init code input) qs m → Claims Frame Opened (view code) trips_of (begin code) s Hidden Fixed Named (starts code may places bodies fixed) (Valid code may) p loops (record { main = main; store = zeros; input = taken_in; output = [] }) answer m
    claims qs m some_p some_s run = claimed Frame Opened (view code) trips_of (begin code) s Hidden Fixed Named (starts code may places bodies fixed) (Valid code may) p loops main (main_frame code) input answer means standing some_p some_s qs m run

    module _ (mode : ((τ : StoreOf) × (t : List ℕ) × (answer ≡ done τ t)) ⊎ ((s ≡ 1) ⊎ ((l : Opened) → Valid code may l → ⊥))) where
      abbrev alone : ℕ
      alone = alone_takes Frame Opened (view code) trips_of (begin code) s Hidden Fixed Named (starts code may places bodies fixed) (Valid code may) p loops main (main_frame code) input answer means standing mode

      at_most : (qs : List ℕ) (m : Machine) → CodeRun code s p (Init code input) qs m → length qs ≤ 3 * alone
      at_most qs m run = most_steps Frame Opened (view code) trips_of (begin code) s Hidden Fixed Named (starts code may places bodies fixed) (Valid code may) p loops main (main_frame code) input answer means standing mode qs m run

      goes_to_end : 0 < p → 0 < s → (qs : List ℕ) (m : Machine) → CodeRun code s p (Init code input) qs m → (rs : List ℕ) × (n : Machine) × CodeRun code s p m rs n × (e : End) × (n.ended ≡ Some e)
      goes_to_end some_p some_s qs m run = to_end Frame Opened (view code) trips_of (begin code) s Hidden Fixed Named (starts code may places bodies fixed) (Valid code may) p loops main (main_frame code) input answer means standing mode some_p some_s qs m run

  -- a run alone makes so many steps, whatever the program's end is
  abbrev steps : ℕ
  steps = alone 1 1 (inr (inl refl))

  solo_is : (w : ℕ) → Solo code input w → w ≡ steps
  solo_is w o =
      exactly Frame Opened (view code) trips_of (begin code) 1 Hidden Fixed Named (starts code may places bodies fixed) (Valid code may) 1 loops main (main_frame code) input answer means standing (inr (inl refl))
      o.turns o.last o.run o.end o.ended w o.weight

  one_step : HasOneStep code input
  one_step qs m run going =
      let c = claims 1 1 qs m (omega arith) (omega arith) run in
      let g = c.goes going in
      let lt = g.1 in
      let z : g.0 ≡ 0 = omega arith in
      let st : CodeStep code 1 m 0 g.2 = subst (λ (q : ℕ). CodeStep code 1 m q g.2) z g.3 in
      let is = narrow Frame Opened (view code) trips_of (begin code) 1 Hidden Fixed Named (starts code may places bodies fixed) (Valid code may) 1 loops main (main_frame code) input answer means standing (inr (inl refl)) refl qs m run going in (
        g.2,
        st,
        λ q o below other.
            let y : q ≡ 0 = omega arith in
            same_step Frame Opened (view code) trips_of (begin code) m o g.2 0 is (subst (λ (r : ℕ). CodeStep code 1 m r o) y other) st,
      )

  pub ends : HasOneStep code input × (w : ℕ) × Solo code input w × ((v : ℕ) → Solo code input v → v ≡ w)
  ends =
      let c = goes_to_end 1 1 (inr (inl refl)) (omega arith) (omega arith) [] (Init code input) refl in
      let w = weighed Frame Opened (view code) trips_of (begin code) 1 Hidden Fixed Named (starts code may places bodies fixed) (Valid code may) 1 loops main (main_frame code) input answer means standing (inr (inl refl)) c.0 c.1 c.2 in
      let solo : Solo code input w.0 = record { turns = c.0; last = c.1; run = c.2; end = c.3; ended = c.4; weight = w.1 } in
      (one_step, w.0, solo, λ v other. solo_is v other ∙ sym (solo_is w.0 solo))

  mode_of : (s : ℕ) → ((seq program input).end ≡ Done) ⊎ (s ≡ 1) → ((τ : StoreOf) × (t : List ℕ) × (answer ≡ done τ t)) ⊎ ((s ≡ 1) ⊎ ((l : Opened) → Valid code may l → ⊥))
  mode_of s (inl e) = inl ((seq program input).store, (seq program input).output, ap (λ (d : End). told_by d (seq program input)) e)
  mode_of s (inr e) = inr (inl e)

  -- where the program doesn't break off, or one iteration is open at a time, no run has more than
  -- three times the steps of one alone
  pub bounded : (w : ℕ) → Solo code input w → (p s : ℕ) (qs : List ℕ) (m : Machine) → AreSizes p s → ((seq program input).end ≡ Done) ⊎ (s ≡ 1) → CodeRun code s p (Init code input) qs m → length qs ≤ 3 * w
  bounded w solo p s qs m sizes fine run = let is = solo_is w solo in let most = at_most p s (mode_of s fine) qs m run in omega (arith, is, most)

  pub carried : (w : ℕ) → Solo code input w → (p s : ℕ) (qs : List ℕ) (m : Machine) → AreSizes p s → ((seq program input).end ≡ Done) ⊎ (s ≡ 1) → CodeRun code s p (Init code input) qs m → (rs : List ℕ) × (n : Machine) × (e : End) × CodeRun code s p m rs n × (n.ended ≡ Some e) × (length qs + length rs ≤ 3 * w)
  carried w solo p s qs m sizes fine run =
      let c = goes_to_end p s (mode_of s fine) (omega (arith, (sizes.0).0)) (omega (arith, (sizes.1).0)) qs m run in
      let is = solo_is w solo in
      let most = at_most p s (mode_of s fine) (qs ++ c.0) c.1 (run_on Frame Opened (view code) trips_of (begin code) s p qs c.0 (Init code input) m c.1 run c.2) in
      let len = length-append qs c.0 in
      (c.0, c.1, c.3, c.2, c.4, omega (arith, is, most, len))

module _ (code : Code) (may : ℕ → ℤ → ℤ → Bool) (places : ℕ → Places) (bodies : ℕ → PlanBlock) (fixed : ℕ → Cell → Bool) (opens : ℕ → Option ℕ) (Hidden Fixed : Opened → Cell → Type 0) (Named : Opened → ℕ → Type 0)
    (loops : Loops Frame Opened (view code) trips_of (begin code) Hidden Fixed Named (starts code may places bodies fixed) (Valid code may)) (program : ProgramTree) (compiled : OpenCompiled code may places bodies fixed opens program.symbols program.block) where
  pub headline : Headline code program
  headline input p s qs m sizes run =
      let c = claims code may places bodies fixed opens Hidden Fixed Named loops program compiled input p s qs m (omega (arith, (sizes.0).0)) (omega (arith, (sizes.1).0)) run in
      record {
        beginning = subst (λ (t : List ℕ). IsBeginning m.output t) (text_by m (seq program input) (seq program input).end) c.begins;
        answer = λ e h.
            let x = ended_by m (seq program input) (seq program input).end e refl (c.final e h) in
            record { is = h ∙ ap (λ (d : End). Some d) x.0; printed = x.1; stored = λ d name place. ap (λ (σ : StoreOf). σ name place) (x.2 (x.0 ∙ d)) };
        next = λ going. let g = c.goes going in (g.0, g.2, g.1, g.3);
        held = c.held;
      }

  -- every state of every run is as those of the run alone
  module _ (xs : List Planned) (names : (l : Opened) (x : Planned) (e d : ℕ) → slice_get xs l.number ≡ Some x → Names x.plan e d → Named l e) (input : List ℕ) (p s : ℕ) (m : Machine) where
    abbrev means_so : (x : Outcome) → whole Opened trips_of (starts code may places bodies fixed) x (main code may places bodies fixed opens Hidden Fixed Named loops program compiled input) zeros (record { left = []; records = records_of input }) [] ≡ told (seq program input)
    means_so = means code may places bodies fixed opens Hidden Fixed Named loops program compiled input

    abbrev G : Ghost Opened → Machine → Type 0
    G g n = Good Frame Opened (view code) trips_of (begin code) Hidden Fixed (starts code may places bodies fixed) (Valid code may) p (record { main = main code may places bodies fixed opens Hidden Fixed Named loops program compiled input; store = zeros; input = record { left = []; records = records_of input }; output = [] }) (told (seq program input)) g n

    abbrev B : Ghost Opened → Machine → Type 0
    B g n = Beside Frame Opened (view code) trips_of (begin code) Hidden Fixed Named (starts code may places bodies fixed) (Valid code may) loops (main code may places bodies fixed opens Hidden Fixed Named loops program compiled input) (main_frame code) input (told (seq program input)) (means code may places bodies fixed opens Hidden Fixed Named loops program compiled input) (standing code may places bodies fixed opens Hidden Fixed Named loops program compiled input) g n

    abbrev at_first : Here Opened
    at_first = record { main = main code may places bodies fixed opens Hidden Fixed Named loops program compiled input; store = zeros; input = record { left = []; records = records_of input }; output = [] }

    outside_so : (M : Main Opened) → G (between M) m → B (between M) m → IsAlone code input m
    outside_so M good b =
        let k : SameMain Frame Opened (view code) trips_of (begin code) m b.other = b.like in
        record { other = b.other; alone = b.comes; loop = k.loop; main = k.main; store = λ name place. ap (λ (σ : StoreOf). σ name place) k.store; unread = k.unread; output = k.output; ended = k.ended }

    -- of the first iterations of an open loop all retire, or one breaks off, as the program does
    fates_so : (l : Opened) (ι : StoreOf) (past : ℕ → List ℤ) (before : List ℕ) (ys : List (Cell × ℤ)) (M : Main Opened) → G (within l ι past before ys M) m → (n : ℕ) → n ≤ l.trips
        → AllRetire Frame Opened (view code) (begin code) l n ι ⊎ ((b : Cause) × BreaksOff Frame Opened (view code) (begin code) l n ι b × ((seq program input).end ≡ end_of b))
    fates_so l ι past before ys M good n le =
        ⊎_elim (λ h. inl h)
        (λ h.
        let o = fails_so Frame Opened (view code) trips_of (begin code) Hidden Fixed Named (starts code may places bodies fixed) (Valid code may) p loops at_first (told (seq program input)) l ι past before ys M m good means_so h.2 h.0 h.3 in
        inr (h.0, h.1, fails_by m (seq program input) (seq program input).end h.0 o.0 o.1))
        (fates_of Frame Opened (view code) trips_of (begin code) Hidden Fixed Named (starts code may places bodies fixed) (Valid code may) p loops at_first (told (seq program input)) l ι past before ys M m good n le)

    inside_so : (l : Opened) (ι : StoreOf) (past : ℕ → List ℤ) (before : List ℕ) (ys : List (Cell × ℤ)) (M : Main Opened) → G (within l ι past before ys M) m → B (within l ι past before ys M) m → IsWithin program code xs input l m
    inside_so l ι past before ys M good b =
        let W : Within Frame Opened (view code) trips_of (begin code) Hidden Fixed (starts code may places bodies fixed) (Valid code may) p at_first (told (seq program input)) l ι past before ys M m = good.kept in
        let k : AtOpening Frame Opened (view code) trips_of (begin code) Hidden Fixed Named (starts code may places bodies fixed) (Valid code may) loops at_first (told (seq program input)) means_so l ι before m b.other = b.like in
        let O : Within Frame Opened (view code) trips_of (begin code) Hidden Fixed (starts code may places bodies fixed) (Valid code may) 1 at_first (told (seq program input)) l ι k.past before k.xs k.behind b.other = (k.good).kept in
        record {
          opening = b.other;
          alone = b.comes;
          loop = O.loop;
          first = k.first;
          main = k.main;
          unread = k.unread;
          fates = λ n le. subst (λ (τ : StoreOf). AllRetire Frame Opened (view code) (begin code) l n τ ⊎ ((b : Cause) × BreaksOff Frame Opened (view code) (begin code) l n τ b × ((seq program input).end ≡ end_of b))) (sym k.store) (fates_so l ι past before ys M good n le);
          iterations = λ i a σ open_so h.
              let st = stands_alone Frame Opened (view code) trips_of (begin code) Hidden Fixed Named (starts code may places bodies fixed) (Valid code may) p loops at_first (told (seq program input)) l ι past before ys M m good i a σ open_so (subst (λ (τ : StoreOf). Before Frame Opened (view code) (begin code) l i 0 τ σ) k.store h) in
              record { steps = st.steps; own = st.own; is = st.is; frame = st.frame; out = st.out; loads = st.loads };
          lowest = λ w h. lowest_reached Frame Opened (view code) trips_of (begin code) s Hidden Fixed Named (starts code may places bodies fixed) (Valid code may) p at_first (told (seq program input)) means_so loops l ι past before ys M m good (after (starts code may places bodies fixed l ι m.retired) (past m.retired)) refl w (W.waits m.retired w h);
          counts = λ x e d at named. reached (starts code may places bodies fixed l ι) l.trips (Named l) (loops.plan l W.valid ι) ι (inner m past) W.inv e (names l x e d at named);
        }

    all_so : (g : Ghost Opened) → G g m → B g m → AsAlone program code xs input m
    all_so (between M) good b =
        let W : Between Frame Opened (view code) trips_of (begin code) Hidden Fixed (starts code may places bodies fixed) (Valid code may) p at_first (told (seq program input)) M m = good.kept in
        record { outside = λ e. outside_so M good b; inside = λ l e. let a : None ≡ Some l = sym W.loop ∙ e in absurd cc }
    all_so (within l ι past before ys M) good b =
        let W : Within Frame Opened (view code) trips_of (begin code) Hidden Fixed (starts code may places bodies fixed) (Valid code may) p at_first (told (seq program input)) l ι past before ys M m = good.kept in
        record {
          outside = λ e. let a : None ≡ Some l = sym e ∙ W.loop in absurd cc;
          inside = λ k e. let a : Some l ≡ Some k = sym W.loop ∙ e in let is : l ≡ k = cc in subst (λ (j : Opened). IsWithin program code xs input j m) is (inside_so l ι past before ys M good b);
        }

  pub as_alone : (xs : List Planned) → ((l : Opened) (x : Planned) (e d : ℕ) → slice_get xs l.number ≡ Some x → Names x.plan e d → Named l e) → AreAsAlone program code xs
  as_alone xs names input p s qs m sizes run =
      let b =
      beside Frame Opened (view code) trips_of (begin code) Hidden Fixed Named (starts code may places bodies fixed) (Valid code may) loops (main code may places bodies fixed opens Hidden Fixed Named loops program compiled input) (main_frame code) input (told (seq program input))
      (means code may places bodies fixed opens Hidden Fixed Named loops program compiled input) (standing code may places bodies fixed opens Hidden Fixed Named loops program compiled input) s p qs m run in
      all_so xs names input p s m b.0 b.1 b.2
