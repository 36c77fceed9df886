-- What the iterations of an open loop leave, one after another, is what as many turns of its DO do.
use Rattle.std.proofs.Common.{◌≡◌, ◌∙◌, ◌+◌, ◌<◌, ◌≤◌, ℕ, zero, suc, ℤ, pos, Bool, List, [], ◌++◌, Option, Result, Ok, Err, refl, sym, ap, subst, arith}
use Rattle.std.specs.Prelude.{◌+ℤ◌, slice_get, unwrap_or}
use Rattle.std.proofs.lemmas.List.{append-nil}
use Rattle.ast.specs.Exact.{in_range}
use Rattle.ast.specs.Meaning.{Run, exec_block, given, going_on, grown, then_do, turns, written}
use Rattle.ast.specs.Store.{StoreOf}
use Rattle.ast.specs.Symbols.{Symbol}
use Rattle.ast.specs.Tree.{Block}
use Rattle.ast.specs.declared.fault.End.{End}
use Rattle.ast.specs.declared.fault.End.TheVariants.{Done, Stopped, Fault as Faulted}
use Rattle.ast.specs.declared.fault.Fault.{Fault}
use Rattle.ast.proofs.Trips.{next_value, no_trip}
use Rattle.dependence.specs.Plan.{PlanBlock}
use Rattle.loop_tree.specs.Loops.{Loop}
use Rattle.machine.specs.Code.{Code, Cell, cell_at, loop_at}
use Rattle.machine.specs.State.{put_cells}
use Rattle.machine.specs.View.{index_at, join_stores, joined_with}
use Rattle.machine.specs.declared.code.Open.{Open as Opened}
use Rattle.expr_code.specs.Places.{Places}
use Rattle.plan_check.specs.GoodPlan.{stripped}
use Rattle.codegen.specs.OnTheWay.{SameBut}
use Rattle.codegen.specs.Turns.{AreGoneThrough, Opening, after_turns, before_turns, turn_of}
use Rattle.codegen.proofs.Comes.{comes, loop_is, one_by_one, one_more}
use Rattle.codegen.proofs.IterationCode.{iteration_process}
use Rattle.codegen.proofs.IterationMeaning.{At}
use Rattle.codegen.proofs.IterationSteps.{Process, Whole, sequential, stopped, went}
use Rattle.codegen.proofs.IterationLaws.{cell_other}
use Rattle.codegen.proofs.LoopMeaning.{IsLoop, Ranged, Reached, first_at, last_is, loop_comes, none, ok_is, range_back, range_reach, store_is, turns_reach}
use Rattle.codegen.proofs.LoopRuns.{shown}
use Rattle.codegen.proofs.Meaning.{going_told, then_told}
use Rattle.codegen.proofs.Outcomes.{Outcome, done, failed, told_by}
use Rattle.codegen.proofs.Outcomes as outcomes
use Rattle.codegen.proofs.ProgramSteps.{seen}
use Rattle.codegen.proofs.Turning.{turn_more}

-- An open loop is this one of the source, and the values of its variable are 64-bit integers.
pub record IsSource (code : Code) (l : Opened) (p : Places) (body : PlanBlock) (fixed : Cell → Bool) (symbols : List Symbol) (loop : Loop) : Type 0 where
  pub is : IsLoop code l.number p body fixed loop.head.variable.name
  pub symbols_are : p.symbols ≡ symbols
  pub body_is : stripped body ≡ loop.body
  pub step_is : (loop_at code l.number).step ≡ unwrap_or loop.step (pos 0)
  pub first : in_range l.first ≡ Ok l.first
  pub inside : (k : ℕ) → k < l.trips → in_range (index_at code l k) ≡ Ok (index_at code l k)

module _ (code : Code) (l : Opened) (p : Places) (body : PlanBlock) (fixed : Cell → Bool) (symbols : List Symbol) (loop : Loop) (w : IsSource code l p body fixed symbols loop) (o : Opening) (first_is : l.first ≡ o.first) where
  abbrev variable : List ℕ
  variable = loop.head.variable.name

  abbrev step : ℤ
  step = (loop_at code l.number).step

  abbrev begins : ℕ → Process
  begins k = iteration_process code l.number p body fixed o.store (index_at code l k)

  abbrev raw : Run → Run
  raw r = then_do (exec_block p.symbols (stripped body) r) (λ y. grown loop.line variable step y)

  abbrev run0 : Run
  run0 = before_turns loop o

  abbrev T : ℕ → Run
  T k = after_turns symbols loop o k

  raw_is : (k : ℕ) → turns raw k run0 ≡ T k
  raw_is k =
      ap (λ (ss : List Symbol). turns (λ r. then_do (exec_block ss (stripped body) r) (λ y. grown loop.line variable step y)) k run0) w.symbols_are
      ∙ ap (λ (c : Block). turns (λ r. then_do (exec_block symbols c r) (λ y. grown loop.line variable step y)) k run0) w.body_is
      ∙ ap (λ (s : ℤ). turns (λ r. then_do (exec_block symbols loop.body r) (λ y. grown loop.line variable s y)) k run0) w.step_is

  steps : (k : ℕ) → index_at code l k +ℤ (loop_at code l.number).step ≡ index_at code l (suc k)
  steps k = next_value l.first (loop_at code l.number).step k

  begins_at : o.first ≡ index_at code l 0
  begins_at = sym first_is ∙ sym (no_trip l.first step)

  at_first : At p (index_at code l 0) fixed o.store run0.store (none code l p body fixed variable w.is o.store) o.store
  at_first = first_at code l p body fixed variable w.is o.store o.first begins_at

  first_fits : (v : ℤ) × (in_range (index_at code l 0) ≡ Ok v)
  first_fits = (l.first, ap in_range (no_trip l.first step) ∙ w.first)

  -- k turns are made, and so k iterations
  record Come (k : ℕ) : Type 0 where
    pub left : StoreOf
    pub comes_so : one_by_one begins k 0 o.store o.output ≡ done left (T k).output
    pub at : At p (index_at code l k) fixed o.store (T k).store (none code l p body fixed variable w.is o.store) left
    pub unread : (T k).input ≡ o.input
    pub valid : (v : ℤ) × (in_range (index_at code l k) ≡ Ok v)

  come : (k : ℕ) → (T k).end ≡ Done → Come k
  come k e = record {
    left = r.left;
    comes_so = r.comes ∙ ap (λ (x : Run). done r.left x.output) (raw_is k);
    at = subst (λ (x : Run). At p (index_at code l k) fixed o.store x.store (none code l p body fixed variable w.is o.store) r.left) (raw_is k) (subst (λ (j : ℕ). At p (index_at code l j) fixed o.store (turns raw k run0).store (none code l p body fixed variable w.is o.store) r.left) z r.at);
    unread = sym (ap (λ (x : Run). x.input) (raw_is k)) ∙ r.unread;
    valid = subst (λ (j : ℕ). (v : ℤ) × (in_range (index_at code l j) ≡ Ok v)) z r.valid;
  }
    where
      r : Reached code l p body fixed variable w.is o.store raw k 0 run0 o.store
      r = turns_reach code l p body fixed variable w.is o.store loop.line step steps k 0 run0 o.store refl at_first first_fits (ap (λ (x : Run). x.end) (raw_is k) ∙ e)

      z : 0 + k ≡ k
      z = omega arith

  -- the range of turn j
  abbrev range : Run → Run
  range r = exec_block symbols loop.body r

  range_is : (r : Run) → exec_block p.symbols (stripped body) r ≡ exec_block symbols loop.body r
  range_is r = ap (λ (ss : List Symbol). exec_block ss (stripped body) r) w.symbols_are ∙ ap (λ (c : Block). exec_block symbols c r) w.body_is

  ranged : (j : ℕ) (c : Come j) → (T j).end ≡ Done → (range (T j)).end ≡ Done → Ranged code l p body fixed variable w.is o.store j (T j) c.left
  ranged j c d e = range_reach code l p body fixed variable w.is o.store j (T j) c.left d c.at (ap (λ (x : Run). x.end) (range_is (T j)) ∙ e)

  -- an iteration more
  more_is : (j : ℕ) (τ : StoreOf) (t : List ℕ) → one_by_one begins j 0 o.store o.output ≡ done τ t → one_by_one begins (suc j) 0 o.store o.output ≡ comes (begins j) τ t
  more_is j τ t e =
      let z : 0 + j ≡ j = omega arith in
      one_more begins j 0 o.store o.output ∙ ap (λ (x : Outcome). outcomes.then_do x (λ υ u. comes (begins (0 + j)) υ u)) e ∙ ap (λ (i : ℕ). comes (begins i) τ t) z

  -- the ranges of k turns are gone through: k iterations, one after another, leave the store of k
  -- turns and print the same
  pub record Led (k : ℕ) : Type 0 where
    pub values : List (List ℤ)
    pub left : StoreOf
    pub went_so : sequential begins k o.store ≡ went values left
    pub same : SameBut loop.head.variable.name left (after_turns symbols loop o k).store
    pub printed : (after_turns symbols loop o k).output ≡ o.output ++ shown begins 0 values

  both : (τ υ : StoreOf) (s t : List ℕ) → done τ s ≡ done υ t → (τ ≡ υ) × (s ≡ t)
  both τ υ s t h = let a : τ ≡ υ = cc in let b : s ≡ t = cc in (a, b)

  -- by what the iterations come to
  led_by : (k : ℕ) (τ : StoreOf) (t : List ℕ) → one_by_one begins k 0 o.store o.output ≡ done τ t → SameBut loop.head.variable.name τ (T k).store → t ≡ (T k).output → Led k
  led_by k τ t e same out = by (sequential begins k o.store) refl
    where
      seen_is : seen begins o.output (sequential begins k o.store) ≡ done τ t
      seen_is = loop_is begins k o.store o.output ∙ e

      by : (x : Whole) → sequential begins k o.store ≡ x → Led k
      by (stopped ls c) g = let y : failed c (o.output ++ shown begins 0 ls) ≡ done τ t = sym (ap (seen begins o.output) g) ∙ seen_is in absurd cc
      by (went ls υ) g =
          let y = both υ τ (o.output ++ shown begins 0 ls) t (sym (ap (seen begins o.output) g) ∙ seen_is) in
          record { values = ls; left = υ; went_so = g; same = λ name place ne. ap (λ (s : StoreOf). s name place) y.0 ∙ same name place ne; printed = sym out ∙ sym y.1 }

  other_cell : (name : List ℕ) (place : ℕ) → (name ≡ loop.head.variable.name → ⊥) → ◌≡◌ {A = Cell} (record { name = name; place = place }) (record { name = loop.head.variable.name; place = 0 }) → ⊥
  other_cell name place ne e = ne (ap (λ (c : Cell). c.name) e)

  -- only the variable grows
  grown_same : (q : Result ℤ Fault) (r : Run) → SameBut loop.head.variable.name r.store (given q loop.line r (λ v. written r loop.head.variable.name 0 v)).store × (r.output ≡ (given q loop.line r (λ v. written r loop.head.variable.name 0 v)).output)
  grown_same (Ok v) r = (λ name place ne. sym (cell_other r.store (record { name = loop.head.variable.name; place = 0 }) v (record { name = name; place = place }) (other_cell name place ne)), refl)
  grown_same (Err e) r = (λ name place ne. refl, refl)

  -- one turn more, whose range is gone through
  next_turn : (j : ℕ) → (T j).end ≡ Done → (range (T j)).end ≡ Done → T (suc j) ≡ grown loop.line variable (unwrap_or loop.step (pos 0)) (range (T j))
  next_turn j d e =
      turn_more (λ r. turn_of symbols loop r) j run0 refl
      ∙ ap (λ (x : End). going_on x (T j) (λ r. turn_of symbols loop r)) d
      ∙ ap (λ (x : End). going_on x (range (T j)) (λ y. grown loop.line variable (unwrap_or loop.step (pos 0)) y)) e

  pub led : (k : ℕ) → AreGoneThrough symbols loop o k → Led k
  led zero e = record {
    values = [];
    left = o.store;
    went_so = refl;
    same = λ name place ne. sym (cell_other o.store (record { name = loop.head.variable.name; place = 0 }) o.first (record { name = name; place = place }) (other_cell name place ne));
    printed = sym (append-nil o.output);
  }
  led (suc j) e =
      let a = went_on (T j) range e in
      let through : (range (T j)).end ≡ Done = sym (ap (λ (x : Run). x.end) a.1) ∙ e in
      let c = come j a.0 in
      let g = ranged j c a.0 through in
      let n = next_turn j a.0 through in
      let grew = grown_same (in_range ((range (T j)).store loop.head.variable.name 0 +ℤ unwrap_or loop.step (pos 0))) (range (T j)) in
      led_by (suc j) g.left (exec_block p.symbols (stripped body) (T j)).output (more_is j c.left (T j).output c.comes_so ∙ g.goes)
      (λ name place ne.
      let x : Cell = record { name = name; place = place } in
      sym ((g.at).seen x ∙ store_is code l p body fixed variable w.is o.store (suc j) g.left x (other_cell name place ne))
      ∙ cell_other (exec_block p.symbols (stripped body) (T j)).store (record { name = loop.head.variable.name; place = 0 }) (index_at code l (suc j)) x (other_cell name place ne)
      ∙ ap (λ (r : Run). r.store name place) (range_is (T j)) ∙ grew.0 name place ne ∙ sym (ap (λ (r : Run). r.store name place) n))
      (ap (λ (r : Run). r.output) (range_is (T j)) ∙ grew.1 ∙ sym (ap (λ (r : Run). r.output) n))
    where
      -- what comes to an end has gone on before
      went_on : (r : Run) (f : Run → Run) → (then_do r f).end ≡ Done → (r.end ≡ Done) × (then_do r f ≡ f r)
      went_on r f h = by r.end refl h
        where
          by : (x : End) → r.end ≡ x → (going_on x r f).end ≡ Done → (r.end ≡ Done) × (going_on x r f ≡ f r)
          by Done e h = (e, refl)
          by (Stopped y) e h = cc
          by (Faulted q y) e h = cc

  -- k iterations go on, one after another: so do k turns
  turned : (k : ℕ) (ls : List (List ℤ)) (τ : StoreOf) → k < l.trips → sequential begins k o.store ≡ went ls τ → (T k).end ≡ Done
  turned k ls τ lt g = sym (ap (λ (x : Run). x.end) (raw_is k)) ∙ by (turns raw k run0).end refl
    where
      K : StoreOf → List ℕ → Outcome
      K σ t = done o.store t

      N : Run → Outcome
      N r = done o.store r.output

      equal : outcomes.then_do (one_by_one begins k 0 o.store o.output) K ≡ then_told (turns raw k run0) N
      equal =
          loop_comes code l p body fixed variable w.is o.store loop.line k step steps (λ j h. w.inside j (omega (arith, h, lt))) K N o.input
          (λ v e r σ d at i. refl) (λ e h σ t. let y : Err e ≡ Ok (index_at code l k) = sym h ∙ w.inside k lt in absurd cc)
          k 0 (omega arith) run0 o.store refl at_first refl (λ y. (index_at code l k, w.inside k lt))

      left : done o.store (o.output ++ shown begins 0 ls) ≡ then_told (turns raw k run0) N
      left = sym (ap (λ (x : Outcome). outcomes.then_do x K) (sym (loop_is begins k o.store o.output) ∙ ap (seen begins o.output) g)) ∙ equal

      by : (x : End) → (turns raw k run0).end ≡ x → (turns raw k run0).end ≡ Done
      by Done e = e
      by (Stopped y) e =
          let z = left ∙ ap (λ (q : End). going_told q (turns raw k run0) N) e ∙ ap (λ (q : End). told_by q (turns raw k run0)) e in absurd cc
      by (Faulted f y) e =
          let z = left ∙ ap (λ (q : End). going_told q (turns raw k run0) N) e ∙ ap (λ (q : End). told_by q (turns raw k run0)) e in absurd cc

  -- k iterations retire, one after another: the ranges of k turns are gone through
  pub gone_through : (k : ℕ) (ls : List (List ℤ)) (τ : StoreOf) → k ≤ l.trips → sequential begins k o.store ≡ went ls τ → AreGoneThrough symbols loop o k
  gone_through zero ls τ le g = tt
  gone_through (suc j) ls τ le g = by (one_by_one begins j 0 o.store o.output) refl
    where
      all : one_by_one begins (suc j) 0 o.store o.output ≡ done τ (o.output ++ shown begins 0 ls)
      all = sym (loop_is begins (suc j) o.store o.output) ∙ ap (seen begins o.output) g

      first_part : outcomes.then_do (one_by_one begins j 0 o.store o.output) (λ υ u. comes (begins (0 + j)) υ u) ≡ done τ (o.output ++ shown begins 0 ls)
      first_part = sym (one_more begins j 0 o.store o.output) ∙ all

      on : (x : Whole) → sequential begins j o.store ≡ x → (υ : StoreOf) (u : List ℕ) → one_by_one begins j 0 o.store o.output ≡ done υ u → AreGoneThrough symbols loop o (suc j)
      on (stopped ms c) h υ u q = let y : failed c (o.output ++ shown begins 0 ms) ≡ done υ u = sym (ap (seen begins o.output) h) ∙ loop_is begins j o.store o.output ∙ q in absurd cc
      on (went ms ρ) h υ u q =
          let d = turned j ms ρ (omega (arith, le)) h in
          let c = come j d in
          let goes = sym (more_is j c.left (T j).output c.comes_so) ∙ all in
          let through = range_back code l p body fixed variable w.is o.store j (T j) c.left τ (o.output ++ shown begins 0 ls) d c.at goes in
          ap (λ (x : End). (going_on x (T j) range).end) d ∙ sym (ap (λ (x : Run). x.end) (range_is (T j))) ∙ through

      by : (x : Outcome) → one_by_one begins j 0 o.store o.output ≡ x → AreGoneThrough symbols loop o (suc j)
      by (failed c u) q = let y : failed c u ≡ done τ (o.output ++ shown begins 0 ls) = sym (ap (λ (x : Outcome). outcomes.then_do x (λ υ u. comes (begins (0 + j)) υ u)) q) ∙ first_part in absurd cc
      by (done υ u) q = on (sequential begins j o.store) refl υ u q

  -- all turns are made: behind the join the store is that of the meaning
  pub joined_store : (T l.trips).end ≡ Done → (d : Led l.trips) → put_cells d.left (join_stores code l) ≡ (after_turns symbols loop o l.trips).store
  joined_store e d =
      let c = come l.trips e in
      let v = (c.valid).0 in
      let y = both c.left d.left (T l.trips).output (o.output ++ shown begins 0 d.values) (sym c.comes_so ∙ sym (loop_is begins l.trips o.store o.output) ∙ ap (seen begins o.output) d.went_so) in
      ap (λ (s : StoreOf). put_cells s (join_stores code l)) (sym y.0)
      ∙ ap (λ (q : Result ℤ Fault). put_cells c.left (joined_with q (cell_at (slice_get code.variables (loop_at code l.number).variable) 0))) (c.valid).1
      ∙ ap (λ (x : Option Cell). put_cells c.left (joined_with (Ok v) x)) (w.is).joins
      ∙ last_is code l p body fixed variable w.is o.store l.trips (T l.trips).store c.left v (ok_is (index_at code l l.trips) v (c.valid).1) c.at

  -- turns that are made are gone through
  pub gone : (k : ℕ) → (after_turns symbols loop o k).end ≡ Done → AreGoneThrough symbols loop o k
  gone zero e = tt
  gone (suc j) e = by (T j).end refl (sym (ap (λ (x : Run). x.end) (turn_more (λ r. turn_of symbols loop r) j run0 refl)) ∙ e)
    where
      range_ends : (x : End) → (range (T j)).end ≡ x → (going_on x (range (T j)) (λ y. grown loop.line variable (unwrap_or loop.step (pos 0)) y)).end ≡ Done → (range (T j)).end ≡ Done
      range_ends Done f h = f
      range_ends (Stopped y) f h = h
      range_ends (Faulted q y) f h = h

      by : (x : End) → (T j).end ≡ x → (going_on x (T j) (λ r. turn_of symbols loop r)).end ≡ Done → AreGoneThrough symbols loop o (suc j)
      by Done f h = ap (λ (x : End). (going_on x (T j) range).end) f ∙ range_ends (range (T j)).end refl h
      by (Stopped y) f h = let z : Stopped y ≡ Done = sym f ∙ h in absurd cc
      by (Faulted q y) f h = let z : Faulted q y ≡ Done = sym f ∙ h in absurd cc

  -- a loop that is opened reads no input
  pub unread_so : (k : ℕ) → (T k).end ≡ Done → (after_turns symbols loop o k).input ≡ o.input
  unread_so k e = (come k e).unread
