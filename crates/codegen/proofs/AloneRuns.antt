-- The run alone comes to each point of every run at which no loop is open, and to the opening of
-- each loop.
use Rattle.std.proofs.Common.{◌≡◌, ◌∙◌, ℕ, ◌<◌, ◌≤◌, ℤ, List, [], ◌∷◌, ◌++◌, Option, Some, None, ◌⊎◌, inl, inr, refl, sym, ap, subst, ⊎_elim, arith}
use Rattle.ast.specs.Store.{StoreOf}
use Rattle.ast.specs.declared.fault.End.{End}
use Rattle.ast.specs.declared.fault.End.TheVariants.{Done}
use Rattle.machine.specs.Code.{Cell}
use Rattle.machine.specs.State.{State, Active, Wait, until_retired, Who, the_main, iteration, Choice, take_main, take_iteration, take_ticket, Reached, Move, MainMove, Takes, Turn, Step, Run, put_at, put_cell, put_cells, end_of}
use Rattle.machine.specs.View.{Cause, Input, View, doing, loading, storing, printing, reading, awaiting, advancing, opening, joining, leaving, breaking, halting, stuck}
use Rattle.machine.proofs.Puts.{put_same}
use Rattle.codegen.proofs.IterationSteps.{Process, fault, after, sequential, went}
use Rattle.codegen.proofs.LoopRuns.{faulted, finished, pasts, shown}
use Rattle.codegen.proofs.Outcomes.{Outcome}
use Rattle.codegen.proofs.ProgramMoves.{Change, acted, parks, picks, begins, works, opens_up, joins, main_parks, main_picked, ends_main, breaks_off, step_out}
use Rattle.codegen.proofs.ProgramStanding.{Between, Ghost, Good, Loops, MainStands, Within, between, inner, within}
use Rattle.codegen.proofs.ProgramSteps.{Here, Main, meaning, open_loop}

module _ (F L : Type 0) (view : F → View F L) (trips : L → ℕ) (begin : L → ℕ → F) where
  module _ (slots p : ℕ) where
    pub run_on : (qs rs : List ℕ) (m n k : State F L) → Run F L view trips begin slots p m qs n → Run F L view trips begin slots p n rs k → Run F L view trips begin slots p m (qs ++ rs) k
    run_on [] rs m n k r t = subst (λ (x : State F L). Run F L view trips begin slots p x rs k) (sym r) t
    run_on (q ∷ qs) rs m n k r t = (r.0, r.1, r.2, run_on qs rs r.0 n k r.3 t)

  -- the run alone leads from a state to another
  abbrev pub Comes : State F L → State F L → Type 0
  Comes z y = (qs : List ℕ) × Run F L view trips begin 1 1 z qs y

  pub comes_on : (z y x : State F L) → Comes z y → Comes y x → Comes z x
  comes_on z y x a b = (a.0 ++ b.0, run_on 1 1 a.0 b.0 z y x a.1 b.1)

  pub one_step : (z y : State F L) → Step F L view trips begin 1 z 0 y → Comes z y
  one_step z y st = (0 ∷ [], (y, omega arith, st, refl))

  -- main stands at the same place in both, on the same store; no loop is open
  pub record SameMain (m z : State F L) : Type 0 where
    pub loop : z.loop ≡ None
    pub main : z.main ≡ m.main
    pub store : z.store ≡ m.store
    pub unread : z.input ≡ m.input
    pub output : z.output ≡ m.output
    pub ended : z.ended ≡ m.ended

  pub same_on : (m y z : State F L) → SameMain m y → SameMain y z → SameMain m z
  same_on m y z a b = record {
    loop = b.loop;
    main = b.main ∙ a.main;
    store = b.store ∙ a.store;
    unread = b.unread ∙ a.unread;
    output = b.output ∙ a.output;
    ended = b.ended ∙ a.ended;
  }

  -- main's step in one state is one in the other
  module _ (m n z : State F L) (q : ℕ) (s : SameMain m z) where
    abbrev Mirrored : View F L → Type 0
    Mirrored V = (y : State F L) × MainMove trips V z 0 y × SameMain n y

    on : (f g : F) (σ τ : StoreOf) (i j : Input) (o u : List ℕ) (d e : Option End) → n ≡ record m { main = f; store = σ; input = i; output = o; ended = d } → g ≡ f → τ ≡ σ → j ≡ i → u ≡ o → e ≡ d
        → SameMain n (record z { main = g; store = τ; input = j; output = u; ended = e })
    on f g σ τ i j o u d e is a b c x y = record {
      loop = s.loop;
      main = a ∙ sym (ap (λ k. k.main) is);
      store = b ∙ sym (ap (λ k. k.store) is);
      unread = c ∙ sym (ap (λ k. k.input) is);
      output = x ∙ sym (ap (λ k. k.output) is);
      ended = y ∙ sym (ap (λ k. k.ended) is);
    }

    pub mirror : (V : View F L) → m.loop ≡ None → n.loop ≡ None → MainMove trips V m q n → Mirrored V
    mirror (doing g) lm ln mv = (record z { main = g }, refl, on g g m.store z.store m.input z.input m.output z.output m.ended z.ended mv refl s.store s.unread s.output s.ended)
    mirror (loading c φ) lm ln mv =
        let f = φ (m.store c.name c.place) in
        let g = φ (z.store c.name c.place) in
        (record z { main = g }, refl, on f g m.store z.store m.input z.input m.output z.output m.ended z.ended mv (ap (λ (σ : StoreOf). φ (σ c.name c.place)) s.store) s.store s.unread s.output s.ended)
    mirror (storing c v g) lm ln mv =
        (record z { main = g; store = put_cell z.store c v }, refl, on g g (put_cell m.store c v) (put_cell z.store c v) m.input z.input m.output z.output m.ended z.ended mv refl (ap (λ (σ : StoreOf). put_cell σ c v) s.store) s.unread s.output s.ended)
    mirror (printing bytes g) lm ln mv =
        (record z { main = g; output = z.output ++ bytes }, refl, on g g m.store z.store m.input z.input (m.output ++ bytes) (z.output ++ bytes) m.ended z.ended mv refl s.store s.unread (ap (λ (o : List ℕ). o ++ bytes) s.output) s.ended)
    mirror (reading ρ φ) lm ln mv =
        (record z { main = φ z.input; input = ρ z.input }, refl, on (φ m.input) (φ z.input) m.store z.store (ρ m.input) (ρ z.input) m.output z.output m.ended z.ended mv (ap φ s.unread) s.store (ap ρ s.unread) s.output s.ended)
    mirror (opening l g) lm ln mv = let e : Some l ≡ None = sym (ap (λ k. k.loop) mv.1) ∙ ln in absurd cc
    mirror (joining ρ φ) lm ln mv = let e : Some mv.0 ≡ None = sym mv.1 ∙ lm in absurd cc
    mirror (breaking c) lm ln mv =
        (record z { ended = Some (end_of c) }, refl, on m.main z.main m.store z.store m.input z.input m.output z.output (Some (end_of c)) (Some (end_of c)) mv s.main s.store s.unread s.output refl)
    mirror halting lm ln mv =
        (record z { ended = Some Done }, refl, on m.main z.main m.store z.store m.input z.input m.output z.output (Some Done) (Some Done) mv s.main s.store s.unread s.output refl)
    mirror (awaiting e d g) lm ln mv = absurd mv
    mirror (advancing e g) lm ln mv = absurd mv
    mirror (leaving xs) lm ln mv = absurd mv
    mirror stuck lm ln mv = absurd mv

  -- while a loop is open main stays at its join, and no input is read
  module _ (slots : ℕ) (m n : State F L) (q : ℕ) (l : L) where
    abbrev Stays : Type 0
    Stays = (n.main ≡ m.main) × (n.input ≡ m.input)

    moved : (k : ℕ) (a : Active F) (V : View F L) → Move V a m q k n → Stays
    moved k a (doing g) mv = (ap (λ x. x.main) mv, ap (λ x. x.input) mv)
    moved k a (loading c φ) mv = (ap (λ x. x.main) mv, ap (λ x. x.input) mv)
    moved k a (storing c v g) mv = (ap (λ x. x.main) mv, ap (λ x. x.input) mv)
    moved k a (printing bytes g) mv = (ap (λ x. x.main) mv, ap (λ x. x.input) mv)
    moved k a (awaiting e d g) (inl mv) = (ap (λ x. x.main) mv.1, ap (λ x. x.input) mv.1)
    moved k a (awaiting e d g) (inr mv) = (ap (λ x. x.main) mv.1, ap (λ x. x.input) mv.1)
    moved k a (advancing e g) mv = (ap (λ x. x.main) mv.1, ap (λ x. x.input) mv.1)
    moved k a (leaving xs) (inl mv) = (ap (λ x. x.main) mv.1, ap (λ x. x.input) mv.1)
    moved k a (leaving xs) (inr mv) = (ap (λ x. x.main) mv.1, ap (λ x. x.input) mv.1)
    moved k a (breaking c) (inl mv) = (ap (λ x. x.main) mv.1, ap (λ x. x.input) mv.1)
    moved k a (breaking c) (inr mv) = (ap (λ x. x.main) mv.1, ap (λ x. x.input) mv.1)
    moved k a (reading ρ φ) mv = absurd mv
    moved k a (opening l g) mv = absurd mv
    moved k a (joining ρ φ) mv = absurd mv
    moved k a halting mv = absurd mv
    moved k a stuck mv = absurd mv

    taken : (c : Choice) → Takes F L view trips begin slots c m q n → Stays
    taken take_main t = (ap (λ x. x.main) t.3, ap (λ x. x.input) t.3)
    taken (take_iteration k) t = (ap (λ x. x.main) t.3, ap (λ x. x.input) t.3)
    taken take_ticket t = (ap (λ x. x.main) t.4, ap (λ x. x.input) t.4)

    pub stays_in : Step F L view trips begin slots m q n → n.loop ≡ Some l → (ρ : L → List (Cell × ℤ)) (φ : L → F) → view m.main ≡ joining ρ φ → Stays
    stays_in st ln ρ φ e = by (m.held q) st.turn
      where
        joined : (k : L) → ((trips k ≤ m.retired) × (n ≡ record m { main = φ k; store = put_cells m.store (ρ k); loop = None })) ⊎ ((m.retired < trips k) × (n ≡ record m { waiting = Some (until_retired (trips k)); held = put_at m.held q None })) → Stays
        joined k (inl j) = let z : Some l ≡ None = sym ln ∙ ap (λ x. x.loop) j.1 in absurd cc
        joined k (inr j) = (ap (λ x. x.main) j.1, ap (λ x. x.input) j.1)

        by : (o : Option Who) → Turn F L view trips begin slots o m q n → Stays
        by None t = taken t.0 t.1
        by (Some (iteration k)) t = moved k t.0 (view (t.0).frame) t.2
        by (Some the_main) t = let mv : MainMove trips (joining ρ φ) m q n = subst (λ (V : View F L). MainMove trips V m q n) e t in joined mv.0 mv.2

module _ (F L : Type 0) (view : F → View F L) (trips : L → ℕ) (begin : L → ℕ → F) (Hidden Fixed : L → Cell → Type 0) (Named : L → ℕ → Type 0) (start : L → StoreOf → ℕ → Process) (Valid : L → Type 0) (loops : Loops F L view trips begin Hidden Fixed Named start Valid)
    (origin : Here L) (answer : Outcome) (means : (x : Outcome) → meaning L trips start x origin ≡ answer) where
  abbrev Alone : Ghost L → State F L → Type 0
  Alone g z = Good F L view trips begin Hidden Fixed start Valid 1 origin answer g z

  pub not_within : (h : Ghost L) (z : State F L) → Alone h z → z.loop ≡ None → (M : Main L) × Alone (between M) z
  not_within (between M) z good e = (M, good)
  not_within (within l ι past before xs M) z good e =
      let W : Within F L view trips begin Hidden Fixed start Valid 1 origin answer l ι past before xs M z = good.kept in
      let a = W.loop in
      let b : Some l ≡ None = sym a ∙ e in absurd cc

  -- ---- main is taken up

  pub record Held (z y : State F L) : Type 0 where
    pub comes : Comes F L view trips begin z y
    pub held : y.held 0 ≡ Some the_main
    pub same : SameMain F L view trips begin z y
    pub iterations : y.iterations ≡ z.iterations

  pub hold_main : (M : Main L) (z : State F L) → Alone (between M) z → z.ended ≡ None → (y : State F L) × Held z y
  hold_main M z good going = ⊎_elim parked here (good.places).main_somewhere
    where
      B : Between F L view trips begin Hidden Fixed start Valid 1 origin answer M z
      B = good.kept

      same : SameMain F L view trips begin z z
      same = record { loop = B.loop; main = refl; store = refl; unread = refl; output = refl; ended = refl }

      here : (q : ℕ) × (q < 1) × (z.held q ≡ Some the_main) → (y : State F L) × Held z y
      here h = let e : h.0 ≡ 0 = omega (arith, h.1) in (z, record { comes = ([], refl); held = subst (λ (q : ℕ). z.held q ≡ Some the_main) e h.2; same = same; iterations = refl })

      parked : (w : Wait) × (z.waiting ≡ Some w) → (y : State F L) × Held z y
      parked p = by (z.held 0) refl
        where
          by : (o : Option Who) → z.held 0 ≡ o → (y : State F L) × Held z y
          by (Some the_main) e = absurd ((good.places).main_apart 0 p.0 e p.1)
          by (Some (iteration k)) e = let o = (good.places).holds 0 k e in let b = B.none in absurd (omega (arith, o.0, o.1, b))
          by None e =
              let y : State F L = record z { waiting = None; held = put_at z.held 0 (Some the_main) } in
              let r : Reached z p.0 = subst (Reached z) (sym (B.waits p.0 p.1)) (omega arith) in
              let st : Step F L view trips begin 1 z 0 y = record { going = going; turn = subst (λ (o : Option Who). Turn F L view trips begin 1 o z 0 y) (sym e) (take_main, (p.0, p.1, r, refl)) } in
              (y, record { comes = one_step F L view trips begin z y st; held = put_same z.held 0 (Some the_main); same = record { loop = B.loop; main = refl; store = refl; unread = refl; output = refl; ended = refl }; iterations = refl })

  -- ---- a loop that doesn't break off is run to its join

  pub record Joined (l : L) (τ : StoreOf) (o : List ℕ) (z y : State F L) : Type 0 where
    pub comes : Comes F L view trips begin z y
    pub stores : L → List (Cell × ℤ)
    pub behind : L → F
    pub is : view z.main ≡ joining stores behind
    pub loop : y.loop ≡ None
    pub main : y.main ≡ behind l
    pub store : y.store ≡ put_cells τ (stores l)
    pub unread : y.input ≡ z.input
    pub output : y.output ≡ o
    pub going : y.ended ≡ None

  module _ (l : L) (ι : StoreOf) (before : List ℕ) (ls : List (List ℤ)) (τ : StoreOf) (seq : sequential (start l ι) (trips l) ι ≡ went ls τ) where
    abbrev Joins : State F L → Type 0
    Joins z = (y : State F L) × Joined l τ (before ++ shown (start l ι) 0 ls) z y

    module _ (past : ℕ → List ℤ) (xs : List (Cell × ℤ)) (M : Main L) (z x : State F L) (good : Alone (within l ι past before xs M) z) (st : Step F L view trips begin 1 z 0 x) where
      abbrev W : Within F L view trips begin Hidden Fixed start Valid 1 origin answer l ι past before xs M z
      W = good.kept

      -- a step that stays in the loop
      first : Step F L view trips begin 1 z 0 x → x.loop ≡ Some l → Joins x → Joins z
      first st inside j =
          let at = W.at in
          let k = stays_in F L view trips begin 1 z x 0 l st inside at.0 at.1 at.2 in
          let J : Joined l τ (before ++ shown (start l ι) 0 ls) x j.0 = j.1 in (
            j.0,
            record {
              comes = comes_on F L view trips begin z x j.0 (one_step F L view trips begin z x st) J.comes;
              stores = J.stores;
              behind = J.behind;
              is = sym (ap view k.0) ∙ J.is;
              loop = J.loop;
              main = J.main;
              store = J.store;
              unread = J.unread ∙ k.1;
              output = J.output;
              going = J.going;
            },
          )

      two_went : (us vs : List (List ℤ)) (ρ υ : StoreOf) → went us ρ ≡ went vs υ → (us ≡ vs) × (ρ ≡ υ)
      two_went us vs ρ υ e = let a : us ≡ vs = cc in let b : ρ ≡ υ = cc in (a, b)

      -- the join itself
      last : z.held 0 ≡ Some the_main → trips l ≤ z.retired → Joins z
      last hold le = by mv.0 mv.1 mv.2
        where
          at : (ρ : L → List (Cell × ℤ)) × (φ : L → F) × (view z.main ≡ joining ρ φ) × (ρ l ≡ xs) × MainStands F L view Valid M (φ l)
          at = W.at

          mv : MainMove trips (joining at.0 at.1) z 0 x
          mv = subst (λ (V : View F L). MainMove trips V z 0 x) at.2 (subst (λ (o : Option Who). Turn F L view trips begin 1 o z 0 x) hold st.turn)

          all : z.retired ≡ trips l
          all = let a = (W.inv).within in omega (arith, le, a)

          done : (pasts past (trips l) 0 ≡ ls) × (z.store ≡ τ)
          done = two_went (pasts past (trips l) 0) ls z.store τ (sym (finished (start l ι) (trips l) (Named l) (loops.plan l W.valid ι) ι (inner z past) W.inv all) ∙ seq)

          text : z.output ≡ before ++ shown (start l ι) 0 ls
          text = W.printed st.going ∙ ap (λ (n : ℕ). before ++ shown (start l ι) 0 (pasts past n 0)) all ∙ ap (λ (us : List (List ℤ)). before ++ shown (start l ι) 0 us) done.0

          by : (k : L) → z.loop ≡ Some k → ((trips k ≤ z.retired) × (x ≡ record z { main = at.1 k; store = put_cells z.store (at.0 k); loop = None })) ⊎ ((z.retired < trips k) × (x ≡ record z { waiting = Some (until_retired (trips k)); held = put_at z.held 0 None })) → Joins z
          by k e (inr j) =
              let a = W.loop in
              let same : l ≡ k = cc in
              let t = ap trips same in
              let b = j.0 in
              absurd (omega (arith, le, t, b))
          by k e (inl j) =
              let a = W.loop in
              let same : k ≡ l = cc in (
                x,
                record {
                  comes = one_step F L view trips begin z x st;
                  stores = at.0;
                  behind = at.1;
                  is = at.2;
                  loop = ap (λ y. y.loop) j.1;
                  main = ap (λ y. y.main) j.1 ∙ ap at.1 same;
                  store = ap (λ y. y.store) j.1 ∙ ap (λ (u : L). put_cells z.store (at.0 u)) same ∙ ap (λ (σ : StoreOf). put_cells σ (at.0 l)) done.1;
                  unread = ap (λ y. y.input) j.1;
                  output = ap (λ y. y.output) j.1 ∙ text;
                  going = ap (λ y. y.ended) j.1 ∙ st.going;
                },
              )

    -- a loop that breaks off isn't one that doesn't
    broke : (l' : L) (ι' : StoreOf) (past : ℕ → List ℤ) (before' : List ℕ) (xs : List (Cell × ℤ)) (M : Main L) (c : Cause) (z : State F L) → l ≡ l' → ι ≡ ι' → Alone (within l' ι' past before' xs M) z → z.retired < trips l' → after (start l' ι' z.retired) (past z.retired) ≡ fault c → ⊥
    broke l' ι' past before' xs M c z a b good lt e =
        let W : Within F L view trips begin Hidden Fixed start Valid 1 origin answer l' ι' past before' xs M z = good.kept in
        let f = faulted (start l' ι') (trips l') (Named l') (loops.plan l' W.valid ι') ι' (inner z past) W.inv c lt e in
        let s : sequential (start l' ι') (trips l') ι' ≡ went ls τ = subst (λ (u : L). sequential (start u ι') (trips u) ι' ≡ went ls τ) a (subst (λ (σ : StoreOf). sequential (start l σ) (trips l) σ ≡ went ls τ) b seq) in
        let y = sym f ∙ s in cc

    abbrev Walks : List ℕ → State F L → Type 0
    Walks rs y = (past : ℕ → List ℤ) (xs : List (Cell × ℤ)) (M : Main L) (x : State F L) → Alone (within l ι past before xs M) x → x.ended ≡ None → Run F L view trips begin 1 1 x rs y → Joins x

    pub walk : (rs : List ℕ) (past : ℕ → List ℤ) (xs : List (Cell × ℤ)) (M : Main L) (z y : State F L) → Alone (within l ι past before xs M) z → z.ended ≡ None → Run F L view trips begin 1 1 z rs y → (e : End) → y.ended ≡ Some e → Joins z
    walk [] past xs M z y good going r e h = let a : None ≡ Some e = sym going ∙ ap (λ x. x.ended) r ∙ h in absurd cc
    walk (q ∷ rs) past xs M z y good going r e h =
        let zero_is : q ≡ 0 = omega (arith, r.1) in
        let st : Step F L view trips begin 1 z 0 r.0 = subst (λ (i : ℕ). Step F L view trips begin 1 z i r.0) zero_is r.2 in
        let o = step_out F L view trips begin 1 Hidden Fixed Named start Valid 1 origin answer means loops (within l ι past before xs M) z r.0 0 (omega arith) good st in
        by (λ past' xs' M' x g on t. walk rs past' xs' M' x y g on t e h) r.0 r.3 st (within l ι past before xs M) o.ghost refl o.good o.how
      where
        on : Walks rs y → (x : State F L) → Run F L view trips begin 1 1 x rs y → Step F L view trips begin 1 z 0 x → (past' : ℕ → List ℤ) (xs' : List (Cell × ℤ)) (M' : Main L) → Alone (within l ι past' before xs' M') x → x.ended ≡ None → Joins z
        on walks x run st past' xs' M' g going' =
            let X : Within F L view trips begin Hidden Fixed start Valid 1 origin answer l ι past' before xs' M' x = g.kept in
            first past xs M z x good st st X.loop (walks past' xs' M' x g going' run)

        by : Walks rs y → (x : State F L) → Run F L view trips begin 1 1 x rs y → Step F L view trips begin 1 z 0 x → (g g' : Ghost L) → g ≡ within l ι past before xs M → Alone g' x → Change F L trips 1 start z x 0 g g' → Joins z
        by walks x run st g g' eg good' (acted l' ι' past' before' xs' M' k v a b hold ep ew et grew rose going' ei) =
            let both : within l ι past before xs M ≡ within l' ι' past' before' xs' M' = sym eg ∙ a in
            let c : l' ≡ l = cc in
            let d : ι' ≡ ι = cc in
            let f : before' ≡ before = cc in
            let to : g' ≡ within l ι (put_at past' k (past' k ++ v ∷ [])) before xs' M' = b ∙ cc in
            on walks x run st (put_at past' k (past' k ++ v ∷ [])) xs' M' (subst (λ (u : Ghost L). Alone u x) to good') going'
        by walks x run st g g' eg good' (parks l' ι' past' before' xs' M' k w a b hold not wf is) = on walks x run st past xs M (subst (λ (u : Ghost L). Alone u x) (b ∙ eg) good') (ap (λ y. y.ended) is ∙ going)
        by walks x run st g g' eg good' (picks l' ι' past' before' xs' M' k w a b at re is) = on walks x run st past xs M (subst (λ (u : Ghost L). Alone u x) (b ∙ eg) good') (ap (λ y. y.ended) is ∙ going)
        by walks x run st g g' eg good' (begins l' ι' past' before' xs' M' a b ep ew et ec el room going' ei) = on walks x run st past xs M (subst (λ (u : Ghost L). Alone u x) (b ∙ eg) good') going'
        by walks x run st g g' eg good' (main_parks l' ι' past' before' xs' M' a b hold lt is) = on walks x run st past xs M (subst (λ (u : Ghost L). Alone u x) (b ∙ eg) good') (ap (λ y. y.ended) is ∙ going)
        by walks x run st g g' eg good' (main_picked w b at re is) = on walks x run st past xs M (subst (λ (u : Ghost L). Alone u x) (b ∙ eg) good') (ap (λ y. y.ended) is ∙ going)
        by walks x run st g g' eg good' (joins l' ι' past' before' xs' M' a b hold le ep ew going' ec ei is_next) =
            let both : within l ι past before xs M ≡ within l' ι' past' before' xs' M' = sym eg ∙ a in
            let c : l' ≡ l = cc in
            let t = ap trips c in
            last past xs M z x good st hold (omega (arith, le, t))
        by walks x run st g g' eg good' (breaks_off l' ι' past' before' xs' M' c a b hold lt is en ep ew et) =
            let both : within l ι past before xs M ≡ within l' ι' past' before' xs' M' = sym eg ∙ a in
            let k : l ≡ l' = cc in
            let d : ι ≡ ι' = cc in
            absurd (broke l' ι' past' before' xs' M' c z k d (subst (λ (u : Ghost L). Alone u z) both good) lt is)
        by walks x run st g g' eg good' (works M' M'' a b hold ep ew going' less is_next) = let both : within l ι past before xs M ≡ between M' = sym eg ∙ a in absurd cc
        by walks x run st g g' eg good' (opens_up l' xs' M' a b hold ep ew et going' ei) = let both : within l ι past before xs M ≡ between (open_loop l' xs' M') = sym eg ∙ a in absurd cc
        by walks x run st g g' eg good' (ends_main M' e' a b is less ep ew stays) = let both : within l ι past before xs M ≡ between M' = sym eg ∙ a in absurd cc

  -- ---- the opening of a loop

  -- the run alone has just opened loop l, on this store, with this output
  pub record AtOpening (l : L) (ι : StoreOf) (before : List ℕ) (m z : State F L) : Type 0 where
    pub past : ℕ → List ℤ
    pub xs : List (Cell × ℤ)
    pub behind : Main L
    pub good : Alone (within l ι past before xs behind) z
    pub first : (z.retired ≡ 0) × (z.ticket ≡ 0)
    pub main : z.main ≡ m.main
    pub store : z.store ≡ ι
    pub unread : z.input ≡ m.input
    pub going : z.ended ≡ None

  pub opened_ghost : (l : L) (M : Main L) (z x : State F L) (g g' : Ghost L) → Alone (between M) z → g ≡ between M → Alone g' x → x.loop ≡ Some l → Change F L trips 1 start z x 0 g g' → (xs : List (Cell × ℤ)) × (N : Main L) × (g' ≡ within l z.store (λ k. []) z.output xs N)
  opened_ghost l M z x g g' good eg good' e (acted l' ι' past' before' xs' M' k v a b hold ep ew et grew rose going' ei) = let both : between M ≡ within l' ι' past' before' xs' M' = sym eg ∙ a in absurd cc
  opened_ghost l M z x g g' good eg good' e (parks l' ι' past' before' xs' M' k w a b hold not wf is) = let both : between M ≡ within l' ι' past' before' xs' M' = sym eg ∙ a in absurd cc
  opened_ghost l M z x g g' good eg good' e (picks l' ι' past' before' xs' M' k w a b at re is) = let both : between M ≡ within l' ι' past' before' xs' M' = sym eg ∙ a in absurd cc
  opened_ghost l M z x g g' good eg good' e (begins l' ι' past' before' xs' M' a b ep ew et ec el room going' ei) = let both : between M ≡ within l' ι' past' before' xs' M' = sym eg ∙ a in absurd cc
  opened_ghost l M z x g g' good eg good' e (main_parks l' ι' past' before' xs' M' a b hold lt is) = let both : between M ≡ within l' ι' past' before' xs' M' = sym eg ∙ a in absurd cc
  opened_ghost l M z x g g' good eg good' e (joins l' ι' past' before' xs' M' a b hold le ep ew going' ec ei is_next) = let both : between M ≡ within l' ι' past' before' xs' M' = sym eg ∙ a in absurd cc
  opened_ghost l M z x g g' good eg good' e (breaks_off l' ι' past' before' xs' M' c a b hold lt is en ep ew et) = let both : between M ≡ within l' ι' past' before' xs' M' = sym eg ∙ a in absurd cc
  opened_ghost l M z x g g' good eg good' e (works M' M'' a b hold ep ew going' less is_next) =
      let B : Between F L view trips begin Hidden Fixed start Valid 1 origin answer M'' x = (subst (λ (u : Ghost L). Alone u x) b good').kept in
      let c : Some l ≡ None = sym e ∙ B.loop in absurd cc
  opened_ghost l M z x g g' good eg good' e (ends_main M' d a b is less ep ew stays) =
      let B : Between F L view trips begin Hidden Fixed start Valid 1 origin answer M x = (subst (λ (u : Ghost L). Alone u x) (b ∙ eg) good').kept in
      let c : Some l ≡ None = sym e ∙ B.loop in absurd cc
  opened_ghost l M z x g g' good eg good' e (main_picked w b at re is) =
      let B : Between F L view trips begin Hidden Fixed start Valid 1 origin answer M x = (subst (λ (u : Ghost L). Alone u x) (b ∙ eg) good').kept in
      let c : Some l ≡ None = sym e ∙ B.loop in absurd cc
  opened_ghost l M z x g g' good eg good' e (opens_up l' xs' M' a b hold ep ew et going' ei) =
      let W : Within F L view trips begin Hidden Fixed start Valid 1 origin answer l' z.store (λ k. []) z.output xs' M' x = (subst (λ (u : Ghost L). Alone u x) b good').kept in
      let c : Some l' ≡ Some l = sym W.loop ∙ e in
      let d : l' ≡ l = cc in
      (xs', M', b ∙ ap (λ (u : L). within u z.store (λ k. []) z.output xs' M') d)
