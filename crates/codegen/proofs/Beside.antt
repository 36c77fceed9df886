-- Beside every run of the machine there is the run alone: at each state of that one, where no loop
-- is open, it stands in one that is like it, and, where one is, at the loop's opening.
use Rattle.std.proofs.Common.{◌≡◌, ◌∙◌, ℕ, ◌<◌, ◌≤◌, ℤ, List, [], ◌∷◌, ◌++◌, Option, Some, None, ◌⊎◌, inl, inr, refl, sym, ap, subst, arith}
use Rattle.ast.specs.Input.{records_of}
use Rattle.ast.specs.Store.{StoreOf, zeros}
use Rattle.ast.specs.declared.fault.End.{End}
use Rattle.machine.specs.Code.{Cell}
use Rattle.machine.specs.State.{State, Active, Choice, take_iteration, take_main, take_ticket, until_retired, Who, iteration, the_main, NoneOpen, MainMove, Takes, Turn, Step, Run, initial, put_at, put_cells}
use Rattle.machine.specs.View.{View, joining}
use Rattle.codegen.proofs.AloneRuns.{AtOpening, Comes, Held, Joined, SameMain, comes_on, hold_main, mirror, not_within, one_step, opened_ghost, same_on, stays_in, walk}
use Rattle.codegen.proofs.IterationSteps.{Process, sequential, went}
use Rattle.codegen.proofs.LoopRuns.{finished, pasts, shown}
use Rattle.codegen.proofs.Outcomes.{Outcome}
use Rattle.codegen.proofs.ProgramBound.{carried}
use Rattle.codegen.proofs.ProgramGoes.{good_init, good_run}
use Rattle.codegen.proofs.ProgramMoves.{Change, acted, parks, picks, begins, works, opens_up, joins, main_parks, main_picked, ends_main, breaks_off, Out, step_out}
use Rattle.codegen.proofs.ProgramPlaces.{none_open}
use Rattle.codegen.proofs.ProgramStanding.{Between, Ghost, Good, Loops, MainStands, Within, between, inner, within}
use Rattle.codegen.proofs.ProgramSteps.{Here, Main, open_loop, whole}

module _ (F L : Type 0) (view : F → View F L) (trips : L → ℕ) (begin : L → ℕ → F) (Hidden Fixed : L → Cell → Type 0) (Named : L → ℕ → Type 0) (start : L → StoreOf → ℕ → Process) (Valid : L → Type 0) (loops : Loops F L view trips begin Hidden Fixed Named start Valid)
    (main : Main L) (f : F) (input : List ℕ) (answer : Outcome) (means : (x : Outcome) → whole L trips start x main zeros (record { left = []; records = records_of input }) [] ≡ answer) (stands : MainStands F L view Valid main f) where
  abbrev pub origin : Here L
  origin = record { main = main; store = zeros; input = record { left = []; records = records_of input }; output = [] }

  abbrev Alone : Ghost L → State F L → Type 0
  Alone g z = Good F L view trips begin Hidden Fixed start Valid 1 origin answer g z

  good_alone : (z : State F L) → Comes F L view trips begin (initial f input) z → (h : Ghost L) × Good F L view trips begin Hidden Fixed start Valid 1 origin answer h z
  good_alone z c =
      good_run F L view trips begin 1 Hidden Fixed Named start Valid 1 origin answer means loops c.0 (between main) (initial f input) z (good_init F L view trips begin Hidden Fixed start Valid 1 answer main f input stands) c.1

  abbrev pub Like : Ghost L → State F L → State F L → Type 0
  Like (between M) m z = SameMain F L view trips begin m z
  Like (within l ι past before xs M) m z = AtOpening F L view trips begin Hidden Fixed Named start Valid loops origin answer means l ι before m z

  -- a state of the run alone that is like this one
  pub record Beside (g : Ghost L) (m : State F L) : Type 0 where
    pub other : State F L
    pub comes : Comes F L view trips begin (initial f input) other
    pub like : Like g m other

  module _ (slots p : ℕ) where
    abbrev G : Ghost L → State F L → Type 0
    G g m = Good F L view trips begin Hidden Fixed start Valid p origin answer g m

    module _ (m n : State F L) (q : ℕ) (st : Step F L view trips begin slots m q n) where
      -- the loop stays open
      stay : (l : L) (ι : StoreOf) (past past' : ℕ → List ℤ) (before : List ℕ) (xs : List (Cell × ℤ)) (M : Main L) → G (within l ι past before xs M) m → G (within l ι past' before xs M) n → Beside (within l ι past before xs M) m → Beside (within l ι past' before xs M) n
      stay l ι past past' before xs M good good' b =
          let W : Within F L view trips begin Hidden Fixed start Valid p origin answer l ι past before xs M m = good.kept in
          let X : Within F L view trips begin Hidden Fixed start Valid p origin answer l ι past' before xs M n = good'.kept in
          let at = W.at in
          let k = stays_in F L view trips begin slots m n q l st X.loop at.0 at.1 at.2 in
          let o : AtOpening F L view trips begin Hidden Fixed Named start Valid loops origin answer means l ι before m b.other = b.like in
          record {
            other = b.other;
            comes = b.comes;
            like = record { past = o.past; xs = o.xs; behind = o.behind; good = o.good; first = o.first; main = o.main ∙ sym k.0; store = o.store; unread = o.unread ∙ sym k.1; going = o.going };
          }

      -- main goes on, or ends
      outside : (M N : Main L) → G (between M) m → G (between N) n → m.held q ≡ Some the_main → Beside (between M) m → Beside (between N) n
      outside M N good good' hold b =
          let B : Between F L view trips begin Hidden Fixed start Valid p origin answer M m = good.kept in
          let C : Between F L view trips begin Hidden Fixed start Valid p origin answer N n = good'.kept in
          let s : SameMain F L view trips begin m b.other = b.like in
          let g = good_alone b.other b.comes in
          let at = not_within F L view trips begin Hidden Fixed Named start Valid loops origin answer means g.0 b.other g.1 s.loop in
          let h = hold_main F L view trips begin Hidden Fixed Named start Valid loops origin answer means at.0 b.other at.1 (s.ended ∙ st.going) in
          let y = h.0 in
          let t = same_on F L view trips begin m b.other y s (h.1).same in
          let mv : MainMove trips (view m.main) m q n = subst (λ (o : Option Who). Turn F L view trips begin slots o m q n) hold st.turn in
          let r = mirror F L view trips begin m n y q t (view m.main) B.loop C.loop mv in
          let on : Step F L view trips begin 1 y 0 r.0 = record {
            going = t.ended ∙ st.going;
            turn = subst (λ (o : Option Who). Turn F L view trips begin 1 o y 0 r.0) (sym (h.1).held) (subst (λ (V : View F L). MainMove trips V y 0 r.0) (sym (ap view t.main)) r.1);
          } in
          record {
            other = r.0;
            comes = comes_on F L view trips begin (initial f input) b.other r.0 b.comes (comes_on F L view trips begin b.other y r.0 (h.1).comes (one_step F L view trips begin y r.0 on));
            like = r.2;
          }

      -- main opens a loop
      opens : (l : L) (xs : List (Cell × ℤ)) (M : Main L) → G (between (open_loop l xs M)) m → m.held q ≡ Some the_main → Beside (between (open_loop l xs M)) m → Beside (within l m.store (λ k. []) m.output xs M) n
      opens l xs M good hold b = record {
        other = x;
        comes = comes_on F L view trips begin (initial f input) b.other x b.comes (comes_on F L view trips begin b.other y x (h.1).comes (one_step F L view trips begin y x on));
        like = record {
          past = λ k. [];
          xs = w.0;
          behind = w.1;
          good = subst (λ (o : List ℕ). Alone (within l m.store (λ k. []) o w.0 w.1) x) t.output (subst (λ (σ : StoreOf). Alone (within l σ (λ k. []) y.output w.0 w.1) x) t.store (subst (λ (u : Ghost L). Alone u x) w.2 out.good));
          first = (refl, refl);
          main = sym (ap (λ k. k.main) mv.1);
          store = t.store;
          unread = t.unread ∙ sym (ap (λ k. k.input) mv.1);
          going = t.ended ∙ st.going;
        };
      }
        where
          B : Between F L view trips begin Hidden Fixed start Valid p origin answer (open_loop l xs M) m
          B = good.kept

          at : MainStands F L view Valid (open_loop l xs M) m.main
          at = B.at

          s : SameMain F L view trips begin m b.other
          s = b.like

          g : (h : Ghost L) × Good F L view trips begin Hidden Fixed start Valid 1 origin answer h b.other
          g = good_alone b.other b.comes

          a : (N : Main L) × Alone (between N) b.other
          a = not_within F L view trips begin Hidden Fixed Named start Valid loops origin answer means g.0 b.other g.1 s.loop

          h : (y : State F L) × Held F L view trips begin Hidden Fixed Named start Valid loops origin answer means b.other y
          h = hold_main F L view trips begin Hidden Fixed Named start Valid loops origin answer means a.0 b.other a.1 (s.ended ∙ st.going)

          y : State F L
          y = h.0

          t : SameMain F L view trips begin m h.0
          t = same_on F L view trips begin m b.other h.0 s (h.1).same

          mv : NoneOpen m × (n ≡ record m { main = at.1; loop = Some l; counts = λ e. 0; retired = 0; ticket = 0 })
          mv = subst (λ (V : View F L). MainMove trips V m q n) at.2 (subst (λ (o : Option Who). Turn F L view trips begin slots o m q n) hold st.turn)

          none : NoneOpen h.0
          none i =
              let A : Between F L view trips begin Hidden Fixed start Valid 1 origin answer a.0 b.other = (a.1).kept in
              let P = (a.1).places in
              ap (λ k. k i) (h.1).iterations ∙ none_open (Active F) 1 (b.other).retired (b.other).ticket (b.other).iterations (b.other).parked (b.other).waiting (b.other).held P 0 A.none i

          x : State F L
          x = record h.0 { main = at.1; loop = Some l; counts = λ e. 0; retired = 0; ticket = 0 }

          on : Step F L view trips begin 1 h.0 0 x
          on = record {
            going = t.ended ∙ st.going;
            turn = subst (λ (o : Option Who). Turn F L view trips begin 1 o h.0 0 x) (sym (h.1).held) (subst (λ (V : View F L). MainMove trips V h.0 0 x) (sym (ap view t.main ∙ at.2)) (none, refl));
          }

          c : (N : Main L) × Alone (between N) h.0
          c =
              let k = good_alone h.0 (comes_on F L view trips begin (initial f input) b.other h.0 b.comes (h.1).comes) in
              not_within F L view trips begin Hidden Fixed Named start Valid loops origin answer means k.0 h.0 k.1 t.loop

          out : Out F L view trips begin 1 Hidden Fixed Named start Valid 1 origin answer means loops h.0 0 (between c.0) x
          out = step_out F L view trips begin 1 Hidden Fixed Named start Valid 1 origin answer means loops (between c.0) h.0 x 0 (omega arith) c.1 on

          w : (ys : List (Cell × ℤ)) × (N : Main L) × (out.ghost ≡ within l (h.0).store (λ k. []) (h.0).output ys N)
          w = opened_ghost F L view trips begin Hidden Fixed Named start Valid loops origin answer means l c.0 h.0 x (between c.0) out.ghost c.1 refl out.good refl out.how

      -- and comes to its join
      joined : (l : L) (ι : StoreOf) (past : ℕ → List ℤ) (before : List ℕ) (xs : List (Cell × ℤ)) (M : Main L) → G (within l ι past before xs M) m → m.held q ≡ Some the_main → trips l ≤ m.retired → Beside (within l ι past before xs M) m → Beside (between M) n
      joined l ι past before xs M good hold le b = by mv.0 mv.1 mv.2
        where
          W : Within F L view trips begin Hidden Fixed start Valid p origin answer l ι past before xs M m
          W = good.kept

          at : (ρ : L → List (Cell × ℤ)) × (φ : L → F) × (view m.main ≡ joining ρ φ) × (ρ l ≡ xs) × MainStands F L view Valid M (φ l)
          at = W.at

          mv : MainMove trips (joining at.0 at.1) m q n
          mv = subst (λ (V : View F L). MainMove trips V m q n) at.2 (subst (λ (o : Option Who). Turn F L view trips begin slots o m q n) hold st.turn)

          all : m.retired ≡ trips l
          all = let a = (W.inv).within in omega (arith, le, a)

          seq : sequential (start l ι) (trips l) ι ≡ went (pasts past (trips l) 0) m.store
          seq = finished (start l ι) (trips l) (Named l) (loops.plan l W.valid ι) ι (inner m past) W.inv all

          o : AtOpening F L view trips begin Hidden Fixed Named start Valid loops origin answer means l ι before m b.other
          o = b.like

          end : (rs : List ℕ) × (y : State F L) × Run F L view trips begin 1 1 b.other rs y × (e : End) × (y.ended ≡ Some e)
          end = carried F L view trips begin 1 Hidden Fixed Named start Valid 1 loops main f input answer means stands (inr (inl refl)) (omega arith) (omega arith) (b.comes).0 b.other (b.comes).1

          j : (y : State F L) × Joined F L view trips begin Hidden Fixed Named start Valid loops origin answer means l m.store (before ++ shown (start l ι) 0 (pasts past (trips l) 0)) b.other y
          j = walk F L view trips begin Hidden Fixed Named start Valid loops origin answer means l ι before (pasts past (trips l) 0) m.store seq end.0 o.past o.xs o.behind b.other end.1 o.good o.going end.2 end.3 end.4

          J : Joined F L view trips begin Hidden Fixed Named start Valid loops origin answer means l m.store (before ++ shown (start l ι) 0 (pasts past (trips l) 0)) b.other j.0
          J = j.1

          text : m.output ≡ before ++ shown (start l ι) 0 (pasts past (trips l) 0)
          text = W.printed st.going ∙ ap (λ (i : ℕ). before ++ shown (start l ι) 0 (pasts past i 0)) all

          two_joins : (ρ ρ' : L → List (Cell × ℤ)) (φ φ' : L → F) → ◌≡◌ {A = View F L} (joining ρ φ) (joining ρ' φ') → (ρ ≡ ρ') × (φ ≡ φ')
          two_joins ρ ρ' φ φ' e = let a : ρ ≡ ρ' = cc in let c : φ ≡ φ' = cc in (a, c)

          same : (at.0 ≡ J.stores) × (at.1 ≡ J.behind)
          same = two_joins at.0 J.stores at.1 J.behind (sym at.2 ∙ sym (ap view o.main) ∙ J.is)

          by : (k : L) → m.loop ≡ Some k → ((trips k ≤ m.retired) × (n ≡ record m { main = at.1 k; store = put_cells m.store (at.0 k); loop = None })) ⊎ ((m.retired < trips k) × (n ≡ record m { waiting = Some (until_retired (trips k)); held = put_at m.held q None })) → Beside (between M) n
          by k e (inr i) =
              let a = W.loop in
              let eq : l ≡ k = cc in
              let t = ap trips eq in
              let c = i.0 in
              absurd (omega (arith, le, t, c))
          by k e (inl i) =
              let a = W.loop in
              let eq : l ≡ k = cc in
              record {
                other = j.0;
                comes = comes_on F L view trips begin (initial f input) b.other j.0 b.comes J.comes;
                like = record {
                  loop = J.loop;
                  main = J.main ∙ ap (λ (φ : L → F). φ l) (sym same.1) ∙ ap at.1 eq ∙ sym (ap (λ y. y.main) i.1);
                  store = J.store ∙ ap (λ (ρ : L → List (Cell × ℤ)). put_cells m.store (ρ l)) (sym same.0) ∙ ap (λ (u : L). put_cells m.store (at.0 u)) eq ∙ sym (ap (λ y. y.store) i.1);
                  unread = J.unread ∙ o.unread ∙ sym (ap (λ y. y.input) i.1);
                  output = J.output ∙ sym text ∙ sym (ap (λ y. y.output) i.1);
                  ended = J.going ∙ sym st.going ∙ sym (ap (λ y. y.ended) i.1);
                };
              }

      picked : (g : Ghost L) → G g m → G g n → n ≡ record m { waiting = None; held = put_at m.held q (Some the_main) } → Beside g m → Beside g n
      picked (between M) good good' is b =
          let s : SameMain F L view trips begin m b.other = b.like in
          record {
            other = b.other;
            comes = b.comes;
            like = record { loop = s.loop; main = s.main ∙ sym (ap (λ y. y.main) is); store = s.store ∙ sym (ap (λ y. y.store) is); unread = s.unread ∙ sym (ap (λ y. y.input) is); output = s.output ∙ sym (ap (λ y. y.output) is); ended = s.ended ∙ sym (ap (λ y. y.ended) is) };
          }
      picked (within l ι past before xs M) good good' is b = stay l ι past past before xs M good good' b

      stays_by : (g g' : Ghost L) (l : L) (ι : StoreOf) (past past' : ℕ → List ℤ) (before : List ℕ) (xs : List (Cell × ℤ)) (M : Main L) → g ≡ within l ι past before xs M → g' ≡ within l ι past' before xs M → G g m → G g' n → Beside g m → Beside g' n
      stays_by g g' l ι past past' before xs M eg eg' good good' b =
          subst (λ (u : Ghost L). Beside u n) (sym eg') (stay l ι past past' before xs M (subst (λ (u : Ghost L). G u m) eg good) (subst (λ (u : Ghost L). G u n) eg' good') (subst (λ (u : Ghost L). Beside u m) eg b))

      outside_by : (g g' : Ghost L) (M N : Main L) → g ≡ between M → g' ≡ between N → m.held q ≡ Some the_main → G g m → G g' n → Beside g m → Beside g' n
      outside_by g g' M N eg eg' hold good good' b =
          subst (λ (u : Ghost L). Beside u n) (sym eg') (outside M N (subst (λ (u : Ghost L). G u m) eg good) (subst (λ (u : Ghost L). G u n) eg' good') hold (subst (λ (u : Ghost L). Beside u m) eg b))

      -- who ends a run between loops is main
      ends_held : (M : Main L) (e : End) → G (between M) m → n.ended ≡ Some e → m.held q ≡ Some the_main
      ends_held M e good is = by (m.held q) refl st.turn
        where
          B : Between F L view trips begin Hidden Fixed start Valid p origin answer M m
          B = good.kept

          still : n.ended ≡ m.ended → m.held q ≡ Some the_main
          still h = let z : None ≡ Some e = sym st.going ∙ sym h ∙ is in absurd cc

          taken : (c : Choice) → Takes F L view trips begin slots c m q n → m.held q ≡ Some the_main
          taken take_main t = still (ap (λ y. y.ended) t.3)
          taken (take_iteration k) t = still (ap (λ y. y.ended) t.3)
          taken take_ticket t = still (ap (λ y. y.ended) t.4)

          by : (o : Option Who) → m.held q ≡ o → Turn F L view trips begin slots o m q n → m.held q ≡ Some the_main
          by None h t = taken t.0 t.1
          by (Some (iteration k)) h t = let o = (good.places).holds q k h in let b = B.none in absurd (omega (arith, o.0, o.1, b))
          by (Some the_main) h t = h

      beside_on : (g g' : Ghost L) → G g m → G g' n → Change F L trips slots start m n q g g' → Beside g m → Beside g' n
      beside_on g g' good good' (acted l ι past before xs M k v eg eg' hold ep ew et grew rose on ei) b = stays_by g g' l ι past (put_at past k (past k ++ v ∷ [])) before xs M eg eg' good good' b
      beside_on g g' good good' (parks l ι past before xs M k w eg eg' hold not wf is) b = stays_by g g' l ι past past before xs M eg (eg' ∙ eg) good good' b
      beside_on g g' good good' (picks l ι past before xs M k w eg eg' at re is) b = stays_by g g' l ι past past before xs M eg (eg' ∙ eg) good good' b
      beside_on g g' good good' (begins l ι past before xs M eg eg' ep ew et ec el room on ei) b = stays_by g g' l ι past past before xs M eg (eg' ∙ eg) good good' b
      beside_on g g' good good' (main_parks l ι past before xs M eg eg' hold lt is) b = stays_by g g' l ι past past before xs M eg (eg' ∙ eg) good good' b
      beside_on g g' good good' (breaks_off l ι past before xs M c eg eg' hold lt eq is ep ew et) b = stays_by g g' l ι past past before xs M eg (eg' ∙ eg) good good' b
      beside_on g g' good good' (main_picked w eg' at re is) b = subst (λ (u : Ghost L). Beside u n) (sym eg') (picked g good (subst (λ (u : Ghost L). G u n) eg' good') is b)
      beside_on g g' good good' (works M N eg eg' hold ep ew on less is_next) b = outside_by g g' M N eg eg' hold good good' b
      beside_on g g' good good' (ends_main M e eg eg' is last ep ew stays) b = outside_by g g' M M eg (eg' ∙ eg) (ends_held M e (subst (λ (u : Ghost L). G u m) eg good) is) good good' b
      beside_on g g' good good' (opens_up l xs M eg eg' hold ep ew et on ei) b =
          subst (λ (u : Ghost L). Beside u n) (sym eg') (opens l xs M (subst (λ (u : Ghost L). G u m) eg good) hold (subst (λ (u : Ghost L). Beside u m) eg b))
      beside_on g g' good good' (joins l ι past before xs M eg eg' hold le ep ew on ec ei is_next) b =
          subst (λ (u : Ghost L). Beside u n) (sym eg') (joined l ι past before xs M (subst (λ (u : Ghost L). G u m) eg good) hold le (subst (λ (u : Ghost L). Beside u m) eg b))

    -- beside each state of a run
    pub beside_run : (qs : List ℕ) (g : Ghost L) (m n : State F L) → G g m → Run F L view trips begin slots p m qs n → Beside g m → (h : Ghost L) × G h n × Beside h n
    beside_run [] g m n good r b = (g, subst (λ (x : State F L). G g x) r good, subst (λ (x : State F L). Beside g x) r b)
    beside_run (q ∷ qs) g m n good r b =
        let o = step_out F L view trips begin slots Hidden Fixed Named start Valid p origin answer means loops g m r.0 q r.1 good r.2 in
        beside_run qs o.ghost r.0 n o.good r.3 (beside_on m r.0 q r.2 g o.ghost good o.good o.how b)

    pub beside : (qs : List ℕ) (m : State F L) → Run F L view trips begin slots p (initial f input) qs m → (g : Ghost L) × Good F L view trips begin Hidden Fixed start Valid p origin answer g m × Beside g m
    beside qs m r =
        beside_run qs (between main) (initial f input) m (good_init F L view trips begin Hidden Fixed start Valid p answer main f input stands) r
        (record { other = initial f input; comes = ([], refl); like = record { loop = refl; main = refl; store = refl; unread = refl; output = refl; ended = refl } })
