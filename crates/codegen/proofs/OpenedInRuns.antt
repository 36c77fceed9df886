-- Where a run opens a loop for the n-th time, main's process alone does.
use Rattle.std.proofs.Common.{◌≡◌, ◌∙◌, ℕ, suc, ◌+◌, ◌<◌, ℤ, List, [], ◌∷◌, ◌++◌, Option, Some, None, length, refl, sym, ap, subst, arith, append_assoc, length-append}
use Rattle.ast.specs.Store.{StoreOf}
use Rattle.ast.specs.declared.fault.End.{End}
use Rattle.machine.specs.Code.{Cell}
use Rattle.machine.specs.State.{State, Who, the_main, MainMove, Turn, Step, Run, put_at, put_cell, put_cells}
use Rattle.machine.specs.View.{Cause, Input, View}
use Rattle.codegen.specs.OnTheWay.{opened_between, opened_in}
use Rattle.codegen.proofs.AloneRuns.{stays_in}
use Rattle.codegen.proofs.IterationSteps.{Process, Whole, after, cell_value, fault, sequential, stopped, went}
use Rattle.codegen.proofs.LoopRuns.{faulted}
use Rattle.codegen.proofs.Outcomes.{Outcome}
use Rattle.codegen.proofs.Points.{Point, behind, next_opened, points, points_at}
use Rattle.codegen.proofs.ProgramMoves.{Change, acted, parks, picks, begins, works, opens_up, joins, main_parks, main_picked, ends_main, breaks_off, here, step_out}
use Rattle.codegen.proofs.ProgramStanding.{Between, Ghost, Good, Loops, MainStands, Within, between, inner, within}
use Rattle.codegen.proofs.ProgramSteps.{Here, Main, take, keep, say, get, work, crash, halt, open_loop, alone_steps, astray, loop_meaning, meaning, next_by, seen, solo}

module _ (F L : Type 0) (view : F → View F L) (trips : L → ℕ) (begin : L → ℕ → F) (Hidden Fixed : L → Cell → Type 0) (Named : L → ℕ → Type 0) (start : L → StoreOf → ℕ → Process) (Valid : L → Type 0) (loops : Loops F L view trips begin Hidden Fixed Named start Valid)
    (p : ℕ) (origin : Here L) (answer : Outcome) (means : (x : Outcome) → meaning L trips start x origin ≡ answer) where
  abbrev G : Ghost L → State F L → Type 0
  G g m = Good F L view trips begin Hidden Fixed start Valid p origin answer g m

  -- the loops that main opens, alone
  abbrev pub all : List (Point L)
  all = points_at L trips start origin

  -- who has one step left opens no loop
  some_left : (M : Main L) (σ : StoreOf) (i : Input) → solo L trips start M σ i ≡ 0 → ⊥
  some_left (take c κ) σ i e = omega (arith, e)
  some_left (keep c v M) σ i e = omega (arith, e)
  some_left (say bytes M) σ i e = omega (arith, e)
  some_left (get ρ κ) σ i e = omega (arith, e)
  some_left (work M) σ i e = omega (arith, e)
  some_left (crash c) σ i e = omega (arith, e)
  some_left halt σ i e = omega (arith, e)
  some_left (open_loop l xs M) σ i e = by (sequential (start l σ) (trips l) σ) e
    where
      by : (w : Whole) → alone_steps w (trips l) (λ τ. solo L trips start M (put_cells τ xs) i) ≡ 0 → ⊥
      by (went ls τ) e = omega (arith, e)
      by (stopped ls c) e = omega (arith, e)
  some_left astray σ i e = omega (arith, e)

  no_more : (M : Main L) (σ : StoreOf) (i : Input) (o : List ℕ) → solo L trips start M σ i ≡ 1 → points L trips start M σ i o ≡ []
  no_more (take c κ) σ i o e = absurd (some_left (κ (cell_value σ c)) σ i (omega (arith, e)))
  no_more (keep c v M) σ i o e = absurd (some_left M (put_cell σ c v) i (omega (arith, e)))
  no_more (say bytes M) σ i o e = absurd (some_left M σ i (omega (arith, e)))
  no_more (get ρ κ) σ i o e = absurd (some_left (κ i) σ (ρ i) (omega (arith, e)))
  no_more (work M) σ i o e = absurd (some_left M σ i (omega (arith, e)))
  no_more (crash c) σ i o e = refl
  no_more halt σ i o e = refl
  no_more (open_loop l xs M) σ i o e = absurd (by (sequential (start l σ) (trips l) σ) e)
    where
      by : (w : Whole) → alone_steps w (trips l) (λ τ. solo L trips start M (put_cells τ xs) i) ≡ 1 → ⊥
      by (went ls τ) e = omega (arith, e)
      by (stopped ls c) e = omega (arith, e)
  no_more astray σ i o e = refl

  -- so many loops have been opened, and what main has left opens the others
  pub record Left (M : Main L) (σ : StoreOf) (i : Input) (o : List ℕ) (k : ℕ) : Type 0 where
    pub front : List (Point L)
    pub count : length front ≡ k
    pub is : points_at L trips start origin ≡ front ++ points L trips start M σ i o

  -- The last of them is open: it was opened on this store, which it has until an iteration begins.
  pub record LastIs (l : L) (ι : StoreOf) (before : List ℕ) (xs : List (Cell × ℤ)) (M : Main L) (m : State F L) (k : ℕ) : Type 0 where
    pub earlier : ℕ
    pub count : k ≡ suc earlier
    pub left : Left (open_loop l xs M) ι m.input before earlier
    pub fresh : m.ticket ≡ 0 → (m.ended ≡ None) × (m.store ≡ ι)
    pub last : (e : End) → m.ended ≡ Some e → behind (loop_meaning L trips start l ι before) (λ τ t. points L trips start M (put_cells τ xs) m.input t) ≡ []

  abbrev pub Counted : Ghost L → State F L → ℕ → Type 0
  Counted (between M) m k = Left M m.store m.input m.output k × ((e : End) → m.ended ≡ Some e → points L trips start M m.store m.input m.output ≡ [])
  Counted (within l ι past before xs M) m k = LastIs l ι before xs M m k

  module _ (slots : ℕ) (m n : State F L) (q : ℕ) (st : Step F L view trips begin slots m q n) where
    -- main makes a step that opens no loop
    same_points : (M M' : Main L) → G (between M) m → n.loop ≡ None → m.held q ≡ Some the_main → next_by L trips start M (here M m) ≡ here M' n → points_at L trips start (here M m) ≡ points_at L trips start (here M' n)
    same_points (take c κ) M' good none hold e = ap (points_at L trips start) e
    same_points (keep c v M) M' good none hold e = ap (points_at L trips start) e
    same_points (say bytes M) M' good none hold e = ap (points_at L trips start) e
    same_points (get ρ κ) M' good none hold e = ap (points_at L trips start) e
    same_points (work M) M' good none hold e = ap (points_at L trips start) e
    same_points (crash c) M' good none hold e = ap (points_at L trips start) e
    same_points halt M' good none hold e = ap (points_at L trips start) e
    same_points astray M' good none hold e = ap (points_at L trips start) e
    same_points (open_loop l xs M) M' good none hold e =
        let B : Between F L view trips begin Hidden Fixed start Valid p origin answer (open_loop l xs M) m = good.kept in
        let at : MainStands F L view Valid (open_loop l xs M) m.main = B.at in
        let mv = subst (λ (V : View F L). MainMove trips V m q n) at.2 (subst (λ (o : Option Who). Turn F L view trips begin slots o m q n) hold st.turn) in
        let z : Some l ≡ None = sym (ap (λ (x : State F L). x.loop) mv.1) ∙ none in absurd cc

    between_none : (M : Main L) (x : State F L) → G (between M) x → x.loop ≡ None
    between_none M x good = let B : Between F L view trips begin Hidden Fixed start Valid p origin answer M x = good.kept in B.loop

    within_some : (l : L) (ι : StoreOf) (past : ℕ → List ℤ) (before : List ℕ) (xs : List (Cell × ℤ)) (M : Main L) (x : State F L) → G (within l ι past before xs M) x → x.loop ≡ Some l
    within_some l ι past before xs M x good = let W : Within F L view trips begin Hidden Fixed start Valid p origin answer l ι past before xs M x = good.kept in W.loop

    abbrev So : Ghost L → ℕ → Type 0
    So h k = Counted h n (k + opened_between m.loop n.loop)

    -- how many loops a step opens, by which are open before it and behind it
    counts : (x y : Option L) (k c : ℕ) → m.loop ≡ x → n.loop ≡ y → k + opened_between x y ≡ c → k + opened_between m.loop n.loop ≡ c
    counts x y k c e d s = ap (λ (z : Option L). k + opened_between z n.loop) e ∙ ap (λ (z : Option L). k + opened_between x z) d ∙ s

    -- an open loop in which the run has ended is the last
    abbrev Last : (l : L) (ι : StoreOf) (before : List ℕ) (xs : List (Cell × ℤ)) (M : Main L) → Type 0
    Last l ι before xs M = (e : End) → n.ended ≡ Some e → behind (loop_meaning L trips start l ι before) (λ τ t. points L trips start M (put_cells τ xs) n.input t) ≡ []

    going_on : {A : Type 0} → n.ended ≡ None → (e : End) → n.ended ≡ Some e → A
    going_on on e h = let z : None ≡ Some e = sym on ∙ h in absurd cc

    -- before any iteration has begun
    abbrev Fresh : Type 0
    Fresh = (n.ended ≡ None) × (n.store ≡ m.store) × (m.ticket ≡ 0)

    -- the loop stays open
    stay : (l : L) (ι : StoreOf) (past past' : ℕ → List ℤ) (before : List ℕ) (xs : List (Cell × ℤ)) (M : Main L) (k : ℕ) → G (within l ι past before xs M) m → G (within l ι past' before xs M) n → (n.ticket ≡ 0 → Fresh) → Last l ι before xs M → LastIs l ι before xs M m k → So (within l ι past' before xs M) k
    stay l ι past past' before xs M k good good' fresh last c =
        let W : Within F L view trips begin Hidden Fixed start Valid p origin answer l ι past before xs M m = good.kept in
        let at = W.at in
        let i = stays_in F L view trips begin slots m n q l st (within_some l ι past' before xs M n good') at.0 at.1 at.2 in
        record {
          earlier = c.earlier;
          count = counts (Some l) (Some l) k (suc c.earlier) W.loop (within_some l ι past' before xs M n good') (let e = c.count in omega (arith, e));
          left = subst (λ (j : Input). Left (open_loop l xs M) ι j before c.earlier) (sym i.1) c.left;
          fresh = λ t. let z = fresh t in (z.0, z.1 ∙ (c.fresh z.2).1);
          last = last;
        }

    stay_by : (g g' : Ghost L) (l : L) (ι : StoreOf) (past past' : ℕ → List ℤ) (before : List ℕ) (xs : List (Cell × ℤ)) (M : Main L) (k : ℕ) → g ≡ within l ι past before xs M → g' ≡ within l ι past' before xs M → G g m → G g' n → (n.ticket ≡ 0 → Fresh) → Last l ι before xs M → Counted g m k → So g' k
    stay_by g g' l ι past past' before xs M k eg eg' good good' fresh last c =
        subst (λ (u : Ghost L). So u k) (sym eg') (stay l ι past past' before xs M k (subst (λ (u : Ghost L). G u m) eg good) (subst (λ (u : Ghost L). G u n) eg' good') fresh last (subst (λ (u : Ghost L). Counted u m k) eg c))

    -- main goes on between loops
    on_by : (M M' : Main L) (k : ℕ) → G (between M) m → G (between M') n → points_at L trips start (here M m) ≡ points_at L trips start (here M' n) → ((e : End) → n.ended ≡ Some e → points L trips start M' n.store n.input n.output ≡ []) → Counted (between M) m k → So (between M') k
    on_by M M' k good good' same last (c, d) = (
      record {
        front = c.front;
        count = c.count ∙ sym (counts None None k k (between_none M m good) (between_none M' n good') (omega arith));
        is = c.is ∙ ap (λ (ps : List (Point L)). c.front ++ ps) same;
      },
      last,
    )

    -- a loop is opened
    opens : (l : L) (xs : List (Cell × ℤ)) (M : Main L) (k : ℕ) → G (between (open_loop l xs M)) m → G (within l m.store (λ i. []) m.output xs M) n → m.held q ≡ Some the_main → n.input ≡ m.input → n.ended ≡ None → Counted (between (open_loop l xs M)) m k → So (within l m.store (λ i. []) m.output xs M) k
    opens l xs M k good good' hold ei on (c, d) =
        let B : Between F L view trips begin Hidden Fixed start Valid p origin answer (open_loop l xs M) m = good.kept in
        let at : MainStands F L view Valid (open_loop l xs M) m.main = B.at in
        let mv = subst (λ (V : View F L). MainMove trips V m q n) at.2 (subst (λ (o : Option Who). Turn F L view trips begin slots o m q n) hold st.turn) in
        record {
          earlier = k;
          count = counts None (Some l) k (suc k) (between_none (open_loop l xs M) m good) (within_some l m.store (λ i. []) m.output xs M n good') (omega arith);
          left = subst (λ (j : Input). Left (open_loop l xs M) m.store j m.output k) (sym ei) c;
          fresh = λ t. (on, ap (λ (x : State F L). x.store) mv.1);
          last = going_on on;
        }

    -- an open loop is joined
    closes : (l : L) (ι : StoreOf) (past : ℕ → List ℤ) (before : List ℕ) (xs : List (Cell × ℤ)) (M : Main L) (k : ℕ) → G (within l ι past before xs M) m → G (between M) n
        → next_by L trips start (open_loop l xs M) (record { main = open_loop l xs M; store = ι; input = m.input; output = before }) ≡ here M n → n.ended ≡ None → LastIs l ι before xs M m k → So (between M) k
    closes l ι past before xs M k good good' is_next on c =
        let pt : Point L = record { loop = l; cells = xs; store = ι; input = m.input; output = before } in
        let left = c.left in (
          record {
            front = left.front ++ pt ∷ [];
            count =
                let a = length-append left.front (pt ∷ []) in
                let b = left.count in
                let d = c.count in
                let e = counts (Some l) None k k (within_some l ι past before xs M m good) (between_none M n good') (omega arith) in
                omega (arith, a, b, d, e);
            is =
                left.is ∙ ap (λ (ps : List (Point L)). left.front ++ ps) (next_opened L trips start l xs M ι m.input before ∙ ap (λ (h : Here L). pt ∷ points_at L trips start h) is_next)
                ∙ sym (append_assoc left.front (pt ∷ []) (points_at L trips start (here M n)));
          },
          going_on on,
        )

    picked : (g : Ghost L) (k : ℕ) → G g m → G g n → m.store ≡ n.store → m.input ≡ n.input → m.output ≡ n.output → m.ticket ≡ n.ticket → n.ended ≡ None → Counted g m k → So g k
    picked (between M) k good good' es ei eo et on c =
        on_by M M k good good' (ap (λ (σ : StoreOf). points L trips start M σ m.input m.output) es ∙ ap (λ (i : Input). points L trips start M n.store i m.output) ei ∙ ap (λ (o : List ℕ). points L trips start M n.store n.input o) eo) (going_on on) c
    picked (within l ι past before xs M) k good good' es ei eo et on c = stay l ι past past before xs M k good good' (λ t. (on, sym es, et ∙ t)) (going_on on) c

    begun : (i : ℕ) → i < m.ticket → n.ticket ≡ m.ticket → n.ticket ≡ 0 → Fresh
    begun i lt et z = absurd (omega (arith, lt, et, z))

    -- the lowest iteration breaks off, and so does the loop
    broken : (l : L) (ι : StoreOf) (past : ℕ → List ℤ) (before : List ℕ) (xs : List (Cell × ℤ)) (M : Main L) (b : Cause) → G (within l ι past before xs M) m → m.retired < trips l → after (start l ι m.retired) (past m.retired) ≡ fault b → behind (loop_meaning L trips start l ι before) (λ τ t. points L trips start M (put_cells τ xs) n.input t) ≡ []
    broken l ι past before xs M b good lt eq =
        let W : Within F L view trips begin Hidden Fixed start Valid p origin answer l ι past before xs M m = good.kept in
        ap (λ (w : Whole). behind (seen (start l ι) before w) (λ τ t. points L trips start M (put_cells τ xs) n.input t)) (faulted (start l ι) (trips l) (Named l) (loops.plan l W.valid ι) ι (inner m past) W.inv b lt eq)

    counted_on : (g g' : Ghost L) → G g m → G g' n → Change F L trips slots start m n q g g' → (k : ℕ) → Counted g m k → So g' k
    counted_on g g' good good' (acted l ι past before xs M i v eg eg' hold ep ew et grew rose on ei) k c =
        stay_by g g' l ι past (put_at past i (past i ++ v ∷ [])) before xs M k eg eg' good good' (λ t. begun i ((good.places).holds q i hold).1 et t) (going_on on) c
    counted_on g g' good good' (parks l ι past before xs M i w eg eg' hold not wf is) k c =
        stay_by g g' l ι past past before xs M k eg (eg' ∙ eg) good good' (λ t. begun i ((good.places).holds q i hold).1 (ap (λ (x : State F L). x.ticket) is) t) (going_on (ap (λ (x : State F L). x.ended) is ∙ st.going)) c
    counted_on g g' good good' (picks l ι past before xs M i w eg eg' at re is) k c =
        stay_by g g' l ι past past before xs M k eg (eg' ∙ eg) good good' (λ t. begun i ((good.places).waits i w at).1 (ap (λ (x : State F L). x.ticket) is) t) (going_on (ap (λ (x : State F L). x.ended) is ∙ st.going)) c
    counted_on g g' good good' (begins l ι past before xs M eg eg' ep ew et ec el room on ei) k c =
        stay_by g g' l ι past past before xs M k eg (eg' ∙ eg) good good' (λ t. absurd (omega (arith, et, t))) (going_on on) c
    counted_on g g' good good' (main_parks l ι past before xs M eg eg' hold lt is) k c =
        stay_by g g' l ι past past before xs M k eg (eg' ∙ eg) good good' (λ t. (ap (λ (x : State F L). x.ended) is ∙ st.going, ap (λ (x : State F L). x.store) is, sym (ap (λ (x : State F L). x.ticket) is) ∙ t)) (going_on (ap (λ (x : State F L). x.ended) is ∙ st.going)) c
    counted_on g g' good good' (breaks_off l ι past before xs M b eg eg' hold lt eq is ep ew et) k c =
        stay_by g g' l ι past past before xs M k eg (eg' ∙ eg) good good' (λ t. begun m.retired ((good.places).holds q m.retired hold).1 et t)
        (λ e h. broken l ι past before xs M b (subst (λ (u : Ghost L). G u m) eg good) lt eq) c
    counted_on g g' good good' (main_picked w eg' at re is) k c =
        subst (λ (u : Ghost L). So u k) (sym eg')
        (picked g k good (subst (λ (u : Ghost L). G u n) eg' good') (sym (ap (λ (x : State F L). x.store) is)) (sym (ap (λ (x : State F L). x.input) is)) (sym (ap (λ (x : State F L). x.output) is)) (sym (ap (λ (x : State F L). x.ticket) is)) (ap (λ (x : State F L). x.ended) is ∙ st.going) c)
    counted_on g g' good good' (works M M' eg eg' hold ep ew on less is_next) k c =
        let a = subst (λ (u : Ghost L). G u m) eg good in
        let b = subst (λ (u : Ghost L). G u n) eg' good' in
        subst (λ (u : Ghost L). So u k) (sym eg') (on_by M M' k a b (same_points M M' a (between_none M' n b) hold is_next) (going_on on) (subst (λ (u : Ghost L). Counted u m k) eg c))
    counted_on g g' good good' (ends_main M e eg eg' is last ep ew stays) k c =
        subst (λ (u : Ghost L). So u k) (sym (eg' ∙ eg))
        (on_by M M k (subst (λ (u : Ghost L). G u m) eg good) (subst (λ (u : Ghost L). G u n) (eg' ∙ eg) good') (ap (points_at L trips start) (sym stays))
        (λ d h. ap (points_at L trips start) stays ∙ no_more M m.store m.input m.output last) (subst (λ (u : Ghost L). Counted u m k) eg c))
    counted_on g g' good good' (opens_up l xs M eg eg' hold ep ew et on ei) k c =
        subst (λ (u : Ghost L). So u k) (sym eg')
        (opens l xs M k (subst (λ (u : Ghost L). G u m) eg good) (subst (λ (u : Ghost L). G u n) eg' good') hold ei on (subst (λ (u : Ghost L). Counted u m k) eg c))
    counted_on g g' good good' (joins l ι past before xs M eg eg' hold le ep ew on ec ei is_next) k c =
        subst (λ (u : Ghost L). So u k) (sym eg')
        (closes l ι past before xs M k (subst (λ (u : Ghost L). G u m) eg good) (subst (λ (u : Ghost L). G u n) eg' good') is_next on (subst (λ (u : Ghost L). Counted u m k) eg c))

    -- where main is behind the join of what is open
    abbrev pub Behind : Ghost L → Type 0
    Behind (between M) = Unit {0}
    Behind (within l ι past before xs M) = next_by L trips start (open_loop l xs M) (record { main = open_loop l xs M; store = ι; input = m.input; output = before }) ≡ here M n

    not_open : (g' : Ghost L) (l : L) (ι : StoreOf) (past : ℕ → List ℤ) (before : List ℕ) (xs : List (Cell × ℤ)) (M : Main L) → g' ≡ within l ι past before xs M → G g' n → n.loop ≡ None → ⊥
    not_open g' l ι past before xs M eg good' none =
        let z : Some l ≡ None = sym (within_some l ι past before xs M n (subst (λ (u : Ghost L). G u n) eg good')) ∙ none in cc

    -- who leaves a loop joins it
    pub joined_by : (g g' : Ghost L) → G g m → G g' n → Change F L trips slots start m n q g g' → n.loop ≡ None → Behind g
    joined_by g g' good good' (acted l ι past before xs M i v eg eg' hold ep ew et grew rose on ei) none = absurd (not_open g' l ι (put_at past i (past i ++ v ∷ [])) before xs M eg' good' none)
    joined_by g g' good good' (parks l ι past before xs M i w eg eg' hold not wf is) none = absurd (not_open g' l ι past before xs M (eg' ∙ eg) good' none)
    joined_by g g' good good' (picks l ι past before xs M i w eg eg' at re is) none = absurd (not_open g' l ι past before xs M (eg' ∙ eg) good' none)
    joined_by g g' good good' (begins l ι past before xs M eg eg' ep ew et ec el room on ei) none = absurd (not_open g' l ι past before xs M (eg' ∙ eg) good' none)
    joined_by g g' good good' (main_parks l ι past before xs M eg eg' hold lt is) none = absurd (not_open g' l ι past before xs M (eg' ∙ eg) good' none)
    joined_by g g' good good' (breaks_off l ι past before xs M b eg eg' hold lt eq is ep ew et) none = absurd (not_open g' l ι past before xs M (eg' ∙ eg) good' none)
    joined_by g g' good good' (main_picked w eg' at re is) none = by g (subst (λ (u : Ghost L). G u n) eg' good')
      where
        by : (h : Ghost L) → G h n → Behind h
        by (between M) k = tt
        by (within l ι past before xs M) k = absurd (not_open (within l ι past before xs M) l ι past before xs M refl k none)
    joined_by g g' good good' (works M M' eg eg' hold ep ew on less is_next) none = subst Behind (sym eg) tt
    joined_by g g' good good' (ends_main M e eg eg' is last ep ew stays) none = subst Behind (sym eg) tt
    joined_by g g' good good' (opens_up l xs M eg eg' hold ep ew et on ei) none = subst Behind (sym eg) tt
    joined_by g g' good good' (joins l ι past before xs M eg eg' hold le ep ew on ec ei is_next) none = subst Behind (sym eg) is_next

  -- each loop that a run opens is the next that main opens alone
  pub counted_run : (slots : ℕ) (qs : List ℕ) (g : Ghost L) (m n : State F L) (k : ℕ) → G g m → (r : Run F L view trips begin slots p m qs n) → Counted g m k
      → (h : Ghost L) × G h n × Counted h n (k + opened_in F L view trips begin slots p m qs n r)
  counted_run slots [] g m n k good r c =
      let e : k ≡ k + 0 = omega arith in
      (g, subst (λ (x : State F L). G g x) r good, subst (λ (x : State F L). Counted g x (k + 0)) r (subst (λ (j : ℕ). Counted g m j) e c))
  counted_run slots (q ∷ qs) g m n k good r c =
      let o = step_out F L view trips begin slots Hidden Fixed Named start Valid p origin answer means loops g m r.0 q r.1 good r.2 in
      let k' = k + opened_between m.loop (r.0).loop in
      let rest = counted_run slots qs o.ghost r.0 n k' o.good r.3 (counted_on slots m r.0 q r.2 g o.ghost good o.good o.how k c) in
      let e : k' + opened_in F L view trips begin slots p r.0 qs n r.3 ≡ k + (opened_between m.loop (r.0).loop + opened_in F L view trips begin slots p r.0 qs n r.3) = omega arith in
      (rest.0, rest.1, subst (λ (j : ℕ). Counted rest.0 n j) e rest.2)

  -- a run that has ended has opened all of them
  pub ended_all : (g : Ghost L) (m : State F L) (k : ℕ) (e : End) → m.ended ≡ Some e → Counted g m k → length (points_at L trips start origin) ≡ k
  ended_all (between M) m k e h (c, last) =
      let a = ap length (c.is ∙ ap (λ (ps : List (Point L)). c.front ++ ps) (last e h)) in
      let b = length-append c.front [] in
      let d = c.count in
      omega (arith, a, b, d)
  ended_all (within l ι past before xs M) m k e h c =
      let left = c.left in
      let pt : Point L = record { loop = l; cells = xs; store = ι; input = m.input; output = before } in
      let a = ap length (left.is ∙ ap (λ (ps : List (Point L)). left.front ++ pt ∷ ps) (c.last e h)) in
      let b = length-append left.front (pt ∷ []) in
      let d = left.count in
      let f = c.count in
      omega (arith, a, b, d, f)
