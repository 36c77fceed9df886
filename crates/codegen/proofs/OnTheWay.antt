-- The stores on the way are those of the sequential program.
use Rattle.std.proofs.Common.{◌≡◌, ◌∙◌, ◌+◌, ◌≤◌, ◌<◌, ◌⊎◌, inl, inr, ℕ, suc, ℤ, Bool, List, [], ◌∷◌, ◌++◌, Some, None, length, refl, sym, ap, subst, arith}
use Rattle.std.specs.Prelude.{map, slice_get}
use Rattle.std.proofs.lemmas.List.{append-nil}
use Rattle.ast.specs.Input.{records_of}
use Rattle.ast.specs.Meaning.{Run, exec_block, seq, start}
use Rattle.ast.specs.Program.{ProgramTree}
use Rattle.ast.specs.Store.{StoreOf, zeros}
use Rattle.ast.specs.declared.fault.End.{End}
use Rattle.ast.specs.declared.fault.End.TheVariants.{Done, Stopped, Fault as Faulted}
use Rattle.ast.proofs.Fitting.{zeros_fit}
use Rattle.dependence.specs.Plan.{PlanBlock}
use Rattle.machine.specs.Code.{Code, Cell}
use Rattle.machine.specs.Frame.{Frame}
use Rattle.machine.specs.State.{Machine, CodeRun, CodeStep, Init, put_cells}
use Rattle.machine.specs.View.{begin, join_stores, main_frame, trips_of, view}
use Rattle.machine.specs.declared.code.Open.{Open as Opened}
use Rattle.expr_code.specs.Places.{Places}
use Rattle.codegen.specs.Alone.{Before}
use Rattle.codegen.specs.OnTheWay.{AreOnTheWay, IsOnTheWay, IsOpenedAt, opened_so_far}
use Rattle.codegen.specs.Program.{Planned, main_places, opened_by}
use Rattle.codegen.specs.Turns.{AreGoneThrough, Opening, after_turns, block_openings, openings}
use Rattle.codegen.proofs.IterationSteps.{Whole, sequential, stopped, went}
use Rattle.codegen.proofs.LoopRuns.{pasts, retired_are, retired_go, shown}
use Rattle.codegen.proofs.MainHeadline.{OpenCompiled, main, means, standing}
use Rattle.codegen.proofs.MainNaming.{block_named}
use Rattle.codegen.proofs.MainSteps.{Valid, main_doing}
use Rattle.codegen.proofs.Meant as meant_by
use Rattle.codegen.proofs.OpenedInRuns.{Counted, LastIs, counted_run, ended_all, joined_by}
use Rattle.codegen.proofs.OpenedLoop.{starts}
use Rattle.codegen.proofs.OpenedPoints.{open_points}
use Rattle.codegen.proofs.OpenedTurns.{IsSource, Led, gone, gone_through, joined_store, led, unread_so}
use Rattle.codegen.proofs.Outcomes.{Outcome, told}
use Rattle.codegen.proofs.OwnBefore.{before_is, stands_alone}
use Rattle.codegen.proofs.OwnFates.{All, Off, fates_from}
use Rattle.codegen.proofs.OwnRun.{is_below}
use Rattle.codegen.proofs.Points.{Point, as_point, opening_acts, openings_seen, opens_from, points_at}
use Rattle.codegen.proofs.ProgramGoes.{good_init}
use Rattle.codegen.proofs.ProgramMoves.{Out, here, step_out}
use Rattle.codegen.proofs.ProgramStanding.{Between, Ghost, Good, Loops, Within, between, inner, within}
use Rattle.codegen.proofs.ProgramSteps.{Here, Main, after_loop, halt, meaning, next_by, open_loop, seen}

-- the opening at a place
found : (code : Code) (os : List Opening) (front : List (Point Opened)) (x : Point Opened) (rest : List (Point Opened)) → map (as_point code) os ≡ front ++ x ∷ rest → (o : Opening) × (slice_get os (length front) ≡ Some o) × (as_point code o ≡ x)
found code [] [] x rest e = cc
found code [] (y ∷ ys) x rest e = cc
found code (o ∷ os) [] x rest e = let a : as_point code o ≡ x = cc in (o, refl, a)
found code (o ∷ os) (y ∷ ys) x rest e = let a : map (as_point code) os ≡ ys ++ x ∷ rest = cc in found code os ys x rest a

module _ (code : Code) (may : ℕ → ℤ → ℤ → Bool) (places : ℕ → Places) (bodies : ℕ → PlanBlock) (fixed : ℕ → Cell → Bool) (xs : List Planned) (Hidden Fixed : Opened → Cell → Type 0) (Named : Opened → ℕ → Type 0)
    (loops : Loops Frame Opened (view code) trips_of (begin code) Hidden Fixed Named (starts code may places bodies fixed) (Valid code may)) (program : ProgramTree) (compiled : OpenCompiled code may places bodies fixed (opened_by xs) program.symbols program.block)
    (source : (l : Opened) → Valid code may l → (x : Planned) × (slice_get xs l.number ≡ Some x) × IsSource code l (places l.number) (bodies l.number) (fixed l.number) program.symbols x.loop) (input : List ℕ) where
  abbrev begun : Main Opened
  begun = main code may places bodies fixed (opened_by xs) Hidden Fixed Named loops program compiled input

  abbrev origin : Here Opened
  origin = record { main = begun; store = zeros; input = record { left = []; records = records_of input }; output = [] }

  abbrev answer : Outcome
  answer = told (seq program input)

  means_so : (x : Outcome) → meaning Opened trips_of (starts code may places bodies fixed) x origin ≡ answer
  means_so x = means code may places bodies fixed (opened_by xs) Hidden Fixed Named loops program compiled input x

  -- the loops that main opens alone are those that the meaning opens
  points_are : points_at Opened trips_of (starts code may places bodies fixed) origin ≡ map (as_point code) (openings program xs input)
  points_are =
      meant_by.block_meant (List (Point Opened)) (openings_seen code) (Main Opened) (main_doing code may) (main_places program.symbols) (opens_from (starts code may places bodies fixed)) (opening_acts code may (starts code may places bodies fixed) program.symbols) (opened_by xs) program.block halt (start input)
      (block_named code may places bodies fixed program.symbols compiled.distinct (opened_by xs) (List (Point Opened)) (openings_seen code) (opens_from (starts code may places bodies fixed)) (opening_acts code may (starts code may places bodies fixed) program.symbols)
      (λ n line d b r a run e f. open_points code may places bodies fixed program.symbols line n d b r a run e f (λ q. block_openings program.symbols (opened_by xs) b q)) program.block compiled.right compiled.placed) compiled.fit refl zeros_fit
      ∙ ap (λ (ps : List (Point Opened)). map (as_point code) (openings program xs input) ++ ps) (none (exec_block program.symbols program.block (start input)))
      ∙ append-nil (map (as_point code) (openings program xs input))
    where
      none : (run : Run) → meant_by.then_told (List (Point Opened)) (openings_seen code) run (λ r. opens_from (starts code may places bodies fixed) halt [] r) ≡ []
      none run = by run.end
        where
          by : (e : End) → meant_by.going_told (List (Point Opened)) (openings_seen code) e run (λ r. opens_from (starts code may places bodies fixed) halt [] r) ≡ []
          by Done = refl
          by (Stopped y) = refl
          by (Faulted k y) = refl

  module _ (p : ℕ) where
    abbrev G : Ghost Opened → Machine → Type 0
    G g m = Good Frame Opened (view code) trips_of (begin code) Hidden Fixed (starts code may places bodies fixed) (Valid code may) p origin answer g m

    module _ (o : Opening) (l : Opened) (past : ℕ → List ℤ) (ys : List (Cell × ℤ)) (M : Main Opened) (m : Machine) (good : G (within l o.store past o.output ys M) m) (x : Planned) (w : IsSource code l (places l.number) (bodies l.number) (fixed l.number) program.symbols x.loop)
        (l_is : l ≡ record { number = o.number; first = o.first; trips = o.trips }) (ys_is : ys ≡ join_stores code l) (s : ℕ) (unread : m.input ≡ record { left = []; records = o.input }) (fresh : m.ticket ≡ 0 → (m.ended ≡ None) × (m.store ≡ o.store)) where
      abbrev W : Within Frame Opened (view code) trips_of (begin code) Hidden Fixed (starts code may places bodies fixed) (Valid code may) p origin answer l o.store past o.output ys M m
      W = good.kept

      first_is : l.first ≡ o.first
      first_is = ap (λ (k : Opened). k.first) l_is

      trips_are : l.trips ≡ o.trips
      trips_are = ap (λ (k : Opened). k.trips) l_is

      abbrev Through : ℕ → Type 0
      Through k = AreGoneThrough program.symbols x.loop o k

      abbrev T : ℕ → Run
      T k = after_turns program.symbols x.loop o k

      abbrev LedTo : ℕ → Type 0
      LedTo k = Led code l (places l.number) (bodies l.number) (fixed l.number) program.symbols x.loop w o first_is k

      led_to : (k : ℕ) → Through k → LedTo k
      led_to k e = led code l (places l.number) (bodies l.number) (fixed l.number) program.symbols x.loop w o first_is k e

      -- the store is determined
      one_store : (us vs : List (List ℤ)) (σ τ : StoreOf) (y : Whole) → y ≡ went us σ → y ≡ went vs τ → σ ≡ τ
      one_store us vs σ τ y a b = let c : went us σ ≡ went vs τ = sym a ∙ b in cc

      retired_so : (k : ℕ) (σ : StoreOf) → k ≤ l.trips → Before Frame Opened (view code) (begin code) l k 0 o.store σ → (ls : List (List ℤ)) × (sequential (starts code may places bodies fixed l o.store) k o.store ≡ went ls σ)
      retired_so k σ le b = (before_is Frame Opened (view code) trips_of (begin code) Hidden Fixed Named (starts code may places bodies fixed) (Valid code may) p loops origin answer l o.store past o.output ys M m good k 0 o.store σ (omega (arith, le)) (λ c fx. refl) b).0

      through : (k : ℕ) (ls : List (List ℤ)) (σ : StoreOf) → k ≤ l.trips → sequential (starts code may places bodies fixed l o.store) k o.store ≡ went ls σ → Through k
      through k ls σ le g = gone_through code l (places l.number) (bodies l.number) (fixed l.number) program.symbols x.loop w o first_is k ls σ le g

      before_of : (k : ℕ) → k ≤ l.trips → (d : LedTo k) → Before Frame Opened (view code) (begin code) l k 0 o.store d.left
      before_of k le d = by (fates_from Frame Opened (view code) trips_of (begin code) Hidden Fixed Named (starts code may places bodies fixed) (Valid code may) p loops origin answer l o.store past o.output ys M m good k 0 o.store (omega (arith, le)) (λ c fx. refl))
        where
          by : All Frame Opened (view code) trips_of (begin code) Hidden Fixed Named (starts code may places bodies fixed) (Valid code may) p loops origin answer l o.store past o.output ys M m good k 0 o.store
              ⊎ Off Frame Opened (view code) trips_of (begin code) Hidden Fixed Named (starts code may places bodies fixed) (Valid code may) p loops origin answer l o.store past o.output ys M m good k 0 o.store
              → Before Frame Opened (view code) (begin code) l k 0 o.store d.left
          by (inl h) =
              let r = retired_so k h.0 le h.1 in
              subst (λ (σ : StoreOf). Before Frame Opened (view code) (begin code) l k 0 o.store σ) (one_store r.0 d.values h.0 d.left (sequential (starts code may places bodies fixed l o.store) k o.store) r.1 d.went_so) h.1
          by (inr h) = let z : went d.values d.left ≡ stopped (h.listed).0 h.cause = sym d.went_so ∙ (h.listed).1 in absurd cc

      -- main joins the loop
      module _ (q : ℕ) (n : Machine) (below : q < p) (st : CodeStep code s m q n) (none : n.loop ≡ None) (e : (T o.trips).end ≡ Done) where
        made : (T l.trips).end ≡ Done
        made = ap (λ (k : ℕ). (T k).end) trips_are ∙ e

        d : LedTo l.trips
        d = led_to l.trips (gone code l (places l.number) (bodies l.number) (fixed l.number) program.symbols x.loop w o first_is l.trips made)

        out : Out Frame Opened (view code) trips_of (begin code) s Hidden Fixed Named (starts code may places bodies fixed) (Valid code may) p origin answer means_so loops m q (within l o.store past o.output ys M) n
        out = step_out Frame Opened (view code) trips_of (begin code) s Hidden Fixed Named (starts code may places bodies fixed) (Valid code may) p origin answer means_so loops (within l o.store past o.output ys M) m n q below good st

        next : next_by Opened trips_of (starts code may places bodies fixed) (open_loop l ys M) (record { main = open_loop l ys M; store = o.store; input = m.input; output = o.output }) ≡ here M n
        next = joined_by Frame Opened (view code) trips_of (begin code) Hidden Fixed Named (starts code may places bodies fixed) (Valid code may) loops p origin answer means_so s m n q st (within l o.store past o.output ys M) out.ghost good out.good out.how none

        is_here : record { main = M; store = put_cells d.left ys; input = m.input; output = o.output ++ shown (starts code may places bodies fixed l o.store) 0 d.values } ≡ here M n
        is_here =
            sym (ap (λ (y : Whole). after_loop (seen (starts code may places bodies fixed l o.store) o.output y) ys M (record { main = open_loop l ys M; store = o.store; input = m.input; output = o.output })) d.went_so) ∙ next

        joined_so : ((name : List ℕ) (place : ℕ) → n.store name place ≡ (T o.trips).store name place) × (n.input ≡ record { left = []; records = (T o.trips).input }) × (n.output ≡ (T o.trips).output)
        joined_so =
            let same = joined_store code l (places l.number) (bodies l.number) (fixed l.number) program.symbols x.loop w o first_is made d in
            let store : put_cells d.left ys ≡ (T o.trips).store = ap (put_cells d.left) ys_is ∙ same ∙ ap (λ (k : ℕ). (T k).store) trips_are in
            let records = unread_so code l (places l.number) (bodies l.number) (fixed l.number) program.symbols x.loop w o first_is o.trips e in (
              λ name place. ap (λ (σ : StoreOf). σ name place) (sym (ap (λ (h : Here Opened). h.store) is_here) ∙ store),
              sym (ap (λ (h : Here Opened). h.input) is_here) ∙ unread ∙ ap (λ (i : List (List ℕ)). record { left = []; records = i }) (sym records),
              sym (ap (λ (h : Here Opened). h.output) is_here) ∙ sym d.printed ∙ ap (λ (k : ℕ). (T k).output) trips_are,
            )

      retired_through : Through m.retired
      retired_through =
          let c = retired_go (starts code may places bodies fixed l o.store) l.trips (Named l) (loops.plan l W.valid o.store) o.store (inner m past) W.inv in
          let le : m.retired ≤ l.trips = (W.inv).within in
          through m.retired c.0 c.1 le c.2

      pub opened_at : IsOpenedAt program.symbols code p s x.loop o l m
      opened_at = record {
        is = l_is;
        unread = unread;
        fresh = λ z.
            let y = fresh z in
            let tk = (good.places).behind in
            let none : m.retired ≡ 0 = omega (arith, z, tk) in (
              λ name place. ap (λ (σ : StoreOf). σ name place) y.1,
              W.printed y.0 ∙ ap (λ (n : ℕ). o.output ++ shown (starts code may places bodies fixed l o.store) 0 (pasts past n 0)) none ∙ append-nil o.output,
            );
        retire = λ k le e. let d = led_to k e in (d.left, before_of k (omega (arith, le, trips_are)) d);
        exactly = λ k le h. let r = retired_so k h.0 (omega (arith, le, trips_are)) h.1 in through k r.0 h.0 (omega (arith, le, trips_are)) r.1;
        stores = λ k σ le b.
            let r = retired_so k σ (omega (arith, le, trips_are)) b in
            let d = led_to k (through k r.0 σ (omega (arith, le, trips_are)) r.1) in
            let same = one_store r.0 d.values σ d.left (sequential (starts code may places bodies fixed l o.store) k o.store) r.1 d.went_so in
            λ name place ne. ap (λ (t : StoreOf). t name place) same ∙ d.same name place ne;
        through = retired_through;
        printed = λ going.
            let d = led_to m.retired retired_through in
            let z = retired_are (starts code may places bodies fixed l o.store) l.trips (Named l) (loops.plan l W.valid o.store) o.store (inner m past) W.inv d.values d.left d.went_so in
            W.printed going ∙ ap (λ (ls : List (List ℤ)). o.output ++ shown (starts code may places bodies fixed l o.store) 0 ls) (sym z) ∙ sym d.printed;
        iterations = λ k a is_open e.
            let d = led_to k e in
            let lt = (is_below Frame Opened (view code) trips_of (begin code) Hidden Fixed Named (starts code may places bodies fixed) (Valid code may) p loops origin answer l o.store past o.output ys M m good k a is_open).1 in
            let st = stands_alone Frame Opened (view code) trips_of (begin code) Hidden Fixed Named (starts code may places bodies fixed) (Valid code may) p loops origin answer l o.store past o.output ys M m good k a d.left is_open (before_of k (omega (arith, lt)) d) in
            (d.left, d.same, record { steps = st.steps; own = st.own; is = st.is; frame = st.frame; out = st.out; loads = st.loads });
        joined = λ q n below st none e. joined_so q n below st none e;
      }

    abbrev Opens : (s : ℕ) (l : Opened) (m : Machine) (count : ℕ) → Type 0
    Opens s l m count = (n : ℕ) × (o : Opening) × (x : Planned) × (count ≡ suc n) × (slice_get (openings program xs input) n ≡ Some o) × (slice_get xs o.number ≡ Some x) × IsOpenedAt program.symbols code p s x.loop o l m

    last_opened : (s : ℕ) (l : Opened) (ι : StoreOf) (past : ℕ → List ℤ) (before : List ℕ) (ys : List (Cell × ℤ)) (M : Main Opened) (m : Machine) (count : ℕ) → G (within l ι past before ys M) m
        → LastIs Frame Opened (view code) trips_of (begin code) Hidden Fixed Named (starts code may places bodies fixed) (Valid code may) loops p origin answer means_so l ι before ys M m count → Opens s l m count
    last_opened s l ι past before ys M m count good c =
        let V : Within Frame Opened (view code) trips_of (begin code) Hidden Fixed (starts code may places bodies fixed) (Valid code may) p origin answer l ι past before ys M m = good.kept in
        let left = c.left in
        let f = found code (openings program xs input) left.front (record { loop = l; cells = ys; store = ι; input = m.input; output = before }) _ (sym points_are ∙ left.is) in
        let o = f.0 in
        let src = source l V.valid in
        let loop_is = sym (ap (λ (y : Point Opened). y.loop) f.2) in
        let store_is = sym (ap (λ (y : Point Opened). y.store) f.2) in
        let output_is = sym (ap (λ (y : Point Opened). y.output) f.2) in
        let number = ap (λ (k : Opened). k.number) loop_is in (
          c.earlier,
          o,
          src.0,
          c.count,
          subst (λ (i : ℕ). slice_get (openings program xs input) i ≡ Some o) left.count f.1,
          subst (λ (i : ℕ). slice_get xs i ≡ Some src.0) number src.1,
          opened_at o l past ys M m (subst (λ (t : List ℕ). G (within l o.store past t ys M) m) output_is (subst (λ (σ : StoreOf). G (within l σ past before ys M) m) store_is good)) src.0 src.2 loop_is (sym (ap (λ (y : Point Opened). y.cells) f.2) ∙ ap (join_stores code) (sym loop_is)) s
              (sym (ap (λ (y : Point Opened). y.input) f.2)) (λ z. let y = c.fresh z in (y.0, y.1 ∙ store_is)),
        )

    by_ghost : (s : ℕ) (g : Ghost Opened) (m : Machine) (count : ℕ) → G g m → Counted Frame Opened (view code) trips_of (begin code) Hidden Fixed Named (starts code may places bodies fixed) (Valid code may) loops p origin answer means_so g m count → (l : Opened) → m.loop ≡ Some l → Opens s l m count
    by_ghost s (between M) m count good c l e =
        let B : Between Frame Opened (view code) trips_of (begin code) Hidden Fixed (starts code may places bodies fixed) (Valid code may) p origin answer M m = good.kept in
        let z : None ≡ Some l = sym B.loop ∙ e in absurd cc
    by_ghost s (within k ι past before ys M) m count good c l e =
        let V : Within Frame Opened (view code) trips_of (begin code) Hidden Fixed (starts code may places bodies fixed) (Valid code may) p origin answer k ι past before ys M m = good.kept in
        let z : Some k ≡ Some l = sym V.loop ∙ e in
        let is : k ≡ l = cc in
        subst (λ (j : Opened). Opens s j m count) is (last_opened s k ι past before ys M m count good c)

    abbrev Tally : Machine → Ghost Opened → ℕ → Type 0
    Tally m g k = Counted Frame Opened (view code) trips_of (begin code) Hidden Fixed Named (starts code may places bodies fixed) (Valid code may) loops p origin answer means_so g m k

    as_many : length (map (as_point code) (openings program xs input)) ≡ length (openings program xs input)
    as_many = by (openings program xs input)
      where
        by : (os : List Opening) → length (map (as_point code) os) ≡ length os
        by [] = refl
        by (y ∷ ys) = ap suc (by ys)

    pub in_run : (s : ℕ) (qs : List ℕ) (m : Machine) → (r : CodeRun code s p (Init code input) qs m) → IsOnTheWay program code xs input p s m (opened_so_far code input p s qs m r)
    in_run s qs m r = record {
      inside = λ l e. by_ghost s c.0 m (opened_so_far code input p s qs m r) c.1 counted l e;
      at_end = λ e h.
          sym as_many ∙ sym (ap length points_are)
          ∙ ended_all Frame Opened (view code) trips_of (begin code) Hidden Fixed Named (starts code may places bodies fixed) (Valid code may) loops p origin answer means_so c.0 m (opened_so_far code input p s qs m r) e h counted;
    }
      where
        g0 : G (between begun) (Init code input)
        g0 = good_init Frame Opened (view code) trips_of (begin code) Hidden Fixed (starts code may places bodies fixed) (Valid code may) p answer begun (main_frame code) input (standing code may places bodies fixed (opened_by xs) Hidden Fixed Named loops program compiled input)

        c : (g : Ghost Opened) × G g m × Tally m g (0 + opened_so_far code input p s qs m r)
        c = counted_run Frame Opened (view code) trips_of (begin code) Hidden Fixed Named (starts code may places bodies fixed) (Valid code may) loops p origin answer means_so s qs (between begun) (Init code input) m 0 g0 r (record { front = []; count = refl; is = refl }, λ e h. cc)

        counted : Tally m c.0 (opened_so_far code input p s qs m r)
        counted = let z : 0 + opened_so_far code input p s qs m r ≡ opened_so_far code input p s qs m r = omega arith in subst (λ (k : ℕ). Tally m c.0 k) z c.2

module _ (code : Code) (may : ℕ → ℤ → ℤ → Bool) (places : ℕ → Places) (bodies : ℕ → PlanBlock) (fixed : ℕ → Cell → Bool) (xs : List Planned) (Hidden Fixed : Opened → Cell → Type 0) (Named : Opened → ℕ → Type 0)
    (loops : Loops Frame Opened (view code) trips_of (begin code) Hidden Fixed Named (starts code may places bodies fixed) (Valid code may)) (program : ProgramTree) (compiled : OpenCompiled code may places bodies fixed (opened_by xs) program.symbols program.block)
    (source : (l : Opened) → Valid code may l → (x : Planned) × (slice_get xs l.number ≡ Some x) × IsSource code l (places l.number) (bodies l.number) (fixed l.number) program.symbols x.loop) where
  -- in every run
  pub on_the_way : AreOnTheWay program code xs
  on_the_way input p s qs m sizes r = in_run code may places bodies fixed xs Hidden Fixed Named loops program compiled source input p s qs m r
