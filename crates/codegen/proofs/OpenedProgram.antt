-- The headline of the code of a program that opens loops.
use Rattle.std.proofs.Common.{◌≡◌, ◌∙◌, ◌≤◌, ◌<◌, ◌^◌, ℕ, zero, suc, ℤ, pos, Bool, true, false, List, [], ◌∷◌, ◌++◌, Option, Some, None, Ok, length, get_or, refl, sym, ap, subst, arith, length-append, append_assoc}
use Rattle.std.specs.Prelude.{◌&&◌, ◌+ℤ◌, ◌*ℤ◌, slice_get, unwrap_or}
use Rattle.std.specs.List.{IsDistinct, list_all}
use Rattle.std.specs.Ordering.{int_eq}
use Rattle.std.proofs.lemmas.Bool.{and_parts, eq-eqb}
use Rattle.ast.specs.Exact.{fits, in_range, trips}
use Rattle.ast.specs.Program.{ProgramTree, are_placed, is_placed}
use Rattle.ast.specs.References.{arms_expressions, block_expressions, expressions_references, head_expressions, node_expressions, optional}
use Rattle.ast.specs.Store.{StoreOf, same_name}
use Rattle.ast.specs.Symbols.{is_sized, names_of}
use Rattle.ast.specs.Tree as tree
use Rattle.ast.specs.Tree.{Ref, Terms, Term, DoHead, Node, Block, Arms, element, no_terms}
use Rattle.dependence.specs.Plan.{PlanBlock, PlanPaths}
use Rattle.loop_tree.specs.Constants.{step_of, trips_of as trips_known}
use Rattle.loop_tree.specs.Loops.{Loop}
use Rattle.loop_tree.specs.Paths.{defines}
use Rattle.machine.specs.Code.{Code, Cell, loop_at}
use Rattle.machine.specs.Frame.{Frame}
use Rattle.machine.specs.View.{begin, index_at, trips_of, view}
use Rattle.machine.specs.declared.code.Await.{Await}
use Rattle.machine.specs.declared.code.Open.{Open as Opened}
use Rattle.machine.specs.declared.instr.Act.TheVariants as acts
use Rattle.machine.specs.declared.instr.Instr.{Instr}
use Rattle.expr_code.specs.Emitted.{instr}
use Rattle.expr_code.specs.Places.{Places}
use Rattle.expr_code.proofs.Meaning.{Named}
use Rattle.expr_code.proofs.Standing.{HasAt, has_here}
use Rattle.codegen.specs.Emitted.{arms_awaits, block_awaits, if_serial, node_awaits}
use Rattle.codegen.specs.Headline.{Bounded, Carried, Ends, Headline}
use Rattle.codegen.specs.Plain.{plain_arms, plain_block, plain_node}
use Rattle.codegen.specs.Process.{is_last_stop}
use Rattle.codegen.specs.Program.{main_places}
use Rattle.codegen.specs.OnTheWay.{AreOnTheWay}
use Rattle.codegen.specs.States.{AreAsAlone}
use Rattle.plan_check.specs.GoodPlan.{Names}
use Rattle.codegen.proofs.Blocks.{HasList}
use Rattle.codegen.proofs.CodeLoops.{HiddenIn, FixedIn, IsPlanned, NamedIn, code_loops}
use Rattle.codegen.proofs.GoodPaths.{GoodPaths}
use Rattle.codegen.proofs.IterationCode.{IsRange}
use Rattle.codegen.proofs.MainCompiled.{block_reaches}
use Rattle.codegen.proofs.MainStanding.{Opens}
use Rattle.codegen.proofs.MainSteps.{Valid}
use Rattle.codegen.proofs.ProgramStanding.{Loops}
use Rattle.ast.specs.Regular.{is_fitting, are_fitting}
use Rattle.ast.proofs.Fitting.{Fit, Fits, fit_parts}
use Rattle.ast.proofs.Lists.{none_else, both_none}
use Rattle.ast.proofs.Trips.{in_trips}
use Rattle.codegen.proofs.LoopMeaning.{IsLoop}
use Rattle.codegen.proofs.RangeBody.{block_known}
use Rattle.codegen.proofs.MainHeadline.{OpenCompiled, as_alone, bounded, carried, headline, ends}
use Rattle.codegen.proofs.OnTheWay.{on_the_way}
use Rattle.codegen.proofs.OpenedLoop.{in_range_is, starts}
use Rattle.codegen.proofs.OpenedTurns.{IsSource}
use Rattle.codegen.proofs.MainNaming as naming
use Rattle.codegen.proofs.MainNaming.{ArmsRight, BlockRight, LoopRight, NodeRight}
use Rattle.codegen.proofs.GoodLoops.{GoodLoop, all_keys, is_loop, not_given, not_private}
use Rattle.codegen.proofs.RangeSound.{StandsIn, fixed_in, held_by, open_sound}
use Rattle.codegen.proofs.RangeSegments.{has_some}
use Rattle.codegen.proofs.Opening.{agrees, may_if, may_open}
use Rattle.codegen.specs.Program.{IsCodeOf, Planned, loop_entry, main_block, main_code, main_records, opened_by, range_places, ranges_code, ranges_records}

-- a program awaits nothing in main
module _ (p : Places) (opens : ℕ → Option ℕ) where
  serial_none : (o : Option ℕ) (ws : List Await) → ws ≡ [] → if_serial o ws ≡ []
  serial_none None ws h = h
  serial_none (Some n) ws h = refl

  mutual
    node_waits : (n : Node) → node_awaits p opens (plain_node n) ≡ []
    node_waits (tree.plain s) = refl
    node_waits (tree.loop l h b) = serial_none (opens h.variable.id) (block_awaits p opens (plain_block b)) (block_waits b)
    node_waits (tree.choose a) = arms_wait a

    block_waits : (b : Block) → block_awaits p opens (plain_block b) ≡ []
    block_waits tree.no_nodes = refl
    block_waits (tree.then_node n b) = none_else (is_last_stop (plain_node n) (plain_block b)) (node_awaits p opens (plain_node n) ++ block_awaits p opens (plain_block b)) (both_none (node_awaits p opens (plain_node n)) (block_awaits p opens (plain_block b)) (node_waits n) (block_waits b))

    arms_wait : (a : Arms) → arms_awaits p opens (plain_arms a) ≡ []
    arms_wait tree.no_arms = refl
    arms_wait (tree.then_arm line None b more) = block_waits b
    arms_wait (tree.then_arm line (Some c) b more) = both_none (block_awaits p opens (plain_block b)) (arms_awaits p opens (plain_arms more)) (block_waits b) (arms_wait more)

module _ (t : ProgramTree) (xs : List Planned) (some : Planned) (code : Code) (w : IsCodeOf t xs code) where
  -- the loop of a number
  abbrev pub nth : ℕ → Planned
  nth n = get_or xs n some

  abbrev pub places : ℕ → Places
  places n = range_places t.symbols (nth n)

  abbrev pub bodies : ℕ → PlanBlock
  bodies n = (nth n).plan.body

  abbrev pub fixed : ℕ → Cell → Bool
  fixed n = fixed_in t.symbols (nth n).loop

  abbrev pub may : ℕ → ℤ → ℤ → Bool
  may = may_open xs

  -- each DO that opens a loop is that of its number
  abbrev pub LoopMatches : Option ℕ → DoHead → Block → Type 0 → Type 0
  LoopMatches None h b inner = inner
  LoopMatches (Some n) h b inner = (n < length xs) × ((nth n).loop.head ≡ h) × ((nth n).loop.body ≡ b) × ((nth n).loop.step ≡ step_of h) × ((nth n).loop.trips ≡ trips_known h)

  abbrev mutual
    pub NodeMatches : Node → Type 0
    NodeMatches (tree.plain s) = Unit {0}
    NodeMatches (tree.loop line h b) = LoopMatches (opened_by xs h.variable.id) h b (BlockMatches b)
    NodeMatches (tree.choose a) = ArmsMatch a

    pub BlockMatches : Block → Type 0
    BlockMatches tree.no_nodes = Unit {0}
    BlockMatches (tree.then_node n b) = NodeMatches n × BlockMatches b

    pub ArmsMatch : Arms → Type 0
    ArmsMatch tree.no_arms = Unit {0}
    ArmsMatch (tree.then_arm line None b more) = BlockMatches b
    ArmsMatch (tree.then_arm line (Some c) b more) = BlockMatches b × ArmsMatch more

  -- What is known of the program, of its loops and of their plans.
  pub record Facts (named : ℕ → ℕ → Type 0) : Type 0 where
    pub distinct : IsDistinct same_name (names_of t.symbols)
    pub sized : list_all is_sized t.symbols ≡ true
    pub placed : are_placed t.symbols t.block ≡ true
    pub fit : are_fitting t.block ≡ true
    pub matches : BlockMatches t.block
    pub good : (n : ℕ) → n < length xs → GoodLoop t.symbols (nth n)
    pub entry : (n : ℕ) → n < length xs → (place : ℕ) × (slice_get code.loops n ≡ Some (loop_entry t.symbols place (nth n))) × (loop_at code n ≡ loop_entry t.symbols place (nth n))
    pub range : (n : ℕ) → n < length xs → IsRange code n (places n) (bodies n)
    pub few_loops : length xs ≤ 2 ^ 32
    pub few_records : length code.records ≤ 2 ^ 32
    pub paths : (l : Opened) → l.number < length xs → Valid code may l → (ι : StoreOf) → GoodPaths (nth l.number).loop (held_by t.symbols ι) (λ k. index_at code l k) (StandsIn (nth l.number).loop) (places l.number) (fixed l.number) ι (PlanPaths (bodies l.number)) l.trips (named l.number)

  module _ (named : ℕ → ℕ → Type 0) (f : Facts named) where
    there : (ys : List Planned) (n : ℕ) → n < length ys → slice_get ys n ≡ Some (get_or ys n some)
    there [] n h = absurd (omega (arith, h))
    there (y ∷ ys) zero h = refl
    there (y ∷ ys) (suc n) h = there ys n (omega (arith, h))

    below : (ys : List Planned) (n : ℕ) (m1 m2 : ℤ) → may_if (slice_get ys n) m1 m2 ≡ true → n < length ys
    below [] n m1 m2 h = cc
    below (y ∷ ys) zero m1 m2 h = omega arith
    below (y ∷ ys) (suc n) m1 m2 h = let k = below ys n m1 m2 h in omega (arith, k)

    few_symbols : length t.symbols ≤ 2 ^ 32
    few_symbols = w.few_symbols

    step_is : (n : ℕ) (h : n < length xs) → (loop_at code n).step ≡ (f.good n h).step
    step_is n h = let e = f.entry n h in let g = f.good n h in ap (λ y. y.step) e.2 ∙ ap (λ (o : Option ℤ). unwrap_or o (pos 0)) g.step_is

    sound : (n : ℕ) (m1 m2 : ℤ) → may n m1 m2 ≡ true → Opens code n
    sound n m1 m2 h =
        let b = below xs n m1 m2 h in
        let e = f.entry n b in
        let few = f.few_loops in
        record {
          loop = e.1 ∙ sym (ap (λ y. Some y) e.2);
          few = omega (arith, b, few);
          step = ap (λ (s : ℤ). int_eq s (pos 0)) (step_is n b) ∙ (f.good n b).nonzero;
        }

    -- a loop that is opened with 64-bit parameters may be
    allowed : (n : ℕ) (b : n < length xs) (m1 m2 : ℤ) → Fits m1 → Fits m2 → ((k : ℕ) → (nth n).loop.trips ≡ Some k → trips m1 m2 (f.good n b).step ≡ k) → may n m1 m2 ≡ true
    allowed n b m1 m2 f1 f2 known =
        ap (λ (o : Option Planned). may_if o m1 m2) (there xs n b)
        ∙ ap (λ (c : Bool). c && (fits m2 && agrees (nth n).loop.trips (trips m1 m2 (unwrap_or (nth n).loop.step (pos 0))))) f1
        ∙ ap (λ (c : Bool). c && agrees (nth n).loop.trips (trips m1 m2 (unwrap_or (nth n).loop.step (pos 0)))) f2
        ∙ ap (λ (o : Option ℤ). agrees (nth n).loop.trips (trips m1 m2 (unwrap_or o (pos 0)))) (f.good n b).step_is
        ∙ by (nth n).loop.trips refl
      where
        by : (o : Option ℕ) → (nth n).loop.trips ≡ o → agrees o (trips m1 m2 (f.good n b).step) ≡ true
        by None e = refl
        by (Some k) e = eq-eqb (trips m1 m2 (f.good n b).step) k (known k e)

    abbrev Every : List Term → Type 0
    Every es = list_all (λ r. is_placed t.symbols r) (expressions_references es) ≡ true

    abbrev Right : Block → Type 0
    Right b = BlockRight code may places bodies fixed t.symbols f.distinct (opened_by xs) b

    one : (e : Term) (es : List Term) → Every (e ∷ es) → Named (main_places t.symbols) e × Every es
    one e es h = naming.one t.symbols f.distinct e es h

    apart : (es fs : List Term) → Every (es ++ fs) → Every es × Every fs
    apart es fs h = naming.apart t.symbols f.distinct es fs h

    loop_right : (o : Option ℕ) (h : DoHead) (b : Block) → LoopMatches o h b (BlockMatches b) → Every (head_expressions h ++ block_expressions b) → is_fitting h.first ≡ true → is_fitting h.last ≡ true → (BlockMatches b → Every (block_expressions b) → Right b)
        → LoopRight code may places bodies fixed t.symbols f.distinct (opened_by xs) o h b (Right b)
    loop_right None h b m e f1 f2 inner = inner m (apart (head_expressions h) (block_expressions b) e).1
    loop_right (Some n) h b m e f1 f2 inner =
        let g = f.good n m.0 in
        let en = f.entry n m.0 in
        let k = apart (head_expressions h) (block_expressions b) e in
        let a = one h.first (h.last ∷ optional h.step ++ element h.variable no_terms ∷ []) k.0 in
        let c = one h.last (optional h.step ++ element h.variable no_terms ∷ []) a.1 in
        record {
          symbols_are = refl;
          body_is = g.same ∙ m.2;
          step = g.step;
          step_known = sym m.3 ∙ g.step_is;
          nonzero = g.nonzero;
          step_is = step_is n m.0;
          loop = subst (λ (d : DoHead). IsLoop code n (places n) (bodies n) (fixed n) d.variable.name) m.1 (is_loop t.symbols code n (nth n) g f.sized w.variables few_symbols en.0 en.2);
          allowed = λ m1 m2 x1 x2 known. allowed n m.0 m1 m2 x1 x2 (λ q z. known q (sym m.4 ∙ z));
          first = a.0;
          last = c.0;
          first_fits = f1;
          last_fits = f2;
        }

    mutual
      node_right : (n : Node) → NodeMatches n → Every (node_expressions n) → Fit (node_expressions n) → NodeRight code may places bodies fixed t.symbols f.distinct (opened_by xs) n
      node_right (tree.plain s) m e v = tt
      node_right (tree.loop line h b) m e v =
          let c = fit_parts (head_expressions h) (block_expressions b) v in
          let d = and_parts (is_fitting h.first) _ c.0 in
          loop_right (opened_by xs h.variable.id) h b m e d.0 (and_parts (is_fitting h.last) _ d.1).0 (λ q k. block_right b q k c.1)
      node_right (tree.choose a) m e v = arms_right a m e v

      block_right : (b : Block) → BlockMatches b → Every (block_expressions b) → are_fitting b ≡ true → BlockRight code may places bodies fixed t.symbols f.distinct (opened_by xs) b
      block_right tree.no_nodes m e v = tt
      block_right (tree.then_node n b) m e v =
          let k = apart (node_expressions n) (block_expressions b) e in
          let c = fit_parts (node_expressions n) (block_expressions b) v in
          (node_right n m.0 k.0 c.0, block_right b m.1 k.1 c.1)

      arms_right : (a : Arms) → ArmsMatch a → Every (arms_expressions a) → Fit (arms_expressions a) → ArmsRight code may places bodies fixed t.symbols f.distinct (opened_by xs) a
      arms_right tree.no_arms m e v = tt
      arms_right (tree.then_arm line None b more) m e v = block_right b m (apart (block_expressions b) (arms_expressions more) e).0 (fit_parts (block_expressions b) (arms_expressions more) v).0
      arms_right (tree.then_arm line (Some c) b more) m e v =
          let k = one c (block_expressions b ++ arms_expressions more) e in
          let q = apart (block_expressions b) (arms_expressions more) k.1 in
          let d = fit_parts (c ∷ block_expressions b) (arms_expressions more) v in
          (block_right b m.0 q.0 (and_parts (is_fitting c) (list_all (λ e. is_fitting e) (block_expressions b)) d.0).1, arms_right more m.1 q.1 d.1)

    -- ---- each loop

    abbrev source : ℕ → Loop
    source n = (nth n).loop

    abbrev Stands : ℕ → Ref → Terms → Type 0
    Stands n = StandsIn (nth n).loop

    planned : (l : Opened) → Valid code may l → IsPlanned code source places bodies fixed named Stands (held_by t.symbols) (Valid code may) l
    planned l v = by (below xs l.number v.0 v.1 v.3)
      where
        by : l.number < length xs → IsPlanned code source places bodies fixed named Stands (held_by t.symbols) (Valid code may) l
        by b =
            let n = l.number in
            let g = f.good n b in
            let en = f.entry n b in
            record {
              range = f.range n b;
              is_body = block_known t.symbols (nth n).loop (nth n).loop.line (nth n).plan.privates (nth n).plan.body g.place g.unassigned g.first (nth n).plan.body g.calm g.references;
              sound = λ ι k. open_sound t.symbols (nth n).loop (nth n).loop.line (nth n).plan.privates (nth n).plan.body g.place ι (index_at code l k);
              good = λ ι. f.paths l b v ι;
              keys = λ ps c k. all_keys t.symbols code n (nth n) g f.sized w.variables few_symbols en.0 en.2 ps c k;
              free = λ ι k r c u a d fx. not_given t.symbols code n (nth n) g f.sized w.variables few_symbols en.0 en.2 d.0 u d.1 r a.1 a.2 a.3.1
                  (subst (λ z. PlanPaths (nth n).plan.body d.0 z) (append_assoc u (defines r ∷ []) d.1) d.2)
                  (sym (ap (fixed n) a.4) ∙ fx);
              open_to_all = λ c h fx. not_private t.symbols code n (nth n) g f.sized w.variables few_symbols en.0 en.2 c h fx;
            }

    pub loops : Loops Frame Opened (view code) trips_of (begin code) (HiddenIn code source places bodies fixed named Stands (held_by t.symbols) (Valid code may)) (FixedIn code source places bodies fixed named Stands (held_by t.symbols) (Valid code may)) (NamedIn code source places bodies fixed named Stands (held_by t.symbols) (Valid code may)) (starts code may places bodies fixed) (Valid code may)
    loops = code_loops code source places bodies fixed named Stands (held_by t.symbols) (Valid code may) planned

    -- ---- main

    pub compiled : OpenCompiled code may places bodies fixed (opened_by xs) t.symbols t.block
    compiled = record {
      distinct = f.distinct;
      placed = f.placed;
      fit = f.fit;
      reaches = block_reaches (main_places t.symbols) f.sized code w.variables few_symbols (opened_by xs) t.block 0 0 f.placed fits;
      limit = length (main_block t xs);
      few = fits;
      stands = subst (λ (is : List Instr). HasAt is (length (main_block t xs)) 0 (main_block t xs)) (sym code_is) (has_here [] (main_block t xs) (instr 0 acts.Halt ∷ behind) (length (main_block t xs)) (omega arith));
      records = has_some [] (main_records t xs) (ranges_records t.symbols xs) code.records w.records f.few_records;
      awaits = subst (λ (ws : List Await). HasList code.awaits 0 ws) (sym (block_waits (main_places t.symbols) (opened_by xs) t.block)) tt;
      operands = let e = w.operands in omega (arith, e);
      counters = let e = w.counters in omega (arith, e);
      line = 0;
      halts = ap (λ (is : List Instr). slice_get is (length (main_block t xs))) code_is ∙ seam (main_block t xs);
      right = block_right t.block f.matches f.placed f.fit;
      sound = sound;
    }
      where
        behind : List Instr
        behind = ranges_code t.symbols 0 (length (main_records t xs)) 0 xs

        code_is : code.instructions ≡ main_block t xs ++ (instr 0 acts.Halt ∷ ranges_code t.symbols 0 (length (main_records t xs)) 0 xs)
        code_is = w.instructions ∙ append_assoc (main_block t xs) (instr 0 acts.Halt ∷ []) (ranges_code t.symbols 0 (length (main_records t xs)) 0 xs)

        fits : length (main_block t xs) ≤ 2 ^ 32
        fits =
            let k = ap length w.instructions in
            let a = length-append (main_code t xs) (ranges_code t.symbols 0 (length (main_records t xs)) 0 xs) in
            let b = length-append (main_block t xs) (instr 0 acts.Halt ∷ []) in
            let c = w.few in
            omega (arith, k, a, b, c)

        seam : (is : List Instr) → slice_get (is ++ (instr 0 acts.Halt ∷ ranges_code t.symbols 0 (length (main_records t xs)) 0 xs)) (length is) ≡ Some (instr 0 acts.Halt)
        seam [] = refl
        seam (i ∷ is) = seam is

    -- the headline, and that a run alone ends
    pub the_headline : Headline code t
    the_headline = headline code may places bodies fixed (opened_by xs) (HiddenIn code source places bodies fixed named Stands (held_by t.symbols) (Valid code may)) (FixedIn code source places bodies fixed named Stands (held_by t.symbols) (Valid code may)) (NamedIn code source places bodies fixed named Stands (held_by t.symbols) (Valid code may)) loops t compiled

    pub it_ends : Ends code
    it_ends input = ends code may places bodies fixed (opened_by xs) (HiddenIn code source places bodies fixed named Stands (held_by t.symbols) (Valid code may)) (FixedIn code source places bodies fixed named Stands (held_by t.symbols) (Valid code may)) (NamedIn code source places bodies fixed named Stands (held_by t.symbols) (Valid code may)) loops t compiled input

    pub it_is_bounded : Bounded code t
    it_is_bounded input w solo p s qs m sizes fine run = bounded code may places bodies fixed (opened_by xs) (HiddenIn code source places bodies fixed named Stands (held_by t.symbols) (Valid code may)) (FixedIn code source places bodies fixed named Stands (held_by t.symbols) (Valid code may)) (NamedIn code source places bodies fixed named Stands (held_by t.symbols) (Valid code may)) loops t compiled input w solo p s qs m sizes fine run

    pub it_is_carried : Carried code t
    it_is_carried input w solo p s qs m sizes fine run = carried code may places bodies fixed (opened_by xs) (HiddenIn code source places bodies fixed named Stands (held_by t.symbols) (Valid code may)) (FixedIn code source places bodies fixed named Stands (held_by t.symbols) (Valid code may)) (NamedIn code source places bodies fixed named Stands (held_by t.symbols) (Valid code may)) loops t compiled input w solo p s qs m sizes fine run

    -- every state of every run is as those of the run alone
    pub it_is_as_alone : ((l : Opened) (x : Planned) (e d : ℕ) → slice_get xs l.number ≡ Some x → Names x.plan e d → named l.number e) → AreAsAlone t code xs
    it_is_as_alone names = as_alone code may places bodies fixed (opened_by xs) (HiddenIn code source places bodies fixed named Stands (held_by t.symbols) (Valid code may)) (FixedIn code source places bodies fixed named Stands (held_by t.symbols) (Valid code may)) (NamedIn code source places bodies fixed named Stands (held_by t.symbols) (Valid code may)) loops t compiled xs names

    -- ---- the stores on the way

    -- a loop that is opened is one of the source
    sourced : (l : Opened) → Valid code may l → (x : Planned) × (slice_get xs l.number ≡ Some x) × IsSource code l (places l.number) (bodies l.number) (fixed l.number) t.symbols x.loop
    sourced l v = (
      nth l.number,
      there xs l.number b,
      record {
        is = is_loop t.symbols code l.number (nth l.number) g f.sized w.variables few_symbols en.0 en.2;
        symbols_are = refl;
        body_is = g.same;
        step_is = ap (λ y. y.step) en.2;
        first = subst (λ (j : Opened). in_range j.first ≡ Ok j.first) (sym v.2) (in_range_is v.0 fit.0);
        inside = subst (λ (j : Opened). (k : ℕ) → k < j.trips → in_range (index_at code j k) ≡ Ok (index_at code j k)) (sym v.2)
            (λ k lt. in_range_is (v.0 +ℤ (pos k *ℤ (loop_at code l.number).step)) (in_trips v.0 v.1 (loop_at code l.number).step k fit.0 fit.1 lt nonzero));
      },
    )
      where
        b : l.number < length xs
        b = below xs l.number v.0 v.1 v.3

        g : GoodLoop t.symbols (nth l.number)
        g = f.good l.number b

        en : (place : ℕ) × (slice_get code.loops l.number ≡ Some (loop_entry t.symbols place (nth l.number))) × (loop_at code l.number ≡ loop_entry t.symbols place (nth l.number))
        en = f.entry l.number b

        nonzero : int_eq (loop_at code l.number).step (pos 0) ≡ false
        nonzero = ap (λ (s : ℤ). int_eq s (pos 0)) (step_is l.number b) ∙ g.nonzero

        fit : (fits v.0 ≡ true) × (fits v.1 ≡ true)
        fit =
            let allowed : may_if (Some (nth l.number)) v.0 v.1 ≡ true = sym (ap (λ (o : Option Planned). may_if o v.0 v.1) (there xs l.number b)) ∙ v.3 in
            let k = and_parts (fits v.0) (fits v.1 && agrees (nth l.number).loop.trips (trips v.0 v.1 (unwrap_or (nth l.number).loop.step (pos 0)))) allowed in
            (k.0, (and_parts (fits v.1) (agrees (nth l.number).loop.trips (trips v.0 v.1 (unwrap_or (nth l.number).loop.step (pos 0)))) k.1).0)

    pub it_is_on_the_way : AreOnTheWay t code xs
    it_is_on_the_way = on_the_way code may places bodies fixed xs (HiddenIn code source places bodies fixed named Stands (held_by t.symbols) (Valid code may)) (FixedIn code source places bodies fixed named Stands (held_by t.symbols) (Valid code may)) (NamedIn code source places bodies fixed named Stands (held_by t.symbols) (Valid code may)) loops t compiled sourced
