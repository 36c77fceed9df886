-- The headline of a program some of whose loops are opened by good plans.
use Rattle.std.proofs.Common.{◌≡◌, ◌∙◌, ◌≤◌, ◌<◌, ◌^◌, ◌⊎◌, inl, inr, ℕ, zero, suc, ℤ, pos, Bool, true, false, List, [], ◌∷◌, ◌++◌, Option, Some, None, length, get_or, refl, sym, ap, subst, arith}
use Rattle.std.specs.Prelude.{◌==◌, ◌&&◌, slice_get, unwrap_or, if◌then◌else◌}
use Rattle.std.specs.List.{IsDistinct, list_all}
use Rattle.std.proofs.lemmas.Bool.{and_parts, eqb-true}
use Rattle.ast.specs.Exact.{fits, trips}
use Rattle.ast.specs.Program.{ProgramTree, are_placed, is_placed}
use Rattle.ast.specs.References.{are_numbered, block_expressions, block_references, expressions_references}
use Rattle.ast.specs.Store.{StoreOf, same_name}
use Rattle.ast.specs.Symbols.{Symbol, dimensions_in, is_sized, names_of}
use Rattle.ast.specs.Tree.{Ref, Terms, no_terms, then_term}
use Rattle.dependence.specs.Meets.{IsStep, IsWithin}
use Rattle.dependence.specs.Plan.{awaits, advances, plain, loop, choose, PlanBlock, no_nodes, then_node, PlanArms, no_arms, made_else, then_arm, PlanPaths}
use Rattle.loop_tree.specs.Loops.{Loop, loops_of}
use Rattle.loop_tree.specs.Occurrences.{Occurrence}
use Rattle.loop_tree.specs.Paths.{Token, uses, defines, Ending}
use Rattle.subscripts.specs.Values.{AllMayBe}
use Rattle.machine.specs.Code.{Code, loop_at}
use Rattle.machine.specs.View.{index_at}
use Rattle.machine.specs.declared.code.Open.{Open as Opened}
use Rattle.expr_code.specs.Places.{dimensions_at}
use Rattle.expr_code.specs.Process.{count}
use Rattle.expr_code.proofs.Finding.{dimensions_same}
use Rattle.codegen.specs.Headline.{Bounded, Carried, Ends, Headline}
use Rattle.codegen.proofs.GoodPaths.{GoodPaths}
use Rattle.codegen.proofs.MainSteps.{Valid}
use Rattle.ast.specs.Regular.{are_fitting}
use Rattle.plan_check.specs.GoodPlan.{GoodPlan, Names, SameBody, made_bare, made_bare_arms, stripped, token_of}
use Rattle.plan_check.proofs.Members.{In}
use Rattle.codegen.proofs.OnePlace.{one_place}
use Rattle.codegen.proofs.LoopNumbers.{matches}
use Rattle.codegen.proofs.OpenedProgram.{Facts, it_ends, it_is_as_alone, it_is_bounded, it_is_carried, it_is_on_the_way, may, the_headline}
use Rattle.codegen.proofs.GivenPaths.{good_paths}
use Rattle.codegen.proofs.RangeLayout.{entry, few_loops, few_records, ranges}
use Rattle.codegen.proofs.GoodLoops.{GoodLoop}
use Rattle.codegen.proofs.RegularPlans.{ArmsNoEnd, NoEnd, Regular, good_one, not_last, shown_at}
use Rattle.codegen.proofs.RangeSound.{StandsIn, fixed_in, held_by, same_cells}
use Rattle.codegen.proofs.RangeRoom.{plan_loops, plan_room}
use Rattle.codegen.proofs.RangeSegments.{ArmsBare, Bare}
use Rattle.codegen.proofs.Opening.{agrees, may_if}
use Rattle.codegen.specs.Program.{IsCodeOf, Planned, range_places}
use Rattle.codegen.specs.OnTheWay.{AreOnTheWay}
use Rattle.codegen.specs.States.{AreAsAlone}

-- What is known of a loop that is opened: its plan is good and is the loop's body; the loop is one
-- of an accepted program.
pub record Opens (symbols : List Symbol) (x : Planned) : Type 0 where
  pub good : GoodPlan x.loop x.plan
  pub same : SameBody x.loop x.plan
  pub regular : Regular symbols x.loop
  pub no_end : NoEnd x.plan.body
  pub once : (i j : ℕ) → i < length x.plan.privates → j < length x.plan.privates → get_or x.plan.privates i [] ≡ get_or x.plan.privates j [] → i ≡ j
  pub few_privates : length x.plan.privates ≤ 2 ^ 32
  pub inner_scalar : (lp : Loop) → In lp (loops_of x.loop.body) → dimensions_at symbols lp.head.variable.cell ≡ []
  pub unique : (a b : Occurrence) → In a x.loop.references → In b x.loop.references → a.ref ≡ b.ref → a ≡ b
  pub placed : list_all (λ r. is_placed symbols r) (expressions_references (block_expressions (stripped x.plan.body))) ≡ true

module _ (t : ProgramTree) (xs : List Planned) (some : Planned) (code : Code) (w : IsCodeOf t xs code)
    (distinct : IsDistinct same_name (names_of t.symbols)) (sized : list_all is_sized t.symbols ≡ true) (placed : are_placed t.symbols t.block ≡ true) (numbered : are_numbered 0 (block_references t.block) ≡ true) (fit : are_fitting t.block ≡ true)
    (among : (n : ℕ) → n < length xs → In (get_or xs n some).loop (loops_of t.block))
    (opens : (n : ℕ) → n < length xs → Opens t.symbols (get_or xs n some)) where
  abbrev named : ℕ → ℕ → Type 0
  named n e = (d : ℕ) × Names (get_or xs n some).plan e d

  good : (n : ℕ) → n < length xs → GoodLoop t.symbols (get_or xs n some)
  good n h = let o = opens n h in good_one t.symbols (get_or xs n some) o.good o.same o.regular o.no_end o.once o.inner_scalar

  mutual
    bare : (x : Planned) (b : PlanBlock) → NoEnd b → made_bare b ≡ true → Bare (range_places t.symbols x) sized code w.variables w.few_symbols b
    bare x no_nodes e m = tt
    bare x (then_node (awaits k d) b) e m = bare x b e m
    bare x (then_node (advances k) b) e m = bare x b e m
    bare x (then_node (plain s) b) e m = (not_last s b e.1, bare x b e.1 m)
    bare x (then_node (loop l h c) b) e m = let z = and_parts (made_bare c) (made_bare b) m in (bare x c e.0 z.0, bare x b e.1 z.1)
    bare x (then_node (choose a) b) e m = let z = and_parts (made_bare_arms a) (made_bare b) m in (arms_bare x a e.0 z.0, bare x b e.1 z.1)

    arms_bare : (x : Planned) (a : PlanArms) → ArmsNoEnd a → made_bare_arms a ≡ true → ArmsBare (range_places t.symbols x) sized code w.variables w.few_symbols a
    arms_bare x no_arms e m = tt
    arms_bare x (made_else b) e m = m
    arms_bare x (then_arm l c b more) e m = let z = and_parts (made_bare b) (made_bare_arms more) m in (bare x b e.0 z.0, arms_bare x more e.1 z.1)

  module _ (l : Opened) (h : l.number < length xs) (v : Valid code (may t xs some code w) l) (ι : StoreOf) where
    abbrev x : Planned
    x = get_or xs l.number some

    o : Opens t.symbols (get_or xs l.number some)
    o = opens l.number h

    step : ℤ
    step = (loop_at code l.number).step

    entry_is : (loop_at code l.number).step ≡ (good l.number h).step
    entry_is = ap (λ y. y.step) (entry t xs some code w l.number h).2 ∙ ap (λ (q : Option ℤ). unwrap_or q (pos 0)) (good l.number h).step_is

    value_count : (es : Terms) (vs : List ℤ) (held : ℕ → ℤ) (i : ℤ) → AllMayBe (get_or xs l.number some).loop held i es vs → length vs ≡ count es
    value_count no_terms vs held i m = ap (λ (us : List ℤ). length us) m
    value_count (then_term e es) vs held i m = ap (λ (us : List ℤ). length us) m.2 ∙ ap suc (value_count es m.1 held i m.4)

    stands_placed : (r : Ref) (es : Terms) → StandsIn (get_or xs l.number some).loop r es → is_placed t.symbols r ≡ true
    stands_placed r es st = subst (λ (z : Ref). is_placed t.symbols z ≡ true) st.2 (((opens l.number h).regular).placed st.0 st.1)

    shown : (u v : List Token) (y : Token) (e : Ending) → PlanPaths (get_or xs l.number some).plan.body e (u ++ y ∷ v) → (r : Ref) → (y ≡ uses r) ⊎ (y ≡ defines r) → (q : Occurrence) × In q (get_or xs l.number some).loop.references × (q.ref ≡ r) × (token_of q ≡ y)
    shown u v y e p r (inl z) =
        let k = shown_at t.symbols (get_or xs l.number some) (opens l.number h).good (opens l.number h).same (opens l.number h).regular (opens l.number h).no_end (opens l.number h).once e (u ++ uses r ∷ v) (uses r) (subst (λ (a : Token). PlanPaths (get_or xs l.number some).plan.body e (u ++ a ∷ v)) z p) tt (right u (uses r) v) in
        (k.0, k.1, used k.0 (k.0).defines refl k.2, k.2 ∙ sym z)
      where
        right : (u : List Token) (a : Token) (v : List Token) → In a (u ++ a ∷ v)
        right [] a v = inl refl
        right (b ∷ u) a v = inr (right u a v)

        used : (q : Occurrence) (b : Bool) → q.defines ≡ b → (if q.defines then defines q.ref else uses q.ref) ≡ uses r → q.ref ≡ r
        used q true f k = let m : defines q.ref ≡ uses r = sym (ap (λ (c : Bool). if c then defines q.ref else uses q.ref) f) ∙ k in cc
        used q false f k = let m : uses q.ref ≡ uses r = sym (ap (λ (c : Bool). if c then defines q.ref else uses q.ref) f) ∙ k in cc
    shown u v y e p r (inr z) =
        let k = shown_at t.symbols (get_or xs l.number some) (opens l.number h).good (opens l.number h).same (opens l.number h).regular (opens l.number h).no_end (opens l.number h).once e (u ++ defines r ∷ v) (defines r) (subst (λ (a : Token). PlanPaths (get_or xs l.number some).plan.body e (u ++ a ∷ v)) z p) tt (right u (defines r) v) in
        (k.0, k.1, used k.0 (k.0).defines refl k.2, k.2 ∙ sym z)
      where
        right : (u : List Token) (a : Token) (v : List Token) → In a (u ++ a ∷ v)
        right [] a v = inl refl
        right (b ∷ u) a v = inr (right u a v)

        used : (q : Occurrence) (b : Bool) → q.defines ≡ b → (if q.defines then defines q.ref else uses q.ref) ≡ defines r → q.ref ≡ r
        used q true f k = let m : defines q.ref ≡ defines r = sym (ap (λ (c : Bool). if c then defines q.ref else uses q.ref) f) ∙ k in cc
        used q false f k = let m : uses q.ref ≡ defines r = sym (ap (λ (c : Bool). if c then defines q.ref else uses q.ref) f) ∙ k in cc

    within : (j : ℕ) → j < l.trips → IsWithin (get_or xs l.number some).loop.trips j
    within j lt = by (get_or xs l.number some).loop.trips refl
      where
        trips_are : l.trips ≡ trips v.0 v.1 (loop_at code l.number).step
        trips_are = ap (λ (y : Opened). y.trips) v.2

        at : (ys : List Planned) (n : ℕ) → n < length ys → slice_get ys n ≡ Some (get_or ys n some)
        at [] n q = absurd (omega (arith, q))
        at (y ∷ ys) zero q = refl
        at (y ∷ ys) (suc n) q = at ys n (omega (arith, q))

        agreed : agrees (get_or xs l.number some).loop.trips (trips v.0 v.1 (unwrap_or (get_or xs l.number some).loop.step (pos 0))) ≡ true
        agreed =
            let z : may_if (Some (get_or xs l.number some)) v.0 v.1 ≡ true = sym (ap (λ (q : Option Planned). may_if q v.0 v.1) (at xs l.number h)) ∙ v.3 in
            (and_parts (fits v.1) (agrees (get_or xs l.number some).loop.trips (trips v.0 v.1 (unwrap_or (get_or xs l.number some).loop.step (pos 0)))) (and_parts (fits v.0) (fits v.1 && agrees (get_or xs l.number some).loop.trips (trips v.0 v.1 (unwrap_or (get_or xs l.number some).loop.step (pos 0)))) z).1).1

        by : (q : Option ℕ) → (get_or xs l.number some).loop.trips ≡ q → IsWithin q j
        by None e = tt
        by (Some k) e =
            let a : (trips v.0 v.1 (unwrap_or (get_or xs l.number some).loop.step (pos 0)) == k) ≡ true = sym (ap (λ (q : Option ℕ). agrees q (trips v.0 v.1 (unwrap_or (get_or xs l.number some).loop.step (pos 0)))) e) ∙ agreed in
            let b = eqb-true (trips v.0 v.1 (unwrap_or (get_or xs l.number some).loop.step (pos 0))) k a in
            let c : trips v.0 v.1 (loop_at code l.number).step ≡ trips v.0 v.1 (unwrap_or (get_or xs l.number some).loop.step (pos 0)) = ap (λ (s : ℤ). trips v.0 v.1 s) (ap (λ y. y.step) (entry t xs some code w l.number h).2) in
            let d = trips_are in
            omega (arith, lt, b, c, d)

    step_known : IsStep (get_or xs l.number some).loop.step (loop_at code l.number).step
    step_known = subst (λ (q : Option ℤ). IsStep q (loop_at code l.number).step) (sym (good l.number h).step_is) (λ z. entry_is)

    paths : GoodPaths (get_or xs l.number some).loop (held_by t.symbols ι) (λ k. index_at code l k) (StandsIn (get_or xs l.number some).loop) (range_places t.symbols (get_or xs l.number some)) (fixed_in t.symbols (get_or xs l.number some).loop) ι (PlanPaths (get_or xs l.number some).plan.body) l.trips (named l.number)
    paths =
        good_paths (get_or xs l.number some).loop (get_or xs l.number some).plan (held_by t.symbols ι) l.first (loop_at code l.number).step (λ k. index_at code l k) (StandsIn (get_or xs l.number some).loop) (range_places t.symbols (get_or xs l.number some)) (fixed_in t.symbols (get_or xs l.number some).loop) ι l.trips
        (opens l.number h).good shown refl refl
        (λ r es q st i e. ap (λ (z : Occurrence). z.subscripts) ((opens l.number h).unique q st.0 i st.1 (e ∙ sym st.2)) ∙ st.3)
        (λ r s es fs a b e. sym (dimensions_same t.symbols r distinct (stands_placed r es a)) ∙ ap (λ (n : List ℕ). dimensions_in t.symbols n) e ∙ dimensions_same t.symbols s distinct (stands_placed s fs b))
        (λ r es vs k st m. value_count es vs (held_by t.symbols ι) (index_at code l k) m ∙ ((good l.number h).place).counted r es st)
        (λ s r es i st e.
        let a = ((good l.number h).place).assigned s i in
        ap (dimensions_at t.symbols) (same_cells t.symbols distinct r s (stands_placed r es st) a e) ∙ ((good l.number h).place).assigned_scalar s i)
        (λ r es st e. ap (dimensions_at t.symbols) (same_cells t.symbols distinct r (get_or xs l.number some).loop.head.variable (stands_placed r es st) ((opens l.number h).regular).variable e) ∙ ((opens l.number h).regular).variable_scalar)
        one_place (λ k. refl) step_known within

  facts : Facts t xs some code w named
  facts = record {
    distinct = distinct;
    sized = sized;
    placed = placed;
    fit = fit;
    matches = matches t xs some code w numbered among;
    good = good;
    entry = entry t xs some code w;
    range = λ n h. ranges t xs some code w sized n h (opens n h).few_privates (bare (get_or xs n some) (get_or xs n some).plan.body (opens n h).no_end ((opens n h).same).bare) (opens n h).placed (let e = w.operands in let m = plan_room t.block (get_or xs n some) (among n h) (opens n h).same in omega (arith, e, m)) (let e = w.counters in let m = plan_loops t.block (get_or xs n some) (among n h) (opens n h).same in omega (arith, e, m));
    few_loops = few_loops t xs some code w;
    few_records = few_records t xs some code w;
    paths = λ l h v ι. paths l h v ι;
  }

  -- whatever processors move, and however many iterations are open
  pub headline : Headline code t
  headline = the_headline t xs some code w named facts

  pub ends : Ends code
  ends input = it_ends t xs some code w named facts input

  pub bounded : Bounded code t
  bounded input = it_is_bounded t xs some code w named facts input

  pub carried : Carried code t
  carried input = it_is_carried t xs some code w named facts input

  -- every loop is opened where the meaning opens it, and its iterations begin as its turns do
  pub way : AreOnTheWay t code xs
  way = it_is_on_the_way t xs some code w named facts

  -- every state of every run is as those of the run alone
  pub states : AreAsAlone t code xs
  states = it_is_as_alone t xs some code w named facts (λ l x e d at h. (d, subst (λ (y : Planned). Names y.plan e d) (sym (is_nth xs l.number x at)) h))
    where
      is_nth : (ys : List Planned) (n : ℕ) (x : Planned) → slice_get ys n ≡ Some x → get_or ys n some ≡ x
      is_nth [] n x e = cc
      is_nth (y ∷ ys) zero x e = cc
      is_nth (y ∷ ys) (suc n) x e = is_nth ys n x e
