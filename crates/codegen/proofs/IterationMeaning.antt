-- An iteration comes to what its range means, its private scalars and its loop's variable in the
-- place of the store's.
use Rattle.std.proofs.Common.{◌≡◌, ◌∙◌, ◌<◌, ◌+◌, ℕ, zero, suc, ℤ, pos, Bool, true, false, List, [], ◌∷◌, ◌++◌, Option, Some, None, Result, Ok, Err, length, get_or, refl, sym, ap, subst, ⊎_elim, arith}
use Rattle.std.specs.Prelude.{◌+ℤ◌, slice_get, slice_set, if◌then◌else◌}
use Rattle.std.specs.Ordering.{int_eq}
use Rattle.std.proofs.lemmas.List.{length-set}
use Rattle.ast.specs.Exact.{in_range, is_true, trips, value_of}
use Rattle.ast.specs.Meaning as meaning
use Rattle.ast.specs.Meaning.{Run, going_on, then_do, given, written, printed, step_value, turns, target, exec_plain, grown, looped, exec, exec_block, exec_arms, looked_up, value}
use Rattle.ast.specs.Record.{Printed, number, text, record_of}
use Rattle.ast.specs.Results.{◌>>=◌}
use Rattle.ast.specs.Store.{StoreOf, same_name}
use Rattle.ast.specs.Symbols.{Extent, dimensions_in, place_of}
use Rattle.ast.specs.Tree as tree
use Rattle.ast.specs.Tree.{Ref, Term, Access, accessed, PrintItem, value_item, text_item, DoHead, Kind, assign, print, read, stop, program, integer, dimension, parameters, do_loop, go_on, block_if, else_if, else_arm, end_if, logical_if, end}
use Rattle.ast.specs.declared.expression.Operator.TheVariants.{Add}
use Rattle.ast.specs.declared.fault.End.{End}
use Rattle.ast.specs.declared.fault.End.TheVariants.{Done, Stopped, Fault as Faulted}
use Rattle.ast.specs.declared.fault.Fault.{Fault}
use Rattle.ast.specs.declared.fault.Fault.TheVariants.{ZeroStep}
use Rattle.ast.proofs.SameNames.{same_is}
use Rattle.dependence.specs.Plan.{PlanNode, awaits, advances, plain, loop, choose, PlanBlock, no_nodes, then_node, PlanArms, no_arms, made_else, then_arm}
use Rattle.machine.specs.Code.{Cell}
use Rattle.machine.specs.State.{put_cell}
use Rattle.machine.specs.View.{failure, stop_at, is_event}
use Rattle.expr_code.specs.Places.{Places, Home, loop_index, private_scalar, in_store, dimensions_at, home, home_of, is_loop_name, number_in, private_or_stored}
use Rattle.expr_code.specs.Process.{answered_into, term_into}
use Rattle.expr_code.proofs.Meaning.{Means, Named, on, on_all, scalar_meant, target_meant, term_meant}
use Rattle.codegen.specs.Process as process
use Rattle.codegen.specs.Process.{arms_into, block_into, given_into, grown_into, is_last_stop, items_into, kind_into, node_into, serial_into, set_up_into, step_into, stored_into, turns_into, variable_into}
use Rattle.codegen.specs.Program.{none_open}
use Rattle.codegen.proofs.IterationLaws.{cases_cell, cell_other, cell_same}
use Rattle.codegen.proofs.IterationStanding.{Work, iteration_doing, iteration_steps, own_value}
use Rattle.codegen.proofs.IterationSteps.{load, await, advance, tick, gone, cell_value}
use Rattle.codegen.proofs.Outcomes.{Outcome, failed}
use Rattle.codegen.proofs.Comes.{comes}
use Rattle.codegen.proofs.IterationPaths.{set_other}
use Rattle.plan_check.specs.GoodPlan.{stripped, stripped_arms, only_events}

-- ---- the store that an iteration sees

abbrev pub own_or : Option (Option ℤ) → ℤ → ℤ
own_or (Some (Some v)) w = v
own_or (Some None) w = w
own_or None w = w

-- the value of a cell with this home: i that of the loop's variable, ps those of the private
-- scalars, w the store's
abbrev pub held_at : Home → ℤ → List (Option ℤ) → ℕ → ℤ → ℤ
held_at loop_index i ps zero w = i
held_at (private_scalar x) i ps zero w = own_or (slice_get ps x) w
held_at _ i ps n w = w

set_there : (ps : List (Option ℤ)) (x : ℕ) (v : ℤ) → x < length ps → slice_get (slice_set ps x (Some v)) x ≡ Some (Some v)
set_there [] x v h = absurd (omega (arith, h))
set_there (q ∷ ps) zero v h = refl
set_there (q ∷ ps) (suc x) v h = set_there ps x v (omega (arith, h))

-- the name with a number
number_is : (n : ℕ) (name : List ℕ) (xs : List (List ℕ)) (x : ℕ) → number_in n name xs ≡ Some x → (k : ℕ) × (x ≡ n + k) × (k < length xs) × (get_or xs k [] ≡ name)
number_is n name [] x e = cc
number_is n name (y ∷ ys) x e = by (same_name y name) refl (number_is (n + 1) name ys x)
  where
    by : (b : Bool) → same_name y name ≡ b → (number_in (n + 1) name ys ≡ Some x → (k : ℕ) × (x ≡ n + 1 + k) × (k < length ys) × (get_or ys k [] ≡ name)) → (k : ℕ) × (x ≡ n + k) × (k < length (y ∷ ys)) × (get_or (y ∷ ys) k [] ≡ name)
    by true t more =
        let k : Some n ≡ Some x = ap (λ (c : Bool). if c then Some n else number_in (n + 1) name ys) (sym t) ∙ e in
        let is : n ≡ x = cc in (0, omega (arith, is), omega arith, same_is y name t)
    by false t more =
        let k : number_in (n + 1) name ys ≡ Some x = ap (λ (c : Bool). if c then Some n else number_in (n + 1) name ys) (sym t) ∙ e in
        let z = more k in let e1 = z.1 in let e2 = z.2 in (suc z.0, omega (arith, e1), omega (arith, e2), z.3)

module _ (p : Places) where
  pub private_named : (name : List ℕ) (x : ℕ) → home p [] name ≡ private_scalar x → (x < length p.privates) × (get_or p.privates x [] ≡ name)
  private_named name x e = chosen (is_loop_name p.loop_name name) (number_in 0 name p.privates) refl e
    where
      chosen : (b : Bool) (o : Option ℕ) → o ≡ number_in 0 name p.privates → (if b then loop_index else private_or_stored o) ≡ private_scalar x → (x < length p.privates) × (get_or p.privates x [] ≡ name)
      chosen true o h k = cc
      chosen false None h k = cc
      chosen false (Some y) h k =
          let is : y ≡ x = cc in
          let z = number_is 0 name p.privates y (sym h) in
          let e1 = z.1 in let e2 = z.2 in
          let at : z.0 ≡ x = omega (arith, e1, is) in
          (omega (arith, at, e2), ap (λ (n : ℕ). get_or p.privates n []) (sym at) ∙ z.3)

  scalar_home : (ds : List Extent) (name : List ℕ) (x : ℕ) → home p ds name ≡ private_scalar x → home p [] name ≡ private_scalar x
  scalar_home [] name x e = e
  scalar_home (d ∷ ds) name x e = cc

module _ (p : Places) (index : ℤ) (fixed : Cell → Bool) (opened : StoreOf) where
  -- the store of the sequential program, where an iteration has these private scalars on that store
  pub record At (ρ : StoreOf) (ps : List (Option ℤ)) (σ : StoreOf) : Type 0 where
    pub seen : (c : Cell) → cell_value ρ c ≡ held_at (home_of p c.name) index ps c.place (cell_value σ c)
    pub steady : (c : Cell) → fixed c ≡ true → cell_value σ c ≡ cell_value opened c
    pub count : length ps ≡ length p.privates

  name_of : (name : List ℕ) (x : ℕ) → home_of p name ≡ private_scalar x → (x < length p.privates) × (get_or p.privates x [] ≡ name)
  name_of name x e = private_named p name x (scalar_home p (dimensions_in p.symbols name) name x e)

  module _ (ρ : StoreOf) (ps : List (Option ℤ)) (σ : StoreOf) (at : At ρ ps σ) where
    in_store_is : (name : List ℕ) (n : ℕ) → home_of p name ≡ in_store → ρ name n ≡ σ name n
    in_store_is name n h = at.seen (record { name = name; place = n }) ∙ ap (λ (o : Home). held_at o index ps n (σ name n)) h

    index_is : (name : List ℕ) → home_of p name ≡ loop_index → ρ name 0 ≡ index
    index_is name h = at.seen (record { name = name; place = 0 }) ∙ ap (λ (o : Home). held_at o index ps 0 (σ name 0)) h

    own_is : (name : List ℕ) (x : ℕ) → home_of p name ≡ private_scalar x → ρ name 0 ≡ own_or (slice_get ps x) (σ name 0)
    own_is name x h = at.seen (record { name = name; place = 0 }) ∙ ap (λ (o : Home). held_at o index ps 0 (σ name 0)) h

    -- the steps of an expression
    means : (line : ℕ) (o : List ℕ) → Means Work (iteration_steps p.privates index fixed opened line) (process.on Work (iteration_doing p.privates index fixed opened) p line) ρ Outcome (λ a. comes (a ps) σ o) (λ e. failed (failure e line) o)
    means line o = record {
      loads = λ r n κ h. loaded r n κ (in_store_is r.name n h) (fixed (record { name = r.name; place = n })) refl;
      owns = λ r x κ h. owned r x κ (name_of r.name x h).1 (slice_get ps x) (own_is r.name x h);
      indexes = λ r κ h. ap (λ (v : ℤ). comes (κ v ps) σ o) (sym (index_is r.name h));
      goes = λ a. refl;
      faults = λ e. refl;
    }
      where
        loaded : (r : Ref) (n : ℕ) (κ : ℤ → Work) → ρ r.name n ≡ σ r.name n → (b : Bool) → fixed (record { name = r.name; place = n }) ≡ b
            → comes (if b then tick (κ (cell_value opened (record { name = r.name; place = n })) ps) else load r (record { name = r.name; place = n }) (λ v. κ v ps)) σ o ≡ comes (κ (ρ r.name n) ps) σ o
        loaded r n κ e true f = ap (λ (v : ℤ). comes (κ v ps) σ o) (sym (at.steady (record { name = r.name; place = n }) f) ∙ sym e)
        loaded r n κ e false f = ap (λ (v : ℤ). comes (κ v ps) σ o) (sym e)

        owned : (r : Ref) (x : ℕ) (κ : ℤ → Work) → get_or p.privates x [] ≡ r.name → (q : Option (Option ℤ)) → ρ r.name 0 ≡ own_or q (σ r.name 0)
            → comes (own_value p.privates index fixed opened r x q (λ v. κ v ps)) σ o ≡ comes (κ (ρ r.name 0) ps) σ o
        owned r x κ name (Some (Some v)) e = ap (λ (w : ℤ). comes (κ w ps) σ o) (sym e)
        owned r x κ name (Some None) e = ap (λ (z : List ℕ). comes (κ (σ z 0) ps) σ o) name ∙ ap (λ (w : ℤ). comes (κ w ps) σ o) (sym e)
        owned r x κ name None e = ap (λ (z : List ℕ). comes (κ (σ z 0) ps) σ o) name ∙ ap (λ (w : ℤ). comes (κ w ps) σ o) (sym e)

    -- a cell of the store gets a value
    kept : (name : List ℕ) (n : ℕ) (v : ℤ) → home_of p name ≡ in_store → fixed (record { name = name; place = n }) ≡ false → At (put_cell ρ (record { name = name; place = n }) v) ps (put_cell σ (record { name = name; place = n }) v)
    kept name n v h free = record {
      seen = λ d. ⊎_elim
          (λ e. subst (λ (x : Cell). cell_value (put_cell ρ c v) x ≡ held_at (home_of p x.name) index ps x.place (cell_value (put_cell σ c v) x)) (sym e)
          (cell_same ρ c v ∙ sym (cell_same σ c v) ∙ sym (ap (λ (o : Home). held_at o index ps n (cell_value (put_cell σ c v) c)) h)))
          (λ ne. cell_other ρ c v d ne ∙ at.seen d ∙ ap (λ (w : ℤ). held_at (home_of p d.name) index ps d.place w) (sym (cell_other σ c v d ne)))
          (cases_cell d c);
      steady = λ d f. cell_other σ c v d (λ e. let z : true ≡ false = sym f ∙ ap fixed e ∙ free in cc) ∙ at.steady d f;
      count = at.count;
    }
      where
        c : Cell
        c = record { name = name; place = n }

    -- a private scalar gets a value
    set_to : (name : List ℕ) (x : ℕ) (v : ℤ) → home_of p name ≡ private_scalar x → At (put_cell ρ (record { name = name; place = 0 }) v) (slice_set ps x (Some v)) σ
    set_to name x v h = record {
      seen = λ d. ⊎_elim
          (λ e. subst (λ (y : Cell). cell_value (put_cell ρ c v) y ≡ held_at (home_of p y.name) index qs y.place (cell_value σ y)) (sym e)
          (cell_same ρ c v ∙ sym (ap (λ (q : Option (Option ℤ)). own_or q (cell_value σ c)) (set_there ps x v below)) ∙ sym (ap (λ (o : Home). held_at o index qs 0 (cell_value σ c)) h)))
          (λ ne. cell_other ρ c v d ne ∙ at.seen d ∙ other (home_of p d.name) d refl ne)
          (cases_cell d c);
      steady = at.steady;
      count = length-set ps x (Some v) ∙ at.count;
    }
      where
        c : Cell
        c = record { name = name; place = 0 }

        qs : List (Option ℤ)
        qs = slice_set ps x (Some v)

        below : x < length ps
        below = let k = (name_of name x h).0 in let l = at.count in omega (arith, k, l)

        at_place : (d : Cell) (y n : ℕ) → d.place ≡ n → (d ≡ c → ⊥) → home_of p d.name ≡ private_scalar y → held_at (private_scalar y) index ps n (cell_value σ d) ≡ held_at (private_scalar y) index qs n (cell_value σ d)
        at_place d y (suc n) e ne k = refl
        at_place d y zero e ne k =
            ap (λ (q : Option (Option ℤ)). own_or q (cell_value σ d)) (sym (set_other ps x y (Some v) (λ i.
            let n1 : get_or p.privates x [] ≡ d.name = ap (λ (z : ℕ). get_or p.privates z []) (sym i) ∙ (name_of d.name y k).1 in
            let n2 : d.name ≡ name = sym n1 ∙ (name_of name x h).1 in
            ne (ap (λ (z : ℕ). record { name = d.name; place = z }) e ∙ ap (λ (z : List ℕ). record { name = z; place = 0 }) n2))))

        other : (o : Home) (d : Cell) → home_of p d.name ≡ o → (d ≡ c → ⊥) → held_at (home_of p d.name) index ps d.place (cell_value σ d) ≡ held_at (home_of p d.name) index qs d.place (cell_value σ d)
        other loop_index d e ne = ap (λ (z : Home). held_at z index ps d.place (cell_value σ d)) e ∙ same_index d.place ∙ ap (λ (z : Home). held_at z index qs d.place (cell_value σ d)) (sym e)
          where
            same_index : (n : ℕ) → held_at loop_index index ps n (cell_value σ d) ≡ held_at loop_index index qs n (cell_value σ d)
            same_index zero = refl
            same_index (suc n) = refl
        other (private_scalar y) d e ne = ap (λ (z : Home). held_at z index ps d.place (cell_value σ d)) e ∙ at_place d y d.place refl ne e ∙ ap (λ (z : Home). held_at z index qs d.place (cell_value σ d)) (sym e)
        other in_store d e ne = ap (λ (z : Home). held_at z index ps d.place (cell_value σ d)) e ∙ ap (λ (z : Home). held_at z index qs d.place (cell_value σ d)) (sym e)

  -- ---- runs

  -- where the range goes on, the iteration does, with these private scalars on some store; where it
  -- breaks off, so does the iteration
  abbrev pub leads_by : End → Run → Run → Work → Outcome → Type 0
  leads_by Done before r a d = (ps : List (Option ℤ)) × (τ : StoreOf) × At r.store ps τ × (r.input ≡ before.input) × (d ≡ comes (a ps) τ r.output)
  leads_by (Stopped l) before r a d = d ≡ failed (stop_at l) r.output
  leads_by (Faulted e l) before r a d = d ≡ failed (failure e l) r.output

  abbrev pub Leads : Run → Run → Work → Outcome → Type 0
  Leads before r a d = leads_by r.end before r a d

  leads_on : (before r : Run) (a : Work) (ps : List (Option ℤ)) (σ : StoreOf) → r.end ≡ Done → At r.store ps σ → r.input ≡ before.input → Leads before r a (comes (a ps) σ r.output)
  leads_on before r a ps σ e at i = subst (λ (x : End). leads_by x before r a (comes (a ps) σ r.output)) (sym e) (ps, σ, at, i, refl)

  leads_is : (before r : Run) (a : Work) (d x : Outcome) → d ≡ x → Leads before r a x → Leads before r a d
  leads_is before r a d x e l = subst (λ (y : Outcome). Leads before r a y) (sym e) l

  leads_local : (before r : Run) (make : Work → Work) (a : Work) (d : Outcome) → ((ps : List (Option ℤ)) (τ : StoreOf) (o : List ℕ) → comes (make a ps) τ o ≡ comes (a ps) τ o) → Leads before r (make a) d → Leads before r a d
  leads_local before r make a d h l = by r.end l
    where
      by : (e : End) → leads_by e before r (make a) d → leads_by e before r a d
      by Done l = (l.0, l.1, l.2, l.3, l.4 ∙ h l.0 l.1 r.output)
      by (Stopped n) l = l
      by (Faulted f n) l = l

  leads_from : (before from r : Run) (a : Work) (d : Outcome) → from.input ≡ before.input → Leads from r a d → Leads before r a d
  leads_from before from r a d i l = by r.end l
    where
      by : (e : End) → leads_by e from r a d → leads_by e before r a d
      by Done l = (l.0, l.1, l.2, l.3 ∙ i, l.4)
      by (Stopped n) l = l
      by (Faulted f n) l = l

  leads_then : (before r : Run) (f : Run → Run) (a b : Work) (d : Outcome) → Leads before r a d
      → ((ps : List (Option ℤ)) (τ : StoreOf) → r.end ≡ Done → At r.store ps τ → Leads r (f r) b (comes (a ps) τ r.output)) → Leads before (then_do r f) b d
  leads_then before r f a b d l next = by r.end refl l
    where
      by : (e : End) → r.end ≡ e → leads_by e before r a d → Leads before (going_on e r f) b d
      by Done e l = leads_is before (f r) b d (comes (a l.0) l.1 r.output) l.4 (leads_from before r (f r) b (comes (a l.0) l.1 r.output) l.3 (next l.0 l.1 e l.2))
      by (Stopped n) e l = subst (λ (x : End). leads_by x before r b d) (sym e) l
      by (Faulted f n) e l = subst (λ (x : End). leads_by x before r b d) (sym e) l

  abbrev bad : ℕ → List ℕ → Fault → Outcome
  bad line o e = failed (failure e line) o

  leads_value : (r : Result ℤ Fault) (line : ℕ) (before run : Run) (next : ℤ → Run) (k : ℤ → Outcome) (b : Work) (d : Outcome) → d ≡ on (bad line run.output) r k → ((v : ℤ) → Leads before (next v) b (k v)) → Leads before (given r line run next) b d
  leads_value (Ok v) line before run next k b d e h = leads_is before (next v) b d (k v) e (h v)
  leads_value (Err f) line before run next k b d e h = e

  leads_all : {V : Type 0} (r : Result V Fault) (line : ℕ) (before run : Run) (next : V → Run) (k : V → Outcome) (b : Work) (d : Outcome) → d ≡ on_all (bad line run.output) r k → ((v : V) → r ≡ Ok v → Leads before (next v) b (k v)) → Leads before (given r line run next) b d
  leads_all (Ok v) line before run next k b d e h = leads_is before (next v) b d (k v) e (h v refl)
  leads_all (Err f) line before run next k b d e h = e

  abbrev D : process.Doing Work
  D = iteration_doing p.privates index fixed opened

  -- ---- what is known of a range: names are found, the loop's variable gets no value, a scalar that does
  -- isn't fixed, inner variables are private, events are events, nothing is read, and no END stands
  -- in it

  abbrev pub Target : Ref → Type 0
  Target r = (home_of p r.name ≡ loop_index → ⊥) × ((n : ℕ) → home_of p r.name ≡ in_store → fixed (record { name = r.name; place = n }) ≡ false)

  abbrev pub ItemsKnown : List PrintItem → Type 0
  ItemsKnown [] = Unit {0}
  ItemsKnown (value_item e ∷ items) = Named p e × ItemsKnown items
  ItemsKnown (text_item t ∷ items) = ItemsKnown items

  abbrev pub KindKnown : Kind → Type 0
  KindKnown (assign x e) = Named p e × Named p (accessed x) × Target x.ref
  KindKnown (print items) = ItemsKnown items
  KindKnown (read xs) = ⊥
  KindKnown _ = Unit {0}

  abbrev pub StepKnown : Option Term → Type 0
  StepKnown None = Unit {0}
  StepKnown (Some e) = Named p e

  abbrev pub HeadKnown : DoHead → Type 0
  HeadKnown h = Named p h.first × Named p h.last × StepKnown h.step × ((x : ℕ) × (home_of p h.variable.name ≡ private_scalar x) × (home p [] h.variable.name ≡ private_scalar x))

  abbrev mutual
    pub BlockKnown : PlanBlock → Type 0
    BlockKnown no_nodes = Unit {0}
    BlockKnown (then_node (awaits e d) b) = (is_event e ≡ true) × BlockKnown b
    BlockKnown (then_node (advances e) b) = (is_event e ≡ true) × BlockKnown b
    BlockKnown (then_node (plain s) b) = KindKnown s.kind × (is_last_stop (plain s) b ≡ false) × (meaning.is_last_stop (tree.plain s) (stripped b) ≡ false) × BlockKnown b
    BlockKnown (then_node (loop line h c) b) = HeadKnown h × BlockKnown c × BlockKnown b
    BlockKnown (then_node (choose arms) b) = ArmsKnown arms × BlockKnown b

    pub ArmsKnown : PlanArms → Type 0
    ArmsKnown no_arms = Unit {0}
    ArmsKnown (made_else b) = (only_events b ≡ true) × BlockKnown b
    ArmsKnown (then_arm line None b more) = BlockKnown b
    ArmsKnown (then_arm line (Some c) b more) = Named p c × BlockKnown b × ArmsKnown more

  -- ---- statements that hold no others

  module _ (line : ℕ) (run : Run) (ps : List (Option ℤ)) (σ : StoreOf) (at : At run.store ps σ) where
    abbrev o : List ℕ
    o = run.output

    abbrev M : Means Work (iteration_steps p.privates index fixed opened line) (process.on Work D p line) run.store Outcome (λ a. comes (a ps) σ run.output) (λ e. failed (failure e line) run.output)
    M = means run.store ps σ at line run.output

    value_comes : (e : Term) (κ : ℤ → Work) → Named p e → comes (term_into Work (D.evaluate line) (process.on Work D p line) e κ ps) σ run.output ≡ on (bad line run.output) (value (looked_up p.symbols run.store) e) (λ v. comes (κ v ps) σ run.output)
    value_comes e κ w = term_meant Work (D.evaluate line) (process.on Work D p line) run.store Outcome (λ a. comes (a ps) σ run.output) (bad line run.output) M e κ w

    items_come : (items : List PrintItem) (κ : List Printed → Work) → ItemsKnown items → comes (items_into Work D p line items κ ps) σ run.output ≡ on_all (bad line run.output) (printed (looked_up p.symbols run.store) items) (λ qs. comes (κ qs ps) σ run.output)
    items_come [] κ w = refl
    items_come (text_item t ∷ items) κ w = items_come items (λ qs. κ (text t ∷ qs)) w ∙ more (printed (looked_up p.symbols run.store) items)
      where
        more : (r : Result (List Printed) Fault) → on_all (bad line run.output) r (λ qs. comes (κ (text t ∷ qs) ps) σ run.output) ≡ on_all (bad line run.output) (r >>= λ qs. Ok (text t ∷ qs)) (λ qs. comes (κ qs ps) σ run.output)
        more (Ok qs) = refl
        more (Err f) = refl
    items_come (value_item e ∷ items) κ w =
        value_comes e (λ v. items_into Work D p line items (λ qs. κ (number v ∷ qs))) w.0
        ∙ first (value (looked_up p.symbols run.store) e) (λ v. items_come items (λ qs. κ (number v ∷ qs)) w.1)
      where
        more : (v : ℤ) (r : Result (List Printed) Fault) → on_all (bad line run.output) r (λ qs. comes (κ (number v ∷ qs) ps) σ run.output) ≡ on_all (bad line run.output) (r >>= λ qs. Ok (number v ∷ qs)) (λ qs. comes (κ qs ps) σ run.output)
        more v (Ok qs) = refl
        more v (Err f) = refl

        first : (r : Result ℤ Fault)
            → ((v : ℤ) → comes (items_into Work D p line items (λ qs. κ (number v ∷ qs)) ps) σ run.output ≡ on_all (bad line run.output) (printed (looked_up p.symbols run.store) items) (λ qs. comes (κ (number v ∷ qs) ps) σ run.output))
            → on (bad line run.output) r (λ v. comes (items_into Work D p line items (λ qs. κ (number v ∷ qs)) ps) σ run.output)
            ≡ on_all (bad line run.output) (r >>= λ v. printed (looked_up p.symbols run.store) items >>= λ qs. Ok (number v ∷ qs)) (λ qs. comes (κ qs ps) σ run.output)
        first (Ok v) h = h v ∙ more v (printed (looked_up p.symbols run.store) items)
        first (Err f) h = refl

    -- a variable gets a value
    given_comes : (h : Home) (r : Ref) (n : ℕ) (v : ℤ) (a : Work) → home_of p r.name ≡ h → Target r → ((x : ℕ) → h ≡ private_scalar x → n ≡ 0) → run.end ≡ Done → Leads run (written run r.name n v) a (comes (given_into Work D p h r n v a ps) σ run.output)
    given_comes loop_index r n v a e t z d = absurd (t.0 e)
    given_comes (private_scalar x) r n v a e t z d =
        let zero_place : 0 ≡ n = sym (z x refl) in
        subst (λ (m : ℕ). Leads run (written run r.name m v) a (comes (a (slice_set ps x (Some v))) σ run.output)) zero_place
        (leads_on run (written run r.name 0 v) a (slice_set ps x (Some v)) σ d (set_to run.store ps σ at r.name x v e) refl)
    given_comes in_store r n v a e t z d = leads_on run (written run r.name n v) a ps (put_cell σ (record { name = r.name; place = n }) v) d (kept run.store ps σ at r.name n v e (t.1 n e)) refl

    stored_comes : (x : Access) (v : ℤ) (a : Work) → Named p (accessed x) → Target x.ref → run.end ≡ Done → Leads run (given (target p.symbols run.store x) line run (λ n. written run x.ref.name n v)) a (comes (stored_into Work D p line x v a ps) σ run.output)
    stored_comes x v a known t d =
        let ds = dimensions_at p.symbols x.ref.cell in
        leads_all (target p.symbols run.store x) line run run (λ n. written run x.ref.name n v) (λ n. comes (given_into Work D p (home p ds x.ref.name) x.ref n v a ps) σ run.output) a (comes (stored_into Work D p line x v a ps) σ run.output)
        (target_meant Work (D.evaluate line) (process.on Work D p line) run.store Outcome (λ b. comes (b ps) σ run.output) (bad line run.output) M x.ref x.subscripts (λ n. given_into Work D p (home p ds x.ref.name) x.ref n v a) known)
        (λ n e. given_comes (home p ds x.ref.name) x.ref n v a (ap (λ (es : List Extent). home p es x.ref.name) known.0) t (λ y h. none ds n y h (known.0) e) d)
      where
        no_place : (r : Result (List ℤ) Fault) (es : List Extent) (n : ℕ) → es ≡ [] → (r >>= λ xs. place_of es xs) ≡ Ok n → n ≡ 0
        no_place (Ok xs) es n e h = let z : Ok 0 ≡ Ok n = sym (ap (λ (fs : List Extent). place_of fs xs) e) ∙ h in cc
        no_place (Err f) es n e h = cc

        none : (es : List Extent) (n y : ℕ) → home p es x.ref.name ≡ private_scalar y → dimensions_in p.symbols x.ref.name ≡ es → target p.symbols run.store x ≡ Ok n → n ≡ 0
        none [] n y h k e = no_place (meaning.values (looked_up p.symbols run.store) x.subscripts) (dimensions_in p.symbols x.ref.name) n k e
        none (f ∷ es) n y h k e = cc

    kind_comes : (k : Kind) (a : Work) → KindKnown k → run.end ≡ Done → Leads run (exec_plain p.symbols line k run) a (comes (kind_into Work D p line k a ps) σ run.output)
    kind_comes (assign x e) a w d =
        leads_value (value (looked_up p.symbols run.store) e) line run run (λ v. given (target p.symbols run.store x) line run (λ n. written run x.ref.name n v)) (λ v. comes (stored_into Work D p line x v a ps) σ run.output) a (comes (kind_into Work D p line (assign x e) a ps) σ run.output)
        (value_comes e (λ v. stored_into Work D p line x v a) w.0)
        (λ v. stored_comes x v a w.1 w.2 d)
    kind_comes (print items) a w d =
        leads_all (printed (looked_up p.symbols run.store) items) line run run (λ qs. record run { output = run.output ++ record_of qs }) (λ qs. comes (a ps) σ (run.output ++ record_of qs)) a (comes (kind_into Work D p line (print items) a ps) σ run.output)
        (items_come items (λ qs. D.say (record_of qs) a) w)
        (λ qs e. leads_on run (record run { output = run.output ++ record_of qs }) a ps σ d at refl)
    kind_comes (read xs) a w d = absurd w
    kind_comes stop a w d = refl
    kind_comes (program x) a w d = leads_on run run a ps σ d at refl
    kind_comes (integer x) a w d = leads_on run run a ps σ d at refl
    kind_comes (dimension x) a w d = leads_on run run a ps σ d at refl
    kind_comes (parameters x) a w d = leads_on run run a ps σ d at refl
    kind_comes (do_loop x) a w d = leads_on run run a ps σ d at refl
    kind_comes go_on a w d = leads_on run run a ps σ d at refl
    kind_comes (block_if x) a w d = leads_on run run a ps σ d at refl
    kind_comes (else_if x) a w d = leads_on run run a ps σ d at refl
    kind_comes else_arm a w d = leads_on run run a ps σ d at refl
    kind_comes end_if a w d = leads_on run run a ps σ d at refl
    kind_comes (logical_if x k) a w d = leads_on run run a ps σ d at refl
    kind_comes end a w d = leads_on run run a ps σ d at refl

    -- ---- DO

    step_comes : (e : Option Term) (κ : ℤ → Work) → StepKnown e → comes (step_into Work D p line e κ ps) σ run.output ≡ on (bad line run.output) (step_value (looked_up p.symbols run.store) e) (λ v. comes (κ v ps) σ run.output)
    step_comes None κ w = refl
    step_comes (Some e) κ w = value_comes e κ w

    variable_comes : (r : Ref) (x : ℕ) (v : ℤ) (a : Work) → home_of p r.name ≡ private_scalar x → home p [] r.name ≡ private_scalar x → run.end ≡ Done → Leads run (written run r.name 0 v) a (comes (variable_into Work D p r v a ps) σ run.output)
    variable_comes r x v a e f d =
        subst (λ (h : Home). Leads run (written run r.name 0 v) a (comes (given_into Work D p h r 0 v a ps) σ run.output)) (sym f)
        (leads_on run (written run r.name 0 v) a (slice_set ps x (Some v)) σ d (set_to run.store ps σ at r.name x v e) refl)

    grown_comes : (r : Ref) (x : ℕ) (m3 : ℤ) (a : Work) → home_of p r.name ≡ private_scalar x → home p [] r.name ≡ private_scalar x → run.end ≡ Done → Leads run (grown line r.name m3 run) a (comes (grown_into Work D p line r m3 a ps) σ run.output)
    grown_comes r x m3 a e f d =
        leads_is run (grown line r.name m3 run) a (comes (grown_into Work D p line r m3 a ps) σ run.output) (comes (answered_into Work (D.evaluate line) (value_of Add (run.store r.name 0) m3) (λ w. variable_into Work D p r w (D.local a)) ps) σ run.output)
        (scalar_meant Work (D.evaluate line) (process.on Work D p line) run.store Outcome (λ b. comes (b ps) σ run.output) (bad line run.output) M r (home p [] r.name) (λ v. D.local (answered_into Work (D.evaluate line) (value_of Add v m3) (λ w. variable_into Work D p r w (D.local a)))) (e ∙ sym f))
        (by (in_range (run.store r.name 0 +ℤ m3)))
      where
        by : (q : Result ℤ Fault) → Leads run (given q line run (λ n. written run r.name 0 n)) a (comes (answered_into Work (D.evaluate line) q (λ w. variable_into Work D p r w (D.local a)) ps) σ run.output)
        by (Ok v) = leads_local run (written run r.name 0 v) (λ b. D.local b) a (comes (variable_into Work D p r v (D.local a) ps) σ run.output) (λ qs τ t. refl) (variable_comes r x v (D.local a) e f d)
        by (Err k) = refl

  -- what a part of the range leads to, whatever follows
  abbrev pub Does : (Work → Work) → (Run → Run) → Type 0
  Does goes makes = (a : Work) (run : Run) (ps : List (Option ℤ)) (σ : StoreOf) → run.end ≡ Done → At run.store ps σ → Leads run (makes run) a (comes (goes a ps) σ run.output)

  one_after : (f g : Work → Work) (makes next : Run → Run) → Does f makes → Does g next → Does (λ a. f (g a)) (λ run. then_do (makes run) next)
  one_after f g makes next h k a run ps σ d at = leads_then run (makes run) next (g a) a (comes (f (g a) ps) σ run.output) (h (g a) run ps σ d at) (λ qs τ e t. k a (makes run) qs τ e t)

  turns_come : (n : ℕ) (turn : Work → Work) (makes : Run → Run) → Does turn makes → Does (λ a. turns_into Work D p turn n a) (λ run. turns makes n run)
  turns_come zero turn makes h a run ps σ d at = leads_on run run a ps σ d at refl
  turns_come (suc n) turn makes h a run ps σ d at =
      leads_then run (makes run) (λ r. turns makes n r) (turns_into Work D p turn n a) a (comes (turn (turns_into Work D p turn n a) ps) σ run.output) (h (turns_into Work D p turn n a) run ps σ d at)
      (λ qs τ e t. turns_come n turn makes h a (makes run) qs τ e t)

  serial_comes : (line : ℕ) (h : DoHead) (range : Work → Work) (makes : Run → Run) → HeadKnown h → Does range makes → (a : Work) (run : Run) (ps : List (Option ℤ)) (σ : StoreOf) → run.end ≡ Done → At run.store ps σ
      → Leads run (given (value (looked_up p.symbols run.store) h.first) line run (λ m1. given (value (looked_up p.symbols run.store) h.last) line run (λ m2. given (step_value (looked_up p.symbols run.store) h.step) line run (λ m3. looped line h.variable.name makes m1 m2 m3 run)))) a (comes (serial_into Work D p line h range a ps) σ run.output)
  serial_comes line h range makes w body a run ps σ d at =
      let look = looked_up p.symbols run.store in
      leads_value (value look h.first) line run run (λ m1. given (value look h.last) line run (λ m2. given (step_value look h.step) line run (λ m3. looped line h.variable.name makes m1 m2 m3 run))) (λ m1. comes (term_into Work (D.evaluate line) (process.on Work D p line) h.last (λ m2. step_into Work D p line h.step (λ m3. rest m1 m2 m3)) ps) σ run.output) a (comes (serial_into Work D p line h range a ps) σ run.output)
      (value_comes line run ps σ at h.first (λ m1. term_into Work (D.evaluate line) (process.on Work D p line) h.last (λ m2. step_into Work D p line h.step (λ m3. rest m1 m2 m3))) w.0)
      (λ m1. leads_value (value look h.last) line run run (λ m2. given (step_value look h.step) line run (λ m3. looped line h.variable.name makes m1 m2 m3 run)) (λ m2. comes (step_into Work D p line h.step (λ m3. rest m1 m2 m3) ps) σ run.output) a (comes (term_into Work (D.evaluate line) (process.on Work D p line) h.last (λ m2. step_into Work D p line h.step (λ m3. rest m1 m2 m3)) ps) σ run.output)
      (value_comes line run ps σ at h.last (λ m2. step_into Work D p line h.step (λ m3. rest m1 m2 m3)) w.1)
      (λ m2. leads_value (step_value look h.step) line run run (λ m3. looped line h.variable.name makes m1 m2 m3 run) (λ m3. comes (rest m1 m2 m3 ps) σ run.output) a (comes (step_into Work D p line h.step (λ m3. rest m1 m2 m3) ps) σ run.output)
      (step_comes line run ps σ at h.step (λ m3. rest m1 m2 m3) w.2)
      (λ m3. begun m1 m2 m3 (int_eq m3 (pos 0)))))
    where
      x : ℕ
      x = (w.3).0

      turn : ℤ → Work → Work
      turn m3 b = range (grown_into Work D p line h.variable m3 b)

      trip : ℤ → Run → Run
      trip m3 r = then_do (makes r) (λ y. grown line h.variable.name m3 y)

      rest : ℤ → ℤ → ℤ → Work
      rest m1 m2 m3 = set_up_into Work D p line m3 (variable_into Work D p h.variable m1 (turns_into Work D p (λ b. range (grown_into Work D p line h.variable m3 b)) (trips m1 m2 m3) a))

      does_trip : (m3 : ℤ) → Does (λ b. range (grown_into Work D p line h.variable m3 b)) (λ r. then_do (makes r) (λ y. grown line h.variable.name m3 y))
      does_trip m3 = one_after range (λ b. grown_into Work D p line h.variable m3 b) makes (λ y. grown line h.variable.name m3 y) body (λ b r qs τ e t. grown_comes line r qs τ t h.variable x m3 b (w.3).1 (w.3).2 e)

      begun : (m1 m2 m3 : ℤ) (zero_step : Bool) → Leads run (if zero_step then record run { end = Faulted ZeroStep line } else turns (λ r. then_do (makes r) (λ y. grown line h.variable.name m3 y)) (trips m1 m2 m3) (written run h.variable.name 0 m1)) a
          (comes ((if zero_step then (D.evaluate line).fails ZeroStep else D.local (variable_into Work D p h.variable m1 (turns_into Work D p (λ b. range (grown_into Work D p line h.variable m3 b)) (trips m1 m2 m3) a))) ps) σ run.output)
      begun m1 m2 m3 true = refl
      begun m1 m2 m3 false =
          let T = turns_into Work D p (λ b. range (grown_into Work D p line h.variable m3 b)) (trips m1 m2 m3) a in
          let makes_trips : Run → Run = λ r. turns (λ s. then_do (makes s) (λ y. grown line h.variable.name m3 y)) (trips m1 m2 m3) r in
          let first = written run h.variable.name 0 m1 in
          subst (λ (r : Run). Leads run r a (comes (variable_into Work D p h.variable m1 T ps) σ run.output)) (going first makes_trips d)
          (leads_then run first makes_trips T a (comes (variable_into Work D p h.variable m1 T ps) σ run.output) (variable_comes line run ps σ at h.variable x m1 T (w.3).1 (w.3).2 d)
          (λ qs τ e t. turns_come (trips m1 m2 m3) (λ b. range (grown_into Work D p line h.variable m3 b)) (λ r. then_do (makes r) (λ y. grown line h.variable.name m3 y)) (does_trip m3) a first qs τ e t))
        where
          going : (r : Run) (f : Run → Run) → r.end ≡ Done → then_do r f ≡ f r
          going r f e = ap (λ (z : End). going_on z r f) e

  -- ---- blocks

  -- awaits and advances alone change nothing
  events_come : (b : PlanBlock) (a : Work) (ps : List (Option ℤ)) (σ : StoreOf) (o : List ℕ) → only_events b ≡ true → BlockKnown b → comes (block_into Work D p none_open b a ps) σ o ≡ comes (a ps) σ o
  events_come no_nodes a ps σ o e w = refl
  events_come (then_node (awaits x d) b) a ps σ o e w = ap (λ (z : Bool). comes (if z then await x d (block_into Work D p none_open b a ps) else gone) σ o) w.0 ∙ events_come b a ps σ o e w.1
  events_come (then_node (advances x) b) a ps σ o e w = ap (λ (z : Bool). comes (if z then advance x (block_into Work D p none_open b a ps) else gone) σ o) w.0 ∙ events_come b a ps σ o e w.1
  events_come (then_node (plain s) b) a ps σ o e w = cc
  events_come (then_node (loop l h c) b) a ps σ o e w = cc
  events_come (then_node (choose arms) b) a ps σ o e w = cc

  chosen_come : (z : Bool) (x y : Work) (a : Work) (run one other : Run) (ps : List (Option ℤ)) (σ : StoreOf) → Leads run one a (comes (x ps) σ run.output) → Leads run other a (comes (y ps) σ run.output) → Leads run (if z then one else other) a (comes ((if z then x else y) ps) σ run.output)
  chosen_come true x y a run one other ps σ h k = h
  chosen_come false x y a run one other ps σ h k = k

  then_rest : (n : PlanNode) (b : PlanBlock) (made : Run → Run) → is_last_stop n b ≡ false → Does (λ a. node_into Work D p none_open n a) made → Does (λ a. block_into Work D p none_open b a) (λ r. exec_block p.symbols (stripped b) r)
      → (a : Work) (run : Run) (ps : List (Option ℤ)) (σ : StoreOf) → run.end ≡ Done → At run.store ps σ → Leads run (then_do (made run) (λ r. exec_block p.symbols (stripped b) r)) a (comes (block_into Work D p none_open (then_node n b) a ps) σ run.output)
  then_rest n b made e h k a run ps σ d at =
      subst (λ (z : Bool). Leads run (then_do (made run) (λ r. exec_block p.symbols (stripped b) r)) a (comes ((if z then a else node_into Work D p none_open n (block_into Work D p none_open b a)) ps) σ run.output)) (sym e)
      (one_after (λ x. node_into Work D p none_open n x) (λ x. block_into Work D p none_open b x) made (λ r. exec_block p.symbols (stripped b) r) h k a run ps σ d at)

  mutual
    -- an iteration's range does what the range means
    pub block_comes : (b : PlanBlock) → BlockKnown b → (a : Work) (run : Run) (ps : List (Option ℤ)) (σ : StoreOf) → run.end ≡ Done → At run.store ps σ → Leads run (exec_block p.symbols (stripped b) run) a (comes (block_into Work D p none_open b a ps) σ run.output)
    block_comes no_nodes w a run ps σ d at = leads_on run run a ps σ d at refl
    block_comes (then_node (awaits e x) b) w a run ps σ d at =
        leads_is run (exec_block p.symbols (stripped b) run) a (comes (block_into Work D p none_open (then_node (awaits e x) b) a ps) σ run.output) (comes (block_into Work D p none_open b a ps) σ run.output)
        (ap (λ (z : Bool). comes (if z then await e x (block_into Work D p none_open b a ps) else gone) σ run.output) w.0) (block_comes b w.1 a run ps σ d at)
    block_comes (then_node (advances e) b) w a run ps σ d at =
        leads_is run (exec_block p.symbols (stripped b) run) a (comes (block_into Work D p none_open (then_node (advances e) b) a ps) σ run.output) (comes (block_into Work D p none_open b a ps) σ run.output)
        (ap (λ (z : Bool). comes (if z then advance e (block_into Work D p none_open b a ps) else gone) σ run.output) w.0) (block_comes b w.1 a run ps σ d at)
    block_comes (then_node (plain s) b) w a run ps σ d at =
        subst (λ (z : Bool). Leads run (if z then run else then_do (exec p.symbols (tree.plain s) run) (λ r. exec_block p.symbols (stripped b) r)) a (comes (block_into Work D p none_open (then_node (plain s) b) a ps) σ run.output)) (sym w.2)
        (then_rest (plain s) b (λ r. exec p.symbols (tree.plain s) r) w.1 (λ x r qs τ e t. kind_comes s.line r qs τ t s.kind x w.0 e) (λ x r qs τ e t. block_comes b w.3 x r qs τ e t) a run ps σ d at)
    block_comes (then_node (loop line h c) b) w a run ps σ d at =
        then_rest (loop line h c) b (λ r. exec p.symbols (tree.loop line h (stripped c)) r) refl
        (λ x r qs τ e t. serial_comes line h (λ y. block_into Work D p none_open c y) (λ r. exec_block p.symbols (stripped c) r) w.0 (λ y q us υ f u. block_comes c w.1 y q us υ f u) x r qs τ e t)
        (λ x r qs τ e t. block_comes b w.2 x r qs τ e t) a run ps σ d at
    block_comes (then_node (choose arms) b) w a run ps σ d at =
        then_rest (choose arms) b (λ r. exec p.symbols (tree.choose (stripped_arms arms)) r) refl (λ x r qs τ e t. arms_come arms w.0 x r qs τ e t) (λ x r qs τ e t. block_comes b w.1 x r qs τ e t) a run ps σ d at

    arms_come : (arms : PlanArms) → ArmsKnown arms → (a : Work) (run : Run) (ps : List (Option ℤ)) (σ : StoreOf) → run.end ≡ Done → At run.store ps σ → Leads run (exec_arms p.symbols (stripped_arms arms) run) a (comes (arms_into Work D p none_open arms a ps) σ run.output)
    arms_come no_arms w a run ps σ d at = leads_on run run a ps σ d at refl
    arms_come (made_else b) w a run ps σ d at = leads_is run run a (comes (block_into Work D p none_open b a ps) σ run.output) (comes (a ps) σ run.output) (events_come b a ps σ run.output w.0 w.1) (leads_on run run a ps σ d at refl)
    arms_come (then_arm line None b more) w a run ps σ d at = block_comes b w a run ps σ d at
    arms_come (then_arm line (Some c) b more) w a run ps σ d at =
        let x = block_into Work D p none_open b (D.local a) in
        let y = arms_into Work D p none_open more a in
        leads_value (value (looked_up p.symbols run.store) c) line run run (λ v. if is_true v then exec_block p.symbols (stripped b) run else exec_arms p.symbols (stripped_arms more) run) (λ v. comes ((if is_true v then x else y) ps) σ run.output) a (comes (arms_into Work D p none_open (then_arm line (Some c) b more) a ps) σ run.output)
        (value_comes line run ps σ at c (λ v. D.local (if is_true v then x else y)) w.0)
        (λ v. chosen_come (is_true v) x y a run (exec_block p.symbols (stripped b) run) (exec_arms p.symbols (stripped_arms more) run) ps σ
        (leads_local run (exec_block p.symbols (stripped b) run) (λ z. D.local z) a (comes (x ps) σ run.output) (λ qs τ t. refl) (block_comes b w.1 (D.local a) run ps σ d at))
        (arms_come more w.2 a run ps σ d at))
