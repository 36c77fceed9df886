-- A loop's iterations one after another come to what its DO means.
use Rattle.std.proofs.Common.{◌≡◌, ◌∙◌, ◌<◌, ◌+◌, ℕ, zero, suc, ℤ, Bool, true, false, List, [], ◌∷◌, Option, Some, None, Result, Ok, Err, length, get_or, refl, sym, ap, subst, ⊎_elim, arith}
use Rattle.std.specs.Prelude.{◌+ℤ◌, replicate, slice_get, if◌then◌else◌}
use Rattle.std.proofs.lemmas.List.{length-replicate}
use Rattle.ast.specs.Exact.{fits, in_range}
use Rattle.ast.specs.Meaning.{Run, going_on, then_do, given, written, turns, grown, exec_block}
use Rattle.ast.specs.Store.{StoreOf}
use Rattle.ast.specs.Symbols.{Extent, dimensions_in}
use Rattle.ast.specs.declared.fault.End.{End}
use Rattle.ast.specs.declared.fault.End.TheVariants.{Done, Stopped, Fault as Faulted}
use Rattle.ast.specs.declared.fault.Fault.{Fault}
use Rattle.ast.specs.declared.fault.Fault.TheVariants.{Overflow}
use Rattle.dependence.specs.Plan.{PlanBlock}
use Rattle.machine.specs.Code.{Code, Cell, cell_at, loop_at}
use Rattle.machine.specs.State.{put_cell, put_cells}
use Rattle.machine.specs.View.{failure, stop_at, defined_cells, index_at, stored_if}
use Rattle.machine.specs.declared.code.Open.{Open as Opened}
use Rattle.expr_code.specs.Places.{Places, Home, loop_index, private_scalar, in_store, home, home_of}
use Rattle.codegen.proofs.IterationCode.{iteration_process}
use Rattle.codegen.proofs.IterationLaws.{cases_cell, cell_other, cell_same, same_stores}
use Rattle.codegen.proofs.IterationSteps.{Process, leave, cell_value}
use Rattle.codegen.proofs.Meaning.{going_told, then_told}
use Rattle.codegen.proofs.Outcomes.{Outcome, done, failed}
use Rattle.codegen.proofs.Outcomes as outcomes
use Rattle.codegen.proofs.Comes.{comes, one_by_one}
use Rattle.codegen.proofs.IterationMeaning.{private_named, At, BlockKnown, block_comes, held_at, leads_by, own_or}
use Rattle.plan_check.specs.GoodPlan.{stripped}

-- ---- private scalars are stored as an iteration retires

module _ (code : Code) where
  -- the variables of these numbers have these names
  abbrev pub Aligned : List (List ℕ) → List ℕ → Type 0
  Aligned [] [] = Unit {0}
  Aligned (n ∷ ns) (x ∷ xs) = (cell_at (slice_get code.variables x) 0 ≡ Some (record { name = n; place = 0 })) × Aligned ns xs
  Aligned [] (x ∷ xs) = ⊥
  Aligned (n ∷ ns) [] = ⊥

  abbrev scalar : List (List ℕ) → ℕ → Cell
  scalar names x = record { name = get_or names x []; place = 0 }

  left_other : (names : List (List ℕ)) (xs : List ℕ) (ps : List (Option ℤ)) (τ : StoreOf) (c : Cell) → Aligned names xs → length ps ≡ length names → ((x : ℕ) → x < length names → c ≡ scalar names x → ⊥) → cell_value (put_cells τ (defined_cells code xs ps)) c ≡ cell_value τ c
  left_other [] [] ps τ c a len no_such = refl
  left_other [] (x ∷ xs) ps τ c a len no_such = absurd a
  left_other (n ∷ ns) [] ps τ c a len no_such = absurd a
  left_other (n ∷ ns) (x ∷ xs) [] τ c a len no_such = refl
  left_other (n ∷ ns) (x ∷ xs) (None ∷ qs) τ c a len no_such = left_other ns xs qs τ c a.1 (omega (arith, len)) (λ y l e. no_such (suc y) (omega (arith, l)) e)
  left_other (n ∷ ns) (x ∷ xs) (Some v ∷ qs) τ c a len no_such =
      ap (λ (o : Option Cell). cell_value (put_cells τ (stored_if o v (defined_cells code xs qs))) c) a.0
      ∙ cell_other (put_cells τ (defined_cells code xs qs)) (record { name = n; place = 0 }) v c (λ e. no_such 0 (omega arith) e)
      ∙ left_other ns xs qs τ c a.1 (omega (arith, len)) (λ y l e. no_such (suc y) (omega (arith, l)) e)

  left_own : (names : List (List ℕ)) (xs : List ℕ) (ps : List (Option ℤ)) (τ : StoreOf) (x : ℕ) → Aligned names xs → length ps ≡ length names → ((i j : ℕ) → i < length names → j < length names → get_or names i [] ≡ get_or names j [] → i ≡ j) → x < length names
      → cell_value (put_cells τ (defined_cells code xs ps)) (scalar names x) ≡ own_or (slice_get ps x) (cell_value τ (scalar names x))
  left_own [] xs ps τ x a len apart below = absurd (omega (arith, below))
  left_own (n ∷ ns) [] ps τ x a len apart below = absurd a
  left_own (n ∷ ns) (y ∷ ys) [] τ x a len apart below = absurd (omega (arith, len))
  left_own (n ∷ ns) (y ∷ ys) (None ∷ qs) τ zero a len apart below =
      left_other ns ys qs τ (record { name = n; place = 0 }) a.1 (omega (arith, len)) (λ i l e.
      let z : 0 ≡ suc i = apart 0 (suc i) (omega arith) (omega (arith, l)) (ap (λ (c : Cell). c.name) e) in absurd (omega (arith, z)))
  left_own (n ∷ ns) (y ∷ ys) (None ∷ qs) τ (suc x) a len apart below = left_own ns ys qs τ x a.1 (omega (arith, len)) (λ i j k l e. let z : suc i ≡ suc j = apart (suc i) (suc j) (omega (arith, k)) (omega (arith, l)) e in omega (arith, z)) (omega (arith, below))
  left_own (n ∷ ns) (y ∷ ys) (Some v ∷ qs) τ zero a len apart below =
      ap (λ (o : Option Cell). cell_value (put_cells τ (stored_if o v (defined_cells code ys qs))) (record { name = n; place = 0 })) a.0
      ∙ cell_same (put_cells τ (defined_cells code ys qs)) (record { name = n; place = 0 }) v
  left_own (n ∷ ns) (y ∷ ys) (Some v ∷ qs) τ (suc x) a len apart below =
      ap (λ (o : Option Cell). cell_value (put_cells τ (stored_if o v (defined_cells code ys qs))) (scalar ns x)) a.0
      ∙ cell_other (put_cells τ (defined_cells code ys qs)) (record { name = n; place = 0 }) v (scalar ns x) (λ e.
      let z : suc x ≡ 0 = apart (suc x) 0 below (omega arith) (ap (λ (c : Cell). c.name) e) in absurd (omega (arith, z)))
      ∙ left_own ns ys qs τ x a.1 (omega (arith, len)) (λ i j k l e. let z : suc i ≡ suc j = apart (suc i) (suc j) (omega (arith, k)) (omega (arith, l)) e in omega (arith, z)) (omega (arith, below))

-- ---- the loop

-- What is known of an open loop: variable: the name of its DO variable.
pub record IsLoop (code : Code) (n : ℕ) (p : Places) (body : PlanBlock) (fixed : Cell → Bool) (variable : List ℕ) : Type 0 where
  pub aligned : Aligned code p.privates (loop_at code n).privates
  pub count : length (loop_at code n).privates ≡ length p.privates
  pub homes : (x : ℕ) → x < length p.privates → home_of p (get_or p.privates x []) ≡ private_scalar x
  pub own : home_of p variable ≡ loop_index
  pub only : (name : List ℕ) → home_of p name ≡ loop_index → name ≡ variable
  pub free : (x : ℕ) → x < length p.privates → fixed (record { name = get_or p.privates x []; place = 0 }) ≡ false
  pub joins : cell_at (slice_get code.variables (loop_at code n).variable) 0 ≡ Some (record { name = variable; place = 0 })
  pub known : (index : ℤ) (opened : StoreOf) → BlockKnown p index fixed opened body

pub ok_is : (z v : ℤ) → in_range z ≡ Ok v → v ≡ z
ok_is z v e = by (fits z) refl e
  where
    by : (b : Bool) → fits z ≡ b → (if b then Ok z else Err Overflow) ≡ Ok v → v ≡ z
    by true f h = cc
    by false f h = cc

none_at : (n x : ℕ) (w : ℤ) → own_or (slice_get (replicate n None) x) w ≡ w
none_at zero x w = refl
none_at (suc n) zero w = refl
none_at (suc n) (suc x) w = none_at n x w

module _ (code : Code) (l : Opened) (p : Places) (body : PlanBlock) (fixed : Cell → Bool) (variable : List ℕ) (w : IsLoop code l.number p body fixed variable) (opened : StoreOf) where
  abbrev begins : ℕ → Process
  begins k = iteration_process code l.number p body fixed opened (index_at code l k)

  abbrev pub none : List (Option ℤ)
  none = replicate (length (loop_at code l.number).privates) None

  abbrev AtIn : ℕ → StoreOf → List (Option ℤ) → StoreOf → Type 0
  AtIn k ρ ps σ = At p (index_at code l k) fixed opened ρ ps σ

  abbrev dv : Cell
  dv = record { name = variable; place = 0 }

  apart : (i j : ℕ) → i < length p.privates → j < length p.privates → get_or p.privates i [] ≡ get_or p.privates j [] → i ≡ j
  apart i j k m e = let z : private_scalar i ≡ private_scalar j = sym (w.homes i k) ∙ ap (λ (n : List ℕ). home_of p n) e ∙ w.homes j m in cc

  -- a cell at a place that isn't the first, or of a variable in the store, is no private scalar's
  not_place : (c : Cell) (n x : ℕ) → c.place ≡ suc n → c ≡ scalar code p.privates x → ⊥
  not_place c n x e h = let z : 0 ≡ suc n = sym (ap (λ (d : Cell). d.place) h) ∙ e in absurd (omega (arith, z))

  not_home : (c : Cell) (x : ℕ) (o : Home) → x < length p.privates → home_of p c.name ≡ o → (o ≡ private_scalar x → ⊥) → c ≡ scalar code p.privates x → ⊥
  not_home c x o below e ne h = ne (sym e ∙ ap (λ (d : Cell). home_of p d.name) h ∙ w.homes x below)

  unchanged : (τ : StoreOf) (ps : List (Option ℤ)) (c : Cell) → length ps ≡ length p.privates → ((x : ℕ) → x < length p.privates → c ≡ scalar code p.privates x → ⊥) → cell_value (put_cells τ (defined_cells code (loop_at code l.number).privates ps)) c ≡ cell_value τ c
  unchanged τ ps c len h = left_other code p.privates (loop_at code l.number).privates ps τ c w.aligned len h

  -- the next iteration finds what the one before left
  pub next_at : (k : ℕ) (ρ : StoreOf) (ps : List (Option ℤ)) (τ : StoreOf) (v : ℤ) → v ≡ index_at code l (suc k) → AtIn k ρ ps τ → AtIn (suc k) (put_cell ρ (record { name = variable; place = 0 }) v) none (put_cells τ (defined_cells code (loop_at code l.number).privates ps))
  next_at k ρ ps τ v is at = record {
    seen = λ c. ⊎_elim
        (λ e. subst (λ (d : Cell). cell_value (put_cell ρ dv v) d ≡ held_at (home_of p d.name) (index_at code l (suc k)) none d.place (cell_value υ d)) (sym e)
        (cell_same ρ dv v ∙ is ∙ sym (ap (λ (o : Home). held_at o (index_at code l (suc k)) none 0 (cell_value υ dv)) w.own)))
        (λ ne. cell_other ρ dv v c ne ∙ at.seen c ∙ by (home_of p c.name) c refl ne)
        (cases_cell c dv);
    steady = λ c f. unchanged τ ps c at.count (λ x below h. let z : true ≡ false = sym f ∙ ap fixed h ∙ w.free x below in cc) ∙ at.steady c f;
    count = length-replicate {A = Option ℤ} (length (loop_at code l.number).privates) None ∙ w.count;
  }
    where
      υ : StoreOf
      υ = put_cells τ (defined_cells code (loop_at code l.number).privates ps)

      i : ℤ
      i = index_at code l k

      j : ℤ
      j = index_at code l (suc k)

      at_index : (c : Cell) (n : ℕ) → c.place ≡ n → home_of p c.name ≡ loop_index → (c ≡ dv → ⊥) → held_at loop_index (index_at code l k) ps n (cell_value τ c) ≡ held_at loop_index (index_at code l (suc k)) none n (cell_value υ c)
      at_index c zero e h ne = absurd (ne (ap (λ (z : ℕ). record { name = c.name; place = z }) e ∙ ap (λ (z : List ℕ). record { name = z; place = 0 }) (w.only c.name h)))
      at_index c (suc n) e h ne = sym (unchanged τ ps c at.count (λ x below q. not_place c n x e q))

      at_own : (c : Cell) (x n : ℕ) → c.place ≡ n → home_of p c.name ≡ private_scalar x → x < length p.privates → get_or p.privates x [] ≡ c.name → held_at (private_scalar x) (index_at code l k) ps n (cell_value τ c) ≡ held_at (private_scalar x) (index_at code l (suc k)) none n (cell_value υ c)
      at_own c x zero e h below name =
          let is_cell : scalar code p.privates x ≡ c = ap (λ (z : List ℕ). record { name = z; place = 0 }) name ∙ ap (λ (z : ℕ). record { name = c.name; place = z }) (sym e) in
          sym (none_at (length (loop_at code l.number).privates) x (cell_value υ c) ∙ subst (λ (d : Cell). cell_value υ d ≡ own_or (slice_get ps x) (cell_value τ d)) is_cell (left_own code p.privates (loop_at code l.number).privates ps τ x w.aligned at.count apart below))
      at_own c x (suc n) e h below name = sym (unchanged τ ps c at.count (λ y b q. not_place c n y e q))

      by : (o : Home) (c : Cell) → home_of p c.name ≡ o → (c ≡ dv → ⊥) → held_at (home_of p c.name) (index_at code l k) ps c.place (cell_value τ c) ≡ held_at (home_of p c.name) (index_at code l (suc k)) none c.place (cell_value υ c)
      by loop_index c e ne = ap (λ (o : Home). held_at o (index_at code l k) ps c.place (cell_value τ c)) e ∙ at_index c c.place refl e ne ∙ ap (λ (o : Home). held_at o (index_at code l (suc k)) none c.place (cell_value υ c)) (sym e)
      by (private_scalar x) c e ne =
          let m = named c.name x e in
          ap (λ (o : Home). held_at o (index_at code l k) ps c.place (cell_value τ c)) e ∙ at_own c x c.place refl e m.0 m.1 ∙ ap (λ (o : Home). held_at o (index_at code l (suc k)) none c.place (cell_value υ c)) (sym e)
        where
          named : (name : List ℕ) (x : ℕ) → home_of p name ≡ private_scalar x → (x < length p.privates) × (get_or p.privates x [] ≡ name)
          named name x e = private_named p name x (scalar_only (dimensions_in p.symbols name) e)
            where
              scalar_only : (ds : List Extent) → home p ds name ≡ private_scalar x → home p [] name ≡ private_scalar x
              scalar_only [] e = e
              scalar_only (d ∷ ds) e = cc
      by in_store c e ne =
          ap (λ (o : Home). held_at o (index_at code l k) ps c.place (cell_value τ c)) e
          ∙ sym (unchanged τ ps c at.count (λ x below h. not_home c x in_store below e (λ z. cc) h))
          ∙ ap (λ (o : Home). held_at o (index_at code l (suc k)) none c.place (cell_value υ c)) (sym e)

  -- of any other cell an iteration that has defined nothing sees the store
  pub store_is : (k : ℕ) (σ : StoreOf) (c : Cell) → (c ≡ dv → ⊥) → held_at (home_of p c.name) (index_at code l k) none c.place (cell_value σ c) ≡ cell_value σ c
  store_is k σ c ne = by (home_of p c.name) c.place refl refl
    where
      by : (o : Home) (n : ℕ) → home_of p c.name ≡ o → c.place ≡ n → held_at o (index_at code l k) none n (cell_value σ c) ≡ cell_value σ c
      by loop_index zero e f = absurd (ne (ap (λ (z : ℕ). record { name = c.name; place = z }) f ∙ ap (λ (z : List ℕ). record { name = z; place = 0 }) (w.only c.name e)))
      by loop_index (suc n) e f = refl
      by (private_scalar x) zero e f = none_at (length (loop_at code l.number).privates) x (cell_value σ c)
      by (private_scalar x) (suc n) e f = refl
      by in_store n e f = refl

  -- the first iteration finds the store at the loop's opening
  pub first_at : (v : ℤ) → v ≡ index_at code l 0 → AtIn 0 (put_cell opened (record { name = variable; place = 0 }) v) none opened
  first_at v is = record {
    seen = λ c. ⊎_elim
        (λ e. subst (λ (d : Cell). cell_value (put_cell opened dv v) d ≡ held_at (home_of p d.name) (index_at code l 0) none d.place (cell_value opened d)) (sym e)
        (cell_same opened dv v ∙ is ∙ sym (ap (λ (o : Home). held_at o (index_at code l 0) none 0 (cell_value opened dv)) w.own)))
        (λ ne. cell_other opened dv v c ne ∙ sym (store_is 0 opened c ne))
        (cases_cell c dv);
    steady = λ c f. refl;
    count = length-replicate {A = Option ℤ} (length (loop_at code l.number).privates) None ∙ w.count;
  }

  -- behind the last iteration the DO variable alone isn't stored yet
  pub last_is : (k : ℕ) (ρ σ : StoreOf) (v : ℤ) → v ≡ index_at code l k → AtIn k ρ none σ → put_cell σ (record { name = variable; place = 0 }) v ≡ ρ
  last_is k ρ σ v is at = same_stores (λ c. ⊎_elim
      (λ e. subst (λ (d : Cell). cell_value (put_cell σ dv v) d ≡ cell_value ρ d) (sym e)
      (cell_same σ dv v ∙ is ∙ sym (at.seen dv ∙ ap (λ (o : Home). held_at o (index_at code l k) none 0 (cell_value σ dv)) w.own)))
      (λ ne. cell_other σ dv v c ne ∙ sym (at.seen c ∙ store_is k σ c ne))
      (cases_cell c dv))

  abbrev pub range_of : Run → Run
  range_of run = exec_block p.symbols (stripped body) run

  -- a range is gone through: so is its iteration
  pub record Ranged (k : ℕ) (run : Run) (σ : StoreOf) : Type 0 where
    pub left : StoreOf
    pub goes : comes (begins k) σ run.output ≡ done left (range_of run).output
    pub at : AtIn (suc k) (put_cell (range_of run).store (record { name = variable; place = 0 }) (index_at code l (suc k))) none left
    pub unread : (range_of run).input ≡ run.input
    pub index : (range_of run).store variable 0 ≡ index_at code l k

  abbrev leads : (k : ℕ) (run : Run) (σ : StoreOf) → End → Type 0
  leads k run σ x = leads_by p (index_at code l k) fixed opened x run (range_of run) (λ ps. leave (defined_cells code (loop_at code l.number).privates ps)) (comes (begins k) σ run.output)

  led : (k : ℕ) (run : Run) (σ : StoreOf) → run.end ≡ Done → AtIn k run.store none σ → leads k run σ (range_of run).end
  led k run σ d at = block_comes p (index_at code l k) fixed opened body (w.known (index_at code l k) opened) (λ ps. leave (defined_cells code (loop_at code l.number).privates ps)) run none σ d at

  pub range_reach : (k : ℕ) (run : Run) (σ : StoreOf) → run.end ≡ Done → AtIn k run.store none σ → (range_of run).end ≡ Done → Ranged k run σ
  range_reach k run σ d at e =
      let c : leads k run σ Done = subst (leads k run σ) e (led k run σ d at) in
      record {
        left = put_cells c.1 (defined_cells code (loop_at code l.number).privates c.0);
        goes = c.4;
        at = next_at k (range_of run).store c.0 c.1 (index_at code l (suc k)) refl c.2;
        unread = c.3;
        index = (c.2).seen dv ∙ ap (λ (o : Home). held_at o (index_at code l k) c.0 0 (cell_value c.1 dv)) w.own;
      }

  -- an iteration retires: so its range is gone through
  pub range_back : (k : ℕ) (run : Run) (σ τ : StoreOf) (u : List ℕ) → run.end ≡ Done → AtIn k run.store none σ → comes (begins k) σ run.output ≡ done τ u → (range_of run).end ≡ Done
  range_back k run σ τ u d at e = by (range_of run).end refl (led k run σ d at)
    where
      by : (x : End) → (range_of run).end ≡ x → leads k run σ x → (range_of run).end ≡ Done
      by Done f h = f
      by (Stopped y) f h = let z = sym e ∙ h in absurd cc
      by (Faulted q y) f h = let z = sym e ∙ h in absurd cc

  -- n turns from iteration k on come to an end: so do as many iterations
  pub record Reached (trip : Run → Run) (n k : ℕ) (run : Run) (σ : StoreOf) : Type 0 where
    pub left : StoreOf
    pub comes : one_by_one begins n k σ run.output ≡ done left (turns trip n run).output
    pub at : AtIn (k + n) (turns trip n run).store none left
    pub unread : (turns trip n run).input ≡ run.input
    pub valid : (v : ℤ) × (in_range (index_at code l (k + n)) ≡ Ok v)

  module _ (line : ℕ) (step : ℤ) (steps : (k : ℕ) → index_at code l k +ℤ step ≡ index_at code l (suc k)) where
    abbrev pub trip_of : Run → Run
    trip_of r = then_do (range_of r) (λ y. grown line variable step y)

    -- what comes to an end has gone on before
    went_on : (r : Run) (f : Run → Run) → (then_do r f).end ≡ Done → (r.end ≡ Done) × (then_do r f ≡ f r)
    went_on r f h = by r.end refl h
      where
        by : (x : End) → r.end ≡ x → (going_on x r f).end ≡ Done → (r.end ≡ Done) × (going_on x r f ≡ f r)
        by Done e h = (e, refl)
        by (Stopped y) e h = cc
        by (Faulted c y) e h = cc

    -- a variable that grows has a value
    has_grown : (q : Result ℤ Fault) (r : Run) → (given q line r (λ v. written r variable 0 v)).end ≡ Done → (v : ℤ) × (q ≡ Ok v) × (given q line r (λ v. written r variable 0 v) ≡ written r variable 0 v)
    has_grown (Ok v) r h = (v, refl, refl)
    has_grown (Err c) r h = cc

    -- a turn, and then those behind it
    turn_reaches : (n k : ℕ) (run next : Run) (σ : StoreOf) (c : Ranged k run σ) → next.output ≡ (range_of run).output → next.input ≡ (range_of run).input → turns trip_of (suc n) run ≡ turns trip_of n next → Reached trip_of n (suc k) next c.left → Reached trip_of (suc n) k run σ
    turn_reaches n k run next σ c out input same rest = record {
      left = rest.left;
      comes =
          ap (λ (q : Outcome). outcomes.then_do q (λ τ t. one_by_one begins n (suc k) τ t)) c.goes ∙ ap (λ (t : List ℕ). one_by_one begins n (suc k) c.left t) (sym out)
          ∙ rest.comes ∙ ap (λ (r : Run). done rest.left r.output) (sym same);
      at = subst (λ (r : Run). AtIn (k + suc n) r.store none rest.left) (sym same) (subst (λ (j : ℕ). AtIn j (turns trip_of n next).store none rest.left) e rest.at);
      unread = ap (λ (r : Run). r.input) same ∙ rest.unread ∙ input ∙ c.unread;
      valid = subst (λ (j : ℕ). (v : ℤ) × (in_range (index_at code l j) ≡ Ok v)) e rest.valid;
    }
      where
        e : suc k + n ≡ k + suc n
        e = omega arith

    pub turns_reach : (n k : ℕ) (run : Run) (σ : StoreOf) → run.end ≡ Done → AtIn k run.store none σ → ((v : ℤ) × (in_range (index_at code l k) ≡ Ok v)) → (turns trip_of n run).end ≡ Done → Reached trip_of n k run σ
    turns_reach zero k run σ d at v h =
        let e : k ≡ k + 0 = omega arith in
        record { left = σ; comes = refl; at = subst (λ (j : ℕ). AtIn j run.store none σ) e at; unread = refl; valid = subst (λ (j : ℕ). (v : ℤ) × (in_range (index_at code l j) ≡ Ok v)) e v }
    turns_reach (suc n) k run σ d at v h =
        let a = went_on (trip_of run) (λ r. turns trip_of n r) h in
        let b = went_on (range_of run) (λ y. grown line variable step y) a.0 in
        let c = range_reach k run σ d at b.0 in
        let g = has_grown (in_range ((range_of run).store variable 0 +ℤ step)) (range_of run) (sym (ap (λ (r : Run). r.end) b.1) ∙ a.0) in
        let grows : in_range (index_at code l (suc k)) ≡ Ok g.0 = sym (ap (λ (z : ℤ). in_range (z +ℤ step)) c.index ∙ ap in_range (steps k)) ∙ g.1 in
        let same : turns trip_of (suc n) run ≡ turns trip_of n (written (range_of run) variable 0 g.0) = a.1 ∙ ap (λ (r : Run). turns trip_of n r) (b.1 ∙ g.2) in
        let next = subst (λ (z : ℤ). AtIn (suc k) (put_cell (range_of run).store (record { name = variable; place = 0 }) z) none c.left) (sym (ok_is (index_at code l (suc k)) g.0 grows)) c.at in
        turn_reaches n k run (written (range_of run) variable 0 g.0) σ c refl refl same
        (turns_reach n (suc k) (written (range_of run) variable 0 g.0) c.left b.0 next (g.0, grows) (sym (ap (λ (r : Run). r.end) same) ∙ h))

  module _ (line total : ℕ) (step : ℤ) (steps : (k : ℕ) → index_at code l k +ℤ step ≡ index_at code l (suc k)) (inside : (k : ℕ) → k < total → in_range (index_at code l k) ≡ Ok (index_at code l k))
      (K : StoreOf → List ℕ → Outcome) (N : Run → Outcome) (input : List (List ℕ))
      (fine : (v : ℤ) → in_range (index_at code l total) ≡ Ok v → (run : Run) (σ : StoreOf) → run.end ≡ Done → AtIn total run.store none σ → run.input ≡ input → K σ run.output ≡ N run)
      (over : (e : Fault) → in_range (index_at code l total) ≡ Err e → (σ : StoreOf) (o : List ℕ) → K σ o ≡ failed (failure e line) o) where
    abbrev trip : Run → Run
    trip r = then_do (exec_block p.symbols (stripped body) r) (λ y. grown line variable step y)

    -- a loop does what its DO means, from iteration k on
    pub loop_comes : (n k : ℕ) → k + n ≡ total → (run : Run) (σ : StoreOf) → run.end ≡ Done → AtIn k run.store none σ → run.input ≡ input → (n ≡ 0 → (v : ℤ) × (in_range (index_at code l total) ≡ Ok v))
        → outcomes.then_do (one_by_one begins n k σ run.output) K ≡ then_told (turns trip n run) N
    loop_comes zero k e run σ d at i there =
        let t = there refl in
        let is : k ≡ total = omega (arith, e) in
        fine t.0 t.1 run σ d (subst (λ (j : ℕ). AtIn j run.store none σ) is at) i ∙ sym (ap (λ (x : End). going_told x run N) d)
    loop_comes (suc n) k e run σ d at i there = by (exec_block p.symbols (stripped body) run).end refl (block_comes p (index_at code l k) fixed opened body (w.known (index_at code l k) opened) (λ ps. leave (defined_cells code (loop_at code l.number).privates ps)) run none σ d at)
        (λ f run' σ' d' at' i' there'. loop_comes n (suc k) f run' σ' d' at' i' there')
      where
        r1 : Run
        r1 = exec_block p.symbols (stripped body) run

        first : Outcome
        first = comes (begins k) σ run.output

        by : (x : End) → (exec_block p.symbols (stripped body) run).end ≡ x → leads_by p (index_at code l k) fixed opened x run (exec_block p.symbols (stripped body) run) (λ ps. leave (defined_cells code (loop_at code l.number).privates ps)) (comes (begins k) σ run.output)
            → (suc k + n ≡ total → (run' : Run) (σ' : StoreOf) → run'.end ≡ Done → AtIn (suc k) run'.store none σ' → run'.input ≡ input → (n ≡ 0 → (v : ℤ) × (in_range (index_at code l total) ≡ Ok v)) → outcomes.then_do (one_by_one begins n (suc k) σ' run'.output) K ≡ then_told (turns trip n run') N)
            → outcomes.then_do (outcomes.then_do (comes (begins k) σ run.output) (λ τ t. one_by_one begins n (suc k) τ t)) K ≡ then_told (then_do (trip run) (λ r. turns trip n r)) N
        by (Stopped y) f h further = ap (λ (q : Outcome). outcomes.then_do (outcomes.then_do q (λ τ t. one_by_one begins n (suc k) τ t)) K) h ∙ sym broken
          where
            broken : then_told (then_do (trip run) (λ r. turns trip n r)) N ≡ failed (stop_at y) r1.output
            broken =
                let a : trip run ≡ r1 = ap (λ (z : End). going_on z r1 (λ s. grown line variable step s)) f in
                ap (λ (s : Run). then_told (then_do s (λ r. turns trip n r)) N) a
                ∙ ap (λ (z : End). then_told (going_on z r1 (λ r. turns trip n r)) N) f
                ∙ ap (λ (z : End). going_told z r1 N) f
                ∙ ap (λ (z : End). outcomes.told_by z r1) f
        by (Faulted c y) f h further = ap (λ (q : Outcome). outcomes.then_do (outcomes.then_do q (λ τ t. one_by_one begins n (suc k) τ t)) K) h ∙ sym broken
          where
            broken : then_told (then_do (trip run) (λ r. turns trip n r)) N ≡ failed (failure c y) r1.output
            broken =
                let a : trip run ≡ r1 = ap (λ (z : End). going_on z r1 (λ s. grown line variable step s)) f in
                ap (λ (s : Run). then_told (then_do s (λ r. turns trip n r)) N) a
                ∙ ap (λ (z : End). then_told (going_on z r1 (λ r. turns trip n r)) N) f
                ∙ ap (λ (z : End). going_told z r1 N) f
                ∙ ap (λ (z : End). outcomes.told_by z r1) f
        by Done f h further =
            let ends : trip run ≡ grown line variable step r1 = ap (λ (z : End). going_on z r1 (λ s. grown line variable step s)) f in
            let here : r1.store variable 0 ≡ index_at code l k = (h.2).seen dv ∙ ap (λ (o : Home). held_at o (index_at code l k) h.0 0 (cell_value h.1 dv)) w.own in
            let grows : in_range (r1.store variable 0 +ℤ step) ≡ in_range (index_at code l (suc k)) = ap (λ (z : ℤ). in_range (z +ℤ step)) here ∙ ap in_range (steps k) in
            ap (λ (q : Outcome). outcomes.then_do (outcomes.then_do q (λ τ t. one_by_one begins n (suc k) τ t)) K) h.4
            ∙ onwards (in_range (index_at code l (suc k))) refl
            ∙ ap (λ (q : Result ℤ Fault). then_told (then_do (given q line r1 (λ v. written r1 variable 0 v)) (λ r. turns trip n r)) N) (sym grows)
            ∙ ap (λ (s : Run). then_told (then_do s (λ r. turns trip n r)) N) (sym ends)
          where
            υ : StoreOf
            υ = put_cells h.1 (defined_cells code (loop_at code l.number).privates h.0)

            -- it is the last trip
            last : (m : ℕ) → n ≡ m → (c : Fault) → in_range (index_at code l (suc k)) ≡ Err c → outcomes.then_do (one_by_one begins m (suc k) υ r1.output) K ≡ failed (failure c line) r1.output
            last zero g c z = let t : suc k ≡ total = omega (arith, e, g) in over c (ap (λ (j : ℕ). in_range (index_at code l j)) (sym t) ∙ z) υ r1.output
            last (suc m) g c z = let t : suc k < total = omega (arith, e, g) in let y : Err c ≡ Ok (index_at code l (suc k)) = sym z ∙ inside (suc k) t in cc

            onwards : (q : Result ℤ Fault) → in_range (index_at code l (suc k)) ≡ q → outcomes.then_do (one_by_one begins n (suc k) υ r1.output) K ≡ then_told (then_do (given q line r1 (λ v. written r1 variable 0 v)) (λ r. turns trip n r)) N
            onwards (Ok v) g =
                further (omega (arith, e)) (written r1 variable 0 v) υ f (next_at k r1.store h.0 h.1 v (ok_is (index_at code l (suc k)) v g) h.2) (h.3 ∙ i)
                (λ z. let t : suc k ≡ total = omega (arith, e, z) in (v, ap (λ (j : ℕ). in_range (index_at code l j)) (sym t) ∙ g))
                ∙ sym (ap (λ (z : End). then_told (going_on z (written r1 variable 0 v) (λ r. turns trip n r)) N) f)
            onwards (Err c) g = last n refl c g
