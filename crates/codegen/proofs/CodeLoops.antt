-- What is known of each loop of code, by its plan.
use Rattle.std.proofs.Common.{◌≡◌, ◌∙◌, ◌⊎◌, inl, inr, refl, false, ◌<◌, ℕ, ℤ, Bool, true, List, [], ◌∷◌, ◌++◌, Option, get_or, length, subst, sym}
use Rattle.ast.specs.Store.{StoreOf}
use Rattle.ast.specs.Tree.{Ref, Terms}
use Rattle.dependence.specs.Plan.{PlanBlock, PlanPaths}
use Rattle.loop_tree.specs.Loops.{Loop}
use Rattle.loop_tree.specs.Paths.{Token, defines}
use Rattle.machine.specs.Code.{Code, Cell, loop_at}
use Rattle.machine.specs.Frame.{Frame}
use Rattle.machine.specs.View.{begin, defined_cells, index_at, trips_of, view}
use Rattle.machine.specs.declared.code.Open.{Open as Opened}
use Rattle.expr_code.specs.Places.{Places}
use Rattle.codegen.proofs.BlockWalking.{IsBody}
use Rattle.codegen.proofs.GoodPaths.{GoodPaths, at_leave, at_store, came, never_gone, never_read, plan_of}
use Rattle.codegen.proofs.IterationCode.{IsRange, iteration_process, iteration_stands}
use Rattle.codegen.proofs.IterationGoing.{iteration_along}
use Rattle.codegen.proofs.IterationPaths.{Along, At, Begun, Sound}
use Rattle.codegen.proofs.IterationSteps.{IsKey, Process, acts, after, leave}
use Rattle.codegen.proofs.LoopMachine.{Stores}
use Rattle.codegen.proofs.PlanPaths.{Comes}
use Rattle.codegen.proofs.ProgramStanding.{Loops}
use Rattle.codegen.proofs.Walking.{home_at}

-- of each loop, by its number: the loop of the source, its places, its plan's body, the cells of
-- scalars to which its range gives no value, and the events that it names
module _ (code : Code) (source : ℕ → Loop) (places : ℕ → Places) (body : ℕ → PlanBlock) (fixed : ℕ → Cell → Bool) (Named : ℕ → ℕ → Type 0) (Stands : ℕ → Ref → Terms → Type 0) (held : StoreOf → ℕ → ℤ) (Valid : Opened → Type 0) where
  abbrev pub start : Opened → StoreOf → ℕ → Process
  start l ι k = iteration_process code l.number (places l.number) (body l.number) (fixed l.number) ι (index_at code l k)

  abbrev pub HiddenIn : Opened → Cell → Type 0
  HiddenIn l c = (x : ℕ) × (x < length (places l.number).privates) × (c ≡ record { name = get_or (places l.number).privates x []; place = 0 })

  abbrev pub FixedIn : Opened → Cell → Type 0
  FixedIn l c = fixed l.number c ≡ true

  abbrev pub NamedIn : Opened → ℕ → Type 0
  NamedIn l e = Named l.number e

  -- what is known of a loop, on whatever store it is opened
  pub record IsPlanned (l : Opened) : Type 0 where
    pub range : IsRange code l.number (places l.number) (body l.number)
    pub is_body : IsBody (places l.number).symbols (home_at (places l.number)) (Stands l.number) (body l.number)
    pub sound : (ι : StoreOf) (k : ℕ) → Sound (source l.number) (held ι) (index_at code l k) (Stands l.number) (places l.number) (fixed l.number) ι (PlanPaths (body l.number))
    pub good : (ι : StoreOf) → GoodPaths (source l.number) (held ι) (λ k. index_at code l k) (Stands l.number) (places l.number) (fixed l.number) ι (PlanPaths (body l.number)) l.trips (NamedIn l)
    -- an iteration retires with its private scalars
    pub keys : (ps : List (Option ℤ)) (c : Cell) → IsKey c (defined_cells code (loop_at code l.number).privates ps) → HiddenIn l c
    -- scalars to which the range gives no value are neither given one nor private
    pub free : (ι : StoreOf) (k : ℕ) (r : Ref) (c : Cell) (u : List Token) → At (source l.number) (held ι) (index_at code l k) (Stands l.number) (places l.number) (fixed l.number) ι (PlanPaths (body l.number)) r c
        → Begun (source l.number) (held ι) (index_at code l k) (Stands l.number) (places l.number) (fixed l.number) ι (PlanPaths (body l.number)) (u ++ defines r ∷ []) → FixedIn l c → ⊥
    pub open_to_all : (c : Cell) → HiddenIn l c → FixedIn l c → ⊥

  module _ (planned : (l : Opened) → Valid l → IsPlanned l) where
    starts : (l : Opened) → Valid l → (ι : StoreOf) (k : ℕ) → Along (source l.number) (held ι) (index_at code l k) (Stands l.number) (places l.number) (fixed l.number) ι (PlanPaths (body l.number)) (start l ι k) []
    starts l v ι k =
        let w = planned l v in
        iteration_along code l.number (places l.number) (body l.number) (source l.number) (held ι) (index_at code l k) (Stands l.number) (fixed l.number) ι (w.sound ι k) w.is_body (sym (w.range).privates) w.keys

    -- what the machine's claims ask for of each loop
    pub code_loops : Loops Frame Opened (view code) trips_of (begin code) HiddenIn FixedIn NamedIn start Valid
    code_loops = record {
      plan = λ l v ι. plan_of (source l.number) (held ι) (λ k. index_at code l k) (Stands l.number) (places l.number) (fixed l.number) ι (PlanPaths (body l.number)) l.trips (NamedIn l) ((planned l v).good ι) (λ k. start l ι k) (λ k. starts l v ι k);
      never = λ l v ι k vs c at hidden. never_read (source l.number) (held ι) (λ k. index_at code l k) (Stands l.number) (places l.number) (fixed l.number) ι (PlanPaths (body l.number)) l.trips (NamedIn l) ((planned l v).good ι) (λ k. start l ι k) (λ k. starts l v ι k) k vs c at hidden;
      not_gone = λ l v ι k e. never_gone (source l.number) (held ι) (λ k. index_at code l k) (Stands l.number) (places l.number) (fixed l.number) ι (PlanPaths (body l.number)) l.trips (NamedIn l) ((planned l v).good ι) (λ k. start l ι k) (λ k. starts l v ι k) k e;
      free_store = λ l v ι k vs c at f. stored l v ι k vs c at f;
      free_leave = λ l v ι k vs xs e c key f. left_with l v ι k vs xs e c key f;
      decides = λ l v c. decided (fixed l.number c) refl;
      begins = λ l v ι k lt. iteration_stands code l (places l.number) (body l.number) (fixed l.number) ι k (planned l v).range;
    }
      where
        decided : {c : Bool} (b : Bool) → c ≡ b → (c ≡ true) ⊎ (c ≡ true → ⊥)
        decided true e = inl e
        decided false e = inr (λ z. let y : true ≡ false = sym z ∙ e in cc)

        stored : (l : Opened) → Valid l → (ι : StoreOf) (k : ℕ) (vs : List ℤ) (c : Cell) → Stores (after (start l ι k) vs) c → FixedIn l c → ⊥
        stored l v ι k vs c at f =
            let came_to = came (source l.number) (held ι) (λ k. index_at code l k) (Stands l.number) (places l.number) (fixed l.number) ι (PlanPaths (body l.number)) l.trips (NamedIn l) ((planned l v).good ι) (λ k. start l ι k) (λ k. starts l v ι k) k vs in
            let y = at_store (source l.number) (held ι) (λ k. index_at code l k) (Stands l.number) (places l.number) (fixed l.number) ι (PlanPaths (body l.number)) l.trips (NamedIn l) ((planned l v).good ι) (λ k. start l ι k) (λ k. starts l v ι k) k (after (start l ι k) vs) c came_to.0 (acts (start l ι k) vs) at came_to.2 in
            (planned l v).free ι k y.0 c came_to.0 y.1 y.2 f

        left_with : (l : Opened) → Valid l → (ι : StoreOf) (k : ℕ) (vs : List ℤ) (xs : List (Cell × ℤ)) → after (start l ι k) vs ≡ leave xs → (c : Cell) → IsKey c xs → FixedIn l c → ⊥
        left_with l v ι k vs xs e c key f =
            let came_to = came (source l.number) (held ι) (λ k. index_at code l k) (Stands l.number) (places l.number) (fixed l.number) ι (PlanPaths (body l.number)) l.trips (NamedIn l) ((planned l v).good ι) (λ k. start l ι k) (λ k. starts l v ι k) k vs in
            let at = subst (λ (P : Process). Comes (source l.number) (held ι) (index_at code l k) (Stands l.number) (places l.number) (fixed l.number) ι (PlanPaths (body l.number)) P came_to.0 (acts (start l ι k) vs)) e came_to.2 in
            (planned l v).open_to_all c (at_leave (source l.number) (held ι) (λ k. index_at code l k) (Stands l.number) (places l.number) (fixed l.number) ι (PlanPaths (body l.number)) l.trips (NamedIn l) ((planned l v).good ι) (λ k. start l ι k) (λ k. starts l v ι k) k xs c came_to.0 (acts (start l ι k) vs) key at) f
