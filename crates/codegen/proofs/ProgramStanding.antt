-- Between frames and processes, and what holds in every state of every run.
use Rattle.std.proofs.Common.{refl, sym, subst, ◌∷◌, ◌≡◌, ℕ, ◌+◌, ◌-◌, ◌<◌, ◌≤◌, ◌⊎◌, ℤ, List, [], ◌++◌, Some, None}
use Rattle.ast.specs.Store.{StoreOf}
use Rattle.ast.specs.declared.fault.End.{End}
use Rattle.ast.specs.declared.fault.End.TheVariants.{Done, Stopped, Fault as Faulted}
use Rattle.machine.specs.Code.{Cell}
use Rattle.machine.specs.State.{State, Active, Wait, until_count, until_retired}
use Rattle.machine.specs.View.{failure, stop_at, Input, View, doing, loading, storing, printing, awaiting, advancing, leaving, reading, opening, joining, halting, breaking}
use Rattle.codegen.proofs.IterationSteps.{Process, load, store, print, await, advance, tick, fault, leave, gone, IsKey, acts, after, cell_value}
use Rattle.codegen.proofs.LoopMachine.{Inside, Inv, Loads, Plan, Stores}
use Rattle.codegen.proofs.LoopRuns.{pasts, prints, shown}
use Rattle.codegen.proofs.ProgramPlaces.{Whereabouts}
use Rattle.codegen.proofs.Outcomes.{Outcome, done, failed}
use Rattle.codegen.proofs.ProgramSteps.{Main, take, keep, say, get, work, crash, halt, open_loop, astray, Here, alone}

-- where a parked iteration waits, by what it stands at
abbrev pub WaitsFor : Process → ℕ → Wait → Type 0
WaitsFor (await e d P) k w = w ≡ until_count e (k + 1 - d)
WaitsFor (leave xs) k w = w ≡ until_retired k
WaitsFor (fault c) k w = w ≡ until_retired k
WaitsFor _ k w = ⊥

module _ (F L : Type 0) (view : F → View F L) where
  -- Hidden: the cells of the loop's private scalars; Fixed: those of the scalars to which its range
  -- gives no value, which keep those that they had at its opening
  module _ (Hidden Fixed : Cell → Type 0) (opened : StoreOf) where
    -- the frame does what the process does; of a private scalar's cell nothing is claimed
    abbrev pub Stands : Process → F → Type 0
    Stands (load r c κ) f = (Hidden c → ⊥) → (φ : ℤ → F) × (view f ≡ loading c φ) × ((v : ℤ) → Stands (κ v) (φ v))
    Stands (store r c v P) f = (g : F) × (view f ≡ storing c v g) × Stands P g
    Stands (print bytes P) f = (g : F) × (view f ≡ printing bytes g) × Stands P g
    Stands (await e d P) f = (g : F) × (view f ≡ awaiting e d g) × Stands P g
    Stands (advance e P) f = (g : F) × (view f ≡ advancing e g) × Stands P g
    Stands (tick P) f = ((g : F) × (view f ≡ doing g) × Stands P g) ⊎ ((c : Cell) × (φ : ℤ → F) × Fixed c × (view f ≡ loading c φ) × Stands P (φ (cell_value opened c)))
    Stands (fault c) f = view f ≡ breaking c
    Stands (leave xs) f = view f ≡ leaving xs
    Stands gone f = Unit {0}

    -- where one step leads that is given this value, 0 where nothing is loaded
    abbrev pub Steps : View F L → ℤ → F → Type 0
    Steps (doing g) v h = g ≡ h
    Steps (loading c φ) v h = ((Fixed c → ⊥) × (φ v ≡ h)) ⊎ (Fixed c × (φ (cell_value opened c) ≡ h))
    Steps (storing c w g) v h = g ≡ h
    Steps (printing bytes g) v h = g ≡ h
    Steps (awaiting e d g) v h = g ≡ h
    Steps (advancing e g) v h = g ≡ h
    Steps _ v h = ⊥

    -- and several
    abbrev pub Leads : F → List ℤ → F → Type 0
    Leads f [] g = f ≡ g
    Leads f (v ∷ vs) g = (h : F) × Steps (view f) v h × Leads h vs g

    pub leads_on : (f : F) (vs : List ℤ) (v : ℤ) (g h : F) → Leads f vs g → Steps (view g) v h → Leads f (vs ++ v ∷ []) h
    leads_on f [] v g h e s = (h, subst (λ (x : F). Steps (view x) v h) (sym e) s, refl)
    leads_on f (w ∷ vs) v g h l s = (l.0, l.1, leads_on l.0 vs v g h l.2 s)

  -- the frame does what main may still do; Valid: the loops of the program
  module _ (Valid : L → Type 0) where
    abbrev pub MainStands : Main L → F → Type 0
    MainStands (take c κ) f = (φ : ℤ → F) × (view f ≡ loading c φ) × ((v : ℤ) → MainStands (κ v) (φ v))
    MainStands (keep c v M) f = (g : F) × (view f ≡ storing c v g) × MainStands M g
    MainStands (say bytes M) f = (g : F) × (view f ≡ printing bytes g) × MainStands M g
    MainStands (get ρ κ) f = (φ : Input → F) × (view f ≡ reading ρ φ) × ((i : Input) → MainStands (κ i) (φ i))
    MainStands (work M) f = (g : F) × (view f ≡ doing g) × MainStands M g
    MainStands (crash c) f = view f ≡ breaking c
    MainStands halt f = view f ≡ halting
    MainStands (open_loop l xs M) f = Valid l × (g : F) × (view f ≡ opening l g) × (ρ : L → List (Cell × ℤ)) × (φ : L → F) × (view g ≡ joining ρ φ) × (ρ l ≡ xs) × MainStands M (φ l)
    MainStands astray f = Unit {0}

    -- at the join of an open loop
    abbrev pub AtJoin : L → List (Cell × ℤ) → Main L → F → Type 0
    AtJoin l xs M f = (ρ : L → List (Cell × ℤ)) × (φ : L → F) × (view f ≡ joining ρ φ) × (ρ l ≡ xs) × MainStands M (φ l)

  -- what holds of each loop of the program
  pub record Loops (trips : L → ℕ) (begin : L → ℕ → F) (Hidden Fixed : L → Cell → Type 0) (Named : L → ℕ → Type 0) (start : L → StoreOf → ℕ → Process) (Valid : L → Type 0) : Type 0 where
    pub plan : (l : L) → Valid l → (ι : StoreOf) → Plan (start l ι) (trips l) (Named l)
    pub never : (l : L) → Valid l → (ι : StoreOf) (k : ℕ) (vs : List ℤ) (c : Cell) → Loads (after (start l ι k) vs) c → Hidden l c → ⊥
    pub not_gone : (l : L) → Valid l → (ι : StoreOf) (k : ℕ) → start l ι k ≡ gone → ⊥
    pub free_store : (l : L) → Valid l → (ι : StoreOf) (k : ℕ) (vs : List ℤ) (c : Cell) → Stores (after (start l ι k) vs) c → Fixed l c → ⊥
    pub free_leave : (l : L) → Valid l → (ι : StoreOf) (k : ℕ) (vs : List ℤ) (xs : List (Cell × ℤ)) → after (start l ι k) vs ≡ leave xs → (c : Cell) → IsKey c xs → Fixed l c → ⊥
    pub decides : (l : L) → Valid l → (c : Cell) → Fixed l c ⊎ (Fixed l c → ⊥)
    pub begins : (l : L) → Valid l → (ι : StoreOf) (k : ℕ) → k < trips l → Stands (Hidden l) (Fixed l) ι (start l ι k) (begin l k)

-- What is kept beside the state: what main has left, and, of an open loop, the store at its
-- opening, what its iterations' steps were given, what was printed before it, and what its join
-- will write.
pub data Ghost (L : Type 0) : Type 0 where
  between : Main L → Ghost L
  within : (l : L) (ι : StoreOf) (past : ℕ → List ℤ) (before : List ℕ) (xs : List (Cell × ℤ)) → Main L → Ghost L

abbrev pub inner : {F L : Type 0} → State F L → (ℕ → List ℤ) → Inside
inner m past = record { cells = m.store; counts = m.counts; low = m.retired; past = past }

-- the answer of a state that has ended
abbrev pub Final : {F L : Type 0} → End → State F L → Outcome → Type 0
Final Done m answer = answer ≡ done m.store m.output
Final (Faulted e line) m answer = answer ≡ failed (failure e line) m.output
Final (Stopped line) m answer = answer ≡ failed (stop_at line) m.output

module _ (F L : Type 0) (view : F → View F L) (trips : L → ℕ) (begin : L → ℕ → F) (Hidden Fixed : L → Cell → Type 0) (start : L → StoreOf → ℕ → Process) (Valid : L → Type 0) (p : ℕ) (origin : Here L) (answer : Outcome) where
  -- no loop is open
  pub record Between (M : Main L) (m : State F L) : Type 0 where
    pub loop : m.loop ≡ None
    pub at : MainStands F L view Valid M m.main
    pub sofar : (n : ℕ) × (alone L trips start n origin ≡ record { main = M; store = m.store; input = m.input; output = m.output })  -- main has the sequential store
    pub waits : (w : Wait) → m.waiting ≡ Some w → w ≡ until_retired 0
    pub none : m.ticket ≤ m.retired

  -- loop l is open
  pub record Within (l : L) (ι : StoreOf) (past : ℕ → List ℤ) (before : List ℕ) (xs : List (Cell × ℤ)) (M : Main L) (m : State F L) : Type 0 where
    pub loop : m.loop ≡ Some l
    pub valid : Valid l
    pub at : AtJoin F L view Valid l xs M m.main
    pub sofar : (n : ℕ) × (alone L trips start n origin ≡ record { main = open_loop l xs M; store = ι; input = m.input; output = before })  -- the loop was opened on the sequential store
    pub waits_main : (w : Wait) → m.waiting ≡ Some w → w ≡ until_retired (trips l)
    pub inv : Inv (start l ι) (trips l) ι (inner m past)
    pub fixed : (c : Cell) → Fixed l c → cell_value m.store c ≡ cell_value ι c
    pub ticket : m.ticket ≤ trips l
    pub fresh : (i : ℕ) → m.ticket ≤ i → past i ≡ []
    pub active : (i : ℕ) (a : Active F) → m.iterations i ≡ Some a → Stands F L view (Hidden l) (Fixed l) ι (after (start l ι i) (past i)) a.frame × (a.out ≡ prints (acts (start l ι i) (past i))) × Leads F L view (Hidden l) (Fixed l) ι (begin l i) (past i) a.frame
    pub waits : (i : ℕ) (w : Wait) → m.parked i ≡ Some w → WaitsFor (after (start l ι i) (past i)) i w
    pub printed : m.ended ≡ None → m.output ≡ before ++ shown (start l ι) 0 (pasts past m.retired 0)

  abbrev pub Kept : Ghost L → State F L → Type 0
  Kept (between M) m = Between M m
  Kept (within l ι past before xs M) m = Within l ι past before xs M m

  pub record Good (g : Ghost L) (m : State F L) : Type 0 where
    pub places : Whereabouts (Active F) p m.retired m.ticket m.iterations m.parked m.waiting m.held
    pub kept : Kept g m
    pub final : (e : End) → m.ended ≡ Some e → Final e m answer
