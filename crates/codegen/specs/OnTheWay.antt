-- The stores on the way are the sequential program's: where a run opens its n-th loop, the
-- program's meaning opens the same, and there they have the same store, input and output; and
-- behind that each iteration begins from what the meaning's turns before it leave.
use Rattle.std.specs.Prelude.{◌≡◌, ◌<◌, ◌≤◌, ◌+◌, ℕ, suc, List, [], ◌∷◌}
use Rattle.std.specs.Prelude.{Option, Some, None, length, slice_get}
use Rattle.ast.specs.Program.{ProgramTree}
use Rattle.ast.specs.Store.{StoreOf}
use Rattle.ast.specs.Symbols.{Symbol}
use Rattle.ast.specs.declared.fault.End.{End}
use Rattle.ast.specs.declared.fault.End.TheVariants.{Done}
use Rattle.loop_tree.specs.Loops.{Loop}
use Rattle.machine.specs.Code.{Code}
use Rattle.machine.specs.Frame.{Frame}
use Rattle.machine.specs.State.{Active, Machine, State, AreSizes, CodeRun, CodeStep, Init, Run}
use Rattle.machine.specs.View.{View, begin, trips_of, view}
use Rattle.machine.specs.declared.code.Open.{Open}
use Rattle.codegen.specs.Alone.{AllRetire, Before}
use Rattle.codegen.specs.Program.{Planned}
use Rattle.codegen.specs.States.{StandsAlone}
use Rattle.codegen.specs.Turns.{AreGoneThrough, Opening, after_turns, openings}

-- ---- how many loops a run opens, each as often as it does

-- those that a step opens, by which loop is open before it and behind it
abbrev pub opened_between : {L : Type 0} → Option L → Option L → ℕ
opened_between None (Some l) = 1
opened_between _ _ = 0

module _ (F L : Type 0) (view : F → View F L) (trips : L → ℕ) (begin : L → ℕ → F)
    (slots p : ℕ) where
  abbrev pub opened_in : (m : State F L) (qs : List ℕ) (n : State F L)
      → Run F L view trips begin slots p m qs n → ℕ
  opened_in m [] n r = 0
  opened_in m (q ∷ qs) n r = opened_between m.loop (r.0).loop + opened_in r.0 qs n r.3

abbrev pub opened_so_far : (code : Code) (input : List ℕ) (p s : ℕ) (qs : List ℕ) (m : Machine)
    → CodeRun code s p (Init code input) qs m → ℕ
opened_so_far code input p s qs m r =
    opened_in Frame Open (view code) trips_of (begin code) s p (Init code input) qs m r

-- ---- stores

-- The same store, but for the variable of a loop: iterations have it in their frames, and it is
-- stored at the join.
abbrev pub SameBut : List ℕ → StoreOf → StoreOf → Type 0
SameBut variable σ τ =
    (name : List ℕ) (place : ℕ) → (name ≡ variable → ⊥) → σ name place ≡ τ name place

-- A loop is open in this state of a run on p processors with s slots, and the meaning opened it so.
pub record IsOpenedAt (symbols : List Symbol) (code : Code) (p s : ℕ) (loop : Loop)
    (o : Opening) (l : Open) (m : Machine) : Type 0 where
  pub is : l ≡ record { number = o.number; first = o.first; trips = o.trips }
  pub unread : m.input ≡ record { left = []; records = o.input }
  -- until its first iteration begins the store and the output are those of the meaning
  pub fresh : m.ticket ≡ 0 → ((name : List ℕ) (place : ℕ) → m.store name place ≡ o.store name place)
      × (m.output ≡ o.output)
  -- The first k iterations, one after another, all retire exactly where the meaning goes through
  -- the ranges of k turns, and leave the store of k turns.
  pub retire : (k : ℕ) → k ≤ o.trips → AreGoneThrough symbols loop o k
      → AllRetire Frame Open (view code) (begin code) l k o.store
  pub exactly : (k : ℕ) → k ≤ o.trips → AllRetire Frame Open (view code) (begin code) l k o.store
      → AreGoneThrough symbols loop o k
  pub stores : (k : ℕ) (σ : StoreOf) → k ≤ o.trips
      → Before Frame Open (view code) (begin code) l k 0 o.store σ
      → SameBut loop.head.variable.name σ (after_turns symbols loop o k).store
  -- as many turns are gone through as iterations have retired, and the output is theirs
  pub through : AreGoneThrough symbols loop o m.retired
  pub printed : m.ended ≡ None → m.output ≡ (after_turns symbols loop o m.retired).output
  -- each open iteration, up to the first that breaks off, stands where it stands alone on the
  -- store of the turns before it
  pub iterations : (k : ℕ) (a : Active Frame)
      → m.iterations k ≡ Some a → AreGoneThrough symbols loop o k
      → (σ : StoreOf) × SameBut loop.head.variable.name σ (after_turns symbols loop o k).store
      × StandsAlone code l k σ a m
  -- directly after the join, unless a fault ends the turns, all is as the meaning has it behind
  -- them
  pub joined : (q : ℕ) (n : Machine) → q < p → CodeStep code s m q n → n.loop ≡ None
      → (after_turns symbols loop o o.trips).end ≡ Done
      → ((name : List ℕ) (place : ℕ)
      → n.store name place ≡ (after_turns symbols loop o o.trips).store name place)
      × (n.input ≡ record { left = []; records = (after_turns symbols loop o o.trips).input })
      × (n.output ≡ (after_turns symbols loop o o.trips).output)

-- a state of a run that has opened so many loops
pub record IsOnTheWay (t : ProgramTree) (code : Code) (xs : List Planned) (input : List ℕ)
    (p s : ℕ) (m : Machine) (count : ℕ) : Type 0 where
  -- where a loop is open, it is the one that the meaning opens after as many
  pub inside : (l : Open) → m.loop ≡ Some l → (n : ℕ) × (o : Opening) × (x : Planned)
      × (count ≡ suc n) × (slice_get (openings t xs input) n ≡ Some o)
      × (slice_get xs o.number ≡ Some x) × IsOpenedAt t.symbols code p s x.loop o l m
  -- a run that has ended, however it did, has opened all that the meaning does
  pub at_end : (e : End) → m.ended ≡ Some e → length (openings t xs input) ≡ count

-- For all inputs, processors, open iterations and runs; xs: the loops that are opened, with their
-- plans.
abbrev pub AreOnTheWay : ProgramTree → Code → List Planned → Type 0
AreOnTheWay t code xs =
    (input : List ℕ) (p s : ℕ) (qs : List ℕ) (m : Machine) → AreSizes p s
    → (r : CodeRun code s p (Init code input) qs m)
    → IsOnTheWay t code xs input p s m (opened_so_far code input p s qs m r)
