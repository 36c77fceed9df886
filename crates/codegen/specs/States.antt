-- What holds in every state of every run of a program's code: it stands where the run alone stands,
-- but that iterations of an open loop are under way at once.
use Rattle.std.specs.Prelude.{◌≡◌, ◌≤◌, ◌⊎◌, ℕ, ℤ, List, slice_get, Some, None}
use Rattle.ast.specs.Meaning.{seq}
use Rattle.ast.specs.Program.{ProgramTree}
use Rattle.ast.specs.Store.{StoreOf}
use Rattle.machine.specs.Code.{Code, Cell}
use Rattle.machine.specs.Frame.{Frame}
use Rattle.machine.specs.State.{Active, Machine, Wait, AreSizes, CodeRun, Init, Reached, end_of}
use Rattle.machine.specs.View.{Cause, begin, loading, view}
use Rattle.machine.specs.declared.code.Open.{Open}
use Rattle.plan_check.specs.GoodPlan.{Names}
use Rattle.codegen.specs.Alone.{AllRetire, Alone, Before, BreaksOff, Own, begun, own_after}
use Rattle.codegen.specs.Program.{Planned}

-- No loop is open: main stands where it stands in a state of the run alone, on the same store, with
-- the same input and output. So it is directly after a join, too.
pub record IsAlone (code : Code) (input : List ℕ) (m : Machine) : Type 0 where
  pub other : Machine
  pub alone : Alone code input other
  pub loop : other.loop ≡ None
  pub main : other.main ≡ m.main
  pub store : (name : List ℕ) (place : ℕ) → other.store name place ≡ m.store name place
  pub unread : other.input ≡ m.input
  pub output : other.output ≡ m.output
  pub ended : other.ended ≡ m.ended

-- Iteration k stands where it stands alone, on the store that those before it leave, and has
-- printed the same; where what it does next is a load, its cell holds what is loaded alone.
pub record StandsAlone (code : Code) (l : Open) (k : ℕ) (σ : StoreOf) (a : Active Frame)
    (m : Machine) : Type 0 where
  pub steps : ℕ
  pub own : Own Frame
  pub is :
      own ≡ own_after Frame Open (view code) steps (begun Frame Open (view code) (begin code) l k σ)
  pub frame : own.frame ≡ a.frame
  pub out : own.out ≡ a.out
  pub loads : (c : Cell) (φ : ℤ → Frame) → view code a.frame ≡ loading c φ
      → own.store c.name c.place ≡ m.store c.name c.place

-- A loop is open: `opening` is the state of the run alone in which it has just been opened.
pub record IsWithin (t : ProgramTree) (code : Code) (xs : List Planned) (input : List ℕ)
    (l : Open) (m : Machine) : Type 0 where
  pub opening : Machine
  pub alone : Alone code input opening
  pub loop : opening.loop ≡ Some l
  pub first : (opening.retired ≡ 0) × (opening.ticket ≡ 0)
  pub main : opening.main ≡ m.main
  pub unread : opening.input ≡ m.input
  -- Of the first iterations all retire, one after another, or one is the first that breaks off;
  -- then the sequential program ends so.
  pub fates : (n : ℕ) → n ≤ l.trips
      → AllRetire Frame Open (view code) (begin code) l n opening.store
      ⊎ ((b : Cause) × BreaksOff Frame Open (view code) (begin code) l n opening.store b
      × ((seq t input).end ≡ end_of b))
  -- each open iteration up to that one
  pub iterations : (k : ℕ) (a : Active Frame) (σ : StoreOf) → m.iterations k ≡ Some a
      → Before Frame Open (view code) (begin code) l k 0 opening.store σ
      → StandsAlone code l k σ a m
  -- the lowest iteration that hasn't retired never waits: where it is parked, that is reached,
  pub lowest : (w : Wait) → m.parked m.retired ≡ Some w → Reached m w
  -- since the count of each event that the body names has reached its number
  pub counts : (x : Planned) (e d : ℕ) → slice_get xs l.number ≡ Some x → Names x.plan e d
      → m.retired ≤ m.counts e

-- What holds of a state of a run, by whether a loop is open in it.
pub record AsAlone (t : ProgramTree) (code : Code) (xs : List Planned) (input : List ℕ)
    (m : Machine) : Type 0 where
  pub outside : m.loop ≡ None → IsAlone code input m
  pub inside : (l : Open) → m.loop ≡ Some l → IsWithin t code xs input l m

-- For all inputs, processors, open iterations and runs; xs: the loops that are opened, with their
-- plans.
abbrev pub AreAsAlone : ProgramTree → Code → List Planned → Type 0
AreAsAlone t code xs =
    (input : List ℕ) (p s : ℕ) (qs : List ℕ) (m : Machine)
    → AreSizes p s → CodeRun code s p (Init code input) qs m → AsAlone t code xs input m
