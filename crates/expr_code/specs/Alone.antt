-- An activity alone: its frame and a store that nobody changes.
use Rattle.std.specs.Prelude.{ℕ, zero, suc, Option, Some, None}
use Rattle.ast.specs.Store.{StoreOf}
use Rattle.machine.specs.Code.{Code}
use Rattle.machine.specs.Frame.{Frame}
use Rattle.machine.specs.Local.{and_then}
use Rattle.machine.specs.View.{View, doing, loading, view}
use Rattle.machine.specs.declared.code.Open.{Open}

-- the frame after what stands next, if that is a local instruction or a load
abbrev pub taken_on : StoreOf → View Frame Open → Option Frame
taken_on store (doing g) = Some g
taken_on store (loading c φ) = Some (φ (store c.name c.place))
taken_on store _ = None

-- the frame after so many instructions, where each is local or a load
abbrev pub alone : Code → StoreOf → ℕ → Frame → Option Frame
alone code store zero f = Some f
alone code store (suc n) f = and_then (taken_on store (view code f)) (λ g. alone code store n g)
