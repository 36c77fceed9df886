-- What the replay of a schedule answers, and why it is refused.
use Rattle.std.specs.Prelude.{◌≡◌, ℕ, ℤ, ◌+◌, List, ◌∷◌, ◌++◌, length, map, Some, None}
use Rattle.ast.specs.Store.{StoreOf, values_from}
use Rattle.ast.specs.View.{cells}
use Rattle.ast.specs.declared.answer.Answer.{Answer}
use Rattle.ast.specs.declared.fault.End.{End}
use Rattle.machine.specs.Code.{Code}
use Rattle.machine.specs.State.{Machine}
use Rattle.machine.specs.declared.code.Variable.{Variable}
use Rattle.schedules.specs.Schedules.{Act, Entry, Schedule}
use Rattle.schedules.specs.declared.entry.Version.{Version}
use Rattle.schedules.specs.declared.entry.Version.TheVariants.{Second}
use Rattle.schedules.specs.declared.flaw.Flaw.{Flaw}
use Rattle.schedules.specs.declared.flaw.Flaw.TheVariants.{Impossible, Unended, BehindEnd}
use Rattle.replay.specs.Making.{AreNamed}
use Rattle.activities.specs.Points.{Point, beginning}
use Rattle.replay.specs.Replays.{Does, Leads, Replays}

-- the name of each variable, and how many cells it has
abbrev pub shapes_of : List Variable → List (List ℕ × ℕ)
shapes_of xs = map (λ x. (x.name.letters, x.size)) xs

-- what a store has for variables, name by name
abbrev pub stored : List Variable → StoreOf → List (List ℕ × List ℤ)
stored xs store = map (λ x. (x.name.letters, values_from (store x.name.letters) 0 x.size)) xs

-- The answer of a state that has ended: its output, its end, and its store.
pub record IsAnswer (code : Code) (m : Machine) (answer : Answer) : Type 0 where
  pub end : m.ended ≡ Some answer.end
  pub output : answer.output.items ≡ m.output
  pub store : cells answer.store ≡ stored code.variables m.store

-- The schedule's entries lead to a state that has ended, with this answer.
pub record IsReplay (code : Code) (input : List ℕ) (x : Schedule) (answer : Answer) : Type 0 where
  pub point : Point
  pub replays : Replays code input x point
  pub is : IsAnswer code point.machine answer

-- ---- why entries can't be made

-- What processor q is to do isn't possible, or stands behind the end of the run.
abbrev pub CannotBeMade : Version → Code → ℕ → Act → Point → ℕ → Flaw → Type 0
CannotBeMade v code s x a q Impossible =
    (a.machine.ended ≡ None) × ((b : Point) → Does v code s x a q b → ⊥)
CannotBeMade v code s x a q BehindEnd = (e : End) × (a.machine.ended ≡ Some e)
CannotBeMade v code s x a q _ = ⊥

-- From a point the entries before the one at this line lead to another, where it can't be made. The
-- first entry stands at line 3.
pub record StopsAt (v : Version) (code : Code) (s : ℕ) (a : Point) (es : List Entry)
    (flaw : Flaw) (line : ℕ) : Type 0 where
  pub before : List Entry
  pub entry : Entry
  pub behind : List Entry
  pub is : es ≡ before ++ entry ∷ behind
  pub at : line ≡ 3 + length before
  pub point : Point
  pub leads : Leads v code s a before point
  pub cannot : CannotBeMade v code s entry.act point entry.processor flaw

-- they lead nowhere
abbrev pub NoneLeads : Version → Code → ℕ → Point → List Entry → Type 0
NoneLeads v code s a es = (b : Point) → Leads v code s a es b → ⊥

-- ---- why a schedule can't be replayed or upgraded

-- an entry can't be made
abbrev pub HasStop : Code → List ℕ → Schedule → Flaw → ℕ → Type 0
HasStop code input x flaw line =
    StopsAt x.version code x.slots (beginning code input x.slots) x.entries flaw line

-- all entries are possible, and the run hasn't ended; the line is the last one
pub record NotEnded (code : Code) (input : List ℕ) (x : Schedule) (line : ℕ) : Type 0 where
  pub point : Point
  pub replays : Replays code input x point
  pub going : point.machine.ended ≡ None
  pub at : line ≡ 2 + length x.entries

-- Why `replay` refuses a schedule: the run hasn't ended behind the last
-- entry, or one can't be made.
abbrev pub GivesNone : Code → List ℕ → Schedule → Flaw → ℕ → Type 0
GivesNone code input x Unended line = NotEnded code input x line
GivesNone code input x flaw line = HasStop code input x flaw line

-- the schedule leads to no state that has ended
abbrev pub NeverEnds : Code → List ℕ → Schedule → Type 0
NeverEnds code input x =
    (b : Point) (e : End) → Replays code input x b → b.machine.ended ≡ Some e → ⊥

-- it leads nowhere
abbrev pub LeadsNowhere : Code → List ℕ → Schedule → Type 0
LeadsNowhere code input x = (b : Point) → Replays code input x b → ⊥

-- ---- upgrades

-- From a point a schedule of the second version leads where this one leads, entry by entry; one
-- that is of that version already is itself.
pub record NamesPicks (code : Code) (a : Point) (x y : Schedule) : Type 0 where
  pub version : y.version ≡ Second
  pub processors : y.processors ≡ x.processors
  pub slots : y.slots ≡ x.slots
  pub entries : AreNamed x.entries y.entries
  pub point : Point
  pub old : Leads x.version code x.slots a x.entries point
  pub new : Leads Second code x.slots a y.entries point
  pub same : x.version ≡ Second → y ≡ x

-- the same from the beginning of a run
abbrev pub IsUpgrade : Code → List ℕ → Schedule → Schedule → Type 0
IsUpgrade code input x y = NamesPicks code (beginning code input x.slots) x y
