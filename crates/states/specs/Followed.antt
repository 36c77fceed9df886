-- The blocks of a schedule's entries, and what is written where not all are.
use Rattle.std.specs.Prelude.{◌≡◌, ℕ, suc, ◌+◌, List, [], ◌∷◌, ◌++◌, length, Option}
use Rattle.std.specs.Io.KnownBytes.{Appends}
use Rattle.record_writer.specs.Written.{AppendsPart, Begins}
use Rattle.machine.specs.Code.{Code}
use Rattle.schedules.specs.Schedules.{Entry, Schedule}
use Rattle.schedules.specs.declared.entry.Version.{Version}
use Rattle.schedules.specs.declared.flaw.Flaw.{Flaw}
use Rattle.schedules.specs.declared.refusal.ReplayRefusal.TheVariants.{Memory, Refused}
use Rattle.activities.specs.Activities.{code_in, point_in}
use Rattle.activities.specs.Points.{Point}
use Rattle.activities.specs.declared.holding.Activities.{Activities}
use Rattle.replay.specs.Replayed.{CannotBeMade}
use Rattle.replay.specs.Replays.{Does}
use Rattle.state_lines.specs.States.{block}
use Rattle.states.specs.declared.following.Halt.{Halt}
use Rattle.states.specs.declared.following.Halt.TheVariants.{Replay, Writing}

-- From a point entries lead to another, and this is shown of them, of which the first stands in
-- this line: for each a block, of the state to which it leads.
abbrev pub Shows : Version → Code → (p s line : ℕ) → Point → List Entry → Point → List ℕ → Type 0
Shows v code p s line a [] b text = (a ≡ b) × (text ≡ [])
Shows v code p s line a (e ∷ es) b text =
    (x : Point) × Does v code s e.act a e.processor x
    × (rest : List ℕ) × (text ≡ block code p line e (length a.machine.output) x ++ rest)
    × Shows v code p s (suc line) x es b rest

-- some entries of a schedule, from its first on, were made and shown, and the rest is left
pub record IsShownTo (x : Schedule) (a : Activities) (rest : List Entry) (b : Point)
    (text : List ℕ) : Type 0 where
  pub front : List Entry
  pub is : x.entries ≡ front ++ rest
  pub shows : Shows x.version (code_in a) x.processors x.slots 3 (point_in a) front b text

-- all of them were, and that was written behind a first text
pub record AreShown (first : List ℕ) (x : Schedule) (old new : Activities)
    (before after : Option (List ℕ)) : Type 0 where
  pub text : List ℕ
  pub shows : Shows x.version (code_in old) x.processors x.slots 3 (point_in old) x.entries
      (point_in new) text
  pub grown : Appends before after (first ++ text)

-- the next one can't be made, and what was shown before it was written
pub record StopsShown (first : List ℕ) (x : Schedule) (a : Activities) (flaw : Flaw)
    (line : ℕ) (before after : Option (List ℕ)) : Type 0 where
  pub entry : Entry
  pub behind : List Entry
  pub point : Point
  pub text : List ℕ
  pub shown : IsShownTo x a (entry ∷ behind) point text
  pub at : line ≡ 3 + length shown.front
  pub cannot : CannotBeMade x.version (code_in a) x.slots entry.act point entry.processor flaw
  pub grown : Appends before after (first ++ text)

-- a beginning of what is shown of some entries was written, or all of it
pub record IsPartShown (first : List ℕ) (x : Schedule) (a : Activities)
    (before after : Option (List ℕ)) : Type 0 where
  pub rest : List Entry
  pub point : Point
  pub text : List ℕ
  pub shown : IsShownTo x a rest point text
  pub got : List ℕ
  pub begins : Begins got (first ++ text)
  pub grown : Appends before after got

-- why not all were shown, and what was written
abbrev pub Halts : (first : List ℕ) → Schedule → Activities
    → (before after : Option (List ℕ)) → Halt → Type 0
Halts first x a before after (Replay Memory) = IsPartShown first x a before after
Halts first x a before after (Replay (Refused flaw line)) =
    StopsShown first x a flaw line before after
Halts first x a before after (Writing e) = IsPartShown first x a before after

-- a text wasn't written: nothing of it for want of memory, or a beginning
abbrev pub Falls : (before after : Option (List ℕ)) → List ℕ → Halt → Type 0
Falls before after text (Replay Memory) = after ≡ before
Falls before after text (Replay (Refused flaw line)) = ⊥
Falls before after text (Writing e) = AppendsPart before after text
