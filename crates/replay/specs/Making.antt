-- What making an entry of a schedule came to.
use Rattle.std.specs.Prelude.{◌≡◌, ℕ, List, [], ◌∷◌, Option, Some, None, ⊤}
use Rattle.machine.specs.Code.{Code}
use Rattle.machine.specs.State.{Choice, take_main, take_iteration, take_ticket}
use Rattle.schedules.specs.Schedules.{Act, works, shares, picks_main}
use Rattle.schedules.specs.Schedules.{picks, takes_ticket, Entry, IsAct}
use Rattle.schedules.specs.declared.entry.Version.{Version}
use Rattle.schedules.specs.declared.entry.Version.TheVariants.{Second}
use Rattle.activities.specs.Activities.{code_in, point_in}
use Rattle.activities.specs.Points.{Point}
use Rattle.replay.specs.Replays.{Does, Leads}
use Rattle.activities.specs.declared.holding.Activities.{Activities}

-- the entry of a choice
abbrev pub pick_of : Choice → Act
pick_of take_main = picks_main
pick_of (take_iteration k) = picks k
pick_of take_ticket = takes_ticket

-- The second version names an act so: a shared step may turn out to be a pick, all else is as it
-- was.
abbrev pub IsNamed : Act → Act → Type 0
IsNamed shares (works n) = ⊥
IsNamed shares y = ⊤
IsNamed x y = y ≡ x

-- It names entries so, one by one, each of its own processor.
abbrev pub AreNamed : List Entry → List Entry → Type 0
AreNamed [] [] = ⊤
AreNamed (x ∷ xs) (y ∷ ys) = (y.processor ≡ x.processor) × IsNamed x.act y.act × AreNamed xs ys
AreNamed _ _ = ⊥

-- What processor q does in an entry leads to this point alone, and an entry of the second version
-- says the same.
pub record MadeAs (v : Version) (code : Code) (s : ℕ) (x : Act) (a : Point) (q : ℕ)
    (y : Act) (b : Point) : Type 0 where
  pub does : Does v code s x a q b
  pub only : (c : Point) → Does v code s x a q c → c ≡ b
  pub named : Does Second code s y a q b
  pub allowed : IsAct Second y
  pub is_named : IsNamed x y
  pub same : v ≡ Second → y ≡ x

-- the entry was made, or it can't be made
abbrev pub Made : Version → Act → ℕ → Option Act → Activities → Activities → Type 0
Made v x q (Some y) old new = MadeAs v (code_in old) old.slots x (point_in old) q y (point_in new)
Made v x q None old new = (b : Point) → Does v (code_in old) old.slots x (point_in old) q b → ⊥

-- entries lead to this point alone
pub record LeadsOnly (v : Version) (code : Code) (s : ℕ) (a : Point) (es : List Entry)
    (b : Point) : Type 0 where
  pub leads : Leads v code s a es b
  pub only : (c : Point) → Leads v code s a es c → c ≡ b
