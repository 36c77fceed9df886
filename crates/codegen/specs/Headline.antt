-- The headline: whatever processors move, a run of a program's code that ends has printed and
-- stored what the sequential program does, or, where that program faults or stops, has printed its
-- output so far and reports that fault or stop; and no run that hasn't ended is without a next
-- step, nor is any activity that a processor holds there.
use Rattle.std.specs.Prelude.{◌≡◌, ◌<◌, ◌≤◌, ◌+◌, ◌*◌, ◌⊎◌, ℕ, List, ◌++◌, length, Some, None}
use Rattle.ast.specs.Meaning.{seq}
use Rattle.ast.specs.Program.{ProgramTree}
use Rattle.ast.specs.declared.fault.End.{End}
use Rattle.ast.specs.declared.fault.End.TheVariants.{Done}
use Rattle.machine.specs.Code.{Code}
use Rattle.machine.specs.Solo.{Solo}
use Rattle.machine.specs.State.{Machine, Who, AreSizes, CodeStep, CodeRun, Init, Ended}

-- a text is a beginning of another
abbrev pub IsBeginning : List ℕ → List ℕ → Type 0
IsBeginning xs ys = (more : List ℕ) × (ys ≡ xs ++ more)

-- A state of a run has printed a beginning of what the sequential program prints; if it has ended,
-- its answer is the sequential program's; if it hasn't, some processor has a step, and each that
-- holds an activity has one: what it holds can go on, or be parked.
pub record Agrees (code : Code) (program : ProgramTree) (input : List ℕ) (p s : ℕ)
    (m : Machine) : Type 0 where
  pub beginning : IsBeginning m.output (seq program input).output
  pub answer : (e : End) → m.ended ≡ Some e
      → Ended m (seq program input).output (seq program input).end (seq program input).store
  pub next : m.ended ≡ None → (q : ℕ) × (n : Machine) × (q < p) × CodeStep code s m q n
  pub held : m.ended ≡ None → (q : ℕ) (u : Who) → m.held q ≡ Some u
      → (n : Machine) × CodeStep code s m q n

-- The headline, for all inputs, processors, open iterations and runs.
abbrev pub Headline : Code → ProgramTree → Type 0
Headline code program =
    (input : List ℕ) (p s : ℕ) (qs : List ℕ) (m : Machine) → AreSizes p s
    → CodeRun code s p (Init code input) qs m
    → Agrees code program input p s m

-- ---- how long runs are

-- a run alone has exactly one next step in each state that hasn't ended
abbrev pub HasOneStep : Code → List ℕ → Type 0
HasOneStep code input =
    (qs : List ℕ) (m : Machine) → CodeRun code 1 1 (Init code input) qs m → m.ended ≡ None
    → (n : Machine) × CodeStep code 1 m 0 n
    × ((q : ℕ) (o : Machine) → q < 1 → CodeStep code 1 m q o → o ≡ n)

-- for every input the run alone goes one way, and ends, and its steps are one number
abbrev pub Ends : Code → Type 0
Ends code =
    (input : List ℕ)
    → HasOneStep code input × (w : ℕ) × Solo code input w × ((v : ℕ) → Solo code input v → v ≡ w)

-- the sequential program comes to its end, without a fault or a STOP before it, or one iteration is
-- open at a time: else iterations behind one that breaks off may go on for as long as they like
abbrev pub NoneBehindABreak : ProgramTree → List ℕ → ℕ → Type 0
NoneBehindABreak program input s = ((seq program input).end ≡ Done) ⊎ (s ≡ 1)

-- No run, ended or not, has more than three times the steps of one alone: an instruction costs at
-- most a park, a pick and itself.
abbrev pub Bounded : Code → ProgramTree → Type 0
Bounded code program =
    (input : List ℕ) (w : ℕ) → Solo code input w → (p s : ℕ) (qs : List ℕ) (m : Machine)
    → AreSizes p s → NoneBehindABreak program input s → CodeRun code s p (Init code input) qs m
    → length qs ≤ 3 * w

-- Any run can be carried to its end within that number.
abbrev pub Carried : Code → ProgramTree → Type 0
Carried code program =
    (input : List ℕ) (w : ℕ) → Solo code input w → (p s : ℕ) (qs : List ℕ) (m : Machine)
    → AreSizes p s → NoneBehindABreak program input s → CodeRun code s p (Init code input) qs m
    → (rs : List ℕ) × (n : Machine) × (e : End) × CodeRun code s p m rs n × (n.ended ≡ Some e)
    × (length qs + length rs ≤ 3 * w)
