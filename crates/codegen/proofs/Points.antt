-- Where main opens loops, one after another, by what it may still do.
use Rattle.std.proofs.Common.{◌≡◌, ℕ, ℤ, Bool, List, [], ◌∷◌, ◌++◌, Result, Ok, Err, refl, sym, ap}
use Rattle.std.specs.Prelude.{map}
use Rattle.ast.specs.Input.{taken, next_integer}
use Rattle.ast.specs.Meaning.{Run}
use Rattle.ast.specs.Store.{StoreOf}
use Rattle.ast.specs.Symbols.{Symbol}
use Rattle.ast.specs.declared.fault.Fault.{Fault}
use Rattle.machine.specs.Code.{Code, Cell}
use Rattle.machine.specs.State.{put_cell, put_cells}
use Rattle.machine.specs.View.{Input, input_after, input_behind, join_stores, trips_of}
use Rattle.machine.specs.declared.code.Open.{Open as Opened}
use Rattle.codegen.specs.Program.{main_places}
use Rattle.codegen.specs.Turns.{Opening}
use Rattle.codegen.proofs.IterationSteps.{Process, cell_value}
use Rattle.codegen.proofs.MainSteps.{if_taken, main_doing, not_index, not_private}
use Rattle.codegen.proofs.Meant.{Acts, Sight, given_told}
use Rattle.codegen.proofs.Outcomes.{Outcome, done, failed}
use Rattle.codegen.proofs.ProgramSteps.{Here, Main, take, keep, say, get, work, crash, halt, open_loop, astray, after_loop, loop_meaning, next_by}

-- a loop is opened here, whose join will write these cells
pub record Point (L : Type 0) : Type 0 where
  pub loop : L
  pub cells : List (Cell × ℤ)
  pub store : StoreOf
  pub input : Input
  pub output : List ℕ

abbrev pub behind : {L : Type 0} → Outcome → (StoreOf → List ℕ → List (Point L)) → List (Point L)
behind (done τ o) next = next τ o
behind (failed c o) next = []

module _ (L : Type 0) (trips : L → ℕ) (start : L → StoreOf → ℕ → Process) where
  abbrev pub points : Main L → StoreOf → Input → List ℕ → List (Point L)
  points (take c κ) σ i o = points (κ (cell_value σ c)) σ i o
  points (keep c v M) σ i o = points M (put_cell σ c v) i o
  points (say bytes M) σ i o = points M σ i (o ++ bytes)
  points (get ρ κ) σ i o = points (κ i) σ (ρ i) o
  points (work M) σ i o = points M σ i o
  points (crash c) σ i o = []
  points halt σ i o = []
  points (open_loop l xs M) σ i o = record { loop = l; cells = xs; store = σ; input = i; output = o } ∷ behind (loop_meaning L trips start l σ o) (λ τ t. points M (put_cells τ xs) i t)
  points astray σ i o = []

  abbrev pub points_at : Here L → List (Point L)
  points_at h = points h.main h.store h.input h.output

  after_points : (d : Outcome) (xs : List (Cell × ℤ)) (M : Main L) (h : Here L) → points_at (after_loop d xs M h) ≡ behind d (λ τ t. points M (put_cells τ xs) h.input t)
  after_points (done τ o) xs M h = refl
  after_points (failed c o) xs M h = refl

  -- behind the loop that is opened
  pub next_opened : (l : L) (xs : List (Cell × ℤ)) (M : Main L) (σ : StoreOf) (i : Input) (o : List ℕ)
      → points (open_loop l xs M) σ i o ≡ record { loop = l; cells = xs; store = σ; input = i; output = o } ∷ points_at (next_by L trips start (open_loop l xs M) (record { main = open_loop l xs M; store = σ; input = i; output = o }))
  next_opened l xs M σ i o =
      ap (λ (ps : List (Point L)). record { loop = l; cells = xs; store = σ; input = i; output = o } ∷ ps)
      (sym (after_points (loop_meaning L trips start l σ o) xs M (record { main = open_loop l xs M; store = σ; input = i; output = o })))

-- ---- main's openings are those of its statements

module _ (code : Code) where
  abbrev pub opened_as : Opening → Opened
  opened_as o = record { number = o.number; first = o.first; trips = o.trips }

  abbrev pub as_point : Opening → Point Opened
  as_point o = record { loop = opened_as o; cells = join_stores code (opened_as o); store = o.store; input = record { left = []; records = o.input }; output = o.output }

  pub map_more : (xs ys : List Opening) (ps : List (Point Opened)) → map as_point (xs ++ ys) ++ ps ≡ map as_point xs ++ (map as_point ys ++ ps)
  map_more [] ys ps = refl
  map_more (x ∷ xs) ys ps = ap (λ (qs : List (Point Opened)). as_point x ∷ qs) (map_more xs ys ps)

  abbrev pub openings_seen : Sight (List (Point Opened))
  openings_seen = record { told = λ run. []; add = λ xs ps. map as_point xs ++ ps; none = λ ps. refl; more = map_more; unread = λ e line run i. refl }

module _ (start : Opened → StoreOf → ℕ → Process) where
  abbrev pub opens_from : Main Opened → List ℤ → Run → List (Point Opened)
  opens_from M left run = points Opened trips_of start M run.store (record { left = left; records = run.input }) run.output

module _ (code : Code) (may : ℕ → ℤ → ℤ → Bool) (start : Opened → StoreOf → ℕ → Process) (symbols : List Symbol) where
  abbrev given_points : {V : Type 0} → Result V Fault → ℕ → Run → (V → List (Point Opened)) → List (Point Opened)
  given_points r line run next = given_told (List (Point Opened)) (openings_seen code) r line run next

  taken_is : (r : Result (List ℤ × List (List ℕ)) Fault) (line : ℕ) (M : Main Opened) (left : List ℤ) (run : Run)
      → points Opened trips_of start (if_taken r line (λ y. M)) run.store (input_after r (record { left = left; records = run.input })) run.output ≡ given_points r line run (λ y. opens_from start M y.0 (record run { input = y.1 }))
  taken_is (Ok y) line M left run = refl
  taken_is (Err e) line M left run = refl

  value_is : (r : Result (ℤ × List ℤ × List (List ℕ)) Fault) (line : ℕ) (κ : ℤ → Main Opened) (left : List ℤ) (run : Run)
      → points Opened trips_of start (if_taken r line (λ y. κ y.0)) run.store (input_behind r (record { left = left; records = run.input })) run.output ≡ given_points r line run (λ y. opens_from start (κ y.0) y.1 (record run { input = y.2 }))
  value_is (Ok y) line κ left run = refl
  value_is (Err e) line κ left run = refl

  pub opening_acts : Acts (List (Point Opened)) (openings_seen code) (Main Opened) (main_doing code may) (main_places symbols) (opens_from start)
  opening_acts = record {
    evaluates = λ line left run. record {
      loads = λ r n κ h. refl;
      owns = λ r y κ h. absurd (not_private symbols r.name y h);
      indexes = λ r κ h. absurd (not_index symbols r.name h);
      goes = λ a. refl;
      faults = λ e. refl;
    };
    keeps = λ r n v a left run h. refl;
    sets = λ r y v a left run h. absurd (not_private symbols r.name y h);
    says = λ bytes a left run. refl;
    takes = λ line a left run. taken_is (taken run.input) line a left run;
    gets = λ line κ left run. value_is (next_integer left run.input) line κ left run;
    drops = λ a left run. refl;
    goes = λ a left run. refl;
    stops = λ line left run. refl;
  }
