-- What main does, one step after another, and what that comes to.
use Rattle.std.proofs.Common.{◌≡◌, ◌∙◌, ℕ, ℤ, Bool, true, List, [], ◌∷◌, Result, Ok, Err, refl, sym}
use Rattle.std.specs.Prelude.{if◌then◌else◌}
use Rattle.ast.specs.Exact.{in_range}
use Rattle.ast.specs.Input.{taken, next_integer}
use Rattle.ast.specs.Meaning.{Run}
use Rattle.ast.specs.Store.{StoreOf}
use Rattle.ast.specs.Symbols.{Extent, Symbol, dimensions_in}
use Rattle.ast.specs.declared.fault.Fault.{Fault}
use Rattle.machine.specs.Code.{Code, loop_at}
use Rattle.machine.specs.View.{failure, stop_at, index_at, input_after, input_behind, join_stores, opened, trips_of}
use Rattle.machine.specs.declared.code.Open.{Open as Opened}
use Rattle.expr_code.specs.Places.{Places, in_store, loop_index, private_scalar, home, home_of}
use Rattle.expr_code.specs.Process.{Steps}
use Rattle.codegen.specs.Process.{Doing}
use Rattle.codegen.specs.Program.{main_places}
use Rattle.codegen.proofs.IterationSteps.{Process}
use Rattle.codegen.proofs.Meaning.{Acts, given_told}
use Rattle.codegen.proofs.Outcomes.{Outcome}
use Rattle.codegen.proofs.ProgramSteps.{Main, take, keep, say, get, work, crash, open_loop, astray, whole}

-- goes on with what was taken of the input, or with a fault
abbrev pub if_taken : {X : Type 0} → Result X Fault → ℕ → (X → Main Opened) → Main Opened
if_taken (Ok x) line κ = κ x
if_taken (Err e) line κ = crash (failure e line)

-- goes on behind a loop, unless its variable leaves the 64-bit integers
abbrev pub after_join : Result ℤ Fault → ℕ → Main Opened → Main Opened
after_join (Ok v) line M = M
after_join (Err e) line M = crash (failure e line)

abbrev pub main_steps : ℕ → Steps (Main Opened)
main_steps line = record {
  load = λ r c κ. take c κ;
  own = λ r x κ. astray;
  index = λ r κ. astray;
  local = λ M. work M;
  fails = λ e. work (crash (failure e line));
}

-- may: the loops that are opened, by their numbers and first two parameters
module _ (code : Code) (may : ℕ → ℤ → ℤ → Bool) where
  abbrev pub loop_opened : ℕ → ℤ → ℤ → Opened
  loop_opened n m1 m2 = opened n m1 m2 (loop_at code n).step

  abbrev pub open_then : Opened → ℕ → Main Opened → Main Opened
  open_then l line M = open_loop l (join_stores code l) (after_join (in_range (index_at code l l.trips)) line M)

  abbrev pub main_doing : Doing (Main Opened)
  main_doing = record {
    evaluate = λ line. main_steps line;
    keep = λ r c v M. keep c v M;
    set = λ r x v M. astray;
    say = λ bytes M. say bytes M;
    take_record = λ line M. get (λ i. input_after (taken i.records) i) (λ i. if_taken (taken i.records) line (λ x. M));
    take_value = λ line κ. get (λ i. input_behind (next_integer i.left i.records) i) (λ i. if_taken (next_integer i.left i.records) line (λ x. κ x.0));
    drop_record = λ M. get (λ i. record i { left = [] }) (λ i. M);
    local = λ M. work M;
    await = λ e d M. astray;
    advance = λ e M. astray;
    opening = λ line n m1 m2 M. if may n m1 m2 then open_then (loop_opened n m1 m2) line M else astray;
    stop = λ line. crash (stop_at line);
  }

  -- a loop that is opened
  abbrev pub Valid : Opened → Type 0
  Valid l = (m1 : ℤ) × (m2 : ℤ) × (l ≡ loop_opened l.number m1 m2) × (may l.number m1 m2 ≡ true)

-- ---- main's meaning is that of its statements

module _ (start : Opened → StoreOf → ℕ → Process) where
  abbrev pub meant : Outcome → Main Opened → List ℤ → Run → Outcome
  meant x M left run = whole Opened trips_of start x M run.store (record { left = left; records = run.input }) run.output

module _ (symbols : List Symbol) where
  in_the_store : (name : List ℕ) → home_of (main_places symbols) name ≡ in_store
  in_the_store name = by (dimensions_in symbols name)
    where
      by : (ds : List Extent) → home (main_places symbols) ds name ≡ in_store
      by [] = refl
      by (d ∷ ds) = refl

  pub not_private : (name : List ℕ) (y : ℕ) → home_of (main_places symbols) name ≡ private_scalar y → ⊥
  not_private name y e = let z : in_store ≡ private_scalar y = sym (in_the_store name) ∙ e in cc

  pub not_index : (name : List ℕ) → home_of (main_places symbols) name ≡ loop_index → ⊥
  not_index name e = let z : in_store ≡ loop_index = sym (in_the_store name) ∙ e in cc

module _ (code : Code) (may : ℕ → ℤ → ℤ → Bool) (start : Opened → StoreOf → ℕ → Process) (symbols : List Symbol) (x : Outcome) where
  abbrev p : Places
  p = main_places symbols

  taken_is : (r : Result (List ℤ × List (List ℕ)) Fault) (line : ℕ) (M : Main Opened) (left : List ℤ) (run : Run)
      → whole Opened trips_of start x (if_taken r line (λ y. M)) run.store (input_after r (record { left = left; records = run.input })) run.output ≡ given_told r line run (λ y. meant start x M y.0 (record run { input = y.1 }))
  taken_is (Ok y) line M left run = refl
  taken_is (Err e) line M left run = refl

  value_is : (r : Result (ℤ × List ℤ × List (List ℕ)) Fault) (line : ℕ) (κ : ℤ → Main Opened) (left : List ℤ) (run : Run)
      → whole Opened trips_of start x (if_taken r line (λ y. κ y.0)) run.store (input_behind r (record { left = left; records = run.input })) run.output ≡ given_told r line run (λ y. meant start x (κ y.0) y.1 (record run { input = y.2 }))
  value_is (Ok y) line κ left run = refl
  value_is (Err e) line κ left run = refl

  pub main_acts : Acts (Main Opened) (main_doing code may) p (meant start x)
  main_acts = record {
    evaluates = λ line left run. record {
      loads = λ r n κ h. refl;
      owns = λ r y κ h. absurd (not_private symbols r.name y h);
      indexes = λ r κ h. absurd (not_index symbols r.name h);
      goes = λ a. refl;
      faults = λ e. refl;
    };
    keeps = λ r n v a left run h. refl;
    sets = λ r y v a left run h. absurd (not_private symbols r.name y h);
    says = λ bytes a left run. refl;
    takes = λ line a left run. taken_is (taken run.input) line a left run;
    gets = λ line κ left run. value_is (next_integer left run.input) line κ left run;
    drops = λ a left run. refl;
    goes = λ a left run. refl;
    stops = λ line left run. refl;
  }
