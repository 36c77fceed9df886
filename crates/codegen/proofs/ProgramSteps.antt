-- What main does, where it may open loops, and what a whole program comes to.
use Rattle.std.proofs.Common.{◌≡◌, ◌∙◌, ℕ, zero, suc, ◌+◌, ℤ, List, [], ◌∷◌, ◌++◌, length, refl, sym, ap}
use Rattle.ast.specs.Store.{StoreOf}
use Rattle.machine.specs.Code.{Cell}
use Rattle.machine.specs.State.{put_cell, put_cells}
use Rattle.machine.specs.View.{Cause, Input}
use Rattle.codegen.proofs.IterationSteps.{Process, Whole, cell_value, sequential, stopped, went}
use Rattle.codegen.proofs.LoopRuns.{shown}
use Rattle.codegen.proofs.Outcomes.{Outcome, done, failed, then_do}

-- What main may still do; L: what an open loop is known by. To open a loop is followed by its join,
-- which writes these cells. It never goes astray: that is what only an iteration does.
pub data Main (L : Type 0) : Type 0 where
  take : Cell → (ℤ → Main L) → Main L
  keep : Cell → ℤ → Main L → Main L
  say : List ℕ → Main L → Main L
  get : (Input → Input) → (Input → Main L) → Main L
  work : Main L → Main L
  crash : Cause → Main L
  halt : Main L
  open_loop : L → List (Cell × ℤ) → Main L → Main L
  astray : Main L

-- what iterations one after another come to, behind what was printed before
abbrev pub seen : (ℕ → Process) → List ℕ → Whole → Outcome
seen start o (went ls σ) = done σ (o ++ shown start 0 ls)
seen start o (stopped ls c) = failed c (o ++ shown start 0 ls)

-- where main stands when all is done one after another
pub record Here (L : Type 0) : Type 0 where
  pub main : Main L
  pub store : StoreOf
  pub input : Input
  pub output : List ℕ

abbrev pub after_loop : {L : Type 0} → Outcome → List (Cell × ℤ) → Main L → Here L → Here L
after_loop (done τ o) xs M h = record { main = M; store = put_cells τ xs; input = h.input; output = o }
after_loop (failed c o) xs M h = record { main = crash c; store = h.store; input = h.input; output = o }

-- trips: of a loop; start: its iterations, where it was opened on this store
module _ (L : Type 0) (trips : L → ℕ) (start : L → StoreOf → ℕ → Process) where
  -- the loop's iterations one after another, from the store at its opening
  abbrev pub loop_meaning : L → StoreOf → List ℕ → Outcome
  loop_meaning l σ o = seen (start l σ) o (sequential (start l σ) (trips l) σ)

  -- all one after another; a main that goes astray may come to anything
  abbrev pub whole : Outcome → Main L → StoreOf → Input → List ℕ → Outcome
  whole x (take c κ) σ i o = whole x (κ (cell_value σ c)) σ i o
  whole x (keep c v M) σ i o = whole x M (put_cell σ c v) i o
  whole x (say bytes M) σ i o = whole x M σ i (o ++ bytes)
  whole x (get ρ κ) σ i o = whole x (κ i) σ (ρ i) o
  whole x (work M) σ i o = whole x M σ i o
  whole x (crash c) σ i o = failed c o
  whole x halt σ i o = done σ o
  whole x (open_loop l xs M) σ i o = then_do (loop_meaning l σ o) (λ τ t. whole x M (put_cells τ xs) i t)
  whole x astray σ i o = x

  -- one step of main, a whole loop in one
  abbrev pub next_by : Main L → Here L → Here L
  next_by (take c κ) h = record h { main = κ (cell_value h.store c) }
  next_by (keep c v M) h = record h { main = M; store = put_cell h.store c v }
  next_by (say bytes M) h = record h { main = M; output = h.output ++ bytes }
  next_by (get ρ κ) h = record h { main = κ h.input; input = ρ h.input }
  next_by (work M) h = record h { main = M }
  next_by (crash c) h = h
  next_by halt h = h
  next_by (open_loop l xs M) h = after_loop (loop_meaning l h.store h.output) xs M h
  next_by astray h = h

  abbrev pub alone : ℕ → Here L → Here L
  alone zero h = h
  alone (suc n) h = next_by (alone n h).main (alone n h)

  abbrev pub meaning : Outcome → Here L → Outcome
  meaning x h = whole x h.main h.store h.input h.output

  after_loop_is : (x : Outcome) (d : Outcome) (xs : List (Cell × ℤ)) (M : Main L) (h : Here L) → meaning x (after_loop d xs M h) ≡ then_do d (λ τ t. whole x M (put_cells τ xs) h.input t)
  after_loop_is x (done τ o) xs M h = refl
  after_loop_is x (failed c o) xs M h = refl

  next_is : (x : Outcome) (M : Main L) (h : Here L) → h.main ≡ M → meaning x (next_by M h) ≡ meaning x h
  next_is x (take c κ) h e = ap (λ (y : Main L). whole x y h.store h.input h.output) (sym e)
  next_is x (keep c v M) h e = ap (λ (y : Main L). whole x y h.store h.input h.output) (sym e)
  next_is x (say bytes M) h e = ap (λ (y : Main L). whole x y h.store h.input h.output) (sym e)
  next_is x (get ρ κ) h e = ap (λ (y : Main L). whole x y h.store h.input h.output) (sym e)
  next_is x (work M) h e = ap (λ (y : Main L). whole x y h.store h.input h.output) (sym e)
  next_is x (crash c) h e = refl
  next_is x halt h e = refl
  next_is x (open_loop l xs M) h e = after_loop_is x (loop_meaning l h.store h.output) xs M h ∙ ap (λ (y : Main L). whole x y h.store h.input h.output) (sym e)
  next_is x astray h e = refl

  pub alone_is : (x : Outcome) (n : ℕ) (h : Here L) → meaning x (alone n h) ≡ meaning x h
  alone_is x zero h = refl
  alone_is x (suc n) h = next_is x (alone n h).main (alone n h) refl ∙ alone_is x n h

-- ---- how many steps it takes alone, without parks and picks of what was parked

abbrev pub sizes : List (List ℤ) → ℕ
sizes [] = 0
sizes (vs ∷ ls) = length vs + sizes ls

-- opening, tickets, instructions and retirements, join; where an iteration breaks off, its report
-- in the place of the join
abbrev pub alone_steps : Whole → ℕ → (StoreOf → ℕ) → ℕ
alone_steps (went ls τ) t next = 2 + t + sizes ls + next τ
alone_steps (stopped ls c) t next = 2 + length ls + sizes ls

module _ (L : Type 0) (trips : L → ℕ) (start : L → StoreOf → ℕ → Process) where
  abbrev pub solo : Main L → StoreOf → Input → ℕ
  solo (take c κ) σ i = 1 + solo (κ (cell_value σ c)) σ i
  solo (keep c v M) σ i = 1 + solo M (put_cell σ c v) i
  solo (say bytes M) σ i = 1 + solo M σ i
  solo (get ρ κ) σ i = 1 + solo (κ i) σ (ρ i)
  solo (work M) σ i = 1 + solo M σ i
  solo (crash c) σ i = 1
  solo halt σ i = 1
  solo (open_loop l xs M) σ i = alone_steps (sequential (start l σ) (trips l) σ) (trips l) (λ τ. solo M (put_cells τ xs) i)
  solo astray σ i = 1
