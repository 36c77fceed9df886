-- A loop's iterations, of which any may move at any time, and what a good plan gives of them.
use Rattle.std.proofs.Common.{◌≡◌, ℕ, ◌+◌, ◌<◌, ◌≤◌, ℤ, pos, List, [], ◌∷◌, ◌++◌}
use Rattle.ast.specs.Store.{StoreOf}
use Rattle.machine.specs.Code.{Cell}
use Rattle.machine.specs.State.{put_at, put_cell, put_cells}
use Rattle.codegen.proofs.IterationLaws.{Touches, Writes}
use Rattle.codegen.proofs.IterationSteps.{Process, load, store, print, await, advance, tick, fault, leave, gone, Act, In, awaited, advanced, left, after, acts, cell_value, finish, sequential}

-- past k: what the steps of iteration k were given; low: how many have retired
pub record Inside : Type 0 where
  pub cells : StoreOf
  pub counts : ℕ → ℕ
  pub low : ℕ
  pub past : ℕ → List ℤ

abbrev pub opening : StoreOf → Inside
opening σ = record { cells = σ; counts = λ e. 0; low = 0; past = λ k. [] }

-- whether iteration k, which has P left, may move
abbrev pub Possible : Process → Inside → ℕ → Type 0
Possible (load r c κ) s k = Unit {0}
Possible (store r c v P) s k = Unit {0}
Possible (print v P) s k = Unit {0}
Possible (await e d P) s k = k < s.counts e + d
Possible (advance e P) s k = s.counts e ≡ k
Possible (tick P) s k = Unit {0}
Possible (fault f) s k = ⊥
Possible (leave xs) s k = s.low ≡ k
Possible gone s k = ⊥

-- what its step does to each part of the state
abbrev pub value_of : Process → StoreOf → ℤ
value_of (load r c κ) σ = cell_value σ c
value_of _ σ = pos 0

abbrev pub written : Process → StoreOf → StoreOf
written (store r c v P) σ = put_cell σ c v
written (leave xs) σ = put_cells σ xs
written _ σ = σ

abbrev pub counted : Process → (ℕ → ℕ) → ℕ → ℕ
counted (advance e P) n = put_at n e (n e + 1)
counted _ n = n

abbrev pub lowered : Process → ℕ → ℕ
lowered (leave xs) n = n + 1
lowered _ n = n

abbrev pub effect : Process → Inside → ℕ → Inside
effect P s k = record {
  cells = written P s.cells;
  counts = counted P s.counts;
  low = lowered P s.low;
  past = put_at s.past k (s.past k ++ value_of P s.cells ∷ []);
}

abbrev pub rest : (ℕ → Process) → Inside → ℕ → Process
rest start s k = after (start k) (s.past k)

abbrev pub history : (ℕ → Process) → Inside → ℕ → List Act
history start s k = acts (start k) (s.past k)

-- iteration k of so many moves
pub record Moves (start : ℕ → Process) (total : ℕ) (s : Inside) (k : ℕ) (t : Inside) : Type 0 where
  pub below : k < total
  pub may : Possible (rest start s k) s k
  pub is : t ≡ effect (rest start s k) s k

-- ---- what a good plan gives

abbrev pub Advances : Process → ℕ → Type 0
Advances (advance e P) x = e ≡ x
Advances _ x = ⊥

abbrev pub Awaits : Process → ℕ → ℕ → Type 0
Awaits (await e d P) x y = (e ≡ x) × (d ≡ y)
Awaits _ x y = ⊥

abbrev pub Loads : Process → Cell → Type 0
Loads (load r d κ) c = d ≡ c
Loads _ c = ⊥

abbrev pub Stores : Process → Cell → Type 0
Stores (store r d v P) c = d ≡ c
Stores _ c = ⊥

abbrev pub HasLeft : List Act → Type 0
HasLeft [] = ⊥
HasLeft (left xs ∷ ds) = Unit {0}
HasLeft (_ ∷ ds) = HasLeft ds

-- what iteration j did before holds it back until iteration k is past what it does next
abbrev pub Ordered : (ℕ → Process) → ℕ → List ℤ → ℕ → List ℤ → Type 0
Ordered start k vs j ws = (e : ℕ) × (d : ℕ) × (k + d ≤ j) × In (awaited e d) (acts (start j) ws) × (In (advanced e) (acts (start k) vs) → ⊥)

-- Named: the events that the loop's range names
pub record Plan (start : ℕ → Process) (total : ℕ) (Named : ℕ → Type 0) : Type 0 where
  pub once : (k : ℕ) (vs : List ℤ) (e : ℕ) → Advances (after (start k) vs) e → In (advanced e) (acts (start k) vs) → ⊥
  pub before : (k : ℕ) (vs : List ℤ) (e : ℕ) → Advances (after (start k) vs) e → In (awaited e 1) (acts (start k) vs)
  pub each : (k : ℕ) (vs : List ℤ) (e : ℕ) → Named e → after (start k) vs ≡ gone → In (advanced e) (acts (start k) vs)
  pub far : (k : ℕ) (vs : List ℤ) (e d : ℕ) → Awaits (after (start k) vs) e d → (1 ≤ d) × Named e
  pub lasts : (k : ℕ) (vs : List ℤ) → after (start k) vs ≡ gone → HasLeft (acts (start k) vs)
  pub store_last : (k j : ℕ) (vs ws : List ℤ) (c : Cell) → k < j → j < total → Touches (after (start k) vs) c → Stores (after (start j) ws) c → Ordered start k vs j ws
  pub load_last : (k j : ℕ) (vs ws : List ℤ) (c : Cell) → k < j → j < total → Writes (after (start k) vs) c → Loads (after (start j) ws) c → Ordered start k vs j ws

-- what holds in every state, where the loop was opened on store σ
pub record Inv (start : ℕ → Process) (total : ℕ) (σ : StoreOf) (s : Inside) : Type 0 where
  pub advanced_in : (k e : ℕ) → In (advanced e) (history start s k) → k < s.counts e
  pub advanced_by : (k e : ℕ) → k < s.counts e → In (advanced e) (history start s k)
  pub passed : (k e d : ℕ) → In (awaited e d) (history start s k) → k < s.counts e + d
  pub retired : (k : ℕ) → k < s.low → rest start s k ≡ gone
  pub has_left : (k : ℕ) → HasLeft (history start s k) → k < s.low
  pub within : s.low ≤ total
  pub same : finish start s.past total 0 s.cells ≡ sequential start total σ
