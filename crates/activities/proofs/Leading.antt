-- A step of main is a step of the machine.
use Rattle.std.proofs.Common.{inl, inr, ◌≡◌, ◌∙◌, ◌⊎◌, ℕ, zero, suc, ◌<◌, ◌≤◌, Bool, true, false, List, [], ◌∷◌, length, get_or, Option, Some, None, Result, Ok, Err, refl, sym, ap, subst, arith}
use Rattle.std.specs.Prelude.{ℤ, pos, ◌+ℤ◌, ◌*ℤ◌, ◌%◌, nat_le, eqb, cond, if◌then◌else◌, slice_get, replicate}
use Rattle.std.proofs.lemmas.Bool.{leb-true, leb-false}
use Rattle.ast.specs.Exact.{in_range}
use Rattle.ast.specs.Store.{StoreOf}
use Rattle.ast.specs.declared.fault.Fault.{Fault}
use Rattle.ec_kernel.specs.View.{count_at, parked}
use Rattle.machine.specs.Code.{Code, Cell, cell_at, loop_at}
use Rattle.machine.specs.Frame.{Frame}
use Rattle.machine.specs.Laid.{are_distinct, are_laid, cell_number, count_of, names_in, number_at}
use Rattle.machine.specs.Local.{going_on, without}
use Rattle.machine.specs.Next.{Tells}
use Rattle.machine.specs.State.{Machine, MainMove, until_retired, Who, the_main, put_at, put_cells}
use Rattle.machine.specs.StoreView.{store_of}
use Rattle.machine.specs.View.{View, storing, opening, joining, index_at, join_stores, joined_with, frame_joined, trips_of, with_operand}
use Rattle.machine.specs.declared.code.Open.{Open}
use Rattle.machine.specs.declared.next.Next.{Next}
use Rattle.machine.specs.declared.next.Next.TheVariants.{Local, Load, Store, Print, TakeRecord, TakeValue, DropRecord, Await, Advance, Opens, Join, Retire, Report, Stop, Halt, Stuck}
use Rattle.machine.proofs.Naming.{cells_below}
use Rattle.machine.proofs.Stores.{store_is, store_put}
use Rattle.activities.specs.Parts.{Standing, Kept, active, numbered, standing, held_of, counts_of, machine_of}
use Rattle.activities.specs.Turns.{MainAfter, closes, joins, main_after, main_as, none_open, opens, put_main, set_if, with_last}
use Rattle.activities.specs.declared.turn.Outcome.TheVariants.{Parks, Idle}
use Rattle.activities.proofs.Maps.{held_put}
use Rattle.activities.proofs.Turning.{Went, one_stored}

-- processor q holds main
pub record Leads (code : Code) (q : ℕ) (x : Kept) : Type 0 where
  pub holds : held_of x.held q ≡ Some the_main
  pub below : q < length x.held
  pub laid : are_laid 0 code.variables ≡ true
  pub distinct : are_distinct (names_in code.variables) ≡ true
  pub cells : length x.shared.cells ≡ count_of code.variables
  pub counts : length x.shared.order.counts ≡ 65
  pub going : x.shared.ended ≡ None

abbrev before : Code → ℕ → Kept → Machine
before code s x = machine_of code.variables s x

abbrev after : Code → ℕ → ℕ → MainAfter → Kept → Machine
after code s q y x = machine_of code.variables s (put_main q y x)

-- ---- opening

pub none_standing : (xs : List (Option Standing)) (i : ℕ) → none_open xs ≡ true → get_or xs i None ≡ None
none_standing [] i h = refl
none_standing (None ∷ xs) zero h = refl
none_standing (None ∷ xs) (suc i) h = none_standing xs i h
none_standing (Some a ∷ xs) i h = cc

pub nobody : (xs : List (Option Standing)) (s : ℕ) → none_open xs ≡ true → (k : ℕ) → active (standing xs s k) ≡ None
unfolding standing
nobody xs s h k = ap (λ o. active (numbered k o)) (none_standing xs (k % s) h)

abbrev pub zeros_of : ℕ → List ℕ
zeros_of n = replicate n 0

pub zero_at : (n i : ℕ) → get_or (zeros_of n) i 0 ≡ 0
zero_at zero i = refl
zero_at (suc n) zero = refl
zero_at (suc n) (suc i) = zero_at n i

pub no_counts : (n : ℕ) → ◌≡◌ {A = ℕ → ℕ} (counts_of (zeros_of n)) (λ e. 0)
unfolding counts_of
no_counts n = λ i e. by (eqb e 0) e i
  where
    by : (b : Bool) (e : ℕ) → cond b 0 (get_or (zeros_of n) e 0) ≡ 0
    by true e = refl
    by false e = zero_at n e

opened_machine : (code : Code) (s q : ℕ) (x : Kept) (l : Open) → Leads code q x → none_open x.iterations ≡ true
    → MainMove trips_of (opening l (going_on (without 2 x.main.operands) x.main)) (before code s x) q (after code s q (opens l x) x)
opened_machine code s q x l r h =
    let n : ℕ = length x.shared.order.counts in
    let g : Frame = going_on (without 2 x.main.operands) x.main in (
      λ k. nobody x.iterations s h k,
      ap (λ (f : ℕ → ℕ). record (before code s x) { main = g; loop = Some l; counts = f; retired = get_or (zeros_of n) 0 0; ticket = 0 }) (no_counts n)
          ∙ ap (λ (c : ℕ). record (before code s x) { main = g; loop = Some l; counts = λ e. 0; retired = c; ticket = 0 }) (zero_at n 0),
    )

opens_moves : (code : Code) (s q : ℕ) (x : Kept) (l : Open) → Leads code q x → Went (main_after code (Opens l) x).outcome
    → MainMove trips_of (opening l (going_on (without 2 x.main.operands) x.main)) (before code s x) q (after code s q (main_after code (Opens l) x) x)
opens_moves code s q x l r = by (none_open x.iterations) refl
  where
    by : (b : Bool) → none_open x.iterations ≡ b → Went (if b then opens l x else main_as Idle x).outcome → MainMove trips_of (opening l (going_on (without 2 x.main.operands) x.main)) (before code s x) q (after code s q (if b then opens l x else main_as Idle x) x)
    by true h w = opened_machine code s q x l r h
    by false h w = absurd w

-- ---- joining

last_stored : (code : Code) (l : Open) (o : Result ℤ Fault) (cells : List ℤ) → are_laid 0 code.variables ≡ true → are_distinct (names_in code.variables) ≡ true → length cells ≡ count_of code.variables
    → store_of code.variables (with_last code l o cells) ≡ put_cells (store_of code.variables cells) (joined_with o (cell_at (slice_get code.variables (loop_at code l.number).variable) 0))
last_stored code l (Err e) cells h d c = refl
last_stored code l (Ok v) cells h d c = one_stored code.variables (loop_at code l.number).variable (slice_get code.variables (loop_at code l.number).variable) v cells (store_of code.variables cells) [] h d refl c refl

joined : (code : Code) (s q line : ℕ) (x : Kept) (o : Option Open) → Leads code q x → x.shared.loop ≡ o → Went (joins code line o x).outcome
    → MainMove trips_of (joining (λ l. join_stores code l) (λ l. frame_joined (in_range (index_at code l l.trips)) line x.main)) (before code s x) q (after code s q (joins code line o x) x)
joined code s q line x None r e w = absurd w
joined code s q line x (Some l) r e w = (l, e, by (nat_le l.trips (count_at x.shared.order 0)) refl)
  where
    far : MainAfter
    far = record (main_as Parks x) { shared = record x.shared { order = parked x.shared.order 0 l.trips 0 }; waiting = Some (until_retired l.trips) }

    by : (b : Bool) → nat_le l.trips (count_at x.shared.order 0) ≡ b
        → ((trips_of l ≤ (before code s x).retired) × (after code s q (if b then closes code line l x else far) x ≡ record (before code s x) { main = frame_joined (in_range (index_at code l l.trips)) line x.main; store = put_cells (before code s x).store (join_stores code l); loop = None }))
        ⊎ (((before code s x).retired < trips_of l) × (after code s q (if b then closes code line l x else far) x ≡ record (before code s x) { waiting = Some (until_retired (trips_of l)); held = put_at (before code s x).held q None }))
    by true h = inl (
      leb-true l.trips (count_at x.shared.order 0) h,
      ap (λ (f : StoreOf). record (before code s x) { main = frame_joined (in_range (index_at code l l.trips)) line x.main; store = f; loop = None })
          (last_stored code l (in_range (index_at code l l.trips)) x.shared.cells r.laid r.distinct r.cells),
    )
    by false h = inr (
      omega (arith, leb-false l.trips (count_at x.shared.order 0) h),
      ap (λ (f : ℕ → Option Who). record (before code s x) { waiting = Some (until_retired l.trips); held = f }) (held_put x.held q None r.below),
    )

-- ---- a step

stores : (code : Code) (s q : ℕ) (x : Kept) (n j : ℕ) (v : ℤ) (c : Cell) → Leads code q x → number_at code.variables c.name c.place ≡ Some n
    → MainMove trips_of (storing c v (going_on (without j x.main.operands) x.main)) (before code s x) q (after code s q (main_after code (Store n v j) x) x)
stores code s q x n j v c r h =
    ap (λ (z : StoreOf). record (before code s x) { main = going_on (without j x.main.operands) x.main; store = z })
    (store_put code.variables x.shared.cells c n v r.laid h (omega (arith, r.cells, cells_below code.variables c.name c.place n r.laid h)))

-- What a step of main leaves is what the machine's step leaves.
pub main_moves : (code : Code) (s q : ℕ) (x : Kept) (n : Next) (v : View Frame Open) → Leads code q x → Tells code x.main v n → Went (main_after code n x).outcome
    → MainMove trips_of v (before code s x) q (after code s q (main_after code n x) x)
main_moves code s q x Local v r t w = absurd w
main_moves code s q x (Load n j) v r t w =
    subst (λ u. MainMove trips_of u (before code s x) q (after code s q (main_after code (Load n j) x) x)) (sym t.2)
    (ap (λ (z : ℤ). record (before code s x) { main = with_operand j x.main z }) (sym (store_is code.variables x.shared.cells t.0 n t.1)))
main_moves code s q x (Store n c j) v r t w = subst (λ u. MainMove trips_of u (before code s x) q (after code s q (main_after code (Store n c j) x) x)) (sym t.2) (stores code s q x n j c t.0 r t.1)
main_moves code s q x (Print pieces j) v r t w = subst (λ u. MainMove trips_of u (before code s x) q (after code s q (main_after code (Print pieces j) x) x)) (sym t.2) refl
main_moves code s q x (TakeRecord line) v r t w = subst (λ u. MainMove trips_of u (before code s x) q (after code s q (main_after code (TakeRecord line) x) x)) (sym t.0) refl
main_moves code s q x (TakeValue line) v r t w = subst (λ u. MainMove trips_of u (before code s x) q (after code s q (main_after code (TakeValue line) x) x)) (sym t.0) refl
main_moves code s q x DropRecord v r t w = subst (λ u. MainMove trips_of u (before code s x) q (after code s q (main_after code DropRecord x) x)) (sym t.0) refl
main_moves code s q x (Await e d) v r t w = absurd w
main_moves code s q x (Advance e) v r t w = absurd w
main_moves code s q x (Opens l) v r t w = subst (λ u. MainMove trips_of u (before code s x) q (after code s q (main_after code (Opens l) x) x)) (sym t.0) (opens_moves code s q x l r w)
main_moves code s q x (Join line) v r t w = subst (λ u. MainMove trips_of u (before code s x) q (after code s q (main_after code (Join line) x) x)) (sym t.0) (joined code s q line x x.shared.loop r refl w)
main_moves code s q x (Retire n) v r t w = absurd w
main_moves code s q x (Report e line) v r t w = subst (λ u. MainMove trips_of u (before code s x) q (after code s q (main_after code (Report e line) x) x)) (sym t) refl
main_moves code s q x (Stop line) v r t w = subst (λ u. MainMove trips_of u (before code s x) q (after code s q (main_after code (Stop line) x) x)) (sym t) refl
main_moves code s q x Halt v r t w = subst (λ u. MainMove trips_of u (before code s x) q (after code s q (main_after code Halt x) x)) (sym t) refl
main_moves code s q x Stuck v r t w = absurd w

-- the last value of the open loop's variable
pub closed_cells : (code : Code) (l : Open) (x : ℕ) (step v : ℤ) (cells : List ℤ) → x ≡ (loop_at code l.number).variable → step ≡ (loop_at code l.number).step → in_range (l.first +ℤ (pos l.trips *ℤ step)) ≡ Ok v
    → set_if (cell_number (slice_get code.variables x) (pos 0)) v cells ≡ with_last code l (in_range (index_at code l l.trips)) cells
closed_cells code l x step v cells e f g =
    ap (λ (y : ℕ). set_if (cell_number (slice_get code.variables y) (pos 0)) v cells) e
    ∙ ap (λ (o : Result ℤ Fault). with_last code l o cells) (sym g ∙ ap (λ (z : ℤ). in_range (l.first +ℤ (pos l.trips *ℤ z))) f)
