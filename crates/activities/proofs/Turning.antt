-- A step of an iteration is a step of the machine.
use Rattle.std.proofs.Common.{inl, inr, ◌≡◌, ◌∙◌, ◌⊎◌, ℕ, zero, suc, ◌+◌, ◌-◌, ◌<◌, ◌≤◌, Bool, true, false, List, [], ◌∷◌, ◌++◌, length, drop, get_or, Option, Some, None, refl, sym, ap, subst, arith}
use Rattle.std.specs.Prelude.{ℤ, pos, ◌%◌, ◌==◌, nat_lt, nat_le, if◌then◌else◌, slice_get}
use Rattle.std.proofs.Math.ListN.{set}
use Rattle.std.proofs.lemmas.Bool.{eqb-true, eq-eqb, ltb-true, ltb-false, leb-true, and_parts}
use Rattle.std.proofs.lemmas.List.{drop_all, drop_more, get_or-set_same, get_or-set_other, length-set}
use Rattle.std.proofs.lemmas.Option.{get_or_from_slice_get}
use Rattle.ast.specs.Store.{StoreOf}
use Rattle.ast.specs.declared.fault.End.{End}
use Rattle.ec_kernel.specs.View.{count_at, parked, advanced}
use Rattle.machine.specs.Code.{Code, Cell, Loop, cell_at, loop_at, no_loop}
use Rattle.machine.specs.Frame.{Frame}
use Rattle.machine.specs.Laid.{are_distinct, are_laid, cell_number, count_of, names_in, number_at}
use Rattle.machine.specs.Local.{going_on, without}
use Rattle.machine.specs.Next.{Tells}
use Rattle.machine.specs.State.{Active, Machine, Move, Wait, until_count, until_retired, Who, iteration, end_of, put_at, put_cell, put_cells, with_frame, park}
use Rattle.machine.specs.StoreView.{store_of}
use Rattle.machine.specs.ScalarView.{scalar_of, scalars_of}
use Rattle.machine.specs.declared.scalar.Scalar.{Scalar}
use Rattle.machine.specs.View.{Cause, View, defined_cells, stored_if, with_operand, loading, storing, awaiting, advancing, leaving, breaking, failure, stop_at, is_event}
use Rattle.machine.specs.declared.code.Open.{Open}
use Rattle.machine.specs.declared.code.Variable.{Variable}
use Rattle.machine.specs.declared.next.Next.{Next}
use Rattle.machine.specs.declared.next.Next.TheVariants.{Local, Load, Store, Print, TakeRecord, TakeValue, DropRecord, Await, Advance, Opens, Join, Retire, Report, Stop, Halt, Stuck}
use Rattle.machine.proofs.Naming.{cells_below, numbered, unnumbered}
use Rattle.machine.proofs.Stores.{store_is, store_put}
use Rattle.activities.specs.Parts.{Standing, Shared, Kept, standing, active, wait_in, held_of, counts_of, machine_of}
use Rattle.activities.specs.Turns.{After, cells_after, ends, idle, iteration_after, leaves, one_after, parks, put_back, set_if, stays, waits_its_turn}
use Rattle.activities.specs.declared.turn.Outcome.{Outcome}
use Rattle.activities.specs.declared.turn.Outcome.TheVariants.{Idle}
use Rattle.activities.proofs.Maps.{Mine, held_put, standing_is, iterations_put, parked_put, put_same, counts_put, counts_first, count_is}

-- processor q holds iteration k, which stands in its place
pub record Runs (code : Code) (s q k : ℕ) (a : Standing) (x : Kept) : Type 0 where
  pub here : get_or x.iterations (k % s) None ≡ Some a
  pub number : a.number ≡ k
  pub running : a.wait ≡ None
  pub room : k % s < length x.iterations
  pub holds : held_of x.held q ≡ Some (iteration k)
  pub below : q < length x.held
  pub laid : are_laid 0 code.variables ≡ true
  pub distinct : are_distinct (names_in code.variables) ≡ true
  pub cells : length x.shared.cells ≡ count_of code.variables
  pub counts : length x.shared.order.counts ≡ 65
  pub turn : count_at x.shared.order 0 ≤ k
  pub going : x.shared.ended ≡ None

-- ---- the machine after an iteration was put back

abbrev with_iteration : ℕ → ℕ → Shared → List (Option Who) → Option Standing → Kept → Kept
with_iteration s k y hs b x = record x { shared = y; iterations = set x.iterations (k % s) b; held = hs }

abbrev unmoved : List Variable → ℕ → Shared → List (Option Who) → Kept → Machine
unmoved vs s y hs x = machine_of vs s (record x { shared = y; held = hs })

turned : (code : Code) (s q k : ℕ) (a : Standing) (x : Kept) (y : Shared) (hs : List (Option Who)) (b : Option Standing) → Runs code s q k a x → Mine k b
    → machine_of code.variables s (with_iteration s k y hs b x)
    ≡ record (unmoved code.variables s y hs x) {
      iterations = put_at (λ i. active (standing x.iterations s i)) k (active b);
      parked = put_at (λ i. wait_in (standing x.iterations s i)) k (wait_in b);
    }
turned code s q k a x y hs b r m =
    let old : Mine k (get_or x.iterations (k % s) None) = subst (λ o. Mine k o) (sym r.here) r.number in
    let M : Machine = unmoved code.variables s y hs x in
    ap (λ (f : ℕ → Option (Active Frame)). record M { iterations = f; parked = λ i. wait_in (standing (set x.iterations (k % s) b) s i) }) (iterations_put x.iterations s k b r.room old m)
    ∙ ap (λ (g : ℕ → Option Wait). record M { iterations = put_at (λ i. active (standing x.iterations s i)) k (active b); parked = g }) (parked_put x.iterations s k b r.room old m)

pub here_is : (code : Code) (s q k : ℕ) (a : Standing) (x : Kept) → Runs code s q k a x → standing x.iterations s k ≡ Some a
here_is code s q k a x r = standing_is x.iterations s k (Some a) r.here r.number

-- it goes on
stays_machine : (code : Code) (s q k : ℕ) (a : Standing) (x : Kept) (y : Shared) (b : Standing) → Runs code s q k a x → b.number ≡ k → b.wait ≡ None
    → machine_of code.variables s (with_iteration s k y x.held (Some b) x) ≡ with_frame (unmoved code.variables s y x.held x) k b.frame b.out
stays_machine code s q k a x y b r m w =
    let M : Machine = unmoved code.variables s y x.held x in
    turned code s q k a x y x.held (Some b) r m
    ∙ ap (λ (g : ℕ → Option Wait). record M { iterations = put_at (λ i. active (standing x.iterations s i)) k (active (Some b)); parked = g })
    (put_same (λ i. wait_in (standing x.iterations s i)) k b.wait (ap wait_in (here_is code s q k a x r) ∙ r.running ∙ sym w))

-- it is parked
parks_machine : (code : Code) (s q k : ℕ) (a : Standing) (x : Kept) (y : Shared) (w : Wait) → Runs code s q k a x
    → machine_of code.variables s (with_iteration s k y (set x.held q None) (Some (record a { wait = Some w })) x) ≡ park (unmoved code.variables s y x.held x) q k w
parks_machine code s q k a x y w r =
    let M : Machine = unmoved code.variables s y (set x.held q None) x in
    let N : Machine = unmoved code.variables s y x.held x in
    turned code s q k a x y (set x.held q None) (Some (record a { wait = Some w })) r r.number
    ∙ ap (λ (f : ℕ → Option (Active Frame)). record M { iterations = f; parked = put_at (λ i. wait_in (standing x.iterations s i)) k (Some w) })
    (put_same (λ i. active (standing x.iterations s i)) k (active (Some a)) (ap active (here_is code s q k a x r)))
    ∙ ap (λ (h : ℕ → Option Who). record N { parked = put_at (λ i. wait_in (standing x.iterations s i)) k (Some w); held = h }) (held_put x.held q None r.below)

-- it has retired
leaves_machine : (code : Code) (s q k : ℕ) (a : Standing) (x : Kept) (y : Shared) → Runs code s q k a x
    → machine_of code.variables s (with_iteration s k y (set x.held q None) None x)
    ≡ record (unmoved code.variables s y x.held x) { iterations = put_at (λ i. active (standing x.iterations s i)) k None; held = put_at (held_of x.held) q None }
leaves_machine code s q k a x y r =
    let M : Machine = unmoved code.variables s y (set x.held q None) x in
    let N : Machine = unmoved code.variables s y x.held x in
    turned code s q k a x y (set x.held q None) None r tt
    ∙ ap (λ (g : ℕ → Option Wait). record M { iterations = put_at (λ i. active (standing x.iterations s i)) k None; parked = g })
    (put_same (λ i. wait_in (standing x.iterations s i)) k None (ap wait_in (here_is code s q k a x r) ∙ r.running))
    ∙ ap (λ (h : ℕ → Option Who). record N { iterations = put_at (λ i. active (standing x.iterations s i)) k None; held = h }) (held_put x.held q None r.below)

-- it stands as before
same_machine : (code : Code) (s q k : ℕ) (a : Standing) (x : Kept) (y : Shared) → Runs code s q k a x
    → machine_of code.variables s (with_iteration s k y x.held (Some a) x) ≡ unmoved code.variables s y x.held x
same_machine code s q k a x y r =
    let M : Machine = unmoved code.variables s y x.held x in
    stays_machine code s q k a x y a r r.number r.running
    ∙ ap (λ (f : ℕ → Option (Active Frame)). record M { iterations = f }) (put_same (λ i. active (standing x.iterations s i)) k (active (Some a)) (ap active (here_is code s q k a x r)))

-- ---- private scalars are stored

abbrev pub Vars : Type 0
Vars = List Variable

pub if_length : (o : Option ℕ) (v : ℤ) (cells : List ℤ) → length (set_if o v cells) ≡ length cells
if_length None v cells = refl
if_length (Some n) v cells = length-set cells n v

pub after_length : (code : Code) (xs : List ℕ) (vs : List (Option ℤ)) (cells : List ℤ) → length (cells_after code xs vs cells) ≡ length cells
after_length code [] vs cells = refl
after_length code (x ∷ xs) [] cells = refl
after_length code (x ∷ xs) (None ∷ vs) cells = after_length code xs vs cells
after_length code (x ∷ xs) (Some v ∷ vs) cells = if_length (cell_number (slice_get code.variables x) (pos 0)) v (cells_after code xs vs cells) ∙ after_length code xs vs cells

pub one_stored : (vs : Vars) (i : ℕ) (o : Option Variable) (v : ℤ) (cells : List ℤ) (store : StoreOf) (more : List (Cell × ℤ)) → are_laid 0 vs ≡ true → are_distinct (names_in vs) ≡ true → slice_get vs i ≡ o → length cells ≡ count_of vs → store_of vs cells ≡ put_cells store more
    → store_of vs (set_if (cell_number o (pos 0)) v cells) ≡ put_cells store (stored_if (cell_at o 0) v more)
one_stored vs i o v cells store more l d g c h = by (cell_number o (pos 0)) refl
  where
    by : (n : Option ℕ) → cell_number o (pos 0) ≡ n → store_of vs (set_if n v cells) ≡ put_cells store (stored_if (cell_at o 0) v more)
    by None e = h ∙ ap (λ (z : Option Cell). put_cells store (stored_if z v more)) (sym (unnumbered o (pos 0) e))
    by (Some n) e =
        let k = numbered vs i o (pos 0) n d g e in
        store_put vs cells k.cell n v l k.number (omega (arith, c, cells_below vs k.cell.name k.cell.place n l k.number))
        ∙ ap (λ (z : StoreOf). put_cell z k.cell v) h
        ∙ ap (λ (z : Option Cell). put_cells store (stored_if z v more)) (sym k.is)

all_stored : (code : Code) (xs : List ℕ) (vs : List (Option ℤ)) (cells : List ℤ) → are_laid 0 code.variables ≡ true → are_distinct (names_in code.variables) ≡ true → length cells ≡ count_of code.variables
    → store_of code.variables (cells_after code xs vs cells) ≡ put_cells (store_of code.variables cells) (defined_cells code xs vs)
all_stored code [] vs cells l d c = refl
all_stored code (x ∷ xs) [] cells l d c = refl
all_stored code (x ∷ xs) (None ∷ vs) cells l d c = all_stored code xs vs cells l d c
all_stored code (x ∷ xs) (Some v ∷ vs) cells l d c =
    one_stored code.variables x (slice_get code.variables x) v (cells_after code xs vs cells) (store_of code.variables cells) (defined_cells code xs vs) l d refl (after_length code xs vs cells ∙ c) (all_stored code xs vs cells l d c)

-- ---- a step

abbrev pub Went : Outcome → Type 0
Went Idle = ⊥
Went _ = Unit {0}

abbrev of : Standing → Active Frame
of a = record { frame = a.frame; out = a.out }

abbrev before : Code → ℕ → Kept → Machine
before code s x = machine_of code.variables s x

abbrev after : Code → ℕ → ℕ → ℕ → After → Kept → Machine
after code s q k y x = machine_of code.variables s (put_back q (k % s) y x)

pub event_some : (e : ℕ) → is_event e ≡ true → (e ≡ 0 → ⊥) × (e < 65)
event_some e h =
    let k = and_parts (nat_lt 0 e) (nat_le e 64) h in
    (λ z. omega (arith, ltb-true 0 e k.0, z), omega (arith, leb-true e 64 k.1))

-- it is parked until it is the next to retire
waits_turn : (code : Code) (s q k : ℕ) (a : Standing) (x : Kept) → Runs code s q k a x → ((count_at x.shared.order 0 ≡ k) → ⊥)
    → ((before code s x).retired < k) × (after code s q k (waits_its_turn (1 + k % s) x.shared a) x ≡ park (before code s x) q k (until_retired k))
waits_turn code s q k a x r d = (
  omega (arith, r.turn, d),
  parks_machine code s q k a x (record x.shared { order = parked x.shared.order 0 a.number (1 + k % s) }) (until_retired a.number) r
      ∙ ap (λ (n : ℕ). park (before code s x) q k (until_retired n)) r.number,
)

ends_machine : (code : Code) (s q k : ℕ) (a : Standing) (x : Kept) (e : End) → Runs code s q k a x
    → after code s q k (ends e x.shared a) x ≡ record (before code s x) { output = x.shared.output ++ a.out; ended = Some e }
ends_machine code s q k a x e r = same_machine code s q k a x (record x.shared { output = x.shared.output ++ a.out; ended = Some e }) r

by_turn : (code : Code) (s q k : ℕ) (a : Standing) (x : Kept) (y : After) (P : Machine → Type 0) → Runs code s q k a x
    → (count_at x.shared.order 0 ≡ k → P (after code s q k y x))
    → ((count_at x.shared.order 0 ≡ k → ⊥) → P (after code s q k (waits_its_turn (1 + k % s) x.shared a) x))
    → P (after code s q k (if count_at x.shared.order 0 == a.number then y else waits_its_turn (1 + k % s) x.shared a) x)
by_turn code s q k a x y P r at off = by (count_at x.shared.order 0 == a.number) refl
  where
    by : (b : Bool) → (count_at x.shared.order 0 == a.number) ≡ b → P (after code s q k (if b then y else waits_its_turn (1 + k % s) x.shared a) x)
    by true e = at (eqb-true (count_at x.shared.order 0) a.number e ∙ r.number)
    by false e = off (λ h. let z : true ≡ false = sym (eq-eqb (count_at x.shared.order 0) a.number (h ∙ sym r.number)) ∙ e in cc)

loads : (code : Code) (s q k : ℕ) (a : Standing) (x : Kept) (n j : ℕ) (c : Cell) → Runs code s q k a x → number_at code.variables c.name c.place ≡ Some n
    → Move (loading c (with_operand j a.frame)) (of a) (before code s x) q k (after code s q k (iteration_after code (1 + k % s) (Load n j) x.shared a) x)
loads code s q k a x n j c r h =
    stays_machine code s q k a x x.shared (record a { frame = with_operand j a.frame (get_or x.shared.cells n (pos 0)) }) r r.number r.running
    ∙ ap (λ (v : ℤ). with_frame (before code s x) k (with_operand j a.frame v) a.out) (sym (store_is code.variables x.shared.cells c n h))

stores : (code : Code) (s q k : ℕ) (a : Standing) (x : Kept) (n j : ℕ) (v : ℤ) (c : Cell) → Runs code s q k a x → number_at code.variables c.name c.place ≡ Some n
    → Move (storing c v (going_on (without j a.frame.operands) a.frame)) (of a) (before code s x) q k (after code s q k (iteration_after code (1 + k % s) (Store n v j) x.shared a) x)
stores code s q k a x n j v c r h =
    let g : Frame = going_on (without j a.frame.operands) a.frame in
    stays_machine code s q k a x (record x.shared { cells = set x.shared.cells n v }) (record a { frame = g }) r r.number r.running
    ∙ ap (λ (z : StoreOf). record (with_frame (before code s x) k g a.out) { store = z })
    (store_put code.variables x.shared.cells c n v r.laid h (omega (arith, r.cells, cells_below code.variables c.name c.place n r.laid h)))

awaits : (code : Code) (s q k : ℕ) (a : Standing) (x : Kept) (e d : ℕ) → Runs code s q k a x → is_event e ≡ true
    → Move (awaiting e d (going_on a.frame.operands a.frame)) (of a) (before code s x) q k (after code s q k (iteration_after code (1 + k % s) (Await e d) x.shared a) x)
awaits code s q k a x e d r h = by (nat_lt a.number (count_at x.shared.order e + d)) refl
  where
    g : Frame
    g = going_on a.frame.operands a.frame

    count : (before code s x).counts e ≡ count_at x.shared.order e
    count = count_is x.shared.order.counts e (event_some e h).0

    by : (b : Bool) → nat_lt a.number (count_at x.shared.order e + d) ≡ b
        → Move (awaiting e d g) (of a) (before code s x) q k (after code s q k (if b then stays x.shared (record a { frame = g }) else parks (1 + k % s) e (a.number + 1 - d) (until_count e (a.number + 1 - d)) x.shared a) x)
    by true w = inl (
      omega (arith, ltb-true a.number (count_at x.shared.order e + d) w, count, r.number),
      stays_machine code s q k a x x.shared (record a { frame = g }) r r.number r.running,
    )
    by false w = inr (
      omega (arith, ltb-false a.number (count_at x.shared.order e + d) w, count, r.number),
      parks_machine code s q k a x (record x.shared { order = parked x.shared.order e (a.number + 1 - d) (1 + k % s) }) (until_count e (a.number + 1 - d)) r
          ∙ ap (λ (n : ℕ). park (before code s x) q k (until_count e (n + 1 - d))) r.number,
    )

advances_machine : (code : Code) (s q k : ℕ) (a : Standing) (x : Kept) (e : ℕ) → Runs code s q k a x → is_event e ≡ true
    → unmoved code.variables s (record x.shared { order = advanced x.shared.order e }) x.held x
    ≡ record (before code s x) { counts = put_at (before code s x).counts e ((before code s x).counts e + 1) }
advances_machine code s q k a x e r h =
    let z = event_some e h in
    let c : ℕ = count_at x.shared.order e + 1 in
    ap (λ (n : ℕ). record (before code s x) { counts = counts_of (set x.shared.order.counts e c); retired = n }) (get_or-set_other x.shared.order.counts e 0 c 0 (λ i. z.0 (sym i)))
    ∙ ap (λ (f : ℕ → ℕ). record (before code s x) { counts = f }) (counts_put x.shared.order.counts e c (omega (arith, z.1, r.counts)) z.0)
    ∙ ap (λ (n : ℕ). record (before code s x) { counts = put_at (before code s x).counts e (n + 1) }) (sym (count_is x.shared.order.counts e z.0))

advances : (code : Code) (s q k : ℕ) (a : Standing) (x : Kept) (e : ℕ) → Runs code s q k a x → is_event e ≡ true → Went (iteration_after code (1 + k % s) (Advance e) x.shared a).outcome
    → Move (advancing e (going_on a.frame.operands a.frame)) (of a) (before code s x) q k (after code s q k (iteration_after code (1 + k % s) (Advance e) x.shared a) x)
advances code s q k a x e r h = by (count_at x.shared.order e == a.number) refl
  where
    g : Frame
    g = going_on a.frame.operands a.frame

    y : Shared
    y = record x.shared { order = advanced x.shared.order e }

    by : (b : Bool) → (count_at x.shared.order e == a.number) ≡ b → Went (if b then stays y (record a { frame = g }) else idle x.shared a).outcome
        → Move (advancing e g) (of a) (before code s x) q k (after code s q k (if b then stays y (record a { frame = g }) else idle x.shared a) x)
    by true w t = (
      count_is x.shared.order.counts e (event_some e h).0 ∙ eqb-true (count_at x.shared.order e) a.number w ∙ r.number,
      stays_machine code s q k a x y (record a { frame = g }) r r.number r.running
          ∙ ap (λ (m : Machine). with_frame m k g a.out) (advances_machine code s q k a x e r h),
    )
    by false w t = absurd t

retires : (code : Code) (s q k : ℕ) (a : Standing) (x : Kept) (n : ℕ) (l : Loop) → Runs code s q k a x → slice_get code.loops n ≡ Some l
    → Move (leaving (defined_cells code l.privates a.frame.privates)) (of a) (before code s x) q k (after code s q k (iteration_after code (1 + k % s) (Retire n) x.shared a) x)
retires code s q k a x n l r g =
    by_turn code s q k a x (leaves code n x.shared a) (λ m. Move (leaving xs) (of a) (before code s x) q k m) r
    (λ e. inl (e, leaves_machine code s q k a x y r ∙ store ∙ retired ∙ counts))
    (λ d. inr (waits_turn code s q k a x r d))
  where
    xs : List (Cell × ℤ)
    xs = defined_cells code l.privates a.frame.privates

    y : Shared
    y = (leaves code n x.shared a).shared

    c : ℕ
    c = count_at x.shared.order 0 + 1

    made : StoreOf → ℕ → (ℕ → ℕ) → Machine
    made f i h = record (before code s x) {
      store = f;
      output = x.shared.output ++ a.out;
      counts = h;
      retired = i;
      iterations = put_at (λ j. active (standing x.iterations s j)) k None;
      held = put_at (held_of x.held) q None;
    }

    privates : (loop_at code n).privates ≡ l.privates
    privates = ap (λ (z : Loop). z.privates) (get_or_from_slice_get code.loops n l (no_loop code) g)

    store : made (store_of code.variables y.cells) (get_or (set x.shared.order.counts 0 c) 0 0) (counts_of (set x.shared.order.counts 0 c)) ≡ made (put_cells (before code s x).store xs) (get_or (set x.shared.order.counts 0 c) 0 0) (counts_of (set x.shared.order.counts 0 c))
    store =
        ap (λ (f : StoreOf). made f (get_or (set x.shared.order.counts 0 c) 0 0) (counts_of (set x.shared.order.counts 0 c)))
        (all_stored code (loop_at code n).privates a.frame.privates x.shared.cells r.laid r.distinct r.cells
        ∙ ap (λ (ps : List ℕ). put_cells (store_of code.variables x.shared.cells) (defined_cells code ps a.frame.privates)) privates)

    retired : made (put_cells (before code s x).store xs) (get_or (set x.shared.order.counts 0 c) 0 0) (counts_of (set x.shared.order.counts 0 c)) ≡ made (put_cells (before code s x).store xs) c (counts_of (set x.shared.order.counts 0 c))
    retired = ap (λ (i : ℕ). made (put_cells (before code s x).store xs) i (counts_of (set x.shared.order.counts 0 c))) (get_or-set_same x.shared.order.counts 0 c 0 (omega (arith, r.counts)))

    counts : made (put_cells (before code s x).store xs) c (counts_of (set x.shared.order.counts 0 c)) ≡ made (put_cells (before code s x).store xs) c (before code s x).counts
    counts = ap (λ (h : ℕ → ℕ). made (put_cells (before code s x).store xs) c h) (counts_first x.shared.order.counts c)

breaks : (code : Code) (s q k : ℕ) (a : Standing) (x : Kept) (c : Cause) → Runs code s q k a x
    → Move (breaking c) (of a) (before code s x) q k (after code s q k (if count_at x.shared.order 0 == a.number then ends (end_of c) x.shared a else waits_its_turn (1 + k % s) x.shared a) x)
breaks code s q k a x c r =
    by_turn code s q k a x (ends (end_of c) x.shared a) (λ m. Move (breaking c) (of a) (before code s x) q k m) r
    (λ e. inl (e, ends_machine code s q k a x (end_of c) r))
    (λ d. inr (waits_turn code s q k a x r d))

-- What a step of an iteration leaves is what the machine's step leaves.
pub moves : (code : Code) (s q k : ℕ) (a : Standing) (x : Kept) (n : Next) (v : View Frame Open) → Runs code s q k a x → Tells code a.frame v n → Went (iteration_after code (1 + k % s) n x.shared a).outcome
    → Move v (of a) (before code s x) q k (after code s q k (iteration_after code (1 + k % s) n x.shared a) x)
moves code s q k a x Local v r t w = absurd w
moves code s q k a x (Load n j) v r t w = subst (λ u. Move u (of a) (before code s x) q k (after code s q k (iteration_after code (1 + k % s) (Load n j) x.shared a) x)) (sym t.2) (loads code s q k a x n j t.0 r t.1)
moves code s q k a x (Store n c j) v r t w = subst (λ u. Move u (of a) (before code s x) q k (after code s q k (iteration_after code (1 + k % s) (Store n c j) x.shared a) x)) (sym t.2) (stores code s q k a x n j c t.0 r t.1)
moves code s q k a x (Print pieces j) v r t w =
    let y = iteration_after code (1 + k % s) (Print pieces j) x.shared a in
    subst (λ u. Move u (of a) (before code s x) q k (after code s q k y x)) (sym t.2) (stays_machine code s q k a x x.shared y.standing r r.number r.running)
moves code s q k a x (TakeRecord line) v r t w = absurd w
moves code s q k a x (TakeValue line) v r t w = absurd w
moves code s q k a x DropRecord v r t w = absurd w
moves code s q k a x (Await e d) v r t w = subst (λ u. Move u (of a) (before code s x) q k (after code s q k (iteration_after code (1 + k % s) (Await e d) x.shared a) x)) (sym t.0) (awaits code s q k a x e d r t.1)
moves code s q k a x (Advance e) v r t w = subst (λ u. Move u (of a) (before code s x) q k (after code s q k (iteration_after code (1 + k % s) (Advance e) x.shared a) x)) (sym t.0) (advances code s q k a x e r t.1 w)
moves code s q k a x (Opens l) v r t w = absurd w
moves code s q k a x (Join line) v r t w = absurd w
moves code s q k a x (Retire n) v r t w = subst (λ u. Move u (of a) (before code s x) q k (after code s q k (iteration_after code (1 + k % s) (Retire n) x.shared a) x)) (sym t.2) (retires code s q k a x n t.0 r t.1)
moves code s q k a x (Report e line) v r t w = subst (λ u. Move u (of a) (before code s x) q k (after code s q k (iteration_after code (1 + k % s) (Report e line) x.shared a) x)) (sym t) (breaks code s q k a x (failure e line) r)
moves code s q k a x (Stop line) v r t w = subst (λ u. Move u (of a) (before code s x) q k (after code s q k (iteration_after code (1 + k % s) (Stop line) x.shared a) x)) (sym t) (breaks code s q k a x (stop_at line) r)
moves code s q k a x Halt v r t w = absurd w
moves code s q k a x Stuck v r t w = absurd w

-- ---- the code that stores private scalars

pub cell_within : (vs : Vars) (i : ℕ) (z : ℤ) (n : ℕ) → are_laid 0 vs ≡ true → are_distinct (names_in vs) ≡ true → cell_number (slice_get vs i) z ≡ Some n → n < count_of vs
cell_within vs i z n l d e = let k = numbered vs i (slice_get vs i) z n d refl e in cells_below vs k.cell.name k.cell.place n l k.number

one_more : (code : Code) (x : ℕ) (xs : List ℕ) (o : Option ℤ) (vs : List (Option ℤ)) (cells : List ℤ) → cells_after code (x ∷ xs) (o ∷ vs) cells ≡ one_after code x o (cells_after code xs vs cells)
one_more code x xs None vs cells = refl
one_more code x xs (Some v) vs cells = refl

pub stores_one : (code : Code) (n i d : ℕ) (xs : List ℕ) (o : Option ℤ) (vs : List (Option ℤ)) (old mid new : List ℤ) → n ≡ i + 1 → i < length xs → i < length vs → cells_after code (drop n xs) (drop n vs) old ≡ mid → new ≡ one_after code (get_or xs i d) (get_or vs i o) mid → cells_after code (drop i xs) (drop i vs) old ≡ new
stores_one code n i d xs o vs old mid new m h k w u =
    ap (λ (ys : List ℕ). cells_after code ys (drop i vs) old) (drop_more xs i d h)
    ∙ ap (λ (ys : List (Option ℤ)). cells_after code (get_or xs i d ∷ drop (i + 1) xs) ys old) (drop_more vs i o k)
    ∙ one_more code (get_or xs i d) (drop (i + 1) xs) (get_or vs i o) (drop (i + 1) vs) old
    ∙ ap (λ (c : List ℤ). one_after code (get_or xs i d) (get_or vs i o) c) (ap (λ (j : ℕ). cells_after code (drop j xs) (drop j vs) old) (sym m) ∙ w)
    ∙ sym u

pub scalar_at : (ps : List Scalar) (i : ℕ) (d : Scalar) (o : Option ℤ) → i < length ps → scalar_of (get_or ps i d) ≡ get_or (scalars_of ps) i o
scalar_at [] i d o h = absurd (omega (arith, h))
scalar_at (p ∷ ps) zero d o h = refl
scalar_at (p ∷ ps) (suc i) d o h = scalar_at ps i d o (omega (arith, h))

pub one_length : (code : Code) (x : ℕ) (o : Option ℤ) (cells : List ℤ) → length (one_after code x o cells) ≡ length cells
one_length code x None cells = refl
one_length code x (Some v) cells = if_length (cell_number (slice_get code.variables x) (pos 0)) v cells

pub stores_nothing : (code : Code) (i : ℕ) (xs : List ℕ) (vs : List (Option ℤ)) (cells : List ℤ) → (length xs ≤ i) ⊎ (length vs ≤ i) → cells_after code (drop i xs) (drop i vs) cells ≡ cells
stores_nothing code i xs vs cells (inl h) = ap (λ (ys : List ℕ). cells_after code ys (drop i vs) cells) (drop_all i xs h)
stores_nothing code i xs vs cells (inr h) = ap (λ (ys : List (Option ℤ)). cells_after code (drop i xs) ys cells) (drop_all i vs h) ∙ none_given code (drop i xs) cells
  where
    none_given : (code : Code) (xs : List ℕ) (cells : List ℤ) → cells_after code xs [] cells ≡ cells
    none_given code [] cells = refl
    none_given code (x ∷ xs) cells = refl
