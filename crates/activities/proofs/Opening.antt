-- In each iteration of a loop that is opened its variable has a 64-bit integer.
use Rattle.std.proofs.Common.{◌≡◌, ◌∙◌, ℕ, zero, suc, ◌+◌, ◌-◌, ◌<◌, ◌≤◌, ◌^◌, Bool, true, false, List, [], ◌∷◌, get_or, Option, Some, None, refl, sym, ap, subst, arith}
use Rattle.std.specs.Prelude.{ℤ, pos, negsuc, neg_ℤ, int_div, ◌+ℤ◌, ◌-ℤ◌, ◌*ℤ◌, ◌*◌, ◌/◌, nat_le, if◌then◌else◌, length, reverse, slice_get, take}
use Rattle.std.specs.Ordering.{int_eq}
use Rattle.std.proofs.Math.Nat.{div-mul-le_self, mul-le-mul_right}
use Rattle.std.proofs.lemmas.Bool.{lt-ltb, ltb-true}
use Rattle.std.proofs.lemmas.Int.{ints}
use Rattle.std.proofs.lemmas.Option.{get_or_from_slice_get}
use Rattle.ast.specs.Exact.{fits, positive_part, trips}
use Rattle.ast.specs.Input.{next_integer}
use Rattle.ast.specs.Record.{record_of}
use Rattle.ast.specs.declared.fault.Fault.{Fault}
use Rattle.machine.specs.Code.{Part, Loop, Code, Cell, cell_at, loop_at, no_loop}
use Rattle.machine.specs.Frame.{Frame, has_room}
use Rattle.machine.specs.Local.{going_on, local_act, one_of, two_of, without}
use Rattle.machine.specs.View.{View, stuck, printing, reading, awaiting, advancing, opening, opened, values_wanted, filled, is_event, input_behind, frame_with, doing_if, loading_if, element_loading, cell_from, storing_if, scalar_storing, element_storing, printing_if, awaiting_if, opening_of, opening_if, leaving_if, act_view, instr_view, fault_view, view}
use Rattle.machine.specs.declared.code.Await.{Await as Awaited}
use Rattle.machine.specs.declared.code.Open.{Open as Opened}
use Rattle.machine.specs.declared.code.Variable.{Variable}
use Rattle.machine.specs.declared.instr.Act.{Act}
use Rattle.machine.specs.declared.instr.Act.TheVariants.{Load, LoadElement, Store, StoreElement, Print, TakeRecord, TakeValue, DropRecord, Await, Advance, Open, Join, Retire, Stop, Halt}
use Rattle.machine.specs.declared.instr.Instr.{Instr}
use Rattle.activities.specs.Core.{HaveIndices}

-- ---- a loop that is opened is one of the code's, with its two values as operands

pub record OpensWell (code : Code) (f : Frame) (l : Opened) : Type 0 where
  pub from : Loop
  pub last : ℤ
  pub there : slice_get code.loops l.number ≡ Some from
  pub step : int_eq from.step (pos 0) ≡ false
  pub operands : two_of f.operands.items ≡ Some (l.first, last)
  pub trips : l.trips ≡ trips l.first last from.step

abbrev Well : Code → Frame → View Frame Opened → Type 0
Well code f (opening l g) = OpensWell code f l
Well code f _ = Unit {0}

either : (code : Code) (f : Frame) (b : Bool) (v : View Frame Opened) → Well code f v → Well code f (if b then v else stuck)
either code f true v h = h
either code f false v h = tt

doing_well : (code : Code) (f : Frame) (o : Option Frame) → Well code f (doing_if o)
doing_well code f None = tt
doing_well code f (Some g) = tt

load_well : (code : Code) (f : Frame) (c : Option Cell) (n : ℕ) → Well code f (loading_if c n f)
load_well code f None n = tt
load_well code f (Some c) n = tt

element_well : (code : Code) (f : Frame) (x : Option Variable) (p : Option ℤ) → Well code f (element_loading x p f)
element_well code f x None = tt
element_well code f x (Some p) = load_well code f (cell_from x p) 1

store_well : (code : Code) (f : Frame) (c : Option Cell) (v : ℤ) (n : ℕ) → Well code f (storing_if c v n f)
store_well code f None v n = tt
store_well code f (Some c) v n = tt

scalar_store_well : (code : Code) (f : Frame) (x : Option Variable) (v : Option ℤ) → Well code f (scalar_storing x v f)
scalar_store_well code f x None = tt
scalar_store_well code f x (Some v) = store_well code f (cell_at x 0) v 1

element_store_well : (code : Code) (f : Frame) (x : Option Variable) (v : Option (ℤ × ℤ)) → Well code f (element_storing x v f)
element_store_well code f x None = tt
element_store_well code f x (Some a) = store_well code f (cell_from x a.1) a.0 2

print_well : (code : Code) (f : Frame) (r : Option (List Part)) → Well code f (printing_if r f)
print_well code f None = tt
print_well code f (Some ps) =
    either code f (nat_le (values_wanted ps) (length f.operands.items)) (printing (record_of (filled ps (reverse (take (values_wanted ps) f.operands.items)))) (going_on (without (values_wanted ps) f.operands) f)) tt

await_well : (code : Code) (f : Frame) (a : Option Awaited) → Well code f (awaiting_if a f)
await_well code f None = tt
await_well code f (Some a) = either code f (is_event a.event) (awaiting a.event a.distance (going_on f.operands f)) tt

open_of_well : (code : Code) (f : Frame) (l : Loop) (n : ℕ) (m : Option (ℤ × ℤ)) → slice_get code.loops n ≡ Some l → two_of f.operands.items ≡ m → Well code f (opening_of l n m f)
open_of_well code f l n None e o = tt
open_of_well code f l n (Some m) e o = by (int_eq l.step (pos 0)) refl
  where
    by : (b : Bool) → int_eq l.step (pos 0) ≡ b → Well code f (if b then stuck else opening (opened n m.0 m.1 l.step) (going_on (without 2 f.operands) f))
    by true z = tt
    by false z = record { from = l; last = m.1; there = e; step = z; operands = o; trips = refl }

open_well : (code : Code) (f : Frame) (l : Option Loop) (n : ℕ) → slice_get code.loops n ≡ l → Well code f (opening_if l n f)
open_well code f None n e = tt
open_well code f (Some l) n e = open_of_well code f l n (two_of f.operands.items) e refl

leave_well : (code : Code) (f : Frame) (l : Option Loop) → Well code f (leaving_if code l f)
leave_well code f None = tt
leave_well code f (Some l) = tt

act_well : (code : Code) (a : Act) (line : ℕ) (f : Frame) → Well code f (act_view code a line f)
act_well code (Load x) line f = either code f (has_room f.operands) (loading_if (cell_at (slice_get code.variables x) 0) 0 f) (load_well code f (cell_at (slice_get code.variables x) 0) 0)
act_well code (LoadElement x) line f = element_well code f (slice_get code.variables x) (one_of f.operands.items)
act_well code (Store x) line f = scalar_store_well code f (slice_get code.variables x) (one_of f.operands.items)
act_well code (StoreElement x) line f = element_store_well code f (slice_get code.variables x) (two_of f.operands.items)
act_well code (Print r) line f = print_well code f (slice_get code.records r)
act_well code TakeRecord line f = tt
act_well code TakeValue line f = either code f (has_room f.operands) (reading (λ i. input_behind (next_integer i.left i.records) i) (λ i. frame_with (next_integer i.left i.records) line f)) tt
act_well code DropRecord line f = tt
act_well code (Await a) line f = await_well code f (slice_get code.awaits a)
act_well code (Advance n) line f = either code f (is_event n) (advancing n (going_on f.operands f)) tt
act_well code (Open n) line f = open_well code f (slice_get code.loops n) n refl
act_well code Join line f = tt
act_well code (Retire n) line f = leave_well code f (slice_get code.loops n)
act_well code Stop line f = tt
act_well code Halt line f = tt
act_well code a line f = doing_well code f (local_act a line f)

instr_well : (code : Code) (i : Option Instr) (f : Frame) → Well code f (instr_view code i f)
instr_well code None f = tt
instr_well code (Some i) f = act_well code i.act i.line f

fault_well : (code : Code) (x : Option (Fault × ℕ)) (v : View Frame Opened) (f : Frame) → Well code f v → Well code f (fault_view x v)
fault_well code None v f h = h
fault_well code (Some x) v f h = tt

pub opens_well : (code : Code) (f g : Frame) (l : Opened) → view code f ≡ opening l g → OpensWell code f l
opens_well code f g l e = subst (λ (v : View Frame Opened). Well code f v) e (fault_well code f.fault (instr_view code (slice_get code.instructions f.place) f) f (instr_well code (slice_get code.instructions f.place) f))

-- ---- the values of a variable lie between the first and the last

no_more : (c : ℕ) → positive_part (neg_ℤ (pos c)) ≡ 0
no_more zero = refl
no_more (suc c) = refl

quotient_times : (n d k : ℕ) → k < n / suc d → k * suc d + suc d ≤ n
quotient_times n d k h = omega (arith, div-mul-le_self n (suc d), mul-le-mul_right {m = k + 1} {n = n / suc d} (suc d) (omega (arith, h)))

-- how far a 64-bit integer is above the least, and below the one behind the greatest
record Fits64 (z : ℤ) : Type 0 where
  pub above : ℕ
  pub below : ℕ
  pub low : z +ℤ pos (2 ^ 63) ≡ pos above
  pub high : z +ℤ pos (below + 1) ≡ pos (2 ^ 63)

fits_from : (z : ℤ) → fits z ≡ true → Fits64 z
fits_from (pos n) h = let l = ltb-true n (2 ^ 63) h in record { above = n + 2 ^ 63; below = 2 ^ 63 - 1 - n; low = omega (arith, ints, l); high = omega (arith, ints, l) }
fits_from (negsuc n) h = let l = ltb-true n (2 ^ 63) h in record { above = 2 ^ 63 - 1 - n; below = 2 ^ 63 + n; low = omega (arith, ints, l); high = omega (arith, ints, l) }

fits_to : (z : ℤ) → Fits64 z → fits z ≡ true
fits_to (pos n) h = let l = h.low in let r = h.high in lt-ltb n (2 ^ 63) (omega (arith, ints, l, r))
fits_to (negsuc n) h = let l = h.low in let r = h.high in lt-ltb n (2 ^ 63) (omega (arith, ints, l, r))

-- a number between two others
upward : (a b : ℤ) (p r : ℕ) → fits a ≡ true → fits b ≡ true → (a +ℤ pos p) +ℤ pos r ≡ b → fits (a +ℤ pos p) ≡ true
upward a b p r f g e =
    let x = fits_from a f in
    let y = fits_from b g in
    let l = x.low in
    let h = y.high in
    fits_to (a +ℤ pos p) (record { above = x.above + p; below = y.below + r; low = omega (arith, ints, l); high = omega (arith, ints, h, e) })

downward : (a b : ℤ) (p r : ℕ) → fits a ≡ true → fits b ≡ true → b +ℤ pos r ≡ a +ℤ neg_ℤ (pos p) → fits (a +ℤ neg_ℤ (pos p)) ≡ true
downward a b p r f g e =
    let x = fits_from a f in
    let y = fits_from b g in
    let l = y.low in
    let h = x.high in
    fits_to (a +ℤ neg_ℤ (pos p)) (record { above = y.above + r; below = x.below + p; low = omega (arith, ints, l, e); high = omega (arith, ints, h) })

between : (a b m n : ℤ) (k : ℕ) → fits a ≡ true → fits b ≡ true → (b -ℤ a) +ℤ m ≡ n → int_eq m (pos 0) ≡ false → k < positive_part (int_div n m) → fits (a +ℤ (pos k *ℤ m)) ≡ true
between a b (pos zero) n k f g e z h = cc
between a b (pos (suc d)) (pos n) k f g e z h =
    let q = quotient_times n d k h in
    upward a b (k * suc d) (n - suc d - k * suc d) f g (omega (arith, ints, q, e))
between a b (pos (suc d)) (negsuc n) k f g e z h = absurd (omega (arith, h, no_more (suc n / suc d)))
between a b (negsuc d) (pos n) k f g e z h = absurd (omega (arith, h, no_more (n / suc d)))
between a b (negsuc d) (negsuc n) k f g e z h =
    let q = quotient_times (suc n) d k h in
    downward a b (k * suc d) (suc n - suc d - k * suc d) f g (omega (arith, ints, q, e))

pub have_indices : (code : Code) (f : Frame) (l : Opened) → OpensWell code f l → ((a b : ℤ) → two_of f.operands.items ≡ Some (a, b) → (fits a ≡ true) × (fits b ≡ true)) → HaveIndices code (Some l)
have_indices code f l o r k h =
    let ab = r l.first o.last o.operands in
    let at : (loop_at code l.number).step ≡ o.from.step = ap (λ (x : Loop). x.step) (get_or_from_slice_get code.loops l.number o.from (no_loop code) o.there) in
    ap (λ (m : ℤ). fits (l.first +ℤ (pos k *ℤ m))) at
    ∙ between l.first o.last o.from.step ((o.last -ℤ l.first) +ℤ o.from.step) k ab.0 ab.1 refl o.step (subst (λ (t : ℕ). k < t) o.trips h)

two_fit : (items : List ℤ) (u v : ℤ) → get_or items 0 (pos 0) ≡ v → get_or items 1 (pos 0) ≡ u → fits u ≡ true → fits v ≡ true → (a b : ℤ) → two_of items ≡ Some (a, b) → (fits a ≡ true) × (fits b ≡ true)
two_fit [] u v d e f g a b h = cc
two_fit (x ∷ []) u v d e f g a b h = cc
two_fit (x ∷ (y ∷ zs)) u v d e f g a b h =
    let same : (y, x) ≡ (a, b) = (let z : Some (y, x) ≡ Some (a, b) = h in cc) in
    let p : y ≡ a = ap (λ (z : ℤ × ℤ). z.0) same in
    let q : x ≡ b = ap (λ (z : ℤ × ℤ). z.1) same in
    (subst (λ (z : ℤ). fits z ≡ true) (sym e ∙ p) f, subst (λ (z : ℤ). fits z ≡ true) (sym d ∙ q) g)

pub opened_indices : (code : Code) (f g : Frame) (l : Opened) (u v : ℤ) → view code f ≡ opening l g → get_or f.operands.items 0 (pos 0) ≡ v → get_or f.operands.items 1 (pos 0) ≡ u → fits u ≡ true → fits v ≡ true → HaveIndices code (Some l)
opened_indices code f g l u v e d c a b = have_indices code f l (opens_well code f g l e) (two_fit f.operands.items u v d c a b)
