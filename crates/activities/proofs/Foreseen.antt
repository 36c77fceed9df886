-- What the code alone tells of strides is so.
use Rattle.std.proofs.Common.{◌≡◌, ◌∙◌, ℕ, suc, ◌+◌, Bool, true, false, List, [], ◌∷◌, length, Option, Some, None, Result, Ok, Err, refl, sym, ap, subst, arith}
use Rattle.std.specs.Prelude.{ℤ, ◌-◌, pos, is_some, nat_lt, slice_get, slice_set, if◌then◌else◌}
use Rattle.std.specs.Ordering.{int_eq}
use Rattle.ast.specs.Store.{StoreOf}
use Rattle.ast.specs.Exact.{trips, value_of, remainder, greater, less, prefixed_value, absolute}
use Rattle.ast.specs.declared.fault.Fault.{Fault}
use Rattle.ast.specs.declared.fault.Fault.TheVariants.{ZeroStep}
use Rattle.machine.specs.Code.{Cell, Code, cell_at}
use Rattle.machine.specs.Frame.{Frame, Stack, has_room}
use Rattle.machine.specs.Local.{counter, going_on, faulted, if_pushed, if_replaced, is_local, local_act, local_instr, loop_set_up, looping, one_of, part_of, private_pushed, private_set, pushed, one_replaced, replaced_at, skipping, step_pushed, three_of, two_of, two_replaced, without, without_fault}
use Rattle.machine.specs.Strides.{Held, Passed, gone_past, stride_past}
use Rattle.machine.specs.View.{act_view, cell_from, doing_if, element_loading, element_storing, fault_view, instr_view, loading_if, scalar_loading, scalar_storing, storing_if, stuck}
use Rattle.machine.specs.declared.code.Variable.{Variable}
use Rattle.machine.specs.declared.frame.Counter.{Counter}
use Rattle.machine.specs.declared.instr.Act.{Act}
use Rattle.machine.specs.declared.instr.Act.TheVariants.{Constant, Private, SetPrivate, Index, Binary, Modulo, Greatest, Least, Unary, Absolute, Check, Skip, SkipUnless, Back, SetUp, CountDown, Step, Load, LoadElement, Store, StoreElement}
use Rattle.machine.specs.declared.instr.Instr.{Instr}
use Rattle.activities.specs.Kinds.{IsPath, ahead_at, ahead_if, ahead_of, kinds, kinds_if, local_to, shared_to}
use Rattle.activities.specs.declared.kinds.Ahead.{Ahead}

-- a frame without a fault stands at a place
abbrev pub Goes : ℕ → Frame → Type 0
Goes p g = g.fault ≡ None → g.place ≡ p

goes_to : (p : ℕ) (f g : Frame) → f ≡ g → f.place ≡ p → Goes p g
goes_to p f g e h = λ n. ap (λ (x : Frame). x.place) (sym e) ∙ h

faults : (p line : ℕ) (e : Fault) (f g : Frame) → faulted e line f ≡ g → Goes p g
faults p line e f g h = λ n. (let z : ◌≡◌ {A = Option (Fault × ℕ)} (Some (e, line)) None = ap (λ (x : Frame). x.fault) h ∙ n in cc)

pushed_goes : (o : Option (Stack ℤ)) (f g : Frame) → if_pushed o f ≡ Some g → Goes (f.place + 1) g
pushed_goes None f g e = cc
pushed_goes (Some s) f g e = goes_to (f.place + 1) (going_on s f) g (let z : going_on s f ≡ g = cc in z) refl

replaced_goes : (o : Option (Result (Stack ℤ) Fault)) (line : ℕ) (f g : Frame) → if_replaced o line f ≡ Some g → Goes (f.place + 1) g
replaced_goes None line f g e = cc
replaced_goes (Some (Ok s)) line f g e = goes_to (f.place + 1) (going_on s f) g (let z : going_on s f ≡ g = cc in z) refl
replaced_goes (Some (Err x)) line f g e = faults (f.place + 1) line x f g (let z : faulted x line f ≡ g = cc in z)

private_goes : (o : Option (Option ℤ)) (f g : Frame) → private_pushed o f ≡ Some g → Goes (f.place + 1) g
private_goes None f g e = cc
private_goes (Some None) f g e = pushed_goes (pushed (pos 0) f.operands) f g e
private_goes (Some (Some v)) f g e = pushed_goes (pushed v f.operands) f g e

set_goes : (x : ℕ) (o : Option ℤ) (f g : Frame) → private_set x o f ≡ Some g → Goes (f.place + 1) g
set_goes x None f g e = cc
set_goes x (Some v) f g e = by (nat_lt x (length f.privates)) e
  where
    next : Frame
    next = record (going_on (without 1 f.operands) f) { privates = slice_set f.privates x (Some v) }

    by : (b : Bool) → (if b then Some next else None) ≡ Some g → Goes (f.place + 1) g
    by true h = goes_to (f.place + 1) next g (let z : next ≡ g = cc in z) refl
    by false h = cc

looping_goes : (o : Option (Stack Counter)) (f g : Frame) → looping o f ≡ Some g → Goes (f.place + 1) g
looping_goes None f g e = cc
looping_goes (Some s) f g e =
    let next : Frame = record (going_on (without 2 f.operands) f) { counters = s } in
    goes_to (f.place + 1) next g (let z : next ≡ g = cc in z) refl

set_up_goes : (line : ℕ) (o : Option (ℤ × ℤ × ℤ)) (f g : Frame) → loop_set_up line o f ≡ Some g → Goes (f.place + 1) g
set_up_goes line None f g e = cc
set_up_goes line (Some m) f g e = by (int_eq m.2 (pos 0)) e
  where
    by : (b : Bool) → (if b then Some (faulted ZeroStep line f) else looping (pushed (counter (trips m.0 m.1 m.2) m.2) f.counters) f) ≡ Some g → Goes (f.place + 1) g
    by true h = faults (f.place + 1) line ZeroStep f g (let z : faulted ZeroStep line f ≡ g = cc in z)
    by false h = looping_goes (pushed (counter (trips m.0 m.1 m.2) m.2) f.counters) f g h

step_goes : (o : Option Counter) (f g : Frame) → step_pushed o f ≡ Some g → Goes (f.place + 1) g
step_goes None f g e = cc
step_goes (Some c) f g e = pushed_goes (pushed c.step f.operands) f g e

-- ---- what is told of an act

-- what is told of a step is so
pub record IsTold (end : ℕ) (a : Ahead) (local : Bool) (g : Frame) : Type 0 where
  pub kind : local ≡ a.local
  pub goes : (a.next ≡ end → ⊥) → Goes a.next g

doing_made : (ok : Passed) (o : Option Frame) (x : StoreOf) (b : Held) → gone_past ok (doing_if o) x ≡ Some b → o ≡ Some b.frame
doing_made ok None x b e = cc
doing_made ok (Some f) x b e = let z : record { frame = f; store = x } ≡ b = cc in ap (λ (h : Held). Some h.frame) z

local_told : (end p : ℕ) (a : Ahead) (o : Option Frame) (g : Frame) → local_to p ≡ Some a → o ≡ Some g → ((p ≡ end → ⊥) → Goes p g) → IsTold end a (is_some o) g
local_told end p a o g h e goes =
    let same : record { local = true; next = p } ≡ a = cc in
    subst (λ (z : Ahead). IsTold end z (is_some o) g) same (record { kind = ap is_some e; goes = goes })

loading_goes : (ok : Passed) (o : Option Cell) (n : ℕ) (f : Frame) (x : StoreOf) (b : Held) → gone_past ok (loading_if o n f) x ≡ Some b → b.frame.place ≡ f.place + 1
loading_goes ok None n f x b e = cc
loading_goes ok (Some c) n f x b e = ap (λ (h : Option Held). place_in h) (sym e)
  where
    place_in : Option Held → ℕ
    place_in None = 0
    place_in (Some h) = h.frame.place

storing_goes : (ok : Passed) (o : Option Cell) (v : ℤ) (n : ℕ) (f : Frame) (x : StoreOf) (b : Held) → gone_past ok (storing_if o v n f) x ≡ Some b → b.frame.place ≡ f.place + 1
storing_goes ok None v n f x b e = cc
storing_goes ok (Some c) v n f x b e = ap (λ (h : Option Held). place_in h) (sym e)
  where
    place_in : Option Held → ℕ
    place_in None = 0
    place_in (Some h) = h.frame.place

load_goes : (ok : Passed) (c : Option Cell) (f : Frame) (x : StoreOf) (b : Held) → gone_past ok (scalar_loading c f) x ≡ Some b → b.frame.place ≡ f.place + 1
load_goes ok c f x b e = by (has_room f.operands) e
  where
    by : (r : Bool) → gone_past ok (if r then loading_if c 0 f else stuck) x ≡ Some b → b.frame.place ≡ f.place + 1
    by true h = loading_goes ok c 0 f x b h
    by false h = cc

load_element_goes : (ok : Passed) (v : Option Variable) (o : Option ℤ) (f : Frame) (x : StoreOf) (b : Held) → gone_past ok (element_loading v o f) x ≡ Some b → b.frame.place ≡ f.place + 1
load_element_goes ok v None f x b e = cc
load_element_goes ok v (Some p) f x b e = loading_goes ok (cell_from v p) 1 f x b e

store_goes : (ok : Passed) (v : Option Variable) (o : Option ℤ) (f : Frame) (x : StoreOf) (b : Held) → gone_past ok (scalar_storing v o f) x ≡ Some b → b.frame.place ≡ f.place + 1
store_goes ok v None f x b e = cc
store_goes ok v (Some w) f x b e = storing_goes ok (cell_at v 0) w 1 f x b e

store_element_goes : (ok : Passed) (v : Option Variable) (o : Option (ℤ × ℤ)) (f : Frame) (x : StoreOf) (b : Held) → gone_past ok (element_storing v o f) x ≡ Some b → b.frame.place ≡ f.place + 1
store_element_goes ok v None f x b e = cc
store_element_goes ok v (Some w) f x b e = storing_goes ok (cell_from v w.1) w.0 2 f x b e

shared_told : (end : ℕ) (a : Ahead) (f g : Frame) → shared_to (f.place + 1) ≡ Some a → g.place ≡ f.place + 1 → IsTold end a false g
shared_told end a f g h e =
    let same : record { local = false; next = f.place + 1 } ≡ a = cc in
    subst (λ (z : Ahead). IsTold end z false g) same (record { kind = refl; goes = λ n i. e })

act_told : (ok : Passed) (code : Code) (act : Act) (line end : ℕ) (f : Frame) (x : StoreOf) (b : Held) (a : Ahead) → ahead_of act end f.place ≡ Some a → gone_past ok (act_view code act line f) x ≡ Some b → IsTold end a (is_some (local_act act line f)) b.frame
act_told ok code act line end f x b a h e = by act h e
  where
    next : (c : Act) → local_to (f.place + 1) ≡ Some a → gone_past ok (doing_if (local_act c line f)) x ≡ Some b → (local_act c line f ≡ Some b.frame → Goes (f.place + 1) b.frame) → IsTold end a (is_some (local_act c line f)) b.frame
    next c i j k =
        let made = doing_made ok (local_act c line f) x b j in
        local_told end (f.place + 1) a (local_act c line f) b.frame i made (λ n. k made)

    fork : (c : Act) → local_to end ≡ Some a → gone_past ok (doing_if (local_act c line f)) x ≡ Some b → IsTold end a (is_some (local_act c line f)) b.frame
    fork c i j = local_told end end a (local_act c line f) b.frame i (doing_made ok (local_act c line f) x b j) (λ n. absurd (n refl))

    by : (c : Act) → ahead_of c end f.place ≡ Some a → gone_past ok (act_view code c line f) x ≡ Some b → IsTold end a (is_some (local_act c line f)) b.frame
    by (Constant v) i j = next (Constant v) i j (pushed_goes (pushed v f.operands) f b.frame)
    by (Private v) i j = next (Private v) i j (private_goes (slice_get f.privates v) f b.frame)
    by (SetPrivate v) i j = next (SetPrivate v) i j (set_goes v (one_of f.operands.items) f b.frame)
    by Index i j = next Index i j (pushed_goes (pushed f.index f.operands) f b.frame)
    by (Binary o) i j = next (Binary o) i j (replaced_goes (two_replaced (value_of o) f.operands) line f b.frame)
    by Modulo i j = next Modulo i j (replaced_goes (two_replaced remainder f.operands) line f b.frame)
    by Greatest i j = next Greatest i j (replaced_goes (two_replaced (λ v w. Ok (greater v w)) f.operands) line f b.frame)
    by Least i j = next Least i j (replaced_goes (two_replaced (λ v w. Ok (less v w)) f.operands) line f b.frame)
    by (Unary o) i j = next (Unary o) i j (replaced_goes (one_replaced (prefixed_value o) f.operands) line f b.frame)
    by Absolute i j = next Absolute i j (replaced_goes (one_replaced absolute f.operands) line f b.frame)
    by (Check v d) i j = next (Check v d) i j (replaced_goes (replaced_at (part_of d) v f.operands) line f b.frame)
    by SetUp i j = next SetUp i j (set_up_goes line (three_of f.operands.items) f b.frame)
    by Step i j = next Step i j (step_goes (one_of f.counters.items) f b.frame)
    by (SkipUnless n) i j = fork (SkipUnless n) i j
    by (CountDown n) i j = fork (CountDown n) i j
    by (Skip n) i j =
        let made = doing_made ok (local_act (Skip n) line f) x b j in
        local_told end (f.place + 1 + n) a (Some (skipping n f)) b.frame i made (λ k. goes_to (f.place + 1 + n) (skipping n f) b.frame (let z : skipping n f ≡ b.frame = cc in z) refl)
    by (Back n) i j =
        let back : Frame = record f { place = f.place - n } in
        let made = doing_made ok (local_act (Back n) line f) x b j in
        local_told end (f.place - n) a (Some back) b.frame i made (λ k. goes_to (f.place - n) back b.frame (let z : back ≡ b.frame = cc in z) refl)
    by (Load v) i j = shared_told end a f b.frame i (load_goes ok (cell_at (slice_get code.variables v) 0) f x b j)
    by (LoadElement v) i j = shared_told end a f b.frame i (load_element_goes ok (slice_get code.variables v) (one_of f.operands.items) f x b j)
    by (Store v) i j = shared_told end a f b.frame i (store_goes ok (slice_get code.variables v) (one_of f.operands.items) f x b j)
    by (StoreElement v) i j = shared_told end a f b.frame i (store_element_goes ok (slice_get code.variables v) (two_of f.operands.items) f x b j)
    by _ i j = cc

-- A stride of a frame is as the code tells of it.
pub stride_told : (ok : Passed) (code : Code) (f : Frame) (x : StoreOf) (b : Held) (a : Ahead) → ahead_at code.instructions f.place ≡ Some a → stride_past ok code (record { frame = f; store = x }) ≡ Some b → IsTold (length code.instructions) a (is_local code.instructions f) b.frame
stride_told ok code f x b a h e = by f.fault (slice_get code.instructions f.place) h e
  where
    by : (w : Option (Fault × ℕ)) (o : Option Instr) → ahead_if o (length code.instructions) f.place ≡ Some a → gone_past ok (fault_view w (instr_view code o f)) x ≡ Some b → IsTold (length code.instructions) a (is_some (without_fault w (local_instr o f))) b.frame
    by (Some w) o i j = cc
    by None None i j = cc
    by None (Some s) i j = act_told ok code s.act s.line (length code.instructions) f x b a i j

-- a frame that makes one has no fault
pub stride_unfaulted : (ok : Passed) (code : Code) (f : Frame) (x : StoreOf) (b : Held) → stride_past ok code (record { frame = f; store = x }) ≡ Some b → f.fault ≡ None
stride_unfaulted ok code f x b e = by f.fault refl e
  where
    by : (w : Option (Fault × ℕ)) → f.fault ≡ w → gone_past ok (fault_view w (instr_view code (slice_get code.instructions f.place) f)) x ≡ Some b → f.fault ≡ None
    by None i j = i
    by (Some w) i j = cc

-- ---- paths

slice_end : {X : Type 0} (xs : List X) → slice_get xs (length xs) ≡ None
slice_end [] = refl
slice_end (x ∷ xs) = slice_end xs

-- nothing is told at the end of the code
pub none_ahead : (code : List Instr) → ahead_at code (length code) ≡ None
none_ahead code = ap (λ (o : Option Instr). ahead_if o (length code) (length code)) (slice_end code)

pub not_at_end : (code : List Instr) (n p : ℕ) → IsPath code (suc n) p → p ≡ length code → ⊥
not_at_end code n p h e =
    let none : kinds code (suc n) p ≡ [] = ap (λ (i : ℕ). kinds code (suc n) i) e ∙ ap (λ (o : Option Ahead). kinds_if o (λ q. kinds code n q)) (none_ahead code) in
    omega (arith, h, ap length none)

-- what is told of the first step of a path
pub first_told : (code : List Instr) (n p : ℕ) → IsPath code (suc n) p → (a : Ahead) × (ahead_at code p ≡ Some a) × IsPath code n a.next
first_told code n p h = by (ahead_at code p) refl h
  where
    by : (o : Option Ahead) → ahead_at code p ≡ o → length (kinds_if o (λ q. kinds code n q)) ≡ suc n → (a : Ahead) × (ahead_at code p ≡ Some a) × IsPath code n a.next
    by None e i = absurd (omega (arith, i))
    by (Some a) e i = (a, e, omega (arith, i))
