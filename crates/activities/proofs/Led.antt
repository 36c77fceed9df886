-- A step of main keeps what holds of all that a core keeps.
use Rattle.std.proofs.Common.{◌≡◌, ◌∙◌, ℕ, ◌+◌, ◌<◌, Bool, true, false, List, length, get_or, Option, Some, None, Result, Ok, Err, refl, sym, subst, arith}
use Rattle.std.specs.Prelude.{ℤ, nat_le, if◌then◌else◌, pos, slice_get}
use Rattle.std.proofs.Math.ListN.{set}
use Rattle.std.proofs.lemmas.Bool.{leb-false}
use Rattle.std.proofs.lemmas.List.{length-set, length-replicate}
use Rattle.ast.specs.Exact.{in_range}
use Rattle.ast.specs.declared.fault.End.{End}
use Rattle.ast.specs.declared.fault.Fault.{Fault}
use Rattle.ec_kernel.specs.View.{IsKernel, count_at, parked, restarted}
use Rattle.machine.specs.Code.{Code, loop_at}
use Rattle.machine.specs.Frame.{Frame}
use Rattle.machine.specs.Laid.{cell_number}
use Rattle.machine.specs.State.{Wait, until_retired, the_main}
use Rattle.machine.specs.View.{Input, index_at}
use Rattle.machine.specs.declared.code.Open.{Open}
use Rattle.machine.specs.declared.next.Next.{Next}
use Rattle.machine.specs.declared.next.Next.TheVariants.{Store, Print, Opens, Join, Report, Stop, Halt}
use Rattle.activities.specs.Core.{HaveIndices, IsCore}
use Rattle.activities.specs.Parts.{Kept, Standing, wait_in, held_of}
use Rattle.activities.specs.Turns.{MainAfter, closes, joins, main_after, main_as, none_open, opens, put_main, with_last}
use Rattle.activities.specs.Waiting.{Stands}
use Rattle.activities.specs.declared.turn.Outcome.TheVariants.{Parks, Idle}
use Rattle.activities.proofs.Leading.{Leads, none_standing, zero_at, zeros_of}
use Rattle.activities.proofs.Queues.{parks_itself, parks_other, restarts}
use Rattle.activities.proofs.Remaining.{held_other}
use Rattle.activities.proofs.Turning.{if_length}

-- it goes on; the kernel is as it was
pub led_core : (code : Code) (s : ℕ) (x : Kept) (cells : List ℤ) (out : List ℕ) (l : Option Open) (e : Option End) (i : Input) (f : Frame) → IsCore code s x → length cells ≡ length x.shared.cells → HaveIndices code l
    → IsCore code s (record x { shared = record x.shared { cells = cells; output = out; loop = l; ended = e }; input = i; main = f })
led_core code s x cells out l e i f c n h = record {
  some = c.some;
  kernel = c.kernel;
  slots = c.slots;
  counts = c.counts;
  ticket = c.ticket;
  turn = c.turn;
  cells = n ∙ c.cells;
  indices = h;
  room = c.room;
  main = c.main;
  each = c.each;
  numbers = c.numbers;
  leads = c.leads;
  runs = λ q j g. (let r = c.runs q j g in record { standing = r.standing; here = r.here; number = r.number; wait = r.wait });
  apart = c.apart;
}

-- it is parked until so many iterations have retired
waiting_core : (code : Code) (s q v : ℕ) (x : Kept) → IsCore code s x → held_of x.held q ≡ Some the_main → q < length x.held → count_at x.shared.order 0 < v → IsKernel (parked x.shared.order 0 v 0)
    → IsCore code s (record x { shared = record x.shared { order = parked x.shared.order 0 v 0 }; waiting = Some (until_retired v); held = set x.held q None })
waiting_core code s q v x c h b f k =
    let l : 0 < length x.shared.order.counts = omega (arith, c.counts) in
    record {
      some = c.some;
      kernel = k;
      slots = c.slots;
      counts = c.counts;
      ticket = c.ticket;
      turn = c.turn;
      cells = c.cells;
      indices = c.indices;
      room = c.room;
      main = parks_itself x.shared.order 0 v 0 c.kernel l f;
      each = λ j p. parks_other x.shared.order 0 v 0 (1 + j) (wait_in (get_or x.iterations j None)) c.kernel l (λ z. omega (arith, z)) (c.each j p);
      numbers = c.numbers;
      leads = λ r g. (
          let o = held_other x.held q r the_main b g in
          absurd (o.0 (c.apart r q the_main o.1 h))
          );
      runs = λ r j g. (
          let o = c.runs r j (held_other x.held q r _ b g).1 in
          record { standing = o.standing; here = o.here; number = o.number; wait = o.wait }
          );
      apart = λ r t u g e. c.apart r t u (held_other x.held q r u b g).1 (held_other x.held q t u b e).1;
    }

-- a loop is opened
opened_core : (code : Code) (s q : ℕ) (x : Kept) (l : Open) → IsCore code s x → x.waiting ≡ None → none_open x.iterations ≡ true → HaveIndices code (Some l) → IsKernel (restarted x.shared.order)
    → IsCore code s (put_main q (opens l x) x)
opened_core code s q x l c w o h k =
    let zero : get_or (zeros_of (length x.shared.order.counts)) 0 0 ≡ 0 = zero_at (length x.shared.order.counts) 0 in
    record {
      some = c.some;
      kernel = k;
      slots = c.slots;
      counts = length-replicate (length x.shared.order.counts) 0 ∙ c.counts;
      ticket = omega arith;
      turn = omega (arith, zero);
      cells = c.cells;
      indices = h;
      room = c.room;
      main = subst (λ (v : Option Wait). Stands (restarted x.shared.order) 0 v) (sym w) (restarts x.shared.order 0 (subst (λ (v : Option Wait). Stands x.shared.order 0 v) w c.main));
      each = λ j p. (
          let none : get_or x.iterations j None ≡ None = none_standing x.iterations j o in
          subst (λ (z : Option Standing). Stands (restarted x.shared.order) (1 + j) (wait_in z)) (sym none)
          (restarts x.shared.order (1 + j) (subst (λ (z : Option Standing). Stands x.shared.order (1 + j) (wait_in z)) none (c.each j p)))
          );
      numbers = λ j a g. (let z : None ≡ Some a = sym (none_standing x.iterations j o) ∙ g in cc);
      leads = c.leads;
      runs = λ r j g. (let z = c.runs r j g in record { standing = z.standing; here = z.here; number = z.number; wait = z.wait });
      apart = c.apart;
    }

last_length : (code : Code) (l : Open) (r : Result ℤ Fault) (cells : List ℤ) → length (with_last code l r cells) ≡ length cells
last_length code l (Err e) cells = refl
last_length code l (Ok v) cells = if_length (cell_number (slice_get code.variables (loop_at code l.number).variable) (pos 0)) v cells

same_core : (code : Code) (s q : ℕ) (x : Kept) (f : Frame) (i : Input) → IsCore code s x → IsCore code s (record x { input = i; main = f })
same_core code s q x f i c = led_core code s x x.shared.cells x.shared.output x.shared.loop x.shared.ended i f c refl c.indices

ended_core : (code : Code) (s : ℕ) (x : Kept) (e : End) → IsCore code s x → IsCore code s (record x { shared = record x.shared { ended = Some e } })
ended_core code s x e c = led_core code s x x.shared.cells x.shared.output x.shared.loop (Some e) x.input x.main c refl c.indices

opens_core : (code : Code) (s q : ℕ) (x : Kept) (l : Open) → IsCore code s x → x.waiting ≡ None → HaveIndices code (Some l) → IsKernel (main_after code (Opens l) x).shared.order → IsCore code s (put_main q (main_after code (Opens l) x) x)
opens_core code s q x l c w h = by (none_open x.iterations) refl
  where
    by : (b : Bool) → none_open x.iterations ≡ b → IsKernel (if b then opens l x else main_as Idle x).shared.order → IsCore code s (put_main q (if b then opens l x else main_as Idle x) x)
    by true e k = opened_core code s q x l c w e h k
    by false e k = same_core code s q x x.main x.input c

joins_core : (code : Code) (s q line : ℕ) (x : Kept) (o : Option Open) → IsCore code s x → held_of x.held q ≡ Some the_main → q < length x.held → IsKernel (joins code line o x).shared.order → IsCore code s (put_main q (joins code line o x) x)
joins_core code s q line x None c h b k = same_core code s q x x.main x.input c
joins_core code s q line x (Some l) c h b k = by (nat_le l.trips (count_at x.shared.order 0)) refl k
  where
    far : MainAfter
    far = record (main_as Parks x) { shared = record x.shared { order = parked x.shared.order 0 l.trips 0 }; waiting = Some (until_retired l.trips) }

    by : (d : Bool) → nat_le l.trips (count_at x.shared.order 0) ≡ d → IsKernel (if d then closes code line l x else far).shared.order → IsCore code s (put_main q (if d then closes code line l x else far) x)
    by true e k = led_core code s x (closes code line l x).shared.cells x.shared.output None x.shared.ended x.input (closes code line l x).main c (last_length code l (in_range (index_at code l l.trips)) x.shared.cells) tt
    by false e k = waiting_core code s q l.trips x c h b (omega (arith, leb-false l.trips (count_at x.shared.order 0) e)) k

-- What holds of all that a core keeps holds after a step of main.
pub led_on : (code : Code) (s q : ℕ) (x : Kept) (n : Next) → IsCore code s x → Leads code q x → x.waiting ≡ None → ((l : Open) → n ≡ Opens l → HaveIndices code (Some l)) → IsKernel (main_after code n x).shared.order
    → IsCore code s (put_main q (main_after code n x) x)
led_on code s q x (Store n v j) c r w h k = led_core code s x (set x.shared.cells n v) x.shared.output x.shared.loop x.shared.ended x.input (main_after code (Store n v j) x).main c (length-set x.shared.cells n v) c.indices
led_on code s q x (Print ps j) c r w h k = led_core code s x x.shared.cells (main_after code (Print ps j) x).shared.output x.shared.loop x.shared.ended x.input (main_after code (Print ps j) x).main c refl c.indices
led_on code s q x (Opens l) c r w h k = opens_core code s q x l c w (h l refl) k
led_on code s q x (Join line) c r w h k = joins_core code s q line x x.shared.loop c r.holds r.below k
led_on code s q x (Report e line) c r w h k = ended_core code s x _ c
led_on code s q x (Stop line) c r w h k = ended_core code s x _ c
led_on code s q x Halt c r w h k = ended_core code s x _ c
led_on code s q x n c r w h k = same_core code s q x (main_after code n x).main (main_after code n x).input c
