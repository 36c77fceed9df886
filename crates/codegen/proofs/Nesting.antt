-- The code of blocks, loops and IFs does what their process does.
use Rattle.std.proofs.Common.{◌≡◌, ◌∙◌, ◌<◌, ◌≤◌, ◌+◌, ◌-◌, ◌^◌, ℕ, zero, suc, ℤ, pos, Bool, true, false, List, [], ◌∷◌, ◌++◌, Option, Some, None, length, refl, sym, ap, subst, arith, length-append}
use Rattle.std.specs.Prelude.{max, slice_get, if◌then◌else◌}
use Rattle.std.specs.Ordering.{int_eq}
use Rattle.std.proofs.Math.Nat.{le-max_left, le-max_right}
use Rattle.std.proofs.lemmas.Bool.{lt-ltb}
use Rattle.ast.specs.Exact.{is_true, trips, value_of}
use Rattle.ast.specs.Symbols.{Extent}
use Rattle.ast.specs.Tree.{Ref, Term, DoHead}
use Rattle.ast.specs.declared.expression.Operator.TheVariants.{Add}
use Rattle.ast.specs.declared.fault.Fault.TheVariants.{ZeroStep}
use Rattle.machine.specs.Code.{Code}
use Rattle.machine.specs.Frame.{Frame, Stack, with_items}
use Rattle.machine.specs.Local.{counter, counted_down, one_of, pushed, looping, step_pushed, faulted, if_pushed}
use Rattle.machine.specs.View.{View, doing, doing_if, view}
use Rattle.machine.specs.declared.code.Open.{Open as Opened}
use Rattle.machine.specs.declared.frame.Counter.{Counter}
use Rattle.machine.specs.declared.instr.Act.TheVariants as acts
use Rattle.machine.specs.declared.instr.Instr.{Instr}
use Rattle.expr_code.specs.Computes.{operands}
use Rattle.expr_code.specs.Emitted.{instr, short, term_code}
use Rattle.expr_code.specs.Places.{Places, home}
use Rattle.expr_code.specs.Process.{answered_into, term_into}
use Rattle.expr_code.proofs.Finding.{Reach, short_is}
use Rattle.expr_code.proofs.Running.{Reaches, binary_answers, scalar_runs, term_runs}
use Rattle.expr_code.proofs.Standing.{HasAt, has_front, has_back, at, constant_seen, seen}
use Rattle.codegen.specs.Emitted.{chosen_code, grown_code, step_code, turns_code, serial_code, variable_code}
use Rattle.codegen.specs.Process.{Doing, grown_into, on, serial_into, set_up_into, step_into, turns_into, variable_into}
use Rattle.codegen.specs.Room.{head_room, step_room}
use Rattle.codegen.proofs.Running.{Does, Fits, fits_on, scalar_given}
use Rattle.codegen.proofs.Standing.{Keeps, keeps_same}

abbrev pub StepReaches : Code → Places → Option Term → Type 0
StepReaches code p None = Unit {0}
StepReaches code p (Some e) = Reaches code p e

abbrev pub HeadReaches : Code → Places → DoHead → Type 0
HeadReaches code p h = Reaches code p h.first × Reaches code p h.last × StepReaches code p h.step

-- a frame with other serial loops under way
abbrev pub with_loops : Frame → List Counter → Frame
with_loops f cs = record f { counters = with_items cs f.counters }

same_loops : (f : Frame) (cs : List Counter) → f.counters.items ≡ cs → with_loops f cs ≡ f
same_loops f cs e = ap (λ (ds : List Counter). with_loops f ds) (sym e)

-- code ends before its limit
has_within : (code : List Instr) (limit pc : ℕ) (is : List Instr) → 1 ≤ length is → HasAt code limit pc is → pc + length is ≤ limit
has_within code limit pc [] some h = absurd (omega (arith, some))
has_within code limit pc (i ∷ []) some h = omega (arith, h.1)
has_within code limit pc (i ∷ j ∷ is) some h = let k = has_within code limit (pc + 1) (j ∷ is) (omega arith) h.2 in omega (arith, k)

module _ (code : Code) where
  abbrev shown : Frame → View Frame Opened
  shown g = doing g

  count_out_seen : (f : Frame) (c : Counter) (cs : List Counter) (n line pc : ℕ) (st : List ℤ) → c.left ≡ 0 → slice_get code.instructions pc ≡ Some (instr line (acts.CountDown n))
      → view code (at code (with_loops f (c ∷ cs)) pc st) ≡ doing (at code (with_loops f cs) (pc + 1 + n) st)
  count_out_seen f c cs n line pc st z h =
      seen code (with_loops f (c ∷ cs)) (instr line (acts.CountDown n)) pc st h ∙ ap (λ (k : ℕ). doing_if (counted_down (Some (record { left = k; step = c.step })) n (at code (with_loops f (c ∷ cs)) pc st))) z

  count_seen : (f : Frame) (left : ℕ) (by : ℤ) (cs : List Counter) (n line pc : ℕ) (st : List ℤ) → slice_get code.instructions pc ≡ Some (instr line (acts.CountDown n))
      → view code (at code (with_loops f (counter (suc left) by ∷ cs)) pc st) ≡ doing (at code (with_loops f (counter left by ∷ cs)) (pc + 1) st)
  count_seen f left by cs n line pc st h =
      let there : pc + 1 + 0 ≡ pc + 1 = omega arith in
      seen code (with_loops f (counter (suc left) by ∷ cs)) (instr line (acts.CountDown n)) pc st h ∙ ap (λ (k : ℕ). shown (at code (with_loops f (counter left by ∷ cs)) k st)) there

  step_seen : (f : Frame) (c : Counter) (line pc : ℕ) (st : List ℤ) → one_of f.counters.items ≡ Some c → length st < f.operands.room → slice_get code.instructions pc ≡ Some (instr line acts.Step)
      → view code (at code f pc st) ≡ doing (at code f (pc + 1) (c.step ∷ st))
  step_seen f c line pc st e room h =
      seen code f (instr line acts.Step) pc st h
      ∙ ap (λ (o : Option Counter). doing_if (step_pushed o (at code f pc st))) e
      ∙ ap (λ (b : Bool). doing_if (if_pushed (if b then Some (with_items (c.step ∷ st) f.operands) else None) (at code f pc st))) (lt-ltb (length st) f.operands.room room)

  back_seen : (f : Frame) (n line pc to : ℕ) (st : List ℤ) → pc - n ≡ to → slice_get code.instructions pc ≡ Some (instr line (acts.Back n)) → view code (at code f pc st) ≡ doing (at code f to st)
  back_seen f n line pc to st e h = seen code f (instr line (acts.Back n)) pc st h ∙ ap (λ (k : ℕ). doing_if (Some (at code f k st))) e

  set_up_seen : (f : Frame) (m1 m2 m3 : ℤ) (line pc : ℕ) (st : List ℤ) → int_eq m3 (pos 0) ≡ false → length f.counters.items < f.counters.room → slice_get code.instructions pc ≡ Some (instr line acts.SetUp)
      → view code (at code f pc (m3 ∷ m2 ∷ m1 ∷ st)) ≡ doing (at code (with_loops f (counter (trips m1 m2 m3) m3 ∷ f.counters.items)) (pc + 1) (m1 ∷ st))
  set_up_seen f m1 m2 m3 line pc st e room h =
      seen code f (instr line acts.SetUp) pc (m3 ∷ m2 ∷ m1 ∷ st) h
      ∙ ap (λ (b : Bool). doing_if (if b then Some (faulted ZeroStep line (at code f pc (m3 ∷ m2 ∷ m1 ∷ st))) else looping (pushed (counter (trips m1 m2 m3) m3) f.counters) (at code f pc (m3 ∷ m2 ∷ m1 ∷ st)))) e
      ∙ ap (λ (b : Bool). doing_if (looping (if b then Some (with_items (counter (trips m1 m2 m3) m3 ∷ f.counters.items) f.counters) else None) (at code f pc (m3 ∷ m2 ∷ m1 ∷ st)))) (lt-ltb (length f.counters.items) f.counters.room room)

  zero_seen : (f : Frame) (m1 m2 m3 : ℤ) (line pc : ℕ) (st : List ℤ) → int_eq m3 (pos 0) ≡ true → slice_get code.instructions pc ≡ Some (instr line acts.SetUp)
      → view code (at code f pc (m3 ∷ m2 ∷ m1 ∷ st)) ≡ doing (faulted ZeroStep line (at code f pc (m3 ∷ m2 ∷ m1 ∷ st)))
  zero_seen f m1 m2 m3 line pc st e h =
      seen code f (instr line acts.SetUp) pc (m3 ∷ m2 ∷ m1 ∷ st) h
      ∙ ap (λ (b : Bool). doing_if (if b then Some (faulted ZeroStep line (at code f pc (m3 ∷ m2 ∷ m1 ∷ st))) else looping (pushed (counter (trips m1 m2 m3) m3) f.counters) (at code f pc (m3 ∷ m2 ∷ m1 ∷ st)))) e

  unless_seen : (f : Frame) (v : ℤ) (n line pc : ℕ) (st : List ℤ) → slice_get code.instructions pc ≡ Some (instr line (acts.SkipUnless n)) → view code (at code f pc (v ∷ st)) ≡ doing (at code f (pc + 1 + (if is_true v then 0 else n)) st)
  unless_seen f v n line pc st h = seen code f (instr line (acts.SkipUnless n)) pc (v ∷ st) h

  skip_seen : (f : Frame) (n line pc : ℕ) (st : List ℤ) → slice_get code.instructions pc ≡ Some (instr line (acts.Skip n)) → view code (at code f pc st) ≡ doing (at code f (pc + 1 + n) st)
  skip_seen f n line pc st h = seen code f (instr line (acts.Skip n)) pc st h

-- after a part of a loop's trip, the loops under way are those before
pub reloop : (f h g : Frame) (cs : List Counter) → Keeps f h → Keeps (with_loops h cs) g → (k : Frame) × Keeps f k × (g ≡ with_loops k cs)
reloop f h g cs a b = (
  record g { counters = h.counters },
  record { index = b.index ∙ a.index; privates = b.privates ∙ a.privates; room = b.room ∙ a.room; counters = a.counters },
  ap (λ (s : Stack Counter). record g { counters = s }) b.counters,
)

module _ (A : Type 0) (D : Doing A) (code : Code) (limit : ℕ) (index : ℤ) (St : A → Frame → Type 0) (R : Does A D code limit index St) (p : Places) (few_privates : length p.privates ≤ 2 ^ 32) (few : limit ≤ 2 ^ 32) where
  abbrev Has : ℕ → List Instr → Type 0
  Has pc is = HasAt code.instructions limit pc is

  fits_loops : (f : Frame) (cs : List Counter) → Fits p index f → Fits p index (with_loops f cs)
  fits_loops f cs w = record { indexed = w.indexed; privates = w.privates }

  -- the variable grows, and the loop goes back
  grown_run : (line : ℕ) (r : Ref) (ds : List Extent) (left : ℕ) (m3 : ℤ) (a : A) (f : Frame) (cs : List Counter) (n pc to : ℕ) (st : List ℤ) → Reach code.variables r ds → Fits p index f → length st + 2 ≤ f.operands.room → pc + 4 - n ≡ to
      → Has pc (grown_code (on A D p line) r ++ instr line (acts.Back n) ∷ []) → ((g : Frame) → Keeps (with_loops f (counter left m3 ∷ cs)) g → St a (at code g to st)) → St (grown_into A D p line r m3 a) (at code (with_loops f (counter left m3 ∷ cs)) pc st)
  grown_run line r ds left m3 a f cs n pc to st w fits room back has next =
      let g = with_loops f (counter left m3 ∷ cs) in
      let ok = fits_loops f (counter left m3 ∷ cs) fits in
      let q = on A D p line in
      let there : pc + 1 + 1 + 1 + 1 - n ≡ to = omega (arith, back) in
      scalar_runs A (D.evaluate line) code g line limit St (R.evaluates line g ok.indexed) q ok.privates few_privates refl r (home p [] r.name) ds (λ v. D.local (answered_into A (D.evaluate line) (value_of Add v m3) (λ u. variable_into A D p r u (D.local a)))) pc st refl w (omega (arith, room)) has.0 (λ v.
      R.goes (answered_into A (D.evaluate line) (value_of Add v m3) (λ u. variable_into A D p r u (D.local a))) g g (pc + 1) (pc + 1 + 1) (v ∷ st) (m3 ∷ v ∷ st) ok.indexed refl (step_seen code g (counter left m3) line (pc + 1) (v ∷ st) refl (omega (arith, room)) has.2.0)
      (binary_answers A (D.evaluate line) code g line limit St (R.evaluates line g ok.indexed) Add v m3 (λ u. variable_into A D p r u (D.local a)) (pc + 1 + 1) st has.2.2.1 has.2.2.0 (λ u.
      scalar_given A D code limit index St R p few_privates r (home p [] r.name) ds u (D.local a) g line (pc + 1 + 1 + 1) st refl w ok has.2.2.2.0 (λ h k.
      R.goes a h h (pc + 1 + 1 + 1 + 1) to st st (k.index ∙ ok.indexed) refl (back_seen code h n line (pc + 1 + 1 + 1 + 1) to st there has.2.2.2.2.0) (next h k)))))

  turns_run : (n line : ℕ) (r : Ref) (ds : List Extent) (m3 : ℤ) (range : A → A) (is : List Instr) (a : A) (f : Frame) (cs : List Counter) (pc : ℕ) (st : List ℤ) → Reach code.variables r ds → Fits p index f → length st + 2 ≤ f.operands.room → Has pc (turns_code (on A D p line) r is)
      → ((b : A) (g : Frame) (c : Counter) → Keeps f g → ((h : Frame) → Keeps f h → St b (at code (with_loops h (c ∷ cs)) (pc + 1 + length is) st)) → St (range b) (at code (with_loops g (c ∷ cs)) (pc + 1) st))
      → ((g : Frame) → Keeps f g → St a (at code (with_loops g cs) (pc + length (turns_code (on A D p line) r is)) st))
      → (g : Frame) → Keeps f g → St (turns_into A D p (λ b. range (grown_into A D p line r m3 b)) n a) (at code (with_loops g (counter n m3 ∷ cs)) pc st)
  turns_run zero line r ds m3 range is a f cs pc st w fits room has body next g k =
      let q = on A D p line in
      let L = length (is ++ grown_code q r) in
      let all = has_within code.instructions limit pc (turns_code q r is) (omega arith) has in
      let size = length-append (is ++ grown_code q r) (instr line (acts.Back (short (L + 1))) ∷ []) in
      let number : short (L + 1) ≡ L + 1 = short_is (L + 1) (omega (arith, all, size, few)) in
      let len : pc + 1 + (L + 1) ≡ pc + length (turns_code q r is) = omega (arith, size) in
      let here : slice_get code.instructions pc ≡ Some (instr line (acts.CountDown (L + 1))) = has.0 ∙ ap (λ (j : ℕ). Some (instr line (acts.CountDown j))) number in
      R.goes a (with_loops g (counter 0 m3 ∷ cs)) (with_loops g cs) pc (pc + 1 + (L + 1)) st st (k.index ∙ fits.indexed) refl (count_out_seen code g (counter 0 m3) cs (L + 1) line pc st refl here) (subst (λ (j : ℕ). St a (at code (with_loops g cs) j st)) (sym len) (next g k))
  turns_run (suc n) line r ds m3 range is a f cs pc st w fits room has body next g k =
      let q = on A D p line in
      let L = length (is ++ grown_code q r) in
      let B = instr line (acts.Back (short (L + 1))) ∷ [] in
      let all = has_within code.instructions limit pc (turns_code q r is) (omega arith) has in
      let size = length-append (is ++ grown_code q r) B in
      let parts = length-append is (grown_code q r) in
      let number : short (L + 1) ≡ L + 1 = short_is (L + 1) (omega (arith, all, size, few)) in
      let front = has_front code.instructions limit (pc + 1) (is ++ grown_code q r) B has.2 in
      let back = has_back code.instructions limit (pc + 1) (is ++ grown_code q r) B has.2 in
      let grown = has_back code.instructions limit (pc + 1) is (grown_code q r) front in
      let near : pc + 1 + L ≡ pc + 1 + length is + 1 + 1 + 1 + 1 = omega (arith, parts) in
      let target : pc + 1 + length is + 4 - (L + 1) ≡ pc = omega (arith, parts) in
      let last : slice_get code.instructions (pc + 1 + length is + 1 + 1 + 1 + 1) ≡ Some (instr line (acts.Back (L + 1))) = ap (λ (j : ℕ). slice_get code.instructions j) (sym near) ∙ back.0 ∙ ap (λ (j : ℕ). Some (instr line (acts.Back j))) number in
      let within : pc + 1 + length is + 1 + 1 + 1 + 1 < limit = omega (arith, near, back.1) in
      let tail : Has (pc + 1 + length is) (grown_code q r ++ instr line (acts.Back (L + 1)) ∷ []) =
      (grown.0, grown.1, (grown.2.0, grown.2.1, (grown.2.2.0, grown.2.2.1, (grown.2.2.2.0, grown.2.2.2.1, (last, within, tt))))) in
      R.goes (range (grown_into A D p line r m3 (turns_into A D p (λ b. range (grown_into A D p line r m3 b)) n a))) (with_loops g (counter (suc n) m3 ∷ cs)) (with_loops g (counter n m3 ∷ cs)) pc (pc + 1) st st (k.index ∙ fits.indexed) refl
      (count_seen code g n m3 cs (short (L + 1)) line pc st has.0)
      (body (grown_into A D p line r m3 (turns_into A D p (λ b. range (grown_into A D p line r m3 b)) n a)) g (counter n m3) k (λ h l.
      grown_run line r ds n m3 (turns_into A D p (λ b. range (grown_into A D p line r m3 b)) n a) h cs (L + 1) (pc + 1 + length is) pc st w (fits_on p index f h l fits) (room_on h l) target tail (λ u m.
      let x = reloop f h u (counter n m3 ∷ cs) l m in
      subst (λ (z : Frame). St (turns_into A D p (λ b. range (grown_into A D p line r m3 b)) n a) (at code z pc st)) (sym x.2) (turns_run n line r ds m3 range is a f cs pc st w fits room has body next x.0 x.1))))
    where
      room_on : (h : Frame) → Keeps f h → length st + 2 ≤ h.operands.room
      room_on h l = omega (arith, room, l.room)

  step_runs : (line : ℕ) (e : Option Term) (κ : ℤ → A) (f : Frame) (pc : ℕ) (st : List ℤ) → StepReaches code p e → Fits p index f → Has pc (step_code (on A D p line) e) → length st + step_room e ≤ f.operands.room
      → ((v : ℤ) → St (κ v) (at code f (pc + length (step_code (on A D p line) e)) (v ∷ st))) → St (step_into A D p line e κ) (at code f pc st)
  step_runs line None κ f pc st w fits has room next = R.goes (κ (pos 1)) f f pc (pc + 1) st (pos 1 ∷ st) fits.indexed refl (constant_seen code f (pos 1) line pc st has.0 (omega (arith, room))) (next (pos 1))
  step_runs line (Some e) κ f pc st w fits has room next = term_runs A (D.evaluate line) code f line limit St (R.evaluates line f fits.indexed) (on A D p line) fits.privates few_privates refl e κ pc st w has room next

  pub serial_runs : (line : ℕ) (h : DoHead) (ds : List Extent) (range : A → A) (is : List Instr) (a : A) (f : Frame) (pc : ℕ) (st : List ℤ) → Reach code.variables h.variable ds → HeadReaches code p h → Fits p index f → Has pc (serial_code (on A D p line) h is) → length st + max (head_room h) 2 ≤ f.operands.room → length f.counters.items < f.counters.room
      → ((b : A) (g : Frame) (c : Counter) (at_range : ℕ) → at_range + length is + 5 ≡ pc + length (serial_code (on A D p line) h is) → Has at_range is → Keeps f g → ((k : Frame) → Keeps f k → St b (at code (with_loops k (c ∷ f.counters.items)) (at_range + length is) st)) → St (range b) (at code (with_loops g (c ∷ f.counters.items)) at_range st))
      → ((g : Frame) → Keeps f g → St a (at code g (pc + length (serial_code (on A D p line) h is)) st))
      → St (serial_into A D p line h range a) (at code f pc st)
  serial_runs line h ds range is a f pc st w heads fits has room loops body next =
      let q = on A D p line in
      let c1 = term_code q h.first in
      let c2 = term_code q h.last in
      let c3 = step_code q h.step in
      let cv = variable_code q h.variable in
      let ct = turns_code q h.variable is in
      let r1 = has_back code.instructions limit pc c1 (c2 ++ (c3 ++ (instr line acts.SetUp ∷ (cv ++ ct)))) has in
      let n1 = pc + length c1 in
      let r2 = has_back code.instructions limit n1 c2 (c3 ++ (instr line acts.SetUp ∷ (cv ++ ct))) r1 in
      let n2 = n1 + length c2 in
      let r3 = has_back code.instructions limit n2 c3 (instr line acts.SetUp ∷ (cv ++ ct)) r2 in
      let n3 = n2 + length c3 in
      let rt = r3.2.2 in
      let sizes = length-append c1 (c2 ++ (c3 ++ (instr line acts.SetUp ∷ (cv ++ ct)))) in
      let sizes2 = length-append c2 (c3 ++ (instr line acts.SetUp ∷ (cv ++ ct))) in
      let sizes3 = length-append c3 (instr line acts.SetUp ∷ (cv ++ ct)) in
      let len : n3 + 1 + 1 + length ct ≡ pc + length (serial_code q h is) = omega (arith, sizes, sizes2, sizes3) in
      let sizet = length-append (is ++ grown_code q h.variable) (instr line (acts.Back (short (length (is ++ grown_code q h.variable) + 1))) ∷ []) in
      let sizeg = length-append is (grown_code q h.variable) in
      let inside : n3 + 1 + 1 + 1 + length is + 5 ≡ pc + length (serial_code q h is) = omega (arith, len, sizet, sizeg) in
      let hr = left_of (head_room h) 2 room in
      let range_has : Has (n3 + 1 + 1 + 1) is = has_front code.instructions limit (n3 + 1 + 1 + 1) is (grown_code q h.variable) (has_front code.instructions limit (n3 + 1 + 1 + 1) (is ++ grown_code q h.variable) (instr line (acts.Back (short (length (is ++ grown_code q h.variable) + 1))) ∷ []) rt.2) in
      term_runs A (D.evaluate line) code f line limit St (R.evaluates line f fits.indexed) q fits.privates few_privates refl h.first (λ m1. term_into A (D.evaluate line) q h.last (λ m2. step_into A D p line h.step (λ m3. set_up_into A D p line m3 (variable_into A D p h.variable m1 (turns_into A D p (λ b. range (grown_into A D p line h.variable m3 b)) (trips m1 m2 m3) a))))) pc st heads.0
      (has_front code.instructions limit pc c1 (c2 ++ (c3 ++ (instr line acts.SetUp ∷ (cv ++ ct)))) has) (left_of (operands h.first) (max (operands h.last + 1) (step_room h.step + 2)) hr) (λ m1.
      term_runs A (D.evaluate line) code f line limit St (R.evaluates line f fits.indexed) q fits.privates few_privates refl h.last (λ m2. step_into A D p line h.step (λ m3. set_up_into A D p line m3 (variable_into A D p h.variable m1 (turns_into A D p (λ b. range (grown_into A D p line h.variable m3 b)) (trips m1 m2 m3) a)))) n1 (m1 ∷ st) heads.1
      (has_front code.instructions limit n1 c2 (c3 ++ (instr line acts.SetUp ∷ (cv ++ ct))) r1) (one_more_of (operands h.last) (left_of (operands h.last + 1) (step_room h.step + 2) (right_of (operands h.first) (max (operands h.last + 1) (step_room h.step + 2)) hr))) (λ m2.
      step_runs line h.step (λ m3. set_up_into A D p line m3 (variable_into A D p h.variable m1 (turns_into A D p (λ b. range (grown_into A D p line h.variable m3 b)) (trips m1 m2 m3) a))) f n2 (m2 ∷ m1 ∷ st) heads.2 fits (has_front code.instructions limit n2 c3 (instr line acts.SetUp ∷ (cv ++ ct)) r2)
      (two_more_of (step_room h.step) (right_of (operands h.last + 1) (step_room h.step + 2) (right_of (operands h.first) (max (operands h.last + 1) (step_room h.step + 2)) hr))) (λ m3.
      begun m1 m2 m3 (int_eq m3 (pos 0)) refl n3 r3 (λ g k. subst (λ (j : ℕ). St a (at code g j st)) (sym len) (next g k)) (λ b g c. body b g c (n3 + 1 + 1 + 1) inside range_has))))
    where
      left_of : (x y : ℕ) → length st + max x y ≤ f.operands.room → length st + x ≤ f.operands.room
      left_of x y z = let k = le-max_left x y in omega (arith, z, k)

      right_of : (x y : ℕ) → length st + max x y ≤ f.operands.room → length st + y ≤ f.operands.room
      right_of x y z = let k = le-max_right x y in omega (arith, z, k)

      one_more_of : (x : ℕ) → length st + (x + 1) ≤ f.operands.room → suc (length st) + x ≤ f.operands.room
      one_more_of x z = omega (arith, z)

      two_more_of : (x : ℕ) → length st + (x + 2) ≤ f.operands.room → suc (suc (length st)) + x ≤ f.operands.room
      two_more_of x z = omega (arith, z)

      begun : (m1 m2 m3 : ℤ) (zero_step : Bool) → int_eq m3 (pos 0) ≡ zero_step → (n3 : ℕ) → Has n3 (instr line acts.SetUp ∷ (variable_code (on A D p line) h.variable ++ turns_code (on A D p line) h.variable is))
          → ((g : Frame) → Keeps f g → St a (at code g (n3 + 1 + 1 + length (turns_code (on A D p line) h.variable is)) st))
          → ((b : A) (g : Frame) (c : Counter) → Keeps f g → ((k : Frame) → Keeps f k → St b (at code (with_loops k (c ∷ f.counters.items)) (n3 + 1 + 1 + 1 + length is) st)) → St (range b) (at code (with_loops g (c ∷ f.counters.items)) (n3 + 1 + 1 + 1) st))
          → St (if zero_step then (D.evaluate line).fails ZeroStep else D.local (variable_into A D p h.variable m1 (turns_into A D p (λ b. range (grown_into A D p line h.variable m3 b)) (trips m1 m2 m3) a))) (at code f n3 (m3 ∷ m2 ∷ m1 ∷ st))
      begun m1 m2 m3 true e n3 r3 end trip = (R.evaluates line f fits.indexed).faults ZeroStep n3 (m3 ∷ m2 ∷ m1 ∷ st) r3.1 (zero_seen code f m1 m2 m3 line n3 st e r3.0)
      begun m1 m2 m3 false e n3 r3 end trip =
          let count = trips m1 m2 m3 in
          let cs = f.counters.items in
          let g = with_loops f (counter count m3 ∷ cs) in
          let ok = fits_loops f (counter count m3 ∷ cs) fits in
          let T = turns_into A D p (λ b. range (grown_into A D p line h.variable m3 b)) count a in
          R.goes (variable_into A D p h.variable m1 T) f g n3 (n3 + 1) (m3 ∷ m2 ∷ m1 ∷ st) (m1 ∷ st) fits.indexed refl (set_up_seen code f m1 m2 m3 line n3 st e loops r3.0)
          (scalar_given A D code limit index St R p few_privates h.variable (home p [] h.variable.name) ds m1 T g line (n3 + 1) st refl w ok r3.2.0 (λ u m.
          let x = reloop f f u (counter count m3 ∷ cs) (keeps_same f) m in
          subst (λ (z : Frame). St T (at code z (n3 + 1 + 1) st)) (sym x.2)
          (turns_run count line h.variable ds m3 range is a f cs (n3 + 1 + 1) st w fits (right_of (head_room h) 2 room) r3.2.2 trip (λ v k.
          subst (λ (z : Frame). St a (at code z (n3 + 1 + 1 + length (turns_code (on A D p line) h.variable is)) st)) (sym (same_loops v cs (ap (λ (s : Stack Counter). s.items) k.counters))) (end v k)) x.0 x.1)))

  -- ---- IF

  pub chosen_runs : (line : ℕ) (v : ℤ) (body others : List Instr) (x y a : A) (f : Frame) (pc : ℕ) (st : List ℤ) → Fits p index f → Has pc (chosen_code (on A D p line) body others)
      → ((g : Frame) → Keeps f g → St a (at code g (pc + length (chosen_code (on A D p line) body others)) st))
      → (((g : Frame) → Keeps f g → St (D.local a) (at code g (pc + 1 + length body) st)) → Has (pc + 1) body → St x (at code f (pc + 1) st))
      → (((g : Frame) → Keeps f g → St a (at code g (pc + 1 + length body + 1 + length others) st)) → Has (pc + 1 + length body + 1) others → St y (at code f (pc + 1 + length body + 1) st))
      → St (D.local (if is_true v then x else y)) (at code f pc (v ∷ st))
  chosen_runs line v body others x y a f pc st fits has next first second =
      let S = instr line (acts.Skip (short (length others))) in
      let all = has_within code.instructions limit pc (chosen_code (on A D p line) body others) (omega arith) has in
      let sizes = length-append body (S ∷ others) in
      let back = has_back code.instructions limit (pc + 1) body (S ∷ others) has.2 in
      let number : short (length body + 1) ≡ length body + 1 = short_is (length body + 1) (omega (arith, all, sizes, few)) in
      let far : short (length others) ≡ length others = short_is (length others) (omega (arith, all, sizes, few)) in
      let len : pc + 1 + length body + 1 + length others ≡ pc + length (chosen_code (on A D p line) body others) = omega (arith, sizes) in
      let here : slice_get code.instructions pc ≡ Some (instr line (acts.SkipUnless (length body + 1))) = has.0 ∙ ap (λ (j : ℕ). Some (instr line (acts.SkipUnless j))) number in
      let skips : slice_get code.instructions (pc + 1 + length body) ≡ Some (instr line (acts.Skip (length others))) = back.0 ∙ ap (λ (j : ℕ). Some (instr line (acts.Skip j))) far in
      by (is_true v) refl here
      (first (λ g k. R.goes a g g (pc + 1 + length body) (pc + 1 + length body + 1 + length others) st st (k.index ∙ fits.indexed) refl (skip_seen code g (length others) line (pc + 1 + length body) st skips) (subst (λ (j : ℕ). St a (at code g j st)) (sym len) (next g k))) (has_front code.instructions limit (pc + 1) body (S ∷ others) has.2))
      (second (λ g k. subst (λ (j : ℕ). St a (at code g j st)) (sym len) (next g k)) back.2)
    where
      by : (b : Bool) → is_true v ≡ b → slice_get code.instructions pc ≡ Some (instr line (acts.SkipUnless (length body + 1))) → St x (at code f (pc + 1) st) → St y (at code f (pc + 1 + length body + 1) st) → St (D.local (if b then x else y)) (at code f pc (v ∷ st))
      by true e h this other =
          let there : pc + 1 + 0 ≡ pc + 1 = omega arith in
          R.goes x f f pc (pc + 1) (v ∷ st) st fits.indexed refl (unless_seen code f v (length body + 1) line pc st h ∙ ap (λ (b : Bool). shown code (at code f (pc + 1 + (if b then 0 else length body + 1)) st)) e ∙ ap (λ (j : ℕ). shown code (at code f j st)) there) this
      by false e h this other =
          let there : pc + 1 + (length body + 1) ≡ pc + 1 + length body + 1 = omega arith in
          R.goes y f f pc (pc + 1 + length body + 1) (v ∷ st) st fits.indexed refl (unless_seen code f v (length body + 1) line pc st h ∙ ap (λ (b : Bool). shown code (at code f (pc + 1 + (if b then 0 else length body + 1)) st)) e ∙ ap (λ (j : ℕ). shown code (at code f j st)) there) other
