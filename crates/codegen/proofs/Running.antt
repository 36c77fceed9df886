-- The code of statements does what their process does, whatever the steps are made into.
use Rattle.std.proofs.Common.{◌≡◌, ◌∙◌, ◌<◌, ◌≤◌, ◌+◌, ◌^◌, ℕ, suc, ℤ, pos, Bool, true, false, List, [], ◌∷◌, ◌++◌, Option, Some, None, length, refl, sym, ap, subst, arith, length-append}
use Rattle.std.specs.Prelude.{max, slice_get, if◌then◌else◌}
use Rattle.std.proofs.Math.Nat.{le-max_left, le-max_right}
use Rattle.ast.proofs.Sizes.{some_elements}
use Rattle.ast.specs.Record.{Printed, number, text, record_of}
use Rattle.ast.specs.Symbols.{Extent, elements}
use Rattle.ast.specs.Tree.{Ref, Access, accessed, PrintItem, value_item, text_item, Kind, assign, print, read, stop, program, integer, dimension, parameters, do_loop, go_on, block_if, else_if, else_arm, end_if, logical_if, end}
use Rattle.machine.specs.Code.{Code, Cell}
use Rattle.machine.specs.Frame.{Frame}
use Rattle.machine.specs.View.{doing, storing, printing, breaking, stop_at, filled, storing_if, values_wanted, act_view, view}
use Rattle.machine.specs.declared.instr.Act.TheVariants as acts
use Rattle.machine.specs.declared.instr.Instr.{Instr}
use Rattle.expr_code.specs.Computes.{operands, with_place}
use Rattle.expr_code.specs.Emitted.{given_act, instr, short, target_code, term_code}
use Rattle.expr_code.specs.Places.{Places, Home, loop_index, private_scalar, in_store, dimensions_at, home, is_loop_name, number_in, private_or_stored}
use Rattle.expr_code.proofs.Finding.{Reach, cell_law, number_below, short_is}
use Rattle.expr_code.proofs.Running.{Reaches, Rules, target_runs, term_runs}
use Rattle.expr_code.proofs.Standing.{HasAt, has_front, has_back, at, onto, seen}
use Rattle.codegen.specs.Emitted.{elements_code, items_code, kind_code, parts_of, stored_code}
use Rattle.codegen.specs.Process.{Doing, elements_into, given_into, items_into, kind_into, on, stored_into}
use Rattle.codegen.specs.Room.{elements_room, items_room, kind_room}
use Rattle.codegen.proofs.Standing.{Keeps, keeps_same, keeps_set, print_seen, set_seen, with_private}

-- The steps' rules, for all frames with this value of the open loop's variable.
pub record Does (A : Type 0) (D : Doing A) (code : Code) (limit : ℕ) (index : ℤ) (St : A → Frame → Type 0) : Type 0 where
  pub evaluates : (line : ℕ) (f : Frame) → f.index ≡ index → Rules A (D.evaluate line) code f line limit St
  pub keeps : (r : Ref) (c : Cell) (v : ℤ) (a : A) (f : Frame) (pc : ℕ) (st us : List ℤ) → f.index ≡ index → view code (at code f pc st) ≡ storing c v (at code f (pc + 1) us) → St a (at code f (pc + 1) us) → St (D.keep r c v a) (at code f pc st)
  pub sets : (r : Ref) (x : ℕ) (v : ℤ) (a : A) (f : Frame) (pc : ℕ) (st us : List ℤ) → f.index ≡ index → x < length f.privates → view code (at code f pc st) ≡ doing (at code (with_private f x v) (pc + 1) us) → St a (at code (with_private f x v) (pc + 1) us) → St (D.set r x v a) (at code f pc st)
  pub says : (bytes : List ℕ) (a : A) (f : Frame) (pc : ℕ) (st us : List ℤ) → f.index ≡ index → view code (at code f pc st) ≡ printing bytes (at code f (pc + 1) us) → St a (at code f (pc + 1) us) → St (D.say bytes a) (at code f pc st)
  pub takes : (line : ℕ) (a : A) (f : Frame) (pc : ℕ) (st : List ℤ) → f.index ≡ index → view code (at code f pc st) ≡ act_view code acts.TakeRecord line (at code f pc st) → St a (at code f (pc + 1) st) → St (D.take_record line a) (at code f pc st)
  pub gets : (line : ℕ) (κ : ℤ → A) (f : Frame) (pc : ℕ) (st : List ℤ) → f.index ≡ index → length st < f.operands.room → view code (at code f pc st) ≡ act_view code acts.TakeValue line (at code f pc st) → ((v : ℤ) → St (κ v) (at code f (pc + 1) (v ∷ st))) → St (D.take_value line κ) (at code f pc st)
  pub drops : (line : ℕ) (a : A) (f : Frame) (pc : ℕ) (st : List ℤ) → f.index ≡ index → view code (at code f pc st) ≡ act_view code acts.DropRecord line (at code f pc st) → St a (at code f (pc + 1) st) → St (D.drop_record a) (at code f pc st)
  pub goes : (a : A) (f g : Frame) (pc to : ℕ) (st us : List ℤ) → f.index ≡ index → g.privates ≡ f.privates → view code (at code f pc st) ≡ doing (at code g to us) → St a (at code g to us) → St (D.local a) (at code f pc st)
  pub awaits : (e d w line : ℕ) (a : A) (f : Frame) (pc : ℕ) (st : List ℤ) → f.index ≡ index → slice_get code.awaits w ≡ Some (record { event = short e; distance = d }) → slice_get code.instructions pc ≡ Some (instr line (acts.Await w)) → St a (at code f (pc + 1) st) → St (D.await e d a) (at code f pc st)
  pub advances : (e line : ℕ) (a : A) (f : Frame) (pc : ℕ) (st : List ℤ) → f.index ≡ index → slice_get code.instructions pc ≡ Some (instr line (acts.Advance (short e))) → St a (at code f (pc + 1) st) → St (D.advance e a) (at code f pc st)
  pub opens : (n line : ℕ) (m1 m2 : ℤ) (a : A) (f : Frame) (pc : ℕ) (st : List ℤ) → f.index ≡ index → slice_get code.instructions pc ≡ Some (instr line (acts.Open (short n))) → slice_get code.instructions (pc + 1) ≡ Some (instr line acts.Join) → St a (at code f (pc + 1 + 1) st) → St (D.opening line n m1 m2 a) (at code f pc (m2 ∷ m1 ∷ st))
  pub stops : (line : ℕ) (f : Frame) (pc : ℕ) (st : List ℤ) → f.index ≡ index → view code (at code f pc st) ≡ breaking (stop_at line) → St (D.stop line) (at code f pc st)

-- a frame in which statements of these places run
pub record Fits (p : Places) (index : ℤ) (f : Frame) : Type 0 where
  pub indexed : f.index ≡ index
  pub privates : length p.privates ≤ length f.privates

pub fits_on : (p : Places) (index : ℤ) (f g : Frame) → Keeps f g → Fits p index f → Fits p index g
fits_on p index f g k w = record { indexed = k.index ∙ w.indexed; privates = omega (arith, k.privates, w.privates) }

module _ (code : Code) (p : Places) where
  abbrev pub ItemsReach : List PrintItem → Type 0
  ItemsReach [] = Unit {0}
  ItemsReach (value_item e ∷ items) = Reaches code p e × ItemsReach items
  ItemsReach (text_item t ∷ items) = ItemsReach items

  abbrev pub ElementsReach : List Access → Type 0
  ElementsReach [] = Unit {0}
  ElementsReach (x ∷ more) = Reaches code p (accessed x) × ElementsReach more

  abbrev pub KindReaches : Kind → Type 0
  KindReaches (assign x e) = Reaches code p e × Reaches code p (accessed x)
  KindReaches (print items) = ItemsReach items
  KindReaches (read xs) = ElementsReach xs
  KindReaches _ = Unit {0}

-- the records that a statement prints are those of the code from number n on
abbrev pub HasRecords : Code → ℕ → Kind → Type 0
HasRecords code n (print items) = (slice_get code.records n ≡ Some (parts_of items)) × (n < 2 ^ 32)
HasRecords code n _ = Unit {0}

module _ (A : Type 0) (D : Doing A) (code : Code) (limit : ℕ) (index : ℤ) (St : A → Frame → Type 0) (R : Does A D code limit index St) (p : Places) (few_privates : length p.privates ≤ 2 ^ 32) where
  abbrev Has : ℕ → List Instr → Type 0
  Has pc is = HasAt code.instructions limit pc is

  private_below : (r : Ref) (x : ℕ) → home p [] r.name ≡ private_scalar x → x < length p.privates
  private_below r x e = chosen (is_loop_name p.loop_name r.name) (number_in 0 r.name p.privates) refl e
    where
      chosen : (b : Bool) (o : Option ℕ) → o ≡ number_in 0 r.name p.privates → (if b then loop_index else private_or_stored o) ≡ private_scalar x → x < length p.privates
      chosen true o h k = cc
      chosen false None h k = cc
      chosen false (Some y) h k =
          let is : y ≡ x = cc in
          let z = number_below 0 r.name p.privates y (sym h) in
          omega (arith, z, is)

  -- an operand, below the place of an element, goes into a variable
  pub scalar_given : (r : Ref) (h : Home) (ds : List Extent) (v : ℤ) (a : A) (f : Frame) (line pc : ℕ) (st : List ℤ) → home p [] r.name ≡ h → Reach code.variables r ds → Fits p index f → slice_get code.instructions pc ≡ Some (instr line (given_act [] h r.cell))
      → ((g : Frame) → Keeps f g → St a (at code g (pc + 1) st)) → St (given_into A D p h r 0 v a) (at code f pc (v ∷ st))
  scalar_given r (private_scalar x) ds v a f line pc st e w fits has next =
      let below : x < length p.privates = private_below r x e in
      let there : x < length f.privates = omega (arith, below, fits.privates) in
      let number_is : short x ≡ x = short_is x (omega (arith, below, few_privates)) in
      R.sets r x v a f pc (v ∷ st) st fits.indexed there (set_seen code f x v st line pc (has ∙ ap (λ (k : ℕ). Some (instr line (acts.SetPrivate k))) number_is) there) (next (with_private f x v) (keeps_set f x v))
  scalar_given r loop_index ds v a f line pc st e w fits has next =
      R.keeps r (record { name = r.name; place = 0 }) v a f pc (v ∷ st) st fits.indexed
      (seen code f (instr line (acts.Store (short r.cell))) pc (v ∷ st) has ∙ ap (λ (c : Option Cell). storing_if c v 1 (at code f pc (v ∷ st))) (cell_law code.variables r ds 0 w (some_elements ds)))
      (next f (keeps_same f))
  scalar_given r in_store ds v a f line pc st e w fits has next =
      R.keeps r (record { name = r.name; place = 0 }) v a f pc (v ∷ st) st fits.indexed
      (seen code f (instr line (acts.Store (short r.cell))) pc (v ∷ st) has ∙ ap (λ (c : Option Cell). storing_if c v 1 (at code f pc (v ∷ st))) (cell_law code.variables r ds 0 w (some_elements ds)))
      (next f (keeps_same f))

  given_runs : (r : Ref) (ds : List Extent) (n : ℕ) (v : ℤ) (a : A) (f : Frame) (line pc : ℕ) (st : List ℤ) → Reach code.variables r ds → n < elements ds → Fits p index f → slice_get code.instructions pc ≡ Some (instr line (given_act ds (home p ds r.name) r.cell))
      → ((g : Frame) → Keeps f g → St a (at code g (pc + 1) st)) → St (given_into A D p (home p ds r.name) r n v a) (at code f pc (with_place ds n (v ∷ st)))
  given_runs r [] n v a f line pc st w below fits has next =
      let none : 0 ≡ n = omega (arith, below) in
      subst (λ (k : ℕ). St (given_into A D p (home p [] r.name) r k v a) (at code f pc (v ∷ st))) none (scalar_given r (home p [] r.name) [] v a f line pc st refl w fits has next)
  given_runs r (d ∷ ds) n v a f line pc st w below fits has next =
      R.keeps r (record { name = r.name; place = n }) v a f pc (pos n ∷ v ∷ st) st fits.indexed
      (seen code f (instr line (acts.StoreElement (short r.cell))) pc (pos n ∷ v ∷ st) has ∙ ap (λ (c : Option Cell). storing_if c v 2 (at code f pc (pos n ∷ v ∷ st))) (cell_law code.variables r (d ∷ ds) n w below))
      (next f (keeps_same f))

  pub left_room : (n a b m : ℕ) → n + max a b ≤ m → n + a ≤ m
  left_room n a b m h = let k = le-max_left a b in omega (arith, h, k)

  pub right_room : (n a b m : ℕ) → n + max a b ≤ m → n + b ≤ m
  right_room n a b m h = let k = le-max_right a b in omega (arith, h, k)

  -- a variable is given the operand
  pub stored_runs : (line : ℕ) (x : Access) (v : ℤ) (a : A) (f : Frame) (pc : ℕ) (st : List ℤ) → Reaches code p (accessed x) → Fits p index f → Has pc (stored_code (on A D p line) x) → length st + (operands (accessed x) + 1) ≤ f.operands.room
      → ((g : Frame) → Keeps f g → St a (at code g (pc + length (stored_code (on A D p line) x)) st)) → St (stored_into A D p line x v a) (at code f pc (v ∷ st))
  stored_runs line x v a f pc st w fits has room next =
      let q = on A D p line in
      let ds = dimensions_at p.symbols x.ref.cell in
      let last = instr line (given_act ds (home p ds x.ref.name) x.ref.cell) ∷ [] in
      let code_of = target_code q x.ref x.subscripts in
      let n = pc + length code_of in
      let back = has_back code.instructions limit pc code_of last has in
      let len : pc + length (code_of ++ last) ≡ n + 1 = omega (arith, length-append code_of last) in
      target_runs A (D.evaluate line) code f line limit St (R.evaluates line f fits.indexed) q fits.privates few_privates refl x.ref x.subscripts (λ m. given_into A D p (home p ds x.ref.name) x.ref m v a) pc (v ∷ st) w
      (has_front code.instructions limit pc code_of last has) (omega (arith, room)) (λ m below.
      given_runs x.ref ds m v a f line n st w.0 below fits back.0 (λ g k. subst (λ (j : ℕ). St a (at code g j st)) len (next g k)))

  -- ---- PRINT

  items_run : (line : ℕ) (items : List PrintItem) (κ : List Printed → A) (f : Frame) (pc : ℕ) (st : List ℤ) → ItemsReach code p items → Fits p index f → Has pc (items_code (on A D p line) items) → length st + items_room items ≤ f.operands.room
      → ((vs : List ℤ) → length vs ≡ values_wanted (parts_of items) → St (κ (filled (parts_of items) vs)) (at code f (pc + length (items_code (on A D p line) items)) (onto vs st)))
      → St (items_into A D p line items κ) (at code f pc st)
  items_run line [] κ f pc st w fits has room next = let z : pc + 0 ≡ pc = omega arith in subst (λ (k : ℕ). St (κ []) (at code f k st)) z (next [] refl)
  items_run line (text_item t ∷ items) κ f pc st w fits has room next = items_run line items (λ ps. κ (text t ∷ ps)) f pc st w fits has room next
  items_run line (value_item e ∷ items) κ f pc st w fits has room next =
      let q = on A D p line in
      let n = pc + length (term_code q e) in
      let rest = has_back code.instructions limit pc (term_code q e) (items_code q items) has in
      let len : n + length (items_code q items) ≡ pc + length (term_code q e ++ items_code q items) = omega (arith, length-append (term_code q e) (items_code q items)) in
      term_runs A (D.evaluate line) code f line limit St (R.evaluates line f fits.indexed) q fits.privates few_privates refl e (λ v. items_into A D p line items (λ ps. κ (number v ∷ ps))) pc st w.0
      (has_front code.instructions limit pc (term_code q e) (items_code q items) has) (left_room (length st) (operands e) (items_room items + 1) f.operands.room room) (λ v.
      items_run line items (λ ps. κ (number v ∷ ps)) f n (v ∷ st) w.1 fits rest (more_room (length st) (items_room items) f.operands.room (right_room (length st) (operands e) (items_room items + 1) f.operands.room room)) (λ vs many.
      subst (λ (k : ℕ). St (κ (number v ∷ filled (parts_of items) vs)) (at code f k (onto vs (v ∷ st)))) (sym len) (next (v ∷ vs) (ap suc many))))
    where
      more_room : (n m k : ℕ) → n + (m + 1) ≤ k → suc n + m ≤ k
      more_room n m k h = omega (arith, h)

  -- ---- READ

  elements_run : (line : ℕ) (xs : List Access) (a : A) (f : Frame) (pc : ℕ) (st : List ℤ) → ElementsReach code p xs → Fits p index f → Has pc (elements_code (on A D p line) xs) → length st + elements_room xs ≤ f.operands.room
      → ((g : Frame) → Keeps f g → St a (at code g (pc + length (elements_code (on A D p line) xs)) st)) → St (elements_into A D p line xs a) (at code f pc st)
  elements_run line [] a f pc st w fits has room next = let z : pc + 0 ≡ pc = omega arith in subst (λ (k : ℕ). St a (at code f k st)) z (next f (keeps_same f))
  elements_run line (x ∷ more) a f pc st w fits has room next =
      let q = on A D p line in
      let first = left_room (length st) (operands (accessed x) + 1) (elements_room more) f.operands.room room in
      R.gets line (λ v. stored_into A D p line x v (elements_into A D p line more a)) f pc st fits.indexed (omega (arith, first)) (seen code f (instr line acts.TakeValue) pc st has.0) (λ v.
      stored_runs line x v (elements_into A D p line more a) f (pc + 1) st w.0 fits (has_front code.instructions limit (pc + 1) (stored_code q x) (elements_code q more) has.2) first (λ g k.
      elements_run line more a g (pc + 1 + length (stored_code q x)) st w.1 (fits_on p index f g k fits) (has_back code.instructions limit (pc + 1) (stored_code q x) (elements_code q more) has.2)
      (room_on g k (right_room (length st) (operands (accessed x) + 1) (elements_room more) f.operands.room room)) (λ h l.
      subst (λ (j : ℕ). St a (at code h j st)) far (next h (Rattle.codegen.proofs.Standing.keeps_on f g h k l)))))
    where
      room_on : (g : Frame) → Keeps f g → length st + elements_room more ≤ f.operands.room → length st + elements_room more ≤ g.operands.room
      room_on g k h = omega (arith, h, k.room)

      far : pc + length (elements_code (on A D p line) (x ∷ more)) ≡ pc + 1 + length (stored_code (on A D p line) x) + length (elements_code (on A D p line) more)
      far = omega (arith, length-append (stored_code (on A D p line) x) (elements_code (on A D p line) more))

  -- ---- statements that hold no others

  nothing_runs : (a : A) (f : Frame) (pc : ℕ) (st : List ℤ) → ((g : Frame) → Keeps f g → St a (at code g (pc + 0) st)) → St a (at code f pc st)
  nothing_runs a f pc st next = let z : pc + 0 ≡ pc = omega arith in subst (λ (k : ℕ). St a (at code f k st)) z (next f (keeps_same f))

  pub kind_runs : (line n : ℕ) (k : Kind) (a : A) (f : Frame) (pc : ℕ) (st : List ℤ) → KindReaches code p k → HasRecords code n k → Fits p index f → Has pc (kind_code (on A D p line) n k) → length st + kind_room k ≤ f.operands.room
      → ((g : Frame) → Keeps f g → St a (at code g (pc + length (kind_code (on A D p line) n k)) st)) → St (kind_into A D p line k a) (at code f pc st)
  kind_runs line n (assign x e) a f pc st w r fits has room next =
      let q = on A D p line in
      let m = pc + length (term_code q e) in
      let len : m + length (stored_code q x) ≡ pc + length (term_code q e ++ stored_code q x) = omega (arith, length-append (term_code q e) (stored_code q x)) in
      term_runs A (D.evaluate line) code f line limit St (R.evaluates line f fits.indexed) q fits.privates few_privates refl e (λ v. stored_into A D p line x v a) pc st w.0
      (has_front code.instructions limit pc (term_code q e) (stored_code q x) has) (left_room (length st) (operands e) (operands (accessed x) + 1) f.operands.room room) (λ v.
      stored_runs line x v a f m st w.1 fits (has_back code.instructions limit pc (term_code q e) (stored_code q x) has) (right_room (length st) (operands e) (operands (accessed x) + 1) f.operands.room room) (λ g k.
      subst (λ (j : ℕ). St a (at code g j st)) (sym len) (next g k)))
  kind_runs line n (print items) a f pc st w r fits has room next =
      let q = on A D p line in
      let last = instr line (acts.Print (short n)) ∷ [] in
      let m = pc + length (items_code q items) in
      let back = has_back code.instructions limit pc (items_code q items) last has in
      let len : pc + length (items_code q items ++ last) ≡ m + 1 = omega (arith, length-append (items_code q items) last) in
      let same : slice_get code.instructions m ≡ Some (instr line (acts.Print n)) = back.0 ∙ ap (λ (j : ℕ). Some (instr line (acts.Print j))) (short_is n r.1) in
      items_run line items (λ ps. D.say (record_of ps) a) f pc st w fits (has_front code.instructions limit pc (items_code q items) last has) room (λ vs many.
      R.says (record_of (filled (parts_of items) vs)) a f m (onto vs st) st fits.indexed (print_seen code f (parts_of items) vs st n line m same r.0 many) (subst (λ (j : ℕ). St a (at code f j st)) len (next f (keeps_same f))))
  kind_runs line n (read xs) a f pc st w r fits has room next =
      let q = on A D p line in
      let last = instr line acts.DropRecord ∷ [] in
      let m = pc + 1 + length (elements_code q xs) in
      let back = has_back code.instructions limit (pc + 1) (elements_code q xs) last has.2 in
      let len : pc + length (kind_code q n (read xs)) ≡ m + 1 = omega (arith, length-append (elements_code q xs) last) in
      R.takes line (elements_into A D p line xs (D.drop_record a)) f pc st fits.indexed (seen code f (instr line acts.TakeRecord) pc st has.0)
      (elements_run line xs (D.drop_record a) f (pc + 1) st w fits (has_front code.instructions limit (pc + 1) (elements_code q xs) last has.2) room (λ g k.
      R.drops line a g m st (k.index ∙ fits.indexed) (seen code g (instr line acts.DropRecord) m st back.0) (subst (λ (j : ℕ). St a (at code g j st)) len (next g k))))
  kind_runs line n stop a f pc st w r fits has room next = R.stops line f pc st fits.indexed (seen code f (instr line acts.Stop) pc st has.0)
  kind_runs line n (program x) a f pc st w r fits has room next = nothing_runs a f pc st next
  kind_runs line n (integer x) a f pc st w r fits has room next = nothing_runs a f pc st next
  kind_runs line n (dimension x) a f pc st w r fits has room next = nothing_runs a f pc st next
  kind_runs line n (parameters x) a f pc st w r fits has room next = nothing_runs a f pc st next
  kind_runs line n (do_loop h) a f pc st w r fits has room next = nothing_runs a f pc st next
  kind_runs line n go_on a f pc st w r fits has room next = nothing_runs a f pc st next
  kind_runs line n (block_if e) a f pc st w r fits has room next = nothing_runs a f pc st next
  kind_runs line n (else_if e) a f pc st w r fits has room next = nothing_runs a f pc st next
  kind_runs line n else_arm a f pc st w r fits has room next = nothing_runs a f pc st next
  kind_runs line n end_if a f pc st w r fits has room next = nothing_runs a f pc st next
  kind_runs line n (logical_if e k) a f pc st w r fits has room next = nothing_runs a f pc st next
  kind_runs line n end a f pc st w r fits has room next = nothing_runs a f pc st next
