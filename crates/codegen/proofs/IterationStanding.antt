-- An iteration's frame does what the iteration's process does.
use Rattle.std.proofs.Common.{◌≡◌, ◌∙◌, ◌+◌, ◌<◌, ◌^◌, inl, inr, ℕ, zero, suc, ℤ, Bool, true, false, List, [], ◌∷◌, Option, Some, None, length, get_or, refl, sym, ap, subst, arith}
use Rattle.std.specs.Prelude.{nat_le, nat_lt, slice_get, slice_set, if◌then◌else◌}
use Rattle.std.proofs.lemmas.Bool.{and_parts, leb-true}
use Rattle.ast.specs.Store.{StoreOf}
use Rattle.ast.specs.Tree.{Ref}
use Rattle.machine.specs.Code.{Code, Cell}
use Rattle.machine.specs.Frame.{Frame}
use Rattle.machine.specs.Local.{defined, faulted}
use Rattle.machine.specs.View.{failure, stop_at, doing, loading, awaiting, advancing, stuck, awaiting_if, is_event, view}
use Rattle.machine.specs.declared.code.Await.{Await}
use Rattle.machine.specs.declared.code.Open.{Open as Opened}
use Rattle.machine.specs.declared.instr.Act.TheVariants as acts
use Rattle.expr_code.specs.Emitted.{instr, short}
use Rattle.expr_code.specs.Process.{Steps}
use Rattle.expr_code.proofs.Finding.{short_is}
use Rattle.expr_code.proofs.Standing.{at, seen}
use Rattle.codegen.specs.Process.{Doing}
use Rattle.codegen.proofs.IterationSteps.{Process, load, store, print, await, advance, tick, fault, gone, cell_value}
use Rattle.codegen.proofs.ProgramStanding.{Stands as ProcessStands}
use Rattle.codegen.proofs.Running.{Does}
use Rattle.codegen.proofs.Standing.{keeps_set, with_private}

-- What an iteration may still do, by the values of its private scalars, None where one wasn't
-- defined.
abbrev pub Work : Type 0
Work = List (Option ℤ) → Process

-- names: of the private scalars; index: the value of the loop's variable; fixed: the cells of
-- scalars to which the loop's range gives no value, which keep those that they had where it was
-- opened
module _ (names : List (List ℕ)) (index : ℤ) (fixed : Cell → Bool) (opened : StoreOf) where
  -- the cell of a private scalar
  abbrev pub private_cell : ℕ → Cell
  private_cell x = record { name = get_or names x []; place = 0 }

  -- a private scalar that wasn't defined is read from its cell: in no good plan is there one
  abbrev pub own_value : Ref → ℕ → Option (Option ℤ) → (ℤ → Process) → Process
  own_value r x (Some (Some v)) κ = tick (κ v)
  own_value r x (Some None) κ = load r (private_cell x) κ
  own_value r x None κ = load r (private_cell x) κ

  abbrev pub iteration_steps : ℕ → Steps Work
  iteration_steps line = record {
    load = λ r c κ ps. if fixed c then tick (κ (cell_value opened c) ps) else load r c (λ v. κ v ps);
    own = λ r x κ ps. own_value r x (slice_get ps x) (λ v. κ v ps);
    index = λ r κ ps. tick (κ index ps);
    local = λ a ps. tick (a ps);
    fails = λ e ps. tick (fault (failure e line));
  }

  -- an iteration reads no input and opens no loop
  abbrev pub iteration_doing : Doing Work
  iteration_doing = record {
    evaluate = λ line. iteration_steps line;
    keep = λ r c v a ps. store r c v (a ps);
    set = λ r x v a ps. tick (a (slice_set ps x (Some v)));
    say = λ bytes a ps. print bytes (a ps);
    take_record = λ line a ps. gone;
    take_value = λ line κ ps. gone;
    drop_record = λ a ps. gone;
    local = λ a ps. tick (a ps);
    await = λ e d a ps. if is_event e then await e d (a ps) else gone;
    advance = λ e a ps. if is_event e then advance e (a ps) else gone;
    opening = λ line n m1 m2 a ps. gone;
    stop = λ line ps. fault (stop_at line);
  }

  -- the cells of private scalars
  abbrev pub Hidden : Cell → Type 0
  Hidden c = (x : ℕ) × (x < length names) × (c ≡ private_cell x)

  module _ (code : Code) where
    -- the frame does what the process does; of a private scalar's cell nothing is claimed
    abbrev pub Stands : Process → Frame → Type 0
    Stands P f = ProcessStands Frame Opened (view code) Hidden (λ c. fixed c ≡ true) opened P f

    -- a frame with all private scalars stands where the iteration may do this
    abbrev pub Ready : Work → Frame → Type 0
    Ready a f = length f.privates ≡ length names → Stands (a f.privates) f

    private_below : (ps : List (Option ℤ)) (x : ℕ) (o : Option ℤ) → slice_get ps x ≡ Some o → x < length ps
    private_below [] x o h = cc
    private_below (p ∷ ps) zero o h = omega arith
    private_below (p ∷ ps) (suc x) o h = let k = private_below ps x o h in omega (arith, k)

    few_events : (e : ℕ) → is_event e ≡ true → e < 2 ^ 32
    few_events e h = let k = leb-true e 64 (and_parts (nat_lt 0 e) (nat_le e 64) h).1 in omega (arith, k)

    pub iteration_does : (limit : ℕ) → Does Work iteration_doing code limit index Ready
    iteration_does limit = record {
      evaluates = λ line f indexed. record {
        loads = λ r c κ pc st us e next len. read r c κ f pc st us e (λ v. next v len) (fixed c) refl;
        owns = λ r x κ pc st o is e next len.
            subst (λ (z : Option (Option ℤ)). Stands (own_value r x z (λ v. κ v f.privates)) (at code f pc st)) (sym is) (own r x κ f pc st o (let b = private_below f.privates x o is in omega (arith, b, len)) e (λ v. next v len));
        indexes = λ r κ pc st e next len.
            inl (at code f (pc + 1) (f.index ∷ st), e, subst (λ (z : ℤ). Stands (κ z f.privates) (at code f (pc + 1) (f.index ∷ st))) indexed (next len));
        goes = λ a pc st us e next len. inl (at code f (pc + 1) us, e, next len);
        faults = λ e pc st near h len. inl (faulted e line (at code f pc st), h, refl);
      };
      keeps = λ r c v a f pc st us indexed e next len. (at code f (pc + 1) us, e, next len);
      sets = λ r x v a f pc st us indexed below e next len. inl (at code (with_private f x v) (pc + 1) us, e, next ((keeps_set f x v).privates ∙ len));
      says = λ bytes a f pc st us indexed e next len. (at code f (pc + 1) us, e, next len);
      takes = λ line a f pc st indexed e next len. tt;
      gets = λ line κ f pc st indexed room e next len. tt;
      drops = λ line a f pc st indexed e next len. tt;
      goes = λ a f g pc to st us indexed privates e next len. inl (at code g to us, e, subst (λ (ps : List (Option ℤ)). Stands (a ps) (at code g to us)) privates (next (ap (λ (ps : List (Option ℤ)). length ps) privates ∙ len)));
      awaits = λ e d w line a f pc st indexed slot is next len. waits e d w line a f pc st slot is (next len) (is_event e) refl;
      advances = λ e line a f pc st indexed is next len. advances e line a f pc st is (next len) (is_event e) refl;
      opens = λ n line m1 m2 a f pc st indexed opening joining next len. tt;
      stops = λ line f pc st indexed e len. e;
    }
      where
        read : (r : Ref) (c : Cell) (κ : ℤ → Work) (f : Frame) (pc : ℕ) (st us : List ℤ) → view code (at code f pc st) ≡ loading c (λ v. at code f (pc + 1) (v ∷ us)) → ((v : ℤ) → Stands (κ v f.privates) (at code f (pc + 1) (v ∷ us)))
            → (b : Bool) → fixed c ≡ b → Stands (if b then tick (κ (cell_value opened c) f.privates) else load r c (λ v. κ v f.privates)) (at code f pc st)
        read r c κ f pc st us e next true h = inr (c, (λ v. at code f (pc + 1) (v ∷ us)), h, e, next (cell_value opened c))
        read r c κ f pc st us e next false h = λ hidden. ((λ v. at code f (pc + 1) (v ∷ us)), e, next)

        own : (r : Ref) (x : ℕ) (κ : ℤ → Work) (f : Frame) (pc : ℕ) (st : List ℤ) (o : Option ℤ) → x < length names → view code (at code f pc st) ≡ doing (at code f (pc + 1) (defined o ∷ st)) → ((v : ℤ) → Stands (κ v f.privates) (at code f (pc + 1) (v ∷ st)))
            → Stands (own_value r x (Some o) (λ v. κ v f.privates)) (at code f pc st)
        own r x κ f pc st (Some v) below e next = inl (at code f (pc + 1) (v ∷ st), e, next v)
        own r x κ f pc st None below e next = λ seen. absurd (seen (x, below, refl))

        waits : (e d w line : ℕ) (a : Work) (f : Frame) (pc : ℕ) (st : List ℤ) → slice_get code.awaits w ≡ Some (record { event = short e; distance = d }) → slice_get code.instructions pc ≡ Some (instr line (acts.Await w)) → Stands (a f.privates) (at code f (pc + 1) st)
            → (b : Bool) → is_event e ≡ b → Stands (if b then await e d (a f.privates) else gone) (at code f pc st)
        waits e d w line a f pc st slot is next true h = (
          at code f (pc + 1) st,
          seen code f (instr line (acts.Await w)) pc st is
              ∙ ap (λ (o : Option Await). awaiting_if o (at code f pc st)) slot
              ∙ ap (λ (n : ℕ). if is_event n then awaiting n d (at code f (pc + 1) st) else stuck) (short_is e (few_events e h))
              ∙ ap (λ (b : Bool). if b then awaiting e d (at code f (pc + 1) st) else stuck) h,
          next,
        )
        waits e d w line a f pc st slot is next false h = tt

        advances : (e line : ℕ) (a : Work) (f : Frame) (pc : ℕ) (st : List ℤ) → slice_get code.instructions pc ≡ Some (instr line (acts.Advance (short e))) → Stands (a f.privates) (at code f (pc + 1) st)
            → (b : Bool) → is_event e ≡ b → Stands (if b then advance e (a f.privates) else gone) (at code f pc st)
        advances e line a f pc st is next true h = (
          at code f (pc + 1) st,
          seen code f (instr line (acts.Advance (short e))) pc st is
              ∙ ap (λ (n : ℕ). if is_event n then advancing n (at code f (pc + 1) st) else stuck) (short_is e (few_events e h))
              ∙ ap (λ (b : Bool). if b then advancing e (at code f (pc + 1) st) else stuck) h,
          next,
        )
        advances e line a f pc st is next false h = tt
