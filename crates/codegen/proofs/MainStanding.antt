-- Main's frame does what main's process does.
use Rattle.std.proofs.Common.{◌≡◌, ◌∙◌, ◌+◌, ◌<◌, ◌^◌, ℕ, ℤ, pos, Bool, true, false, List, ◌∷◌, Option, Some, Result, Ok, Err, length, refl, ap}
use Rattle.std.specs.Prelude.{slice_get, if◌then◌else◌}
use Rattle.std.specs.Ordering.{int_eq}
use Rattle.std.proofs.lemmas.Bool.{lt-ltb}
use Rattle.ast.specs.Exact.{in_range}
use Rattle.ast.specs.Input.{taken, next_integer}
use Rattle.ast.specs.declared.fault.Fault.{Fault}
use Rattle.machine.specs.Code.{Code, Loop, loop_at}
use Rattle.machine.specs.Frame.{Frame}
use Rattle.machine.specs.Local.{faulted}
use Rattle.machine.specs.View.{Input, opening, reading, frame_after, frame_joined, frame_with, index_at, input_behind, join_stores, act_view, opening_if, stuck, view}
use Rattle.machine.specs.declared.code.Open.{Open as Opened}
use Rattle.machine.specs.declared.instr.Act.TheVariants as acts
use Rattle.expr_code.specs.Emitted.{instr, short}
use Rattle.expr_code.proofs.Finding.{short_is}
use Rattle.expr_code.proofs.Standing.{at, seen}
use Rattle.codegen.proofs.MainSteps.{Valid, after_join, if_taken, loop_opened, main_doing, open_then}
use Rattle.codegen.proofs.ProgramStanding.{MainStands}
use Rattle.codegen.proofs.ProgramSteps.{Main, astray}
use Rattle.codegen.proofs.Running.{Does}

-- a loop that can be opened stands in the code, and has a step
pub record Opens (code : Code) (n : ℕ) : Type 0 where
  pub loop : slice_get code.loops n ≡ Some (loop_at code n)
  pub few : n < 2 ^ 32
  pub step : int_eq (loop_at code n).step (pos 0) ≡ false

module _ (code : Code) (may : ℕ → ℤ → ℤ → Bool) where
  -- the frame does what main may still do
  abbrev pub Goes : Main Opened → Frame → Type 0
  Goes M f = MainStands Frame Opened (view code) (Valid code may) M f

  taken_stands : (r : Result (List ℤ × List (List ℕ)) Fault) (line : ℕ) (M : Main Opened) (f : Frame) (pc : ℕ) (st : List ℤ) → Goes M (at code f (pc + 1) st) → Goes (if_taken r line (λ x. M)) (frame_after r line (at code f pc st))
  taken_stands (Ok x) line M f pc st h = h
  taken_stands (Err e) line M f pc st h = refl

  value_stands : (r : Result (ℤ × List ℤ × List (List ℕ)) Fault) (line : ℕ) (κ : ℤ → Main Opened) (f : Frame) (pc : ℕ) (st : List ℤ) → ((v : ℤ) → Goes (κ v) (at code f (pc + 1) (v ∷ st))) → Goes (if_taken r line (λ x. κ x.0)) (frame_with r line (at code f pc st))
  value_stands (Ok x) line κ f pc st h = h x.0
  value_stands (Err e) line κ f pc st h = refl

  joined_stands : (r : Result ℤ Fault) (line : ℕ) (M : Main Opened) (f : Frame) (pc : ℕ) (st : List ℤ) → Goes M (at code f (pc + 1) st) → Goes (after_join r line M) (frame_joined r line (at code f pc st))
  joined_stands (Ok v) line M f pc st h = h
  joined_stands (Err e) line M f pc st h = refl

  module _ (sound : (n : ℕ) (m1 m2 : ℤ) → may n m1 m2 ≡ true → Opens code n) where
    pub main_does : (limit : ℕ) → Does (Main Opened) (main_doing code may) code limit (pos 0) Goes
    main_does limit = record {
      evaluates = λ line f index. record {
        loads = λ r c κ pc st us e next. ((λ v. at code f (pc + 1) (v ∷ us)), e, next);
        owns = λ r x κ pc st o is e next. tt;
        indexes = λ r κ pc st e next. tt;
        goes = λ a pc st us e next. (at code f (pc + 1) us, e, next);
        faults = λ e pc st near h. (faulted e line (at code f pc st), h, refl);
      };
      keeps = λ r c v a f pc st us index e next. (at code f (pc + 1) us, e, next);
      sets = λ r x v a f pc st us index below e next. tt;
      says = λ bytes a f pc st us index e next. (at code f (pc + 1) us, e, next);
      takes = λ line a f pc st index e next. ((λ i. frame_after (taken i.records) line (at code f pc st)), e, λ i. taken_stands (taken i.records) line a f pc st next);
      gets = λ line κ f pc st index room e next.
          ((λ i. frame_with (next_integer i.left i.records) line (at code f pc st)), e ∙ roomy line f pc st room, λ i. value_stands (next_integer i.left i.records) line κ f pc st next);
      drops = λ line a f pc st index e next. ((λ i. at code f (pc + 1) st), e, λ i. next);
      goes = λ a f g pc to st us index privates e next. (at code g to us, e, next);
      awaits = λ e d w line a f pc st index there is next. tt;
      advances = λ e line a f pc st index is next. tt;
      opens = λ n line m1 m2 a f pc st index is behind next. opens n line m1 m2 a f pc st is behind next (may n m1 m2) refl;
      stops = λ line f pc st index e. e;
    }
      where
        roomy : (line : ℕ) (f : Frame) (pc : ℕ) (st : List ℤ) → length st < f.operands.room → act_view code acts.TakeValue line (at code f pc st)
            ≡ reading (λ i. input_behind (next_integer i.left i.records) i) (λ i. frame_with (next_integer i.left i.records) line (at code f pc st))
        roomy line f pc st h =
            ap (λ (b : Bool). if b then reading (λ (i : Input). input_behind (next_integer i.left i.records) i) (λ (i : Input). frame_with (next_integer i.left i.records) line (at code f pc st)) else stuck) (lt-ltb (length st) f.operands.room h)

        opens : (n line : ℕ) (m1 m2 : ℤ) (a : Main Opened) (f : Frame) (pc : ℕ) (st : List ℤ) → slice_get code.instructions pc ≡ Some (instr line (acts.Open (short n))) → slice_get code.instructions (pc + 1) ≡ Some (instr line acts.Join) → Goes a (at code f (pc + 1 + 1) st)
            → (b : Bool) → may n m1 m2 ≡ b → Goes (if b then open_then code may (loop_opened code may n m1 m2) line a else astray) (at code f pc (m2 ∷ m1 ∷ st))
        opens n line m1 m2 a f pc st is behind next false h = tt
        opens n line m1 m2 a f pc st is behind next true h =
            let o = sound n m1 m2 h in
            let l = loop_opened code may n m1 m2 in
            let g = at code f (pc + 1) st in (
              (m1, m2, refl, h),
              g,
              seen code f (instr line (acts.Open (short n))) pc (m2 ∷ m1 ∷ st) is
                  ∙ ap (λ (k : ℕ). opening_if (slice_get code.loops k) k (at code f pc (m2 ∷ m1 ∷ st))) (short_is n o.few)
                  ∙ ap (λ (x : Option Loop). opening_if x n (at code f pc (m2 ∷ m1 ∷ st))) o.loop
                  ∙ ap (λ (b : Bool). if b then stuck else opening l g) o.step,
              (λ k. join_stores code k),
              (λ k. frame_joined (in_range (index_at code k k.trips)) line g),
              seen code f (instr line acts.Join) (pc + 1) st behind,
              refl,
              joined_stands (in_range (index_at code l l.trips)) line a f (pc + 1) st next,
            )
