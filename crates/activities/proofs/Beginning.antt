-- Activities as they begin.
use Rattle.std.proofs.Common.{inl, ◌≡◌, ◌∙◌, ℕ, zero, suc, ◌+◌, ◌<◌, List, [], ◌∷◌, get_or, Option, Some, None, refl, sym, ap, subst, arith}
use Rattle.std.specs.Prelude.{pos, ◌%◌, option_map, replicate}
use Rattle.std.proofs.lemmas.Bool.{ne_eqb}
use Rattle.std.proofs.lemmas.List.{length-replicate}
use Rattle.ast.specs.Store.{StoreOf, zeros}
use Rattle.ec_kernel.specs.View.{IsKernel, NoWaiter, places}
use Rattle.machine.specs.Code.{Code}
use Rattle.machine.specs.Laid.{count_of, number_at}
use Rattle.machine.specs.State.{Active, Machine, Wait, Who, until_retired}
use Rattle.machine.specs.StoreView.{store_of, value_in}
use Rattle.machine.specs.Frame.{Frame}
use Rattle.machine.specs.View.{Input, main_frame}
use Rattle.machine.specs.declared.code.Variable.{Variable}
use Rattle.activities.specs.Core.{IsCore}
use Rattle.activities.specs.Parts.{Kept, Shared, Standing, active, held_of, machine_of, numbered, point_of, standing, wait_in}
use Rattle.activities.specs.PartsView.{input_of, shared_of, wait}
use Rattle.activities.specs.Points.{at_first, beginning}
use Rattle.activities.specs.Waiting.{Stands}
use Rattle.activities.specs.declared.parts.Until.TheVariants.{Retired}
use Rattle.activities.specs.declared.holding.Activities.{Activities}
use Rattle.activities.specs.Activities.{input_at_first, kept_in, shared_at_first}
use Rattle.activities.proofs.Shares.{holders, standings}
use Rattle.machine.specs.FrameView as frames
use Rattle.activities.proofs.Leading.{no_counts}

pub no_waiters : (n : ℕ) → NoWaiter (replicate n [])
no_waiters zero = tt
no_waiters (suc n) = (refl, no_waiters n)

pub none_at : {A : Type 0} (n i : ℕ) → get_or (replicate {A = Option A} n None) i None ≡ None
none_at zero i = refl
none_at (suc n) zero = refl
none_at (suc n) (suc i) = none_at n i

places_of : (s j : ℕ) → places (1 + j) (at_first s) ≡ 0
places_of s j = let d : 1 + j ≡ 0 → ⊥ = λ z. omega (arith, z) in rw (ne_eqb (1 + j) 0 d) (omega arith)

-- what a core keeps as it begins
abbrev pub first_kept : Code → List ℕ → ℕ → ℕ → Kept
first_kept code input p s = record {
  shared = shared_at_first code s;
  input = input_at_first input;
  main = main_frame code;
  waiting = Some (until_retired 0);
  iterations = replicate s None;
  held = replicate p None;
}

zero_in : (n : ℕ) (o : Option ℕ) → value_in (replicate n (pos 0)) o ≡ pos 0
zero_in n None = refl
zero_in zero (Some i) = refl
zero_in (suc n) (Some zero) = refl
zero_in (suc n) (Some (suc i)) = zero_in n (Some i)

zero_store : (vs : List Variable) (n : ℕ) → store_of vs (replicate n (pos 0)) ≡ zeros
unfolding store_of
zero_store vs n = λ i name place. zero_in n (number_at vs name place) i

none_stands : (n s k : ℕ) → standing (replicate n None) s k ≡ None
unfolding standing
none_stands n s k = ap (numbered k) (none_at {A = Standing} n (k % s))

none_held : (p : ℕ) → ◌≡◌ {A = ℕ → Option Who} (held_of (replicate p None)) (λ q. None)
unfolding held_of
none_held p = λ i q. none_at {A = Who} p q i

pub nobody_holds : (p q : ℕ) (u : Who) → held_of (replicate p None) q ≡ Some u → ⊥
nobody_holds p q u e = let z : None ≡ Some u = sym (ap (λ (f : ℕ → Option Who). f q) (none_held p)) ∙ e in cc

none_active : (n s : ℕ) → ◌≡◌ {A = ℕ → Option (Active Frame)} (λ k. active (standing (replicate n None) s k)) (λ k. None)
none_active n s = λ i k. active (none_stands n s k i)

none_waits : (n s : ℕ) → ◌≡◌ {A = ℕ → Option Wait} (λ k. wait_in (standing (replicate n None) s k)) (λ k. None)
none_waits n s = λ i k. wait_in (none_stands n s k i)

pub begins : (code : Code) (input : List ℕ) (p s : ℕ) → point_of code.variables s (first_kept code input p s) ≡ beginning code input s
begins code input p s =
    let M : Machine = machine_of code.variables s (first_kept code input p s) in
    ap (λ (m : Machine). record { machine = m; order = at_first s }) (
    ap (λ (f : StoreOf). record M { store = f }) (zero_store code.variables (count_of code.variables))
    ∙ ap (λ (f : ℕ → ℕ). record M { store = zeros; counts = f }) (no_counts 65)
    ∙ ap (λ (f : ℕ → Option (Active Frame)). record M { store = zeros; counts = λ e. 0; iterations = f }) (none_active s s)
    ∙ ap (λ (f : ℕ → Option Wait). record M { store = zeros; counts = λ e. 0; iterations = λ k. None; parked = f }) (none_waits s s)
    ∙ ap (λ (f : ℕ → Option Who). record M { store = zeros; counts = λ e. 0; iterations = λ k. None; parked = λ k. None; held = f }) (none_held p)
    )

pub first_core : (code : Code) (input : List ℕ) (p s : ℕ) → 0 < s → IsKernel (at_first s) → IsCore code s (first_kept code input p s)
first_core code input p s h k = record {
  some = h;
  kernel = k;
  slots = refl;
  counts = refl;
  ticket = omega arith;
  turn = omega arith;
  cells = length-replicate (count_of code.variables) (pos 0);
  indices = tt;
  room = length-replicate s None;
  main = (omega arith, inl (omega arith, omega arith));
  each = λ j l. subst (λ (o : Option Standing). Stands (at_first s) (1 + j) (wait_in o)) (sym (none_at {A = Standing} s j)) (places_of s j);
  numbers = λ j a e. (let z : None ≡ Some a = sym (none_at {A = Standing} s j) ∙ e in cc);
  leads = λ q e. absurd (nobody_holds p q _ e);
  runs = λ q j e. absurd (nobody_holds p q _ e);
  apart = λ q r u e f. absurd (nobody_holds p q u e);
}

no_holders : (p : ℕ) → holders (replicate p None) ≡ replicate p None
no_holders zero = refl
no_holders (suc p) = ap (λ (hs : List (Option Who)). None ∷ hs) (no_holders p)

-- activities of which these parts are known
pub kept_first : (code : Code) (input : List ℕ) (p s : ℕ) (a : Activities) → shared_of a.shared ≡ shared_at_first code s → input_of a.main.input ≡ input_at_first input
    → frames.frame_of a.main.frame ≡ main_frame code → a.main.wait ≡ Some (Retired 0) → standings a.iterations.items ≡ replicate s None → a.held.items ≡ replicate p None → kept_in a ≡ first_kept code input p s
kept_first code input p s a k i f w t h =
    made (shared_of a.shared) (shared_at_first code s) (input_of a.main.input) (input_at_first input) (frames.frame_of a.main.frame) (main_frame code) (option_map wait a.main.wait) (Some (until_retired 0)) (standings a.iterations.items) (replicate s None) (holders a.held.items) (replicate p None) k i f
    (ap (λ u. option_map wait u) w) t (ap holders h ∙ no_holders p)
  where
    made : (k k' : Shared) (i i' : Input) (f f' : Frame) (w w' : Option Wait) (t t' : List (Option Standing)) (h h' : List (Option Who)) → k ≡ k' → i ≡ i' → f ≡ f' → w ≡ w' → t ≡ t' → h ≡ h'
        → ◌≡◌ {A = Kept} (record { shared = k; input = i; main = f; waiting = w; iterations = t; held = h }) (record { shared = k'; input = i'; main = f'; waiting = w'; iterations = t'; held = h' })
    made k k' i i' f f' w w' t t' h h' a1 a2 a3 a4 a5 a6 = cc
