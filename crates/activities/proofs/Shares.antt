-- What a shared step did to activities.
use Rattle.std.proofs.Common.{inl, inr, ◌⊎◌, ◌≡◌, ◌∙◌, ℕ, ◌+◌, ◌-◌, ◌<◌, Bool, true, false, List, [], ◌∷◌, length, get_or, Option, Some, None, refl, sym, ap, subst, arith}
use Rattle.std.specs.Prelude.{IfOk, IfSome, OnErr, OnOk, Result, Ok, Err, ◌%◌, ◌==◌, nat_lt, nat_le, if◌then◌else◌, map, option_map}
use Rattle.std.proofs.Math.ListN.{set}
use Rattle.std.proofs.lemmas.List.{get_or-map, length-map, map-set, set-get_or}
use Rattle.std.proofs.Math.Seq.{map-set_same}
use Rattle.ast.specs.declared.fault.End.TheVariants.{Stopped, Fault as Faulted}
use Rattle.ec_kernel.specs.View.{IsKernel, count_at, advanced, parked}
use Rattle.machine.specs.Code.{Code}
use Rattle.machine.specs.CodeView.{code_of}
use Rattle.machine.specs.Local.{going_on}
use Rattle.machine.specs.State.{Who, the_main, iteration, until_count, until_retired}
use Rattle.machine.specs.View.{view}
use Rattle.machine.specs.declared.code.Code.{Code as CodeValue}
use Rattle.machine.specs.declared.code.Open.{Open}
use Rattle.machine.specs.declared.next.Next.{Next}
use Rattle.machine.specs.declared.next.Next.TheVariants.{Local, Load, Store, Print, Await, Advance, Opens, Join, Retire, Report, Stop, Stuck}
use Rattle.activities.specs.Activities.{AreActivities, Did, Stays, code_in, kept_in, point_in, who}
use Rattle.activities.specs.Core.{IsCore}
use Rattle.activities.specs.MainTurns.{MainPart, kept_of}
use Rattle.activities.specs.Parts.{Kept, Shared, Standing, held_of, point_of}
use Rattle.activities.specs.Points.{Moves, Point}
use Rattle.activities.specs.Sharing.{Led, Turned, went}
use Rattle.activities.specs.Turns.{After, May, MainAfter, closes, ends, held_after, idle, iteration_after, joins, leaves, main_after, main_as, none_open, opens, parks, put_back, put_main, stays, staying, waits_its_turn}
use Rattle.activities.specs.declared.holding.Activities.{Activities}
use Rattle.activities.specs.declared.holding.Holder.{Holder}
use Rattle.activities.specs.declared.parts.Iteration.{Iteration}
use Rattle.activities.specs.declared.parts.Shared.{Shared as SharedValue}
use Rattle.std.specs.Vec.{with_item}
use Rattle.activities.specs.PartsView.{shared_of, standing_of}
use Rattle.activities.specs.declared.turn.Outcome.{Outcome}
use Rattle.activities.specs.declared.turn.Outcome.TheVariants.{Parks, Leaves, Idle}
use Rattle.activities.proofs.Entering.{IsLaid, leads_of, may_run, place_below}
use Rattle.activities.proofs.Going.{keeps_on}
use Rattle.activities.proofs.Led.{led_on}
use Rattle.activities.proofs.Stepping.{iteration_moves, iteration_stands, main_stands, main_steps}
use Rattle.activities.proofs.Turning.{Runs, Went}

-- ---- whether an iteration is open matters where a loop is opened alone

some_list : (b : Bool) (a : Standing) → (xs : List (Option Standing)) × (none_open xs ≡ b)
some_list true a = ([], refl)
some_list false a = (Some a ∷ [], refl)

join_unseen : (code : Code) (line : ℕ) (o : Option Open) (x : Shared) (m : MainPart) (xs ys : List (Option Standing)) (hs : List (Option Who)) → joins code line o (kept_of x m xs hs) ≡ joins code line o (kept_of x m ys hs)
join_unseen code line None x m xs ys hs = refl
join_unseen code line (Some l) x m xs ys hs = by (nat_le l.trips (count_at x.order 0))
  where
    far : List (Option Standing) → MainAfter
    far zs = record (main_as Parks (kept_of x m zs hs)) { shared = record x { order = parked x.order 0 l.trips 0 }; waiting = Some (until_retired l.trips) }

    by : (b : Bool) → (if b then closes code line l (kept_of x m xs hs) else far xs) ≡ (if b then closes code line l (kept_of x m ys hs) else far ys)
    by true = refl
    by false = refl

unseen : (code : Code) (n : Next) (x : Shared) (m : MainPart) (xs ys : List (Option Standing)) (hs : List (Option Who)) → ((l : Open) → n ≡ Opens l → ⊥) → main_after code n (kept_of x m xs hs) ≡ main_after code n (kept_of x m ys hs)
unseen code Local x m xs ys hs h = refl
unseen code (Opens l) x m xs ys hs h = absurd (h l refl)
unseen code (Join line) x m xs ys hs h = join_unseen code line x.loop x m xs ys hs
unseen code n x m xs ys hs h = refl

pub seen : (code : Code) (n : Next) (b : Bool) (x : Shared) (m : MainPart) (a : Standing) (ys : List (Option Standing)) (hs : List (Option Who)) (y : MainAfter) → ((l : Open) → n ≡ Opens l → b ≡ none_open ys)
    → ((xs : List (Option Standing)) (zs : List (Option Who)) → none_open xs ≡ b → y ≡ main_after code n (kept_of x m xs zs)) → y ≡ main_after code n (kept_of x m ys hs)
seen code Local b x m a ys hs y h f = let z = some_list b a in f z.0 hs z.1
seen code (Opens l) b x m a ys hs y h f = f ys hs (sym (h l refl))
seen code n b x m a ys hs y h f = let z = some_list b a in f z.0 hs z.1 ∙ unseen code n x m z.0 ys hs (λ l e. cc)

-- ---- where no step is made nothing changes

idle_main : (code : Code) (n : Next) (x : Kept) → (Went (main_after code n x).outcome → ⊥) → main_after code n x ≡ main_as Idle x
idle_main code Local x w = refl
idle_main code (Await e d) x w = refl
idle_main code (Advance e) x w = refl
idle_main code (Opens l) x w = by (none_open x.iterations) w
  where
    by : (b : Bool) → (Went (if b then opens l x else main_as Idle x).outcome → ⊥) → (if b then opens l x else main_as Idle x) ≡ main_as Idle x
    by true h = absurd (h tt)
    by false h = refl
idle_main code (Join line) x w = joined x.shared.loop w
  where
    far : Open → MainAfter
    far l = record (main_as Parks x) { shared = record x.shared { order = parked x.shared.order 0 l.trips 0 }; waiting = Some (until_retired l.trips) }

    by : (l : Open) (b : Bool) → (Went (if b then closes code line l x else far l).outcome → ⊥) → (if b then closes code line l x else far l) ≡ main_as Idle x
    by l true h = absurd (h tt)
    by l false h = absurd (h tt)

    joined : (o : Option Open) → (Went (joins code line o x).outcome → ⊥) → joins code line o x ≡ main_as Idle x
    joined None h = refl
    joined (Some l) h = by l (nat_le l.trips (count_at x.shared.order 0)) h
idle_main code (Retire n) x w = refl
idle_main code Stuck x w = refl
idle_main code n x w = absurd (w tt)

idle_iteration : (code : Code) (at : ℕ) (n : Next) (x : Shared) (a : Standing) → (Went (iteration_after code at n x a).outcome → ⊥) → iteration_after code at n x a ≡ idle x a
idle_iteration code at (Load n k) x a w = absurd (w tt)
idle_iteration code at (Store n v k) x a w = absurd (w tt)
idle_iteration code at (Print ps k) x a w = absurd (w tt)
idle_iteration code at (Await e d) x a w = by (nat_lt a.number (count_at x.order e + d)) w
  where
    by : (b : Bool) → (Went (if b then stays x (record a { frame = going_on a.frame.operands a.frame }) else parks at e (a.number + 1 - d) (until_count e (a.number + 1 - d)) x a).outcome → ⊥)
        → (if b then stays x (record a { frame = going_on a.frame.operands a.frame }) else parks at e (a.number + 1 - d) (until_count e (a.number + 1 - d)) x a) ≡ idle x a
    by true f = absurd (f tt)
    by false f = absurd (f tt)
idle_iteration code at (Advance e) x a w = by (count_at x.order e == a.number) w
  where
    by : (b : Bool) → (Went (if b then stays (record x { order = advanced x.order e }) (record a { frame = going_on a.frame.operands a.frame }) else idle x a).outcome → ⊥)
        → (if b then stays (record x { order = advanced x.order e }) (record a { frame = going_on a.frame.operands a.frame }) else idle x a) ≡ idle x a
    by true f = absurd (f tt)
    by false f = refl
idle_iteration code at (Retire n) x a w = by (count_at x.order 0 == a.number) w
  where
    by : (b : Bool) → (Went (if b then leaves code n x a else waits_its_turn at x a).outcome → ⊥) → (if b then leaves code n x a else waits_its_turn at x a) ≡ idle x a
    by true f = absurd (f tt)
    by false f = absurd (f tt)
idle_iteration code at (Report e line) x a w = by (count_at x.order 0 == a.number) w
  where
    by : (b : Bool) → (Went (if b then ends (Faulted e line) x a else waits_its_turn at x a).outcome → ⊥) → (if b then ends (Faulted e line) x a else waits_its_turn at x a) ≡ idle x a
    by true f = absurd (f tt)
    by false f = absurd (f tt)
idle_iteration code at (Stop line) x a w = by (count_at x.order 0 == a.number) w
  where
    by : (b : Bool) → (Went (if b then ends (Stopped line) x a else waits_its_turn at x a).outcome → ⊥) → (if b then ends (Stopped line) x a else waits_its_turn at x a) ≡ idle x a
    by true f = absurd (f tt)
    by false f = absurd (f tt)
idle_iteration code at n x a w = refl

-- ---- of all that a core keeps

-- it was done, or can't be
abbrev pub DidOf : Bool → (Point → Point → Type 0) → (Kept → Point) → Kept → Kept → Type 0
DidOf true Step point x z = Step (point x) (point z)
DidOf false Step point x z = (z ≡ x) × ((b : Point) → Step (point x) b → ⊥)

abbrev pub Shares : Code → ℕ → Bool → ℕ → Kept → Kept → Type 0
Shares code s b q x z = DidOf b (λ p r. Moves code s false p q r) (λ y. point_of code.variables s y) x z

is_went : (o : Outcome) → went o ≡ true → Went o
is_went Idle e = cc
is_went o e = tt

isnt_went : (o : Outcome) → went o ≡ false → Went o → ⊥
isnt_went Idle e h = h
isnt_went o e h = cc

main_shares : (code : Code) (s q : ℕ) (x : Kept) (n : Next) (b : Bool) (y : MainAfter) (l : Led code x y) → IsCore code s x → IsLaid code → x.shared.ended ≡ None → held_of x.held q ≡ Some the_main → b ≡ went y.outcome → Shares code s b q x (put_main q y x)
main_shares code s q x n true y l c k g h e =
    let w : Went (main_after code l.next x).outcome = is_went (main_after code l.next x).outcome (ap (λ (z : MainAfter). went z.outcome) (sym l.after) ∙ sym e) in
    subst (λ (z : MainAfter). Shares code s true q x (put_main q z x)) (sym l.after) (main_steps code s q x l.next (c.leads q h) (leads_of code s q x c k g h) l.told w)
main_shares code s q x n false y l c k g h e =
    let w : Went (main_after code l.next x).outcome → ⊥ = isnt_went (main_after code l.next x).outcome (ap (λ (z : MainAfter). went z.outcome) (sym l.after) ∙ sym e) in
    (ap (λ (z : MainAfter). put_main q z x) (l.after ∙ idle_main code l.next x w), λ p. main_stands code s q x l.next p c h l.told w)

main_core : (code : Code) (s q : ℕ) (x : Kept) (y : MainAfter) → Led code x y → IsCore code s x → IsLaid code → x.shared.ended ≡ None → held_of x.held q ≡ Some the_main → IsCore code s (put_main q y x)
main_core code s q x y l c k g h =
    subst (λ (z : MainAfter). IsCore code s (put_main q z x)) (sym l.after)
    (led_on code s q x l.next c (leads_of code s q x c k g h) (c.leads q h) l.indices (subst (λ (z : MainAfter). IsKernel z.shared.order) l.after l.kernel))

abbrev pub left : ℕ → ℕ → ℕ → Outcome → Shared → Option Standing → Kept → Kept
left s q k o y d x = record x { shared = y; iterations = set x.iterations (k % s) d; held = held_after o q x.held }

put_so : (code : Code) (s q k : ℕ) (x : Kept) (a : Standing) (o : Outcome) (y : Shared) (d : Option Standing) (t : Turned code (1 + k % s) x.shared a o y d) → left s q k o y d x ≡ put_back q (k % s) (iteration_after code (1 + k % s) t.next x.shared a) x
put_so code s q k x a o y d t =
    let z = iteration_after code (1 + k % s) t.next x.shared a in
    ap (λ (w : Shared). left s q k o w d x) t.shared
    ∙ ap (λ (w : Option Standing). left s q k o z.shared w x) t.standing
    ∙ ap (λ (w : Outcome). left s q k w z.shared (staying w z.standing) x) t.outcome

iteration_shares : (code : Code) (s q k : ℕ) (x : Kept) (a : Standing) (o : Outcome) (y : Shared) (d : Option Standing) (b : Bool) → Runs code s q k a x → (t : Turned code (1 + k % s) x.shared a o y d) → b ≡ went o
    → Shares code s b q x (left s q k o y d x)
iteration_shares code s q k x a o y d true r t e =
    let w : Went (iteration_after code (1 + k % s) t.next x.shared a).outcome = is_went (iteration_after code (1 + k % s) t.next x.shared a).outcome (ap went (sym t.outcome) ∙ sym e) in
    subst (λ (z : Kept). Shares code s true q x z) (sym (put_so code s q k x a o y d t)) (iteration_moves code s q k a x t.next r t.told w)
iteration_shares code s q k x a o y d false r t e =
    let w : Went (iteration_after code (1 + k % s) t.next x.shared a).outcome → ⊥ = isnt_went (iteration_after code (1 + k % s) t.next x.shared a).outcome (ap went (sym t.outcome) ∙ sym e) in (
      put_so code s q k x a o y d t
          ∙ ap (λ (z : After). put_back q (k % s) z x) (idle_iteration code (1 + k % s) t.next x.shared a w)
          ∙ ap (λ (l : List (Option Standing)). record x { iterations = l }) (ap (set x.iterations (k % s)) (sym r.here) ∙ set-get_or x.iterations (k % s) None),
      λ p. iteration_stands code s q k a x t.next p r t.told w,
    )

iteration_core : (code : Code) (s q k : ℕ) (x : Kept) (a : Standing) (o : Outcome) (y : Shared) (d : Option Standing) → IsCore code s x → Runs code s q k a x → Turned code (1 + k % s) x.shared a o y d → IsCore code s (left s q k o y d x)
iteration_core code s q k x a o y d c r t =
    subst (λ (z : Kept). IsCore code s z) (sym (put_so code s q k x a o y d t))
    (keeps_on code s q k a x t.next (view code a.frame) c r t.told (subst (λ (z : Shared). IsKernel z.order) t.shared t.kernel))

-- ---- of activities

pub laid_in : (code : CodeValue) → IsLaid (code_of code)
laid_in code = record { laid = code.laid; distinct = code.distinct }

pub same_point : (old new : Activities) → Stays old new → point_in new ≡ point_of (code_in old).variables old.slots (kept_in new)
same_point old new t =
    ap (λ (c : Code). point_of c.variables new.slots (kept_in new)) t.code_is
    ∙ ap (λ (s : ℕ). point_of (code_in old).variables s (kept_in new)) t.slots

-- activities of which all that is kept is a core's
pub stand_from : (old new : Activities) → AreActivities old → Stays old new → IsCore (code_in old) old.slots (kept_in new) → AreActivities new
stand_from old new a t c = record {
  core = subst (λ (d : Code). IsCore d new.slots (kept_in new)) (sym t.code_is) (subst (λ (s : ℕ). IsCore (code_in old) s (kept_in new)) (sym t.slots) c);
  processors = omega (arith, t.processors, a.processors);
}

pub did_from : (b : Bool) (Step : Point → Point → Type 0) (old new : Activities) → Stays old new → DidOf b Step (λ y. point_of (code_in old).variables old.slots y) (kept_in old) (kept_in new) → Did b Step old new
did_from true Step old new t h = subst (λ (p : Point). Step (point_in old) p) (sym (same_point old new t)) h
did_from false Step old new t h = h

abbrev pub SharedBy : ℕ → Bool → Activities → Activities → Type 0
SharedBy q b old new = Did b (λ p r. Moves (code_in old) old.slots false p q r) old new × AreActivities new

pub main_shared : (q : ℕ) (b : Bool) (y : MainAfter) (old new : Activities) → AreActivities old → old.shared.ended ≡ None → held_of (kept_in old).held q ≡ Some the_main → Led (code_in old) (kept_in old) y → kept_in new ≡ put_main q y (kept_in old) → b ≡ went y.outcome → Stays old new
    → SharedBy q b old new
main_shared q b y old new a g h l e w t = (
  did_from b (λ p r. Moves (code_in old) old.slots false p q r) old new t
      (subst (λ (z : Kept). Shares (code_in old) old.slots b q (kept_in old) z) (sym e) (main_shares (code_in old) old.slots q (kept_in old) l.next b y l a.core (laid_in old.code.now) g h w)),
  stand_from old new a t (subst (λ (z : Kept). IsCore (code_in old) old.slots z) (sym e) (main_core (code_in old) old.slots q (kept_in old) y l a.core (laid_in old.code.now) g h)),
)

pub iteration_shared : (q k : ℕ) (b : Bool) (s : Standing) (o : Outcome) (y : Shared) (d : Option Standing) (old new : Activities) → AreActivities old → Runs (code_in old) old.slots q k s (kept_in old) → Turned (code_in old) (1 + k % old.slots) (kept_in old).shared s o y d
    → kept_in new ≡ left old.slots q k o y d (kept_in old) → b ≡ went o → Stays old new → SharedBy q b old new
iteration_shared q k b s o y d old new a r u e w t = (
  did_from b (λ p z. Moves (code_in old) old.slots false p q z) old new t
      (subst (λ (z : Kept). Shares (code_in old) old.slots b q (kept_in old) z) (sym e) (iteration_shares (code_in old) old.slots q k (kept_in old) s o y d b r u w)),
  stand_from old new a t (subst (λ (z : Kept). IsCore (code_in old) old.slots z) (sym e) (iteration_core (code_in old) old.slots q k (kept_in old) s o y d a.core r u)),
)

-- a step that was done was made, and where none was nothing has changed
pub did_made : (b : Bool) (Step : Point → Point → Type 0) (old new : Activities) → Did b Step old new → b ≡ true → Step (point_in old) (point_in new)
did_made true Step old new d e = d
did_made false Step old new d e = cc

pub did_same : (b : Bool) (Step : Point → Point → Type 0) (old new : Activities) → Did b Step old new → b ≡ false → kept_in new ≡ kept_in old
did_same true Step old new d e = cc
did_same false Step old new d e = d.0

-- ---- results

pub both_ok : {X E : Type 0} (r : Result X E) (P Q : X → Type 0) (K : Type 0) → IfOk r P → OnOk r K → ((x : X) → P x → K → Q x) → IfOk r Q
both_ok (Ok x) P Q K p k f = f x p k
both_ok (Err e) P Q K p k f = tt

-- ---- lists of what is held

abbrev pub holders : List (Option Holder) → List (Option Who)
holders hs = map (λ o. option_map who o) hs

pub let_go : (hs : List (Option Holder)) (q : ℕ) (o : Outcome) → (o ≡ Parks) ⊎ (o ≡ Leaves) → holders (set hs q None) ≡ held_after o q (holders hs)
let_go hs q o (inl e) = map-set (λ u. option_map who u) hs q None ∙ sym (ap (λ p. held_after p q (holders hs)) e)
let_go hs q o (inr e) = map-set (λ u. option_map who u) hs q None ∙ sym (ap (λ p. held_after p q (holders hs)) e)

abbrev pub standings : List (Option Iteration) → List (Option Standing)
standings xs = map (λ o. option_map standing_of o) xs

-- ---- the place of an iteration that is held

-- it is seen there
standing_item : (xs : List (Option Iteration)) (i : ℕ) (z : Option Iteration) (s : Standing) → i < length xs → z ≡ get_or xs i z → get_or (standings xs) i None ≡ Some s → option_map standing_of z ≡ Some s
standing_item xs i z s h e f = ap (λ o. option_map standing_of o) e ∙ sym (get_or-map (λ o. option_map standing_of o) xs i z None h) ∙ f

pub place_in : (k at : ℕ) (old : Activities) → AreActivities old → at ≡ k % old.slots → at < length old.iterations.items
place_in k at old a e = let b : k % old.slots < old.slots = place_below old.slots k a.core.some in omega (arith, b, e, a.core.room, length-map old.iterations.items (λ (o : Option Iteration). option_map standing_of o))

pub at_place : (q k at : ℕ) (z : Option Iteration) (old : Activities) (a : AreActivities old) (h : held_of (kept_in old).held q ≡ Some (iteration k)) → at ≡ k % old.slots → z ≡ get_or old.iterations.items at z → option_map standing_of z ≡ Some (a.core.runs q k h).standing
at_place q k at z old a h e f =
    standing_item old.iterations.items at z (a.core.runs q k h).standing (place_in k at old a e) f
    (ap (λ (i : ℕ). get_or (standings old.iterations.items) i None) e ∙ (a.core.runs q k h).here)

next_slot : (s k at : ℕ) → at ≡ k % s → 1 + k % s ≡ at + 1
next_slot s k at e = omega (arith, e)

pub may_step : (q k at : ℕ) (z : Option Iteration) (old : Activities) → AreActivities old → held_of (kept_in old).held q ≡ Some (iteration k) → at ≡ k % old.slots → z ≡ get_or old.iterations.items at z
    → IfSome (option_map standing_of z) (λ s. May (code_in old) (at + 1) (shared_of old.shared) s)
may_step q k at z old a h e f =
    subst (λ (o : Option Standing). IfSome o (λ s. May (code_in old) (at + 1) (shared_of old.shared) s)) (sym (at_place q k at z old a h e f))
    (subst (λ (n : ℕ). May (code_in old) n (shared_of old.shared) (a.core.runs q k h).standing) (next_slot old.slots k at e) (may_run (code_in old) old.slots q k (kept_in old) a.core h))

pub turned_there : (q k at : ℕ) (z : Option Iteration) (o : Outcome) (y : Shared) (d : Option Standing) (old : Activities) (a : AreActivities old) (h : held_of (kept_in old).held q ≡ Some (iteration k)) → at ≡ k % old.slots → z ≡ get_or old.iterations.items at z
    → IfSome (option_map standing_of z) (λ s. Turned (code_in old) (at + 1) (shared_of old.shared) s o y d) → Turned (code_in old) (1 + k % old.slots) (shared_of old.shared) (a.core.runs q k h).standing o y d
turned_there q k at z o y d old a h e f t =
    subst (λ (n : ℕ). Turned (code_in old) n (shared_of old.shared) (a.core.runs q k h).standing o y d) (sym (next_slot old.slots k at e))
    (subst (λ (u : Option Standing). IfSome u (λ s. Turned (code_in old) (at + 1) (shared_of old.shared) s o y d)) (at_place q k at z old a h e f) t)

-- the same stands there again
pub place_same : (xs : List (Option Iteration)) (i : ℕ) (z p : Option Iteration) → z ≡ get_or xs i z → option_map standing_of p ≡ option_map standing_of z → standings (set xs i p) ≡ standings xs
place_same xs i z p e f = map-set_same (λ o. option_map standing_of o) xs i p z (f ∙ ap (λ o. option_map standing_of o) e)

pub place_put : (xs : List (Option Iteration)) (i j : ℕ) (p : Option Iteration) → i ≡ j → standings (set xs i p) ≡ set (standings xs) j (option_map standing_of p)
place_put xs i j p e = map-set (λ o. option_map standing_of o) xs i p ∙ ap (λ (n : ℕ). set (standings xs) n (option_map standing_of p)) e

pub on_err : {X E : Type 0} (r : Result X E) (P : Type 0) → P → OnErr r P
on_err (Ok x) P h = tt
on_err (Err e) P h = h

pub stays_same : (old new : Activities) → AreActivities old → Stays old new → kept_in new ≡ kept_in old → AreActivities new
stays_same old new a t e = stand_from old new a t (subst (λ (z : Kept). IsCore (code_in old) old.slots z) (sym e) a.core)

-- where memory was refused
pub unchanged : (old : Activities) (at : ℕ) (z p : Option Iteration) (x : SharedValue) → z ≡ get_or old.iterations.items at z → shared_of x ≡ shared_of old.shared → option_map standing_of p ≡ option_map standing_of z
    → kept_in (record old { shared = x; iterations = with_item old.iterations at p }) ≡ kept_in old
unchanged old at z p x e f g =
    ap (λ (w : Shared). record (kept_in old) { shared = w; iterations = standings (set old.iterations.items at p) }) f
    ∙ ap (λ (xs : List (Option Standing)). record (kept_in old) { iterations = xs }) (place_same old.iterations.items at z p e g)

-- what a processor holds
pub held_is : (hs : List (Option Holder)) (q : ℕ) (d o : Option Holder) → q < length hs → o ≡ get_or hs q d → held_of (holders hs) q ≡ option_map who o
unfolding held_of
held_is hs q d o h e = get_or-map (λ u. option_map who u) hs q d None h ∙ sym (ap (λ u. option_map who u) e)

pub idle_stands : (code : Code) (s q : ℕ) (local : Bool) (p b : Point) → p.machine.held q ≡ None → Moves code s local p q b → ⊥
idle_stands code s q local p b e m = let z : None ≡ Some m.who = sym e ∙ m.holds in cc
