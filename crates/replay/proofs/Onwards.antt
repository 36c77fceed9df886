-- What a core keeps after a step.
use Rattle.std.proofs.Common.{inl, inr, ◌≡◌, ◌∙◌, ℕ, zero, suc, ◌+◌, ◌<◌, ◌≤◌, true, false, List, [], ◌∷◌, ◌++◌, length, map, get_or, Option, Some, None, refl, sym, ap, subst, arith}
use Rattle.std.specs.Prelude.{Result, Ok, Err, IfOk, ◌%◌, is_some, option_map}
use Rattle.std.specs.declared.alloc.AllocError.{AllocError}
use Rattle.std.proofs.lemmas.Bool.{cases_lt, le-leb}
use Rattle.std.proofs.lemmas.List.{length-map}
use Rattle.ec_kernel.specs.View.{View, first_of, times}
use Rattle.machine.specs.Code.{Code}
use Rattle.machine.specs.Frame.{Frame}
use Rattle.machine.specs.Local.{locals}
use Rattle.machine.specs.State.{Wait, until_count, until_retired, Who, Choice, take_main, take_iteration, take_ticket}
use Rattle.schedules.specs.Schedules.{Entry, Schedule, with_entry}
use Rattle.schedules.specs.declared.entry.Version.{Version}
use Rattle.schedules.specs.declared.entry.Version.TheVariants.{Second}
use Rattle.activities.specs.Activities.{Stays, code_in, frame_at, frame_held, kept_in, point_in, who}
use Rattle.activities.specs.Core.{IsCore}
use Rattle.replay.specs.CoreView.{CoreView, point_at}
use Rattle.activities.specs.Parts.{Kept, Standing, held_of, point_of, standing, wait_in}
use Rattle.activities.specs.Picking.{is_due, main_up, iteration_up}
use Rattle.activities.specs.Points.{Point, ByRule, Moves, Picks, Works, beginning}
use Rattle.replay.specs.Replays.{Does, Replays}
use Rattle.replay.specs.Stepping.{HasEnded, IsFrom, IsStuck, PicksUp, Steps}
use Rattle.replay.specs.Tallies.{Again, Tallies, steps}
use Rattle.activities.specs.Waiting.{Stands}
use Rattle.replay.specs.Whole.{AreParts, Counted, IsSame, IsWhole, seen_as}
use Rattle.activities.specs.declared.holding.Activities.{Activities}
use Rattle.activities.specs.declared.holding.Holder.{Holder}
use Rattle.replay.specs.declared.stepped.Stepped.{Stepped}
use Rattle.replay.specs.declared.stepped.Stepped.TheVariants.{Went, Idle, Ended}
use Rattle.replay.specs.declared.stepped.Tally.{Tally}
use Rattle.replay.proofs.Alone.{point_stays}
use Rattle.activities.proofs.Choosing.{iteration_picked, main_picked, ready_stands}
use Rattle.replay.proofs.Followed.{leads_more}
use Rattle.activities.proofs.Maps.{standing_there}
use Rattle.activities.proofs.Queues.{IsReached, first_ready, ready_reached}
use Rattle.replay.proofs.Recorded.{here}
use Rattle.activities.proofs.Taken.{due_in, due_ready}
use Rattle.replay.proofs.Weighing.{works_frame}

-- ---- one entry more

tallies_more : (v : Version) (code : Code) (s : ℕ) (a b c : Point) (es : List Entry) (e : Entry) (m n k : ℕ) → Tallies v code s a es b m n → Does v code s e.act b e.processor c → Again b.machine c.machine k
    → Tallies v code s a (es ++ e ∷ []) c (m + steps e.act) (n + k)
tallies_more v code s a b c [] e m n k t d g =
    (c, 0, 0, k, subst (λ (x : Point). Does v code s e.act x e.processor c) (sym t.0) d, subst (λ (x : Point). Again x.machine c.machine k) (sym t.0) g, (refl, refl, refl), omega (arith, t.1), omega (arith, t.2))
tallies_more v code s a b c (f ∷ es) e m n k t d g =
    (t.0, t.1 + steps e.act, t.2 + k, t.3, t.4, t.5, tallies_more v code s t.0 b c es e t.1 t.2 k t.6 d g, omega (arith, t.7), omega (arith, t.8))

-- what follows from its schedule
abbrev Follows : List ℕ → Code → Schedule → Point → ℕ → ℕ → Type 0
Follows input k z p made again = Replays k input z p × Tallies Second k z.slots (beginning k input z.slots) z.entries p made again

pub whole_more : (input : List ℕ) (a b : Activities) (x y : Schedule) (t u : Tally) (e : Entry) → IsWhole input a x t → AreParts b y u → Stays a b → Does Second (code_in a) x.slots e.act (point_in a) e.processor (point_in b) → y ≡ with_entry x e → Counted e (point_in a) (point_in b) t u
    → IsWhole input b y u
whole_more input a b x y t u e w parts stays does f counted =
    let led = leads_more x.version (code_in a) x.slots (beginning (code_in a) input x.slots) (point_in a) (point_in b) x.entries e w.replays.leads
    (subst (λ (v : Version). Does v (code_in a) x.slots e.act (point_in a) e.processor (point_in b)) (sym w.parts.version) does) in
    let counts = tallies_more Second (code_in a) x.slots (beginning (code_in a) input x.slots) (point_in a) (point_in b) x.entries e t.made t.again counted.parks w.tallies does counted.counts in
    let one : Follows input (code_in a) (with_entry x e) (point_in b) (t.made + steps e.act) (t.again + counted.parks) = (record { leads = led }, counts) in
    let two = subst (λ (z : Schedule). Follows input (code_in a) z (point_in b) (t.made + steps e.act) (t.again + counted.parks)) (sym f) one in
    let three = subst (λ (k : Code). Follows input k y (point_in b) (t.made + steps e.act) (t.again + counted.parks)) (sym stays.code_is) two in
    let four = subst (λ (m : ℕ). Follows input (code_in b) y (point_in b) m (t.again + counted.parks)) (sym counted.made) three in
    let five = subst (λ (m : ℕ). Follows input (code_in b) y (point_in b) u.made m) (sym counted.again) four in
    record { parts = parts; replays = five.0; tallies = five.1 }

-- ---- nothing has changed

pub whole_same : (input : List ℕ) (a b : Activities) (x y : Schedule) (t u : Tally) → IsWhole input a x t → AreParts b y u → Stays a b → IsSame a x t b y u → IsWhole input b y u
whole_same input a b x y t u w parts stays same =
    let one : Follows input (code_in a) x (point_in a) t.made t.again = (w.replays, w.tallies) in
    let two = subst (λ (p : Point). Follows input (code_in a) x p t.made t.again) (sym (point_stays a b stays same.kept)) one in
    let three = subst (λ (z : Schedule). Follows input (code_in a) z (point_in b) t.made t.again) (sym same.schedule) two in
    let four = subst (λ (k : Code). Follows input k y (point_in b) t.made t.again) (sym stays.code_is) three in
    let five = subst (λ (v : Tally). Follows input (code_in b) y (point_in b) v.made v.again) (sym same.tally) four in
    record { parts = parts; replays = five.0; tallies = five.1 }

pub seen_same : (input : List ℕ) (a b : Activities) (x y : Schedule) (t u : Tally) → Stays a b → IsSame a x t b y u → seen_as input b y ≡ seen_as input a x
seen_same input a b x y t u stays same =
    ap (λ (k : Code). seen k (kept_in b) y) stays.code_is ∙ ap (λ (k : Kept). seen (code_in a) k y) same.kept ∙ ap (λ (z : Schedule). seen (code_in a) (kept_in a) z) same.schedule
  where
    seen : Code → Kept → Schedule → CoreView
    seen k z s = record { code = k; input = input; schedule = s; kept = z }

-- ---- what its callers see

pub point_seen : (input : List ℕ) (a : Activities) (x : Schedule) (t : Tally) → AreParts a x t → point_in a ≡ point_at (seen_as input a x)
point_seen input a x t parts = ap (λ (s : ℕ). point_of (code_in a).variables s (kept_in a)) parts.are.slots

first_seen : (input : List ℕ) (a : Activities) (x : Schedule) (t : Tally) (R : Point → Type 0) → AreParts a x t → R (point_in a) → R (point_at (seen_as input a x))
first_seen input a x t R h r = subst R (point_seen input a x t h) r

-- who holds something and has no shared step is stuck
pub shared_none : (input : List ℕ) (a : Activities) (x : Schedule) (t : Tally) (q : ℕ) (u : Who) → AreParts a x t → held_of (kept_in a).held q ≡ Some u → ((c : Point) → Moves (code_in a) x.slots false (point_in a) q c → ⊥) → IsStuck (seen_as input a x) q
shared_none input a x t q u h holds none = record {
  still = first_seen input a x t (λ p. (c : Point) → Moves (code_in a) x.slots false p q c → ⊥) h none;
  idle = λ c b p. (let z : ◌≡◌ {A = Option Who} None (Some u) = sym p.idle ∙ holds in cc);
}

pub picked_none : (input : List ℕ) (a : Activities) (x : Schedule) (t : Tally) (q : ℕ) (c : Choice) → AreParts a x t → ((d : Point) → Picks (code_in a) x.slots c (point_in a) q d → ⊥)
    → (d : Point) → Picks (code_in a) x.slots c (point_at (seen_as input a x)) q d → ⊥
picked_none input a x t q c h none = first_seen input a x t (λ p. (d : Point) → Picks (code_in a) x.slots c p q d → ⊥) h none

-- ---- the rule

due_of : (x : View) (w : Wait) → IsReached x w → is_due x (Some w) ≡ true
due_of x (until_count e v) h = le-leb v (get_or x.counts e 0) h
due_of x (until_retired v) h = le-leb v (get_or x.counts 0 0) h

-- who is in it can be taken up
front_picked : (code : Code) (s q u : ℕ) (x : Kept) → IsCore code s x → x.shared.ended ≡ None → held_of x.held q ≡ None → q < length x.held → first_of x.shared.order.ready ≡ Some u
    → (c : Choice) × (b : Point) × ByRule s x.shared.order c × Picks code s c (point_of code.variables s x) q b
front_picked code s q zero x c g h l e =
    let r = ready_reached x.shared.order 0 x.waiting c.kernel c.main (first_ready x.shared.order 0 e) in
    (take_main, point_of code.variables s (main_up q x), e, main_picked code s q r.0 x c g h l r.1 (due_of x.shared.order r.0 r.2))
front_picked code s q (suc j) x c g h l e =
    let f : first_of x.shared.order.ready ≡ Some (1 + j) = e ∙ ap (λ (n : ℕ). Some n) (let z : suc j ≡ 1 + j = omega arith in z) in
    let r = ready_stands code s j x c f in
    let here : get_or x.iterations (r.0.number % s) None ≡ Some r.0 = ap (λ (i : ℕ). get_or x.iterations i None) r.4 ∙ r.2 in
    let stands : Stands x.shared.order (1 + j) (Some r.1) = subst (λ (o : Option Wait). Stands x.shared.order (1 + j) o) (ap wait_in r.2 ∙ r.3) (c.each j r.5) in
    let reached = ready_reached x.shared.order (1 + j) (Some r.1) c.kernel stands (first_ready x.shared.order (1 + j) f) in
    let same : r.1 ≡ reached.0 = (let z : Some r.1 ≡ Some reached.0 = reached.1 in cc) in
    let due : is_due x.shared.order (Some r.1) ≡ true = ap (λ (w : Wait). is_due x.shared.order (Some w)) same ∙ due_of x.shared.order reached.0 reached.2 in (
      take_iteration r.0.number,
      point_of code.variables s (iteration_up q (r.0.number % s) r.0 x),
      f ∙ ap (λ (i : ℕ). Some (1 + i)) (sym r.4),
      iteration_picked code s q r.0.number r.1 r.0 x c g h l (omega (arith, r.4, r.5)) here refl r.3 due,
    )

-- a parked iteration stands where the kernel has it
parked_stands : (code : Code) (s k : ℕ) (x : Kept) (w : Wait) → IsCore code s x → wait_in (standing x.iterations s k) ≡ Some w → Stands x.shared.order (1 + k % s) (Some w)
parked_stands code s k x w c e = by (standing x.iterations s k) refl e
  where
    by : (o : Option Standing) → standing x.iterations s k ≡ o → wait_in o ≡ Some w → Stands x.shared.order (1 + k % s) (Some w)
    by None f v = cc
    by (Some a) f v = subst (λ (u : Option Wait). Stands x.shared.order (1 + k % s) u) (ap wait_in (standing_there x.iterations s k a f).0 ∙ v) (c.each (k % s) (omega (arith, c.some)))

-- where anything can be taken up, something is that the rule allows
pub rule_picks : (code : Code) (s q : ℕ) (d : Choice) (x : Kept) (b : Point) → IsCore code s x → q < length x.held → Picks code s d (point_of code.variables s x) q b
    → (c : Choice) × (e : Point) × ByRule s x.shared.order c × Picks code s c (point_of code.variables s x) q e
rule_picks code s q d x b c l p = by x.shared.order.ready refl
  where
    none_due : (slot : ℕ) (w : Wait) → x.shared.order.ready ≡ [] → Stands x.shared.order slot (Some w) → is_due x.shared.order (Some w) ≡ true → ⊥
    none_due slot w e t u = omega (arith, due_ready x.shared.order slot w t u, ap (times slot) e)

    ticket : (d : Choice) → x.shared.order.ready ≡ [] → Picks code s d (point_of code.variables s x) q b → d ≡ take_ticket
    ticket take_main e p =
        let t : Stands x.shared.order 0 (Some p.takes.0) = subst (λ (o : Option Wait). Stands x.shared.order 0 o) p.takes.1 c.main in
        absurd (none_due 0 p.takes.0 e t (due_in code s 0 x p.takes.0 t p.takes.2))
    ticket (take_iteration k) e p =
        let t = parked_stands code s k x p.takes.0 c p.takes.1 in
        absurd (none_due (1 + k % s) p.takes.0 e t (due_in code s (1 + k % s) x p.takes.0 t p.takes.2))
    ticket take_ticket e p = refl

    by : (ready : List ℕ) → x.shared.order.ready ≡ ready → (c : Choice) × (e : Point) × ByRule s x.shared.order c × Picks code s c (point_of code.variables s x) q e
    by [] e = (take_ticket, b, e, subst (λ (f : Choice). Picks code s f (point_of code.variables s x) q b) (ticket d e p) p)
    by (u ∷ us) e = front_picked code s q u x c p.going p.idle l (ap first_of e)

-- nothing can be taken up where the only choice that the rule may allow can't be
none_left : (code : Code) (s q : ℕ) (c : Choice) (x : Kept) → IsCore code s x → q < length x.held → ((d : Choice) (r : ℕ) (b : Point) → ByRule s x.shared.order d → Picks code s d (point_of code.variables s x) r b → d ≡ c)
    → ((b : Point) → Picks code s c (point_of code.variables s x) q b → ⊥) → (d : Choice) (b : Point) → Picks code s d (point_of code.variables s x) q b → ⊥
none_left code s q c x i l only none d b p =
    let r = rule_picks code s q d x b i l p in
    none r.1 (subst (λ (e : Choice). Picks code s e (point_of code.variables s x) q r.1) (only r.0 q r.1 r.2 r.3) r.3)

-- ---- what a processor holds

beyond : (xs : List (Option Who)) (q : ℕ) → length xs ≤ q → get_or xs q None ≡ None
beyond [] q h = refl
beyond (x ∷ xs) zero h = absurd (omega (arith, h))
beyond (x ∷ xs) (suc q) h = beyond xs q (omega (arith, h))

held_beyond : (xs : List (Option Who)) (q : ℕ) → length xs ≤ q → held_of xs q ≡ None
unfolding held_of
held_beyond xs q h = beyond xs q h

-- a processor that isn't there holds nothing
pub none_beyond : (a : Activities) (q : ℕ) (p : Point) → length a.held.items ≤ q → p.machine.held ≡ held_of (kept_in a).held → frame_at q p ≡ None
none_beyond a q p h e =
    let held : p.machine.held q ≡ None = ap (λ (f : ℕ → Option Who). f q) e ∙ held_beyond (kept_in a).held q (omega (arith, h, length-map a.held.items (λ o. option_map who o))) in
    ap (λ (o : Option Who). frame_held p.machine o) held

held_item : (xs : List (Option Holder)) (q : ℕ) (d : Option Holder) → q < length xs → get_or (map (λ o. option_map who o) xs) q None ≡ option_map who (get_or xs q d)
held_item [] q d h = absurd (omega (arith, h))
held_item (x ∷ xs) zero d h = refl
held_item (x ∷ xs) (suc q) d h = held_item xs q d (omega (arith, h))

pub holds : (a : Activities) (q : ℕ) (d o : Option Holder) → q < length a.held.items → get_or a.held.items q d ≡ o → held_of (kept_in a).held q ≡ option_map who o
unfolding held_of
holds a q d o h e = held_item a.held.items q d h ∙ ap (λ (x : Option Holder). option_map who x) e

-- ---- by the rule

by_rule_seen : (input : List ℕ) (a : Activities) (x : Schedule) (t : Tally) (q : ℕ) (c : Choice) (r : Stepped) (Y : CoreView) → AreParts a x t → q < length a.held.items → held_of (kept_in a).held q ≡ None → ByRule a.slots (kept_in a).shared.order c
    → ((d : Choice) (i : ℕ) (b : Point) → ByRule a.slots (kept_in a).shared.order d → Picks (code_in a) a.slots d (point_in a) i b → d ≡ c) → PicksUp (seen_as input a x) q c r Y → Steps (seen_as input a x) q r Y
by_rule_seen input a x t q c (Went o) Y parts l idle rule only p =
    inr (c, subst (λ (s : ℕ). ByRule s (kept_in a).shared.order c) parts.are.slots rule, p)
by_rule_seen input a x t q c Idle Y parts l idle rule only p =
    let only2 : (d : Choice) (i : ℕ) (b : Point) → ByRule x.slots (kept_in a).shared.order d → Picks (code_in a) x.slots d (point_of (code_in a).variables x.slots (kept_in a)) i b → d ≡ c =
    subst (λ (s : ℕ). (d : Choice) (i : ℕ) (b : Point) → ByRule s (kept_in a).shared.order d → Picks (code_in a) s d (point_of (code_in a).variables s (kept_in a)) i b → d ≡ c) parts.are.slots only in
    let core : IsCore (code_in a) x.slots (kept_in a) = subst (λ (s : ℕ). IsCore (code_in a) s (kept_in a)) parts.are.slots parts.stand.core in
    let room : q < length (kept_in a).held = omega (arith, l, length-map a.held.items (λ o. option_map who o)) in (
      p.0,
      p.1,
      λ b. record {
        still = λ d m. (let z : ◌≡◌ {A = Option Who} (Some m.who) None = sym m.holds ∙ idle in cc);
        idle = none_left (code_in a) x.slots q c (kept_in a) core room only2 (p.2 b);
      },
    )
by_rule_seen input a x t q c Ended Y parts l idle rule only p = p

pub by_rule : (input : List ℕ) (a : Activities) (x : Schedule) (t : Tally) (q : ℕ) (c : Choice) (r : Result Stepped AllocError) (X Y : CoreView) → seen_as input a x ≡ X → AreParts a x t → q < length a.held.items → held_of (kept_in a).held q ≡ None
    → ByRule a.slots (kept_in a).shared.order c → ((d : Choice) (i : ℕ) (b : Point) → ByRule a.slots (kept_in a).shared.order d → Picks (code_in a) a.slots d (point_in a) i b → d ≡ c)
    → IfOk r (λ z. PicksUp X q c z Y) → IfOk r (λ z. Steps X q z Y)
by_rule input a x t q c (Ok z) X Y e parts l idle rule only p =
    subst (λ (V : CoreView). Steps V q z Y) e (by_rule_seen input a x t q c z Y parts l idle rule only (subst (λ (V : CoreView). PicksUp V q c z Y) (sym e) p))
by_rule input a x t q c (Err z) X Y e parts l idle rule only p = p

-- ---- the end

pub has_ended : (input : List ℕ) (a : Activities) (x : Schedule) (X : CoreView) → seen_as input a x ≡ X → is_some a.shared.ended ≡ true → HasEnded X
has_ended input a x X e h = subst HasEnded e (here a.shared.ended h)

-- a processor that isn't there holds no frame
pub not_there : (input : List ℕ) (a : Activities) (x : Schedule) (X : CoreView) (q n : ℕ) → seen_as input a x ≡ X → n ≡ length a.held.items → n ≤ q → frame_at q (point_at X) ≡ None
not_there input a x X q n e l h =
    subst (λ (V : CoreView). frame_at q (point_at V) ≡ None) e (none_beyond a q (point_at (seen_as input a x)) (omega (arith, l, h)) refl)

pub is_there : (input : List ℕ) (a : Activities) (x : Schedule) (t : Tally) (X : CoreView) (q : ℕ) (f : Frame) → AreParts a x t → seen_as input a x ≡ X → frame_at q (point_at X) ≡ Some f → q < x.processors
is_there input a x t X q f parts e h =
    elim (cases_lt q x.processors) [
      | inl l ↦ l
      | inr l ↦ (let z : ◌≡◌ {A = Option Frame} None (Some f) = sym (not_there input a x X q (length a.held.items) e refl (omega (arith, l, parts.are.processors))) ∙ h in cc)
    ]

pub stuck_seen : (input : List ℕ) (a : Activities) (x : Schedule) (t : Tally) (X : CoreView) (q : ℕ) (u : Who) → AreParts a x t → seen_as input a x ≡ X → held_of X.kept.held q ≡ Some u → ((c : Point) → Moves (code_in a) x.slots false (point_in a) q c → ⊥) → IsStuck X q
stuck_seen input a x t X q u parts e holds none =
    subst (λ (V : CoreView). IsStuck V q) e (shared_none input a x t q u parts (ap (λ (V : CoreView). held_of V.kept.held q) e ∙ holds) none)

-- ---- local work leads to its frame

pub becomes : (input : List ℕ) (a b : Activities) (x y : Schedule) (t u : Tally) (X : CoreView) (k : Code) (q n : ℕ) (f g : Frame) → seen_as input a x ≡ X → AreParts a x t → AreParts b y u → IsFrom X q k f → Works (code_in a) x.slots n (point_in a) q (point_in b) → locals k.instructions n f ≡ Some g
    → frame_at q (point_at (seen_as input b y)) ≡ Some g
becomes input a b x y t u X k q n f g e h i from w l =
    let here : frame_at q (point_in a) ≡ Some f = ap (λ (p : Point). frame_at q p) (point_seen input a x t h) ∙ ap (λ (V : CoreView). frame_at q (point_at V)) e ∙ from.0 in
    let code : k ≡ code_in a = sym (ap (λ (V : CoreView). V.code) e ∙ from.1) in
    let leads : locals (code_in a).instructions n f ≡ Some g = subst (λ (c : Code). locals c.instructions n f ≡ Some g) code l in
    ap (λ (p : Point). frame_at q p) (sym (point_seen input b y u i)) ∙ works_frame (code_in a) x.slots n (point_in a) q (point_in b) f g w here leads
