-- What local work does in as many entries as it takes.
use Rattle.std.proofs.Common.{inl, ◌≡◌, ◌∙◌, ℕ, zero, suc, ◌+◌, true, false, List, [], ◌∷◌, ◌++◌, Option, None, refl, sym, ap, subst, arith}
use Rattle.std.proofs.lemmas.List.{append-nil}
use Rattle.std.specs.Prelude.{◌*◌, ◌/◌, ◌%◌, Some, is_some, replicate}
use Rattle.ast.specs.declared.fault.End.{End}
use Rattle.machine.specs.Code.{Code}
use Rattle.machine.specs.Frame.{Frame}
use Rattle.machine.specs.Local.{locals}
use Rattle.machine.specs.State.{Who}
use Rattle.schedules.specs.Schedules.{Entry, Schedule, bursts, last_burst, longest_burst, with_entries}
use Rattle.schedules.specs.declared.entry.Version.{Version}
use Rattle.schedules.specs.declared.entry.Version.TheVariants.{Second}
use Rattle.schedules.proofs.Bursts.{burst}
use Rattle.activities.specs.Activities.{Stays, code_in, frame_at, frame_held, point_in}
use Rattle.activities.specs.Points.{NoLocal, Point, Works, beginning, frame_of, local_in}
use Rattle.replay.specs.CoreView.{CoreView}
use Rattle.replay.specs.Replays.{Leads, Replays}
use Rattle.replay.specs.Stepping.{IsDone, Labours}
use Rattle.replay.specs.Tallies.{Tallies}
use Rattle.replay.specs.Whole.{AreParts, IsWhole, IsWorked, seen_as}
use Rattle.activities.specs.declared.holding.Activities.{Activities}
use Rattle.replay.specs.declared.stepped.Tally.{Tally}
use Rattle.replay.proofs.Onwards.{point_seen}
use Rattle.replay.proofs.Parking.{works_still}
use Rattle.replay.proofs.Recorded.{here}

-- so many times a number
abbrev times : ℕ → ℕ → ℕ
times zero l = 0
times (suc k) l = l + times k l

times_longest : (k : ℕ) → times k longest_burst ≡ k * longest_burst
times_longest zero = refl
times_longest (suc k) = omega (arith, times_longest k)

-- so many instructions are made in two parts
works_parts : (code : Code) (s m n k : ℕ) (a : Point) (q : ℕ) (b : Point) → k ≡ m + n → Works code s k a q b → (x : Point) × Works code s m a q x × Works code s n x q b
works_parts code s zero n k a q b e w = (a, refl, subst (λ (i : ℕ). Works code s i a q b) (let z : k ≡ n = omega (arith, e) in z) w)
works_parts code s (suc m) n zero a q b e w = absurd (omega (arith, e))
works_parts code s (suc m) n (suc k) a q b e w =
    let r = works_parts code s m n k w.0 q b (omega (arith, e)) w.2 in
    (r.0, (w.0, w.1, r.1), r.2)

-- entries lead so far, by so many local instructions
abbrev Does : Code → ℕ → Point → List Entry → Point → ℕ → Type 0
Does code s a es b n = Leads Second code s a es b × Tallies Second code s a es b n 0

repeated_do : (code : Code) (s k l n m : ℕ) (a : Point) (q : ℕ) (b : Point) → m ≡ times k l + n → Works code s m a q b → (x : Point) × Does code s a (replicate k (burst q l)) x (times k l) × Works code s n x q b
repeated_do code s zero l n m a q b e w = (a, (refl, (refl, refl, refl)), subst (λ (i : ℕ). Works code s i a q b) (let z : m ≡ n = omega (arith, e) in z) w)
repeated_do code s (suc k) l n m a q b e w =
    let one = works_parts code s l (times k l + n) m a q b (omega (arith, e)) w in
    let more = repeated_do code s k l n (times k l + n) one.0 q b refl one.2 in (
      more.0,
      ((one.0, one.1, more.1.0), (one.0, times k l, 0, 0, one.1, inl (refl, works_still code s l a q one.0 one.1), more.1.1, refl, refl)),
      more.2,
    )

last_does : (code : Code) (s n : ℕ) (a : Point) (q : ℕ) (b : Point) → Works code s n a q b → Does code s a (last_burst q n) b n
last_does code s zero a q b w = (w, (w, refl, refl))
last_does code s (suc n) a q b w = ((b, w, refl), (b, 0, 0, 0, w, inl (refl, works_still code s (suc n) a q b w), (refl, refl, refl), omega arith, refl))

leads_on : (v : Version) (code : Code) (s : ℕ) (a b c : Point) (es fs : List Entry) → Leads v code s a es b → Leads v code s b fs c → Leads v code s a (es ++ fs) c
leads_on v code s a b c [] fs l k = subst (λ (x : Point). Leads v code s x fs c) (sym l) k
leads_on v code s a b c (e ∷ es) fs l k = (l.0, l.1, leads_on v code s l.0 b c es fs l.2 k)

pub tallies_on : (v : Version) (code : Code) (s : ℕ) (a b c : Point) (es fs : List Entry) (m n i j : ℕ) → Tallies v code s a es b m i → Tallies v code s b fs c n j → Tallies v code s a (es ++ fs) c (m + n) (i + j)
tallies_on v code s a b c [] fs m n i j t u =
    let start = subst (λ (x : Point). Tallies v code s x fs c n j) (sym t.0) u in
    subst (λ (k : ℕ). Tallies v code s a fs c k (i + j)) (let z : n ≡ m + n = omega (arith, t.1) in z)
    (subst (λ (k : ℕ). Tallies v code s a fs c n k) (let z : j ≡ i + j = omega (arith, t.2) in z) start)
tallies_on v code s a b c (e ∷ es) fs m n i j t u =
    (t.0, t.1 + n, t.2 + j, t.3, t.4, t.5, tallies_on v code s t.0 b c es fs t.1 n t.2 j t.6 u, omega (arith, t.7), omega (arith, t.8))

pub bursts_do : (code : Code) (s n : ℕ) (a : Point) (q : ℕ) (b : Point) → Works code s n a q b → Does code s a (bursts q n) b n
bursts_do code s n a q b w =
    let all = replicate (n / longest_burst) (burst q longest_burst) in
    let left = n % longest_burst in
    let first = repeated_do code s (n / longest_burst) longest_burst left n a q b (omega (arith, times_longest (n / longest_burst))) w in
    let last = last_does code s left first.0 q b first.2 in
    let count : times (n / longest_burst) longest_burst + left ≡ n = omega (arith, times_longest (n / longest_burst)) in (
      leads_on Second code s a first.0 b all (last_burst q left) first.1.0 last.0,
      subst (λ (k : ℕ). Tallies Second code s a (bursts q n) b k 0) count
          (tallies_on Second code s a first.0 b all (last_burst q left) (times (n / longest_burst) longest_burst) left 0 0 first.1.1 last.1),
    )

-- ---- a core that has them behind its entries

-- what follows from its schedule
abbrev Follows : List ℕ → Code → Schedule → Point → ℕ → ℕ → Type 0
Follows input k z p made again = Replays k input z p × Tallies Second k z.slots (beginning k input z.slots) z.entries p made again

pub whole_worked : (input : List ℕ) (a b : Activities) (x y : Schedule) (t u : Tally) (q made : ℕ) → IsWhole input a x t → AreParts b y u → Stays a b → IsWorked q made a x t b y u → IsWhole input b y u
whole_worked input a b x y t u q made w parts stays did =
    let more = bursts_do (code_in a) x.slots made (point_in a) q (point_in b) did.step in
    let start = beginning (code_in a) input x.slots in
    let led = leads_on x.version (code_in a) x.slots start (point_in a) (point_in b) x.entries (bursts q made) w.replays.leads
    (subst (λ (v : Version). Leads v (code_in a) x.slots (point_in a) (bursts q made) (point_in b)) (sym w.parts.version) more.0) in
    let counts = tallies_on Second (code_in a) x.slots start (point_in a) (point_in b) x.entries (bursts q made) t.made made t.again 0 w.tallies more.1 in
    let one : Follows input (code_in a) (with_entries x (bursts q made)) (point_in b) (t.made + made) (t.again + 0) = (record { leads = led }, counts) in
    let two = subst (λ (z : Schedule). Follows input (code_in a) z (point_in b) (t.made + made) (t.again + 0)) (sym did.schedule) one in
    let three = subst (λ (k : Code). Follows input k y (point_in b) (t.made + made) (t.again + 0)) (sym stays.code_is) two in
    let four = subst (λ (m : ℕ). Follows input (code_in b) y (point_in b) m (t.again + 0)) (sym did.counted) three in
    let five = subst (λ (m : ℕ). Follows input (code_in b) y (point_in b) u.made m) (let z : t.again + 0 ≡ u.again = omega (arith, did.parked) in z) four in
    record { parts = parts; replays = five.0; tallies = five.1 }

pub put_worked : (a b : Activities) (x y : Schedule) (t u : Tally) (q made : ℕ) (to : Frame) → AreParts a x t → is_some (frame_at q (point_in a)) ≡ true
    → ((from : Frame) → frame_at q (point_in a) ≡ Some from → locals (code_in a).instructions made from ≡ Some to)
    → ((n : ℕ) (from : Frame) → frame_at q (point_in a) ≡ Some from → locals (code_in a).instructions n from ≡ Some to → Works (code_in a) a.slots n (point_in a) q (point_in b))
    → y ≡ with_entries x (bursts q made) → u.made ≡ t.made + made → u.again ≡ t.again + 0 → IsWorked q made a x t b y u
put_worked a b x y t u q made to parts holds leads does e n m =
    let f = here (frame_at q (point_in a)) holds in
    record {
      step = subst (λ (s : ℕ). Works (code_in a) s made (point_in a) q (point_in b)) parts.are.slots (does made f.0 f.1 (leads f.0 f.1));
      schedule = e;
      counted = n;
      parked = omega (arith, m);
    }

-- ---- made in place

pub labour_worked : (a b : Activities) (x y : Schedule) (t u : Tally) (q made : ℕ) → AreParts a x t → Works (code_in a) a.slots made (point_in a) q (point_in b) → y ≡ with_entries x (bursts q made)
    → u.made ≡ t.made + made → u.again ≡ t.again + 0 → IsWorked q made a x t b y u
labour_worked a b x y t u q made parts does e n m = record {
  step = subst (λ (s : ℕ). Works (code_in a) s made (point_in a) q (point_in b)) parts.are.slots does;
  schedule = e;
  counted = n;
  parked = omega (arith, m);
}

-- ---- where none is made

pub none_local : (code : Code) (s q : ℕ) (p : Point) → frame_at q p ≡ None → NoLocal code s p q
none_local code s q p e b m =
    let frame : frame_of p.machine m.who ≡ None = sym (ap (λ (o : Option Who). frame_held p.machine o) m.holds) ∙ e in
    let z : false ≡ true = sym (ap (λ (o : Option Frame). local_in code o) frame) ∙ m.kind in
    cc

pub none_ended : (code : Code) (s q : ℕ) (p : Point) (e : End) → p.machine.ended ≡ Some e → NoLocal code s p q
none_ended code s q p e h b m = let z : ◌≡◌ {A = Option End} None (Some e) = sym m.step.going ∙ h in cc

-- no entry is added for none
pub none_added : (x : CoreView) (q : ℕ) → Labours x q 0 x
none_added x q = record {
  after = record { code_is = refl; input_is = refl; schedule = ap (λ (es : List Entry). record x.schedule { entries = es }) (sym (append-nil x.schedule.entries)) };
  step = refl;
}

-- none is left, as its callers see it
pub none_seen : (input : List ℕ) (a b : Activities) (x y : Schedule) (t u : Tally) (q made : ℕ) → AreParts b y u → Stays a b → IsWorked q made a x t b y u → NoLocal (code_in a) x.slots (point_in b) q → IsDone (seen_as input b y) q
none_seen input a b x y t u q made parts stays did none =
    let one = subst (λ (k : Code). NoLocal k x.slots (point_in b) q) (sym stays.code_is) none in
    let two = subst (λ (z : Schedule). NoLocal (code_in b) z.slots (point_in b) q) (sym did.schedule) one in
    subst (λ (p : Point). NoLocal (code_in b) y.slots p q) (point_seen input b y u parts) two
