-- What strides do, in the entries of a schedule to which they were added.
use Rattle.std.proofs.Common.{inl, inr, ◌≡◌, ◌∙◌, ℕ, zero, suc, ◌+◌, ◌-◌, ◌<◌, ◌≤◌, Bool, true, false, List, [], ◌∷◌, ◌++◌, length, Some, refl, sym, ap, subst, arith}
use Rattle.std.proofs.lemmas.List.{length-append}
use Rattle.machine.specs.Code.{Code}
use Rattle.machine.specs.Frame.{Frame}
use Rattle.machine.specs.Solo.{Still}
use Rattle.schedules.specs.Noting.{AllNoted, Notes}
use Rattle.schedules.specs.Schedules.{Entry, IsSchedule, Schedule, shares}
use Rattle.schedules.specs.declared.entry.Version.{Version}
use Rattle.schedules.specs.declared.entry.Version.TheVariants.{Second}
use Rattle.schedules.proofs.Bursts.{burst}
use Rattle.activities.specs.Activities.{AreActivities, Stays, code_in, frame_at, point_in}
use Rattle.activities.specs.Along.{GoesAlong}
use Rattle.activities.specs.Kinds.{IsPath, Makes, kinds}
use Rattle.activities.specs.Points.{Moves, Point, Works, beginning}
use Rattle.activities.specs.declared.holding.Activities.{Activities}
use Rattle.replay.specs.CoreView.{CoreView, point_at}
use Rattle.replay.specs.Replays.{Does, Leads}
use Rattle.replay.specs.Striding.{IsStrode, Left, Strides, steps_in}
use Rattle.replay.specs.Tallies.{Tallies, steps}
use Rattle.replay.specs.Whole.{AreParts, IsWhole, seen_as}
use Rattle.replay.specs.declared.stepped.Tally.{Tally}
use Rattle.replay.proofs.Bursts.{tallies_on}
use Rattle.replay.proofs.Noting.{few_steps, noted_on, same_header, steps_noted}
use Rattle.replay.proofs.Pathways.{kinds_take, path_less}
use Rattle.replay.proofs.Onwards.{point_seen}
use Rattle.replay.proofs.Parking.{works_still}
use Rattle.replay.proofs.Weighing.{still_none}

-- ---- one step

works_more : (code : Code) (s n : ℕ) (a : Point) (q : ℕ) (b c : Point) → Works code s n a q b → Moves code s true b q c → Works code s (suc n) a q c
works_more code s zero a q b c w m = (c, subst (λ (x : Point). Moves code s true x q c) (sym w) m, refl)
works_more code s (suc n) a q b c w m = (w.0, w.1, works_more code s n w.0 q b c w.2 m)

-- an entry of its own
one_entry : (code : Code) (s : ℕ) (e : Entry) (a b : Point) → Does Second code s e.act a e.processor b → Still a.machine b.machine → Tallies Second code s a (e ∷ []) b (steps e.act) 0
one_entry code s e a b d t = (b, 0, 0, 0, d, inl (refl, t), (refl, refl, refl), omega arith, refl)

-- one more in the last entry
last_longer : (code : Code) (s q c : ℕ) (es : List Entry) (start a b : Point) (n k : ℕ) → Tallies Second code s start (es ++ burst q c ∷ []) a n k → Moves code s true a q b → Tallies Second code s start (es ++ burst q (c + 1) ∷ []) b (n + 1) k
last_longer code s q c [] start a b n k t m =
    let more : Works code s (c + 1) start q b =
    subst (λ (i : ℕ). Works code s i start q b) (let e : suc c ≡ c + 1 = omega arith in e) (works_more code s c start q t.0 b t.4 (subst (λ (x : Point). Moves code s true x q b) (sym t.6.0) m)) in
    let none : t.3 ≡ 0 = still_none start.machine t.0.machine t.3 (works_still code s c start q t.0 t.4) t.5 in
    (b, 0, 0, 0, more, inl (refl, works_still code s (c + 1) start q b more), (refl, refl, refl), omega (arith, t.7, t.6.1), omega (arith, t.8, t.6.2, none))
last_longer code s q c (e ∷ es) start a b n k t m = (t.0, t.1 + 1, t.2, t.3, t.4, t.5, last_longer code s q c es t.0 a b t.1 t.2 t.6 m, omega (arith, t.7), t.8)

abbrev Counts : Code → ℕ → Point → Schedule → Point → ℕ → ℕ → Type 0
Counts code s start x b n k = Tallies Second code s start x.entries b n k

one_noted : (code : Code) (s q : ℕ) (l : Bool) (start a b : Point) (x y : Schedule) (n k : ℕ) → Counts code s start x a n k → Moves code s l a q b → Still a.machine b.machine → Notes q l x y → Counts code s start y b (n + 1) k
one_noted code s q false start a b x y n k t m i e =
    subst (λ (z : Schedule). Counts code s start z b (n + 1) k) (sym e)
    (subst (λ (j : ℕ). Tallies Second code s start (x.entries ++ record { processor = q; act = shares } ∷ []) b (n + 1) j) (let z : k + 0 ≡ k = omega arith in z)
    (tallies_on Second code s start a b x.entries (record { processor = q; act = shares } ∷ []) n 1 k 0 t (one_entry code s (record { processor = q; act = shares }) a b m i)))
one_noted code s q true start a b x y n k t m i (inl e) =
    subst (λ (z : Schedule). Counts code s start z b (n + 1) k) (sym e)
    (subst (λ (j : ℕ). Tallies Second code s start (x.entries ++ burst q 1 ∷ []) b (n + 1) j) (let z : k + 0 ≡ k = omega arith in z)
    (tallies_on Second code s start a b x.entries (burst q 1 ∷ []) n 1 k 0 t (one_entry code s (burst q 1) a b (b, m, refl) i)))
one_noted code s q true start a b x y n k t m i (inr l) =
    subst (λ (z : Schedule). Counts code s start z b (n + 1) k) (sym l.is)
    (last_longer code s q l.count l.before.entries start a b n k (subst (λ (z : Schedule). Counts code s start z a n k) l.was t) m)

-- ---- so many

noted : (code : Code) (s q : ℕ) (ks : List Bool) (start a b : Point) (x y : Schedule) (n k : ℕ) → Counts code s start x a n k → Makes code s ks a q b → AllNoted q ks x y → Counts code s start y b (n + length ks) k
noted code s q [] start a b x y n k t m e =
    subst (λ (j : ℕ). Counts code s start y b j k) (let z : n ≡ n + 0 = omega arith in z)
    (subst (λ (z : Schedule). Counts code s start z b n k) e (subst (λ (p : Point). Counts code s start x p n k) m t))
noted code s q (l ∷ ks) start a b x y n k t m h =
    subst (λ (j : ℕ). Counts code s start y b j k) (let z : n + 1 + length ks ≡ n + suc (length ks) = omega arith in z)
    (noted code s q ks start m.0 b h.0 y (n + 1) k (one_noted code s q l start a m.0 x h.0 n k t m.1 m.2 h.1) m.3 h.2)

-- what is counted leads
tallies_lead : (v : Version) (code : Code) (s : ℕ) (es : List Entry) (a b : Point) (n k : ℕ) → Tallies v code s a es b n k → Leads v code s a es b
tallies_lead v code s [] a b n k t = t.0
tallies_lead v code s (e ∷ es) a b n k t = (t.0, t.4, tallies_lead v code s es t.0 b t.1 t.2 t.6)

-- and as many steps as the entries make
pub tallies_count : (v : Version) (code : Code) (s : ℕ) (es : List Entry) (a b : Point) (n k : ℕ) → Tallies v code s a es b n k → n ≡ steps_in es
tallies_count v code s [] a b n k t = t.1
tallies_count v code s (e ∷ es) a b n k t = omega (arith, t.7, tallies_count v code s es t.0 b t.1 t.2 t.6)

-- ---- a core that has them behind its entries

pub whole_strode : (input : List ℕ) (a b : Activities) (x y : Schedule) (t u : Tally) (q made : ℕ) → IsWhole input a x t → AreParts b y u → Stays a b → IsStrode q made a x t b y u → IsWhole input b y u
whole_strode input a b x y t u q made w parts stays did =
    let header = same_header q did.kinds x y did.schedule in
    let one : Counts (code_in a) x.slots (beginning (code_in a) input x.slots) y (point_in b) (t.made + length did.kinds) t.again =
    noted (code_in a) x.slots q did.kinds (beginning (code_in a) input x.slots) (point_in a) (point_in b) x y t.made t.again w.tallies did.step did.schedule in
    let two = subst (λ (s : ℕ). Counts (code_in a) s (beginning (code_in a) input s) y (point_in b) (t.made + length did.kinds) t.again) (sym header.slots) one in
    let three = subst (λ (c : Code). Counts c y.slots (beginning c input y.slots) y (point_in b) (t.made + length did.kinds) t.again) (sym stays.code_is) two in
    let made_is : t.made + length did.kinds ≡ u.made = omega (arith, did.made_is, did.counted) in
    let four = subst (λ (n : ℕ). Counts (code_in b) y.slots (beginning (code_in b) input y.slots) y (point_in b) n t.again) made_is three in
    let five : Counts (code_in b) y.slots (beginning (code_in b) input y.slots) y (point_in b) u.made u.again =
    subst (λ (n : ℕ). Counts (code_in b) y.slots (beginning (code_in b) input y.slots) y (point_in b) u.made n) (sym did.parked) four in
    record {
      parts = parts;
      replays = record {
        leads = subst (λ (v : Version). Leads v (code_in b) y.slots (beginning (code_in b) input y.slots) y.entries (point_in b)) (sym parts.version)
            (tallies_lead Second (code_in b) y.slots y.entries (beginning (code_in b) input y.slots) (point_in b) u.made u.again five);
      };
      tallies = five;
    }

-- ---- what its callers see

pub strides_seen : (input : List ℕ) (a b : Activities) (x y : Schedule) (t u : Tally) (q made : ℕ) → AreParts a x t → AreParts b y u → Stays a b → IsStrode q made a x t b y u → Strides (seen_as input a x) q made (seen_as input b y)
strides_seen input a b x y t u q made h i stays did = record {
  kinds = did.kinds;
  made_is = did.made_is;
  code_is = stays.code_is;
  input_is = refl;
  version = (same_header q did.kinds x y did.schedule).version;
  processors = (same_header q did.kinds x y did.schedule).processors;
  slots = (same_header q did.kinds x y did.schedule).slots;
  schedule = did.schedule;
  step =
      subst (λ (p : Point). Makes (code_in a) x.slots did.kinds (point_at (seen_as input a x)) q p) (point_seen input b y u i)
      (subst (λ (p : Point). Makes (code_in a) x.slots did.kinds p q (point_in b)) (point_seen input a x t h) did.step);
}

pub no_strides : (x : CoreView) (q : ℕ) → Strides x q 0 x
no_strides x q = record { kinds = []; made_is = refl; code_is = refl; input_is = refl; version = refl; processors = refl; slots = refl; schedule = refl; step = refl }

makes_on : (code : Code) (s q : ℕ) (ks ls : List Bool) (a b c : Point) → Makes code s ks a q b → Makes code s ls b q c → Makes code s (ks ++ ls) a q c
makes_on code s q [] ls a b c e m = subst (λ (x : Point). Makes code s ls x q c) (sym e) m
makes_on code s q (k ∷ ks) ls a b c h m = (h.0, h.1, h.2, makes_on code s q ks ls h.0 b c h.3 m)

pub strides_on : (x y z : CoreView) (q m n : ℕ) → Strides x q m y → Strides y q n z → Strides x q (m + n) z
strides_on x y z q m n g h = record {
  kinds = g.kinds ++ h.kinds;
  made_is = omega (arith, length-append g.kinds h.kinds, g.made_is, h.made_is);
  code_is = h.code_is ∙ g.code_is;
  input_is = h.input_is ∙ g.input_is;
  version = h.version ∙ g.version;
  processors = h.processors ∙ g.processors;
  slots = h.slots ∙ g.slots;
  schedule = noted_on q g.kinds h.kinds x.schedule y.schedule z.schedule g.schedule h.schedule;
  step =
      makes_on x.code x.schedule.slots q g.kinds h.kinds (point_at x) (point_at y) (point_at z) g.step
      (subst (λ (s : ℕ). Makes x.code s h.kinds (point_at y) q (point_at z)) g.slots
      (subst (λ (c : Code). Makes c y.schedule.slots h.kinds (point_at y) q (point_at z)) g.code_is h.step));
}

-- ---- steps that were planned, of which the first ones were made

pub strode : (k : Code) (a b : Activities) (x y z : Schedule) (t u : Tally) (q place planned made : ℕ) (f : Frame) → k ≡ code_in a → AreParts a x t → frame_at q (point_in a) ≡ Some f → place ≡ f.place → made ≤ planned → IsPath k.instructions planned place
    → AllNoted q (kinds k.instructions planned place) x z → GoesAlong a q made b → Left planned made z y → u.made ≡ t.made + made → u.again ≡ t.again + 0 → IsStrode q made a x t b y u
strode k a b x y z t u q place planned made f own parts here at few path noted_so goes left counted again =
    let less : IsPath k.instructions made place = path_less k.instructions made planned place few path in
    let path_a : IsPath (code_in a).instructions made f.place = subst (λ (i : ℕ). IsPath (code_in a).instructions made i) at (subst (λ (c : Code). IsPath c.instructions made place) own less) in
    let same : kinds (code_in a).instructions made f.place ≡ kinds k.instructions made place =
    ap (λ (i : ℕ). kinds (code_in a).instructions made i) (sym at) ∙ ap (λ (c : Code). kinds c.instructions made place) (sym own) in
    record {
      kinds = kinds k.instructions made place;
      made_is = less;
      step =
          subst (λ (s : ℕ). Makes (code_in a) s (kinds k.instructions made place) (point_in a) q (point_in b)) parts.are.slots
          (subst (λ (ks : List Bool). Makes (code_in a) a.slots ks (point_in a) q (point_in b)) same (goes f here path_a));
      schedule =
          subst (λ (ks : List Bool). AllNoted q ks x y) (kinds_take k.instructions made planned place few)
          (left x q (kinds k.instructions planned place) path noted_so);
      counted = counted;
      parked = omega (arith, again);
    }

pub strode_parts : (a b : Activities) (x y : Schedule) (t u : Tally) (q made : ℕ) → AreParts a x t → t.made ≡ steps_in x.entries → IsStrode q made a x t b y u → AreActivities b → Stays a b → IsSchedule y → AreParts b y u
strode_parts a b x y t u q made parts counted did stand stays kept =
    let header = same_header q did.kinds x y did.schedule in
    let version : y.version ≡ Second = header.version ∙ parts.version in
    record {
      stand = stand;
      are = record {
        code_is = refl;
        processors = stays.processors ∙ parts.are.processors ∙ sym header.processors;
        slots = stays.slots ∙ parts.are.slots ∙ sym header.slots;
      };
      schedule = kept;
      version = version;
      made = omega (arith, did.counted, counted, did.made_is, steps_noted q did.kinds x y did.schedule, few_steps y version kept.1);
      again = omega (arith, did.parked, parts.again, header.length_is);
    }

-- what holds of a core behind strides
abbrev pub Holds : Code → CoreView → (q n made : ℕ) → CoreView → Type 0
Holds own x q n made y = Strides x q made y × (made ≤ n) × (own ≡ y.code) × (q < y.schedule.processors)

pub holds_first : (own : Code) (x y : CoreView) (q n made : ℕ) → own ≡ x.code → q < x.schedule.processors → made ≤ n → Strides x q made y → Holds own x q n made y
holds_first own x y q n made e l few did = (did, few, e ∙ sym did.code_is, omega (arith, l, did.processors))

pub holds_more : (own : Code) (x y z : CoreView) (q n made more : ℕ) → Holds own x q n made y → more ≤ n - made → Strides y q more z → Holds own x q n (made + more) z
holds_more own x y z q n made more h few did = (
  strides_on x y z q made more h.0 did,
  omega (arith, h.1, few),
  h.2 ∙ sym did.code_is,
  omega (arith, h.3, did.processors),
)
