-- Steps that are counted, and the frame after local work.
use Rattle.std.proofs.Common.{inl, inr, ◌≡◌, ◌∙◌, ℕ, zero, suc, ◌+◌, ◌<◌, List, [], ◌∷◌, Option, Some, None, refl, sym, ap, subst, arith}
use Rattle.machine.specs.Code.{Code}
use Rattle.machine.specs.Frame.{Frame}
use Rattle.machine.specs.Local.{and_then, local, locals}
use Rattle.machine.specs.Solo.{Still}
use Rattle.machine.specs.State.{Active, Machine, CodeStep, Who, the_main, iteration, Choice, take_main, take_iteration, take_ticket, Turn, Move, MainMove, with_frame}
use Rattle.machine.specs.View.{View, view, trips_of, begin}
use Rattle.machine.specs.declared.code.Open.{Open}
use Rattle.machine.proofs.Views.{local_is_doing}
use Rattle.machine.proofs.Puts.{put_same}
use Rattle.schedules.specs.Schedules.{Act, works, shares, picks_main, picks, takes_ticket, AreEntries, Entry}
use Rattle.schedules.specs.declared.entry.Version.{Version}
use Rattle.schedules.specs.declared.entry.Version.TheVariants.{First, Second}
use Rattle.activities.specs.Activities.{frame_at, frame_held}
use Rattle.activities.specs.Points.{Point, Picks, Works, beginning, frame_in, frame_of}
use Rattle.replay.specs.Replays.{Does}
use Rattle.replay.specs.Tallies.{Again, AreCounts, Tallies, Weighed, steps}
use Rattle.replay.proofs.Parking.{local_still, works_still}
use Rattle.replay.proofs.Running.{picked_step}

-- ---- one step before others

before : (code : Code) (p s q : ℕ) (m n o : Machine) (k made again all twice : ℕ) → q < p → CodeStep code s m q n → Again m n k → all ≡ 1 + made → twice ≡ k + again → Weighed code p s n o made again → Weighed code p s m o all twice
before code p s q m n o k made again all twice h t (inl g) e f w = record {
  turns = q ∷ w.turns;
  run = (n, h, t, w.run);
  weight = 1 + w.weight;
  weighs = (1, w.weight, inl (refl, g.1), w.weighs, refl);
  made_is = omega (arith, e, w.made_is);
  again_is = omega (arith, e, f, g.0, w.again_is);
}
before code p s q m n o k made again all twice h t (inr g) e f w = record {
  turns = q ∷ w.turns;
  run = (n, h, t, w.run);
  weight = 0 + w.weight;
  weighs = (0, w.weight, inr (refl, g.1), w.weighs, refl);
  made_is = omega (arith, e, w.made_is);
  again_is = omega (arith, e, f, g.0, w.again_is);
}

works_before : (code : Code) (p s i q : ℕ) (a b : Point) (o : Machine) (made again all : ℕ) → q < p → Works code s i a q b → all ≡ i + made → Weighed code p s b.machine o made again → Weighed code p s a.machine o all again
works_before code p s zero q a b o made again all h d e w =
    let same : made ≡ all = omega (arith, e) in
    subst (λ (x : Point). Weighed code p s x.machine o all again) (sym d) (subst (λ (n : ℕ). Weighed code p s b.machine o n again) same w)
works_before code p s (suc i) q a b o made again all h d e w =
    before code p s q a.machine d.0.machine o 0 (i + made) again all again h d.1.step (inl (refl, local_still code s a q d.0 d.1)) (omega (arith, e)) (omega arith)
    (works_before code p s i q d.0 b o made again (i + made) h d.2 refl w)

pick_before : (code : Code) (p s q : ℕ) (c : Choice) (a b : Point) (o : Machine) (k made again all twice : ℕ) → q < p → Picks code s c a q b → Again a.machine b.machine k → all ≡ 1 + made → twice ≡ k + again
    → Weighed code p s b.machine o made again → Weighed code p s a.machine o all twice
pick_before code p s q c a b o k made again all twice h d g e f w = before code p s q a.machine b.machine o k made again all twice h (picked_step code s c a q b d) g e f w

-- ---- an entry before others

pub still_none : (m n : Machine) (k : ℕ) → Still m n → Again m n k → k ≡ 0
still_none m n k s (inl g) = g.0
still_none m n k s (inr g) = absurd (g.1 s)

entry_before : (v : Version) (code : Code) (p s : ℕ) (x : Act) (q : ℕ) (a b : Point) (o : Machine) (k made again all twice : ℕ) → q < p → Does v code s x a q b → Again a.machine b.machine k → all ≡ steps x + made → twice ≡ k + again
    → Weighed code p s b.machine o made again → Weighed code p s a.machine o all twice
entry_before v code p s (works i) q a b o k made again all twice h d g e f w =
    let same : again ≡ twice = omega (arith, f, still_none a.machine b.machine k (works_still code s i a q b d) g) in
    subst (λ (n : ℕ). Weighed code p s a.machine o all n) same (works_before code p s i q a b o made again all h d e w)
entry_before First code p s shares q a b o k made again all twice h (inl d) g e f w = before code p s q a.machine b.machine o k made again all twice h d.step g e f w
entry_before First code p s shares q a b o k made again all twice h (inr d) g e f w = pick_before code p s q d.0 a b o k made again all twice h d.2 g e f w
entry_before Second code p s shares q a b o k made again all twice h d g e f w = before code p s q a.machine b.machine o k made again all twice h d.step g e f w
entry_before v code p s picks_main q a b o k made again all twice h d g e f w = pick_before code p s q take_main a b o k made again all twice h d g e f w
entry_before v code p s (picks i) q a b o k made again all twice h d g e f w = pick_before code p s q (take_iteration i) a b o k made again all twice h d g e f w
entry_before v code p s takes_ticket q a b o k made again all twice h d g e f w = pick_before code p s q take_ticket a b o k made again all twice h d g e f w

weighed : (v : Version) (code : Code) (p s : ℕ) (es : List Entry) (a b : Point) (made again : ℕ) → AreEntries v p es → Tallies v code s a es b made again → Weighed code p s a.machine b.machine made again
weighed v code p s [] a b made again h t = record {
  turns = [];
  run = ap (λ (z : Point). z.machine) t.0;
  weight = 0;
  weighs = refl;
  made_is = sym t.1;
  again_is = omega (arith, t.1, t.2);
}
weighed v code p s (e ∷ es) a b made again h t =
    entry_before v code p s e.act e.processor a t.0 b.machine t.3 t.1 t.2 made again h.0.0 t.4 t.5 t.7 t.8 (weighed v code p s es t.0 b t.1 t.2 h.1 t.6)

pub are_counts : AreCounts
are_counts code input x b made again h t = weighed x.version code x.processors x.slots x.entries (beginning code input x.slots) b made again h.1 t

-- ---- the frame after local work

local_frame : (code : Code) (s : ℕ) (u : Who) (m : Machine) (q : ℕ) (n : Machine) (f g : Frame) → m.held q ≡ Some u → frame_of m u ≡ Some f → local code.instructions f ≡ Some g → Turn Frame Open (view code) trips_of (begin code) s (Some u) m q n
    → frame_held n (n.held q) ≡ Some g
local_frame code s the_main m q n f g h e l t =
    let is : m.main ≡ f = (let z : Some m.main ≡ Some f = e in cc) in
    let next : n ≡ record m { main = g } = subst (λ (v : View Frame Open). MainMove trips_of v m q n) (ap (view code) is ∙ (local_is_doing code f g).0 l) t in
    subst (λ (z : Machine). frame_held z (z.held q) ≡ Some g) (sym next) (ap (λ (o : Option Who). frame_held (record m { main = g }) o) h)
local_frame code s (iteration k) m q n f g h e l t =
    let is : t.0.frame ≡ f = (let z : Some t.0.frame ≡ Some f = sym (ap (λ (o : Option (Active Frame)). frame_in o) t.1) ∙ e in cc) in
    let next : n ≡ with_frame m k g t.0.out = subst (λ (v : View Frame Open). Move v t.0 m q k n) (ap (view code) is ∙ (local_is_doing code f g).0 l) t.2 in
    subst (λ (z : Machine). frame_held z (z.held q) ≡ Some g) (sym next)
    (ap (λ (o : Option Who). frame_held (with_frame m k g t.0.out) o) h ∙ ap (λ (o : Option (Active Frame)). frame_in o) (put_same m.iterations k (Some (record { frame = g; out = t.0.out }))))

pub works_frame : (code : Code) (s n : ℕ) (a : Point) (q : ℕ) (b : Point) (f g : Frame) → Works code s n a q b → frame_at q a ≡ Some f → locals code.instructions n f ≡ Some g → frame_at q b ≡ Some g
works_frame code s zero a q b f g w e l = subst (λ (x : Point). frame_at q x ≡ Some g) w (e ∙ l)
works_frame code s (suc n) a q b f g w e l = by (local code.instructions f) refl l (λ h k m. works_frame code s n w.0 q b h g w.2 k m)
  where
    by : (o : Option Frame) → local code.instructions f ≡ o → and_then o (λ h. locals code.instructions n h) ≡ Some g
        → ((h : Frame) → frame_at q w.0 ≡ Some h → locals code.instructions n h ≡ Some g → frame_at q b ≡ Some g) → frame_at q b ≡ Some g
    by None d m further = cc
    by (Some h) d m further =
        let turn = subst (λ (o : Option Who). Turn Frame Open (view code) trips_of (begin code) s o a.machine q w.0.machine) w.1.holds w.1.step.turn in
        let here : frame_of a.machine w.1.who ≡ Some f = sym (ap (λ (o : Option Who). frame_held a.machine o) w.1.holds) ∙ e in
        further h (local_frame code s w.1.who a.machine q w.0.machine f h w.1.holds here d turn) m
