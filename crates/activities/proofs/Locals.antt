-- Local instructions of what a processor holds, one after another.
use Rattle.std.proofs.Common.{◌≡◌, ◌∙◌, ℕ, zero, suc, Bool, true, false, Option, Some, None, refl, sym, ap, subst}
use Rattle.std.specs.Prelude.{is_some, eqb, cond}
use Rattle.machine.specs.Code.{Code}
use Rattle.machine.specs.Frame.{Frame}
use Rattle.machine.specs.Local.{and_then, local, locals}
use Rattle.machine.specs.State.{Active, Machine, MainMove, Move, Turn, Wait, Who, the_main, iteration, put_at}
use Rattle.machine.specs.View.{View, doing, view, trips_of, begin}
use Rattle.machine.specs.declared.code.Open.{Open}
use Rattle.machine.proofs.Views.{local_is_doing}
use Rattle.machine.proofs.Puts.{put_same as put_got}
use Rattle.activities.specs.Points.{Moves, Point, Works, counted, frame_in, frame_of, local_in, moved, slot, view_in, wait_of}
use Rattle.activities.proofs.Maps.{put_same}
use Rattle.activities.proofs.Stepping.{step_of}

-- processor q holds this activity, which has this frame and isn't parked
pub record Stood (p : Point) (q : ℕ) (u : Who) (f : Frame) : Type 0 where
  pub holds : p.machine.held q ≡ Some u
  pub frame : frame_of p.machine u ≡ Some f
  pub running : wait_of p.machine u ≡ None
  pub going : p.machine.ended ≡ None

abbrev pub again : Option (Active Frame) → Frame → Option (Active Frame)
again None g = None
again (Some a) g = Some (record { frame = g; out = a.out })

-- its frame is another
abbrev pub framed : Who → Frame → Machine → Machine
framed the_main g m = record m { main = g }
framed (iteration k) g m = record m { iterations = put_at m.iterations k (again (m.iterations k) g) }

abbrev pub framed_at : Who → Frame → Point → Point
framed_at u g p = record { machine = framed u g p.machine; order = p.order }

put_over : {A : Type 0} (f : ℕ → A) (k : ℕ) (v w : A) → put_at (put_at f k v) k w ≡ put_at f k w
unfolding put_at
put_over f k v w = λ i j. by (eqb j k) j i
  where
    by : (b : Bool) (j : ℕ) → cond b w (cond b v (f j)) ≡ cond b w (f j)
    by true j = refl
    by false j = refl

frame_again : (o : Option (Active Frame)) (f g : Frame) → frame_in o ≡ Some f → frame_in (again o g) ≡ Some g
frame_again None f g e = cc
frame_again (Some a) f g e = refl

again_twice : (o : Option (Active Frame)) (g h : Frame) → again (again o g) h ≡ again o h
again_twice None g h = refl
again_twice (Some a) g h = refl

again_same : (o : Option (Active Frame)) (f : Frame) → frame_in o ≡ Some f → again o f ≡ o
again_same None f e = cc
again_same (Some a) f e = let same : a.frame ≡ f = cc in ap (λ (g : Frame). Some (record { frame = g; out = a.out })) (sym same)

pub framed_frame : (u : Who) (m : Machine) (f g : Frame) → frame_of m u ≡ Some f → frame_of (framed u g m) u ≡ Some g
framed_frame the_main m f g e = refl
framed_frame (iteration k) m f g e = ap frame_in (put_got m.iterations k (again (m.iterations k) g)) ∙ frame_again (m.iterations k) f g e

framed_twice : (u : Who) (m : Machine) (g h : Frame) → framed u h (framed u g m) ≡ framed u h m
framed_twice the_main m g h = refl
framed_twice (iteration k) m g h =
    let o = m.iterations k in
    ap (λ (b : Option (Active Frame)). record m { iterations = put_at (put_at m.iterations k (again o g)) k (again b h) }) (put_got m.iterations k (again o g))
    ∙ ap (λ (b : Option (Active Frame)). record m { iterations = put_at (put_at m.iterations k (again o g)) k b }) (again_twice o g h)
    ∙ ap (λ (i : ℕ → Option (Active Frame)). record m { iterations = i }) (put_over m.iterations k (again o g) (again o h))

framed_same : (u : Who) (m : Machine) (f : Frame) → frame_of m u ≡ Some f → m ≡ framed u f m
framed_same the_main m f e = let same : m.main ≡ f = cc in ap (λ (g : Frame). record m { main = g }) same
framed_same (iteration k) m f e =
    ap (λ (i : ℕ → Option (Active Frame)). record m { iterations = i }) (sym (put_same m.iterations k (again (m.iterations k) f) (sym (again_same (m.iterations k) f e))))

pub stood_on : (u : Who) (p : Point) (q : ℕ) (f g : Frame) → Stood p q u f → Stood (framed_at u g p) q u g
stood_on the_main p q f g s = record { holds = s.holds; frame = refl; running = s.running; going = s.going }
stood_on (iteration k) p q f g s = record { holds = s.holds; frame = framed_frame (iteration k) p.machine f g s.frame; running = s.running; going = s.going }

-- ---- one

turn_of : (code : Code) (s : ℕ) (u : Who) (p : Point) (q : ℕ) (f g : Frame) → frame_of p.machine u ≡ Some f → view code f ≡ doing g → Turn Frame Open (view code) trips_of (begin code) s (Some u) p.machine q (framed u g p.machine)
turn_of code s the_main p q f g e v =
    let same : p.machine.main ≡ f = cc in
    subst (λ (w : View Frame Open). MainMove trips_of w p.machine q (framed the_main g p.machine)) (sym (ap (λ (h : Frame). view code h) same ∙ v)) refl
turn_of code s (iteration k) p q f g e v = by (p.machine.iterations k) refl e
  where
    by : (o : Option (Active Frame)) → p.machine.iterations k ≡ o → frame_in o ≡ Some f → (a : Active Frame) × (p.machine.iterations k ≡ Some a) × Move (view code a.frame) a p.machine q k (framed (iteration k) g p.machine)
    by None h i = cc
    by (Some a) h i =
        let same : a.frame ≡ f = cc in (
          a,
          h,
          subst (λ (w : View Frame Open). Move w a p.machine q k (framed (iteration k) g p.machine)) (sym (ap (λ (j : Frame). view code j) same ∙ v))
              (ap (λ (o : Option (Active Frame)). record p.machine { iterations = put_at p.machine.iterations k (again o g) }) h),
        )

one_made : (code : Code) (s : ℕ) (u : Who) (p : Point) (q : ℕ) (f g : Frame) → Stood p q u f → local code.instructions f ≡ Some g → Moves code s true p q (framed_at u g p)
one_made code s u p q f g t e =
    let v : view code f ≡ doing g = (local_is_doing code f g).0 e in
    record {
      who = u;
      holds = t.holds;
      kind = ap (λ (o : Option Frame). local_in code o) t.frame ∙ ap is_some e;
      step = record {
        going = t.going;
        turn = subst (λ (o : Option Who). Turn Frame Open (view code) trips_of (begin code) s o p.machine q (framed u g p.machine)) (sym t.holds) (turn_of code s u p q f g t.frame v);
      };
      order = sym (
          ap (λ (w : Option Wait). moved w (view_in code (frame_of p.machine u)) (slot s u) p.order) ((stood_on u p q f g t).running)
          ∙ ap (λ (o : Option Frame). counted (view_in code o) p.order) t.frame
          ∙ ap (λ (w : View Frame Open). counted w p.order) v
          );
    }

-- So many are made where they lead to a frame.
pub works_made : (code : Code) (s : ℕ) (u : Who) (p : Point) (q n : ℕ) (f g : Frame) → Stood p q u f → locals code.instructions n f ≡ Some g → Works code s n p q (framed_at u g p)
works_made code s u p q zero f g t e =
    let same : f ≡ g = cc in
    ap (λ (m : Machine). record { machine = m; order = p.order }) (framed_same u p.machine g (t.frame ∙ ap (λ (h : Frame). Some h) same))
works_made code s u p q (suc n) f g t e = by (local code.instructions f) refl e (λ h k j. works_made code s u (framed_at u h p) q n h g k j)
  where
    by : (o : Option Frame) → local code.instructions f ≡ o → and_then o (λ h. locals code.instructions n h) ≡ Some g
        → ((h : Frame) → Stood (framed_at u h p) q u h → locals code.instructions n h ≡ Some g → Works code s n (framed_at u h p) q (framed_at u g (framed_at u h p))) → Works code s (suc n) p q (framed_at u g p)
    by None h i more = cc
    by (Some h) i j more = (
      framed_at u h p,
      one_made code s u p q f h t i,
      subst (λ (m : Machine). Works code s n (framed_at u h p) q (record { machine = m; order = p.order })) (framed_twice u p.machine h g) (more h (stood_on u p q f h t) j),
    )

-- ---- and only there

local_from : (code : Code) (o : Option Frame) (f : Frame) → o ≡ Some f → local_in code o ≡ true → (g : Frame) × (local code.instructions f ≡ Some g)
local_from code o f e h = by (local code.instructions f) refl
  where
    by : (z : Option Frame) → local code.instructions f ≡ z → (g : Frame) × (local code.instructions f ≡ Some g)
    by None i = let z : true ≡ false = sym h ∙ ap (λ (w : Option Frame). local_in code w) e ∙ ap is_some i in cc
    by (Some g) i = (g, i)

turned_to : (code : Code) (s : ℕ) (u : Who) (p : Point) (q : ℕ) (f g : Frame) (m : Machine) → frame_of p.machine u ≡ Some f → view code f ≡ doing g → Turn Frame Open (view code) trips_of (begin code) s (Some u) p.machine q m → m ≡ framed u g p.machine
turned_to code s the_main p q f g m e v t =
    let same : p.machine.main ≡ f = cc in
    subst (λ (w : View Frame Open). MainMove trips_of w p.machine q m) (ap (λ (h : Frame). view code h) same ∙ v) t
turned_to code s (iteration k) p q f g m e v (a, h, i) =
    let same : a.frame ≡ f = (let z : Some a.frame ≡ Some f = sym (ap frame_in h) ∙ e in cc) in
    subst (λ (w : View Frame Open). Move w a p.machine q k m) (ap (λ (j : Frame). view code j) same ∙ v) i
    ∙ sym (ap (λ (o : Option (Active Frame)). record p.machine { iterations = put_at p.machine.iterations k (again o g) }) h)

pub one_only : (code : Code) (s : ℕ) (u : Who) (p b : Point) (q : ℕ) (f : Frame) → Stood p q u f → Moves code s true p q b → (g : Frame) × (local code.instructions f ≡ Some g) × Stood b q u g
one_only code s u p b q f t m =
    let o = step_of code s true p b q u t.holds m in
    let l = local_from code (frame_of p.machine u) f t.frame o.kind in
    let is : b.machine ≡ framed u l.0 p.machine = turned_to code s u p q f l.0 b.machine t.frame ((local_is_doing code f l.0).0 l.1) o.turn in
    let n = stood_on u p q f l.0 t in (
      l.0,
      l.1,
      record {
        holds = ap (λ (z : Machine). z.held q) is ∙ n.holds;
        frame = ap (λ (z : Machine). frame_of z u) is ∙ n.frame;
        running = ap (λ (z : Machine). wait_of z u) is ∙ n.running;
        going = ap (λ (z : Machine). z.ended) is ∙ n.going;
      },
    )

pub works_only : (code : Code) (s : ℕ) (u : Who) (p b : Point) (q n : ℕ) (f : Frame) → Stood p q u f → Works code s n p q b → (g : Frame) × (locals code.instructions n f ≡ Some g)
works_only code s u p b q zero f t w = (f, refl)
works_only code s u p b q (suc n) f t (x, m, w) =
    let o = one_only code s u p x q f t m in
    let r = works_only code s u x b q n o.0 o.2 w in
    (r.0, ap (λ (z : Option Frame). and_then z (λ h. locals code.instructions n h)) o.1 ∙ r.1)
