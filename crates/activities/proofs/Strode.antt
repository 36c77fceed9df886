-- Strides of what a processor holds are its steps.
use Rattle.std.proofs.Common.{inl, ◌≡◌, ◌∙◌, ℕ, zero, suc, ◌+◌, Bool, true, false, Option, Some, None, refl, sym, ap, subst, arith}
use Rattle.std.specs.Prelude.{◌<◌, eqb, cond, if◌then◌else◌}
use Rattle.ast.specs.Store.{StoreOf}
use Rattle.machine.specs.Code.{Code}
use Rattle.machine.specs.Frame.{Frame}
use Rattle.machine.specs.Local.{and_then}
use Rattle.machine.specs.State.{Active, Machine, MainMove, Move, Turn, Wait, Who, the_main, iteration, put_at, put_cell}
use Rattle.machine.specs.View.{View, awaiting, doing, loading, storing, view, trips_of, begin}
use Rattle.machine.specs.declared.code.Open.{Open}
use Rattle.machine.proofs.Puts.{put_same as put_got}
use Rattle.activities.specs.Activities.{Stays, code_in, point_in}
use Rattle.activities.specs.declared.holding.Activities.{Activities}
use Rattle.activities.specs.Points.{Moves, Point, Steps, counted, frame_in, frame_of, local_in, moved, slot, view_in}
use Rattle.activities.proofs.Locals.{Stood, again}
use Rattle.activities.proofs.Maps.{put_same}
use Rattle.machine.specs.Strides.{Held, Passed, gone_past, stride_past, strides_past}

-- a machine with another frame of an activity, and another store
abbrev pub gone_to : Who → Held → Machine → Machine
gone_to the_main b m = record m { main = b.frame; store = b.store }
gone_to (iteration k) b m = record m { iterations = put_at m.iterations k (again (m.iterations k) b.frame); store = b.store }

abbrev pub gone_at : Who → Held → Point → Point
gone_at u b p = record { machine = gone_to u b p.machine; order = p.order }

abbrev pub held_in : Machine → Frame → Held
held_in m f = record { frame = f; store = m.store }

-- an activity needn't wait at an await; main makes none
abbrev pub Told : Who → Machine → ℕ → ℕ → Type 0
Told the_main m e d = ⊥
Told (iteration k) m e d = k < m.counts e + d

-- nor at any that is passed
abbrev pub AllTold : Passed → Who → Machine → Type 0
AllTold ok u m = (e d : ℕ) → ok e d ≡ true → Told u m e d

-- ---- one

main_turn : (ok : Passed) (v : View Frame Open) (m : Machine) (q : ℕ) (b : Held) → AllTold ok the_main m → gone_past ok v m.store ≡ Some b → MainMove trips_of v m q (gone_to the_main b m)
main_turn ok (doing g) m q b t e = let same : b ≡ record { frame = g; store = m.store } = cc in ap (λ (x : Held). gone_to the_main x m) same
main_turn ok (loading c φ) m q b t e = let same : b ≡ record { frame = φ (m.store c.name c.place); store = m.store } = cc in ap (λ (x : Held). gone_to the_main x m) same
main_turn ok (storing c v g) m q b t e = let same : b ≡ record { frame = g; store = put_cell m.store c v } = cc in ap (λ (x : Held). gone_to the_main x m) same
main_turn ok (awaiting n d g) m q b t e = by (ok n d) refl e
  where
    by : (x : Bool) → ok n d ≡ x → (if x then Some (record { frame = g; store = m.store }) else None) ≡ Some b → MainMove trips_of (awaiting n d g) m q (gone_to the_main b m)
    by true i h = absurd (t n d i)
    by false i h = cc
main_turn ok _ m q b t e = cc

iteration_turn : (ok : Passed) (v : View Frame Open) (m : Machine) (q k : ℕ) (a : Active Frame) (b : Held) → m.iterations k ≡ Some a → AllTold ok (iteration k) m → gone_past ok v m.store ≡ Some b → Move v a m q k (gone_to (iteration k) b m)
iteration_turn ok v m q k a b h t e = by v e
  where
    N : Option (Active Frame) → Held → Machine
    N o x = record m { iterations = put_at m.iterations k (again o x.frame); store = x.store }

    from : (c : Held) → b ≡ c → gone_to (iteration k) b m ≡ N (Some a) c
    from c s = ap (λ (o : Option (Active Frame)). N o b) h ∙ ap (λ (x : Held). N (Some a) x) s

    past : (n d : ℕ) (g : Frame) (x : Bool) → ok n d ≡ x → (if x then Some (record { frame = g; store = m.store }) else None) ≡ Some b → Move (awaiting n d g) a m q k (gone_to (iteration k) b m)
    past n d g true i h = inl (t n d i, from (record { frame = g; store = m.store }) (let same : b ≡ record { frame = g; store = m.store } = cc in same))
    past n d g false i h = cc

    by : (w : View Frame Open) → gone_past ok w m.store ≡ Some b → Move w a m q k (gone_to (iteration k) b m)
    by (doing g) i = from (record { frame = g; store = m.store }) (let same : b ≡ record { frame = g; store = m.store } = cc in same)
    by (loading c φ) i = from (record { frame = φ (m.store c.name c.place); store = m.store }) (let same : b ≡ record { frame = φ (m.store c.name c.place); store = m.store } = cc in same)
    by (storing c z g) i = from (record { frame = g; store = put_cell m.store c z }) (let same : b ≡ record { frame = g; store = put_cell m.store c z } = cc in same)
    by (awaiting n d g) i = past n d g (ok n d) refl i
    by _ i = cc

turn_of : (ok : Passed) (code : Code) (s : ℕ) (u : Who) (p : Point) (q : ℕ) (f : Frame) (b : Held) → AllTold ok u p.machine → frame_of p.machine u ≡ Some f → gone_past ok (view code f) p.machine.store ≡ Some b
    → Turn Frame Open (view code) trips_of (begin code) s (Some u) p.machine q (gone_to u b p.machine)
turn_of ok code s the_main p q f b t e g =
    let same : f ≡ p.machine.main = cc in
    main_turn ok (view code p.machine.main) p.machine q b t (subst (λ (h : Frame). gone_past ok (view code h) p.machine.store ≡ Some b) same g)
turn_of ok code s (iteration k) p q f b t e g = by (p.machine.iterations k) refl e
  where
    by : (o : Option (Active Frame)) → p.machine.iterations k ≡ o → frame_in o ≡ Some f → (a : Active Frame) × (p.machine.iterations k ≡ Some a) × Move (view code a.frame) a p.machine q k (gone_to (iteration k) b p.machine)
    by None h i = cc
    by (Some a) h i =
        let same : f ≡ a.frame = cc in
        (a, h, iteration_turn ok (view code a.frame) p.machine q k a b h t (subst (λ (j : Frame). gone_past ok (view code j) p.machine.store ≡ Some b) same g))

frame_again : (o : Option (Active Frame)) (f g : Frame) → frame_in o ≡ Some f → frame_in (again o g) ≡ Some g
frame_again None f g e = cc
frame_again (Some a) f g e = refl

gone_frame : (u : Who) (m : Machine) (f : Frame) (b : Held) → frame_of m u ≡ Some f → frame_of (gone_to u b m) u ≡ Some b.frame
gone_frame the_main m f b e = refl
gone_frame (iteration k) m f b e = ap frame_in (put_got m.iterations k (again (m.iterations k) b.frame)) ∙ frame_again (m.iterations k) f b.frame e

pub stands_on : (u : Who) (p : Point) (q : ℕ) (f : Frame) (b : Held) → Stood p q u f → Stood (gone_at u b p) q u b.frame
stands_on the_main p q f b s = record { holds = s.holds; frame = refl; running = s.running; going = s.going }
stands_on (iteration k) p q f b s = record { holds = s.holds; frame = gone_frame (iteration k) p.machine f b s.frame; running = s.running; going = s.going }

still : (ok : Passed) (v : View Frame Open) (x : StoreOf) (b : Held) (p : Point) → gone_past ok v x ≡ Some b → counted v p.order ≡ p.order
still ok (doing g) x b p e = refl
still ok (loading c φ) x b p e = refl
still ok (storing c v g) x b p e = refl
still ok (awaiting n d g) x b p e = refl
still ok _ x b p e = cc

-- so does an activity after such a step
pub told_on : (ok : Passed) (u : Who) (b : Held) (m : Machine) → AllTold ok u m → AllTold ok u (gone_to u b m)
told_on ok the_main b m t = t
told_on ok (iteration k) b m t = t

pub one_made : (ok : Passed) (code : Code) (s : ℕ) (u : Who) (p : Point) (q : ℕ) (f : Frame) (b : Held) → AllTold ok u p.machine → Stood p q u f → stride_past ok code (held_in p.machine f) ≡ Some b → Moves code s (local_in code (frame_of p.machine u)) p q (gone_at u b p)
one_made ok code s u p q f b y t e = record {
  who = u;
  holds = t.holds;
  kind = refl;
  step = record {
    going = t.going;
    turn = subst (λ (o : Option Who). Turn Frame Open (view code) trips_of (begin code) s o p.machine q (gone_to u b p.machine)) (sym t.holds) (turn_of ok code s u p q f b y t.frame e);
  };
  order = sym (
      ap (λ (w : Option Wait). moved w (view_in code (frame_of p.machine u)) (slot s u) p.order) ((stands_on u p q f b t).running)
      ∙ ap (λ (o : Option Frame). counted (view_in code o) p.order) t.frame
      ∙ still ok (view code f) p.machine.store b p e
      );
}

-- ---- so many

put_over : {A : Type 0} (f : ℕ → A) (k : ℕ) (v w : A) → put_at (put_at f k v) k w ≡ put_at f k w
unfolding put_at
put_over f k v w = λ i j. by (eqb j k) j i
  where
    by : (b : Bool) (j : ℕ) → cond b w (cond b v (f j)) ≡ cond b w (f j)
    by true j = refl
    by false j = refl

again_twice : (o : Option (Active Frame)) (g h : Frame) → again (again o g) h ≡ again o h
again_twice None g h = refl
again_twice (Some a) g h = refl

again_same : (o : Option (Active Frame)) (f : Frame) → frame_in o ≡ Some f → again o f ≡ o
again_same None f e = cc
again_same (Some a) f e = let same : a.frame ≡ f = cc in ap (λ (g : Frame). Some (record { frame = g; out = a.out })) (sym same)

pub gone_twice : (u : Who) (m : Machine) (b c : Held) → gone_to u c (gone_to u b m) ≡ gone_to u c m
gone_twice the_main m b c = refl
gone_twice (iteration k) m b c =
    let o = m.iterations k in
    ap (λ (z : Option (Active Frame)). record m { iterations = put_at (put_at m.iterations k (again o b.frame)) k (again z c.frame); store = c.store }) (put_got m.iterations k (again o b.frame))
    ∙ ap (λ (z : Option (Active Frame)). record m { iterations = put_at (put_at m.iterations k (again o b.frame)) k z; store = c.store }) (again_twice o b.frame c.frame)
    ∙ ap (λ (i : ℕ → Option (Active Frame)). record m { iterations = i; store = c.store }) (put_over m.iterations k (again o b.frame) (again o c.frame))

pub gone_same : (u : Who) (m : Machine) (f : Frame) → frame_of m u ≡ Some f → m ≡ gone_to u (held_in m f) m
gone_same the_main m f e = let same : m.main ≡ f = cc in ap (λ (g : Frame). record m { main = g }) same
gone_same (iteration k) m f e =
    ap (λ (i : ℕ → Option (Active Frame)). record m { iterations = i }) (sym (put_same m.iterations k (again (m.iterations k) f) (sym (again_same (m.iterations k) f e))))

pub gone_store : (u : Who) (m : Machine) (b : Held) → (gone_to u b m).store ≡ b.store
gone_store the_main m b = refl
gone_store (iteration k) m b = refl

abbrev pub with_store : Frame → StoreOf → Held
with_store h y = record { frame = h; store = y }

-- So many strides of its frame and the store, past awaits at which it needn't wait, are so many steps.
pub strides_made : (ok : Passed) (code : Code) (s : ℕ) (u : Who) (p : Point) (q n : ℕ) (f : Frame) (b : Held) → AllTold ok u p.machine → Stood p q u f → strides_past ok code n (held_in p.machine f) ≡ Some b → Steps code s n p q (gone_at u b p)
strides_made ok code s u p q zero f b y t e =
    let same : held_in p.machine f ≡ b = cc in
    ap (λ (m : Machine). record { machine = m; order = p.order }) (gone_same u p.machine f t.frame ∙ ap (λ (x : Held). gone_to u x p.machine) same)
strides_made ok code s u p q (suc n) f b y t e = by (stride_past ok code (held_in p.machine f)) refl e (λ c d r. strides_made ok code s u (gone_at u c p) q n c.frame b (told_on ok u c p.machine y) d r)
  where
    by : (o : Option Held) → stride_past ok code (held_in p.machine f) ≡ o → and_then o (λ c. strides_past ok code n c) ≡ Some b
        → ((c : Held) → Stood (gone_at u c p) q u c.frame → strides_past ok code n (held_in (gone_to u c p.machine) c.frame) ≡ Some b → Steps code s n (gone_at u c p) q (gone_at u b (gone_at u c p))) → Steps code s (suc n) p q (gone_at u b p)
    by None h i more = cc
    by (Some c) h i more =
        let here : Held = held_in (gone_to u c p.machine) c.frame in
        let same : c ≡ here = ap (λ (x : StoreOf). with_store c.frame x) (sym (gone_store u p.machine c)) in
        let rest : strides_past ok code n here ≡ Some b = subst (λ (x : Held). strides_past ok code n x ≡ Some b) same i in (
          gone_at u c p,
          local_in code (frame_of p.machine u),
          one_made ok code s u p q f c y t h,
          subst (λ (m : Machine). Steps code s n (gone_at u c p) q (record { machine = m; order = p.order })) (gone_twice u p.machine c b) (more c (stands_on u p q f c t) rest),
        )

-- ---- one after another

-- Steps, and further ones behind them.
pub steps_on : (code : Code) (s m n : ℕ) (a : Point) (q : ℕ) (b c : Point) → Steps code s m a q b → Steps code s n b q c → Steps code s (m + n) a q c
steps_on code s zero n a q b c g h =
    let same : n ≡ 0 + n = omega (arith) in
    subst (λ (k : ℕ). Steps code s k a q c) same (subst (λ (x : Point). Steps code s n x q c) (sym g) h)
steps_on code s (suc m) n a q b c g h =
    let same : suc (m + n) ≡ suc m + n = omega (arith) in
    subst (λ (k : ℕ). Steps code s k a q c) same (g.0, g.1, g.2, steps_on code s m n g.0 q b c g.3 h)

-- the same of activities, of which the second steps were made in their state behind the first ones
pub stays_on : (a b c : Activities) → Stays a b → Stays b c → Stays a c
stays_on a b c g h = record {
  code_is = h.code_is ∙ g.code_is;
  processors = h.processors ∙ g.processors;
  slots = h.slots ∙ g.slots;
}

pub made_on : (m n q : ℕ) (a b c : Activities) → Stays a b → Steps (code_in a) a.slots m (point_in a) q (point_in b) → Steps (code_in b) b.slots n (point_in b) q (point_in c) → Steps (code_in a) a.slots (m + n) (point_in a) q (point_in c)
made_on m n q a b c t g h =
    steps_on (code_in a) a.slots m n (point_in a) q (point_in b) (point_in c) g
    (subst (λ (s : ℕ). Steps (code_in a) s n (point_in b) q (point_in c)) t.slots
    (subst (λ (d : Code). Steps d b.slots n (point_in b) q (point_in c)) t.code_is h))

-- one step
pub one_step : (code : Code) (s : ℕ) (local : Bool) (a : Point) (q : ℕ) (b : Point) → Moves code s local a q b → Steps code s 1 a q b
one_step code s local a q b h = (b, local, h, refl)
