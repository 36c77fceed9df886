-- Every run is the replay of a schedule.
use Rattle.std.proofs.Common.{inl, inr, ◌≡◌, ◌∙◌, ◌⊎◌, ℕ, zero, suc, ◌+◌, ◌<◌, ◌≤◌, ◌^◌, Bool, true, false, List, [], ◌∷◌, length, Option, Some, None, refl, sym, ap, subst, arith}
use Rattle.std.specs.Prelude.{eqb}
use Rattle.std.proofs.lemmas.Bool.{eqb-true}
use Rattle.machine.specs.Code.{Code}
use Rattle.machine.specs.Frame.{Frame}
use Rattle.machine.specs.State.{Active, Machine, CodeRun, CodeStep, Init, Wait, Who, the_main, iteration, Choice, take_main, take_iteration, take_ticket, Takes, Turn, Move, MainMove, put_at}
use Rattle.machine.specs.View.{View, doing, loading, storing, printing, reading, awaiting, advancing, opening, joining, leaving, breaking, halting, stuck, view, trips_of, begin}
use Rattle.machine.specs.declared.code.Open.{Open}
use Rattle.schedules.specs.Schedules.{Act, works, shares, picks_main, picks, takes_ticket, Entry, AreEntries, IsAct}
use Rattle.schedules.specs.declared.entry.Version.{Version}
use Rattle.schedules.specs.declared.entry.Version.TheVariants.{First, Second}
use Rattle.activities.specs.Points.{Point, slot, frame_of, wait_of, view_in, local_in, moved, taken, Picks, Works, beginning}
use Rattle.replay.specs.Replays.{Does, Leads, EveryRun, IsRun}

-- ---- the numbers of iterations are below how many steps were made

pub record Below (n : ℕ) (m : Machine) : Type 0 where
  pub parked : (k : ℕ) (w : Wait) → m.parked k ≡ Some w → k < n
  pub held : (q k : ℕ) → m.held q ≡ Some (iteration k) → k < n
  pub ticket : m.ticket ≤ n

put_cases : {A : Type 0} (f : ℕ → Option A) (k i : ℕ) (v : Option A) (y : A) → put_at f k v i ≡ Some y → ((i ≡ k) × (v ≡ Some y)) ⊎ (f i ≡ Some y)
unfolding put_at
put_cases f k i v y h = by (eqb i k) refl
  where
    by : (b : Bool) → eqb i k ≡ b → ((i ≡ k) × (v ≡ Some y)) ⊎ (f i ≡ Some y)
    by true e = inl (eqb-true i k e, rw e at h)
    by false e = inr (rw e at h)

-- a step that changes none of them
same_below : (n : ℕ) (a b : Machine) → b.parked ≡ a.parked → b.held ≡ a.held → b.ticket ≤ a.ticket → Below n a → Below (n + 1) b
same_below n a b p h t l = record {
  parked = λ k w e. omega (arith, l.parked k w (sym (ap (λ (f : ℕ → Option Wait). f k) p) ∙ e));
  held = λ q k e. omega (arith, l.held q k (sym (ap (λ (f : ℕ → Option Who). f q) h) ∙ e));
  ticket = omega (arith, l.ticket);
}

-- a step after which a processor is idle
idle_below : (n q : ℕ) (a b : Machine) → b.parked ≡ a.parked → b.held ≡ put_at a.held q None → b.ticket ≡ a.ticket → Below n a → Below (n + 1) b
idle_below n q a b p h t l = record {
  parked = λ k w e. omega (arith, l.parked k w (sym (ap (λ (f : ℕ → Option Wait). f k) p) ∙ e));
  held = λ r k e. elim (put_cases a.held q r None (iteration k) (sym (ap (λ (f : ℕ → Option Who). f r) h) ∙ e)) [
    | inl x ↦ (let z : None ≡ Some (iteration k) = x.1 in cc)
    | inr x ↦ omega (arith, l.held r k x)
  ];
  ticket = omega (arith, l.ticket);
}

-- an iteration is parked
parks_below : (n q k : ℕ) (w : Wait) (a b : Machine) → a.held q ≡ Some (iteration k) → b.parked ≡ put_at a.parked k (Some w) → b.held ≡ put_at a.held q None → b.ticket ≡ a.ticket → Below n a → Below (n + 1) b
parks_below n q k w a b u p h t l = record {
  parked = λ j v e. elim (put_cases a.parked k j (Some w) v (sym (ap (λ (f : ℕ → Option Wait). f j) p) ∙ e)) [
    | inl x ↦ omega (arith, l.held q k u, x.0)
    | inr x ↦ omega (arith, l.parked j v x)
  ];
  held = λ r j e. elim (put_cases a.held q r None (iteration j) (sym (ap (λ (f : ℕ → Option Who). f r) h) ∙ e)) [
    | inl x ↦ (let z : None ≡ Some (iteration j) = x.1 in cc)
    | inr x ↦ omega (arith, l.held r j x)
  ];
  ticket = omega (arith, l.ticket);
}

-- somebody is taken up
takes_below : (n q : ℕ) (u : Who) (a b : Machine) → ((k : ℕ) → u ≡ iteration k → k ≤ n) → ((k : ℕ) (w : Wait) → b.parked k ≡ Some w → a.parked k ≡ Some w) → b.held ≡ put_at a.held q (Some u) → b.ticket ≤ n + 1 → Below n a → Below (n + 1) b
takes_below n q u a b few p h t l = record {
  parked = λ k w e. omega (arith, l.parked k w (p k w e));
  held = λ r k e. elim (put_cases a.held q r (Some u) (iteration k) (sym (ap (λ (f : ℕ → Option Who). f r) h) ∙ e)) [
    | inl x ↦ (let z : u ≡ iteration k = cc (x.1) in omega (arith, few k z))
    | inr x ↦ omega (arith, l.held r k x)
  ];
  ticket = t;
}

same : (n : ℕ) (a b r : Machine) → b ≡ r → r.parked ≡ a.parked → r.held ≡ a.held → r.ticket ≤ a.ticket → Below n a → Below (n + 1) b
same n a b r e p h t l = subst (λ (z : Machine). Below (n + 1) z) (sym e) (same_below n a r p h t l)

gone : (n q : ℕ) (a b r : Machine) → b ≡ r → r.parked ≡ a.parked → r.held ≡ put_at a.held q None → r.ticket ≡ a.ticket → Below n a → Below (n + 1) b
gone n q a b r e p h t l = subst (λ (z : Machine). Below (n + 1) z) (sym e) (idle_below n q a r p h t l)

parked_now : (n q k : ℕ) (w : Wait) (a b r : Machine) → b ≡ r → a.held q ≡ Some (iteration k) → r.parked ≡ put_at a.parked k (Some w) → r.held ≡ put_at a.held q None → r.ticket ≡ a.ticket → Below n a → Below (n + 1) b
parked_now n q k w a b r e u p h t l = subst (λ (z : Machine). Below (n + 1) z) (sym e) (parks_below n q k w a r u p h t l)

iteration_below : (v : View Frame Open) (x : Active Frame) (n q k : ℕ) (a b : Machine) → a.held q ≡ Some (iteration k) → Below n a → Move v x a q k b → Below (n + 1) b
iteration_below (doing g) x n q k a b u l h = same n a b _ h refl refl (omega arith) l
iteration_below (loading c φ) x n q k a b u l h = same n a b _ h refl refl (omega arith) l
iteration_below (storing c v g) x n q k a b u l h = same n a b _ h refl refl (omega arith) l
iteration_below (printing bytes g) x n q k a b u l h = same n a b _ h refl refl (omega arith) l
iteration_below (awaiting e d g) x n q k a b u l (inl h) = same n a b _ h.1 refl refl (omega arith) l
iteration_below (awaiting e d g) x n q k a b u l (inr h) = parked_now n q k _ a b _ h.1 u refl refl refl l
iteration_below (advancing e g) x n q k a b u l h = same n a b _ h.1 refl refl (omega arith) l
iteration_below (leaving xs) x n q k a b u l (inl h) = gone n q a b _ h.1 refl refl refl l
iteration_below (leaving xs) x n q k a b u l (inr h) = parked_now n q k _ a b _ h.1 u refl refl refl l
iteration_below (breaking c) x n q k a b u l (inl h) = same n a b _ h.1 refl refl (omega arith) l
iteration_below (breaking c) x n q k a b u l (inr h) = parked_now n q k _ a b _ h.1 u refl refl refl l
iteration_below (reading ρ φ) x n q k a b u l h = absurd h
iteration_below (opening o g) x n q k a b u l h = absurd h
iteration_below (joining ρ φ) x n q k a b u l h = absurd h
iteration_below halting x n q k a b u l h = absurd h
iteration_below stuck x n q k a b u l h = absurd h

main_below : (v : View Frame Open) (n q : ℕ) (a b : Machine) → Below n a → MainMove trips_of v a q b → Below (n + 1) b
main_below (doing g) n q a b l h = same n a b _ h refl refl (omega arith) l
main_below (loading c φ) n q a b l h = same n a b _ h refl refl (omega arith) l
main_below (storing c v g) n q a b l h = same n a b _ h refl refl (omega arith) l
main_below (printing bytes g) n q a b l h = same n a b _ h refl refl (omega arith) l
main_below (reading ρ φ) n q a b l h = same n a b _ h refl refl (omega arith) l
main_below (opening o g) n q a b l h = same n a b _ h.1 refl refl (omega arith) l
main_below (joining ρ φ) n q a b l h = elim h.2 [
  | inl e ↦ same n a b _ e.1 refl refl (omega arith) l
  | inr e ↦ gone n q a b _ e.1 refl refl refl l
]
main_below (breaking c) n q a b l h = same n a b _ h refl refl (omega arith) l
main_below halting n q a b l h = same n a b _ h refl refl (omega arith) l
main_below (awaiting e d g) n q a b l h = absurd h
main_below (advancing e g) n q a b l h = absurd h
main_below (leaving xs) n q a b l h = absurd h
main_below stuck n q a b l h = absurd h

choice_below : (code : Code) (s : ℕ) (c : Choice) (n q : ℕ) (a b : Machine) → Below n a → Takes Frame Open (view code) trips_of (begin code) s c a q b → Below (n + 1) b
choice_below code s take_main n q a b l h =
    subst (λ (z : Machine). Below (n + 1) z) (sym h.3) (takes_below n q the_main a _ (λ k e. let z : the_main ≡ iteration k = e in cc) (λ k w e. e) refl (omega (arith, l.ticket)) l)
choice_below code s (take_iteration k) n q a b l h =
    subst (λ (z : Machine). Below (n + 1) z) (sym h.3) (takes_below n q (iteration k) a _
    (λ j e. let z : k ≡ j = cc in omega (arith, l.parked k h.0 h.1, z))
    (λ j w e. elim (put_cases a.parked k j None w e) [
      | inl x ↦ (let z : None ≡ Some w = x.1 in cc)
      | inr x ↦ x
    ])
    refl (omega (arith, l.ticket)) l)
choice_below code s take_ticket n q a b l h =
    subst (λ (z : Machine). Below (n + 1) z) (sym h.4) (takes_below n q (iteration a.ticket) a _ (λ j e. let z : a.ticket ≡ j = cc in omega (arith, l.ticket, z)) (λ k w e. e) refl (omega (arith, l.ticket)) l)

-- ---- each step is an entry

-- an entry that leads from a point to one of this machine
record Entered (code : Code) (s n : ℕ) (a : Point) (q : ℕ) (m : Machine) : Type 0 where
  pub act : Act
  pub point : Point
  pub is : point.machine ≡ m
  pub does : Does Second code s act a q point
  pub below : Below (n + 1) m
  pub allowed : n ≤ 2 ^ 128 → IsAct Second act

by_choice : (code : Code) (s n : ℕ) (c : Choice) (a : Point) (q : ℕ) (m : Machine) → Below n a.machine → a.machine.ended ≡ None → a.machine.held q ≡ None → Takes Frame Open (view code) trips_of (begin code) s c a.machine q m → Entered code s n a q m
by_choice code s n take_main a q m l g h t = record {
  act = picks_main;
  point = record { machine = m; order = taken s take_main a.order };
  is = refl;
  does = record { going = g; idle = h; takes = t; order = refl };
  below = choice_below code s take_main n q a.machine m l t;
  allowed = λ f. tt;
}
by_choice code s n (take_iteration k) a q m l g h t = record {
  act = picks k;
  point = record { machine = m; order = taken s (take_iteration k) a.order };
  is = refl;
  does = record { going = g; idle = h; takes = t; order = refl };
  below = choice_below code s (take_iteration k) n q a.machine m l t;
  allowed = λ f. omega (arith, f, l.parked k t.0 t.1);
}
by_choice code s n take_ticket a q m l g h t = record {
  act = takes_ticket;
  point = record { machine = m; order = taken s take_ticket a.order };
  is = refl;
  does = record { going = g; idle = h; takes = t; order = refl };
  below = choice_below code s take_ticket n q a.machine m l t;
  allowed = λ f. tt;
}

by_holder : (code : Code) (s n : ℕ) (u : Who) (a : Point) (q : ℕ) (m : Machine) → Below (n + 1) m → a.machine.held q ≡ Some u → CodeStep code s a.machine q m → Entered code s n a q m
by_holder code s n u a q m l h t = by (local_in code (frame_of a.machine u)) refl
  where
    next : Point
    next = record { machine = m; order = moved (wait_of m u) (view_in code (frame_of a.machine u)) (slot s u) a.order }

    by : (b : Bool) → local_in code (frame_of a.machine u) ≡ b → Entered code s n a q m
    by true e = record {
      act = works 1;
      point = next;
      is = refl;
      does = (next, record { who = u; holds = h; kind = e; step = t; order = refl }, refl);
      below = l;
      allowed = λ f. (omega arith, omega arith);
    }
    by false e = record {
      act = shares;
      point = next;
      is = refl;
      does = record { who = u; holds = h; kind = e; step = t; order = refl };
      below = l;
      allowed = λ f. tt;
    }

entered : (code : Code) (s n : ℕ) (a : Point) (q : ℕ) (m : Machine) → Below n a.machine → CodeStep code s a.machine q m → Entered code s n a q m
entered code s n a q m l t = by (a.machine.held q) refl t.turn
  where
    by : (o : Option Who) → a.machine.held q ≡ o → Turn Frame Open (view code) trips_of (begin code) s o a.machine q m → Entered code s n a q m
    by None h u = by_choice code s n u.0 a q m l t.going h u.1
    by (Some the_main) h u = by_holder code s n the_main a q m (main_below (view code a.machine.main) n q a.machine m l u) h t
    by (Some (iteration k)) h u = by_holder code s n (iteration k) a q m (iteration_below (view code u.0.frame) u.0 n q k a.machine m h l u.2) h t

-- ---- each run is a schedule

record Scheduled (code : Code) (p s n : ℕ) (a : Point) (m : Machine) : Type 0 where
  pub entries : List Entry
  pub point : Point
  pub is : point.machine ≡ m
  pub leads : Leads Second code s a entries point
  pub allowed : n ≤ 2 ^ 128 → AreEntries Second p entries

scheduled : (code : Code) (p s n : ℕ) (qs : List ℕ) (a : Point) (m : Machine) → Below n a.machine → CodeRun code s p a.machine qs m → Scheduled code p s (n + length qs) a m
scheduled code p s n [] a m l r = record { entries = []; point = a; is = r; leads = refl; allowed = λ f. tt }
scheduled code p s n (q ∷ qs) a m l r =
    let e : Entered code s n a q r.0 = entered code s n a q r.0 l r.2 in
    let more : Scheduled code p s (n + 1 + length qs) e.point m =
    scheduled code p s (n + 1) qs e.point m (subst (λ (z : Machine). Below (n + 1) z) (sym e.is) e.below) (subst (λ (z : Machine). CodeRun code s p z qs m) (sym e.is) r.3) in
    record {
      entries = record { processor = q; act = e.act } ∷ more.entries;
      point = more.point;
      is = more.is;
      leads = (e.point, e.does, more.leads);
      allowed = λ f. ((r.1, e.allowed (omega (arith, f))), more.allowed (omega (arith, f)));
    }

none_below : (code : Code) (input : List ℕ) → Below 0 (Init code input)
none_below code input = record {
  parked = λ k w e. let z : None ≡ Some w = e in cc;
  held = λ q k e. let z : None ≡ Some (iteration k) = e in cc;
  ticket = omega arith;
}

pub every_run : EveryRun
every_run code input p s qs m sizes run =
    let x : Scheduled code p s (0 + length qs) (beginning code input s) m = scheduled code p s 0 qs (beginning code input s) m (none_below code input) run in
    record {
      schedule = record { version = Second; processors = p; slots = s; entries = x.entries };
      version = refl;
      processors = refl;
      slots = refl;
      point = x.point;
      replays = record { leads = x.leads };
      is = x.is;
      written = λ f. (sizes, x.allowed (omega (arith, f)));
    }

-- ---- what a schedule leads to is a run

abbrev Runs : Code → ℕ → ℕ → Machine → Machine → Type 0
Runs code p s m n = (qs : List ℕ) × CodeRun code s p m qs n

first : (code : Code) (p s q : ℕ) (m n o : Machine) → q < p → CodeStep code s m q n → Runs code p s n o → Runs code p s m o
first code p s q m n o h t r = (q ∷ r.0, (n, h, t, r.1))

onward : (code : Code) (p s : ℕ) (m n o : Machine) (qs : List ℕ) → CodeRun code s p m qs n → Runs code p s n o → Runs code p s m o
onward code p s m n o [] e r = subst (λ (z : Machine). Runs code p s z o) (sym e) r
onward code p s m n o (q ∷ qs) e r = first code p s q m e.0 o e.1 e.2 (onward code p s e.0 n o qs e.3 r)

pub picked_step : (code : Code) (s : ℕ) (c : Choice) (a : Point) (q : ℕ) (b : Point) → Picks code s c a q b → CodeStep code s a.machine q b.machine
picked_step code s c a q b h = record {
  going = h.going;
  turn = subst (λ (o : Option Who). Turn Frame Open (view code) trips_of (begin code) s o a.machine q b.machine) (sym h.idle) (c, h.takes);
}

one : (code : Code) (p s q : ℕ) (m n : Machine) → q < p → CodeStep code s m q n → Runs code p s m n
one code p s q m n h t = (q ∷ [], (n, h, t, refl))

worked_run : (code : Code) (p s n : ℕ) (a : Point) (q : ℕ) (b : Point) → q < p → Works code s n a q b → Runs code p s a.machine b.machine
worked_run code p s zero a q b h w = ([], ap (λ (z : Point). z.machine) w)
worked_run code p s (suc n) a q b h w = first code p s q a.machine w.0.machine b.machine h w.1.step (worked_run code p s n w.0 q b h w.2)

done_run : (v : Version) (code : Code) (p s : ℕ) (x : Act) (a : Point) (q : ℕ) (b : Point) → q < p → Does v code s x a q b → Runs code p s a.machine b.machine
done_run v code p s (works n) a q b h d = worked_run code p s n a q b h d
done_run First code p s shares a q b h (inl d) = one code p s q a.machine b.machine h d.step
done_run First code p s shares a q b h (inr d) = one code p s q a.machine b.machine h (picked_step code s d.0 a q b d.2)
done_run Second code p s shares a q b h d = one code p s q a.machine b.machine h d.step
done_run v code p s picks_main a q b h d = one code p s q a.machine b.machine h (picked_step code s take_main a q b d)
done_run v code p s (picks k) a q b h d = one code p s q a.machine b.machine h (picked_step code s (take_iteration k) a q b d)
done_run v code p s takes_ticket a q b h d = one code p s q a.machine b.machine h (picked_step code s take_ticket a q b d)

led_run : (v : Version) (code : Code) (p s : ℕ) (es : List Entry) (a b : Point) → AreEntries v p es → Leads v code s a es b → Runs code p s a.machine b.machine
led_run v code p s [] a b h l = ([], ap (λ (z : Point). z.machine) l)
led_run v code p s (e ∷ es) a b h l =
    let d = done_run v code p s e.act a e.processor l.0 h.0.0 l.1 in
    onward code p s a.machine l.0.machine b.machine d.0 d.1 (led_run v code p s es l.0 b h.1 l.2)

pub is_run : IsRun
is_run code input x b h r = led_run x.version code x.processors x.slots x.entries (beginning code input x.slots) b h.1 r.leads
