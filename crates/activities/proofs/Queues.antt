-- Where the kernel has an activity, after a call of it.
use Rattle.std.proofs.Common.{inl, inr, ◌≡◌, ◌∙◌, ◌⊎◌, ℕ, zero, suc, ◌+◌, ◌<◌, ◌≤◌, Bool, true, false, List, [], ◌∷◌, ◌++◌, length, get_or, take, drop, Option, Some, None, refl, sym, subst, arith}
use Rattle.std.specs.Prelude.{◌==◌, if◌then◌else◌, map, nat_le}
use Rattle.std.specs.List.{prefix_len}
use Rattle.std.proofs.Math.ListN.{set}
use Rattle.std.proofs.lemmas.Bool.{cases_eq, eq-eqb, eqb-true, ne_eqb, leb-true}
use Rattle.std.proofs.lemmas.List.{get_or-set_same, get_or-set_other, length-set}
use Rattle.ec_kernel.specs.View.{View, IsKernel, AllAbove, count_at, waiters_at, places, times, times_waiting, queued, parked, advanced, wakes, restarted, without, reached_by, first_of}
use Rattle.ec_kernel.proofs.Steps.{times-without}
use Rattle.machine.specs.State.{Wait, until_count, until_retired}
use Rattle.activities.specs.Waiting.{Waits, StandsAt, Stands}

-- ---- in how many places a slot stands

times-append : (s : ℕ) (xs ys : List ℕ) → times s (xs ++ ys) ≡ times s xs + times s ys
times-append s [] ys = omega arith
times-append s (x ∷ xs) ys = omega (arith, times-append s xs ys)

waiting_times : (v s : ℕ) (ws : List (ℕ × ℕ)) → Waits v s ws → 0 < times s (map (λ w. w.1) ws)
waiting_times v s [] h = absurd h
waiting_times v s (w ∷ ws) (inl h) = rw (eq-eqb s w.1 (sym h.1)) (omega arith)
waiting_times v s (w ∷ ws) (inr h) = omega (arith, waiting_times v s ws h)

times_somewhere : (s : ℕ) (ls : List (List (ℕ × ℕ))) (e : ℕ) → times s (map (λ w. w.1) (get_or ls e [])) ≤ times_waiting s ls
times_somewhere s [] e = omega arith
times_somewhere s (l ∷ ls) zero = omega arith
times_somewhere s (l ∷ ls) (suc e) = omega (arith, times_somewhere s ls e)

-- who is ready doesn't wait
pub ready_or_waiting : (x : View) (s e v : ℕ) → places s x ≤ 1 → 0 < times s x.ready → Waits v s (waiters_at x e) → ⊥
ready_or_waiting x s e v o r w = omega (arith, o, r, waiting_times v s (waiters_at x e) w, times_somewhere s x.waiters e)

waiting_set : (s : ℕ) (ls : List (List (ℕ × ℕ))) (e : ℕ) (ws : List (ℕ × ℕ)) → e < length ls
    → times_waiting s (set ls e ws) + times s (map (λ w. w.1) (get_or ls e [])) ≡ times_waiting s ls + times s (map (λ w. w.1) ws)
waiting_set s [] e ws h = absurd (omega (arith, h))
waiting_set s (l ∷ ls) zero ws h = omega arith
waiting_set s (l ∷ ls) (suc e) ws h = omega (arith, waiting_set s ls e ws (omega (arith, h)))

-- ---- parking

queued_times : (s t v : ℕ) (ws : List (ℕ × ℕ)) → (s ≡ t → ⊥) → times s (map (λ w. w.1) (queued (v, t) ws)) ≡ times s (map (λ w. w.1) ws)
queued_times s t v [] d = rw (ne_eqb s t d) (omega arith)
queued_times s t v (w ∷ ws) d = by (nat_le w.0 v) (queued_times s t v ws d)
  where
    by : (b : Bool) → times s (map (λ x. x.1) (queued (v, t) ws)) ≡ times s (map (λ x. x.1) ws) → times s (map (λ x. x.1) (if b then w ∷ queued (v, t) ws else (v, t) ∷ (w ∷ ws))) ≡ times s (map (λ x. x.1) (w ∷ ws))
    by true h = omega (arith, h)
    by false h = rw (ne_eqb s t d) (omega arith)

queued_waits : (v t : ℕ) (ws : List (ℕ × ℕ)) → Waits v t (queued (v, t) ws)
queued_waits v t [] = inl (refl, refl)
queued_waits v t (w ∷ ws) = by (nat_le w.0 v) (queued_waits v t ws)
  where
    by : (b : Bool) → Waits v t (queued (v, t) ws) → Waits v t (if b then w ∷ queued (v, t) ws else (v, t) ∷ (w ∷ ws))
    by true h = inr h
    by false h = inl (refl, refl)

still_queued : (u s v t : ℕ) (ws : List (ℕ × ℕ)) → Waits u s ws → Waits u s (queued (v, t) ws)
still_queued u s v t [] h = absurd h
still_queued u s v t (w ∷ ws) h = by (nat_le w.0 v) h (λ k. still_queued u s v t ws k)
  where
    by : (b : Bool) → Waits u s (w ∷ ws) → (Waits u s ws → Waits u s (queued (v, t) ws)) → Waits u s (if b then w ∷ queued (v, t) ws else (v, t) ∷ (w ∷ ws))
    by true (inl h) more = inl h
    by true (inr h) more = inr (more h)
    by false h more = inr h

pub parks_itself : (x : View) (e v t : ℕ) → IsKernel x → e < length x.counts → count_at x e < v → StandsAt (parked x e v t) t e v
parks_itself x e v t k l c =
    (l, inr (c, subst (λ ws. Waits v t ws) (sym (get_or-set_same x.waiters e (queued (v, t) (waiters_at x e)) [] (omega (arith, k.events, l)))) (queued_waits v t (waiters_at x e))))

parks_at : (x : View) (e v t s i u : ℕ) → IsKernel x → e < length x.counts → StandsAt x s i u → StandsAt (parked x e v t) s i u
parks_at x e v t s i u k l (n, inl h) = (n, inl h)
parks_at x e v t s i u k l (n, inr h) = (
  n,
  inr (
    h.0,
    elim (cases_eq i e) [
      | inl same ↦ subst (λ j. Waits u s (get_or (set x.waiters e (queued (v, t) (waiters_at x e))) j [])) (sym same)
          (subst (λ ws. Waits u s ws) (sym (get_or-set_same x.waiters e (queued (v, t) (waiters_at x e)) [] (omega (arith, k.events, l)))) (still_queued u s v t (waiters_at x e) (subst (λ j. Waits u s (waiters_at x j)) same h.1)))
      | inr other ↦ subst (λ ws. Waits u s ws) (sym (get_or-set_other x.waiters e i (queued (v, t) (waiters_at x e)) [] other)) h.1
    ],
  ),
)

-- another one stands as before
pub parks_other : (x : View) (e v t s : ℕ) (w : Option Wait) → IsKernel x → e < length x.counts → (s ≡ t → ⊥) → Stands x s w → Stands (parked x e v t) s w
parks_other x e v t s None k l d h =
    omega (arith, h, waiting_set s x.waiters e (queued (v, t) (waiters_at x e)) (omega (arith, k.events, l)), queued_times s t v (waiters_at x e) d)
parks_other x e v t s (Some (until_count i u)) k l d h = (h.0, parks_at x e v t s i u k l h.1)
parks_other x e v t s (Some (until_retired u)) k l d h = parks_at x e v t s 0 u k l h

-- ---- advancing

split_times : (s n : ℕ) (ws : List (ℕ × ℕ)) → times s (map (λ w. w.1) (drop n ws)) + times s (map (λ w. w.1) (take n ws)) ≡ times s (map (λ w. w.1) ws)
split_times s zero ws = omega arith
split_times s (suc n) [] = refl
split_times s (suc n) (w ∷ ws) = omega (arith, split_times s n ws)

split_waits : (v s n : ℕ) (ws : List (ℕ × ℕ)) → Waits v s ws → Waits v s (take n ws) ⊎ Waits v s (drop n ws)
split_waits v s zero ws h = inr h
split_waits v s (suc n) [] h = absurd h
split_waits v s (suc n) (w ∷ ws) (inl h) = inl (inl h)
split_waits v s (suc n) (w ∷ ws) (inr h) = elim (split_waits v s n ws h) [ inl a ↦ inl (inr a) | inr a ↦ inr a ]

above_waits : (c v s : ℕ) (ws : List (ℕ × ℕ)) → AllAbove c ws → Waits v s ws → c < v
above_waits c v s [] h a = absurd a
above_waits c v s (w ∷ ws) h (inl a) = omega (arith, h.0, a.0)
above_waits c v s (w ∷ ws) h (inr a) = above_waits c v s ws h.1 a

front_waits : (c v s : ℕ) (ws : List (ℕ × ℕ)) → Waits v s (take (prefix_len (reached_by c) ws) ws) → v ≤ c
front_waits c v s [] h = absurd h
front_waits c v s (w ∷ ws) h = by (nat_le w.0 c) refl (λ k. front_waits c v s ws k)
  where
    pass : Waits v s (take (suc (prefix_len (reached_by c) ws)) (w ∷ ws)) → w.0 ≤ c → (Waits v s (take (prefix_len (reached_by c) ws) ws) → v ≤ c) → v ≤ c
    pass (inl a) l more = omega (arith, l, a.0)
    pass (inr a) l more = more a

    by : (b : Bool) → nat_le w.0 c ≡ b → (Waits v s (take (prefix_len (reached_by c) ws) ws) → v ≤ c) → v ≤ c
    by true e more =
        let z : prefix_len (reached_by c) (w ∷ ws) ≡ suc (prefix_len (reached_by c) ws) = rw e (omega arith) in
        pass (subst (λ n. Waits v s (take n (w ∷ ws))) z h) (leb-true w.0 c e) more
    by false e more = absurd (rw e at h)

advances_same : (x : View) (e s u : ℕ) → IsKernel x → IsKernel (advanced x e) → StandsAt x s e u → StandsAt (advanced x e) s e u
advances_same x e s u k j (l, h) = by h
  where
    ws : List (ℕ × ℕ)
    ws = waiters_at x e

    n : ℕ
    n = wakes x e

    count : get_or (set x.counts e (count_at x e + 1)) e 0 ≡ count_at x e + 1
    count = get_or-set_same x.counts e (count_at x e + 1) 0 l

    rest : get_or (set x.waiters e (drop n ws)) e [] ≡ drop n ws
    rest = get_or-set_same x.waiters e (drop n ws) [] (omega (arith, k.events, l))

    more : times s (x.ready ++ map (λ w. w.1) (take n ws)) ≡ times s x.ready + times s (map (λ w. w.1) (take n ws))
    more = times-append s x.ready (map (λ w. w.1) (take n ws))

    inside : e < length (set x.counts e (count_at x e + 1))
    inside = omega (arith, l, length-set x.counts e (count_at x e + 1))

    by : ((u ≤ count_at x e) × (0 < times s x.ready)) ⊎ ((count_at x e < u) × Waits u s (waiters_at x e)) → StandsAt (advanced x e) s e u
    by (inl a) = (inside, inl (omega (arith, a.0, count), omega (arith, a.1, more)))
    by (inr a) = elim (split_waits u s n ws a.1) [
      | inl b ↦ (inside, inl (omega (arith, front_waits (count_at x e + 1) u s ws b, count), omega (arith, waiting_times u s (take n ws) b, more)))
      | inr b ↦ (
          let d : Waits u s (waiters_at (advanced x e) e) = subst (λ vs. Waits u s vs) (sym rest) b in
          (inside, inr (above_waits (count_at (advanced x e) e) u s (waiters_at (advanced x e) e) (j.waiting e inside) d, d))
          )
    ]

advances_other : (x : View) (e s i u : ℕ) → (i ≡ e → ⊥) → StandsAt x s i u → StandsAt (advanced x e) s i u
advances_other x e s i u d (l, h) = (omega (arith, l, length-set x.counts e (count_at x e + 1)), by h)
  where
    ws : List (ℕ × ℕ)
    ws = waiters_at x e

    n : ℕ
    n = wakes x e

    count : get_or (set x.counts e (count_at x e + 1)) i 0 ≡ count_at x i
    count = get_or-set_other x.counts e i (count_at x e + 1) 0 d

    rest : get_or (set x.waiters e (drop n ws)) i [] ≡ waiters_at x i
    rest = get_or-set_other x.waiters e i (drop n ws) [] d

    by : ((u ≤ count_at x i) × (0 < times s x.ready)) ⊎ ((count_at x i < u) × Waits u s (waiters_at x i)) → ((u ≤ count_at (advanced x e) i) × (0 < times s (advanced x e).ready)) ⊎ ((count_at (advanced x e) i < u) × Waits u s (waiters_at (advanced x e) i))
    by (inl a) = inl (omega (arith, a.0, count), omega (arith, a.1, times-append s x.ready (map (λ w. w.1) (take n ws))))
    by (inr a) = inr (omega (arith, a.0, count), subst (λ vs. Waits u s vs) (sym rest) a.1)

advances_at : (x : View) (e s i u : ℕ) → IsKernel x → IsKernel (advanced x e) → StandsAt x s i u → StandsAt (advanced x e) s i u
advances_at x e s i u k j h = elim (cases_eq i e) [
  | inl same ↦ subst (λ a. StandsAt (advanced x e) s a u) (sym same) (advances_same x e s u k j (subst (λ a. StandsAt x s a u) same h))
  | inr other ↦ advances_other x e s i u other h
]

-- everybody stands as before, or is ready
pub advances : (x : View) (e s : ℕ) (w : Option Wait) → e < length x.counts → IsKernel x → IsKernel (advanced x e) → Stands x s w → Stands (advanced x e) s w
advances x e s None l k j h =
    let ws = waiters_at x e in
    let n = wakes x e in
    omega (arith, h, waiting_set s x.waiters e (drop n ws) (omega (arith, k.events, l)), split_times s n ws, times-append s x.ready (map (λ w. w.1) (take n ws)))
advances x e s (Some (until_count i u)) l k j h = (h.0, advances_at x e s i u k j h.1)
advances x e s (Some (until_retired u)) l k j h = advances_at x e s 0 u k j h

-- ---- taking up

times_without : (s t : ℕ) (xs : List ℕ) → (s ≡ t → ⊥) → times s (without t xs) ≡ times s xs
times_without s t [] d = refl
times_without s t (x ∷ xs) d = by (t == x) refl (times_without s t xs d)
  where
    by : (b : Bool) → (t == x) ≡ b → times s (without t xs) ≡ times s xs → times s (if b then without t xs else x ∷ without t xs) ≡ times s (x ∷ xs)
    by true e h = rw (ne_eqb s x (λ k. d (k ∙ sym (eqb-true t x e)))) (omega (arith, h))
    by false e h = omega (arith, h)

taken_at : (x : View) (s t i u : ℕ) → (s ≡ t → ⊥) → StandsAt x s i u → StandsAt (record x { ready = without t x.ready }) s i u
taken_at x s t i u d (l, inl h) = (l, inl (h.0, omega (arith, h.1, times_without s t x.ready d)))
taken_at x s t i u d (l, inr h) = (l, inr h)

pub takes_other : (x : View) (s t : ℕ) (w : Option Wait) → (s ≡ t → ⊥) → Stands x s w → Stands (record x { ready = without t x.ready }) s w
takes_other x s t None d h = omega (arith, h, times_without s t x.ready d)
takes_other x s t (Some (until_count i u)) d h = (h.0, taken_at x s t i u d h.1)
takes_other x s t (Some (until_retired u)) d h = taken_at x s t 0 u d h

pub takes_itself : (x : View) (s : ℕ) → IsKernel x → 0 < times s x.ready → Stands (record x { ready = without s x.ready }) s None
takes_itself x s k h = omega (arith, h, k.once s, times-without s x.ready)

-- ---- beginning anew

pub restarts : (x : View) (s : ℕ) → Stands x s None → Stands (restarted x) s None
restarts x s h = h

-- ---- who is ready

-- what a parked activity waits for has been reached where it is ready, and only there
abbrev pub IsReached : View → Wait → Type 0
IsReached x (until_count e v) = v ≤ count_at x e
IsReached x (until_retired v) = v ≤ count_at x 0

ready_at : (x : View) (s e v : ℕ) → IsKernel x → StandsAt x s e v → 0 < times s x.ready → v ≤ count_at x e
ready_at x s e v k (l, inl h) r = h.0
ready_at x s e v k (l, inr h) r = absurd (ready_or_waiting x s e v (k.once s) r h.1)

pub ready_reached : (x : View) (s : ℕ) (w : Option Wait) → IsKernel x → Stands x s w → 0 < times s x.ready → (u : Wait) × (w ≡ Some u) × IsReached x u
ready_reached x s None k h r = absurd (omega (arith, h, r))
ready_reached x s (Some (until_count e v)) k h r = (until_count e v, refl, ready_at x s e v k h.1 r)
ready_reached x s (Some (until_retired v)) k h r = (until_retired v, refl, ready_at x s 0 v k h r)

reached_at : (x : View) (s e v : ℕ) → StandsAt x s e v → v ≤ count_at x e → 0 < times s x.ready
reached_at x s e v (l, inl h) r = h.1
reached_at x s e v (l, inr h) r = absurd (omega (arith, h.0, r))

pub reached_ready : (x : View) (s : ℕ) (u : Wait) → Stands x s (Some u) → IsReached x u → 0 < times s x.ready
reached_ready x s (until_count e v) h r = reached_at x s e v h.1 r
reached_ready x s (until_retired v) h r = reached_at x s 0 v h r

pub first_ready : (x : View) (s : ℕ) → first_of x.ready ≡ Some s → 0 < times s x.ready
first_ready x s e = by x.ready e
  where
    by : (xs : List ℕ) → first_of xs ≡ Some s → 0 < times s xs
    by [] h = cc
    by (y ∷ ys) h = let d : s ≡ y = cc in rw (eq-eqb s y d) (omega arith)
