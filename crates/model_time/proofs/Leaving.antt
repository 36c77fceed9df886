-- When a run may be left.
use Rattle.std.proofs.Common.{inl, inr, ◌≡◌, ◌∙◌, ◌<◌, ◌+◌, ◌-◌, ◌^◌, ℕ, zero, suc, Bool, true, false, List, Option, Some, None, refl, sym, ap, subst, arith}
use Rattle.std.specs.Prelude.{◌≤◌, ◌⊎◌, min}
use Rattle.machine.specs.Code.{Code}
use Rattle.machine.specs.Frame.{Frame}
use Rattle.machine.specs.State.{Choice, CodeStep, Machine, Turn, Who, iteration, put_at, take_iteration, take_main, take_ticket, the_main}
use Rattle.machine.specs.View.{begin, trips_of, view}
use Rattle.machine.specs.declared.code.Open.{Open}
use Rattle.activities.specs.Least.{IsLeast}
use Rattle.activities.specs.Points.{Moves, Picks, Point, frame_of, local_in, moved, slot, taken, view_in, wait_of}
use Rattle.activities.specs.declared.holding.Choice.TheVariants as held
use Rattle.unrecorded.specs.View.{RunView, point_at}
use Rattle.model_time.specs.Figures.{counted, joined}
use Rattle.model_time.specs.Turns.{HasNoTurn, open_in}
use Rattle.model_time.specs.Turns.{Turn as TurnOf}
use Rattle.model_time.specs.Units.{IsLeft, IsUnitOf, NoneSteps, Turns}
use Rattle.model_time.specs.declared.figures.Figures.{Figures}
use Rattle.model_time.specs.declared.turned.Left.TheVariants.{Held, Parked, Retired}
use Rattle.model_time.specs.declared.turned.Turned.{Turned}
use Rattle.model_time.specs.declared.turned.Turned.TheVariants.{Local, Shared, Picked, Waited}

-- ---- who has no turn has no step

-- where the least choice can't be taken up, nothing can
none_taken : (code : Code) (s q : ℕ) (a : Point) (c : Choice) → IsLeast a.machine c → ((b : Point) → Picks code s c a q b → ⊥) → (d : Choice) (b : Point) → Picks code s d a q b → ⊥
none_taken code s q a take_main least none d b p = none next (record { going = p.going; idle = p.idle; takes = (least.0, least.1, least.2, refl); order = refl })
  where
    next : Point
    next = record { machine = record a.machine { waiting = None; held = put_at a.machine.held q (Some the_main) }; order = taken s take_main a.order }
none_taken code s q a (take_iteration k) least none d b p = let w = least.1.0 in none next (record { going = p.going; idle = p.idle; takes = (w.0, w.1, w.2, refl); order = refl })
  where
    next : Point
    next = record { machine = record a.machine { parked = put_at a.machine.parked k None; held = put_at a.machine.held q (Some (iteration k)) }; order = taken s (take_iteration k) a.order }
none_taken code s q a take_ticket least none take_main b p = least.0 (p.takes.0, p.takes.1, p.takes.2)
none_taken code s q a take_ticket least none (take_iteration j) b p = least.1 j (p.takes.0, p.takes.1, p.takes.2)
none_taken code s q a take_ticket least none take_ticket b p = none b p

none_held : (code : Code) (s q : ℕ) (a : Point) (m : Machine) (u : Who) → HasNoTurn code s a q → a.machine.held q ≡ Some u → CodeStep code s a.machine q m → ⊥
none_held code s q a m u none h t = by (local_in code (frame_of a.machine u)) refl
  where
    next : Point
    next = record { machine = m; order = moved (wait_of m u) (view_in code (frame_of a.machine u)) (slot s u) a.order }

    by : (b : Bool) → local_in code (frame_of a.machine u) ≡ b → ⊥
    by true e = none.0 next (record { who = u; holds = h; kind = e; step = t; order = refl })
    by false e = none.1 next (record { who = u; holds = h; kind = e; step = t; order = refl })

none_steps : (code : Code) (s q : ℕ) (a : Point) (m : Machine) → HasNoTurn code s a q → CodeStep code s a.machine q m → ⊥
none_steps code s q a m none t = by (a.machine.held q) refl t.turn
  where
    by : (o : Option Who) → a.machine.held q ≡ o → Turn Frame Open (view code) trips_of (begin code) s o a.machine q m → ⊥
    by None h u = none_taken code s q a none.2 none.3 none.4 u.0 (record { machine = m; order = taken s u.0 a.order }) (record { going = t.going; idle = h; takes = u.1; order = refl })
    by (Some w) h u = none_held code s q a m w none h t

-- ---- a unit without a step

some : (m n : ℕ) → 1 ≤ m → min (n + 1) m ≡ 0 → ⊥
some m n h e = absurd (omega (arith, h, e))

one_fits : 1 ≤ 2 ^ 64 - 1
one_fits = omega (arith)

-- who had a turn in which nothing was counted waited
waited : (code : Code) (s q : ℕ) (a b : Point) (f : Figures) (n : ℕ) (t : Turned) → TurnOf code s a q t b → (counted f t n).steps ≡ 0 → (counted f t n).again ≡ 0 → (f.steps ≡ 0) × (f.again ≡ 0) × (b ≡ a) × HasNoTurn code s a q
waited code s q a b f n Local h e k = absurd (some (2 ^ 64 - 1) f.steps one_fits e)
waited code s q a b f n (Shared Held) h e k = absurd (some (2 ^ 64 - 1) f.steps one_fits e)
waited code s q a b f n (Shared Parked) h e k = absurd (some (2 ^ 64 - 1) f.again one_fits k)
waited code s q a b f n (Shared Retired) h e k = absurd (some (2 ^ 64 - 1) f.steps one_fits e)
waited code s q a b f n (Picked held.Main) h e k = absurd (some (2 ^ 64 - 1) f.again one_fits k)
waited code s q a b f n (Picked (held.Iteration i)) h e k = absurd (some (2 ^ 64 - 1) f.again one_fits k)
waited code s q a b f n (Picked held.Ticket) h e k = absurd (some (2 ^ 64 - 1) f.steps one_fits e)
waited code s q a b f n Waited h e k = (e, k, h.0, h.1)

split : (k q : ℕ) → k < suc q → (k < q) ⊎ (k ≡ q)
split zero zero h = inr refl
split zero (suc q) h = inl (omega (arith))
split (suc k) zero h = absurd (omega (arith, h))
split (suc k) (suc q) h = by (split k q (omega (arith, h)))
  where
    by : (k < q) ⊎ (k ≡ q) → (suc k < suc q) ⊎ (suc k ≡ suc q)
    by (inl l) = inl (omega (arith, l))
    by (inr e) = inr (ap suc e)

each_waits : (code : Code) (s q : ℕ) (a : Point) → ((j : ℕ) → j < q → HasNoTurn code s a j) → HasNoTurn code s a q → (k : ℕ) → k < suc q → HasNoTurn code s a k
each_waits code s q a before this k l = by (split k q l)
  where
    by : (k < q) ⊎ (k ≡ q) → HasNoTurn code s a k
    by (inl l) = before k l
    by (inr e) = subst (HasNoTurn code s a) (sym e) this

-- In a unit without a step nothing changed, and none of its processors has a turn.
still : (code : Code) (s q : ℕ) (a b : Point) (f : Figures) → Turns code s q a f b → f.steps ≡ 0 → f.again ≡ 0 → (b ≡ a) × ((k : ℕ) → k < q → HasNoTurn code s a k)
still code s zero a b f h e k = (h.0, λ j l. absurd (omega (arith, l)))
still code s (suc q) a b f h e k =
    let w = waited code s q h.0 b h.1 (open_in b) h.2 h.4 (sym (ap (λ (g : Figures). g.steps) h.5) ∙ e) (sym (ap (λ (g : Figures). g.again) h.5) ∙ k) in
    let before = still code s q a h.0 h.1 h.3 w.0 w.1 in
    (w.2 ∙ before.0, each_waits code s q a before.1 (subst (λ (x : Point). HasNoTurn code s x q) before.0 w.3))

nothing : (m n : ℕ) → 1 ≤ m → min n m ≡ 0 → n ≡ 0
nothing m n h e = omega (arith, h, e)

none_goes : (code : Code) (s p : ℕ) (a b : Point) (f : Figures) → Turns code s p a f b → min (f.steps + f.again) (2 ^ 64 - 1) ≡ 0 → NoneSteps code p s b.machine
none_goes code s p a b f h e =
    let z : f.steps + f.again ≡ 0 = nothing (2 ^ 64 - 1) (f.steps + f.again) one_fits e in
    let t = still code s p a b f h (omega (arith, z)) (omega (arith, z)) in
    λ q n l step. none_steps code s q b n (subst (λ (x : Point). HasNoTurn code s x q) (sym t.0) (t.1 q l)) step

pub stuck : (x y : RunView) (most made : ℕ) (u f g : Figures) (fs gs : List Figures) → IsUnitOf u x f fs y g gs → made ≡ min (u.steps + u.again) (2 ^ 64 - 1) → made ≡ 0 → IsLeft most y g
stuck x y most made u f g fs gs h is none_made =
    let m : Machine = (point_at y).machine in
    let none : NoneSteps x.code x.processors x.slots m = none_goes x.code x.slots x.processors (point_at x) (point_at y) u h.1.1 (sym is ∙ none_made) in
    let one : NoneSteps y.code x.processors x.slots m = subst (λ (c : Code). NoneSteps c x.processors x.slots m) (sym h.0.code_is) none in
    let two : NoneSteps y.code y.processors x.slots m = subst (λ (p : ℕ). NoneSteps y.code p x.slots m) (sym h.0.processors) one in
    λ going. inr (subst (λ (s : ℕ). NoneSteps y.code y.processors s m) (sym h.0.slots) two)

-- ---- how many steps are left

further : (m most left s a u v : ℕ) → most ≤ m → most ≤ left + (s + a) → most ≤ (left - min (u + v) m) + (min (s + u) m + min (a + v) m)
further m most left s a u v few h = omega (arith, few, h)

pub left_less : (most left made rest : ℕ) (f u g : Figures) → most ≤ 2 ^ 64 - 1 → most ≤ left + (f.steps + f.again) → made ≡ min (u.steps + u.again) (2 ^ 64 - 1) → rest ≡ left - made → g ≡ joined f u → most ≤ rest + (g.steps + g.again)
left_less most left made rest f u g few h is less sum =
    subst (λ (k : Figures). most ≤ rest + (k.steps + k.again)) (sym sum)
    (subst (λ (n : ℕ). most ≤ n + ((joined f u).steps + (joined f u).again)) (sym (less ∙ ap (λ (n : ℕ). left - n) is))
    (further (2 ^ 64 - 1) most left f.steps f.again u.steps u.again few h))
