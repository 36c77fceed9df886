-- What a processor does in one go.
use Rattle.std.proofs.Common.{inl, inr, ◌≡◌, ℕ, zero, suc, ◌+◌, Bool, true, [], subst, sym, arith, refl}
use Rattle.machine.specs.Code.{Code}
use Rattle.machine.specs.State.{take_ticket}
use Rattle.activities.specs.Activities.{Stays, code_in, point_in}
use Rattle.activities.specs.Points.{Picks, Point, Proceeds, Steps}
use Rattle.activities.specs.declared.holding.Activities.{Activities}

-- steps of what it holds are among that
pub steps_proceed : (begins : Bool) (code : Code) (s n : ℕ) (a : Point) (q : ℕ) (b : Point) → Steps code s n a q b → Proceeds begins code s n a q b
steps_proceed begins code s zero a q b h = h
steps_proceed begins code s (suc n) a q b h = (h.0, inl (h.1, h.2), steps_proceed begins code s n h.0 q b h.3)

-- a ticket, and steps of the iteration that it begins
pub ticket_proceeds : (code : Code) (s n : ℕ) (a : Point) (q : ℕ) (x b : Point) → a.order.ready ≡ [] → Picks code s take_ticket a q x → Steps code s n x q b → Proceeds true code s (n + 1) a q b
ticket_proceeds code s n a q x b r p h =
    let more : suc n ≡ n + 1 = omega arith in
    subst (λ (k : ℕ). Proceeds true code s k a q b) more (x, inr (refl, r, p), steps_proceed true code s n x q b h)

proceeds_on : (begins : Bool) (code : Code) (s m n : ℕ) (a : Point) (q : ℕ) (b c : Point) → Proceeds begins code s m a q b → Proceeds begins code s n b q c → Proceeds begins code s (m + n) a q c
proceeds_on begins code s zero n a q b c g h =
    let same : n ≡ 0 + n = omega arith in
    subst (λ (k : ℕ). Proceeds begins code s k a q c) same (subst (λ (x : Point). Proceeds begins code s n x q c) (sym g) h)
proceeds_on begins code s (suc m) n a q b c g h =
    let same : suc (m + n) ≡ suc m + n = omega arith in
    subst (λ (k : ℕ). Proceeds begins code s k a q c) same (g.0, g.1, proceeds_on begins code s m n g.0 q b c g.2 h)

-- the same of activities, of which the second was done in their state behind the first
pub went_further : (begins : Bool) (m n q : ℕ) (a b c : Activities) → Stays a b → Proceeds begins (code_in a) a.slots m (point_in a) q (point_in b) → Proceeds begins (code_in b) b.slots n (point_in b) q (point_in c) → Proceeds begins (code_in a) a.slots (m + n) (point_in a) q (point_in c)
went_further begins m n q a b c t g h =
    proceeds_on begins (code_in a) a.slots m n (point_in a) q (point_in b) (point_in c) g
    (subst (λ (s : ℕ). Proceeds begins (code_in a) s n (point_in b) q (point_in c)) t.slots
    (subst (λ (d : Code). Proceeds begins d b.slots n (point_in b) q (point_in c)) t.code_is h))
