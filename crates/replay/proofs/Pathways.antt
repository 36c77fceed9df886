-- Steps whose kinds the code tells, one after another.
use Rattle.std.proofs.Common.{◌≡◌, ◌∙◌, ℕ, zero, suc, ◌+◌, ◌<◌, ◌≤◌, Bool, true, false, List, [], ◌∷◌, ◌++◌, length, Option, Some, None, refl, sym, ap, subst, arith, append_assoc}
use Rattle.std.proofs.lemmas.List.{length-append}
use Rattle.std.specs.Prelude.{get_or, if◌then◌else◌, not, replicate, take}
use Rattle.machine.specs.declared.instr.Instr.{Instr}
use Rattle.activities.specs.Kinds.{IsPath, ahead_at, kinds, kinds_if}
use Rattle.activities.specs.declared.kinds.Ahead.{Ahead}
use Rattle.schedules.specs.Noting.{AllNoted}
use Rattle.schedules.specs.Schedules.{Schedule}
use Rattle.replay.specs.Striding.{AllLegs, IsLeg, IsLegOf, IsRun, kinds_of}
use Rattle.replay.specs.declared.legs.Leg.{Leg}
use Rattle.replay.proofs.Noting.{length_take, noted_on}

pub leg_none : (code : List Instr) (p : ℕ) → IsLeg code p 0 p
leg_none code p = (refl, λ m. ap (λ (n : ℕ). kinds code n p) (let e : 0 + m ≡ m = omega arith in e))

pub run_none : (code : List Instr) (p : ℕ) → IsRun code p 0 p
run_none code p = record { leg = leg_none code p; local = refl }

pub leg_on : (code : List Instr) (p q r n m : ℕ) → IsLeg code p n q → IsLeg code q m r → IsLeg code p (n + m) r
leg_on code p q r n m g h = (
  omega (arith, ap length (g.1 m), length-append (kinds code n p) (kinds code m q), g.0, h.0),
  λ k.
      ap (λ (i : ℕ). kinds code i p) (let e : n + m + k ≡ n + (m + k) = omega arith in e) ∙ g.1 (m + k) ∙ ap (λ (ks : List Bool). kinds code n p ++ ks) (h.1 k)
      ∙ sym (append_assoc (kinds code n p) (kinds code m q) (kinds code k r)) ∙ ap (λ (ks : List Bool). ks ++ kinds code k r) (sym (g.1 m)),
)

told_more : (code : List Instr) (p n : ℕ) (a : Ahead) → ahead_at code p ≡ Some a → kinds code (suc n) p ≡ a.local ∷ kinds code n a.next
told_more code p n a e = ap (λ (o : Option Ahead). kinds_if o (λ q. kinds code n q)) e

pub leg_one : (code : List Instr) (p : ℕ) (a : Ahead) → ahead_at code p ≡ Some a → IsLeg code p 1 a.next
leg_one code p a e = (
  ap length (told_more code p 0 a e),
  λ m.
      ap (λ (i : ℕ). kinds code i p) (let f : 1 + m ≡ suc m = omega arith in f) ∙ told_more code p m a e ∙ ap (λ (ks : List Bool). ks ++ kinds code m a.next) (sym (told_more code p 0 a e)),
)

pub one_kind : (code : List Instr) (p : ℕ) (a : Ahead) → ahead_at code p ≡ Some a → kinds code 1 p ≡ a.local ∷ []
one_kind code p a e = told_more code p 0 a e

true_more : (n : ℕ) → replicate n true ++ true ∷ [] ≡ replicate (n + 1) true
true_more zero = refl
true_more (suc n) = ap (λ (ks : List Bool). true ∷ ks) (true_more n) ∙ ap (λ (i : ℕ). replicate i true) (let e : suc (n + 1) ≡ suc n + 1 = omega arith in e)

pub run_on : (code : List Instr) (p n q : ℕ) (a : Ahead) → IsRun code p n q → ahead_at code q ≡ Some a → a.local ≡ true → IsRun code p (n + 1) a.next
run_on code p n q a g e l = record {
  leg = leg_on code p q a.next n 1 g.leg (leg_one code q a e);
  local = g.leg.1 1 ∙ ap (λ (ks : List Bool). kinds code n p ++ ks) (told_more code q 0 a e) ∙ ap (λ (ks : List Bool). ks ++ a.local ∷ []) g.local ∙ ap (λ (k : Bool). replicate n true ++ k ∷ []) l ∙ true_more n;
}

pub is_true : (b : Bool) → not b ≡ false → b ≡ true
is_true true e = refl
is_true false e = cc

-- ---- fewer

pub kinds_take : (code : List Instr) (m n p : ℕ) → m ≤ n → take m (kinds code n p) ≡ kinds code m p
kinds_take code zero n p h = refl
kinds_take code (suc m) zero p h = absurd (omega (arith, h))
kinds_take code (suc m) (suc n) p h = by (ahead_at code p) (λ q. kinds_take code m n q (omega (arith, h)))
  where
    by : (o : Option Ahead) → ((q : ℕ) → take m (kinds code n q) ≡ kinds code m q) → take (suc m) (kinds_if o (λ q. kinds code n q)) ≡ kinds_if o (λ q. kinds code m q)
    by None more = refl
    by (Some a) more = ap (λ (ks : List Bool). a.local ∷ ks) (more a.next)

pub path_less : (code : List Instr) (m n p : ℕ) → m ≤ n → IsPath code n p → IsPath code m p
path_less code m n p h i = ap length (sym (kinds_take code m n p h)) ∙ length_take m (kinds code n p) (omega (arith, h, i))

-- ---- legs

-- a run is a leg
pub leg_of_run : (code : List Instr) (p : ℕ) (leg : Leg) → IsRun code p leg.steps leg.next → leg.shared ≡ false → IsLegOf code p leg
leg_of_run code p leg r e = (r.leg, r.local ∙ ap (λ (b : Bool). if b then false ∷ [] else replicate leg.steps true) (sym e))

-- so is a load or a store
pub leg_of_access : (code : List Instr) (p next : ℕ) (o : Option Ahead) → o ≡ ahead_at code p → o ≡ Some (record { local = false; next = next }) → IsLegOf code p (record { steps = 1; shared = true; next = next })
leg_of_access code p next o e f =
    let told = sym e ∙ f in
    (leg_one code p (record { local = false; next = next }) told, one_kind code p (record { local = false; next = next }) told)

-- one more stands behind others
pub legs_more : (code : List Instr) (p : ℕ) (legs : List Leg) (leg : Leg) → AllLegs code p legs → IsLegOf code (p + length legs) leg → AllLegs code p (legs ++ leg ∷ [])
legs_more code p [] leg h l = (subst (λ (i : ℕ). IsLegOf code i leg) (let e : p + 0 ≡ p = omega arith in e) l, tt)
legs_more code p (m ∷ legs) leg h l = (h.0, legs_more code (suc p) legs leg h.1 (subst (λ (i : ℕ). IsLegOf code i leg) (let e : p + suc (length legs) ≡ suc p + length legs = omega arith in e) l))

-- the one at a place
pub leg_there : (code : List Instr) (p i : ℕ) (legs : List Leg) (d : Leg) → AllLegs code p legs → suc i ≤ length legs → IsLegOf code (p + i) (get_or legs i d)
leg_there code p i [] d h l = absurd (omega (arith, l))
leg_there code p zero (m ∷ legs) d h l = subst (λ (j : ℕ). IsLegOf code j m) (let e : p ≡ p + 0 = omega arith in e) h.0
leg_there code p (suc i) (m ∷ legs) d h l = subst (λ (j : ℕ). IsLegOf code j (get_or legs i d)) (let e : suc p + i ≡ p + suc i = omega arith in e) (leg_there code (suc p) i legs d h.1 (omega (arith, l)))

-- a leg is added behind steps that were
pub noted_leg : (code : List Instr) (q start place planned : ℕ) (leg : Leg) (x y z : Schedule) → IsLeg code start planned place → IsLegOf code place leg → AllNoted q (kinds code planned start) x y → AllNoted q (kinds_of leg) y z → AllNoted q (kinds code (planned + leg.steps) start) x z
noted_leg code q start place planned leg x y z g l h i =
    let all : kinds code planned start ++ kinds_of leg ≡ kinds code (planned + leg.steps) start = ap (λ (ks : List Bool). kinds code planned start ++ ks) (sym l.1) ∙ sym (g.1 leg.steps) in
    subst (λ (ks : List Bool). AllNoted q ks x z) all (noted_on q (kinds code planned start) (kinds_of leg) x y z h i)

-- a schedule is as short as one to which steps have been added, or as it was before the first
pub few_before : (q n p m k : ℕ) (code : List Instr) (x z : Schedule) → AllNoted q (kinds code n p) x z → (1 ≤ n → length x.entries < m) → length z.entries < m → 1 ≤ n + k → length x.entries < m
few_before q zero p m k code x z noted few here some = subst (λ (y : Schedule). length y.entries < m) (sym noted) here
few_before q (suc n) p m k code x z noted few here some = few (omega arith)
