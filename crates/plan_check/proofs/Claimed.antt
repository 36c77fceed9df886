-- The claims that are given first, by runs.
use Rattle.std.proofs.Common.{◌≡◌, ◌∙◌, ◌==◌, ◌+◌, ◌*◌, ◌<◌, ◌≤◌, ℕ, zero, suc, Bool, true, false, ◌&&◌, List, [], ◌∷◌, ◌++◌, Some, inl, inr, length, slice_index_or, ap, arith, refl, sym, subst}
use Rattle.std.proofs.lemmas.Option.{slice_get-get_or}
use Rattle.std.specs.Prelude.{◌-◌, ◌⊎◌, ◌||◌, nat_lt, nat_le, if◌then◌else◌, slice_get}
use Rattle.std.proofs.lemmas.Bool.Decides.{nat_tests}
use Rattle.std.proofs.lemmas.Bool.{and_from, and_parts, and_left, and_right, ltb-true}
use Rattle.ast.proofs.Numbers.{equal_itself}
use Rattle.dependence.specs.Runs.{relation_at, run, runs, stepped}
use Rattle.dependence.specs.declared.relation.Relation.{Relation}
use Rattle.dependence.specs.declared.run.Run.{Run}
use Rattle.plan_check.specs.Checking.{claimed}
use Rattle.plan_check.specs.Claiming.{ascend, end, is_behind}

abbrev pub Claim : Type 0
Claim = ℕ × ℕ × Relation

nat_other : (a b : ℕ) → (a ≡ b → ⊥) → (a == b) ≡ false
nat_other a b n = grind (arith, nat_tests, n)

chosen_yes : {X : Type 0} (b : Bool) (x y : X) → b ≡ true → (if b then x else y) ≡ x
chosen_yes true x y e = refl
chosen_yes false x y e = cc

pub chosen_no : {X : Type 0} (b : Bool) (x y : X) → b ≡ false → (if b then x else y) ≡ y
chosen_no false x y e = refl
chosen_no true x y e = cc

-- a run of another reference has no claim of a pair
pub other_first : (a b s n : ℕ) (r : Relation) (rest : List Claim) (x y : ℕ) → (a ≡ x → ⊥) → claimed (stepped a b s n r ++ rest) x y ≡ claimed rest x y
other_first a b s zero r rest x y o = refl
other_first a b s (suc n) r rest x y o =
    chosen_no ((a == x) && (b == y)) (Some r) (claimed (stepped a (b + s) s n r ++ rest) x y) (and_left (a == x) (b == y) (nat_other a x o))
    ∙ other_first a (b + s) s n r rest x y o

-- nor has one that ends before it
pub ends_before : (a b s n : ℕ) (r : Relation) (rest : List Claim) (x y : ℕ) → b + s * n < y + s → claimed (stepped a b s n r ++ rest) x y ≡ claimed rest x y
ends_before a b s zero r rest x y q = refl
ends_before a b s (suc n) r rest x y q =
    let next : (b + s) + s * n < y + s = omega (arith, q) in
    let before : b ≡ y → ⊥ = λ e. omega (arith, next, e) in
    chosen_no ((a == x) && (b == y)) (Some r) (claimed (stepped a (b + s) s n r ++ rest) x y) (and_right (a == x) (b == y) (nat_other b y before))
    ∙ ends_before a (b + s) s n r rest x y next

-- the pair at a place of a run
pub inside : (a b s n k : ℕ) (r : Relation) (rest : List Claim) → k < n → claimed (stepped a b s n r ++ rest) a (b + s * k) ≡ Some r
inside a b s zero k r rest l = absurd (omega (arith, l))
inside a b s (suc n) zero r rest l =
    let none : b ≡ b + s * 0 = omega (arith) in
    let here : (b == b + s * 0) ≡ true = subst (λ y. (b == y) ≡ true) none (equal_itself b) in
    chosen_yes ((a == a) && (b == b + s * 0)) (Some r) (claimed (stepped a (b + s) s n r ++ rest) a (b + s * 0)) (and_from (a == a) (b == b + s * 0) (equal_itself a) here)
inside a b s (suc n) (suc k) r rest l =
    let less : k < n = omega (arith, l) in
    let same : (b + s) + s * k ≡ b + s * suc k = omega (arith) in
    by ((a == a) && (b == b + s * suc k)) (subst (λ y. claimed (stepped a (b + s) s n r ++ rest) a y ≡ Some r) same (inside a (b + s) s n k r rest less))
  where
    by : (c : Bool) → claimed (stepped a (b + s) s n r ++ rest) a (b + s * suc k) ≡ Some r → (if c then Some r else claimed (stepped a (b + s) s n r ++ rest) a (b + s * suc k)) ≡ Some r
    by true e = refl
    by false e = e

at_least : (a b : ℕ) → nat_le a b ≡ true → a ≤ b
at_least a b e = grind (arith, nat_tests, e)

equal : (a b : ℕ) → (a == b) ≡ true → a ≡ b
equal a b e = grind (arith, nat_tests, e)

-- a run ends no sooner than it begins
end_least : (r : Run) → r.second ≤ end r
end_least r = by (r.count == 0)
  where
    by : (b : Bool) → r.second ≤ (if b then r.second else r.second + r.step * (r.count - 1) + 1)
    by true = omega arith
    by false = omega arith

-- so what is not before its end is behind all of it
behind_end : (ks : List Relation) (r : Run) (rest : List Claim) (y : ℕ) → end r ≤ y → claimed (run ks r ++ rest) r.first y ≡ claimed rest r.first y
behind_end ks r rest y l = by (r.count == 0) refl l
  where
    by : (b : Bool) → (r.count == 0) ≡ b → (if b then r.second else r.second + r.step * (r.count - 1) + 1) ≤ y → claimed (run ks r ++ rest) r.first y ≡ claimed rest r.first y
    by true e h = ap (λ n. claimed (stepped r.first r.second r.step n (relation_at ks r.relation) ++ rest) r.first y) (equal r.count 0 e)
    by false e h =
        let some : r.count ≡ suc (r.count - 1) = more r.count (some_count r.count e) in
        ap (λ n. claimed (stepped r.first r.second r.step n (relation_at ks r.relation) ++ rest) r.first y) some
        ∙ ends_before r.first r.second r.step (suc (r.count - 1)) (relation_at ks r.relation) rest r.first y (ahead (r.count - 1) h)
      where
        ahead : (n : ℕ) → r.second + r.step * n + 1 ≤ y → r.second + r.step * suc n < y + r.step
        ahead n h = omega (arith, h)

        more : (n : ℕ) → (n ≡ 0 → ⊥) → n ≡ suc (n - 1)
        more n h = omega (arith, h)

        some_count : (n : ℕ) → (n == 0) ≡ false → n ≡ 0 → ⊥
        some_count n e z = let one : true ≡ false = sym (ap (λ m. m == 0) z) ∙ e in cc one

abbrev pub NotBefore : (a b : ℕ) → Run → Type 0
NotBefore a b r = (a < r.first) ⊎ ((a ≡ r.first) × (b ≤ r.second))

not_before : (a b : ℕ) (r : Run) → is_behind a b r ≡ true → NotBefore a b r × (1 ≤ r.step)
not_before a b r e =
    let parts = and_parts (nat_lt a r.first || ((a == r.first) && nat_le b r.second)) (nat_le 1 r.step) e in
    (by (nat_lt a r.first) ((a == r.first) && nat_le b r.second) refl refl parts.0, at_least 1 r.step parts.1)
  where
    by : (p q : Bool) → nat_lt a r.first ≡ p → ((a == r.first) && nat_le b r.second) ≡ q → (p || q) ≡ true → NotBefore a b r
    by true q e f h = inl (ltb-true a r.first e)
    by false true e f h =
        let two = and_parts (a == r.first) (nat_le b r.second) f in
        inr (equal a r.first two.0, at_least b r.second two.1)
    by false false e f h = cc

-- no run is before the pair that the runs begin at
floor : (a b : ℕ) (rs : List Run) (i : ℕ) (r : Run) → ascend a b rs ≡ true → slice_get rs i ≡ Some r → NotBefore a b r
floor a b [] i r e g = cc
floor a b (x ∷ rs) zero r e g =
    subst (λ (y : Run). NotBefore a b y) (some_is g) (not_before a b x (and_parts (is_behind a b x) (ascend x.first (end x) rs) e).0).0
  where
    some_is : Some x ≡ Some r → x ≡ r
    some_is h = cc
floor a b (x ∷ rs) (suc i) r e g =
    let parts = and_parts (is_behind a b x) (ascend x.first (end x) rs) e in
    joined (not_before a b x parts.0) (floor x.first (end x) rs i r parts.1 g)
  where
    joined : NotBefore a b x × (1 ≤ x.step) → NotBefore x.first (end x) r → NotBefore a b r
    joined (inl p, s) (inl q) = inl (omega (arith, p, q))
    joined (inl p, s) (inr q) = let e = q.0 in inl (omega (arith, p, e))
    joined (inr p, s) (inl q) = let e = p.0 in inl (omega (arith, e, q))
    joined (inr p, s) (inr q) =
        let e = p.0 in let f = q.0 in let u = p.1 in let v = q.1 in let w = end_least x in
        inr (omega (arith, e, f), omega (arith, u, v, w))

-- of runs in order, the pair at a place of one of them is claimed by that one
pub claimed_at : (ks : List Relation) (a b : ℕ) (rs : List Run) (i k : ℕ) (r : Run) → ascend a b rs ≡ true → slice_get rs i ≡ Some r → k < r.count → claimed (runs ks rs) r.first (r.second + r.step * k) ≡ Some (relation_at ks r.relation)
claimed_at ks a b [] i k r e g l = cc
claimed_at ks a b (x ∷ rs) zero k r e g l =
    subst (λ (y : Run). k < y.count → claimed (run ks x ++ runs ks rs) y.first (y.second + y.step * k) ≡ Some (relation_at ks y.relation)) (some_is g)
    (λ m. inside x.first x.second x.step x.count k (relation_at ks x.relation) (runs ks rs) m) l
  where
    some_is : Some x ≡ Some r → x ≡ r
    some_is h = cc
claimed_at ks a b (x ∷ rs) (suc i) k r e g l =
    let parts = and_parts (is_behind a b x) (ascend x.first (end x) rs) e in
    behind (not_before a b x parts.0).1 (floor x.first (end x) rs i r parts.1 g) ∙ claimed_at ks x.first (end x) rs i k r parts.1 g l
  where
    behind : 1 ≤ x.step → NotBefore x.first (end x) r → claimed (run ks x ++ runs ks rs) r.first (r.second + r.step * k) ≡ claimed (runs ks rs) r.first (r.second + r.step * k)
    behind s (inl p) = other_first x.first x.second x.step x.count (relation_at ks x.relation) (runs ks rs) r.first (r.second + r.step * k) (λ h. omega (arith, p, h))
    behind s (inr p) =
        let q = p.1 in
        subst (λ z. claimed (run ks x ++ runs ks rs) z (r.second + r.step * k) ≡ claimed (runs ks rs) z (r.second + r.step * k)) p.0
        (behind_end ks x (runs ks rs) (r.second + r.step * k) (most (r.step * k) q))
      where
        most : (n : ℕ) → end x ≤ r.second → end x ≤ r.second + n
        most n q = omega (arith, q)

-- ---- a pass over a run

-- the claims of a run from a place on
abbrev pub from_place : List Relation → Run → ℕ → List Claim
from_place ks r k = stepped r.first (r.second + r.step * k) r.step (r.count - k) (relation_at ks r.relation)

pub from_first : (ks : List Relation) (r : Run) → from_place ks r 0 ≡ run ks r
from_first ks r =
    let none : r.second + r.step * 0 ≡ r.second = omega (arith) in
    let all : r.count - 0 ≡ r.count = omega (arith) in
    ap (λ b. stepped r.first b r.step (r.count - 0) (relation_at ks r.relation)) none ∙ ap (λ n. stepped r.first r.second r.step n (relation_at ks r.relation)) all

from_next : (ks : List Relation) (r : Run) (k : ℕ) → k < r.count → from_place ks r k ≡ (r.first, r.second + r.step * k, relation_at ks r.relation) ∷ from_place ks r (k + 1)
from_next ks r k l =
    let more : r.count - k ≡ suc (r.count - (k + 1)) = omega (arith, l) in
    let next : (r.second + r.step * k) + r.step ≡ r.second + r.step * (k + 1) = omega (arith) in
    ap (λ n. stepped r.first (r.second + r.step * k) r.step n (relation_at ks r.relation)) more
    ∙ ap (λ b. (r.first, r.second + r.step * k, relation_at ks r.relation) ∷ stepped r.first b r.step (r.count - (k + 1)) (relation_at ks r.relation)) next

pub found_here : (ks : List Relation) (r : Run) (k x y : ℕ) (rest : List Claim) → k < r.count → ((r.first == x) && (r.second + r.step * k == y)) ≡ true → claimed (from_place ks r k ++ rest) x y ≡ Some (relation_at ks r.relation)
found_here ks r k x y rest l e =
    ap (λ ps. claimed (ps ++ rest) x y) (from_next ks r k l)
    ∙ chosen_yes ((r.first == x) && (r.second + r.step * k == y)) (Some (relation_at ks r.relation)) (claimed (from_place ks r (k + 1) ++ rest) x y) e

pub missed_here : (ks : List Relation) (r : Run) (k x y : ℕ) (rest : List Claim) → k < r.count → ((r.first == x) && (r.second + r.step * k == y)) ≡ false → claimed (from_place ks r k ++ rest) x y ≡ claimed (from_place ks r (k + 1) ++ rest) x y
missed_here ks r k x y rest l e =
    ap (λ ps. claimed (ps ++ rest) x y) (from_next ks r k l)
    ∙ chosen_no ((r.first == x) && (r.second + r.step * k == y)) (Some (relation_at ks r.relation)) (claimed (from_place ks r (k + 1) ++ rest) x y) e

-- the same by what stands at a place of runs in order
pub at_place : (ks : List Relation) (rs : List Run) (i k x y : ℕ) (d : Run) → ascend 0 0 rs ≡ true → i < length rs → k < (slice_index_or rs i d).count
    → (((slice_index_or rs i d).first == x) && ((slice_index_or rs i d).second + (slice_index_or rs i d).step * k == y)) ≡ true → claimed (runs ks rs) x y ≡ Some (relation_at ks (slice_index_or rs i d).relation)
at_place ks rs i k x y d e l m h =
    let r : Run = slice_index_or rs i d in
    let two = and_parts (r.first == x) (r.second + r.step * k == y) h in
    subst (λ z. claimed (runs ks rs) z y ≡ Some (relation_at ks r.relation)) (equal r.first x two.0)
    (subst (λ z. claimed (runs ks rs) r.first z ≡ Some (relation_at ks r.relation)) (equal (r.second + r.step * k) y two.1) (claimed_at ks 0 0 rs i k r e (slice_get-get_or rs i d l) m))
