-- What is known holds of each path.
use Rattle.std.proofs.Common.{◌≡◌, ◌∙◌, ◌⊎◌, inl, inr, ℕ, zero, suc, Bool, true, false, not, ◌&&◌, ◌||◌, List, [], ◌∷◌, Some, None, get_or, refl, sym, ap, subst, ⊎_elim, true≢false, arith, ◌≤◌, min, max}
use Rattle.std.specs.Prelude.{◌==◌, nat_le}
use Rattle.std.proofs.lemmas.Bool.{leb-true, le-leb, eq-eqb, ne_eqb, cases_eq, and_parts}
use Rattle.loop_tree.specs.Paths.{Token, uses, defines, await, advance}
use Rattle.plan_check.proofs.Facts.{Below, Fact, defined, near, free, advanced, fact, turn}
use Rattle.plan_check.specs.Flow.{Known, Near, both, both_near, further, is_near, joined, nearer, put, step, with_await}

-- ---- lists by index

pub get_put : {A : Type 0} (xs : List A) (n k : ℕ) (v d : A) → (k ≡ n → ⊥) → get_or (put xs n v) k d ≡ get_or xs k d
get_put [] n k v d h = refl
get_put (x ∷ xs) zero zero v d h = absurd (h refl)
get_put (x ∷ xs) zero (suc k) v d h = refl
get_put (x ∷ xs) (suc n) zero v d h = refl
get_put (x ∷ xs) (suc n) (suc k) v d h = get_put xs n k v d (λ e. h (ap suc e))

put_true : (xs : List Bool) (n k : ℕ) → get_or (put xs n true) k false ≡ true → ((n == k) || get_or xs k false) ≡ true
put_true xs n k e = ⊎_elim
    (λ same. ap (λ (b : Bool). b || get_or xs k false) (eq-eqb n k (sym same)))
    (λ ne. let h : get_or xs k false ≡ true = sym (get_put xs n k true false ne) ∙ e in by (n == k) (get_or xs k false) h)
    (cases_eq k n)
  where
    by : (a b : Bool) → b ≡ true → (a || b) ≡ true
    by true b h = refl
    by false b h = h

put_false : (xs : List Bool) (n k : ℕ) → get_or (put xs n false) k false ≡ true → (not (n == k) && get_or xs k false) ≡ true
put_false xs n k e = ⊎_elim
    (λ same. absurd (at xs n (subst (λ (z : ℕ). get_or (put xs n false) z false ≡ true) same e)))
    (λ ne. let h : get_or xs k false ≡ true = sym (get_put xs n k false false ne) ∙ e in by (n == k) (get_or xs k false) (ne_eqb n k (λ q. ne (sym q))) h)
    (cases_eq k n)
  where
    at : (ys : List Bool) (m : ℕ) → get_or (put ys m false) m false ≡ true → ⊥
    at [] m h = cc
    at (y ∷ ys) zero h = cc
    at (y ∷ ys) (suc m) h = at ys m h

    by : (a b : Bool) → a ≡ false → b ≡ true → (not a && b) ≡ true
    by true b p h = cc
    by false b p h = h

both_get : (xs ys : List Bool) (k : ℕ) → get_or (both xs ys) k false ≡ true → (get_or xs k false ≡ true) × (get_or ys k false ≡ true)
both_get [] ys k e = cc
both_get (x ∷ xs) [] zero e = and_parts x false e
both_get (x ∷ xs) [] (suc k) e = let h = both_get xs [] k e in (h.0, h.1)
both_get (x ∷ xs) (y ∷ ys) zero e = and_parts x y e
both_get (x ∷ xs) (y ∷ ys) (suc k) e = both_get xs ys k e

nearer_near : (d : ℕ) (n : Near) (m : ℕ) → is_near (nearer d n) m ≡ true → (nat_le d m || is_near n m) ≡ true
nearer_near d None m e = by (nat_le d m) e
  where
    by : (a : Bool) → a ≡ true → (a || false) ≡ true
    by true h = refl
    by false h = h
nearer_near d (Some n) m e = ⊎_elim (λ h. left (nat_le d m) (nat_le n m) h) (λ h. right (nat_le d m) (nat_le n m) h) (which (leb-true (min n d) m e))
  where
    left : (a b : Bool) → a ≡ true → (a || b) ≡ true
    left true b h = refl
    left false b h = cc

    right : (a b : Bool) → b ≡ true → (a || b) ≡ true
    right true b h = refl
    right false b h = h

    which : min n d ≤ m → (nat_le d m ≡ true) ⊎ (nat_le n m ≡ true)
    which h = by (nat_le n m) refl
      where
        by : (b : Bool) → nat_le n m ≡ b → (nat_le d m ≡ true) ⊎ (nat_le n m ≡ true)
        by true p = inr p
        by false p = inl (le-leb d m (let ne : n ≤ m → ⊥ = λ q. true≢false (sym (le-leb n m q) ∙ p) in other ne))
          where
            other : (n ≤ m → ⊥) → d ≤ m
            other ne = omega (arith, ne, h)

await_other : (ns : List Near) (e d k : ℕ) → (k ≡ e → ⊥) → get_or (with_await ns e d) k None ≡ get_or ns k None
await_other [] e d k h = refl
await_other (n ∷ ns) zero d zero h = absurd (h refl)
await_other (n ∷ ns) zero d (suc k) h = refl
await_other (n ∷ ns) (suc e) d zero h = refl
await_other (n ∷ ns) (suc e) d (suc k) h = await_other ns e d k (λ q. h (ap suc q))

await_same : (ns : List Near) (e d m : ℕ) → is_near (get_or (with_await ns e d) e None) m ≡ true → (nat_le d m || is_near (get_or ns e None) m) ≡ true
await_same [] e d m h = cc
await_same (n ∷ ns) zero d m h = nearer_near d n m h
await_same (n ∷ ns) (suc e) d m h = await_same ns e d m h

with_await_near : (ns : List Near) (e d k m : ℕ) → is_near (get_or (with_await ns e d) k None) m ≡ true → (((e == k) && nat_le d m) || is_near (get_or ns k None) m) ≡ true
with_await_near ns e d k m h = ⊎_elim
    (λ same. let g = await_same ns e d m (subst (λ (z : ℕ). is_near (get_or (with_await ns e d) z None) m ≡ true) same h) in
    subst (λ (z : ℕ). (((e == z) && nat_le d m) || is_near (get_or ns z None) m) ≡ true) (sym same) (ap (λ (b : Bool). (b && nat_le d m) || is_near (get_or ns e None) m) (eq-eqb e e refl) ∙ g))
    (λ ne. let g : is_near (get_or ns k None) m ≡ true = sym (ap (λ (o : Near). is_near o m) (await_other ns e d k ne)) ∙ h in right ((e == k) && nat_le d m) (is_near (get_or ns k None) m) g)
    (cases_eq k e)
  where
    right : (a b : Bool) → b ≡ true → (a || b) ≡ true
    right true b h = refl
    right false b h = h

further_near : (x y : Near) (m : ℕ) → is_near (further x y) m ≡ true → (is_near x m ≡ true) × (is_near y m ≡ true)
further_near None y m e = cc
further_near (Some x) None m e = cc
further_near (Some x) (Some y) m e = let h = leb-true (max x y) m e in (le-leb x m (omega (arith, h)), le-leb y m (omega (arith, h)))

both_near_get : (xs ys : List Near) (k m : ℕ) → is_near (get_or (both_near xs ys) k None) m ≡ true → (is_near (get_or xs k None) m ≡ true) × (is_near (get_or ys k None) m ≡ true)
both_near_get [] ys k m e = cc
both_near_get (x ∷ xs) [] zero m e = further_near x None m e
both_near_get (x ∷ xs) [] (suc k) m e = let h = both_near_get xs [] k m e in (h.0, h.1)
both_near_get (x ∷ xs) (y ∷ ys) zero m e = further_near x y m e
both_near_get (x ∷ xs) (y ∷ ys) (suc k) m e = both_near_get xs ys k m e

-- ---- one token

pub step_turns : (f : Fact) (x : Token) (s : Known) → fact f (step x s) ≡ true → turn f x (fact f s) ≡ true
step_turns (defined c) (uses r) s e = e
step_turns (defined c) (defines r) s e = put_true s.defined r.cell c e
step_turns (defined c) (await n d) s e = e
step_turns (defined c) (advance n) s e = e
step_turns (near k m) (uses r) s e = e
step_turns (near k m) (defines r) s e = e
step_turns (near k m) (await n d) s e = with_await_near s.near n d k m e
step_turns (near k m) (advance n) s e = e
step_turns (free k) (uses r) s e = e
step_turns (free k) (defines r) s e = e
step_turns (free k) (await n d) s e = e
step_turns (free k) (advance n) s e = put_false s.free n k e
step_turns (advanced k) (uses r) s e = e
step_turns (advanced k) (defines r) s e = e
step_turns (advanced k) (await n d) s e = e
step_turns (advanced k) (advance n) s e = put_true s.advanced n k e

or_true : (a b : Bool) → (a || b) ≡ true → (a || true) ≡ true
or_true true b h = refl
or_true false b h = refl

and_true : (a b : Bool) → (a && b) ≡ true → (a && true) ≡ true
and_true true b h = refl
and_true false b h = h

-- more known before, more known behind
pub turn_grows : (f : Fact) (x : Token) (b : Bool) → turn f x b ≡ true → turn f x true ≡ true
turn_grows (defined c) (uses r) b e = refl
turn_grows (defined c) (defines r) b e = or_true (r.cell == c) b e
turn_grows (defined c) (await n d) b e = refl
turn_grows (defined c) (advance n) b e = refl
turn_grows (near k m) (uses r) b e = refl
turn_grows (near k m) (defines r) b e = refl
turn_grows (near k m) (await n d) b e = or_true ((n == k) && nat_le d m) b e
turn_grows (near k m) (advance n) b e = refl
turn_grows (free k) (uses r) b e = refl
turn_grows (free k) (defines r) b e = refl
turn_grows (free k) (await n d) b e = refl
turn_grows (free k) (advance n) b e = and_true (not (n == k)) b e
turn_grows (advanced k) (uses r) b e = refl
turn_grows (advanced k) (defines r) b e = refl
turn_grows (advanced k) (await n d) b e = refl
turn_grows (advanced k) (advance n) b e = or_true (n == k) b e

pub step_below : (x : Token) (s : Known) (b : Fact → Bool) → Below s b → Below (step x s) (λ f. turn f x (b f))
step_below x s b h f e = by (fact f s) refl
  where
    by : (c : Bool) → fact f s ≡ c → turn f x (b f) ≡ true
    by true p = subst (λ (z : Bool). turn f x z ≡ true) (sym (h f p)) (subst (λ (z : Bool). turn f x z ≡ true) p (step_turns f x s e))
    by false p = also (b f) (subst (λ (z : Bool). turn f x z ≡ true) p (step_turns f x s e))
      where
        also : (c : Bool) → turn f x false ≡ true → turn f x c ≡ true
        also true q = turn_grows f x false q
        also false q = q

-- ---- joins

pub joined_left : (s r : Known) (f : Fact) → fact f (joined s r) ≡ true → fact f s ≡ true
joined_left s r (defined c) e = (both_get s.defined r.defined c e).0
joined_left s r (near k m) e = (both_near_get s.near r.near k m e).0
joined_left s r (free k) e = (both_get s.free r.free k e).0
joined_left s r (advanced k) e = (both_get s.advanced r.advanced k e).0

pub joined_right : (s r : Known) (f : Fact) → fact f (joined s r) ≡ true → fact f r ≡ true
joined_right s r (defined c) e = (both_get s.defined r.defined c e).1
joined_right s r (near k m) e = (both_near_get s.near r.near k m e).1
joined_right s r (free k) e = (both_get s.free r.free k e).1
joined_right s r (advanced k) e = (both_get s.advanced r.advanced k e).1
