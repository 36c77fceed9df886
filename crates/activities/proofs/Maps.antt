-- Lists that stand for maps, after a write.
use Rattle.std.proofs.Common.{◌≡◌, ◌∙◌, ℕ, ◌<◌, Bool, true, false, List, length, get_or, Option, Some, None, refl, sym, ap, subst}
use Rattle.std.specs.Prelude.{◌%◌, ◌==◌, eqb, cond, if◌then◌else◌}
use Rattle.std.proofs.Math.ListN.{set}
use Rattle.std.proofs.lemmas.Bool.{eqb-true, eq-eqb, ne_eqb}
use Rattle.std.proofs.lemmas.List.{get_or-set_same, get_or-set_other}
use Rattle.machine.specs.Frame.{Frame}
use Rattle.machine.specs.State.{Active, Wait, put_at}
use Rattle.activities.specs.Parts.{Standing, held_of, numbered, standing, active, wait_in, counts_of}

-- ---- one value of a map

pub decide : (i k : ℕ) (P : Bool → Type 0) → (i ≡ k → P true) → ((i ≡ k → ⊥) → P false) → P (eqb i k)
decide i k P at off = by (eqb i k) refl
  where
    by : (b : Bool) → eqb i k ≡ b → P b
    by true e = at (eqb-true i k e)
    by false e = off (λ h. let z : true ≡ false = sym (eq-eqb i k h) ∙ e in cc)

held_at : {A : Type 0} (xs : List (Option A)) (q : ℕ) (u : Option A) → q < length xs → (r : ℕ) → get_or (set xs q u) r None ≡ cond (eqb r q) u (get_or xs r None)
held_at {A} xs q u h r =
    decide r q (λ b. get_or (set xs q u) r None ≡ cond b u (get_or xs r None))
    (λ e. subst (λ (k : ℕ). get_or (set xs q u) k None ≡ u) (sym e) (get_or-set_same xs q u None h))
    (λ d. get_or-set_other xs q r u None d)

pub held_put : {A : Type 0} (xs : List (Option A)) (q : ℕ) (u : Option A) → q < length xs → held_of (set xs q u) ≡ put_at (held_of xs) q u
unfolding held_of put_at
held_put {A} xs q u h = λ i r. held_at xs q u h r i

-- ---- iterations

-- what stands there is iteration k, if anything does
abbrev pub Mine : ℕ → Option Standing → Type 0
Mine k None = Unit {0}
Mine k (Some a) = a.number ≡ k

pub numbered_mine : (k : ℕ) (o : Option Standing) → Mine k o → numbered k o ≡ o
numbered_mine k None h = refl
numbered_mine k (Some a) h = rw (eq-eqb a.number k h) refl

pub numbered_other : (j k : ℕ) (o : Option Standing) → Mine k o → (j ≡ k → ⊥) → numbered j o ≡ None
numbered_other j k None h d = refl
numbered_other j k (Some a) h d = rw (ne_eqb a.number j (λ e. d (sym e ∙ h))) refl

standing_at : (xs : List (Option Standing)) (s k : ℕ) (b : Option Standing) → k % s < length xs → Mine k (get_or xs (k % s) None) → Mine k b → (j : ℕ) → numbered j (get_or (set xs (k % s) b) (j % s) None) ≡ cond (eqb j k) b (numbered j (get_or xs (j % s) None))
standing_at xs s k b l old new j =
    decide j k (λ c. numbered j (get_or (set xs (k % s) b) (j % s) None) ≡ cond c b (numbered j (get_or xs (j % s) None)))
    (λ e. subst (λ (i : ℕ). numbered i (get_or (set xs (k % s) b) (i % s) None) ≡ b) (sym e) (ap (numbered k) (get_or-set_same xs (k % s) b None l) ∙ numbered_mine k b new))
    (λ d. decide (j % s) (k % s) (λ c. numbered j (get_or (set xs (k % s) b) (j % s) None) ≡ numbered j (get_or xs (j % s) None))
    (λ e. ap (λ (i : ℕ). numbered j (get_or (set xs (k % s) b) i None)) e ∙ ap (numbered j) (get_or-set_same xs (k % s) b None l) ∙ numbered_other j k b new d
    ∙ sym (ap (λ (i : ℕ). numbered j (get_or xs i None)) e ∙ numbered_other j k (get_or xs (k % s) None) old d))
    (λ f. ap (numbered j) (get_or-set_other xs (k % s) (j % s) b None f)))

pub standing_put : (xs : List (Option Standing)) (s k : ℕ) (b : Option Standing) → k % s < length xs → Mine k (get_or xs (k % s) None) → Mine k b → standing (set xs (k % s) b) s ≡ put_at (standing xs s) k b
unfolding standing put_at
standing_put xs s k b l old new = λ i j. standing_at xs s k b l old new j i

pub standing_is : (xs : List (Option Standing)) (s k : ℕ) (o : Option Standing) → get_or xs (k % s) None ≡ o → Mine k o → standing xs s k ≡ o
unfolding standing
standing_is xs s k o e h = ap (numbered k) e ∙ numbered_mine k o h

is_numbered : (k : ℕ) (b a : Standing) → numbered k (Some b) ≡ Some a → (Some b ≡ Some a) × (a.number ≡ k)
is_numbered k b a = by (b.number == k) refl
  where
    by : (c : Bool) → (b.number == k) ≡ c → (if c then Some b else None) ≡ Some a → (Some b ≡ Some a) × (a.number ≡ k)
    by true e f = (f, (let same : b ≡ a = cc in subst (λ (z : Standing). z.number ≡ k) same (eqb-true b.number k e)))
    by false e f = cc

numbered_there : (k : ℕ) (o : Option Standing) (a : Standing) → numbered k o ≡ Some a → (o ≡ Some a) × (a.number ≡ k)
numbered_there k None a e = cc
numbered_there k (Some b) a e = is_numbered k b a e

pub standing_there : (xs : List (Option Standing)) (s k : ℕ) (a : Standing) → standing xs s k ≡ Some a → (get_or xs (k % s) None ≡ Some a) × (a.number ≡ k)
unfolding standing
standing_there xs s k a e = numbered_there k (get_or xs (k % s) None) a e

-- a function of each value
pub put_through : {A B : Type 0} (f : A → B) (g : ℕ → A) (k : ℕ) (v : A) → ◌≡◌ {A = ℕ → B} (λ i. f (put_at g k v i)) (put_at (λ i. f (g i)) k (f v))
unfolding put_at
put_through {A} {B} f g k v = λ i j. by (eqb j k) j i
  where
    by : (b : Bool) (j : ℕ) → f (cond b v (g j)) ≡ cond b (f v) (f (g j))
    by true j = refl
    by false j = refl

pub put_same : {A : Type 0} (f : ℕ → A) (k : ℕ) (v : A) → f k ≡ v → put_at f k v ≡ f
unfolding put_at
put_same {A} f k v e = λ i j. at j i
  where
    at : (j : ℕ) → cond (eqb j k) v (f j) ≡ f j
    at j = decide j k (λ b. cond b v (f j) ≡ f j) (λ h. sym (ap f h ∙ e)) (λ d. refl)

pub iterations_put : (xs : List (Option Standing)) (s k : ℕ) (b : Option Standing) → k % s < length xs → Mine k (get_or xs (k % s) None) → Mine k b → ◌≡◌ {A = ℕ → Option (Active Frame)} (λ i. active (standing (set xs (k % s) b) s i)) (put_at (λ i. active (standing xs s i)) k (active b))
iterations_put xs s k b l old new =
    let g : (ℕ → Option Standing) → ℕ → Option (Active Frame) = λ f i. active (f i) in
    ap g (standing_put xs s k b l old new) ∙ put_through active (standing xs s) k b

pub parked_put : (xs : List (Option Standing)) (s k : ℕ) (b : Option Standing) → k % s < length xs → Mine k (get_or xs (k % s) None) → Mine k b → ◌≡◌ {A = ℕ → Option Wait} (λ i. wait_in (standing (set xs (k % s) b) s i)) (put_at (λ i. wait_in (standing xs s i)) k (wait_in b))
parked_put xs s k b l old new =
    let g : (ℕ → Option Standing) → ℕ → Option Wait = λ f i. wait_in (f i) in
    ap g (standing_put xs s k b l old new) ∙ put_through wait_in (standing xs s) k b

-- ---- counts

count_at : (xs : List ℕ) (e v : ℕ) → e < length xs → (e ≡ 0 → ⊥) → (i : ℕ) → cond (eqb i 0) 0 (get_or (set xs e v) i 0) ≡ cond (eqb i e) v (cond (eqb i 0) 0 (get_or xs i 0))
count_at xs e v l z i =
    decide i e (λ b. cond (eqb i 0) 0 (get_or (set xs e v) i 0) ≡ cond b v (cond (eqb i 0) 0 (get_or xs i 0)))
    (λ h. subst (λ (j : ℕ). cond (eqb j 0) 0 (get_or (set xs e v) j 0) ≡ v) (sym h) (rw (ne_eqb e 0 z) (get_or-set_same xs e v 0 l)))
    (λ d. ap (cond (eqb i 0) 0) (get_or-set_other xs e i v 0 d))

-- an event's count is another
pub counts_put : (xs : List ℕ) (e v : ℕ) → e < length xs → (e ≡ 0 → ⊥) → counts_of (set xs e v) ≡ put_at (counts_of xs) e v
unfolding counts_of put_at
counts_put xs e v l z = λ i j. count_at xs e v l z j i

first_at : (xs : List ℕ) (v i : ℕ) → cond (eqb i 0) 0 (get_or (set xs 0 v) i 0) ≡ cond (eqb i 0) 0 (get_or xs i 0)
first_at xs v i = decide i 0 (λ b. cond b 0 (get_or (set xs 0 v) i 0) ≡ cond b 0 (get_or xs i 0)) (λ e. refl) (λ d. get_or-set_other xs 0 i v 0 d)

-- the count of event 0 is none of them
pub counts_first : (xs : List ℕ) (v : ℕ) → counts_of (set xs 0 v) ≡ counts_of xs
unfolding counts_of
counts_first xs v = λ i j. first_at xs v j i

pub count_is : (xs : List ℕ) (e : ℕ) → (e ≡ 0 → ⊥) → counts_of xs e ≡ get_or xs e 0
unfolding counts_of
count_is xs e z = rw (ne_eqb e 0 z) refl
