-- Cells by name and place, and their numbers.
use Rattle.std.proofs.Common.{◌≡◌, ◌∙◌, ℕ, zero, suc, ◌+◌, ◌<◌, ◌≤◌, ◌^◌, Bool, true, false, List, [], ◌∷◌, length, get_or, Option, Some, None, refl, sym, ap, subst, arith}
use Rattle.std.specs.Prelude.{ℤ, pos, negsuc, nat_lt, ◌&&◌, ◌||◌, ◌==◌, not, slice_get}
use Rattle.std.proofs.lemmas.Bool.{and_parts, eqb-true, ltb-true, not-true}
use Rattle.std.proofs.lemmas.Cmp.{nat_list_eq_equiv}
use Rattle.ast.specs.Store.{same_name}
use Rattle.ast.proofs.SameNames.{same_itself, same_is}
use Rattle.machine.specs.Code.{Cell}
use Rattle.machine.specs.Frame.{Stack, has_room}
use Rattle.machine.specs.FrameView.{stack_of}
use Rattle.machine.specs.Laid.{are_distinct, are_laid, cell_number, count_of, is_among, names_in, number_at}
use Rattle.machine.specs.Local.{without}
use Rattle.machine.specs.View.{cell_from}
use Rattle.machine.specs.declared.code.Variable.{Variable}
use Rattle.machine.proofs.Stacks.{room_law, without_law}

-- ---- the number of a variable's cell is that of its name

either_false : (a b : Bool) → (a || b) ≡ false → (a ≡ false) × (b ≡ false)
either_false false b h = (refl, h)
either_false true b h = cc

differs : (name : List ℕ) (xs : List Variable) (i : ℕ) (x : Variable) → is_among name (names_in xs) ≡ false → slice_get xs i ≡ Some x → same_name x.name.letters name ≡ false
differs name [] i x h e = cc
differs name (y ∷ ys) zero x h e =
    let k = either_false (same_name y.name.letters name) (is_among name (names_in ys)) h in
    let d : y ≡ x = cc in
    subst (λ (z : Variable). same_name z.name.letters name ≡ false) d k.0
differs name (y ∷ ys) (suc i) x h e =
    differs name ys i x (either_false (same_name y.name.letters name) (is_among name (names_in ys)) h).1 e

pub number_named : (xs : List Variable) (i : ℕ) (x : Variable) (p : ℕ) → are_distinct (names_in xs) ≡ true → slice_get xs i ≡ Some x → number_at xs x.name.letters p ≡ cell_number (Some x) (pos p)
number_named [] i x p h e = cc
number_named (y ∷ ys) zero x p h e =
    let d : y ≡ x = cc in
    subst (λ (z : Variable). number_at (y ∷ ys) z.name.letters p ≡ cell_number (Some z) (pos p)) d (rw (same_itself y.name.letters) refl)
number_named (y ∷ ys) (suc i) x p h e =
    let k = and_parts (not (is_among y.name.letters (names_in ys))) (are_distinct (names_in ys)) h in
    let d = differs y.name.letters ys i x (not-true (is_among y.name.letters (names_in ys)) k.0) e in
    let apart : same_name y.name.letters x.name.letters ≡ false = nat_list_eq_equiv.symm y.name.letters x.name.letters ∙ d in
    rw apart (number_named ys i x p k.1 e)

-- a cell of a variable that has a number
pub record Numbered (xs : List Variable) (o : Option Variable) (z : ℤ) (n : ℕ) : Type 0 where
  pub cell : Cell
  pub number : number_at xs cell.name cell.place ≡ Some n
  pub is : cell_from o z ≡ Some cell

pub numbered : (xs : List Variable) (i : ℕ) (o : Option Variable) (z : ℤ) (n : ℕ) → are_distinct (names_in xs) ≡ true → slice_get xs i ≡ o → cell_number o z ≡ Some n → Numbered xs o z n
numbered xs i None z n h e k = cc
numbered xs i (Some x) (negsuc p) n h e k = cc
numbered xs i (Some x) (pos p) n h e k = by (nat_lt p x.size) refl
  where
    by : (b : Bool) → nat_lt p x.size ≡ b → Numbered xs (Some x) (pos p) n
    by true w = record {
      cell = record { name = x.name.letters; place = p };
      number = number_named xs i x p h e ∙ k;
      is = rw w refl;
    }
    by false w = let z : None ≡ Some n = (rw w at k) in cc

pub unnumbered : (o : Option Variable) (z : ℤ) → cell_number o z ≡ None → cell_from o z ≡ None
unnumbered None (pos p) k = refl
unnumbered None (negsuc p) k = refl
unnumbered (Some x) (negsuc p) k = refl
unnumbered (Some x) (pos p) k = by (nat_lt p x.size) refl
  where
    by : (b : Bool) → nat_lt p x.size ≡ b → cell_from (Some x) (pos p) ≡ None
    by true w = let z : Some (x.start + p) ≡ None = (rw w at k) in cc
    by false w = rw w refl

-- ---- different cells have different numbers

inside : (x : Variable) (p m : ℕ) → cell_number (Some x) (pos p) ≡ Some m → (p < x.size) × (m ≡ x.start + p)
inside x p m h = by (nat_lt p x.size) refl
  where
    by : (b : Bool) → nat_lt p x.size ≡ b → (p < x.size) × (m ≡ x.start + p)
    by true w = let z : Some (x.start + p) ≡ Some m = (rw w at h) in (ltb-true p x.size w, cc)
    by false w = let z : None ≡ Some m = (rw w at h) in cc

record Begins (n : ℕ) (x : Variable) (xs : List Variable) : Type 0 where
  pub at : x.start ≡ n
  pub rest : are_laid (n + x.size) xs ≡ true

begins : (n : ℕ) (x : Variable) (xs : List Variable) → are_laid n (x ∷ xs) ≡ true → Begins n x xs
begins n x xs h =
    let k = and_parts (x.start == n) (nat_lt (n + x.size) (2 ^ 62) && are_laid (n + x.size) xs) h in
    let m = and_parts (nat_lt (n + x.size) (2 ^ 62)) (are_laid (n + x.size) xs) k.1 in
    record { at = eqb-true x.start n k.0; rest = m.1 }

pub within : (n : ℕ) (xs : List Variable) (a : List ℕ) (p m : ℕ) → are_laid n xs ≡ true → number_at xs a p ≡ Some m → (n ≤ m) × (m < n + count_of xs)
within n [] a p m h e = cc
within n (x ∷ xs) a p m h e =
    by (same_name x.name.letters a) refl (λ f. within (n + x.size) xs a p m (begins n x xs h).rest f)
  where
    by : (b : Bool) → same_name x.name.letters a ≡ b → (number_at xs a p ≡ Some m → (n + x.size ≤ m) × (m < n + x.size + count_of xs)) → (n ≤ m) × (m < n + (x.size + count_of xs))
    by true w further =
        let k = inside x p m (rw w at e) in
        let l = begins n x xs h in
        (omega (arith, k.0, k.1, l.at), omega (arith, k.0, k.1, l.at))
    by false w further =
        let k = further (rw w at e) in
        (omega (arith, k.0), omega (arith, k.1))

pub cells_apart : (n : ℕ) (xs : List Variable) (a b : List ℕ) (p q m : ℕ) → are_laid n xs ≡ true → number_at xs a p ≡ Some m → number_at xs b q ≡ Some m → (a ≡ b) × (p ≡ q)
cells_apart n [] a b p q m h e f = cc
cells_apart n (x ∷ xs) a b p q m h e f =
    by (same_name x.name.letters a) (same_name x.name.letters b) refl refl (λ g i. cells_apart (n + x.size) xs a b p q m (begins n x xs h).rest g i)
  where
    by : (c d : Bool) → same_name x.name.letters a ≡ c → same_name x.name.letters b ≡ d → (number_at xs a p ≡ Some m → number_at xs b q ≡ Some m → (a ≡ b) × (p ≡ q)) → (a ≡ b) × (p ≡ q)
    by true true w v further =
        let i = inside x p m (rw w at e) in
        let j = inside x q m (rw v at f) in
        (sym (same_is x.name.letters a w) ∙ same_is x.name.letters b v, omega (arith, i.1, j.1))
    by true false w v further =
        let i = inside x p m (rw w at e) in
        let k = begins n x xs h in
        let j = within (n + x.size) xs b q m k.rest (rw v at f) in
        absurd (omega (arith, i.0, i.1, j.0, k.at))
    by false true w v further =
        let i = inside x q m (rw v at f) in
        let k = begins n x xs h in
        let j = within (n + x.size) xs a p m k.rest (rw w at e) in
        absurd (omega (arith, i.0, i.1, j.0, k.at))
    by false false w v further = further (rw w at e) (rw v at f)

pub cells_below : (xs : List Variable) (a : List ℕ) (p m : ℕ) → are_laid 0 xs ≡ true → number_at xs a p ≡ Some m → m < count_of xs
cells_below xs a p m h e = omega (arith, (within 0 xs a p m h e).1)

-- the number behind the last cell
pub last_of : (n : ℕ) (xs : List Variable) (i : ℕ) (d : Variable) → are_laid n xs ≡ true → length xs ≡ i + 1 → (get_or xs i d).start + (get_or xs i d).size ≡ n + count_of xs
last_of n [] i d h l = absurd (omega (arith, l))
last_of n (x ∷ []) zero d h l = omega (arith, (begins n x [] h).at)
last_of n (x ∷ (y ∷ ys)) zero d h l = absurd (omega (arith, l))
last_of n (x ∷ xs) (suc i) d h l = omega (arith, last_of (n + x.size) xs i d (begins n x xs h).rest (omega (arith, l)))

pub none_counted : (xs : List Variable) → length xs ≡ 0 → count_of xs ≡ 0
none_counted [] h = refl
none_counted (x ∷ xs) h = absurd (omega (arith, h))

-- ---- an element's place is popped before its value is pushed

pub element_room : {X : Type 0} (top : ℕ) (xs : List X) → top < length xs → has_room (without 1 (stack_of top xs)) ≡ true
element_room {X} top xs l = ap (λ (s : Stack X). has_room s) (without_law top 1 xs (omega (arith, l))) ∙ room_law (top + 1) xs (omega arith) (omega (arith, l))
