-- What the calls do to the lists that are read off the table.
use Rattle.std.proofs.Common.{inl, inr, ◌≡◌, ◌≢◌, ◌∙◌, ℕ, zero, suc, ◌+◌, ◌-◌, ◌<◌, ◌≤◌, ◌^◌, List, [], ◌∷◌, ◌++◌, length, get_or, Some, None, true, false, refl, sym, ap, subst, arith}
use Rattle.std.specs.Prelude.{nat_le, map}
use Rattle.std.proofs.Math.ListN.{set}
use Rattle.std.proofs.lemmas.Bool.Decides.{nat_tests}
use Rattle.std.proofs.lemmas.Bool.{cases_eq, le-leb, lt-leb}
use Rattle.ready_list.specs.Lists.{times_in, places_in, without, inserted, InOrder, NoneBelow}
use Rattle.ready_list.specs.Places.{last_of, NoneAbove, AllAbove}
use Rattle.ready_list.specs.Table.{node, lists_of, Path, Holds, joined, parted}
use Rattle.ready_list.specs.declared.table.Node.{Node}
use Rattle.ready_list.proofs.Counts.{without-absent, times-here, times-there, times-mid, times-le-places, list-of-place}
use Rattle.ready_list.proofs.Orders.{order-insert}
use Rattle.ready_list.proofs.Linked.{has-joined, has-parted}
use Rattle.ready_list.proofs.Paths.{owner-last}
use Rattle.ready_list.proofs.Changes.{in_table, stands_alone, around, holds-joined, holds-parted}
use Rattle.ready_list.proofs.Seen.{seen}

-- the lists of the table are these
pub record IsRead (t : List Node) (n : ℕ) (ls : List (List (ℕ × ℕ))) : Type 0 where
  pub is : lists_of t n ≡ ls
  pub holds : Holds t n (lists_of t n)

pub read : (t : List Node) (n : ℕ) (ls : List (List (ℕ × ℕ))) → Holds t n ls → IsRead t n ls
read t n ls h = record { is = seen t n ls h; holds = subst (λ a. Holds t n a) (sym (seen t n ls h)) h }

none-below : (v : ℕ) (xs : List (ℕ × ℕ)) → AllAbove v xs → NoneBelow v xs
none-below v [] h = tt
none-below v (x ∷ xs) h = (omega (arith, h.0), none-below v xs h.1)

-- a slot that stands nowhere is put where its value belongs
pub put : (t : List Node) (n l y v p : ℕ) (front back : List (ℕ × ℕ)) → Holds t n (lists_of t n) → l < length (lists_of t n) → y < n → places_in y (lists_of t n) ≡ 0 → v < 2 ^ 128 → get_or (lists_of t n) l [] ≡ front ++ back → p ≡ last_of (n + l) front → NoneAbove v front → AllAbove v back → IsRead (joined t p (node t p).next y (record { next = (node t p).next; previous = p; owner = Some l; value = v })) n (set (lists_of t n) l (front ++ (y, v) ∷ back))
put t n l y v p front back h ll yn free fits split last low high =
    let ls : List (List (ℕ × ℕ)) = lists_of t n in
    let new : Node = record { next = (node t p).next; previous = p; owner = Some l; value = v } in
    let alone = stands_alone t n ls y h yn free in
    let path : Path t n l (n + l) (front ++ back) = subst (λ a. Path t n l (n + l) a) split (h.path l ll) in
    let op : (node t p).owner ≡ Some l = ap (λ a. (node t a).owner) last ∙ owner-last t n l (n + l) front back (h.head l ll).0 path in
    let pt : p < length t = in_table t p l op in
    let py : p ≢ y = λ e. (let z : Some l ≡ None = sym op ∙ (ap (λ a. (node t a).owner) e ∙ alone.0) in cc) in
    let qy : (node t p).next ≢ y = λ e. py (sym (h.back p pt) ∙ (ap (λ a. (node t a).previous) e ∙ alone.2)) in
    let order : InOrder (front ++ (y, v) ∷ back) = order-insert front (y, v) back low (none-below v back high) (subst (λ a. InOrder a) split (h.ordered l ll)) in
    let j = has-joined t p (node t p).next y new pt (h.within p pt).0 (omega (arith, h.size)) py qy in
    read _ n _ (holds-joined t _ n ls l y v p (node t p).next new front back h ll split yn free last refl refl refl refl refl fits j order)

pub all_low : (t : List Node) (n l u : ℕ) (xs : List (ℕ × ℕ)) → ((w : ℕ) → (node t w).value < 2 ^ 128) → Path t n l u xs → NoneAbove (2 ^ 128 - 1) xs
all_low t n l u [] f p = tt
all_low t n l u (x ∷ xs) f p = (let k = f x.0 in omega (arith, p.3), all_low t n l x.0 xs f p.4)

pub is_inserted : (xs : List (ℕ × ℕ)) (y : ℕ × ℕ) (ys : List (ℕ × ℕ)) → NoneAbove y.1 xs → AllAbove y.1 ys → inserted y (xs ++ ys) ≡ xs ++ y ∷ ys
is_inserted [] y [] a b = refl
is_inserted [] y (z ∷ ys) a b = let e : nat_le z.1 y.1 ≡ false = lt-leb z.1 y.1 b.0 in rw e refl
is_inserted (x ∷ xs) y ys a b = let e : nat_le x.1 y.1 ≡ true = le-leb x.1 y.1 a.0 in rw (e, is_inserted xs y ys a.1 b) refl

without-mid : (xs : List (ℕ × ℕ)) (s v : ℕ) (ys : List (ℕ × ℕ)) → times_in s (xs ++ ys) ≡ 0 → without s (xs ++ (s, v) ∷ ys) ≡ xs ++ ys
without-mid [] s v ys z = let r : without s ys ≡ ys = without-absent s ys z in grind (arith, nat_tests)
without-mid (x ∷ xs) s v ys z = elim (cases_eq s x.0) [
  | inl e ↦ absurd (let k : times_in s (x ∷ (xs ++ ys)) ≡ times_in x.0 (x ∷ (xs ++ ys)) = ap (λ a. times_in a (x ∷ (xs ++ ys))) e in omega (arith, times-here x (xs ++ ys)))
  | inr d ↦ (let r : without s (xs ++ (s, v) ∷ ys) ≡ xs ++ ys = without-mid xs s v ys (omega arith) in grind (arith, nat_tests))
]

-- a slot that stands in one list alone is taken out of that list alone
pub without-set : (s : ℕ) (ls : List (List (ℕ × ℕ))) (l : ℕ) → places_in s ls ≤ 1 → 0 < times_in s (get_or ls l []) → map (without s) ls ≡ set ls l (without s (get_or ls l []))
without-set s [] l o h = absurd (omega arith)
without-set s (xs ∷ ls) zero o h = ap (λ a. without s xs ∷ a) (none s ls (omega arith)) where
  none : (s : ℕ) (ls : List (List (ℕ × ℕ))) → places_in s ls ≡ 0 → map (without s) ls ≡ ls
  none s [] z = refl
  none s (xs ∷ ls) z =
      let a : without s xs ≡ xs = without-absent s xs (omega arith) in
      let b : map (without s) ls ≡ ls = none s ls (omega arith) in
      rw (a, b) refl
without-set s (xs ∷ ls) (suc l) o h =
    let k = times-le-places s ls l in
    let a : without s xs ≡ xs = without-absent s xs (omega arith) in
    rw (a, without-set s ls l (omega arith) h) refl

-- a list with a slot in it
record HasSlot (s : ℕ) (zs : List (ℕ × ℕ)) : Type 0 where
  pub front : List (ℕ × ℕ)
  pub value : ℕ
  pub back : List (ℕ × ℕ)
  pub is : zs ≡ front ++ (s, value) ∷ back

has_slot : (s : ℕ) (zs : List (ℕ × ℕ)) → 0 < times_in s zs → HasSlot s zs
has_slot s [] h = absurd (omega arith)
has_slot s (z ∷ zs) h = elim (cases_eq s z.0) [
  | inl e ↦ record { front = []; value = z.1; back = zs; is = ap (λ a. (a, z.1) ∷ zs) (sym e) }
  | inr d ↦ (let r = has_slot s zs (omega (arith, times-there s z zs d)) in record { front = z ∷ r.front; value = r.value; back = r.back; is = ap (λ a. z ∷ a) r.is })
]

-- a slot of a list may be taken out
pub record IsTakenOut (t : List Node) (n l y : ℕ) : Type 0 where
  pub previous_in_range : (node t y).previous < length t
  pub next_in_range : (node t y).next < length t
  pub slot_in_range : y < length t
  pub below : y < n
  pub lists : IsRead (parted t (node t y).previous (node t y).next y) n (map (without y) (lists_of t n))
  pub list : IsRead (parted t (node t y).previous (node t y).next y) n (set (lists_of t n) l (without y (get_or (lists_of t n) l [])))

pub taken_out : (t : List Node) (n l y : ℕ) → Holds t n (lists_of t n) → l < length (lists_of t n) → 0 < times_in y (get_or (lists_of t n) l []) → IsTakenOut t n l y
taken_out t n l y h ll here =
    let ls : List (List (ℕ × ℕ)) = lists_of t n in
    let r = has_slot y (get_or ls l []) here in
    let a = around t n ls l y r.value r.front r.back h ll r.is in
    let yt : y < length t = omega (arith, h.size, a.within) in
    let j = has-parted t (node t y).previous (node t y).next y a.before_within a.after_within yt a.apart_before a.apart_after in
    let few : times_in y (r.front ++ r.back) ≡ 0 = omega (arith, ap (λ b. times_in y b) r.is, times-mid y r.front (y, r.value) r.back, times-here (y, r.value) [], times-le-places y ls l, h.once y) in
    let out : without y (get_or ls l []) ≡ r.front ++ r.back = ap (λ b. without y b) r.is ∙ without-mid r.front y r.value r.back few in
    let done : IsRead (parted t (node t y).previous (node t y).next y) n (set ls l (without y (get_or ls l []))) =
    read _ n _ (subst (λ b. Holds (parted t (node t y).previous (node t y).next y) n (set ls l b)) (sym out) (holds-parted t _ n ls l y r.value r.front r.back h ll r.is j)) in
    record {
      previous_in_range = a.before_within;
      next_in_range = a.after_within;
      slot_in_range = yt;
      below = a.within;
      list = done;
      lists = subst (λ b. IsRead (parted t (node t y).previous (node t y).next y) n b) (sym (without-set y ls l (h.once y) here)) done;
    }

-- a slot that stands somewhere may be taken out
pub somewhere : (t : List Node) (n y : ℕ) → Holds t n (lists_of t n) → 0 < places_in y (lists_of t n) → (l : ℕ) × IsTakenOut t n l y
somewhere t n y h here =
    let r = list-of-place y (lists_of t n) here in
    (r.0, taken_out t n r.0 y h r.1 r.2)

pub without-front : (x : ℕ × ℕ) (xs : List (ℕ × ℕ)) → times_in x.0 (x ∷ xs) ≤ 1 → without x.0 (x ∷ xs) ≡ xs
without-front x xs o = without-mid [] x.0 x.1 xs (omega (arith, times-here x xs))
