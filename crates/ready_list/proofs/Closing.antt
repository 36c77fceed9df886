-- What each call leaves, in the words of its contract.
use Rattle.std.proofs.Common.{◌≡◌, ◌∙◌, ℕ, ◌+◌, ◌-◌, ◌<◌, ◌≤◌, ◌^◌, List, [], ◌∷◌, ◌++◌, length, get_or, drop, Option, Some, None, sym, ap, subst, arith, rules}
use Rattle.std.specs.Prelude.{MatchOption, map, option_map, IsTrue, is_some, Bool, Vec}
use Rattle.std.specs.Vec.{with_items}
use Rattle.std.proofs.Math.ListN.{set}
use Rattle.std.proofs.lemmas.List.{append-nil, length-set, get_or_default, with_items_is}
use Rattle.ready_list.specs.Lists.{Lists, IsLinked, list_at, with_list, times_in, places_in, without, inserted, front_of}
use Rattle.ready_list.specs.Places.{last_of, NoneAbove, AllAbove, IsPlaceFor}
use Rattle.ready_list.specs.Table.{blank, node, lists_of, seen_as, Path, Holds, joined, parted}
use Rattle.ready_list.specs.declared.table.Node.{Node}
use Rattle.ready_list.proofs.Counts.{times-here, times-le-places, list-of-place}
use Rattle.ready_list.proofs.Paths.{next-last, owner-last, owner-in}
use Rattle.ready_list.proofs.Changes.{in_table}
use Rattle.ready_list.proofs.Searching.{last_place}
use Rattle.ready_list.proofs.Calls.{IsRead, put, all_low, is_inserted, taken_out, somewhere, without-front}

pub linked : (t : List Node) (n : ℕ) → Holds t n (lists_of t n) → IsLinked (seen_as t n)
linked t n h = record {
  countable = h.countable;
  in_range = λ s a. (let r = list-of-place s (lists_of t n) a in (owner-in t n r.0 (n + r.0) s (get_or (lists_of t n) r.0 []) (h.path r.0 r.1) r.2).0);
  once = h.once;
  ordered = h.ordered;
}

-- the table is seen as x, whose promises hold
pub record IsLeft (t : List Node) (n : ℕ) (x : Lists) : Type 0 where
  pub holds : Holds t n (lists_of t n)
  pub is : seen_as t n ≡ x
  pub linked : IsLinked (seen_as t n)

left : {Z : Type 0} (v : Vec Node Z) (ws : List Node) (n : ℕ) (x : Lists) (ls : List (List (ℕ × ℕ))) → seen_as v.items n ≡ x → length ws ≡ length v.items → IsRead ws n ls → IsLeft (with_items v ws).items n (record x { lists = ls })
left v ws n x ls e len r =
    let w : (with_items v ws).items ≡ ws = with_items_is v ws (len ∙ sym v.ok.0) in
    let slots : n ≡ x.slots = ap (λ a. a.slots) e in
    let is : seen_as ws n ≡ record x { lists = ls } = (let k = r.is in cc) in
    subst (λ a. IsLeft a n (record x { lists = ls })) (sym w) (record { holds = r.holds; is = is; linked = linked ws n r.holds })

length-joined : (t : List Node) (p q y : ℕ) (n : Node) → length (joined t p q y n) ≡ length t
length-joined t p q y n =
    length-set _ q _ ∙ (length-set _ p _ ∙ length-set t y n)

length-parted : (t : List Node) (p q y : ℕ) → length (parted t p q y) ≡ length t
length-parted t p q y = length-set _ y _ ∙ (length-set _ q _ ∙ length-set t p _)

-- the node that an index reads
pub read_node : (t : List Node) (u : ℕ) (x : Node) → u < length t → x ≡ get_or t u x → x ≡ node t u
read_node t u x h e = e ∙ get_or_default t u x blank h

head_within : (t : List Node) (n l : ℕ) (x : Lists) → Holds t n (lists_of t n) → seen_as t n ≡ x → l < length x.lists → n + l < length t
head_within t n l x h e ll = omega (arith, h.size, ap (λ a. length a.lists) e)

pub linked_still : (t : List Node) (n : ℕ) (x : Lists) → Holds t n (lists_of t n) → seen_as t n ≡ x → IsLinked x
linked_still t n x h e = subst (λ a. IsLinked a) e (linked t n h)

pub slot_within : (t : List Node) (n y : ℕ) (x : Lists) → Holds t n (lists_of t n) → seen_as t n ≡ x → 0 < places_in y x.lists → y < length t
slot_within t n y x h e here =
    let a : y < x.slots = (linked_still t n x h e).in_range y here in
    omega (arith, h.size, ap (λ a. a.slots) e)

-- a slot was put behind p
pub put_in : {Z : Type 0} (v : Vec Node Z) (n l y value p q : ℕ) (x : Lists) (s ws : List Node) (front back : List (ℕ × ℕ)) → Holds v.items n (lists_of v.items n) → seen_as v.items n ≡ x → l < length x.lists → y < x.slots → places_in y x.lists ≡ 0 → value < 2 ^ 128 → s ≡ v.items → get_or (lists_of v.items n) l [] ≡ front ++ back → p ≡ last_of (n + l) front → NoneAbove value front → AllAbove value back → q ≡ (node v.items p).next → ws ≡ joined s p q y (record { next = q; previous = p; owner = Some l; value = value }) → IsLeft (with_items v ws).items n (with_list x l (front ++ (y, value) ∷ back))
put_in v n l y value p q x s ws front back h e ll yn free fits se split last low high qe we =
    let t : List Node = v.items in
    let ls : List (List (ℕ × ℕ)) = lists_of t n in
    let lists : ls ≡ x.lists = ap (λ a. a.lists) e in
    let slots : n ≡ x.slots = ap (λ a. a.slots) e in
    let lt : l < length ls = subst (λ a. l < length a) (sym lists) ll in
    let w : ws ≡ joined t p (node t p).next y (record { next = (node t p).next; previous = p; owner = Some l; value = value }) =
    subst (λ b. ws ≡ joined t p b y (record { next = b; previous = p; owner = Some l; value = value })) qe
    (subst (λ a. ws ≡ joined a p q y (record { next = q; previous = p; owner = Some l; value = value })) se we) in
    let r : IsRead ws n (set ls l (front ++ (y, value) ∷ back)) =
    subst (λ a. IsRead a n (set ls l (front ++ (y, value) ∷ back))) (sym w)
    (put t n l y value p front back h lt (omega arith) (subst (λ a. places_in y a ≡ 0) (sym lists) free) fits split last low high) in
    subst (λ a. IsLeft (with_items v ws).items n (record x { lists = set a l (front ++ (y, value) ∷ back) })) lists
    (left v ws n x _ e (ap length w ∙ length-joined t p (node t p).next y _) r)

-- a slot was put at the end
pub pushed_back : {Z : Type 0} (v : Vec Node Z) (n l y p : ℕ) (x : Lists) (s ws : List Node) → Holds v.items n (lists_of v.items n) → seen_as v.items n ≡ x → l < length x.lists → y < x.slots → places_in y x.lists ≡ 0 → s ≡ v.items → (head : Node) → head ≡ get_or v.items (n + l) head → p ≡ head.previous → ws ≡ joined s p (n + l) y (record { next = n + l; previous = p; owner = Some l; value = 2 ^ 128 - 1 }) → IsLeft (with_items v ws).items n (with_list x l (list_at x l ++ (y, 2 ^ 128 - 1) ∷ []))
pushed_back v n l y p x s ws h e ll yn free se head he pe we =
    let t : List Node = v.items in
    let lists : lists_of t n ≡ x.lists = ap (λ a. a.lists) e in
    let zs : List (ℕ × ℕ) = get_or (lists_of t n) l [] in
    let lt : l < length (lists_of t n) = subst (λ a. l < length a) (sym lists) ll in
    let last : p ≡ last_of (n + l) zs = pe ∙ (ap (λ a. a.previous) (read_node t (n + l) head (head_within t n l x h e ll) he) ∙ last_place t n l h lt) in
    let path : Path t n l (n + l) (zs ++ []) = rw append-nil (h.path l lt) in
    let next : n + l ≡ (node t p).next = sym (ap (λ a. (node t a).next) last ∙ next-last t n l (n + l) zs [] path) in
    subst (λ a. IsLeft (with_items v ws).items n (with_list x l (get_or a l [] ++ (y, 2 ^ 128 - 1) ∷ []))) lists
    (put_in v n l y (2 ^ 128 - 1) p (n + l) x s ws zs [] h e ll yn free (omega arith) se (sym (append-nil zs)) last (all_low t n l (n + l) zs h.fits (h.path l lt)) tt next we)

-- a slot was put behind all of at most its value
pub put_by_value : {Z : Type 0} (v : Vec Node Z) (n l y value p q : ℕ) (x : Lists) (s ws : List Node) → Holds v.items n (lists_of v.items n) → seen_as v.items n ≡ x → l < length x.lists → y < x.slots → places_in y x.lists ≡ 0 → value < 2 ^ 128 → s ≡ v.items → IsPlaceFor v.items n l value p → q ≡ (node v.items p).next → ws ≡ joined s p q y (record { next = q; previous = p; owner = Some l; value = value }) → IsLeft (with_items v ws).items n (with_list x l (inserted (y, value) (list_at x l)))
put_by_value v n l y value p q x s ws h e ll yn free fits se place qe we =
    let lists : lists_of v.items n ≡ x.lists = ap (λ a. a.lists) e in
    let is : inserted (y, value) (list_at x l) ≡ place.front ++ (y, value) ∷ place.back =
    ap (λ a. inserted (y, value) (get_or a l [])) (sym lists) ∙ (ap (λ a. inserted (y, value) a) place.split ∙ is_inserted place.front (y, value) place.back place.low place.high) in
    subst (λ a. IsLeft (with_items v ws).items n (with_list x l a)) (sym is)
    (put_in v n l y value p q x s ws place.front place.back h e ll yn free fits se place.split place.last place.low place.high qe we)

-- a slot was taken out of the list that holds it
pub removed : {Z : Type 0} (v : Vec Node Z) (n y : ℕ) (x : Lists) (s ws : List Node) → Holds v.items n (lists_of v.items n) → seen_as v.items n ≡ x → 0 < places_in y x.lists → s ≡ v.items → (own : Node) → own ≡ get_or v.items y own → ws ≡ parted s own.previous own.next y → IsLeft (with_items v ws).items n (record x { lists = map (without y) x.lists })
removed v n y x s ws h e here se own oe we =
    let t : List Node = v.items in
    let lists : lists_of t n ≡ x.lists = ap (λ a. a.lists) e in
    let o = somewhere t n y h (subst (λ a. 0 < places_in y a) (sym lists) here) in
    let oo : own ≡ node t y = read_node t y own (slot_within t n y x h e here) oe in
    let w : ws ≡ parted t (node t y).previous (node t y).next y =
    subst (λ a. ws ≡ parted t a.previous a.next y) oo (subst (λ a. ws ≡ parted a own.previous own.next y) se we) in
    let r : IsRead ws n (map (without y) (lists_of t n)) = subst (λ a. IsRead a n (map (without y) (lists_of t n))) (sym w) o.1.lists in
    subst (λ a. IsLeft (with_items v ws).items n (record x { lists = map (without y) a })) lists
    (left v ws n x _ e (ap length w ∙ length-parted t _ _ y) r)

-- the first slot of a list
pub record IsFirst (t : List Node) (n l y : ℕ) (zs : List (ℕ × ℕ)) : Type 0 where
  pub front : front_of zs ≡ Some (y, (node t y).value)
  pub rest : without y zs ≡ drop 1 zs
  pub here : 0 < times_in y zs

pub first : (t : List Node) (n l y : ℕ) → Holds t n (lists_of t n) → l < length (lists_of t n) → y ≡ (node t (n + l)).next → y < n → IsFirst t n l y (get_or (lists_of t n) l [])
first t n l y h ll e below = by_list t n l y (get_or (lists_of t n) l []) (h.path l ll) (λ w. omega (arith, times-le-places w (lists_of t n) l, h.once w)) e below where
  by_list : (t : List Node) (n l y : ℕ) (zs : List (ℕ × ℕ)) → Path t n l (n + l) zs → ((w : ℕ) → times_in w zs ≤ 1) → y ≡ (node t (n + l)).next → y < n → IsFirst t n l y zs
  by_list t n l y [] p once e below = absurd (omega arith)
  by_list t n l y (z ∷ zs) p once e below =
      let i : y ≡ z.0 = e ∙ p.0 in
      record {
        front = sym (ap (λ a. Some (a, (node t a).value)) i ∙ ap (λ a. Some (z.0, a)) p.3);
        rest = subst (λ a. without a (z ∷ zs) ≡ zs) (sym i) (without-front z zs (once z.0));
        here = subst (λ a. 0 < times_in a (z ∷ zs)) (sym i) (omega (arith, times-here z zs));
      }

-- the first slot of a list was taken out
pub popped : {Z : Type 0} (v : Vec Node Z) (n l y q : ℕ) (x : Lists) (s ws : List Node) → Holds v.items n (lists_of v.items n) → seen_as v.items n ≡ x → l < length x.lists → (head : Node) → head ≡ get_or v.items (n + l) head → y ≡ head.next → y < n → s ≡ v.items → (own : Node) → own ≡ get_or v.items y own → q ≡ own.next → ws ≡ parted s (n + l) q y → IsLeft (with_items v ws).items n (with_list x l (drop 1 (list_at x l)))
popped v n l y q x s ws h e ll head he ye below se own oe qe we =
    let t : List Node = v.items in
    let ls : List (List (ℕ × ℕ)) = lists_of t n in
    let lists : ls ≡ x.lists = ap (λ a. a.lists) e in
    let lt : l < length ls = subst (λ a. l < length a) (sym lists) ll in
    let inside : n + l < length t = head_within t n l x h e ll in
    let yh : y ≡ (node t (n + l)).next = ye ∙ ap (λ a. a.next) (read_node t (n + l) head inside he) in
    let f = first t n l y h lt yh below in
    let o = taken_out t n l y h lt f.here in
    let before : n + l ≡ (node t y).previous = sym (ap (λ a. (node t a).previous) yh ∙ h.back (n + l) inside) in
    let after : q ≡ (node t y).next = qe ∙ ap (λ a. a.next) (read_node t y own (omega (arith, h.size)) oe) in
    let w : ws ≡ parted t (node t y).previous (node t y).next y =
    subst (λ a. ws ≡ parted t a (node t y).next y) before (subst (λ a. ws ≡ parted t (n + l) a y) after (subst (λ a. ws ≡ parted a (n + l) q y) se we)) in
    let r : IsRead ws n (set ls l (drop 1 (get_or ls l []))) = subst (λ a. IsRead ws n (set ls l a)) f.rest (subst (λ a. IsRead a n (set ls l (without y (get_or ls l [])))) (sym w) o.list) in
    subst (λ a. IsLeft (with_items v ws).items n (record x { lists = set a l (drop 1 (get_or a l [])) })) lists
    (left v ws n x _ e (ap length w ∙ length-parted t _ _ y) r)

-- the place that was found, in the table as it is seen
pub found_in : (t s : List Node) (n l value p : ℕ) (x : Lists) → Holds t n (lists_of t n) → seen_as t n ≡ x → l < length x.lists → s ≡ t → IsPlaceFor s n l value p → p < length t
found_in t s n l value p x h e ll se found =
    let place : IsPlaceFor t n l value p = subst (λ a. IsPlaceFor a n l value p) se found in
    let lt : l < length (lists_of t n) = subst (λ a. l < length a) (sym (ap (λ a. a.lists) e)) ll in
    let path : Path t n l (n + l) (place.front ++ place.back) = subst (λ a. Path t n l (n + l) a) place.split (h.path l lt) in
    in_table t p l (ap (λ a. (node t a).owner) place.last ∙ owner-last t n l (n + l) place.front place.back (h.head l lt).0 path)

pub first_answered : (t : List Node) (n l y : ℕ) (x : Lists) (head : Node) → Holds t n (lists_of t n) → seen_as t n ≡ x → l < length x.lists → head ≡ get_or t (n + l) head → y ≡ head.next → y < n → Some y ≡ option_map (λ (a : ℕ × ℕ). a.0) (front_of (list_at x l))
first_answered t n l y x head h e ll he ye below =
    let lists : lists_of t n ≡ x.lists = ap (λ a. a.lists) e in
    let lt : l < length (lists_of t n) = subst (λ a. l < length a) (sym lists) ll in
    let f = first t n l y h lt (ye ∙ ap (λ a. a.next) (read_node t (n + l) head (head_within t n l x h e ll) he)) below in
    sym (ap (λ b. option_map (λ (a : ℕ × ℕ). a.0) (front_of (get_or b l []))) (sym lists) ∙ ap (λ b. option_map (λ (a : ℕ × ℕ). a.0) b) f.front)

-- a slot stands in a list exactly where the list that holds it is known
pub known_place : (o : Option ℕ) (b : Bool) (s : ℕ) (ls : List (List (ℕ × ℕ))) → MatchOption o (places_in s ls ≡ 0) (λ l. (l < length ls) × (0 < times_in s (get_or ls l []))) → b ≡ is_some o → (IsTrue b → 0 < places_in s ls) × (0 < places_in s ls → IsTrue b)
known_place None b s ls h e = (λ a. absurd (let f : IsTrue (is_some {T = ℕ} None) = subst IsTrue e a in search rules), λ a. absurd (omega arith))
known_place (Some l) b s ls h e = (λ _. omega (arith, h.1, times-le-places s ls l), λ _. subst IsTrue (sym e) (search rules))

-- what the node of a place leads to is in the table, as a call sees it
pub after_within : (t s : List Node) (n p : ℕ) (own : Node) → Holds t n (lists_of t n) → s ≡ t → p < length t → own ≡ get_or t p own → own.next < length s
after_within t s n p own h se pt oe =
    subst (λ a. own.next < length a) (sym se) (subst (λ a. a.next < length t) (sym (read_node t p own pt oe)) (h.within p pt).0)

pub before_within : (t s : List Node) (n p : ℕ) (own : Node) → Holds t n (lists_of t n) → s ≡ t → p < length t → own ≡ get_or t p own → own.previous < length s
before_within t s n p own h se pt oe =
    subst (λ a. own.previous < length a) (sym se) (subst (λ a. a.previous < length t) (sym (read_node t p own pt oe)) (h.within p pt).1)
