-- The slots at the front of a list wake, one after another.
use Rattle.std.proofs.Common.{◌≡◌, ◌≢◌, ◌∙◌, ℕ, suc, ◌+◌, ◌<◌, ◌≤◌, ◌^◌, List, [], ◌∷◌, ◌++◌, length, get_or, take, drop, Bool, true, false, Some, None, refl, sym, ap, subst, arith, append_assoc}
use Rattle.std.specs.Prelude.{if◌then◌else◌, nat_le, map, cond}
use Rattle.std.proofs.Math.ListN.{set}
use Rattle.std.proofs.lemmas.List.{append-nil, length-set, get_or-set_same, get_or-set_other, set-set, set_comm, set-get_or}
use Rattle.ready_list.specs.Lists.{Lists, IsLinked, list_at, with_list, times_in, places_in}
use Rattle.ready_list.specs.declared.links.TheConstants.{LAST}
use Rattle.ready_list.proofs.Counts.{times-here, times-le-places, places-set, few}
use Rattle.ec_kernel.specs.Kept.{at_end, reached_part, woken, due_of}

-- what a due slot says of its list
pub record IsDue (count s : ℕ) (zs : List (ℕ × ℕ)) : Type 0 where
  pub first : ℕ × ℕ
  pub is : zs ≡ first ∷ drop 1 zs
  pub slot : first.0 ≡ s
  pub part : reached_part count zs ≡ suc (reached_part count (drop 1 zs))

pub is_due : (count s : ℕ) (zs : List (ℕ × ℕ)) → Some s ≡ due_of count zs → IsDue count s zs
is_due count s [] e = cc
is_due count s (z ∷ zs) e = go (nat_le z.1 count) refl e where
  go : (b : Bool) → nat_le z.1 count ≡ b → Some s ≡ (if nat_le z.1 count then Some z.0 else None) → IsDue count s (z ∷ zs)
  go true t e =
      let f : Some s ≡ Some z.0 = e ∙ rw t refl in
      record { first = z; is = refl; slot = cc; part = rw t (omega arith) }
  go false t e = (let f : Some s ≡ None = e ∙ rw t refl in cc)

pub none_due : (count : ℕ) (zs : List (ℕ × ℕ)) → None ≡ due_of count zs → reached_part count zs ≡ 0
none_due count [] e = refl
none_due count (z ∷ zs) e = go (nat_le z.1 count) refl e where
  go : (b : Bool) → nat_le z.1 count ≡ b → None ≡ (if nat_le z.1 count then Some z.0 else None) → reached_part count (z ∷ zs) ≡ 0
  go true t e = (let f : None ≡ Some z.0 = e ∙ rw t refl in cc)
  go false t e = rw t refl

part-le-length : (count : ℕ) (zs : List (ℕ × ℕ)) → reached_part count zs ≤ length zs
part-le-length count [] = omega arith
part-le-length count (z ∷ zs) = let r = part-le-length count zs in elim (nat_le z.1 count) as (λ b. cond b (1 + reached_part count zs) 0 ≤ suc (length zs)) [ true ↦ omega arith | false ↦ omega arith ]

-- on the way: x0 was given, k slots have woken, x is left
pub record IsWaking (x0 x : Lists) (l count k : ℕ) : Type 0 where
  pub linked : IsLinked x
  pub lists : length x.lists ≡ length x0.lists
  pub same : woken x l count ≡ woken x0 l count
  pub number : k + reached_part count (list_at x l) ≡ reached_part count (list_at x0 l)
  pub countable : reached_part count (list_at x0 l) < 2 ^ 64

pub begun : (x : Lists) (l count : ℕ) → IsLinked x → l < length x.lists → IsWaking x x l count 0
begun x l count h ll =
    let zs : List (ℕ × ℕ) = list_at x l in
    let short : length zs ≤ x.slots = few x.slots zs (λ w. omega (arith, times-le-places w x.lists l, h.once w)) (λ w a. h.in_range w (omega (arith, times-le-places w x.lists l))) in
    record { linked = h; lists = refl; same = refl; number = omega arith; countable = omega (arith, part-le-length count zs, h.countable) }

-- a due slot may go to the ready list once it is taken out of its own
pub is_out : (x y : Lists) (l count s : ℕ) → IsLinked x → l < length x.lists → Some s ≡ due_of count (list_at x l) → y ≡ with_list x l (drop 1 (list_at x l)) → places_in s y.lists ≡ 0
is_out x y l count s h ll e ye =
    let d = is_due count s (list_at x l) e in
    let here : times_in s (list_at x l) ≡ 1 + times_in s (drop 1 (list_at x l)) =
    subst (λ a. times_in a (list_at x l) ≡ 1 + times_in a (drop 1 (list_at x l))) d.slot (ap (λ a. times_in d.first.0 a) d.is ∙ times-here d.first (drop 1 (list_at x l))) in
    omega (arith, ap (λ a. places_in s a.lists) ye, places-set s x.lists l (drop 1 (list_at x l)) ll, h.once s, times-le-places s x.lists l)

pub is_slot : (x y : Lists) (l count s : ℕ) → IsLinked x → Some s ≡ due_of count (list_at x l) → y ≡ with_list x l (drop 1 (list_at x l)) → s < y.slots
is_slot x y l count s h e ye =
    let d = is_due count s (list_at x l) e in
    let here : times_in s (list_at x l) ≡ 1 + times_in s (drop 1 (list_at x l)) =
    subst (λ a. times_in a (list_at x l) ≡ 1 + times_in a (drop 1 (list_at x l))) d.slot (ap (λ a. times_in d.first.0 a) d.is ∙ times-here d.first (drop 1 (list_at x l))) in
    omega (arith, ap (λ a. a.slots) ye, h.in_range s (omega (arith, times-le-places s x.lists l)))

sets : (ls : List (List (ℕ × ℕ))) (l : ℕ) (a b c d : List (ℕ × ℕ)) → l ≢ 0 → set (set (set (set ls l a) 0 b) l c) 0 d ≡ set (set ls l c) 0 d
sets ls l a b c d ne =
    ap (λ z. set z 0 d) (set_comm (set ls l a) 0 l b c (λ e. ne (sym e)) ∙ ap (λ z. set z 0 b) (set-set ls l a c)) ∙ set-set (set ls l c) 0 b d

moved : (x y z : Lists) (l count s : ℕ) → l < length x.lists → 0 < l → Some s ≡ due_of count (list_at x l) → y ≡ with_list x l (drop 1 (list_at x l)) → z ≡ with_list y 0 (list_at y 0 ++ (s, LAST) ∷ []) → (woken z l count ≡ woken x l count) × (suc (reached_part count (list_at z l)) ≡ reached_part count (list_at x l)) × (length z.lists ≡ length x.lists) × (list_at z l ≡ drop 1 (list_at x l))
moved x y z l count s ll lo e ye ze =
    let zs : List (ℕ × ℕ) = list_at x l in
    let r : List (ℕ × ℕ) = drop 1 zs in
    let ls : List (List (ℕ × ℕ)) = x.lists in
    let d = is_due count s zs e in
    let m : ℕ = reached_part count r in
    let ready : List (ℕ × ℕ) = get_or ls 0 [] ++ (s, LAST) ∷ [] in
    let still : get_or (set ls l r) 0 [] ≡ get_or ls 0 [] = get_or-set_other ls l 0 r [] (omega arith) in
    let zl : z ≡ record x { lists = set (set ls l r) 0 ready } =
    ze ∙ (ap (λ a. with_list a 0 (list_at a 0 ++ (s, LAST) ∷ [])) ye ∙ ap (λ a. record x { lists = set (set ls l r) 0 (a ++ (s, LAST) ∷ []) }) still) in
    let at_l : get_or (set (set ls l r) 0 ready) l [] ≡ r =
    get_or-set_other (set ls l r) 0 l ready [] (omega arith) ∙ get_or-set_same ls l r [] ll in
    let at_0 : get_or (set (set ls l r) 0 ready) 0 [] ≡ ready = get_or-set_same (set ls l r) 0 ready [] (omega (arith, length-set ls l r)) in
    let first : d.first ≡ (s, d.first.1) = ap (λ a. (a, d.first.1)) d.slot in
    let front : take (suc m) zs ≡ d.first ∷ take m r = ap (λ a. take (suc m) a) d.is in
    let back : drop (suc m) zs ≡ drop m r = ap (λ a. drop (suc m) a) d.is in
    let ends : ready ++ map at_end (take m r) ≡ get_or ls 0 [] ++ map at_end (take (suc m) zs) =
    append_assoc (get_or ls 0 []) ((s, LAST) ∷ []) (map at_end (take m r))
    ∙ (ap (λ (a : ℕ). get_or ls 0 [] ++ (a, LAST) ∷ map at_end (take m r)) (sym d.slot) ∙ ap (λ a. get_or ls 0 [] ++ map at_end a) (sym front)) in
    let L : List (List (ℕ × ℕ)) = set (set ls l r) 0 ready in
    let part : suc m ≡ reached_part count zs = sym d.part in
    let woken_lists : woken z l count ≡ woken x l count =
    ap (λ a. woken a l count) zl
    ∙ (ap (λ a. record x { lists = set (set L l (drop (reached_part count a) a)) 0 (get_or L 0 [] ++ map at_end (take (reached_part count a) a)) }) at_l
    ∙ (ap (λ a. record x { lists = set (set L l (drop m r)) 0 (a ++ map at_end (take m r)) }) at_0
    ∙ (ap (λ a. record x { lists = a }) (sets ls l r ready (drop m r) (ready ++ map at_end (take m r)) (omega arith))
    ∙ (ap (λ a. record x { lists = set (set ls l (drop m r)) 0 a }) ends
    ∙ (ap (λ a. record x { lists = set (set ls l a) 0 (get_or ls 0 [] ++ map at_end (take (suc m) zs)) }) (sym back)
    ∙ ap (λ a. record x { lists = set (set ls l (drop a zs)) 0 (get_or ls 0 [] ++ map at_end (take a zs)) }) part))))) in
    let at_z : list_at z l ≡ r = ap (λ a. list_at a l) zl ∙ at_l in
    (woken_lists, ap (λ a. suc (reached_part count a)) at_z ∙ part, ap (λ a. length a.lists) zl ∙ (length-set (set ls l r) 0 ready ∙ length-set ls l r), at_z)

pub stepped : (x0 x y z : Lists) (l count k s : ℕ) → IsWaking x0 x l count k → l < length x0.lists → 0 < l → Some s ≡ due_of count (list_at x l) → y ≡ with_list x l (drop 1 (list_at x l)) → z ≡ with_list y 0 (list_at y 0 ++ (s, LAST) ∷ []) → IsLinked z → IsWaking x0 z l count (k + 1)
stepped x0 x y z l count k s h ll lo e ye ze linked =
    let m = moved x y z l count s (omega (arith, h.lists)) lo e ye ze in
    record { linked = linked; lists = m.2 ∙ h.lists; same = m.0 ∙ h.same; number = omega (arith, m.1, h.number); countable = h.countable }

pub shorter : (x y z : Lists) (l count s : ℕ) → l < length x.lists → 0 < l → Some s ≡ due_of count (list_at x l) → y ≡ with_list x l (drop 1 (list_at x l)) → z ≡ with_list y 0 (list_at y 0 ++ (s, LAST) ∷ []) → length (list_at z l) < length (list_at x l)
shorter x y z l count s ll lo e ye ze =
    let m = moved x y z l count s ll lo e ye ze in
    let d = is_due count s (list_at x l) e in
    omega (arith, ap length m.3, ap length d.is)

-- what has woken, where no slot is due any more
pub record HasWoken (x0 x : Lists) (l count k : ℕ) : Type 0 where
  pub number : k ≡ reached_part count (list_at x0 l)
  pub lists : x ≡ woken x0 l count

pub ended : (x0 x : Lists) (l count k : ℕ) → IsWaking x0 x l count k → None ≡ due_of count (list_at x l) → HasWoken x0 x l count k
ended x0 x l count k h e =
    let none : reached_part count (list_at x l) ≡ 0 = none_due count (list_at x l) e in
    let same : woken x l count ≡ x =
    ap (λ a. with_list (with_list x l (drop a (list_at x l))) 0 (list_at x 0 ++ map at_end (take a (list_at x l)))) none
    ∙ (ap (λ a. with_list (record x { lists = a }) 0 (list_at x 0 ++ [])) (set-get_or x.lists l [])
    ∙ (ap (λ a. record x { lists = set x.lists 0 a }) (append-nil (list_at x 0)) ∙ ap (λ a. record x { lists = a }) (set-get_or x.lists 0 []))) in
    record { number = omega (arith, none, h.number); lists = sym same ∙ h.same }
