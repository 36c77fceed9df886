-- A table holds the lists after a slot is put into one or taken out.
use Rattle.std.proofs.Common.{inl, inr, ◌≡◌, ◌≢◌, ◌∙◌, ℕ, ◌+◌, ◌<◌, ◌≤◌, ◌^◌, List, [], ◌∷◌, ◌++◌, length, get_or, Option, Some, None, refl, sym, ap, subst, arith}
use Rattle.std.proofs.Math.ListN.{set}
use Rattle.std.proofs.lemmas.Bool.{cases_eq, cases_lt}
use Rattle.std.proofs.lemmas.List.{length-set, get_or_past, get_or-set_same, get_or-set_other}
use Rattle.ready_list.specs.Lists.{times_in, places_in, InOrder}
use Rattle.ready_list.specs.Places.{last_of}
use Rattle.ready_list.specs.Table.{blank, node, Path, Holds}
use Rattle.ready_list.specs.declared.table.Node.{Node}
use Rattle.ready_list.proofs.Counts.{times-append, times-here, times-there, times-mid, places-set, times-le-places}
use Rattle.ready_list.proofs.Linked.{HasJoined, HasParted}
use Rattle.ready_list.proofs.Orders.{order-remove}
use Rattle.ready_list.proofs.Paths.{IsSame, first_or, next-last, next_after, owner-last, owner-in, moved, inserted-path, removed-path}

unowned : (o : Option ℕ) → ((m : ℕ) → o ≡ Some m → ⊥) → o ≡ None
unowned None f = refl
unowned (Some m) f = absurd (f m refl)

-- a slot that stands nowhere is alone
pub stands_alone : (t : List Node) (n : ℕ) (ls : List (List (ℕ × ℕ))) (y : ℕ) → Holds t n ls → y < n → places_in y ls ≡ 0 → ((node t y).owner ≡ None) × ((node t y).next ≡ y) × ((node t y).previous ≡ y)
stands_alone t n ls y h yn z =
    let o : (node t y).owner ≡ None = unowned (node t y).owner (λ m e. omega (arith, (h.held y m yn e).1, times-le-places y ls m)) in
    let f = h.free y yn o in (o, f.1, f.2)

pub one_of : (ls : List (List (ℕ × ℕ))) (l : ℕ) (xs : List (ℕ × ℕ)) → l < length ls → get_or (set ls l xs) l [] ≡ xs
one_of ls l xs h = get_or-set_same ls l xs [] h

pub in_table : (t : List Node) (u l : ℕ) → (node t u).owner ≡ Some l → u < length t
in_table t u l o = elim (cases_lt u (length t)) [
  | inl h ↦ h
  | inr h ↦ (let e : None ≡ Some l = sym (ap (λ x. x.owner) (get_or_past t u blank h)) ∙ o in cc)
]

at_list : (P : ℕ → List (ℕ × ℕ) → Type 0) (ls : List (List (ℕ × ℕ))) (l : ℕ) (zs : List (ℕ × ℕ)) (m : ℕ) → l < length ls → P l zs → (m ≢ l → P m (get_or ls m [])) → P m (get_or (set ls l zs) m [])
at_list P ls l zs m h a b = elim (cases_eq m l) [
  | inl e ↦ subst (λ k. P k (get_or (set ls l zs) k [])) (sym e) (subst (λ k. P l k) (sym (one_of ls l zs h)) a)
  | inr d ↦ subst (λ k. P m k) (sym (get_or-set_other ls l m zs [] d)) (b d)
]

pub holds-joined : (t t' : List Node) (n : ℕ) (ls : List (List (ℕ × ℕ))) (l y v p q : ℕ) (new : Node) (xs ys : List (ℕ × ℕ)) → Holds t n ls → l < length ls → get_or ls l [] ≡ xs ++ ys → y < n → places_in y ls ≡ 0 → p ≡ last_of (n + l) xs → q ≡ (node t p).next → new.next ≡ q → new.previous ≡ p → new.owner ≡ Some l → new.value ≡ v → v < 2 ^ 128 → HasJoined t t' p q y new → InOrder (xs ++ (y, v) ∷ ys) → Holds t' n (set ls l (xs ++ (y, v) ∷ ys))
holds-joined t t' n ls l y v p q new xs ys h ll split yn free lp qp new_next new_previous new_owner new_value vfits j order =
    let zs : List (ℕ × ℕ) = xs ++ (y, v) ∷ ys in
    let ls' : List (List (ℕ × ℕ)) = set ls l zs in
    let len : length ls' ≡ length ls = length-set ls l zs in
    let alone = stands_alone t n ls y h yn free in
    let path : Path t n l (n + l) (xs ++ ys) = subst (λ a. Path t n l (n + l) a) split (h.path l ll) in
    let op : (node t p).owner ≡ Some l = ap (λ a. (node t a).owner) lp ∙ owner-last t n l (n + l) xs ys (h.head l ll).0 path in
    let py : p ≢ y = λ e. (let z : Some l ≡ None = sym op ∙ (ap (λ a. (node t a).owner) e ∙ alone.0) in cc) in
    let pt : p < length t = in_table t p l op in
    let size = h.size in
    let yt : y < length t = omega arith in
    let back : (node t q).previous ≡ p = ap (λ a. (node t a).previous) qp ∙ h.back p pt in
    let qt : q < length t = subst (λ a. a < length t) (sym qp) (h.within p pt).0 in
    let next_p : (node t' p).next ≡ y = j.next_before in
    let next_y : (node t' y).next ≡ q = j.next_slot ∙ new_next in
    let prev_q : (node t' q).previous ≡ y = j.previous_after in
    let prev_y : (node t' y).previous ≡ p = j.previous_slot ∙ new_previous in
    let owner_y : (node t' y).owner ≡ Some l = j.owner_slot ∙ new_owner in
    let value_y : (node t' y).value ≡ v = j.value_slot ∙ new_value in
    let split_times : (s : ℕ) → times_in s (get_or ls l []) ≡ times_in s (xs ++ ys) = λ s. ap (λ a. times_in s a) split in
    let count : (s : ℕ) → places_in s ls' ≡ places_in s ls + times_in s ((y, v) ∷ []) = λ s. omega (arith, places-set s ls l zs ll, split_times s, times-mid s xs (y, v) ys) in
    let few : (s : ℕ) → times_in s (xs ++ ys) ≤ places_in s ls = λ s. omega (arith, times-le-places s ls l, split_times s) in
    let heads_out : (m : ℕ) → n + m ≢ y = λ m e. omega arith in
    let head_absent : times_in (n + l) (xs ++ ys) ≡ 0 = elim (cases_lt 0 (times_in (n + l) (xs ++ ys))) [
      | inl a ↦ (let r = owner-in t n l (n + l) (n + l) (xs ++ ys) path a in omega (arith, r.0))
      | inr b ↦ omega arith
    ] in
    record {
      countable = h.countable;
      size = omega (arith, j.size);
      head = λ m hm. (let k = h.head m (omega arith) in (j.owner_other (n + m) (heads_out m) ∙ k.0, j.value_other (n + m) (heads_out m) ∙ k.1));
      path = λ m hm. at_list (λ a b. Path t' n a (n + a) b) ls l zs m ll
          (inserted-path t t' n l (n + l) p y v xs ys lp yn next_p (next_y ∙ qp) owner_y value_y j.owner_other j.value_other j.next_other (omega (arith, few y)) head_absent (heads_out l) (λ w. omega (arith, few w, h.once w)) path)
          (λ d.
          let mm : m < length ls = omega arith in
          let apart : (w : ℕ) → (node t w).owner ≡ Some m → w ≢ p = λ w o e. (let z : Some m ≡ Some l = sym o ∙ (ap (λ a. (node t a).owner) e ∙ op) in d cc) in
          let same : (w : ℕ) → 0 < times_in w (get_or ls m []) → IsSame t t' w = λ w a.
          let r = owner-in t n m (n + m) w (get_or ls m []) (h.path m mm) a in
          let wy : w ≢ y = λ e. (let z : Some m ≡ None = sym r.1 ∙ (ap (λ a. (node t a).owner) e ∙ alone.0) in cc) in
          record { next = j.next_other w (apart w r.1) wy; owner = j.owner_other w wy; value = j.value_other w wy } in
          moved t t' n m (n + m) (n + m) (get_or ls m []) same (j.next_other (n + m) (apart (n + m) (h.head m mm).0) (heads_out m)) (h.path m mm));
      back = λ u hu. elim (cases_eq u p) [
        | inl e ↦ ap (λ a. (node t' a).previous) (ap (λ a. (node t' a).next) e ∙ next_p) ∙ (prev_y ∙ sym e)
        | inr up ↦ elim (cases_eq u y) [
          | inl e ↦ ap (λ a. (node t' a).previous) (ap (λ a. (node t' a).next) e ∙ next_y) ∙ (prev_q ∙ sym e)
          | inr uy ↦
              let b : (node t (node t u).next).previous ≡ u = h.back u (omega (arith, j.size)) in
              let wq : (node t u).next ≢ q = λ e. up (sym b ∙ (ap (λ a. (node t a).previous) e ∙ back)) in
              let wy : (node t u).next ≢ y = λ e. uy (sym b ∙ (ap (λ a. (node t a).previous) e ∙ alone.2)) in
              ap (λ a. (node t' a).previous) (j.next_other u up uy) ∙ (j.previous_other (node t u).next wq wy ∙ b)
        ]
      ];
      within = λ u hu.
          let ut : u < length t = omega (arith, j.size) in
          let size' = j.size in
          let w = h.within u ut in (
            elim (cases_eq u p) [
              | inl e ↦ (let z : (node t' u).next ≡ y = ap (λ a. (node t' a).next) e ∙ next_p in omega arith)
              | inr up ↦ elim (cases_eq u y) [
                | inl e ↦ (let z : (node t' u).next ≡ q = ap (λ a. (node t' a).next) e ∙ next_y in omega arith)
                | inr uy ↦ (let z = j.next_other u up uy in omega arith)
              ]
            ],
            elim (cases_eq u q) [
              | inl e ↦ (let z : (node t' u).previous ≡ y = ap (λ a. (node t' a).previous) e ∙ prev_q in omega arith)
              | inr uq ↦ elim (cases_eq u y) [
                | inl e ↦ (let z : (node t' u).previous ≡ p = ap (λ a. (node t' a).previous) e ∙ prev_y in omega arith)
                | inr uy ↦ (let z = j.previous_other u uq uy in omega arith)
              ]
            ],
          );
      free = λ s sn o.
          let sy : s ≢ y = λ e. (let z : None ≡ Some l = sym o ∙ (ap (λ a. (node t' a).owner) e ∙ owner_y) in cc) in
          let ot : (node t s).owner ≡ None = sym (j.owner_other s sy) ∙ o in
          let f = h.free s sn ot in
          let sp : s ≢ p = λ e. (let z : None ≡ Some l = sym ot ∙ (ap (λ a. (node t a).owner) e ∙ op) in cc) in
          let sq : s ≢ q = λ e. sp (sym f.2 ∙ (ap (λ a. (node t a).previous) e ∙ back)) in
          (omega (arith, count s, times-there s (y, v) [] sy, f.0), j.next_other s sp sy ∙ f.1, j.previous_other s sq sy ∙ f.2);
      held = λ s m sn o. elim (cases_eq s y) [
        | inl e ↦
            let ml : m ≡ l = (let z : Some m ≡ Some l = sym o ∙ (ap (λ a. (node t' a).owner) e ∙ owner_y) in cc) in
            (omega arith, at_list (λ a b. (a ≡ l → 0 < times_in s b)) ls l zs m ll (λ _. subst (λ a. 0 < times_in a zs) (sym e) (omega (arith, times-mid y xs (y, v) ys, times-here (y, v) []))) (λ d k. absurd (d k)) ml)
        | inr sy ↦
            let k = h.held s m sn (sym (j.owner_other s sy) ∙ o) in
            (omega (arith, k.0), at_list (λ a b. (0 < times_in s (get_or ls a []) → 0 < times_in s b)) ls l zs m ll (λ i. omega (arith, times-mid s xs (y, v) ys, split_times s)) (λ d i. i) k.1)
      ];
      once = λ s. elim (cases_eq s y) [
        | inl e ↦ (let z : places_in s ls ≡ places_in y ls = ap (λ a. places_in a ls) e in let z2 : times_in s ((y, v) ∷ []) ≡ times_in y ((y, v) ∷ []) = ap (λ a. times_in a ((y, v) ∷ [])) e in omega (arith, count s, times-here (y, v) []))
        | inr sy ↦ omega (arith, count s, times-there s (y, v) [] sy, h.once s)
      ];
      ordered = λ m hm. at_list (λ a b. InOrder b) ls l zs m ll order (λ d. h.ordered m (omega arith));
      fits = λ u. elim (cases_eq u y) [
        | inl e ↦ (let z : (node t' u).value ≡ v = ap (λ a. (node t' a).value) e ∙ value_y in subst (λ a. a < 2 ^ 128) (sym z) vfits)
        | inr uy ↦ subst (λ a. a < 2 ^ 128) (sym (j.value_other u uy)) (h.fits u)
      ];
    }

last_apart : (u y : ℕ) (xs : List (ℕ × ℕ)) → u ≢ y → times_in y xs ≡ 0 → last_of u xs ≢ y
last_apart u y [] d z = d
last_apart u y (x ∷ xs) d z = last_apart x.0 y xs (λ e. (let k : times_in x.0 (x ∷ xs) ≡ times_in y (x ∷ xs) = ap (λ a. times_in a (x ∷ xs)) e in omega (arith, times-here x xs))) (omega arith)

first_apart : (u y : ℕ) (xs : List (ℕ × ℕ)) → u ≢ y → times_in y xs ≡ 0 → first_or u xs ≢ y
first_apart u y [] d z = d
first_apart u y (x ∷ xs) d z = λ e. (let k : times_in x.0 (x ∷ xs) ≡ times_in y (x ∷ xs) = ap (λ a. times_in a (x ∷ xs)) e in omega (arith, times-here x xs))

-- what stands around a slot of a list
pub record IsAround (t : List Node) (n l y : ℕ) (xs : List (ℕ × ℕ)) : Type 0 where
  pub before : (node t y).previous ≡ last_of (n + l) xs
  pub owner : (node t y).owner ≡ Some l
  pub owner_before : (node t (node t y).previous).owner ≡ Some l
  pub next_before : (node t (node t y).previous).next ≡ y
  pub apart_before : (node t y).previous ≢ y
  pub apart_after : (node t y).next ≢ y
  pub before_within : (node t y).previous < length t
  pub after_within : (node t y).next < length t
  pub within : y < n

pub around : (t : List Node) (n : ℕ) (ls : List (List (ℕ × ℕ))) (l y v : ℕ) (xs ys : List (ℕ × ℕ)) → Holds t n ls → l < length ls → get_or ls l [] ≡ xs ++ (y, v) ∷ ys → IsAround t n l y xs
around t n ls l y v xs ys h ll split =
    let zs : List (ℕ × ℕ) = xs ++ (y, v) ∷ ys in
    let path : Path t n l (n + l) zs = subst (λ a. Path t n l (n + l) a) split (h.path l ll) in
    let here : 0 < times_in y zs = omega (arith, times-mid y xs (y, v) ys, times-here (y, v) []) in
    let here_once : times_in y zs ≤ 1 = omega (arith, times-le-places y ls l, ap (λ a. times_in y a) split, h.once y) in
    let o = owner-in t n l (n + l) y zs path here in
    let none : times_in y (xs ++ ys) ≡ 0 = omega (arith, times-mid y xs (y, v) ys, times-here (y, v) []) in
    let p : ℕ = last_of (n + l) xs in
    let op : (node t p).owner ≡ Some l = owner-last t n l (n + l) xs ((y, v) ∷ ys) (h.head l ll).0 path in
    let np : (node t p).next ≡ y = next-last t n l (n + l) xs ((y, v) ∷ ys) path in
    let b : (node t y).previous ≡ p = ap (λ a. (node t a).previous) (sym np) ∙ h.back p (in_table t p l op) in
    let head_apart : n + l ≢ y = λ e. omega (arith, o.0) in
    let after : (node t y).next ≡ first_or (n + l) ys = next_after t n l (n + l) y v xs ys path in
    let w = h.within y (omega (arith, h.size, o.0)) in
    record {
      before = b;
      owner = o.1;
      owner_before = ap (λ a. (node t a).owner) b ∙ op;
      next_before = ap (λ a. (node t a).next) b ∙ np;
      apart_before = λ e. last_apart (n + l) y xs head_apart (omega (arith, times-append y xs ys)) (sym b ∙ e);
      apart_after = λ e. first_apart (n + l) y ys head_apart (omega (arith, times-append y xs ys)) (sym after ∙ e);
      before_within = w.1;
      after_within = w.0;
      within = o.0;
    }

pub holds-parted : (t t' : List Node) (n : ℕ) (ls : List (List (ℕ × ℕ))) (l y v : ℕ) (xs ys : List (ℕ × ℕ)) → Holds t n ls → l < length ls → get_or ls l [] ≡ xs ++ (y, v) ∷ ys → HasParted t t' (node t y).previous (node t y).next y → Holds t' n (set ls l (xs ++ ys))
holds-parted t t' n ls l y v xs ys h ll split j =
    let a = around t n ls l y v xs ys h ll split in
    let p : ℕ = (node t y).previous in
    let q : ℕ = (node t y).next in
    let zs : List (ℕ × ℕ) = xs ++ (y, v) ∷ ys in
    let ls' : List (List (ℕ × ℕ)) = set ls l (xs ++ ys) in
    let len : length ls' ≡ length ls = length-set ls l (xs ++ ys) in
    let path : Path t n l (n + l) zs = subst (λ k. Path t n l (n + l) k) split (h.path l ll) in
    let size = h.size in
    let yn = a.within in
    let yt : y < length t = omega arith in
    let pt : p < length t = a.before_within in
    let qt : q < length t = a.after_within in
    let back_q : (node t q).previous ≡ y = h.back y yt in
    let split_times : (s : ℕ) → times_in s (get_or ls l []) ≡ times_in s zs = λ s. ap (λ k. times_in s k) split in
    let count : (s : ℕ) → places_in s ls' + times_in s ((y, v) ∷ []) ≡ places_in s ls = λ s. omega (arith, places-set s ls l (xs ++ ys) ll, split_times s, times-mid s xs (y, v) ys) in
    let few : (s : ℕ) → times_in s zs ≤ 1 = λ s. omega (arith, times-le-places s ls l, split_times s, h.once s) in
    let heads_out : (m : ℕ) → n + m ≢ y = λ m e. omega arith in
    let head_absent : times_in (n + l) zs ≡ 0 = elim (cases_lt 0 (times_in (n + l) zs)) [
      | inl i ↦ (let r = owner-in t n l (n + l) (n + l) zs path i in omega (arith, r.0))
      | inr i ↦ omega arith
    ] in
    record {
      countable = h.countable;
      size = omega (arith, j.size);
      head = λ m hm. (let k = h.head m (omega arith) in (j.owner_other (n + m) (heads_out m) ∙ k.0, j.value_same (n + m) ∙ k.1));
      path = λ m hm. at_list (λ b c. Path t' n b (n + b) c) ls l (xs ++ ys) m ll
          (removed-path t t' n l (n + l) p y v xs ys a.before j.next_before j.owner_other (λ w wy. j.value_same w) j.next_other head_absent few path)
          (λ d.
          let mm : m < length ls = omega arith in
          let apart : (w : ℕ) → (node t w).owner ≡ Some m → w ≢ p = λ w o e. (let z : Some m ≡ Some l = sym o ∙ (ap (λ b. (node t b).owner) e ∙ a.owner_before) in d cc) in
          let apart_y : (w : ℕ) → (node t w).owner ≡ Some m → w ≢ y = λ w o e. (let z : Some m ≡ Some l = sym o ∙ (ap (λ b. (node t b).owner) e ∙ a.owner) in d cc) in
          let same : (w : ℕ) → 0 < times_in w (get_or ls m []) → IsSame t t' w = λ w i.
          let r = owner-in t n m (n + m) w (get_or ls m []) (h.path m mm) i in
          record { next = j.next_other w (apart w r.1) (apart_y w r.1); owner = j.owner_other w (apart_y w r.1); value = j.value_same w } in
          moved t t' n m (n + m) (n + m) (get_or ls m []) same (j.next_other (n + m) (apart (n + m) (h.head m mm).0) (heads_out m)) (h.path m mm));
      back = λ u hu. elim (cases_eq u y) [
        | inl e ↦ ap (λ b. (node t' b).previous) (ap (λ b. (node t' b).next) e ∙ j.next_slot) ∙ (j.previous_slot ∙ sym e)
        | inr uy ↦ elim (cases_eq u p) [
          | inl e ↦ ap (λ b. (node t' b).previous) (ap (λ b. (node t' b).next) e ∙ j.next_before) ∙ (j.previous_after ∙ sym e)
          | inr up ↦
              let b : (node t (node t u).next).previous ≡ u = h.back u (omega (arith, j.size)) in
              let wq : (node t u).next ≢ q = λ e. uy (sym b ∙ (ap (λ c. (node t c).previous) e ∙ back_q)) in
              let wy : (node t u).next ≢ y = λ e. up (sym b ∙ ap (λ c. (node t c).previous) e) in
              ap (λ c. (node t' c).previous) (j.next_other u up uy) ∙ (j.previous_other (node t u).next wq wy ∙ b)
        ]
      ];
      within = λ u hu.
          let ut : u < length t = omega (arith, j.size) in
          let size' = j.size in
          let w = h.within u ut in (
            elim (cases_eq u p) [
              | inl e ↦ (let z : (node t' u).next ≡ q = ap (λ b. (node t' b).next) e ∙ j.next_before in omega arith)
              | inr up ↦ elim (cases_eq u y) [
                | inl e ↦ (let z : (node t' u).next ≡ y = ap (λ b. (node t' b).next) e ∙ j.next_slot in omega arith)
                | inr uy ↦ (let z = j.next_other u up uy in omega arith)
              ]
            ],
            elim (cases_eq u q) [
              | inl e ↦ (let z : (node t' u).previous ≡ p = ap (λ b. (node t' b).previous) e ∙ j.previous_after in omega arith)
              | inr uq ↦ elim (cases_eq u y) [
                | inl e ↦ (let z : (node t' u).previous ≡ y = ap (λ b. (node t' b).previous) e ∙ j.previous_slot in omega arith)
                | inr uy ↦ (let z = j.previous_other u uq uy in omega arith)
              ]
            ],
          );
      free = λ s sn o. elim (cases_eq s y) [
        | inl e ↦
            let z : places_in s ls' ≡ places_in y ls' = ap (λ b. places_in b ls') e in
            (omega (arith, count y, times-here (y, v) [], h.once y), ap (λ b. (node t' b).next) e ∙ (j.next_slot ∙ sym e), ap (λ b. (node t' b).previous) e ∙ (j.previous_slot ∙ sym e))
        | inr sy ↦
            let ot : (node t s).owner ≡ None = sym (j.owner_other s sy) ∙ o in
            let f = h.free s sn ot in
            let sp : s ≢ p = λ e. (let z : None ≡ Some l = sym ot ∙ (ap (λ b. (node t b).owner) e ∙ a.owner_before) in cc) in
            let sq : s ≢ q = λ e. sy (sym f.2 ∙ (ap (λ b. (node t b).previous) e ∙ back_q)) in
            (omega (arith, count s, f.0), j.next_other s sp sy ∙ f.1, j.previous_other s sq sy ∙ f.2)
      ];
      held = λ s m sn o. elim (cases_eq s y) [
        | inl e ↦ (let z : Some m ≡ None = sym o ∙ (ap (λ b. (node t' b).owner) e ∙ j.owner_slot) in cc)
        | inr sy ↦
            let k = h.held s m sn (sym (j.owner_other s sy) ∙ o) in
            (omega (arith, k.0), at_list (λ b c. (0 < times_in s (get_or ls b []) → 0 < times_in s c)) ls l (xs ++ ys) m ll (λ i. omega (arith, times-mid s xs (y, v) ys, split_times s, times-there s (y, v) [] sy)) (λ d i. i) k.1)
      ];
      once = λ s. omega (arith, count s, h.once s);
      ordered = λ m hm. at_list (λ b c. InOrder c) ls l (xs ++ ys) m ll (order-remove xs (y, v) ys (subst (λ b. InOrder b) split (h.ordered l ll))) (λ d. h.ordered m (omega arith));
      fits = λ u. subst (λ b. b < 2 ^ 128) (sym (j.value_same u)) (h.fits u);
    }
