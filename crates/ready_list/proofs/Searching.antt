-- The search for a place from the end of a list.
use Rattle.std.proofs.Common.{inl, inr, ◌≡◌, ◌∙◌, ℕ, zero, suc, ◌+◌, ◌<◌, ◌≤◌, List, [], ◌∷◌, ◌++◌, length, get_or, Some, refl, sym, ap, subst, arith, append_assoc}
use Rattle.std.specs.Prelude.{◌==◌, ◌⊎◌, if◌then◌else◌}
use Rattle.std.proofs.lemmas.Bool.Decides.{nat_tests}
use Rattle.std.proofs.lemmas.List.{append-nil, length-append}
use Rattle.std.proofs.lemmas.Bool.{cases_lt}
use Rattle.ready_list.specs.Lists.{times_in, InOrder, NoneBelow}
use Rattle.ready_list.specs.Places.{last_of, NoneAbove, AllAbove, IsPlaceFor}
use Rattle.ready_list.specs.Table.{node, lists_of, Path, Holds}
use Rattle.ready_list.specs.declared.table.Node.{Node}
use Rattle.ready_list.proofs.Counts.{times-append, times-here, times-le-places}
use Rattle.ready_list.proofs.Paths.{next-last, owner-last, owner-in}
use Rattle.ready_list.proofs.Changes.{in_table, around}

-- a list that isn't empty ends with a last element
record Ends (xs : List (ℕ × ℕ)) : Type 0 where
  pub init : List (ℕ × ℕ)
  pub end : ℕ × ℕ
  pub is : xs ≡ init ++ end ∷ []

ends : (xs : List (ℕ × ℕ)) → (xs ≡ []) ⊎ Ends xs
ends [] = inl refl
ends (x ∷ xs) = elim (ends xs) [
  | inl e ↦ inr (record { init = []; end = x; is = ap (λ a. x ∷ a) e })
  | inr e ↦ inr (record { init = x ∷ e.init; end = e.end; is = ap (λ a. x ∷ a) e.is })
]

last-end : (u : ℕ) (xs : List (ℕ × ℕ)) (z : ℕ × ℕ) → last_of u (xs ++ z ∷ []) ≡ z.0
last-end u [] z = refl
last-end u (x ∷ xs) z = last-end x.0 xs z

abbrev more : ℕ → ℕ
more zero = 0
more (suc k) = suc (suc k)

-- the number of slots up to p and with it, 0 where p isn't in the list
abbrev pub rank : ℕ → List (ℕ × ℕ) → ℕ
rank p [] = 0
rank p (x ∷ xs) = if p == x.0 then 1 else more (rank p xs)

rank-absent : (p : ℕ) (xs : List (ℕ × ℕ)) → times_in p xs ≡ 0 → rank p xs ≡ 0
rank-absent p [] z = refl
rank-absent p (x ∷ xs) z =
    let r : rank p xs ≡ 0 = rank-absent p xs (omega arith) in
    rw r (grind (arith, nat_tests))

rank-mid : (xs : List (ℕ × ℕ)) (z : ℕ × ℕ) (ys : List (ℕ × ℕ)) → times_in z.0 xs ≡ 0 → rank z.0 (xs ++ z ∷ ys) ≡ suc (length xs)
rank-mid [] z ys t = grind (arith, nat_tests)
rank-mid (x ∷ xs) z ys t =
    let r : rank z.0 (xs ++ z ∷ ys) ≡ suc (length xs) = rank-mid xs z ys (omega arith) in
    rw r (grind (arith, nat_tests))

-- all behind p is above v
pub record IsTried (t : List Node) (n l v p : ℕ) : Type 0 where
  pub front : List (ℕ × ℕ)
  pub back : List (ℕ × ℕ)
  pub split : get_or (lists_of t n) l [] ≡ front ++ back
  pub last : p ≡ last_of (n + l) front
  pub high : AllAbove v back
  pub within : p < length t

-- the head's previous is the last of its list
pub last_place : (t : List Node) (n l : ℕ) → Holds t n (lists_of t n) → l < length (lists_of t n) → (node t (n + l)).previous ≡ last_of (n + l) (get_or (lists_of t n) l [])
last_place t n l h ll =
    let zs : List (ℕ × ℕ) = get_or (lists_of t n) l [] in
    let path : Path t n l (n + l) (zs ++ []) = rw append-nil (h.path l ll) in
    let o : (node t (last_of (n + l) zs)).owner ≡ Some l = owner-last t n l (n + l) zs [] (h.head l ll).0 path in
    let e : (node t (last_of (n + l) zs)).next ≡ n + l = next-last t n l (n + l) zs [] path in
    ap (λ a. (node t a).previous) (sym e) ∙ h.back (last_of (n + l) zs) (in_table t (last_of (n + l) zs) l o)

pub begun : (t : List Node) (n l v : ℕ) → Holds t n (lists_of t n) → l < length (lists_of t n) → IsTried t n l v (node t (n + l)).previous
begun t n l v h ll = record {
  front = get_or (lists_of t n) l [];
  back = [];
  split = sym (append-nil _);
  last = last_place t n l h ll;
  high = tt;
  within = (h.within (n + l) (omega (arith, h.size))).1;
}

value-mid : (t : List Node) (n l u : ℕ) (xs : List (ℕ × ℕ)) (z : ℕ × ℕ) (ys : List (ℕ × ℕ)) → Path t n l u (xs ++ z ∷ ys) → (node t z.0).value ≡ z.1
value-mid t n l u [] z ys p = p.3
value-mid t n l u (x ∷ xs) z ys p = value-mid t n l x.0 xs z ys p.4

-- the search is at a slot of the list, or at its head
pub record Step (t : List Node) (n l v p : ℕ) : Type 0 where
  pub tried : IsTried t n l v (node t p).previous
  pub less : rank (node t p).previous (get_or (lists_of t n) l []) < rank p (get_or (lists_of t n) l [])

rank-last : (u : ℕ) (xs ys : List (ℕ × ℕ)) → times_in u (xs ++ ys) ≡ 0 → ((w : ℕ) → times_in w (xs ++ ys) ≤ 1) → rank (last_of u xs) (xs ++ ys) ≡ length xs
rank-last u xs ys z once = elim (ends xs) [
  | inl e ↦ subst (λ a. rank (last_of u a) (a ++ ys) ≡ length a) (sym e) (rank-absent u ys (subst (λ a. times_in u (a ++ ys) ≡ 0) e z))
  | inr e ↦
      let is : xs ++ ys ≡ e.init ++ e.end ∷ ys = ap (λ a. a ++ ys) e.is ∙ append_assoc e.init (e.end ∷ []) ys in
      let t : times_in e.end.0 e.init ≡ 0 = omega (arith, once e.end.0, ap (λ a. times_in e.end.0 a) is, times-append e.end.0 e.init (e.end ∷ ys), times-here e.end ys) in
      let len : length xs ≡ suc (length e.init) = ap length e.is ∙ omega (arith, length-append e.init (e.end ∷ [])) in
      let p : last_of u xs ≡ e.end.0 = ap (λ a. last_of u a) e.is ∙ last-end u e.init e.end in
      rw (p, is, len) (rank-mid e.init e.end ys t)
]

pub stepped : (t : List Node) (n l v p : ℕ) → Holds t n (lists_of t n) → l < length (lists_of t n) → IsTried t n l v p → v < (node t p).value → Step t n l v p
stepped t n l v p h ll tried above =
    let zs : List (ℕ × ℕ) = get_or (lists_of t n) l [] in
    let path : Path t n l (n + l) zs = h.path l ll in
    let once : (w : ℕ) → times_in w zs ≤ 1 = λ w. omega (arith, times-le-places w (lists_of t n) l, h.once w) in
    let head_absent : times_in (n + l) zs ≡ 0 = elim (cases_lt 0 (times_in (n + l) zs)) [
      | inl a ↦ (let r = owner-in t n l (n + l) (n + l) zs path a in omega (arith, r.0))
      | inr b ↦ omega arith
    ] in
    elim (ends tried.front) [
      | inl e ↦ absurd (
          let z : (node t p).value ≡ 0 = ap (λ a. (node t a).value) (tried.last ∙ ap (λ a. last_of (n + l) a) e) ∙ (h.head l ll).1 in
          omega arith)
      | inr e ↦
          let is : zs ≡ e.init ++ e.end ∷ tried.back = tried.split ∙ (ap (λ a. a ++ tried.back) e.is ∙ append_assoc e.init (e.end ∷ []) tried.back) in
          let pe : p ≡ e.end.0 = tried.last ∙ (ap (λ a. last_of (n + l) a) e.is ∙ last-end (n + l) e.init e.end) in
          let a = around t n (lists_of t n) l e.end.0 e.end.1 e.init tried.back h ll is in
          let before : (node t p).previous ≡ last_of (n + l) e.init = ap (λ b. (node t b).previous) pe ∙ a.before in
          let value : (node t p).value ≡ e.end.1 = ap (λ b. (node t b).value) pe ∙ value-mid t n l (n + l) e.init e.end tried.back (subst (λ b. Path t n l (n + l) b) is path) in
          let t0 : times_in e.end.0 e.init ≡ 0 = omega (arith, once e.end.0, ap (λ b. times_in e.end.0 b) is, times-append e.end.0 e.init (e.end ∷ tried.back), times-here e.end tried.back) in
          let r0 : rank (last_of (n + l) e.init) (e.init ++ e.end ∷ tried.back) ≡ length e.init = rank-last (n + l) e.init (e.end ∷ tried.back) (subst (λ b. times_in (n + l) b ≡ 0) is head_absent) (λ w. subst (λ b. times_in w b ≤ 1) is (once w)) in
          let r1 : rank e.end.0 (e.init ++ e.end ∷ tried.back) ≡ suc (length e.init) = rank-mid e.init e.end tried.back t0 in
          let r2 : rank (node t p).previous zs ≡ length e.init = ap (λ b. rank b zs) before ∙ (ap (λ b. rank (last_of (n + l) e.init) b) is ∙ r0) in
          let r3 : rank p zs ≡ suc (length e.init) = ap (λ b. rank b zs) pe ∙ (ap (λ b. rank e.end.0 b) is ∙ r1) in
          record {
            tried = record { front = e.init; back = e.end ∷ tried.back; split = is; last = before; high = (omega arith, tried.high); within = subst (λ b. (node t b).previous < length t) (sym pe) a.before_within };
            less = omega (arith, r2, r3);
          }
    ]

low-front : (v : ℕ) (xs : List (ℕ × ℕ)) (z : ℕ × ℕ) (ys : List (ℕ × ℕ)) → z.1 ≤ v → InOrder (xs ++ z ∷ ys) → NoneAbove v (xs ++ z ∷ [])
low-front v [] z ys h o = (h, tt)
low-front v (x ∷ xs) z ys h o = (omega (arith, below x.1 xs z ys o.0), low-front v xs z ys h o.1) where
  below : (w : ℕ) (xs : List (ℕ × ℕ)) (z : ℕ × ℕ) (ys : List (ℕ × ℕ)) → NoneBelow w (xs ++ z ∷ ys) → w ≤ z.1
  below w [] z ys k = k.0
  below w (x ∷ xs) z ys k = below w xs z ys k.1

pub ended : (t : List Node) (n l v p : ℕ) → Holds t n (lists_of t n) → l < length (lists_of t n) → IsTried t n l v p → (node t p).value ≤ v → IsPlaceFor t n l v p
ended t n l v p h ll tried under =
    let zs : List (ℕ × ℕ) = get_or (lists_of t n) l [] in
    let low : NoneAbove v tried.front = elim (ends tried.front) [
      | inl e ↦ subst (λ a. NoneAbove v a) (sym e) tt
      | inr e ↦
          let is : zs ≡ e.init ++ e.end ∷ tried.back = tried.split ∙ (ap (λ a. a ++ tried.back) e.is ∙ append_assoc e.init (e.end ∷ []) tried.back) in
          let pe : p ≡ e.end.0 = tried.last ∙ (ap (λ a. last_of (n + l) a) e.is ∙ last-end (n + l) e.init e.end) in
          let value : (node t p).value ≡ e.end.1 = ap (λ b. (node t b).value) pe ∙ value-mid t n l (n + l) e.init e.end tried.back (subst (λ b. Path t n l (n + l) b) is (h.path l ll)) in
          subst (λ a. NoneAbove v a) (sym e.is) (low-front v e.init e.end tried.back (omega arith) (subst (λ a. InOrder a) is (h.ordered l ll)))
    ] in
    record { front = tried.front; back = tried.back; split = tried.split; last = tried.last; low = low; high = tried.high }
