-- Paths of slots through a table.
use Rattle.std.proofs.Common.{inl, inr, ◌≡◌, ◌≢◌, ◌∙◌, ℕ, ◌+◌, ◌<◌, ◌≤◌, List, [], ◌∷◌, ◌++◌, Some, sym, ap, arith}
use Rattle.std.proofs.lemmas.Bool.{cases_eq}
use Rattle.ready_list.specs.Lists.{times_in}
use Rattle.ready_list.specs.Places.{last_of}
use Rattle.ready_list.specs.Table.{node, Path}
use Rattle.ready_list.specs.declared.table.Node.{Node}
use Rattle.ready_list.proofs.Counts.{times-here, times-there, times-mid}

-- the first slot of a list, or e where it has none
abbrev pub first_or : ℕ → List (ℕ × ℕ) → ℕ
first_or e [] = e
first_or e (x ∷ xs) = x.0

pub last-in : (x : ℕ × ℕ) (xs ys : List (ℕ × ℕ)) → 0 < times_in (last_of x.0 xs) (x ∷ (xs ++ ys))
last-in x [] ys = omega (arith, times-here x ys)
last-in x (z ∷ xs) ys = omega (arith, last-in z xs ys)

-- a node is as it was, but for what stands before it
pub record IsSame (t t' : List Node) (w : ℕ) : Type 0 where
  pub next : (node t' w).next ≡ (node t w).next
  pub owner : (node t' w).owner ≡ (node t w).owner
  pub value : (node t' w).value ≡ (node t w).value

pub next-last : (t : List Node) (n l u : ℕ) (xs ys : List (ℕ × ℕ)) → Path t n l u (xs ++ ys) → (node t (last_of u xs)).next ≡ first_or (n + l) ys
next-last t n l u [] [] p = p
next-last t n l u [] (y ∷ ys) p = p.0
next-last t n l u (x ∷ xs) ys p = next-last t n l x.0 xs ys p.4

pub next_after : (t : List Node) (n l u y v : ℕ) (xs ys : List (ℕ × ℕ)) → Path t n l u (xs ++ (y, v) ∷ ys) → (node t y).next ≡ first_or (n + l) ys
next_after t n l u y v [] ys p = next-last t n l y [] ys p.4
next_after t n l u y v (x ∷ xs) ys p = next_after t n l x.0 y v xs ys p.4

pub owner-last : (t : List Node) (n l u : ℕ) (xs ys : List (ℕ × ℕ)) → (node t u).owner ≡ Some l → Path t n l u (xs ++ ys) → (node t (last_of u xs)).owner ≡ Some l
owner-last t n l u [] ys o p = o
owner-last t n l u (x ∷ xs) ys o p = owner-last t n l x.0 xs ys p.2 p.4

pub owner-in : (t : List Node) (n l u w : ℕ) (xs : List (ℕ × ℕ)) → Path t n l u xs → 0 < times_in w xs → (w < n) × ((node t w).owner ≡ Some l)
owner-in t n l u w [] p h = absurd (omega arith)
owner-in t n l u w (x ∷ xs) p h = elim (cases_eq w x.0) [
  | inl e ↦ (omega (arith, p.1), ap (λ v. (node t v).owner) e ∙ p.2)
  | inr d ↦ owner-in t n l x.0 w xs p.4 (omega (arith, times-there w x xs d))
]

-- the same path, from another place that leads to where u led
pub moved : (t t' : List Node) (n l u u' : ℕ) (xs : List (ℕ × ℕ)) → ((w : ℕ) → 0 < times_in w xs → IsSame t t' w) → (node t' u').next ≡ (node t u).next → Path t n l u xs → Path t' n l u' xs
moved t t' n l u u' [] same e p = e ∙ p
moved t t' n l u u' (x ∷ xs) same e p =
    let s : IsSame t t' x.0 = same x.0 (omega (arith, times-here x xs)) in
    (e ∙ p.0, p.1, s.owner ∙ p.2, s.value ∙ p.3, moved t t' n l x.0 x.0 xs (λ w h. same w (omega arith)) s.next p.4)

pub inserted-path : (t t' : List Node) (n l u p y v : ℕ) (xs ys : List (ℕ × ℕ)) → p ≡ last_of u xs → y < n → (node t' p).next ≡ y → (node t' y).next ≡ (node t p).next → (node t' y).owner ≡ Some l → (node t' y).value ≡ v → ((w : ℕ) → w ≢ y → (node t' w).owner ≡ (node t w).owner) → ((w : ℕ) → w ≢ y → (node t' w).value ≡ (node t w).value) → ((w : ℕ) → w ≢ p → w ≢ y → (node t' w).next ≡ (node t w).next) → times_in y (xs ++ ys) ≡ 0 → times_in u (xs ++ ys) ≡ 0 → u ≢ y → ((w : ℕ) → times_in w (xs ++ ys) ≤ 1) → Path t n l u (xs ++ ys) → Path t' n l u (xs ++ (y, v) ∷ ys)
inserted-path t t' n l u p y v [] ys lp below np ny oy vy owner value next ty tu uy once path =
    let same : (w : ℕ) → 0 < times_in w ys → IsSame t t' w = λ w h.
    let wy : w ≢ y = λ e. (let z : times_in w ys ≡ times_in y ys = ap (λ a. times_in a ys) e in omega arith) in
    let wp : w ≢ p = λ e. (let z : times_in w ys ≡ times_in u ys = ap (λ a. times_in a ys) (e ∙ lp) in omega arith) in
    record { next = next w wp wy; owner = owner w wy; value = value w wy } in
    (ap (λ a. (node t' a).next) (sym lp) ∙ np, below, oy, vy, moved t t' n l p y ys same ny (rw lp path))
inserted-path t t' n l u p y v (x ∷ xs) ys lp below np ny oy vy owner value next ty tu uy once path =
    let up : u ≢ p = λ e. (let z : times_in u (x ∷ (xs ++ ys)) ≡ times_in (last_of x.0 xs) (x ∷ (xs ++ ys)) = ap (λ a. times_in a (x ∷ (xs ++ ys))) (e ∙ lp) in omega (arith, last-in x xs ys)) in
    let xy : x.0 ≢ y = λ e. (let z : times_in x.0 (x ∷ (xs ++ ys)) ≡ times_in y (x ∷ (xs ++ ys)) = ap (λ a. times_in a (x ∷ (xs ++ ys))) e in omega (arith, times-here x (xs ++ ys))) in
    let tx : times_in x.0 (xs ++ ys) ≡ 0 = omega (arith, times-here x (xs ++ ys), once x.0) in (
      next u up uy ∙ path.0,
      path.1,
      owner x.0 xy ∙ path.2,
      value x.0 xy ∙ path.3,
      inserted-path t t' n l x.0 p y v xs ys lp below np ny oy vy owner value next (omega arith) tx xy (λ w. omega (arith, once w)) path.4,
    )

pub removed-path : (t t' : List Node) (n l u p y v : ℕ) (xs ys : List (ℕ × ℕ)) → p ≡ last_of u xs → (node t' p).next ≡ (node t y).next → ((w : ℕ) → w ≢ y → (node t' w).owner ≡ (node t w).owner) → ((w : ℕ) → w ≢ y → (node t' w).value ≡ (node t w).value) → ((w : ℕ) → w ≢ p → w ≢ y → (node t' w).next ≡ (node t w).next) → times_in u (xs ++ (y, v) ∷ ys) ≡ 0 → ((w : ℕ) → times_in w (xs ++ (y, v) ∷ ys) ≤ 1) → Path t n l u (xs ++ (y, v) ∷ ys) → Path t' n l u (xs ++ ys)
removed-path t t' n l u p y v [] ys lp np owner value next tu once path =
    let same : (w : ℕ) → 0 < times_in w ys → IsSame t t' w = λ w h.
    let wy : w ≢ y = λ e. (let z : times_in w ys ≡ times_in y ys = ap (λ a. times_in a ys) e in omega (arith, once y, times-here (y, v) ys)) in
    let wp : w ≢ p = λ e. (let z : times_in w ys ≡ times_in u ys = ap (λ a. times_in a ys) (e ∙ lp) in omega arith) in
    record { next = next w wp wy; owner = owner w wy; value = value w wy } in
    moved t t' n l y u ys same (ap (λ a. (node t' a).next) (sym lp) ∙ np) path.4
removed-path t t' n l u p y v (x ∷ xs) ys lp np owner value next tu once path =
    let zs : List (ℕ × ℕ) = xs ++ (y, v) ∷ ys in
    let up : u ≢ p = λ e. (let z : times_in u (x ∷ zs) ≡ times_in (last_of x.0 xs) (x ∷ zs) = ap (λ a. times_in a (x ∷ zs)) (e ∙ lp) in omega (arith, last-in x xs ((y, v) ∷ ys))) in
    let ty : 0 < times_in y zs = omega (arith, times-mid y xs (y, v) ys, times-here (y, v) []) in
    let uy : u ≢ y = λ e. (let z : times_in u zs ≡ times_in y zs = ap (λ a. times_in a zs) e in omega arith) in
    let xy : x.0 ≢ y = λ e. (let z : times_in x.0 zs ≡ times_in y zs = ap (λ a. times_in a zs) e in omega (arith, times-here x zs, once x.0)) in
    let tx : times_in x.0 zs ≡ 0 = omega (arith, times-here x zs, once x.0) in (
      next u up uy ∙ path.0,
      path.1,
      owner x.0 xy ∙ path.2,
      value x.0 xy ∙ path.3,
      removed-path t t' n l x.0 p y v xs ys lp np owner value next tx (λ w. omega (arith, once w)) path.4,
    )
