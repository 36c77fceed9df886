-- What putting a node in and taking it out leave of every other node.
use Rattle.std.proofs.Common.{inl, inr, ◌≡◌, ◌≢◌, ◌∙◌, ℕ, ◌<◌, List, length, None, refl, sym, ap, arith}
use Rattle.std.proofs.Math.ListN.{set}
use Rattle.std.proofs.lemmas.Bool.{cases_eq}
use Rattle.std.proofs.lemmas.List.{length-set, get_or-set_same, get_or-set_other}
use Rattle.ready_list.specs.Table.{blank, node, with_next, with_previous, joined, parted}
use Rattle.ready_list.specs.declared.table.Node.{Node}

here : (t : List Node) (u : ℕ) (x : Node) → u < length t → node (set t u x) u ≡ x
here t u x h = get_or-set_same t u x blank h

there : (t : List Node) (u : ℕ) (x : Node) (w : ℕ) → w ≢ u → node (set t u x) w ≡ node t w
there t u x w d = get_or-set_other t u w x blank d

-- what a written node has in common with the one before, every node has
kept : {B : Type 0} (f : Node → B) (t : List Node) (u : ℕ) (x : Node) (w : ℕ) → u < length t → f x ≡ f (node t u) → f (node (set t u x) w) ≡ f (node t w)
kept f t u x w h e = elim (cases_eq w u) [
  | inl i ↦ ap (λ a. f (node (set t u x) a)) i ∙ (ap f (here t u x h) ∙ (e ∙ ap (λ a. f (node t a)) (sym i)))
  | inr d ↦ ap f (there t u x w d)
]

-- t' is t with y put in between p and q
pub record HasJoined (t t' : List Node) (p q y : ℕ) (n : Node) : Type 0 where
  pub size : length t' ≡ length t
  pub next_before : (node t' p).next ≡ y
  pub next_slot : (node t' y).next ≡ n.next
  pub next_other : (w : ℕ) → w ≢ p → w ≢ y → (node t' w).next ≡ (node t w).next
  pub previous_after : (node t' q).previous ≡ y
  pub previous_slot : (node t' y).previous ≡ n.previous
  pub previous_other : (w : ℕ) → w ≢ q → w ≢ y → (node t' w).previous ≡ (node t w).previous
  pub owner_slot : (node t' y).owner ≡ n.owner
  pub owner_other : (w : ℕ) → w ≢ y → (node t' w).owner ≡ (node t w).owner
  pub value_slot : (node t' y).value ≡ n.value
  pub value_other : (w : ℕ) → w ≢ y → (node t' w).value ≡ (node t w).value

pub has-joined : (t : List Node) (p q y : ℕ) (n : Node) → p < length t → q < length t → y < length t → p ≢ y → q ≢ y → HasJoined t (joined t p q y n) p q y n
has-joined t p q y n hp hq hy py qy =
    let a : List Node = set t y n in
    let b : List Node = with_next a p y in
    let pa : p < length a = omega (arith, length-set t y n, hp) in
    let qb : q < length b = omega (arith, length-set t y n, length-set a p (record (node a p) { next = y }), hq) in
    let yp : y ≢ p = λ e. py (sym e) in
    let yq : y ≢ q = λ e. qy (sym e) in
    record {
      size = omega (arith, length-set t y n, length-set a p (record (node a p) { next = y }), length-set b q (record (node b q) { previous = y }));
      next_before = kept (λ x. x.next) b q (record (node b q) { previous = y }) p qb refl ∙ ap (λ x. x.next) (here a p (record (node a p) { next = y }) pa);
      next_slot = kept (λ x. x.next) b q (record (node b q) { previous = y }) y qb refl ∙ (ap (λ x. x.next) (there a p (record (node a p) { next = y }) y yp) ∙ ap (λ x. x.next) (here t y n hy));
      next_other = λ w wp wy. kept (λ x. x.next) b q (record (node b q) { previous = y }) w qb refl ∙ (ap (λ x. x.next) (there a p (record (node a p) { next = y }) w wp) ∙ ap (λ x. x.next) (there t y n w wy));
      previous_after = ap (λ x. x.previous) (here b q (record (node b q) { previous = y }) qb);
      previous_slot = ap (λ x. x.previous) (there b q (record (node b q) { previous = y }) y yq) ∙ (ap (λ x. x.previous) (there a p (record (node a p) { next = y }) y yp) ∙ ap (λ x. x.previous) (here t y n hy));
      previous_other = λ w wq wy. ap (λ x. x.previous) (there b q (record (node b q) { previous = y }) w wq) ∙ (kept (λ x. x.previous) a p (record (node a p) { next = y }) w pa refl ∙ ap (λ x. x.previous) (there t y n w wy));
      owner_slot = kept (λ x. x.owner) b q (record (node b q) { previous = y }) y qb refl ∙ (kept (λ x. x.owner) a p (record (node a p) { next = y }) y pa refl ∙ ap (λ x. x.owner) (here t y n hy));
      owner_other = λ w wy. kept (λ x. x.owner) b q (record (node b q) { previous = y }) w qb refl ∙ (kept (λ x. x.owner) a p (record (node a p) { next = y }) w pa refl ∙ ap (λ x. x.owner) (there t y n w wy));
      value_slot = kept (λ x. x.value) b q (record (node b q) { previous = y }) y qb refl ∙ (kept (λ x. x.value) a p (record (node a p) { next = y }) y pa refl ∙ ap (λ x. x.value) (here t y n hy));
      value_other = λ w wy. kept (λ x. x.value) b q (record (node b q) { previous = y }) w qb refl ∙ (kept (λ x. x.value) a p (record (node a p) { next = y }) w pa refl ∙ ap (λ x. x.value) (there t y n w wy));
    }

-- t' is t with y taken out from between p and q
pub record HasParted (t t' : List Node) (p q y : ℕ) : Type 0 where
  pub size : length t' ≡ length t
  pub next_before : (node t' p).next ≡ q
  pub next_slot : (node t' y).next ≡ y
  pub next_other : (w : ℕ) → w ≢ p → w ≢ y → (node t' w).next ≡ (node t w).next
  pub previous_after : (node t' q).previous ≡ p
  pub previous_slot : (node t' y).previous ≡ y
  pub previous_other : (w : ℕ) → w ≢ q → w ≢ y → (node t' w).previous ≡ (node t w).previous
  pub owner_slot : (node t' y).owner ≡ None
  pub owner_other : (w : ℕ) → w ≢ y → (node t' w).owner ≡ (node t w).owner
  pub value_same : (w : ℕ) → (node t' w).value ≡ (node t w).value

pub has-parted : (t : List Node) (p q y : ℕ) → p < length t → q < length t → y < length t → p ≢ y → q ≢ y → HasParted t (parted t p q y) p q y
has-parted t p q y hp hq hy py qy =
    let a : List Node = with_next t p q in
    let b : List Node = with_previous a q p in
    let la : length a ≡ length t = length-set t p (record (node t p) { next = q }) in
    let lb : length b ≡ length a = length-set a q (record (node a q) { previous = p }) in
    let qa : q < length a = omega arith in
    let yb : y < length b = omega arith in
    let end : Node = record (node b y) { next = y; previous = y; owner = None } in
    record {
      size = omega (arith, length-set b y end);
      next_before = ap (λ x. x.next) (there b y end p py) ∙ (kept (λ x. x.next) a q (record (node a q) { previous = p }) p qa refl ∙ ap (λ x. x.next) (here t p (record (node t p) { next = q }) hp));
      next_slot = ap (λ x. x.next) (here b y end yb);
      next_other = λ w wp wy. ap (λ x. x.next) (there b y end w wy) ∙ (kept (λ x. x.next) a q (record (node a q) { previous = p }) w qa refl ∙ ap (λ x. x.next) (there t p (record (node t p) { next = q }) w wp));
      previous_after = ap (λ x. x.previous) (there b y end q qy) ∙ ap (λ x. x.previous) (here a q (record (node a q) { previous = p }) qa);
      previous_slot = ap (λ x. x.previous) (here b y end yb);
      previous_other = λ w wq wy. ap (λ x. x.previous) (there b y end w wy) ∙ (ap (λ x. x.previous) (there a q (record (node a q) { previous = p }) w wq) ∙ kept (λ x. x.previous) t p (record (node t p) { next = q }) w hp refl);
      owner_slot = ap (λ x. x.owner) (here b y end yb);
      owner_other = λ w wy. ap (λ x. x.owner) (there b y end w wy) ∙ (kept (λ x. x.owner) a q (record (node a q) { previous = p }) w qa refl ∙ kept (λ x. x.owner) t p (record (node t p) { next = q }) w hp refl);
      value_same = λ w. kept (λ x. x.value) b y end w yb refl ∙ (kept (λ x. x.value) a q (record (node a q) { previous = p }) w qa refl ∙ kept (λ x. x.value) t p (record (node t p) { next = q }) w hp refl);
    }
