-- A new table holds empty lists.
use Rattle.std.proofs.Common.{inl, inr, ◌≡◌, ◌∙◌, ℕ, zero, suc, ◌+◌, ◌-◌, ◌<◌, ◌^◌, List, [], length, get_or, Some, None, refl, sym, ap, subst, arith}
use Rattle.std.specs.Prelude.{replicate}
use Rattle.std.proofs.lemmas.Bool.{cases_lt}
use Rattle.std.proofs.lemmas.List.{length-replicate, get_or-replicate, get_or_past}
use Rattle.ready_list.specs.Lists.{places_in, InOrder}
use Rattle.ready_list.specs.Table.{blank, node, Path, Holds}
use Rattle.ready_list.specs.Empty.{free_slot, empty_head, IsEmptyTable}
use Rattle.ready_list.specs.declared.table.Node.{Node}
use Rattle.ready_list.proofs.Calls.{IsRead, read}
use Rattle.ready_list.proofs.Closing.{IsLeft, linked}

pub nowhere : (s m : ℕ) → places_in s (replicate m []) ≡ 0
nowhere s zero = refl
nowhere s (suc m) = omega (arith, nowhere s m)

-- each node is a free slot, an empty list's head, or none at all
kinds : (P : ℕ → Node → Type 0) (t : List Node) (n m : ℕ) → IsEmptyTable t n m → ((s : ℕ) → s < n → P s (free_slot s)) → ((l : ℕ) → l < m → P (n + l) (empty_head (n + l) l)) → (u : ℕ) → u < length t → P u (node t u)
kinds P t n m h a b u hu = elim (cases_lt u n) [
  | inl k ↦ subst (λ x. P u x) (sym (h.slots u k)) (a u k)
  | inr k ↦
      let e : u ≡ n + (u - n) = omega arith in
      subst (λ w. P w (node t w)) (sym e) (subst (λ x. P (n + (u - n)) x) (sym (h.heads (u - n) (omega (arith, h.size)))) (b (u - n) (omega (arith, h.size))))
]

pub holds-empty : (t : List Node) (n m : ℕ) → n < 2 ^ 64 → IsEmptyTable t n m → Holds t n (replicate m [])
holds-empty t n m c h =
    let lists : List (List (ℕ × ℕ)) = replicate m [] in
    let none : (l : ℕ) → l < m → get_or lists l [] ≡ [] = λ l hl. get_or-replicate m l [] [] hl in
    let len : length lists ≡ m = length-replicate m [] in
    record {
      countable = c;
      size = omega (arith, h.size);
      head = λ l hl. (let e = h.heads l (omega arith) in (ap (λ a. a.owner) e, ap (λ a. a.value) e));
      path = λ l hl. subst (λ a. Path t n l (n + l) a) (sym (none l (omega arith))) (ap (λ a. a.next) (h.heads l (omega arith)));
      back = λ u hu. ap (λ a. (node t a).previous) (kinds (λ w a. a.next ≡ w) t n m h (λ s k. refl) (λ l k. refl) u hu) ∙ kinds (λ w a. a.previous ≡ w) t n m h (λ s k. refl) (λ l k. refl) u hu;
      within = λ u hu. kinds (λ w a. (a.next < length t) × (a.previous < length t)) t n m h (λ s k. (omega (arith, h.size), omega (arith, h.size))) (λ l k. (omega (arith, h.size), omega (arith, h.size))) u hu;
      free = λ s k o. (nowhere s m, ap (λ a. a.next) (h.slots s k), ap (λ a. a.previous) (h.slots s k));
      held = λ s l k o. (let z : None ≡ Some l = sym (ap (λ a. a.owner) (h.slots s k)) ∙ o in cc);
      once = λ s. omega (arith, nowhere s m);
      ordered = λ l hl. subst (λ a. InOrder a) (sym (none l (omega arith))) tt;
      fits = λ u. elim (cases_lt u (length t)) [
        | inl k ↦ kinds (λ w a. a.value < 2 ^ 128) t n m h (λ s i. omega arith) (λ l i. omega arith) u k
        | inr k ↦ subst (λ a. a.value < 2 ^ 128) (sym (get_or_past t u blank k)) (omega arith)
      ];
    }

-- a new table
pub fresh : (t : List Node) (n m : ℕ) → n < 2 ^ 64 → IsEmptyTable t n m → IsLeft t n (record { slots = n; lists = replicate m [] })
fresh t n m c h =
    let r : IsRead t n (replicate m []) = read t n (replicate m []) (holds-empty t n m c h) in
    record { holds = r.holds; is = ap (λ a. record { slots = n; lists = a }) r.is; linked = linked t n r.holds }

-- after the slots, the heads
pub fresh_after : (s t : List Node) (n m : ℕ) → n < 2 ^ 64 → IsEmptyTable s n 0 → IsEmptyTable t (length s) m → IsLeft t n (record { slots = n; lists = replicate m [] })
fresh_after s t n m c a b = fresh t n m c (subst (λ k. IsEmptyTable t k m) (omega (arith, a.size)) b)
