-- A new kernel, and one that begins anew.
use Rattle.std.proofs.Common.{◌≡◌, ◌∙◌, ℕ, zero, suc, ◌+◌, ◌<◌, ◌≤◌, List, [], ◌∷◌, ◌++◌, length, get_or, drop, refl, sym, ap, subst, arith, append_assoc}
use Rattle.std.specs.Prelude.{map, replicate}
use Rattle.std.specs.List.{range_with_len}
use Rattle.std.proofs.Math.ListN.{set}
use Rattle.std.proofs.lemmas.Bool.Decides.{nat_tests}
use Rattle.std.proofs.lemmas.List.{append-nil, get_or-set_same, set-set, set-get_or, length-replicate, get_or-replicate, get_or-drop}
use Rattle.std.proofs.lemmas.List.FromFn.{map-range_with_len_more}
use Rattle.ready_list.specs.Lists.{Lists, IsLinked, list_at, with_list, times_in, places_in}
use Rattle.ready_list.specs.declared.links.TheConstants.{LAST}
use Rattle.ready_list.proofs.Counts.{times-append, places-set}
use Rattle.ec_kernel.specs.View.{View, NoWaiter, new_kernel, restarted}
use Rattle.ec_kernel.specs.Kept.{waiter, slots_of, seen, ValuesAbove, IsKept, in_turn}
use Rattle.ec_kernel.proofs.Steps.{IsLeft, left}

-- the slots below k have been put into the free list
pub record IsFreeing (x0 x : Lists) (k : ℕ) : Type 0 where
  pub linked : IsLinked x
  pub lists : x ≡ with_list x0 1 (list_at x0 1 ++ in_turn k)

pub begun : (x : Lists) → IsLinked x → IsFreeing x x 0
begun x h = record {
  linked = h;
  lists = sym (ap (λ a. record x { lists = set x.lists 1 a }) (append-nil (list_at x 1)) ∙ ap (λ a. record x { lists = a }) (set-get_or x.lists 1 []));
}

above-turn : (f k s : ℕ) → f + k ≤ s → times_in s (map (λ i. (i, LAST)) (range_with_len f k)) ≡ 0
above-turn f zero s h = refl
above-turn f (suc k) s h = let r = above-turn (f + 1) k s (omega arith) in grind (arith, nat_tests)

pub nowhere_yet : (x0 x : Lists) (k : ℕ) → 1 < length x0.lists → ((s : ℕ) → places_in s x0.lists ≡ 0) → IsFreeing x0 x k → places_in k x.lists ≡ 0
nowhere_yet x0 x k h none f =
    let zs : List (ℕ × ℕ) = list_at x0 1 ++ in_turn k in
    omega (arith, ap (λ a. places_in k a.lists) f.lists, places-set k x0.lists 1 zs h, none k, times-append k (list_at x0 1) (in_turn k), above-turn 0 k k (omega arith))

pub stepped : (x0 x y : Lists) (k : ℕ) → 1 < length x0.lists → IsFreeing x0 x k → IsLinked y → y ≡ with_list x 1 (list_at x 1 ++ (k, LAST) ∷ []) → IsFreeing x0 y (k + 1)
stepped x0 x y k h f linked ye =
    let zs : List (ℕ × ℕ) = list_at x0 1 ++ in_turn k in
    let here : get_or (set x0.lists 1 zs) 1 [] ≡ zs = get_or-set_same x0.lists 1 zs [] h in
    let more : zs ++ (k, LAST) ∷ [] ≡ list_at x0 1 ++ in_turn (k + 1) =
    append_assoc (list_at x0 1) (in_turn k) ((k, LAST) ∷ []) ∙ ap (λ a. list_at x0 1 ++ a) (sym (map-range_with_len_more (λ (s : ℕ). (s, LAST)) 0 k k (omega arith))) in
    record {
      linked = linked;
      lists = ye
          ∙ (ap (λ a. with_list a 1 (list_at a 1 ++ (k, LAST) ∷ [])) f.lists
          ∙ (ap (λ a. record x0 { lists = set (set x0.lists 1 zs) 1 (a ++ (k, LAST) ∷ []) }) here
          ∙ (ap (λ a. record x0 { lists = a }) (set-set x0.lists 1 zs (zs ++ (k, LAST) ∷ []))
          ∙ ap (λ a. record x0 { lists = set x0.lists 1 a }) more)));
    }

slots-turn : (f k : ℕ) → slots_of (map (λ i. (i, LAST)) (range_with_len f k)) ≡ range_with_len f k
slots-turn f zero = refl
slots-turn f (suc k) = ap (λ a. f ∷ a) (slots-turn (f + 1) k)

waiters-none : (m : ℕ) → map (λ xs. map waiter xs) (replicate m []) ≡ replicate m []
waiters-none zero = refl
waiters-none (suc m) = ap (λ a. [] ∷ a) (waiters-none m)

-- all is new
pub made : (x y : Lists) (counts : List ℕ) (slots events : ℕ) → x ≡ record { slots = slots; lists = replicate (2 + events) [] } → counts ≡ replicate events 0 → IsLinked y → y ≡ with_list x 1 (list_at x 1 ++ in_turn slots) → IsLeft y counts 0 (new_kernel slots events)
made x y counts slots events xe ce linked ye =
    let two : 2 + events ≡ suc (suc events) = omega arith in
    let none : List (List (ℕ × ℕ)) = replicate events [] in
    let fresh : Lists = record { slots = slots; lists = [] ∷ ([] ∷ none) } in
    let end : Lists = record { slots = slots; lists = [] ∷ (in_turn slots ∷ none) } in
    let xf : x ≡ fresh = xe ∙ ap (λ a. record { slots = slots; lists = replicate a [] }) two in
    let yf : y ≡ end = ye ∙ ap (λ a. with_list a 1 (list_at a 1 ++ in_turn slots)) xf in
    let n : length counts ≡ events = ap length ce ∙ length-replicate {A = ℕ} events 0 in
    let kept : IsKept end counts = record {
      lists = omega (arith, n, length-none events);
      linked = subst (λ a. IsLinked a) yf linked;
      above = λ e el. subst (λ a. ValuesAbove (get_or counts e 0) a) (sym (sym (get_or-drop 2 end.lists e []) ∙ get_or-replicate events e [] [] (omega arith))) tt;
    } in
    let is : seen end counts 0 ≡ new_kernel slots events = rw (ce, waiters-none events, slots-turn 0 slots) refl in
    subst (λ a. IsLeft a counts 0 (new_kernel slots events)) (sym yf) (left end counts 0 (new_kernel slots events) kept is)
  where
    length-none : (m : ℕ) → length (replicate {A = List (ℕ × ℕ)} m []) ≡ m
    length-none m = length-replicate m []

no-waiters : (ls : List (List (ℕ × ℕ))) → NoWaiter (map (λ xs. map waiter xs) ls) → (e c : ℕ) → ValuesAbove c (get_or ls e [])
no-waiters [] h e c = tt
no-waiters (xs ∷ ls) h zero c = empty xs h.0 c where
  empty : (xs : List (ℕ × ℕ)) → map waiter xs ≡ [] → (c : ℕ) → ValuesAbove c xs
  empty [] e c = tt
  empty (x ∷ xs) e c = cc
no-waiters (xs ∷ ls) h (suc e) c = no-waiters ls h.1 e c

-- all counts are 0 again
pub begun_anew : (x : Lists) (counts counts' : List ℕ) (ticket : ℕ) (k : View) → IsKept x counts → seen x counts ticket ≡ k → NoWaiter k.waiters → counts' ≡ replicate (length counts) 0 → IsLeft x counts' 0 (restarted k)
begun_anew x counts counts' ticket k h ke none ce =
    let w : NoWaiter (map (λ xs. map waiter xs) (drop 2 x.lists)) = subst (λ a. NoWaiter a.waiters) (sym ke) none in
    let kept : IsKept x counts' = record {
      lists = omega (arith, h.lists, ap length ce, length-replicate {A = ℕ} (length counts) 0);
      linked = h.linked;
      above = λ e el. subst (λ a. ValuesAbove (get_or counts' e 0) a) (get_or-drop 2 x.lists e []) (no-waiters (drop 2 x.lists) w e (get_or counts' e 0));
    } in
    let is : seen x counts' 0 ≡ restarted k = ap (λ a. seen x a 0) ce ∙ ap (λ (a : View). restarted a) ke in
    left x counts' 0 (restarted k) kept is
