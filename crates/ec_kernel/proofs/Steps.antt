-- What each call leaves, as it is seen.
use Rattle.std.proofs.Common.{Option, Some, None, inl, inr, ◌≡◌, ◌∙◌, ℕ, ◌+◌, ◌<◌, ◌≤◌, List, [], ◌∷◌, ◌++◌, length, get_or, take, drop, refl, sym, ap, subst, arith}
use Rattle.std.specs.Prelude.{option_map, IfSome, map}
use Rattle.std.specs.List.{prefix_len}
use Rattle.std.proofs.Math.ListN.{set}
use Rattle.std.proofs.lemmas.Bool.Decides.{nat_tests}
use Rattle.std.proofs.lemmas.Bool.{cases_eq}
use Rattle.std.proofs.lemmas.List.{length-map, length-drop, length-set, get_or_default, get_or-set_same, get_or-set_other, map-set, drop-set-add, drop-set-lt}
use Rattle.ready_list.specs.Lists as lists
use Rattle.ready_list.specs.Lists.{Lists, IsLinked, list_at, with_list, times_in, places_in, inserted}
use Rattle.ready_list.proofs.Counts.{times-le-places, without-absent}
use Rattle.ec_kernel.specs.View.{View, StandsNowhere, first_of, reached_by, IsKernel, count_at, waiters_at, places, times, queued, parked, advanced, wakes, without, AllAbove, InOrder}
use Rattle.ec_kernel.specs.Kept.{waiter, slots_of, seen, ValuesAbove, IsKept, at_end, reached_part, woken}
use Rattle.ec_kernel.proofs.Lists.{times-slots, places-seen, waiters-seen, queued-waiter, slots-without, above-waiters, order-waiters, above-inserted, above-rest, reached-waiters, drop-waiters, slots-append, woken-slots}

-- lists and counts that keep their promises are seen as a kernel that keeps its own
pub kernel : (x : Lists) (counts : List ℕ) (ticket : ℕ) → IsKept x counts → IsKernel (seen x counts ticket)
kernel x counts ticket h =
    let all : (s : ℕ) → places s (seen x counts ticket) ≡ places_in s x.lists = λ s. places-seen s x.slots x.lists counts ticket (omega (arith, h.lists)) in
    record {
      events = omega (arith, length-map (drop 2 x.lists) (λ (xs : List (ℕ × ℕ)). map waiter xs), length-drop 2 x.lists, h.lists);
      waiting = λ e l. subst (λ ws. AllAbove (get_or counts e 0) ws) (sym (waiters-seen x.lists e)) (above-waiters (get_or counts e 0) (list_at x (2 + e)) (h.above e l));
      in_order = λ e l. subst (λ ws. InOrder ws) (sym (waiters-seen x.lists e)) (order-waiters (list_at x (2 + e)) (h.linked.ordered (2 + e) (omega (arith, h.lists))));
      once = λ s. omega (arith, all s, h.linked.once s);
      in_range = λ s a. h.linked.in_range s (omega (arith, all s));
    }

-- what is left is seen as k
pub record IsLeft (x : Lists) (counts : List ℕ) (ticket : ℕ) (k : View) : Type 0 where
  pub kept : IsKept x counts
  pub is : seen x counts ticket ≡ k
  pub kernel : IsKernel (seen x counts ticket)

pub left : (x : Lists) (counts : List ℕ) (ticket : ℕ) (k : View) → IsKept x counts → seen x counts ticket ≡ k → IsLeft x counts ticket k
left x counts ticket k h e = record { kept = h; is = e; kernel = kernel x counts ticket h }

-- a slot that is seen nowhere stands in no list
pub stands_nowhere : (x : Lists) (counts : List ℕ) (ticket : ℕ) (k : View) (s : ℕ) → IsKept x counts → seen x counts ticket ≡ k → places s k ≡ 0 → places_in s x.lists ≡ 0
stands_nowhere x counts ticket k s h e none = omega (arith, places-seen s x.slots x.lists counts ticket (omega (arith, h.lists)), ap (λ a. places s a) e, none)

-- one event's list is another
seen-waiters : (x : Lists) (counts : List ℕ) (ticket e : ℕ) (zs : List (ℕ × ℕ)) → seen (with_list x (2 + e) zs) counts ticket ≡ record (seen x counts ticket) { waiters = set (seen x counts ticket).waiters e (map waiter zs) }
seen-waiters x counts ticket e zs =
    let w : map (λ xs. map waiter xs) (drop 2 (set x.lists (2 + e) zs)) ≡ set (map (λ xs. map waiter xs) (drop 2 x.lists)) e (map waiter zs) =
    ap (λ a. map (λ xs. map waiter xs) a) (drop-set-add 2 x.lists e zs) ∙ map-set (λ (xs : List (ℕ × ℕ)). map waiter xs) (drop 2 x.lists) e zs in
    let r : get_or (set x.lists (2 + e) zs) 0 [] ≡ get_or x.lists 0 [] = get_or-set_other x.lists (2 + e) 0 zs [] (omega arith) in
    let f : get_or (set x.lists (2 + e) zs) 1 [] ≡ get_or x.lists 1 [] = get_or-set_other x.lists (2 + e) 1 zs [] (omega arith) in
    rw (w, r, f) refl

kept-waiters : (x : Lists) (counts : List ℕ) (e : ℕ) (zs : List (ℕ × ℕ)) → IsKept x counts → e < length counts → IsLinked (with_list x (2 + e) zs) → ValuesAbove (get_or counts e 0) zs → IsKept (with_list x (2 + e) zs) counts
kept-waiters x counts e zs h el linked above = record {
  lists = length-set x.lists (2 + e) zs ∙ h.lists;
  linked = linked;
  above = λ i il. elim (cases_eq i e) [
    | inl k ↦ subst (λ j. ValuesAbove (get_or counts j 0) (get_or (set x.lists (2 + e) zs) (2 + j) [])) (sym k) (subst (λ a. ValuesAbove (get_or counts e 0) a) (sym (get_or-set_same x.lists (2 + e) zs [] (omega (arith, h.lists)))) above)
    | inr d ↦ subst (λ a. ValuesAbove (get_or counts i 0) a) (sym (get_or-set_other x.lists (2 + e) (2 + i) zs [] (omega arith))) (h.above i il)
  ];
}

pub park : (x y : Lists) (counts : List ℕ) (ticket : ℕ) (k : View) (e v s : ℕ) → IsKept x counts → seen x counts ticket ≡ k → e < length k.counts → count_at k e < v → IsLinked y → y ≡ with_list x (2 + e) (inserted (s, v) (list_at x (2 + e))) → IsLeft y counts ticket (parked k e v s)
park x y counts ticket k e v s h ke el above linked ye =
    let zs : List (ℕ × ℕ) = inserted (s, v) (list_at x (2 + e)) in
    let cs : counts ≡ k.counts = ap (λ a. a.counts) ke in
    let el' : e < length counts = subst (λ a. e < length a) (sym cs) el in
    let kept : IsKept (with_list x (2 + e) zs) counts =
    kept-waiters x counts e zs h el' (subst (λ a. IsLinked a) ye linked)
    (above-inserted (get_or counts e 0) s v (list_at x (2 + e)) (subst (λ a. get_or a e 0 < v) (sym cs) above) (h.above e el')) in
    let same : map waiter zs ≡ queued (v, s) (waiters_at (seen x counts ticket) e) =
    sym (queued-waiter s v (list_at x (2 + e))) ∙ ap (λ a. queued (v, s) a) (sym (waiters-seen x.lists e)) in
    let is : seen (with_list x (2 + e) zs) counts ticket ≡ parked k e v s =
    seen-waiters x counts ticket e zs ∙ (ap (λ a. record (seen x counts ticket) { waiters = set (seen x counts ticket).waiters e a }) same ∙ ap (λ a. parked a e v s) ke) in
    subst (λ a. IsLeft a counts ticket (parked k e v s)) (sym ye) (left (with_list x (2 + e) zs) counts ticket (parked k e v s) kept is)

-- the ready list or the free list is another
seen-ready : (x : Lists) (counts : List ℕ) (ticket : ℕ) (zs : List (ℕ × ℕ)) → 0 < length x.lists → seen (with_list x 0 zs) counts ticket ≡ record (seen x counts ticket) { ready = slots_of zs }
seen-ready x counts ticket zs h =
    let w : drop 2 (set x.lists 0 zs) ≡ drop 2 x.lists = drop-set-lt 2 x.lists 0 zs (omega arith) in
    let r : get_or (set x.lists 0 zs) 0 [] ≡ zs = get_or-set_same x.lists 0 zs [] h in
    let f : get_or (set x.lists 0 zs) 1 [] ≡ get_or x.lists 1 [] = get_or-set_other x.lists 0 1 zs [] (omega arith) in
    rw (w, r, f) refl

pub seen-free : (x : Lists) (counts : List ℕ) (ticket : ℕ) (zs : List (ℕ × ℕ)) → 1 < length x.lists → seen (with_list x 1 zs) counts ticket ≡ record (seen x counts ticket) { free = slots_of zs }
seen-free x counts ticket zs h =
    let w : drop 2 (set x.lists 1 zs) ≡ drop 2 x.lists = drop-set-lt 2 x.lists 1 zs (omega arith) in
    let r : get_or (set x.lists 1 zs) 0 [] ≡ get_or x.lists 0 [] = get_or-set_other x.lists 1 0 zs [] (omega arith) in
    let f : get_or (set x.lists 1 zs) 1 [] ≡ zs = get_or-set_same x.lists 1 zs [] h in
    rw (w, r, f) refl

kept-rest : (x : Lists) (counts : List ℕ) (l : ℕ) (zs : List (ℕ × ℕ)) → IsKept x counts → l < 2 → IsLinked (with_list x l zs) → IsKept (with_list x l zs) counts
kept-rest x counts l zs h below linked = record {
  lists = length-set x.lists l zs ∙ h.lists;
  linked = linked;
  above = λ i il. subst (λ a. ValuesAbove (get_or counts i 0) a) (sym (get_or-set_other x.lists l (2 + i) zs [] (omega arith))) (h.above i il);
}

pub ready-left : (x y : Lists) (counts : List ℕ) (ticket : ℕ) (k : View) (zs : List (ℕ × ℕ)) (ready : List ℕ) → IsKept x counts → seen x counts ticket ≡ k → IsLinked y → y ≡ with_list x 0 zs → slots_of zs ≡ ready → IsLeft y counts ticket (record k { ready = ready })
ready-left x y counts ticket k zs ready h ke linked ye re =
    let is : seen (with_list x 0 zs) counts ticket ≡ record k { ready = ready } =
    seen-ready x counts ticket zs (omega (arith, h.lists)) ∙ (ap (λ a. record (seen x counts ticket) { ready = a }) re ∙ ap (λ (a : View). record a { ready = ready }) ke) in
    subst (λ a. IsLeft a counts ticket (record k { ready = ready })) (sym ye)
    (left (with_list x 0 zs) counts ticket _ (kept-rest x counts 0 zs h (omega arith) (subst (λ a. IsLinked a) ye linked)) is)

pub free-left : (x y : Lists) (counts : List ℕ) (ticket : ℕ) (k : View) (zs : List (ℕ × ℕ)) (free : List ℕ) → IsKept x counts → seen x counts ticket ≡ k → IsLinked y → y ≡ with_list x 1 zs → slots_of zs ≡ free → IsLeft y counts ticket (record k { free = free })
free-left x y counts ticket k zs free h ke linked ye fe =
    let is : seen (with_list x 1 zs) counts ticket ≡ record k { free = free } =
    seen-free x counts ticket zs (omega (arith, h.lists)) ∙ (ap (λ a. record (seen x counts ticket) { free = a }) fe ∙ ap (λ (a : View). record a { free = free }) ke) in
    subst (λ a. IsLeft a counts ticket (record k { free = free })) (sym ye)
    (left (with_list x 1 zs) counts ticket _ (kept-rest x counts 1 zs h (omega arith) (subst (λ a. IsLinked a) ye linked)) is)

slots-drop : (xs : List (ℕ × ℕ)) → slots_of (drop 1 xs) ≡ drop 1 (slots_of xs)
slots-drop [] = refl
slots-drop (x ∷ xs) = refl

pub next_ready : (x y : Lists) (counts : List ℕ) (ticket : ℕ) (k : View) → IsKept x counts → seen x counts ticket ≡ k → IsLinked y → y ≡ with_list x 0 (drop 1 (list_at x 0)) → IsLeft y counts ticket (record k { ready = drop 1 k.ready })
next_ready x y counts ticket k h ke linked ye =
    ready-left x y counts ticket k (drop 1 (list_at x 0)) (drop 1 k.ready) h ke linked ye (slots-drop (list_at x 0) ∙ ap (λ a. drop 1 a.ready) ke)

pub take_slot : (x y : Lists) (counts : List ℕ) (ticket : ℕ) (k : View) → IsKept x counts → seen x counts ticket ≡ k → IsLinked y → y ≡ with_list x 1 (drop 1 (list_at x 1)) → IsLeft y counts ticket (record k { free = drop 1 k.free })
take_slot x y counts ticket k h ke linked ye =
    free-left x y counts ticket k (drop 1 (list_at x 1)) (drop 1 k.free) h ke linked ye (slots-drop (list_at x 1) ∙ ap (λ a. drop 1 a.free) ke)

pub free_slot : (x y : Lists) (counts : List ℕ) (ticket : ℕ) (k : View) (s v : ℕ) → IsKept x counts → seen x counts ticket ≡ k → IsLinked y → y ≡ with_list x 1 (list_at x 1 ++ (s, v) ∷ []) → IsLeft y counts ticket (record k { free = k.free ++ s ∷ [] })
free_slot x y counts ticket k s v h ke linked ye =
    free-left x y counts ticket k (list_at x 1 ++ (s, v) ∷ []) (k.free ++ s ∷ []) h ke linked ye (slots-append (list_at x 1) ((s, v) ∷ []) ∙ ap (λ a. a.free ++ s ∷ []) ke)

-- a slot that stands in list 0 is taken out of that alone
removed : (s : ℕ) (ls : List (List (ℕ × ℕ))) → places_in s ls ≤ 1 → 0 < times_in s (get_or ls 0 []) → map (lists.without s) ls ≡ set ls 0 (lists.without s (get_or ls 0 []))
removed s [] o h = refl
removed s (r ∷ ls) o h = ap (λ a. lists.without s r ∷ a) (none s ls (omega arith)) where
  none : (s : ℕ) (ls : List (List (ℕ × ℕ))) → places_in s ls ≡ 0 → map (lists.without s) ls ≡ ls
  none s [] z = refl
  none s (xs ∷ ls) z =
      let a : lists.without s xs ≡ xs = without-absent s xs (omega arith) in
      let b : map (lists.without s) ls ≡ ls = none s ls (omega arith) in
      rw (a, b) refl

-- a slot that is seen to be ready stands in list 0
pub stands_ready : (x : Lists) (counts : List ℕ) (ticket : ℕ) (k : View) (s : ℕ) → seen x counts ticket ≡ k → 0 < times s k.ready → 0 < times_in s (list_at x 0)
stands_ready x counts ticket k s ke h = omega (arith, times-slots s (list_at x 0), ap (λ a. times s a.ready) ke)

pub stands_somewhere : (x : Lists) (counts : List ℕ) (ticket : ℕ) (k : View) (s : ℕ) → seen x counts ticket ≡ k → 0 < times s k.ready → 0 < places_in s x.lists
stands_somewhere x counts ticket k s ke h = omega (arith, stands_ready x counts ticket k s ke h, times-le-places s x.lists 0)

pub take_ready : (x y : Lists) (counts : List ℕ) (ticket : ℕ) (k : View) (s : ℕ) → IsKept x counts → seen x counts ticket ≡ k → 0 < times s k.ready → IsLinked y → y ≡ record x { lists = map (lists.without s) x.lists } → IsLeft y counts ticket (record k { ready = without s k.ready })
take_ready x y counts ticket k s h ke here linked ye =
    let one : map (lists.without s) x.lists ≡ set x.lists 0 (lists.without s (list_at x 0)) = removed s x.lists (h.linked.once s) (stands_ready x counts ticket k s ke here) in
    ready-left x y counts ticket k (lists.without s (list_at x 0)) (without s k.ready) h ke linked (ye ∙ ap (λ a. record x { lists = a }) one) (slots-without s (list_at x 0) ∙ ap (λ a. without s a.ready) ke)

-- an event advances: its count grows, and the slots that it wakes go to the ready list
advance_seen : (x y : Lists) (counts : List ℕ) (ticket e : ℕ) → IsKept x counts → e < length counts → IsLinked y → y ≡ woken x (2 + e) (get_or counts e 0 + 1) → IsLeft y (set counts e (get_or counts e 0 + 1)) ticket (advanced (seen x counts ticket) e)
advance_seen x y counts ticket e h el linked ye =
    let c : ℕ = get_or counts e 0 + 1 in
    let k : View = seen x counts ticket in
    let zs : List (ℕ × ℕ) = list_at x (2 + e) in
    let m : ℕ = reached_part c zs in
    let rest : Lists = with_list x (2 + e) (drop m zs) in
    let ready : List (ℕ × ℕ) = list_at x 0 ++ map at_end (take m zs) in
    let counts' : List ℕ = set counts e c in
    let kept : IsKept (with_list rest 0 ready) counts' = record {
      lists = omega (arith, length-set rest.lists 0 ready, length-set x.lists (2 + e) (drop m zs), length-set counts e c, h.lists);
      linked = subst (λ a. IsLinked a) ye linked;
      above = λ i il.
          let other : get_or (set rest.lists 0 ready) (2 + i) [] ≡ get_or rest.lists (2 + i) [] = get_or-set_other rest.lists 0 (2 + i) ready [] (omega arith) in
          subst (λ a. ValuesAbove (get_or counts' i 0) a) (sym other)
          (elim (cases_eq i e) [
            | inl j ↦ subst (λ b. ValuesAbove (get_or counts' b 0) (get_or rest.lists (2 + b) [])) (sym j)
                (rw (get_or-set_same counts e c 0 el, get_or-set_same x.lists (2 + e) (drop m zs) [] (omega (arith, h.lists))) (above-rest c zs (h.linked.ordered (2 + e) (omega (arith, h.lists)))))
            | inr d ↦
                let same : get_or rest.lists (2 + i) [] ≡ list_at x (2 + i) = get_or-set_other x.lists (2 + e) (2 + i) (drop m zs) [] (omega arith) in
                let count : get_or counts' i 0 ≡ get_or counts i 0 = get_or-set_other counts e i c 0 d in
                rw (same, count) (h.above i (omega (arith, length-set counts e c)))
          ]);
    } in
    let ws : waiters_at k e ≡ map waiter zs = waiters-seen x.lists e in
    let wk : wakes k e ≡ m = ap (λ a. prefix_len (reached_by c) a) ws ∙ reached-waiters c zs in
    let waiters_left : map waiter (drop m zs) ≡ drop (wakes k e) (waiters_at k e) =
    sym (drop-waiters m zs) ∙ (ap (λ i. drop i (map waiter zs)) (sym wk) ∙ ap (λ a. drop (wakes k e) a) (sym ws)) in
    let slots_ready : slots_of ready ≡ k.ready ++ map (λ w. w.1) (take (wakes k e) (waiters_at k e)) =
    slots-append (list_at x 0) (map at_end (take m zs)) ∙ ap (λ a. k.ready ++ a) (woken-slots m zs ∙ (ap (λ i. map (λ (w : ℕ × ℕ). w.1) (take i (map waiter zs))) (sym wk) ∙ ap (λ a. map (λ (w : ℕ × ℕ). w.1) (take (wakes k e) a)) (sym ws))) in
    let before : View = seen x counts' ticket in
    let is : seen (with_list rest 0 ready) counts' ticket ≡ advanced k e =
    seen-ready rest counts' ticket ready (omega (arith, length-set x.lists (2 + e) (drop m zs), h.lists))
    ∙ (ap (λ (a : View). record a { ready = slots_of ready }) (seen-waiters x counts' ticket e (drop m zs))
    ∙ (ap (λ a. record before { waiters = set before.waiters e a; ready = slots_of ready }) waiters_left
    ∙ ap (λ a. record before { waiters = set before.waiters e (drop (wakes k e) (waiters_at k e)); ready = a }) slots_ready)) in
    subst (λ a. IsLeft a counts' ticket (advanced k e)) (sym ye) (left (with_list rest 0 ready) counts' ticket (advanced k e) kept is)

pub advance : (x y : Lists) (counts : List ℕ) (ticket : ℕ) (k : View) (e : ℕ) → IsKept x counts → seen x counts ticket ≡ k → e < length k.counts → IsLinked y → y ≡ woken x (2 + e) (count_at k e + 1) → IsLeft y (set counts e (count_at k e + 1)) ticket (advanced k e)
advance x y counts ticket k e h ke el linked ye =
    subst (λ a. e < length a.counts → y ≡ woken x (2 + e) (count_at a e + 1) → IsLeft y (set counts e (count_at a e + 1)) ticket (advanced a e)) ke (λ l i. advance_seen x y counts ticket e h l linked i) el ye

-- the same from the count that was read
pub advance_read : (x y : Lists) (counts : List ℕ) (ticket : ℕ) (k : View) (e q : ℕ) → IsKept x counts → seen x counts ticket ≡ k → e < length k.counts → q ≡ get_or counts e q → IsLinked y → y ≡ woken x (2 + e) (q + 1) → IsLeft y (set counts e (q + 1)) ticket (advanced k e)
advance_read x y counts ticket k e q h ke el qe linked ye =
    let cs : counts ≡ k.counts = ap (λ a. a.counts) ke in
    let is : q ≡ count_at k e = qe ∙ (get_or_default counts e q 0 (subst (λ a. e < length a) (sym cs) el) ∙ ap (λ a. get_or a e 0) cs) in
    subst (λ a. IsLeft y (set counts e (a + 1)) ticket (advanced k e)) (sym is) (advance x y counts ticket k e h ke el linked (ye ∙ ap (λ a. woken x (2 + e) (a + 1)) is))

pub wakes_read : (x : Lists) (counts : List ℕ) (ticket : ℕ) (k : View) (e q r : ℕ) → seen x counts ticket ≡ k → e < length k.counts → q ≡ get_or counts e q → r ≡ reached_part (q + 1) (list_at x (2 + e)) → r ≡ wakes k e
wakes_read x counts ticket k e q r ke el qe re =
    let cs : counts ≡ k.counts = ap (λ a. a.counts) ke in
    let is : q ≡ get_or counts e 0 = qe ∙ get_or_default counts e q 0 (subst (λ a. e < length a) (sym cs) el) in
    let w : wakes (seen x counts ticket) e ≡ reached_part (get_or counts e 0 + 1) (list_at x (2 + e)) =
    ap (λ a. prefix_len (reached_by (get_or counts e 0 + 1)) a) (waiters-seen x.lists e) ∙ reached-waiters (get_or counts e 0 + 1) (list_at x (2 + e)) in
    re ∙ (ap (λ a. reached_part (a + 1) (list_at x (2 + e))) is ∙ (sym w ∙ ap (λ a. wakes a e) ke))

times-first : (s : ℕ) (xs : List ℕ) → Some s ≡ first_of xs → times s xs ≡ 1 + times s (drop 1 xs)
times-first s [] e = cc
times-first s (x ∷ xs) e = (let i : s ≡ x = cc in grind (arith, nat_tests))

-- the first slot of a list stands nowhere once it is taken out
first-slots : (xs : List (ℕ × ℕ)) → option_map (λ (x : ℕ × ℕ). x.0) (lists.front_of xs) ≡ first_of (slots_of xs)
first-slots [] = refl
first-slots (x ∷ xs) = refl

gone : (o : Option ℕ) (k k' : View) (xs : List ℕ) → IsKernel k → o ≡ first_of xs → k'.slots ≡ k.slots → ((s : ℕ) → places s k' + times s xs ≡ places s k + times s (drop 1 xs)) → ((s : ℕ) → times s xs ≤ places s k) → IfSome o (StandsNowhere k')
gone None k k' xs h e same moved here = tt
gone (Some s) k k' xs h e same moved here =
    let f : times s xs ≡ 1 + times s (drop 1 xs) = times-first s xs e in
    (omega (arith, same, h.in_range s (omega (arith, here s))), omega (arith, moved s, h.once s, here s))

pub ready_gone : (x y : Lists) (counts : List ℕ) (ticket : ℕ) (o : Option ℕ) → IsKept x counts → o ≡ option_map (λ (a : ℕ × ℕ). a.0) (lists.front_of (list_at x 0)) → IsLinked y → y ≡ with_list x 0 (drop 1 (list_at x 0)) → IfSome o (StandsNowhere (seen y counts ticket))
ready_gone x y counts ticket o h oe linked ye =
    let k : View = seen x counts ticket in
    let is : seen y counts ticket ≡ record k { ready = drop 1 k.ready } = (next_ready x y counts ticket k h refl linked ye).is in
    subst (λ a. IfSome o (StandsNowhere a)) (sym is)
    (gone o k (record k { ready = drop 1 k.ready }) k.ready (kernel x counts ticket h) (oe ∙ first-slots (list_at x 0)) refl (λ s. omega arith) (λ s. omega arith))

pub free_gone : (x y : Lists) (counts : List ℕ) (ticket : ℕ) (o : Option ℕ) → IsKept x counts → o ≡ option_map (λ (a : ℕ × ℕ). a.0) (lists.front_of (list_at x 1)) → IsLinked y → y ≡ with_list x 1 (drop 1 (list_at x 1)) → IfSome o (StandsNowhere (seen y counts ticket))
free_gone x y counts ticket o h oe linked ye =
    let k : View = seen x counts ticket in
    let is : seen y counts ticket ≡ record k { free = drop 1 k.free } = (take_slot x y counts ticket k h refl linked ye).is in
    subst (λ a. IfSome o (StandsNowhere a)) (sym is)
    (gone o k (record k { free = drop 1 k.free }) k.free (kernel x counts ticket h) (oe ∙ first-slots (list_at x 1)) refl (λ s. omega arith) (λ s. omega arith))

pub times-without : (s : ℕ) (xs : List ℕ) → times s (without s xs) ≡ 0
times-without s [] = refl
times-without s (x ∷ xs) = let r = times-without s xs in grind (arith, nat_tests)

-- so does a ready slot that is taken out
pub taken_gone : (x y : Lists) (counts : List ℕ) (ticket : ℕ) (k : View) (s : ℕ) → IsKept x counts → seen x counts ticket ≡ k → 0 < times s k.ready → IsLinked y → y ≡ record x { lists = map (lists.without s) x.lists } → StandsNowhere (seen y counts ticket) s
taken_gone x y counts ticket k s h ke here linked ye =
    let is : seen y counts ticket ≡ record k { ready = without s k.ready } = (take_ready x y counts ticket k s h ke here linked ye).is in
    let good : IsKernel k = subst (λ a. IsKernel a) ke (kernel x counts ticket h) in
    subst (λ a. StandsNowhere a s) (sym is) (good.in_range s (omega arith), omega (arith, times-without s k.ready, good.once s))
