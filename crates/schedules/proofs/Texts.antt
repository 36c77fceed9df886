-- What is spelled as a part of a schedule is read, and what is read is spelled so.
use Rattle.std.proofs.Common.{◌≡◌, ◌≢◌, ℕ, zero, suc, ◌^◌, ◌<◌, ◌≤◌, true, leb, ltb, ◌&&◌, List, [], ◌∷◌, ◌++◌, Option, Some, None, Ok, Err, refl, sym, ap, subst, ◌∙◌, inl, inr, append_assoc, arith}
use Rattle.std.specs.Prelude.{codes}
use Rattle.std.specs.Fmt.{decimal}
use Rattle.std.specs.List.{prefix_len, list_all}
use Rattle.std.proofs.lemmas.Bool.{and_parts, le-leb, leb-true, lt-ltb, ltb-true, cases_lt}
use Rattle.std.proofs.lemmas.Fmt.{decimal_digit}
use Rattle.machine.specs.State.{AreSizes, most_processors, most_slots}
use Rattle.schedules.specs.Reading.{act_at, after, bounded, burst_of, counted_at, entry_at, entry_by, entry_of, header_at, if_some, in_range, iteration_at, line_at, named_at, number_at, or_else, picked_at, size_at, sizes_at}
use Rattle.schedules.specs.Refusals.{BeginsEntry, IsNumber, is_digit}
use Rattle.schedules.specs.Schedules.{Act, works, shares, picks_main, picks, takes_ticket, Entry, IsAct, act_text, entry_text, header, line_before, longest_burst, sizes_text}
use Rattle.schedules.specs.declared.entry.Version.{Version}
use Rattle.schedules.specs.declared.entry.Version.TheVariants.{First, Second}
use Rattle.schedules.specs.declared.reading.NoEntry.TheVariants.{Form, Processor}
use Rattle.schedules.proofs.Lists.{on_true, on_false, choice, after_law, some_is, step_some}
use Rattle.schedules.proofs.Numbers.{decimal_is_number, in_range_small, number_again, number_sound, one_spelling, small_in_range}

-- ---- numbers

decimal_again : (n : ℕ) (rest : List ℕ) → n < 2 ^ 128 → prefix_len is_digit rest ≡ 0 → number_at (decimal n ++ rest) ≡ Some (Some n, rest)
decimal_again n rest small stop =
    number_again (decimal n) rest n (decimal_is_number n (omega (arith, small))) stop ∙ ap (λ (o : Option ℕ). Some (o, rest)) (small_in_range n small)

bounded_again : (most n : ℕ) → 1 ≤ n → n ≤ most → bounded most n ≡ Some n
bounded_again most n low high = rw (le-leb 1 n low, le-leb n most high) refl

bounded_sound : (most n m : ℕ) → bounded most n ≡ Some m → (n ≡ m) × ((1 ≤ n) × (n ≤ most))
bounded_sound most n m e =
    elim (choice (leb 1 n && leb n most) (Some n) None (Some m) e) [
      | on_true within is ↦ let parts = and_parts (leb 1 n) (leb n most) within in (some_is n m is, (leb-true 1 n parts.0, leb-true n most parts.1))
      | on_false other is ↦ absurd cc
    ]

-- a number that was read, of at most 128 bits, is spelled in shortest decimal
pub record Decimal (t : List ℕ) (n : ℕ) (rest : List ℕ) : Type 0 where
  pub small : n < 2 ^ 128
  pub is : t ≡ decimal n ++ rest

decimal_sound : (t : List ℕ) (x : Option ℕ × List ℕ) (n : ℕ) → number_at t ≡ Some x → x.0 ≡ Some n → Decimal t n x.1
decimal_sound t x n e f =
    let read = number_sound t x e in
    let small = in_range_small read.n n (sym read.read ∙ f) in
    let spelled : read.digits ≡ decimal n = one_spelling read.digits read.n read.number (omega (arith, small.1)) ∙ ap decimal small.0 in
    record { small = subst (λ (m : ℕ). m < 2 ^ 128) small.0 small.1; is = read.is ∙ ap (λ (ds : List ℕ). ds ++ x.1) spelled }

-- ---- the first line

pub header_again : (v : Version) (rest : List ℕ) → header_at (line_before (header v) rest) ≡ Some (v, rest)
header_again First rest = refl
header_again Second rest = refl

-- ---- the second line

size_again : (most n : ℕ) (rest : List ℕ) → most < 2 ^ 128 → 1 ≤ n → n ≤ most → prefix_len is_digit rest ≡ 0 → size_at most (decimal n ++ rest) ≡ Some (n, rest)
size_again most n rest wide low high stop = rw (decimal_again n rest (omega (arith, high, wide)) stop, bounded_again most n low high) refl

pub sizes_again : (p s : ℕ) (rest : List ℕ) → AreSizes p s → sizes_at (line_before (sizes_text p s) rest) ≡ Some (p, s, rest)
sizes_again p s rest h =
    let shape : line_before (sizes_text p s) rest ≡ decimal p ++ 32 ∷ (decimal s ++ 10 ∷ rest) = append_assoc (decimal p) (32 ∷ decimal s) (10 ∷ rest) in
    let one : size_at most_processors (decimal p ++ 32 ∷ (decimal s ++ 10 ∷ rest)) ≡ Some (p, 32 ∷ (decimal s ++ 10 ∷ rest)) =
    size_again most_processors p (32 ∷ (decimal s ++ 10 ∷ rest)) (omega arith) h.0.0 h.0.1 refl in
    let two : size_at most_slots (decimal s ++ 10 ∷ rest) ≡ Some (s, 10 ∷ rest) = size_again most_slots s (10 ∷ rest) (omega arith) h.1.0 h.1.1 refl in
    ap sizes_at shape ∙ rw (one, two) refl

-- ---- acts

first_of : (ds : List ℕ) (n : ℕ) → IsNumber ds n → (c : ℕ) × (cs : List ℕ) × (ds ≡ c ∷ cs) × (is_digit c ≡ true)
first_of [] n h = absurd (let k = h.shortest in cc)
first_of (c ∷ cs) n h = (c, cs, refl, (and_parts (is_digit c) (list_all is_digit cs) h.all).0)

after_other : (w : ℕ) (ws : List ℕ) (c : ℕ) (cs : List ℕ) → c ≢ w → after (w ∷ ws) (c ∷ cs) ≡ None
after_other w ws c cs h = go (after (w ∷ ws) (c ∷ cs)) refl
  where
    go : (o : Option (List ℕ)) → after (w ∷ ws) (c ∷ cs) ≡ o → after (w ∷ ws) (c ∷ cs) ≡ None
    go None e = e
    go (Some u) e = let k : c ∷ cs ≡ (w ∷ ws) ++ u = after_law (w ∷ ws) (c ∷ cs) u e in absurd (h cc)

picks_none : (c : ℕ) (cs : List ℕ) → is_digit c ≡ true → picked_at (c ∷ cs) ≡ None
picks_none c cs h =
    let high : c ≤ 57 = leb-true c 57 (and_parts (leb 48 c) (leb c 57) h).1 in
    let no_main : after (codes "M") (c ∷ cs) ≡ None = after_other 77 [] c cs (λ e. omega (arith, high, e)) in
    let no_ticket : after (codes "T") (c ∷ cs) ≡ None = after_other 84 [] c cs (λ e. omega (arith, high, e)) in
    let no_iteration : after (codes "I ") (c ∷ cs) ≡ None = after_other 73 (codes " ") c cs (λ e. omega (arith, high, e)) in
    ap (λ (o : Option (List ℕ)). or_else (named_at picks_main o) (or_else (named_at takes_ticket (after (codes "T") (c ∷ cs))) (iteration_at (c ∷ cs)))) no_main
    ∙ ap (λ (o : Option (List ℕ)). or_else (named_at takes_ticket o) (iteration_at (c ∷ cs))) no_ticket
    ∙ ap (λ (o : Option (List ℕ)). if_some o (λ u. if_some (number_at u) (λ x. if_some x.0 (λ k. Some (picks k, x.1))))) no_iteration

picks_no_decimal : (n : ℕ) (rest : List ℕ) → n < 2 ^ 128 → picked_at (decimal n ++ rest) ≡ None
picks_no_decimal n rest small =
    let f = first_of (decimal n) n (decimal_is_number n (omega (arith, small))) in
    ap (λ (ds : List ℕ). picked_at (ds ++ rest)) f.2 ∙ picks_none f.0 (f.1 ++ rest) f.3

works_again : (n : ℕ) (rest : List ℕ) → 1 ≤ n → n ≤ longest_burst → counted_at (decimal n ++ 10 ∷ rest) ≡ Some (works n, 10 ∷ rest)
works_again zero rest low high = absurd (omega (arith, low))
works_again (suc n) rest low high =
    rw (decimal_again (suc n) (10 ∷ rest) (omega (arith, high)) refl, bounded_again longest_burst (suc n) low high) refl

act_again : (v : Version) (a : Act) (rest : List ℕ) → IsAct v a → act_at v (act_text a ++ 10 ∷ rest) ≡ Some (a, 10 ∷ rest)
act_again First (works n) rest h = works_again n rest h.0 h.1
act_again Second (works n) rest h = rw (picks_no_decimal n (10 ∷ rest) (omega (arith, h.1)), works_again n rest h.0 h.1) refl
act_again First shares rest h = refl
act_again Second shares rest h = refl
act_again Second picks_main rest h = refl
act_again Second (picks k) rest h = rw (decimal_again k (10 ∷ rest) h refl) refl
act_again Second takes_ticket rest h = refl
act_again First picks_main rest h = absurd h
act_again First (picks k) rest h = absurd h
act_again First takes_ticket rest h = absurd h

-- ---- what is read of an act is spelled

burst_sound : (n : ℕ) (a : Act) (v : Version) → burst_of n ≡ Some a → IsAct v a × (act_text a ≡ decimal n)
burst_sound zero a v e = subst (λ (b : Act). IsAct v b × (act_text b ≡ decimal 0)) (some_is shares a e) (tt, sym (decimal_digit 0 (omega arith)))
burst_sound (suc n) a v e =
    let step = step_some (bounded longest_burst (suc n)) (λ m. Some (works m)) a e in
    let sound = bounded_sound longest_burst (suc n) step.0 step.1 in
    let is : works (suc n) ≡ a = ap (λ (m : ℕ). works m) sound.0 ∙ some_is (works step.0) a step.2 in
    subst (λ (b : Act). IsAct v b × (act_text b ≡ decimal (suc n))) is ((sound.1.0, sound.1.1), refl)

pub record ReadAct (v : Version) (t : List ℕ) (x : Act × List ℕ) : Type 0 where
  pub allowed : IsAct v x.0
  pub is : t ≡ act_text x.0 ++ x.1

counted_sound : (v : Version) (t : List ℕ) (x : Act × List ℕ) → counted_at t ≡ Some x → ReadAct v t x
counted_sound v t x e =
    let one = step_some (number_at t) (λ y. if_some y.0 (λ n. if_some (burst_of n) (λ a. Some (a, y.1)))) x e in
    let two = step_some one.0.0 (λ n. if_some (burst_of n) (λ a. Some (a, one.0.1))) x one.2 in
    let three = step_some (burst_of two.0) (λ a. Some (a, one.0.1)) x two.2 in
    let number = decimal_sound t one.0 two.0 one.1 two.1 in
    let act = burst_sound two.0 three.0 v three.1 in
    subst (λ (y : Act × List ℕ). ReadAct v t y) (some_is (three.0, one.0.1) x three.2)
    (record { allowed = act.0; is = number.is ∙ ap (λ (ds : List ℕ). ds ++ one.0.1) (sym act.1) })

iteration_sound : (t : List ℕ) (x : Act × List ℕ) → iteration_at t ≡ Some x → ReadAct Second t x
iteration_sound t x e =
    let word = step_some (after (codes "I ") t) (λ u. if_some (number_at u) (λ y. if_some y.0 (λ k. Some (picks k, y.1)))) x e in
    let one = step_some (number_at word.0) (λ y. if_some y.0 (λ k. Some (picks k, y.1))) x word.2 in
    let two = step_some one.0.0 (λ k. Some (picks k, one.0.1)) x one.2 in
    let number = decimal_sound word.0 one.0 two.0 one.1 two.1 in
    subst (λ (y : Act × List ℕ). ReadAct Second t y) (some_is (picks two.0, one.0.1) x two.2)
    (record { allowed = number.small; is = after_law (codes "I ") t word.0 word.1 ∙ ap (λ (u : List ℕ). codes "I " ++ u) number.is })

named_sound : (a : Act) (word t : List ℕ) (x : Act × List ℕ) → IsAct Second a → act_text a ≡ word → named_at a (after word t) ≡ Some x → ReadAct Second t x
named_sound a word t x allowed is e = go (after word t) refl e
  where
    go : (o : Option (List ℕ)) → after word t ≡ o → named_at a o ≡ Some x → ReadAct Second t x
    go None f e = absurd cc
    go (Some rest) f e =
        subst (λ (y : Act × List ℕ). ReadAct Second t y) (some_is (a, rest) x e)
        (record { allowed = allowed; is = after_law word t rest f ∙ ap (λ (w : List ℕ). w ++ rest) (sym is) })

either_sound : (P : Act × List ℕ → Type 0) (o r : Option (Act × List ℕ)) (x : Act × List ℕ) → or_else o r ≡ Some x → (o ≡ Some x → P x) → (r ≡ Some x → P x) → P x
either_sound P None r x e f g = g e
either_sound P (Some y) r x e f g = f e

act_sound : (v : Version) (t : List ℕ) (x : Act × List ℕ) → act_at v t ≡ Some x → ReadAct v t x
act_sound First t x e = counted_sound First t x e
act_sound Second t x e =
    either_sound (ReadAct Second t) (picked_at t) (counted_at t) x e
    (λ p. either_sound (ReadAct Second t) (named_at picks_main (after (codes "M") t)) (or_else (named_at takes_ticket (after (codes "T") t)) (iteration_at t)) x p
    (λ q. named_sound picks_main (codes "M") t x tt refl q)
    (λ q. either_sound (ReadAct Second t) (named_at takes_ticket (after (codes "T") t)) (iteration_at t) x q
    (λ r. named_sound takes_ticket (codes "T") t x tt refl r) (λ r. iteration_sound t x r)))
    (λ p. counted_sound Second t x p)

-- ---- entries

-- what is spelled as an entry, of whatever processor, is read
pub line_again : (v : Version) (q : ℕ) (t : List ℕ) (b : BeginsEntry v q t) → line_at v t ≡ Some (in_range q, b.act, b.rest)
line_again v q t b =
    let one : number_at (b.digits ++ 32 ∷ line_before (act_text b.act) b.rest) ≡ Some (in_range q, 32 ∷ line_before (act_text b.act) b.rest) =
    number_again b.digits (32 ∷ line_before (act_text b.act) b.rest) q b.number refl in
    let two : act_at v (act_text b.act ++ 10 ∷ b.rest) ≡ Some (b.act, 10 ∷ b.rest) = act_again v b.act b.rest b.allowed in
    ap (line_at v) b.is ∙ rw (one, two) refl

pub entry_again : (v : Version) (p q : ℕ) (t : List ℕ) (b : BeginsEntry v q t) → entry_at v p t ≡ entry_by p (in_range q) b.act b.rest
entry_again v p q t b = ap (entry_of p) (line_again v q t b)

-- an entry begins its line
abbrev pub begins : (v : Version) (p : ℕ) (e : Entry) (rest : List ℕ) → p ≤ most_processors → e.processor < p → IsAct v e.act → BeginsEntry v e.processor (line_before (entry_text e) rest)
begins v p e rest few below allowed = record {
  digits = decimal e.processor;
  number = decimal_is_number e.processor (omega (arith, few, below));
  act = e.act;
  allowed = allowed;
  rest = rest;
  is = append_assoc (decimal e.processor) (32 ∷ act_text e.act) (10 ∷ rest);
}

pub entry_is_read : (v : Version) (p : ℕ) (e : Entry) (rest : List ℕ) → p ≤ most_processors → e.processor < p → IsAct v e.act
    → entry_at v p (line_before (entry_text e) rest) ≡ Ok (e, rest)
entry_is_read v p e rest few below allowed =
    entry_again v p e.processor (line_before (entry_text e) rest) (begins v p e rest few below allowed)
    ∙ rw (small_in_range e.processor (omega (arith, few, below)), lt-ltb e.processor p below) refl

-- what is read of a line
pub record ReadLine (v : Version) (t : List ℕ) (x : Option ℕ × Act × List ℕ) : Type 0 where
  pub processor : ℕ
  pub known : x.0 ≡ in_range processor
  pub entry : BeginsEntry v processor t
  pub act : entry.act ≡ x.1
  pub rest : entry.rest ≡ x.2

pub line_sound : (v : Version) (t : List ℕ) (x : Option ℕ × Act × List ℕ) → line_at v t ≡ Some x → ReadLine v t x
line_sound v t x e =
    let one = step_some (number_at t) (λ y. if_some (after (codes " ") y.1) (λ u. if_some (act_at v u) (λ z. if_some (after (codes "\n") z.1) (λ w. Some (y.0, z.0, w))))) x e in
    let two = step_some (after (codes " ") one.0.1) (λ u. if_some (act_at v u) (λ z. if_some (after (codes "\n") z.1) (λ w. Some (one.0.0, z.0, w)))) x one.2 in
    let three = step_some (act_at v two.0) (λ z. if_some (after (codes "\n") z.1) (λ w. Some (one.0.0, z.0, w))) x two.2 in
    let four = step_some (after (codes "\n") three.0.1) (λ w. Some (one.0.0, three.0.0, w)) x three.2 in
    let number = number_sound t one.0 one.1 in
    let act = act_sound v two.0 three.0 three.1 in
    let blank : one.0.1 ≡ 32 ∷ two.0 = after_law (codes " ") one.0.1 two.0 two.1 in
    let end : three.0.1 ≡ 10 ∷ four.0 = after_law (codes "\n") three.0.1 four.0 four.1 in
    let behind : two.0 ≡ line_before (act_text three.0.0) four.0 = act.is ∙ ap (λ (u : List ℕ). act_text three.0.0 ++ u) end in
    subst (λ (y : Option ℕ × Act × List ℕ). ReadLine v t y) (some_is (one.0.0, three.0.0, four.0) x four.2)
    (record {
      processor = number.n;
      known = number.read;
      entry = record {
        digits = number.digits;
        number = number.number;
        act = three.0.0;
        allowed = act.allowed;
        rest = four.0;
        is = number.is ∙ ap (λ (u : List ℕ). number.digits ++ u) (blank ∙ ap (λ (u : List ℕ). 32 ∷ u) behind);
      };
      act = refl;
      rest = refl;
    })

-- what is read as an entry is spelled so
pub record ReadEntry (v : Version) (p : ℕ) (t : List ℕ) (e : Entry) (rest : List ℕ) : Type 0 where
  pub below : e.processor < p
  pub allowed : IsAct v e.act
  pub is : t ≡ line_before (entry_text e) rest

entry_by_sound : (p : ℕ) (o : Option ℕ) (a : Act) (t : List ℕ) (x : Entry × List ℕ) → entry_by p o a t ≡ Ok x
    → (q : ℕ) × (o ≡ Some q) × (q < p) × (record { processor = q; act = a } ≡ x.0) × (t ≡ x.1)
entry_by_sound p None a t x e = absurd cc
entry_by_sound p (Some q) a t x e =
    elim (choice (ltb q p) (Ok (record { processor = q; act = a }, t)) (Err Processor) (Ok x) e) [
      | on_true below is ↦ (q, refl, ltb-true q p below, cc, cc)
      | on_false other is ↦ absurd cc
    ]

pub entry_sound : (v : Version) (p : ℕ) (t : List ℕ) (x : Entry × List ℕ) → p ≤ most_processors → entry_at v p t ≡ Ok x → ReadEntry v p t x.0 x.1
entry_sound v p t x few e = go (line_at v t) refl e
  where
    go : (o : Option (Option ℕ × Act × List ℕ)) → line_at v t ≡ o → entry_of p o ≡ Ok x → ReadEntry v p t x.0 x.1
    go None f g = absurd cc
    go (Some y) f g =
        let line = line_sound v t y f in
        let by = entry_by_sound p y.0 y.1 y.2 x g in
        let small = in_range_small line.processor by.0 (sym line.known ∙ by.1) in
        let spelled : line.entry.digits ≡ decimal by.0 =
        one_spelling line.entry.digits line.processor line.entry.number (omega (arith, small.1)) ∙ ap decimal small.0 in
        let shape : line_before (entry_text (record { processor = by.0; act = y.1 })) y.2 ≡ decimal by.0 ++ 32 ∷ line_before (act_text y.1) y.2 =
        append_assoc (decimal by.0) (32 ∷ act_text y.1) (10 ∷ y.2) in
        let is : t ≡ line_before (entry_text (record { processor = by.0; act = y.1 })) y.2 =
        line.entry.is ∙ ap (λ (ds : List ℕ). ds ++ 32 ∷ line_before (act_text line.entry.act) line.entry.rest) spelled
        ∙ ap (λ (a : Act). decimal by.0 ++ 32 ∷ line_before (act_text a) line.entry.rest) line.act
        ∙ ap (λ (u : List ℕ). decimal by.0 ++ 32 ∷ line_before (act_text y.1) u) line.rest ∙ sym shape in
        let allowed : IsAct v y.1 = subst (λ (a : Act). IsAct v a) line.act line.entry.allowed in
        subst (λ (u : List ℕ). ReadEntry v p t x.0 u) by.4
        (subst (λ (z : Entry). ReadEntry v p t z y.2) by.3 (record { below = by.2; allowed = allowed; is = is }))

-- where an entry's form isn't read there is none
pub no_form : (v : Version) (p : ℕ) (t : List ℕ) → entry_at v p t ≡ Err Form → (q : ℕ) → BeginsEntry v q t → ⊥
no_form v p t e q b = go (in_range q) (sym (entry_again v p q t b) ∙ e)
  where
    go : (o : Option ℕ) → entry_by p o b.act b.rest ≡ Err Form → ⊥
    go None f = cc
    go (Some n) f =
        elim (choice (ltb n p) (Ok (record { processor = n; act = b.act }, b.rest)) (Err Processor) (Err Form) f) [
          | on_true below is ↦ cc
          | on_false other is ↦ cc
        ]

-- where its processor isn't read, that isn't there
pub no_processor : (v : Version) (p : ℕ) (t : List ℕ) → p ≤ most_processors → entry_at v p t ≡ Err Processor → (q : ℕ) × BeginsEntry v q t × (p ≤ q)
no_processor v p t few e = go (line_at v t) refl e
  where
    absent : (q : ℕ) (a : Act) (rest : List ℕ) → entry_by p (in_range q) a rest ≡ Err Processor → p ≤ q
    absent q a rest f =
        elim (cases_lt q p) [
          | inl below ↦ absurd (let k : entry_by p (in_range q) a rest ≡ Ok (record { processor = q; act = a }, rest) =
              rw (small_in_range q (omega (arith, few, below)), lt-ltb q p below) refl in cc)
          | inr above ↦ above
        ]

    go : (o : Option (Option ℕ × Act × List ℕ)) → line_at v t ≡ o → entry_of p o ≡ Err Processor → (q : ℕ) × BeginsEntry v q t × (p ≤ q)
    go None f g = absurd cc
    go (Some y) f g =
        let line = line_sound v t y f in
        (line.processor, line.entry, absent line.processor y.1 y.2 (ap (λ (o : Option ℕ). entry_by p o y.1 y.2) (sym line.known) ∙ g))

-- ---- what is read of the first two lines is spelled

pub header_sound : (t : List ℕ) (x : Version × List ℕ) → header_at t ≡ Some x → t ≡ line_before (header x.0) x.1
header_sound t x e = go (after (codes "DOACROSS SCHEDULE 1\n") t) refl (after (codes "DOACROSS SCHEDULE 2\n") t) refl e
  where
    go : (o : Option (List ℕ)) → after (codes "DOACROSS SCHEDULE 1\n") t ≡ o → (p : Option (List ℕ)) → after (codes "DOACROSS SCHEDULE 2\n") t ≡ p
        → ◌≡◌ {A = Option (Version × List ℕ)} (elim o [ Some u ↦ Some (First, u) | None ↦ elim p [ Some u ↦ Some (Second, u) | None ↦ None ] ]) (Some x)
        → t ≡ line_before (header x.0) x.1
    go (Some u) is p also f = subst (λ (y : Version × List ℕ). t ≡ line_before (header y.0) y.1) (some_is (First, u) x f) (after_law (codes "DOACROSS SCHEDULE 1\n") t u is)
    go None is (Some u) also f = subst (λ (y : Version × List ℕ). t ≡ line_before (header y.0) y.1) (some_is (Second, u) x f) (after_law (codes "DOACROSS SCHEDULE 2\n") t u also)
    go None is None also f = absurd cc

pub record ReadSize (most : ℕ) (t : List ℕ) (x : ℕ × List ℕ) : Type 0 where
  pub within : (1 ≤ x.0) × (x.0 ≤ most)
  pub is : t ≡ decimal x.0 ++ x.1

size_sound : (most : ℕ) (t : List ℕ) (x : ℕ × List ℕ) → size_at most t ≡ Some x → ReadSize most t x
size_sound most t x e =
    let one = step_some (number_at t) (λ y. if_some y.0 (λ n. if_some (bounded most n) (λ m. Some (m, y.1)))) x e in
    let two = step_some one.0.0 (λ n. if_some (bounded most n) (λ m. Some (m, one.0.1))) x one.2 in
    let three = step_some (bounded most two.0) (λ m. Some (m, one.0.1)) x two.2 in
    let number = decimal_sound t one.0 two.0 one.1 two.1 in
    let within = bounded_sound most two.0 three.0 three.1 in
    subst (λ (y : ℕ × List ℕ). ReadSize most t y) (some_is (three.0, one.0.1) x three.2)
    (subst (λ (m : ℕ). ReadSize most t (m, one.0.1)) within.0 (record { within = within.1; is = number.is }))

pub record ReadSizes (t : List ℕ) (x : ℕ × ℕ × List ℕ) : Type 0 where
  pub sizes : AreSizes x.0 x.1
  pub is : t ≡ line_before (sizes_text x.0 x.1) x.2

pub sizes_sound : (t : List ℕ) (x : ℕ × ℕ × List ℕ) → sizes_at t ≡ Some x → ReadSizes t x
sizes_sound t x e =
    let one = step_some (size_at most_processors t) (λ y. if_some (after (codes " ") y.1) (λ u. if_some (size_at most_slots u) (λ z. if_some (after (codes "\n") z.1) (λ w. Some (y.0, z.0, w))))) x e in
    let two = step_some (after (codes " ") one.0.1) (λ u. if_some (size_at most_slots u) (λ z. if_some (after (codes "\n") z.1) (λ w. Some (one.0.0, z.0, w)))) x one.2 in
    let three = step_some (size_at most_slots two.0) (λ z. if_some (after (codes "\n") z.1) (λ w. Some (one.0.0, z.0, w))) x two.2 in
    let four = step_some (after (codes "\n") three.0.1) (λ w. Some (one.0.0, three.0.0, w)) x three.2 in
    let processors = size_sound most_processors t one.0 one.1 in
    let slots = size_sound most_slots two.0 three.0 three.1 in
    let blank : one.0.1 ≡ 32 ∷ two.0 = after_law (codes " ") one.0.1 two.0 two.1 in
    let end : three.0.1 ≡ 10 ∷ four.0 = after_law (codes "\n") three.0.1 four.0 four.1 in
    let behind : two.0 ≡ decimal three.0.0 ++ 10 ∷ four.0 = slots.is ∙ ap (λ (u : List ℕ). decimal three.0.0 ++ u) end in
    let whole : t ≡ decimal one.0.0 ++ 32 ∷ (decimal three.0.0 ++ 10 ∷ four.0) =
    processors.is ∙ ap (λ (u : List ℕ). decimal one.0.0 ++ u) (blank ∙ ap (λ (u : List ℕ). 32 ∷ u) behind) in
    subst (λ (y : ℕ × ℕ × List ℕ). ReadSizes t y) (some_is (one.0.0, three.0.0, four.0) x four.2)
    (record { sizes = (processors.within, slots.within); is = whole ∙ sym (append_assoc (decimal one.0.0) (32 ∷ decimal three.0.0) (10 ∷ four.0)) })
