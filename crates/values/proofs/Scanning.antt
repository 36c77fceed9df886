-- The accounts of the scanner are the integers of a record.
use Rattle.std.proofs.Common.{◌≡◌, ◌∙◌, ℕ, zero, suc, ◌+◌, ◌-◌, ◌*◌, ◌<◌, ◌≤◌, Bool, true, false, List, [], ◌∷◌, ◌++◌, Option, Some, None, take, drop, length, refl, sym, ap, arith, append_assoc}
use Rattle.std.proofs.lemmas.Bool.{le-leb, lt-leb, leb-false}
use Rattle.std.proofs.lemmas.Bool.Decides.{nat_tests}
use Rattle.std.proofs.lemmas.List.{append-nil, length-append, take_rest}
use Rattle.std.specs.Prelude.{ℤ, pos, neg_ℤ, ◌&&◌, not, nat_le, if◌then◌else◌, option_map, is_some}
use Rattle.std.specs.Borrow.{Bor}
use Rattle.std.specs.List.{list_all, filter}
use Rattle.std.specs.Char.{digit_value, is_ascii_digit}
use Rattle.std.specs.Str.Parse.{digits_value, digits_value_after}
use Rattle.ast.specs.Exact.{fits}
use Rattle.ast.specs.Input.{begun, cut_at, is_blank, is_comma, is_empty, integer_of, integer_in, integers_in, integers_of, all_words, commas_part, with_first, words}
use Rattle.ast.proofs.Digits.{digit_is}
use Rattle.values.specs.Scanning.{piece_length, pieces, magnitude_from, magnitude_in, if_some, number_onto, words_onto, part_onto, parts_onto}
use Rattle.values.specs.declared.scanner.Separator.TheVariants.{Comma}

-- ---- cutting

longer : (c : ℕ) (cs : List ℕ) (n : ℕ) (ps : List (List ℕ)) (q : List (List ℕ)) → ps ≡ take n cs ∷ q → begun c ps ≡ (c ∷ take n cs) ∷ q
longer c cs n ps q e = ap (begun c) e

cut_here : (test : ℕ → Bool) (text : List ℕ) → piece_length test text < length text → cut_at test text ≡ take (piece_length test text) text ∷ cut_at test (drop (piece_length test text + 1) text)
cut_here test [] h = absurd (omega (arith, h))
cut_here test (c ∷ cs) h = by (test c) (cut_here test cs) h
  where
    by : (b : Bool) → (piece_length test cs < length cs → cut_at test cs ≡ take (piece_length test cs) cs ∷ cut_at test (drop (piece_length test cs + 1) cs)) → (if b then 0 else suc (piece_length test cs)) < suc (length cs) → (if b then [] ∷ cut_at test cs else begun c (cut_at test cs)) ≡ take (if b then 0 else suc (piece_length test cs)) (c ∷ cs) ∷ cut_at test (drop ((if b then 0 else suc (piece_length test cs)) + 1) (c ∷ cs))
    by true ih h = refl
    by false ih h =
        let next : suc (piece_length test cs) + 1 ≡ suc (piece_length test cs + 1) = omega arith in
        longer c cs (piece_length test cs) (cut_at test cs) (cut_at test (drop (piece_length test cs + 1) cs)) (ih (omega (arith, h)))
        ∙ ap (λ (k : ℕ). (c ∷ take (piece_length test cs) cs) ∷ cut_at test (drop k (c ∷ cs))) (sym next)

pub cut_behind : (test : ℕ → Bool) (text : List ℕ) (n : ℕ) → n ≡ piece_length test text → n < length text → cut_at test text ≡ take n text ∷ cut_at test (take (length text - (n + 1)) (drop (n + 1) text))
cut_behind test text n e h =
    cut_here test text (omega (arith, e, h))
    ∙ ap (λ (k : ℕ). take k text ∷ cut_at test (drop (k + 1) text)) (sym e)
    ∙ ap (λ (rest : List ℕ). take n text ∷ cut_at test rest) (sym (take_rest text (n + 1)))

pub cut_nowhere : (test : ℕ → Bool) (text : List ℕ) → length text ≤ piece_length test text → cut_at test text ≡ text ∷ []
cut_nowhere test [] h = refl
cut_nowhere test (c ∷ cs) h = by (test c) (cut_nowhere test cs) h
  where
    by : (b : Bool) → (length cs ≤ piece_length test cs → cut_at test cs ≡ cs ∷ []) → suc (length cs) ≤ (if b then 0 else suc (piece_length test cs)) → (if b then [] ∷ cut_at test cs else begun c (cut_at test cs)) ≡ (c ∷ cs) ∷ []
    by true ih h = absurd (omega (arith, h))
    by false ih h = ap (begun c) (ih (omega (arith, h)))

-- ---- numbers

grows : (n : ℕ) (cs : List ℕ) → n ≤ digits_value_after 10 n cs
grows n [] = omega arith
grows n (c ∷ cs) = let k = grows (n * 10 + digit_value c) cs in omega (arith, k)

-- what passes a limit does so for good
past : (limit m : ℕ) (cs : List ℕ) → nat_le m limit ≡ false → nat_le (digits_value_after 10 m cs) limit ≡ false
past limit m cs h = let k = grows m cs in lt-leb (digits_value_after 10 m cs) limit (let l = leb-false m limit h in omega (arith, k, l))

no_and : (b : Bool) → (b && false) ≡ false
no_and true = refl
no_and false = refl

-- what is answered for digits behind those of n
answer : ℕ → ℕ → List ℕ → Option ℕ
answer limit n cs = if list_all is_ascii_digit cs && nat_le (digits_value_after 10 n cs) limit then Some (digits_value_after 10 n cs) else None

in_limit : (limit m : ℕ) (cs : List ℕ) (b : Bool) → nat_le m limit ≡ b → (nat_le m limit ≡ true → magnitude_from limit m cs ≡ answer limit m cs) → (if b then magnitude_from limit m cs else None) ≡ answer limit m cs
unfolding answer
in_limit limit m cs true e ih = ih e
in_limit limit m cs false e ih = rw (past limit m cs e, no_and (list_all is_ascii_digit cs)) refl

one_digit : (limit n c : ℕ) (cs : List ℕ) (b : Bool) → is_ascii_digit c ≡ b → (nat_le (n * 10 + (c - 48)) limit ≡ true → magnitude_from limit (n * 10 + (c - 48)) cs ≡ answer limit (n * 10 + (c - 48)) cs) → (if b then (if nat_le (n * 10 + (c - 48)) limit then magnitude_from limit (n * 10 + (c - 48)) cs else None) else None) ≡ (if (b && list_all is_ascii_digit cs) && nat_le (digits_value_after 10 (n * 10 + digit_value c) cs) limit then Some (digits_value_after 10 (n * 10 + digit_value c) cs) else None)
unfolding answer
one_digit limit n c cs true e ih =
    let d : digit_value c ≡ c - 48 = digit_is c e in
    in_limit limit (n * 10 + (c - 48)) cs (nat_le (n * 10 + (c - 48)) limit) refl ih
    ∙ ap (λ (k : ℕ). answer limit (n * 10 + k) cs) (sym d)
one_digit limit n c cs false e ih = refl

limited : (limit n : ℕ) (cs : List ℕ) → nat_le n limit ≡ true → magnitude_from limit n cs ≡ answer limit n cs
unfolding answer
limited limit n [] h = rw h refl
limited limit n (c ∷ cs) h = one_digit limit n c cs (is_ascii_digit c) refl (limited limit (n * 10 + (c - 48)) cs)

with_sign : (sign : ℕ → ℤ) (all fit fit' : Bool) (n : ℕ) → fit ≡ fit' → option_map sign (if all && fit' then Some n else None) ≡ (if all && fit then Some (sign n) else None)
with_sign sign true true true n e = refl
with_sign sign true false false n e = refl
with_sign sign true true false n e = cc
with_sign sign true false true n e = cc
with_sign sign false fit fit' n e = refl

signed_law : (sign : ℕ → ℤ) (limit : ℕ) (ds : List ℕ) → ((n : ℕ) → fits (sign n) ≡ nat_le n limit) → option_map sign (magnitude_in limit ds) ≡ integer_of sign ds
unfolding answer
signed_law sign limit [] h = refl
signed_law sign limit (c ∷ cs) h =
    ap (option_map sign) (limited limit 0 (c ∷ cs) (le-leb 0 limit (omega arith)))
    ∙ with_sign sign (list_all is_ascii_digit (c ∷ cs)) (fits (sign (digits_value 10 (c ∷ cs)))) (nat_le (digits_value 10 (c ∷ cs)) limit) (digits_value 10 (c ∷ cs)) (h (digits_value 10 (c ∷ cs)))

fits_positive : (n : ℕ) → fits (pos n) ≡ nat_le n 9223372036854775807
fits_positive n = grind (arith, nat_tests)

fits_negative : (n : ℕ) → fits (neg_ℤ (pos n)) ≡ nat_le n 9223372036854775808
fits_negative zero = grind (arith, nat_tests)
fits_negative (suc n) = grind (arith, nat_tests)

pub positive_some : (ds : List ℕ) (n : ℕ) → Some n ≡ magnitude_in 9223372036854775807 ds → Some (pos n) ≡ integer_of (λ n. pos n) ds
positive_some ds n h = ap (option_map (λ n. pos n)) h ∙ signed_law (λ n. pos n) 9223372036854775807 ds fits_positive

pub positive_none : (ds : List ℕ) → None ≡ magnitude_in 9223372036854775807 ds → None ≡ integer_of (λ n. pos n) ds
positive_none ds h = ap (option_map (λ n. pos n)) h ∙ signed_law (λ n. pos n) 9223372036854775807 ds fits_positive

pub negative_some : (ds : List ℕ) (n : ℕ) → Some n ≡ magnitude_in 9223372036854775808 ds → Some (neg_ℤ (pos n)) ≡ integer_of (λ n. neg_ℤ (pos n)) ds
negative_some ds n h = ap (option_map (λ n. neg_ℤ (pos n))) h ∙ signed_law (λ n. neg_ℤ (pos n)) 9223372036854775808 ds fits_negative

pub negative_none : (ds : List ℕ) → None ≡ magnitude_in 9223372036854775808 ds → None ≡ integer_of (λ n. neg_ℤ (pos n)) ds
negative_none ds h = ap (option_map (λ n. neg_ℤ (pos n))) h ∙ signed_law (λ n. neg_ℤ (pos n)) 9223372036854775808 ds fits_negative

-- ---- words

onto : List ℤ → Option (List ℤ) → Option (List ℤ)
onto xs None = None
onto xs (Some ys) = Some (xs ++ ys)

number_on : (xs : List ℤ) (o : Option ℤ) (r : Option (List ℤ)) (ws : List (List ℕ)) → ((ys : List ℤ) → words_onto ys ws ≡ onto ys r) → if_some (number_onto xs o) (λ ys. words_onto ys ws) ≡ onto xs (with_first o r)
unfolding onto
number_on xs None r ws h = refl
number_on xs (Some x) None ws h = h (xs ++ x ∷ [])
number_on xs (Some x) (Some ys) ws h = h (xs ++ x ∷ []) ∙ ap Some (append_assoc xs (x ∷ []) ys)

words_law : (xs : List ℤ) (ws : List (List ℕ)) → words_onto xs ws ≡ onto xs (integers_in (filter (λ w. not (is_empty w)) ws))
unfolding onto
words_law xs [] = ap Some (sym (append-nil xs))
words_law xs ([] ∷ ws) = words_law xs ws
words_law xs ((c ∷ cs) ∷ ws) = number_on xs (integer_in (c ∷ cs)) (integers_in (filter (λ w. not (is_empty w)) ws)) ws (λ ys. words_law ys ws)

-- ---- parts

grown : (xs ys : List ℤ) (y : ℤ) → nat_le (length (xs ++ y ∷ ys)) (length xs) ≡ false
grown xs ys y = lt-leb (length (xs ++ y ∷ ys)) (length xs) (let k = length-append xs (y ∷ ys) in omega (arith, k))

same_length : (xs : List ℤ) → nat_le (length (xs ++ [])) (length xs) ≡ true
same_length xs = le-leb (length (xs ++ [])) (length xs) (let k = length-append xs [] in omega (arith, k))

-- a part with words that are integers
some_words : (b : Bool) (xs : List ℤ) (o : Option ℤ) (r : Option (List ℤ)) → if_some (onto xs (with_first o r)) (λ ys. if b && nat_le (length ys) (length xs) then None else Some ys) ≡ onto xs (with_first o r)
unfolding onto
some_words b xs None r = refl
some_words b xs (Some x) None = refl
some_words b xs (Some x) (Some ys) = rw (grown xs ys x, no_and b) refl

no_words : (b : Bool) (xs : List ℤ) → ◌≡◌ {A = Option (List ℤ)} (if b && nat_le (length (xs ++ [])) (length xs) then None else Some (xs ++ [])) (if b && true then None else Some (xs ++ []))
no_words b xs = rw (same_length xs) refl

part_of : Bool → List ℤ → List (List ℕ) → Option (List ℤ)
part_of b xs ws = if b && is_empty ws then None else onto xs (integers_in ws)

by_words : (b : Bool) (xs : List ℤ) (ws : List (List ℕ)) → if_some (onto xs (integers_in ws)) (λ ys. if b && nat_le (length ys) (length xs) then None else Some ys) ≡ part_of b xs ws
unfolding onto part_of
by_words b xs [] = no_words b xs
by_words b xs (w ∷ ws) = some_words b xs (integer_in w) (integers_in ws) ∙ sym (rw (no_and b) refl)

part_law : (b : Bool) (xs : List ℤ) (p : List ℕ) → part_onto b xs p ≡ part_of b xs (words p)
part_law b xs p = ap (λ (r : Option (List ℤ)). if_some r (λ ys. if b && nat_le (length ys) (length xs) then None else Some ys)) (words_law xs (cut_at is_blank p)) ∙ by_words b xs (words p)

joined : Option (List ℤ) → Option (List ℤ) → Option (List ℤ)
joined None s = None
joined (Some xs) s = onto xs s

first_joined : (o : Option ℤ) (r s : Option (List ℤ)) → with_first o (joined r s) ≡ joined (with_first o r) s
unfolding joined onto
first_joined None r s = refl
first_joined (Some x) None s = refl
first_joined (Some x) (Some xs) None = refl
first_joined (Some x) (Some xs) (Some ys) = refl

nothing_joined : (s : Option (List ℤ)) → s ≡ onto [] s
unfolding onto
nothing_joined None = refl
nothing_joined (Some xs) = refl

all_joined : (ws vs : List (List ℕ)) → integers_in (ws ++ vs) ≡ joined (integers_in ws) (integers_in vs)
unfolding joined
all_joined [] vs = nothing_joined (integers_in vs)
all_joined (w ∷ ws) vs = ap (with_first (integer_in w)) (all_joined ws vs) ∙ first_joined (integer_in w) (integers_in ws) (integers_in vs)

has_words : List (List ℕ) → Bool
has_words ps = list_all (λ part. not (is_empty (words part))) ps

onto_twice : (xs ys : List ℤ) (s : Option (List ℤ)) → onto (xs ++ ys) s ≡ onto xs (onto ys s)
unfolding onto
onto_twice xs ys None = refl
onto_twice xs ys (Some zs) = ap Some (append_assoc xs ys zs)

none_either : (b : Bool) → ◌≡◌ {A = Option (List ℤ)} None (if b then None else None)
none_either true = refl
none_either false = refl

then_parts : (xs : List ℤ) (r s : Option (List ℤ)) (b : Bool) (ps : List (List ℕ)) → ((ys : List ℤ) → parts_onto true ys ps ≡ (if b then onto ys s else None)) → if_some (onto xs r) (λ ys. parts_onto true ys ps) ≡ (if b then onto xs (joined r s) else None)
unfolding onto joined
then_parts xs None s b ps h = none_either b
then_parts xs (Some ys) s b ps h = h (xs ++ ys) ∙ ap (λ (o : Option (List ℤ)). if b then o else None) (onto_twice xs ys s)

first_part : (xs : List ℤ) (ws vs : List (List ℕ)) (b : Bool) (ps : List (List ℕ)) → ((ys : List ℤ) → parts_onto true ys ps ≡ (if b then onto ys (integers_in vs) else None)) → if_some (part_of true xs ws) (λ ys. parts_onto true ys ps) ≡ (if not (is_empty ws) && b then onto xs (integers_in (ws ++ vs)) else None)
unfolding part_of
first_part xs [] vs b ps h = refl
first_part xs (w ∷ ws) vs b ps h =
    then_parts xs (integers_in (w ∷ ws)) (integers_in vs) b ps h
    ∙ ap (λ (o : Option (List ℤ)). if b then onto xs o else None) (sym (all_joined (w ∷ ws) vs))

parts_law : (xs : List ℤ) (ps : List (List ℕ)) → parts_onto true xs ps ≡ (if has_words ps then onto xs (integers_in (all_words ps)) else None)
unfolding has_words onto
parts_law xs [] = ap Some (sym (append-nil xs))
parts_law xs (p ∷ ps) =
    ap (λ (o : Option (List ℤ)). if_some o (λ ys. parts_onto true ys ps)) (part_law true xs p)
    ∙ first_part xs (words p) (all_words ps) (has_words ps) ps (λ ys. parts_law ys ps)

-- ---- records

alone : (o : Option (List ℤ)) → o ≡ if_some (onto [] o) (λ ys. Some ys)
unfolding onto
alone None = refl
alone (Some xs) = refl

by_parts : List (List ℕ) → Option (List ℤ)
by_parts ps = if commas_part ps then integers_in (all_words ps) else None

unfolded : (text : List ℕ) → integers_of text ≡ by_parts (cut_at is_comma text)
unfolding integers_of by_parts
unfolded text = refl

one_part : (p : List ℕ) → by_parts (p ∷ []) ≡ if_some (part_onto false [] p) (λ ys. parts_onto true ys [])
unfolding by_parts part_of
one_part p =
    ap integers_in (append-nil (words p)) ∙ alone (integers_in (words p))
    ∙ ap (λ (o : Option (List ℤ)). if_some o (λ ys. Some ys)) (sym (part_law false [] p))

parts : (p q : List ℕ) (ps : List (List ℕ)) → by_parts (p ∷ q ∷ ps) ≡ if_some (part_onto true [] p) (λ ys. parts_onto true ys (q ∷ ps))
unfolding by_parts has_words
parts p q ps =
    ap (λ (o : Option (List ℤ)). if has_words (p ∷ q ∷ ps) then o else None) (nothing_joined (integers_in (all_words (p ∷ q ∷ ps))))
    ∙ sym (parts_law [] (p ∷ q ∷ ps))

some_piece : (test : ℕ → Bool) (text : List ℕ) → (q : List ℕ) × (qs : List (List ℕ)) × (cut_at test text ≡ q ∷ qs)
some_piece test [] = ([], [], refl)
some_piece test (c ∷ cs) = by (test c) (cut_at test cs)
  where
    by : (b : Bool) (ps : List (List ℕ)) → (q : List ℕ) × (qs : List (List ℕ)) × ((if b then [] ∷ ps else begun c ps) ≡ q ∷ qs)
    by true ps = ([], ps, refl)
    by false [] = (c ∷ [], [], refl)
    by false (p ∷ ps) = (c ∷ p, ps, refl)

pub record_law : (text part : List ℕ) (behind : Option (Bor (List ℕ))) → cut_at is_comma text ≡ part ∷ pieces Comma behind → integers_of text ≡ if_some (part_onto (is_some behind) [] part) (λ ys. parts_onto true ys (pieces Comma behind))
record_law text part None e = unfolded text ∙ ap by_parts e ∙ one_part part
record_law text part (Some rest) e =
    let q = some_piece is_comma rest.now in
    unfolded text ∙ ap by_parts (e ∙ ap (λ (ps : List (List ℕ)). part ∷ ps) q.2) ∙ parts part q.0 q.1
    ∙ ap (λ (ps : List (List ℕ)). if_some (part_onto true [] part) (λ ys. parts_onto true ys ps)) (sym q.2)
