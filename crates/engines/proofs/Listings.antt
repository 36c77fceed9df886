-- Names in order, and lines of loops one after another.
use Rattle.std.proofs.Common.{◌≡◌, ◌∙◌, ◌+◌, ◌<◌, ◌++◌, ◌∷◌, [], List, ap, arith, drop, false, get_or, is_lt, length, map, refl, subst, suc, sym, take, true, ℕ}
use Rattle.std.proofs.lemmas.List.{append-nil, append_assoc, get_or-map, length-map, length-take-le, take_more}
use Rattle.std.proofs.Math.Seq.{drop-cons}
use Rattle.std.specs.List.Sorted.{IsSorted}
use Rattle.std.specs.declared.cmp.Ordering.{Ordering}
use Rattle.ast.specs.View.{letters}
use Rattle.ast.specs.declared.name.Name.{Name}
use Rattle.command_output.specs.Shown.{Extends, byte_order}
use Rattle.engines.specs.Listing.{ListingOf, advance_lines, advances_by_event}
use Rattle.codegen.specs.declared.reports.LoopReport.{LoopReport}
use Rattle.engines.specs.declared.spots.Spot.{Spot}

-- names in order are so by their letters
pub sorted_names : (cmp : Name → Name → Ordering) → ((a b : Name) → cmp a b ≡ byte_order a.letters b.letters) → (ns : List Name) → IsSorted cmp ns → IsSorted byte_order (map letters ns)
sorted_names cmp same [] sorted k d low high = absurd (omega (arith, high))
sorted_names cmp same (n ∷ ns) sorted k d low high =
    let all : List Name = n ∷ ns in
    let size : length (map letters all) ≡ length all = length-map all letters in
    let within : k + 1 < length all = omega (arith, size, high) in
    let next : get_or (map letters all) (k + 1) d ≡ letters (get_or all (k + 1) n) = get_or-map letters all (k + 1) n d within in
    let this : get_or (map letters all) k d ≡ letters (get_or all k n) = get_or-map letters all k n d (omega arith) in
    ap (λ x. is_lt (byte_order x (get_or (map letters all) k d))) next
    ∙ ap (λ x. is_lt (byte_order (letters (get_or all (k + 1) n)) x)) this
    ∙ ap is_lt (sym (same (get_or all (k + 1) n) (get_or all k n)))
    ∙ sorted k n low within

-- the lines of one loop more
listing_more : (L : ℕ → LoopReport → List ℕ → Type 0) (n : ℕ) (rs : List LoopReport) (r : LoopReport) (text last : List ℕ) → ListingOf L n rs text → L (n + length rs) r last → ListingOf L n (rs ++ r ∷ []) (text ++ last)
listing_more L n [] r text last listed lines =
    (last, [], subst (λ k. L k r last) (omega arith) lines, refl, ap (λ (xs : List ℕ). xs ++ last) listed ∙ sym (append-nil last))
listing_more L n (q ∷ rs) r text last listed lines =
    let next : n + length (q ∷ rs) ≡ (n + 1) + length rs = omega arith in (
      listed.0,
      listed.1 ++ last,
      listed.2,
      listing_more L (n + 1) rs r listed.1 last listed.3 (subst (λ k. L k r last) next lines),
      ap (λ xs. xs ++ last) listed.4 ∙ append_assoc listed.0 listed.1 last,
    )

-- the lines of the first n loops, and of one more
pub listed_more : (L : ℕ → LoopReport → List ℕ → Type 0) (rs : List LoopReport) (n : ℕ) (r : LoopReport) (text grown : List ℕ) → n < length rs → r ≡ get_or rs n r
    → ListingOf L 1 (take n rs) text → Extends (L (n + 1) r) text grown → ListingOf L 1 (take (n + 1) rs) grown
listed_more L rs n r text grown within is listed extends =
    let size : length (take n rs) ≡ n = length-take-le n rs (omega (arith, within)) in
    let number : n + 1 ≡ 1 + length (take n rs) = omega (arith, size) in
    let taken : take n rs ++ r ∷ [] ≡ take (n + 1) rs = ap (λ (q : LoopReport). take n rs ++ q ∷ []) is ∙ sym (take_more rs n r within) in
    subst (λ (ps : List LoopReport). ListingOf L 1 ps grown) taken
    (subst (λ (xs : List ℕ). ListingOf L 1 (take n rs ++ r ∷ []) xs) (sym extends.grown)
    (listing_more L 1 (take n rs) r text extends.last listed (subst (λ k. L k r extends.last) number extends.fits)))

-- five texts appended one after another
pub appended : (x a b c d e y₁ y₂ y₃ y₄ y₅ : List ℕ) → y₁ ≡ x ++ a → y₂ ≡ y₁ ++ b → y₃ ≡ y₂ ++ c → y₄ ≡ y₃ ++ d → y₅ ≡ y₄ ++ e → y₅ ≡ x ++ ((((a ++ b) ++ c) ++ d) ++ e)
appended x a b c d e y₁ y₂ y₃ y₄ y₅ first second third fourth fifth =
    let two : y₂ ≡ x ++ (a ++ b) = second ∙ ap (λ (xs : List ℕ). xs ++ b) first ∙ append_assoc x a b in
    let three : y₃ ≡ x ++ ((a ++ b) ++ c) = third ∙ ap (λ (xs : List ℕ). xs ++ c) two ∙ append_assoc x (a ++ b) c in
    let four : y₄ ≡ x ++ (((a ++ b) ++ c) ++ d) = fourth ∙ ap (λ (xs : List ℕ). xs ++ d) three ∙ append_assoc x ((a ++ b) ++ c) d in
    fifth ∙ ap (λ (xs : List ℕ). xs ++ e) four ∙ append_assoc x (((a ++ b) ++ c) ++ d) e

-- the advances of one event more
pub one_event : (sources : List ℕ) (n : ℕ) (xs : List (ℕ × Spot)) (front grown whole : List ℕ) → n < length sources
    → grown ≡ front ++ (advance_lines (n + 1) true xs ++ advance_lines (n + 1) false xs)
    → front ++ advances_by_event (n + 1) (drop n sources) xs ≡ whole
    → grown ++ advances_by_event (n + 1 + 1) (drop (n + 1) sources) xs ≡ whole
one_event sources n xs front grown whole within is so_far =
    let next : suc n ≡ n + 1 = omega arith in
    let cut : drop n sources ≡ get_or sources n 0 ∷ drop (n + 1) sources =
    drop-cons sources n 0 within ∙ ap (λ m. get_or sources n 0 ∷ drop m sources) next in
    let own : List ℕ = advance_lines (n + 1) true xs ++ advance_lines (n + 1) false xs in
    let rest : List ℕ = advances_by_event (n + 1 + 1) (drop (n + 1) sources) xs in
    ap (λ (ys : List ℕ). ys ++ rest) is
    ∙ append_assoc front own rest
    ∙ ap (λ (ss : List ℕ). front ++ advances_by_event (n + 1) ss xs) (sym cut)
    ∙ so_far
