-- What a memory of guesses knows behind one more note.
use Rattle.std.proofs.Common.{◌≡◌, ◌∙◌, ℕ, ◌+◌, ◌<◌, true, List, [], ◌∷◌, ◌++◌, length, get_or, set, take, sym, ap, subst}
use Rattle.std.specs.Prelude.{ℤ, pos}
use Rattle.std.proofs.lemmas.List.{set-get_or, take_more_set}
use Rattle.machine.specs.Memory.{IsValue, Looks, Puts}
use Rattle.stretches.specs.Guesses.{seen_by}
use Rattle.stretches.specs.Notes.{all_hold, cells_by, holds}
use Rattle.stretches.specs.declared.note.Note.{Note}
use Rattle.stretches.proofs.Appending.{and_both, by_on, hold_on, there_held}

-- what all notes but the last make holds, and the last holds of it
last_held : (ns : List Note) (n : Note) (cells : List ℤ) → all_hold (ns ++ n ∷ []) cells ≡ true → (all_hold ns cells ≡ true) × (holds n (cells_by ns cells) ≡ true)
last_held ns n cells e = and_both (all_hold ns cells) (holds n (cells_by ns cells)) (sym (hold_on ns n cells) ∙ e)

load_looks : (ns : List Note) (n : Note) → n.is ≡ n.was → Looks (seen_by ns) (seen_by (ns ++ n ∷ []))
load_looks ns n same cells e =
    let b = last_held ns n cells e in
    let cs = cells_by ns cells in
    let there = there_held n cs b.1 in (
      b.0,
      by_on ns n cells ∙ ap (λ (v : ℤ). set cs n.cell v) (same ∙ sym there.1) ∙ set-get_or cs n.cell (pos 0),
    )

load_value : (ns : List Note) (n : Note) → n.is ≡ n.was → IsValue (seen_by (ns ++ n ∷ [])) n.cell n.was
load_value ns n same cells e =
    let b = last_held ns n cells e in
    let there = there_held n (cells_by ns cells) b.1 in
    sym there.1 ∙ ap (λ (ds : List ℤ). get_or ds n.cell (pos 0)) (sym (load_looks ns n same cells e).1)

store_puts : (ns : List Note) (n : Note) → Puts true (seen_by ns) n.cell n.is (seen_by (ns ++ n ∷ []))
store_puts ns n cells e =
    let b = last_held ns n cells e in
    (b.0, ((there_held n (cells_by ns cells) b.1).0, by_on ns n cells))

-- the same of notes in room that is there
pub looks_more : (ns : List Note) (i : ℕ) (n : Note) → i < length ns → n.is ≡ n.was → Looks (seen_by (take i ns)) (seen_by (take (i + 1) (set ns i n)))
looks_more ns i n h same = subst (λ (ms : List Note). Looks (seen_by (take i ns)) (seen_by ms)) (sym (take_more_set ns i n h)) (load_looks (take i ns) n same)

pub value_more : (ns : List Note) (i : ℕ) (n : Note) → i < length ns → n.is ≡ n.was → IsValue (seen_by (take (i + 1) (set ns i n))) n.cell n.was
value_more ns i n h same = subst (λ (ms : List Note). IsValue (seen_by ms) n.cell n.was) (sym (take_more_set ns i n h)) (load_value (take i ns) n same)

pub puts_more : (ns : List Note) (i : ℕ) (n : Note) → i < length ns → Puts true (seen_by (take i ns)) n.cell n.is (seen_by (take (i + 1) (set ns i n)))
puts_more ns i n h = subst (λ (ms : List Note). Puts true (seen_by (take i ns)) n.cell n.is (seen_by ms)) (sym (take_more_set ns i n h)) (store_puts (take i ns) n)
