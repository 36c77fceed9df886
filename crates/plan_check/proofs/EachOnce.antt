-- Lists of events.
use Rattle.std.proofs.Common.{◌≡◌, ◌∙◌, ◌||◌, ℕ, Bool, true, false, List, [], ◌∷◌, ◌++◌, ap, refl, sym, ◌==◌, ◌+◌, ◌<◌, ◌≤◌, length, drop, get_or}
use Rattle.std.specs.List.{list_any}
use Rattle.std.proofs.lemmas.Bool.{eqb-true}
use Rattle.std.proofs.lemmas.List.{drop_all, drop_more}
use Rattle.std.proofs.Math.Bool.{or-false}
use Rattle.plan_check.specs.Judging.{has_event}

or_assoc : (a b c : Bool) → (a || (b || c)) ≡ ((a || b) || c)
or_assoc true b c = refl
or_assoc false b c = refl

pub any_more : (test : ℕ → Bool) (es : List ℕ) (e : ℕ) → list_any test (es ++ e ∷ []) ≡ (list_any test es || test e)
any_more test [] e = or-false (test e)
any_more test (x ∷ es) e = ap (λ b. test x || b) (any_more test es e) ∙ or_assoc (test x) (list_any test es) (test e)

pub any_same : (test : ℕ → Bool) (es : List ℕ) (e : ℕ) → has_event es e ≡ true → list_any test es ≡ (list_any test es || test e)
any_same test [] e h = cc
any_same test (x ∷ es) e h = by (x == e) refl (λ k. any_same test es e k)
  where
    swap : (a b c : Bool) → a ≡ c → (a || b) ≡ ((a || b) || c)
    swap true b c h = refl
    swap false b true h = cc
    swap false true false h = refl
    swap false false false h = refl

    by : (q : Bool) → (x == e) ≡ q → (has_event es e ≡ true → list_any test es ≡ (list_any test es || test e)) → list_any test (x ∷ es) ≡ (list_any test (x ∷ es) || test e)
    by true k rest = swap (test x) (list_any test es) (test e) (ap test (eqb-true x e k))
    by false k rest = ap (λ b. test x || b) (rest (sym (ap (λ q. q || has_event es e) k) ∙ h)) ∙ or_assoc (test x) (list_any test es) (test e)

-- ---- the events that are left

pub next_added : (test : ℕ → Bool) (xs : List (ℕ × ℕ)) (i e : ℕ) (d : ℕ × ℕ) (before after whole : Bool) → i < length xs → e ≡ (get_or xs i d).0 → after ≡ (before || test e)
    → (before || list_any (λ n. test n.0) (drop i xs)) ≡ whole → (after || list_any (λ n. test n.0) (drop (i + 1) xs)) ≡ whole
next_added test xs i e d before after whole h is added so_far =
    let rest = list_any (λ n. test n.0) (drop (i + 1) xs) in
    ap (λ (b : Bool). b || rest) added
    ∙ sym (or_assoc before (test e) rest)
    ∙ ap (λ (x : ℕ). before || (test x || rest)) is
    ∙ sym (ap (λ (ys : List (ℕ × ℕ)). before || list_any (λ n. test n.0) ys) (drop_more xs i d h))
    ∙ so_far

pub all_added : (test : ℕ → Bool) (xs : List (ℕ × ℕ)) (i : ℕ) (b whole : Bool) → length xs ≤ i → (b || list_any (λ n. test n.0) (drop i xs)) ≡ whole → b ≡ whole
all_added test xs i b whole h so_far = sym (or-false b) ∙ sym (ap (λ (ys : List (ℕ × ℕ)). b || list_any (λ n. test n.0) ys) (drop_all i xs h)) ∙ so_far
