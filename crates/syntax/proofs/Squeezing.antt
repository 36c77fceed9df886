-- Going through a text once gives the marks and the character constants of its cut into pieces.
use Rattle.std.proofs.Common.{◌≡◌, ℕ, Bool, true, false, cond, eqb, List, [], ◌∷◌, ◌++◌, Option, Some, refl, sym, ap, subst, ◌∙◌, ◌⊎◌, inl, inr, append_assoc}
use Rattle.std.proofs.lemmas.Bool.{eqb-true, eqb-false, ne_eqb}
use Rattle.std.proofs.lemmas.List.{append-nil}
use Rattle.syntax.specs.declared.pieces.Place.TheVariants.{Outside, Inside, Closing}
use Rattle.syntax.specs.Pieces.{Piece, mark, quoted, doubled, NoApostrophe, Cut, folded, marks, constants}
use Rattle.syntax.specs.Squeezing.{run, squeezed}
use Rattle.expressions.proofs.Tools.{some_is, on_true, on_false, choice}

-- ---- a text that is cut is gone through

doubled_apostrophe : (c : ℕ) (s : List ℕ) → c ≡ 39 → doubled (c ∷ s) ≡ 39 ∷ 39 ∷ doubled s
doubled_apostrophe c s e = rw e refl

doubled_other : (c : ℕ) (s : List ℕ) → eqb c 39 ≡ false → doubled (c ∷ s) ≡ c ∷ doubled s
doubled_other c s e = rw e refl

inside_run : (s ms : List ℕ) (ks : List (List ℕ)) (read rest : List ℕ) → run Inside ms ks read (doubled s ++ 39 ∷ rest) ≡ run Closing ms ks (read ++ s) rest
inside_run [] ms ks read rest = rw (append-nil read) refl
inside_run (c ∷ s) ms ks read rest = go (eqb c 39) refl (inside_run s ms ks (read ++ c ∷ []) rest)
  where
    go : (b : Bool) → eqb c 39 ≡ b → run Inside ms ks (read ++ c ∷ []) (doubled s ++ 39 ∷ rest) ≡ run Closing ms ks ((read ++ c ∷ []) ++ s) rest
        → run Inside ms ks read (doubled (c ∷ s) ++ 39 ∷ rest) ≡ run Closing ms ks (read ++ c ∷ s) rest
    go true is h =
        let quote : c ≡ 39 = eqb-true c 39 is in
        ap (λ (t : List ℕ). run Inside ms ks read (t ++ 39 ∷ rest)) (doubled_apostrophe c s quote)
        ∙ ap (λ (d : ℕ). run Inside ms ks (read ++ d ∷ []) (doubled s ++ 39 ∷ rest)) (sym quote)
        ∙ h ∙ ap (λ (t : List ℕ). run Closing ms ks t rest) (append_assoc read (c ∷ []) s)
    go false is h =
        ap (λ (t : List ℕ). run Inside ms ks read (t ++ 39 ∷ rest)) (doubled_other c s is)
        ∙ ap (λ (b : Bool). cond b (run Closing ms ks read (doubled s ++ 39 ∷ rest)) (run Inside ms ks (read ++ c ∷ []) (doubled s ++ 39 ∷ rest))) is
        ∙ h ∙ ap (λ (t : List ℕ). run Closing ms ks t rest) (append_assoc read (c ∷ []) s)

closing_run : (ms : List ℕ) (ks : List (List ℕ)) (read rest : List ℕ) → NoApostrophe rest → run Closing ms ks read rest ≡ run Outside ms (ks ++ read ∷ []) [] rest
closing_run ms ks read [] h = refl
closing_run ms ks read (c ∷ t) h = rw (ne_eqb c 39 h) refl

abbrev pair_of : List ℕ → List (List ℕ) → Option (List ℕ × List (List ℕ))
pair_of ms ks = Some (ms, ks)

run_cut : (ps : List Piece) (ms : List ℕ) (ks : List (List ℕ)) (t : List ℕ) → Cut ps t → run Outside ms ks [] t ≡ pair_of (ms ++ marks ps) (ks ++ constants ps)
run_cut [] ms ks t h = rw (h, append-nil ms, append-nil ks) refl
run_cut (mark c ∷ ps) ms ks t h =
    ap (run Outside ms ks []) h.1
    ∙ ap (λ (b : Bool). cond b (run Inside (ms ++ c ∷ []) ks [] h.0) (run Outside (ms ++ folded c) ks [] h.0)) (ne_eqb c 39 h.2)
    ∙ run_cut ps (ms ++ folded c) ks h.0 h.3
    ∙ ap (λ (w : List ℕ). pair_of w (ks ++ constants ps)) (append_assoc ms (folded c) (marks ps))
run_cut (quoted s ∷ ps) ms ks t h =
    ap (run Outside ms ks []) h.1
    ∙ inside_run s (ms ++ 39 ∷ []) ks [] h.0
    ∙ closing_run (ms ++ 39 ∷ []) ks s h.0 h.2
    ∙ run_cut ps (ms ++ 39 ∷ []) (ks ++ s ∷ []) h.0 h.3
    ∙ ap (λ (w : List ℕ). pair_of w ((ks ++ s ∷ []) ++ constants ps)) (append_assoc ms (39 ∷ []) (marks ps))
    ∙ ap (λ (w : List (List ℕ)). pair_of (ms ++ 39 ∷ marks ps) w) (append_assoc ks (s ∷ []) (constants ps))

pub squeezed_cut : (ps : List Piece) (t : List ℕ) → Cut ps t → squeezed t ≡ Some (marks ps, constants ps)
squeezed_cut ps t h = run_cut ps [] [] t h

-- ---- what is gone through is cut

abbrev Found : List ℕ → List (List ℕ) → List ℕ → List ℕ × List (List ℕ) → Type 0
Found ms ks t x = (ps : List Piece) × Cut ps t × (pair_of x.0 x.1 ≡ pair_of (ms ++ marks ps) (ks ++ constants ps))

abbrev Ended : List ℕ → List (List ℕ) → List ℕ → List ℕ → List ℕ × List (List ℕ) → Type 0
Ended ms ks read t x = (s : List ℕ) × (rest : List ℕ) × (t ≡ doubled s ++ 39 ∷ rest) × NoApostrophe rest × Found ms (ks ++ (read ++ s) ∷ []) rest x

-- behind a closing apostrophe: what follows doesn't begin with one, or another part of the text
abbrev Closed : List ℕ → List (List ℕ) → List ℕ → List ℕ → List ℕ × List (List ℕ) → Type 0
Closed ms ks read t x = (NoApostrophe t × Found ms (ks ++ read ∷ []) t x) ⊎ ((u : List ℕ) × (t ≡ 39 ∷ u) × Ended ms ks (read ++ 39 ∷ []) u x)

mark_found : (c : ℕ) (t ms : List ℕ) (ks : List (List ℕ)) (x : List ℕ × List (List ℕ)) → eqb c 39 ≡ false → Found (ms ++ folded c) ks t x → Found ms ks (c ∷ t) x
mark_found c t ms ks x other h = (mark c ∷ h.0, (t, refl, eqb-false c 39 other, h.1), h.2 ∙ ap (λ (w : List ℕ). pair_of w (ks ++ constants h.0)) (append_assoc ms (folded c) (marks h.0)))

quoted_found : (c : ℕ) (t ms : List ℕ) (ks : List (List ℕ)) (x : List ℕ × List (List ℕ)) → c ≡ 39 → Ended (ms ++ c ∷ []) ks [] t x → Found ms ks (c ∷ t) x
quoted_found c t ms ks x quote h =
    let f = h.4 in (
      quoted h.0 ∷ f.0,
      (h.1, ap (λ (d : ℕ). d ∷ t) quote ∙ ap (λ (w : List ℕ). 39 ∷ w) h.2, h.3, f.1),
      f.2 ∙ ap (λ (d : ℕ). pair_of ((ms ++ d ∷ []) ++ marks f.0) ((ks ++ h.0 ∷ []) ++ constants f.0)) quote
          ∙ ap (λ (w : List ℕ). pair_of w ((ks ++ h.0 ∷ []) ++ constants f.0)) (append_assoc ms (39 ∷ []) (marks f.0))
          ∙ ap (λ (w : List (List ℕ)). pair_of (ms ++ 39 ∷ marks f.0) w) (append_assoc ks (h.0 ∷ []) (constants f.0)),
    )

-- one more byte of the text of a constant
ended_more : (c : ℕ) (t ms : List ℕ) (ks : List (List ℕ)) (read : List ℕ) (x : List ℕ × List (List ℕ)) → eqb c 39 ≡ false → Ended ms ks (read ++ c ∷ []) t x → Ended ms ks read (c ∷ t) x
ended_more c t ms ks read x other h = (
  c ∷ h.0,
  h.1,
  ap (λ (w : List ℕ). c ∷ w) h.2 ∙ ap (λ (w : List ℕ). w ++ 39 ∷ h.1) (sym (doubled_other c h.0 other)),
  h.3,
  subst (λ (w : List ℕ). Found ms (ks ++ w ∷ []) h.1 x) (append_assoc read (c ∷ []) h.0) h.4,
)

ended_quote : (c : ℕ) (t ms : List ℕ) (ks : List (List ℕ)) (read : List ℕ) (x : List ℕ × List (List ℕ)) → c ≡ 39 → Closed ms ks read t x → Ended ms ks read (c ∷ t) x
ended_quote c t ms ks read x quote (inl h) = ([], t, ap (λ (d : ℕ). d ∷ t) quote, h.0, subst (λ (w : List ℕ). Found ms (ks ++ w ∷ []) t x) (sym (append-nil read)) h.1)
ended_quote c t ms ks read x quote (inr h) =
    let more = h.2 in (
      39 ∷ more.0,
      more.1,
      ap (λ (d : ℕ). d ∷ t) quote ∙ ap (λ (w : List ℕ). 39 ∷ w) h.1 ∙ ap (λ (w : List ℕ). 39 ∷ 39 ∷ w) more.2,
      more.3,
      subst (λ (w : List ℕ). Found ms (ks ++ w ∷ []) more.1 x) (append_assoc read (39 ∷ []) more.0) more.4,
    )

mutual
  outside_cut : (t ms : List ℕ) (ks : List (List ℕ)) (x : List ℕ × List (List ℕ)) → run Outside ms ks [] t ≡ Some x → Found ms ks t x
  outside_cut [] ms ks x e = ([], refl, sym e ∙ sym (rw (append-nil ms, append-nil ks) refl))
  outside_cut (c ∷ t) ms ks x e =
      elim (choice (eqb c 39) (run Inside (ms ++ c ∷ []) ks [] t) (run Outside (ms ++ folded c) ks [] t) (Some x) e) [
        | on_true quote is ↦ quoted_found c t ms ks x (eqb-true c 39 quote) (inside_cut t (ms ++ c ∷ []) ks [] x is)
        | on_false other is ↦ mark_found c t ms ks x other (outside_cut t (ms ++ folded c) ks x is)
      ]

  inside_cut : (t ms : List ℕ) (ks : List (List ℕ)) (read : List ℕ) (x : List ℕ × List (List ℕ)) → run Inside ms ks read t ≡ Some x → Ended ms ks read t x
  inside_cut [] ms ks read x e = absurd cc
  inside_cut (c ∷ t) ms ks read x e =
      elim (choice (eqb c 39) (run Closing ms ks read t) (run Inside ms ks (read ++ c ∷ []) t) (Some x) e) [
        | on_true quote is ↦ ended_quote c t ms ks read x (eqb-true c 39 quote) (closing_cut t ms ks read x is)
        | on_false other is ↦ ended_more c t ms ks read x other (inside_cut t ms ks (read ++ c ∷ []) x is)
      ]

  closing_cut : (t ms : List ℕ) (ks : List (List ℕ)) (read : List ℕ) (x : List ℕ × List (List ℕ)) → run Closing ms ks read t ≡ Some x → Closed ms ks read t x
  closing_cut [] ms ks read x e = inl (tt, ([], refl, sym e ∙ sym (rw (append-nil ms, append-nil (ks ++ read ∷ [])) refl)))
  closing_cut (c ∷ t) ms ks read x e =
      elim (choice (eqb c 39) (run Inside ms ks (read ++ c ∷ []) t) (run Outside (ms ++ folded c) (ks ++ read ∷ []) [] t) (Some x) e) [
        | on_true quote is ↦
            let q : c ≡ 39 = eqb-true c 39 quote in
            inr (t, ap (λ (d : ℕ). d ∷ t) q, subst (λ (d : ℕ). Ended ms ks (read ++ d ∷ []) t x) q (inside_cut t ms ks (read ++ c ∷ []) x is))
        | on_false other is ↦ inl (eqb-false c 39 other, mark_found c t ms (ks ++ read ∷ []) x other (outside_cut t (ms ++ folded c) (ks ++ read ∷ []) x is))
      ]

-- the pieces of a text that was gone through
pub cut_squeezed : (t : List ℕ) (x : List ℕ × List (List ℕ)) → squeezed t ≡ Some x → (ps : List Piece) × Cut ps t × (x ≡ (marks ps, constants ps))
cut_squeezed t x e = let f = outside_cut t [] [] x e in (f.0, f.1, some_is x (marks f.0, constants f.0) f.2)
