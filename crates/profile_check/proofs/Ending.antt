-- The last statement of a text is END.
use Rattle.std.proofs.Common.{◌≡◌, ◌∙◌, ℕ, ◌-◌, Option, inl, inr, Bool, true, false, not, cond, List, [], ◌∷◌, ◌++◌, refl, ap, sym, subst, map, codes, arith, leb, ltb}
use Rattle.std.specs.Prelude.{if◌then◌else◌, ◌&&◌, ◌==◌}
use Rattle.std.specs.Char.{to_ascii_uppercase}
use Rattle.std.specs.List.{list_any}
use Rattle.std.proofs.lemmas.Bool.{or_parts, lt-leb, le-leb, ltb-true, ltb-false}
use Rattle.ast.specs.Tree.{Kind, Statement, program, integer, dimension, parameters, assign, do_loop, go_on, block_if, else_if, else_arm, end_if, logical_if, print, read, stop, end}
use Rattle.ast.proofs.SameNames.{same_is}
use Rattle.fixed_form.specs.Line.{without_blanks, is_end}
use Rattle.fixed_form.specs.Lines.{Entry, AreEnded}
use Rattle.syntax.specs.Classes.{Class, worded, class_of, class_by_keyword}
use Rattle.syntax.specs.Pieces.{Piece, mark, quoted, Cut, marks, constants}
use Rattle.syntax.specs.Statements.{IsKind, IsStatement}
use Rattle.syntax.specs.declared.class.Keyword.TheVariants.{End}
use Rattle.profile_check.proofs.SameShape.{EndsInEnd}
use Rattle.profile_check.specs.Reads.{Spelled}

-- ---- the marks of a text without character constants are its upper case without blanks

upper : (c : ℕ) (b d : Bool) → ltb c 97 ≡ b → ltb c 123 ≡ d → (if leb 97 c && leb c 122 then (c - 32) ∷ [] else c ∷ []) ≡ cond b c (cond d (c - 32) c) ∷ []
upper c true d h k = ap (λ (x : Bool). if x && leb c 122 then (c - 32) ∷ [] else c ∷ []) (lt-leb 97 c (ltb-true c 97 h))
upper c false true h k =
    (λ i. if le-leb 97 c (ltb-false c 97 h) i && leb c 122 then (c - 32) ∷ [] else c ∷ [])
    ∙ ap (λ (x : Bool). if x then (c - 32) ∷ [] else c ∷ []) (le-leb c 122 (let m = ltb-true c 123 k in omega (arith, m)))
upper c false false h k =
    (λ i. if le-leb 97 c (ltb-false c 97 h) i && leb c 122 then (c - 32) ∷ [] else c ∷ [])
    ∙ ap (λ (x : Bool). if x then (c - 32) ∷ [] else c ∷ []) (lt-leb c 122 (let m = ltb-false c 123 k in omega (arith, m)))

abbrev text-of : List ℕ → List ℕ
text-of t = map to_ascii_uppercase (without_blanks t)

abbrev has_apostrophe : List ℕ → Bool
has_apostrophe t = list_any (λ c. c == 39) t

-- one character more, which is a blank or not
one-mark : (c : ℕ) (b : Bool) (rest ms : List ℕ) → (has_apostrophe (text-of rest) ≡ false → ms ≡ text-of rest)
    → has_apostrophe (map to_ascii_uppercase (cond (not b) (c ∷ without_blanks rest) (without_blanks rest))) ≡ false
    → (if b then [] else (if leb 97 c && leb c 122 then (c - 32) ∷ [] else c ∷ [])) ++ ms ≡ map to_ascii_uppercase (cond (not b) (c ∷ without_blanks rest) (without_blanks rest))
one-mark c true rest ms more n = more n
one-mark c false rest ms more n =
    let p = or_parts (to_ascii_uppercase c == 39) (has_apostrophe (text-of rest)) n in
    ap (λ (x : List ℕ). x ++ ms) (upper c (ltb c 97) (ltb c 123) refl refl) ∙ ap (λ (x : List ℕ). to_ascii_uppercase c ∷ x) (more p.1)

plain-marks : (ps : List Piece) (t : List ℕ) → Cut ps t → has_apostrophe (text-of t) ≡ false → marks ps ≡ text-of t
plain-marks [] t h n = ap text-of (sym h)
plain-marks (mark c ∷ ps) t h n =
    one-mark c (c == 32) h.0 (marks ps) (λ m. plain-marks ps h.0 h.3 m) (subst (λ (u : List ℕ). has_apostrophe (text-of u) ≡ false) h.1 n) ∙ ap text-of (sym h.1)
plain-marks (quoted s ∷ ps) t h n =
    absurd (let e : true ≡ false = subst (λ (u : List ℕ). has_apostrophe (text-of u) ≡ false) h.1 n in cc)

-- ---- END

class-of-end : class_of (codes "END") ≡ worded End []
unfolding class_by_keyword
class-of-end = refl

end-text : (text : List ℕ) → is_end text ≡ true → text-of text ≡ codes "END"
end-text text h = same_is (text-of text) (codes "END") h

abbrev is-end-class : Class → Bool
is-end-class (worded End u) = true
is-end-class _ = false

-- a class that isn't END's
not-end : (c : Class) → is-end-class c ≡ false → class_of (codes "END") ≡ c → ⊥
not-end c n e = let q : true ≡ false = ap is-end-class (sym class-of-end ∙ e) ∙ n in cc

only-end : (k : Kind) (cs : List (List ℕ)) → IsKind k (codes "END") cs → k ≡ end
only-end (program x) cs h = absurd (not-end _ refl h.1)
only-end (integer ds) cs h = absurd (not-end _ refl h.1)
only-end (dimension ds) cs h = absurd (not-end _ refl h.1)
only-end (parameters ds) cs h = absurd (not-end _ refl h.1)
only-end (assign a e) cs h = absurd (not-end _ refl h.2)
only-end (do_loop d) cs h = absurd (not-end _ refl h.1)
only-end go_on cs h = absurd (not-end _ refl h)
only-end (block_if e) cs h = absurd (not-end _ refl h.1)
only-end (else_if e) cs h = absurd (not-end _ refl h.1)
only-end else_arm cs h = absurd (not-end _ refl h)
only-end end_if cs h = absurd (not-end _ refl h)
only-end (logical_if e k) cs h = absurd (not-end _ refl h.2)
only-end (print is) cs h = elim h.1 [ inl p ↦ absurd (not-end _ refl p.0) | inr p ↦ absurd (not-end _ refl p.0) ]
only-end (read es) cs h = elim h.1 [ inl p ↦ absurd (not-end _ refl p.0) | inr p ↦ absurd (not-end _ refl p.0) ]
only-end stop cs h = absurd (not-end _ refl h.1)
only-end end cs h = refl

end-kind : (line : ℕ) (label : Option ℕ) (text : List ℕ) (s : Statement) → IsStatement line label text s → is_end text ≡ true → s.kind ≡ end
end-kind line label text s h e =
    let words : text-of text ≡ codes "END" = end-text text e in
    let same : marks h.pieces ≡ codes "END" = plain-marks h.pieces text h.cut (ap has_apostrophe words) ∙ words in
    only-end s.kind (constants h.pieces) (subst (λ (t : List ℕ). IsKind s.kind t (constants h.pieces)) same h.derived)

end-behind : (front : List Entry) (last : Entry) (ss : List Statement) → Spelled (front ++ last ∷ []) ss → is_end last.text ≡ true → EndsInEnd ss
end-behind [] last [] h e = absurd h
end-behind [] last (s ∷ []) h e = end-kind last.line last.label last.text s h.0 e
end-behind [] last (s ∷ t ∷ ss) h e = absurd h.1
end-behind (f ∷ front) last [] h e = absurd h
end-behind (f ∷ front) last (s ∷ []) h e = absurd (nothing front last h.1)
  where
    nothing : (front : List Entry) (last : Entry) → Spelled (front ++ last ∷ []) [] → ⊥
    nothing [] last h = h
    nothing (f ∷ front) last h = h
end-behind (f ∷ front) last (s ∷ t ∷ ss) h e = end-behind front last (t ∷ ss) h.1 e

pub ends-in-end : (es : List Entry) (ss : List Statement) → AreEnded es → Spelled es ss → EndsInEnd ss
ends-in-end es ss a h = end-behind a.front a.last ss (subst (λ (x : List Entry). Spelled x ss) a.cut h) a.end
