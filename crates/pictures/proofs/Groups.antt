-- Texts that are put together of several.
use Rattle.std.proofs.Common.{◌≡◌, ◌∙◌, ◌+◌, ◌<◌, ◌++◌, ◌∷◌, [], List, ap, arith, codes, get_or, length, subst, sym, refl, take, ℕ}
use Rattle.std.proofs.lemmas.List.{append-nil, append_assoc, length-take-le, take_more}
use Rattle.arrows.specs.Arrows.{arrows}
use Rattle.arrows.specs.Markup.{marks, opening, words}
use Rattle.arrows.specs.Vectors.{vectors}
use Rattle.arrows.specs.declared.mark.Class.{Class}
use Rattle.arrows.specs.declared.mark.Mark.{Mark}
use Rattle.arrows.specs.declared.picture.LoopPicture.{LoopPicture}
use Rattle.arrows.specs.declared.svg.Point.{Point}
use Rattle.arrows.specs.declared.svg.Size.{Size}
use Rattle.pictures.specs.Drawn.{IsDrawn}
use Rattle.pictures.specs.Runs.{AreFigures, AreNumbered, IsFigure, figure}
use Rattle.pictures.specs.declared.gathering.Lane.{Lane}

-- a whole picture of a loop
pub drawn : (p : LoopPicture) (size : Size) (sheet : List ℕ) (front back : List Mark) (first shown body text : List ℕ)
    → first ≡ opening size sheet → shown ≡ arrows p ++ vectors p → body ≡ first ++ (marks front ++ shown ++ marks back) → text ≡ body ++ codes "</svg>\n" → IsDrawn p text
drawn p size sheet front back first shown body text opens has holds ends = record {
  size = size;
  sheet = sheet;
  front = front;
  back = back;
  is = ends ∙ ap (λ (xs : List ℕ). xs ++ codes "</svg>\n") (holds ∙ ap (λ (xs : List ℕ). xs ++ (marks front ++ shown ++ marks back)) opens
      ∙ ap (λ (xs : List ℕ). opening size sheet ++ (marks front ++ xs ++ marks back)) has);
}

-- words that say what a processor did
pub is_figure : (class : Class) (at : Point) (q : ℕ) (lane : Lane) (told text : List ℕ) → told ≡ figure q lane → text ≡ words class at told → IsFigure q lane text
is_figure class at q lane told text tells is = record { class = class; at = at; is = is ∙ ap (λ (xs : List ℕ). words class at xs) tells }

-- the line of one processor more
one_more : (q k : ℕ) (lanes : List Lane) (lane : Lane) (text last : List ℕ) → k ≡ q + length lanes → AreNumbered q lanes text → IsFigure k lane last → AreNumbered q (lanes ++ lane ∷ []) (text ++ last)
one_more q k [] lane text last same are is =
    let first : k ≡ q = omega (arith, same) in
    (last, [], subst (λ (m : ℕ). IsFigure m lane last) first is, refl, ap (λ (xs : List ℕ). xs ++ last) are ∙ sym (append-nil last))
one_more q k (l ∷ lanes) lane text last same are is = (
  are.0,
  are.1 ++ last,
  are.2,
  one_more (q + 1) k lanes lane are.1 last (omega (arith, same)) are.3 is,
  ap (λ (xs : List ℕ). xs ++ last) are.4 ∙ append_assoc are.0 are.1 last,
)

pub figures_more : (lanes : List Lane) (n : ℕ) (d : Lane) (text last grown : List ℕ) → n < length lanes
    → AreFigures (take n lanes) text → IsFigure n (get_or lanes n d) last → grown ≡ text ++ last → AreFigures (take (n + 1) lanes) grown
figures_more lanes n d text last grown within are is grows =
    let taken : length (take n lanes) ≡ n = length-take-le n lanes (omega (arith, within)) in
    subst (λ (ls : List Lane). AreFigures ls grown) (sym (take_more lanes n d within))
    (subst (λ (xs : List ℕ). AreFigures (take n lanes ++ get_or lanes n d ∷ []) xs) (sym grows)
    (one_more 0 n (take n lanes) (get_or lanes n d) text last (omega (arith, taken)) are is))
