-- A turn of a loop that looks how deep the next element is.
use Rattle.std.proofs.Common.{◌≡◌, ◌∙◌, ◌+◌, ◌<◌, ℕ, suc, Bool, true, false, leb, List, ◌∷◌, length, drop, get_or, map, sym, ap, add-one, drop-cons}
use Rattle.ast.proofs.Numbers.{depth_within, depth_beyond}
use Rattle.syntax.specs.Depths.{greatest}

module _ {X Y : Type 0} (view : X → Y) (depth_of : Y → ℕ) (xs : List X) (i : ℕ) (x : X) (room : ℕ) (target : Bool) where
  next_viewed : i < length xs → x ≡ get_or xs i x → map view (drop i xs) ≡ view x ∷ map view (drop (i + 1) xs)
  next_viewed h is =
      ap (λ (l : List X). map view l) (drop-cons xs i x h)
      ∙ ap (λ (y : X). view y ∷ map view (drop (suc i) xs)) (sym is)
      ∙ ap (λ (n : ℕ). view x ∷ map view (drop n xs)) (sym (add-one i))

  pub shallow_on : i < length xs → x ≡ get_or xs i x → leb (depth_of (view x)) room ≡ true
      → leb (greatest depth_of (map view (drop i xs))) room ≡ target → leb (greatest depth_of (map view (drop (i + 1) xs))) room ≡ target
  shallow_on h is fits w =
      depth_within (depth_of (view x)) (greatest depth_of (map view (drop (i + 1) xs))) room fits
      ∙ ap (λ (ys : List Y). leb (greatest depth_of ys) room) (sym (next_viewed h is))
      ∙ w

  pub too_deep : i < length xs → x ≡ get_or xs i x → leb (depth_of (view x)) room ≡ false
      → leb (greatest depth_of (map view (drop i xs))) room ≡ target → false ≡ target
  too_deep h is deep w =
      depth_beyond (depth_of (view x)) (greatest depth_of (map view (drop (i + 1) xs))) room deep
      ∙ ap (λ (ys : List Y). leb (greatest depth_of ys) room) (sym (next_viewed h is))
      ∙ w
