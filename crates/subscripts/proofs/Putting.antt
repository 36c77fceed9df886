-- What a loop has put of a list, each element of which may find no room.
use Rattle.std.proofs.Common.{◌≡◌, ◌∙◌, ◌+◌, ◌<◌, ◌≤◌, ℕ, List, [], ◌∷◌, refl, sym, ap, length, drop, get_or}
use Rattle.std.proofs.lemmas.List.{drop_all, drop_more}
use Rattle.std.specs.Prelude.{Bool, true, false, Option, Some, None, if◌then◌else◌, not, map}
use Rattle.loop_tree.specs.Constants.{if_some}
use Rattle.subscripts.specs.Forms.{Share, has_share, new_share, others}
use Rattle.subscripts.specs.Steps.{Left, put_each, put_fitted, put_new}

-- a call that found no room leaves nothing
pub none_left : {T : Type 0} (r : Option (Unit {0})) (left : T) (o : Option T) → r ≡ None → o ≡ None → Left r left o
none_left None left o h is = is
none_left (Some done) left o h is = absurd cc

module _ {X S : Type 0} (one : S → X → Option S) (all : S → List X → Option S) where
  step_on : ((s : S) (x : X) (xs : List X) → all s (x ∷ xs) ≡ if_some (one s x) (λ t. all t xs)) → (xs : List X) (i : ℕ) (x d : X) (before : S) (o : Option S) → i < length xs → x ≡ get_or xs i d → one before x ≡ o → all before (drop i xs) ≡ if_some o (λ t. all t (drop (i + 1) xs))
  step_on steps xs i x d before o h is put =
      ap (λ (l : List X). all before l) (drop_more xs i d h)
      ∙ sym (ap (λ (y : X). all before (y ∷ drop (i + 1) xs)) is)
      ∙ steps before x (drop (i + 1) xs)
      ∙ ap (λ (p : Option S). if_some p (λ t. all t (drop (i + 1) xs))) put

  -- the next element is put
  pub next_put : ((s : S) (x : X) (xs : List X) → all s (x ∷ xs) ≡ if_some (one s x) (λ t. all t xs)) → (xs : List X) (i : ℕ) (x d : X) (before after : S) (whole : Option S) → i < length xs → x ≡ get_or xs i d → one before x ≡ Some after → all before (drop i xs) ≡ whole → all after (drop (i + 1) xs) ≡ whole
  next_put steps xs i x d before after whole h is put so_far = sym (step_on steps xs i x d before (Some after) h is put) ∙ so_far

  -- or has no room
  pub no_room : ((s : S) (x : X) (xs : List X) → all s (x ∷ xs) ≡ if_some (one s x) (λ t. all t xs)) → (xs : List X) (i : ℕ) (x d : X) (before : S) (whole : Option S) → i < length xs → x ≡ get_or xs i d → one before x ≡ None → all before (drop i xs) ≡ whole → whole ≡ None
  no_room steps xs i x d before whole h is put so_far = sym so_far ∙ step_on steps xs i x d before None h is put

  -- all are put
  pub all_put : ((s : S) → all s [] ≡ Some s) → (xs : List X) (i : ℕ) (s : S) (whole : Option S) → length xs ≤ i → all s (drop i xs) ≡ whole → whole ≡ Some s
  all_put none xs i s whole h so_far = sym so_far ∙ ap (λ (l : List X). all s l) (drop_all i xs h) ∙ none s

-- a share of a scalar that the others may have
pub new_put : (minus : Bool) (fs : List Share) (ss : List Share) (s : Share) (gs : List Share) → put_each ss (map (new_share minus) (others fs (s ∷ gs))) ≡ if_some (put_new minus fs ss s) (λ ts. put_each ts (map (new_share minus) (others fs gs)))
new_put minus fs ss s gs = by (has_share s.cell fs)
  where
    by : (b : Bool) → put_each ss (map (new_share minus) (if not b then s ∷ others fs gs else others fs gs)) ≡ if_some (if b then Some ss else put_fitted ss (new_share minus s)) (λ ts. put_each ts (map (new_share minus) (others fs gs)))
    by true = refl
    by false = refl
