-- What a list gives, by what its first part and the calls behind that gave.
use Rattle.std.proofs.Common.{◌≡◌, ◌∙◌, ◌-◌, ℕ, suc, List, [], ◌∷◌, ◌++◌, Option, Some, None, Result, Ok, Err, sym, ap, arith}
use Rattle.std.specs.Prelude.{codes}
use Rattle.ast.specs.Answers.{Break, Gives}
use Rattle.ast.specs.Results.{◌>>=◌}
use Rattle.ast.specs.Tree.{PrintItem}
use Rattle.ast.specs.declared.refusal.Refusal.{Refusal}
use Rattle.ast.specs.declared.refusal.Refusal.TheVariants.{Memory, Refused}
use Rattle.expressions.specs.Characters.{after}
use Rattle.expressions.specs.Reading.{end_at}
use Rattle.expressions.proofs.Parts.{goes_on}
use Rattle.syntax.specs.ReadingStatements.{parts_at, items_from, item_at}

-- the parts that were read, once the text behind them is
pub read_with : {X Y Z : Type 0} (view : X → Y) (r : Result X Refusal) (part : Result Y Break) (ys : Z) → Gives view r part → Gives {Y = Z × Y} (λ x. (ys, view x)) r (part >>= λ u. Ok (ys, u))
read_with {Y = Y} view (Ok x) part ys h = ap (λ (p : Result Y Break). p >>= λ u. Ok (ys, u)) h
read_with view (Err Memory) part ys h = tt
read_with {Y = Y} view (Err (Refused rule line)) part ys h = ap (λ (p : Result Y Break). p >>= λ u. Ok (ys, u)) h

pub read_all : {X Y Z : Type 0} (view : X → Y) (r : Result X Refusal) (part : Result Y Break) (ys : Z) → Gives view r part → Gives (λ x. ys) r (part >>= λ u. Ok ys)
read_all {Y = Y} view (Ok x) part ys h = ap (λ (p : Result Y Break). p >>= λ u. Ok ys) h
read_all view (Err Memory) part ys h = tt
read_all {Y = Y} view (Err (Refused rule line)) part ys h = ap (λ (p : Result Y Break). p >>= λ u. Ok ys) h

module _ {X : Type 0} (line : ℕ) (part : List ℕ → Result (X × List ℕ) Break) (ending : List ℕ → Result (List ℕ) Break) (room : ℕ) (some : room ≡ 0 → ⊥) where
  less : room ≡ suc (room - 1)
  less = omega (arith, some)

  pub first_part : (xs : List X) (t : List ℕ)
      → parts_at line part ending room xs t ≡ (part t >>= λ x. elim (after (codes ",") x.1) [
        | Some u ↦ parts_at line part ending (room - 1) (xs ++ x.0 ∷ []) u
        | None ↦ ending x.1 >>= λ u. Ok (xs ++ x.0 ∷ [], u)
      ])
  first_part xs t = ap (λ (n : ℕ). parts_at line part ending n xs t) less

  pub part_further : (xs longer : List X) (x : X) (t rest behind : List ℕ) → part t ≡ Ok (x, rest) → longer ≡ xs ++ x ∷ [] → Some behind ≡ after (codes ",") rest
      → parts_at line part ending room xs t ≡ parts_at line part ending (room - 1) longer behind
  part_further xs longer x t rest behind read is at =
      goes_on _ _ _ _ read (first_part xs t)
      ∙ ap (λ (found : Option (List ℕ)). elim found [
        | Some u ↦ parts_at line part ending (room - 1) (xs ++ x ∷ []) u
        | None ↦ ending rest >>= λ u. Ok (xs ++ x ∷ [], u)
      ]) (sym at)
      ∙ ap (λ (l : List X). parts_at line part ending (room - 1) l behind) (sym is)

  pub part_last : (xs longer : List X) (x : X) (t rest : List ℕ) → part t ≡ Ok (x, rest) → longer ≡ xs ++ x ∷ [] → None ≡ after (codes ",") rest
      → parts_at line part ending room xs t ≡ (ending rest >>= λ u. Ok (longer, u))
  part_last xs longer x t rest read is none =
      goes_on _ _ _ _ read (first_part xs t)
      ∙ ap (λ (found : Option (List ℕ)). elim found [
        | Some u ↦ parts_at line part ending (room - 1) (xs ++ x ∷ []) u
        | None ↦ ending rest >>= λ u. Ok (xs ++ x ∷ [], u)
      ]) (sym none)
      ∙ ap (λ (l : List X). ending rest >>= λ u. Ok (l, u)) (sym is)

module _ (line room : ℕ) (some : room ≡ 0 → ⊥) where
  room_less : room ≡ suc (room - 1)
  room_less = omega (arith, some)

  pub first_item : (is : List PrintItem) (t : List ℕ) (cs : List (List ℕ))
      → items_from line room is t cs ≡ (item_at line t cs >>= λ x. elim (after (codes ",") x.1) [
        | Some u ↦ items_from line (room - 1) (is ++ x.0 ∷ []) u x.2
        | None ↦ end_at line x.1 >>= λ u. Ok (is ++ x.0 ∷ [])
      ])
  first_item is t cs = ap (λ (n : ℕ). items_from line n is t cs) room_less

  pub item_further : (is longer : List PrintItem) (i : PrintItem) (t rest behind : List ℕ) (cs left : List (List ℕ)) → item_at line t cs ≡ Ok (i, rest, left) → longer ≡ is ++ i ∷ [] → Some behind ≡ after (codes ",") rest
      → items_from line room is t cs ≡ items_from line (room - 1) longer behind left
  item_further is longer i t rest behind cs left read appended at =
      goes_on _ _ _ _ read (first_item is t cs)
      ∙ ap (λ (found : Option (List ℕ)). elim found [
        | Some u ↦ items_from line (room - 1) (is ++ i ∷ []) u left
        | None ↦ end_at line rest >>= λ u. Ok (is ++ i ∷ [])
      ]) (sym at)
      ∙ ap (λ (l : List PrintItem). items_from line (room - 1) l behind left) (sym appended)

  pub item_last : (is longer : List PrintItem) (i : PrintItem) (t rest : List ℕ) (cs left : List (List ℕ)) → item_at line t cs ≡ Ok (i, rest, left) → longer ≡ is ++ i ∷ [] → None ≡ after (codes ",") rest
      → items_from line room is t cs ≡ (end_at line rest >>= λ u. Ok longer)
  item_last is longer i t rest cs left read appended none =
      goes_on _ _ _ _ read (first_item is t cs)
      ∙ ap (λ (found : Option (List ℕ)). elim found [
        | Some u ↦ items_from line (room - 1) (is ++ i ∷ []) u left
        | None ↦ end_at line rest >>= λ u. Ok (is ++ i ∷ [])
      ]) (sym none)
      ∙ ap (λ (l : List PrintItem). end_at line rest >>= λ u. Ok l) (sym appended)
