-- Choices and options, and runs at the front of a list.
use Rattle.std.proofs.Common.{◌≡◌, ℕ, suc, ◌+◌, Bool, true, false, cond, eqb, List, [], ◌∷◌, ◌++◌, length, take, drop, Option, Some, None, Result, Ok, refl, ap, ◌∙◌, arith}
use Rattle.std.specs.List.{prefix_len, list_all, starts_with}
use Rattle.std.proofs.lemmas.Bool.{and_parts}
use Rattle.std.proofs.lemmas.Bool.Decides.{Decides-eqb}
use Rattle.std.proofs.lemmas.Slice.Eq.{starts_is}
use Rattle.schedules.specs.Reading.{after, if_some}

-- which side of a choice was taken
pub data Chosen {X : Type 0} (b : Bool) (r s y : X) : Type 0 where
  on_true : b ≡ true → r ≡ y → Chosen b r s y
  on_false : b ≡ false → s ≡ y → Chosen b r s y

pub choice : {X : Type 0} (b : Bool) (r s y : X) → cond b r s ≡ y → Chosen b r s y
choice true r s y e = on_true refl e
choice false r s y e = on_false refl e

abbrev pub found : {X : Type 0} → X → Option X
found x = Some x

pub some_is : {X : Type 0} (x y : X) → found x ≡ found y → x ≡ y
some_is x y e = cc

abbrev pub done : {X E : Type 0} → X → Result X E
done x = Ok x

pub ok_is : {E X : Type 0} (x y : X) → done {E = E} x ≡ done y → x ≡ y
ok_is x y e = cc

-- a step that gave something
pub step_some : {X Y : Type 0} (o : Option X) (next : X → Option Y) (y : Y) → if_some o next ≡ Some y → (x : X) × (o ≡ Some x) × (next x ≡ Some y)
step_some None next y e = absurd cc
step_some (Some x) next y e = (x, refl, e)

-- what passes at the front
pub front_passes : (p : ℕ → Bool) (t : List ℕ) → list_all p (take (prefix_len p t) t) ≡ true
front_passes p [] = refl
front_passes p (c ∷ cs) = go (p c) refl (front_passes p cs)
  where
    go : (b : Bool) → p c ≡ b → list_all p (take (prefix_len p cs) cs) ≡ true → list_all p (take (cond b (1 + prefix_len p cs) 0) (c ∷ cs)) ≡ true
    go true e h = let k : 1 + prefix_len p cs ≡ suc (prefix_len p cs) = omega arith in rw (k, e) h
    go false e h = refl

-- text that passes, before text that doesn't begin with what passes
pub front_is : (p : ℕ → Bool) (u rest : List ℕ) → list_all p u ≡ true → prefix_len p rest ≡ 0 → prefix_len p (u ++ rest) ≡ length u
front_is p [] rest h stop = stop
front_is p (c ∷ cs) rest h stop =
    let parts = and_parts (p c) (list_all p cs) h in
    let k : 1 + length cs ≡ suc (length cs) = omega arith in
    rw (parts.0, front_is p cs rest parts.1 stop, k) refl

-- what a word stands before
pub after_law : (word t u : List ℕ) → after word t ≡ Some u → t ≡ word ++ u
after_law word t u e =
    elim (choice (starts_with eqb t word) (Some (drop (length word) t)) None (Some u) e) [
      | on_true starts is ↦
          (starts_is Decides-eqb t word (starts_with eqb t word) refl).0 starts ∙ ap (λ (w : List ℕ). word ++ w) (some_is (drop (length word) t) u is)
      | on_false other is ↦ absurd cc
    ]
