-- When two iterations may touch one element.
use Rattle.std.specs.Prelude.{◌≡◌, ◌<◌, ℕ, ℤ, pos, ◌+ℤ◌, ◌*ℤ◌, ◌-◌}
use Rattle.std.specs.Prelude.{Bool, true, false, Option, Some, None, ⊤}
use Rattle.std.specs.Ordering.{int_eq}
use Rattle.ast.specs.Tree.{Terms, no_terms, then_term}
use Rattle.dependence.specs.declared.relation.Relation.{Relation}
use Rattle.dependence.specs.declared.relation.Relation.TheVariants.{Apart, Distance, Any}
use Rattle.loop_tree.specs.Loops.{Loop}
use Rattle.loop_tree.specs.Occurrences.{Occurrence}
use Rattle.subscripts.specs.Values.{MayBe}

-- Subscripts may have equal values, dimension by dimension, where the loop's variable is i for the
-- first and j for the second. Each place in them has a value of its own; the scalars that the range
-- doesn't assign have the same values for both.
abbrev pub MayAgree : Loop → (ℕ → ℤ) → ℤ → ℤ → Terms → Terms → Type 0
MayAgree l held i j no_terms no_terms = ⊤
MayAgree l held i j (then_term e es) (then_term f fs) =
    (v : ℤ) × MayBe l held i e v × MayBe l held j f v × MayAgree l held i j es fs
MayAgree l held i j _ _ = ⊥

-- the step of the loop where that is a constant other than 0, otherwise any
abbrev pub IsStep : Option ℤ → ℤ → Type 0
IsStep None s = ⊤
IsStep (Some n) s = (int_eq n (pos 0) ≡ false) → s ≡ n

-- A reference in iteration k and one in iteration j may touch one element, the loop's variable
-- beginning at some number. Scalars always do.
pub record Meets (l : Loop) (a : Occurrence) (b : Occurrence) (k j : ℕ) : Type 0 where
  pub first : ℤ
  pub step : ℤ
  pub held : ℕ → ℤ
  pub name : a.ref.name ≡ b.ref.name
  pub is_step : IsStep l.step step
  pub agree : MayAgree l held (first +ℤ (pos k *ℤ step))
      (first +ℤ (pos j *ℤ step)) a.subscripts b.subscripts

-- an iteration is one of the loop's, as far as its trips are known
abbrev pub IsWithin : Option ℕ → ℕ → Type 0
IsWithin None j = ⊤
IsWithin (Some trips) j = j < trips

-- What a relation promises of a reference and one in a later iteration.
abbrev pub Promises : Loop → Occurrence → Occurrence → Relation → Type 0
Promises l a b (Apart n reason) = (k j : ℕ) → k < j → IsWithin l.trips j → Meets l a b k j → ⊥
Promises l a b (Distance n d) = (k j : ℕ) → k < j → IsWithin l.trips j → Meets l a b k j → j - k ≡ d
Promises l a b Any = ⊤

-- the same of references that may not be there
abbrev pub PromisesIf : Loop → Option Occurrence → Option Occurrence → Relation → Type 0
PromisesIf l (Some a) (Some b) r = Promises l a b r
PromisesIf l _ _ r = ⊤

abbrev pub IfYes : Bool → Type 0 → Type 0
IfYes true claim = claim
IfYes false claim = ⊤
