-- What a writer got of an output.
use Rattle.std.proofs.Common.{◌≡◌, ℕ, zero, suc, ◌<◌, List, [], ◌∷◌, ◌++◌, ◌∙◌, length, take, refl, sym, ap, subst, arith, append_assoc, append-nil, Option}
use Rattle.std.proofs.KnownBytes.{Appends-trans}
use Rattle.std.specs.Io.KnownBytes.{Appends}
use Rattle.record_writer.specs.Written.{AppendsPart, Begins, FallsShort, Stands}

more_left : (n : ℕ) (xs : List ℕ) → n < length xs → (b : ℕ) × (rest : List ℕ) × (xs ≡ take n xs ++ b ∷ rest)
more_left n [] h = absurd (let bad : ⊥ = omega (arith, h) in bad)
more_left zero (x ∷ xs) h = (x, xs, refl)
more_left (suc n) (x ∷ xs) h = let r = more_left n xs (let k : n < length xs = omega (arith, h) in k) in (r.0, r.1, ap (λ (z : List ℕ). x ∷ z) r.2)

-- what is pending is handed on
pub all_got : (base known new : Option (List ℕ)) (pending o whole : List ℕ) → Stands base known pending o → Appends known new pending → whole ≡ o → Appends base new whole
all_got base known new pending o whole st h is =
    subst (λ (z : List ℕ). Appends base new z) (sym (is ∙ st.2)) (Appends-trans base known new st.0 pending st.1 h)

-- or a part of it
pub part_got : (base known new : Option (List ℕ)) (pending o : List ℕ) → Stands base known pending o → AppendsPart known new pending → (got : List ℕ) × Appends base new got × FallsShort got o
part_got base known new pending o st h =
    let rest = more_left h.0 pending h.1 in (
      st.0 ++ take h.0 pending,
      Appends-trans base known new st.0 (take h.0 pending) st.1 h.2,
      (rest.0, rest.1, st.2 ∙ ap (λ (z : List ℕ). st.0 ++ z) rest.2 ∙ sym (append_assoc st.0 (take h.0 pending) (rest.0 ∷ rest.1))),
    )

-- what follows an output follows what is pending
pub stands_longer : (base known : Option (List ℕ)) (pending o more whole : List ℕ) → Stands base known pending o → whole ≡ pending ++ more → Stands base known whole (o ++ more)
stands_longer base known pending o more whole st is = (st.0, st.1, ap (λ (z : List ℕ). z ++ more) st.2 ∙ append_assoc st.0 pending more ∙ ap (λ (z : List ℕ). st.0 ++ z) (sym is))

-- nothing is pending
pub stands_bare : (base known : Option (List ℕ)) (pending got : List ℕ) → Appends base known got → pending ≡ [] → Stands base known pending got
stands_bare base known pending got h is = (got, h, sym (append-nil got) ∙ ap (λ (z : List ℕ). got ++ z) (sym is))

-- what is pending is lost
pub begins_got : (base known : Option (List ℕ)) (pending o more : List ℕ) → (st : Stands base known pending o) → Begins st.0 (o ++ more)
begins_got base known pending o more st = (pending ++ more, ap (λ (z : List ℕ). z ++ more) st.2 ∙ append_assoc st.0 pending more)

pub got_all : (base known new : Option (List ℕ)) (pending o : List ℕ) → Stands base known pending o → Appends known new pending → Appends base new o
got_all base known new pending o st h = all_got base known new pending o o st h refl
