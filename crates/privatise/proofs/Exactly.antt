-- The scalars that no path uses early are the private ones.
use Rattle.std.proofs.Common.{◌≡◌, ◌∙◌, ap, sym, refl, ℕ, List, [], ◌∷◌, subst, true≢false, inl, inr}
use Rattle.std.proofs.lemmas.List.{append_assoc}
use Rattle.std.proofs.lemmas.Bool.Decides.{Decides-eqb}
use Rattle.std.specs.Prelude.{◌<◌, ◌++◌, ◌⊎◌, Bool, true, false, ◌||◌, ◌==◌, if◌then◌else◌, replicate}
use Rattle.std.specs.List.{list_any}
use Rattle.ast.specs.Tree.{Ref}
use Rattle.loop_tree.specs.Loops.{Loop, has_cell}
use Rattle.loop_tree.specs.Paths.{Token, uses, defines, await, advance, Ending, at_end, at_stop, Paths}
use Rattle.loop_tree.specs.Private.{UsesEarly, Private, defines_cell}
use Rattle.privatise.specs.Cells.{walk_at}
use Rattle.privatise.specs.Flow.{after_block, is_never_early, is_never_early_at}
use Rattle.privatise.specs.Privates.{Picked, ArePrivate, private_refs, private_names}
use Rattle.privatise.specs.Walks.{then_walk, if_so, walk}
use Rattle.privatise.specs.declared.walk.Walk.{Walk}
use Rattle.privatise.specs.declared.walk.Walk.TheVariants.{Defined, Missed, Early}
use Rattle.privatise.proofs.ByCell.{block_walk}
use Rattle.privatise.proofs.Flows.{AtMost, result, walk_append, block_is}
use Rattle.privatise.proofs.Forward.{from_nothing}

is_early : Walk → Type 0
is_early Early = Unit {0}
is_early w = ⊥

missed_is_early : Missed ≡ Early → ⊥
unfolding is_early
missed_is_early e = subst (λ w. is_early w) (sym e) tt

defined_is_early : Defined ≡ Early → ⊥
unfolding is_early
defined_is_early e = subst (λ w. is_early w) (sym e) tt

-- ---- one path

early_found : (c : ℕ) (t : List Token) → walk c t ≡ Early → UsesEarly c t
early_found c [] e = absurd (missed_is_early e)
early_found c (uses r ∷ t) e = by (r.cell == c) refl (λ f. early_found c t f) e
  where
    by : (b : Bool) → (r.cell == c) ≡ b → (walk c t ≡ Early → UsesEarly c t) → then_walk (if_so b Early) (walk c t) ≡ Early → UsesEarly c (uses r ∷ t)
    by true f more g = record { front = []; back = t; ref = r; at = refl; of = f; before = refl }
    by false f more g = let h = more g in record { front = uses r ∷ h.front; back = h.back; ref = h.ref; at = ap (λ s. uses r ∷ s) h.at; of = h.of; before = h.before }
early_found c (defines r ∷ t) e = by (r.cell == c) refl (λ f. early_found c t f) e
  where
    by : (b : Bool) → (r.cell == c) ≡ b → (walk c t ≡ Early → UsesEarly c t) → then_walk (if_so b Defined) (walk c t) ≡ Early → UsesEarly c (defines r ∷ t)
    by true f more g = absurd (defined_is_early g)
    by false f more g = let h = more g in record { front = defines r ∷ h.front; back = h.back; ref = h.ref; at = ap (λ s. defines r ∷ s) h.at; of = h.of; before = ap (λ (b : Bool). b || list_any (defines_cell c) h.front) f ∙ h.before }
early_found c (await n d ∷ t) e = let h = early_found c t e in record { front = await n d ∷ h.front; back = h.back; ref = h.ref; at = ap (λ s. await n d ∷ s) h.at; of = h.of; before = h.before }
early_found c (advance n ∷ t) e = let h = early_found c t e in record { front = advance n ∷ h.front; back = h.back; ref = h.ref; at = ap (λ s. advance n ∷ s) h.at; of = h.of; before = h.before }

stays_missed : (c : ℕ) (front : List Token) → list_any (defines_cell c) front ≡ false → then_walk (walk c front) Early ≡ Early
stays_missed c [] e = refl
stays_missed c (uses r ∷ t) e = by (r.cell == c) (stays_missed c t e)
  where
    by : (b : Bool) → then_walk (walk c t) Early ≡ Early → then_walk (then_walk (if_so b Early) (walk c t)) Early ≡ Early
    by true more = refl
    by false more = more
stays_missed c (defines r ∷ t) e = by (r.cell == c) (λ f. stays_missed c t f) e
  where
    by : (b : Bool) → (list_any (defines_cell c) t ≡ false → then_walk (walk c t) Early ≡ Early) → (b || list_any (defines_cell c) t) ≡ false → then_walk (then_walk (if_so b Defined) (walk c t)) Early ≡ Early
    by true more f = absurd (true≢false f)
    by false more f = more f
stays_missed c (await n d ∷ t) e = stays_missed c t e
stays_missed c (advance n ∷ t) e = stays_missed c t e

found_early : (c : ℕ) (t : List Token) → UsesEarly c t → walk c t ≡ Early
found_early c t u =
    ap (λ s. walk c s) u.at
    ∙ walk_append c u.front (uses u.ref ∷ u.back)
    ∙ ap (λ (b : Bool). then_walk (walk c u.front) (then_walk (if_so b Early) (walk c u.back))) u.of
    ∙ stays_missed c u.front u.before

-- ---- all paths

early_result : (e : Ending) (w : Walk) → w ≡ Early → result e w ≡ Early
early_result at_end w h = h
early_result at_stop w h = ap (λ v. result at_stop v) h

result_early : (e : Ending) (w : Walk) → result e w ≡ Early → w ≡ Early
result_early at_end w h = h
result_early at_stop Defined h = h
result_early at_stop Missed h = absurd (defined_is_early h)
result_early at_stop Early h = refl

only_early : (w : Walk) → AtMost Early w → w ≡ Early
only_early Defined h = absurd h
only_early Missed h = absurd h
only_early Early h = refl

is_private : (l : Loop) (c : ℕ) → has_cell c l.assigned ≡ true → is_never_early (block_walk c l.body) ≡ true → Private l c
is_private l c h k = record { assigned = h; never = never }
  where
    not_early : (w : Walk) → is_never_early w ≡ true → w ≡ Early → ⊥
    not_early w e f = true≢false (sym e ∙ ap is_never_early f)

    never : (e : Ending) (t : List Token) → Paths l.body e t → UsesEarly c t → ⊥
    never e t p u =
        not_early (block_walk c l.body) k
        (only_early (block_walk c l.body)
        (subst (λ w. AtMost w (block_walk c l.body)) (early_result e (walk c t) (found_early c t u)) ((block_is c l.body).most e t p)))

pub isnt_private : (l : Loop) (c : ℕ) → is_never_early (block_walk c l.body) ≡ false → Private l c → ⊥
isnt_private l c k p =
    let x = block_is c l.body in
    p.never x.ending x.path x.is (early_found c x.path (result_early x.ending (walk c x.path) (x.reached ∙ is_it (block_walk c l.body) k)))
  where
    is_it : (w : Walk) → is_never_early w ≡ false → w ≡ Early
    is_it Defined e = absurd (true≢false e)
    is_it Missed e = absurd (true≢false e)
    is_it Early e = refl

-- ---- the list

among : (front : List Ref) (r : Ref) (rs : List Ref) → has_cell r.cell (front ++ r ∷ rs) ≡ true
among [] r rs = ap (λ (b : Bool). b || has_cell r.cell rs) ((Decides-eqb r.cell r.cell).1 refl)
among (s ∷ front) r rs = by (s.cell == r.cell) (among front r rs)
  where
    by : (b : Bool) → has_cell r.cell (front ++ r ∷ rs) ≡ true → (b || has_cell r.cell (front ++ r ∷ rs)) ≡ true
    by true more = refl
    by false more = more

-- a list of walks tells what the paths through the range do with each scalar that it assigns
abbrev Tells : Loop → List Walk → Type 0
Tells l ws = (c : ℕ) → has_cell c l.assigned ≡ true → walk_at ws c ≡ block_walk c l.body

picked_from : (l : Loop) (ws : List Walk) (front rs : List Ref) → Tells l ws → l.assigned ≡ front ++ rs → Picked (λ r. Private l r.cell) rs (private_refs ws rs)
picked_from l ws front [] t e = refl
picked_from l ws front (r ∷ rs) t e =
    by (is_never_early_at ws r.cell) (sym (ap (λ w. is_never_early w) (t r.cell here))) (picked_from l ws (front ++ r ∷ []) rs t (e ∙ sym (append_assoc front (r ∷ []) rs)))
  where
    here : has_cell r.cell l.assigned ≡ true
    here = ap (λ xs. has_cell r.cell xs) e ∙ among front r rs

    by : (b : Bool) → is_never_early (block_walk r.cell l.body) ≡ b → Picked (λ s. Private l s.cell) rs (private_refs ws rs)
        → (Private l r.cell × (qs : List Ref) × ((if b then r ∷ private_refs ws rs else private_refs ws rs) ≡ r ∷ qs) × Picked (λ s. Private l s.cell) rs qs)
        ⊎ ((Private l r.cell → ⊥) × Picked (λ s. Private l s.cell) rs (if b then r ∷ private_refs ws rs else private_refs ws rs))
    by true f more = inl (is_private l r.cell here f, private_refs ws rs, refl, more)
    by false f more = inr (isnt_private l r.cell f, more)

-- so many cells are enough for the scalars that the range assigns
abbrev pub AreEnough : Loop → ℕ → Type 0
AreEnough l n = (c : ℕ) → has_cell c l.assigned ≡ true → c < n

pub are_private : (l : Loop) (n : ℕ) (names : List (List ℕ)) → AreEnough l n → names ≡ private_names (after_block l.body (replicate n Missed)) l.assigned → ArePrivate l names
are_private l n names h e = record {
  scalars = private_refs (after_block l.body (replicate n Missed)) l.assigned;
  picked = picked_from l (after_block l.body (replicate n Missed)) [] l.assigned (λ c k. from_nothing n c l.body (h c k)) refl;
  named = e;
}
