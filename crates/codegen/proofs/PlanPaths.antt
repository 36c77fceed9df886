-- What is known of the paths of a plan is known of what its iterations do.
use Rattle.std.proofs.Common.{◌≡◌, ◌∙◌, ◌⊎◌, inl, inr, ℕ, ℤ, Bool, List, [], ◌∷◌, ◌++◌, refl, sym, ap, subst, ⊎_elim, append_assoc}
use Rattle.std.proofs.lemmas.List.{append-nil}
use Rattle.ast.specs.Store.{StoreOf}
use Rattle.ast.specs.Tree.{Ref, Terms}
use Rattle.loop_tree.specs.Loops.{Loop}
use Rattle.loop_tree.specs.Paths.{Token, uses, defines, await as awaited_at, advance as advanced_at, at_end, PathSet}
use Rattle.machine.specs.Code.{Cell}
use Rattle.expr_code.specs.Places.{Places}
use Rattle.codegen.proofs.IterationLaws.{in_left, in_right, in_which}
use Rattle.codegen.proofs.IterationPaths.{Along, Begun, Quiet, along_begun}
use Rattle.codegen.proofs.IterationSteps.{Process, load, store, print, await, advance, tick, fault, leave, gone, Act, loaded, stored, printed, awaited, advanced, ticked, left, nothing, In, act, acts, after, follow}
use Rattle.codegen.proofs.LoopMachine.{Advances, Awaits, HasLeft}

-- the tokens of one step
abbrev pub Shows : Act → List Token → Type 0
Shows (awaited e d) ts = ts ≡ awaited_at e d ∷ []
Shows (advanced e) ts = ts ≡ advanced_at e ∷ []
Shows _ ts = Quiet ts

-- the tokens of several
abbrev pub AllShow : List Act → List Token → Type 0
AllShow [] ts = ts ≡ []
AllShow (d ∷ ds) ts = (u : List Token) × (w : List Token) × (ts ≡ u ++ w) × Shows d u × AllShow ds w

-- ---- events among steps are those among tokens

quiet_none : (ts : List Token) (e d : ℕ) → Quiet ts → In (awaited_at e d) ts → ⊥
quiet_none [] e d q i = i
quiet_none (uses r ∷ ts) e d q (inl z) = cc
quiet_none (uses r ∷ ts) e d q (inr i) = quiet_none ts e d q i
quiet_none (defines r ∷ ts) e d q (inl z) = cc
quiet_none (defines r ∷ ts) e d q (inr i) = quiet_none ts e d q i
quiet_none (awaited_at x y ∷ ts) e d q i = q
quiet_none (advanced_at x ∷ ts) e d q i = q

quiet_never : (ts : List Token) (e : ℕ) → Quiet ts → In (advanced_at e) ts → ⊥
quiet_never [] e q i = i
quiet_never (uses r ∷ ts) e q (inl z) = cc
quiet_never (uses r ∷ ts) e q (inr i) = quiet_never ts e q i
quiet_never (defines r ∷ ts) e q (inl z) = cc
quiet_never (defines r ∷ ts) e q (inr i) = quiet_never ts e q i
quiet_never (awaited_at x y ∷ ts) e q i = q
quiet_never (advanced_at x ∷ ts) e q i = q

await_shown : (d : Act) (u : List Token) (e n : ℕ) → Shows d u → In (awaited_at e n) u → awaited e n ≡ d
await_shown (awaited x y) u e n s i = one (subst (λ (t : List Token). In (awaited_at e n) t) s i)
  where
    one : In (awaited_at e n) (awaited_at x y ∷ []) → awaited e n ≡ awaited x y
    one (inl z) = let a : e ≡ x = cc in let b : n ≡ y = cc in ap (λ (k : ℕ). awaited k n) a ∙ ap (λ (k : ℕ). awaited x k) b
    one (inr z) = absurd z
await_shown (advanced x) u e n s i = one (subst (λ (t : List Token). In (awaited_at e n) t) s i)
  where
    one : In (awaited_at e n) (advanced_at x ∷ []) → awaited e n ≡ advanced x
    one (inl z) = cc
    one (inr z) = absurd z
await_shown (loaded r c v) u e n s i = absurd (quiet_none u e n s i)
await_shown (stored r c v) u e n s i = absurd (quiet_none u e n s i)
await_shown (printed b) u e n s i = absurd (quiet_none u e n s i)
await_shown ticked u e n s i = absurd (quiet_none u e n s i)
await_shown (left xs) u e n s i = absurd (quiet_none u e n s i)
await_shown nothing u e n s i = absurd (quiet_none u e n s i)

advance_shown : (d : Act) (u : List Token) (e : ℕ) → Shows d u → In (advanced_at e) u → advanced e ≡ d
advance_shown (advanced x) u e s i = one (subst (λ (t : List Token). In (advanced_at e) t) s i)
  where
    one : In (advanced_at e) (advanced_at x ∷ []) → advanced e ≡ advanced x
    one (inl z) = let a : e ≡ x = cc in ap (λ (k : ℕ). advanced k) a
    one (inr z) = absurd z
advance_shown (awaited x y) u e s i = one (subst (λ (t : List Token). In (advanced_at e) t) s i)
  where
    one : In (advanced_at e) (awaited_at x y ∷ []) → advanced e ≡ awaited x y
    one (inl z) = cc
    one (inr z) = absurd z
advance_shown (loaded r c v) u e s i = absurd (quiet_never u e s i)
advance_shown (stored r c v) u e s i = absurd (quiet_never u e s i)
advance_shown (printed b) u e s i = absurd (quiet_never u e s i)
advance_shown ticked u e s i = absurd (quiet_never u e s i)
advance_shown (left xs) u e s i = absurd (quiet_never u e s i)
advance_shown nothing u e s i = absurd (quiet_never u e s i)

advance_told : (d : Act) (u : List Token) (e : ℕ) → Shows d u → advanced e ≡ d → In (advanced_at e) u
advance_told (advanced x) u e s z = let a : e ≡ x = cc in subst (λ (t : List Token). In (advanced_at e) t) (sym s) (inl (ap (λ (k : ℕ). advanced_at k) a))
advance_told (awaited x y) u e s z = cc
advance_told (loaded r c v) u e s z = cc
advance_told (stored r c v) u e s z = cc
advance_told (printed b) u e s z = cc
advance_told ticked u e s z = cc
advance_told (left xs) u e s z = cc
advance_told nothing u e s z = cc

pub awaits_done : (ds : List Act) (ts : List Token) (e n : ℕ) → AllShow ds ts → In (awaited_at e n) ts → In (awaited e n) ds
awaits_done [] ts e n s i = subst (λ (t : List Token). In (awaited_at e n) t) s i
awaits_done (d ∷ ds) ts e n s i = ⊎_elim (λ a. inl (await_shown d s.0 e n s.3 a)) (λ b. inr (awaits_done ds s.1 e n s.4 b)) (in_which (awaited_at e n) s.0 s.1 (subst (λ (t : List Token). In (awaited_at e n) t) s.2 i))

pub advances_done : (ds : List Act) (ts : List Token) (e : ℕ) → AllShow ds ts → In (advanced_at e) ts → In (advanced e) ds
advances_done [] ts e s i = subst (λ (t : List Token). In (advanced_at e) t) s i
advances_done (d ∷ ds) ts e s i = ⊎_elim (λ a. inl (advance_shown d s.0 e s.3 a)) (λ b. inr (advances_done ds s.1 e s.4 b)) (in_which (advanced_at e) s.0 s.1 (subst (λ (t : List Token). In (advanced_at e) t) s.2 i))

pub advances_told : (ds : List Act) (ts : List Token) (e : ℕ) → AllShow ds ts → In (advanced e) ds → In (advanced_at e) ts
advances_told [] ts e s i = absurd i
advances_told (d ∷ ds) ts e s (inl z) = subst (λ (t : List Token). In (advanced_at e) t) (sym s.2) (in_left (advanced_at e) s.0 s.1 (advance_told d s.0 e s.3 z))
advances_told (d ∷ ds) ts e s (inr i) = subst (λ (t : List Token). In (advanced_at e) t) (sym s.2) (in_right (advanced_at e) s.0 s.1 (advances_told ds s.1 e s.4 i))

module _ (l : Loop) (held : ℕ → ℤ) (index : ℤ) (Stands : Ref → Terms → Type 0) (p : Places) (fixed : Cell → Bool) (opened : StoreOf) (S : PathSet) where
  abbrev Goes : Process → List Token → Type 0
  Goes P h = Along l held index Stands p fixed opened S P h

  -- one step: its tokens come next; or it was the last, at the end of a path
  abbrev Next : Process → ℤ → List Token → Type 0
  Next P v h = Goes (follow P v) h ⊎ ((follow P v ≡ gone) × S at_end h × ((ds : List Act) → HasLeft (act P v ∷ ds)))

  ended : (P : Process) (h : List Token) → Goes P h → Goes P (h ++ [])
  ended P h a = subst (λ (t : List Token). Goes P t) (sym (append-nil h)) a

  step : (P : Process) (h : List Token) (v : ℤ) → Goes P h → (u : List Token) × Shows (act P v) u × Next P v (h ++ u)
  step (load r c κ) h v a = (uses r ∷ [], tt, inl (a.1 v))
  step (store r c w P) h v a = (defines r ∷ [], tt, inl a.1)
  step (print bytes P) h v a = ([], tt, inl (ended P h a))
  step (await e d P) h v a = (awaited_at e d ∷ [], refl, inl a)
  step (advance e P) h v a = (advanced_at e ∷ [], refl, inl a)
  step (tick P) h v a = (a.0, a.1, inl a.2)
  step (fault c) h v a = ([], tt, inl (ended (fault c) h a))
  step (leave xs) h v a = ([], tt, inr (refl, subst (λ (t : List Token). S at_end t) (sym (append-nil h)) a.0, λ ds. tt))
  step gone h v a = absurd a

  still_gone : (vs : List ℤ) → after gone vs ≡ gone
  still_gone [] = refl
  still_gone (v ∷ vs) = still_gone vs

  gone_shows : (vs : List ℤ) → AllShow (acts gone vs) []
  gone_shows [] = refl
  gone_shows (v ∷ vs) = ([], [], refl, tt, gone_shows vs)

  has_more : (d : Act) (ds : List Act) → HasLeft ds → HasLeft (d ∷ ds)
  has_more (left xs) ds h = tt
  has_more (loaded r c v) ds h = h
  has_more (stored r c v) ds h = h
  has_more (printed b) ds h = h
  has_more (awaited e d) ds h = h
  has_more (advanced e) ds h = h
  has_more ticked ds h = h
  has_more nothing ds h = h

  -- where it stands after steps: along a path, or at its end, having retired
  abbrev pub Comes : Process → List Token → List Act → Type 0
  Comes P h ds = Goes P h ⊎ ((P ≡ gone) × S at_end h × HasLeft ds)

  pub reach : (vs : List ℤ) (P : Process) (h : List Token) → Goes P h → (ts : List Token) × AllShow (acts P vs) ts × Comes (after P vs) (h ++ ts) (acts P vs)
  reach [] P h a = ([], refl, inl (ended P h a))
  reach (v ∷ vs) P h a = let s = step P h v a in by s.0 s.1 s.2 (λ g. reach vs (follow P v) (h ++ s.0) g)
    where
      by : (u : List Token) → Shows (act P v) u → Next P v (h ++ u) → (Goes (follow P v) (h ++ u) → (ts : List Token) × AllShow (acts (follow P v) vs) ts × Comes (after (follow P v) vs) ((h ++ u) ++ ts) (acts (follow P v) vs))
          → (ts : List Token) × AllShow (act P v ∷ acts (follow P v) vs) ts × Comes (after (follow P v) vs) (h ++ ts) (act P v ∷ acts (follow P v) vs)
      by u shows (inl g) further =
          let r = further g in (
            u ++ r.0,
            (u, r.0, refl, shows, r.1),
            subst (λ (t : List Token). Comes (after (follow P v) vs) t (act P v ∷ acts (follow P v) vs)) (append_assoc h u r.0)
                (⊎_elim (λ x. inl x) (λ y. inr (y.0, y.1, has_more (act P v) (acts (follow P v) vs) y.2)) r.2),
          )
      by u shows (inr g) further = (
        u,
        (u, [], sym (append-nil u), shows, subst (λ (R : Process). AllShow (acts R vs) []) (sym g.0) (gone_shows vs)),
        inr (ap (λ (R : Process). after R vs) g.0 ∙ still_gone vs, g.1, g.2 (acts (follow P v) vs)),
      )

  -- ---- of each event

  module _ (P : Process) (start : Goes P []) (vs : List ℤ) where
    -- an advance stands behind the tokens of what was done
    advance_at : (Q : Process) (e : ℕ) (h : List Token) (ds : List Act) → Advances Q e → Comes Q h ds → Begun l held index Stands p fixed opened S (h ++ advanced_at e ∷ [])
    advance_at (advance x Q) e h ds at (inl a) = subst (λ (n : ℕ). Begun l held index Stands p fixed opened S (h ++ advanced_at n ∷ [])) at (along_begun l held index Stands p fixed opened S Q (h ++ advanced_at x ∷ []) a)
    advance_at (advance x Q) e h ds at (inr g) = let z = g.0 in cc
    advance_at (load r c κ) e h ds at g = absurd at
    advance_at (store r c v Q) e h ds at g = absurd at
    advance_at (print b Q) e h ds at g = absurd at
    advance_at (await x d Q) e h ds at g = absurd at
    advance_at (tick Q) e h ds at g = absurd at
    advance_at (fault c) e h ds at g = absurd at
    advance_at (leave xs) e h ds at g = absurd at
    advance_at gone e h ds at g = absurd at

    await_at : (Q : Process) (e d : ℕ) (h : List Token) (ds : List Act) → Awaits Q e d → Comes Q h ds → Begun l held index Stands p fixed opened S (h ++ awaited_at e d ∷ [])
    await_at (await x y Q) e d h ds at (inl a) =
        subst (λ (n : ℕ). Begun l held index Stands p fixed opened S (h ++ awaited_at e n ∷ [])) at.1
        (subst (λ (n : ℕ). Begun l held index Stands p fixed opened S (h ++ awaited_at n y ∷ [])) at.0 (along_begun l held index Stands p fixed opened S Q (h ++ awaited_at x y ∷ []) a))
    await_at (await x y Q) e d h ds at (inr g) = let z = g.0 in cc
    await_at (load r c κ) e d h ds at g = absurd at
    await_at (store r c v Q) e d h ds at g = absurd at
    await_at (print b Q) e d h ds at g = absurd at
    await_at (advance x Q) e d h ds at g = absurd at
    await_at (tick Q) e d h ds at g = absurd at
    await_at (fault c) e d h ds at g = absurd at
    await_at (leave xs) e d h ds at g = absurd at
    await_at gone e d h ds at g = absurd at

    -- what holds of a path's tokens before an advance
    pub once : (e : ℕ) → ((u : List Token) → Begun l held index Stands p fixed opened S (u ++ advanced_at e ∷ []) → In (advanced_at e) u → ⊥) → Advances (after P vs) e → In (advanced e) (acts P vs) → ⊥
    once e h at i = let r = reach vs P [] start in h r.0 (advance_at (after P vs) e r.0 (acts P vs) at r.2) (advances_told (acts P vs) r.0 e r.1 i)

    pub before : (e : ℕ) → ((u : List Token) → Begun l held index Stands p fixed opened S (u ++ advanced_at e ∷ []) → In (awaited_at e 1) u) → Advances (after P vs) e → In (awaited e 1) (acts P vs)
    before e h at = let r = reach vs P [] start in awaits_done (acts P vs) r.0 e 1 r.1 (h r.0 (advance_at (after P vs) e r.0 (acts P vs) at r.2))

    pub each : (e : ℕ) → ((t : List Token) → S at_end t → In (advanced_at e) t) → after P vs ≡ gone → In (advanced e) (acts P vs)
    each e h g = let r = reach vs P [] start in ⊎_elim (λ a. absurd (subst (λ (R : Process). Goes R r.0) g a)) (λ b. advances_done (acts P vs) r.0 e r.1 (h r.0 b.1)) r.2

    pub lasts : after P vs ≡ gone → HasLeft (acts P vs)
    lasts g = let r = reach vs P [] start in ⊎_elim (λ a. absurd (subst (λ (R : Process). Goes R r.0) g a)) (λ b. b.2) r.2

    pub far : {X : Type 0} (e d : ℕ) → ((u : List Token) → Begun l held index Stands p fixed opened S (u ++ awaited_at e d ∷ []) → X) → Awaits (after P vs) e d → X
    far e d h at = let r = reach vs P [] start in h r.0 (await_at (after P vs) e d r.0 (acts P vs) at r.2)
