-- Each step keeps what holds of a loop's iterations.
use Rattle.std.proofs.Common.{◌≡◌, ◌∙◌, ℕ, ◌+◌, ◌<◌, ◌≤◌, ℤ, pos, List, [], ◌∷◌, ◌++◌, ◌⊎◌, inl, inr, refl, sym, ap, subst, ⊎_elim, arith}
use Rattle.std.proofs.lemmas.Bool.{cases_eq}
use Rattle.ast.specs.Store.{StoreOf}
use Rattle.machine.specs.Code.{Cell}
use Rattle.machine.specs.State.{put_at, put_cell, put_cells}
use Rattle.machine.proofs.Puts.{put_same}
use Rattle.codegen.proofs.IterationLaws.{put_other, after-snoc, acts-snoc, after-append, acts-append, in_left, in_right, in_which, Touches, Writes, Untouched, Unwritten, run_put, run_keeps, with_end}
use Rattle.codegen.proofs.IterationSteps.{Process, load, store, print, await, advance, tick, fault, leave, gone, Act, loaded, stored, printed, awaited, advanced, ticked, left, nothing, follow, act, after, acts, In, cell_value, first, run, finish}
use Rattle.codegen.proofs.LoopFinish.{finish_step}
use Rattle.codegen.proofs.LoopMachine.{Inside, Possible, value_of, written, counted, lowered, effect, rest, history, Loads, Stores, HasLeft, Plan, Inv}

-- counts only grow
pub grows : (P : Process) (n : ℕ → ℕ) (e : ℕ) → n e ≤ counted P n e
grows (load r c κ) n e = omega arith
grows (store r c v P) n e = omega arith
grows (print v P) n e = omega arith
grows (await x d P) n e = omega arith
grows (advance x P) n e = ⊎_elim
    (λ q. let p = put_same n x (n x + 1) in subst (λ y. n y ≤ put_at n x (n x + 1) y) (sym q) (omega arith))
    (λ ne. let p = put_other n x (n x + 1) e ne in omega arith)
    (cases_eq e x)
grows (tick P) n e = omega arith
grows (fault f) n e = omega arith
grows (leave ps) n e = omega arith
grows gone n e = omega arith

low_grows : (P : Process) (n : ℕ) → n ≤ lowered P n
low_grows (load r c κ) n = omega arith
low_grows (leave ps) n = omega arith
low_grows _ n = omega arith

low_within : (total : ℕ) (P : Process) (s : Inside) (k : ℕ) → Possible P s k → k < total → s.low ≤ total → lowered P s.low ≤ total
low_within total (leave ps) s k p lt le = omega arith
low_within total (load r c κ) s k p lt le = le
low_within total _ s k p lt le = le

now_advanced : (P : Process) (s : Inside) (k : ℕ) (v : ℤ) → Possible P s k → (e : ℕ) → advanced e ≡ act P v → k < counted P s.counts e
now_advanced (load r c κ) s k v p e h = cc
now_advanced (store r c w P) s k v p e h = cc
now_advanced (print w P) s k v p e h = cc
now_advanced (await x d P) s k v p e h = cc
now_advanced (advance x P) s k v p e h =
    let q : e ≡ x = cc in
    let a = put_same s.counts x (s.counts x + 1) in
    subst (λ y. k < put_at s.counts x (s.counts x + 1) y) (sym q) (omega arith)
now_advanced (tick P) s k v p e h = cc
now_advanced (fault f) s k v p e h = cc
now_advanced (leave ps) s k v p e h = cc
now_advanced gone s k v p e h = cc

was_counted : (P : Process) (s : Inside) (k : ℕ) (v : ℤ) → Possible P s k → (i e : ℕ) → i < counted P s.counts e → (i < s.counts e) ⊎ ((i ≡ k) × (advanced e ≡ act P v))
was_counted (load r c κ) s k v p i e h = inl h
was_counted (store r c w P) s k v p i e h = inl h
was_counted (print w P) s k v p i e h = inl h
was_counted (await x d P) s k v p i e h = inl h
was_counted (advance x P) s k v p i e h = ⊎_elim
    (λ q.
    let a = put_same s.counts x (s.counts x + 1) in
    let h' = subst (λ y. i < put_at s.counts x (s.counts x + 1) y) q h in
    ⊎_elim
    (λ z. inr (z, ap advanced q))
    (λ nz. inl (subst (λ y. i < s.counts y) (sym q) (omega arith)))
    (cases_eq i k))
    (λ ne. let a = put_other s.counts x (s.counts x + 1) e ne in inl (omega arith))
    (cases_eq e x)
was_counted (tick P) s k v p i e h = inl h
was_counted (fault f) s k v p i e h = inl h
was_counted (leave ps) s k v p i e h = inl h
was_counted gone s k v p i e h = inl h

now_passed : (P : Process) (s : Inside) (k : ℕ) (v : ℤ) → Possible P s k → (e d : ℕ) → awaited e d ≡ act P v → k < s.counts e + d
now_passed (load r c κ) s k v p e d h = cc
now_passed (store r c w P) s k v p e d h = cc
now_passed (print w P) s k v p e d h = cc
now_passed (await x y P) s k v p e d h =
    let q : x ≡ e = cc in
    let q' : y ≡ d = cc in
    subst (λ z. k < s.counts z + d) q (subst (λ z. k < s.counts x + z) q' p)
now_passed (advance x P) s k v p e d h = cc
now_passed (tick P) s k v p e d h = cc
now_passed (fault f) s k v p e d h = cc
now_passed (leave ps) s k v p e d h = cc
now_passed gone s k v p e d h = cc

-- who is below low after the step
was_low : (P : Process) (s : Inside) (k : ℕ) (v : ℤ) → Possible P s k → (i : ℕ) → i < lowered P s.low → (i < s.low) ⊎ ((i ≡ k) × (follow P v ≡ gone))
was_low (leave ps) s k v p i h = ⊎_elim (λ e. inr (e, refl)) (λ ne. inl (omega arith)) (cases_eq i k)
was_low (load r c κ) s k v p i h = inl h
was_low (store r c w P) s k v p i h = inl h
was_low (print w P) s k v p i h = inl h
was_low (await x d P) s k v p i h = inl h
was_low (advance x P) s k v p i h = inl h
was_low (tick P) s k v p i h = inl h
was_low (fault f) s k v p i h = inl h
was_low gone s k v p i h = inl h

left-cases : (xs : List Act) (a : Act) → HasLeft (xs ++ a ∷ []) → HasLeft xs ⊎ HasLeft (a ∷ [])
left-cases [] a h = inr h
left-cases (left ps ∷ xs) a h = inl tt
left-cases (loaded r c v ∷ xs) a h = left-cases xs a h
left-cases (stored r c v ∷ xs) a h = left-cases xs a h
left-cases (printed v ∷ xs) a h = left-cases xs a h
left-cases (awaited e d ∷ xs) a h = left-cases xs a h
left-cases (advanced e ∷ xs) a h = left-cases xs a h
left-cases (ticked ∷ xs) a h = left-cases xs a h
left-cases (nothing ∷ xs) a h = left-cases xs a h

now_left : (P : Process) (s : Inside) (k : ℕ) (v : ℤ) → Possible P s k → HasLeft (act P v ∷ []) → k < lowered P s.low
now_left (leave ps) s k v p h = omega arith
now_left (load r c κ) s k v p h = absurd h
now_left (store r c w P) s k v p h = absurd h
now_left (print w P) s k v p h = absurd h
now_left (await x d P) s k v p h = absurd h
now_left (advance x P) s k v p h = absurd h
now_left (tick P) s k v p h = absurd h
now_left (fault f) s k v p h = absurd h
now_left gone s k v p h = absurd h

in-one : (a b : Act) → In a (b ∷ []) → a ≡ b
in-one a b (inl e) = e
in-one a b (inr h) = absurd h

module _ (start : ℕ → Process) (total : ℕ) (Named : ℕ → Type 0) (plan : Plan start total Named) (σ : StoreOf) where
  -- nobody before j, who stores into c now, will still touch it
  pub nobody_touches : (s : Inside) → Inv start total σ s → (i j : ℕ) (c : Cell) → i < j → j < total → Stores (rest start s j) c → Untouched c (rest start s i)
  nobody_touches s inv i j c lt below at vs touch =
      let o = plan.store_last i j (s.past i ++ vs) (s.past j) c lt below (subst (λ p. Touches p c) (sym (after-append (start i) (s.past i) vs)) touch) at in
      let passed = inv.passed j o.0 o.1 o.3 in
      let done = inv.advanced_by i o.0 (omega arith) in
      o.4 (subst (In (advanced o.0)) (sym (acts-append (start i) (s.past i) vs)) (in_left _ _ _ done))

  pub nobody_writes : (s : Inside) → Inv start total σ s → (i j : ℕ) (c : Cell) → i < j → j < total → Loads (rest start s j) c → Unwritten c (rest start s i)
  nobody_writes s inv i j c lt below at vs touch =
      let o = plan.load_last i j (s.past i ++ vs) (s.past j) c lt below (subst (λ p. Writes p c) (sym (after-append (start i) (s.past i) vs)) touch) at in
      let passed = inv.passed j o.0 o.1 o.3 in
      let done = inv.advanced_by i o.0 (omega arith) in
      o.4 (subst (In (advanced o.0)) (sym (acts-append (start i) (s.past i) vs)) (in_left _ _ _ done))

  module _ (s : Inside) (inv : Inv start total σ s) (k : ℕ) (below : k < total) where
    -- what the other iterations, and this one, have done after a step
    done_now : (v : ℤ) (i : ℕ) → ((i ≡ k) × (acts (start i) (put_at s.past k (s.past k ++ v ∷ []) i) ≡ history start s k ++ act (rest start s k) v ∷ []))
        ⊎ ((i ≡ k → ⊥) × (acts (start i) (put_at s.past k (s.past k ++ v ∷ []) i) ≡ history start s i))
    done_now v i = ⊎_elim
        (λ e. inl (
          e,
          subst (λ x. acts (start x) (put_at s.past k (s.past k ++ v ∷ []) x) ≡ history start s k ++ act (rest start s k) v ∷ []) (sym e)
              (ap (acts (start k)) (put_same s.past k (s.past k ++ v ∷ [])) ∙ acts-snoc (start k) (s.past k) v),
        ))
        (λ ne. inr (ne, ap (acts (start i)) (put_other s.past k (s.past k ++ v ∷ []) i ne)))
        (cases_eq i k)

    left_now : (v : ℤ) (i : ℕ) → ((i ≡ k) × (after (start i) (put_at s.past k (s.past k ++ v ∷ []) i) ≡ follow (rest start s k) v))
        ⊎ ((i ≡ k → ⊥) × (after (start i) (put_at s.past k (s.past k ++ v ∷ []) i) ≡ rest start s i))
    left_now v i = ⊎_elim
        (λ e. inl (
          e,
          subst (λ x. after (start x) (put_at s.past k (s.past k ++ v ∷ []) x) ≡ follow (rest start s k) v) (sym e)
              (ap (after (start k)) (put_same s.past k (s.past k ++ v ∷ [])) ∙ after-snoc (start k) (s.past k) v),
        ))
        (λ ne. inr (ne, ap (after (start i)) (put_other s.past k (s.past k ++ v ∷ []) i ne)))
        (cases_eq i k)

    -- the completion is the same, by the kind of step
    ends_same : (P : Process) → rest start s k ≡ P → Possible P s k → finish start (put_at s.past k (s.past k ++ value_of P s.cells ∷ [])) total 0 (written P s.cells) ≡ finish start s.past total 0 s.cells
    ends_same (load r c κ) e p =
        finish_step start s.past k (cell_value s.cells c) (λ τ. τ) (λ τ. cell_value τ c ≡ cell_value s.cells c)
        (λ i lt τ q. run_keeps (rest start s i) c (nobody_writes s inv i k c lt below (subst (λ x. Loads x c) (sym e) refl)) τ ∙ q)
        (λ i lt τ. refl)
        (λ τ q. subst (λ x. run x τ ≡ first (cell_value s.cells c) (run (follow x (cell_value s.cells c)) τ)) (sym e) (ap (λ w. first w (run (κ w) τ)) q))
        total 0 (omega arith) (omega arith) s.cells refl
    ends_same (store r c v P) e p =
        finish_step start s.past k (pos 0) (λ τ. put_cell τ c v) (λ τ. Unit {0})
        (λ i lt τ q. tt)
        (λ i lt τ. run_put (rest start s i) c v (nobody_touches s inv i k c lt below (subst (λ x. Stores x c) (sym e) refl)) τ)
        (λ τ q. subst (λ x. run x τ ≡ first (pos 0) (run (follow x (pos 0)) (put_cell τ c v))) (sym e) refl)
        total 0 (omega arith) (omega arith) s.cells tt
    ends_same (leave ps) e p =
        finish_step start s.past k (pos 0) (λ τ. put_cells τ ps) (λ τ. Unit {0})
        (λ i lt τ q. tt)
        (λ i lt τ. let g : rest start s i ≡ gone = inv.retired i (omega arith) in subst (λ x. run x (put_cells τ ps) ≡ with_end (λ u. put_cells u ps) (run x τ)) (sym g) refl)
        (λ τ q. subst (λ x. run x τ ≡ first (pos 0) (run (follow x (pos 0)) (put_cells τ ps))) (sym e) refl)
        total 0 (omega arith) (omega arith) s.cells tt
    ends_same (print v P) e p =
        finish_step start s.past k (pos 0) (λ τ. τ) (λ τ. Unit {0}) (λ i lt τ q. tt) (λ i lt τ. refl)
        (λ τ q. subst (λ x. run x τ ≡ first (pos 0) (run (follow x (pos 0)) τ)) (sym e) refl)
        total 0 (omega arith) (omega arith) s.cells tt
    ends_same (await x d P) e p =
        finish_step start s.past k (pos 0) (λ τ. τ) (λ τ. Unit {0}) (λ i lt τ q. tt) (λ i lt τ. refl)
        (λ τ q. subst (λ x. run x τ ≡ first (pos 0) (run (follow x (pos 0)) τ)) (sym e) refl)
        total 0 (omega arith) (omega arith) s.cells tt
    ends_same (advance x P) e p =
        finish_step start s.past k (pos 0) (λ τ. τ) (λ τ. Unit {0}) (λ i lt τ q. tt) (λ i lt τ. refl)
        (λ τ q. subst (λ x. run x τ ≡ first (pos 0) (run (follow x (pos 0)) τ)) (sym e) refl)
        total 0 (omega arith) (omega arith) s.cells tt
    ends_same (tick P) e p =
        finish_step start s.past k (pos 0) (λ τ. τ) (λ τ. Unit {0}) (λ i lt τ q. tt) (λ i lt τ. refl)
        (λ τ q. subst (λ x. run x τ ≡ first (pos 0) (run (follow x (pos 0)) τ)) (sym e) refl)
        total 0 (omega arith) (omega arith) s.cells tt
    ends_same (fault f) e p = absurd p
    ends_same gone e p = absurd p

    pub keeps_all : (P : Process) → rest start s k ≡ P → Possible P s k → Inv start total σ (effect P s k)
    keeps_all P eq p = record {
      advanced_in = λ i e h. ⊎_elim
          (λ a. let h' = subst (In (advanced e)) a.1 h in
          ⊎_elim
          (λ old. let b = inv.advanced_in k e old in let g = grows P s.counts e in omega arith)
          (λ new. let z = now_advanced P s k v p e (in-one _ _ new ∙ ap (λ x. act x v) eq) in omega arith)
          (in_which (advanced e) (history start s k) (act (rest start s k) v ∷ []) h'))
          (λ a. let b = inv.advanced_in i e (subst (In (advanced e)) a.1 h) in let g = grows P s.counts e in omega arith)
          (done_now v i);
      advanced_by = λ i e h. ⊎_elim
          (λ a. subst (In (advanced e)) (sym a.1) (⊎_elim
          (λ old. in_left (advanced e) (history start s k) (act (rest start s k) v ∷ []) (subst (λ x. In (advanced e) (history start s x)) a.0 (inv.advanced_by i e old)))
          (λ new. in_right (advanced e) (history start s k) (act (rest start s k) v ∷ []) (inl (new.1 ∙ ap (λ x. act x v) (sym eq))))
          (was_counted P s k v p i e h)))
          (λ a. subst (In (advanced e)) (sym a.1) (⊎_elim
          (λ old. inv.advanced_by i e old)
          (λ new. absurd (a.0 new.0))
          (was_counted P s k v p i e h)))
          (done_now v i);
      passed = λ i e d h. ⊎_elim
          (λ a. let h' = subst (In (awaited e d)) a.1 h in
          let g = grows P s.counts e in
          ⊎_elim
          (λ old. let b = inv.passed k e d old in omega arith)
          (λ new. let z = now_passed P s k v p e d (in-one _ _ new ∙ ap (λ x. act x v) eq) in omega arith)
          (in_which (awaited e d) (history start s k) (act (rest start s k) v ∷ []) h'))
          (λ a. let b = inv.passed i e d (subst (In (awaited e d)) a.1 h) in let g = grows P s.counts e in omega arith)
          (done_now v i);
      retired = λ i h. ⊎_elim
          (λ a. ⊎_elim
          (λ old. a.1 ∙ ap (λ x. follow x v) (subst (λ x. rest start s x ≡ gone) a.0 (inv.retired i old)))
          (λ new. a.1 ∙ ap (λ x. follow x v) eq ∙ new.1)
          (was_low P s k v p i h))
          (λ a. ⊎_elim (λ old. a.1 ∙ inv.retired i old) (λ new. absurd (a.0 new.0)) (was_low P s k v p i h))
          (left_now v i);
      has_left = λ i h. ⊎_elim
          (λ a. ⊎_elim
          (λ old. let b = inv.has_left k old in let g = low_grows P s.low in omega arith)
          (λ new. let z = now_left P s k v p (subst (λ x. HasLeft (act x v ∷ [])) eq new) in omega arith)
          (left-cases (history start s k) (act (rest start s k) v) (subst HasLeft a.1 h)))
          (λ a. let b = inv.has_left i (subst HasLeft a.1 h) in let g = low_grows P s.low in omega arith)
          (done_now v i);
      within = low_within total P s k p below inv.within;
      same = ends_same P eq p ∙ inv.same;
    }
      where
        v : ℤ
        v = value_of P s.cells
