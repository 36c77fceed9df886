-- A good plan, by its paths, gives what the loop's iterations need.
use Rattle.std.proofs.Common.{◌≡◌, ◌+◌, ◌<◌, ◌≤◌, ◌⊎◌, inl, inr, ℕ, ℤ, pos, Bool, List, [], ◌∷◌, ◌++◌, refl, subst, ⊎_elim}
use Rattle.ast.specs.Store.{StoreOf}
use Rattle.ast.specs.Tree.{Ref, Terms}
use Rattle.loop_tree.specs.Loops.{Loop}
use Rattle.loop_tree.specs.Paths.{Token, uses, defines, await as awaited_at, advance as advanced_at, at_end, PathSet}
use Rattle.machine.specs.Code.{Cell}
use Rattle.expr_code.specs.Places.{Places}
use Rattle.codegen.proofs.IterationLaws.{Touches, Writes}
use Rattle.codegen.proofs.IterationPaths.{Along, At, Begun, along_begun}
use Rattle.codegen.proofs.IterationStanding.{Hidden}
use Rattle.codegen.proofs.IterationSteps.{Process, load, store, print, await, advance, tick, fault, leave, gone, Act, In, IsKey, acts, after}
use Rattle.codegen.proofs.LoopMachine.{Loads, Ordered, Plan, Stores}
use Rattle.codegen.proofs.PlanPaths.{AllShow, Comes, advances_told, awaits_done, before, each, far, lasts, once, reach}

-- index: the value of the loop's variable in each iteration; total: its trips; Named: the events
-- that its range names
module _ (l : Loop) (held : ℕ → ℤ) (index : ℕ → ℤ) (Stands : Ref → Terms → Type 0) (p : Places) (fixed : Cell → Bool) (opened : StoreOf) (S : PathSet) (total : ℕ) (Named : ℕ → Type 0) where
  abbrev pub Begins : List Token → Type 0
  Begins h = Begun l held (index 0) Stands p fixed opened S h

  abbrev pub AtIn : ℕ → Ref → Cell → Type 0
  AtIn k r c = At l held (index k) Stands p fixed opened S r c

  -- a token that reads, or gives a value to, what may be at this cell in this iteration
  abbrev pub Meets : ℕ → Token → Cell → Type 0
  Meets k a c = (r : Ref) × AtIn k r c × ((a ≡ uses r) ⊎ (a ≡ defines r))

  -- a token stands on some path
  abbrev pub Occurs : Token → Type 0
  Occurs a = (u : List Token) × Begins (u ++ a ∷ [])

  abbrev pub Defines : Token → Type 0
  Defines a = (r : Ref) × (a ≡ defines r)

  -- On each path each event that the range names is advanced once, with an await of it before;
  -- where two tokens may meet, one of them giving a value, an event keeps them apart: no path has
  -- the first behind its advance, and each path has an await of it before the second.
  pub record GoodPaths : Type 0 where
    pub once : (u : List Token) (e : ℕ) → Begins (u ++ advanced_at e ∷ []) → In (advanced_at e) u → ⊥
    pub before : (u : List Token) (e : ℕ) → Begins (u ++ advanced_at e ∷ []) → In (awaited_at e 1) u
    pub each : (t : List Token) (e : ℕ) → Named e → S at_end t → In (advanced_at e) t
    pub far : (u : List Token) (e d : ℕ) → Begins (u ++ awaited_at e d ∷ []) → (1 ≤ d) × Named e
    pub kept : (k j : ℕ) (a b : Token) (c : Cell) → k < j → j < total → Meets k a c → Meets j b c → Occurs a → Occurs b → Defines a ⊎ Defines b
        → (e : ℕ) × ((u : List Token) → Begins (u ++ a ∷ []) → In (advanced_at e) u → ⊥) × ((u : List Token) → Begins (u ++ b ∷ []) → (d : ℕ) × (k + d ≤ j) × In (awaited_at e d) u)
    -- cells of private scalars aren't met
    pub apart : (k : ℕ) (r : Ref) (c : Cell) → AtIn k r c → Hidden p.privates (index k) fixed opened c → ⊥

  module _ (good : GoodPaths) (start : ℕ → Process) (starts : (k : ℕ) → Along l held (index k) Stands p fixed opened S (start k) []) where
    abbrev Now : ℕ → Process → List Token → List Act → Type 0
    Now k P h ds = Comes l held (index k) Stands p fixed opened S P h ds

    -- who touches a cell stands at a token that meets it, or leaves with private scalars
    abbrev Touched : ℕ → Cell → List Token → Type 0
    Touched k c h = ((a : Token) × Meets k a c × Begins (h ++ a ∷ [])) ⊎ Hidden p.privates (index k) fixed opened c

    at_read : (k : ℕ) (P : Process) (c : Cell) (h : List Token) (ds : List Act) → Loads P c → Now k P h ds → (r : Ref) × AtIn k r c × Begins (h ++ uses r ∷ [])
    at_read k (load r d κ) c h ds e (inl a) =
        (r, subst (λ (x : Cell). AtIn k r x) e a.0, along_begun l held (index k) Stands p fixed opened S (κ (pos 0)) (h ++ uses r ∷ []) (a.1 (pos 0)))
    at_read k (load r d κ) c h ds e (inr g) = let z = g.0 in cc
    at_read k (store r d v P) c h ds e g = absurd e
    at_read k (print b P) c h ds e g = absurd e
    at_read k (await x d P) c h ds e g = absurd e
    at_read k (advance x P) c h ds e g = absurd e
    at_read k (tick P) c h ds e g = absurd e
    at_read k (fault f) c h ds e g = absurd e
    at_read k (leave xs) c h ds e g = absurd e
    at_read k gone c h ds e g = absurd e

    pub at_store : (k : ℕ) (P : Process) (c : Cell) (h : List Token) (ds : List Act) → Stores P c → Now k P h ds → (r : Ref) × AtIn k r c × Begins (h ++ defines r ∷ [])
    at_store k (store r d v P) c h ds e (inl a) = (r, subst (λ (x : Cell). AtIn k r x) e a.0, along_begun l held (index k) Stands p fixed opened S P (h ++ defines r ∷ []) a.1)
    at_store k (store r d v P) c h ds e (inr g) = let z = g.0 in cc
    at_store k (load r d κ) c h ds e g = absurd e
    at_store k (print b P) c h ds e g = absurd e
    at_store k (await x d P) c h ds e g = absurd e
    at_store k (advance x P) c h ds e g = absurd e
    at_store k (tick P) c h ds e g = absurd e
    at_store k (fault f) c h ds e g = absurd e
    at_store k (leave xs) c h ds e g = absurd e
    at_store k gone c h ds e g = absurd e

    pub at_leave : (k : ℕ) (xs : List (Cell × ℤ)) (c : Cell) (h : List Token) (ds : List Act) → IsKey c xs → Now k (leave xs) h ds → Hidden p.privates (index k) fixed opened c
    at_leave k xs c h ds e (inl a) = a.1 c e
    at_leave k xs c h ds e (inr g) = let z = g.0 in cc

    at_touch : (k : ℕ) (P : Process) (c : Cell) (h : List Token) (ds : List Act) → Touches P c → Now k P h ds → Touched k c h
    at_touch k (load r d κ) c h ds e g = let x = at_read k (load r d κ) c h ds e g in inl (uses x.0, (x.0, x.1, inl refl), x.2)
    at_touch k (store r d v P) c h ds e g = let x = at_store k (store r d v P) c h ds e g in inl (defines x.0, (x.0, x.1, inr refl), x.2)
    at_touch k (leave xs) c h ds e g = inr (at_leave k xs c h ds e g)
    at_touch k (print b P) c h ds e g = absurd e
    at_touch k (await x d P) c h ds e g = absurd e
    at_touch k (advance x P) c h ds e g = absurd e
    at_touch k (tick P) c h ds e g = absurd e
    at_touch k (fault f) c h ds e g = absurd e
    at_touch k gone c h ds e g = absurd e

    abbrev Written : ℕ → Cell → List Token → Type 0
    Written k c h = ((r : Ref) × AtIn k r c × Begins (h ++ defines r ∷ [])) ⊎ Hidden p.privates (index k) fixed opened c

    at_write : (k : ℕ) (P : Process) (c : Cell) (h : List Token) (ds : List Act) → Writes P c → Now k P h ds → Written k c h
    at_write k (store r d v P) c h ds e g = inl (at_store k (store r d v P) c h ds e g)
    at_write k (leave xs) c h ds e g = inr (at_leave k xs c h ds e g)
    at_write k (load r d κ) c h ds e g = absurd e
    at_write k (print b P) c h ds e g = absurd e
    at_write k (await x d P) c h ds e g = absurd e
    at_write k (advance x P) c h ds e g = absurd e
    at_write k (tick P) c h ds e g = absurd e
    at_write k (fault f) c h ds e g = absurd e
    at_write k gone c h ds e g = absurd e

    abbrev pub came : (k : ℕ) (vs : List ℤ) → (ts : List Token) × AllShow (acts (start k) vs) ts × Now k (after (start k) vs) ts (acts (start k) vs)
    came k vs = reach l held (index k) Stands p fixed opened S vs (start k) [] (starts k)

    ordered : (k j : ℕ) (vs ws : List ℤ) (a b : Token) (c : Cell) → k < j → j < total → Meets k a c → Begins ((came k vs).0 ++ a ∷ []) → Meets j b c → Begins ((came j ws).0 ++ b ∷ []) → Defines a ⊎ Defines b → Ordered start k vs j ws
    ordered k j vs ws a b c lt below ma ba mb bb d =
        let o = good.kept k j a b c lt below ma mb ((came k vs).0, ba) ((came j ws).0, bb) d in
        let w = o.2 (came j ws).0 bb in (
          o.0,
          w.0,
          w.1,
          awaits_done (acts (start j) ws) (came j ws).0 o.0 w.0 (came j ws).1 w.2,
          λ i. o.1 (came k vs).0 ba (advances_told (acts (start k) vs) (came k vs).0 o.0 (came k vs).1 i),
        )

    pub plan_of : Plan start total Named
    plan_of = record {
      once = λ k vs e. once l held (index k) Stands p fixed opened S (start k) (starts k) vs e (λ u b. good.once u e b);
      before = λ k vs e. before l held (index k) Stands p fixed opened S (start k) (starts k) vs e (λ u b. good.before u e b);
      each = λ k vs e named. each l held (index k) Stands p fixed opened S (start k) (starts k) vs e (λ t s. good.each t e named s);
      far = λ k vs e d. far l held (index k) Stands p fixed opened S (start k) (starts k) vs e d (λ u b. good.far u e d b);
      lasts = λ k vs. lasts l held (index k) Stands p fixed opened S (start k) (starts k) vs;
      store_last = λ k j vs ws c lt below touch at.
          let y = at_store j (after (start j) ws) c (came j ws).0 (acts (start j) ws) at (came j ws).2 in
          ⊎_elim
          (λ x. ordered k j vs ws x.0 (defines y.0) c lt below x.1 x.2 (y.0, y.1, inr refl) y.2 (inr (y.0, refl)))
          (λ hidden. absurd (good.apart j y.0 c y.1 hidden))
          (at_touch k (after (start k) vs) c (came k vs).0 (acts (start k) vs) touch (came k vs).2);
      load_last = λ k j vs ws c lt below touch at.
          let y = at_read j (after (start j) ws) c (came j ws).0 (acts (start j) ws) at (came j ws).2 in
          ⊎_elim
          (λ x. ordered k j vs ws (defines x.0) (uses y.0) c lt below (x.0, x.1, inr refl) x.2 (y.0, y.1, inl refl) y.2 (inl (x.0, refl)))
          (λ hidden. absurd (good.apart j y.0 c y.1 hidden))
          (at_write k (after (start k) vs) c (came k vs).0 (acts (start k) vs) touch (came k vs).2);
    }

    -- a private scalar's cell is never read
    pub never_read : (k : ℕ) (vs : List ℤ) (c : Cell) → Loads (after (start k) vs) c → Hidden p.privates (index k) fixed opened c → ⊥
    never_read k vs c at hidden = let y = at_read k (after (start k) vs) c (came k vs).0 (acts (start k) vs) at (came k vs).2 in good.apart k y.0 c y.1 hidden

    pub never_gone : (k : ℕ) → start k ≡ gone → ⊥
    never_gone k e = subst (λ (P : Process). Along l held (index k) Stands p fixed opened S P []) e (starts k)
