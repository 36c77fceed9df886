-- What an iteration does, on any values, goes along the paths of its plan.
use Rattle.std.proofs.Common.{◌≡◌, ◌∙◌, ◌<◌, inl, inr, ℕ, zero, suc, ℤ, pos, Bool, true, false, List, [], ◌∷◌, ◌++◌, Option, Some, None, Result, Ok, Err, length, refl, sym, ap, subst, ⊎_elim, arith, append_assoc}
use Rattle.std.specs.Prelude.{slice_get, slice_set, if◌then◌else◌}
use Rattle.std.proofs.lemmas.Bool.{cases_eq}
use Rattle.std.proofs.lemmas.List.{append-nil, length-set}
use Rattle.ast.specs.Exact.{value_of}
use Rattle.ast.specs.Store.{StoreOf}
use Rattle.ast.specs.Tree.{Ref, Terms, element, no_terms}
use Rattle.ast.specs.declared.expression.Operator.TheVariants.{Add}
use Rattle.ast.specs.declared.fault.Fault.{Fault}
use Rattle.loop_tree.specs.Loops.{Loop}
use Rattle.loop_tree.specs.Paths.{Token, uses, defines, await as awaited_at, advance as advanced_at, Ending, at_end, PathSet}
use Rattle.machine.specs.Code.{Cell}
use Rattle.machine.specs.View.{failure, is_event}
use Rattle.subscripts.specs.Values.{MayBe}
use Rattle.expr_code.specs.Places.{Places, Home, loop_index, private_scalar, in_store}
use Rattle.expr_code.specs.Process.{answered_into, scalar_into}
use Rattle.codegen.specs.Process.{given_into}
use Rattle.codegen.proofs.BlockWalking.{Walks}
use Rattle.codegen.proofs.IterationLaws.{in_which}
use Rattle.codegen.proofs.IterationStanding.{Hidden, Work, iteration_doing, own_value}
use Rattle.codegen.proofs.IterationSteps.{Process, load, store, print, await, advance, tick, fault, leave, gone, In, IsKey, cell_value}
use Rattle.codegen.proofs.Walking.{Located, home_at}

-- tokens that are no steps of their own: of private scalars, of the loop's variable, or of scalars
-- to which the range gives no value
abbrev pub Quiet : List Token → Type 0
Quiet [] = Unit {0}
Quiet (uses r ∷ ts) = Quiet ts
Quiet (defines r ∷ ts) = Quiet ts
Quiet (awaited_at e d ∷ ts) = ⊥
Quiet (advanced_at e ∷ ts) = ⊥

pub set_other : (ps : List (Option ℤ)) (x y : ℕ) (o : Option ℤ) → (y ≡ x → ⊥) → slice_get (slice_set ps x o) y ≡ slice_get ps y
set_other [] x y o ne = refl
set_other (p ∷ ps) zero zero o ne = absurd (ne refl)
set_other (p ∷ ps) zero (suc y) o ne = refl
set_other (p ∷ ps) (suc x) zero o ne = refl
set_other (p ∷ ps) (suc x) (suc y) o ne = set_other ps x y o (λ e. ne (ap suc e))

set_same : (ps : List (Option ℤ)) (x : ℕ) (v : ℤ) → slice_get (slice_set ps x (Some v)) x ≡ Some None → ⊥
set_same [] x v h = cc
set_same (p ∷ ps) zero v h = cc
set_same (p ∷ ps) (suc x) v h = set_same ps x v h

past_end : (ps : List (Option ℤ)) (x : ℕ) → slice_get ps x ≡ None → x < length ps → ⊥
past_end [] x h l = absurd (omega (arith, l))
past_end (p ∷ ps) zero h l = cc
past_end (p ∷ ps) (suc x) h l = past_end ps x h (omega (arith, l))

module _ (l : Loop) (held : ℕ → ℤ) (index : ℤ) (Stands : Ref → Terms → Type 0) (p : Places) (fixed : Cell → Bool) (opened : StoreOf) (S : PathSet) where
  -- some path begins so
  abbrev pub Begun : List Token → Type 0
  Begun h = (e : Ending) × (t : List Token) × S e (h ++ t)

  pub shorter : (h t : List Token) → Begun (h ++ t) → Begun h
  shorter h t b = (b.0, t ++ b.1, subst (λ (u : List Token). S b.0 u) (append_assoc h t b.1) b.2)

  -- a reference may be at a cell
  abbrev pub At : Ref → Cell → Type 0
  At r c = (home_at p r ≡ in_store) × (es : Terms) × (n : ℕ) × Located l held index Stands p.symbols r es n × (c ≡ record { name = r.name; place = n })

  -- the process may still do this behind these tokens of a path
  abbrev pub Along : Process → List Token → Type 0
  Along (load r c κ) h = At r c × ((v : ℤ) → Along (κ v) (h ++ uses r ∷ []))
  Along (store r c v P) h = At r c × Along P (h ++ defines r ∷ [])
  Along (print bytes P) h = Along P h
  Along (await e d P) h = Along P (h ++ awaited_at e d ∷ [])
  Along (advance e P) h = Along P (h ++ advanced_at e ∷ [])
  Along (tick P) h = (more : List Token) × Quiet more × Along P (h ++ more)
  Along (fault c) h = Begun h
  Along (leave xs) h = S at_end h × ((c : Cell) → IsKey c xs → Hidden p.privates index fixed opened c)
  Along gone h = ⊥

  pub along_begun : (P : Process) (h : List Token) → Along P h → Begun h
  along_begun (load r c κ) h a = shorter h (uses r ∷ []) (along_begun (κ (pos 0)) (h ++ uses r ∷ []) (a.1 (pos 0)))
  along_begun (store r c v P) h a = shorter h (defines r ∷ []) (along_begun P (h ++ defines r ∷ []) a.1)
  along_begun (print bytes P) h a = along_begun P h a
  along_begun (await e d P) h a = shorter h (awaited_at e d ∷ []) (along_begun P (h ++ awaited_at e d ∷ []) a)
  along_begun (advance e P) h a = shorter h (advanced_at e ∷ []) (along_begun P (h ++ advanced_at e ∷ []) a)
  along_begun (tick P) h a = shorter h a.0 (along_begun P (h ++ a.0) a.2)
  along_begun (fault c) h a = a
  along_begun (leave xs) h a = (at_end, [], subst (λ (u : List Token). S at_end u) (sym (append-nil h)) a.0)
  along_begun gone h a = absurd a

  -- a local instruction without a token
  goes_along : (P : Process) (h : List Token) → Along P h → Along (tick P) h
  goes_along P h a = ([], tt, subst (λ (u : List Token). Along P u) (sym (append-nil h)) a)

  -- a private scalar that wasn't defined has no definition behind us
  abbrev pub Knows : List (Option ℤ) → List Token → Type 0
  Knows ps h = (x : ℕ) → slice_get ps x ≡ Some None → (r : Ref) → home_at p r ≡ private_scalar x → In (defines r) h → ⊥

  abbrev pub Goes : Work → List Token → Type 0
  Goes a h = (ps : List (Option ℤ)) → length ps ≡ length p.privates → Knows ps h → Along (a ps) h

  knows_used : (ps : List (Option ℤ)) (h : List Token) (q : Ref) → Knows ps h → Knows ps (h ++ uses q ∷ [])
  knows_used ps h q k x e r s i = ⊎_elim (λ old. k x e r s old) (λ new. one new) (in_which (defines r) h (uses q ∷ []) i)
    where
      one : In (defines r) (uses q ∷ []) → ⊥
      one (inl e) = cc
      one (inr z) = z

  knows_kept : (ps : List (Option ℤ)) (h : List Token) (q : Ref) → home_at p q ≡ in_store → Knows ps h → Knows ps (h ++ defines q ∷ [])
  knows_kept ps h q kept k x e r s i = ⊎_elim (λ old. k x e r s old) (λ new. one new) (in_which (defines r) h (defines q ∷ []) i)
    where
      one : In (defines r) (defines q ∷ []) → ⊥
      one (inl d) = let z : r ≡ q = cc in let y : private_scalar x ≡ in_store = sym s ∙ ap (home_at p) z ∙ kept in cc
      one (inr z) = z

  knows_event : (ps : List (Option ℤ)) (h : List Token) (t : Token) → ((r : Ref) → defines r ≡ t → ⊥) → Knows ps h → Knows ps (h ++ t ∷ [])
  knows_event ps h t other k x e r s i = ⊎_elim (λ old. k x e r s old) (λ new. one new) (in_which (defines r) h (t ∷ []) i)
    where
      one : In (defines r) (t ∷ []) → ⊥
      one (inl d) = other r d
      one (inr z) = z

  knows_again : (ps : List (Option ℤ)) (h : List Token) (x : ℕ) (v : ℤ) → Knows ps h → Knows (slice_set ps x (Some v)) h
  knows_again ps h x v k y e r s i = ⊎_elim
      (λ same. set_same ps x v (subst (λ (z : ℕ). slice_get (slice_set ps x (Some v)) z ≡ Some None) same e))
      (λ ne. k y (sym (set_other ps x y (Some v) ne) ∙ e) r s i)
      (cases_eq y x)

  knows_set : (ps : List (Option ℤ)) (h : List Token) (x : ℕ) (v : ℤ) (q : Ref) → home_at p q ≡ private_scalar x → Knows ps h → Knows (slice_set ps x (Some v)) (h ++ defines q ∷ [])
  knows_set ps h x v q own k y e r s i = ⊎_elim
      (λ same. set_same ps x v (subst (λ (z : ℕ). slice_get (slice_set ps x (Some v)) z ≡ Some None) same e))
      (λ ne. ⊎_elim (λ old. k y (sym (set_other ps x y (Some v) ne) ∙ e) r s old) (λ new. one ne new) (in_which (defines r) h (defines q ∷ []) i))
      (cases_eq y x)
    where
      one : (y ≡ x → ⊥) → In (defines r) (defines q ∷ []) → ⊥
      one ne (inl d) = let z : r ≡ q = cc in let w : private_scalar y ≡ private_scalar x = sym s ∙ ap (home_at p) z ∙ own in ne (let u : y ≡ x = cc in u)
      one ne (inr z) = z

  -- What is known of the plan: the values that its references may have; each private scalar is
  -- defined before it is used; its events are events.
  pub record Sound : Type 0 where
    pub steady : (r : Ref) (es : Terms) (n : ℕ) → home_at p r ≡ in_store → Located l held index Stands p.symbols r es n → fixed (record { name = r.name; place = n }) ≡ true → MayBe l held index (element r es) (cell_value opened (record { name = r.name; place = n }))
    pub any : (r : Ref) (es : Terms) (n : ℕ) (v : ℤ) → home_at p r ≡ in_store → Located l held index Stands p.symbols r es n → fixed (record { name = r.name; place = n }) ≡ false → MayBe l held index (element r es) v
    pub any_own : (r : Ref) (es : Terms) (x : ℕ) (v : ℤ) → home_at p r ≡ private_scalar x → Located l held index Stands p.symbols r es 0 → MayBe l held index (element r no_terms) v
    pub variable : (r : Ref) (es : Terms) → home_at p r ≡ loop_index → Located l held index Stands p.symbols r es 0 → MayBe l held index (element r no_terms) index
    pub below : (r : Ref) (x : ℕ) → home_at p r ≡ private_scalar x → x < length p.privates
    pub defined : (r : Ref) (x : ℕ) (h : List Token) → home_at p r ≡ private_scalar x → Begun (h ++ uses r ∷ []) → (q : Ref) × (home_at p q ≡ private_scalar x) × In (defines q) h
    pub awaits : (e d : ℕ) (h : List Token) → Begun (h ++ awaited_at e d ∷ []) → is_event e ≡ true
    pub advances : (e : ℕ) (h : List Token) → Begun (h ++ advanced_at e ∷ []) → is_event e ≡ true

  module _ (sound : Sound) where
    begun_of : (a : Work) (h : List Token) (ps : List (Option ℤ)) → length ps ≡ length p.privates → Knows ps h → Goes a h → Begun h
    begun_of a h ps len k q = along_begun (a ps) h (q ps len k)

    read : (r : Ref) (es : Terms) (n : ℕ) (κ : ℤ → Work) (h : List Token) → home_at p r ≡ in_store → Located l held index Stands p.symbols r es n → ((v : ℤ) → MayBe l held index (element r es) v → Goes (κ v) (h ++ uses r ∷ []))
        → (ps : List (Option ℤ)) → length ps ≡ length p.privates → Knows ps h → (b : Bool) → fixed (record { name = r.name; place = n }) ≡ b
        → Along (if b then tick (κ (cell_value opened (record { name = r.name; place = n })) ps) else load r (record { name = r.name; place = n }) (λ v. κ v ps)) h
    read r es n κ h kept at next ps len k true f = (uses r ∷ [], tt, next (cell_value opened (record { name = r.name; place = n })) (sound.steady r es n kept at f) ps len (knows_used ps h r k))
    read r es n κ h kept at next ps len k false f = ((kept, es, n, at, refl), λ v. next v (sound.any r es n v kept at f) ps len (knows_used ps h r k))

    own : (r : Ref) (es : Terms) (x : ℕ) (κ : ℤ → Work) (h : List Token) → home_at p r ≡ private_scalar x → Located l held index Stands p.symbols r es 0 → ((v : ℤ) → MayBe l held index (element r no_terms) v → Goes (κ v) (h ++ uses r ∷ []))
        → (ps : List (Option ℤ)) → length ps ≡ length p.privates → Knows ps h → (o : Option (Option ℤ)) → slice_get ps x ≡ o → Along (own_value p.privates index fixed opened r x o (λ v. κ v ps)) h
    own r es x κ h held_so at next ps len k (Some (Some v)) e = (uses r ∷ [], tt, next v (sound.any_own r es x v held_so at) ps len (knows_used ps h r k))
    own r es x κ h held_so at next ps len k (Some None) e =
        let b = begun_of (κ (pos 0)) (h ++ uses r ∷ []) ps len (knows_used ps h r k) (next (pos 0) (sound.any_own r es x (pos 0) held_so at)) in
        let d = sound.defined r x h held_so b in
        absurd (k x e d.0 d.1 d.2)
    own r es x κ h held_so at next ps len k None e = let b = sound.below r x held_so in absurd (past_end ps x e (omega (arith, b, len)))

    -- a private scalar that was given a value is read again, grows, and is given the new value
    again : (line : ℕ) (r : Ref) (x : ℕ) (m3 : ℤ) (a : Work) (h : List Token) → home_at p r ≡ private_scalar x → Begun h → In (defines r) h → Goes a h
        → (ps : List (Option ℤ)) → length ps ≡ length p.privates → Knows ps h → (o : Option (Option ℤ)) → slice_get ps x ≡ o
        → Along (own_value p.privates index fixed opened r x o (λ v. tick (answered_into Work ((iteration_doing p.privates index fixed opened).evaluate line) (value_of Add v m3) (λ w qs. tick (tick (a (slice_set qs x (Some w))))) ps))) h
    again line r x m3 a h held_so b def q ps len k (Some (Some v)) e = goes_along (tick grown) h (goes_along grown h (by (value_of Add v m3)))
      where
        grown : Process
        grown = answered_into Work ((iteration_doing p.privates index fixed opened).evaluate line) (value_of Add v m3) (λ w qs. tick (tick (a (slice_set qs x (Some w))))) ps

        by : (u : Result ℤ Fault) → Along (answered_into Work ((iteration_doing p.privates index fixed opened).evaluate line) u (λ w qs. tick (tick (a (slice_set qs x (Some w))))) ps) h
        by (Ok w) =
            let P = a (slice_set ps x (Some w)) in
            goes_along (tick (tick P)) h (goes_along (tick P) h (goes_along P h (q (slice_set ps x (Some w)) (length-set ps x (Some w) ∙ len) (knows_again ps h x w k))))
        by (Err f) = goes_along (fault (failure f line)) h b
    again line r x m3 a h held_so b def q ps len k (Some None) e = absurd (k x e r held_so def)
    again line r x m3 a h held_so b def q ps len k None e = let c = sound.below r x held_so in absurd (past_end ps x e (omega (arith, c, len)))

    events : (b : Bool) (P : Process) (h : List Token) → b ≡ true → Along P h → Along (if b then P else gone) h
    events true P h e a = a
    events false P h e a = cc

    -- an iteration's steps go along the paths
    pub iteration_walks : Walks l held index Stands Work (iteration_doing p.privates index fixed opened) p Goes Begun
    iteration_walks = record {
      evaluates = λ line. record {
        loads = λ r es n κ h kept at next ps len k. read r es n κ h kept at next ps len k (fixed (record { name = r.name; place = n })) refl;
        owns = λ r es x κ h held_so at next ps len k. own r es x κ h held_so at next ps len k (slice_get ps x) refl;
        indexes = λ r es κ h held_so at next ps len k. (uses r ∷ [], tt, next index (sound.variable r es held_so at) ps len (knows_used ps h r k));
        goes = λ a h q ps len k. goes_along (a ps) h (q ps len k);
        faults = λ e h b ps len k. goes_along (fault (failure e line)) h b;
      };
      keeps = λ r es n v a h kept at q ps len k. ((kept, es, n, at, refl), q ps len (knows_kept ps h r kept k));
      sets = λ r x v a h held_so q ps len k. (defines r ∷ [], tt, q (slice_set ps x (Some v)) (length-set ps x (Some v) ∙ len) (knows_set ps h x v r held_so k));
      says = λ bytes a h q ps len k. q ps len k;
      goes = λ a h q ps len k. goes_along (a ps) h (q ps len k);
      awaits = λ e d a h q ps len k.
          let r = q ps len (knows_event ps h (awaited_at e d) (λ r z. cc) k) in
          events (is_event e) (await e d (a ps)) h (sound.awaits e d h (along_begun (a ps) (h ++ awaited_at e d ∷ []) r)) r;
      advances = λ e a h q ps len k.
          let r = q ps len (knows_event ps h (advanced_at e) (λ r z. cc) k) in
          events (is_event e) (advance e (a ps)) h (sound.advances e h (along_begun (a ps) (h ++ advanced_at e ∷ []) r)) r;
      stops = λ line h b ps len k. b;
      grows = λ line r x m3 a h held_so is b def q ps len k.
          subst (λ (o : Home). Along (grown_by o line r m3 a ps) h) (sym is) (again line r x m3 a h held_so b def q ps len k (slice_get ps x) refl);
    }
      where
        -- what the growth of a variable does that is held so
        grown_by : Home → ℕ → Ref → ℤ → Work → List (Option ℤ) → Process
        grown_by o line r m3 a ps =
            scalar_into Work ((iteration_doing p.privates index fixed opened).evaluate line) o r (λ v.
            (iteration_doing p.privates index fixed opened).local (answered_into Work ((iteration_doing p.privates index fixed opened).evaluate line) (value_of Add v m3) (λ w. given_into Work (iteration_doing p.privates index fixed opened) p o r 0 w ((iteration_doing p.privates index fixed opened).local a)))) ps
