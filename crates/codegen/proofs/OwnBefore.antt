-- Iterations alone, one after another, leave the store that the sequential program has.
use Rattle.std.proofs.Common.{◌≡◌, ◌∙◌, ◌+◌, ◌≤◌, inl, inr, ℕ, zero, suc, ℤ, pos, List, [], ◌∷◌, ◌++◌, Option, Some, None, refl, sym, ap, subst, arith}
use Rattle.ast.specs.Store.{StoreOf}
use Rattle.machine.specs.Code.{Cell}
use Rattle.machine.specs.State.{State, Active, put_cell, put_cells}
use Rattle.machine.specs.View.{Cause, View, doing, loading, storing, printing, awaiting, advancing, leaving, breaking}
use Rattle.codegen.proofs.IterationLaws.{cell_other, cells_other}
use Rattle.codegen.proofs.IterationSteps.{Process, load, store, print, await, advance, tick, fault, leave, gone, IsKey, Whole, acts, add, after, cell_value, finish, going, run, went}
use Rattle.codegen.proofs.LoopMachine.{HasLeft, Loads, Stores}
use Rattle.codegen.proofs.Outcomes.{Outcome}
use Rattle.codegen.proofs.ProgramStanding.{Good, Loops, Stands, Within, within}
use Rattle.codegen.proofs.ProgramSteps.{Here, Main}
use Rattle.codegen.specs.Alone.{Before, Own, begun, own_after, own_by}
use Rattle.codegen.proofs.OwnRun.{Stood, is_below, own_frame}

module _ (F L : Type 0) (view : F → View F L) where
  -- who stands at its retirement, or breaks off, stays there
  stays : (n : ℕ) (x : Own F) → own_by F L view (view x.frame) x ≡ x → own_after F L view n x ≡ x
  stays zero x e = refl
  stays (suc n) x e = ap (own_after F L view n) e ∙ stays n x e

  module _ (Hidden Fixed : Cell → Type 0) (opened : StoreOf) where
    abbrev pub St : Process → F → Type 0
    St P f = Stands F L view Hidden Fixed opened P f

    -- what is known of an iteration's process, whatever is read
    pub record Safe (P : Process) : Type 0 where
      pub never : (ws : List ℤ) (c : Cell) → Loads (after P ws) c → Hidden c → ⊥
      pub free : (ws : List ℤ) (c : Cell) → Stores (after P ws) c → Fixed c → ⊥
      pub left : (ws : List ℤ) (xs : List (Cell × ℤ)) → after P ws ≡ leave xs → (c : Cell) → IsKey c xs → Fixed c → ⊥
      pub lasts : (ws : List ℤ) → after P ws ≡ gone → HasLeft (acts P ws)

    abbrev pub Agrees : StoreOf → Type 0
    Agrees σ = (c : Cell) → Fixed c → cell_value σ c ≡ cell_value opened c

    abbrev pub from : F → StoreOf → List ℕ → Own F
    from f σ o = record { frame = f; store = σ; out = o }

    -- it retires, and leaves this store
    pub record Retires (P : Process) (σ τ : StoreOf) : Type 0 where
      pub bad : (run P σ).bad ≡ None
      pub end : (run P σ).end ≡ τ
      pub agrees : Agrees τ

    pub next : (n : ℕ) (f : F) (σ : StoreOf) (o : List ℕ) (V : View F L) → view f ≡ V → own_after F L view (suc n) (from f σ o) ≡ own_after F L view n (own_by F L view V (from f σ o))
    next n f σ o V e = ap (λ (U : View F L). own_after F L view n (own_by F L view U (from f σ o))) e

    abbrev pub Ends : Own F → List (Cell × ℤ) → Type 0
    Ends x xs = view x.frame ≡ leaving xs

    -- the same of an own run that is another
    by_same : (P Q : Process) (σ υ : StoreOf) (x y : Own F) (xs : List (Cell × ℤ)) → x ≡ y → (run P σ).bad ≡ (run Q υ).bad → (run P σ).end ≡ (run Q υ).end → Retires Q υ (put_cells y.store xs) → Retires P σ (put_cells x.store xs)
    by_same P Q σ υ x y xs e b d r = record {
      bad = b ∙ r.bad;
      end = d ∙ r.end ∙ ap (λ (z : Own F). put_cells z.store xs) (sym e);
      agrees = λ c fx. ap (λ (z : Own F). cell_value (put_cells z.store xs) c) e ∙ r.agrees c fx;
    }

    ends_same : (x y : Own F) (xs : List (Cell × ℤ)) → x ≡ y → Ends x xs → Ends y xs
    ends_same x y xs e h = subst (λ (z : Own F). Ends z xs) e h

    at_end : (P : Process) (f : F) (σ : StoreOf) (xs : List (Cell × ℤ)) → St P f → Safe P → Agrees σ → view f ≡ leaving xs → Retires P σ (put_cells σ xs)
    at_end (leave ys) f σ xs st s a e =
        let same : ys ≡ xs = cc in
        record { bad = refl; end = ap (put_cells σ) same; agrees = λ c fx. cells_other xs σ c (λ k. s.left [] ys refl c (subst (IsKey c) (sym same) k) fx) ∙ a c fx }
    at_end (load r c κ) f σ xs st s a e = let t = st (s.never [] c refl) in let z : loading c t.0 ≡ leaving xs = sym t.1 ∙ e in cc
    at_end (store r c v P) f σ xs st s a e = let z : storing c v st.0 ≡ leaving xs = sym st.1 ∙ e in cc
    at_end (print b P) f σ xs st s a e = let z : printing b st.0 ≡ leaving xs = sym st.1 ∙ e in cc
    at_end (await n d P) f σ xs st s a e = let z : awaiting n d st.0 ≡ leaving xs = sym st.1 ∙ e in cc
    at_end (advance n P) f σ xs st s a e = let z : advancing n st.0 ≡ leaving xs = sym st.1 ∙ e in cc
    at_end (tick P) f σ xs (inl st) s a e = let z : doing st.0 ≡ leaving xs = sym st.1 ∙ e in cc
    at_end (tick P) f σ xs (inr st) s a e = let z : loading st.0 st.1 ≡ leaving xs = sym st.3 ∙ e in cc
    at_end (fault b) f σ xs st s a e = let z : breaking b ≡ leaving xs = sym st ∙ e in cc
    at_end gone f σ xs st s a e = absurd (s.lasts [] refl)

    pub retires : (n : ℕ) (P : Process) (f : F) (σ : StoreOf) (o : List ℕ) (xs : List (Cell × ℤ)) → St P f → Safe P → Agrees σ → Ends (own_after F L view n (from f σ o)) xs → Retires P σ (put_cells (own_after F L view n (from f σ o)).store xs)
    retires zero P f σ o xs st s a e = at_end P f σ xs st s a e
    retires (suc n) (load r c κ) f σ o xs st' s a e =
        let st = st' (s.never [] c refl) in
        let v = cell_value σ c in
        let same = next n f σ o (loading c st.0) st.1 in
        by_same (load r c κ) (κ v) σ σ (own_after F L view (suc n) (from f σ o)) (own_after F L view n (from (st.0 v) σ o)) xs same refl refl
        (retires n (κ v) (st.0 v) σ o xs (st.2 v) (record { never = λ ws d l. s.never (v ∷ ws) d l; free = λ ws d l. s.free (v ∷ ws) d l; left = λ ws ys q. s.left (v ∷ ws) ys q; lasts = λ ws q. s.lasts (v ∷ ws) q }) a (ends_same (own_after F L view (suc n) (from f σ o)) (own_after F L view n (from (st.0 v) σ o)) xs same e))
    retires (suc n) (store r c w P) f σ o xs st s a e =
        let same = next n f σ o (storing c w st.0) st.1 in
        by_same (store r c w P) P σ (put_cell σ c w) (own_after F L view (suc n) (from f σ o)) (own_after F L view n (from st.0 (put_cell σ c w) o)) xs same refl refl
        (retires n P st.0 (put_cell σ c w) o xs st.2 (record { never = λ ws d l. s.never (pos 0 ∷ ws) d l; free = λ ws d l. s.free (pos 0 ∷ ws) d l; left = λ ws ys q. s.left (pos 0 ∷ ws) ys q; lasts = λ ws q. s.lasts (pos 0 ∷ ws) q })
        (λ d fx. cell_other σ c w d (λ z. s.free [] c refl (subst Fixed z fx)) ∙ a d fx) (ends_same (own_after F L view (suc n) (from f σ o)) (own_after F L view n (from st.0 (put_cell σ c w) o)) xs same e))
    retires (suc n) (print b P) f σ o xs st s a e =
        let same = next n f σ o (printing b st.0) st.1 in
        by_same (print b P) P σ σ (own_after F L view (suc n) (from f σ o)) (own_after F L view n (from st.0 σ (o ++ b))) xs same refl refl
        (retires n P st.0 σ (o ++ b) xs st.2 (record { never = λ ws d l. s.never (pos 0 ∷ ws) d l; free = λ ws d l. s.free (pos 0 ∷ ws) d l; left = λ ws ys q. s.left (pos 0 ∷ ws) ys q; lasts = λ ws q. s.lasts (pos 0 ∷ ws) q })
        a (ends_same (own_after F L view (suc n) (from f σ o)) (own_after F L view n (from st.0 σ (o ++ b))) xs same e))
    retires (suc n) (await m d P) f σ o xs st s a e =
        let same = next n f σ o (awaiting m d st.0) st.1 in
        by_same (await m d P) P σ σ (own_after F L view (suc n) (from f σ o)) (own_after F L view n (from st.0 σ o)) xs same refl refl
        (retires n P st.0 σ o xs st.2 (record { never = λ ws d l. s.never (pos 0 ∷ ws) d l; free = λ ws d l. s.free (pos 0 ∷ ws) d l; left = λ ws ys q. s.left (pos 0 ∷ ws) ys q; lasts = λ ws q. s.lasts (pos 0 ∷ ws) q })
        a (ends_same (own_after F L view (suc n) (from f σ o)) (own_after F L view n (from st.0 σ o)) xs same e))
    retires (suc n) (advance m P) f σ o xs st s a e =
        let same = next n f σ o (advancing m st.0) st.1 in
        by_same (advance m P) P σ σ (own_after F L view (suc n) (from f σ o)) (own_after F L view n (from st.0 σ o)) xs same refl refl
        (retires n P st.0 σ o xs st.2 (record { never = λ ws d l. s.never (pos 0 ∷ ws) d l; free = λ ws d l. s.free (pos 0 ∷ ws) d l; left = λ ws ys q. s.left (pos 0 ∷ ws) ys q; lasts = λ ws q. s.lasts (pos 0 ∷ ws) q })
        a (ends_same (own_after F L view (suc n) (from f σ o)) (own_after F L view n (from st.0 σ o)) xs same e))
    retires (suc n) (tick P) f σ o xs (inl st) s a e =
        let same = next n f σ o (doing st.0) st.1 in
        by_same (tick P) P σ σ (own_after F L view (suc n) (from f σ o)) (own_after F L view n (from st.0 σ o)) xs same refl refl
        (retires n P st.0 σ o xs st.2 (record { never = λ ws d l. s.never (pos 0 ∷ ws) d l; free = λ ws d l. s.free (pos 0 ∷ ws) d l; left = λ ws ys q. s.left (pos 0 ∷ ws) ys q; lasts = λ ws q. s.lasts (pos 0 ∷ ws) q })
        a (ends_same (own_after F L view (suc n) (from f σ o)) (own_after F L view n (from st.0 σ o)) xs same e))
    retires (suc n) (tick P) f σ o xs (inr st) s a e =
        let v = cell_value σ st.0 in
        let same = next n f σ o (loading st.0 st.1) st.3 in
        by_same (tick P) P σ σ (own_after F L view (suc n) (from f σ o)) (own_after F L view n (from (st.1 v) σ o)) xs same refl refl
        (retires n P (st.1 v) σ o xs (subst (λ (z : ℤ). St P (st.1 z)) (sym (a st.0 st.2)) st.4) (record { never = λ ws d l. s.never (pos 0 ∷ ws) d l; free = λ ws d l. s.free (pos 0 ∷ ws) d l; left = λ ws ys q. s.left (pos 0 ∷ ws) ys q; lasts = λ ws q. s.lasts (pos 0 ∷ ws) q })
        a (ends_same (own_after F L view (suc n) (from f σ o)) (own_after F L view n (from (st.1 v) σ o)) xs same e))
    retires (suc n) (leave ys) f σ o xs st s a e =
        let same = next n f σ o (leaving ys) st ∙ stays n (from f σ o) (ap (λ (U : View F L). own_by F L view U (from f σ o)) st) in
        by_same (leave ys) (leave ys) σ σ (own_after F L view (suc n) (from f σ o)) (from f σ o) xs same refl refl (at_end (leave ys) f σ xs st s a (ends_same (own_after F L view (suc n) (from f σ o)) (from f σ o) xs same e))
    retires (suc n) (fault b) f σ o xs st s a e =
        let same = next n f σ o (breaking b) st ∙ stays n (from f σ o) (ap (λ (U : View F L). own_by F L view U (from f σ o)) st) in
        let z : breaking b ≡ leaving xs = sym st ∙ ends_same (own_after F L view (suc n) (from f σ o)) (from f σ o) xs same e in cc
    retires (suc n) gone f σ o xs st s a e = absurd (s.lasts [] refl)

-- ---- iterations one after another, each alone to its retirement

module _ (F L : Type 0) (view : F → View F L) (trips : L → ℕ) (begin : L → ℕ → F) (Hidden Fixed : L → Cell → Type 0) (Named : L → ℕ → Type 0) (start : L → StoreOf → ℕ → Process) (Valid : L → Type 0) (p : ℕ)
    (loops : Loops F L view trips begin Hidden Fixed Named start Valid) (origin : Here L) (answer : Outcome) (l : L) (ι : StoreOf) (past : ℕ → List ℤ) (before : List ℕ) (xs : List (Cell × ℤ)) (M : Main L) (m : State F L)
    (good : Good F L view trips begin Hidden Fixed start Valid p origin answer (within l ι past before xs M) m) where
  abbrev pub W : Within F L view trips begin Hidden Fixed start Valid p origin answer l ι past before xs M m
  W = good.kept

  pub safe : (j : ℕ) → Safe F L view (Hidden l) (Fixed l) ι (start l ι j)
  safe j = record {
    never = λ ws c ld h. loops.never l W.valid ι j ws c ld h;
    free = λ ws c sd h. loops.free_store l W.valid ι j ws c sd h;
    left = λ ws ys e c k h. loops.free_leave l W.valid ι j ws ys e c k h;
    lasts = λ ws e. (loops.plan l W.valid ι).lasts j ws e;
  }

  abbrev pub Keeps : StoreOf → Type 0
  Keeps σ = (c : Cell) → Fixed l c → cell_value σ c ≡ cell_value ι c

  goes_on : (bad : Option Cause) (vs : List ℤ) (υ : StoreOf) (next : StoreOf → Whole) (ρ τ : StoreOf) → bad ≡ None → υ ≡ ρ → (ls : List (List ℤ)) × (next ρ ≡ went ls τ) → (ls : List (List ℤ)) × (going bad vs υ next ≡ went ls τ)
  goes_on bad vs υ next ρ τ e d h = (vs ∷ h.0, ap (λ (b : Option Cause). going b vs υ next) e ∙ ap (λ (s : StoreOf). add vs (next s)) d ∙ ap (add vs) h.1)

  pub before_is : (n j : ℕ) (σ τ : StoreOf) → j + n ≤ trips l → Keeps σ → Before F L view begin l n j σ τ → ((ls : List (List ℤ)) × (finish (start l ι) (λ i. []) n j σ ≡ went ls τ)) × Keeps τ
  before_is zero j σ τ le a b = (([], ap (λ (s : StoreOf). went [] s) b), λ c fx. ap (λ (s : StoreOf). cell_value s c) (sym b) ∙ a c fx)
  before_is (suc n) j σ τ le a b =
      let r = retires F L view (Hidden l) (Fixed l) ι b.0 (start l ι j) (begin l j) σ [] b.1 (loops.begins l W.valid ι j (omega (arith, le))) (safe j) a b.2 in
      let ρ = put_cells (own_after F L view b.0 (begun F L view begin l j σ)).store b.1 in
      let h = before_is n (suc j) ρ τ (omega (arith, le)) r.agrees b.3 in
      let R = run (start l ι j) σ in
      (goes_on R.bad R.values R.end (finish (start l ι) (λ i. []) n (suc j)) ρ τ r.bad r.end h.0, h.1)

  -- where those before iteration k retire, each alone, and leave the store τ, it stands where it
  -- stands alone on τ, with what it has printed so; and at a load the cell has the value that it
  -- has there
  pub stands_alone : (k : ℕ) (a : Active F) (τ : StoreOf) → m.iterations k ≡ Some a → Before F L view begin l k 0 ι τ → Stood F L view trips begin Hidden Fixed Named start Valid p loops origin answer l ι past before xs M m good k a τ
  stands_alone k a τ is_open b =
      let lt = (is_below F L view trips begin Hidden Fixed Named start Valid p loops origin answer l ι past before xs M m good k a is_open).1 in
      let h = before_is k 0 ι τ (omega (arith, lt)) (λ c fx. refl) b in
      own_frame F L view trips begin Hidden Fixed Named start Valid p loops origin answer l ι past before xs M m good k a (h.0).0 τ is_open (h.0).1 h.1
