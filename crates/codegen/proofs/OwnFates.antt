-- What iterations alone come to: each retires or breaks off, and where one breaks off the
-- sequential program does.
use Rattle.std.proofs.Common.{◌≡◌, ◌∙◌, ◌+◌, ◌≤◌, ◌<◌, ◌⊎◌, inl, inr, ℕ, zero, suc, ℤ, pos, List, [], ◌∷◌, ◌++◌, Option, Some, None, refl, sym, ap, subst, arith}
use Rattle.ast.specs.Store.{StoreOf}
use Rattle.machine.specs.Code.{Cell}
use Rattle.machine.specs.State.{State, put_cell, put_cells}
use Rattle.machine.specs.View.{Cause, View, doing, loading, storing, printing, awaiting, advancing, breaking}
use Rattle.codegen.proofs.IterationLaws.{cell_other}
use Rattle.codegen.proofs.IterationSteps.{Process, load, store, print, await, advance, tick, fault, leave, gone, Whole, add, cell_value, finish, going, run, stopped, went}
use Rattle.codegen.proofs.LoopRuns.{shown}
use Rattle.codegen.proofs.Outcomes.{Outcome, failed, then_do}
use Rattle.codegen.proofs.OwnBefore.{Agrees, Ends, Keeps, Retires, Safe, St, W, from, next, retires, safe}
use Rattle.codegen.proofs.ProgramStanding.{Good, Loops, Within, within}
use Rattle.codegen.proofs.ProgramSteps.{Here, Main, alone_is, meaning, seen, whole}
use Rattle.codegen.specs.Alone.{AllRetire, Before, BreaksOff, Own, begun, own_after, own_by}

module _ (F L : Type 0) (view : F → View F L) (Hidden Fixed : Cell → Type 0) (opened : StoreOf) where
  abbrev S : Process → F → Type 0
  S P f = St F L view Hidden Fixed opened P f

  abbrev Sure : Process → Type 0
  Sure P = Safe F L view Hidden Fixed opened P

  abbrev run_of : ℕ → F → StoreOf → List ℕ → Own F
  run_of n f σ o = own_after F L view n (from F L view Hidden Fixed opened f σ o)

  -- after so many steps it stands at its retirement, or breaks off
  abbrev pub Fate : Process → F → StoreOf → List ℕ → Type 0
  Fate P f σ o = (n : ℕ) × (((xs : List (Cell × ℤ)) × Ends F L view Hidden Fixed opened (run_of n f σ o) xs) ⊎ ((b : Cause) × (view (run_of n f σ o).frame ≡ breaking b) × ((run P σ).bad ≡ Some b)))

  -- a step leads to another frame, whose fate is this one's
  later : (P Q : Process) (f g : F) (σ υ : StoreOf) (o u : List ℕ) → ((n : ℕ) → run_of (suc n) f σ o ≡ run_of n g υ u) → (run P σ).bad ≡ (run Q υ).bad → Fate Q g υ u → Fate P f σ o
  later P Q f g σ υ o u same e (n, inl t) = (suc n, inl (t.0, subst (λ (x : Own F). Ends F L view Hidden Fixed opened x t.0) (sym (same n)) t.1))
  later P Q f g σ υ o u same e (n, inr t) = (suc n, inr (t.0, subst (λ (x : Own F). view x.frame ≡ breaking t.0) (sym (same n)) t.1, e ∙ t.2))

  abbrev onward : (f : F) (σ : StoreOf) (o : List ℕ) (V : View F L) → view f ≡ V → (n : ℕ) → run_of (suc n) f σ o ≡ own_after F L view n (own_by F L view V (from F L view Hidden Fixed opened f σ o))
  onward f σ o V e n = next F L view Hidden Fixed opened n f σ o V e

  pub comes_to : (P : Process) (f : F) (σ : StoreOf) (o : List ℕ) → S P f → Sure P → Agrees F L view Hidden Fixed opened σ → Fate P f σ o
  comes_to (load r c κ) f σ o st' s a =
      let st = st' (s.never [] c refl) in
      let v = cell_value σ c in
      later (load r c κ) (κ v) f (st.0 v) σ σ o o (onward f σ o (loading c st.0) st.1) refl
      (comes_to (κ v) (st.0 v) σ o (st.2 v) (record { never = λ ws d l. s.never (v ∷ ws) d l; free = λ ws d l. s.free (v ∷ ws) d l; left = λ ws ys q. s.left (v ∷ ws) ys q; lasts = λ ws q. s.lasts (v ∷ ws) q }) a)
  comes_to (store r c w P) f σ o st s a =
      later (store r c w P) P f st.0 σ (put_cell σ c w) o o (onward f σ o (storing c w st.0) st.1) refl
      (comes_to P st.0 (put_cell σ c w) o st.2 (record { never = λ ws d l. s.never (pos 0 ∷ ws) d l; free = λ ws d l. s.free (pos 0 ∷ ws) d l; left = λ ws ys q. s.left (pos 0 ∷ ws) ys q; lasts = λ ws q. s.lasts (pos 0 ∷ ws) q })
      (λ d fx. cell_other σ c w d (λ z. s.free [] c refl (subst Fixed z fx)) ∙ a d fx))
  comes_to (print b P) f σ o st s a =
      later (print b P) P f st.0 σ σ o (o ++ b) (onward f σ o (printing b st.0) st.1) refl
      (comes_to P st.0 σ (o ++ b) st.2 (record { never = λ ws d l. s.never (pos 0 ∷ ws) d l; free = λ ws d l. s.free (pos 0 ∷ ws) d l; left = λ ws ys q. s.left (pos 0 ∷ ws) ys q; lasts = λ ws q. s.lasts (pos 0 ∷ ws) q }) a)
  comes_to (await m d P) f σ o st s a =
      later (await m d P) P f st.0 σ σ o o (onward f σ o (awaiting m d st.0) st.1) refl
      (comes_to P st.0 σ o st.2 (record { never = λ ws d l. s.never (pos 0 ∷ ws) d l; free = λ ws d l. s.free (pos 0 ∷ ws) d l; left = λ ws ys q. s.left (pos 0 ∷ ws) ys q; lasts = λ ws q. s.lasts (pos 0 ∷ ws) q }) a)
  comes_to (advance m P) f σ o st s a =
      later (advance m P) P f st.0 σ σ o o (onward f σ o (advancing m st.0) st.1) refl
      (comes_to P st.0 σ o st.2 (record { never = λ ws d l. s.never (pos 0 ∷ ws) d l; free = λ ws d l. s.free (pos 0 ∷ ws) d l; left = λ ws ys q. s.left (pos 0 ∷ ws) ys q; lasts = λ ws q. s.lasts (pos 0 ∷ ws) q }) a)
  comes_to (tick P) f σ o (inl st) s a =
      later (tick P) P f st.0 σ σ o o (onward f σ o (doing st.0) st.1) refl
      (comes_to P st.0 σ o st.2 (record { never = λ ws d l. s.never (pos 0 ∷ ws) d l; free = λ ws d l. s.free (pos 0 ∷ ws) d l; left = λ ws ys q. s.left (pos 0 ∷ ws) ys q; lasts = λ ws q. s.lasts (pos 0 ∷ ws) q }) a)
  comes_to (tick P) f σ o (inr st) s a =
      let v = cell_value σ st.0 in
      later (tick P) P f (st.1 v) σ σ o o (onward f σ o (loading st.0 st.1) st.3) refl
      (comes_to P (st.1 v) σ o (subst (λ (z : ℤ). S P (st.1 z)) (sym (a st.0 st.2)) st.4) (record { never = λ ws d l. s.never (pos 0 ∷ ws) d l; free = λ ws d l. s.free (pos 0 ∷ ws) d l; left = λ ws ys q. s.left (pos 0 ∷ ws) ys q; lasts = λ ws q. s.lasts (pos 0 ∷ ws) q }) a)
  comes_to (leave xs) f σ o st s a = (0, inl (xs, st))
  comes_to (fault b) f σ o st s a = (0, inr (b, st, refl))
  comes_to gone f σ o st s a = absurd (s.lasts [] refl)

-- ---- several iterations

stopped_on : (bad : Option Cause) (vs : List ℤ) (υ : StoreOf) (next : StoreOf → Whole) (ρ : StoreOf) (b : Cause) → bad ≡ None → υ ≡ ρ → (ls : List (List ℤ)) × (next ρ ≡ stopped ls b) → (ls : List (List ℤ)) × (going bad vs υ next ≡ stopped ls b)
stopped_on bad vs υ next ρ b e d h = (vs ∷ h.0, ap (λ (x : Option Cause). going x vs υ next) e ∙ ap (λ (s : StoreOf). add vs (next s)) d ∙ ap (add vs) h.1)

-- what breaks off among the first iterations breaks off all of them
longer : (start : ℕ → Process) (k n j : ℕ) (σ : StoreOf) (ls : List (List ℤ)) (b : Cause) → k ≤ n → finish start (λ i. []) k j σ ≡ stopped ls b → (ms : List (List ℤ)) × (finish start (λ i. []) n j σ ≡ stopped ms b)
longer start zero n j σ ls b le e = absurd cc
longer start (suc k) zero j σ ls b le e = absurd (omega (arith, le))
longer start (suc k) (suc n) j σ ls b le e = by (λ ns q. longer start k n (suc j) (run (start j) σ).end ns b (omega (arith, le)) q) (run (start j) σ).bad e
  where
    vs : List ℤ
    vs = (run (start j) σ).values

    ρ : StoreOf
    ρ = (run (start j) σ).end

    on : ((ns : List (List ℤ)) → finish start (λ i. []) k (suc j) (run (start j) σ).end ≡ stopped ns b → (ms : List (List ℤ)) × (finish start (λ i. []) n (suc j) (run (start j) σ).end ≡ stopped ms b)) → (w : Whole) → finish start (λ i. []) k (suc j) ρ ≡ w → add vs w ≡ stopped ls b → (ms : List (List ℤ)) × (going None vs ρ (finish start (λ i. []) n (suc j)) ≡ stopped ms b)
    on more (went ns τ) q z = absurd cc
    on more (stopped ns c) q z =
        let same : c ≡ b = cc in
        let h = more ns (q ∙ ap (stopped ns) same) in
        (vs ∷ h.0, ap (add vs) h.1)

    by : ((ns : List (List ℤ)) → finish start (λ i. []) k (suc j) (run (start j) σ).end ≡ stopped ns b → (ms : List (List ℤ)) × (finish start (λ i. []) n (suc j) (run (start j) σ).end ≡ stopped ms b)) → (bad : Option Cause) → going bad vs ρ (finish start (λ i. []) k (suc j)) ≡ stopped ls b → (ms : List (List ℤ)) × (going bad vs ρ (finish start (λ i. []) n (suc j)) ≡ stopped ms b)
    by more None z = on more (finish start (λ i. []) k (suc j) ρ) refl z
    by more (Some c) z = let same : c ≡ b = cc in (vs ∷ [], ap (stopped (vs ∷ [])) same)

module _ (F L : Type 0) (view : F → View F L) (trips : L → ℕ) (begin : L → ℕ → F) (Hidden Fixed : L → Cell → Type 0) (Named : L → ℕ → Type 0) (start : L → StoreOf → ℕ → Process) (Valid : L → Type 0) (p : ℕ)
    (loops : Loops F L view trips begin Hidden Fixed Named start Valid) (origin : Here L) (answer : Outcome) (l : L) (ι : StoreOf) (past : ℕ → List ℤ) (before : List ℕ) (xs : List (Cell × ℤ)) (M : Main L) (m : State F L)
    (good : Good F L view trips begin Hidden Fixed start Valid p origin answer (within l ι past before xs M) m) where
  abbrev Kept : StoreOf → Type 0
  Kept σ = Keeps F L view trips begin Hidden Fixed Named start Valid p loops origin answer l ι past before xs M m good σ

  abbrev fate_of : (j : ℕ) (σ : StoreOf) → j < trips l → Kept σ → Fate F L view (Hidden l) (Fixed l) ι (start l ι j) (begin l j) σ []
  fate_of j σ lt a = comes_to F L view (Hidden l) (Fixed l) ι (start l ι j) (begin l j) σ [] (loops.begins l (W F L view trips begin Hidden Fixed Named start Valid p loops origin answer l ι past before xs M m good).valid ι j lt) (safe F L view trips begin Hidden Fixed Named start Valid p loops origin answer l ι past before xs M m good j) a

  abbrev pub All : ℕ → ℕ → StoreOf → Type 0
  All n j σ = (τ : StoreOf) × Before F L view begin l n j σ τ

  -- the first that breaks off is q, i behind iteration j
  pub record Off (n j : ℕ) (σ : StoreOf) : Type 0 where
    pub i : ℕ
    pub few : i < n
    pub q : ℕ
    pub is : q ≡ j + i
    pub store : StoreOf
    pub earlier : Before F L view begin l i j σ store
    pub steps : ℕ
    pub cause : Cause
    pub breaks : view (own_after F L view steps (begun F L view begin l q store)).frame ≡ breaking cause
    pub listed : (ls : List (List ℤ)) × (finish (start l ι) (λ k. []) n j σ ≡ stopped ls cause)

  pub fates_from : (n j : ℕ) (σ : StoreOf) → j + n ≤ trips l → Kept σ → All n j σ ⊎ Off n j σ
  fates_from zero j σ le a = inl (σ, refl)
  fates_from (suc n) j σ le a = by (λ ρ k. fates_from n (suc j) ρ (omega (arith, le)) k) (fate_of j σ (omega (arith, le)) a)
    where
      by : ((ρ : StoreOf) → Kept ρ → All n (suc j) ρ ⊎ Off n (suc j) ρ) → Fate F L view (Hidden l) (Fixed l) ι (start l ι j) (begin l j) σ [] → All (suc n) j σ ⊎ Off (suc n) j σ
      by more (i, inr t) = inr (record {
        i = 0;
        few = omega arith;
        q = j;
        is = omega arith;
        store = σ;
        earlier = refl;
        steps = i;
        cause = t.0;
        breaks = t.1;
        listed = ((run (start l ι j) σ).values ∷ [], ap (λ (x : Option Cause). going x (run (start l ι j) σ).values (run (start l ι j) σ).end (finish (start l ι) (λ k. []) n (suc j))) t.2);
      })
      by more (i, inl t) = on (more ρ r.agrees)
        where
          ρ : StoreOf
          ρ = put_cells (own_after F L view i (begun F L view begin l j σ)).store t.0

          r : Retires F L view (Hidden l) (Fixed l) ι (start l ι j) σ ρ
          r = retires F L view (Hidden l) (Fixed l) ι i (start l ι j) (begin l j) σ [] t.0 (loops.begins l (W F L view trips begin Hidden Fixed Named start Valid p loops origin answer l ι past before xs M m good).valid ι j (omega (arith, le))) (safe F L view trips begin Hidden Fixed Named start Valid p loops origin answer l ι past before xs M m good j) a t.1

          on : All n (suc j) ρ ⊎ Off n (suc j) ρ → All (suc n) j σ ⊎ Off (suc n) j σ
          on (inl h) = inl (h.0, (i, t.0, t.1, h.1))
          on (inr h) =
              let few = h.few in
              let is = h.is in
              inr (record {
                i = suc h.i;
                few = omega (arith, few);
                q = h.q;
                is = omega (arith, is);
                store = h.store;
                earlier = (i, t.0, t.1, h.earlier);
                steps = h.steps;
                cause = h.cause;
                breaks = h.breaks;
                listed = stopped_on (run (start l ι j) σ).bad (run (start l ι j) σ).values (run (start l ι j) σ).end (finish (start l ι) (λ k. []) n (suc j)) ρ h.cause r.bad r.end h.listed;
              })

  -- Of the first iterations each retires, or one is the first that breaks off, as the loop does.
  pub fates : (n : ℕ) → n ≤ trips l → AllRetire F L view begin l n ι ⊎ ((b : Cause) × BreaksOff F L view begin l n ι b × (ls : List (List ℤ)) × (finish (start l ι) (λ i. []) (trips l) 0 ι ≡ stopped ls b))
  fates n le = by (fates_from n 0 ι (omega (arith, le)) (λ c fx. refl))
    where
      by : All n 0 ι ⊎ Off n 0 ι → AllRetire F L view begin l n ι ⊎ ((b : Cause) × BreaksOff F L view begin l n ι b × (ls : List (List ℤ)) × (finish (start l ι) (λ i. []) (trips l) 0 ι ≡ stopped ls b))
      by (inl h) = inl h
      by (inr h) =
          let is = h.is in
          let same : h.q ≡ h.i = omega (arith, is) in
          let z = longer (start l ι) n (trips l) 0 ι (h.listed).0 h.cause le (h.listed).1 in
          inr (h.cause, (h.i, h.few, h.store, h.earlier, h.steps, subst (λ (k : ℕ). view (own_after F L view h.steps (begun F L view begin l k h.store)).frame ≡ breaking h.cause) same h.breaks), z.0, z.1)

  -- where it does, the program does
  pub fails_so : ((x : Outcome) → meaning L trips start x origin ≡ answer) → (ls : List (List ℤ)) (b : Cause) → finish (start l ι) (λ i. []) (trips l) 0 ι ≡ stopped ls b → (o : List ℕ) × (answer ≡ failed b o)
  fails_so means ls b e =
      let X : Within F L view trips begin Hidden Fixed start Valid p origin answer l ι past before xs M m = good.kept in
      let so = X.sofar in
      let x = failed b [] in
      let whole_is : then_do (seen (start l ι) before (finish (start l ι) (λ i. []) (trips l) 0 ι)) (λ τ t. whole L trips start x M (put_cells τ xs) m.input t) ≡ answer = ap (meaning L trips start x) (sym so.1) ∙ alone_is L trips start x so.0 origin ∙ means x in
      (before ++ shown (start l ι) 0 ls, sym whole_is ∙ ap (λ (w : Whole). then_do (seen (start l ι) before w) (λ τ t. whole L trips start x M (put_cells τ xs) m.input t)) e)
