-- With one open iteration a processor has at most one next step.
use Rattle.std.proofs.Common.{◌≡◌, ◌∙◌, ℕ, ◌+◌, ◌<◌, ◌≤◌, ℤ, List, [], Option, Some, None, ◌⊎◌, inl, inr, sym, ap, subst, arith}
use Rattle.std.proofs.lemmas.Option.{same_Some}
use Rattle.machine.specs.Code.{Cell}
use Rattle.machine.specs.State.{State, Active, Wait, until_retired, Who, the_main, iteration, Choice, take_main, take_iteration, take_ticket, Reached, Move, MainMove, Takes, Turn, Step, put_at, put_cells}
use Rattle.machine.specs.View.{View, doing, loading, storing, printing, reading, awaiting, advancing, opening, joining, leaving, breaking, halting}

module _ (F L : Type 0) (trips : L → ℕ) where
  -- no two things may be taken up: at most one iteration is open, and main waits for all of them
  pub record IsNarrow (m : State F L) : Type 0 where
    pub narrow : m.ticket ≤ m.retired + 1
    pub behind : m.retired ≤ m.ticket
    pub below : (l : L) → m.loop ≡ Some l → m.ticket ≤ trips l
    pub parked : (k : ℕ) (w : Wait) → m.parked k ≡ Some w → (m.retired ≤ k) × (k < m.ticket)
    pub within : (k : ℕ) (w : Wait) → m.parked k ≡ Some w → (l : L) × (m.loop ≡ Some l)
    pub joined : (w : Wait) (l : L) → m.waiting ≡ Some w → m.loop ≡ Some l → Reached m w → trips l ≤ m.retired

module _ (F L : Type 0) (view : F → View F L) (trips : L → ℕ) (begin : L → ℕ → F) (m n o : State F L) (q : ℕ) where
  same_move : (V : View F L) (a : Active F) (k : ℕ) → Move V a m q k n → Move V a m q k o → n ≡ o
  same_move (doing g) a k x y = x ∙ sym y
  same_move (loading c φ) a k x y = x ∙ sym y
  same_move (storing c v g) a k x y = x ∙ sym y
  same_move (printing bytes g) a k x y = x ∙ sym y
  same_move (awaiting e d g) a k (inl x) (inl y) = x.1 ∙ sym y.1
  same_move (awaiting e d g) a k (inl x) (inr y) = let u = x.0 in let v = y.0 in absurd (omega arith)
  same_move (awaiting e d g) a k (inr x) (inl y) = let u = x.0 in let v = y.0 in absurd (omega arith)
  same_move (awaiting e d g) a k (inr x) (inr y) = x.1 ∙ sym y.1
  same_move (advancing e g) a k x y = x.1 ∙ sym y.1
  same_move (leaving xs) a k (inl x) (inl y) = x.1 ∙ sym y.1
  same_move (leaving xs) a k (inl x) (inr y) = let u = x.0 in let v = y.0 in absurd (omega arith)
  same_move (leaving xs) a k (inr x) (inl y) = let u = x.0 in let v = y.0 in absurd (omega arith)
  same_move (leaving xs) a k (inr x) (inr y) = x.1 ∙ sym y.1
  same_move (breaking c) a k (inl x) (inl y) = x.1 ∙ sym y.1
  same_move (breaking c) a k (inl x) (inr y) = let u = x.0 in let v = y.0 in absurd (omega arith)
  same_move (breaking c) a k (inr x) (inl y) = let u = x.0 in let v = y.0 in absurd (omega arith)
  same_move (breaking c) a k (inr x) (inr y) = x.1 ∙ sym y.1
  same_move _ a k x y = absurd x

  abbrev Joins : (L → List (Cell × ℤ)) → (L → F) → L → State F L → Type 0
  Joins ρ φ l x =
      ((trips l ≤ m.retired) × (x ≡ record m { main = φ l; store = put_cells m.store (ρ l); loop = None }))
      ⊎ ((m.retired < trips l) × (x ≡ record m { waiting = Some (until_retired (trips l)); held = put_at m.held q None }))

  same_join : (ρ : L → List (Cell × ℤ)) (φ : L → F) (l : L) → Joins ρ φ l n → Joins ρ φ l o → n ≡ o
  same_join ρ φ l (inl x) (inl y) = x.1 ∙ sym y.1
  same_join ρ φ l (inl x) (inr y) = let u = x.0 in let v = y.0 in absurd (omega arith)
  same_join ρ φ l (inr x) (inl y) = let u = x.0 in let v = y.0 in absurd (omega arith)
  same_join ρ φ l (inr x) (inr y) = x.1 ∙ sym y.1

  same_main : (V : View F L) → MainMove trips V m q n → MainMove trips V m q o → n ≡ o
  same_main (doing g) x y = x ∙ sym y
  same_main (loading c φ) x y = x ∙ sym y
  same_main (storing c v g) x y = x ∙ sym y
  same_main (printing bytes g) x y = x ∙ sym y
  same_main (reading ρ φ) x y = x ∙ sym y
  same_main (opening l g) x y = x.1 ∙ sym y.1
  same_main (joining ρ φ) x y =
      let e : x.0 ≡ y.0 = same_Some x.0 y.0 (sym x.1 ∙ y.1) in
      same_join ρ φ y.0 (subst (λ (l : L). Joins ρ φ l n) e x.2) y.2
  same_main (breaking c) x y = x ∙ sym y
  same_main halting x y = x ∙ sym y
  same_main _ x y = absurd x

  abbrev picked : ℕ → State F L
  picked k = record m { parked = put_at m.parked k None; held = put_at m.held q (Some (iteration k)) }

  abbrev ticketed : L → State F L
  ticketed l = record m {
    ticket = m.ticket + 1;
    iterations = put_at m.iterations m.ticket (Some (record { frame = begin l m.ticket; out = [] }));
    held = put_at m.held q (Some (iteration m.ticket));
  }

  module _ (is : IsNarrow F L trips m) where
    -- main can't be taken up while an iteration is open, or a ticket is left
    main_alone : (w : Wait) → m.waiting ≡ Some w → Reached m w → (k : ℕ) (v : Wait) → m.parked k ≡ Some v → ⊥
    main_alone w h r k v e =
        let p = is.parked k v e in
        let l = is.within k v e in
        let j = is.joined w l.0 h l.1 r in
        let b = is.below l.0 l.1 in omega arith

    main_last : (w : Wait) → m.waiting ≡ Some w → Reached m w → (l : L) → m.loop ≡ Some l → m.ticket < trips l → ⊥
    main_last w h r l e lt = let j = is.joined w l h e r in let b = is.behind in omega arith

    -- nor a ticket while an iteration is open
    full : (k : ℕ) (v : Wait) → m.parked k ≡ Some v → m.ticket < m.retired + 1 → ⊥
    full k v e lt = let p = is.parked k v e in omega arith

    same_number : (k j : ℕ) (v w : Wait) → m.parked k ≡ Some v → m.parked j ≡ Some w → k ≡ j
    same_number k j v w e h = let p = is.parked k v e in let r = is.parked j w h in let z = is.narrow in omega arith

    same_taken : (c d : Choice) → Takes F L view trips begin 1 c m q n → Takes F L view trips begin 1 d m q o → n ≡ o
    same_taken take_main take_main x y = x.3 ∙ sym y.3
    same_taken take_main (take_iteration k) x y = absurd (main_alone x.0 x.1 x.2 k y.0 y.1)
    same_taken take_main take_ticket x y = absurd (main_last x.0 x.1 x.2 y.0 y.1 y.2)
    same_taken (take_iteration k) take_main x y = absurd (main_alone y.0 y.1 y.2 k x.0 x.1)
    same_taken (take_iteration k) (take_iteration j) x y = x.3 ∙ ap picked (same_number k j x.0 y.0 x.1 y.1) ∙ sym y.3
    same_taken (take_iteration k) take_ticket x y = absurd (full k x.0 x.1 y.3)
    same_taken take_ticket take_main x y = absurd (main_last y.0 y.1 y.2 x.0 x.1 x.2)
    same_taken take_ticket (take_iteration k) x y = absurd (full k y.0 y.1 x.3)
    same_taken take_ticket take_ticket x y = x.4 ∙ ap ticketed (same_Some x.0 y.0 (sym x.1 ∙ y.1)) ∙ sym y.4

    same_turn : (u : Option Who) → Turn F L view trips begin 1 u m q n → Turn F L view trips begin 1 u m q o → n ≡ o
    same_turn None x y = same_taken x.0 y.0 x.1 y.1
    same_turn (Some the_main) x y = same_main (view m.main) x y
    same_turn (Some (iteration k)) x y =
        let e : x.0 ≡ y.0 = same_Some x.0 y.0 (sym x.1 ∙ y.1) in
        same_move (view (y.0).frame) y.0 k (subst (λ (a : Active F). Move (view a.frame) a m q k n) e x.2) y.2

    pub same_step : Step F L view trips begin 1 m q n → Step F L view trips begin 1 m q o → n ≡ o
    same_step x y = same_turn (m.held q) x.turn y.turn
