-- What statements do, one step after another, over any kind of steps: of main or of an iteration.
-- Their code does these steps. A program is a plan that awaits and advances nothing; the loops
-- whose iterations are run at once are told by their DO variables' references.
use Rattle.std.specs.Prelude.{ℕ, ℤ, zero, suc, pos, if◌then◌else◌, Bool}
use Rattle.std.specs.Prelude.{false, List, [], ◌∷◌, Option, Some, None}
use Rattle.std.specs.Ordering.{int_eq}
use Rattle.ast.specs.Exact.{is_true, trips, value_of}
use Rattle.ast.specs.Meaning.{are_stop_and_end}
use Rattle.ast.specs.Record.{Printed, number, text, record_of}
use Rattle.ast.specs.Tree.{Ref, Term, Access, PrintItem, value_item}
use Rattle.ast.specs.Tree.{text_item, DoHead, Kind, assign, print, read, stop}
use Rattle.ast.specs.declared.expression.Operator.TheVariants.{Add}
use Rattle.ast.specs.declared.fault.Fault.TheVariants.{ZeroStep}
use Rattle.dependence.specs.Plan.{PlanNode, awaits, advances, plain, loop, choose, PlanBlock}
use Rattle.dependence.specs.Plan.{no_nodes, then_node, PlanArms, no_arms, made_else, then_arm}
use Rattle.machine.specs.Code.{Cell}
use Rattle.expr_code.specs.Places.{Places, Home, loop_index, private_scalar}
use Rattle.expr_code.specs.Places.{in_store, home, dimensions_at}
use Rattle.expr_code.specs.Process.{Steps, answered_into, scalar_into, target_into, term_into}

-- The steps of statements: those of an expression of a line; a cell or a private scalar is given a
-- value; a record is printed; a record of the input is taken, a value of it, and the rest of it
-- dropped; a local instruction; an event is awaited or advanced; a loop is opened and joined; a
-- STOP.
pub record Doing (A : Type 0) : Type 0 where
  pub evaluate : ℕ → Steps A
  pub keep : Ref → Cell → ℤ → A → A
  pub set : Ref → ℕ → ℤ → A → A
  pub say : List ℕ → A → A
  pub take_record : ℕ → A → A
  pub take_value : ℕ → (ℤ → A) → A
  pub drop_record : A → A
  pub local : A → A
  pub await : ℕ → ℕ → A → A
  pub advance : ℕ → A → A
  pub opening : ℕ → ℕ → ℤ → ℤ → A → A
  pub stop : ℕ → A

-- a STOP that END follows does what END does
abbrev pub is_last_stop : PlanNode → PlanBlock → Bool
is_last_stop (plain s) (then_node (plain t) no_nodes) = are_stop_and_end s.kind t.kind
is_last_stop _ _ = false

module _ (A : Type 0) (D : Doing A) (p : Places) where
  -- the places of a statement of a line
  abbrev pub on : ℕ → Places
  on line = record p { line = line }

  abbrev pub given_into : Home → Ref → ℕ → ℤ → A → A
  given_into (private_scalar x) r n v a = D.set r x v a
  given_into loop_index r n v a = D.keep r (record { name = r.name; place = n }) v a
  given_into in_store r n v a = D.keep r (record { name = r.name; place = n }) v a

  -- a variable is given a value: its subscripts are evaluated and checked first
  abbrev pub stored_into : ℕ → Access → ℤ → A → A
  stored_into line x v a =
      target_into A (D.evaluate line) (on line) x.ref x.subscripts
      (λ n. given_into (home p (dimensions_at p.symbols x.ref.cell) x.ref.name) x.ref n v a)

  -- all items of a PRINT are evaluated, then its record is printed
  abbrev pub items_into : ℕ → List PrintItem → (List Printed → A) → A
  items_into line [] κ = κ []
  items_into line (value_item e ∷ items) κ =
      term_into A (D.evaluate line) (on line) e
      (λ v. items_into line items (λ ps. κ (number v ∷ ps)))
  items_into line (text_item t ∷ items) κ = items_into line items (λ ps. κ (text t ∷ ps))

  -- READ stores value by value
  abbrev pub elements_into : ℕ → List Access → A → A
  elements_into line [] a = a
  elements_into line (x ∷ more) a =
      D.take_value line (λ v. stored_into line x v (elements_into line more a))

  abbrev pub kind_into : ℕ → Kind → A → A
  kind_into line (assign x e) a =
      term_into A (D.evaluate line) (on line) e (λ v. stored_into line x v a)
  kind_into line (print items) a = items_into line items (λ ps. D.say (record_of ps) a)
  kind_into line (read elements) a =
      D.take_record line (elements_into line elements (D.drop_record a))
  kind_into line stop a = D.stop line
  kind_into line _ a = a

  -- ---- DO

  abbrev pub step_into : ℕ → Option Term → (ℤ → A) → A
  step_into line None κ = D.local (κ (pos 1))
  step_into line (Some e) κ = term_into A (D.evaluate line) (on line) e κ

  -- the parameters of a serial DO are set up, or its step is zero
  abbrev pub set_up_into : ℕ → ℤ → A → A
  set_up_into line m3 a = if int_eq m3 (pos 0) then (D.evaluate line).fails ZeroStep else D.local a

  abbrev pub variable_into : Ref → ℤ → A → A
  variable_into r v a = given_into (home p [] r.name) r 0 v a

  -- after each trip the variable grows by the step, and the loop goes back
  abbrev pub grown_into : ℕ → Ref → ℤ → A → A
  grown_into line r m3 a =
      scalar_into A (D.evaluate line) (home p [] r.name) r (λ v. D.local
      (answered_into A (D.evaluate line) (value_of Add v m3) (λ w. variable_into r w (D.local a))))

  -- so many trips are left, each counted down
  abbrev pub turns_into : (A → A) → ℕ → A → A
  turns_into turn zero a = D.local a
  turns_into turn (suc n) a = D.local (turn (turns_into turn n a))

  abbrev pub serial_into : ℕ → DoHead → (A → A) → A → A
  serial_into line h range a =
      term_into A (D.evaluate line) (on line) h.first (λ m1.
      term_into A (D.evaluate line) (on line) h.last (λ m2.
      step_into line h.step (λ m3.
      set_up_into line m3 (variable_into h.variable m1
      (turns_into (λ b. range (grown_into line h.variable m3 b)) (trips m1 m2 m3) a)))))

  abbrev pub opened_into : ℕ → DoHead → ℕ → A → A
  opened_into line h n a =
      term_into A (D.evaluate line) (on line) h.first (λ m1.
      term_into A (D.evaluate line) (on line) h.last (λ m2. D.opening line n m1 m2 a))

  abbrev pub loop_into : Option ℕ → ℕ → DoHead → (A → A) → A → A
  loop_into None line h range a = serial_into line h range a
  loop_into (Some n) line h range a = opened_into line h n a

  -- ---- blocks

  module _ (opens : ℕ → Option ℕ) where
    abbrev mutual
      pub node_into : PlanNode → A → A
      node_into (awaits e d) a = D.await e d a
      node_into (advances e) a = D.advance e a
      node_into (plain s) a = kind_into s.line s.kind a
      node_into (loop line h b) a =
          loop_into (opens h.variable.id) line h (λ after. block_into b after) a
      node_into (choose arms) a = arms_into arms a

      pub block_into : PlanBlock → A → A
      block_into no_nodes a = a
      block_into (then_node n b) a = if is_last_stop n b then a else node_into n (block_into b a)

      -- the first arm whose condition is true; behind an arm the others are skipped
      pub arms_into : PlanArms → A → A
      arms_into no_arms a = a
      arms_into (made_else b) a = block_into b a
      arms_into (then_arm line None b more) a = block_into b a
      arms_into (then_arm line (Some c) b more) a =
          term_into A (D.evaluate line) (on line) c
          (λ v. D.local (if is_true v then block_into b (D.local a) else arms_into more a))
