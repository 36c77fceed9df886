-- What the process of a program comes to is its sequential meaning, where what is seen of a run is
-- its outcome.
use Rattle.std.proofs.Common.{◌≡◌, ℕ, ℤ, true, List, [], Option, Result, refl}
use Rattle.ast.specs.Meaning.{Run, exec_block}
use Rattle.ast.specs.Regular.{are_fitting}
use Rattle.ast.specs.Tree.{Block}
use Rattle.ast.specs.declared.fault.End.{End}
use Rattle.ast.specs.declared.fault.End.TheVariants.{Done}
use Rattle.ast.specs.declared.fault.Fault.{Fault}
use Rattle.ast.proofs.Fitting.{RunFits}
use Rattle.expr_code.specs.Places.{Places}
use Rattle.codegen.specs.Plain.{plain_block}
use Rattle.codegen.specs.Process.{Doing, block_into}
use Rattle.codegen.proofs.Meant as meant_by
use Rattle.codegen.proofs.Meant.{Sight}
use Rattle.codegen.proofs.Outcomes.{Outcome, told}

-- openings of loops aren't seen
abbrev pub outcomes : Sight Outcome
outcomes = record { told = λ run. told run; add = λ xs o. o; none = λ o. refl; more = λ xs ys o. refl; unread = λ e line run i. refl }

abbrev pub given_told : {V : Type 0} → Result V Fault → ℕ → Run → (V → Outcome) → Outcome
given_told r line run next = meant_by.given_told Outcome outcomes r line run next

abbrev pub going_told : End → Run → (Run → Outcome) → Outcome
going_told e run next = meant_by.going_told Outcome outcomes e run next

abbrev pub then_told : Run → (Run → Outcome) → Outcome
then_told run next = meant_by.then_told Outcome outcomes run next

abbrev pub Acts : (A : Type 0) (D : Doing A) (p : Places) (meant : A → List ℤ → Run → Outcome) → Type 0
Acts A D p meant = meant_by.Acts Outcome outcomes A D p meant

module _ (A : Type 0) (D : Doing A) (p : Places) (meant : A → List ℤ → Run → Outcome) (M : Acts A D p meant) (opens : ℕ → Option ℕ) where
  abbrev pub BlockNamed : Block → Type 0
  BlockNamed b = meant_by.BlockNamed Outcome outcomes A D p meant M opens b

  pub block_meant : (b : Block) (a : A) (run : Run) → BlockNamed b → are_fitting b ≡ true → run.end ≡ Done → RunFits p.symbols run → meant (block_into A D p opens (plain_block b) a) [] run ≡ then_told (exec_block p.symbols b run) (λ r. meant a [] r)
  block_meant b a run w v d f = meant_by.block_meant Outcome outcomes A D p meant M opens b a run w v d f
