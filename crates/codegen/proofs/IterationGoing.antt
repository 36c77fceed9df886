-- An iteration's process goes along the paths of its plan, on any values.
use Rattle.std.proofs.Common.{◌≡◌, ◌∙◌, ℕ, ℤ, Bool, List, [], Option, None, length, sym, subst}
use Rattle.std.specs.Prelude.{replicate}
use Rattle.std.proofs.lemmas.List.{append-nil, length-replicate}
use Rattle.ast.specs.Store.{StoreOf}
use Rattle.ast.specs.Tree.{Ref, Terms}
use Rattle.dependence.specs.Plan.{PlanBlock, PlanPaths}
use Rattle.loop_tree.specs.Loops.{Loop}
use Rattle.loop_tree.specs.Paths.{Token}
use Rattle.machine.specs.Code.{Code, Cell, loop_at}
use Rattle.machine.specs.View.{defined_cells}
use Rattle.expr_code.specs.Places.{Places}
use Rattle.codegen.proofs.BlockWalking.{IsBody, block_walks}
use Rattle.codegen.proofs.IterationCode.{iteration_process}
use Rattle.codegen.proofs.IterationPaths.{Along, Begun, Goes, Sound, iteration_walks, shorter}
use Rattle.codegen.proofs.IterationStanding.{Hidden, Work, iteration_doing}
use Rattle.codegen.proofs.IterationSteps.{IsKey, leave}
use Rattle.codegen.proofs.Walking.{home_at}

module _ (code : Code) (n : ℕ) (p : Places) (body : PlanBlock) (l : Loop) (held : ℕ → ℤ) (index : ℤ) (Stands : Ref → Terms → Type 0) (fixed : Cell → Bool) (opened : StoreOf) where
  -- as many private scalars as the loop has; what an iteration retires with are their cells
  pub iteration_along : Sound l held index Stands p fixed opened (PlanPaths body) → IsBody p.symbols (home_at p) Stands body → length (loop_at code n).privates ≡ length p.privates
      → ((ps : List (Option ℤ)) (c : Cell) → IsKey c (defined_cells code (loop_at code n).privates ps) → Hidden p.privates index fixed opened c)
      → Along l held index Stands p fixed opened (PlanPaths body) (iteration_process code n p body fixed opened index) []
  iteration_along sound is_body count keys =
      block_walks l held index Stands Work (iteration_doing p.privates index fixed opened) p (Goes l held index Stands p fixed opened (PlanPaths body)) (Begun l held index Stands p fixed opened (PlanPaths body)) (shorter l held index Stands p fixed opened (PlanPaths body)) (iteration_walks l held index Stands p fixed opened (PlanPaths body) sound)
      body (λ ps. leave (defined_cells code (loop_at code n).privates ps)) [] is_body
      (λ e t r. (e, [], subst (λ (u : List Token). PlanPaths body e u) (sym (append-nil t)) r))
      (λ t r ps len k. (r, keys ps))
      (replicate (length (loop_at code n).privates) None) (length-replicate {A = Option ℤ} (length (loop_at code n).privates) None ∙ count) (λ x e r s i. i)
