-- The code of a loop's range does what an iteration's process does.
use Rattle.std.proofs.Common.{◌≡◌, ◌∙◌, ◌+◌, ◌≤◌, ◌^◌, ℕ, ℤ, Bool, [], Option, Some, None, length, refl, sym, ap, arith}
use Rattle.std.specs.Prelude.{replicate, slice_get}
use Rattle.std.proofs.lemmas.List.{length-replicate}
use Rattle.ast.specs.Store.{StoreOf}
use Rattle.dependence.specs.Plan.{PlanBlock}
use Rattle.machine.specs.Code.{Code, Cell, Loop, loop_at}
use Rattle.machine.specs.View.{begin, defined_cells, index_at, leaving_if}
use Rattle.machine.specs.declared.code.Open.{Open as Opened}
use Rattle.machine.specs.declared.instr.Act.TheVariants.{Retire}
use Rattle.expr_code.specs.Emitted.{instr}
use Rattle.expr_code.specs.Places.{Places}
use Rattle.expr_code.proofs.Standing.{HasAt, at, seen}
use Rattle.codegen.specs.Emitted.{block_awaits, block_code, block_records}
use Rattle.codegen.specs.Process.{block_into}
use Rattle.codegen.specs.Program.{none_open}
use Rattle.codegen.specs.Room.{block_loops, block_room}
use Rattle.codegen.proofs.Blocks.{BlockReaches, HasList, block_runs}
use Rattle.codegen.proofs.IterationStanding.{Ready, Stands, Work, iteration_doing, iteration_does}
use Rattle.codegen.proofs.IterationSteps.{Process, leave}

-- The code of a plan's body as the range of loop n: it stands at the loop's place and before a
-- limit, a Retire behind it, and it has room.
pub record IsRange (code : Code) (n : ℕ) (p : Places) (body : PlanBlock) : Type 0 where
  pub loop : slice_get code.loops n ≡ Some (loop_at code n)
  pub privates : length p.privates ≡ length (loop_at code n).privates
  pub few_privates : length p.privates ≤ 2 ^ 32
  pub reaches : BlockReaches code p none_open body
  pub limit : ℕ
  pub few : limit ≤ 2 ^ 32
  pub records_before : ℕ
  pub awaits_before : ℕ
  pub stands : HasAt code.instructions limit (loop_at code n).body (block_code p none_open records_before awaits_before body)
  pub records : HasList code.records records_before (block_records p none_open body)
  pub awaits : HasList code.awaits awaits_before (block_awaits p none_open body)
  pub operands : block_room body ≤ code.operands
  pub counters : block_loops body ≤ code.counters
  pub line : ℕ
  pub retires : slice_get code.instructions ((loop_at code n).body + length (block_code p none_open records_before awaits_before body)) ≡ Some (instr line (Retire n))

-- what an iteration does, by the value of its loop's variable
abbrev pub iteration_process : Code → ℕ → Places → PlanBlock → (Cell → Bool) → StoreOf → ℤ → Process
iteration_process code n p body fixed opened index =
    block_into Work (iteration_doing p.privates index fixed opened) p none_open body (λ ps. leave (defined_cells code (loop_at code n).privates ps)) (replicate (length (loop_at code n).privates) None)

pub iteration_stands : (code : Code) (l : Opened) (p : Places) (body : PlanBlock) (fixed : Cell → Bool) (opened : StoreOf) (k : ℕ) → IsRange code l.number p body
    → Stands p.privates (index_at code l k) fixed opened code (iteration_process code l.number p body fixed opened (index_at code l k)) (begin code l k)
iteration_stands code l p body fixed opened k c =
    block_runs Work (iteration_doing p.privates (index_at code l k) fixed opened) code c.limit (index_at code l k) (Ready p.privates (index_at code l k) fixed opened code) (iteration_does p.privates (index_at code l k) fixed opened code c.limit) p c.few_privates c.few none_open body c.records_before c.awaits_before (λ ps. leave (defined_cells code (loop_at code l.number).privates ps)) (begin code l k) (loop_at code l.number).body []
    c.reaches c.records c.awaits (record { indexed = refl; privates = omega (arith, c.privates, count) }) c.stands
    (record { above = omega (arith, c.operands); loops = omega (arith, c.counters) })
    (λ g kept len. seen code g (instr c.line (Retire l.number)) behind [] c.retires ∙ ap (λ (o : Option Loop). leaving_if code o (at code g behind [])) c.loop)
    (count ∙ sym c.privates)
  where
    behind : ℕ
    behind = (loop_at code l.number).body + length (block_code p none_open c.records_before c.awaits_before body)

    count : length (replicate {A = Option ℤ} (length (loop_at code l.number).privates) None) ≡ length (loop_at code l.number).privates
    count = length-replicate (length (loop_at code l.number).privates) None
