-- All is emitted: behind the last arm, behind the last statement, and at a STOP that END follows.
use Rattle.std.proofs.Common.{◌≡◌, ◌∙◌, ◌+◌, ℕ, Bool, true, Option, List, [], ◌++◌, length, sym, ap}
use Rattle.std.specs.Prelude.{if◌then◌else◌}
use Rattle.std.proofs.lemmas.List.{append-nil}
use Rattle.ast.specs.Meaning.{is_last_stop_of}
use Rattle.ast.specs.Tree as tree
use Rattle.ast.specs.Tree.{Block}
use Rattle.dependence.specs.Plan.{PlanBlock, no_nodes, then_node}
use Rattle.expr_code.specs.Places.{Places}
use Rattle.machine.specs.declared.instr.Instr.{Instr}
use Rattle.codegen.specs.Blocks.{Ends, closed}
use Rattle.codegen.specs.Emitted.{block_awaits, block_code, block_records, node_awaits, node_code, node_records}
use Rattle.codegen.specs.Plain.{plain_block}
use Rattle.codegen.specs.PlanParts.{ends_with_stop}
use Rattle.codegen.specs.declared.skips.Pending.{Pending}
use Rattle.codegen.proofs.Stops.{last_told}

-- nothing is left to append
pub nothing_left : {X : Type 0} (xs rest target : List X) → rest ≡ [] → xs ++ rest ≡ target → xs ≡ target
nothing_left xs rest target e w = sym (append-nil xs) ∙ ap (λ ys. xs ++ ys) (sym e) ∙ w

-- what is left has been appended
pub last_appended : {X : Type 0} (old new last all target : List X) → all ≡ last → new ≡ old ++ last → old ++ all ≡ target → new ≡ target
last_appended old new last all target e f w = f ∙ ap (λ xs. old ++ xs) (sym e) ∙ w

-- the last code has been appended, and the skips behind the arms before it go behind it
pub last_closed : (ss taken : List Pending) (old new last all c target : List Instr) → taken ≡ ss → all ≡ last → new ≡ old ++ last → c ≡ closed (length new) taken new → Ends ss (old ++ all) target → c ≡ target
last_closed ss taken old new last all c target k e f g w =
    g ∙ ap (λ (ts : List Pending). closed (length new) ts new) k ∙ ap (λ (is : List Instr). closed (length is) ss is) (f ∙ ap (λ (is : List Instr). old ++ is) (sym e)) ∙ w

-- the nodes that are left are a STOP and the END that follows it
pub stop_told : (b : Block) → true ≡ is_last_stop_of b → true ≡ ends_with_stop (plain_block b)
stop_told tree.no_nodes h = cc
stop_told (tree.then_node n b) h = last_told true n b h

module _ (p : Places) (opens : ℕ → Option ℕ) where
  pub stop_code : (b : PlanBlock) (r w : ℕ) → true ≡ ends_with_stop b → block_code p opens r w b ≡ []
  stop_code no_nodes r w h = cc
  stop_code (then_node n b) r w h =
      ap (λ (x : Bool). if x then [] else (node_code p opens r w n ++ block_code p opens (r + length (node_records p opens n)) (w + length (node_awaits p opens n)) b)) (sym h)

  pub stop_records : (b : PlanBlock) → true ≡ ends_with_stop b → block_records p opens b ≡ []
  stop_records no_nodes h = cc
  stop_records (then_node n b) h = ap (λ (x : Bool). if x then [] else (node_records p opens n ++ block_records p opens b)) (sym h)

  pub stop_awaits : (b : PlanBlock) → true ≡ ends_with_stop b → block_awaits p opens b ≡ []
  stop_awaits no_nodes h = cc
  stop_awaits (then_node n b) h = ap (λ (x : Bool). if x then [] else (node_awaits p opens n ++ block_awaits p opens b)) (sym h)
