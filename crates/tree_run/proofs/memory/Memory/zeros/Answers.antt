use Rattle.std.proofs.Common.{◌≡◌, ◌∙◌, ap, sym, subst, List, ℕ, true}
use Rattle.std.specs.Prelude.{ℤ, map}
use Rattle.std.specs.List.{IsDistinct, list_all}
use Rattle.ast.specs.Store.{store_of, zeros, same_name}
use Rattle.ast.specs.Symbols.{is_sized, names_of}
use Rattle.ast.specs.View.{symbol}
use Rattle.ast.specs.declared.program.Symbol.{Symbol}
use Rattle.tree_run.specs.Shapes.{shapes_in}
use Rattle.tree_run.proofs.Cells.{shapes_made, started}
use Rattle.tree_run.proofs.memory.Memory.zeros.Goals as goal

pub invariant_of-result : goal.invariant_of-result
invariant_of-result c =
    let ss = map symbol c.as_slice-symbols.result.now in
    let same = sym c.as_slice-symbols.ensures.value in
    record {
      fits = ap (λ (cs : List (List ℕ × List ℤ)). shapes_in cs) c.in_ok-store.ensures ∙ shapes_made ss zeros;
      distinct = subst (λ (xs : List Symbol). IsDistinct same_name (names_of (map symbol xs))) same c.args.program.now.distinct;
      sized = subst (λ (xs : List Symbol). list_all is_sized (map symbol xs) ≡ true) same c.args.program.now.sized;
    }

pub returns-clause-store : goal.returns-clause-store
returns-clause-store c =
    let ss = map symbol c.as_slice-symbols.result.now in
    ap (λ (cs : List (List ℕ × List ℤ)). store_of cs) c.in_ok-store.ensures ∙ started ss
