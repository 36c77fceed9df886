use Rattle.std.proofs.Common.{◌≡◌, ◌∙◌, ◌+◌, Ok, List, ap, sym, subst, map, drop, refl, rules, to_z, of_z, w64}
use Rattle.std.specs.Prelude.{ℤ}
use Rattle.ast.specs.Meaning.{read_elements}
use Rattle.ast.specs.Symbols.{Symbol}
use Rattle.ast.specs.View.{access as access_of}
use Rattle.ast.specs.declared.fault.End.TheVariants.{Done}
use Rattle.tree_run.specs.Placed.{PlacedAccesses}
use Rattle.tree_run.specs.Runs.{left, run_of, symbols_of}
use Rattle.tree_run.specs.declared.input.Input.{Input}
use Rattle.tree_run.proofs.Blocks.{element_read, placed_access}
use Rattle.tree_run.proofs.statements.read_elements.Goals as goal

pub loop-element-preserved : goal.loop-element-preserved
loop-element-preserved c =
    let m0 = c.args.machine.now in
    let m = c.loop-element.machine in
    let new = c.store.new.machine in
    let es = c.args.elements.now in
    let i = c.loop-element.element-index in
    let a = c.element-item.result in
    let line = c.args.line in
    let ss = symbols_of m in
    let taken : Input = c.next.new.self in
    let rest = map access_of (drop (i + 1) es) in
    let n = to_z w64 (of_z w64 c.in_ok-number.number) in
    let back : n ≡ c.in_ok-number.number = search rules in
    record {
      symbols = c.in_ok-store.ensures.symbols ∙ c.loop-element.invariant.symbols;
      placed = subst (λ (xs : List Symbol). PlacedAccesses xs rest) (sym c.in_ok-store.ensures.symbols) (placed_access ss es i a c.loop-element-test.true c.element-item.is c.loop-element.invariant.placed).1;
      on =
          ap (λ (xs : List Symbol). read_elements xs line rest (left new.input) (run_of new Done)) c.in_ok-store.ensures.symbols
          ∙ ap (λ (input : Input). read_elements ss line rest (left input) (run_of new Done)) c.in_ok-store.ensures.input
          ∙ element_read ss line es i a n (left taken) (left m.input) taken.records (run_of m Done) (run_of new Done) (read_elements (symbols_of m0) line (map access_of es) (left m0.input) (run_of m0 Done)) c.loop-element-test.true c.element-item.is (c.in_ok-number.ensures ∙ ap (λ (k : ℤ). Ok (k, left taken, taken.records)) (sym back)) c.in_ok-store.ensures.reached refl c.loop-element.invariant.on;
    }
