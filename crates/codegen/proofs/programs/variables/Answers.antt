use Rattle.std.proofs.Common.{◌≡◌, ◌∙◌, ◌≤◌, ◌<◌, ◌++◌, ◌∷◌, [], length, map, rules, arith, ap, refl, sym, subst, take}
use Rattle.ast.specs.Symbols.{most_elements}
use Rattle.ast.specs.View.{symbol}
use Rattle.machine.specs.Laid.{are_laid, count_of}
use Rattle.machine.specs.declared.code.Variable.{Variable}
use Rattle.expr_code.specs.Computes.{variables_for, variables_in}
use Rattle.codegen.proofs.Compiling.{counted_next, laid_next, names_next, sized_at, small_symbol, symbols_next}
use Rattle.codegen.proofs.programs.variables.Goals as goal

pub size-size-requires : goal.size-size-requires
size-size-requires c = sized_at c.args.symbols.now c.loop-symbol.symbol-index c.symbol-item.result c.requires.sized c.loop-symbol-test.true c.symbol-item.is

pub overflow_add-start : goal.overflow_add-start
overflow_add-start c =
    let sized = sized_at c.args.symbols.now c.loop-symbol.symbol-index c.symbol-item.result c.requires.sized c.loop-symbol-test.true c.symbol-item.is in
    let small : c.size-size.result ≤ most_elements = subst (λ n. n ≤ most_elements) (sym c.size-size.ensures) (small_symbol (symbol c.symbol-item.result) sized) in
    let start = c.loop-symbol.invariant.3 in
    omega (arith, small, start, c.loop-symbol-test.true, c.requires.few)

pub loop-symbol-preserved : goal.loop-symbol-preserved
loop-symbol-preserved c =
    let sized = sized_at c.args.symbols.now c.loop-symbol.symbol-index c.symbol-item.result c.requires.sized c.loop-symbol-test.true c.symbol-item.is in
    let small : c.size-size.result ≤ most_elements = subst (λ n. n ≤ most_elements) (sym c.size-size.ensures) (small_symbol (symbol c.symbol-item.result) sized) in
    let x : Variable = record { name = c.symbol-item.result.name; start = c.loop-symbol.start; size = c.size-size.result } in
    let pushed : c.push.new.self.items ≡ c.loop-symbol.variables.items ++ x ∷ [] = search rules in
    let few : c.loop-symbol.symbol-index < length c.args.symbols.now = c.loop-symbol-test.true in
    let all = c.requires.few in (
      ap variables_in pushed ∙ names_next c.loop-symbol.variables.items (map symbol (take c.loop-symbol.symbol-index c.args.symbols.now)) x (symbol c.symbol-item.result) c.loop-symbol.invariant.0 refl c.size-size.ensures ∙ ap variables_for (symbols_next c.args.symbols.now c.loop-symbol.symbol-index c.symbol-item.result few c.symbol-item.is),
      ap (are_laid 0) pushed ∙ laid_next c.loop-symbol.variables.items c.loop-symbol.symbol-index x (omega (arith, few, all)) small c.loop-symbol.invariant.1 c.loop-symbol.invariant.2 c.loop-symbol.invariant.3,
      counted_next c.loop-symbol.variables.items x c.loop-symbol.invariant.2 ∙ ap count_of (sym pushed),
      (let start = c.loop-symbol.invariant.3 in omega (arith, small, start)),
    )
