use Rattle.std.proofs.Common.{◌≡◌, ◌∙◌, ◌≤◌, ap, sym, subst, List, true, not}
use Rattle.std.specs.Prelude.{map, int_lt}
use Rattle.std.specs.List.{list_all}
use Rattle.ast.specs.Symbols.{Extent, Symbol, dimensions_in, dimensions_of, elements, most_elements}
use Rattle.ast.specs.View.{extent, ref}
use Rattle.ast.proofs.Symbols.{found, dimensions_told}
use Rattle.tree_run.specs.View.{symbols_in}
use Rattle.tree_run.proofs.Finding.{symbol_at}
use Rattle.tree_run.proofs.Seats.{held}
use Rattle.tree_run.proofs.memory.Memory.dimensions.Goals as goal

dimensions_are : (c : goal.After-dimensions) → map extent c.dimensions.result.now ≡ dimensions_in (symbols_in c.args.self.now) c.args.reference.now.name.letters
dimensions_are c =
    let m = c.args.self.now in
    let r = ref c.args.reference.now in
    let f = found (symbols_in m) r c.requires.placed in
    c.dimensions.ensures
    ∙ ap (λ (s : Symbol). dimensions_of s.sort) (symbol_at m.symbols.now r.cell f.symbol c.index-self-reference.result f.at)
    ∙ sym (dimensions_told (symbols_in m) r.cell f.symbol m.distinct f.at)
    ∙ ap (dimensions_in (symbols_in m)) f.named

pub returns-clause-dimensions : goal.returns-clause-dimensions
returns-clause-dimensions c = dimensions_are c

pub returns-clause-open : goal.returns-clause-open
returns-clause-open c =
    let m = c.args.self.now in
    let h = held (symbols_in m) (ref c.args.reference.now) m.sized m.distinct c.requires.placed in
    subst (λ (ds : List Extent). list_all (λ d. not (int_lt d.upper d.lower)) ds ≡ true) (sym (dimensions_are c)) h.open_bounds

pub returns-clause-few : goal.returns-clause-few
returns-clause-few c =
    let m = c.args.self.now in
    let h = held (symbols_in m) (ref c.args.reference.now) m.sized m.distinct c.requires.placed in
    subst (λ (ds : List Extent). elements ds ≤ most_elements) (sym (dimensions_are c)) h.few
