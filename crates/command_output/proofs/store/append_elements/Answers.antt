use Rattle.std.proofs.Common.{◌≡◌, ◌++◌, get_or, map, pos, rules}
use Rattle.ast.specs.View.{extent}
use Rattle.command_output.specs.Shown.{element_line, subscripts_at}
use Rattle.command_output.proofs.StoreRows.{one_element}
use Rattle.command_output.proofs.store.append_elements.Goals as goal

pub loop-place-preserved : goal.loop-place-preserved
loop-place-preserved c =
    let name = c.args.name.now.letters in
    let ds = map extent c.args.dimensions.now in
    let values = c.args.values.now in
    let place = c.loop-place.place in
    let line : c.append_element.new.out.items ≡ c.loop-place.out.items ++ element_line name (subscripts_at ds place) (get_or values place (pos 0)) = search (rules, c.in_ok-append_element.ensures) in
    one_element name ds place values c.loop-place.out.items c.append_element.new.out.items _ c.loop-place-test.true line c.loop-place.invariant
