use Rattle.std.proofs.Common.{◌∙◌, ◌+◌, List, ap, drop, false, map, refl, sym, true}
use Rattle.std.proofs.lemmas.List.{drop_all}
use Rattle.ast.specs.Tree.{PrintItem}
use Rattle.ast.specs.View.{item as item_of}
use Rattle.ast.specs.declared.statement.Item.{Item}
use Rattle.ast.proofs.Records.{keeps_on}
use Rattle.tree_run.specs.Printing.{item_onto, items_onto}
use Rattle.tree_run.specs.View.{look, symbols_in}
use Rattle.tree_run.proofs.Items.{fails_on, goes_on, keeps_all, next_item, placed_first, placed_rest}
use Rattle.tree_run.proofs.print.append_items.Goals as goal

pub append_item-requires : goal.append_item-requires
append_item-requires c =
    let items = c.args.items.now in
    let i = c.loop-item.item-index in
    let item = c.item-item.result in
    let next = next_item items i item c.loop-item-test.true c.item-item.is in
    record { placed = placed_first (symbols_in c.args.memory.now) (item_of item) (map item_of (drop (i + 1) items)) (rw next at c.loop-item.invariant.placed) }

pub loop-item-preserved : goal.loop-item-preserved
loop-item-preserved c =
    let items = c.args.items.now in
    let memory = c.args.memory.now in
    let i = c.loop-item.item-index in
    let item = c.item-item.result in
    let others = map item_of (drop (i + 1) items) in
    let old = c.loop-item.output.items in
    let new = c.append_item.new.output.items in
    let next = next_item items i item c.loop-item-test.true c.item-item.is in
    record {
      placed = placed_rest (symbols_in memory) (item_of item) others (rw next at c.loop-item.invariant.placed);
      onto =
          sym (goes_on old new c.loop-item.is_first (item_of item) others (look memory) c.in_ok-append_item.ensures.appended)
          ∙ ap (λ (l : List PrintItem). items_onto old c.loop-item.is_first l (look memory)) (sym next)
          ∙ c.loop-item.invariant.onto;
      kept = keeps_on c.args.output.now.items old new c.loop-item.invariant.kept c.in_ok-append_item.ensures.kept;
    }

pub returns-in_err-append_item-clause-appended : goal.returns-in_err-append_item-clause-appended
returns-in_err-append_item-clause-appended c =
    let items = c.args.items.now in
    let memory = c.args.memory.now in
    let i = c.loop-item.item-index in
    let item = c.item-item.result in
    let others = map item_of (drop (i + 1) items) in
    let old = c.loop-item.output.items in
    fails_on c.from_residual.result c.append_item.result c.in_err-append_item.field-0.0 c.args.line c.append_item.new.output.items (item_onto old c.loop-item.is_first (item_of item) (look memory)) (λ longer. items_onto longer false others (look memory)) (items_onto c.args.output.now.items true (map item_of items) (look memory))
    (ap (λ (l : List PrintItem). items_onto old c.loop-item.is_first l (look memory)) (sym (next_item items i item c.loop-item-test.true c.item-item.is)) ∙ c.loop-item.invariant.onto)
    (c.in_err-append_item.was {u = tt}) c.from_residual.ensures.1 c.append_item.ensures.appended

pub returns-in_err-append_item-clause-kept : goal.returns-in_err-append_item-clause-kept
returns-in_err-append_item-clause-kept c = keeps_on c.args.output.now.items c.loop-item.output.items c.append_item.new.output.items c.loop-item.invariant.kept c.append_item.ensures.kept

pub returns-clause-appended : goal.returns-clause-appended
returns-clause-appended c =
    sym c.loop-item.invariant.onto
    ∙ ap (λ (l : List Item). items_onto c.loop-item.output.items c.loop-item.is_first (map item_of l) (look c.args.memory.now)) (drop_all c.loop-item.item-index c.args.items.now c.loop-item-test.false)

pub returns-clause-kept : goal.returns-clause-kept
returns-clause-kept c = c.loop-item.invariant.kept

pub loop-item-init : goal.loop-item-init
loop-item-init c = record { placed = c.requires.placed; onto = refl; kept = keeps_all c.args.output.now.items }
