use Rattle.std.proofs.Common.{rules, refl}
use Rattle.std.proofs.lemmas.List.Sorted.{IsPermutation-map, answers_always}
use Rattle.command_output.specs.View.{row_view}
use Rattle.command_output.proofs.StoreRows.{sorted_rows}
use Rattle.command_output.proofs.store_rows.sort_by_name.Goals as goal

pub returns-clause-same : goal.returns-clause-same
returns-clause-same c = IsPermutation-map row_view _ _ c.sort_unstable_by_key.ensures.permutation

pub returns-clause-order : goal.returns-clause-order
returns-clause-order c =
    sorted_rows _ (λ a b. refl) _ (c.sort_unstable_by_key.ensures.sorted (λ x. x.symbol.now.name) (answers_always _ _ _ (λ f a r g h. search rules)))
