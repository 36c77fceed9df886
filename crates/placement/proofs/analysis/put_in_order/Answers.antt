use Rattle.std.proofs.lemmas.List.Filters.{dedup_is}
use Rattle.placement.specs.contracts.analysis.KeptOrd.TheImpl.Laws.{matches_eq-law}
use Rattle.placement.proofs.Sorting.{in_order, same_triples}
use Rattle.placement.proofs.analysis.put_in_order.Goals as goal

pub returns-clause-sorted : goal.returns-clause-sorted
returns-clause-sorted c = in_order _ matches_eq-law _ _ c.sort_unstable.ensures.sorted (dedup_is _ _ _ c.dedup.ensures.filtered)

pub returns-clause-same : goal.returns-clause-same
returns-clause-same c = same_triples _ matches_eq-law _ _ _ c.sort_unstable.ensures.permutation (dedup_is _ _ _ c.dedup.ensures.filtered)
