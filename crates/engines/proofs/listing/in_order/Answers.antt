use Rattle.std.proofs.Common.{map, refl, subst}
use Rattle.std.proofs.lemmas.List.Sorted.{IsPermutation-map}
use Rattle.ast.specs.View.{letters}
use Rattle.engines.specs.Listing.{InByteOrder}
use Rattle.engines.proofs.Listings.{sorted_names}
use Rattle.engines.proofs.listing.in_order.Goals as goal

pub returns : goal.returns
returns c =
    subst (λ ns. InByteOrder (map letters ns) (map letters c.sort_unstable.new.self.items)) c.in_ok-sorted.ensures.items (record {
      same = IsPermutation-map letters _ _ c.sort_unstable.ensures.permutation;
      order = sorted_names _ (λ a b. refl) c.sort_unstable.new.self.items c.sort_unstable.ensures.sorted;
    })
