use Rattle.std.proofs.Common.{subst, sym, ◌≡◌}
use Rattle.ready_list.specs.Lists.{places_in}
use Rattle.ready_list.proofs.Fresh.{nowhere}
use Rattle.ec_kernel.proofs.Beginning.{made}
use Rattle.ec_kernel.proofs.kernel.Kernel.new.Goals as goal

pub free_all-requires-clause-in_no_list : goal.free_all-requires-clause-in_no_list
free_all-requires-clause-in_no_list c =
    λ s. subst (λ a. places_in s a.lists ≡ 0) (sym c.in_ok-links.ensures.lists) (nowhere s _)

pub invariant_of-result : goal.invariant_of-result
invariant_of-result c =
    (made c.in_ok-links.links c.free_all.new.links c.in_ok-counts.counts.items c.args.slots c.args.events c.in_ok-links.ensures.lists (c.in_ok-counts.ensures.items_if_clones_equal (λ y e. e)) c.free_all.ensures.linked c.free_all.ensures.lists).kept

pub returns-clause-kernel : goal.returns-clause-kernel
returns-clause-kernel c =
    (made c.in_ok-links.links c.free_all.new.links c.in_ok-counts.counts.items c.args.slots c.args.events c.in_ok-links.ensures.lists (c.in_ok-counts.ensures.items_if_clones_equal (λ y e. e)) c.free_all.ensures.linked c.free_all.ensures.lists).is

pub returns-clause-kept : goal.returns-clause-kept
returns-clause-kept c =
    (made c.in_ok-links.links c.free_all.new.links c.in_ok-counts.counts.items c.args.slots c.args.events c.in_ok-links.ensures.lists (c.in_ok-counts.ensures.items_if_clones_equal (λ y e. e)) c.free_all.ensures.linked c.free_all.ensures.lists).kernel
