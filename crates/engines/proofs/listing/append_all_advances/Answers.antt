use Rattle.std.proofs.Common.{◌≡◌, ◌+◌, ◌++◌, false, rules, true}
use Rattle.engines.specs.Listing.{advance_lines}
use Rattle.engines.proofs.Listings.{one_event}
use Rattle.engines.proofs.listing.append_all_advances.Goals as goal

pub loop-place-preserved : goal.loop-place-preserved
loop-place-preserved c =
    let event = c.loop-place.place + 1 in
    let xs = c.args.advanced.now in
    let grown : c.append_advances_of.new.out.items ≡ c.loop-place.out.items ++ (advance_lines event true xs ++ advance_lines event false xs) = search (rules, c.in_ok-append_advances_of.ensures) in
    one_event c.args.sources.now c.loop-place.place xs c.loop-place.out.items c.append_advances_of.new.out.items _ c.loop-place-test.true grown c.loop-place.invariant
