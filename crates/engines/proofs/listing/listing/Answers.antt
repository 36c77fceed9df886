use Rattle.engines.specs.Listing.{Lines}
use Rattle.engines.proofs.Listings.{listed_more}
use Rattle.engines.proofs.listing.listing.Goals as goal

pub loop-place-preserved : goal.loop-place-preserved
loop-place-preserved c =
    listed_more Lines c.args.reports.now c.loop-place.place c.index-reports-place.result c.loop-place.text.items c.append_report.new.out.items c.loop-place-test.true c.index-reports-place.is c.loop-place.invariant c.in_ok-append_report.ensures
