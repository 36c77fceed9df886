use Rattle.engines.proofs.Lists.{of_written_page}
use Rattle.engines.proofs.commands.tell_listing.Goals as goal

pub returns-in-Refused : goal.returns-in-Refused
returns-in-Refused g c =
    rw c.in-Refused.is (of_written_page c.in-Refused.page _ _ c.write-in-Refused.result c.write-in-Refused.ensures.ok c.write-in-Refused.ensures.err)
