use Rattle.processors.proofs.Shown.{if_err}
use Rattle.processors.proofs.running.answer_call.Goals as goal

pub returns-in_default-clause-left : goal.returns-in_default-clause-left
returns-in_default-clause-left g c =
    if_err _ _ _ c.unshown.ensures.came (c.nothing.ensures.unrecorded g.C.Call.code g.C.Call.input g.C.Call.processors g.C.Call.slots c.requires.of.sizes)

pub returns-in_default-new-clause-left : goal.returns-in_default-new-clause-left
returns-in_default-new-clause-left g c =
    if_err _ _ _ c.unshown-in_default-new.ensures.came (c.nothing-in_default-new.ensures.unrecorded g.C.Call.code g.C.Call.input g.C.Call.processors g.C.Call.slots c.requires.of.sizes)

pub returns-in_default-new-2-clause-left : goal.returns-in_default-new-2-clause-left
returns-in_default-new-2-clause-left g c =
    if_err _ _ _ c.unshown-in_default-new-2.ensures.came (c.nothing-in_default-new-2.ensures.unrecorded g.C.Call.code g.C.Call.input g.C.Call.processors g.C.Call.slots c.requires.of.sizes)
