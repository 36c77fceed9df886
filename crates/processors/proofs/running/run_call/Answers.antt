use Rattle.processors.proofs.running.run_call.Goals as goal

pub returns-in_default-new-clause-err : goal.returns-in_default-new-clause-err
returns-in_default-new-clause-err g c = c.nothing-in_default-new.ensures.recorded g.C.Call.code g.C.Call.input g.C.Call.processors g.C.Call.slots c.requires.of.sizes

pub returns-in_default-new-2-clause-err : goal.returns-in_default-new-2-clause-err
returns-in_default-new-2-clause-err g c = c.nothing-in_default-new-2.ensures.recorded g.C.Call.code g.C.Call.input g.C.Call.processors g.C.Call.slots c.requires.of.sizes
