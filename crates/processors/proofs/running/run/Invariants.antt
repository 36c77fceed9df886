use Rattle.std.specs.Prelude.{[], false}
use Rattle.machine.specs.CodeView.{code_of}
use Rattle.processors.proofs.running.run.Given as goal

abbrev pub ghosts-run_call : goal.ghosts-run_call
ghosts-run_call g a = record { code = code_of a.code.now; input = a.core.input; processors = a.core.schedule.processors; slots = a.core.schedule.slots; streams = false; text = [] }
