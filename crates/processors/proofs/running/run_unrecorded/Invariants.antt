use Rattle.std.specs.Prelude.{[], false}
use Rattle.machine.specs.CodeView.{code_of}
use Rattle.processors.proofs.running.run_unrecorded.Given as goal

abbrev pub ghosts-answer_call : goal.ghosts-answer_call
ghosts-answer_call g a = record { code = code_of a.code.now; input = a.run.input; processors = a.run.processors; slots = a.run.slots; streams = false; text = [] }
