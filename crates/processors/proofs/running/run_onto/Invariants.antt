use Rattle.std.specs.Prelude.{true}
use Rattle.machine.specs.CodeView.{code_of}
use Rattle.processors.proofs.running.run_onto.Given as goal

abbrev pub ghosts-answer_call : goal.ghosts-answer_call
ghosts-answer_call g a = record { code = code_of a.code.now; input = a.run.input; processors = a.run.processors; slots = a.run.slots; streams = true; text = g.text }
