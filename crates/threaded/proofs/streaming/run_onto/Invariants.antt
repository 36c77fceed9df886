use Rattle.ast.specs.Meaning.{seq}
use Rattle.ast.specs.ProgramView.{program as program_of}
use Rattle.threaded.proofs.streaming.run_onto.Given as goal

abbrev pub ghost-stream_code : goal.ghost-stream_code
ghost-stream_code g a = (seq (program_of a.coded.now.program) a.input.now).output
