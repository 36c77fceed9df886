use Rattle.std.proofs.Common.{◌∙◌, [], sym}
use Rattle.std.proofs.KnownBytes.{Appends-nil}
use Rattle.ast.specs.Meaning.{seq}
use Rattle.ast.specs.ProgramView.{program as program_of}
use Rattle.record_writer.proofs.Onward.{part_got}
use Rattle.interpreter.proofs.run.run_plain.Goals as goal

pub returns-in-Err : goal.returns-in-Err
returns-in-Err g c =
    let known = g.W.Write.contents c.args.writer.now in
    part_got known known (g.W.Write.contents c.write_all.new.writer) c.deref.result.now (seq (program_of c.args.program.now) c.args.input.now).output
    ([], Appends-nil known, sym (c.deref.ensures.value ∙ c.in_ok-answer.ensures.output)) c.in-Err.ensures.err
