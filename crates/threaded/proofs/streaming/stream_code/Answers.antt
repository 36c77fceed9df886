use Rattle.std.proofs.Common.{◌≡◌, rules}
use Rattle.ast.specs.ProgramView.{program as program_of}
use Rattle.machine.specs.CodeView.{code_of}
use Rattle.threaded.proofs.Streamed.{begins_all, streams_from}
use Rattle.threaded.proofs.streaming.stream_code.Goals as goal

pub run_onto-writer-requires : goal.run_onto-writer-requires
run_onto-writer-requires g c κs within =
    let begins = begins_all (program_of c.args.coded.now.program) (code_of c.args.coded.now.code) c.args.input.now g.text c.args.wants.processors c.args.wants.slots c.requires.1.1.1.0.1 c.requires.1.1.1.1 in
    (search rules, (search rules, (search rules, (search rules, (search rules, begins)))))

pub returns-in-Ok : goal.returns-in-Ok
returns-in-Ok g c =
    let ran = c.run_onto-writer in
    let was : g.W.Write.contents c.replace-writer.result ≡ g.W.Write.contents c.args.out.now = cc in
    streams_from (program_of c.args.coded.now.program) (code_of c.args.coded.now.code) c.args.input.now g.text c.args.wants ran.result.1 c.in-Ok.field-0 c.ran_of-ran.result
    (g.W.Write.contents c.replace-writer.result) (g.W.Write.contents c.args.out.now) (g.W.Write.contents ran.result.0) (g.W.Write.contents c.write_rest.new.out) c.write_rest.result
    c.requires.1.1.1.0.0 c.requires.1.1.1.0.1 c.requires.1.1.1.1 was c.in-Ok.is ran.ensures.ok ran.ensures.refused ran.ensures.shown ran.ensures.none c.ran_of-ran.ensures c.write_rest.ensures
