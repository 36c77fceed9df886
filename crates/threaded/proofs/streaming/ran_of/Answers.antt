use Rattle.std.proofs.Common.{Result, sym, subst, map}
use Rattle.ast.specs.View.{symbol as symbol_of}
use Rattle.ast.specs.declared.answer.Answer.{Answer}
use Rattle.processors.specs.declared.report.RunRefusal.{RunRefusal}
use Rattle.threaded.specs.Streaming.{ShowsCame}
use Rattle.threaded.proofs.streaming.ran_of.Goals as goal

pub returns-in-Ok : goal.returns-in-Ok
returns-in-Ok c = subst (λ (r : Result Answer RunRefusal). ShowsCame c.args.store (map symbol_of c.args.program.now.symbols.items) r c.ended.result) (sym c.in-Ok.is) c.ended.ensures

pub returns-in-Err : goal.returns-in-Err
returns-in-Err c = subst (λ (r : Result Answer RunRefusal). ShowsCame c.args.store (map symbol_of c.args.program.now.symbols.items) r c.unanswered.result) (sym c.in-Err.is) c.unanswered.ensures
