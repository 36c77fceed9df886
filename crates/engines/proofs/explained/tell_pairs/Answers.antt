use Rattle.engines.proofs.Explaining.{err_behind, ok_behind}
use Rattle.engines.proofs.explained.tell_pairs.Goals as goal

pub returns-clause-ok : goal.returns-clause-ok
returns-clause-ok g c =
    ok_behind c.tell_runs-2.result (g.W.Write.contents c.args.out.now) (g.W.Write.contents c.tell_runs.new.out) (g.W.Write.contents c.tell_runs-2.new.out) c.args.waiting.now.items c.tell_runs.new.waiting.items c.tell_runs-2.new.waiting.items c.in_ok-tell_runs.ensures.ok c.tell_runs-2.ensures.ok

pub returns-clause-err : goal.returns-clause-err
returns-clause-err g c =
    err_behind c.tell_runs-2.result (g.W.Write.contents c.args.out.now) (g.W.Write.contents c.tell_runs.new.out) (g.W.Write.contents c.tell_runs-2.new.out) c.args.waiting.now.items c.tell_runs.new.waiting.items c.in_ok-tell_runs.ensures.ok c.tell_runs-2.ensures.err
