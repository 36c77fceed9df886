use Rattle.engines.proofs.Explaining.{err_behind, ok_behind}
use Rattle.engines.proofs.explained.tell_why.Goals as goal

pub returns-clause-ok : goal.returns-clause-ok
returns-clause-ok g c =
    ok_behind c.tell_rest.result (g.W.Write.contents c.args.out.now) (g.W.Write.contents c.tell.new.out) (g.W.Write.contents c.tell_rest.new.out) c.args.waiting.now.items c.tell.new.waiting.items c.tell_rest.new.waiting.items (_, c.in_ok-tell.ensures.ok) c.tell_rest.ensures.ok

pub returns-clause-err : goal.returns-clause-err
returns-clause-err g c =
    err_behind c.tell_rest.result (g.W.Write.contents c.args.out.now) (g.W.Write.contents c.tell.new.out) (g.W.Write.contents c.tell_rest.new.out) c.args.waiting.now.items c.tell.new.waiting.items (_, c.in_ok-tell.ensures.ok) c.tell_rest.ensures.err
