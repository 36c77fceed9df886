use Rattle.engines.proofs.Explaining.{err_behind, err_some, ok_behind, ok_some}
use Rattle.engines.proofs.explained.tell_rest.Goals as goal

pub returns-clause-ok : goal.returns-clause-ok
returns-clause-ok g c =
    let o = g.W.Write.contents c.args.out.now in
    let m = g.W.Write.contents c.tell_if_pairs.new.out in
    let n = g.W.Write.contents c.tell.new.out in
    ok_behind c.tell.result o m n c.args.waiting.now.items c.tell_if_pairs.new.waiting.items c.tell.new.waiting.items c.in_ok-tell_if_pairs.ensures.ok
    (ok_some c.tell.result m n c.tell_if_pairs.new.waiting.items c.tell.new.waiting.items _ c.tell.ensures.ok)

pub returns-clause-err : goal.returns-clause-err
returns-clause-err g c =
    let o = g.W.Write.contents c.args.out.now in
    let m = g.W.Write.contents c.tell_if_pairs.new.out in
    let n = g.W.Write.contents c.tell.new.out in
    err_behind c.tell.result o m n c.args.waiting.now.items c.tell_if_pairs.new.waiting.items c.in_ok-tell_if_pairs.ensures.ok
    (err_some c.tell.result m n c.tell_if_pairs.new.waiting.items _ c.tell.ensures.err)
