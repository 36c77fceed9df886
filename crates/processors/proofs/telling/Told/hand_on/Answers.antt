use Rattle.std.proofs.Common.{◌≡◌, ◌+◌, List, length, sym, subst, ℕ}
use Rattle.activities.proofs.Shares.{on_err}
use Rattle.processors.proofs.Shown.{breaks_on, shows_on}
use Rattle.processors.specs.Telling.{BreaksOn, ShowsOn}
use Rattle.processors.proofs.telling.Told.hand_on.Goals as goal

pub returns-in_err-hand_on-clause-err : goal.returns-in_err-hand_on-clause-err
returns-in_err-hand_on-clause-err g c =
    let old = g.W.Write.contents c.args.out.now in
    let new = g.W.Write.contents c.hand_on.new.writer in
    on_err c.from_residual.result (BreaksOn g.C.Call.text c.args.self.now.shown old new)
    (breaks_on g.C.Call.text c.args.self.now.pending.items c.args.self.now.shown old new c.args.self.now.waits c.in_err-hand_on.ensures.err)

pub returns-clause-ok : goal.returns-clause-ok
returns-clause-ok g c =
    let old = g.W.Write.contents c.args.out.now in
    let new = g.W.Write.contents c.hand_on.new.writer in
    let same : c.as_slice-more.result.now ≡ c.args.self.now.pending.items = cc in
    subst (λ (xs : List ℕ). ShowsOn g.C.Call.text c.args.self.now.shown (c.args.self.now.shown + length xs) old new) (sym same)
    (shows_on g.C.Call.text c.args.self.now.pending.items c.args.self.now.shown old new c.args.self.now.waits c.in_ok-hand_on.ensures.ok)
