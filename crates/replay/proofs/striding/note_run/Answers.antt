use Rattle.std.proofs.Common.{ap, ◌∙◌}
use Rattle.schedules.specs.Schedules.{Schedule, with_entry, works}
use Rattle.replay.proofs.Noting.{run_alone, run_longer}
use Rattle.replay.proofs.striding.note_run.Goals as goal

pub returns-then-lengthen-clause-ok : goal.returns-then-lengthen-clause-ok
returns-then-lengthen-clause-ok c = run_longer c.args.q c.args.steps c.args.schedule.now c.lengthen.new.self (c.lengthen.ensures.longer c.if-lengthen.true)

pub returns-clause-ok : goal.returns-clause-ok
returns-clause-ok c =
    run_alone c.args.q c.args.steps c.args.schedule.now c.push.new.self c.requires.some c.requires.few
    (c.in_ok-push.ensures.ok ∙ ap (λ (z : Schedule). with_entry z (record { processor = c.args.q; act = works c.args.steps })) (c.lengthen.ensures.same c.if-lengthen.false))
