use Rattle.std.proofs.Common.{◌∙◌, refl, sym}
use Rattle.activities.specs.Activities.{code_in, kept_in}
use Rattle.activities.proofs.Choosing.{main_not_picked}
use Rattle.activities.proofs.Picks.{TakenBy, main_taken, with_main}
use Rattle.machine.specs.State.{take_main}
use Rattle.activities.proofs.holding.Activities.pick_main.Goals as goal

pub returns-then-not-is_due-clause-did : goal.returns-then-not-is_due-clause-did
returns-then-not-is_due-clause-did c =
    (refl, λ b p. main_not_picked (code_in c.args.self.now) c.args.self.now.slots c.args.q (kept_in c.args.self.now) b c.requires.stand.core (sym c.is_due.ensures ∙ c.if-not-is_due.true) p)

pub returns-clause-did : goal.returns-clause-did
returns-clause-did c =
    let r : TakenBy take_main c.args.q c.args.self.now (with_main c.args.q c.take_ready.new.self c.args.self.now) =
    main_taken c.args.q c.take_ready.new.self c.args.self.now c.requires.stand c.requires.going c.requires.idle c.requires.processor (sym c.is_due.ensures ∙ c.if-not-is_due.false) c.take_ready.ensures.kernel c.take_ready.ensures.kept in
    r.0

pub returns-clause-stand : goal.returns-clause-stand
returns-clause-stand c =
    let r : TakenBy take_main c.args.q c.args.self.now (with_main c.args.q c.take_ready.new.self c.args.self.now) =
    main_taken c.args.q c.take_ready.new.self c.args.self.now c.requires.stand c.requires.going c.requires.idle c.requires.processor (sym c.is_due.ensures ∙ c.if-not-is_due.false) c.take_ready.ensures.kernel c.take_ready.ensures.kept in
    r.1
