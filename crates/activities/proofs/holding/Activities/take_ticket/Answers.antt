use Rattle.std.proofs.Common.{◌∙◌, ℕ, refl, sym, ap}
use Rattle.machine.specs.State.{take_ticket}
use Rattle.activities.specs.Activities.{code_in}
use Rattle.activities.specs.Picking.{begun}
use Rattle.activities.specs.declared.parts.Shared.{Shared}
use Rattle.activities.proofs.Picks.{TakenBy, ticket_taken, with_ticket}
use Rattle.activities.proofs.holding.Activities.take_ticket.Goals as goal

pub ticket-k-requires : goal.ticket-k-requires
ticket-k-requires c = c.has_ticket.ensures.few c.if-not-has_ticket.false

pub returns-clause-did : goal.returns-clause-did
returns-clause-did c =
    let old = c.args.self.now in
    let y : Shared = record old.shared { kernel = c.ticket-k.new.self; spare = c.begin.new.spare } in
    let r : TakenBy take_ticket c.args.q old (with_ticket c.args.q c.ticket-k.result c.place_of-at.result y c.in_ok-iteration.iteration old) =
    ticket_taken c.args.q c.ticket-k.result c.place_of-at.result c.in-Some.opened c.ticket-k.new.self y c.in_ok-iteration.iteration old c.requires.stand c.requires.going c.requires.idle c.requires.processor c.in-Some.is (sym c.has_ticket.ensures.may ∙ c.if-not-has_ticket.false)
    (c.has_ticket.ensures.few c.if-not-has_ticket.false) c.ticket-k.ensures.ticket c.place_of-at.ensures c.ticket-k.ensures.kernel refl (c.in_ok-iteration.ensures ∙ ap (λ (n : ℕ). begun (code_in old) c.in-Some.opened n) c.next_ticket-next.ensures) c.ticket-k.ensures.kept in
    r.0

pub returns-clause-stand : goal.returns-clause-stand
returns-clause-stand c =
    let old = c.args.self.now in
    let y : Shared = record old.shared { kernel = c.ticket-k.new.self; spare = c.begin.new.spare } in
    let r : TakenBy take_ticket c.args.q old (with_ticket c.args.q c.ticket-k.result c.place_of-at.result y c.in_ok-iteration.iteration old) =
    ticket_taken c.args.q c.ticket-k.result c.place_of-at.result c.in-Some.opened c.ticket-k.new.self y c.in_ok-iteration.iteration old c.requires.stand c.requires.going c.requires.idle c.requires.processor c.in-Some.is (sym c.has_ticket.ensures.may ∙ c.if-not-has_ticket.false)
    (c.has_ticket.ensures.few c.if-not-has_ticket.false) c.ticket-k.ensures.ticket c.place_of-at.ensures c.ticket-k.ensures.kernel refl (c.in_ok-iteration.ensures ∙ ap (λ (n : ℕ). begun (code_in old) c.in-Some.opened n) c.next_ticket-next.ensures) c.ticket-k.ensures.kept in
    r.1
