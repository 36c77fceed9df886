use Rattle.activities.proofs.holding.Activities.pick.Goals as goal

pub returns-in-Main-clause-did : goal.returns-in-Main-clause-did
returns-in-Main-clause-did c = rw c.in-Main.is c.pick_main.ensures.did

pub returns-in-Ticket-clause-did : goal.returns-in-Ticket-clause-did
returns-in-Ticket-clause-did c = rw c.in-Ticket.is c.take_ticket.ensures.did
