use Rattle.machine.specs.CodeView.{code_of}
use Rattle.replay.proofs.Ends.{found_upgrade, no_upgrade, refused_upgrade}
use Rattle.replay.proofs.upgrading.upgrade.Goals as goal

pub returns-in-First-clause-found : goal.returns-in-First-clause-found
returns-in-First-clause-found c =
    found_upgrade (code_of c.args.code.now) c.args.input.now c.args.schedule.now c.in_ok-activities.activities c.with_names.result
    c.in_ok-activities.ensures.are c.in_ok-activities.ensures.point c.with_names.ensures.found

pub returns-in-First-clause-refused : goal.returns-in-First-clause-refused
returns-in-First-clause-refused c =
    refused_upgrade (code_of c.args.code.now) c.args.input.now c.args.schedule.now c.in_ok-activities.activities c.with_names.result
    c.in_ok-activities.ensures.are c.in_ok-activities.ensures.point c.with_names.ensures.refused

pub returns-in-First-clause-only : goal.returns-in-First-clause-only
returns-in-First-clause-only c =
    no_upgrade (code_of c.args.code.now) c.args.input.now c.args.schedule.now c.in_ok-activities.activities c.with_names.result
    c.in_ok-activities.ensures.are c.in_ok-activities.ensures.point c.with_names.ensures.only

pub returns-clause-found : goal.returns-clause-found
returns-clause-found c =
    found_upgrade (code_of c.args.code.now) c.args.input.now c.args.schedule.now c.in_ok-activities.activities c.as_it_is.result
    c.in_ok-activities.ensures.are c.in_ok-activities.ensures.point c.as_it_is.ensures.found

pub returns-clause-refused : goal.returns-clause-refused
returns-clause-refused c =
    refused_upgrade (code_of c.args.code.now) c.args.input.now c.args.schedule.now c.in_ok-activities.activities c.as_it_is.result
    c.in_ok-activities.ensures.are c.in_ok-activities.ensures.point c.as_it_is.ensures.refused

pub returns-clause-only : goal.returns-clause-only
returns-clause-only c =
    no_upgrade (code_of c.args.code.now) c.args.input.now c.args.schedule.now c.in_ok-activities.activities c.as_it_is.result
    c.in_ok-activities.ensures.are c.in_ok-activities.ensures.point c.as_it_is.ensures.only
