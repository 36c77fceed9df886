use Rattle.std.proofs.Common.{refl, ◌+◌}
use Rattle.machine.specs.CodeView.{code_of}
use Rattle.replay.proofs.Ends.{gives_none, is_replay, never_ends, not_ended, nowhere_ends}
use Rattle.replay.proofs.replaying.replay.Goals as goal

pub returns-in-Err-clause-refused : goal.returns-in-Err-clause-refused
returns-in-Err-clause-refused c =
    gives_none (code_of c.args.code.now) c.args.input.now c.args.schedule.now c.in_ok-activities.activities c.in-Err.refusal
    c.in_ok-activities.ensures.are c.in_ok-activities.ensures.point c.in-Err.ensures.refused

pub returns-in-Err-clause-only : goal.returns-in-Err-clause-only
returns-in-Err-clause-only c =
    nowhere_ends (code_of c.args.code.now) c.args.input.now c.args.schedule.now c.in_ok-activities.activities c.in-Err.refusal
    c.in_ok-activities.ensures.are c.in_ok-activities.ensures.point c.in-Err.ensures.only

pub returns-in_default-ended-clause-refused : goal.returns-in_default-ended-clause-refused
returns-in_default-ended-clause-refused c =
    not_ended (code_of c.args.code.now) c.args.input.now c.args.schedule.now c.in_ok-activities.activities c.follow.new.activities c.len.result (2 + c.len.result)
    c.in_ok-activities.ensures.are c.in_ok-activities.ensures.point c.in_default.ensures.leads c.in_default-ended.is c.len.ensures.is refl

pub returns-in_default-ended-clause-only : goal.returns-in_default-ended-clause-only
returns-in_default-ended-clause-only c =
    never_ends (code_of c.args.code.now) c.args.input.now c.args.schedule.now c.in_ok-activities.activities c.follow.new.activities
    c.in_ok-activities.ensures.are c.in_ok-activities.ensures.point c.in_default.ensures.leads c.in_default-ended.is

pub returns-clause-found : goal.returns-clause-found
returns-clause-found c =
    is_replay (code_of c.args.code.now) c.args.input.now c.args.schedule.now c.in_ok-activities.activities c.follow.new.activities c.in_ok-answer_of.field-0 c.in-Some.end
    c.in_ok-activities.ensures.are c.in_ok-activities.ensures.point c.in_default.ensures.leads c.in_default.ensures.stays c.in-Some.is
    c.in_ok-answer_of.ensures.output c.in_ok-answer_of.ensures.store c.in_ok-answer_of.ensures.end
