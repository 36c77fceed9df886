use Rattle.std.proofs.Common.{sym, ◌∙◌}
use Rattle.schedules.proofs.Parsing.{at_bytes, begun_at, headed, no_sizes, only_refused, opened, wants_where}
use Rattle.schedules.specs.Refusals.{IsHeaded}
use Rattle.schedules.specs.declared.flaw.Flaw.TheVariants.{Header}
use Rattle.schedules.proofs.Wholes.{one_schedule, refused_only}
use Rattle.schedules.proofs.schedule.Schedule.parse.Goals as goal

pub returns-in_default-sizes-clause-refused : goal.returns-in_default-sizes-clause-refused
returns-in_default-sizes-clause-refused c =
    no_sizes c.args.bytes.now c.in-Some.version c.in-Some.rest.now (sym c.in-Some.ensures) (sym c.in_default-sizes.ensures)

pub returns-in_default-sizes-clause-only : goal.returns-in_default-sizes-clause-only
returns-in_default-sizes-clause-only c =
    refused_only c.args.bytes.now Header 2 (no_sizes c.args.bytes.now c.in-Some.version c.in-Some.rest.now (sym c.in-Some.ensures) (sym c.in_default-sizes.ensures))

pub new-schedule-requires : goal.new-schedule-requires
new-schedule-requires c = record {
  sizes = (opened c.args.bytes.now c.in-Some.version c.in-Some.rest.now c.in-Some-sizes.processors c.in-Some-sizes.slots c.in-Some-sizes.rest.now (sym c.in-Some.ensures) (sym c.in-Some-sizes.ensures)).0;
}

pub returns-in-Ok-clause-found : goal.returns-in-Ok-clause-found
returns-in-Ok-clause-found c =
    let begun = begun_at c.args.bytes.now c.in-Some.version c.in-Some.rest.now c.in-Some-sizes.processors c.in-Some-sizes.slots c.in-Some-sizes.rest.now c.new-schedule.result
    (sym c.in-Some.ensures) (sym c.in-Some-sizes.ensures) c.new-schedule.ensures.new in
    record { schedule = c.in-Ok.ensures.kept; spelled = begun ∙ sym c.in-Ok.ensures.ok }

pub returns-in-Err-clause-refused : goal.returns-in-Err-clause-refused
returns-in-Err-clause-refused c =
    let begun = begun_at c.args.bytes.now c.in-Some.version c.in-Some.rest.now c.in-Some-sizes.processors c.in-Some-sizes.slots c.in-Some-sizes.rest.now c.new-schedule.result
    (sym c.in-Some.ensures) (sym c.in-Some-sizes.ensures) c.new-schedule.ensures.new in
    at_bytes _ c.args.bytes.now c.in-Err.refusal begun c.in-Err.ensures.err

pub returns-in-Err-clause-only : goal.returns-in-Err-clause-only
returns-in-Err-clause-only c =
    let begun = begun_at c.args.bytes.now c.in-Some.version c.in-Some.rest.now c.in-Some-sizes.processors c.in-Some-sizes.slots c.in-Some-sizes.rest.now c.new-schedule.result
    (sym c.in-Some.ensures) (sym c.in-Some-sizes.ensures) c.new-schedule.ensures.new in
    only_refused c.args.bytes.now c.in-Err.refusal (at_bytes _ c.args.bytes.now c.in-Err.refusal begun c.in-Err.ensures.err)

pub returns-in-Err-clause-memory : goal.returns-in-Err-clause-memory
returns-in-Err-clause-memory c =
    wants_where c.in-Err.refusal (IsHeaded c.args.bytes.now)
    (headed c.args.bytes.now c.in-Some.version c.in-Some.rest.now c.in-Some-sizes.processors c.in-Some-sizes.slots c.in-Some-sizes.rest.now (sym c.in-Some.ensures) (sym c.in-Some-sizes.ensures))

pub returns-in_default-sizes-clause-one : goal.returns-in_default-sizes-clause-one
returns-in_default-sizes-clause-one c = one_schedule c.args.bytes.now

pub returns-in-Ok-clause-one : goal.returns-in-Ok-clause-one
returns-in-Ok-clause-one c = one_schedule c.args.bytes.now

pub returns-in-Err-clause-one : goal.returns-in-Err-clause-one
returns-in-Err-clause-one c = one_schedule c.args.bytes.now
