use Rattle.std.proofs.Common.{◌≡◌, Err, rules}
use Rattle.command_output.specs.Outcomes.{status_of}
use Rattle.command_output.specs.Status.{number_of}
use Rattle.engines.proofs.Faults.{on_fault}
use Rattle.engines.proofs.Upgrading.{given_as, given_err}
use Rattle.engines.proofs.commands.upgrade.Goals as goal

pub returns-clause-ok : goal.returns-clause-ok
returns-clause-ok g c =
    let t = c.in_ok-texts.texts in
    let first : c.deref.result.now ≡ t.source.items = search rules in
    let second : c.deref-2.result.now ≡ t.input.items = search rules in
    let third : c.deref-3.result.now ≡ t.schedule.items = search rules in
    let is : c.number.result ≡ number_of (status_of c.in_ok-outcome.outcome) = cc in
    given_as (g.R.Read.remaining c.args.source.now) (g.I.Read.remaining c.args.input.now) (g.S.Read.remaining c.args.schedule.now) t
    c.deref.result.now c.deref-2.result.now c.deref-3.result.now first second third
    (g.W.Write.contents c.args.out.now) (g.W.Write.contents c.upgrade_given.new.out) (g.V.Write.contents c.args.upgraded.now) (g.V.Write.contents c.upgrade_given.new.upgraded)
    c.in_ok-outcome.outcome c.number.result is c.in_ok-texts.ensures.texts c.in_ok-outcome.ensures

pub returns-in_err-outcome-clause-err : goal.returns-in_err-outcome-clause-err
returns-in_err-outcome-clause-err g c =
    let t = c.in_ok-texts.texts in
    let first : c.deref.result.now ≡ t.source.items = search rules in
    let second : c.deref-2.result.now ≡ t.input.items = search rules in
    let third : c.deref-3.result.now ≡ t.schedule.items = search rules in
    let fault = c.in_err-outcome.field-0.0 in
    on_fault c.from_residual-in_err-outcome.result fault _ c.from_residual-in_err-outcome.ensures.1
    (given_err (g.R.Read.remaining c.args.source.now) (g.I.Read.remaining c.args.input.now) (g.S.Read.remaining c.args.schedule.now) t
    c.deref.result.now c.deref-2.result.now c.deref-3.result.now first second third
    (g.W.Write.contents c.args.out.now) (g.W.Write.contents c.upgrade_given.new.out) (g.V.Write.contents c.args.upgraded.now) (g.V.Write.contents c.upgrade_given.new.upgraded)
    (Err fault) c.in_ok-texts.ensures.texts c.in_err-outcome.ensures)
