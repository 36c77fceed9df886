use Rattle.std.proofs.Common.{map}
use Rattle.ast.specs.View as view
use Rattle.profile_check.proofs.Steps.{whole, kept, all-declared, first-refused}
use Rattle.profile_check.proofs.check.check.Goals as goal

pub returns-clause-kept : goal.returns-clause-kept
returns-clause-kept c =
    kept c.check_all.result (map view.statement c.args.stmts.now)
    (whole c.check_all.result (map view.statement c.args.stmts.now) _ _ c.in_ok-typed.ensures
    (λ i. record { order = c.new.ensures i; declared = c.new-2.ensures.declared i; elements = c.new-2.ensures.elements i; count = 0 }) c.check_all.ensures)

pub returns-clause-declared : goal.returns-clause-declared
returns-clause-declared c =
    all-declared c.check_all.result (map view.statement c.args.stmts.now)
    (whole c.check_all.result (map view.statement c.args.stmts.now) _ _ c.in_ok-typed.ensures
    (λ i. record { order = c.new.ensures i; declared = c.new-2.ensures.declared i; elements = c.new-2.ensures.elements i; count = 0 }) c.check_all.ensures)

pub returns-clause-refused : goal.returns-clause-refused
returns-clause-refused c =
    first-refused c.check_all.result (map view.statement c.args.stmts.now)
    (whole c.check_all.result (map view.statement c.args.stmts.now) _ _ c.in_ok-typed.ensures
    (λ i. record { order = c.new.ensures i; declared = c.new-2.ensures.declared i; elements = c.new-2.ensures.elements i; count = 0 }) c.check_all.ensures)
