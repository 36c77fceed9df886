use Rattle.std.proofs.Common.{◌∙◌, ◌&&◌, refl, ap, ap₂, sym, not, map, filter}
use Rattle.indexmap.specs.IndexSet.{insert_all}
use Rattle.ast.specs.Store.{same_name}
use Rattle.ast.specs.View as view
use Rattle.ast.specs.declared.rule.Rule.TheVariants.{NotInteger, DeclaredTwice, WrongSubscripts, ActiveVariable, ChangedConstant, CrossedBounds, LargeProgram, NoValue, WrongKind}
use Rattle.structure.specs.Open.{is_active}
use Rattle.structure.specs.Standing.{standing}
use Rattle.profile_check.specs.Counted.{counted}
use Rattle.profile_check.specs.Declarations.{arrays_by}
use Rattle.profile_check.specs.DeclaredView.{arrays_of, constants_of}
use Rattle.profile_check.specs.Rules as spec
use Rattle.profile_check.specs.Uses.{has_bounds}
use Rattle.profile_check.proofs.Chosen.{pass, hit, known, on_uses, on_bounds, on_larger}
use Rattle.profile_check.proofs.declarations.Declarations.rule_broken.Goals as goal

pub returns-then-changes_constant-clause-rule : goal.returns-then-changes_constant-clause-rule
returns-then-changes_constant-clause-rule c =
    pass NotInteger (known c.names_real.ensures c.if-names_real.false)
    (pass DeclaredTwice (known c.in_ok-declares_again.ensures.again c.if-branch.false)
    (pass WrongSubscripts (on_uses (spec.is_miscounted (arrays_of c.args.self.now.arrays.entries)) c.miscounts.ensures c.requires c.if-miscounts.false)
    (pass ActiveVariable (on_uses (λ u. u.is_given && is_active (standing c.args.structure.now).opened u.name) c.changes_active.ensures c.requires c.if-changes_active.false)
    (hit ChangedConstant _ (on_uses (λ u. u.is_given && spec.is_constant (constants_of c.args.self.now.constants.entries) u.name) c.changes_constant.ensures c.requires c.if-changes_constant.true)))))

pub returns-then-crosses_bounds-clause-rule : goal.returns-then-crosses_bounds-clause-rule
returns-then-crosses_bounds-clause-rule c =
    pass NotInteger (known c.names_real.ensures c.if-names_real.false)
    (pass DeclaredTwice (known c.in_ok-declares_again.ensures.again c.if-branch.false)
    (pass WrongSubscripts (on_uses (spec.is_miscounted (arrays_of c.args.self.now.arrays.entries)) c.miscounts.ensures c.requires c.if-miscounts.false)
    (pass ActiveVariable (on_uses (λ u. u.is_given && is_active (standing c.args.structure.now).opened u.name) c.changes_active.ensures c.requires c.if-changes_active.false)
    (pass ChangedConstant (on_uses (λ u. u.is_given && spec.is_constant (constants_of c.args.self.now.constants.entries) u.name) c.changes_constant.ensures c.requires c.if-changes_constant.false)
    (hit CrossedBounds _ (on_bounds (spec.is_ill_bounded (constants_of c.args.self.now.constants.entries)) c.crosses_bounds.ensures c.declarators_of.ensures c.if-crosses_bounds.true))))))

pub returns-then-is_larger-clause-rule : goal.returns-then-is_larger-clause-rule
returns-then-is_larger-clause-rule c =
    pass NotInteger (known c.names_real.ensures c.if-names_real.false)
    (pass DeclaredTwice (known c.in_ok-declares_again.ensures.again c.if-branch.false)
    (pass WrongSubscripts (on_uses (spec.is_miscounted (arrays_of c.args.self.now.arrays.entries)) c.miscounts.ensures c.requires c.if-miscounts.false)
    (pass ActiveVariable (on_uses (λ u. u.is_given && is_active (standing c.args.structure.now).opened u.name) c.changes_active.ensures c.requires c.if-changes_active.false)
    (pass ChangedConstant (on_uses (λ u. u.is_given && spec.is_constant (constants_of c.args.self.now.constants.entries) u.name) c.changes_constant.ensures c.requires c.if-changes_constant.false)
    (pass CrossedBounds (on_bounds (spec.is_ill_bounded (constants_of c.args.self.now.constants.entries)) c.crosses_bounds.ensures c.declarators_of.ensures c.if-crosses_bounds.false)
    (hit LargeProgram _ (on_larger c.args.statements (standing c.args.structure.now).opened (view.kind c.args.stmt.now.kind) c.args.self.now.elements _ c.is_larger.ensures
    (c.in_ok-add_all.ensures ∙ ap (λ ns. insert_all same_name (map view.letters c.args.self.now.names.keys) ns) (ap (map view.letters) c.deref-2.ensures.value ∙ c.in_ok-names.ensures))
    (c.in_ok-elements.ensures.elements
    ∙ ap₂ (λ n ds. counted n (arrays_by (constants_of c.args.self.now.constants.entries) (filter has_bounds ds))) c.from.ensures c.declarators_of-2.ensures) c.if-is_larger.true)))))))

pub returns-then-branch-2-clause-rule : goal.returns-then-branch-2-clause-rule
returns-then-branch-2-clause-rule c =
    pass NotInteger (known c.names_real.ensures c.if-names_real.false)
    (pass DeclaredTwice (known c.in_ok-declares_again.ensures.again c.if-branch.false)
    (pass WrongSubscripts (on_uses (spec.is_miscounted (arrays_of c.args.self.now.arrays.entries)) c.miscounts.ensures c.requires c.if-miscounts.false)
    (pass ActiveVariable (on_uses (λ u. u.is_given && is_active (standing c.args.structure.now).opened u.name) c.changes_active.ensures c.requires c.if-changes_active.false)
    (pass ChangedConstant (on_uses (λ u. u.is_given && spec.is_constant (constants_of c.args.self.now.constants.entries) u.name) c.changes_constant.ensures c.requires c.if-changes_constant.false)
    (pass CrossedBounds (on_bounds (spec.is_ill_bounded (constants_of c.args.self.now.constants.entries)) c.crosses_bounds.ensures c.declarators_of.ensures c.if-crosses_bounds.false)
    (pass LargeProgram (on_larger c.args.statements (standing c.args.structure.now).opened (view.kind c.args.stmt.now.kind) c.args.self.now.elements _ c.is_larger.ensures
    (c.in_ok-add_all.ensures ∙ ap (λ ns. insert_all same_name (map view.letters c.args.self.now.names.keys) ns) (ap (map view.letters) c.deref-2.ensures.value ∙ c.in_ok-names.ensures))
    (c.in_ok-elements.ensures.elements
    ∙ ap₂ (λ n ds. counted n (arrays_by (constants_of c.args.self.now.constants.entries) (filter has_bounds ds))) c.from.ensures c.declarators_of-2.ensures) c.if-is_larger.false)
    (hit NoValue _ (known c.in_ok-lacks_value.ensures.lacks c.if-branch-2.true))))))))

pub returns-then-not-is_well_kinded-clause-rule : goal.returns-then-not-is_well_kinded-clause-rule
returns-then-not-is_well_kinded-clause-rule c =
    pass NotInteger (known c.names_real.ensures c.if-names_real.false)
    (pass DeclaredTwice (known c.in_ok-declares_again.ensures.again c.if-branch.false)
    (pass WrongSubscripts (on_uses (spec.is_miscounted (arrays_of c.args.self.now.arrays.entries)) c.miscounts.ensures c.requires c.if-miscounts.false)
    (pass ActiveVariable (on_uses (λ u. u.is_given && is_active (standing c.args.structure.now).opened u.name) c.changes_active.ensures c.requires c.if-changes_active.false)
    (pass ChangedConstant (on_uses (λ u. u.is_given && spec.is_constant (constants_of c.args.self.now.constants.entries) u.name) c.changes_constant.ensures c.requires c.if-changes_constant.false)
    (pass CrossedBounds (on_bounds (spec.is_ill_bounded (constants_of c.args.self.now.constants.entries)) c.crosses_bounds.ensures c.declarators_of.ensures c.if-crosses_bounds.false)
    (pass LargeProgram (on_larger c.args.statements (standing c.args.structure.now).opened (view.kind c.args.stmt.now.kind) c.args.self.now.elements _ c.is_larger.ensures
    (c.in_ok-add_all.ensures ∙ ap (λ ns. insert_all same_name (map view.letters c.args.self.now.names.keys) ns) (ap (map view.letters) c.deref-2.ensures.value ∙ c.in_ok-names.ensures))
    (c.in_ok-elements.ensures.elements
    ∙ ap₂ (λ n ds. counted n (arrays_by (constants_of c.args.self.now.constants.entries) (filter has_bounds ds))) c.from.ensures c.declarators_of-2.ensures) c.if-is_larger.false)
    (pass NoValue (known c.in_ok-lacks_value.ensures.lacks c.if-branch-2.false)
    (hit WrongKind _ (ap not (sym c.is_well_kinded.ensures ∙ c.if-not-is_well_kinded.true))))))))))

pub returns-clause-rule : goal.returns-clause-rule
returns-clause-rule c =
    pass NotInteger (known c.names_real.ensures c.if-names_real.false)
    (pass DeclaredTwice (known c.in_ok-declares_again.ensures.again c.if-branch.false)
    (pass WrongSubscripts (on_uses (spec.is_miscounted (arrays_of c.args.self.now.arrays.entries)) c.miscounts.ensures c.requires c.if-miscounts.false)
    (pass ActiveVariable (on_uses (λ u. u.is_given && is_active (standing c.args.structure.now).opened u.name) c.changes_active.ensures c.requires c.if-changes_active.false)
    (pass ChangedConstant (on_uses (λ u. u.is_given && spec.is_constant (constants_of c.args.self.now.constants.entries) u.name) c.changes_constant.ensures c.requires c.if-changes_constant.false)
    (pass CrossedBounds (on_bounds (spec.is_ill_bounded (constants_of c.args.self.now.constants.entries)) c.crosses_bounds.ensures c.declarators_of.ensures c.if-crosses_bounds.false)
    (pass LargeProgram (on_larger c.args.statements (standing c.args.structure.now).opened (view.kind c.args.stmt.now.kind) c.args.self.now.elements _ c.is_larger.ensures
    (c.in_ok-add_all.ensures ∙ ap (λ ns. insert_all same_name (map view.letters c.args.self.now.names.keys) ns) (ap (map view.letters) c.deref-2.ensures.value ∙ c.in_ok-names.ensures))
    (c.in_ok-elements.ensures.elements
    ∙ ap₂ (λ n ds. counted n (arrays_by (constants_of c.args.self.now.constants.entries) (filter has_bounds ds))) c.from.ensures c.declarators_of-2.ensures) c.if-is_larger.false)
    (pass NoValue (known c.in_ok-lacks_value.ensures.lacks c.if-branch-2.false)
    (pass WrongKind (ap not (sym c.is_well_kinded.ensures ∙ c.if-not-is_well_kinded.false))
    (refl)))))))))
