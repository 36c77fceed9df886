use Rattle.std.proofs.Common.{subst, sym}
use Rattle.std.proofs.lemmas.Result.{IfOk-weaker}
use Rattle.ast.specs.View.{letters}
use Rattle.loop_tree.specs.TreeView.{seen}
use Rattle.std.specs.Prelude.{map}
use Rattle.placement.specs.Judged.{IsJudged, IsPlaced}
use Rattle.placement.proofs.Opening.{is_open, stays_inside, stays_serial}
use Rattle.placement.proofs.planning.place.Goals as goal

pub returns-in-Serial : goal.returns-in-Serial
returns-in-Serial c = λ whole.
    let l = seen c.args.view.now in
    stays_serial l whole c.args.view.now.told c.serial.result c.args.inside c.in-Serial.reason (subst (λ j. IsJudged l j) c.in-Serial.is c.in_ok-reason.ensures) c.serial.ensures.serial c.serial.ensures.suits

pub returns-in-Suits : goal.returns-in-Suits
returns-in-Suits c = λ whole.
    let l = seen c.args.view.now in
    let found = subst (λ j. IsJudged l j) c.in-Suits.is c.in_ok-reason.ensures in
    let placed = c.serial-in-Suits.result in
    subst (λ b. IsPlaced l b placed) (sym c.if-inside.true)
    (stays_inside l whole c.args.view.now.told placed (map letters c.in-Suits.privates.names.items) c.in-Suits.analysis found.0 found.1 found.2 c.serial-in-Suits.ensures.serial c.serial-in-Suits.ensures.suits)

pub returns-in-Suits-2 : goal.returns-in-Suits-2
returns-in-Suits-2 c =
    let l = seen c.args.view.now in
    let found = subst (λ j. IsJudged l j) c.in-Suits.is c.in_ok-reason.ensures in
    IfOk-weaker c.opened.result _ _
    (λ placed h whole.
    subst (λ b. IsPlaced l b placed) (sym c.if-inside.false)
    (is_open l whole c.args.view.now.told placed (map letters c.in-Suits.privates.names.items) c.in-Suits.analysis found.0 found.1 found.2 (h.1 found) h.0))
    c.opened.ensures
