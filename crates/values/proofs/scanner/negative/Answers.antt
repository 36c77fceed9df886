use Rattle.std.proofs.Common.{◌≡◌, ◌∙◌, Some, ap, rules, to_z, of_z, w64}
use Rattle.std.specs.Prelude.{neg_ℤ, pos}
use Rattle.values.proofs.Scanning.{negative_some}
use Rattle.values.proofs.scanner.negative.Goals as goal

pub returns-in-Some : goal.returns-in-Some
returns-in-Some c =
    let exact : to_z w64 (of_z w64 c.opposite.result) ≡ neg_ℤ (pos c.in-Some.number) = search rules in
    ap Some exact ∙ negative_some c.args.digits.now c.in-Some.number c.in-Some.ensures.value
