use Rattle.std.proofs.Common.{◌≡◌, ◌≤◌, ◌∙◌, Some, ap, to_z, w64, arith}
use Rattle.std.proofs.lemmas.Int.{ints}
use Rattle.std.specs.Prelude.{pos}
use Rattle.values.proofs.Scanning.{positive_some}
use Rattle.values.proofs.scanner.positive.Goals as goal

pub returns-in-Some : goal.returns-in-Some
returns-in-Some c =
    let within : c.in-Some.number ≤ 9223372036854775807 = c.in-Some.ensures.within in
    let exact : to_z w64 c.in-Some.number ≡ pos c.in-Some.number = omega (arith, ints, within) in
    ap Some exact ∙ positive_some c.args.digits.now c.in-Some.number c.in-Some.ensures.value
