use Rattle.std.proofs.Common.{◌≡◌, ◌∙◌, ◌≤◌, ◌^◌, Ok, sym, ap, arith, rules, w64, to_z, of_z}
use Rattle.std.specs.Prelude.{pos, unsigned_abs}
use Rattle.std.proofs.lemmas.Int.{ints}
use Rattle.activities.proofs.Values.{far_off, standing_still}
use Rattle.activities.proofs.values_at.long_value.Goals as goal

pub returns-then-step-eq0 : goal.returns-then-step-eq0
returns-then-step-eq0 c =
    let r : to_z w64 (of_z w64 c.args.first) ≡ c.args.first = search rules in
    let s : to_z w64 (of_z w64 c.args.step) ≡ c.args.step = search rules in
    let z : c.args.step ≡ pos 0 = sym s ∙ ap (to_z w64) c.if-step-eq0.true in
    ap (λ v. Ok v) r ∙ sym (standing_still c.args.first c.args.step c.args.trips c.ranges.first z)

pub returns-then-trips-gt-MOST_TRIPS : goal.returns-then-trips-gt-MOST_TRIPS
returns-then-trips-gt-MOST_TRIPS c =
    let h : unsigned_abs c.args.first ≤ 2 ^ 63 = omega (arith, ints) in
    sym (far_off c.args.first c.args.step c.args.trips h c.if-step-eq0.false (omega arith))
