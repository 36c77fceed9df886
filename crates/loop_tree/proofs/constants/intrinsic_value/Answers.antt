use Rattle.std.proofs.Common.{◌≡◌, ◌∙◌, ap, arith, get_or, of_z, pos, rules, to_z, w64, Ok}
use Rattle.loop_tree.proofs.Intrinsics.{absolute_of, greatest_of, least_of, remainder_of, same_of}
use Rattle.loop_tree.proofs.constants.intrinsic_value.Goals as goal

pub returns-in-Abs : goal.returns-in-Abs
returns-in-Abs c =
    let x = get_or c.args.arguments.now 0 (pos 0) in
    let back : to_z w64 (of_z w64 x) ≡ x = search rules in
    absolute_of c.args.intrinsic c.args.arguments.now _ _ c.in-len1.len_at_least c.in-len1.len_below c.in-Abs.is back c.abs.ensures

pub returns-in-Max : goal.returns-in-Max
returns-in-Max c =
    let x = get_or c.args.arguments.now 0 (pos 0) in
    let back : to_z w64 (of_z w64 x) ≡ x = search rules in
    same_of c.args.intrinsic c.args.arguments.now _ c.in-len1.len_at_least c.in-len1.len_below c.in-Max.is back

pub returns-in-Mod-intrinsic : goal.returns-in-Mod-intrinsic
returns-in-Mod-intrinsic c =
    let x = get_or c.args.arguments.now 0 (pos 0) in
    let y = get_or c.args.arguments.now 1 (pos 0) in
    let back : to_z w64 (of_z w64 x) ≡ x = search rules in
    let next : to_z w64 (of_z w64 y) ≡ y = search rules in
    remainder_of c.args.intrinsic c.args.arguments.now _ _ _ c.in-len2.len_at_least c.in-len2.len_below c.in-Mod-intrinsic.is back next c.modulo.ensures

pub returns-in-Max-intrinsic : goal.returns-in-Max-intrinsic
returns-in-Max-intrinsic c =
    let x = get_or c.args.arguments.now 0 (pos 0) in
    let back : to_z w64 (of_z w64 x) ≡ x = search rules in
    let same : to_z w64 (of_z w64 c.greatest.result) ≡ c.greatest.result = search rules in
    ap Ok same ∙ greatest_of c.args.intrinsic c.args.arguments.now _ _ (omega (arith, c.in-len2.len_at_least)) c.in-Max-intrinsic.is back c.greatest.ensures

pub returns-in-Min : goal.returns-in-Min
returns-in-Min c =
    let x = get_or c.args.arguments.now 0 (pos 0) in
    let back : to_z w64 (of_z w64 x) ≡ x = search rules in
    let same : to_z w64 (of_z w64 c.least.result) ≡ c.least.result = search rules in
    ap Ok same ∙ least_of c.args.intrinsic c.args.arguments.now _ _ (omega (arith, c.in-len2.len_at_least)) c.in-Min.is back c.least.ensures

pub returns-in-Max-intrinsic-2 : goal.returns-in-Max-intrinsic-2
returns-in-Max-intrinsic-2 c =
    let r = c.greatest-in-Max-intrinsic-2.result in
    let x = get_or c.args.arguments.now 0 (pos 0) in
    let back : to_z w64 (of_z w64 x) ≡ x = search rules in
    let same : to_z w64 (of_z w64 r) ≡ r = search rules in
    ap Ok same ∙ greatest_of c.args.intrinsic c.args.arguments.now _ _ (omega (arith, c.in-len3-up.len_at_least)) c.in-Max-intrinsic-2.is back c.greatest-in-Max-intrinsic-2.ensures

pub returns-in-Min-intrinsic : goal.returns-in-Min-intrinsic
returns-in-Min-intrinsic c =
    let r = c.least-in-Min-intrinsic.result in
    let x = get_or c.args.arguments.now 0 (pos 0) in
    let back : to_z w64 (of_z w64 x) ≡ x = search rules in
    let same : to_z w64 (of_z w64 r) ≡ r = search rules in
    ap Ok same ∙ least_of c.args.intrinsic c.args.arguments.now _ _ (omega (arith, c.in-len3-up.len_at_least)) c.in-Min-intrinsic.is back c.least-in-Min-intrinsic.ensures
