use Rattle.std.proofs.Common.{◌≡◌, ◌<◌, length, map, rules, subst}
use Rattle.std.specs.Bool.{Decides}
use Rattle.machine.specs.CodeView.{part}
use Rattle.machine.proofs.Equal.{item_differs}
use Rattle.machine.proofs.alike.same_records.Goals as goal

pub returns-then-not-same_pieces : goal.returns-then-not-same_pieces
returns-then-not-same_pieces c =
    let within : c.loop-i.i < length c.args.b.now = search rules in
    let first : c.deref.result.now ≡ c.index-a-i.result.items = search rules in
    let second : c.deref-in-loop-i.result.now ≡ c.index-b-i.result.items = search rules in
    let told : Decides c.same_pieces.result (map part c.index-a-i.result.items ≡ map part c.index-b-i.result.items) =
    subst (λ xs. Decides c.same_pieces.result (map part xs ≡ map part c.index-b-i.result.items)) first (subst (λ ys. Decides c.same_pieces.result (map part c.deref.result.now ≡ map part ys)) second c.same_pieces.ensures) in
    item_differs (λ r. map part r.items) c.args.a.now c.args.b.now c.loop-i.i c.index-a-i.result c.index-b-i.result c.same_pieces.result c.loop-i-test.true within c.index-a-i.is c.index-b-i.is c.if-not-same_pieces.true told
