use Rattle.std.proofs.Common.{◌≡◌, ◌∙◌, ℤ, Some, ap, rules, w64, to_z, of_z}
use Rattle.machine.proofs.Actions.{set_private_law}
use Rattle.machine.proofs.acting.set_private.Goals as goal

pub returns-then-x-privates-clause-next : goal.returns-then-x-privates-clause-next
returns-then-x-privates-clause-next c line cs number index =
    let e = c.in-Some.ensures {u = tt} in
    let again : to_z w64 (of_z w64 c.in-Some.value) ≡ c.in-Some.value = search rules in
    rw (c.next.ensures) (set_private_law c.args.cursor c.args.x c.in-Some.value c.set.new.self c.args.slots.now c.args.privates.now cs number index (c.set.ensures ∙ ap (λ (v : ℤ). Some v) again) e.operand e.within c.if-x-privates.true)
