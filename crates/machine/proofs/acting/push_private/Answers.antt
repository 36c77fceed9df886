use Rattle.std.proofs.Common.{◌≡◌, ◌∙◌, get_or, sym, rules, w64, to_z, of_z}
use Rattle.machine.specs.declared.scalar.Scalar.{Scalar}
use Rattle.machine.proofs.Privates.{push_law}
use Rattle.machine.proofs.acting.push_private.Goals as goal

pub returns-then-x-privates-clause-next : goal.returns-then-x-privates-clause-next
returns-then-x-privates-clause-next c line cs number index =
    let s : Scalar = get_or c.args.privates.now c.args.x c.index-privates-x.result in
    let again : to_z w64 (of_z w64 s.value) ≡ s.value = search rules in
    (rw (again) at c.push_value.ensures.next line c.args.privates.now cs number index)
    ∙ sym (push_law c.args.privates.now c.args.x c.index-privates-x.result _ c.if-x-privates.true)
