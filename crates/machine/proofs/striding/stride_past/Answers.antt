use Rattle.std.proofs.Common.{◌∙◌, List, ap, length, sym}
use Rattle.ast.proofs.Calls.{not_some}
use Rattle.machine.proofs.Runs.{refilled}
use Rattle.machine.proofs.striding.stride_past.Goals as goal

pub returns-clause-made : goal.returns-clause-made
returns-clause-made g c = λ cells h.
    let f = c.args.frame.now in
    let e = c.go-gone.ensures.leads f.number cells h in (
      e.0,
      rw (
        refilled f.slots.items c.go-gone.new.slots (c.go-gone.auto.slots ∙ ap (λ (xs : List _). length xs) c.as_mut_slice.ensures.value),
        refilled f.privates.items c.go-gone.new.privates (c.go-gone.auto.privates ∙ ap (λ (xs : List _). length xs) c.as_mut_slice-2.ensures.value),
        refilled f.counters.items c.go-gone.new.counters (c.go-gone.auto.counters ∙ ap (λ (xs : List _). length xs) c.as_mut_slice-3.ensures.value),
        not_some f.fault (sym c.is_some.ensures ∙ c.if-is_some.false),
      )
          (rw (c.as_mut_slice.ensures.value, c.as_mut_slice-2.ensures.value, c.as_mut_slice-3.ensures.value) at e.1),
    )
