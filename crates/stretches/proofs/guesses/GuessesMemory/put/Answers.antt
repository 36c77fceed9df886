use Rattle.std.proofs.Common.{◌≡◌, ◌+◌, ◌<◌, length, set, subst, take, true, rules, w64, to_z, of_z}
use Rattle.std.specs.Prelude.{ℤ}
use Rattle.machine.specs.Memory.{Puts}
use Rattle.stretches.specs.Guesses.{seen_by}
use Rattle.stretches.specs.declared.note.Note.{Note}
use Rattle.stretches.proofs.Noting.{puts_more}
use Rattle.stretches.proofs.guesses.GuessesMemory.put.Goals as goal

pub returns-in-Some : goal.returns-in-Some
returns-in-Some c =
    let n : Note = record { cell = c.args.cell; was = to_z w64 (of_z w64 c.in-Some.was); is = to_z w64 (of_z w64 c.args.value) } in
    let g = c.args.self.now in
    let h : g.made < length g.notes.items = search rules in
    let r : to_z w64 (of_z w64 c.args.value) ≡ c.args.value = search rules in
    subst
    (λ (x : ℤ). Puts true (seen_by (take g.made g.notes.items)) c.args.cell x (seen_by (take (g.made + 1) (set g.notes.items g.made n))))
    r
    (puts_more g.notes.items g.made n h)
