use Rattle.std.proofs.Common.{refl}
use Rattle.machine.specs.CodeView.{code_of}
use Rattle.machine.specs.FrameView.{frame_of}
use Rattle.machine.specs.Strides.{Passed, stride_past, strides_past}
use Rattle.stretches.specs.Guesses.{notes_of}
use Rattle.stretches.specs.Notes.{cells_by}
use Rattle.stretches.specs.Reached.{passed_by}
use Rattle.stretches.specs.Stretches.{held_on}
use Rattle.machine.proofs.Joining.{joined_by}
use Rattle.stretches.proofs.stretch.Stretch.run.Goals as goal

pub invariant_of-self : goal.invariant_of-self
invariant_of-self c = record {
  leads = λ loaded cells hold.
      let s = c.args.self.now in
      let code = code_of s.code.now in
      let ok : Passed = passed_by s.reached in
      let more = c.stride_past-more.ensures.made cells hold in
      joined_by
      (λ x. stride_past ok code x)
      (λ n x. strides_past ok code n x)
      (λ x. refl)
      (λ n x. refl)
      s.made
      c.stride_past-more.result
      (held_on code (frame_of s.from) cells)
      (held_on code (frame_of s.to) (cells_by (notes_of s.guesses) cells))
      (held_on code (frame_of c.stride_past-more.new.frame) (cells_by (notes_of c.stride_past-more.new.memory) cells))
      (s.leads loaded cells more.0)
      more.1;
  none = λ unloaded. let loaded = c.if-not-self.false in cc;
}
