use Rattle.std.proofs.Common.{◌∙◌, ap, sym}
use Rattle.std.specs.Prelude.{is_some}
use Rattle.machine.specs.FrameView.{frame_of}
use Rattle.machine.specs.Local.{local_act}
use Rattle.machine.proofs.Telling.{faultless, local_law}
use Rattle.machine.proofs.next.local.Goals as goal

pub returns-then-stands : goal.returns-then-stands
returns-then-stands c code line =
    let f = c.args.frame.now in
    let e = faultless f c.requires.fault in
    let k = (rw (c.as_slice.ensures, c.as_slice-2.ensures, c.as_slice-3.ensures) at c.fits-stands.ensures) line f.number f.index in
    local_law code (frame_of f) _ (sym (ap (λ g. is_some (local_act c.args.act.now line g)) e) ∙ sym k ∙ c.if-stands.true)
