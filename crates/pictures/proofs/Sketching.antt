-- What follows of what a call gives.
use Rattle.std.proofs.Common.{◌∙◌, OnOk, Result, Ok, Err}
use Rattle.pictures.specs.Sketches.{HasSameMarks}
use Rattle.pictures.specs.declared.sketch.Sketch.{Sketch}

pub on_ok : {A E P Q : Type 0} (r : Result A E) → (P → Q) → OnOk r P → OnOk r Q
on_ok (Ok x) f p = f p
on_ok (Err e) f p = p

-- what stays twice stays
pub same_twice : (a b c : Sketch) → HasSameMarks a b → HasSameMarks b c → HasSameMarks a c
same_twice a b c p q = record { hindered = q.hindered ∙ p.hindered; sources = q.sources ∙ p.sources }
