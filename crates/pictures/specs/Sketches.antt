-- What stays as it is while the rows of a picture are added.
use Rattle.std.specs.Prelude.{◌≡◌}
use Rattle.pictures.specs.Looks.{AreMarked}
use Rattle.pictures.specs.declared.sketch.Sketch.{Sketch}

-- the same is to be marked
pub record HasSameMarks (old new : Sketch) : Type 0 where
  pub hindered : new.hindered ≡ old.hindered
  pub sources : new.sources ≡ old.sources

-- where the rows before are marked as they are to be, so are those with what is added
abbrev pub KeepsMarks : Sketch → Sketch → Type 0
KeepsMarks old new =
    AreMarked old.hindered old.sources.items old.rows.items
    → AreMarked new.hindered new.sources.items new.rows.items
