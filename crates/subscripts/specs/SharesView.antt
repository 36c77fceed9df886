-- What a share of the code stands for.
use Rattle.subscripts.specs.Forms as spec
use Rattle.subscripts.specs.declared.shares.Share.{Share}

-- a scalar by its cell, and its factor
abbrev pub share : Share → spec.Share
share s = record { cell = s.cell; factor = s.factor }
