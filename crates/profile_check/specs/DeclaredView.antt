-- What the tables of the code stand for.
use Rattle.std.specs.Prelude.{ℤ, List, map, Vec}
use Rattle.std.specs.Global.{Global}
use Rattle.ast.specs.View.{extent}
use Rattle.ast.specs.declared.name.Name.{Name}
use Rattle.ast.specs.declared.program.Dimension.{Dimension}
use Rattle.profile_check.specs.Declarations.{Constants, Arrays}

abbrev pub constants_of : List (Name × ℤ) → Constants
constants_of es = map (λ e. (e.0.letters, e.1)) es

abbrev pub arrays_of : List (Name × Vec Dimension Global) → Arrays
arrays_of es = map (λ e. (e.0.letters, map extent e.1.items)) es
