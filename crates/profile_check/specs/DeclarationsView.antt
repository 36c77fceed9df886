-- What the code's declarations stand for.
use Rattle.std.specs.Prelude.{ℕ, map, option_map}
use Rattle.std.specs.HashSet.{HashSet}
use Rattle.ast.specs.View.{letters}
use Rattle.ast.specs.declared.name.Name.{Name}
use Rattle.structure.specs.Standing.{standing}
use Rattle.structure.specs.declared.structure.Structure.{Structure}
use Rattle.profile_check.specs.Declarations.{Declared}
use Rattle.profile_check.specs.DeclaredView.{arrays_of, constants_of}
use Rattle.profile_check.specs.Rules.{Context}
use Rattle.profile_check.specs.declared.declarations.Declarations.{Declarations}

abbrev pub declared : Declarations → Declared
declared d = record {
  program = option_map letters d.program;
  typed = map letters d.typed.keys;
  objects = map letters d.objects.keys;
  arrays = arrays_of d.arrays.entries;
  constants = constants_of d.constants.entries;
  names = map letters d.names.keys;
}

abbrev pub context : {S : Type 0} → HashSet Name S → Structure → ℕ → Declarations → Context
context typed structure statements d = record {
  typed = map letters typed.keys;
  statements = statements;
  opened = (standing structure).opened;
  declared = declared d;
  elements = d.elements;
}
