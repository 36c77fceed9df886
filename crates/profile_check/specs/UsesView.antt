-- What a use of the code stands for.
use Rattle.profile_check.specs.Uses as spec
use Rattle.profile_check.specs.declared.uses.Use.{Use}

abbrev pub use_of : Use → spec.Use
use_of u = record { name = u.name.letters; count = u.count; is_given = u.is_given }
