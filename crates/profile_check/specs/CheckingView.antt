-- What the check's state stands for.
use Rattle.structure.specs.Standing.{standing}
use Rattle.profile_check.specs.Checking.{Before}
use Rattle.profile_check.specs.DeclarationsView.{declared}
use Rattle.profile_check.specs.declared.check.Seen.{Seen}

abbrev pub before : Seen → Before
before s = record {
  order = standing s.structure;
  declared = declared s.declarations;
  elements = s.declarations.elements;
  count = s.count;
}
