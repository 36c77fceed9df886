use Rattle.std.proofs.Common.{◌≡◌, map, drop, option_map}
use Rattle.std.specs.List.{list_any}
use Rattle.ast.specs.View.{letters}
use Rattle.profile_check.specs.Rules.{is_other}
use Rattle.profile_check.proofs.rules.has_other.Given as goal

abbrev pub invariant-loop-name : goal.invariant-loop-name
invariant-loop-name l =
    list_any (is_other (option_map letters l.program)) (map letters (drop l.name-index l.names))
    ≡ list_any (is_other (option_map letters l.program)) (map letters l.names)
