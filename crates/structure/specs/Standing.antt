-- What the code keeps of the statements before, and the rules by that.
use Rattle.std.specs.Prelude.{ℕ, Bool, true, not, ◌&&◌, ◌||◌, nat_eq, if◌then◌else◌, List}
use Rattle.std.specs.Prelude.{[], ◌∷◌, ◌++◌, Option, Some, None, map, option_to_list}
use Rattle.std.specs.List.{list_any}
use Rattle.indexmap.specs.IndexSet.{insert_all}
use Rattle.ast.specs.Tree.{Statement}
use Rattle.ast.specs.declared.rule.Rule.{Rule}
use Rattle.ast.specs.declared.rule.Rule.TheVariants.{OutOfOrder, OpenLoop, WrongTerminal}
use Rattle.ast.specs.declared.rule.Rule.TheVariants.{CrossedBlocks, RepeatedLabel}
use Rattle.structure.specs.Open.{Open, open_after, after}
use Rattle.structure.specs.Rules.{is_empty, is_program, is_declaration, is_executable}
use Rattle.structure.specs.Rules.{is_some_and, crosses, ends_wrongly, breaks_blocks}
use Rattle.structure.specs.View.{opened}
use Rattle.structure.specs.declared.structure.Structure.{Structure}

-- whether a statement stands before, and an executable one; what is open, the innermost first; the
-- labels, each once
pub record Standing : Type 0 where
  pub begun : Bool
  pub executable : Bool
  pub opened : List Open
  pub labels : List ℕ

-- the labels of statements
abbrev pub labels_of : List Statement → List ℕ
labels_of [] = []
labels_of (s ∷ ss) = option_to_list s.label ++ labels_of ss

-- what is kept after some statements
abbrev pub standing_after : List Statement → Standing
standing_after front = record {
  begun = not (is_empty front);
  executable = list_any (λ s. is_executable s.kind) front;
  opened = open_after front;
  labels = insert_all nat_eq [] (labels_of front);
}

-- what a `Structure` keeps
abbrev pub standing : Structure → Standing
standing s = record {
  begun = s.begun;
  executable = s.executable;
  opened = map opened s.opened.items;
  labels = s.labels.keys;
}

-- with one statement more
abbrev pub next : Standing → Statement → Standing
next t s = record {
  begun = true;
  executable = t.executable || is_executable s.kind;
  opened = after t.opened s;
  labels = insert_all nat_eq t.labels (option_to_list s.label);
}

abbrev pub rule_of_label : Standing → Statement → Option Rule
rule_of_label t s =
    if is_some_and (λ label. list_any (nat_eq label) t.labels) s.label then Some RepeatedLabel
    else None

-- the lowest rule on order, labels, ranges and blocks that a statement breaks, by what is kept
abbrev pub rule_by : Standing → Statement → Option Rule
rule_by t s =
    if (is_program s.kind && t.begun) || (is_declaration s.kind && t.executable)
    then Some OutOfOrder
    else if crosses t.opened s then Some OpenLoop
    else if ends_wrongly t.opened s then Some WrongTerminal
    else if breaks_blocks t.opened s then Some CrossedBlocks
    else if is_some_and (λ label. list_any (nat_eq label) t.labels) s.label then Some RepeatedLabel
    else None
