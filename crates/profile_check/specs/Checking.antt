-- What the check keeps of the statements before, and the rules by that.
use Rattle.std.specs.Prelude.{◌≡◌, ℕ, ◌+◌, List, [], ◌∷◌, length}
use Rattle.std.specs.Prelude.{Option, Some, None, Result, Ok, Err}
use Rattle.indexmap.specs.IndexSet.{insert_all}
use Rattle.ast.specs.Answers.{Break}
use Rattle.ast.specs.Store.{same_name}
use Rattle.ast.specs.Tree.{Statement}
use Rattle.ast.specs.declared.refusal.Refusal.{Refusal}
use Rattle.ast.specs.declared.refusal.Refusal.TheVariants.{Memory, Refused}
use Rattle.ast.specs.declared.rule.Rule.{Rule}
use Rattle.structure.specs.Standing.{Standing, standing_after, next, rule_by as order_by}
use Rattle.profile_check.specs.Counted.{few_or_more, counted}
use Rattle.profile_check.specs.Declarations.{Declared, declared_in, newer, objects_by, with_arrays}
use Rattle.profile_check.specs.Declarations.{with_constants, arrays_by, total_elements}
use Rattle.profile_check.specs.Rules.{Context, lower, lowest_of, checks}
use Rattle.profile_check.specs.Uses.{typed_by, bounded_by, defined_by, declarator_names}
use Rattle.profile_check.specs.Uses.{names_mentioned, program_named_by}

abbrev pub nothing : Declared
nothing =
    record { program = None; typed = []; objects = []; arrays = []; constants = []; names = [] }

-- what is declared with one statement more
abbrev pub and_then_declared : Declared → Statement → Declared
and_then_declared d s = record {
  program = newer (program_named_by s.kind) d.program;
  typed = insert_all same_name d.typed (declarator_names (typed_by s.kind));
  objects = insert_all same_name d.objects (objects_by s.kind);
  arrays = with_arrays d.arrays (arrays_by d.constants (bounded_by s.kind));
  constants = with_constants d.constants (defined_by s.kind);
  names = insert_all same_name d.names (names_mentioned s.kind);
}

-- the order of the statements before, what they declare, how many elements their arrays have,
-- counted to one more than a program may have, and how many they are
pub record Before : Type 0 where
  pub order : Standing
  pub declared : Declared
  pub elements : ℕ
  pub count : ℕ

abbrev pub before_of : List Statement → Before
before_of front = record {
  order = standing_after front;
  declared = declared_in front;
  elements = few_or_more (total_elements (declared_in front).arrays);
  count = length front;
}

abbrev pub and_one : Before → Statement → Before
and_one b s = record {
  order = next b.order s;
  declared = and_then_declared b.declared s;
  elements = counted b.elements (arrays_by b.declared.constants (bounded_by s.kind));
  count = b.count + 1;
}

abbrev pub context_by : List (List ℕ) → Before → Context
context_by typed b = record {
  typed = typed;
  statements = b.count;
  opened = b.order.opened;
  declared = b.declared;
  elements = b.elements;
}

-- the lowest rule that a statement breaks, by the table of names with a type
abbrev pub rule_by : List (List ℕ) → Before → Statement → Option Rule
rule_by typed b s = lower (order_by b.order s) (lowest_of checks (context_by typed b) s)

-- what is declared after all, or the first broken rule
abbrev pub going_on : Option Rule → Statement → Result Declared Break → Result Declared Break
going_on None s later = later
going_on (Some rule) s later = Err (record { rule = rule; line = s.line })

abbrev pub checked : List (List ℕ) → Before → List Statement → Result Declared Break
checked typed b [] = Ok b.declared
checked typed b (s ∷ ss) = going_on (rule_by typed b s) s (checked typed (and_one b s) ss)

-- a table of names
abbrev pub table_of : List (List ℕ) → List (List ℕ)
table_of names = insert_all same_name [] names

-- one statement's answer: a broken rule at its line, or none
abbrev pub IsRuleOf : Refusal → Statement → Option Rule → Type 0
IsRuleOf Memory s broken = Unit {0}
IsRuleOf (Refused rule line) s broken = (broken ≡ Some rule) × (line ≡ s.line)

abbrev pub Breaks : {X : Type 0} → Result X Refusal → Statement → Option Rule → Type 0
Breaks (Ok x) s rule = rule ≡ None
Breaks (Err e) s rule = IsRuleOf e s rule
