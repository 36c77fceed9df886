-- An account of the code: how the code of ranges is made, one after another.
use Rattle.std.specs.Prelude.{ℕ, List, [], ◌∷◌, ◌++◌, length, map, Option}
use Rattle.ast.specs.Program.{ProgramTree}
use Rattle.ast.specs.Symbols.{Symbol}
use Rattle.dependence.specs.Plan.{PlanBlock}
use Rattle.loop_tree.specs.Loops.{Loop}
use Rattle.machine.specs.Code as machine
use Rattle.machine.specs.Code.{Part}
use Rattle.machine.specs.CodeView.{loop_of}
use Rattle.machine.specs.declared.code.Await.{Await}
use Rattle.machine.specs.declared.instr.Act.TheVariants.{Halt}
use Rattle.machine.specs.declared.instr.Instr.{Instr}
use Rattle.expr_code.specs.Emitted.{instr}
use Rattle.codegen.specs.Emitted.{block_code, block_records}
use Rattle.codegen.specs.Plain.{plain_block}
use Rattle.codegen.specs.Program.{Planned, loop_entry, main_places, opened_by}
use Rattle.codegen.specs.Program.{range_awaits, range_code, range_records}
use Rattle.codegen.specs.Records.{records_of}
use Rattle.codegen.specs.declared.ranges.Made as declared

-- instructions so far, and what they cite
pub record Made : Type 0 where
  pub instructions : List Instr
  pub records : List (List Part)
  pub awaits : List Await
  pub loops : List machine.Loop

-- what a `Made` of the code stands for
abbrev pub made_of : declared.Made → Made
made_of m = record {
  instructions = m.instructions.items;
  records = records_of m.records;
  awaits = m.awaits.items;
  loops = map loop_of m.loops.items;
}

-- with the range of one more loop
abbrev pub with_range : List Symbol → Planned → Made → Made
with_range symbols x m = record {
  instructions =
      m.instructions ++ range_code symbols (length m.loops) (length m.records) (length m.awaits) x;
  records = m.records ++ range_records symbols x;
  awaits = m.awaits ++ range_awaits symbols x;
  loops = m.loops ++ loop_entry symbols (length m.instructions) x ∷ [];
}

-- with the ranges of several loops, one after another
abbrev pub with_ranges : List Symbol → List Planned → Made → Made
with_ranges symbols [] m = m
with_ranges symbols (x ∷ xs) m = with_ranges symbols xs (with_range symbols x m)

-- a loop with a plan of this body and these private names; what the plan claims tells nothing of
-- its code
abbrev pub bare_plan : Loop → PlanBlock → List (List ℕ) → Planned
bare_plan l body names =
    record { loop = l; plan = record { body = body; privates = names; relations = [] } }

-- main alone, with the loops opened that are told to be; and with the ranges behind it
abbrev pub main_made : ProgramTree → (ℕ → Option ℕ) → Made
main_made t opens = record {
  instructions =
      block_code (main_places t.symbols) opens 0 0 (plain_block t.block) ++ instr 0 Halt ∷ [];
  records = block_records (main_places t.symbols) opens (plain_block t.block);
  awaits = [];
  loops = [];
}

abbrev pub all_made : ProgramTree → List Planned → Made
all_made t xs = with_ranges t.symbols xs (main_made t (opened_by xs))
