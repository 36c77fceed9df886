use Rattle.std.proofs.Common.{◌≡◌, ◌∙◌, ◌^◌, ◌≤◌, ◌<◌, inl, inr, ap, length, map, refl, rules, subst, sym, arith}
use Rattle.std.specs.Prelude.{◌-◌}
use Rattle.std.proofs.lemmas.List.{length-map}
use Rattle.ast.specs.View.{symbol}
use Rattle.ast.specs.ProgramView.{program as program_of}
use Rattle.loop_tree.specs.TreeView.{loops_seen}
use Rattle.machine.specs.CodeView.{code_of, loop_of}
use Rattle.machine.specs.Laid.{are_distinct, are_laid, names_in}
use Rattle.expr_code.specs.Computes.{variables_for, variables_in}
use Rattle.expr_code.specs.Emitted.{short}
use Rattle.codegen.specs.Made.{Made, main_made}
use Rattle.codegen.specs.Plain.{plain_block}
use Rattle.codegen.specs.Program.{IsCodeOf, most_instructions, most_symbols, opened_by, room_of}
use Rattle.codegen.specs.Records.{records_of}
use Rattle.codegen.specs.Reports.{planned_in}
use Rattle.codegen.specs.Room.{block_loops, block_room}
use Rattle.codegen.proofs.Compiling.{distinct_law, little_room, much_room, none_refused, not_full, room_law}
use Rattle.codegen.proofs.RangesMade.{made_with}
use Rattle.codegen.proofs.programs.whole.Goals.{then-len-gt-MOST_INSTRUCTIONS-via-then-len-gt-MOST_INSTRUCTIONS, then-len-gt-MOST_INSTRUCTIONS-via-else-len-gt-MOST_INSTRUCTIONS+then-len-gt-MOST_SYMBOLS, then-len-gt-MOST_INSTRUCTIONS-via-else-len-gt-MOST_INSTRUCTIONS+else-len-gt-MOST_SYMBOLS+then-room}
use Rattle.codegen.proofs.programs.whole.Goals as goal

pub returns-then-len-gt-MOST_INSTRUCTIONS-clause-refused : goal.returns-then-len-gt-MOST_INSTRUCTIONS-clause-refused
returns-then-len-gt-MOST_INSTRUCTIONS-clause-refused c =
    let t = program_of c.args.program.now in
    let xs = planned_in (loops_seen c.args.tree.now) c.args.reports.now in
    let all = c.in_ok-made.ensures ∙ made_with t.symbols xs (main_made t (opened_by xs)) in
    let mapped = length-map c.args.program.now.symbols.items symbol in
    let operands : c.of_block-operands.result ≡ short (block_room (plain_block t.block)) = search rules in
    let counters : c.loops_of_block-counters.result ≡ short (block_loops (plain_block t.block)) = search rules in
    let room = c.greater-room.ensures (block_room (plain_block t.block)) (block_loops (plain_block t.block)) operands counters in (
      refl,
      refl,
      elim c.then-len-gt-MOST_INSTRUCTIONS.branch [
        | then-len-gt-MOST_INSTRUCTIONS-via-then-len-gt-MOST_INSTRUCTIONS w ↦
            let long : most_instructions < length c.in_ok-made.made.instructions.items = search rules in
            inl (subst (λ is. most_instructions < length is) (ap (λ (m : Made). m.instructions) all) long)
        | then-len-gt-MOST_INSTRUCTIONS-via-else-len-gt-MOST_INSTRUCTIONS+then-len-gt-MOST_SYMBOLS w ↦
            let many : most_symbols < length c.args.program.now.symbols.items = search rules in
            inr (inr (omega (arith, many, mapped)))
        | then-len-gt-MOST_INSTRUCTIONS-via-else-len-gt-MOST_INSTRUCTIONS+else-len-gt-MOST_SYMBOLS+then-room w ↦
            let full : c.greater-room.result ≡ 2 ^ 32 - 1 = search rules in
            inr (inl (much_room t c.greater-room.result room full))
      ],
    )

pub returns-in-Ok-Some-clause-code : goal.returns-in-Ok-Some-clause-code
returns-in-Ok-Some-clause-code c =
    let t = program_of c.args.program.now in
    let xs = planned_in (loops_seen c.args.tree.now) c.args.reports.now in
    let m = c.in_ok-made.made in
    let all = c.in_ok-made.ensures ∙ made_with t.symbols xs (main_made t (opened_by xs)) in
    let instructions = ap (λ (x : Made). x.instructions) all in
    let made : code_of c.in-Ok-Some.code ≡ record {
      instructions = m.instructions.items;
      records = records_of m.records;
      awaits = m.awaits.items;
      variables = c.in_ok-variables.field-0.items;
      loops = map loop_of m.loops.items;
      operands = c.of_block-operands.result;
      counters = c.loops_of_block-counters.result;
    } = rw c.in-Ok-Some.field-0-is at c.in-Ok-Some.ensures.code in
    let short_enough : length m.instructions.items ≤ most_instructions = search rules in
    let given : length c.args.program.now.symbols.items ≤ most_symbols = search rules in
    let mapped = length-map c.args.program.now.symbols.items symbol in
    let few_symbols : length t.symbols ≤ most_symbols = omega (arith, given, mapped) in
    let operands : c.of_block-operands.result ≡ short (block_room (plain_block t.block)) = search rules in
    let counters : c.loops_of_block-counters.result ≡ short (block_loops (plain_block t.block)) = search rules in
    let room = c.greater-room.ensures (block_room (plain_block t.block)) (block_loops (plain_block t.block)) operands counters in
    let less : c.greater-room.result < 2 ^ 32 - 1 = not_full c.greater-room.result (room_of t) room (λ e. search (rules, e)) in
    let rooms = room_law t c.of_block-operands.result c.loops_of_block-counters.result c.greater-room.result operands counters room less in
    let names : variables_in c.in_ok-variables.field-0.items ≡ variables_for t.symbols = search rules in
    subst (λ code. IsCodeOf t xs code) (sym made) (record {
      instructions = instructions;
      records = ap (λ (x : Made). x.records) all;
      awaits = ap (λ (x : Made). x.awaits) all;
      loops = ap (λ (x : Made). x.loops) all;
      variables = names;
      distinct = distinct_law c.in_ok-variables.field-0.items t.symbols c.args.program.now.distinct names;
      laid = c.in_ok-variables.ensures.laid;
      operands = rooms.0;
      counters = rooms.1;
      few = subst (λ is. length is ≤ most_instructions) instructions short_enough;
      few_symbols = few_symbols;
      few_room = little_room t c.greater-room.result room less;
    })

pub returns-in-Ok-None-clause-refused : goal.returns-in-Ok-None-clause-refused
returns-in-Ok-None-clause-refused c =
    let t = program_of c.args.program.now in
    let names : variables_in c.in_ok-variables.field-0.items ≡ variables_for t.symbols = search rules in
    absurd (none_refused (are_distinct (names_in c.in_ok-variables.field-0.items)) (are_laid 0 c.in_ok-variables.field-0.items) (rw c.in-Ok-None.field-0-is at c.in-Ok-None.ensures.exactly) (distinct_law c.in_ok-variables.field-0.items t.symbols c.args.program.now.distinct names) c.in_ok-variables.ensures.laid)
