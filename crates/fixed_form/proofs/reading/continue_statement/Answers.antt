use Rattle.std.proofs.Common.{rules}
use Rattle.fixed_form.proofs.Facts.{one_line_more, IsInLines}
use Rattle.fixed_form.proofs.Longer.{is_longest, goes_on}
use Rattle.fixed_form.proofs.reading.continue_statement.Goals as goal

pub returns-then-len-ge-LONGEST_TEXT : goal.returns-then-len-ge-LONGEST_TEXT
returns-then-len-ge-LONGEST_TEXT c = let h = is_longest c.args.list.now.items _ c.in-Some.statement.now c.args.number c.args.line.now (search rules) (search rules) c.in-Some.ensures.value (search rules) in search rules

pub invariant_of-statement : goal.invariant_of-statement
invariant_of-statement c =
    let x = c.in-Some.statement.now in
    let old : IsInLines _ = record { whole = x.text_of_lines; one = x.text_of_one_line; most = x.text_in_range } in
    let l = one_line_more x.text.items c.append_part.new.text.items c.args.line.now c.append_part.result c.append_part.ensures.ok c.append_part.ensures.err old (search rules) in
    record { label_in_range = x.label_in_range; line_from_one = x.line_from_one; line_in_range = x.line_in_range; text_of_lines = l.whole; text_of_one_line = l.one; text_in_range = l.most }

pub returns : goal.returns
returns c = goes_on c.args.list.now.items _ c.in-Some.statement.now _ c.args.number c.args.line.now (search rules) (search rules) c.in-Some.ensures.value (search rules) (let t = c.in_ok-append_part.ensures.ok in cc)
