-- The labelled statements of a text as contracts see them.
use Rattle.std.specs.Prelude.{List, map}
use Rattle.fixed_form.specs.declared.labelled.Labelled.{Labelled}
use Rattle.fixed_form.specs.Lines.{Entry}

abbrev pub entry : Labelled → Entry
entry x = record { label = x.label; line = x.line; text = x.text.items }

-- label, line and text of each statement
abbrev pub entries : List Labelled → List Entry
entries xs = map entry xs
