use Rattle.std.proofs.Common.{◌≡◌, ◌^◌, ◌<◌, drop}
use Rattle.fixed_form.specs.Line.{without_blanks}
use Rattle.fixed_form.specs.Steps.{field_of}
use Rattle.fixed_form.proofs.Digits.{field_from}
use Rattle.fixed_form.proofs.label.read_label.Given as goal

abbrev pub invariant-loop-character : goal.invariant-loop-character
invariant-loop-character l = (field_from l.is_blank l.label (without_blanks (drop l.character-index l.field)) ≡ field_of (without_blanks l.field)) × (l.label < 10 ^ l.character-index)
