-- What the code's values stand for.
use Rattle.structure.specs.Open as spec
use Rattle.structure.specs.Parts as parts
use Rattle.structure.specs.declared.kinds.Part.{Part}
use Rattle.structure.specs.declared.kinds.Part.TheVariants.{Do, If, Else, EndIf, Other}
use Rattle.structure.specs.declared.opened.Open.{Open}
use Rattle.structure.specs.declared.opened.Open.TheVariants.{Range, Block}

abbrev pub opened : Open → spec.Open
opened (Range terminal x) = spec.do_range terminal x.letters
opened (Block is_last) = spec.if_block is_last

abbrev pub part : Part → parts.Part
part (Do terminal x) = parts.do_part terminal x.letters
part If = parts.if_part
part Else = parts.else_part
part EndIf = parts.end_if_part
part Other = parts.no_part
