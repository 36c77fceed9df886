-- The numbers by which the rules are known.
use Rattle.std.specs.Prelude.{ℕ}
use Rattle.ast.specs.declared.rule.Rule.{Rule}
use Rattle.ast.specs.declared.rule.Rule.TheVariants as rules

abbrev pub number_of : Rule → ℕ
number_of rules.StrangeByte = 1
number_of rules.MalformedLabel = 2
number_of rules.LooseContinuation = 3
number_of rules.ManyContinuations = 4
number_of rules.LabelledContinuation = 5
number_of rules.ManyLines = 6
number_of rules.NoEnd = 7
number_of rules.LineBehindEnd = 8
number_of rules.UnknownStatement = 20
number_of rules.UnendedText = 21
number_of rules.RealConstant = 22
number_of rules.LargeConstant = 23
number_of rules.LongName = 24
number_of rules.Malformed = 25
number_of rules.Deep = 26
number_of rules.LeftOut = 27
number_of rules.OutOfOrder = 30
number_of rules.NotInteger = 31
number_of rules.DeclaredTwice = 32
number_of rules.WrongSubscripts = 33
number_of rules.OpenLoop = 34
number_of rules.WrongTerminal = 35
number_of rules.CrossedBlocks = 36
number_of rules.ActiveVariable = 37
number_of rules.ChangedConstant = 38
number_of rules.CrossedBounds = 39
number_of rules.LargeProgram = 40
number_of rules.RepeatedLabel = 41
number_of rules.NoValue = 42
number_of rules.WrongKind = 43
number_of rules.LongCode = 61
