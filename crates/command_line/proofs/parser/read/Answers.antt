use Rattle.std.proofs.Common.{map}
use Rattle.clap.specs.Words.{app_of}
use Rattle.command_line.proofs.CommandLines.{names, names_none, parses_none}
use Rattle.command_line.proofs.parser.read.Goals as goal

pub returns-clause-found : goal.returns-clause-found
returns-clause-found g c =
    names (app_of c.in_ok-parser.field-0) (map g.S.AsStr.text c.args.words.now) c.in_ok-matches.matches c.held.result c.in_ok-parser.ensures
    (c.in_ok-matches.ensures.matches, c.in_ok-matches.ensures.kinds) c.held.ensures.found

pub returns-clause-refused : goal.returns-clause-refused
returns-clause-refused g c =
    names_none (app_of c.in_ok-parser.field-0) (map g.S.AsStr.text c.args.words.now) c.in_ok-matches.matches c.held.result c.in_ok-parser.ensures
    (c.in_ok-matches.ensures.matches, c.in_ok-matches.ensures.kinds) c.held.ensures.refused

pub returns-in_err-matches-clause-refused : goal.returns-in_err-matches-clause-refused
returns-in_err-matches-clause-refused g c =
    parses_none (app_of c.in_ok-parser.field-0) (map g.S.AsStr.text c.args.words.now) c.in_err-matches.field-0.0 c.from_residual-in_err-matches.result
    c.in_ok-parser.ensures c.in_err-matches.ensures.kinds c.from_residual-in_err-matches.ensures.1
