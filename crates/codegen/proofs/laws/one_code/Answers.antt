use Rattle.codegen.proofs.laws.one_code.Goals as goal
use Rattle.codegen.proofs.OneCode.{never_long, one_code, one_opened}

pub returns-clause-opened : goal.returns-clause-opened
returns-clause-opened c = one_opened

pub returns-clause-code : goal.returns-clause-code
returns-clause-code c = one_code

pub returns-clause-never_long : goal.returns-clause-never_long
returns-clause-never_long c = never_long
