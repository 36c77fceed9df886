use Rattle.fixed_form.specs.Answers.{entries}
use Rattle.fixed_form.proofs.Laws.{found_of, only_of, refused_of, exactly_of}
use Rattle.fixed_form.proofs.Ends.{shaped_of}
use Rattle.fixed_form.proofs.reading.statements.Goals as goal

pub returns-clause-found : goal.returns-clause-found
returns-clause-found c = found_of (λ v. entries v.items) c.read_all.result c.args.text.now c.read_all.ensures

pub returns-clause-shaped : goal.returns-clause-shaped
returns-clause-shaped c = shaped_of (λ v. entries v.items) c.read_all.result c.args.text.now (found_of (λ v. entries v.items) c.read_all.result c.args.text.now c.read_all.ensures)

pub returns-clause-only : goal.returns-clause-only
returns-clause-only c = only_of (λ v. entries v.items) c.read_all.result c.args.text.now c.read_all.ensures

pub returns-clause-refused : goal.returns-clause-refused
returns-clause-refused c = refused_of (λ v. entries v.items) c.read_all.result c.args.text.now c.read_all.ensures

pub returns-clause-exactly : goal.returns-clause-exactly
returns-clause-exactly c = exactly_of (λ v. entries v.items) c.read_all.result c.args.text.now c.read_all.ensures
