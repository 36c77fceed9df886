use Rattle.machine.specs.CodeView.{code_of}
use Rattle.machine.proofs.Past.{strides_of_unknown}
use Rattle.machine.proofs.striding.stride.Goals as goal

pub returns-clause-made : goal.returns-clause-made
returns-clause-made g c = λ cells h. let d = c.stride_past.ensures.made cells h in (d.0, strides_of_unknown (code_of c.args.code.now) c.stride_past.result _ _ d.1)
