use Rattle.ec_kernel.proofs.Steps.{kernel}
use Rattle.ec_kernel.proofs.kernel.Kernel.ticket.Goals as goal

pub returns-clause-kept : goal.returns-clause-kept
returns-clause-kept c = kernel c.self.inside.links c.self.inside.counts.items _ c.self.invariant
