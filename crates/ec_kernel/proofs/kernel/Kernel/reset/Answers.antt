use Rattle.std.proofs.Common.{ap, ◌∙◌}
use Rattle.std.specs.Prelude.{replicate}
use Rattle.ec_kernel.proofs.Beginning.{begun_anew}
use Rattle.ec_kernel.proofs.kernel.Kernel.reset.Goals as goal

pub invariant_of-self : goal.invariant_of-self
invariant_of-self c =
    (begun_anew c.self.inside.links c.self.inside.counts.items _ c.self.inside.next _ c.self.invariant c.self.view_is c.requires (c.fill.ensures.items (λ y e. e) ∙ ap (λ n. replicate n 0) c.self.inside.counts.ok.0)).kept

pub returns-clause-kept : goal.returns-clause-kept
returns-clause-kept c =
    (begun_anew c.self.inside.links c.self.inside.counts.items _ c.self.inside.next _ c.self.invariant c.self.view_is c.requires (c.fill.ensures.items (λ y e. e) ∙ ap (λ n. replicate n 0) c.self.inside.counts.ok.0)).kernel
