use Rattle.std.proofs.Common.{◌≡◌, ◌≤◌, ◌-◌, length, take, arith, sym, ◌∙◌, ap}
use Rattle.ast.specs.Name.{trimmed}
use Rattle.ast.proofs.Names.{trimmed-shorter, trimmed-whole, not_blank}
use Rattle.ast.proofs.name.Name.trimmed.Goals as goal
use Rattle.ast.proofs.name.Name.trimmed.Goals.{then-loop-length-test+else-self-length-eq32, else-loop-length-test}

pub loop-length-preserved : goal.loop-length-preserved
loop-length-preserved c =
    let name = c.args.self.now.letters in
    let within : c.loop-length.length ≤ length name = c.loop-length.invariant.0 in
    let shorter : trimmed (take (c.loop-length.length - 1) name) ≡ trimmed (take c.loop-length.length name) =
    trimmed-shorter name c.loop-length.length c.loop-length-test.true within c.if-self-length-eq32.true in
    (omega (arith, within), shorter ∙ c.loop-length.invariant.1)

pub returns : goal.returns
returns c = elim c.loop-length-test.branch [
  | then-loop-length-test+else-self-length-eq32 w ↦
      let name = c.args.self.now.letters in
      sym (trimmed-whole name c.loop-length.length w.loop-length-test.true c.loop-length.invariant.0 (not_blank _ w.if-self-length-eq32.false)) ∙ c.loop-length.invariant.1
  | else-loop-length-test w ↦
      let none : c.loop-length.length ≡ 0 = omega (arith, w.loop-length-test.false) in
      let name = c.args.self.now.letters in
      ap (λ n. take n name) none ∙ ap (λ n. trimmed (take n name)) (sym none) ∙ c.loop-length.invariant.1
]
