use Rattle.std.proofs.Common.{◌+◌, ◌*◌, ◌<◌, ℕ, Option, subst, arith}
use Rattle.std.specs.Prelude.{IfSome}
use Rattle.ast.specs.Symbols.{width}
use Rattle.ast.specs.View.{extent}
use Rattle.tree_run.proofs.Offsets.{together}
use Rattle.tree_run.proofs.places.further.Goals as goal

-- one subscript further is within the stride of the next
within : (c : goal.After-offset) → c.in-Some.place + c.args.stride * c.offset.result < c.args.stride * width (extent c.args.dimension.now)
within c =
    let below : c.in-Some.place < c.args.stride = subst (λ (o : Option ℕ). IfSome o (λ p. p < c.args.stride)) c.in-Some.is c.requires.within in
    together c.in-Some.place c.args.stride c.offset.result (width (extent c.args.dimension.now)) below c.offset.ensures.below

pub overflow_mul-result : goal.overflow_mul-result
overflow_mul-result c = let h = within c in omega (arith, h, c.requires.few)

pub overflow_add-result : goal.overflow_add-result
overflow_add-result c = let h = within c in omega (arith, h, c.requires.few)

pub returns-then-holds-clause-within : goal.returns-then-holds-clause-within
returns-then-holds-clause-within c = within c
