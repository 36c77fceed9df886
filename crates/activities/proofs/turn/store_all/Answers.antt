use Rattle.std.proofs.Common.{◌≡◌, ◌∙◌, ◌-◌, ◌<◌, inl, inr, ℤ, List, Option, None, ap, arith, get_or, length}
use Rattle.std.proofs.lemmas.List.{length-map}
use Rattle.machine.specs.CodeView.{code_of}
use Rattle.machine.specs.ScalarView.{scalar_of, scalars_of}
use Rattle.activities.specs.Turns.{one_after}
use Rattle.activities.proofs.Turning.{one_length, scalar_at, stores_nothing, stores_one}
use Rattle.activities.proofs.turn.store_all.Goals as goal
use Rattle.activities.proofs.turn.store_all.Goals.{then-variables-values, else-variables-values}

pub loop-i-preserved : goal.loop-i-preserved
loop-i-preserved c = record {
  variables = omega (arith, c.loop-i.invariant.variables);
  values = omega (arith, c.loop-i.invariant.values);
  cells = ap (λ xs. length xs) c.store_private.ensures ∙ one_length (code_of c.args.code.now) _ _ c.loop-i.cells ∙ c.loop-i.invariant.cells;
  stored =
      let vs : List (Option ℤ) = scalars_of c.args.values.now in
      let there : c.loop-i.i - 1 < length c.args.values.now = omega (arith, c.loop-i.invariant.values, c.loop-i-test.true) in
      let value : c.get.result ≡ get_or vs (c.loop-i.i - 1) None =
      c.get.ensures ∙ (ap scalar_of c.index-values-i.is ∙ scalar_at c.args.values.now (c.loop-i.i - 1) c.index-values-i.result None there) in
      let within : c.loop-i.i - 1 < length vs = omega (arith, there, length-map c.args.values.now scalar_of) in
      stores_one (code_of c.args.code.now) c.loop-i.i (c.loop-i.i - 1) _ c.args.variables.now None vs c.args.cells.now c.loop-i.cells c.store_private.new.cells (omega (arith, c.loop-i-test.true)) (omega (arith, c.loop-i.invariant.variables, c.loop-i-test.true)) within c.loop-i.invariant.stored
      (c.store_private.ensures ∙ ap (λ (o : Option ℤ). one_after (code_of c.args.code.now) (get_or c.args.variables.now (c.loop-i.i - 1) 0) o c.loop-i.cells) value);
}

pub loop-i-init : goal.loop-i-init
loop-i-init c =
    elim c.if-variables-values.branch [
      | then-variables-values w ↦ record {
        variables = omega (arith, w.i-is);
        values = omega (arith, w.i-is, w.if-variables-values.true);
        cells = c.requires.cells;
        stored = stores_nothing (code_of c.args.code.now) c.if-variables-values.i c.args.variables.now (scalars_of c.args.values.now) c.args.cells.now (inl (omega (arith, w.i-is)));
      }
      | else-variables-values w ↦ record {
        variables = omega (arith, w.i-is, w.if-variables-values.false);
        values = omega (arith, w.i-is);
        cells = c.requires.cells;
        stored = stores_nothing (code_of c.args.code.now) c.if-variables-values.i c.args.variables.now (scalars_of c.args.values.now) c.args.cells.now (inr (omega (arith, w.i-is, length-map c.args.values.now scalar_of)));
      }
    ]
