use Rattle.std.proofs.Common.{◌∙◌, ap, sym}
use Rattle.std.proofs.lemmas.List.{at_drop_all}
use Rattle.expressions.proofs.Parts.{gives_rest, wants_memory}
use Rattle.syntax.specs.Squeezing.{finished, left_of}
use Rattle.syntax.proofs.Turns.{next_byte}
use Rattle.syntax.proofs.pieces.squeeze.Goals as goal

pub returns-in_err-state : goal.returns-in_err-state
returns-in_err-state c = wants_memory _ _ _ c.from_residual.ensures.1

pub loop-byte-init : goal.loop-byte-init
loop-byte-init c = c.in_ok-state.ensures c.args.text.now

pub returns-in_err-take : goal.returns-in_err-take
returns-in_err-take c = wants_memory _ _ _ c.from_residual-in_err-take.ensures.1

pub loop-byte-preserved : goal.loop-byte-preserved
loop-byte-preserved c =
    next_byte (left_of c.loop-byte.state) (left_of c.take.new.state) c.args.text.now c.loop-byte.byte-index _ c.loop-byte-test.true c.in_ok-take.ensures
    ∙ c.loop-byte.invariant

pub returns : goal.returns
returns c =
    gives_rest _ _ _ _
    (ap (finished c.args.line) (sym c.loop-byte.invariant ∙ at_drop_all (left_of c.loop-byte.state) c.args.text.now c.loop-byte.byte-index c.loop-byte-test.false))
    c.finish.ensures
