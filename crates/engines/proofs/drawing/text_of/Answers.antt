use Rattle.std.proofs.lemmas.Result.{IfOk-weaker}
use Rattle.engines.proofs.drawing.text_of.Goals as goal

pub returns : goal.returns
returns c =
    let p = c.in_ok-picture in
    IfOk-weaker c.draw.result _ _
    (λ text drawn. record {
      few = c.requires;
      picture = p.picture;
      number = p.ensures.frame.0;
      line = p.ensures.frame.1;
      columns = p.ensures.frame.2;
      arrows = p.ensures.arrows;
      drawn = drawn;
    })
    c.draw.ensures
