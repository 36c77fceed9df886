use Rattle.std.proofs.Common.{◌≡◌, ◌∙◌, rules}
use Rattle.pictures.proofs.Groups.{drawn}
use Rattle.pictures.proofs.drawing.draw.Goals as goal

pub returns : goal.returns
returns c =
    let shown : c.deref-2.result.now ≡ c.in_ok-arrows.arrows.items = search rules in
    drawn c.args.picture.now c.size.result _ c.deref.result.now c.deref-3.result.now c.in_ok-text.text.items c.deref-2.result.now c.append_body.new.out.items c.extend_from_slice.new.self.items
    c.in_ok-text.ensures (shown ∙ c.in_ok-arrows.ensures) c.in_ok-append_body.ensures c.in_ok-extend_from_slice.ensures.items
