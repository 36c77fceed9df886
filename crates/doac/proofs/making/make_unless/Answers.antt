use Rattle.std.proofs.Common.{rules}
use Rattle.doac.proofs.Reading.{read_three}
use Rattle.doac.specs.Making.{EndsMaking}
use Rattle.doac.proofs.making.make_unless.Goals as goal

pub returns : goal.returns
returns g c =
    let rest = read_three _ _ _ _ _ _ _ _ _
    (λ done text given picks. EndsMaking c.args.making c.args.onto.now text given picks done (g.F.NamedFiles.done c.make_given.new.files) (g.W.Write.contents c.args.out.now) (g.W.Write.contents c.make_given.new.out) c.make_given.result)
    _ c.read_texts-texts.ensures c.make_given.ensures in
    search rules
