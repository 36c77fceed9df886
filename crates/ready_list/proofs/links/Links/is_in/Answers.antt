use Rattle.ready_list.proofs.Closing.{known_place}
use Rattle.ready_list.proofs.links.Links.is_in.Goals as goal

pub returns : goal.returns
returns c =
    known_place c.place_of.result c.is_some.result c.args.slot c.args.self.now.lists c.place_of.ensures c.is_some.ensures
