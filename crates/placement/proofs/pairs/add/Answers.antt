use Rattle.std.proofs.Common.{rules}
use Rattle.placement.specs.declared.pairs.Pairs.{Pairs}
use Rattle.placement.proofs.Grouping.{grouped_more}
use Rattle.placement.proofs.pairs.add.Goals as goal

pub returns-clause-grouped : goal.returns-clause-grouped
returns-clause-grouped c =
    let q : Pairs = record { shared = c.push.new.self; kinds = c.args.pairs.now.kinds; all = c.push_at.new.lists; defining = c.add_defining.new.defining } in
    grouped_more c.args.pairs.now q c.args.shared c.len-place.result c.requires (search (rules, c.len-place.ensures)) c.in_ok-push.ensures.items c.in_ok-push_at.ensures c.in_ok-add_defining.ensures
