use Rattle.std.proofs.Common.{◌≡◌, ◌++◌, length, map, rules}
use Rattle.ast.specs.View.{letters}
use Rattle.engines.specs.Listing.{advances_by_event, await_lines, event_lines, open_line, private_line}
use Rattle.engines.proofs.Listings.{appended}
use Rattle.engines.proofs.listing.append_body.Goals as goal

pub returns : goal.returns
returns c =
    let head : c.append_open.new.out.items ≡ c.args.out.now.items ++ open_line c.args.number c.args.line (length c.args.sources.now) = search (rules, c.in_ok-append_open.ensures) in
    appended c.args.out.now.items (open_line c.args.number c.args.line (length c.args.sources.now)) (private_line (map letters c.args.names.now)) (event_lines 1 c.args.sources.now) (await_lines c.args.kept.now) (advances_by_event 1 c.args.sources.now c.args.advanced.now)
    c.append_open.new.out.items c.append_private.new.out.items c.append_events.new.out.items c.append_awaits.new.out.items c.append_all_advances.new.out.items
    head c.in_ok-append_private.ensures c.in_ok-append_events.ensures c.in_ok-append_awaits.ensures c.in_ok-append_all_advances.ensures
