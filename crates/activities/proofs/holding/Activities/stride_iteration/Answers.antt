use Rattle.std.specs.Prelude.{option_map}
use Rattle.activities.specs.Activities.{code_in, kept_in}
use Rattle.activities.specs.PartsView.{standing_of}
use Rattle.activities.specs.Sharing.{StrodeAt}
use Rattle.activities.proofs.Gone.{along_iteration, strode_iteration, strode_stands, there}
use Rattle.activities.proofs.holding.Activities.stride_iteration.Goals as goal

pub returns-clause-made : goal.returns-clause-made
returns-clause-made c =
    let old = c.args.self.now in
    let s = (c.requires.stand.core.runs c.args.q c.args.k c.requires.holds).standing in
    let w : StrodeAt (code_in old) (kept_in old).shared.order.counts c.stride_at.result (kept_in old).shared.cells s c.stride_at.new.cells.items (option_map standing_of c.stride_at.new.place) =
    there c.args.q c.args.k c.place_from-at.result c.stride_at.result c.index_mut.result.now c.stride_at.new.place c.stride_at.new.cells.items old c.requires.stand c.requires.holds c.place_from-at.ensures c.index_mut.ensures.value c.stride_at.ensures.made in
    strode_iteration c.args.q c.args.k c.place_from-at.result c.stride_at.result c.stride_at.new.place c.stride_at.new.cells old c.requires.stand c.requires.going c.requires.holds c.place_from-at.ensures w

pub returns-clause-stand : goal.returns-clause-stand
returns-clause-stand c =
    let old = c.args.self.now in
    let s = (c.requires.stand.core.runs c.args.q c.args.k c.requires.holds).standing in
    let w : StrodeAt (code_in old) (kept_in old).shared.order.counts c.stride_at.result (kept_in old).shared.cells s c.stride_at.new.cells.items (option_map standing_of c.stride_at.new.place) =
    there c.args.q c.args.k c.place_from-at.result c.stride_at.result c.index_mut.result.now c.stride_at.new.place c.stride_at.new.cells.items old c.requires.stand c.requires.holds c.place_from-at.ensures c.index_mut.ensures.value c.stride_at.ensures.made in
    strode_stands c.args.q c.args.k c.place_from-at.result c.stride_at.result c.stride_at.new.place c.stride_at.new.cells old c.requires.stand c.requires.holds c.place_from-at.ensures c.stride_at.ensures.cells w

pub returns-clause-along : goal.returns-clause-along
returns-clause-along c =
    let old = c.args.self.now in
    let s = (c.requires.stand.core.runs c.args.q c.args.k c.requires.holds).standing in
    let w : StrodeAt (code_in old) (kept_in old).shared.order.counts c.stride_at.result (kept_in old).shared.cells s c.stride_at.new.cells.items (option_map standing_of c.stride_at.new.place) =
    there c.args.q c.args.k c.place_from-at.result c.stride_at.result c.index_mut.result.now c.stride_at.new.place c.stride_at.new.cells.items old c.requires.stand c.requires.holds c.place_from-at.ensures c.index_mut.ensures.value c.stride_at.ensures.made in
    along_iteration c.args.q c.args.k c.place_from-at.result c.stride_at.result c.stride_at.new.place c.stride_at.new.cells old c.requires.stand c.requires.going c.requires.holds c.place_from-at.ensures w
