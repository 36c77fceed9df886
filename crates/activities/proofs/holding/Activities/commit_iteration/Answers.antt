use Rattle.std.proofs.Common.{subst}
use Rattle.std.specs.Prelude.{IfSome, option_map}
use Rattle.machine.specs.Code.{Code}
use Rattle.activities.specs.Activities.{code_in, kept_in}
use Rattle.activities.specs.PartsView.{standing_of}
use Rattle.activities.specs.Sharing.{StrodeAt}
use Rattle.activities.proofs.Gone.{strode_iteration, strode_stands, there}
use Rattle.activities.proofs.holding.Activities.commit_iteration.Goals as goal

pub returns-clause-made : goal.returns-clause-made
returns-clause-made c =
    let old = c.args.self.now in
    let s = (c.requires.stand.core.runs c.args.q c.args.k c.requires.holds).standing in
    let made : IfSome (option_map standing_of c.index_mut.result.now) (λ z. StrodeAt (code_in old) (kept_in old).shared.order.counts c.commit_at.result (kept_in old).shared.cells z c.commit_at.new.cells.items (option_map standing_of c.commit_at.new.place)) =
    subst (λ (d : Code). IfSome (option_map standing_of c.index_mut.result.now) (λ z. StrodeAt d (kept_in old).shared.order.counts c.commit_at.result (kept_in old).shared.cells z c.commit_at.new.cells.items (option_map standing_of c.commit_at.new.place))) c.requires.own c.commit_at.ensures.made in
    let w : StrodeAt (code_in old) (kept_in old).shared.order.counts c.commit_at.result (kept_in old).shared.cells s c.commit_at.new.cells.items (option_map standing_of c.commit_at.new.place) =
    there c.args.q c.args.k c.place_from-at.result c.commit_at.result c.index_mut.result.now c.commit_at.new.place c.commit_at.new.cells.items old c.requires.stand c.requires.holds c.place_from-at.ensures c.index_mut.ensures.value made in
    strode_iteration c.args.q c.args.k c.place_from-at.result c.commit_at.result c.commit_at.new.place c.commit_at.new.cells old c.requires.stand c.requires.going c.requires.holds c.place_from-at.ensures w

pub returns-clause-stand : goal.returns-clause-stand
returns-clause-stand c =
    let old = c.args.self.now in
    let s = (c.requires.stand.core.runs c.args.q c.args.k c.requires.holds).standing in
    let made : IfSome (option_map standing_of c.index_mut.result.now) (λ z. StrodeAt (code_in old) (kept_in old).shared.order.counts c.commit_at.result (kept_in old).shared.cells z c.commit_at.new.cells.items (option_map standing_of c.commit_at.new.place)) =
    subst (λ (d : Code). IfSome (option_map standing_of c.index_mut.result.now) (λ z. StrodeAt d (kept_in old).shared.order.counts c.commit_at.result (kept_in old).shared.cells z c.commit_at.new.cells.items (option_map standing_of c.commit_at.new.place))) c.requires.own c.commit_at.ensures.made in
    let w : StrodeAt (code_in old) (kept_in old).shared.order.counts c.commit_at.result (kept_in old).shared.cells s c.commit_at.new.cells.items (option_map standing_of c.commit_at.new.place) =
    there c.args.q c.args.k c.place_from-at.result c.commit_at.result c.index_mut.result.now c.commit_at.new.place c.commit_at.new.cells.items old c.requires.stand c.requires.holds c.place_from-at.ensures c.index_mut.ensures.value made in
    strode_stands c.args.q c.args.k c.place_from-at.result c.commit_at.result c.commit_at.new.place c.commit_at.new.cells old c.requires.stand c.requires.holds c.place_from-at.ensures c.commit_at.ensures.cells w
