use Rattle.std.proofs.Common.{◌≡◌, ◌∙◌, ◌+◌, ℕ, true, None, get_or, sym, ap, subst, arith, rules}
use Rattle.std.specs.Prelude.{◌%◌}
use Rattle.activities.specs.Activities.{code_in, kept_in, point_in}
use Rattle.activities.specs.Parts.{Kept, held_of, point_of}
use Rattle.activities.specs.Points.{Point, Proceeds, Steps}
use Rattle.activities.specs.Seating.{MayBegin, seated}
use Rattle.activities.specs.declared.holding.Activities.{Activities}
use Rattle.activities.proofs.Proceeds.{ticket_proceeds}
use Rattle.activities.proofs.Seats.{taken_seated, went_on, with_ticket_drawn}
use Rattle.activities.proofs.Shares.{same_point, standings}
use Rattle.activities.proofs.Taken.{place_free}
use Rattle.activities.proofs.holding.Activities.run_draft.Goals as goal

pub follow-followed-requires-clause-seated : goal.follow-followed-requires-clause-seated
follow-followed-requires-clause-seated c =
    let idle : held_of (kept_in c.args.self.now).held c.args.q ≡ None = search rules in
    (taken_seated c.args.q c.place_of-place.result c.ticket-drawn.result c.next_ticket-next.result c.in-Some.opened c.ticket-drawn.new.self c.begin.new.spare c.in-Ok.iteration c.args.self.now c.requires.stand idle c.requires.processor c.in-Some.ensures
    c.next_ticket-next.ensures c.ticket-drawn.ensures.ticket c.place_of-place.ensures c.ticket-drawn.ensures.kernel c.in-Ok.ensures c.ticket-drawn.ensures.kept).1

pub put_iteration_down-requires-clause-free : goal.put_iteration_down-requires-clause-free
put_iteration_down-requires-clause-free c =
    let old = c.args.self.now in
    let may : MayBegin old c.in-Some.opened = c.in-Some.ensures in
    ap (λ (a : Activities). get_or (standings a.iterations.items) c.place_of-place.result None) c.go_through-made.ensures.others
    ∙ ap (λ (a : Activities). get_or (standings a.iterations.items) c.place_of-place.result None) c.follow-followed.ensures.others
    ∙ ap (λ (i : ℕ). get_or (kept_in old).iterations i None) (c.place_of-place.ensures ∙ ap (λ (n : ℕ). n % old.slots) c.ticket-drawn.ensures.ticket)
    ∙ place_free (code_in old) old.slots (kept_in old) c.requires.stand.core may.near

pub returns-clause-made : goal.returns-clause-made
returns-clause-made c =
    let old = c.args.self.now in
    let q = c.args.q in
    let place = c.place_of-place.result in
    let may : MayBegin old c.in-Some.opened = c.in-Some.ensures in
    let idle : held_of (kept_in old).held q ≡ None = search rules in
    let drawn = with_ticket_drawn c.ticket-drawn.new.self c.begin.new.spare old in
    let follow = c.follow-followed in
    let go = c.go_through-made in
    let taken = taken_seated q place c.ticket-drawn.result c.next_ticket-next.result c.in-Some.opened c.ticket-drawn.new.self c.begin.new.spare c.in-Ok.iteration old c.requires.stand idle c.requires.processor may
    c.next_ticket-next.ensures c.ticket-drawn.ensures.ticket c.place_of-place.ensures c.ticket-drawn.ensures.kernel c.in-Ok.ensures c.ticket-drawn.ensures.kept in
    let there = same_point go.new.self c.put_iteration_down.new.self c.put_iteration_down.ensures.stays ∙ ap (λ (y : Kept). point_of (code_in go.new.self).variables go.new.self.slots y) c.put_iteration_down.ensures.kept in
    let begun_at : Point = point_in (seated q place c.in-Ok.iteration drawn) in
    let both = went_on follow.result go.result.made q place go.result.outcome c.in-Ok.iteration follow.new.iteration go.new.iteration drawn follow.new.self go.new.self follow.ensures.others follow.ensures.made go.ensures.made in
    let size : follow.result + go.result.made + 1 ≡ go.result.made + 1 + follow.result = omega arith in
    subst (λ (n : ℕ). Proceeds true (code_in old) old.slots n (point_in old) q (point_in c.put_iteration_down.new.self)) size
    (ticket_proceeds (code_in old) old.slots (follow.result + go.result.made) (point_in old) q begun_at (point_in c.put_iteration_down.new.self) may.ready taken.0
    (subst (λ (p : Point). Steps (code_in old) old.slots (follow.result + go.result.made) begun_at q p) (sym there) both))
