use Rattle.std.proofs.Common.{◌∙◌, ℕ, None, get_or, sym, ap, subst}
use Rattle.std.specs.Prelude.{◌%◌}
use Rattle.activities.specs.Activities.{code_in, kept_in, point_in}
use Rattle.activities.specs.Parts.{Kept, point_of}
use Rattle.activities.specs.Points.{Point, Steps}
use Rattle.activities.specs.Seating.{MayBegin, seated}
use Rattle.activities.specs.declared.holding.Activities.{Activities}
use Rattle.activities.proofs.Proceeds.{ticket_proceeds}
use Rattle.activities.proofs.Seats.{taken_seated, with_ticket_drawn}
use Rattle.activities.proofs.Shares.{same_point, standings}
use Rattle.activities.proofs.Taken.{place_free}
use Rattle.activities.proofs.holding.Activities.run_next.Goals as goal

pub go_through-made-requires-clause-seated : goal.go_through-made-requires-clause-seated
go_through-made-requires-clause-seated c =
    (taken_seated c.args.q c.place_of-place.result c.ticket-number.result c.next_ticket-next.result c.in-Some.opened c.ticket-number.new.self c.begin.new.spare c.in-Ok.iteration c.args.self.now c.requires.stand c.requires.idle c.requires.processor c.in-Some.ensures
    c.next_ticket-next.ensures c.ticket-number.ensures.ticket c.place_of-place.ensures c.ticket-number.ensures.kernel c.in-Ok.ensures c.ticket-number.ensures.kept).1

pub put_iteration_down-requires-clause-free : goal.put_iteration_down-requires-clause-free
put_iteration_down-requires-clause-free c =
    let old = c.args.self.now in
    let may : MayBegin old c.in-Some.opened = c.in-Some.ensures in
    ap (λ (a : Activities). get_or (standings a.iterations.items) c.place_of-place.result None) c.go_through-made.ensures.others
    ∙ ap (λ (i : ℕ). get_or (kept_in old).iterations i None) (c.place_of-place.ensures ∙ ap (λ (n : ℕ). n % old.slots) c.ticket-number.ensures.ticket)
    ∙ place_free (code_in old) old.slots (kept_in old) c.requires.stand.core may.near

pub returns-clause-made : goal.returns-clause-made
returns-clause-made c =
    let old = c.args.self.now in
    let may : MayBegin old c.in-Some.opened = c.in-Some.ensures in
    let went = c.go_through-made.new.self in
    let taken = taken_seated c.args.q c.place_of-place.result c.ticket-number.result c.next_ticket-next.result c.in-Some.opened c.ticket-number.new.self c.begin.new.spare c.in-Ok.iteration old c.requires.stand c.requires.idle c.requires.processor may
    c.next_ticket-next.ensures c.ticket-number.ensures.ticket c.place_of-place.ensures c.ticket-number.ensures.kernel c.in-Ok.ensures c.ticket-number.ensures.kept in
    let there = same_point went c.put_iteration_down.new.self c.put_iteration_down.ensures.stays ∙ ap (λ (y : Kept). point_of (code_in went).variables went.slots y) c.put_iteration_down.ensures.kept in
    let begun_at : Point = point_in (seated c.args.q c.place_of-place.result c.in-Ok.iteration (with_ticket_drawn c.ticket-number.new.self c.begin.new.spare old)) in
    ticket_proceeds (code_in old) old.slots c.go_through-made.result.made (point_in old) c.args.q begun_at (point_in c.put_iteration_down.new.self) may.ready taken.0
    (subst (λ (p : Point). Steps (code_in old) old.slots c.go_through-made.result.made begun_at c.args.q p) (sym there) c.go_through-made.ensures.made)
