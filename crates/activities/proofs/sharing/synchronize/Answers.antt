use Rattle.std.proofs.Common.{◌≡◌, ℕ, ap}
use Rattle.ec_kernel.specs.View.{IsKernel}
use Rattle.machine.specs.CodeView.{code_of}
use Rattle.machine.specs.Next.{Tells}
use Rattle.machine.specs.View.{view}
use Rattle.machine.specs.declared.next.Next.{Next}
use Rattle.machine.specs.declared.next.Next.TheVariants.{Await, Advance}
use Rattle.machine.specs.Code.{Code}
use Rattle.activities.specs.Parts.{Shared, Standing}
use Rattle.activities.specs.PartsView.{shared_of, standing_of}
use Rattle.activities.specs.Sharing.{Turned}
use Rattle.activities.specs.Turns.{After, iteration_after, staying}
use Rattle.activities.specs.declared.turn.Outcome.{Outcome}
use Rattle.activities.proofs.sharing.synchronize.Goals as goal

-- a step that was told and came to this
made : (code : Code) (slot : ℕ) (x : Shared) (a : Standing) (next : Next) (o : Outcome) (y : Shared) (b : Standing) → Tells code a.frame (view code a.frame) next → IsKernel y.order
    → record { outcome = o; shared = y; standing = b } ≡ iteration_after code slot next x a → Turned code slot x a o y (staying o b)
made code slot x a next o y b t k e = record {
  next = next;
  told = t;
  outcome = ap (λ (z : After). z.outcome) e;
  shared = ap (λ (z : After). z.shared) e;
  standing = ap (λ (z : After). staying o z.standing) e;
  kernel = k;
}

pub returns-in-Await-clause-some : goal.returns-in-Await-clause-some
returns-in-Await-clause-some c =
    let told = rw c.deref.ensures at (rw c.in-Await.is at c.in_ok-next.ensures) in
    made (code_of c.args.code.now) c.args.slot (shared_of c.args.shared.now) (standing_of c.args.iteration.now) (Await c.in-Await.event c.in-Await.distance) c.await_event.result (shared_of c.await_event.new.shared) (standing_of c.await_event.new.iteration) told c.await_event.ensures.kept
    (c.await_event.ensures.after (code_of c.args.code.now))

pub returns-in-Advance-clause-some : goal.returns-in-Advance-clause-some
returns-in-Advance-clause-some c =
    let told = rw c.deref.ensures at (rw c.in-Advance.is at c.in_ok-next.ensures) in
    made (code_of c.args.code.now) c.args.slot (shared_of c.args.shared.now) (standing_of c.args.iteration.now) (Advance c.in-Advance.event) c.advance.result (shared_of c.advance.new.shared) (standing_of c.advance.new.iteration) told c.advance.ensures.kept
    (c.advance.ensures.after (code_of c.args.code.now) c.args.slot)
