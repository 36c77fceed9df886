use Rattle.std.proofs.Common.{◌≡◌, List, Option}
use Rattle.std.specs.Prelude.{map, option_map}
use Rattle.ec_kernel.specs.View.{IsKernel}
use Rattle.machine.specs.CodeView.{code_of}
use Rattle.machine.specs.FrameView.{frame_of}
use Rattle.machine.specs.State.{Who}
use Rattle.activities.specs.MainTurns.{after_of, kept_of, main_part}
use Rattle.activities.specs.Parts.{Standing}
use Rattle.activities.specs.PartsView.{shared_of, standing_of}
use Rattle.activities.specs.Sharing.{Led}
use Rattle.activities.specs.Turns.{main_after, none_open}
use Rattle.activities.proofs.Shares.{both_ok, seen}
use Rattle.activities.proofs.sharing.lead.Goals as goal

pub returns-clause-ok : goal.returns-clause-ok
returns-clause-ok c =
    let code = code_of c.args.code.now in
    let x = shared_of c.args.shared.now in
    let m = main_part c.args.main.now in
    let ys = map (λ o. option_map standing_of o) c.args.iterations.now in
    let n = c.stands_next-next.result in
    let a : Standing = record { number = 0; frame = frame_of c.args.main.now.frame; out = x.output; wait = m.waiting } in
    both_ok c.main_turn.result
    (λ o. (xs : List (Option Standing)) (hs : List (Option Who)) → none_open xs ≡ c.may_open-none.result → after_of o (shared_of c.main_turn.new.shared) (main_part c.main_turn.new.main) ≡ main_after code n (kept_of x m xs hs))
    (λ o. (hs : List (Option Who)) → Led code (kept_of x m ys hs) (after_of o (shared_of c.main_turn.new.shared) (main_part c.main_turn.new.main)))
    (IsKernel c.main_turn.new.shared.kernel)
    c.main_turn.ensures.ok
    c.main_turn.ensures.kept
    (λ o h k hs. record {
      next = n;
      told = c.stands_next-next.ensures;
      after = seen code n c.may_open-none.result x m a ys hs (after_of o (shared_of c.main_turn.new.shared) (main_part c.main_turn.new.main)) c.may_open-none.ensures.opens h;
      kernel = k;
      indices = c.may_open-none.ensures.indices;
    })
