use Rattle.std.proofs.Common.{List, Option, sym, subst}
use Rattle.std.specs.Prelude.{map, option_map}
use Rattle.activities.specs.Activities.{code_in, kept_in}
use Rattle.activities.specs.MainTurns.{MayLead, after_of, kept_of, main_part}
use Rattle.activities.specs.PartsView.{shared_of, standing_of}
use Rattle.activities.specs.Sharing.{Led}
use Rattle.activities.specs.Turns.{none_open}
use Rattle.activities.specs.declared.parts.Iteration.{Iteration}
use Rattle.activities.proofs.Entering.{may_lead}
use Rattle.activities.proofs.Shares.{SharedBy, main_shared}
use Rattle.activities.proofs.holding.Activities.share_main.Goals as goal

pub lead-requires : goal.lead-requires
lead-requires c = record {
  may = subst (λ (xs : List (Option Iteration)). MayLead (code_in c.args.self.now) (shared_of c.args.self.now.shared) (none_open (map (λ o. option_map standing_of o) xs))) (sym c.deref.ensures.value)
      (may_lead (code_in c.args.self.now) c.args.self.now.slots c.args.q (kept_in c.args.self.now) c.requires.stand.core c.requires.holds);
}

done : (c : goal.After-note) → SharedBy c.args.q c.note.result c.args.self.now c.note.new.self
done c =
    let old = c.args.self.now in
    let y = after_of c.in_ok-outcome.outcome (shared_of c.lead.new.shared) (main_part c.lead.new.main) in
    main_shared c.args.q c.note.result y old c.note.new.self c.requires.stand c.requires.going c.requires.holds
    (subst (λ (xs : List (Option Iteration)). Led (code_in old) (kept_of (shared_of old.shared) (main_part old.main) (map (λ o. option_map standing_of o) xs) (kept_in old).held) y) c.deref.ensures.value (c.in_ok-outcome.ensures.ok (kept_in old).held))
    c.note.ensures.kept
    c.note.ensures.went
    c.note.ensures.stays

pub returns-clause-did : goal.returns-clause-did
returns-clause-did c = (done c).0

pub returns-clause-stand : goal.returns-clause-stand
returns-clause-stand c = (done c).1
