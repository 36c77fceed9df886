-- What a walk answers.
use Rattle.std.proofs.Common.{◌≡◌, ◌∙◌, true, false, not, Result, Ok, Err, IfOk, List, map, ap}
use Rattle.std.proofs.lemmas.Bool.{and_parts, not-true}
use Rattle.dependence.specs.Kept.{block_reads}
use Rattle.dependence.specs.Plan.{PlanTree}
use Rattle.loop_tree.specs.Loops.{Loop}
use Rattle.plan_check.specs.Checking.{cells_of, first, fits, is_step}
use Rattle.plan_check.specs.Entries.{entries_by}
use Rattle.plan_check.specs.Flow.{Known}
use Rattle.plan_check.specs.GoodPlan.{SameBody}
use Rattle.plan_check.specs.KnownView.{known as known_of}
use Rattle.plan_check.specs.SeenView.{seen as seen_of}
use Rattle.plan_check.specs.declared.start.Walked.{Walked}
use Rattle.plan_check.specs.Walked.{IsWalked, points_of}
use Rattle.plan_check.specs.Walking.{Note, Seen, known_block, nothing_seen, seen_block, token_noted}
use Rattle.plan_check.proofs.Bridge.{NoReads, block_known, block_seen, noticed_all}
use Rattle.plan_check.proofs.Glue.{disorder_is, early_is, entries_are, notes_are, notes_of, tokens_are}
use Rattle.plan_check.proofs.Reading.{no_reads}

pub no_read_in : (l : Loop) (p : PlanTree) → fits l p ≡ true → block_reads l.body ≡ false
no_read_in l p h = not-true (block_reads l.body) (and_parts (not (block_reads l.body)) _ (and_parts (is_step l.step) _ h).1).0

pub is_walked : (l : Loop) (p : PlanTree) (k : Known) (s : Seen) → fits l p ≡ true → SameBody l p
    → k ≡ known_block p.privates p.body (first (cells_of l)) → s ≡ seen_block p.privates p.body (first (cells_of l)) nothing_seen → IsWalked l p k s
is_walked l p k s fit same e f =
    let free : NoReads p.privates p.body = no_reads l p (no_read_in l p fit) same in
    let noticed : s ≡ noticed_all p.privates (points_of l p) nothing_seen = f ∙ block_seen p.privates p.body (first (cells_of l)) nothing_seen free in
    let noted : s.notes ≡ notes_of p (points_of l p) = ap (λ (z : Seen). z.notes) noticed ∙ notes_are p (points_of l p) nothing_seen in
    record {
      known = e ∙ block_known p.privates p.body (first (cells_of l)) free;
      early = ap (λ (z : Seen). z.early) noticed ∙ early_is p (points_of l p) nothing_seen;
      disorder = ap (λ (z : Seen). z.disorder) noticed ∙ disorder_is p (points_of l p) nothing_seen;
      tokens = ap (λ (ns : List Note). map token_noted ns) noted ∙ tokens_are p (points_of l p);
      entries = λ os. ap (λ (ns : List Note). entries_by l os ns) noted ∙ entries_are p l os (points_of l p);
    }

pub walked_if : {E : Type 0} (l : Loop) (p : PlanTree) (r : Result Walked E) → fits l p ≡ true → SameBody l p
    → IfOk r (λ w. known_of w.known ≡ known_block p.privates p.body (first (cells_of l))) → IfOk r (λ w. seen_of w.seen ≡ seen_block p.privates p.body (first (cells_of l)) nothing_seen)
    → IfOk r (λ w. IsWalked l p (known_of w.known) (seen_of w.seen))
walked_if l p (Ok w) fit same e f = is_walked l p (known_of w.known) (seen_of w.seen) fit same e f
walked_if l p (Err x) fit same e f = tt
