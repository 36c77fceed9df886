-- An account of the code: what a walk over a plan's body and a pass over pairs answer.
use Rattle.std.specs.Prelude.{◌≡◌, true, not, List, map}
use Rattle.std.specs.List.{list_all}
use Rattle.dependence.specs.Plan.{PlanTree}
use Rattle.loop_tree.specs.Loops.{Loop}
use Rattle.loop_tree.specs.Occurrences.{Occurrence}
use Rattle.plan_check.specs.Checking.{IsBody, all_ahead, all_held, all_true, at_references}
use Rattle.plan_check.specs.Checking.{cells_of, entries, first, fits, in_order}
use Rattle.plan_check.specs.Checking.{is_in_order, never_early, reference_tokens}
use Rattle.plan_check.specs.Entries.{entries_by, joined_entry}
use Rattle.plan_check.specs.Flow.{Known, Point, after_block, block_points}
use Rattle.plan_check.specs.Judging.{Verdict}
use Rattle.plan_check.specs.Walking.{Seen, known_block, nothing_seen, seen_block, token_noted}

-- the places of a plan's body, each with what is known there
abbrev pub points_of : Loop → PlanTree → List Point
points_of l p = block_points p.body (first (cells_of l))

-- what the account of the code says of a walk over it
abbrev pub known_over : Loop → PlanTree → Known
known_over l p = known_block p.privates p.body (first (cells_of l))

-- what it says that the walk notes
abbrev pub seen_over : Loop → PlanTree → Seen
seen_over l p = seen_block p.privates p.body (first (cells_of l)) nothing_seen

-- What a walk answers: what is known behind the body, which mistakes were met, and the references.
pub record IsWalked (l : Loop) (p : PlanTree) (k : Known) (s : Seen) : Type 0 where
  pub known : k ≡ after_block p.body (first (cells_of l))
  pub early : s.early ≡ not (never_early (cells_of l) p)
  pub disorder : s.disorder ≡ not (list_all (λ (x : Point). is_in_order x) (points_of l p))
  pub tokens : map token_noted s.notes ≡ reference_tokens (points_of l p)
  pub entries : (os : List Occurrence)
      → entries_by l os s.notes ≡ map (joined_entry l) (entries os (at_references (points_of l p)))

-- what the pass over pairs answers
pub record IsJudged (l : Loop) (p : PlanTree) (v : Verdict) : Type 0 where
  pub ahead : v.ahead ≡ all_ahead (cells_of l) l p
  pub held : v.held ≡ all_held (cells_of l) l p
  pub claims : v.claims ≡ all_true (cells_of l) l p

-- what is asked before pairs are looked at
pub record IsOrderly (l : Loop) (p : PlanTree) : Type 0 where
  pub fit : fits l p ≡ true
  pub is_body : IsBody (cells_of l) l p
  pub early : never_early (cells_of l) p ≡ true
  pub ordered : in_order (cells_of l) p ≡ true
