-- What the check accepts: conditions on what is known at the places of a plan's body, and on what
-- is claimed of each pair of references.
use Rattle.std.specs.Prelude.{◌≡◌, ◌==◌, ◌+◌, nat_le, max, ℕ, ℤ, pos, Bool, true, false, not}
use Rattle.std.specs.Prelude.{◌&&◌, ◌||◌, List, [], ◌∷◌, map, Option, Some, None, if◌then◌else◌}
use Rattle.std.specs.List.{list_all, list_any}
use Rattle.std.specs.Ordering.{int_eq}
use Rattle.ast.specs.Store.{same_name}
use Rattle.ast.specs.Tree.{Ref}
use Rattle.loop_tree.specs.Loops.{Loop}
use Rattle.loop_tree.specs.Occurrences.{Occurrence}
use Rattle.loop_tree.specs.Paths.{Token, uses, defines, await, advance}
pub use Rattle.dependence.specs.Hiding.{has_name}
use Rattle.dependence.specs.Kept.{block_reads, block_variables, most_events}
use Rattle.dependence.specs.Plan.{PlanTree}
use Rattle.dependence.specs.Tests.{is_verified}
use Rattle.dependence.specs.declared.relation.Relation.{Relation}
use Rattle.dependence.specs.declared.relation.Relation.TheVariants.{Apart, Distance, Any}
use Rattle.plan_check.specs.Flow.{Known, Point, after_block, beginning, block_points}
use Rattle.plan_check.specs.Flow.{has_advanced, has_awaited, is_defined, is_free, outside}
use Rattle.plan_check.specs.GoodPlan.{SameBody, named, token_of}

-- ---- what the loop and the plan are by themselves

-- a step that is known and isn't 0
abbrev pub is_step : Option ℤ → Bool
is_step None = false
is_step (Some s) = not (int_eq s (pos 0))

-- an event from 1 to 64, at a distance of at least 1
abbrev pub is_proper : ℕ × ℕ → Bool
is_proper n = nat_le 1 n.0 && (nat_le n.0 most_events && nat_le 1 n.1)

-- a name is that of one of the references
abbrev pub has_named : List Ref → List ℕ → Bool
has_named rs name = list_any (λ (r : Ref). same_name r.name name) rs

-- no name stands twice
abbrev pub are_once : List (List ℕ) → Bool
are_once [] = true
are_once (n ∷ ns) = not (has_name ns n) && are_once ns

-- Otherwise 76. The loop's step is a constant other than 0, its range has no READ, the variables of
-- the loops inside are private, private names are scalars that the range gives values, each given
-- once, and events and distances are in range.
abbrev pub fits : Loop → PlanTree → Bool
fits l p =
    is_step l.step
    && (not (block_reads l.body)
    && (list_all (λ (r : Ref). has_name p.privates r.name) (block_variables l.body)
    && (list_all (λ (n : List ℕ). has_named l.assigned n) p.privates
    && (are_once p.privates && list_all (λ (n : ℕ × ℕ). is_proper n) (named p.body)))))

-- ---- by paths

-- what is known at the beginning of the plan's body: cells is more than the cells of its scalars
abbrev pub first : ℕ → Known
first cells = beginning cells (most_events + 1)

-- where a private scalar is used, each path has defined it
abbrev pub is_late : PlanTree → Point → Bool
is_late p (uses r, s) = not (has_name p.privates r.name) || is_defined s r.cell
is_late p x = true

-- Otherwise 70: a private scalar is used where some path hasn't defined it.
abbrev pub never_early : ℕ → PlanTree → Bool
never_early cells p = list_all (λ (x : Point). is_late p x) (block_points p.body (first cells))

-- where an event is advanced, no path has advanced it, and each has awaited it at distance 1
abbrev pub is_in_order : Point → Bool
is_in_order (advance e, s) = is_free s e && has_awaited s e 1
is_in_order x = true

-- Otherwise 71. No event is advanced in a loop inside; each is advanced in order; and each that the
-- body names is advanced on each path to its end.
abbrev pub in_order : ℕ → PlanTree → Bool
in_order cells p =
    outside p.body
    && (list_all (λ (x : Point). is_in_order x) (block_points p.body (first cells))
    && list_all (λ (n : ℕ × ℕ). has_advanced (after_block p.body (first cells)) n.0) (named p.body))

-- ---- by pairs

-- what is known before each reference, in order
abbrev pub at_references : List Point → List Known
at_references [] = []
at_references ((uses r, s) ∷ ps) = s ∷ at_references ps
at_references ((defines r, s) ∷ ps) = s ∷ at_references ps
at_references ((await e d, s) ∷ ps) = at_references ps
at_references ((advance e, s) ∷ ps) = at_references ps

-- their tokens
abbrev pub reference_tokens : List Point → List Token
reference_tokens [] = []
reference_tokens ((uses r, s) ∷ ps) = uses r ∷ reference_tokens ps
reference_tokens ((defines r, s) ∷ ps) = defines r ∷ reference_tokens ps
reference_tokens ((await e d, s) ∷ ps) = reference_tokens ps
reference_tokens ((advance e, s) ∷ ps) = reference_tokens ps

-- the tokens of references, in order
abbrev pub tokens_of : List Occurrence → List Token
tokens_of os = map token_of os

-- a reference, and what is known before it
abbrev pub Entry : Type 0
Entry = Occurrence × Known

-- references with what is known before each, in order
abbrev pub entries : List Occurrence → List Known → List Entry
entries [] ks = []
entries (o ∷ os) [] = []
entries (o ∷ os) (k ∷ ks) = (o, k) ∷ entries os ks

-- the references of a loop, each with what is known before it in the plan's body
abbrev pub entries_of : ℕ → Loop → PlanTree → List Entry
entries_of cells l p = entries l.references (at_references (block_points p.body (first cells)))

-- the first relation that is given for a pair
abbrev pub claimed : List (ℕ × ℕ × Relation) → ℕ → ℕ → Option Relation
claimed [] a b = None
claimed (c ∷ cs) a b = if (c.0 == a) && (c.1 == b) then Some c.2 else claimed cs a b

-- references of one name that isn't private nor the loop's variable; one of them is given a value
abbrev pub is_looked_at : Loop → PlanTree → Occurrence → Occurrence → Bool
is_looked_at l p a b =
    same_name a.ref.name b.ref.name
    && (not (same_name a.ref.name l.head.variable.name)
    && (not (has_name p.privates a.ref.name) && (a.defines || b.defines)))

-- a relation is given, and it is true
abbrev pub is_true_claim : Loop → Occurrence → Occurrence → Option Relation → Bool
is_true_claim l a b None = false
is_true_claim l a b (Some r) = is_verified l a b r

-- an event of the plan isn't advanced before a
abbrev pub is_ahead : List (ℕ × ℕ) → Known → Bool
is_ahead ns s = list_any (λ (n : ℕ × ℕ). is_free s n.0) ns

-- such an event is awaited before b, no further back
abbrev pub is_held : List (ℕ × ℕ) → Known → Known → ℕ → Bool
is_held ns s t d = list_any (λ (n : ℕ × ℕ). is_free s n.0 && has_awaited t n.0 d) ns

-- at which distance a pair is to be kept, if it is
abbrev pub distance_of : Option Relation → Option ℕ
distance_of None = None
distance_of (Some (Apart n reason)) = None
distance_of (Some (Distance n d)) = Some d
distance_of (Some Any) = Some 1

-- the same where the pair is to be kept
abbrev pub is_ahead_if : List (ℕ × ℕ) → Known → Option ℕ → Bool
is_ahead_if ns s None = true
is_ahead_if ns s (Some d) = is_ahead ns s

-- the same where the pair is to be kept, at that distance
abbrev pub is_held_if : List (ℕ × ℕ) → Known → Known → Option ℕ → Bool
is_held_if ns s t None = true
is_held_if ns s t (Some d) = is_held ns s t d

-- of each pair that is looked at
abbrev pub each_pair : Loop → PlanTree → List Entry → (Entry → Entry → Bool) → Bool
each_pair l p es test =
    list_all
    (λ (x : Entry). list_all (λ (y : Entry). not (is_looked_at l p x.0 y.0) || test x y) es) es

-- the relation that the plan claims of two references, if it claims one
abbrev pub claim_of : PlanTree → Entry → Entry → Option Relation
claim_of p x y = claimed p.relations x.0.ref.id y.0.ref.id

-- Otherwise 72. For each pair that is to be kept, some event of the plan has been advanced on no
-- path before the source.
abbrev pub all_ahead : ℕ → Loop → PlanTree → Bool
all_ahead cells l p =
    each_pair l p (entries_of cells l p)
    (λ x y. is_ahead_if (named p.body) x.1 (distance_of (claim_of p x y)))

-- Otherwise 73. For each such pair, such an event has been awaited on each path before the sink, no
-- further back than the distance.
abbrev pub all_held : ℕ → Loop → PlanTree → Bool
all_held cells l p =
    each_pair l p (entries_of cells l p)
    (λ x y. is_held_if (named p.body) x.1 y.1 (distance_of (claim_of p x y)))

-- Otherwise 74. Of each pair that is looked at a relation is claimed, and its test gives it.
abbrev pub all_true : ℕ → Loop → PlanTree → Bool
all_true cells l p =
    each_pair l p (entries_of cells l p) (λ x y. is_true_claim l x.0 y.0 (claim_of p x y))

-- The plan's body is the loop's, with awaits, advances and made ELSEs, and its references are those
-- that the loop shows.
pub record IsBody (cells : ℕ) (l : Loop) (p : PlanTree) : Type 0 where
  pub same : SameBody l p
  pub shown : tokens_of l.references ≡ reference_tokens (block_points p.body (first cells))

-- What the check accepts. all_held implies all_ahead, which only tells one refusal from another.
pub record Checked (cells : ℕ) (l : Loop) (p : PlanTree) : Type 0 where
  pub fit : fits l p ≡ true
  pub is_body : IsBody cells l p
  pub early : never_early cells p ≡ true
  pub ordered : in_order cells p ≡ true
  pub ahead : all_ahead cells l p ≡ true
  pub held : all_held cells l p ≡ true
  pub true_claims : all_true cells l p ≡ true

-- ---- how many cells are looked at

-- one more than the greatest cell of scalars, but at least n
abbrev pub cells_from : ℕ → List Ref → ℕ
cells_from n [] = n
cells_from n (r ∷ rs) = cells_from (max n (r.cell + 1)) rs

-- for the scalars that the loop's range gives values
abbrev pub cells_of : Loop → ℕ
cells_of l = cells_from 0 l.assigned

-- What the check accepts, of a loop with as many cells.
abbrev pub IsChecked : Loop → PlanTree → Type 0
IsChecked l p = Checked (cells_of l) l p
