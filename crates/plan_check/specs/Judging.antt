-- An account of the code: one pass over pairs of references.
use Rattle.std.specs.Prelude.{◌==◌, ℕ, Bool, true, false, ◌&&◌, ◌||◌, List}
use Rattle.std.specs.Prelude.{[], ◌∷◌, Option, Some, None, if◌then◌else◌}
use Rattle.std.specs.List.{list_any}
use Rattle.ast.specs.Store.{same_name}
use Rattle.dependence.specs.Formed.{verified_by}
use Rattle.dependence.specs.declared.relation.Relation.{Relation}
use Rattle.loop_tree.specs.Loops.{Loop}
use Rattle.loop_tree.specs.Occurrences.{Occurrence}
use Rattle.plan_check.specs.Checking.{distance_of, has_name}
use Rattle.plan_check.specs.Flow.{Near, flag_at, is_near, near_at}
use Rattle.subscripts.specs.Forms.{Form}

-- an event is one of these
abbrev pub has_event : List ℕ → ℕ → Bool
has_event [] e = false
has_event (x ∷ es) e = (x == e) || has_event es e

-- a reference, what is known of the events before it, and the forms of its subscripts
pub record Entry : Type 0 where
  pub occurrence : Occurrence
  pub near : List Near
  pub free : List Bool
  pub forms : List (Option Form)

-- whether all pairs so far are ahead, held and claimed truly
pub record Verdict : Type 0 where
  pub ahead : Bool
  pub held : Bool
  pub claims : Bool

-- the verdict on no pairs
abbrev pub best : Verdict
best = record { ahead = true; held = true; claims = true }

module _ (events : List ℕ) where
  -- one of the events has been advanced on no path
  abbrev pub is_ahead : List Bool → Bool
  is_ahead free = list_any (λ e. flag_at free e) events

  -- such an event has been awaited on each path to the other, no further back than d
  abbrev pub is_held : List Bool → List Near → ℕ → Bool
  is_held free near d = list_any (λ e. flag_at free e && is_near (near_at near e) d) events

  -- so it is where the pair is to be kept
  abbrev pub is_ahead_if : List Bool → Option ℕ → Bool
  is_ahead_if free None = true
  is_ahead_if free (Some d) = is_ahead free

  -- so it is where the pair is to be kept
  abbrev pub is_held_if : List Bool → List Near → Option ℕ → Bool
  is_held_if free near None = true
  is_held_if free near (Some d) = is_held free near d

-- the variable is the loop's, or each iteration has one of its own
abbrev pub is_own : Loop → List (List ℕ) → Occurrence → Bool
is_own l privates a = same_name a.ref.name l.head.variable.name || has_name privates a.ref.name

-- one variable, and one of the two gives it a value
abbrev pub is_pair : Occurrence → Occurrence → Bool
is_pair a b = same_name a.ref.name b.ref.name && (a.defines || b.defines)

-- a relation is claimed of a pair, and its test gives it
abbrev pub is_given : Loop → Entry → Entry → Option Relation → Bool
is_given l x y None = false
is_given l x y (Some r) = verified_by l x.forms y.forms r

module _ (l : Loop) (events : List ℕ) (claim : ℕ → ℕ → Option Relation) where
  -- the verdict with one more pair, by what is claimed of it
  abbrev pub by_claim : Entry → Entry → Option Relation → Verdict → Verdict
  by_claim x y c v = record {
    ahead = v.ahead && is_ahead_if events x.free (distance_of c);
    held = v.held && is_held_if events x.free y.near (distance_of c);
    claims = v.claims && is_given l x y c;
  }

  -- the same, where the two are looked at
  abbrev pub with_pair : Entry → Entry → Verdict → Verdict
  with_pair x y v =
      if is_pair x.occurrence y.occurrence
      then by_claim x y (claim x.occurrence.ref.id y.occurrence.ref.id) v
      else v

  -- with the pairs of a reference and several others
  abbrev pub with_partners : Entry → List Entry → Verdict → Verdict
  with_partners x [] v = v
  with_partners x (y ∷ ys) v = with_partners x ys (with_pair x y v)

  -- the same of a reference whose variable iterations share
  abbrev pub with_entry : List (List ℕ) → Entry → List Entry → Verdict → Verdict
  with_entry privates x ys v = if is_own l privates x.occurrence then v else with_partners x ys v

  -- with the pairs of several references and others
  abbrev pub with_all : List (List ℕ) → List Entry → List Entry → Verdict → Verdict
  with_all privates [] ys v = v
  with_all privates (x ∷ xs) ys v = with_all privates xs ys (with_entry privates x ys v)
