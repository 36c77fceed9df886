-- An account of the code: one walk over a plan's body, and what it notes.
use Rattle.std.specs.Prelude.{if◌then◌else◌, ℕ, Bool, true, false, not, ◌&&◌}
use Rattle.std.specs.Prelude.{◌||◌, List, [], ◌∷◌, ◌++◌, Option, Some, None}
use Rattle.ast.specs.Tree.{Ref, Term, Terms, element, call, parentheses, unary}
use Rattle.ast.specs.Tree.{binary, no_terms, then_term, Access, PrintItem}
use Rattle.ast.specs.Tree.{value_item, text_item, DoHead, Kind, assign, print, stop}
use Rattle.loop_tree.specs.Paths.{Token, uses, defines, await, advance}
use Rattle.dependence.specs.Plan.{PlanNode, awaits, advances, plain, loop, choose, PlanBlock}
use Rattle.dependence.specs.Plan.{no_nodes, then_node, PlanArms, no_arms, made_else, then_arm}
use Rattle.plan_check.specs.Checking.{has_name}
use Rattle.plan_check.specs.Flow.{Known, Near, defined_too, has_awaited}
use Rattle.plan_check.specs.Flow.{is_defined, is_free, joined, nowhere, step}

-- a reference, and what is known of the events before it
pub record Note : Type 0 where
  pub ref : Ref
  pub defines : Bool
  pub near : List Near
  pub free : List Bool

-- what a walk has noted so far: mistakes 70 and 71, and the references
pub record Seen : Type 0 where
  pub early : Bool
  pub disorder : Bool
  pub notes : List Note

-- what a path has where the reference stands
abbrev pub token_noted : Note → Token
token_noted n = if n.defines then defines n.ref else uses n.ref

-- nothing so far
abbrev pub nothing_seen : Seen
nothing_seen = record { early = false; disorder = false; notes = [] }

-- with one more reference, and what is known before it
abbrev pub noted : Ref → Bool → Known → Seen → Seen
noted r d k s = record s {
  notes = s.notes ++ record { ref = r; defines = d; near = k.near; free = k.free } ∷ [];
}

module _ (privates : List (List ℕ)) where
  -- a private scalar that some path hasn't defined
  abbrev pub is_early : Ref → Known → Bool
  is_early r k = has_name privates r.name && not (is_defined k r.cell)

  -- a reference is used
  abbrev pub used : Ref → Known → Seen → Seen
  used r k s = noted r false k (record s { early = s.early || is_early r k })

  -- a reference is given a value
  abbrev pub given : Ref → Known → Seen → Seen
  given r k s = noted r true k s

  -- the event was advanced on some path, or not awaited at distance 1 on some
  abbrev pub is_disorder : ℕ → Known → Bool
  is_disorder e k = not (is_free k e && has_awaited k e 1)

  -- an event is advanced
  abbrev pub moved_on : ℕ → Known → Seen → Seen
  moved_on e k s = record s { disorder = s.disorder || is_disorder e k }

  abbrev mutual
    pub seen_term : Term → Known → Seen → Seen
    seen_term (element r es) k s = used r k (seen_terms es k s)
    seen_term (call f es) k s = seen_terms es k s
    seen_term (parentheses e) k s = seen_term e k s
    seen_term (unary p e) k s = seen_term e k s
    seen_term (binary o a b) k s = seen_term b k (seen_term a k s)
    seen_term _ k s = s

    pub seen_terms : Terms → Known → Seen → Seen
    seen_terms no_terms k s = s
    seen_terms (then_term e es) k s = seen_terms es k (seen_term e k s)

  -- with the references of an expression that may be absent
  abbrev pub seen_optional : Option Term → Known → Seen → Seen
  seen_optional None k s = s
  seen_optional (Some e) k s = seen_term e k s

  -- with those of a PRINT's items
  abbrev pub seen_items : List PrintItem → Known → Seen → Seen
  seen_items [] k s = s
  seen_items (value_item e ∷ more) k s = seen_items more k (seen_term e k s)
  seen_items (text_item t ∷ more) k s = seen_items more k s

  -- with those of an element that is given a value
  abbrev pub seen_target : Access → Known → Seen → Seen
  seen_target a k s = given a.ref k (seen_terms a.subscripts k s)

  -- what is known behind that
  abbrev pub after_target : Access → Known → Known
  after_target a k = defined_too k a.ref.cell

  -- with the references of a statement that holds no others
  abbrev pub seen_kind : Kind → Known → Seen → Seen
  seen_kind (assign a e) k s = seen_target a k (seen_term e k s)
  seen_kind (print items) k s = seen_items items k s
  seen_kind _ k s = s

  -- what is known behind it
  abbrev pub known_kind : Kind → Known → Known
  known_kind (assign a e) k = after_target a k
  known_kind stop k = nowhere k
  known_kind _ k = k

  -- with the references of a DO
  abbrev pub seen_head : DoHead → Known → Seen → Seen
  seen_head h k s =
      given h.variable k (seen_optional h.step k (seen_term h.last k (seen_term h.first k s)))

  -- what is known behind it
  abbrev pub known_head : DoHead → Known → Known
  known_head h k = defined_too k h.variable.cell

  -- what is known where an arm isn't taken: nothing goes on behind an ELSE
  abbrev pub behind : Option Term → Known → Known
  behind None k = nowhere k
  behind (Some e) k = k

  abbrev mutual
    pub known_node : PlanNode → Known → Known
    known_node (awaits e d) k = step (await e d) k
    known_node (advances e) k = step (advance e) k
    known_node (plain x) k = known_kind x.kind k
    known_node (loop l h b) k = known_head h k
    known_node (choose a) k = known_arms a (nowhere k) k

    pub known_block : PlanBlock → Known → Known
    known_block no_nodes k = k
    known_block (then_node n b) k = known_block b (known_node n k)

    pub known_arms : PlanArms → Known → Known → Known
    known_arms no_arms ended k = joined k ended
    known_arms (made_else b) ended k = joined (known_block b k) ended
    known_arms (then_arm l c b more) ended k =
        known_arms more (joined ended (known_block b k)) (behind c k)

  abbrev mutual
    pub seen_node : PlanNode → Known → Seen → Seen
    seen_node (awaits e d) k s = s
    seen_node (advances e) k s = moved_on e k s
    seen_node (plain x) k s = seen_kind x.kind k s
    seen_node (loop l h b) k s = seen_block b (known_head h k) (seen_head h k s)
    seen_node (choose a) k s = seen_arms a k s

    pub seen_block : PlanBlock → Known → Seen → Seen
    seen_block no_nodes k s = s
    seen_block (then_node n b) k s = seen_block b (known_node n k) (seen_node n k s)

    pub seen_arms : PlanArms → Known → Seen → Seen
    seen_arms no_arms k s = s
    seen_arms (made_else b) k s = seen_block b k s
    seen_arms (then_arm l c b more) k s =
        seen_arms more (behind c k) (seen_block b k (seen_optional c k s))
