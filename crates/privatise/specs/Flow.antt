-- An account of the code: what paths have done with scalars when they come out of a part of a
-- program, by what they had done when they came to it.
use Rattle.std.specs.Prelude.{ℕ, Bool, true, false, List, [], ◌∷◌}
use Rattle.std.specs.Prelude.{length, replicate, Option, Some, None}
use Rattle.ast.specs.Tree.{Term, Terms, element, call, parentheses, unary, binary}
use Rattle.ast.specs.Tree.{no_terms, then_term, Access, PrintItem, value_item, text_item}
use Rattle.ast.specs.Tree.{DoHead, Kind, assign, print, read, stop, Node, plain, loop}
use Rattle.ast.specs.Tree.{choose, Block, no_nodes, then_node, Arms, no_arms, then_arm}
use Rattle.privatise.specs.Cells.{walk_at, gone_on, stopped, joined}
use Rattle.privatise.specs.declared.walk.Walk.{Walk}
use Rattle.privatise.specs.declared.walk.Walk.TheVariants.{Defined, Early}

abbrev mutual
  pub after_term : Term → List Walk → List Walk
  after_term (element r es) ws = gone_on (after_terms es ws) r.cell Early
  after_term (call f es) ws = after_terms es ws
  after_term (parentheses e) ws = after_term e ws
  after_term (unary p e) ws = after_term e ws
  after_term (binary o a b) ws = after_term b (after_term a ws)
  after_term _ ws = ws

  pub after_terms : Terms → List Walk → List Walk
  after_terms no_terms ws = ws
  after_terms (then_term e es) ws = after_terms es (after_term e ws)

-- behind an expression that may be absent
abbrev pub after_optional : Option Term → List Walk → List Walk
after_optional None ws = ws
after_optional (Some e) ws = after_term e ws

-- behind an item of a PRINT
abbrev pub after_item : PrintItem → List Walk → List Walk
after_item (value_item e) ws = after_term e ws
after_item (text_item t) ws = ws

-- behind a PRINT's items
abbrev pub after_items : List PrintItem → List Walk → List Walk
after_items [] ws = ws
after_items (i ∷ more) ws = after_items more (after_item i ws)

-- behind an element or a scalar that is given a value
abbrev pub after_target : Access → List Walk → List Walk
after_target a ws = gone_on (after_terms a.subscripts ws) a.ref.cell Defined

-- behind several of these
abbrev pub after_targets : List Access → List Walk → List Walk
after_targets [] ws = ws
after_targets (a ∷ more) ws = after_targets more (after_target a ws)

-- behind a statement that holds no others
abbrev pub after_kind : Kind → List Walk → List Walk
after_kind (assign a e) ws = after_target a (after_term e ws)
after_kind (print items) ws = after_items items ws
after_kind (read elements) ws = after_targets elements ws
after_kind stop ws = stopped ws
after_kind _ ws = ws

-- behind a DO, whose variable has a value then
abbrev pub after_head : DoHead → List Walk → List Walk
after_head h ws =
    gone_on
    (after_optional h.step (after_term h.last (after_term h.first ws))) h.variable.cell Defined

abbrev mutual
  pub after_node : Node → List Walk → List Walk
  after_node (plain s) ws = after_kind s.kind ws
  after_node (loop l h b) ws = joined (after_block b (after_head h ws)) (after_head h ws)
  after_node (choose a) ws = after_arms a (replicate (length ws) Defined) ws

  pub after_block : Block → List Walk → List Walk
  after_block no_nodes ws = ws
  after_block (then_node n b) ws = after_block b (after_node n ws)

  -- by the arms that are left, or by those before, of which this is known
  pub after_arms : Arms → List Walk → List Walk → List Walk
  after_arms no_arms ended ws = joined ws ended
  after_arms (then_arm l None b more) ended ws = joined (after_block b ws) ended
  after_arms (then_arm l (Some e) b more) ended ws =
      after_arms more (joined ended (after_block b (after_term e ws))) (after_term e ws)

-- no path has used the scalar before its definition
abbrev pub is_never_early : Walk → Bool
is_never_early Early = false
is_never_early _ = true

-- so it is of the scalar with this cell
abbrev pub is_never_early_at : List Walk → ℕ → Bool
is_never_early_at ws c = is_never_early (walk_at ws c)
