-- An account of the code: what has been collected on the way through a program.
use Rattle.std.specs.Prelude.{ℕ, ℤ, zero, suc, ◌+◌, ◌-◌, nat_le, ◌&&◌, if◌then◌else◌}
use Rattle.std.specs.Prelude.{List, [], ◌∷◌, ◌++◌, map, length, take, drop, Option, Some}
use Rattle.ast.specs.Tree.{Ref, DoHead, Node, plain, loop, choose, Block}
use Rattle.ast.specs.Tree.{no_nodes, then_node, Arms, no_arms, then_arm}
use Rattle.loop_tree.specs.Constants.{step_of, trips_of}
use Rattle.loop_tree.specs.Loops.{Loop, with_block}
use Rattle.loop_tree.specs.Occurrences.{Occurrence, first_line, head_occurrences}
use Rattle.loop_tree.specs.Occurrences.{kind_occurrences, optional_occurrences}

-- a loop, its references by the places of the first and of the one behind the last
pub record Span : Type 0 where
  pub around : Option ℕ
  pub statement : ℕ
  pub line : ℕ
  pub head : DoHead
  pub body : Block
  pub step : Option ℤ
  pub trips : Option ℕ
  pub first : ℕ
  pub last : ℕ
  pub assigned : List Ref

pub record Collected : Type 0 where
  pub lines : List ℕ
  pub references : List Occurrence
  pub spans : List Span

-- of a DO that is statement i, whose range's references begin at place n
abbrev pub span_at : Option ℕ → ℕ → ℕ → DoHead → Block → ℕ → Span
span_at around i line h b n = record {
  around = around;
  statement = i;
  line = line;
  head = h;
  body = b;
  step = step_of h;
  trips = trips_of h;
  first = n;
  last = n;
  assigned = with_block [] b;
}

-- with one more statement's line
abbrev pub with_line : ℕ → Collected → Collected
with_line line c = record c { lines = c.lines ++ line ∷ [] }

-- with a loop more, whose DO's references are the last ones
abbrev pub with_info : Option ℕ → ℕ → ℕ → DoHead → Block → Collected → Collected
with_info around i line h b c =
    record c { spans = c.spans ++ span_at around i line h b (length c.references) ∷ [] }

-- a loop is begun: its DO is collected
abbrev pub begun : Option ℕ → ℕ → DoHead → Block → Collected → Collected
begun around line h b c = record {
  lines = c.lines ++ line ∷ [];
  references = c.references ++ head_occurrences (length c.lines) h;
  spans =
      c.spans ++ span_at around (length c.lines) line h b
      (length (c.references ++ head_occurrences (length c.lines) h)) ∷ [];
}

abbrev pub with_end : ℕ → Span → Span
with_end n s = record s { last = n }

abbrev pub ended_at : ℕ → ℕ → List Span → List Span
ended_at k n [] = []
ended_at zero n (s ∷ ss) = with_end n s ∷ ss
ended_at (suc k) n (s ∷ ss) = s ∷ ended_at k n ss

-- the loop at a place is ended: its range is collected
abbrev pub ended : ℕ → Collected → Collected
ended k c = record c { spans = ended_at k (length c.references) c.spans }

abbrev mutual
  pub after_node : Option ℕ → Node → Collected → Collected
  after_node around (plain s) c =
      record {
        lines = c.lines ++ s.line ∷ [];
        references = c.references ++ kind_occurrences (length c.lines) s.kind;
        spans = c.spans;
      }
  after_node around (loop l h b) c =
      ended (length c.spans) (after_block (Some (length c.spans + 1)) b (begun around l h b c))
  after_node around (choose a) c =
      after_arms around (length c.lines) a
      (record { lines = c.lines ++ first_line a ∷ []; references = c.references; spans = c.spans })

  pub after_block : Option ℕ → Block → Collected → Collected
  after_block around no_nodes c = c
  after_block around (then_node n b) c = after_block around b (after_node around n c)

  pub after_arms : Option ℕ → ℕ → Arms → Collected → Collected
  after_arms around i no_arms c = c
  after_arms around i (then_arm l e b more) c =
      after_arms around i more (after_block around b (record {
        lines = c.lines;
        references = c.references ++ optional_occurrences i e;
        spans = c.spans;
      }))

abbrev pub no_collected : Collected
no_collected = record { lines = []; references = []; spans = [] }

-- the part of a list between two places
abbrev pub part : {X : Type 0} → List X → ℕ → ℕ → List X
part xs n m = if nat_le n m && nat_le m (length xs) then take (m - n) (drop n xs) else []

abbrev pub loop_by : List Occurrence → Span → Loop
loop_by rs s = record {
  around = s.around;
  statement = s.statement;
  line = s.line;
  head = s.head;
  body = s.body;
  step = s.step;
  trips = s.trips;
  references = part rs s.first s.last;
  assigned = s.assigned;
}

-- the loops that were collected
abbrev pub loops_in : Collected → List Loop
loops_in c = map (loop_by c.references) c.spans
