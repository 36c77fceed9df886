-- What a small program's meaning opens, worked out: the inner loop is opened, and the outer one is
-- gone through.
--       DO 10 J=1,2
--       DO 20 I=1,3
--    20 S=S+I
--    10 CONTINUE
use Rattle.std.proofs.Common.{◌≡◌, ℕ, ℤ, pos, List, [], ◌∷◌, Option, Some, None, refl}
use Rattle.std.specs.Prelude.{◌==◌, if◌then◌else◌, map}
use Rattle.ast.specs.Meaning.{start}
use Rattle.ast.specs.Store.{put}
use Rattle.ast.specs.Symbols.{Symbol, variable}
use Rattle.ast.specs.Tree.{Ref, constant, element, binary, no_terms, assign, DoHead, plain, loop, Block, no_nodes, then_node}
use Rattle.ast.specs.declared.expression.Operator.TheVariants.{Add}
use Rattle.loop_tree.specs.Loops.{Loop}
use Rattle.codegen.specs.Turns.{Opening, after_turns, block_openings}

abbrev s_name : List ℕ
s_name = 83 ∷ 32 ∷ 32 ∷ 32 ∷ 32 ∷ 32 ∷ []

abbrev i_name : List ℕ
i_name = 73 ∷ 32 ∷ 32 ∷ 32 ∷ 32 ∷ 32 ∷ []

abbrev j_name : List ℕ
j_name = 74 ∷ 32 ∷ 32 ∷ 32 ∷ 32 ∷ 32 ∷ []

abbrev symbols : List Symbol
symbols = record { name = s_name; sort = variable [] } ∷ record { name = i_name; sort = variable [] } ∷ record { name = j_name; sort = variable [] } ∷ []

abbrev s : ℕ → Ref
s id = record { name = s_name; id = id; cell = 0 }

abbrev inner : DoHead
inner = record { variable = record { name = i_name; id = 1; cell = 1 }; first = constant (pos 1); last = constant (pos 3); step = None; terminal = 20 }

abbrev outer : DoHead
outer = record { variable = record { name = j_name; id = 0; cell = 2 }; first = constant (pos 1); last = constant (pos 2); step = None; terminal = 10 }

abbrev body : Block
body = then_node (plain (record { label = Some 20; line = 3; kind = assign (record { ref = s 3; subscripts = no_terms }) (binary Add (element (s 2) no_terms) (element (record { name = i_name; id = 4; cell = 1 }) no_terms)) })) no_nodes

abbrev program : Block
program = then_node (loop 1 outer (then_node (loop 2 inner body) no_nodes)) no_nodes

-- the DO whose variable's reference is 1 opens loop 0
abbrev opens : ℕ → Option ℕ
opens id = if id == 1 then Some 0 else None

-- a loop's first value and trips, and the sum where it is opened
abbrev seen : Opening → ℤ × ℕ × ℤ
seen o = (o.first, o.trips, o.store s_name 0)

two_openings : map seen (block_openings symbols opens program (start [])) ≡ (pos 1, 3, pos 0) ∷ (pos 1, 3, pos 6) ∷ []
unfolding put
two_openings = refl

abbrev source : Loop
source = record { around = Some 1; statement = 1; line = 2; head = inner; body = body; step = Some (pos 1); trips = Some 3; references = []; assigned = [] }

-- the second of them
abbrev second : Opening
second = record { number = 0; first = pos 1; trips = 3; store = put (put (put (λ name place. pos 0) s_name 0 (pos 6)) i_name 0 (pos 4)) j_name 0 (pos 2); input = []; output = [] }

two_turns : ((after_turns symbols source second 2).store s_name 0 ≡ pos 9) × ((after_turns symbols source second 2).store i_name 0 ≡ pos 3)
unfolding put
two_turns = (refl, refl)
