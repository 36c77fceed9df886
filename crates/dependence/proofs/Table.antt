-- The definition of the relation, tried on worked pairs of references, in a loop DO I=1,10 where
-- nothing else is said. M is a scalar that the range doesn't assign, J one that it assigns.
use Rattle.std.proofs.Common.{◌≡◌, refl}
use Rattle.std.specs.Prelude.{ℕ, pos, true, false, [], ◌∷◌, Option, Some, None}
use Rattle.ast.specs.Tree.{Term, Terms, constant, element, binary, no_terms, then_term, DoHead, no_nodes}
use Rattle.ast.specs.declared.expression.Operator.TheVariants.{Add, Subtract, Multiply}
use Rattle.dependence.specs.Tests.{relation, is_verified}
use Rattle.dependence.specs.declared.relation.Reason.TheVariants.{Constant, Divisor, Distance as NoDistance, Range}
use Rattle.dependence.specs.declared.relation.Relation.{Relation}
use Rattle.dependence.specs.declared.relation.Relation.TheVariants.{Apart, Distance, Any}
use Rattle.loop_tree.specs.Constants.{step_of, trips_of}
use Rattle.loop_tree.specs.Loops.{Loop}
use Rattle.loop_tree.specs.Occurrences.{Occurrence}

abbrev scalar : ℕ → Term
scalar c = element (record { name = c ∷ []; id = 0; cell = c }) no_terms

abbrev number : ℕ → Term
number n = constant (pos n)

abbrev i : Term
i = scalar 0

abbrev m : Term
m = scalar 1

abbrev j : Term
j = scalar 2

abbrev plus : Term → Term → Term
plus a b = binary Add a b

abbrev less : Term → Term → Term
less a b = binary Subtract a b

abbrev times : Term → Term → Term
times a b = binary Multiply a b

abbrev head_by : Option Term → DoHead
head_by step = record { terminal = 10; variable = record { name = 0 ∷ []; id = 0; cell = 0 }; first = number 1; last = number 10; step = step }

abbrev loop_by : Option Term → Loop
loop_by step = record {
  around = None;
  statement = 0;
  line = 1;
  head = head_by step;
  body = no_nodes;
  step = step_of (head_by step);
  trips = trips_of (head_by step);
  references = [];
  assigned = record { name = 2 ∷ []; id = 0; cell = 2 } ∷ [];
}

abbrev one : Term → Terms
one e = then_term e no_terms

abbrev two : Term → Term → Terms
two e f = then_term e (one f)

abbrev at : Terms → Occurrence
at es = record { ref = record { name = 9 ∷ []; id = 0; cell = 9 }; subscripts = es; defines = true; statement = 0 }

abbrev related : Terms → Terms → Relation
related es fs = relation (loop_by None) (at es) (at fs)

abbrev by_step : ℕ → Terms → Terms → Relation
by_step s es fs = relation (loop_by (Some (number s))) (at es) (at fs)

row_1 : related (one (plus i m)) (one (less (plus i m) (number 3))) ≡ Distance 1 3
row_1 = refl

row_2 : related (one (less (plus i m) (number 3))) (one (plus i m)) ≡ Apart 1 NoDistance
row_2 = refl

row_3 : related (one (times (number 2) i)) (one (plus (times (number 2) i) (number 3))) ≡ Apart 1 Divisor
row_3 = refl

row_4 : related (two (number 3) i) (two (number 4) i) ≡ Apart 1 Constant
row_4 = refl

row_5 : related (two i j) (two (less i (number 2)) j) ≡ Distance 1 2
row_5 = refl

row_6 : related (one (times (number 2) j)) (one (plus (times (number 2) j) (number 1))) ≡ Apart 1 Divisor
row_6 = refl

row_7 : related (one (times (number 3) m)) (one (plus m (number 1))) ≡ Apart 1 Divisor
row_7 = refl

row_8 : related (one m) (one m) ≡ Any
row_8 = refl

row_9 : related (one j) (one j) ≡ Any
row_9 = refl

row_10 : related (one (plus j j)) (one (plus (times (number 2) j) (number 1))) ≡ Any
row_10 = refl

row_11 : related (one (times i i)) (one i) ≡ Any
row_11 = refl

row_12 : by_step 2 (one i) (one (less i (number 3))) ≡ Apart 1 NoDistance
row_12 = refl

row_13 : by_step 0 (one i) (one i) ≡ Any
row_13 = refl

row_14 : related (one (times (number 2) i)) (one (plus (times (number 2) i) (number 1))) ≡ Apart 1 Divisor
row_14 = refl

row_15 : related (one (plus (times (number 2) i) (number 1))) (one (times (number 2) i)) ≡ Apart 1 Divisor
row_15 = refl

row_16 : related (one (plus i (number 20))) (one i) ≡ Apart 1 Range
row_16 = refl

row_17 : related (one i) (one (plus i (number 20))) ≡ Apart 1 NoDistance
row_17 = refl

claimed : is_verified (loop_by None) (at (one (plus i m))) (at (one (less (plus i m) (number 3)))) (Distance 1 3) ≡ true
claimed = refl

claimed_wrongly : is_verified (loop_by None) (at (one (plus i m))) (at (one (less (plus i m) (number 3)))) (Distance 1 4) ≡ false
claimed_wrongly = refl
