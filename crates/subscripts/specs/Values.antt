-- The values that a subscript may have in an iteration, whatever the iterations before have left.
use Rattle.std.specs.Prelude.{◌≡◌, ℕ, ℤ, pos, ◌+ℤ◌, ◌*ℤ◌, Bool, true, false, List, [], ◌∷◌, Ok, ⊤}
use Rattle.ast.specs.Exact.{truth_value, prefixed_value, intrinsic_value, value_of}
use Rattle.ast.specs.Tree.{Term, Terms, constant, truth, parameter, element}
use Rattle.ast.specs.Tree.{call, parentheses, unary, binary, no_terms, then_term}
use Rattle.loop_tree.specs.Loops.{Loop}
use Rattle.subscripts.specs.Forms.{Form, Share, varies, is_variable}

-- A scalar: the loop's variable has the value i. One that the range assigns may hold any number;
-- any other holds what it held when the loop began.
abbrev pub ScalarMayBe : Bool → Bool → ℤ → ℤ → ℤ → Type 0
ScalarMayBe true assigned i steady v = v ≡ i
ScalarMayBe false true i steady v = ⊤
ScalarMayBe false false i steady v = v ≡ steady

-- An expression may have the value v where the loop's variable is i, and the scalars that the range
-- doesn't assign hold these values. Each place where another scalar or an element stands may hold
-- any number of its own. What faults has no value.
abbrev mutual
  pub MayBe : Loop → (ℕ → ℤ) → ℤ → Term → ℤ → Type 0
  MayBe l steady i (constant n) v = v ≡ n
  MayBe l steady i (truth b) v = v ≡ truth_value b
  MayBe l steady i (parameter x n) v = v ≡ n
  MayBe l steady i (element r no_terms) v =
      ScalarMayBe (is_variable l r.cell) (varies l r.cell) i (steady r.cell) v
  MayBe l steady i (element r (then_term e es)) v = ⊤
  MayBe l steady i (call f es) v =
      (vs : List ℤ) × AllMayBe l steady i es vs × (intrinsic_value f vs ≡ Ok v)
  MayBe l steady i (parentheses e) v = MayBe l steady i e v
  MayBe l steady i (unary p e) v = (x : ℤ) × MayBe l steady i e x × (prefixed_value p x ≡ Ok v)
  MayBe l steady i (binary o a b) v =
      (x : ℤ) × (y : ℤ) × MayBe l steady i a x × MayBe l steady i b y × (value_of o x y ≡ Ok v)

  pub AllMayBe : Loop → (ℕ → ℤ) → ℤ → Terms → List ℤ → Type 0
  AllMayBe l steady i no_terms vs = vs ≡ []
  AllMayBe l steady i (then_term e es) vs =
      (x : ℤ) × (xs : List ℤ) × (vs ≡ x ∷ xs) × MayBe l steady i e x × AllMayBe l steady i es xs

-- the sum of shares by the values of scalars
abbrev pub sum_of : (ℕ → ℤ) → List Share → ℤ
sum_of values [] = pos 0
sum_of values (s ∷ ss) = (s.factor *ℤ values s.cell) +ℤ sum_of values ss

-- the value of a form by that of the loop's variable and those of scalars
abbrev pub form_value : (ℕ → ℤ) → ℤ → Form → ℤ
form_value values i f = f.constant +ℤ ((f.coefficient *ℤ i) +ℤ sum_of values f.shares)

-- The values agree with these on the scalars that the range doesn't assign.
abbrev pub Agree : Loop → (ℕ → ℤ) → (ℕ → ℤ) → Type 0
Agree l steady values = (c : ℕ) → varies l c ≡ false → values c ≡ steady c

-- A number is the form's value for some values of the varying scalars.
pub record IsValueOf (l : Loop) (steady : ℕ → ℤ) (i : ℤ) (f : Form) (v : ℤ) : Type 0 where
  pub values : ℕ → ℤ
  pub agree : Agree l steady values
  pub is : v ≡ form_value values i f

-- Each value that the expression may have is the form's.
abbrev pub IsForm : Loop → Term → Form → Type 0
IsForm l e f = (steady : ℕ → ℤ) (i v : ℤ) → MayBe l steady i e v → IsValueOf l steady i f v
