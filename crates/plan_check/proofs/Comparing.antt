-- Expressions are compared part by part.
use Rattle.std.proofs.Common.{◌≡◌, ◌∙◌, ℕ, ℤ, Bool, true, false, Box, List, Vec, Global, map, ap, refl, rules, sym, subst}
use Rattle.std.specs.Bool.{Decides}
use Rattle.ast.specs.Tree as tree
use Rattle.ast.specs.Tree.{Ref, Term, Terms, accessed, binary, call, constant, element, parameter, parentheses, terms, truth, unary}
use Rattle.ast.specs.View.{access, access_step, ref, term, term_step}
use Rattle.ast.specs.declared.expression.Access.{Access, fold_out-Access}
use Rattle.ast.specs.declared.expression.Expr.{Expr, out-Expr, roll-Expr, roll-out-Expr}
use Rattle.ast.specs.declared.expression.Expr.TheOpen.{Expr-F}
use Rattle.ast.specs.declared.expression.Expr.TheVariants.{Binary, Call, Constant, Element, Parameter, Parentheses, Truth, Unary, rolls-Binary, rolls-Call, rolls-Constant, rolls-Element, rolls-Parameter, rolls-Parentheses, rolls-Truth, rolls-Unary}
use Rattle.ast.specs.declared.expression.Intrinsic.{Intrinsic}
use Rattle.ast.specs.declared.expression.Operator.{Operator}
use Rattle.ast.specs.declared.expression.Prefix.{Prefix}
use Rattle.ast.specs.declared.name.Name.{Name}
use Rattle.ast.proofs.Terms.{binary_of, call_of, constant_of, element_of, parameter_of, parentheses_of, truth_of, unary_of}
use Rattle.plan_check.proofs.Equal.{last_part, part_differs}

-- ---- what an expression is, told by what it stands for

abbrev pub Told : Expr → Term → Type 0
Told e (constant n) = (x : ℤ) × (e ≡ Constant x)
Told e (truth b) = (x : Bool) × (e ≡ Truth x)
Told e (parameter l n) = (x : Name) × (y : ℤ) × (e ≡ Parameter x y)
Told e (element r ts) = (x : Access) × (e ≡ Element x)
Told e (call f ts) = (g : Intrinsic) × (xs : Vec Expr Global) × (e ≡ Call g xs)
Told e (parentheses t) = (x : Box Expr Global) × (e ≡ Parentheses x)
Told e (unary p t) = (q : Prefix) × (x : Box Expr Global) × (e ≡ Unary q x)
Told e (binary o t u) = (q : Operator) × (x y : Box Expr Global) × (e ≡ Binary q x y)

told_as : (e : Expr) (t : Term) → term e ≡ t → Told e t → Told e (term e)
told_as e t is h = subst (λ z. Told e z) (sym is) h

told_by : (e : Expr) (o : Expr-F Expr Access) → e ≡ roll-Expr o → Told e (term e)
told_by e (Expr-F.Constant n) h = let is = h ∙ rolls-Constant n in told_as e _ (constant_of e n is) (n, is)
told_by e (Expr-F.Truth b) h = let is = h ∙ rolls-Truth b in told_as e _ (truth_of e b is) (b, is)
told_by e (Expr-F.Parameter x n) h = let is = h ∙ rolls-Parameter x n in told_as e _ (parameter_of e x n is) (x, n, is)
told_by e (Expr-F.Element a) h = let is = h ∙ rolls-Element a in told_as e _ (element_of e a is) (a, is)
told_by e (Expr-F.Call f es) h = let is = h ∙ rolls-Call f es in told_as e _ (call_of e f es es.items is refl) (f, es, is)
told_by e (Expr-F.Parentheses x) h = let is = h ∙ rolls-Parentheses x in told_as e _ (parentheses_of e x x.value is refl) (x, is)
told_by e (Expr-F.Unary p x) h = let is = h ∙ rolls-Unary p x in told_as e _ (unary_of e p x x.value is refl) (p, x, is)
told_by e (Expr-F.Binary o x y) h = let is = h ∙ rolls-Binary o x y in told_as e _ (binary_of e o x y x.value y.value is refl refl) (o, x, y, is)

told : (e : Expr) → Told e (term e)
told e = told_by e (out-Expr e) (sym (roll-out-Expr e))

told_of : (e : Expr) (t u : Term) → t ≡ u → t ≡ term e → Told e u
told_of e t u is h = subst (λ z. Told e z) (sym h ∙ is) (told e)

-- an expression that isn't of the kind of another stands for another tree
pub no_constant : (a b : Expr) (n : ℤ) → a ≡ Constant n → ((x : ℤ) → b ≡ Constant x → ⊥) → Decides false (term a ≡ term b)
no_constant a b n is other = ((λ h. cc), (λ h. let o = told_of b (term a) _ (constant_of a n is) h in absurd (other o.0 o.1)))

pub no_truth : (a b : Expr) (n : Bool) → a ≡ Truth n → ((x : Bool) → b ≡ Truth x → ⊥) → Decides false (term a ≡ term b)
no_truth a b n is other = ((λ h. cc), (λ h. let o = told_of b (term a) _ (truth_of a n is) h in absurd (other o.0 o.1)))

pub no_parameter : (a b : Expr) (m : Name) (n : ℤ) → a ≡ Parameter m n → ((x : Name) (y : ℤ) → b ≡ Parameter x y → ⊥) → Decides false (term a ≡ term b)
no_parameter a b m n is other = ((λ h. cc), (λ h. let o = told_of b (term a) _ (parameter_of a m n is) h in absurd (other o.0 o.1 o.2)))

pub no_element : (a b : Expr) (n : Access) → a ≡ Element n → ((x : Access) → b ≡ Element x → ⊥) → Decides false (term a ≡ term b)
no_element a b n is other = ((λ h. cc), (λ h. let o = told_of b (term a) _ (element_of a n is) h in absurd (other o.0 o.1)))

pub no_call : (a b : Expr) (f : Intrinsic) (es : Vec Expr Global) → a ≡ Call f es → ((x : Intrinsic) (y : Vec Expr Global) → b ≡ Call x y → ⊥) → Decides false (term a ≡ term b)
no_call a b f es is other = ((λ h. cc), (λ h. let o = told_of b (term a) _ (call_of a f es es.items is refl) h in absurd (other o.0 o.1 o.2)))

pub no_parentheses : (a b : Expr) (n : Box Expr Global) → a ≡ Parentheses n → ((x : Box Expr Global) → b ≡ Parentheses x → ⊥) → Decides false (term a ≡ term b)
no_parentheses a b n is other = ((λ h. cc), (λ h. let o = told_of b (term a) _ (parentheses_of a n n.value is refl) h in absurd (other o.0 o.1)))

pub no_unary : (a b : Expr) (p : Prefix) (n : Box Expr Global) → a ≡ Unary p n → ((x : Prefix) (y : Box Expr Global) → b ≡ Unary x y → ⊥) → Decides false (term a ≡ term b)
no_unary a b p n is other = ((λ h. cc), (λ h. let o = told_of b (term a) _ (unary_of a p n n.value is refl) h in absurd (other o.0 o.1 o.2)))

pub no_binary : (a b : Expr) (o : Operator) (m n : Box Expr Global) → a ≡ Binary o m n → ((x : Operator) (y z : Box Expr Global) → b ≡ Binary x y z → ⊥) → Decides false (term a ≡ term b)
no_binary a b p m n is other = ((λ h. cc), (λ h. let o = told_of b (term a) _ (binary_of a p m n m.value n.value is refl refl) h in absurd (other o.0 o.1 o.2 o.3)))

-- ---- expressions of one kind

-- what is compared, by what it stands for
pub seen : {X : Type 0} (x y u v : X) (b : Bool) → x ≡ u → y ≡ v → Decides b (u ≡ v) → Decides b (x ≡ y)
seen x y u v b e f d = ((λ h. e ∙ d.0 h ∙ sym f), (λ h. d.1 (sym e ∙ h ∙ f)))

pub constants : (m n : ℤ) (b : Bool) → Decides b (m ≡ n) → Decides b (constant m ≡ constant n)
constants m n b d = ((λ h. ap constant (d.0 h)), (λ h. d.1 cc))

pub truths : (m n b : Bool) → Decides b (m ≡ n) → Decides b (truth m ≡ truth n)
truths m n b d = ((λ h. ap truth (d.0 h)), (λ h. d.1 cc))

pub in_parentheses : (x y : Term) (b : Bool) → Decides b (x ≡ y) → Decides b (parentheses x ≡ parentheses y)
in_parentheses x y b d = ((λ h. ap parentheses (d.0 h)), (λ h. d.1 cc))

-- the two parts of a parameter, of a call, of a prefix and its operand
pub other_parameter : (k l : List ℕ) (m n : ℤ) (s : Bool) → s ≡ false → Decides s (k ≡ l) → Decides s (parameter k m ≡ parameter l n)
other_parameter k l m n s w d = part_differs s s refl w d (λ h. cc)

pub same_parameter : (k l : List ℕ) (m n : ℤ) (s b : Bool) → s ≡ true → Decides s (k ≡ l) → Decides b (m ≡ n) → Decides b (parameter k m ≡ parameter l n)
same_parameter k l m n s b w d e = last_part s b w d e (λ h g. cc) (λ h. cc)

pub other_call : (f g : Intrinsic) (ts us : Terms) (s : Bool) → s ≡ false → Decides s (f ≡ g) → Decides s (call f ts ≡ call g us)
other_call f g ts us s w d = part_differs s s refl w d (λ h. cc)

pub same_call : (f g : Intrinsic) (ts us : Terms) (s b : Bool) → s ≡ true → Decides s (f ≡ g) → Decides b (ts ≡ us) → Decides b (call f ts ≡ call g us)
same_call f g ts us s b w d e = last_part s b w d e (λ h k. cc) (λ h. cc)

pub other_unary : (p q : Prefix) (x y : Term) (s : Bool) → s ≡ false → Decides s (p ≡ q) → Decides s (unary p x ≡ unary q y)
other_unary p q x y s w d = part_differs s s refl w d (λ h. cc)

pub same_unary : (p q : Prefix) (x y : Term) (s b : Bool) → s ≡ true → Decides s (p ≡ q) → Decides b (x ≡ y) → Decides b (unary p x ≡ unary q y)
same_unary p q x y s b w d e = last_part s b w d e (λ h k. cc) (λ h. cc)

-- an operator and its operands
pub other_operator : (o p : Operator) (x y v w : Term) (b s : Bool) → b ≡ s → b ≡ false → Decides s (o ≡ p) → Decides b (binary o x v ≡ binary p y w)
other_operator o p x y v w b s is f d = part_differs b s is f d (λ h. cc)

pub other_left : (o p : Operator) (x y v w : Term) (b s : Bool) → b ≡ s → b ≡ false → Decides s (x ≡ y) → Decides b (binary o x v ≡ binary p y w)
other_left o p x y v w b s is f d = part_differs b s is f d (λ h. cc)

pub same_binary : (o p : Operator) (x y v w : Term) (s t b : Bool) → s ≡ true → t ≡ true → Decides s (o ≡ p) → Decides t (x ≡ y) → Decides b (v ≡ w) → Decides b (binary o x v ≡ binary p y w)
same_binary o p x y v w s t b f g d e k =
    let first = d.0 f in
    let second = e.0 g in
    ((λ h. let third = k.0 h in cc), (λ h. k.1 cc))

-- an element, by its reference and its subscripts
one_access : (a c : tree.Access) → accessed a ≡ accessed c → a ≡ c
one_access a c h = let r : a.ref ≡ c.ref = cc in let ts : a.subscripts ≡ c.subscripts = cc in built a.ref c.ref a.subscripts c.subscripts r ts
  where
    built : (q r : Ref) (ts us : Terms) → q ≡ r → ts ≡ us → ◌≡◌ {A = tree.Access} (record { ref = q; subscripts = ts }) (record { ref = r; subscripts = us })
    built q r ts us e f = cc

pub elements : (a c : tree.Access) (b : Bool) → Decides b (a ≡ c) → Decides b (accessed a ≡ accessed c)
elements a c b d = ((λ h. ap accessed (d.0 h)), (λ h. d.1 (one_access a c h)))

pub access_by : (a : Access) (es : List Expr) → es ≡ a.subscripts.items → access a ≡ record { ref = ref a.reference; subscripts = terms (map term es) }
access_by a es same = tree_of a ∙ ap (λ (l : List Expr). made (ref a.reference) (terms (map term l))) (sym same)
  where
    made : Ref → Terms → tree.Access
    made r ts = record { ref = r; subscripts = ts }

    tree_of : (a : Access) → access a ≡ record { ref = ref a.reference; subscripts = terms (map term a.subscripts.items) }
    tree_of a = fold_out-Access Term tree.Access term_step access_step a ∙ search rules

pub other_reference : (q r : Ref) (ts us : Terms) (s : Bool) → s ≡ false → Decides s (q ≡ r) → Decides s (◌≡◌ {A = tree.Access} (record { ref = q; subscripts = ts }) (record { ref = r; subscripts = us }))
other_reference q r ts us s w d = part_differs s s refl w d (λ h. ap (λ (a : tree.Access). a.ref) h)

pub same_reference : (q r : Ref) (ts us : Terms) (s b : Bool) → s ≡ true → Decides s (q ≡ r) → Decides b (ts ≡ us) → Decides b (◌≡◌ {A = tree.Access} (record { ref = q; subscripts = ts }) (record { ref = r; subscripts = us }))
same_reference q r ts us s b w d e = last_part s b w d e (λ h k. cc) (λ h. ap (λ (a : tree.Access). a.subscripts) h)
