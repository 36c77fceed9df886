-- A form's value is the subscript's.
use Rattle.std.proofs.Common.{◌≡◌, ◌∙◌, ap, sym, refl, ℕ, List, [], ◌∷◌, subst, arith, true≢false}
use Rattle.std.proofs.lemmas.Int.{ints}
use Rattle.std.proofs.lemmas.Bool.Decides.{Decides-eqb, Decides-int_eq}
use Rattle.std.proofs.Math.IntN.{zero-*ℤ, *ℤ-one, *ℤ_comm}
use Rattle.std.specs.Prelude.{ℤ, pos, ◌+ℤ◌, ◌*ℤ◌, neg_ℤ, ◌==◌, ◌||◌, ◌&&◌, Bool, true, false, if◌then◌else◌, Option, Some, None, Result, Ok, Err, ⊤}
use Rattle.std.specs.Ordering.{int_eq}
use Rattle.std.proofs.lemmas.Option.{none-some, same_Some}
use Rattle.ast.specs.Exact.{in_range, fits, value_of}
use Rattle.ast.specs.Tree.{Ref, Term, Terms, constant, truth, parameter, element, call, parentheses, unary, binary, no_terms, then_term}
use Rattle.ast.specs.declared.expression.Operator.{Operator}
use Rattle.ast.specs.declared.expression.Operator.TheVariants.{Add, Subtract, Multiply, Divide, Less, LessOrEqual, Equal, NotEqual, Greater, GreaterOrEqual, And, Or, Equivalent, NotEquivalent}
use Rattle.ast.specs.declared.expression.Prefix.{Prefix}
use Rattle.ast.specs.declared.expression.Prefix.TheVariants.{Plus, Minus, Not}
use Rattle.ast.specs.declared.fault.Fault.{Fault}
use Rattle.ast.specs.declared.fault.Fault.TheVariants.{Overflow}
use Rattle.loop_tree.specs.Loops.{Loop}
use Rattle.loop_tree.specs.Constants.{if_some}
use Rattle.subscripts.specs.Proper.{Once}
use Rattle.subscripts.specs.Forms.{Form, Share, are_none, binary_form, element_form, form_of, has_room, has_share, in_room, is_constant, is_variable, number_form, prefixed_form, product, scalar_form, share_varying, times, total, total_form, total_of, varies}
use Rattle.subscripts.specs.Values.{MayBe, ScalarMayBe, Agree, IsForm, IsValueOf, form_value, sum_of}
use Rattle.subscripts.specs.View.{HasForm, form, form_in}
use Rattle.subscripts.specs.declared.form.Affine.{Affine}
use Rattle.subscripts.specs.declared.form.Affine.TheVariants as affines
use Rattle.subscripts.proofs.Products.{sum_times, times_assoc}
use Rattle.subscripts.proofs.Sums.{once_total, once_times, sum_total, sum_product, total_times}

-- ---- answers

pub form_or : Form → Option Form → Form
form_or d (Some f) = f
form_or d None = d

number_or : ℤ → Result ℤ Fault → ℤ
number_or d (Ok x) = x
number_or d (Err f) = d

ok_same : (x v : ℤ) → ◌≡◌ {A = Result ℤ Fault} (Ok x) (Ok v) → x ≡ v
unfolding number_or
ok_same x v e = ap (λ r. number_or x r) e

is_ok_number : Result ℤ Fault → Type 0
is_ok_number (Ok x) = ⊤
is_ok_number (Err f) = ⊥

err_ok : (f : Fault) (v : ℤ) → ◌≡◌ {A = Result ℤ Fault} (Err f) (Ok v) → ⊥
unfolding is_ok_number
err_ok f v e = subst (λ r. is_ok_number r) (sym e) tt

range_is : (z v : ℤ) → in_range z ≡ Ok v → z ≡ v
range_is z v e = by (fits z) e
  where
    by : (b : Bool) → ◌≡◌ {A = Result ℤ Fault} (if b then Ok z else Err Overflow) (Ok v) → z ≡ v
    by true f = ok_same z v f
    by false f = absurd (err_ok Overflow v f)

room_is : (f h : Form) → in_room f ≡ Some h → f ≡ h
room_is f h e = by (has_room f) e
  where
    by : (b : Bool) → (if b then Some f else None) ≡ Some h → f ≡ h
    by true g = same_Some f h g
    by false g = absurd (none-some h g)

pub record Through (r : Option Form) (next : Form → Option Form) (h : Form) : Type 0 where
  pub first : Form
  pub is : r ≡ Some first
  pub then_is : next first ≡ Some h

pub through : (r : Option Form) (next : Form → Option Form) (h : Form) → if_some r next ≡ Some h → Through r next h
through None next h e = absurd (none-some h e)
through (Some f) next h e = record { first = f; is = refl; then_is = e }

-- ---- values of forms

regrouped : (minus : Bool) (a b c d e f : ℤ) → total minus a b +ℤ (total minus c d +ℤ total minus e f) ≡ total minus (a +ℤ (c +ℤ e)) (b +ℤ (d +ℤ f))
regrouped false a b c d e f = omega (arith, ints)
regrouped true a b c d e f = omega (arith, ints)

value_total : (x : ℕ → ℤ) (i : ℤ) (minus : Bool) (f g : Form) → Once f.shares → Once g.shares → form_value x i (total_form minus f g) ≡ total minus (form_value x i f) (form_value x i g)
value_total x i minus f g h k =
    ap (λ n. total minus f.constant g.constant +ℤ (n +ℤ sum_of x (total_form minus f g).shares)) (total_times minus f.coefficient g.coefficient i)
    ∙ ap (λ n. total minus f.constant g.constant +ℤ (total minus (f.coefficient *ℤ i) (g.coefficient *ℤ i) +ℤ n)) (sum_total x minus f.shares g.shares h k)
    ∙ regrouped minus f.constant g.constant (f.coefficient *ℤ i) (g.coefficient *ℤ i) (sum_of x f.shares) (sum_of x g.shares)

value_times : (x : ℕ → ℤ) (i k : ℤ) (f : Form) → form_value x i (times k f) ≡ k *ℤ form_value x i f
value_times x i k f =
    ap (λ n. (k *ℤ f.constant) +ℤ (n +ℤ sum_of x (times k f).shares)) (times_assoc k f.coefficient i)
    ∙ ap (λ n. (k *ℤ f.constant) +ℤ ((k *ℤ (f.coefficient *ℤ i)) +ℤ n)) (sum_product x k f.shares)
    ∙ sym (sum_times k f.constant ((f.coefficient *ℤ i) +ℤ sum_of x f.shares) ∙ ap (λ n. (k *ℤ f.constant) +ℤ n) (sum_times k (f.coefficient *ℤ i) (sum_of x f.shares)))

-- sums by values that agree on the scalars that are taken
sum_same : (x y : ℕ → ℤ) (ss : List Share) → ((c : ℕ) → has_share c ss ≡ true → x c ≡ y c) → sum_of x ss ≡ sum_of y ss
sum_same x y [] h = refl
sum_same x y (s ∷ ss) h =
    ap (λ n. (s.factor *ℤ n) +ℤ sum_of x ss) (h s.cell (ap (λ (b : Bool). b || has_share s.cell ss) ((Decides-eqb s.cell s.cell).1 refl)))
    ∙ ap (λ n. (s.factor *ℤ y s.cell) +ℤ n) (sum_same x y ss (λ c k. h c (later c k)))
  where
    later : (c : ℕ) → has_share c ss ≡ true → ((s.cell == c) || has_share c ss) ≡ true
    later c k = by (s.cell == c)
      where
        by : (b : Bool) → (b || has_share c ss) ≡ true
        by true = refl
        by false = k

-- both take a scalar: then it doesn't vary
both_steady : (l : Loop) (c : ℕ) (fs gs : List Share) → share_varying l fs gs ≡ false → has_share c fs ≡ true → has_share c gs ≡ true → varies l c ≡ false
both_steady l c [] gs e h k = absurd (true≢false (sym h))
both_steady l c (f ∷ fs) gs e h k = by (f.cell == c) refl e h (λ d j. both_steady l c fs gs d j k)
  where
    rest : (b : Bool) → (b || share_varying l fs gs) ≡ false → share_varying l fs gs ≡ false
    rest true g = absurd (true≢false g)
    rest false g = g

    front : (b d : Bool) → has_share f.cell gs ≡ d → d ≡ true → ((b && d) || share_varying l fs gs) ≡ false → b ≡ false
    front true true p q g = absurd (true≢false g)
    front true false p q g = absurd (true≢false (sym q))
    front false d p q g = refl

    by : (b : Bool) → (f.cell == c) ≡ b → ((varies l f.cell && has_share f.cell gs) || share_varying l fs gs) ≡ false → (b || has_share c fs) ≡ true
        → (share_varying l fs gs ≡ false → has_share c fs ≡ true → varies l c ≡ false) → varies l c ≡ false
    by true q g j more =
        let same : f.cell ≡ c = (Decides-eqb f.cell c).0 q in
        ap (λ n. varies l n) (sym same) ∙ front (varies l f.cell) (has_share f.cell gs) refl (ap (λ n. has_share n gs) same ∙ k) g
    by false q g j more = more (rest (varies l f.cell && has_share f.cell gs) g) j

-- ---- sums of values

abbrev choice : List Share → (ℕ → ℤ) → (ℕ → ℤ) → ℕ → ℤ
choice fs x y c = if has_share c fs then x c else y c

total_value : (l : Loop) (steady : ℕ → ℤ) (i : ℤ) (minus : Bool) (f g : Form) (v w : ℤ) → Once f.shares → Once g.shares → share_varying l f.shares g.shares ≡ false
    → IsValueOf l steady i f v → IsValueOf l steady i g w → IsValueOf l steady i (total_form minus f g) (total minus v w)
total_value l steady i minus f g v w o p e a b = record {
  values = z;
  agree = agree;
  is = ap (λ n. total minus n w) (a.is ∙ sym (ap (λ n. f.constant +ℤ ((f.coefficient *ℤ i) +ℤ n)) (sum_same z a.values f.shares as_first)))
      ∙ ap (λ n. total minus (form_value z i f) n) (b.is ∙ sym (ap (λ n. g.constant +ℤ ((g.coefficient *ℤ i) +ℤ n)) (sum_same z b.values g.shares as_second)))
      ∙ sym (value_total z i minus f g o p);
}
  where
    z : ℕ → ℤ
    z = choice f.shares a.values b.values

    as_first : (c : ℕ) → has_share c f.shares ≡ true → z c ≡ a.values c
    as_first c h = ap (λ (x : Bool). if x then a.values c else b.values c) h

    agree : Agree l steady z
    agree c h = by (has_share c f.shares)
      where
        by : (x : Bool) → (if x then a.values c else b.values c) ≡ steady c
        by true = a.agree c h
        by false = b.agree c h

    as_second : (c : ℕ) → has_share c g.shares ≡ true → z c ≡ b.values c
    as_second c h = by (has_share c f.shares) refl
      where
        by : (x : Bool) → has_share c f.shares ≡ x → (if x then a.values c else b.values c) ≡ b.values c
        by true k = let s = both_steady l c f.shares g.shares e k h in a.agree c s ∙ sym (b.agree c s)
        by false k = refl

-- ---- expressions

pub record Meant (l : Loop) (e : Term) (f : Form) : Type 0 where
  pub once : Once f.shares
  pub value : (steady : ℕ → ℤ) (i v : ℤ) → MayBe l steady i e v → IsValueOf l steady i f v

number_value : (l : Loop) (steady : ℕ → ℤ) (i n v : ℤ) → v ≡ n → IsValueOf l steady i (number_form n) v
number_value l steady i n v e = record { values = steady; agree = λ c h. refl; is = let z = zero-*ℤ i in omega (arith, ints, e, z) }

one_times : (n : ℤ) → pos 1 *ℤ n ≡ n
unfolding lib.IntN.one
one_times n = *ℤ_comm (pos 1) n ∙ *ℤ-one n

-- a scalar that isn't the loop's variable, by whether it varies
other_value : (l : Loop) (steady : ℕ → ℤ) (i : ℤ) (c : ℕ) (v : ℤ) (x : ℕ → ℤ) → Agree l steady x → x c ≡ v → IsValueOf l steady i (record { constant = pos 0; coefficient = pos 0; shares = record { cell = c; factor = pos 1 } ∷ [] }) v
other_value l steady i c v x a e = record {
  values = x;
  agree = a;
  is = let z = zero-*ℤ i in let o = one_times (x c) in omega (arith, ints, z, o, e);
}

scalar_value : (l : Loop) (steady : ℕ → ℤ) (i : ℤ) (r : Ref) (v : ℤ) → MayBe l steady i (element r no_terms) v → IsValueOf l steady i (scalar_form l r.cell) v
scalar_value l steady i r v m = by (is_variable l r.cell) (varies l r.cell) refl m
  where
    changed : ℕ → ℤ
    changed c = if c == r.cell then v else steady c

    agree : varies l r.cell ≡ true → Agree l steady changed
    agree e c h = here (c == r.cell) refl
      where
        here : (b : Bool) → (c == r.cell) ≡ b → (if b then v else steady c) ≡ steady c
        here true k = absurd (true≢false (sym e ∙ ap (λ n. varies l n) (sym ((Decides-eqb c r.cell).0 k)) ∙ h))
        here false k = refl

    by : (b d : Bool) → varies l r.cell ≡ d → ScalarMayBe b d i (steady r.cell) v
        → IsValueOf l steady i (if b then record { constant = pos 0; coefficient = pos 1; shares = [] } else record { constant = pos 0; coefficient = pos 0; shares = record { cell = r.cell; factor = pos 1 } ∷ [] }) v
    by true d e h = record { values = steady; agree = λ c k. refl; is = let o = one_times i in omega (arith, ints, o, h) }
    by false true e h = other_value l steady i r.cell v changed (agree e) (ap (λ (b : Bool). if b then v else steady r.cell) ((Decides-eqb r.cell r.cell).1 refl))
    by false false e h = other_value l steady i r.cell v steady (λ c k. refl) (sym h)

abbrev variable_or : Bool → ℕ → Form
variable_or b c = if b then record { constant = pos 0; coefficient = pos 1; shares = [] } else record { constant = pos 0; coefficient = pos 0; shares = record { cell = c; factor = pos 1 } ∷ [] }

scalar_once : (l : Loop) (c : ℕ) → Once (scalar_form l c).shares
scalar_once l c = by (is_variable l c)
  where
    by : (b : Bool) → Once (variable_or b c).shares
    by true = tt
    by false = (refl, tt)

element_meant : (l : Loop) (r : Ref) (es : Terms) (h : Form) → element_form l r es ≡ Some h → Meant l (element r es) h
element_meant l r no_terms h e = subst (λ f. Meant l (element r no_terms) f) (same_Some (scalar_form l r.cell) h e) (record { once = scalar_once l r.cell; value = λ steady i v m. scalar_value l steady i r v m })
element_meant l r (then_term a es) h e = absurd (none-some h e)

negative : (a : ℤ) → total true (pos 0) a ≡ neg_ℤ a
negative a = omega (arith, ints)

unary_meant : (l : Loop) (p : Prefix) (e : Term) (f h : Form) → Meant l e f → prefixed_form l p f ≡ Some h → Meant l (unary p e) h
unary_meant l Plus e f h m g = subst (λ x. Meant l (unary Plus e) x) (same_Some f h g) (record {
  once = m.once;
  value = λ steady i v k. subst (λ n. IsValueOf l steady i f n) (ok_same k.0 v k.2) (m.value steady i k.0 k.1);
})
unary_meant l Minus e f h m g = subst (λ x. Meant l (unary Minus e) x) (room_is (total_form true (number_form (pos 0)) f) h g) (record {
  once = once_total true [] f.shares tt m.once;
  value = λ steady i v k.
      let a = m.value steady i k.0 k.1 in
      let z = number_value l steady i (pos 0) (pos 0) refl in
      subst (λ n. IsValueOf l steady i (total_form true (number_form (pos 0)) f) n) (negative k.0 ∙ range_is (neg_ℤ k.0) v k.2)
      (total_value l steady i true (number_form (pos 0)) f (pos 0) k.0 tt m.once refl z a);
})
unary_meant l Not e f h m g = absurd (none-some h g)

total_meant : (l : Loop) (minus : Bool) (o : Operator) (a b : Term) (f g h : Form) → ((x y : ℤ) → value_of o x y ≡ in_range (total minus x y)) → Meant l a f → Meant l b g → total_of l minus f g ≡ Some h → Meant l (binary o a b) h
total_meant l minus o a b f g h exact m n e = by (share_varying l f.shares g.shares) refl e
  where
    by : (x : Bool) → share_varying l f.shares g.shares ≡ x → (if x then None else in_room (total_form minus f g)) ≡ Some h → Meant l (binary o a b) h
    by true k j = absurd (none-some h j)
    by false k j = subst (λ z. Meant l (binary o a b) z) (room_is (total_form minus f g) h j) (record {
      once = once_total minus f.shares g.shares m.once n.once;
      value = λ steady i v w.
          subst (λ z. IsValueOf l steady i (total_form minus f g) z) (range_is (total minus w.0 w.1) v (sym (exact w.0 w.1) ∙ w.4))
          (total_value l steady i minus f g w.0 w.1 m.once n.once k (m.value steady i w.0 w.2) (n.value steady i w.1 w.3));
    })

is_the_constant : (x : ℕ → ℤ) (i : ℤ) (f : Form) → is_constant f ≡ true → form_value x i f ≡ f.constant
is_the_constant x i f e = by (int_eq f.coefficient (pos 0)) refl f.shares refl e
  where
    by : (b : Bool) → int_eq f.coefficient (pos 0) ≡ b → (ss : List Share) → f.shares ≡ ss → (b && are_none ss) ≡ true → form_value x i f ≡ f.constant
    by false k ss q j = absurd (true≢false (sym j))
    by true k (s ∷ ss) q j = absurd (true≢false (sym j))
    by true k [] q j =
        let z : f.coefficient *ℤ i ≡ pos 0 = ap (λ n. n *ℤ i) ((Decides-int_eq f.coefficient (pos 0)).0 k) ∙ zero-*ℤ i in
        let s : sum_of x f.shares ≡ pos 0 = ap (λ ss. sum_of x ss) q in
        omega (arith, ints, z, s)

times_value : (l : Loop) (steady : ℕ → ℤ) (i k : ℤ) (f : Form) (v : ℤ) → IsValueOf l steady i f v → IsValueOf l steady i (times k f) (k *ℤ v)
times_value l steady i k f v a = record { values = a.values; agree = a.agree; is = ap (λ n. k *ℤ n) a.is ∙ sym (value_times a.values i k f) }

product_meant : (l : Loop) (a b : Term) (f g h : Form) → Meant l a f → Meant l b g → product f g ≡ Some h → Meant l (binary Multiply a b) h
product_meant l a b f g h m n e = by (is_constant f) (is_constant g) refl refl e
  where
    by : (x y : Bool) → is_constant f ≡ x → is_constant g ≡ y → (if x then in_room (times f.constant g) else if y then in_room (times g.constant f) else None) ≡ Some h → Meant l (binary Multiply a b) h
    by true y p q j = subst (λ z. Meant l (binary Multiply a b) z) (room_is (times f.constant g) h j) (record {
      once = once_times f.constant g.shares n.once;
      value = λ steady i v w.
          let u = m.value steady i w.0 w.2 in
          subst (λ z. IsValueOf l steady i (times f.constant g) z)
          (ap (λ c. c *ℤ w.1) (sym (u.is ∙ is_the_constant u.values i f p)) ∙ range_is (w.0 *ℤ w.1) v w.4)
          (times_value l steady i f.constant g w.1 (n.value steady i w.1 w.3));
    })
    by false true p q j = subst (λ z. Meant l (binary Multiply a b) z) (room_is (times g.constant f) h j) (record {
      once = once_times g.constant f.shares m.once;
      value = λ steady i v w.
          let u = n.value steady i w.1 w.3 in
          subst (λ z. IsValueOf l steady i (times g.constant f) z)
          (ap (λ c. c *ℤ w.0) (sym (u.is ∙ is_the_constant u.values i g q)) ∙ *ℤ_comm w.1 w.0 ∙ range_is (w.0 *ℤ w.1) v w.4)
          (times_value l steady i g.constant f w.0 (m.value steady i w.0 w.2));
    })
    by false false p q j = absurd (none-some h j)

binary_meant : (l : Loop) (o : Operator) (a b : Term) (f g h : Form) → Meant l a f → Meant l b g → binary_form l o f g ≡ Some h → Meant l (binary o a b) h
binary_meant l Add a b f g h m n e = total_meant l false Add a b f g h (λ x y. refl) m n e
binary_meant l Subtract a b f g h m n e = total_meant l true Subtract a b f g h (λ x y. refl) m n e
binary_meant l Multiply a b f g h m n e = product_meant l a b f g h m n e
binary_meant l Divide a b f g h m n e = absurd (none-some h e)
binary_meant l Less a b f g h m n e = absurd (none-some h e)
binary_meant l LessOrEqual a b f g h m n e = absurd (none-some h e)
binary_meant l Equal a b f g h m n e = absurd (none-some h e)
binary_meant l NotEqual a b f g h m n e = absurd (none-some h e)
binary_meant l Greater a b f g h m n e = absurd (none-some h e)
binary_meant l GreaterOrEqual a b f g h m n e = absurd (none-some h e)
binary_meant l And a b f g h m n e = absurd (none-some h e)
binary_meant l Or a b f g h m n e = absurd (none-some h e)
binary_meant l Equivalent a b f g h m n e = absurd (none-some h e)
binary_meant l NotEquivalent a b f g h m n e = absurd (none-some h e)

number_meant : (l : Loop) (e : Term) (n : ℤ) (h : Form) → ((steady : ℕ → ℤ) (i v : ℤ) → MayBe l steady i e v → v ≡ n) → Some (number_form n) ≡ Some h → Meant l e h
number_meant l e n h k j = subst (λ f. Meant l e f) (same_Some (number_form n) h j) (record { once = tt; value = λ steady i v m. number_value l steady i n v (k steady i v m) })

-- The form of an expression, if it has one, has its value, whatever stands in it.
pub meant : (l : Loop) (e : Term) (h : Form) → form_of l e ≡ Some h → Meant l e h
meant l (constant n) h e = number_meant l (constant n) n h (λ steady i v m. m) e
meant l (truth b) h e = absurd (none-some h e)
meant l (parameter x n) h e = number_meant l (parameter x n) n h (λ steady i v m. m) e
meant l (element r es) h e = element_meant l r es h e
meant l (call f es) h e = absurd (none-some h e)
meant l (parentheses a) h e = let m = meant l a h e in record { once = m.once; value = m.value }
meant l (unary p a) h e =
    let t = through (form_of l a) (λ f. prefixed_form l p f) h e in
    unary_meant l p a t.first h (meant l a t.first t.is) t.then_is
meant l (binary o a b) h e =
    let t = through (form_of l a) (λ f. if_some (form_of l b) (λ g. binary_form l o f g)) h e in
    let u = through (form_of l b) (λ g. binary_form l o t.first g) h t.then_is in
    binary_meant l o a b t.first u.first h (meant l a t.first t.is) (meant l b u.first u.is) u.then_is

pub found_meant : (a : Affine) (l : Loop) (e : Term) → form_in a ≡ form_of l e → HasForm a (λ f. IsForm l e f)
found_meant (affines.Form f) l e h = (meant l e (form f) (sym h)).value
found_meant affines.NotAffine l e h = tt
