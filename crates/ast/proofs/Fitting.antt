-- What a program computes and stores are 64-bit integers, where its constants are.
use Rattle.std.proofs.Common.{◌≡◌, ◌∙◌, ◌%◌, ◌^◌, ◌<◌, ◌≤◌, ◌≤ℤ◌, ◌<ℤ◌, ℕ, zero, suc, ℤ, pos, negsuc, neg_ℤ, Bool, true, false, List, [], ◌∷◌, ◌++◌, Option, Some, None, Result, Ok, Err, refl, sym, subst, arith, nat_abs}
use Rattle.std.specs.Prelude.{◌+ℤ◌, ◌-ℤ◌, ◌*ℤ◌, ◌||◌, int_div, int_rem, int_lt, not, ◌&&◌, ◌==◌, if◌then◌else◌}
use Rattle.std.specs.List.{list_all}
use Rattle.std.specs.Ordering.{int_eq}
use Rattle.std.specs.Char.{is_ascii_digit}
use Rattle.std.specs.Str.Parse.{digits_value}
use Rattle.std.proofs.Math.Nat.{mod-le}
use Rattle.std.proofs.lemmas.Bool.{and_parts}
use Rattle.std.proofs.lemmas.Int.{ints}
use Rattle.std.proofs.lemmas.List.Folds.{list_all-append}
use Rattle.ast.specs.Exact.{fits, greater, greatest, in_range, intrinsic_value, is_true, least, less, prefixed_value, remainder, trips, truth_value, value_of}
use Rattle.ast.specs.Input.{all_words, commas_part, cut_at, first_or, from_records, integer_in, integer_of, integers_in, integers_of, is_comma, is_empty, next_integer, taken, well_formed, with_first}
use Rattle.ast.specs.Meaning.{LookUp, Run, going_on, then_do, given, written, printed, step_value, turns, target, read_elements, exec_plain, grown, is_last_stop, looped, exec, exec_block, exec_arms, looked_up, place_in, value, values}
use Rattle.ast.specs.References.{kind_expressions, head_expressions, node_expressions, block_expressions, arms_expressions}
use Rattle.ast.specs.Regular.{is_fitting, terms_fit, are_fitting}
use Rattle.ast.specs.Results.{◌>>=◌}
use Rattle.ast.specs.Store.{StoreOf, put, same_name}
use Rattle.ast.specs.Symbols.{Symbol}
use Rattle.ast.specs.Tree.{Ref, Term, constant, truth, parameter, element, call, parentheses, unary, binary, Terms, no_terms, then_term, Access, Kind, assign, print, read, stop, program, integer, dimension, parameters, do_loop, go_on, block_if, else_if, else_arm, end_if, logical_if, end, Node, plain, loop, choose, Block, no_nodes, then_node, Arms, no_arms, then_arm}
use Rattle.ast.specs.declared.expression.Intrinsic.{Intrinsic}
use Rattle.ast.specs.declared.expression.Intrinsic.TheVariants.{Abs, Iabs, Max, Max0, Min, Min0, Mod}
use Rattle.ast.specs.declared.expression.Operator.{Operator}
use Rattle.ast.specs.declared.expression.Operator.TheVariants.{Add, Subtract, Multiply, Divide, Less, LessOrEqual, Equal, NotEqual, Greater, GreaterOrEqual, And, Or, Equivalent, NotEquivalent}
use Rattle.ast.specs.declared.expression.Prefix.{Prefix}
use Rattle.ast.specs.declared.expression.Prefix.TheVariants.{Plus, Minus, Not}
use Rattle.ast.specs.declared.fault.End.{End}
use Rattle.ast.specs.declared.fault.End.TheVariants.{Done, Stopped, Fault as Faulted}
use Rattle.ast.specs.declared.fault.Fault.{Fault}
use Rattle.ast.specs.declared.fault.Fault.TheVariants.{Overflow, ZeroStep}
use Rattle.ast.proofs.Trips.{fits_above, fits_below, fits_between}

abbrev pub Fits : ℤ → Type 0
Fits v = fits v ≡ true

abbrev pub AllFit : List ℤ → Type 0
AllFit [] = Unit {0}
AllFit (x ∷ xs) = Fits x × AllFit xs

abbrev GivesFit : Result ℤ Fault → Type 0
GivesFit r = (v : ℤ) → r ≡ Ok v → Fits v

-- ---- operations

pub ranged : (z : ℤ) → GivesFit (in_range z)
ranged z v e = by (fits z) refl e
  where
    by : (b : Bool) → fits z ≡ b → (if b then Ok z else Err Overflow) ≡ Ok v → Fits v
    by true f h = let is : z ≡ v = cc in subst Fits is f
    by false f h = cc

just : (z : ℤ) → Fits z → GivesFit (Ok z)
just z f v e = let is : z ≡ v = cc in subst Fits is f

truths : (b : Bool) → Fits (truth_value b)
truths true = refl
truths false = refl

smaller : (z : ℤ) (n : ℕ) → nat_abs z ≡ n → n < 2 ^ 63 → Fits z
smaller z n e l = fits_between z (below z e) (above z e)
  where
    below : (z : ℤ) → nat_abs z ≡ n → neg_ℤ (pos (2 ^ 63)) ≤ℤ z
    below (pos m) e = omega (arith, ints)
    below (negsuc m) e = omega (arith, ints, e, l)

    above : (z : ℤ) → nat_abs z ≡ n → z <ℤ pos (2 ^ 63)
    above (pos m) e = omega (arith, ints, e, l)
    above (negsuc m) e = omega (arith, ints)

remainder_fits : (a b : ℤ) → Fits a → Fits (int_rem a b)
remainder_fits (pos a) b f = let k = mod-le a (nat_abs b) in let l = fits_below (pos a) f in fits_between (pos (a % nat_abs b)) (omega (arith, ints)) (omega (arith, ints, k, l))
remainder_fits (negsuc a) b f = let k = mod-le (suc a) (nat_abs b) in let l = fits_above (negsuc a) f in fits_between (neg_ℤ (pos (suc a % nat_abs b))) (omega (arith, ints, k, l)) (omega (arith, ints))

operation_fits : (o : Operator) (a b : ℤ) → Fits a → Fits b → GivesFit (value_of o a b)
operation_fits Add a b f g = ranged (a +ℤ b)
operation_fits Subtract a b f g = ranged (a -ℤ b)
operation_fits Multiply a b f g = ranged (a *ℤ b)
operation_fits Divide a (pos zero) f g = λ v e. cc
operation_fits Divide a (pos (suc n)) f g = ranged (int_div a (pos (suc n)))
operation_fits Divide a (negsuc n) f g = ranged (int_div a (negsuc n))
operation_fits Less a b f g = just (truth_value (int_lt a b)) (truths (int_lt a b))
operation_fits LessOrEqual a b f g = just (truth_value (not (int_lt b a))) (truths (not (int_lt b a)))
operation_fits Equal a b f g = just (truth_value (int_eq a b)) (truths (int_eq a b))
operation_fits NotEqual a b f g = just (truth_value (not (int_eq a b))) (truths (not (int_eq a b)))
operation_fits Greater a b f g = just (truth_value (int_lt b a)) (truths (int_lt b a))
operation_fits GreaterOrEqual a b f g = just (truth_value (not (int_lt a b))) (truths (not (int_lt a b)))
operation_fits And a b f g = just (truth_value (is_true a && is_true b)) (truths (is_true a && is_true b))
operation_fits Or a b f g = just (truth_value (is_true a || is_true b)) (truths (is_true a || is_true b))
operation_fits Equivalent a b f g = just (truth_value (if is_true a then is_true b else not (is_true b))) (truths (if is_true a then is_true b else not (is_true b)))
operation_fits NotEquivalent a b f g = just (truth_value (if is_true a then not (is_true b) else is_true b)) (truths (if is_true a then not (is_true b) else is_true b))

prefix_fits : (o : Prefix) (a : ℤ) → Fits a → GivesFit (prefixed_value o a)
prefix_fits Plus a f = just a f
prefix_fits Minus a f = ranged (neg_ℤ a)
prefix_fits Not a f = just (truth_value (not (is_true a))) (truths (not (is_true a)))

chosen : (b : Bool) (x y : ℤ) → Fits x → Fits y → Fits (if b then x else y)
chosen true x y f g = f
chosen false x y f g = g

greatest_fits : (a : ℤ) (xs : List ℤ) → Fits a → AllFit xs → Fits (greatest a xs)
greatest_fits a [] f g = f
greatest_fits a (x ∷ xs) f g = greatest_fits (greater a x) xs (chosen (int_lt a x) x a g.0 f) g.1

least_fits : (a : ℤ) (xs : List ℤ) → Fits a → AllFit xs → Fits (least a xs)
least_fits a [] f g = f
least_fits a (x ∷ xs) f g = least_fits (less a x) xs (chosen (int_lt x a) x a g.0 f) g.1

mod_fits : (a b : ℤ) → Fits a → GivesFit (remainder a b)
mod_fits a (pos zero) f = λ v e. cc
mod_fits a (pos (suc n)) f = just (int_rem a (pos (suc n))) (remainder_fits a (pos (suc n)) f)
mod_fits a (negsuc n) f = just (int_rem a (negsuc n)) (remainder_fits a (negsuc n) f)

intrinsic_fits : (g : Intrinsic) (xs : List ℤ) → AllFit xs → GivesFit (intrinsic_value g xs)
intrinsic_fits Mod [] f = just (pos 0) refl
intrinsic_fits Mod (a ∷ []) f = just (pos 0) refl
intrinsic_fits Mod (a ∷ b ∷ []) f = mod_fits a b f.0
intrinsic_fits Mod (a ∷ b ∷ c ∷ xs) f = just (pos 0) refl
intrinsic_fits Abs [] f = just (pos 0) refl
intrinsic_fits Abs (a ∷ []) f = ranged (pos (nat_abs a))
intrinsic_fits Abs (a ∷ b ∷ xs) f = just (pos 0) refl
intrinsic_fits Iabs [] f = just (pos 0) refl
intrinsic_fits Iabs (a ∷ []) f = ranged (pos (nat_abs a))
intrinsic_fits Iabs (a ∷ b ∷ xs) f = just (pos 0) refl
intrinsic_fits Max [] f = just (pos 0) refl
intrinsic_fits Max (a ∷ xs) f = just (greatest a xs) (greatest_fits a xs f.0 f.1)
intrinsic_fits Max0 [] f = just (pos 0) refl
intrinsic_fits Max0 (a ∷ xs) f = just (greatest a xs) (greatest_fits a xs f.0 f.1)
intrinsic_fits Min [] f = just (pos 0) refl
intrinsic_fits Min (a ∷ xs) f = just (least a xs) (least_fits a xs f.0 f.1)
intrinsic_fits Min0 [] f = just (pos 0) refl
intrinsic_fits Min0 (a ∷ xs) f = just (least a xs) (least_fits a xs f.0 f.1)

-- ---- expressions

-- the constants in these expressions are 64-bit integers
abbrev pub Fit : List Term → Type 0
Fit es = list_all (λ e. is_fitting e) es ≡ true

pub fit_parts : (xs ys : List Term) → Fit (xs ++ ys) → Fit xs × Fit ys
fit_parts xs ys h = and_parts (list_all (λ e. is_fitting e) xs) (list_all (λ e. is_fitting e) ys) (sym (list_all-append (λ e. is_fitting e) xs ys) ∙ h)

bound_fits : {X : Type 0} (r : Result X Fault) (next : X → Result ℤ Fault) → ((x : X) → r ≡ Ok x → GivesFit (next x)) → GivesFit (r >>= next)
bound_fits (Ok x) next h = h x refl
bound_fits (Err f) next h = λ v e. cc

module _ (look : LookUp) (looks : (r : Ref) (xs : List ℤ) → GivesFit (look r xs)) where
  abbrev GiveFit : Result (List ℤ) Fault → Type 0
  GiveFit r = (xs : List ℤ) → r ≡ Ok xs → AllFit xs

  bound_all : (r : Result ℤ Fault) (next : ℤ → Result (List ℤ) Fault) → ((x : ℤ) → r ≡ Ok x → GiveFit (next x)) → GiveFit (r >>= next)
  bound_all (Ok x) next h = h x refl
  bound_all (Err f) next h = λ v e. cc

  behind : (x : ℤ) → Fits x → (r : Result (List ℤ) Fault) → GiveFit r → GiveFit (r >>= λ xs. Ok (x ∷ xs))
  behind x f (Ok xs) h ys e = let is : x ∷ xs ≡ ys = cc in subst AllFit is (f, h xs refl)
  behind x f (Err k) h ys e = cc

  mutual
    pub value_fits : (e : Term) → is_fitting e ≡ true → GivesFit (value look e)
    value_fits (constant n) w = just n w
    value_fits (truth b) w = just (truth_value b) (truths b)
    value_fits (parameter x n) w = just n w
    value_fits (element r es) w = bound_fits (values look es) (λ xs. look r xs) (λ xs e. looks r xs)
    value_fits (call g es) w = bound_fits (values look es) (λ xs. intrinsic_value g xs) (λ xs e. intrinsic_fits g xs (values_fit es w xs e))
    value_fits (parentheses e) w = value_fits e w
    value_fits (unary o e) w = bound_fits (value look e) (λ a. prefixed_value o a) (λ a h. prefix_fits o a (value_fits e w a h))
    value_fits (binary o a b) w =
        let p = and_parts (is_fitting a) (is_fitting b) w in
        bound_fits (value look a) (λ u. value look b >>= λ v. value_of o u v) (λ u h. bound_fits (value look b) (λ v. value_of o u v) (λ v k. operation_fits o u v (value_fits a p.0 u h) (value_fits b p.1 v k)))

    pub values_fit : (es : Terms) → terms_fit es ≡ true → GiveFit (values look es)
    values_fit no_terms w xs e = let is : [] ≡ xs = cc in subst AllFit is tt
    values_fit (then_term e es) w ys q =
        let p = and_parts (is_fitting e) (terms_fit es) w in
        bound_all (value look e) (λ x. values look es >>= λ xs. Ok (x ∷ xs)) (λ x h. behind x (value_fits e p.0 x h) (values look es) (λ xs k. values_fit es p.1 xs k)) ys q

-- ---- stores

abbrev pub StoreFits : StoreOf → Type 0
StoreFits σ = (name : List ℕ) (place : ℕ) → Fits (σ name place)

pub zeros_fit : StoreFits Rattle.ast.specs.Store.zeros
zeros_fit name place = refl

pub put_fits : (σ : StoreOf) (name : List ℕ) (n : ℕ) (v : ℤ) → StoreFits σ → Fits v → StoreFits (put σ name n v)
unfolding put
put_fits σ name n v f g x i = chosen (same_name name x && (n == i)) v (σ x i) g (f x i)

module _ (symbols : List Symbol) where
  abbrev look : StoreOf → LookUp
  look σ = looked_up symbols σ

  looks_fit : (σ : StoreOf) → StoreFits σ → (r : Ref) (xs : List ℤ) → GivesFit (looked_up symbols σ r xs)
  looks_fit σ f r xs = bound_fits (place_in symbols r.name xs) (λ p. Ok (σ r.name p)) (λ p e. just (σ r.name p) (f r.name p))

  pub expression_fits : (σ : StoreOf) → StoreFits σ → (e : Term) → is_fitting e ≡ true → GivesFit (value (looked_up symbols σ) e)
  expression_fits σ f e w = value_fits (looked_up symbols σ) (looks_fit σ f) e w

  -- ---- READ

  integer_fits : (sign : ℕ → ℤ) (digits : List ℕ) (v : ℤ) → integer_of sign digits ≡ Some v → Fits v
  integer_fits sign digits v e = by (not (is_empty digits)) (list_all is_ascii_digit digits) (fits (sign (digits_value 10 digits))) refl e
    where
      by : (a b c : Bool) → fits (sign (digits_value 10 digits)) ≡ c → (if a && (b && c) then Some (sign (digits_value 10 digits)) else None) ≡ Some v → Fits v
      by true true true f h = let is : sign (digits_value 10 digits) ≡ v = cc in subst Fits is f
      by true true false f h = cc
      by true false c f h = cc
      by false b c f h = cc

  in_fits : (w : List ℕ) (v : ℤ) → integer_in w ≡ Some v → Fits v
  in_fits [] v e = cc
  in_fits (c ∷ cs) v e = by (c == 45) (c == 43) e
    where
      by : (a b : Bool) → (if a then integer_of (λ n. neg_ℤ (pos n)) cs else if b then integer_of (λ n. pos n) cs else integer_of (λ n. pos n) (c ∷ cs)) ≡ Some v → Fits v
      by true b h = integer_fits (λ n. neg_ℤ (pos n)) cs v h
      by false true h = integer_fits (λ n. pos n) cs v h
      by false false h = integer_fits (λ n. pos n) (c ∷ cs) v h

  all_fit : (ws : List (List ℕ)) (xs : List ℤ) → integers_in ws ≡ Some xs → AllFit xs
  all_fit [] xs e = let is : [] ≡ xs = cc in subst AllFit is tt
  all_fit (w ∷ ws) xs e = by (integer_in w) (integers_in ws) refl (all_fit ws) e
    where
      by : (a : Option ℤ) (b : Option (List ℤ)) → integer_in w ≡ a → ((ys : List ℤ) → b ≡ Some ys → AllFit ys) → with_first a b ≡ Some xs → AllFit xs
      by (Some x) (Some ys) h k g = let is : x ∷ ys ≡ xs = cc in subst AllFit is (in_fits w x h, k ys refl)
      by (Some x) None h k g = cc
      by None b h k g = cc

  record_fits : (r : List ℕ) (xs : List ℤ) → well_formed (integers_of r) ≡ Ok xs → AllFit xs
  unfolding integers_of
  record_fits r xs e = by (commas_part (cut_at is_comma r)) (integers_in (all_words (cut_at is_comma r))) refl e
    where
      by : (b : Bool) (o : Option (List ℤ)) → integers_in (all_words (cut_at is_comma r)) ≡ o → well_formed (if b then o else None) ≡ Ok xs → AllFit xs
      by true (Some ys) h k = let is : ys ≡ xs = cc in subst AllFit is (all_fit (all_words (cut_at is_comma r)) ys h)
      by true None h k = cc
      by false o h k = cc

  taken_fits : (rs : List (List ℕ)) (x : List ℤ × List (List ℕ)) → taken rs ≡ Ok x → AllFit x.0
  taken_fits [] x e = cc
  taken_fits (r ∷ rs) x e = by (well_formed (integers_of r)) (record_fits r) e
    where
      by : (o : Result (List ℤ) Fault) → ((xs : List ℤ) → o ≡ Ok xs → AllFit xs) → (o >>= λ xs. Ok (xs, rs)) ≡ Ok x → AllFit x.0
      by (Ok xs) h k = let is : (xs, rs) ≡ x = cc in subst (λ (y : List ℤ × List (List ℕ)). AllFit y.0) is (h xs refl)
      by (Err f) h k = cc

  first_fits : (xs : List ℤ) (rs : List (List ℕ)) (next : Result (ℤ × List ℤ × List (List ℕ)) Fault) → AllFit xs → ((x : ℤ × List ℤ × List (List ℕ)) → next ≡ Ok x → Fits x.0 × AllFit x.1) → (x : ℤ × List ℤ × List (List ℕ)) → first_or xs rs next ≡ Ok x → Fits x.0 × AllFit x.1
  first_fits [] rs next f h x e = h x e
  first_fits (y ∷ ys) rs next f h x e = let is : (y, ys, rs) ≡ x = cc in subst (λ (z : ℤ × List ℤ × List (List ℕ)). Fits z.0 × AllFit z.1) is (f.0, f.1)

  records_fit : (rs : List (List ℕ)) (x : ℤ × List ℤ × List (List ℕ)) → from_records rs ≡ Ok x → Fits x.0 × AllFit x.1
  records_fit [] x e = cc
  records_fit (r ∷ rs) x e = by (well_formed (integers_of r)) (record_fits r) (records_fit rs) e
    where
      by : (o : Result (List ℤ) Fault) → ((xs : List ℤ) → o ≡ Ok xs → AllFit xs) → ((y : ℤ × List ℤ × List (List ℕ)) → from_records rs ≡ Ok y → Fits y.0 × AllFit y.1) → (o >>= λ xs. first_or xs rs (from_records rs)) ≡ Ok x → Fits x.0 × AllFit x.1
      by (Ok xs) h g k = first_fits xs rs (from_records rs) (h xs refl) g x k
      by (Err f) h g k = cc

  next_fits : (xs : List ℤ) (rs : List (List ℕ)) → AllFit xs → (x : ℤ × List ℤ × List (List ℕ)) → next_integer xs rs ≡ Ok x → Fits x.0 × AllFit x.1
  next_fits xs rs f = first_fits xs rs (from_records rs) f (records_fit rs)

  -- ---- runs

  abbrev pub RunFits : Run → Type 0
  RunFits r = StoreFits r.store

  given_fits : {X : Type 0} (r : Result X Fault) (line : ℕ) (run : Run) (next : X → Run) → RunFits run → ((x : X) → r ≡ Ok x → RunFits (next x)) → RunFits (given r line run next)
  given_fits (Ok x) line run next f h = h x refl
  given_fits (Err e) line run next f h = f

  pub then_fits : (run : Run) (next : Run → Run) → RunFits run → ((r : Run) → RunFits r → RunFits (next r)) → RunFits (then_do run next)
  then_fits run next f h = by run.end
    where
      by : (e : End) → RunFits (going_on e run next)
      by Done = h run f
      by (Stopped l) = f
      by (Faulted k l) = f

  elements_fit : (line : ℕ) (xs : List Access) (left : List ℤ) (run : Run) → AllFit left → RunFits run → RunFits (read_elements symbols line xs left run)
  elements_fit line [] left run l f = f
  elements_fit line (a ∷ more) left run l f =
      given_fits (next_integer left run.input) line run (λ x. given (target symbols run.store a) line run (λ p. read_elements symbols line more x.1 (written (record run { input = x.2 }) a.ref.name p x.0))) f (λ x e.
      let k = next_fits left run.input l x e in
      given_fits (target symbols run.store a) line run (λ p. read_elements symbols line more x.1 (written (record run { input = x.2 }) a.ref.name p x.0)) f (λ p g.
      elements_fit line more x.1 (written (record run { input = x.2 }) a.ref.name p x.0) k.1 (put_fits run.store a.ref.name p x.0 f k.0)))

  kind_fits : (line : ℕ) (k : Kind) (run : Run) → Fit (kind_expressions k) → RunFits run → RunFits (exec_plain symbols line k run)
  kind_fits line (assign a e) run w f =
      given_fits (value (looked_up symbols run.store) e) line run (λ n. given (target symbols run.store a) line run (λ p. written run a.ref.name p n)) f (λ n h.
      given_fits (target symbols run.store a) line run (λ p. written run a.ref.name p n) f (λ p g. put_fits run.store a.ref.name p n f (expression_fits run.store f e (and_parts (is_fitting e) _ w).0 n h)))
  kind_fits line (print items) run w f = given_fits (printed (looked_up symbols run.store) items) line run (λ ps. record run { output = run.output ++ Rattle.ast.specs.Record.record_of ps }) f (λ ps e. f)
  kind_fits line (read xs) run w f = given_fits (taken run.input) line run (λ x. read_elements symbols line xs x.0 (record run { input = x.1 })) f (λ x e. elements_fit line xs x.0 (record run { input = x.1 }) (taken_fits run.input x e) f)
  kind_fits line stop run w f = f
  kind_fits line (program x) run w f = f
  kind_fits line (integer x) run w f = f
  kind_fits line (dimension x) run w f = f
  kind_fits line (parameters x) run w f = f
  kind_fits line (do_loop x) run w f = f
  kind_fits line go_on run w f = f
  kind_fits line (block_if x) run w f = f
  kind_fits line (else_if x) run w f = f
  kind_fits line else_arm run w f = f
  kind_fits line end_if run w f = f
  kind_fits line (logical_if x k) run w f = f
  kind_fits line end run w f = f

  pub turns_fit : (n : ℕ) (turn : Run → Run) (run : Run) → ((r : Run) → RunFits r → RunFits (turn r)) → RunFits run → RunFits (turns turn n run)
  turns_fit zero turn run h f = f
  turns_fit (suc n) turn run h f = then_fits (turn run) (λ r. turns turn n r) (h run f) (λ r g. turns_fit n turn r h g)

  pub grown_fits : (line : ℕ) (name : List ℕ) (step : ℤ) (run : Run) → RunFits run → RunFits (grown line name step run)
  grown_fits line name step run f = given_fits (in_range (run.store name 0 +ℤ step)) line run (λ n. written run name 0 n) f (λ n e. put_fits run.store name 0 n f (ranged (run.store name 0 +ℤ step) n e))

  looped_fits : (line : ℕ) (name : List ℕ) (range : Run → Run) (m1 m2 m3 : ℤ) (run : Run) → Fits m1 → ((r : Run) → RunFits r → RunFits (range r)) → RunFits run → RunFits (looped line name range m1 m2 m3 run)
  looped_fits line name range m1 m2 m3 run g h f = by (int_eq m3 (pos 0))
    where
      by : (b : Bool) → RunFits (if b then record run { end = Faulted ZeroStep line } else turns (λ before. then_do (range before) (λ after. grown line name m3 after)) (trips m1 m2 m3) (written run name 0 m1))
      by true = f
      by false = turns_fit (trips m1 m2 m3) (λ before. then_do (range before) (λ after. grown line name m3 after)) (written run name 0 m1) (λ r k. then_fits (range r) (λ after. grown line name m3 after) (h r k) (λ s l. grown_fits line name m3 s l)) (put_fits run.store name 0 m1 f g)

  either : (b : Bool) (x y : Run) → RunFits x → RunFits y → RunFits (if b then x else y)
  either true x y f g = f
  either false x y f g = g

  mutual
    pub node_fits : (n : Node) (run : Run) → Fit (node_expressions n) → RunFits run → RunFits (exec symbols n run)
    node_fits (plain s) run w f = kind_fits s.line s.kind run w f
    node_fits (loop line h b) run w f =
        let l = looked_up symbols run.store in
        let p = fit_parts (head_expressions h) (block_expressions b) w in
        given_fits (value l h.first) line run (λ m1. given (value l h.last) line run (λ m2. given (step_value l h.step) line run (λ m3. looped line h.variable.name (λ before. exec_block symbols b before) m1 m2 m3 run))) f (λ m1 e1.
        given_fits (value l h.last) line run (λ m2. given (step_value l h.step) line run (λ m3. looped line h.variable.name (λ before. exec_block symbols b before) m1 m2 m3 run)) f (λ m2 e2.
        given_fits (step_value l h.step) line run (λ m3. looped line h.variable.name (λ before. exec_block symbols b before) m1 m2 m3 run) f (λ m3 e3.
        looped_fits line h.variable.name (λ before. exec_block symbols b before) m1 m2 m3 run (expression_fits run.store f h.first (and_parts (is_fitting h.first) _ p.0).0 m1 e1) (λ r k. block_fits b r p.1 k) f)))
    node_fits (choose a) run w f = arms_fit a run w f

    pub block_fits : (b : Block) (run : Run) → are_fitting b ≡ true → RunFits run → RunFits (exec_block symbols b run)
    block_fits no_nodes run w f = f
    block_fits (then_node n b) run w f =
        let p = fit_parts (node_expressions n) (block_expressions b) w in
        either (is_last_stop n b) run (then_do (exec symbols n run) (λ r. exec_block symbols b r)) f (then_fits (exec symbols n run) (λ r. exec_block symbols b r) (node_fits n run p.0 f) (λ r k. block_fits b r p.1 k))

    arms_fit : (a : Arms) (run : Run) → Fit (arms_expressions a) → RunFits run → RunFits (exec_arms symbols a run)
    arms_fit no_arms run w f = f
    arms_fit (then_arm line None b more) run w f = block_fits b run (fit_parts (block_expressions b) (arms_expressions more) w).0 f
    arms_fit (then_arm line (Some c) b more) run w f =
        let p = fit_parts (c ∷ block_expressions b) (arms_expressions more) w in
        let q = and_parts (is_fitting c) (list_all (λ e. is_fitting e) (block_expressions b)) p.0 in
        given_fits (value (looked_up symbols run.store) c) line run (λ v. if is_true v then exec_block symbols b run else exec_arms symbols more run) f (λ v e. either (is_true v) (exec_block symbols b run) (exec_arms symbols more run) (block_fits b run q.1 f) (arms_fit more run p.1 f))
