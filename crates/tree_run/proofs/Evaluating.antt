-- Expressions that are evaluated one after another.
use Rattle.std.proofs.Common.{◌≡◌, ◌∙◌, ◌+◌, ◌-◌, ◌<◌, ◌≤◌, ℕ, suc, inl, inr, Bool, true, false, List, [], ◌∷◌, Result, Ok, Err, ap, arith, refl, sym, subst, length, map, drop, take, get_or, add-one, drop-cons}
use Rattle.std.proofs.lemmas.List.{drop_all, take_all}
use Rattle.std.specs.Prelude.{ℤ, pos, ◌⊎◌, IfOk, IsErrAnd, if◌then◌else◌, int_lt}
use Rattle.ast.specs.Exact.{greater, less}
use Rattle.ast.specs.Meaning.{LookUp, value}
use Rattle.ast.specs.Results.{◌>>=◌}
use Rattle.ast.specs.Symbols.{Symbol}
use Rattle.ast.specs.Tree.{Term, Terms, no_terms, terms, then_term}
use Rattle.ast.specs.View.{term}
use Rattle.ast.specs.declared.expression.Expr.{Expr}
use Rattle.ast.specs.declared.expression.Intrinsic.{Intrinsic}
use Rattle.ast.specs.declared.expression.Intrinsic.TheVariants.{Abs, Iabs, Max, Max0, Min, Min0, Mod}
use Rattle.ast.specs.declared.fault.Fault.{Fault}
use Rattle.tree_run.specs.Placed.{PlacedTerm, PlacedTerms}
use Rattle.tree_run.specs.Steps.{call_at, greatest_at, least_at, remainder_at}

-- the next of them, and the others
pub next_term : (es : List Expr) (i : ℕ) (e : Expr) → i < length es → e ≡ get_or es i e → terms (map term (drop i es)) ≡ then_term (term e) (terms (map term (drop (i + 1) es)))
next_term es i e h is =
    ap (λ (l : List Expr). terms (map term l)) (drop-cons es i e h)
    ∙ ap (λ (x : Expr). then_term (term x) (terms (map term (drop (suc i) es)))) (sym is)
    ∙ ap (λ (n : ℕ). then_term (term e) (terms (map term (drop n es)))) (sym (add-one i))

pub no_term : (es : List Expr) (i : ℕ) → length es ≤ i → terms (map term (drop i es)) ≡ no_terms
no_term es i h = ap (λ (l : List Expr). terms (map term l)) (drop_all i es h)

pub only_term : (es : List Expr) (e : Expr) → 1 ≤ length es → length es < 2 → e ≡ get_or es 0 e → terms (map term es) ≡ then_term (term e) no_terms
only_term [] e h k is = absurd (omega (arith, h))
only_term (d ∷ []) e h k is = ap (λ (x : Expr). then_term (term x) no_terms) (sym is)
only_term (d ∷ c ∷ es) e h k is = absurd (omega (arith, k))

pub placed_on : (ss : List Symbol) (es : List Expr) (i : ℕ) (e : Expr) → i < length es → e ≡ get_or es i e → PlacedTerms ss (terms (map term (drop i es))) → PlacedTerm ss (term e) × PlacedTerms ss (terms (map term (drop (i + 1) es)))
placed_on ss es i e h is p = subst (λ (ts : Terms). PlacedTerms ss ts) (next_term es i e h is) p

-- what stands in the place of a value
pub failed : {X E : Type 0} (r : Result X E) (f : E) → IsErrAnd r (λ e. e ≡ f) → r ≡ Err f
failed (Ok x) f h = absurd h
failed (Err e) f h = ap Err h

pub no_value : {X : Type 0} (P : X → Type 0) (r : Result X Fault) (f : Fault) → IsErrAnd r (λ e. e ≡ f) → IfOk r P
no_value P (Ok x) f h = absurd h
no_value P (Err e) f h = tt

-- a fault of an expression is one of what is made of it
pub stops_at : {X Y : Type 0} (r : Result Y Fault) (v : Result X Fault) (f : Fault) (next : X → Result Y Fault) → v ≡ Err f → IsErrAnd r (λ e. e ≡ f) → r ≡ (v >>= next)
stops_at {X = X} r v f next given is = failed r f is ∙ ap (λ (s : Result X Fault). s >>= next) (sym given)

pub goes_at : {X Y : Type 0} (v : Result X Fault) (x : X) (next : X → Result Y Fault) → v ≡ Ok x → next x ≡ (v >>= next)
goes_at {X = X} v x next given = ap (λ (s : Result X Fault). s >>= next) (sym given)

-- the same of the next of them, where all of them give what is left gives
pub stops_in : {Y : Type 0} (on : Terms → Result Y Fault) (next : ℤ → Result Y Fault) (es : List Expr) (i : ℕ) (e : Expr) (r : Result Y Fault) (v : Result ℤ Fault) (f : Fault) (whole : Result Y Fault) → i < length es → e ≡ get_or es i e → on (then_term (term e) (terms (map term (drop (i + 1) es)))) ≡ (v >>= next) → on (terms (map term (drop i es))) ≡ whole → v ≡ Err f → IsErrAnd r (λ e. e ≡ f) → r ≡ whole
stops_in on next es i e r v f whole h is first so_far given failing = stops_at r v f next given failing ∙ sym first ∙ sym (ap on (next_term es i e h is)) ∙ so_far

pub goes_in : {Y : Type 0} (on : Terms → Result Y Fault) (next : ℤ → Result Y Fault) (es : List Expr) (i : ℕ) (e : Expr) (v : Result ℤ Fault) (x : ℤ) (whole : Result Y Fault) → i < length es → e ≡ get_or es i e → on (then_term (term e) (terms (map term (drop (i + 1) es)))) ≡ (v >>= next) → on (terms (map term (drop i es))) ≡ whole → v ≡ Ok x → next x ≡ whole
goes_in on next es i e v x whole h is first so_far given = goes_at v x next given ∙ sym first ∙ sym (ap on (next_term es i e h is)) ∙ so_far

pub ends_in : {Y : Type 0} (on : Terms → Result Y Fault) (es : List Expr) (i : ℕ) (whole : Result Y Fault) → length es ≤ i → on (terms (map term (drop i es))) ≡ whole → on no_terms ≡ whole
ends_in on es i whole h so_far = sym (ap on (no_term es i h)) ∙ so_far

-- the greater and the less of two numbers, by the test that picks it
pub greater_first : (a b : ℤ) → int_lt a b ≡ false → a ≡ greater a b
greater_first a b h = ap (λ (c : Bool). if c then b else a) (sym h)

pub greater_second : (a b : ℤ) → int_lt a b ≡ true → b ≡ greater a b
greater_second a b h = ap (λ (c : Bool). if c then b else a) (sym h)

pub less_first : (a b : ℤ) → int_lt b a ≡ false → a ≡ less a b
less_first a b h = ap (λ (c : Bool). if c then b else a) (sym h)

pub less_second : (a b : ℤ) → int_lt b a ≡ true → b ≡ less a b
less_second a b h = ap (λ (c : Bool). if c then b else a) (sym h)

-- the arguments of an intrinsic function
pub parted : (es : List Expr) (e : Expr) → 1 ≤ length es → e ≡ get_or es 0 e → terms (map term es) ≡ then_term (term e) (terms (map term (take (length es - 1) (drop 1 es))))
parted [] e h is = absurd (omega (arith, h))
parted (d ∷ ds) e h is =
    ap (λ (x : Expr). then_term (term x) (terms (map term ds))) (sym is)
    ∙ ap (λ (l : List Expr). then_term (term e) (terms (map term l))) (sym (take_all (length (d ∷ ds) - 1) ds (omega arith)))

pub called : (look : LookUp) (f : Intrinsic) (es : List Expr) (e : Expr) (next : ℤ → Result ℤ Fault) → 1 ≤ length es → e ≡ get_or es 0 e → call_at look f (then_term (term e) (terms (map term (take (length es - 1) (drop 1 es))))) ≡ (value look (term e) >>= next) → (value look (term e) >>= next) ≡ call_at look f (terms (map term es))
called look f es e next h is first = sym first ∙ ap (λ (ts : Terms). call_at look f ts) (sym (parted es e h is))

pub remainder_called : (look : LookUp) (f : Intrinsic) (t : Term) (ts : Terms) → f ≡ Mod → call_at look f (then_term t ts) ≡ (value look t >>= λ x. remainder_at look x ts)
remainder_called look f t ts is = ap (λ (g : Intrinsic). call_at look g (then_term t ts)) is

pub greatest_called : (look : LookUp) (f : Intrinsic) (t : Term) (ts : Terms) → (f ≡ Max) ⊎ (f ≡ Max0) → call_at look f (then_term t ts) ≡ (value look t >>= λ x. greatest_at look x ts)
greatest_called look f t ts (inl is) = ap (λ (g : Intrinsic). call_at look g (then_term t ts)) is
greatest_called look f t ts (inr is) = ap (λ (g : Intrinsic). call_at look g (then_term t ts)) is

pub least_called : (look : LookUp) (f : Intrinsic) (t : Term) (ts : Terms) → (f ≡ Min) ⊎ (f ≡ Min0) → call_at look f (then_term t ts) ≡ (value look t >>= λ x. least_at look x ts)
least_called look f t ts (inl is) = ap (λ (g : Intrinsic). call_at look g (then_term t ts)) is
least_called look f t ts (inr is) = ap (λ (g : Intrinsic). call_at look g (then_term t ts)) is

same_absolute : (look : LookUp) (ts : Terms) → call_at look Abs ts ≡ call_at look Iabs ts
same_absolute look no_terms = refl
same_absolute look (then_term a no_terms) = refl
same_absolute look (then_term a (then_term b ts)) = refl

pub absolute_called : (look : LookUp) (f : Intrinsic) (ts : Terms) → (f ≡ Abs) ⊎ (f ≡ Iabs) → call_at look Abs ts ≡ call_at look f ts
absolute_called look f ts (inl is) = ap (λ (g : Intrinsic). call_at look g ts) (sym is)
absolute_called look f ts (inr is) = same_absolute look ts ∙ ap (λ (g : Intrinsic). call_at look g ts) (sym is)

pub nothing_called : (look : LookUp) (f : Intrinsic) (es : List Expr) → length es < 1 → ◌≡◌ {A = Result ℤ Fault} (Ok (pos 0)) (call_at look f (terms (map term es)))
nothing_called look Mod [] h = refl
nothing_called look Abs [] h = refl
nothing_called look Iabs [] h = refl
nothing_called look Max [] h = refl
nothing_called look Max0 [] h = refl
nothing_called look Min [] h = refl
nothing_called look Min0 [] h = refl
nothing_called look f (e ∷ es) h = absurd (omega (arith, h))
