-- What the process of an expression comes to is the expression's value, whatever its steps are made
-- into.
use Rattle.std.proofs.Common.{◌≡◌, ◌∙◌, ℕ, zero, suc, ◌+◌, ◌*◌, ℤ, pos, Bool, true, false, List, [], ◌∷◌, Result, Ok, Err, length, refl, sym, ap}
use Rattle.std.specs.Prelude.{◌==◌, ◌-ℤ◌, unsigned_abs, if◌then◌else◌}
use Rattle.std.proofs.lemmas.Bool.{eqb-true}
use Rattle.ast.specs.Exact.{greater, greatest, intrinsic_value, least, less, prefixed_value, truth_value, value_of}
use Rattle.ast.specs.Meaning.{LookUp, looked_up, place_in, target, value, values}
use Rattle.ast.specs.Results.{◌>>=◌}
use Rattle.ast.specs.Store.{StoreOf}
use Rattle.ast.specs.Symbols.{Extent, is_within, width, place_of, dimensions_in}
use Rattle.ast.specs.Tree.{Ref, Term, constant, truth, parameter, element, call, parentheses, unary, binary, Terms, no_terms, then_term}
use Rattle.ast.specs.declared.expression.Intrinsic.{Intrinsic}
use Rattle.ast.specs.declared.expression.Intrinsic.TheVariants.{Abs, Iabs, Max, Max0, Min, Min0, Mod}
use Rattle.ast.specs.declared.fault.Fault.{Fault}
use Rattle.ast.specs.declared.fault.Fault.TheVariants.{Index as BadIndex}
use Rattle.expr_code.specs.Places.{Places, Home, loop_index, private_scalar, in_store, dimensions_at, home, home_of}
use Rattle.expr_code.specs.Process.{Steps, answered_into, at_place, checked_into, chosen_into, count, further_into, just, locals_into, located_into, place_into, reached_into, scalar_into, target_into, term_into, terms_into}

-- What a process comes to: X, by the value that the expression has, or by its fault.
abbrev pub on : {X : Type 0} → (Fault → X) → Result ℤ Fault → (ℤ → X) → X
on bad (Ok v) k = k v
on bad (Err e) k = bad e

-- the same of a list of values, and of a place
abbrev pub on_all : {V X : Type 0} → (Fault → X) → Result V Fault → (V → X) → X
on_all bad (Ok v) k = k v
on_all bad (Err e) k = bad e

-- The steps' meanings, on a store.
pub record Means (A : Type 0) (S : Steps A) (p : Places) (store : StoreOf) (X : Type 0) (meant : A → X) (bad : Fault → X) : Type 0 where
  pub loads : (r : Ref) (n : ℕ) (κ : ℤ → A) → home_of p r.name ≡ in_store → meant (S.load r (record { name = r.name; place = n }) κ) ≡ meant (κ (store r.name n))
  pub owns : (r : Ref) (x : ℕ) (κ : ℤ → A) → home_of p r.name ≡ private_scalar x → meant (S.own r x κ) ≡ meant (κ (store r.name 0))
  pub indexes : (r : Ref) (κ : ℤ → A) → home_of p r.name ≡ loop_index → meant (S.index r κ) ≡ meant (κ (store r.name 0))
  pub goes : (a : A) → meant (S.local a) ≡ meant a
  pub faults : (e : Fault) → meant (S.fails e) ≡ bad e

-- the first n of a list
abbrev pub front : ℕ → List ℤ → List ℤ
front n [] = []
front zero (x ∷ xs) = []
front (suc n) (x ∷ xs) = x ∷ front n xs

pub place_front : (ds : List Extent) (xs : List ℤ) → place_of ds (front (length ds) xs) ≡ place_of ds xs
place_front [] xs = refl
place_front (d ∷ ds) [] = refl
place_front (d ∷ ds) (x ∷ xs) = ap (λ (r : Result ℕ Fault). if is_within d x then (r >>= λ n. Ok (unsigned_abs (x -ℤ d.lower) + width d * n)) else Err BadIndex) (place_front ds xs)

pub front_none : (xs : List ℤ) → front 0 xs ≡ []
front_none [] = refl
front_none (x ∷ xs) = refl

-- values of terms, and then what is made of them
first_on : {Y : Type 0} (bad : Fault → Y) (r : Result ℤ Fault) (s : Result (List ℤ) Fault) (k : List ℤ → Y) → on_all bad (r >>= λ x. s >>= λ xs. Ok (x ∷ xs)) k ≡ on bad r (λ x. on_all bad s (λ xs. k (x ∷ xs)))
first_on bad (Ok x) (Ok xs) k = refl
first_on bad (Ok x) (Err e) k = refl
first_on bad (Err e) s k = refl

under : {Y : Type 0} (bad : Fault → Y) (r : Result ℤ Fault) (f g : ℤ → Y) → ((x : ℤ) → f x ≡ g x) → on bad r f ≡ on bad r g
under bad (Ok x) f g h = h x
under bad (Err e) f g h = refl

under_all : {V Y : Type 0} (bad : Fault → Y) (r : Result V Fault) (f g : V → Y) → ((x : V) → f x ≡ g x) → on_all bad r f ≡ on_all bad r g
under_all bad (Ok x) f g h = h x
under_all bad (Err e) f g h = refl

bound : {Y : Type 0} (bad : Fault → Y) (r : Result ℤ Fault) (make : ℤ → Result ℤ Fault) (k : ℤ → Y) → on bad r (λ x. on bad (make x) k) ≡ on bad (r >>= make) k
bound bad (Ok x) make k = refl
bound bad (Err e) make k = refl

bound_all : {V Y : Type 0} (bad : Fault → Y) (r : Result V Fault) (make : V → Result ℤ Fault) (k : ℤ → Y) → on_all bad r (λ x. on bad (make x) k) ≡ on bad (r >>= make) k
bound_all bad (Ok x) make k = refl
bound_all bad (Err e) make k = refl

-- a loaded element
placed : {Y : Type 0} (bad : Fault → Y) (r : Result ℕ Fault) (make : ℕ → ℤ) (k : ℤ → Y) → on_all bad r (λ n. k (make n)) ≡ on bad (r >>= λ n. Ok (make n)) k
placed bad (Ok n) make k = refl
placed bad (Err e) make k = refl

counted : (look : LookUp) (es : Terms) (xs : List ℤ) → values look es ≡ Ok xs → length xs ≡ count es
counted look no_terms xs h = let e : [] ≡ xs = cc in ap (λ (ys : List ℤ). length ys) (sym e)
counted look (then_term e es) xs h = by (value look e) (values look es) h (counted look es)
  where
    by : (u : Result ℤ Fault) (us : Result (List ℤ) Fault) → (u >>= λ y. us >>= λ ys. Ok (y ∷ ys)) ≡ Ok xs → ((ys : List ℤ) → us ≡ Ok ys → length ys ≡ count es) → length xs ≡ suc (count es)
    by (Ok y) (Ok ys) k ih = let same : y ∷ ys ≡ xs = cc in ap (λ (zs : List ℤ). length zs) (sym same) ∙ ap suc (ih ys refl)
    by (Ok y) (Err f) k ih = cc
    by (Err f) us k ih = cc

-- a list of just so many, or of another length, on which the function is as on none
pub front_all : (xs : List ℤ) → front (length xs) xs ≡ xs
front_all [] = refl
front_all (x ∷ xs) = ap (λ (ys : List ℤ). x ∷ ys) (front_all xs)

pub by_front : (g : Intrinsic) (n m : ℕ) (xs : List ℤ) → length xs ≡ m → ((m == n) ≡ false → intrinsic_value g [] ≡ intrinsic_value g xs) → intrinsic_value g (front (just n m) xs) ≡ intrinsic_value g xs
by_front g n m xs len other = by (m == n) refl
  where
    by : (b : Bool) → (m == n) ≡ b → intrinsic_value g (front (if b then n else 0) xs) ≡ intrinsic_value g xs
    by true e = ap (λ (k : ℕ). intrinsic_value g (front k xs)) (sym (eqb-true m n e) ∙ sym len) ∙ ap (λ (ys : List ℤ). intrinsic_value g ys) (front_all xs)
    by false e = ap (λ (ys : List ℤ). intrinsic_value g ys) (front_none xs) ∙ other e

pub not_two : (xs : List ℤ) → (length xs == 2) ≡ false → intrinsic_value Mod [] ≡ intrinsic_value Mod xs
not_two [] h = refl
not_two (x ∷ []) h = refl
not_two (x ∷ y ∷ []) h = cc
not_two (x ∷ y ∷ z ∷ xs) h = refl

modulo_front : (m : ℕ) (xs : List ℤ) → length xs ≡ m → intrinsic_value Mod (front (just 2 m) xs) ≡ intrinsic_value Mod xs
modulo_front m xs len = by_front Mod 2 m xs len (λ h. not_two xs (ap (λ (k : ℕ). k == 2) len ∙ h))

pub abs_none : (xs : List ℤ) → (length xs == 1) ≡ false → intrinsic_value Abs [] ≡ intrinsic_value Abs xs
abs_none [] h = refl
abs_none (x ∷ []) h = cc
abs_none (x ∷ y ∷ xs) h = refl

pub iabs_none : (xs : List ℤ) → (length xs == 1) ≡ false → intrinsic_value Iabs [] ≡ intrinsic_value Iabs xs
iabs_none [] h = refl
iabs_none (x ∷ []) h = cc
iabs_none (x ∷ y ∷ xs) h = refl

absolute_front : (g : Intrinsic) (m : ℕ) → ((xs : List ℤ) → (length xs == 1) ≡ false → intrinsic_value g [] ≡ intrinsic_value g xs) → (xs : List ℤ) → length xs ≡ m → intrinsic_value g (front (just 1 m) xs) ≡ intrinsic_value g xs
absolute_front g m other xs len = by_front g 1 m xs len (λ h. other xs (ap (λ (k : ℕ). k == 1) len ∙ h))

module _ (p : Places) where
  -- each reference's dimensions are found by its name
  abbrev mutual
    pub Named : Term → Type 0
    Named (element r es) = (dimensions_in p.symbols r.name ≡ dimensions_at p.symbols r.cell) × AllNamed es
    Named (call g es) = AllNamed es
    Named (parentheses e) = Named e
    Named (unary o e) = Named e
    Named (binary o a b) = Named a × Named b
    Named _ = Unit {0}

    pub AllNamed : Terms → Type 0
    AllNamed no_terms = Unit {0}
    AllNamed (then_term e es) = Named e × AllNamed es

module _ (A : Type 0) (S : Steps A) (p : Places) (store : StoreOf) (X : Type 0) (meant : A → X) (bad : Fault → X) (M : Means A S p store X meant bad) where
  abbrev look : LookUp
  look = looked_up p.symbols store

  answered_meant : (r : Result ℤ Fault) (κ : ℤ → A) → meant (answered_into A S r κ) ≡ on bad r (λ v. meant (κ v))
  answered_meant (Ok v) κ = M.goes (κ v)
  answered_meant (Err e) κ = M.faults e

  locals_meant : (n : ℕ) (a : A) → meant (locals_into A S n a) ≡ meant a
  locals_meant zero a = refl
  locals_meant (suc n) a = M.goes (locals_into A S n a) ∙ locals_meant n a

  -- subscripts are checked, and then as their place says
  checked_meant : (ds : List Extent) (xs : List ℤ) (a : A) (κ : ℕ → X) → ((n : ℕ) → place_of ds xs ≡ Ok n → meant a ≡ κ n) → meant (checked_into A S ds xs a) ≡ on_all bad (place_of ds xs) κ
  checked_meant [] xs a κ h = h 0 refl
  checked_meant (d ∷ ds) [] a κ h = M.faults BadIndex
  checked_meant (d ∷ ds) (x ∷ xs) a κ h =
      by (is_within d x) (place_of ds xs) refl refl (λ t. checked_meant ds xs a (λ n. κ (unsigned_abs (x -ℤ d.lower) + width d * n)) t)
    where
      by : (b : Bool) (r : Result ℕ Fault) → is_within d x ≡ b → place_of ds xs ≡ r
          → (((n : ℕ) → place_of ds xs ≡ Ok n → meant a ≡ κ (unsigned_abs (x -ℤ d.lower) + width d * n)) → meant (checked_into A S ds xs a) ≡ on_all bad (place_of ds xs) (λ n. κ (unsigned_abs (x -ℤ d.lower) + width d * n)))
          → meant (if b then S.local (checked_into A S ds xs a) else S.fails BadIndex) ≡ on_all bad (if b then (r >>= λ n. Ok (unsigned_abs (x -ℤ d.lower) + width d * n)) else Err BadIndex) κ
      by true r t e ih =
          M.goes (checked_into A S ds xs a)
          ∙ ih (λ n k. h (unsigned_abs (x -ℤ d.lower) + width d * n) (ap (λ (b : Bool). if b then (place_of ds xs >>= λ m. Ok (unsigned_abs (x -ℤ d.lower) + width d * m)) else Err BadIndex) t ∙ ap (λ (z : Result ℕ Fault). z >>= λ m. Ok (unsigned_abs (x -ℤ d.lower) + width d * m)) k))
          ∙ ap (λ (z : Result ℕ Fault). on_all bad z (λ n. κ (unsigned_abs (x -ℤ d.lower) + width d * n))) e
          ∙ over r
        where
          over : (z : Result ℕ Fault) → on_all bad z (λ n. κ (unsigned_abs (x -ℤ d.lower) + width d * n)) ≡ on_all bad (z >>= λ n. Ok (unsigned_abs (x -ℤ d.lower) + width d * n)) κ
          over (Ok n) = refl
          over (Err f) = refl
      by false r t e ih = M.faults BadIndex

  place_meant : (d : Extent) (ds : List Extent) (xs : List ℤ) (κ : ℕ → A) → meant (place_into A S d ds xs κ) ≡ on_all bad (place_of (d ∷ ds) xs) (λ n. meant (κ n))
  place_meant d ds [] κ = M.goes (S.fails BadIndex) ∙ M.faults BadIndex
  place_meant d ds (x ∷ xs) κ =
      checked_meant (d ∷ ds) (x ∷ xs) (locals_into A S (length ds) (at_place A S (place_of (d ∷ ds) (x ∷ xs)) κ)) (λ n. meant (κ n)) (λ n e.
      locals_meant (length ds) (at_place A S (place_of (d ∷ ds) (x ∷ xs)) κ) ∙ ap (λ (z : Result ℕ Fault). meant (at_place A S z κ)) e)

  pub scalar_meant : (r : Ref) (h : Home) (κ : ℤ → A) → home_of p r.name ≡ h → meant (scalar_into A S h r κ) ≡ meant (κ (store r.name 0))
  scalar_meant r loop_index κ e = M.indexes r κ e
  scalar_meant r (private_scalar x) κ e = M.owns r x κ e
  scalar_meant r in_store κ e = M.loads r 0 κ e

  reached_meant : (r : Ref) (ds : List Extent) (xs : List ℤ) (κ : ℤ → A) → ds ≡ dimensions_in p.symbols r.name → meant (reached_into A S p r ds xs κ) ≡ on bad (place_of ds xs >>= λ n. Ok (store r.name n)) (λ v. meant (κ v))
  reached_meant r [] xs κ e = scalar_meant r (home p [] r.name) κ (ap (λ (ds : List Extent). home p ds r.name) (sym e))
  reached_meant r (d ∷ ds) xs κ e =
      place_meant d ds xs (λ n. S.load r (record { name = r.name; place = n }) κ)
      ∙ under_all bad (place_of (d ∷ ds) xs) (λ n. meant (S.load r (record { name = r.name; place = n }) κ)) (λ n. meant (κ (store r.name n))) (λ n. M.loads r n κ (ap (λ (fs : List Extent). home p fs r.name) (sym e)))
      ∙ placed bad (place_of (d ∷ ds) xs) (store r.name) (λ v. meant (κ v))

  -- a function on all arguments, where there are just as many, or on none
  applied : (g : Intrinsic) (n : ℕ) (es : Terms) (κ : ℤ → A) → ((xs : List ℤ) → length xs ≡ count es → intrinsic_value g (front (just n (count es)) xs) ≡ intrinsic_value g xs)
      → meant (terms_into A S p es (just n (count es)) (λ xs. answered_into A S (intrinsic_value g xs) κ)) ≡ on_all bad (values look es) (λ xs. meant (answered_into A S (intrinsic_value g (front (just n (count es)) xs)) κ))
      → meant (terms_into A S p es (just n (count es)) (λ xs. answered_into A S (intrinsic_value g xs) κ)) ≡ on bad (values look es >>= λ xs. intrinsic_value g xs) (λ v. meant (κ v))
  applied g n es κ same h = h ∙ by (values look es) (counted look es)
    where
      by : (r : Result (List ℤ) Fault) → ((xs : List ℤ) → r ≡ Ok xs → length xs ≡ count es) → on_all bad r (λ xs. meant (answered_into A S (intrinsic_value g (front (just n (count es)) xs)) κ)) ≡ on bad (r >>= λ xs. intrinsic_value g xs) (λ v. meant (κ v))
      by (Ok xs) len = ap (λ (r : Result ℤ Fault). meant (answered_into A S r κ)) (same xs (len xs refl)) ∙ answered_meant (intrinsic_value g xs) κ
      by (Err e) len = refl

  mutual
    pub term_meant : (e : Term) (κ : ℤ → A) → Named p e → meant (term_into A S p e κ) ≡ on bad (value look e) (λ v. meant (κ v))
    term_meant (constant n) κ w = M.goes (κ n)
    term_meant (truth b) κ w = M.goes (κ (truth_value b))
    term_meant (parameter x n) κ w = M.goes (κ n)
    term_meant (element r es) κ w =
        let ds = dimensions_at p.symbols r.cell in
        terms_meant es (length ds) (λ xs. reached_into A S p r ds xs κ) w.1
        ∙ under_all bad (values look es) (λ xs. meant (reached_into A S p r ds (front (length ds) xs) κ)) (λ xs. on bad (look r xs) (λ v. meant (κ v))) (λ xs.
        reached_meant r ds (front (length ds) xs) κ (sym w.0)
        ∙ ap (λ (z : Result ℕ Fault). on bad (z >>= λ n. Ok (store r.name n)) (λ v. meant (κ v))) (place_front ds xs ∙ ap (λ (fs : List Extent). place_of fs xs) (sym w.0)))
        ∙ bound_all bad (values look es) (λ xs. look r xs) (λ v. meant (κ v))
    term_meant (call Mod es) κ w = applied Mod 2 es κ (modulo_front (count es)) (terms_meant es (just 2 (count es)) (λ xs. answered_into A S (intrinsic_value Mod xs) κ) w)
    term_meant (call Abs es) κ w = applied Abs 1 es κ (absolute_front Abs (count es) (λ xs h. abs_none xs h)) (terms_meant es (just 1 (count es)) (λ xs. answered_into A S (intrinsic_value Abs xs) κ) w)
    term_meant (call Iabs es) κ w = applied Iabs 1 es κ (absolute_front Iabs (count es) (λ xs h. iabs_none xs h)) (terms_meant es (just 1 (count es)) (λ xs. answered_into A S (intrinsic_value Iabs xs) κ) w)
    term_meant (call Max es) κ w = chosen_meant es greater κ Max w greatest refl (λ best xs. refl) (λ best. refl) (λ best x xs. refl)
    term_meant (call Max0 es) κ w = chosen_meant es greater κ Max0 w greatest refl (λ best xs. refl) (λ best. refl) (λ best x xs. refl)
    term_meant (call Min es) κ w = chosen_meant es less κ Min w least refl (λ best xs. refl) (λ best. refl) (λ best x xs. refl)
    term_meant (call Min0 es) κ w = chosen_meant es less κ Min0 w least refl (λ best xs. refl) (λ best. refl) (λ best x xs. refl)
    term_meant (parentheses e) κ w = term_meant e κ w
    term_meant (unary o e) κ w =
        term_meant e (λ a. answered_into A S (prefixed_value o a) κ) w
        ∙ under bad (value look e) (λ a. meant (answered_into A S (prefixed_value o a) κ)) (λ a. on bad (prefixed_value o a) (λ v. meant (κ v))) (λ a. answered_meant (prefixed_value o a) κ)
        ∙ bound bad (value look e) (λ a. prefixed_value o a) (λ v. meant (κ v))
    term_meant (binary o a b) κ w =
        term_meant a (λ u. term_into A S p b (λ v. answered_into A S (value_of o u v) κ)) w.0
        ∙ under bad (value look a) (λ u. meant (term_into A S p b (λ v. answered_into A S (value_of o u v) κ))) (λ u. on bad (value look b >>= λ v. value_of o u v) (λ v. meant (κ v))) (λ u.
        term_meant b (λ v. answered_into A S (value_of o u v) κ) w.1
        ∙ under bad (value look b) (λ v. meant (answered_into A S (value_of o u v) κ)) (λ v. on bad (value_of o u v) (λ x. meant (κ x))) (λ v. answered_meant (value_of o u v) κ)
        ∙ bound bad (value look b) (λ v. value_of o u v) (λ x. meant (κ x)))
        ∙ bound bad (value look a) (λ u. value look b >>= λ v. value_of o u v) (λ v. meant (κ v))

    pub terms_meant : (es : Terms) (n : ℕ) (κ : List ℤ → A) → AllNamed p es → meant (terms_into A S p es n κ) ≡ on_all bad (values look es) (λ xs. meant (κ (front n xs)))
    terms_meant no_terms n κ w = refl
    terms_meant (then_term e es) zero κ w =
        term_meant e (λ x. S.local (terms_into A S p es zero κ)) w.0
        ∙ under bad (value look e) (λ x. meant (S.local (terms_into A S p es zero κ))) (λ x. on_all bad (values look es) (λ xs. meant (κ (front zero (x ∷ xs))))) (λ x.
        M.goes (terms_into A S p es zero κ)
        ∙ terms_meant es zero κ w.1
        ∙ under_all bad (values look es) (λ xs. meant (κ (front zero xs))) (λ xs. meant (κ [])) (λ xs. ap (λ (ys : List ℤ). meant (κ ys)) (front_none xs)))
        ∙ sym (first_on bad (value look e) (values look es) (λ xs. meant (κ (front zero xs))))
    terms_meant (then_term e es) (suc n) κ w =
        term_meant e (λ x. terms_into A S p es n (λ xs. κ (x ∷ xs))) w.0
        ∙ under bad (value look e) (λ x. meant (terms_into A S p es n (λ xs. κ (x ∷ xs)))) (λ x. on_all bad (values look es) (λ xs. meant (κ (front (suc n) (x ∷ xs))))) (λ x. terms_meant es n (λ xs. κ (x ∷ xs)) w.1)
        ∙ sym (first_on bad (value look e) (values look es) (λ xs. meant (κ (front (suc n) xs))))

    pub chosen_meant : (es : Terms) (choice : ℤ → ℤ → ℤ) (κ : ℤ → A) (g : Intrinsic) → AllNamed p es → (most : ℤ → List ℤ → ℤ) → intrinsic_value g [] ≡ Ok (pos 0) → ((best : ℤ) (xs : List ℤ) → intrinsic_value g (best ∷ xs) ≡ Ok (most best xs))
        → ((best : ℤ) → most best [] ≡ best) → ((best x : ℤ) (xs : List ℤ) → most best (x ∷ xs) ≡ most (choice best x) xs)
        → meant (chosen_into A S p es choice κ) ≡ on bad (values look es >>= λ xs. intrinsic_value g xs) (λ v. meant (κ v))
    chosen_meant no_terms choice κ g w most none some ends further = M.goes (κ (pos 0)) ∙ ap (λ (r : Result ℤ Fault). on bad r (λ v. meant (κ v))) (sym none)
    chosen_meant (then_term e es) choice κ g w most none some ends further =
        term_meant e (λ x. further_into A S p es choice x κ) w.0
        ∙ under bad (value look e) (λ x. meant (further_into A S p es choice x κ)) (λ x. on_all bad (values look es) (λ xs. on bad (intrinsic_value g (x ∷ xs)) (λ v. meant (κ v)))) (λ x.
        further_meant es choice x κ w.1 most ends further
        ∙ under_all bad (values look es) (λ xs. meant (κ (most x xs))) (λ xs. on bad (intrinsic_value g (x ∷ xs)) (λ v. meant (κ v))) (λ xs. ap (λ (r : Result ℤ Fault). on bad r (λ v. meant (κ v))) (sym (some x xs))))
        ∙ sym (first_on bad (value look e) (values look es) (λ xs. on bad (intrinsic_value g xs) (λ v. meant (κ v))))
        ∙ bound_all bad (values look (then_term e es)) (λ xs. intrinsic_value g xs) (λ v. meant (κ v))

    pub further_meant : (es : Terms) (choice : ℤ → ℤ → ℤ) (best : ℤ) (κ : ℤ → A) → AllNamed p es → (most : ℤ → List ℤ → ℤ) → ((best : ℤ) → most best [] ≡ best) → ((best x : ℤ) (xs : List ℤ) → most best (x ∷ xs) ≡ most (choice best x) xs)
        → meant (further_into A S p es choice best κ) ≡ on_all bad (values look es) (λ xs. meant (κ (most best xs)))
    further_meant no_terms choice best κ w most ends further = ap (λ (v : ℤ). meant (κ v)) (sym (ends best))
    further_meant (then_term e es) choice best κ w most ends further =
        term_meant e (λ x. S.local (further_into A S p es choice (choice best x) κ)) w.0
        ∙ under bad (value look e) (λ x. meant (S.local (further_into A S p es choice (choice best x) κ))) (λ x. on_all bad (values look es) (λ xs. meant (κ (most best (x ∷ xs))))) (λ x.
        M.goes (further_into A S p es choice (choice best x) κ)
        ∙ further_meant es choice (choice best x) κ w.1 most ends further
        ∙ under_all bad (values look es) (λ xs. meant (κ (most (choice best x) xs))) (λ xs. meant (κ (most best (x ∷ xs)))) (λ xs. ap (λ (v : ℤ). meant (κ v)) (sym (further best x xs))))
        ∙ sym (first_on bad (value look e) (values look es) (λ xs. meant (κ (most best xs))))

  located_meant : (ds : List Extent) (xs : List ℤ) (κ : ℕ → A) → meant (located_into A S ds xs κ) ≡ on_all bad (place_of ds xs) (λ n. meant (κ n))
  located_meant [] xs κ = refl
  located_meant (d ∷ ds) xs κ = place_meant d ds xs κ

  pub target_meant : (r : Ref) (es : Terms) (κ : ℕ → A) → Named p (element r es) → meant (target_into A S p r es κ) ≡ on_all bad (target p.symbols store (record { ref = r; subscripts = es })) (λ n. meant (κ n))
  target_meant r es κ w =
      let ds = dimensions_at p.symbols r.cell in
      terms_meant es (length ds) (λ xs. located_into A S ds xs κ) w.1
      ∙ under_all bad (values look es) (λ xs. meant (located_into A S ds (front (length ds) xs) κ)) (λ xs. on_all bad (place_in p.symbols r.name xs) (λ n. meant (κ n))) (λ xs.
      located_meant ds (front (length ds) xs) κ ∙ ap (λ (z : Result ℕ Fault). on_all bad z (λ n. meant (κ n))) (place_front ds xs ∙ ap (λ (fs : List Extent). place_of fs xs) (sym w.0)))
      ∙ joined (values look es)
    where
      joined : (us : Result (List ℤ) Fault) → on_all bad us (λ xs. on_all bad (place_in p.symbols r.name xs) (λ n. meant (κ n))) ≡ on_all bad (us >>= λ xs. place_in p.symbols r.name xs) (λ n. meant (κ n))
      joined (Ok xs) = refl
      joined (Err e) = refl
