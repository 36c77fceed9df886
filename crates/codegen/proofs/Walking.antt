-- What the process of an expression does goes along its references, with the values that they may
-- have, whatever the steps are made into.
use Rattle.std.proofs.Common.{◌≡◌, ◌∙◌, ℕ, zero, suc, ℤ, pos, Bool, true, false, List, [], ◌∷◌, ◌++◌, Result, Ok, Err, length, refl, sym, ap, subst, append_assoc}
use Rattle.std.specs.Prelude.{◌==◌, if◌then◌else◌}
use Rattle.std.proofs.lemmas.List.{append-nil}
use Rattle.ast.specs.Exact.{greater, greatest, intrinsic_value, least, less, prefixed_value, truth_value, value_of}
use Rattle.ast.specs.References.{term_references, terms_references}
use Rattle.ast.specs.Symbols.{Extent, Symbol, is_within, place_of}
use Rattle.ast.specs.Tree.{Ref, Term, constant, truth, parameter, element, call, parentheses, unary, binary, Terms, no_terms, then_term}
use Rattle.ast.specs.declared.expression.Intrinsic.{Intrinsic}
use Rattle.ast.specs.declared.expression.Intrinsic.TheVariants.{Abs, Iabs, Max, Max0, Min, Min0, Mod}
use Rattle.ast.specs.declared.fault.Fault.{Fault}
use Rattle.ast.specs.declared.fault.Fault.TheVariants.{Index as BadIndex}
use Rattle.loop_tree.specs.Loops.{Loop}
use Rattle.loop_tree.specs.Paths.{Token, uses, used}
use Rattle.loop_tree.proofs.References.{used_append}
use Rattle.subscripts.specs.Values.{MayBe, AllMayBe}
use Rattle.expr_code.specs.Places.{Places, Home, loop_index, private_scalar, in_store, dimensions_at, home}
use Rattle.expr_code.specs.Process.{Steps, answered_into, at_place, checked_into, chosen_into, count, further_into, just, locals_into, located_into, place_into, reached_into, scalar_into, target_into, term_into, terms_into}
use Rattle.expr_code.proofs.Meaning.{front, front_none, place_front, by_front, not_two, abs_none, iabs_none}

-- what holds a variable's value
abbrev pub home_at : Places → Ref → Home
home_at p r = home p (dimensions_at p.symbols r.cell) r.name

-- l: the loop; held: what the scalars hold to which its range gives no value; i: the value of its
-- variable Stands: which references stand with which subscripts
module _ (Stands : Ref → Terms → Type 0) where
  abbrev mutual
    pub Known : Term → Type 0
    Known (element r es) = Stands r es × AllKnown es
    Known (call g es) = AllKnown es
    Known (parentheses e) = Known e
    Known (unary o e) = Known e
    Known (binary o a b) = Known a × Known b
    Known _ = Unit {0}

    pub AllKnown : Terms → Type 0
    AllKnown no_terms = Unit {0}
    AllKnown (then_term e es) = Known e × AllKnown es

module _ (l : Loop) (held : ℕ → ℤ) (i : ℤ) (Stands : Ref → Terms → Type 0) where
  abbrev May : Term → ℤ → Type 0
  May e v = MayBe l held i e v

  abbrev AllMay : Terms → List ℤ → Type 0
  AllMay es vs = AllMayBe l held i es vs

  -- a variable stands with these subscripts, and they may have values that make this place
  abbrev pub Located : List Symbol → Ref → Terms → ℕ → Type 0
  Located symbols r es n = (vs : List ℤ) × Stands r es × AllMay es vs × (place_of (dimensions_at symbols r.cell) vs ≡ Ok n)

  counted : (es : Terms) (vs : List ℤ) → AllMay es vs → length vs ≡ count es
  counted no_terms vs h = ap (λ (xs : List ℤ). length xs) h
  counted (then_term e es) vs h = ap (λ (xs : List ℤ). length xs) h.2 ∙ ap suc (counted es h.1 h.4)

  -- homes: what holds a variable's value. Q a h: a may still be done behind the tokens h of a path;
  -- Begun h: some path begins so. The steps' rules: a reference that is read is a token, and has a
  -- value that it may have; a fault is allowed wherever a path has begun.
  pub record WalksTerms (A : Type 0) (S : Steps A) (symbols : List Symbol) (homes : Ref → Home) (Q : A → List Token → Type 0) (Begun : List Token → Type 0) : Type 0 where
    pub loads : (r : Ref) (es : Terms) (n : ℕ) (κ : ℤ → A) (h : List Token) → homes r ≡ in_store → Located symbols r es n → ((v : ℤ) → May (element r es) v → Q (κ v) (h ++ uses r ∷ [])) → Q (S.load r (record { name = r.name; place = n }) κ) h
    pub owns : (r : Ref) (es : Terms) (x : ℕ) (κ : ℤ → A) (h : List Token) → homes r ≡ private_scalar x → Located symbols r es 0 → ((v : ℤ) → May (element r no_terms) v → Q (κ v) (h ++ uses r ∷ [])) → Q (S.own r x κ) h
    pub indexes : (r : Ref) (es : Terms) (κ : ℤ → A) (h : List Token) → homes r ≡ loop_index → Located symbols r es 0 → ((v : ℤ) → May (element r no_terms) v → Q (κ v) (h ++ uses r ∷ [])) → Q (S.index r κ) h
    pub goes : (a : A) (h : List Token) → Q a h → Q (S.local a) h
    pub faults : (e : Fault) (h : List Token) → Begun h → Q (S.fails e) h

  module _ (A : Type 0) (S : Steps A) (p : Places) (Q : A → List Token → Type 0) (Begun : List Token → Type 0) (shorter : (h t : List Token) → Begun (h ++ t) → Begun h) (W : WalksTerms A S p.symbols (home_at p) Q Begun) where
    -- what follows two lists of references follows them both
    twice : (h : List Token) (xs ys : List Ref) → h ++ used (xs ++ ys) ≡ (h ++ used xs) ++ used ys
    twice h xs ys = ap (λ (t : List Token). h ++ t) (used_append xs ys) ∙ sym (append_assoc h (used xs) (used ys))

    both : (a : A) (h : List Token) (xs ys : List Ref) → Q a (h ++ used (xs ++ ys)) → Q a ((h ++ used xs) ++ used ys)
    both a h xs ys q = subst (λ (t : List Token). Q a t) (twice h xs ys) q

    begun_both : (h : List Token) (xs ys : List Ref) → Begun (h ++ used (xs ++ ys)) → Begun ((h ++ used xs) ++ used ys)
    begun_both h xs ys b = subst Begun (twice h xs ys) b

    begun_first : (h : List Token) (xs ys : List Ref) → Begun (h ++ used (xs ++ ys)) → Begun (h ++ used xs)
    begun_first h xs ys b = shorter (h ++ used xs) (used ys) (begun_both h xs ys b)

    nothing : (a : A) (h : List Token) → Q a (h ++ []) → Q a h
    nothing a h q = subst (λ (t : List Token). Q a t) (append-nil h) q

    pub answered_walks : (r : Result ℤ Fault) (κ : ℤ → A) (h : List Token) → Begun h → ((v : ℤ) → r ≡ Ok v → Q (κ v) h) → Q (answered_into A S r κ) h
    answered_walks (Ok v) κ h b next = W.goes (κ v) h (next v refl)
    answered_walks (Err e) κ h b next = W.faults e h b

    locals_walk : (n : ℕ) (a : A) (h : List Token) → Q a h → Q (locals_into A S n a) h
    locals_walk zero a h q = q
    locals_walk (suc n) a h q = W.goes (locals_into A S n a) h (locals_walk n a h q)

    checked_walks : (ds : List Extent) (xs : List ℤ) (a : A) (h : List Token) → Begun h → Q a h → Q (checked_into A S ds xs a) h
    checked_walks [] xs a h b q = q
    checked_walks (d ∷ ds) [] a h b q = W.faults BadIndex h b
    checked_walks (d ∷ ds) (x ∷ xs) a h b q = by (is_within d x) (checked_walks ds xs a h b q)
      where
        by : (c : Bool) → Q (checked_into A S ds xs a) h → Q (if c then S.local (checked_into A S ds xs a) else S.fails BadIndex) h
        by true k = W.goes (checked_into A S ds xs a) h k
        by false k = W.faults BadIndex h b

    at_walks : (r : Result ℕ Fault) (κ : ℕ → A) (h : List Token) → Begun h → ((n : ℕ) → r ≡ Ok n → Q (κ n) h) → Q (at_place A S r κ) h
    at_walks (Ok n) κ h b next = next n refl
    at_walks (Err e) κ h b next = W.faults e h b

    place_walks : (d : Extent) (ds : List Extent) (xs : List ℤ) (κ : ℕ → A) (h : List Token) → Begun h → ((n : ℕ) → place_of (d ∷ ds) xs ≡ Ok n → Q (κ n) h) → Q (place_into A S d ds xs κ) h
    place_walks d ds [] κ h b next = W.goes (S.fails BadIndex) h (W.faults BadIndex h b)
    place_walks d ds (x ∷ xs) κ h b next =
        let placed = at_place A S (place_of (d ∷ ds) (x ∷ xs)) κ in
        checked_walks (d ∷ ds) (x ∷ xs) (locals_into A S (length ds) placed) h b (locals_walk (length ds) placed h (at_walks (place_of (d ∷ ds) (x ∷ xs)) κ h b next))

    located_walks : (ds : List Extent) (xs : List ℤ) (κ : ℕ → A) (h : List Token) → Begun h → ((n : ℕ) → place_of ds xs ≡ Ok n → Q (κ n) h) → Q (located_into A S ds xs κ) h
    located_walks [] xs κ h b next = next 0 refl
    located_walks (d ∷ ds) xs κ h b next = place_walks d ds xs κ h b next

    -- what has subscripts may have any value
    wider : (r : Ref) (fs : Terms) (v : ℤ) → May (element r no_terms) v → May (element r fs) v
    wider r no_terms v m = m
    wider r (then_term f fs) v m = tt

    -- a scalar
    pub scalar_walks : (o : Home) (r : Ref) (es : Terms) (κ : ℤ → A) (h : List Token) → home_at p r ≡ o → Located p.symbols r es 0 → ((v : ℤ) → May (element r es) v → Q (κ v) (h ++ uses r ∷ [])) → Q (scalar_into A S o r κ) h
    scalar_walks loop_index r es κ h held_so at next = W.indexes r es κ h held_so at (λ v m. next v (wider r es v m))
    scalar_walks (private_scalar x) r es κ h held_so at next = W.owns r es x κ h held_so at (λ v m. next v (wider r es v m))
    scalar_walks in_store r es κ h held_so at next = W.loads r es 0 κ h held_so at next

    -- a function on all arguments, where there are just as many, or on none
    applied : (g : Intrinsic) (n : ℕ) (es : Terms) (κ : ℤ → A) (h : List Token) → Begun (h ++ used (terms_references es)) → ((vs : List ℤ) → length vs ≡ count es → intrinsic_value g (front (just n (count es)) vs) ≡ intrinsic_value g vs)
        → ((v : ℤ) → (vs : List ℤ) × AllMay es vs × (intrinsic_value g vs ≡ Ok v) → Q (κ v) (h ++ used (terms_references es)))
        → (((vs : List ℤ) → AllMay es vs → Q (answered_into A S (intrinsic_value g (front (just n (count es)) vs)) κ) (h ++ used (terms_references es))) → Q (terms_into A S p es (just n (count es)) (λ xs. answered_into A S (intrinsic_value g xs) κ)) h)
        → Q (terms_into A S p es (just n (count es)) (λ xs. answered_into A S (intrinsic_value g xs) κ)) h
    applied g n es κ h b same next walk = walk (λ vs may. answered_walks (intrinsic_value g (front (just n (count es)) vs)) κ (h ++ used (terms_references es)) b (λ v is. next v (vs, may, sym (same vs (counted es vs may)) ∙ is)))

    mutual
      pub term_walks : (e : Term) → Known Stands e → (κ : ℤ → A) (h : List Token) → Begun (h ++ used (term_references e)) → ((v : ℤ) → May e v → Q (κ v) (h ++ used (term_references e))) → Q (term_into A S p e κ) h
      term_walks (constant n) w κ h b next = W.goes (κ n) h (nothing (κ n) h (next n refl))
      term_walks (truth t) w κ h b next = W.goes (κ (truth_value t)) h (nothing (κ (truth_value t)) h (next (truth_value t) refl))
      term_walks (parameter x n) w κ h b next = W.goes (κ n) h (nothing (κ n) h (next n refl))
      term_walks (element r es) w κ h b next =
          let k = h ++ used (terms_references es) in
          terms_walk es w.1 (length (dimensions_at p.symbols r.cell)) (λ xs. reached_into A S p r (dimensions_at p.symbols r.cell) xs κ) h (begun_first h (terms_references es) (r ∷ []) b) (λ vs may.
          reached (dimensions_at p.symbols r.cell) refl vs may k (begun_first h (terms_references es) (r ∷ []) b) (λ v m. both (κ v) h (terms_references es) (r ∷ []) (next v m)))
        where
          reached : (ds : List Extent) → dimensions_at p.symbols r.cell ≡ ds → (vs : List ℤ) → AllMay es vs → (k : List Token) → Begun k → ((v : ℤ) → May (element r es) v → Q (κ v) (k ++ uses r ∷ [])) → Q (reached_into A S p r ds (front (length ds) vs) κ) k
          reached [] e vs may k b next = scalar_walks (home p [] r.name) r es κ k (ap (λ (fs : List Extent). home p fs r.name) e) (vs, w.0, may, ap (λ (fs : List Extent). place_of fs vs) e) next
          reached (d ∷ ds) e vs may k b next =
              place_walks d ds (front (length (d ∷ ds)) vs) (λ n. S.load r (record { name = r.name; place = n }) κ) k b (λ n is.
              W.loads r es n κ k (ap (λ (fs : List Extent). home p fs r.name) e) (vs, w.0, may, ap (λ (fs : List Extent). place_of fs vs) e ∙ sym (place_front (d ∷ ds) vs) ∙ is) next)
      term_walks (call Mod es) w κ h b next = applied Mod 2 es κ h b (λ vs len. by_front Mod 2 (count es) vs len (λ o. not_two vs (ap (λ (k : ℕ). k == 2) len ∙ o))) next (λ k. terms_walk es w (just 2 (count es)) (λ xs. answered_into A S (intrinsic_value Mod xs) κ) h b k)
      term_walks (call Abs es) w κ h b next = applied Abs 1 es κ h b (λ vs len. by_front Abs 1 (count es) vs len (λ o. abs_none vs (ap (λ (k : ℕ). k == 1) len ∙ o))) next (λ k. terms_walk es w (just 1 (count es)) (λ xs. answered_into A S (intrinsic_value Abs xs) κ) h b k)
      term_walks (call Iabs es) w κ h b next = applied Iabs 1 es κ h b (λ vs len. by_front Iabs 1 (count es) vs len (λ o. iabs_none vs (ap (λ (k : ℕ). k == 1) len ∙ o))) next (λ k. terms_walk es w (just 1 (count es)) (λ xs. answered_into A S (intrinsic_value Iabs xs) κ) h b k)
      term_walks (call Max es) w κ h b next = chosen_walks es w greater Max greatest refl (λ best xs. refl) (λ best. refl) (λ best x xs. refl) κ h b next
      term_walks (call Max0 es) w κ h b next = chosen_walks es w greater Max0 greatest refl (λ best xs. refl) (λ best. refl) (λ best x xs. refl) κ h b next
      term_walks (call Min es) w κ h b next = chosen_walks es w less Min least refl (λ best xs. refl) (λ best. refl) (λ best x xs. refl) κ h b next
      term_walks (call Min0 es) w κ h b next = chosen_walks es w less Min0 least refl (λ best xs. refl) (λ best. refl) (λ best x xs. refl) κ h b next
      term_walks (parentheses e) w κ h b next = term_walks e w κ h b next
      term_walks (unary o e) w κ h b next =
          term_walks e w (λ a. answered_into A S (prefixed_value o a) κ) h b (λ a m. answered_walks (prefixed_value o a) κ (h ++ used (term_references e)) b (λ v is. next v (a, m, is)))
      term_walks (binary o x y) w κ h b next =
          let k = h ++ used (term_references x) in
          term_walks x w.0 (λ u. term_into A S p y (λ v. answered_into A S (value_of o u v) κ)) h (begun_first h (term_references x) (term_references y) b) (λ u mu.
          term_walks y w.1 (λ v. answered_into A S (value_of o u v) κ) k (begun_both h (term_references x) (term_references y) b) (λ v mv.
          answered_walks (value_of o u v) κ (k ++ used (term_references y)) (begun_both h (term_references x) (term_references y) b) (λ w is. both (κ w) h (term_references x) (term_references y) (next w (u, v, mu, mv, is)))))

      -- all of them, of which the first n are kept
      pub terms_walk : (es : Terms) → AllKnown Stands es → (n : ℕ) (κ : List ℤ → A) (h : List Token) → Begun (h ++ used (terms_references es)) → ((vs : List ℤ) → AllMay es vs → Q (κ (front n vs)) (h ++ used (terms_references es))) → Q (terms_into A S p es n κ) h
      terms_walk no_terms w n κ h b next = nothing (κ []) h (next [] refl)
      terms_walk (then_term e es) w zero κ h b next =
          let k = h ++ used (term_references e) in
          term_walks e w.0 (λ x. S.local (terms_into A S p es zero κ)) h (begun_first h (term_references e) (terms_references es) b) (λ x m.
          W.goes (terms_into A S p es zero κ) k
          (terms_walk es w.1 zero κ k (begun_both h (term_references e) (terms_references es) b) (λ vs ms.
          subst (λ (ys : List ℤ). Q (κ ys) (k ++ used (terms_references es))) (sym (front_none vs)) (both (κ []) h (term_references e) (terms_references es) (next (x ∷ vs) (x, vs, refl, m, ms))))))
      terms_walk (then_term e es) w (suc n) κ h b next =
          let k = h ++ used (term_references e) in
          term_walks e w.0 (λ x. terms_into A S p es n (λ xs. κ (x ∷ xs))) h (begun_first h (term_references e) (terms_references es) b) (λ x m.
          terms_walk es w.1 n (λ xs. κ (x ∷ xs)) k (begun_both h (term_references e) (terms_references es) b) (λ vs ms. both (κ (x ∷ front n vs)) h (term_references e) (terms_references es) (next (x ∷ vs) (x, vs, refl, m, ms))))

      chosen_walks : (es : Terms) → AllKnown Stands es → (choice : ℤ → ℤ → ℤ) (g : Intrinsic) (most : ℤ → List ℤ → ℤ) → intrinsic_value g [] ≡ Ok (pos 0) → ((best : ℤ) (xs : List ℤ) → intrinsic_value g (best ∷ xs) ≡ Ok (most best xs)) → ((best : ℤ) → most best [] ≡ best) → ((best x : ℤ) (xs : List ℤ) → most best (x ∷ xs) ≡ most (choice best x) xs)
          → (κ : ℤ → A) (h : List Token) → Begun (h ++ used (terms_references es)) → ((v : ℤ) → (vs : List ℤ) × AllMay es vs × (intrinsic_value g vs ≡ Ok v) → Q (κ v) (h ++ used (terms_references es))) → Q (chosen_into A S p es choice κ) h
      chosen_walks no_terms w choice g most none some ends further κ h b next = W.goes (κ (pos 0)) h (nothing (κ (pos 0)) h (next (pos 0) ([], refl, none)))
      chosen_walks (then_term e es) w choice g most none some ends further κ h b next =
          let k = h ++ used (term_references e) in
          term_walks e w.0 (λ x. further_into A S p es choice x κ) h (begun_first h (term_references e) (terms_references es) b) (λ x m.
          further_walks es w.1 choice most ends further x κ k (begun_both h (term_references e) (terms_references es) b) (λ v o.
          both (κ v) h (term_references e) (terms_references es) (next v (x ∷ o.0, (x, o.0, refl, m, o.1), some x o.0 ∙ ap (λ (w : ℤ). Ok w) (sym o.2)))))

      further_walks : (es : Terms) → AllKnown Stands es → (choice : ℤ → ℤ → ℤ) (most : ℤ → List ℤ → ℤ) → ((best : ℤ) → most best [] ≡ best) → ((best x : ℤ) (xs : List ℤ) → most best (x ∷ xs) ≡ most (choice best x) xs) → (best : ℤ) (κ : ℤ → A) (h : List Token) → Begun (h ++ used (terms_references es))
          → ((v : ℤ) → (vs : List ℤ) × AllMay es vs × (v ≡ most best vs) → Q (κ v) (h ++ used (terms_references es))) → Q (further_into A S p es choice best κ) h
      further_walks no_terms w choice most ends further best κ h b next = nothing (κ best) h (next best ([], refl, sym (ends best)))
      further_walks (then_term e es) w choice most ends further best κ h b next =
          let k = h ++ used (term_references e) in
          term_walks e w.0 (λ x. S.local (further_into A S p es choice (choice best x) κ)) h (begun_first h (term_references e) (terms_references es) b) (λ x m.
          W.goes (further_into A S p es choice (choice best x) κ) k
          (further_walks es w.1 choice most ends further (choice best x) κ k (begun_both h (term_references e) (terms_references es) b) (λ v o.
          both (κ v) h (term_references e) (terms_references es) (next v (x ∷ o.0, (x, o.0, refl, m, o.1), o.2 ∙ sym (further best x o.0))))))

    -- the place of a variable that is given a value
    pub target_walks : (r : Ref) (es : Terms) → Stands r es → AllKnown Stands es → (κ : ℕ → A) (h : List Token) → Begun (h ++ used (terms_references es)) → ((n : ℕ) → Located p.symbols r es n → Q (κ n) (h ++ used (terms_references es))) → Q (target_into A S p r es κ) h
    target_walks r es stands w κ h b next =
        let ds = dimensions_at p.symbols r.cell in
        terms_walk es w (length ds) (λ xs. located_into A S ds xs κ) h b (λ vs may. located_walks ds (front (length ds) vs) κ (h ++ used (terms_references es)) b (λ n is. next n (vs, stands, may, sym (place_front ds vs) ∙ is)))
