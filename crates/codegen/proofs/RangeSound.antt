-- What is known of the references of a loop that is opened.
use Rattle.std.proofs.Common.{◌≡◌, ◌∙◌, ◌<◌, inl, inr, ℕ, zero, suc, ℤ, pos, Bool, true, false, List, [], ◌∷◌, ◌++◌, Option, Some, None, Ok, length, get_or, refl, sym, ap, subst, arith, append_assoc}
use Rattle.std.specs.Prelude.{◌==◌, ◌&&◌, ◌||◌, not, slice_get, if◌then◌else◌}
use Rattle.std.specs.List.{IsDistinct, list_any}
use Rattle.std.proofs.lemmas.Bool.{and_parts, eq-eqb, eqb-true}
use Rattle.plan_check.proofs.Sound.{in_any}
use Rattle.ast.specs.Program.{is_placed, is_variable_named, is_variable as is_variable_sort}
use Rattle.ast.specs.Store.{StoreOf, same_name}
use Rattle.ast.specs.Symbols.{Extent, Symbol, dimensions_in, names_of, place_of}
use Rattle.ast.specs.Tree.{Ref, Terms, element, no_terms, then_term}
use Rattle.ast.proofs.SameNames.{same_itself, same_is}
use Rattle.ast.proofs.Symbols.{differs}
use Rattle.dependence.specs.Plan.{PlanBlock, PlanPaths}
use Rattle.loop_tree.specs.Loops.{Loop, has_cell}
use Rattle.loop_tree.specs.Occurrences.{Occurrence}
use Rattle.loop_tree.specs.Paths.{Token, uses, defines, await as awaited_at, advance as advanced_at}
use Rattle.machine.specs.Code.{Cell}
use Rattle.machine.specs.View.{is_event}
use Rattle.subscripts.specs.Forms.{is_variable, varies}
use Rattle.subscripts.specs.Values.{MayBe, ScalarMayBe}
use Rattle.expr_code.specs.Places.{Places, Home, loop_index, private_scalar, in_store, dimensions_at, home, number_in, private_or_stored}
use Rattle.expr_code.specs.Process.{count}
use Rattle.expr_code.proofs.Finding.{dimensions_same}
use Rattle.codegen.proofs.IterationPaths.{Sound}
use Rattle.codegen.proofs.IterationSteps.{In}
use Rattle.codegen.proofs.Walking.{Located, home_at}
use Rattle.codegen.proofs.IterationMeaning.{private_named}

-- ---- names and cells

-- a name stands once among the symbols
pub one_place : (ss : List Symbol) → IsDistinct same_name (names_of ss) → (i j : ℕ) (s t : Symbol) → slice_get ss i ≡ Some s → slice_get ss j ≡ Some t → s.name ≡ t.name → i ≡ j
unfolding IsDistinct
one_place [] d i j s t e f n = cc
one_place (u ∷ us) d zero zero s t e f n = refl
one_place (u ∷ us) d zero (suc j) s t e f n =
    let k : u ≡ s = cc in
    let z : same_name u.name t.name ≡ false = differs u.name us j t d.0 f in
    let y : same_name u.name t.name ≡ true = subst (λ (m : List ℕ). same_name u.name m ≡ true) (ap (λ (q : Symbol). q.name) k ∙ n) (same_itself u.name) in
    let x : true ≡ false = sym y ∙ z in cc
one_place (u ∷ us) d (suc i) zero s t e f n =
    let k : u ≡ t = cc in
    let z : same_name u.name s.name ≡ false = differs u.name us i s d.0 e in
    let y : same_name u.name s.name ≡ true = subst (λ (m : List ℕ). same_name u.name m ≡ true) (ap (λ (q : Symbol). q.name) k ∙ sym n) (same_itself u.name) in
    let x : true ≡ false = sym y ∙ z in cc
one_place (u ∷ us) d (suc i) (suc j) s t e f n = ap suc (one_place us d.1 i j s t e f n)

pub symbol_at : (ss : List Symbol) (r : Ref) → is_placed ss r ≡ true → (s : Symbol) × (slice_get ss r.cell ≡ Some s) × (s.name ≡ r.name)
symbol_at ss r h = by (slice_get ss r.cell) refl
  where
    by : (o : Option Symbol) → slice_get ss r.cell ≡ o → (s : Symbol) × (slice_get ss r.cell ≡ Some s) × (s.name ≡ r.name)
    by None e = let d : false ≡ true = sym (ap (is_variable_named r.name) e) ∙ h in cc
    by (Some s) e =
        let k : (same_name s.name r.name && is_variable_sort s.sort) ≡ true = sym (ap (is_variable_named r.name) e) ∙ h in
        (s, e, same_is s.name r.name (and_parts (same_name s.name r.name) (is_variable_sort s.sort) k).0)

module _ (ss : List Symbol) (distinct : IsDistinct same_name (names_of ss)) (r q : Ref) (pr : is_placed ss r ≡ true) (pq : is_placed ss q ≡ true) where
  pub same_cells : r.name ≡ q.name → r.cell ≡ q.cell
  same_cells e = let a = symbol_at ss r pr in let b = symbol_at ss q pq in one_place ss distinct r.cell q.cell a.0 b.0 a.1 b.1 (a.2 ∙ e ∙ sym b.2)

  pub same_names : r.cell ≡ q.cell → r.name ≡ q.name
  same_names e =
      let a = symbol_at ss r pr in
      let b = symbol_at ss q pq in
      let z : Some a.0 ≡ Some b.0 = sym a.1 ∙ ap (slice_get ss) e ∙ b.1 in
      let y : a.0 ≡ b.0 = cc in
      sym a.2 ∙ ap (λ (s : Symbol). s.name) y ∙ b.2

cell_among : (rs : List Ref) (s : Ref) (c : ℕ) → In s rs → s.cell ≡ c → has_cell c rs ≡ true
cell_among [] s c i e = absurd i
cell_among (r ∷ rs) s c (inl z) e = ap (λ (b : Bool). b || has_cell c rs) (eq-eqb r.cell c (ap (λ (q : Ref). q.cell) (sym z) ∙ e))
cell_among (r ∷ rs) s c (inr i) e = by (r.cell == c) (cell_among rs s c i e)
  where
    by : (b : Bool) → has_cell c rs ≡ true → (b || has_cell c rs) ≡ true
    by true h = refl
    by false h = h

pub any_among : (rs : List Ref) (f : Ref → Bool) → list_any f rs ≡ true → (s : Ref) × In s rs × (f s ≡ true)
any_among [] f h = cc
any_among (r ∷ rs) f h = by (f r) refl h (any_among rs f)
  where
    by : (b : Bool) → f r ≡ b → (b || list_any f rs) ≡ true → (list_any f rs ≡ true → (s : Ref) × In s rs × (f s ≡ true)) → (s : Ref) × In s (r ∷ rs) × (f s ≡ true)
    by true e k more = (r, inl refl, e)
    by false e k more = let m = more k in (m.0, inr m.1, m.2)

-- ---- scalars to which a range gives no value

abbrev pub is_scalar : List Extent → Bool
is_scalar [] = true
is_scalar (d ∷ ds) = false

abbrev pub is_assigned : Loop → List ℕ → Bool
is_assigned l name = list_any (λ (r : Ref). same_name r.name name) l.assigned

abbrev pub fixed_in : List Symbol → Loop → Cell → Bool
fixed_in symbols l c = is_scalar (dimensions_in symbols c.name) && not (is_assigned l c.name)

abbrev at_symbol : StoreOf → Option Symbol → ℤ
at_symbol ι None = pos 0
at_symbol ι (Some s) = ι s.name 0

-- what the scalars held as the loop was opened
abbrev pub held_by : List Symbol → StoreOf → ℕ → ℤ
held_by symbols ι c = at_symbol ι (slice_get symbols c)

abbrev pub StandsIn : Loop → Ref → Terms → Type 0
StandsIn l r es = (o : Occurrence) × In o l.references × (o.ref ≡ r) × (o.subscripts ≡ es)

-- What is known of a loop of a program, and of its plan.
pub record IsPlace (symbols : List Symbol) (l : Loop) (privates : List (List ℕ)) (body : PlanBlock) : Type 0 where
  pub distinct : IsDistinct same_name (names_of symbols)
  pub placed : (r : Ref) (es : Terms) → StandsIn l r es → is_placed symbols r ≡ true
  pub counted : (r : Ref) (es : Terms) → StandsIn l r es → count es ≡ length (dimensions_at symbols r.cell)
  pub assigned : (r : Ref) → In r l.assigned → is_placed symbols r ≡ true
  pub assigned_scalar : (r : Ref) → In r l.assigned → dimensions_at symbols r.cell ≡ []
  pub variable : is_placed symbols l.head.variable ≡ true
  -- of the plan
  pub scalars : (x : ℕ) → x < length privates → (s : Ref) × In s l.assigned × (s.name ≡ get_or privates x [])
  pub defined : (e : Rattle.loop_tree.specs.Paths.Ending) (u v : List Token) (r : Ref) (x : ℕ) → x < length privates → r.name ≡ get_or privates x [] → PlanPaths body e (u ++ uses r ∷ v) → (q : Ref) × (q.name ≡ r.name) × In (defines q) u × ((es : Terms) × StandsIn l q es)
  pub events : (e d : ℕ) (u v : List Token) (f : Rattle.loop_tree.specs.Paths.Ending) → PlanPaths body f (u ++ awaited_at e d ∷ v) → is_event e ≡ true
  pub advanced : (e : ℕ) (u v : List Token) (f : Rattle.loop_tree.specs.Paths.Ending) → PlanPaths body f (u ++ advanced_at e ∷ v) → is_event e ≡ true

module _ (symbols : List Symbol) (l : Loop) (line : ℕ) (privates : List (List ℕ)) (body : PlanBlock) (w : IsPlace symbols l privates body) where
  abbrev pl : Places
  pl = record { symbols = symbols; privates = privates; loop_name = Some l.head.variable.name; line = line }

  no_terms_are : (es : Terms) → count es ≡ 0 → es ≡ no_terms
  no_terms_are no_terms e = refl
  no_terms_are (then_term e es) h = let z : suc (count es) ≡ 0 = h in absurd (omega (arith, z))

  none_long : (ds : List Extent) → 0 ≡ length ds → ds ≡ []
  none_long [] e = refl
  none_long (d ∷ ds) e = absurd (omega (arith, e))

  -- its dimensions, by place and by name
  pub dims : (r : Ref) (es : Terms) → StandsIn l r es → dimensions_in symbols r.name ≡ dimensions_at symbols r.cell
  dims r es st = dimensions_same symbols r w.distinct (w.placed r es st)

  -- the loop's variable by its cell, and by its home
  variable_home : (r : Ref) (es : Terms) → StandsIn l r es → dimensions_at symbols r.cell ≡ [] → is_variable l r.cell ≡ true → home_at pl r ≡ loop_index
  variable_home r es st d e =
      let c = eqb-true r.cell l.head.variable.cell e in
      let n = same_names symbols w.distinct r l.head.variable (w.placed r es st) w.variable c in
      ap (λ (ds : List Extent). home pl ds r.name) d ∙ ap (λ (b : Bool). if b then loop_index else private_or_stored (number_in 0 r.name privates)) (subst (λ (x : List ℕ). same_name l.head.variable.name x ≡ true) (sym n) (same_itself l.head.variable.name))

  not_index : (r : Ref) (es : Terms) (o : Home) → StandsIn l r es → dimensions_at symbols r.cell ≡ [] → home_at pl r ≡ o → (o ≡ loop_index → ⊥) → is_variable l r.cell ≡ false
  not_index r es o st d e ne = by (is_variable l r.cell) refl
    where
      by : (b : Bool) → is_variable l r.cell ≡ b → b ≡ false
      by true h = absurd (ne (sym e ∙ variable_home r es st d h))
      by false h = refl

  -- a scalar of an assigned name varies, and only such a one
  varies_named : (r : Ref) (es : Terms) (s : Ref) → StandsIn l r es → In s l.assigned → s.name ≡ r.name → varies l r.cell ≡ true
  varies_named r es s st i e = cell_among l.assigned s r.cell i (same_cells symbols w.distinct s r (w.assigned s i) (w.placed r es st) e)

  assigned_named : (r : Ref) (es : Terms) → StandsIn l r es → varies l r.cell ≡ true → is_assigned l r.name ≡ true
  assigned_named r es st h =
      let m = any_among l.assigned (λ (s : Ref). s.cell == r.cell) h in
      let n = same_names symbols w.distinct m.0 r (w.assigned m.0 m.1) (w.placed r es st) (eqb-true (m.0).cell r.cell m.2) in
      in_any (λ (s : Ref). same_name s.name r.name) l.assigned m.0 m.1 (subst (λ (x : List ℕ). same_name x r.name ≡ true) (sym n) (same_itself r.name))

  scalar_dims : (ds : List Extent) → is_scalar ds ≡ true → ds ≡ []
  scalar_dims [] e = refl
  scalar_dims (d ∷ ds) e = cc

  place_zero : (ds : List Extent) (vs : List ℤ) (n : ℕ) → ds ≡ [] → place_of ds vs ≡ Ok n → n ≡ 0
  place_zero ds vs n e h = let z : Ok 0 ≡ Ok n = sym (ap (λ (fs : List Extent). place_of fs vs) e) ∙ h in cc

  held_is : (ι : StoreOf) (r : Ref) (es : Terms) → StandsIn l r es → held_by symbols ι r.cell ≡ ι r.name 0
  held_is ι r es st = let s = symbol_at symbols r (w.placed r es st) in ap (at_symbol ι) s.1 ∙ ap (λ (x : List ℕ). ι x 0) s.2

  module _ (ι : StoreOf) (index : ℤ) where
    abbrev May : Ref → Terms → ℤ → Type 0
    May r es v = MayBe l (held_by symbols ι) index (element r es) v

    steady : (r : Ref) (es : Terms) (n : ℕ) → home_at pl r ≡ in_store → Located l (held_by symbols ι) index (StandsIn l) symbols r es n → fixed_in symbols l (record { name = r.name; place = n }) ≡ true → May r es (ι r.name n)
    steady r es n h at f =
        let k = and_parts (is_scalar (dimensions_in symbols r.name)) (not (is_assigned l r.name)) f in
        let st = at.1 in
        let d : dimensions_at symbols r.cell ≡ [] = sym (dims r es st) ∙ scalar_dims (dimensions_in symbols r.name) k.0 in
        let none : es ≡ no_terms = no_terms_are es (w.counted r es st ∙ ap (λ (ds : List Extent). length ds) d) in
        let zero_place : n ≡ 0 = place_zero (dimensions_at symbols r.cell) at.0 n d at.3 in
        let not_var = not_index r es in_store st d h (λ z. cc) in
        subst (λ (fs : Terms). May r fs (ι r.name n)) (sym none)
        (subst (λ (b : Bool). ScalarMayBe b (varies l r.cell) index (held_by symbols ι r.cell) (ι r.name n)) (sym not_var)
        (subst (λ (b : Bool). ScalarMayBe false b index (held_by symbols ι r.cell) (ι r.name n)) (sym (still (varies l r.cell) refl k.1))
        (ap (ι r.name) zero_place ∙ sym (held_is ι r es st))))
      where
        still : (b : Bool) → varies l r.cell ≡ b → not (is_assigned l r.name) ≡ true → b ≡ false
        still true e k = let z : not true ≡ true = ap not (sym (assigned_named r es at.1 e)) ∙ k in cc
        still false e k = refl

    may_vary : (r : Ref) (v : ℤ) → is_variable l r.cell ≡ false → varies l r.cell ≡ true → May r no_terms v
    may_vary r v a b = subst (λ (x : Bool). ScalarMayBe x (varies l r.cell) index (held_by symbols ι r.cell) v) (sym a) (subst (λ (x : Bool). ScalarMayBe false x index (held_by symbols ι r.cell) v) (sym b) tt)

    any : (r : Ref) (es : Terms) (n : ℕ) (v : ℤ) → home_at pl r ≡ in_store → Located l (held_by symbols ι) index (StandsIn l) symbols r es n → fixed_in symbols l (record { name = r.name; place = n }) ≡ false → May r es v
    any r (then_term e es) n v h at f = tt
    any r no_terms n v h at f =
        let st = at.1 in
        let d : dimensions_at symbols r.cell ≡ [] = none_long (dimensions_at symbols r.cell) (w.counted r no_terms st) in
        let a : is_assigned l r.name ≡ true = assigned_then (is_assigned l r.name) (ap (λ (ds : List Extent). is_scalar ds && not (is_assigned l r.name)) (sym (dims r no_terms st ∙ d)) ∙ f) in
        let m = any_among l.assigned (λ (s : Ref). same_name s.name r.name) a in
        may_vary r v (not_index r no_terms in_store st d h (λ z. cc)) (varies_named r no_terms m.0 st m.1 (same_is (m.0).name r.name m.2))
      where
        assigned_then : (b : Bool) → (true && not b) ≡ false → b ≡ true
        assigned_then true e = refl
        assigned_then false e = cc

    own_dims : (ds : List Extent) (r : Ref) (x : ℕ) → home pl ds r.name ≡ private_scalar x → ds ≡ []
    own_dims [] r x e = refl
    own_dims (d ∷ ds) r x e = cc

    pub index_dims : (ds : List Extent) (r : Ref) → home pl ds r.name ≡ loop_index → ds ≡ []
    index_dims [] r e = refl
    index_dims (d ∷ ds) r e = cc

    own_name : (r : Ref) (x : ℕ) → home_at pl r ≡ private_scalar x → (x < length privates) × (get_or privates x [] ≡ r.name)
    own_name r x h = private_named pl r.name x (sym (ap (λ (ds : List Extent). home pl ds r.name) (own_dims (dimensions_at symbols r.cell) r x h)) ∙ h)

    any_own : (r : Ref) (es : Terms) (x : ℕ) (v : ℤ) → home_at pl r ≡ private_scalar x → Located l (held_by symbols ι) index (StandsIn l) symbols r es 0 → May r no_terms v
    any_own r es x v h at =
        let n = own_name r x h in
        let s = w.scalars x n.0 in
        let d = own_dims (dimensions_at symbols r.cell) r x h in
        may_vary r v (not_index r es (private_scalar x) at.1 d h (λ z. cc)) (varies_named r es s.0 at.1 s.1 (s.2 ∙ n.1))

    pub loop_named : (name : List ℕ) → home pl [] name ≡ loop_index → l.head.variable.name ≡ name
    loop_named name e = by (same_name l.head.variable.name name) refl e
      where
        stored : (o : Option ℕ) → private_or_stored o ≡ loop_index → ⊥
        stored None q = cc
        stored (Some x) q = cc

        by : (b : Bool) → same_name l.head.variable.name name ≡ b → (if b then loop_index else private_or_stored (number_in 0 name privates)) ≡ loop_index → l.head.variable.name ≡ name
        by true k q = same_is l.head.variable.name name k
        by false k q = absurd (stored (number_in 0 name privates) q)

    index_may : (r : Ref) (es : Terms) → home_at pl r ≡ loop_index → Located l (held_by symbols ι) index (StandsIn l) symbols r es 0 → May r no_terms index
    index_may r es h at =
        let d = index_dims (dimensions_at symbols r.cell) r h in
        let n = loop_named r.name (sym (ap (λ (ds : List Extent). home pl ds r.name) d) ∙ h) in
        let c = same_cells symbols w.distinct r l.head.variable (w.placed r es at.1) w.variable (sym n) in
        subst (λ (b : Bool). ScalarMayBe b (varies l r.cell) index (held_by symbols ι r.cell) index) (sym (eq-eqb r.cell l.head.variable.cell c)) refl

    private_home : (q : Ref) (es : Terms) (r : Ref) (x : ℕ) → StandsIn l q es → q.name ≡ r.name → home_at pl r ≡ private_scalar x → home_at pl q ≡ private_scalar x
    private_home q es r x st e h =
        let n = own_name r x h in
        let s = w.scalars x n.0 in
        let c = same_cells symbols w.distinct q s.0 (w.placed q es st) (w.assigned s.0 s.1) (e ∙ sym n.1 ∙ sym s.2) in
        let qd : dimensions_at symbols q.cell ≡ [] = ap (dimensions_at symbols) c ∙ w.assigned_scalar s.0 s.1 in
        let rd = own_dims (dimensions_at symbols r.cell) r x h in
        ap (λ (ds : List Extent). home pl ds q.name) qd ∙ ap (λ (m : List ℕ). home pl [] m) e ∙ sym (ap (λ (ds : List Extent). home pl ds r.name) rd) ∙ h

    pub open_sound : Sound l (held_by symbols ι) index (StandsIn l) pl (fixed_in symbols l) ι (PlanPaths body)
    open_sound = record {
      steady = steady;
      any = any;
      any_own = any_own;
      variable = index_may;
      below = λ r x h. (own_name r x h).0;
      defined = λ r x h held_so b.
          let n = own_name r x held_so in
          let d = w.defined b.0 h b.1 r x n.0 (sym n.1) (subst (λ (t : List Token). PlanPaths body b.0 t) (append_assoc h (uses r ∷ []) b.1) b.2) in
          (d.0, private_home d.0 d.3.0 r x d.3.1 d.1 held_so, d.2);
      awaits = λ e d h b. w.events e d h b.1 b.0 (subst (λ (t : List Token). PlanPaths body b.0 t) (append_assoc h (awaited_at e d ∷ []) b.1) b.2);
      advances = λ e h b. w.advanced e h b.1 b.0 (subst (λ (t : List Token). PlanPaths body b.0 t) (append_assoc h (advanced_at e ∷ []) b.1) b.2);
    }
