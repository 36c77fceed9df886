-- Each loop that is opened is known, by its plan.
use Rattle.std.proofs.Common.{◌≡◌, ◌∙◌, ◌+◌, ◌≤◌, ◌<◌, ◌^◌, inl, inr, ℕ, zero, suc, ℤ, pos, Bool, true, false, List, [], ◌∷◌, ◌++◌, Option, Some, None, length, map, get_or, refl, sym, ap, subst, ⊎_elim, arith}
use Rattle.std.specs.Prelude.{◌&&◌, ◌||◌, not, slice_get, if◌then◌else◌}
use Rattle.std.specs.List.{IsDistinct, list_all, list_any}
use Rattle.std.specs.Ordering.{int_eq}
use Rattle.std.proofs.lemmas.Bool.{and_parts}
use Rattle.ast.specs.Program.{is_placed}
use Rattle.ast.specs.Store.{same_name}
use Rattle.ast.specs.Symbols.{Extent, Symbol, dimensions_in, elements, is_sized, names_of}
use Rattle.ast.specs.Tree.{Ref, Terms}
use Rattle.ast.proofs.SameNames.{same_itself, same_is}
use Rattle.dependence.specs.Plan.{PlanPaths}
use Rattle.loop_tree.specs.Occurrences.{Occurrence, block_occurrences}
use Rattle.loop_tree.specs.Paths.{Token, defines, Ending}
use Rattle.machine.specs.Code as machine
use Rattle.machine.specs.Code.{Code, Cell, cell_at, loop_at}
use Rattle.machine.specs.View.{defined_cells, stored_if}
use Rattle.expr_code.specs.Computes.{HasVariables}
use Rattle.expr_code.specs.Emitted.{short}
use Rattle.expr_code.specs.Places.{loop_index, private_scalar, dimensions_at, home_of}
use Rattle.expr_code.proofs.Finding.{Reach, cell_law, reach, short_is}
use Rattle.codegen.proofs.IterationSteps.{In, IsKey}
use Rattle.codegen.proofs.LoopMeaning.{Aligned, IsLoop}
use Rattle.codegen.proofs.RangeBody.{Calm, block_is}
use Rattle.codegen.proofs.RangeSound.{IsPlace, StandsIn, fixed_in, is_assigned, is_scalar, one_place, symbol_at}
use Rattle.codegen.specs.Program.{Planned, loop_entry, place_of_name, range_places}
use Rattle.plan_check.specs.GoodPlan.{stripped}

-- the first place of a name is its place, where names are distinct
place_is : (ss : List Symbol) (n i : ℕ) (s : Symbol) (name : List ℕ) → IsDistinct same_name (names_of ss) → slice_get ss i ≡ Some s → s.name ≡ name → place_of_name n ss name ≡ n + i
unfolding IsDistinct
place_is [] n i s name d e k = cc
place_is (t ∷ ss) n zero s name d e k =
    let z : t ≡ s = cc in
    let h : same_name t.name name ≡ true = subst (λ (m : List ℕ). same_name t.name m ≡ true) (ap (λ (q : Symbol). q.name) z ∙ k) (same_itself t.name) in
    ap (λ (b : Bool). if b then n else place_of_name (n + 1) ss name) h ∙ omega arith
place_is (t ∷ ss) n (suc i) s name d e k = by (same_name t.name name) refl (place_is ss (n + 1) i s name d.1 e k)
  where
    -- it isn't the first, since names are distinct
    away : IsDistinct same_name (names_of (t ∷ ss)) → same_name t.name name ≡ true → ⊥
    away d2 h = let z : 0 ≡ suc i = one_place (t ∷ ss) d2 0 (suc i) t s refl e (same_is t.name name h ∙ sym k) in omega (arith, z)

    by : (b : Bool) → same_name t.name name ≡ b → place_of_name (n + 1) ss name ≡ n + 1 + i → (if b then n else place_of_name (n + 1) ss name) ≡ n + suc i
    by true h q = absurd (away d h)
    by false h q = q ∙ omega arith

-- What is known of a loop that is opened, and of its plan (a good plan of the loop of an accepted
-- program).
pub record GoodLoop (symbols : List Symbol) (x : Planned) : Type 0 where
  pub place : IsPlace symbols x.loop x.plan.privates x.plan.body
  pub unassigned : (o : Occurrence) → In o x.loop.references → o.defines ≡ true → o.ref.name ≡ x.loop.head.variable.name → ⊥
  pub assigned : (r : Ref) (es : Terms) → StandsIn x.loop r es → (o : Occurrence) → In o x.loop.references → o.ref ≡ r → o.defines ≡ true → dimensions_in symbols r.name ≡ [] → is_assigned x.loop r.name ≡ true
  pub calm : Calm symbols (range_places symbols x) x.plan.body
  pub same : stripped x.plan.body ≡ x.loop.body
  pub first : ℕ
  pub references : (o : Occurrence) → In o (block_occurrences first (stripped x.plan.body)) → In o x.loop.references
  pub variable_scalar : dimensions_at symbols x.loop.head.variable.cell ≡ []
  pub homes : (i : ℕ) → i < length x.plan.privates → home_of (range_places symbols x) (get_or x.plan.privates i []) ≡ private_scalar i
  pub only : (name : List ℕ) → home_of (range_places symbols x) name ≡ loop_index → name ≡ x.loop.head.variable.name
  pub own : home_of (range_places symbols x) x.loop.head.variable.name ≡ loop_index
  -- a path has a definition where a reference that defines stands
  pub shown : (e : Ending) (u v : List Token) (r : Ref) → PlanPaths x.plan.body e (u ++ defines r ∷ v) → (o : Occurrence) × In o x.loop.references × (o.ref ≡ r) × (o.defines ≡ true)
  pub step : ℤ
  pub step_is : x.loop.step ≡ Some step
  pub nonzero : int_eq step (pos 0) ≡ false

module _ (symbols : List Symbol) (code : Code) (n : ℕ) (x : Planned) (g : GoodLoop symbols x) (sized : list_all is_sized symbols ≡ true) (variables : HasVariables code symbols) (few_symbols : length symbols ≤ 2 ^ 32) (place : ℕ) (entry : loop_at code n ≡ loop_entry symbols place x) where
  -- the cell of a scalar
  short_cell : (r : Ref) → is_placed symbols r ≡ true → dimensions_at symbols r.cell ≡ [] → cell_at (slice_get code.variables (short r.cell)) 0 ≡ Some (record { name = r.name; place = 0 })
  short_cell r p d =
      let w : Reach code.variables r (dimensions_at symbols r.cell) = reach code.variables symbols r variables sized few_symbols p in
      let one : 0 < elements (dimensions_at symbols r.cell) = subst (λ (ds : List Extent). 0 < elements ds) (sym d) (omega arith) in
      cell_law code.variables r (dimensions_at symbols r.cell) 0 w one

  scalar_cell : (r : Ref) → is_placed symbols r ≡ true → dimensions_at symbols r.cell ≡ [] → cell_at (slice_get code.variables r.cell) 0 ≡ Some (record { name = r.name; place = 0 })
  scalar_cell r p d =
      let w : Reach code.variables r (dimensions_at symbols r.cell) = reach code.variables symbols r variables sized few_symbols p in
      ap (λ (c : ℕ). cell_at (slice_get code.variables c) 0) (sym (short_is r.cell w.small)) ∙ short_cell r p d

  private_cell : (i : ℕ) → i < length x.plan.privates → cell_at (slice_get code.variables (short (place_of_name 0 symbols (get_or x.plan.privates i [])))) 0 ≡ Some (record { name = get_or x.plan.privates i []; place = 0 })
  private_cell i h =
      let s = (g.place).scalars i h in
      let p = (g.place).assigned s.0 s.1 in
      let a = symbol_at symbols s.0 p in
      let is : place_of_name 0 symbols (get_or x.plan.privates i []) ≡ (s.0).cell = place_is symbols 0 (s.0).cell a.0 (get_or x.plan.privates i []) (g.place).distinct a.1 (a.2 ∙ s.2) ∙ omega arith in
      ap (λ (c : ℕ). cell_at (slice_get code.variables (short c)) 0) is ∙ short_cell s.0 p ((g.place).assigned_scalar s.0 s.1) ∙ ap (λ (m : List ℕ). Some (record { name = m; place = 0 })) s.2

  aligned_from : (names : List (List ℕ)) → ((i : ℕ) → i < length names → cell_at (slice_get code.variables (short (place_of_name 0 symbols (get_or names i [])))) 0 ≡ Some (record { name = get_or names i []; place = 0 })) → Aligned code names (map (λ name. short (place_of_name 0 symbols name)) names)
  aligned_from [] h = tt
  aligned_from (m ∷ names) h = (h 0 (omega arith), aligned_from names (λ i k. h (suc i) (omega (arith, k))))

  privates_are : (loop_at code n).privates ≡ map (λ name. short (place_of_name 0 symbols name)) x.plan.privates
  privates_are = ap (λ (y : machine.Loop). y.privates) entry

  aligned : Aligned code x.plan.privates (loop_at code n).privates
  aligned = subst (λ (ys : List ℕ). Aligned code x.plan.privates ys) (sym privates_are) (aligned_from x.plan.privates private_cell)

  mapped : {X Y : Type 0} (f : X → Y) (ys : List X) → length (map f ys) ≡ length ys
  mapped f [] = refl
  mapped f (y ∷ ys) = ap suc (mapped f ys)

  private_assigned : (i : ℕ) → i < length x.plan.privates → is_assigned x.loop (get_or x.plan.privates i []) ≡ true
  private_assigned i h =
      let s = (g.place).scalars i h in
      among x.loop.assigned s.0 s.1 (subst (λ (m : List ℕ). same_name (s.0).name m ≡ true) s.2 (same_itself (s.0).name))
    where
      among : (rs : List Ref) (s : Ref) → In s rs → same_name s.name (get_or x.plan.privates i []) ≡ true → list_any (λ (r : Ref). same_name r.name (get_or x.plan.privates i [])) rs ≡ true
      among [] s i e = absurd i
      among (r ∷ rs) s (inl z) e = ap (λ (b : Bool). b || list_any (λ (q : Ref). same_name q.name (get_or x.plan.privates i [])) rs) (subst (λ (q : Ref). same_name q.name (get_or x.plan.privates i []) ≡ true) z e)
      among (r ∷ rs) s (inr k) e = by (same_name r.name (get_or x.plan.privates i [])) (among rs s k e)
        where
          by : (b : Bool) → list_any (λ (q : Ref). same_name q.name (get_or x.plan.privates i [])) rs ≡ true → (b || list_any (λ (q : Ref). same_name q.name (get_or x.plan.privates i [])) rs) ≡ true
          by true h = refl
          by false h = h

  -- an assigned name isn't fixed
  never_fixed : (c : Cell) → is_assigned x.loop c.name ≡ true → fixed_in symbols x.loop c ≡ false
  never_fixed c e = ap (λ (b : Bool). is_scalar (dimensions_in symbols c.name) && not b) e ∙ none (is_scalar (dimensions_in symbols c.name))
    where
      none : (b : Bool) → (b && false) ≡ false
      none true = refl
      none false = refl

  -- what the loop's meaning asks for
  pub is_loop : IsLoop code n (range_places symbols x) x.plan.body (fixed_in symbols x.loop) x.loop.head.variable.name
  is_loop = record {
    aligned = aligned;
    count = ap (λ (ys : List ℕ). length ys) privates_are ∙ mapped (λ name. short (place_of_name 0 symbols name)) x.plan.privates;
    homes = g.homes;
    own = g.own;
    only = g.only;
    free = λ i h. never_fixed (record { name = get_or x.plan.privates i []; place = 0 }) (private_assigned i h);
    joins = ap (λ (y : machine.Loop). cell_at (slice_get code.variables y.variable) 0) entry ∙ scalar_cell x.loop.head.variable (g.place).variable g.variable_scalar;
    known = λ index opened. block_is symbols x.loop x.loop.line x.plan.privates x.plan.body g.place g.unassigned index opened g.assigned g.first x.plan.body g.calm g.references;
  }

  keys : (names : List (List ℕ)) (ys : List ℕ) (ps : List (Option ℤ)) (c : Cell) → Aligned code names ys → IsKey c (defined_cells code ys ps) → (i : ℕ) × (i < length names) × (c ≡ record { name = get_or names i []; place = 0 })
  keys [] [] ps c a k = absurd k
  keys [] (y ∷ ys) ps c a k = absurd a
  keys (m ∷ names) [] ps c a k = absurd a
  keys (m ∷ names) (y ∷ ys) [] c a k = absurd k
  keys (m ∷ names) (y ∷ ys) (None ∷ qs) c a k = let h = keys names ys qs c a.1 k in (suc h.0, omega (arith, h.1), h.2)
  keys (m ∷ names) (y ∷ ys) (Some v ∷ qs) c a k = ⊎_elim (λ e. (0, omega arith, sym e)) (λ q. let h = keys names ys qs c a.1 q in (suc h.0, omega (arith, h.1), h.2)) (subst (λ (o : Option Cell). IsKey c (stored_if o v (defined_cells code ys qs))) a.0 k)

  pub all_keys : (ps : List (Option ℤ)) (c : Cell) → IsKey c (defined_cells code (loop_at code n).privates ps) → (i : ℕ) × (i < length x.plan.privates) × (c ≡ record { name = get_or x.plan.privates i []; place = 0 })
  all_keys ps c k = keys x.plan.privates (loop_at code n).privates ps c aligned k

  pub not_given : (e : Ending) (u v : List Token) (r : Ref) (es : Terms) (m : ℕ) → StandsIn x.loop r es → PlanPaths x.plan.body e (u ++ defines r ∷ v) → fixed_in symbols x.loop (record { name = r.name; place = m }) ≡ true → ⊥
  not_given e u v r es m st p f =
      let k = and_parts (is_scalar (dimensions_in symbols r.name)) (not (is_assigned x.loop r.name)) f in
      let o = g.shown e u v r p in
      let a = g.assigned r es st o.0 o.1 o.2 o.3 (scalar_dims (dimensions_in symbols r.name) k.0) in
      let z : not true ≡ true = ap not (sym a) ∙ k.1 in cc
    where
      scalar_dims : (ds : List Extent) → is_scalar ds ≡ true → ds ≡ []
      scalar_dims [] e = refl
      scalar_dims (d ∷ ds) e = cc

  pub not_private : (c : Cell) → (i : ℕ) × (i < length x.plan.privates) × (c ≡ record { name = get_or x.plan.privates i []; place = 0 }) → fixed_in symbols x.loop c ≡ true → ⊥
  not_private c h f =
      let a = never_fixed (record { name = get_or x.plan.privates h.0 []; place = 0 }) (private_assigned h.0 h.1) in
      let z : true ≡ false = sym f ∙ ap (fixed_in symbols x.loop) h.2 ∙ a in cc
