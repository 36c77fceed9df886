-- A good plan gives what the proofs of the iterations ask for.
use Rattle.std.proofs.Common.{◌≡◌, ◌∙◌, ◌+◌, ◌<◌, ◌≤◌, ◌⊎◌, inl, inr, ℕ, zero, suc, ℤ, pos, ◌+ℤ◌, ◌*ℤ◌, Bool, true, false, List, [], ◌∷◌, ◌++◌, Option, Some, None, get_or, length, if◌then◌else◌, Ok, refl, sym, ap, subst, ⊎_elim, arith, append_assoc}
use Rattle.std.proofs.lemmas.Bool.{or_left, or_right}
use Rattle.ast.specs.Store.{same_name}
use Rattle.ast.specs.Symbols.{Extent, place_of}
use Rattle.ast.specs.Tree.{Ref, Terms, no_terms, then_term}
use Rattle.dependence.specs.Meets.{Meets as MayMeet, MayAgree, IsStep, IsWithin}
use Rattle.dependence.specs.Plan.{PlanPaths, PlanTree}
use Rattle.loop_tree.specs.Loops.{Loop}
use Rattle.loop_tree.specs.Occurrences.{Occurrence}
use Rattle.loop_tree.specs.Paths.{Token, uses, defines, await, advance, Ending}
use Rattle.subscripts.specs.Values.{AllMayBe, MayBe}
use Rattle.plan_check.proofs.Members.{In, among, contained}
use Rattle.plan_check.proofs.Naming.{named_on}
use Rattle.plan_check.specs.GoodPlan.{GoodPlan, IsPrivate, Together, Names, named, token_of}
use Rattle.ast.specs.Store.{StoreOf}
use Rattle.ast.proofs.SameNames.{same_itself}
use Rattle.machine.specs.Code.{Cell}
use Rattle.expr_code.specs.Places.{Places, loop_index, in_store, dimensions_at, home, is_loop_name, number_in, private_or_stored}
use Rattle.codegen.proofs.GoodPaths.{GoodPaths, AtIn, Begins, Meets}

-- values of subscripts that are equal
agree : (l : Loop) (held : ℕ → ℤ) (i j : ℤ) (es fs : Terms) (vs ws : List ℤ) → AllMayBe l held i es vs → AllMayBe l held j fs ws → vs ≡ ws → MayAgree l held i j es fs
agree l held i j no_terms no_terms vs ws a b e = tt
agree l held i j no_terms (then_term f fs) vs ws a b e = let x = b.2 in cc
agree l held i j (then_term g es) no_terms vs ws a b e = let x = a.2 in cc
agree l held i j (then_term g es) (then_term f fs) vs ws a b e =
    let both : ◌≡◌ {A = List ℤ} (a.0 ∷ a.1) (b.0 ∷ b.1) = sym a.2 ∙ e ∙ b.2 in
    let head : a.0 ≡ b.0 = ap (λ (xs : List ℤ). get_or xs 0 a.0) both in
    let tail : a.1 ≡ b.1 = ap (λ (xs : List ℤ). rest xs) both in
    (a.0, a.3, subst (λ (v : ℤ). MayBe l held j f v) (sym head) b.3, agree l held i j es fs a.1 b.1 a.4 b.4 tail)
  where
    rest : List ℤ → List ℤ
    rest [] = []
    rest (x ∷ xs) = xs

-- a name has a number among names
numbered_in : (n : ℕ) (name : List ℕ) (xs : List (List ℕ)) → In name xs → number_in n name xs ≡ None → ⊥
numbered_in n name [] i e = i
numbered_in n name (x ∷ xs) (inl z) e = let h : same_name x name ≡ true = subst (λ (y : List ℕ). same_name y name ≡ true) z (same_itself name) in none (ap (λ (b : Bool). if b then Some n else number_in (n + 1) name xs) (sym h) ∙ e)
  where
    none : Some n ≡ None → ⊥
    none q = cc
numbered_in n name (x ∷ xs) (inr i) e = by (same_name x name) (numbered_in (n + 1) name xs i) e
  where
    by : (b : Bool) → (number_in (n + 1) name xs ≡ None → ⊥) → (if b then Some n else number_in (n + 1) name xs) ≡ None → ⊥
    by true more q = cc
    by false more q = more q

-- the home of a private scalar isn't the store
pub not_stored : (p : Places) (name : List ℕ) → In name p.privates → home p [] name ≡ in_store → ⊥
not_stored p name i e = by (is_loop_name p.loop_name name) e
  where
    stored : (o : Option ℕ) → number_in 0 name p.privates ≡ o → private_or_stored o ≡ in_store → ⊥
    stored None q z = numbered_in 0 name p.privates i q
    stored (Some x) q z = cc

    by : (b : Bool) → (if b then loop_index else private_or_stored (number_in 0 name p.privates)) ≡ in_store → ⊥
    by true q = cc
    by false q = stored (number_in 0 name p.privates) refl q

pub get_in : (xs : List (List ℕ)) (x : ℕ) → x < length xs → In (get_or xs x []) xs
get_in [] x h = absurd (omega (arith, h))
get_in (y ∷ ys) zero h = inl refl
get_in (y ∷ ys) (suc x) h = inr (get_in ys x (omega (arith, h)))

-- The premises: what compile knows of the loop, of its places and of its opening.
module _ (l : Loop) (p : PlanTree) (held : ℕ → ℤ) (first step : ℤ) (index : ℕ → ℤ) (Stands : Ref → Terms → Type 0) (pl : Places) (fixed : Cell → Bool) (opened : StoreOf) (total : ℕ)
    (good : GoodPlan l p)
    (shown : (u v : List Token) (x : Token) (e : Ending) → PlanPaths p.body e (u ++ x ∷ v) → (r : Ref) → (x ≡ uses r) ⊎ (x ≡ defines r) → (o : Occurrence) × In o l.references × (o.ref ≡ r) × (token_of o ≡ x))
    (privates : pl.privates ≡ p.privates)
    (loop_name : pl.loop_name ≡ Some l.head.variable.name)
    -- the subscripts that a reference stands with are those of its occurrence
    (subs : (r : Ref) (es : Terms) (o : Occurrence) → Stands r es → In o l.references → o.ref ≡ r → o.subscripts ≡ es)
    -- as many as its name has dimensions; a name has the same dimensions everywhere
    (same_dimensions : (r s : Ref) (es fs : Terms) → Stands r es → Stands s fs → r.name ≡ s.name → dimensions_at pl.symbols r.cell ≡ dimensions_at pl.symbols s.cell)
    (counted : (r : Ref) (es : Terms) (vs : List ℤ) (k : ℕ) → Stands r es → AllMayBe l held (index k) es vs → length vs ≡ length (dimensions_at pl.symbols r.cell))
    (scalar : (s r : Ref) (es : Terms) → In s l.assigned → Stands r es → r.name ≡ s.name → dimensions_at pl.symbols r.cell ≡ [])
    (variable : (r : Ref) (es : Terms) → Stands r es → r.name ≡ l.head.variable.name → dimensions_at pl.symbols r.cell ≡ [])
    (injective : (ds : List Extent) (xs ys : List ℤ) (n : ℕ) → length xs ≡ length ds → length ys ≡ length ds → place_of ds xs ≡ Ok n → place_of ds ys ≡ Ok n → xs ≡ ys)
    (at_index : (k : ℕ) → index k ≡ first +ℤ (pos k *ℤ step))
    (is_step : IsStep l.step step)
    (within : (j : ℕ) → j < total → IsWithin l.trips j)
  where
    abbrev NamedEvent : ℕ → Type 0
    NamedEvent e = (d : ℕ) × Names p e d

    abbrev Here : List Token → Type 0
    Here u = Begins l held index Stands pl fixed opened (PlanPaths p.body) total NamedEvent u

    abbrev AtHere : ℕ → Ref → Cell → Type 0
    AtHere k r c = AtIn l held index Stands pl fixed opened (PlanPaths p.body) total NamedEvent k r c

    abbrev MeetsHere : ℕ → Token → Cell → Type 0
    MeetsHere k a c = Meets l held index Stands pl fixed opened (PlanPaths p.body) total NamedEvent k a c

    split : (u : List Token) (x : Token) → Here (u ++ x ∷ []) → (e : Ending) × (v : List Token) × PlanPaths p.body e (u ++ x ∷ v)
    split u x b = (b.0, b.1, subst (λ (t : List Token). PlanPaths p.body b.0 t) (append_assoc u (x ∷ []) b.1) b.2)

    far : (u : List Token) (e d : ℕ) → Here (u ++ await e d ∷ []) → (1 ≤ d) × NamedEvent e
    far u e d b =
        let s = split u (await e d) b in
        let n = named_on p.body s.0 u s.1 (await e d) s.2 in
        let c = contained (e, d) (named p.body) n in
        ((good.events e d c).2, (d, c))

    occurrence : (k : ℕ) (a : Token) (c : Cell) (m : MeetsHere k a c) → (u : List Token) → Here (u ++ a ∷ []) → (o : Occurrence) × In o l.references × (o.ref ≡ m.0) × (token_of o ≡ a)
    occurrence k a c m u b = let s = split u a b in shown u s.1 a s.0 s.2 m.0 m.2

    -- the name of what is in the store is neither private nor the loop's variable
    stored : (k : ℕ) (r : Ref) (c : Cell) → AtHere k r c → IsPrivate p r.name → ⊥
    stored k r c a i =
        let s = good.scalars r.name i in
        let d = scalar s.0 r a.1 (among s.0 l.assigned s.1) a.3.1 (sym s.2) in
        not_stored pl r.name (subst (λ (ns : List (List ℕ)). In r.name ns) (sym privates) (among r.name p.privates i)) (subst (λ (ds : List Extent). home pl ds r.name ≡ in_store) d a.0)

    not_variable : (k : ℕ) (r : Ref) (c : Cell) → AtHere k r c → r.name ≡ l.head.variable.name → ⊥
    not_variable k r c a e =
        let d = variable r a.1 a.3.1 e in
        let h = subst (λ (ds : List Extent). home pl ds r.name ≡ in_store) d a.0 in
        let yes : is_loop_name pl.loop_name r.name ≡ true = ap (λ (o : Option (List ℕ)). is_loop_name o r.name) loop_name ∙ subst (λ (x : List ℕ). same_name x r.name ≡ true) e (same_itself r.name) in
        index_home (is_loop_name pl.loop_name r.name) yes h
      where
        index_home : (b : Bool) → b ≡ true → (if b then loop_index else private_or_stored (number_in 0 r.name pl.privates)) ≡ in_store → ⊥
        index_home true q z = cc
        index_home false q z = cc

    same_cell : (k j : ℕ) (r s : Ref) (c : Cell) (x : AtHere k r c) (y : AtHere j s c) → (r.name ≡ s.name) × (x.2 ≡ y.2)
    same_cell k j r s c x y =
        let e : ◌≡◌ {A = Cell} (record { name = r.name; place = x.2 }) (record { name = s.name; place = y.2 }) = sym x.4 ∙ y.4 in
        (ap (λ (z : Cell). z.name) e, ap (λ (z : Cell). z.place) e)

    meets : (k j : ℕ) (r s : Ref) (c : Cell) (oa ob : Occurrence) → In oa l.references → In ob l.references → oa.ref ≡ r → ob.ref ≡ s → AtHere k r c → AtHere j s c → MayMeet l oa ob k j
    meets k j r s c oa ob i m ra rb x y =
        let same = same_cell k j r s c x y in
        let ds = dimensions_at pl.symbols r.cell in
        let d = same_dimensions r s x.1 y.1 x.3.1 y.3.1 same.0 in
        let vs = x.3.0 in
        let ws = y.3.0 in
        let at_w : place_of ds ws ≡ Ok x.2 = ap (λ (es : List Extent). place_of es ws) d ∙ y.3.3 ∙ ap (λ (n : ℕ). Ok n) (sym same.1) in
        let equal : vs ≡ ws = injective ds vs ws x.2 (counted r x.1 vs k x.3.1 x.3.2) (counted s y.1 ws j y.3.1 y.3.2 ∙ ap (λ (es : List Extent). length es) (sym d)) x.3.3 at_w in
        record {
          first = first;
          step = step;
          held = held;
          name = ap (λ (q : Ref). q.name) ra ∙ same.0 ∙ ap (λ (q : Ref). q.name) (sym rb);
          is_step = is_step;
          agree = agree l held (first +ℤ (pos k *ℤ step)) (first +ℤ (pos j *ℤ step)) oa.subscripts ob.subscripts vs ws
              (taken k r oa i ra x.1 vs x.3.1 x.3.2) (taken j s ob m rb y.1 ws y.3.1 y.3.2) equal;
        }
      where
        taken : (n : ℕ) (q : Ref) (o : Occurrence) → In o l.references → o.ref ≡ q → (es : Terms) (us : List ℤ) → Stands q es → AllMayBe l held (index n) es us → AllMayBe l held (first +ℤ (pos n *ℤ step)) o.subscripts us
        taken n q o i e es us st h = subst (λ (z : ℤ). AllMayBe l held z o.subscripts us) (at_index n) (subst (λ (fs : Terms). AllMayBe l held (index n) fs us) (sym (subs q es o st i e)) h)

    defining : (a : Token) (o : Occurrence) → token_of o ≡ a → (r : Ref) → a ≡ defines r → o.defines ≡ true
    defining a o e r d = by o.defines (e ∙ d)
      where
        by : (b : Bool) → (if b then defines o.ref else uses o.ref) ≡ defines r → b ≡ true
        by true q = refl
        by false q = cc

    kept : (k j : ℕ) (a b : Token) (c : Cell) → k < j → j < total → MeetsHere k a c → MeetsHere j b c → (u : List Token) × Here (u ++ a ∷ []) → (u : List Token) × Here (u ++ b ∷ []) → ((r : Ref) × (a ≡ defines r)) ⊎ ((r : Ref) × (b ≡ defines r))
        → (e : ℕ) × ((u : List Token) → Here (u ++ a ∷ []) → In (advance e) u → ⊥) × ((u : List Token) → Here (u ++ b ∷ []) → (d : ℕ) × (k + d ≤ j) × In (await e d) u)
    kept k j a b c lt below ma mb ua ub d =
        let oa = occurrence k a c ma ua.0 ua.1 in
        let ob = occurrence j b c mb ub.0 ub.1 in
        let m = meets k j ma.0 mb.0 c oa.0 ob.0 oa.1 ob.1 oa.2 ob.2 ma.1 mb.1 in
        let name = ap (λ (q : Ref). q.name) oa.2 in
        let t : Together l p oa.0 ob.0 = record {
          a_in = contained oa.0 l.references oa.1;
          b_in = contained ob.0 l.references ob.1;
          name = m.name;
          shared = λ i. stored k ma.0 c ma.1 (subst (λ (n : List ℕ). IsPrivate p n) name i);
          other = λ e. not_variable k ma.0 c ma.1 (sym name ∙ e);
          defining = ⊎_elim (λ x. or_left oa.0.defines ob.0.defines (defining a oa.0 oa.3 x.0 x.1)) (λ x. or_right oa.0.defines ob.0.defines (defining b ob.0 ob.3 x.0 x.1)) d;
        } in
        let g = good.kept oa.0 ob.0 k j t lt (within j below) m in (
          g.0,
          (λ u h i. g.1.source u (subst (λ (x : Token). Here (u ++ x ∷ [])) (sym oa.3) h) (contained (advance g.0) u i)),
          (λ u h. let z = g.1.sink u (subst (λ (x : Token). Here (u ++ x ∷ [])) (sym ob.3) h) in (z.0, z.1, among (await g.0 z.0) u z.2)),
        )

    pub good_paths : GoodPaths l held index Stands pl fixed opened (PlanPaths p.body) total NamedEvent
    good_paths = record {
      once = λ u e b i. good.once u e b (contained (advance e) u i);
      before = λ u e b. among (await e 1) u (good.behind u e b);
      each = λ t e n s. among (advance e) t (good.each t e n.0 n.1 s);
      far = λ u e d b. far u e d b;
      kept = λ k j a b c lt below ma mb ua ub d. kept k j a b c lt below ma mb ua ub d;
      apart = λ k r c a h. stored k r c a
          (subst (λ (n : List ℕ). IsPrivate p n) (sym (ap (λ (z : Cell). z.name) (sym a.4 ∙ h.2))) (contained (get_or pl.privates h.0 []) p.privates (subst (λ (ns : List (List ℕ)). In (get_or pl.privates h.0 []) ns) privates (get_in pl.privates h.0 h.1))));
    }
