-- What the check accepts is a good plan.
use Rattle.std.proofs.Common.{◌≡◌, ◌∙◌, ◌⊎◌, inl, inr, ◌+◌, ◌<◌, ◌≤◌, ℕ, zero, suc, ℤ, pos, Bool, true, false, not, ◌&&◌, ◌||◌, List, [], ◌∷◌, ◌++◌, Option, Some, None, get_or, replicate, refl, sym, ap, subst, arith, append_assoc, map, if◌then◌else◌}
use Rattle.std.specs.Prelude.{◌==◌, nat_le}
use Rattle.std.specs.List.{list_all, list_any}
use Rattle.std.specs.Ordering.{int_eq}
use Rattle.std.proofs.lemmas.Cmp.{nat_list_eq_equiv}
use Rattle.std.proofs.lemmas.Bool.{and_from, and_parts, eqb-true, leb-true, eq-eqb, not-true}
use Rattle.ast.specs.References.{are_numbered}
use Rattle.ast.specs.Store.{same_name}
use Rattle.ast.specs.Tree.{Ref}
use Rattle.ast.proofs.SameNames.{same_is}
use Rattle.ast.proofs.Bools.{not_from_never}
use Rattle.dependence.specs.Kept.{IsNonzero, block_reads, block_variables, most_events}
use Rattle.dependence.specs.Meets.{Meets, IsWithin, Promises}
use Rattle.dependence.specs.Plan.{PlanPaths, PlanTree}
use Rattle.dependence.specs.Tests.{is_verified}
use Rattle.dependence.proofs.Promise.{promised}
use Rattle.dependence.specs.declared.relation.Relation.{Relation}
use Rattle.dependence.specs.declared.relation.Relation.TheVariants.{Apart, Distance, Any}
use Rattle.loop_tree.specs.Loops.{Loop}
use Rattle.loop_tree.specs.Occurrences.{Occurrence}
use Rattle.loop_tree.specs.Paths.{Token, uses, defines, await, advance, at_end}
use Rattle.loop_tree.specs.Told.{are_in_turn, are_told, is_told, iff, known, references}
use Rattle.plan_check.specs.Checking.{are_once, reference_tokens, tokens_of, Checked, Entry, at_references, claim_of, distance_of, each_pair, entries, entries_of, first, has_name, has_named, is_held, is_held_if, is_in_order, is_late, is_looked_at, is_proper, is_step, is_true_claim}
use Rattle.plan_check.proofs.Facts.{Below, Fact, defined, near, free, advanced, run, runs}
use Rattle.plan_check.specs.Flow.{Known, Point, after_block, block_points, has_advanced, has_awaited, is_defined, is_free, is_near, outside}
use Rattle.plan_check.specs.GoodPlan.{Begins, GoodPlan, IsPrivate, Keeps, Names, Together, named, token_of}
use Rattle.plan_check.proofs.Tokens.{IsReference}
use Rattle.plan_check.proofs.Naming.{Of, named_on}
use Rattle.plan_check.proofs.Flowing.{Stood, flows_block}
use Rattle.plan_check.proofs.Members.{In, among, contained, in_right, all_in}

-- ---- Bools over lists

pub any_in : {A : Type 0} (f : A → Bool) (xs : List A) → list_any f xs ≡ true → (x : A) × In x xs × (f x ≡ true)
any_in f [] h = cc
any_in {A} f (y ∷ ys) h = by (f y) refl (λ g. any_in f ys g) h
  where
    by : (b : Bool) → f y ≡ b → (list_any f ys ≡ true → (x : A) × In x ys × (f x ≡ true)) → (b || list_any f ys) ≡ true → (x : A) × In x (y ∷ ys) × (f x ≡ true)
    by true e more g = (y, inl refl, e)
    by false e more g = let k = more g in (k.0, inr k.1, k.2)

pub in_any : {A : Type 0} (f : A → Bool) (xs : List A) (x : A) → In x xs → f x ≡ true → list_any f xs ≡ true
in_any f [] x i e = absurd i
in_any f (y ∷ ys) x (inl q) e = ap (λ (b : Bool). b || list_any f ys) (sym (ap f q) ∙ e)
in_any f (y ∷ ys) x (inr i) e = by (f y) (in_any f ys x i e)
  where
    by : (b : Bool) → list_any f ys ≡ true → (b || list_any f ys) ≡ true
    by true g = refl
    by false g = g

-- where the first holds, the other does
implied : (a b : Bool) → (not a || b) ≡ true → a ≡ true → b ≡ true
implied true b h e = h
implied false b h e = cc

pub is_same : (x y : List ℕ) → x ≡ y → same_name x y ≡ true
is_same x y e = subst (λ (z : List ℕ). same_name x z ≡ true) e (nat_list_eq_equiv.refl x)

has_private : (p : PlanTree) (name : List ℕ) → IsPrivate p name → has_name p.privates name ≡ true
has_private p name i = in_any (λ (n : List ℕ). same_name n name) p.privates name (among name p.privates i) (is_same name name refl)

is_private : (p : PlanTree) (name : List ℕ) → has_name p.privates name ≡ true → IsPrivate p name
is_private p name h = let k = any_in (λ (n : List ℕ). same_name n name) p.privates h in contained name p.privates (subst (λ (n : List ℕ). In n p.privates) (same_is k.0 name k.2) k.1)

-- ---- facts of a path, in the words of its tokens

on_true : (f : Fact) (t : List Token) (b : Bool) → b ≡ true → run f t true ≡ true → run f t b ≡ true
on_true f t b e h = subst (λ (c : Bool). run f t c ≡ true) (sym e) h

module _ (c : ℕ) where
  pub defined_by : (t : List Token) → run (defined c) t false ≡ true → (q : Ref) × (q.cell ≡ c) × In (defines q) t
  defined_by [] h = cc
  defined_by (uses r ∷ t) h = let k = defined_by t h in (k.0, k.1, inr k.2)
  defined_by (defines r ∷ t) h = by (r.cell == c) refl (λ g. defined_by t g) h
    where
      by : (b : Bool) → (r.cell == c) ≡ b → (run (defined c) t false ≡ true → (q : Ref) × (q.cell ≡ c) × In (defines q) t) → run (defined c) t (b || false) ≡ true → (q : Ref) × (q.cell ≡ c) × In (defines q) (defines r ∷ t)
      by true e more g = (r, eqb-true r.cell c e, inl refl)
      by false e more g = let k = more g in (k.0, k.1, inr k.2)
  defined_by (await n d ∷ t) h = let k = defined_by t h in (k.0, k.1, inr k.2)
  defined_by (advance n ∷ t) h = let k = defined_by t h in (k.0, k.1, inr k.2)

module _ (e : ℕ) where
  pub awaited_by : (m : ℕ) (t : List Token) → run (near e m) t false ≡ true → (d : ℕ) × (d ≤ m) × In (await e d) t
  awaited_by m [] h = cc
  awaited_by m (uses r ∷ t) h = let k = awaited_by m t h in (k.0, k.1, inr k.2)
  awaited_by m (defines r ∷ t) h = let k = awaited_by m t h in (k.0, k.1, inr k.2)
  awaited_by m (advance n ∷ t) h = let k = awaited_by m t h in (k.0, k.1, inr k.2)
  awaited_by m (await n d ∷ t) h = by ((n == e) && nat_le d m) refl (λ g. awaited_by m t g) h
    where
      by : (b : Bool) → ((n == e) && nat_le d m) ≡ b → (run (near e m) t false ≡ true → (x : ℕ) × (x ≤ m) × In (await e x) t) → run (near e m) t (b || false) ≡ true → (x : ℕ) × (x ≤ m) × In (await e x) (await n d ∷ t)
      by true q more g =
          let k = and_parts (n == e) (nat_le d m) q in
          (d, leb-true d m k.1, inl (ap (λ (x : ℕ). await x d) (sym (eqb-true n e k.0))))
      by false q more g = let k = more g in (k.0, k.1, inr k.2)

  off : (t : List Token) → run (free e) t false ≡ true → ⊥
  off [] h = cc
  off (uses r ∷ t) h = off t h
  off (defines r ∷ t) h = off t h
  off (await n d ∷ t) h = off t h
  off (advance n ∷ t) h = off t (subst (λ (b : Bool). run (free e) t b ≡ true) (and_off (not (n == e))) h)
    where
      and_off : (b : Bool) → (b && false) ≡ false
      and_off true = refl
      and_off false = refl

  token_event : ℕ → Token → ℕ
  token_event k (advance n) = n
  token_event k _ = k

  pub free_of : (t : List Token) → run (free e) t true ≡ true → In (advance e) t → ⊥
  unfolding token_event
  free_of [] h i = i
  free_of (uses r ∷ t) h (inl q) = cc
  free_of (uses r ∷ t) h (inr i) = free_of t h i
  free_of (defines r ∷ t) h (inl q) = cc
  free_of (defines r ∷ t) h (inr i) = free_of t h i
  free_of (await n d ∷ t) h (inl q) = cc
  free_of (await n d ∷ t) h (inr i) = free_of t h i
  free_of (advance n ∷ t) h (inl q) =
      let same : n ≡ e = sym (ap (λ (x : Token). token_event n x) q) in
      off t (subst (λ (b : Bool). run (free e) t (not b && true) ≡ true) (eq-eqb n e same) h)
  free_of (advance n ∷ t) h (inr i) = by (n == e) (λ g. free_of t g i) h
    where
      by : (b : Bool) → (run (free e) t true ≡ true → ⊥) → run (free e) t (not b && true) ≡ true → ⊥
      by true more g = off t g
      by false more g = more g

  pub advanced_by : (t : List Token) → run (advanced e) t false ≡ true → In (advance e) t
  advanced_by [] h = cc
  advanced_by (uses r ∷ t) h = inr (advanced_by t h)
  advanced_by (defines r ∷ t) h = inr (advanced_by t h)
  advanced_by (await n d ∷ t) h = inr (advanced_by t h)
  advanced_by (advance n ∷ t) h = by (n == e) refl (λ g. advanced_by t g) h
    where
      by : (b : Bool) → (n == e) ≡ b → (run (advanced e) t false ≡ true → In (advance e) t) → run (advanced e) t (b || false) ≡ true → In (advance e) (advance n ∷ t)
      by true q more g = inl (ap (λ (x : ℕ). advance x) (sym (eqb-true n e q)))
      by false q more g = inr (more g)

-- ---- the beginning

began : Fact → Bool
began (free e) = true
began _ = false

get_false : (n k : ℕ) → get_or (replicate n false) k false ≡ true → ⊥
get_false zero k h = cc
get_false (suc n) zero h = cc
get_false (suc n) (suc k) h = get_false n k h

get_none : (n k m : ℕ) → is_near (get_or (replicate n None) k None) m ≡ true → ⊥
get_none zero k m h = cc
get_none (suc n) zero m h = cc
get_none (suc n) (suc k) m h = get_none n k m h

first_below : (cells : ℕ) → Below (first cells) began
unfolding began
first_below cells (defined c) h = absurd (get_false cells c h)
first_below cells (near e d) h = absurd (get_none (most_events + 1) e d h)
first_below cells (free e) h = refl
first_below cells (advanced e) h = absurd (get_false (most_events + 1) e h)

-- ---- entries

known_of : Point → Known
known_of x = x.1

cut : (x : Token) (o : Occurrence) (t u : List Token) → token_of o ∷ t ≡ x ∷ u → (token_of o ≡ x) × (t ≡ u)
cut x o t u e = (ap (λ (w : List Token). front w) e, ap (λ (w : List Token). rest w) e)
  where
    front : List Token → Token
    front [] = x
    front (y ∷ ys) = y

    rest : List Token → List Token
    rest [] = []
    rest (y ∷ ys) = ys

abbrev Found : List Occurrence → List Point → Token → Known → Type 0
Found os ps x s = (o : Occurrence) × In (o, s) (entries os (at_references ps)) × (token_of o ≡ x)

-- a point of a reference is that of one of these
pub at_point : (os : List Occurrence) (ps : List Point) (x : Token) (s : Known) → tokens_of os ≡ reference_tokens ps → IsReference x → In (x, s) ps → Found os ps x s
at_point os [] x s e r i = absurd i
at_point [] ((uses q, k) ∷ ps) x s e r i = cc
at_point [] ((defines q, k) ∷ ps) x s e r i = cc
at_point (o ∷ os) ((uses q, k) ∷ ps) x s e r (inl z) =
    let c = cut (uses q) o (tokens_of os) (reference_tokens ps) e in
    (o, inl (ap (λ (y : Point). (o, y.1)) z), c.0 ∙ sym (ap (λ (y : Point). y.0) z))
at_point (o ∷ os) ((uses q, k) ∷ ps) x s e r (inr i) =
    let f = at_point os ps x s (cut (uses q) o (tokens_of os) (reference_tokens ps) e).1 r i in
    (f.0, inr f.1, f.2)
at_point (o ∷ os) ((defines q, k) ∷ ps) x s e r (inl z) =
    let c = cut (defines q) o (tokens_of os) (reference_tokens ps) e in
    (o, inl (ap (λ (y : Point). (o, y.1)) z), c.0 ∙ sym (ap (λ (y : Point). y.0) z))
at_point (o ∷ os) ((defines q, k) ∷ ps) x s e r (inr i) =
    let f = at_point os ps x s (cut (defines q) o (tokens_of os) (reference_tokens ps) e).1 r i in
    (f.0, inr f.1, f.2)
at_point os ((await n d, k) ∷ ps) x s e r (inl z) = absurd (subst IsReference (ap (λ (y : Point). y.0) z) r)
at_point os ((await n d, k) ∷ ps) x s e r (inr i) = at_point os ps x s e r i
at_point os ((advance n, k) ∷ ps) x s e r (inl z) = absurd (subst IsReference (ap (λ (y : Point). y.0) z) r)
at_point os ((advance n, k) ∷ ps) x s e r (inr i) = at_point os ps x s e r i

-- each reference has an entry
pub has_entry : (os : List Occurrence) (ps : List Point) (o : Occurrence) → tokens_of os ≡ reference_tokens ps → In o os → (s : Known) × In (o, s) (entries os (at_references ps))
has_entry [] ps o e i = absurd i
has_entry (a ∷ os) [] o e i = cc
has_entry (a ∷ os) ((uses q, k) ∷ ps) o e (inl z) = (k, inl (ap (λ (y : Occurrence). (y, k)) z))
has_entry (a ∷ os) ((uses q, k) ∷ ps) o e (inr i) = let f = has_entry os ps o (cut (uses q) a (tokens_of os) (reference_tokens ps) e).1 i in (f.0, inr f.1)
has_entry (a ∷ os) ((defines q, k) ∷ ps) o e (inl z) = (k, inl (ap (λ (y : Occurrence). (y, k)) z))
has_entry (a ∷ os) ((defines q, k) ∷ ps) o e (inr i) = let f = has_entry os ps o (cut (defines q) a (tokens_of os) (reference_tokens ps) e).1 i in (f.0, inr f.1)
has_entry (a ∷ os) ((await n d, k) ∷ ps) o e i = has_entry (a ∷ os) ps o e i
has_entry (a ∷ os) ((advance n, k) ∷ ps) o e i = has_entry (a ∷ os) ps o e i

pub in_entries : (os : List Occurrence) (ks : List Known) (o : Occurrence) (s : Known) → In (o, s) (entries os ks) → In o os
in_entries [] ks o s i = absurd i
in_entries (a ∷ os) [] o s i = absurd i
in_entries (a ∷ os) (k ∷ ks) o s (inl z) = inl (ap (λ (y : Entry). y.0) z)
in_entries (a ∷ os) (k ∷ ks) o s (inr i) = inr (in_entries os ks o s i)

-- references are numbered one after another, so a number has one
pub least : (n : ℕ) (os : List Occurrence) (o : Occurrence) → are_numbered n (references os) ≡ true → In o os → n ≤ o.ref.id
least n [] o h i = absurd i
least n (a ∷ os) o h (inl z) =
    let k = eqb-true a.ref.id n (and_parts (a.ref.id == n) (are_numbered (n + 1) (references os)) h).0 in
    let e : o.ref.id ≡ n = ap (λ (x : Occurrence). x.ref.id) z ∙ k in
    omega (arith, e)
least n (a ∷ os) o h (inr i) = let k = least (n + 1) os o (and_parts (a.ref.id == n) (are_numbered (n + 1) (references os)) h).1 i in omega (arith, k)

one_from : (n : ℕ) (os : List Occurrence) (ks : List Known) (a b : Occurrence) (s t : Known) → are_numbered n (references os) ≡ true → a.ref.id ≡ b.ref.id → In (a, s) (entries os ks) → In (b, t) (entries os ks) → ◌≡◌ {A = Entry} (a, s) (b, t)
one_from n [] ks a b s t h e i j = absurd i
one_from n (o ∷ os) [] a b s t h e i j = absurd i
one_from n (o ∷ os) (k ∷ ks) a b s t h e (inl x) (inl y) = x ∙ sym y
one_from n (o ∷ os) (k ∷ ks) a b s t h e (inl x) (inr j) =
    let g = and_parts (o.ref.id == n) (are_numbered (n + 1) (references os)) h in
    let at : a.ref.id ≡ n = ap (λ (z : Entry). z.0.ref.id) x ∙ eqb-true o.ref.id n g.0 in
    let l = least (n + 1) os b g.1 (in_entries os ks b t j) in
    absurd (omega (arith, at, l, e))
one_from n (o ∷ os) (k ∷ ks) a b s t h e (inr i) (inl y) =
    let g = and_parts (o.ref.id == n) (are_numbered (n + 1) (references os)) h in
    let at : b.ref.id ≡ n = ap (λ (z : Entry). z.0.ref.id) y ∙ eqb-true o.ref.id n g.0 in
    let l = least (n + 1) os a g.1 (in_entries os ks a s i) in
    absurd (omega (arith, at, l, e))
one_from n (o ∷ os) (k ∷ ks) a b s t h e (inr i) (inr j) = one_from (n + 1) os ks a b s t (and_parts (o.ref.id == n) (are_numbered (n + 1) (references os)) h).1 e i j

pub one_entry : (os : List Occurrence) (ks : List Known) (a b : Occurrence) (s t : Known) → are_in_turn (references os) ≡ true → a.ref.id ≡ b.ref.id → In (a, s) (entries os ks) → In (b, t) (entries os ks) → ◌≡◌ {A = Entry} (a, s) (b, t)
one_entry [] ks a b s t h e i j = absurd i
one_entry (o ∷ os) ks a b s t h e i j = one_from o.ref.id (o ∷ os) ks a b s t h e i j

-- ---- the law

abbrev LookedAt : Loop → PlanTree → Occurrence → Occurrence → Type 0
LookedAt l p a b = is_looked_at l p a b ≡ true

looked_at : (l : Loop) (p : PlanTree) (a b : Occurrence) → Together l p a b → LookedAt l p a b
looked_at l p a b t =
    and_from (same_name a.ref.name b.ref.name) _ (is_same a.ref.name b.ref.name t.name)
    (and_from (not (same_name a.ref.name l.head.variable.name)) _ (not_from_never (same_name a.ref.name l.head.variable.name) (λ h. t.other (same_is a.ref.name l.head.variable.name h)))
    (and_from (not (has_name p.privates a.ref.name)) _ (not_from_never (has_name p.privates a.ref.name) (λ h. t.shared (is_private p a.ref.name h))) t.defining))

pair_holds : (l : Loop) (p : PlanTree) (es : List Entry) (test : Entry → Entry → Bool) (x y : Entry) → each_pair l p es test ≡ true → In x es → In y es → LookedAt l p x.0 y.0 → test x y ≡ true
pair_holds l p es test x y h i j k =
    let row = all_in (λ (z : Entry). list_all (λ (w : Entry). not (is_looked_at l p z.0 w.0) || test z w) es) es x h i in
    implied (is_looked_at l p x.0 y.0) (test x y) (all_in (λ (w : Entry). not (is_looked_at l p x.0 w.0) || test x w) es y row j) k

pub told_same : (rs : List Ref) (q r : Ref) → are_told rs ≡ true → In q rs → In r rs → q.cell ≡ r.cell → q.name ≡ r.name
told_same rs q r h i j e =
    let row = all_in (λ (x : Ref). list_all (λ (s : Ref). is_told x s) rs) rs q h i in
    let one = all_in (λ (s : Ref). is_told q s) rs r row j in
    same_is q.name r.name (subst (λ (b : Bool). iff b (same_name q.name r.name) ≡ true) (eq-eqb q.cell r.cell e) one)

token_ref : Ref → Token → Ref
token_ref d (uses r) = r
token_ref d (defines r) = r
token_ref d _ = d

token_shows : (d o : Occurrence) → token_ref d.ref (token_of o) ≡ o.ref
unfolding token_ref
token_shows d o = each o.defines
  where
    each : (b : Bool) → token_ref d.ref (if b then defines o.ref else uses o.ref) ≡ o.ref
    each true = refl
    each false = refl

pub ref_of : (o : Occurrence) (r : Ref) → (token_of o ≡ uses r) ⊎ (token_of o ≡ defines r) → o.ref ≡ r
unfolding token_ref
ref_of o r (inl e) = sym (token_shows o o) ∙ ap (λ (x : Token). token_ref o.ref x) e
ref_of o r (inr e) = sym (token_shows o o) ∙ ap (λ (x : Token). token_ref o.ref x) e

is_reference : (o : Occurrence) → IsReference (token_of o)
is_reference o = each o.defines
  where
    each : (d : Bool) → IsReference (if d then defines o.ref else uses o.ref)
    each true = tt
    each false = tt

same_ref : (a o : Occurrence) → token_of o ≡ token_of a → o.ref ≡ a.ref
same_ref a o e = sym (token_shows a o) ∙ ap (λ (x : Token). token_ref a.ref x) e ∙ token_shows a a

pub in_map : {A B : Type 0} (f : A → B) (x : A) (xs : List A) → In x xs → In (f x) (map f xs)
in_map f x [] i = absurd i
in_map f x (y ∷ ys) (inl e) = inl (ap f e)
in_map f x (y ∷ ys) (inr i) = inr (in_map f x ys i)

split_in : (x : Token) (u : List Token) → In x u → (v : List Token) × (w : List Token) × (u ≡ v ++ x ∷ w)
split_in x [] i = absurd i
split_in x (y ∷ u) (inl e) = ([], u, ap (λ (z : Token). z ∷ u) (sym e))
split_in x (y ∷ u) (inr i) = let k = split_in x u i in (y ∷ k.0, k.1, ap (λ (t : List Token). y ∷ t) k.2)

module _ (promised : (l : Loop) (a b : Occurrence) (r : Relation) → is_verified l a b r ≡ true → Promises l a b r) (cells : ℕ) (l : Loop) (p : PlanTree) (turn_by : are_in_turn (references l.references) ≡ true) (told : are_told (known l) ≡ true) (ok : Checked cells l p) where
  abbrev pts : List Point
  pts = block_points p.body (first cells)

  outer : outside p.body ≡ true
  outer = (and_parts (outside p.body) _ ok.ordered).0

  -- where a path begins so, its last token was looked at
  stood : (u : List Token) (x : Token) → Begins p (u ++ x ∷ []) → Stood pts x (runs u began)
  stood u x b = (flows_block p.body outer (first cells)).at began (first_below cells) b.0 ((u ++ x ∷ []) ++ b.1) u b.1 x b.2 (append_assoc u (x ∷ []) b.1)

  begins_front : (u v : List Token) → Begins p (u ++ v) → Begins p u
  begins_front u v b = (b.0, v ++ b.1, subst (λ (t : List Token). PlanPaths p.body b.0 t) (append_assoc u v b.1) b.2)

  -- a token of a reference, on a path, is one of the loop's
  shown : (u : List Token) (x : Token) → IsReference x → Begins p (u ++ x ∷ []) → (o : Occurrence) × In o l.references × (token_of o ≡ x)
  shown u x r b =
      let s = stood u x b in
      let f = at_point l.references pts x s.known ok.is_body.shown r s.at in
      (f.0, in_entries l.references (at_references pts) f.0 s.known f.1, f.2)

  -- ---- conditions 1 and 2

  known_ref : (o : Occurrence) → In o l.references → In o.ref (known l)
  known_ref o i = inr (in_right o.ref l.assigned (references l.references) (in_map (λ (x : Occurrence). x.ref) o l.references i))

  defined_before : (u : List Token) (r : Ref) → IsPrivate p r.name → Begins p (u ++ uses r ∷ []) → (q : Ref) × (q.name ≡ r.name) × In (defines q) u
  unfolding began
  defined_before u r i b =
      let s = stood u (uses r) b in
      let z = all_in (λ (x : Point). is_late p x) pts (uses r, s.known) ok.early s.at in
      let d = implied (has_name p.privates r.name) (is_defined s.known r.cell) z (has_private p r.name i) in
      let k = defined_by r.cell u (s.below (defined r.cell) d) in
      let parts = split_in (defines k.0) u k.2 in
      let front = begins_front (parts.0 ++ defines k.0 ∷ []) (parts.1 ++ uses r ∷ []) (subst (λ (t : List Token). Begins p t) (ap (λ (t : List Token). t ++ uses r ∷ []) parts.2 ∙ append_assoc parts.0 (defines k.0 ∷ parts.1) (uses r ∷ []) ∙ sym (append_assoc parts.0 (defines k.0 ∷ []) (parts.1 ++ uses r ∷ []))) b) in
      let q = shown parts.0 (defines k.0) tt front in
      let o = shown u (uses r) tt b in
      let qr = ref_of q.0 k.0 (inr q.2) in
      let or = ref_of o.0 r (inl o.2) in
      (k.0, told_same (known l) k.0 r told (subst (λ (x : Ref). In x (known l)) qr (known_ref q.0 q.1)) (subst (λ (x : Ref). In x (known l)) or (known_ref o.0 o.1)) k.1, k.2)

  order : (u : List Token) (e : ℕ) → Begins p (u ++ advance e ∷ []) → (In (advance e) u → ⊥) × ((d : ℕ) × (d ≤ 1) × In (await e d) u)
  unfolding began
  order u e b =
      let s = stood u (advance e) b in
      let rest = (and_parts (outside p.body) _ ok.ordered).1 in
      let z = all_in (λ (x : Point). is_in_order x) pts (advance e, s.known) (and_parts (list_all (λ (x : Point). is_in_order x) pts) _ rest).0 s.at in
      let g = and_parts (is_free s.known e) (has_awaited s.known e 1) z in
      (free_of e u (s.below (free e) g.0), awaited_by e 1 u (s.below (near e 1) g.1))

  event_named : (u : List Token) (x : Token) → Begins p (u ++ x ∷ []) → Of (named p.body) x
  event_named u x b = named_on p.body b.0 u b.1 x (subst (λ (t : List Token). PlanPaths p.body b.0 t) (append_assoc u (x ∷ []) b.1) b.2)

  fit : (is_step l.step ≡ true) × (not (block_reads l.body) ≡ true) × (list_all (λ (r : Ref). has_name p.privates r.name) (block_variables l.body) ≡ true) × (list_all (λ (n : List ℕ). has_named l.assigned n) p.privates ≡ true) × (list_all (λ (n : ℕ × ℕ). is_proper n) (named p.body) ≡ true)
  fit =
      let a = and_parts (is_step l.step) _ ok.fit in
      let b = and_parts (not (block_reads l.body)) _ a.1 in
      let c = and_parts (list_all (λ (r : Ref). has_name p.privates r.name) (block_variables l.body)) _ b.1 in
      let d = and_parts (list_all (λ (n : List ℕ). has_named l.assigned n) p.privates) _ c.1 in
      let e = and_parts (are_once p.privates) _ d.1 in
      (a.0, b.0, c.0, d.0, e.1)

  proper : (e d : ℕ) → Names p e d → (1 ≤ e) × (e ≤ most_events) × (1 ≤ d)
  proper e d i =
      let h = all_in (λ (n : ℕ × ℕ). is_proper n) (named p.body) (e, d) fit.4 (among (e, d) (named p.body) i) in
      let a = and_parts (nat_le 1 e) (nat_le e most_events && nat_le 1 d) h in
      let b = and_parts (nat_le e most_events) (nat_le 1 d) a.1 in
      (leb-true 1 e a.0, leb-true e most_events b.0, leb-true 1 d b.1)

  behind_await : (u : List Token) (e : ℕ) → Begins p (u ++ advance e ∷ []) → In (await e 1) u
  behind_await u e b =
      let w = (order u e b).1 in
      let parts = split_in (await e w.0) u w.2 in
      let front = begins_front (parts.0 ++ await e w.0 ∷ []) (parts.1 ++ advance e ∷ []) (subst (λ (t : List Token). Begins p t) (ap (λ (t : List Token). t ++ advance e ∷ []) parts.2 ∙ append_assoc parts.0 (await e w.0 ∷ parts.1) (advance e ∷ []) ∙ sym (append_assoc parts.0 (await e w.0 ∷ []) (parts.1 ++ advance e ∷ []))) b) in
      let q = proper e w.0 (contained (e, w.0) (named p.body) (event_named parts.0 (await e w.0) front)) in
      let below = w.1 in
      let least : 1 ≤ w.0 = q.2 in
      let one : w.0 ≡ 1 = omega (arith, below, least) in
      subst (λ (n : ℕ). In (await e n) u) one w.2

  each_event : (t : List Token) (e d : ℕ) → Names p e d → PlanPaths p.body at_end t → In (advance e) t
  unfolding began
  each_event t e d i path =
      let f = flows_block p.body outer (first cells) in
      let rest = (and_parts (outside p.body) _ ok.ordered).1 in
      let z = all_in (λ (n : ℕ × ℕ). has_advanced (after_block p.body (first cells)) n.0) (named p.body) (e, d) (and_parts (list_all (λ (x : Point). is_in_order x) pts) _ rest).1 (among (e, d) (named p.body) i) in
      advanced_by e t (f.out began (first_below cells) t path (advanced e) z)

  -- ---- conditions 3 and 4

  abbrev es : List Entry
  es = entries_of cells l p

  -- what was known before a reference is known wherever a path comes to it
  reached : (a : Occurrence) (s : Known) → In (a, s) es → (u : List Token) → Begins p (u ++ token_of a ∷ []) → Below s (runs u began)
  reached a s i u b =
      let st = stood u (token_of a) b in
      let f = at_point l.references pts (token_of a) st.known ok.is_body.shown (is_reference a) st.at in
      let same = one_entry l.references (at_references pts) f.0 a st.known s turn_by (ap (λ (r : Ref). r.id) (same_ref a f.0 f.2)) f.1 i in
      subst (λ (k : Known). Below k (runs u began)) (ap (λ (z : Entry). z.1) same) st.below

  held_by : (a b : Occurrence) (s t : Known) (d k j : ℕ) → k + d ≤ j → In (a, s) es → In (b, t) es → is_held (named p.body) s t d ≡ true → (e : ℕ) × Keeps p a b k j e
  unfolding began
  held_by a b s t d k j far i m h =
      let x = any_in (λ (n : ℕ × ℕ). is_free s n.0 && has_awaited t n.0 d) (named p.body) h in
      let e = x.0.0 in
      let g = and_parts (is_free s e) (has_awaited t e d) x.2 in (
        e,
        record {
          source = λ u b' c. free_of e u (reached a s i u b' (free e) g.0) (among (advance e) u c);
          sink = λ u b'.
              let w = awaited_by e d u (reached b t m u b' (near e d) g.1) in
              let le = w.1 in
              (w.0, (let z : k + w.0 ≤ j = omega (arith, far, le) in z), contained (await e w.0) u w.2);
        },
      )

  kept_apart : (a b : Occurrence) (k j : ℕ) → Together l p a b → k < j → IsWithin l.trips j → Meets l a b k j → (e : ℕ) × Keeps p a b k j e
  kept_apart a b k j t lt within meets =
      let x = has_entry l.references pts a ok.is_body.shown (among a l.references t.a_in) in
      let y = has_entry l.references pts b ok.is_body.shown (among b l.references t.b_in) in
      let look = looked_at l p a b t in
      let held = pair_holds l p es (λ x y. is_held_if (named p.body) x.1 y.1 (distance_of (claim_of p x y))) (a, x.0) (b, y.0) ok.held x.1 y.1 look in
      let says = pair_holds l p es (λ x y. is_true_claim l x.0 y.0 (claim_of p x y)) (a, x.0) (b, y.0) ok.true_claims x.1 y.1 look in
      by x.0 y.0 x.1 y.1 (claim_of p (a, x.0) (b, y.0)) held says
    where
      by : (s r : Known) → In (a, s) es → In (b, r) es → (c : Option Relation) → is_held_if (named p.body) s r (distance_of c) ≡ true → is_true_claim l a b c ≡ true → (e : ℕ) × Keeps p a b k j e
      by s r i m None held says = cc
      by s r i m (Some (Apart n reason)) held says = absurd (promised l a b (Apart n reason) says k j lt within meets)
      by s r i m (Some (Distance n d)) held says = let is = promised l a b (Distance n d) says k j lt within meets in held_by a b s r d k j (omega (arith, is, lt)) i m held
      by s r i m (Some Any) held says = held_by a b s r 1 k j (omega (arith, lt)) i m held

  pub good : GoodPlan l p
  good = record {
    step = step_is l.step fit.0;
    no_read = not-true (block_reads l.body) fit.1;
    inner = λ r i. is_private p r.name (all_in (λ (r : Ref). has_name p.privates r.name) (block_variables l.body) r fit.2 (among r (block_variables l.body) i));
    scalars = λ name i.
        let h = all_in (λ (n : List ℕ). has_named l.assigned n) p.privates name fit.3 (among name p.privates i) in
        let k = any_in (λ (r : Ref). same_name r.name name) l.assigned h in
        (k.0, contained k.0 l.assigned k.1, same_is k.0.name name k.2);
    events = λ e d i. proper e d i;
    defined = λ u r i b. let q = defined_before u r i b in (q.0, q.1, contained (defines q.0) u q.2);
    once = λ u e b c. (order u e b).0 (among (advance e) u c);
    behind = λ u e b. contained (await e 1) u (behind_await u e b);
    each = λ t e d i path. contained (advance e) t (each_event t e d i path);
    kept = λ a b k j t lt within meets. kept_apart a b k j t lt within meets;
  }
    where
      step_is : (o : Option ℤ) → is_step o ≡ true → IsNonzero o
      step_is None h = cc
      step_is (Some s) h = not-true (int_eq s (pos 0)) h

pub accepted_is_good : (cells : ℕ) (l : Loop) (p : PlanTree) → are_in_turn (references l.references) ≡ true → are_told (known l) ≡ true → Checked cells l p → GoodPlan l p
accepted_is_good cells l p turn_by told ok = good (λ m a b r e. promised m a b r e) cells l p turn_by told ok
