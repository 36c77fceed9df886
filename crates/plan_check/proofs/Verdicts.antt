-- The verdict over pairs is what is asked of each pair.
use Rattle.std.proofs.Common.{◌≡◌, ◌∙◌, ℕ, Bool, true, false, not, ◌&&◌, ◌||◌, List, [], ◌∷◌, map, Option, Some, None, ap, refl, sym}
use Rattle.std.specs.Prelude.{if◌then◌else◌}
use Rattle.std.specs.List.{list_all, list_any}
use Rattle.std.proofs.Math.Bool.{and-true}
use Rattle.ast.specs.Store.{same_name}
use Rattle.dependence.specs.Formed.{forms_of}
use Rattle.dependence.specs.Plan.{PlanTree}
use Rattle.dependence.specs.declared.relation.Relation.{Relation}
use Rattle.dependence.proofs.Reformed.{verified_forms}
use Rattle.loop_tree.specs.Loops.{Loop}
use Rattle.plan_check.specs.Checking.{Entry, claim_of, claimed, distance_of, each_pair, has_name, is_ahead_if, is_held_if, is_looked_at, is_true_claim}
use Rattle.plan_check.specs.Entries.{joined_entry}
use Rattle.plan_check.specs.Flow.{Known, has_awaited, is_free}
use Rattle.plan_check.specs.GoodPlan.{named}
use Rattle.plan_check.specs.Judging as judging
use Rattle.plan_check.specs.Judging.{Verdict, best, is_own, is_pair, with_all, with_entry, with_pair, with_partners}

and_assoc : (a b c : Bool) → ((a && b) && c) ≡ (a && (b && c))
and_assoc true b c = refl
and_assoc false b c = refl

all_same : {X : Type 0} (f g : X → Bool) (xs : List X) → ((x : X) → f x ≡ g x) → list_all f xs ≡ list_all g xs
all_same f g [] h = refl
all_same f g (x ∷ xs) h = ap (λ b. b && list_all f xs) (h x) ∙ ap (λ b. g x && b) (all_same f g xs h)

all_true_of : {X : Type 0} (f : X → Bool) (xs : List X) → ((x : X) → f x ≡ true) → list_all f xs ≡ true
all_true_of f [] h = refl
all_true_of f (x ∷ xs) h = ap (λ b. b && list_all f xs) (h x) ∙ all_true_of f xs h

-- same name, the loop's variable, private, one defines, the test
own_passes : (s o q d t : Bool) → (o || q) ≡ true → (not (s && (not o && (not q && d))) || t) ≡ true
own_passes false o q d t h = refl
own_passes true true q d t h = refl
own_passes true false true d t h = refl
own_passes true false false d t h = cc

others_alike : (s o q d t : Bool) → (o || q) ≡ false → (not (s && (not o && (not q && d))) || t) ≡ (not (s && d) || t)
others_alike s true q d t h = cc
others_alike s false true d t h = cc
others_alike s false false d t h = refl

module _ (l : Loop) (p : PlanTree) (events : List ℕ) (claim : ℕ → ℕ → Option Relation) where
  abbrev joined : Entry → judging.Entry
  joined x = joined_entry l x

  abbrev passes : (Entry → Entry → Bool) → Entry → Entry → Bool
  passes test x y = not (is_looked_at l p x.0 y.0) || test x y

  -- a part of the verdict goes by a test of each pair
  abbrev Goes : (Verdict → Bool) → (Entry → Entry → Bool) → Type 0
  Goes part test = (x y : Entry) (v : Verdict) → part (with_pair l events claim (joined x) (joined y) v) ≡ (part v && (not (is_pair x.0 y.0) || test x y))

  by_partners : (part : Verdict → Bool) (test : Entry → Entry → Bool) → Goes part test → (x : Entry) (ys : List Entry) (v : Verdict)
      → part (with_partners l events claim (joined x) (map joined ys) v) ≡ (part v && list_all (λ (y : Entry). not (is_pair x.0 y.0) || test x y) ys)
  by_partners part test goes x [] v = sym (and-true (part v))
  by_partners part test goes x (y ∷ ys) v =
      by_partners part test goes x ys (with_pair l events claim (joined x) (joined y) v)
      ∙ ap (λ b. b && list_all (λ (y : Entry). not (is_pair x.0 y.0) || test x y) ys) (goes x y v)
      ∙ and_assoc (part v) (not (is_pair x.0 y.0) || test x y) (list_all (λ (y : Entry). not (is_pair x.0 y.0) || test x y) ys)

  by_entry : (part : Verdict → Bool) (test : Entry → Entry → Bool) → Goes part test → (x : Entry) (ys : List Entry) (v : Verdict)
      → part (with_entry l events claim p.privates (joined x) (map joined ys) v) ≡ (part v && list_all (λ (y : Entry). passes test x y) ys)
  by_entry part test goes x ys v = by (is_own l p.privates x.0) refl
    where
      by : (b : Bool) → is_own l p.privates x.0 ≡ b
          → part (if b then v else with_partners l events claim (joined x) (map joined ys) v) ≡ (part v && list_all (λ (y : Entry). passes test x y) ys)
      by true h =
          sym (and-true (part v))
          ∙ ap (λ b. part v && b) (sym (all_true_of (λ (y : Entry). passes test x y) ys (λ y. own_passes (same_name x.0.ref.name y.0.ref.name) (same_name x.0.ref.name l.head.variable.name) (has_name p.privates x.0.ref.name) (x.0.defines || y.0.defines) (test x y) h)))
      by false h =
          by_partners part test goes x ys v
          ∙ ap (λ b. part v && b) (sym (all_same (λ (y : Entry). passes test x y) (λ (y : Entry). not (is_pair x.0 y.0) || test x y) ys (λ y. others_alike (same_name x.0.ref.name y.0.ref.name) (same_name x.0.ref.name l.head.variable.name) (has_name p.privates x.0.ref.name) (x.0.defines || y.0.defines) (test x y) h)))

  by_all : (part : Verdict → Bool) (test : Entry → Entry → Bool) → Goes part test → (xs ys : List Entry) (v : Verdict)
      → part (with_all l events claim p.privates (map joined xs) (map joined ys) v) ≡ (part v && list_all (λ (x : Entry). list_all (λ (y : Entry). passes test x y) ys) xs)
  by_all part test goes [] ys v = sym (and-true (part v))
  by_all part test goes (x ∷ xs) ys v =
      by_all part test goes xs ys (with_entry l events claim p.privates (joined x) (map joined ys) v)
      ∙ ap (λ b. b && list_all (λ (x : Entry). list_all (λ (y : Entry). passes test x y) ys) xs) (by_entry part test goes x ys v)
      ∙ and_assoc (part v) (list_all (λ (y : Entry). passes test x y) ys) (list_all (λ (x : Entry). list_all (λ (y : Entry). passes test x y) ys) xs)

  -- ---- each part of the verdict

  module _ (same_events : (test : ℕ → Bool) → list_any test events ≡ list_any (λ (n : ℕ × ℕ). test n.0) (named p.body)) (same_claims : (a b : ℕ) → claim a b ≡ claimed p.relations a b) where
    ahead_same : (k : Known) (d : Option ℕ) → judging.is_ahead_if events k.free d ≡ is_ahead_if (named p.body) k d
    ahead_same k None = refl
    ahead_same k (Some d) = same_events (λ e. is_free k e)

    held_same : (k r : Known) (d : Option ℕ) → judging.is_held_if events k.free r.near d ≡ is_held_if (named p.body) k r d
    held_same k r None = refl
    held_same k r (Some d) = same_events (λ e. is_free k e && has_awaited r e d)

    given_same : (x y : Entry) (c : Option Relation) → judging.is_given l (joined x) (joined y) c ≡ is_true_claim l x.0 y.0 c
    given_same x y None = refl
    given_same x y (Some r) = verified_forms l x.0 y.0 r (forms_of l x.0.subscripts) (forms_of l y.0.subscripts) refl refl

    goes_ahead : Goes (λ v. v.ahead) (λ x y. is_ahead_if (named p.body) x.1 (distance_of (claim_of p x y)))
    goes_ahead x y v = by (is_pair x.0 y.0)
      where
        by : (b : Bool) → (if b then judging.by_claim l events claim (joined x) (joined y) (claim x.0.ref.id y.0.ref.id) v else v).ahead ≡ (v.ahead && (not b || is_ahead_if (named p.body) x.1 (distance_of (claim_of p x y))))
        by true = ap (λ b. v.ahead && b) (ahead_same x.1 (distance_of (claim x.0.ref.id y.0.ref.id)) ∙ ap (λ c. is_ahead_if (named p.body) x.1 (distance_of c)) (same_claims x.0.ref.id y.0.ref.id))
        by false = sym (and-true v.ahead)

    goes_held : Goes (λ v. v.held) (λ x y. is_held_if (named p.body) x.1 y.1 (distance_of (claim_of p x y)))
    goes_held x y v = by (is_pair x.0 y.0)
      where
        by : (b : Bool) → (if b then judging.by_claim l events claim (joined x) (joined y) (claim x.0.ref.id y.0.ref.id) v else v).held ≡ (v.held && (not b || is_held_if (named p.body) x.1 y.1 (distance_of (claim_of p x y))))
        by true = ap (λ b. v.held && b) (held_same x.1 y.1 (distance_of (claim x.0.ref.id y.0.ref.id)) ∙ ap (λ c. is_held_if (named p.body) x.1 y.1 (distance_of c)) (same_claims x.0.ref.id y.0.ref.id))
        by false = sym (and-true v.held)

    goes_true : Goes (λ v. v.claims) (λ x y. is_true_claim l x.0 y.0 (claim_of p x y))
    goes_true x y v = by (is_pair x.0 y.0)
      where
        by : (b : Bool) → (if b then judging.by_claim l events claim (joined x) (joined y) (claim x.0.ref.id y.0.ref.id) v else v).claims ≡ (v.claims && (not b || is_true_claim l x.0 y.0 (claim_of p x y)))
        by true = ap (λ b. v.claims && b) (given_same x y (claim x.0.ref.id y.0.ref.id) ∙ ap (λ c. is_true_claim l x.0 y.0 c) (same_claims x.0.ref.id y.0.ref.id))
        by false = sym (and-true v.claims)

    pub ahead_all : (es : List Entry) → (with_all l events claim p.privates (map joined es) (map joined es) best).ahead ≡ each_pair l p es (λ x y. is_ahead_if (named p.body) x.1 (distance_of (claim_of p x y)))
    ahead_all es = by_all (λ v. v.ahead) (λ x y. is_ahead_if (named p.body) x.1 (distance_of (claim_of p x y))) goes_ahead es es best

    pub held_all : (es : List Entry) → (with_all l events claim p.privates (map joined es) (map joined es) best).held ≡ each_pair l p es (λ x y. is_held_if (named p.body) x.1 y.1 (distance_of (claim_of p x y)))
    held_all es = by_all (λ v. v.held) (λ x y. is_held_if (named p.body) x.1 y.1 (distance_of (claim_of p x y))) goes_held es es best

    pub true_all : (es : List Entry) → (with_all l events claim p.privates (map joined es) (map joined es) best).claims ≡ each_pair l p es (λ x y. is_true_claim l x.0 y.0 (claim_of p x y))
    true_all es = by_all (λ v. v.claims) (λ x y. is_true_claim l x.0 y.0 (claim_of p x y)) goes_true es es best
