-- The walk of a part is the greatest of its paths: no path does more, and one does as much.
use Rattle.std.proofs.Common.{◌≡◌, ◌∙◌, ap, sym, refl, ℕ, List, [], ◌∷◌, subst, inl, inr}
use Rattle.std.specs.Prelude.{zero, suc, ◌++◌, ◌⊎◌, ⊤, ◌==◌, Some, None}
use Rattle.ast.specs.References.{expressions_references, items_expressions}
use Rattle.ast.specs.Tree.{Kind, program, integer, dimension, parameters, assign, do_loop, go_on, block_if, else_if, else_arm, end_if, logical_if, print, read, stop, end, Node, plain, loop, choose, Block, no_nodes, then_node, Arms, no_arms, then_arm}
use Rattle.loop_tree.specs.Paths.{Token, uses, defines, await, advance, Ending, at_end, at_stop, PathSet, Just, Stop, Joined, Then, Either, Times, AnyTimes, used, term_tokens, target_tokens, targets_tokens, head_tokens, KindPaths, NodePaths, Paths, ArmsPaths}
use Rattle.privatise.specs.Walks.{then_walk, more, if_so, walk}
use Rattle.privatise.specs.declared.walk.Walk.{Walk}
use Rattle.privatise.specs.declared.walk.Walk.TheVariants.{Defined, Missed, Early}
use Rattle.privatise.proofs.ByCell.{kind_walk, node_walk, block_walk, arms_walk}

-- what counts of a path that ends so: behind a STOP nothing is missed
abbrev pub result : Ending → Walk → Walk
result at_end w = w
result at_stop Early = Early
result at_stop w = Defined

abbrev pub AtMost : Walk → Walk → Type 0
AtMost Defined w = ⊤
AtMost Missed Defined = ⊥
AtMost Missed w = ⊤
AtMost Early Early = ⊤
AtMost Early w = ⊥

pub record IsWalk (c : ℕ) (P : PathSet) (w : Walk) : Type 0 where
  pub most : (e : Ending) (t : List Token) → P e t → AtMost (result e (walk c t)) w
  pub ending : Ending
  pub path : List Token
  pub is : P ending path
  pub reached : result ending (walk c path) ≡ w

same : (w : Walk) → AtMost w w
same Defined = tt
same Missed = tt
same Early = tt

at_most_early : (w : Walk) → AtMost w Early
at_most_early Defined = tt
at_most_early Missed = tt
at_most_early Early = tt

along : (u v w : Walk) → AtMost u v → AtMost v w → AtMost u w
along Defined v w h k = tt
along Missed Defined w h k = absurd h
along Missed Missed Defined h k = absurd k
along Missed Missed Missed h k = tt
along Missed Missed Early h k = tt
along Missed Early Defined h k = absurd k
along Missed Early Missed h k = absurd k
along Missed Early Early h k = tt
along Early Defined w h k = absurd h
along Early Missed w h k = absurd h
along Early Early w h k = k

pub then_assoc : (u v w : Walk) → then_walk (then_walk u v) w ≡ then_walk u (then_walk v w)
then_assoc Defined v w = refl
then_assoc Missed v w = refl
then_assoc Early v w = refl

pub walk_append : (c : ℕ) (s t : List Token) → walk c (s ++ t) ≡ then_walk (walk c s) (walk c t)
walk_append c [] t = refl
walk_append c (uses r ∷ s) t = ap (λ w. then_walk (if_so (r.cell == c) Early) w) (walk_append c s t) ∙ sym (then_assoc (if_so (r.cell == c) Early) (walk c s) (walk c t))
walk_append c (defines r ∷ s) t = ap (λ w. then_walk (if_so (r.cell == c) Defined) w) (walk_append c s t) ∙ sym (then_assoc (if_so (r.cell == c) Defined) (walk c s) (walk c t))
walk_append c (await e d ∷ s) t = walk_append c s t
walk_append c (advance e ∷ s) t = walk_append c s t

-- ---- sets of paths

just : (c : ℕ) (ts : List Token) (w : Walk) → walk c ts ≡ w → IsWalk c (Just ts) w
just c ts w e = record {
  most = most;
  ending = at_end;
  path = ts;
  is = refl;
  reached = e;
}
  where
    most : (f : Ending) (t : List Token) → Just ts f t → AtMost (result f (walk c t)) w
    most at_end t h = subst (λ v. AtMost v w) (sym (ap (λ s. walk c s) h ∙ e)) (same w)
    most at_stop t h = absurd h

halts : (c : ℕ) → IsWalk c Stop Defined
halts c = record {
  most = most;
  ending = at_stop;
  path = [];
  is = refl;
  reached = refl;
}
  where
    most : (f : Ending) (t : List Token) → Stop f t → AtMost (result f (walk c t)) Defined
    most at_end t h = absurd h
    most at_stop t h = subst (λ s. AtMost (result at_stop (walk c s)) Defined) (sym h) tt

joined_most : (e : Ending) (u v p q : Walk) → AtMost u p → AtMost (result e v) q → AtMost (result e (then_walk u v)) (then_walk p q)
joined_most at_end Defined v p q h k = tt
joined_most at_stop Defined v p q h k = tt
joined_most e Missed v Defined q h k = absurd h
joined_most e Missed v Missed q h k = k
joined_most e Missed v Early q h k = at_most_early (result e v)
joined_most e Early v Defined q h k = absurd h
joined_most e Early v Missed q h k = absurd h
joined_most at_end Early v Early q h k = tt
joined_most at_stop Early v Early q h k = tt

stopped_most : (u p q : Walk) → AtMost (result at_stop u) p → AtMost (result at_stop u) (then_walk p q)
stopped_most Defined p q h = tt
stopped_most Missed p q h = tt
stopped_most Early Defined q h = absurd h
stopped_most Early Missed q h = absurd h
stopped_most Early Early q h = tt

abbrev Most : ℕ → PathSet → Walk → Type 0
Most c P w = (e : Ending) (t : List Token) → P e t → AtMost (result e (walk c t)) w

then_most : (c : ℕ) (P Q : PathSet) (p q : Walk) → Most c P p → Most c Q q → Most c (Then P Q) (then_walk p q)
then_most c P Q p q h k = by
  where
    joined : (e : Ending) (t : List Token) → Joined P Q e t → AtMost (result e (walk c t)) (then_walk p q)
    joined e t j = subst (λ w. AtMost (result e w) (then_walk p q)) (sym (ap (λ s. walk c s) j.2 ∙ walk_append c j.0 j.1)) (joined_most e (walk c j.0) (walk c j.1) p q (h at_end j.0 j.3) (k e j.1 j.4))

    by : (e : Ending) (t : List Token) → Then P Q e t → AtMost (result e (walk c t)) (then_walk p q)
    by at_end t j = joined at_end t j
    by at_stop t (inl x) = stopped_most (walk c t) p q (h at_stop t x)
    by at_stop t (inr j) = joined at_stop t j

stopped_is : (u p q : Walk) → result at_stop u ≡ p → result at_stop u ≡ then_walk p q
stopped_is Defined p q h = subst (λ w. Defined ≡ then_walk w q) h refl
stopped_is Missed p q h = subst (λ w. Defined ≡ then_walk w q) h refl
stopped_is Early p q h = subst (λ w. Early ≡ then_walk w q) h refl

joined_is : (e : Ending) (p v q : Walk) → result e v ≡ q → result e (then_walk p v) ≡ then_walk p q
joined_is at_end Defined v q h = refl
joined_is at_stop Defined v q h = refl
joined_is e Missed v q h = h
joined_is at_end Early v q h = refl
joined_is at_stop Early v q h = refl

pub then_is : (c : ℕ) (P Q : PathSet) (p q : Walk) → IsWalk c P p → IsWalk c Q q → IsWalk c (Then P Q) (then_walk p q)
then_is c P Q p q x y = by x.ending x.is x.reached
  where
    most : Most c (Then P Q) (then_walk p q)
    most = then_most c P Q p q x.most y.most

    goes : (e : Ending) → P at_end x.path → walk c x.path ≡ p → Q e y.path → result e (walk c y.path) ≡ q → IsWalk c (Then P Q) (then_walk p q)
    goes at_end i r j s = record {
      most = most;
      ending = at_end;
      path = x.path ++ y.path;
      is = (x.path, y.path, refl, i, j);
      reached = walk_append c x.path y.path ∙ ap (λ w. then_walk w (walk c y.path)) r ∙ joined_is at_end p (walk c y.path) q s;
    }
    goes at_stop i r j s = record {
      most = most;
      ending = at_stop;
      path = x.path ++ y.path;
      is = inr (x.path, y.path, refl, i, j);
      reached = ap (λ w. result at_stop w) (walk_append c x.path y.path ∙ ap (λ w. then_walk w (walk c y.path)) r) ∙ joined_is at_stop p (walk c y.path) q s;
    }

    by : (e : Ending) → P e x.path → result e (walk c x.path) ≡ p → IsWalk c (Then P Q) (then_walk p q)
    by at_end i r = goes y.ending i r y.is y.reached
    by at_stop i r = record {
      most = most;
      ending = at_stop;
      path = x.path;
      is = inl i;
      reached = stopped_is (walk c x.path) p q r;
    }

more_left : (u p q : Walk) → AtMost u p → AtMost u (more p q)
more_left Defined p q h = tt
more_left Missed Defined q h = absurd h
more_left Missed Missed Defined h = tt
more_left Missed Missed Missed h = tt
more_left Missed Missed Early h = tt
more_left Missed Early q h = tt
more_left Early Defined q h = absurd h
more_left Early Missed q h = absurd h
more_left Early Early q h = tt

more_right : (u p q : Walk) → AtMost u q → AtMost u (more p q)
more_right u Defined q h = h
more_right Defined Missed q h = tt
more_right Missed Missed Defined h = absurd h
more_right Missed Missed Missed h = tt
more_right Missed Missed Early h = tt
more_right Early Missed Defined h = absurd h
more_right Early Missed Missed h = absurd h
more_right Early Missed Early h = tt
more_right u Early q h = at_most_early u

one_of : (p q : Walk) → (more p q ≡ p) ⊎ (more p q ≡ q)
one_of Defined q = inr refl
one_of Missed Defined = inl refl
one_of Missed Missed = inl refl
one_of Missed Early = inr refl
one_of Early q = inl refl

either_is : (c : ℕ) (P Q : PathSet) (p q : Walk) → IsWalk c P p → IsWalk c Q q → IsWalk c (Either P Q) (more p q)
either_is c P Q p q x y = by (one_of p q)
  where
    most : Most c (Either P Q) (more p q)
    most e t (inl i) = more_left (result e (walk c t)) p q (x.most e t i)
    most e t (inr i) = more_right (result e (walk c t)) p q (y.most e t i)

    by : (more p q ≡ p) ⊎ (more p q ≡ q) → IsWalk c (Either P Q) (more p q)
    by (inl e) = record { most = most; ending = x.ending; path = x.path; is = inl x.is; reached = x.reached ∙ sym e }
    by (inr e) = record { most = most; ending = y.ending; path = y.path; is = inr y.is; reached = y.reached ∙ sym e }

again : (p : Walk) → AtMost (then_walk p (more Missed p)) (more Missed p)
again Defined = tt
again Missed = tt
again Early = tt

missed_at_most : (p : Walk) → AtMost Missed (more Missed p)
missed_at_most Defined = tt
missed_at_most Missed = tt
missed_at_most Early = tt

times_most : (c : ℕ) (P : PathSet) (p : Walk) → Most c P p → (n : ℕ) → Most c (Times n P) (more Missed p)
times_most c P p h zero e t i = along (result e (walk c t)) Missed (more Missed p) ((just c [] Missed refl).most e t i) (missed_at_most p)
times_most c P p h (suc n) e t i =
    along (result e (walk c t)) (then_walk p (more Missed p)) (more Missed p)
    (then_most c P (Times n P) p (more Missed p) h (times_most c P p h n) e t i)
    (again p)

any_times_is : (c : ℕ) (P : PathSet) (p : Walk) → IsWalk c P p → IsWalk c (AnyTimes P) (more Missed p)
any_times_is c P p x = by p x
  where
    most : (w : Walk) → IsWalk c P w → Most c (AnyTimes P) (more Missed w)
    most w y e t (n, i) = times_most c P w y.most n e t i

    by : (w : Walk) → IsWalk c P w → IsWalk c (AnyTimes P) (more Missed w)
    by Defined y = record { most = most Defined y; ending = at_end; path = []; is = (0, refl); reached = refl }
    by Missed y = record { most = most Missed y; ending = at_end; path = []; is = (0, refl); reached = refl }
    by Early y =
        let once = then_is c P (Times 0 P) Early Missed y (just c [] Missed refl) in
        record { most = most Early y; ending = once.ending; path = once.path; is = (1, once.is); reached = once.reached }

-- ---- statements

straight : (c : ℕ) (ts : List Token) → IsWalk c (Just ts) (walk c ts)
straight c ts = just c ts (walk c ts) refl

nothing : (c : ℕ) → IsWalk c (Just []) Missed
nothing c = straight c []

kind_is : (c : ℕ) (k : Kind) → IsWalk c (KindPaths k) (kind_walk c k)
kind_is c (assign a e) = straight c (term_tokens e ++ target_tokens a)
kind_is c (print is) = straight c (used (expressions_references (items_expressions is)))
kind_is c (read es) = straight c (targets_tokens es)
kind_is c stop = halts c
kind_is c (program x) = nothing c
kind_is c (integer ds) = nothing c
kind_is c (dimension ds) = nothing c
kind_is c (parameters ds) = nothing c
kind_is c (do_loop h) = nothing c
kind_is c go_on = nothing c
kind_is c (block_if e) = nothing c
kind_is c (else_if e) = nothing c
kind_is c else_arm = nothing c
kind_is c end_if = nothing c
kind_is c (logical_if e k) = nothing c
kind_is c end = nothing c

mutual
  node_is : (c : ℕ) (n : Node) → IsWalk c (NodePaths n) (node_walk c n)
  node_is c (plain s) = kind_is c s.kind
  node_is c (loop l h b) =
      then_is c (Just (head_tokens h)) (AnyTimes (Paths b)) (walk c (head_tokens h)) (more Missed (block_walk c b)) (straight c (head_tokens h)) (any_times_is c (Paths b) (block_walk c b) (block_is c b))
  node_is c (choose a) = arms_are c a

  pub block_is : (c : ℕ) (b : Block) → IsWalk c (Paths b) (block_walk c b)
  block_is c no_nodes = nothing c
  block_is c (then_node n b) = then_is c (NodePaths n) (Paths b) (node_walk c n) (block_walk c b) (node_is c n) (block_is c b)

  arms_are : (c : ℕ) (a : Arms) → IsWalk c (ArmsPaths a) (arms_walk c a)
  arms_are c no_arms = nothing c
  arms_are c (then_arm l None b rest) = block_is c b
  arms_are c (then_arm l (Some e) b rest) =
      then_is c (Just (term_tokens e)) (Either (Paths b) (ArmsPaths rest)) (walk c (term_tokens e)) (more (block_walk c b) (arms_walk c rest)) (straight c (term_tokens e))
      (either_is c (Paths b) (ArmsPaths rest) (block_walk c b) (arms_walk c rest) (block_is c b) (arms_are c rest))
