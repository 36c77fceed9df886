-- What the process of a plan does goes along the plan's paths, whatever the steps are made into.
use Rattle.std.proofs.Common.{◌≡◌, ◌∙◌, inl, inr, ℕ, zero, suc, ℤ, pos, Bool, true, false, List, [], ◌∷◌, ◌++◌, Option, Some, None, refl, sym, ap, subst, append_assoc}
use Rattle.std.specs.Prelude.{if◌then◌else◌}
use Rattle.std.specs.Ordering.{int_eq}
use Rattle.std.proofs.lemmas.List.{append-nil}
use Rattle.plan_check.proofs.Members.{in_left}
use Rattle.ast.specs.Exact.{is_true, trips}
use Rattle.ast.specs.Record.{Printed, number, record_of, text}
use Rattle.ast.specs.References.{expressions_references, items_expressions, optional, term_references, terms_references}
use Rattle.ast.specs.Symbols.{Extent, Symbol, place_of}
use Rattle.ast.specs.Tree.{Ref, Access, DoHead, Kind, assign, print, read, stop, program, integer, dimension, parameters, do_loop, go_on, block_if, else_if, else_arm, end_if, logical_if, end, PrintItem, value_item, text_item, Term, Terms, no_terms}
use Rattle.ast.specs.declared.fault.Fault.TheVariants.{ZeroStep}
use Rattle.dependence.specs.Plan.{PlanNode, awaits, advances, plain, loop, choose, PlanBlock, no_nodes, then_node, PlanArms, no_arms, made_else, then_arm, PlanNodePaths, PlanPaths, PlanArmsPaths}
use Rattle.loop_tree.specs.Loops.{Loop}
use Rattle.loop_tree.specs.Paths.{Token, defines, await, advance, Ending, at_end, at_stop, PathSet, Just, Then, Either, Times, AnyTimes, KindPaths, used, head_tokens, targets_tokens}
use Rattle.loop_tree.proofs.References.{used_append}
use Rattle.expr_code.specs.Places.{Places, Home, loop_index, private_scalar, in_store, dimensions_at, home}
use Rattle.expr_code.specs.Process.{term_into}
use Rattle.codegen.specs.Process as process
use Rattle.codegen.specs.Process.{Doing, arms_into, block_into, given_into, grown_into, is_last_stop, items_into, kind_into, node_into, serial_into, set_up_into, step_into, stored_into, turns_into, variable_into}
use Rattle.codegen.specs.Program.{none_open}
use Rattle.codegen.proofs.IterationSteps.{In}
use Rattle.codegen.proofs.Walking.{AllKnown, Known, Located, WalksTerms, home_at, target_walks, term_walks}

-- ---- each plan has a path

-- some path
abbrev pub SomePath : PathSet → Type 0
SomePath P = (e : Ending) × (t : List Token) × P e t

then_path : (P Q : PathSet) → SomePath P → SomePath Q → SomePath (Then P Q)
then_path P Q (at_stop, t, p) q = (at_stop, t, inl p)
then_path P Q (at_end, t, p) (at_end, u, q) = (at_end, t ++ u, (t, u, refl, p, q))
then_path P Q (at_end, t, p) (at_stop, u, q) = (at_stop, t ++ u, inr (t, u, refl, p, q))

times_path : (n : ℕ) (P : PathSet) → SomePath P → SomePath (Times n P)
times_path zero P p = (at_end, [], refl)
times_path (suc n) P p = then_path P (Times n P) p (times_path n P p)

kind_path : (k : Kind) → SomePath (KindPaths k)
kind_path (assign x e) = (at_end, used (term_references e) ++ (used (terms_references x.subscripts) ++ defines x.ref ∷ []), refl)
kind_path (print items) = (at_end, used (expressions_references (items_expressions items)), refl)
kind_path (read elements) = (at_end, targets_tokens elements, refl)
kind_path stop = (at_stop, [], refl)
kind_path (program x) = (at_end, [], refl)
kind_path (integer x) = (at_end, [], refl)
kind_path (dimension x) = (at_end, [], refl)
kind_path (parameters x) = (at_end, [], refl)
kind_path (do_loop x) = (at_end, [], refl)
kind_path go_on = (at_end, [], refl)
kind_path (block_if e) = (at_end, [], refl)
kind_path (else_if e) = (at_end, [], refl)
kind_path else_arm = (at_end, [], refl)
kind_path end_if = (at_end, [], refl)
kind_path (logical_if e k) = (at_end, [], refl)
kind_path end = (at_end, [], refl)

either_path : (P Q : PathSet) → SomePath P → SomePath (Either P Q)
either_path P Q p = (p.0, p.1, inl p.2)

mutual
  pub node_path : (n : PlanNode) → SomePath (PlanNodePaths n)
  node_path (awaits e d) = (at_end, await e d ∷ [], refl)
  node_path (advances e) = (at_end, advance e ∷ [], refl)
  node_path (plain s) = kind_path s.kind
  node_path (loop line h b) = (at_end, head_tokens h ++ [], (head_tokens h, [], refl, refl, (0, refl)))
  node_path (choose arms) = arms_path arms

  pub block_path : (b : PlanBlock) → SomePath (PlanPaths b)
  block_path no_nodes = (at_end, [], refl)
  block_path (then_node n b) = then_path (PlanNodePaths n) (PlanPaths b) (node_path n) (block_path b)

  arms_path : (arms : PlanArms) → SomePath (PlanArmsPaths arms)
  arms_path no_arms = (at_end, [], refl)
  arms_path (made_else b) = block_path b
  arms_path (then_arm line None b more) = block_path b
  arms_path (then_arm line (Some c) b more) = then_path (Just (used (term_references c))) (Either (PlanPaths b) (PlanArmsPaths more)) (at_end, used (term_references c), refl) (either_path (PlanPaths b) (PlanArmsPaths more) (block_path b))

-- ---- the steps' rules

-- What is given a value, awaited or advanced is a token. After a trip of a serial DO its variable
-- grows, which is no token: the variable was given a value before.
pub record Walks (l : Loop) (held : ℕ → ℤ) (i : ℤ) (Stands : Ref → Terms → Type 0) (A : Type 0) (D : Doing A) (p : Places) (Q : A → List Token → Type 0) (Begun : List Token → Type 0) : Type 0 where
  pub evaluates : (line : ℕ) → WalksTerms l held i Stands A (D.evaluate line) p.symbols (home_at p) Q Begun
  pub keeps : (r : Ref) (es : Terms) (n : ℕ) (v : ℤ) (a : A) (h : List Token) → home_at p r ≡ in_store → Located l held i Stands p.symbols r es n → Q a (h ++ defines r ∷ []) → Q (D.keep r (record { name = r.name; place = n }) v a) h
  pub sets : (r : Ref) (x : ℕ) (v : ℤ) (a : A) (h : List Token) → home_at p r ≡ private_scalar x → Q a (h ++ defines r ∷ []) → Q (D.set r x v a) h
  pub says : (bytes : List ℕ) (a : A) (h : List Token) → Q a h → Q (D.say bytes a) h
  pub goes : (a : A) (h : List Token) → Q a h → Q (D.local a) h
  pub awaits : (e d : ℕ) (a : A) (h : List Token) → Q a (h ++ await e d ∷ []) → Q (D.await e d a) h
  pub advances : (e : ℕ) (a : A) (h : List Token) → Q a (h ++ advance e ∷ []) → Q (D.advance e a) h
  pub stops : (line : ℕ) (h : List Token) → Begun h → Q (D.stop line) h
  pub grows : (line : ℕ) (r : Ref) (x : ℕ) (m3 : ℤ) (a : A) (h : List Token) → home_at p r ≡ private_scalar x → home p [] r.name ≡ private_scalar x → Begun h → In (defines r) h → Q a h → Q (grown_into A D p line r m3 a) h

-- A plan of a loop's range: its references stand with their subscripts, nothing is read from the
-- input, the loop's variable gets no value, variables of inner loops are private scalars, and END
-- follows no STOP.
module _ (symbols : List Symbol) (homes : Ref → Home) (Stands : Ref → Terms → Type 0) where
  abbrev pub ItemsKnown : List PrintItem → Type 0
  ItemsKnown [] = Unit {0}
  ItemsKnown (value_item e ∷ items) = Known Stands e × ItemsKnown items
  ItemsKnown (text_item t ∷ items) = ItemsKnown items

  abbrev pub IsBodyKind : Kind → Type 0
  IsBodyKind (assign x e) = Known Stands e × (homes x.ref ≡ loop_index → ⊥) × Stands x.ref x.subscripts × AllKnown Stands x.subscripts
  IsBodyKind (print items) = ItemsKnown items
  IsBodyKind (read elements) = ⊥
  IsBodyKind _ = Unit {0}

  abbrev pub StepKnown : Option Term → Type 0
  StepKnown None = Unit {0}
  StepKnown (Some e) = Known Stands e

  abbrev pub HeadKnown : DoHead → Type 0
  HeadKnown d = (dimensions_at symbols d.variable.cell ≡ []) × ((x : ℕ) × (homes d.variable ≡ private_scalar x)) × Stands d.variable no_terms × Known Stands d.first × Known Stands d.last × StepKnown d.step

  abbrev mutual
    pub IsBodyNode : PlanNode → Type 0
    IsBodyNode (plain s) = IsBodyKind s.kind
    IsBodyNode (loop line h b) = HeadKnown h × IsBody b
    IsBodyNode (choose arms) = AreBodies arms
    IsBodyNode _ = Unit {0}

    pub IsBody : PlanBlock → Type 0
    IsBody no_nodes = Unit {0}
    IsBody (then_node n b) = IsBodyNode n × (is_last_stop n b ≡ false) × IsBody b

    pub AreBodies : PlanArms → Type 0
    AreBodies no_arms = Unit {0}
    AreBodies (made_else b) = IsBody b
    AreBodies (then_arm line None b more) = IsBody b
    AreBodies (then_arm line (Some c) b more) = Known Stands c × IsBody b × AreBodies more

in-end : (x : Token) (xs : List Token) → In x (xs ++ x ∷ [])
in-end x [] = inl refl
in-end x (y ∷ xs) = inr (in-end x xs)

module _ (l : Loop) (held : ℕ → ℤ) (i : ℤ) (Stands : Ref → Terms → Type 0) (A : Type 0) (D : Doing A) (p : Places) (Q : A → List Token → Type 0) (Begun : List Token → Type 0) (shorter : (h t : List Token) → Begun (h ++ t) → Begun h) (W : Walks l held i Stands A D p Q Begun) where
  moved : (a : A) (h k : List Token) → h ≡ k → Q a h → Q a k
  moved a h k e q = subst (λ (t : List Token). Q a t) e q

  nothing : (a : A) (h : List Token) → Q a (h ++ []) → Q a h
  nothing a h q = moved a (h ++ []) h (append-nil h) q

  -- behind one list of tokens and then another
  apart : (a : A) (h u v : List Token) → Q a (h ++ (u ++ v)) → Q a ((h ++ u) ++ v)
  apart a h u v q = moved a (h ++ (u ++ v)) ((h ++ u) ++ v) (sym (append_assoc h u v)) q

  begun_apart : (h u v : List Token) → Begun (h ++ (u ++ v)) → Begun ((h ++ u) ++ v)
  begun_apart h u v b = subst Begun (sym (append_assoc h u v)) b

  begun_first : (h u v : List Token) → Begun (h ++ (u ++ v)) → Begun (h ++ u)
  begun_first h u v b = shorter (h ++ u) v (begun_apart h u v b)

  refs_are : (h : List Token) (xs ys : List Ref) → h ++ used (xs ++ ys) ≡ (h ++ used xs) ++ used ys
  refs_are h xs ys = ap (λ (t : List Token). h ++ t) (used_append xs ys) ∙ sym (append_assoc h (used xs) (used ys))

  given_walks : (o : Home) (r : Ref) (es : Terms) (n : ℕ) (v : ℤ) (a : A) (h : List Token) → home_at p r ≡ o → (home_at p r ≡ loop_index → ⊥) → Located l held i Stands p.symbols r es n → Q a (h ++ defines r ∷ []) → Q (given_into A D p o r n v a) h
  given_walks (private_scalar x) r es n v a h is free at q = W.sets r x v a h is q
  given_walks loop_index r es n v a h is free at q = absurd (free is)
  given_walks in_store r es n v a h is free at q = W.keeps r es n v a h is at q

  stored_walks : (line : ℕ) (x : Access) → (home_at p x.ref ≡ loop_index → ⊥) → Stands x.ref x.subscripts → AllKnown Stands x.subscripts → (v : ℤ) (a : A) (h : List Token) → Begun (h ++ (used (terms_references x.subscripts) ++ defines x.ref ∷ [])) → Q a (h ++ (used (terms_references x.subscripts) ++ defines x.ref ∷ [])) → Q (stored_into A D p line x v a) h
  stored_walks line x free stands w v a h b q =
      let o = home p (dimensions_at p.symbols x.ref.cell) x.ref.name in
      let t = used (terms_references x.subscripts) in
      target_walks l held i Stands A (D.evaluate line) (process.on A D p line) Q Begun shorter (W.evaluates line) x.ref x.subscripts stands w (λ n. given_into A D p o x.ref n v a) h (begun_first h t (defines x.ref ∷ []) b) (λ n at.
      given_walks o x.ref x.subscripts n v a (h ++ t) refl free at (apart a h t (defines x.ref ∷ []) q))

  items_walk : (line : ℕ) (items : List PrintItem) → ItemsKnown p.symbols (home_at p) Stands items → (κ : List Printed → A) (h : List Token) → Begun (h ++ used (expressions_references (items_expressions items))) → ((ps : List Printed) → Q (κ ps) (h ++ used (expressions_references (items_expressions items)))) → Q (items_into A D p line items κ) h
  items_walk line [] w κ h b next = nothing (κ []) h (next [])
  items_walk line (value_item e ∷ items) w κ h b next =
      let xs = term_references e in
      let ys = expressions_references (items_expressions items) in
      let c = subst Begun (refs_are h xs ys) b in
      term_walks l held i Stands A (D.evaluate line) (process.on A D p line) Q Begun shorter (W.evaluates line) e w.0 (λ v. items_into A D p line items (λ ps. κ (number v ∷ ps))) h (shorter (h ++ used xs) (used ys) c) (λ v m.
      items_walk line items w.1 (λ ps. κ (number v ∷ ps)) (h ++ used xs) c (λ ps. moved (κ (number v ∷ ps)) (h ++ used (xs ++ ys)) ((h ++ used xs) ++ used ys) (refs_are h xs ys) (next (number v ∷ ps))))
  items_walk line (text_item t ∷ items) w κ h b next = items_walk line items w (λ ps. κ (text t ∷ ps)) h b (λ ps. next (text t ∷ ps))

  -- each of these paths is a beginning
  abbrev Ahead : PathSet → List Token → Type 0
  Ahead P h = (e : Ending) (t : List Token) → P e t → Begun (h ++ t)

  -- a may be done at their end
  abbrev Goes : PathSet → A → List Token → Type 0
  Goes P a h = (t : List Token) → P at_end t → Q a (h ++ t)

  -- of one part and then another
  ahead_first : (P R : PathSet) (h : List Token) → SomePath R → Ahead (Then P R) h → Ahead P h
  ahead_first P R h some ahead at_stop t r = ahead at_stop t (inl r)
  ahead_first P R h some ahead at_end t r = by some
    where
      by : SomePath R → Begun (h ++ t)
      by (at_end, u, q) = begun_first h t u (ahead at_end (t ++ u) (t, u, refl, r, q))
      by (at_stop, u, q) = begun_first h t u (ahead at_stop (t ++ u) (inr (t, u, refl, r, q)))

  ahead_then : (P R : PathSet) (h t : List Token) → P at_end t → Ahead (Then P R) h → Ahead R (h ++ t)
  ahead_then P R h t r ahead at_end u q = begun_apart h t u (ahead at_end (t ++ u) (t, u, refl, r, q))
  ahead_then P R h t r ahead at_stop u q = begun_apart h t u (ahead at_stop (t ++ u) (inr (t, u, refl, r, q)))

  kind_walks : (line : ℕ) (k : Kind) (a : A) (h : List Token) → IsBodyKind p.symbols (home_at p) Stands k → Ahead (KindPaths k) h → Goes (KindPaths k) a h → Q (kind_into A D p line k a) h
  kind_walks line (assign x e) a h w ahead next =
      let t1 = used (term_references e) in
      let t2 = used (terms_references x.subscripts) ++ defines x.ref ∷ [] in
      let b = begun_apart h t1 t2 (ahead at_end (t1 ++ t2) refl) in
      term_walks l held i Stands A (D.evaluate line) (process.on A D p line) Q Begun shorter (W.evaluates line) e w.0 (λ v. stored_into A D p line x v a) h (shorter (h ++ t1) t2 b) (λ v m. stored_walks line x w.1 w.2 w.3 v a (h ++ t1) b (apart a h t1 t2 (next (t1 ++ t2) refl)))
  kind_walks line (print items) a h w ahead next =
      let t = used (expressions_references (items_expressions items)) in
      items_walk line items w (λ ps. D.say (record_of ps) a) h (ahead at_end t refl) (λ ps. W.says (record_of ps) a (h ++ t) (next t refl))
  kind_walks line (read xs) a h w ahead next = absurd w
  kind_walks line stop a h w ahead next = W.stops line h (shorter h [] (ahead at_stop [] refl))
  kind_walks line (program x) a h w ahead next = nothing a h (next [] refl)
  kind_walks line (integer x) a h w ahead next = nothing a h (next [] refl)
  kind_walks line (dimension x) a h w ahead next = nothing a h (next [] refl)
  kind_walks line (parameters x) a h w ahead next = nothing a h (next [] refl)
  kind_walks line (do_loop x) a h w ahead next = nothing a h (next [] refl)
  kind_walks line go_on a h w ahead next = nothing a h (next [] refl)
  kind_walks line (block_if e) a h w ahead next = nothing a h (next [] refl)
  kind_walks line (else_if e) a h w ahead next = nothing a h (next [] refl)
  kind_walks line else_arm a h w ahead next = nothing a h (next [] refl)
  kind_walks line end_if a h w ahead next = nothing a h (next [] refl)
  kind_walks line (logical_if e k) a h w ahead next = nothing a h (next [] refl)
  kind_walks line end a h w ahead next = nothing a h (next [] refl)

  -- ---- DO

  step_walks : (line : ℕ) (e : Option Term) → StepKnown p.symbols (home_at p) Stands e → (κ : ℤ → A) (h : List Token) → Begun (h ++ used (expressions_references (optional e))) → ((v : ℤ) → Q (κ v) (h ++ used (expressions_references (optional e)))) → Q (step_into A D p line e κ) h
  step_walks line None w κ h b next = W.goes (κ (pos 1)) h (nothing (κ (pos 1)) h (next (pos 1)))
  step_walks line (Some e) w κ h b next =
      let same : h ++ used (term_references e ++ []) ≡ h ++ used (term_references e) = ap (λ (rs : List Ref). h ++ used rs) (append-nil (term_references e)) in
      term_walks l held i Stands A (D.evaluate line) (process.on A D p line) Q Begun shorter (W.evaluates line) e w κ h (subst Begun same b) (λ v m. moved (κ v) (h ++ used (term_references e ++ [])) (h ++ used (term_references e)) same (next v))

  -- the trips, each along a path of the range, behind the head
  turns_walk : (n : ℕ) (turn : A → A) (P : PathSet) → SomePath P → (a : A) (h : List Token) → ((b : A) (k more : List Token) → k ≡ h ++ more → Ahead P k → Goes P b k → Q (turn b) k)
      → (g more : List Token) → g ≡ h ++ more → Ahead (Times n P) g → Goes (Times n P) a g → Q (turns_into A D p turn n a) g
  turns_walk zero turn P some a h one g more e ahead next = W.goes a g (nothing a g (next [] refl))
  turns_walk (suc n) turn P some a h one g more e ahead next =
      W.goes (turn (turns_into A D p turn n a)) g
      (one (turns_into A D p turn n a) g more e (ahead_first P (Times n P) g (times_path n P some) ahead)
      (λ t q. turns_walk n turn P some a h one (g ++ t) (more ++ t) (ap (λ (k : List Token). k ++ t) e ∙ append_assoc h more t) (ahead_then P (Times n P) g t q ahead)
      (λ u r. apart a g t u (next (t ++ u) (t, u, refl, q, r)))))

  serial_walks : (line : ℕ) (d : DoHead) (range : A → A) (P : PathSet) → SomePath P → (a : A) (h : List Token) → HeadKnown p.symbols (home_at p) Stands d → ((b : A) (k : List Token) → Ahead P k → Goes P b k → Q (range b) k)
      → Ahead (Then (Just (head_tokens d)) (AnyTimes P)) h → Goes (Then (Just (head_tokens d)) (AnyTimes P)) a h → Q (serial_into A D p line d range a) h
  serial_walks line d range P some a h w one ahead next =
      let q = process.on A D p line in
      let E = D.evaluate line in
      let b2 = shorter h2 u3 begun in
      let b1 = shorter h1 (used (term_references d.last)) b2 in
      term_walks l held i Stands A E q Q Begun shorter (W.evaluates line) d.first w.3 (λ m1. term_into A E q d.last (λ m2. step_into A D p line d.step (λ m3. set_up_into A D p line m3 (begun_with m1 m2 m3)))) h b1 (λ m1 x1.
      term_walks l held i Stands A E q Q Begun shorter (W.evaluates line) d.last w.4 (λ m2. step_into A D p line d.step (λ m3. set_up_into A D p line m3 (begun_with m1 m2 m3))) h1 b2 (λ m2 x2.
      step_walks line d.step w.5 (λ m3. set_up_into A D p line m3 (begun_with m1 m2 m3)) h2 begun (λ m3.
      let ready = given_walks (home p [] d.variable.name) d.variable no_terms 0 m1 (turns_into A D p (λ b. range (grown_into A D p line d.variable m3 b)) (trips m1 m2 m3) a) h3 (ap (λ (ds : List Extent). home p ds d.variable.name) w.0) (λ z. let y : private_scalar (w.1).0 ≡ loop_index = sym (w.1).1 ∙ z in cc) ([], w.2, refl, ap (λ (ds : List Extent). place_of ds []) w.0) (around m1 m2 m3) in
      set_up m3 (begun_with m1 m2 m3) h3 (int_eq m3 (pos 0)) begun ready)))
    where
      begun_with : ℤ → ℤ → ℤ → A
      begun_with m1 m2 m3 = variable_into A D p d.variable m1 (turns_into A D p (λ b. range (grown_into A D p line d.variable m3 b)) (trips m1 m2 m3) a)

      u3 : List Token
      u3 = used (expressions_references (optional d.step))

      h1 : List Token
      h1 = h ++ used (term_references d.first)

      h2 : List Token
      h2 = h1 ++ used (term_references d.last)

      h3 : List Token
      h3 = h2 ++ u3

      set_up : (m3 : ℤ) (b : A) (k : List Token) (zero_step : Bool) → Begun k → Q b k → Q (if zero_step then (D.evaluate line).fails ZeroStep else D.local b) k
      set_up m3 b k true c r = (W.evaluates line).faults ZeroStep k c
      set_up m3 b k false c r = W.goes b k r

      -- the tokens of the head are behind us
      head_is : h ++ head_tokens d ≡ h3 ++ defines d.variable ∷ []
      head_is =
          let r1 = term_references d.first in
          let r2 = term_references d.last in
          let r3 = expressions_references (optional d.step) in
          ap (λ (t : List Token). h ++ (t ++ defines d.variable ∷ [])) (used_append r1 (r2 ++ r3) ∙ ap (λ (t : List Token). used r1 ++ t) (used_append r2 r3))
          ∙ sym (append_assoc h (used r1 ++ (used r2 ++ used r3)) (defines d.variable ∷ []))
          ∙ ap (λ (t : List Token). t ++ defines d.variable ∷ []) (sym (append_assoc h (used r1) (used r2 ++ used r3)) ∙ sym (append_assoc (h ++ used r1) (used r2) (used r3)))

      begun : Begun h3
      begun = shorter h3 (defines d.variable ∷ []) (subst Begun head_is (begun_first h (head_tokens d) [] (ahead at_end (head_tokens d ++ []) (head_tokens d, [], refl, refl, (0, refl)))))

      placed : (b : A) (t : List Token) → Q b (h ++ (head_tokens d ++ t)) → Q b ((h3 ++ defines d.variable ∷ []) ++ t)
      placed b t r = moved b ((h ++ head_tokens d) ++ t) ((h3 ++ defines d.variable ∷ []) ++ t) (ap (λ (k : List Token). k ++ t) head_is) (apart b h (head_tokens d) t r)

      begun_placed : (t : List Token) → Begun (h ++ (head_tokens d ++ t)) → Begun ((h3 ++ defines d.variable ∷ []) ++ t)
      begun_placed t r = subst Begun (ap (λ (k : List Token). k ++ t) head_is) (begun_apart h (head_tokens d) t r)

      times_ahead : (n : ℕ) → Ahead (Times n P) (h3 ++ defines d.variable ∷ [])
      times_ahead n at_end t r = begun_placed t (ahead at_end (head_tokens d ++ t) (head_tokens d, t, refl, refl, (n, r)))
      times_ahead n at_stop t r = begun_placed t (ahead at_stop (head_tokens d ++ t) (inr (head_tokens d, t, refl, refl, (n, r))))

      around : (m1 m2 m3 : ℤ) → Q (turns_into A D p (λ b. range (grown_into A D p line d.variable m3 b)) (trips m1 m2 m3) a) (h3 ++ defines d.variable ∷ [])
      around m1 m2 m3 =
          turns_walk (trips m1 m2 m3) (λ b. range (grown_into A D p line d.variable m3 b)) P some a (h3 ++ defines d.variable ∷ [])
          (λ b k more e on goes.
          one (grown_into A D p line d.variable m3 b) k on
          (λ t r. W.grows line d.variable (w.1).0 m3 b (k ++ t) (w.1).1 (sym (ap (λ (ds : List Extent). home p ds d.variable.name) w.0) ∙ (w.1).1) (on at_end t r)
          (in_left (defines d.variable) k t (subst (λ (u : List Token). In (defines d.variable) u) (sym e) (in_left (defines d.variable) (h3 ++ defines d.variable ∷ []) more (in-end (defines d.variable) h3)))) (goes t r)))
          (h3 ++ defines d.variable ∷ []) [] (sym (append-nil (h3 ++ defines d.variable ∷ []))) (times_ahead (trips m1 m2 m3))
          (λ t r. placed a t (next (head_tokens d ++ t) (head_tokens d, t, refl, refl, (trips m1 m2 m3, r))))

  -- ---- blocks

  chosen_walks : (b : Bool) (x y : A) (k : List Token) → Q x k → Q y k → Q (if b then x else y) k
  chosen_walks true x y k q r = q
  chosen_walks false x y k q r = r

  mutual
    pub node_walks : (n : PlanNode) (a : A) (h : List Token) → IsBodyNode p.symbols (home_at p) Stands n → Ahead (PlanNodePaths n) h → Goes (PlanNodePaths n) a h → Q (node_into A D p none_open n a) h
    node_walks (awaits e d) a h w ahead next = W.awaits e d a h (next (await e d ∷ []) refl)
    node_walks (advances e) a h w ahead next = W.advances e a h (next (advance e ∷ []) refl)
    node_walks (plain s) a h w ahead next = kind_walks s.line s.kind a h w ahead next
    node_walks (loop line d b) a h w ahead next = serial_walks line d (λ x. block_into A D p none_open b x) (PlanPaths b) (block_path b) a h w.0 (λ x k on goes. block_walks b x k w.1 on goes) ahead next
    node_walks (choose arms) a h w ahead next = arms_walk arms a h w ahead next

    -- what may be done behind each path of a plan's body may be done behind its process
    pub block_walks : (b : PlanBlock) (a : A) (h : List Token) → IsBody p.symbols (home_at p) Stands b → Ahead (PlanPaths b) h → Goes (PlanPaths b) a h → Q (block_into A D p none_open b a) h
    block_walks no_nodes a h w ahead next = nothing a h (next [] refl)
    block_walks (then_node n b) a h w ahead next =
        let rest = block_into A D p none_open b a in
        let whole : Q (node_into A D p none_open n rest) h =
        node_walks n rest h w.0 (ahead_first (PlanNodePaths n) (PlanPaths b) h (block_path b) ahead)
        (λ t r. block_walks b a (h ++ t) w.2 (ahead_then (PlanNodePaths n) (PlanPaths b) h t r ahead) (λ u v. apart a h t u (next (t ++ u) (t, u, refl, r, v)))) in
        subst (λ (last : Bool). Q (if last then a else node_into A D p none_open n rest) h) (sym w.1) whole

    arms_walk : (arms : PlanArms) (a : A) (h : List Token) → AreBodies p.symbols (home_at p) Stands arms → Ahead (PlanArmsPaths arms) h → Goes (PlanArmsPaths arms) a h → Q (arms_into A D p none_open arms a) h
    arms_walk no_arms a h w ahead next = nothing a h (next [] refl)
    arms_walk (made_else b) a h w ahead next = block_walks b a h w ahead next
    arms_walk (then_arm line None b more) a h w ahead next = block_walks b a h w ahead next
    arms_walk (then_arm line (Some c) b more) a h w ahead next =
        let t = used (term_references c) in
        let x = block_into A D p none_open b (D.local a) in
        let y = arms_into A D p none_open more a in
        let R = Either (PlanPaths b) (PlanArmsPaths more) in
        let on = ahead_then (Just t) R h t refl ahead in
        term_walks l held i Stands A (D.evaluate line) (process.on A D p line) Q Begun shorter (W.evaluates line) c w.0 (λ v. D.local (if is_true v then x else y)) h (ahead_first (Just t) R h (either_path (PlanPaths b) (PlanArmsPaths more) (block_path b)) ahead at_end t refl) (λ v m.
        W.goes (if is_true v then x else y) (h ++ t)
        (chosen_walks (is_true v) x y (h ++ t)
        (block_walks b (D.local a) (h ++ t) w.1 (λ e u r. on e u (inl r)) (λ u r. W.goes a ((h ++ t) ++ u) (apart a h t u (next (t ++ u) (t, u, refl, refl, inl r)))))
        (arms_walk more a (h ++ t) w.2 (λ e u r. on e u (inr r)) (λ u r. apart a h t u (next (t ++ u) (t, u, refl, refl, inr r))))))
