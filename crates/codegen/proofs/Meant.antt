-- What the process of a program comes to is its sequential meaning, whatever its steps are made
-- into and whatever is seen of it, where each loop that is opened does what it means.
use Rattle.std.proofs.Common.{◌≡◌, ◌∙◌, ℕ, zero, suc, ℤ, pos, Bool, true, false, List, [], ◌∷◌, ◌++◌, Option, Some, None, Result, Ok, Err, refl, sym, ap, subst}
use Rattle.std.specs.Prelude.{if◌then◌else◌}
use Rattle.std.specs.List.{list_all}
use Rattle.std.specs.Ordering.{int_eq}
use Rattle.std.proofs.lemmas.Bool.{and_parts}
use Rattle.ast.specs.Exact.{is_true, trips, value_of}
use Rattle.ast.specs.Input.{taken, next_integer}
use Rattle.ast.specs.Meaning as meaning
use Rattle.ast.specs.Meaning.{Run, going_on, then_do, given, written, printed, step_value, turns, target, read_elements, exec_plain, grown, looped, exec, exec_block, exec_arms, looked_up, value}
use Rattle.ast.specs.Record.{Printed, number, text, record_of}
use Rattle.ast.specs.References.{arms_expressions, block_expressions, head_expressions, node_expressions}
use Rattle.ast.specs.Regular.{is_fitting, are_fitting}
use Rattle.ast.specs.Results.{◌>>=◌}
use Rattle.ast.specs.Symbols.{Extent, dimensions_in}
use Rattle.ast.specs.Tree as tree
use Rattle.ast.specs.Tree.{Ref, Term, Access, accessed, PrintItem, value_item, text_item, DoHead, Kind, assign, print, read, stop, program, integer, dimension, parameters, do_loop, go_on, block_if, else_if, else_arm, end_if, logical_if, end, Node, Block, Arms}
use Rattle.ast.specs.declared.expression.Operator.TheVariants.{Add}
use Rattle.ast.specs.declared.fault.End.{End}
use Rattle.ast.specs.declared.fault.End.TheVariants.{Done, Stopped, Fault as Faulted}
use Rattle.ast.specs.declared.fault.Fault.{Fault}
use Rattle.ast.specs.declared.fault.Fault.TheVariants.{ZeroStep}
use Rattle.ast.proofs.Fitting.{Fit, RunFits, Fits, block_fits, expression_fits, grown_fits, node_fits, put_fits, then_fits, fit_parts}
use Rattle.expr_code.specs.Places.{Places, Home, loop_index, private_scalar, in_store, dimensions_at, home, home_of}
use Rattle.expr_code.specs.Process.{answered_into, term_into}
use Rattle.expr_code.proofs.Meaning.{Means, Named, on, on_all, scalar_meant, target_meant, term_meant}
use Rattle.codegen.specs.Plain.{plain_node, plain_block, plain_arms}
use Rattle.codegen.specs.Process as process
use Rattle.codegen.specs.Process.{Doing, arms_into, block_into, elements_into, given_into, grown_into, items_into, kind_into, node_into, serial_into, set_up_into, step_into, stored_into, turns_into, variable_into, loop_into, opened_into}
use Rattle.codegen.specs.Turns.{Opening, block_openings, arms_openings, given_openings, going_openings, head_openings, loop_openings, node_openings, then_openings, turn, turns_openings}
use Rattle.codegen.proofs.Stops.{last_same}

-- What is seen of a run: what it comes to where it has ended, behind openings of loops.
pub record Sight (O : Type 0) : Type 0 where
  pub told : Run → O
  pub add : List Opening → O → O
  pub none : (o : O) → add [] o ≡ o
  pub more : (xs ys : List Opening) (o : O) → add (xs ++ ys) o ≡ add xs (add ys o)
  -- of the input behind a fault nothing is seen
  pub unread : (e : Fault) (line : ℕ) (run : Run) (i : List (List ℕ)) → told (record run { input = i; end = Faulted e line }) ≡ told (record run { end = Faulted e line })

module _ (O : Type 0) (W : Sight O) where
  abbrev pub failed : Fault → ℕ → Run → O
  failed e line run = W.told (record run { end = Faulted e line })

  -- goes on with a value
  abbrev pub given_told : {V : Type 0} → Result V Fault → ℕ → Run → (V → O) → O
  given_told (Ok x) line run next = next x
  given_told (Err e) line run next = failed e line run

  -- goes on where nothing has ended the run
  abbrev pub going_told : End → Run → (Run → O) → O
  going_told Done run next = next run
  going_told _ run next = W.told run

  abbrev pub then_told : Run → (Run → O) → O
  then_told run next = going_told run.end run next

  -- The steps' meanings. A run goes on as long as its end is Done; the list has what is left of the
  -- record of the input that was taken last.
  pub record Acts (A : Type 0) (D : Doing A) (p : Places) (meant : A → List ℤ → Run → O) : Type 0 where
    pub evaluates : (line : ℕ) (left : List ℤ) (run : Run) → Means A (D.evaluate line) (process.on A D p line) run.store O (λ a. meant a left run) (λ e. failed e line run)
    pub keeps : (r : Ref) (n : ℕ) (v : ℤ) (a : A) (left : List ℤ) (run : Run) → home_of p r.name ≡ in_store → meant (D.keep r (record { name = r.name; place = n }) v a) left run ≡ meant a left (written run r.name n v)
    pub sets : (r : Ref) (x : ℕ) (v : ℤ) (a : A) (left : List ℤ) (run : Run) → home_of p r.name ≡ private_scalar x → meant (D.set r x v a) left run ≡ meant a left (written run r.name 0 v)
    pub says : (bytes : List ℕ) (a : A) (left : List ℤ) (run : Run) → meant (D.say bytes a) left run ≡ meant a left (record run { output = run.output ++ bytes })
    pub takes : (line : ℕ) (a : A) (left : List ℤ) (run : Run) → meant (D.take_record line a) left run ≡ given_told (taken run.input) line run (λ x. meant a x.0 (record run { input = x.1 }))
    pub gets : (line : ℕ) (κ : ℤ → A) (left : List ℤ) (run : Run) → meant (D.take_value line κ) left run ≡ given_told (next_integer left run.input) line run (λ x. meant (κ x.0) x.1 (record run { input = x.2 }))
    pub drops : (a : A) (left : List ℤ) (run : Run) → meant (D.drop_record a) left run ≡ meant a [] run
    pub goes : (a : A) (left : List ℤ) (run : Run) → meant (D.local a) left run ≡ meant a left run
    pub stops : (line : ℕ) (left : List ℤ) (run : Run) → meant (D.stop line) left run ≡ W.told (record run { end = Stopped line })

  -- ---- laws of runs

  given_on : (r : Result ℤ Fault) (line : ℕ) (run : Run) (k : ℤ → O) → on (λ e. failed e line run) r k ≡ given_told r line run k
  given_on (Ok v) line run k = refl
  given_on (Err e) line run k = refl

  given_all : {V : Type 0} (r : Result V Fault) (line : ℕ) (run : Run) (k : V → O) → on_all (λ e. failed e line run) r k ≡ given_told r line run k
  given_all (Ok v) line run k = refl
  given_all (Err e) line run k = refl

  given_under : {V : Type 0} (r : Result V Fault) (line : ℕ) (run : Run) (f g : V → O) → ((x : V) → f x ≡ g x) → given_told r line run f ≡ given_told r line run g
  given_under (Ok v) line run f g h = h v
  given_under (Err e) line run f g h = refl

  given_at : {V : Type 0} (r : Result V Fault) (line : ℕ) (run : Run) (f g : V → O) → ((x : V) → r ≡ Ok x → f x ≡ g x) → given_told r line run f ≡ given_told r line run g
  given_at (Ok v) line run f g h = h v refl
  given_at (Err e) line run f g h = refl

  given_then : {V : Type 0} (r : Result V Fault) (line : ℕ) (run : Run) (f : V → Run) (g : Run → O) → given_told r line run (λ x. then_told (f x) g) ≡ then_told (given r line run f) g
  given_then (Ok v) line run f g = refl
  given_then (Err e) line run f g = refl

  given_bound : {V W : Type 0} (r : Result V Fault) (make : V → Result W Fault) (line : ℕ) (run : Run) (k : W → O) → given_told r line run (λ x. given_told (make x) line run k) ≡ given_told (r >>= make) line run k
  given_bound (Ok v) make line run k = refl
  given_bound (Err e) make line run k = refl

  then_done : (run : Run) (g : Run → O) → run.end ≡ Done → then_told run g ≡ g run
  then_done run g e = ap (λ (x : End). going_told x run g) e

  then_then : (run : Run) (f : Run → Run) (g : Run → O) → then_told (then_do run f) g ≡ then_told run (λ r. then_told (f r) g)
  then_then run f g = by run.end refl
    where
      by : (x : End) → run.end ≡ x → then_told (going_on x run f) g ≡ going_told x run (λ r. then_told (f r) g)
      by Done e = refl
      by (Stopped l) e = ap (λ (z : End). going_told z run g) e
      by (Faulted k l) e = ap (λ (z : End). going_told z run g) e

  -- the same of the run itself
  then_here : (run : Run) (f g : Run → O) → (run.end ≡ Done → f run ≡ g run) → then_told run f ≡ then_told run g
  then_here run f g h = by run.end refl
    where
      by : (x : End) → run.end ≡ x → going_told x run f ≡ going_told x run g
      by Done e = h e
      by (Stopped l) e = refl
      by (Faulted k l) e = refl

  then_under : (run : Run) (f g : Run → O) → ((r : Run) → r.end ≡ Done → f r ≡ g r) → then_told run f ≡ then_told run g
  then_under run f g h = by run.end refl
    where
      by : (x : End) → run.end ≡ x → going_told x run f ≡ going_told x run g
      by Done e = h run e
      by (Stopped l) e = refl
      by (Faulted k l) e = refl

  then_add : (run : Run) (f : Run → List Opening) (g : Run → O) → then_told run (λ r. W.add (f r) (g r)) ≡ W.add (then_openings run f) (then_told run g)
  then_add run f g = by run.end
    where
      by : (x : End) → going_told x run (λ r. W.add (f r) (g r)) ≡ W.add (going_openings x run f) (going_told x run g)
      by Done = refl
      by (Stopped l) = sym (W.none (W.told run))
      by (Faulted k l) = sym (W.none (W.told run))

  given_add : {V : Type 0} (r : Result V Fault) (line : ℕ) (run : Run) (f : V → List Opening) (g : V → O) → given_told r line run (λ v. W.add (f v) (g v)) ≡ W.add (given_openings r f) (given_told r line run g)
  given_add (Ok v) line run f g = refl
  given_add (Err e) line run f g = sym (W.none (failed e line run))

  -- goes on with a value, behind what is opened with it
  pub given_more : {V : Type 0} (r : Result V Fault) (line : ℕ) (run : Run) (h : V → O) (f : V → List Opening) (g : V → Run) (N : Run → O) → ((x : V) → r ≡ Ok x → h x ≡ W.add (f x) (then_told (g x) N)) → given_told r line run h ≡ W.add (given_openings r f) (then_told (given r line run g) N)
  given_more r line run h f g N each =
      given_at r line run h (λ x. W.add (f x) (then_told (g x) N)) each ∙ given_add r line run f (λ x. then_told (g x) N) ∙ ap (W.add (given_openings r f)) (given_then r line run g N)

  module _ (A : Type 0) (D : Doing A) (p : Places) (meant : A → List ℤ → Run → O) (M : Acts A D p meant) where
    -- a continuation that doesn't look at what is left of a record
    abbrev after : A → Run → O
    after a run = meant a [] run

    -- the variable isn't the open loop's
    abbrev Free : Home → Type 0
    Free loop_index = ⊥
    Free _ = Unit {0}

    given_scalar : (h : Home) (r : Ref) (v : ℤ) (a : A) (left : List ℤ) (run : Run) → home_of p r.name ≡ h → Free h → meant (given_into A D p h r 0 v a) left run ≡ meant a left (written run r.name 0 v)
    given_scalar loop_index r v a left run e free = absurd free
    given_scalar (private_scalar x) r v a left run e free = M.sets r x v a left run e
    given_scalar in_store r v a left run e free = M.keeps r 0 v a left run e

    -- the home that a target has by its dimensions
    stored_meant : (line : ℕ) (x : Access) (v : ℤ) (a : A) (left : List ℤ) (run : Run) → Named p (accessed x) → Free (home_of p x.ref.name) → meant (stored_into A D p line x v a) left run ≡ given_told (target p.symbols run.store x) line run (λ n. meant a left (written run x.ref.name n v))
    stored_meant line x v a left run known free =
        let ds = dimensions_at p.symbols x.ref.cell in
        target_meant A (D.evaluate line) (process.on A D p line) run.store O (λ b. meant b left run) (λ e. failed e line run) (M.evaluates line left run) x.ref x.subscripts (λ n. given_into A D p (home p ds x.ref.name) x.ref n v a) known
        ∙ given_all (target p.symbols run.store x) line run (λ n. meant (given_into A D p (home p ds x.ref.name) x.ref n v a) left run)
        ∙ placed (target p.symbols run.store x) refl
      where
        same : home_of p x.ref.name ≡ home p (dimensions_at p.symbols x.ref.cell) x.ref.name
        same = ap (λ (ds : List Extent). home p ds x.ref.name) known.0

        given_at : (ds : List Extent) (n : ℕ) → home_of p x.ref.name ≡ home p ds x.ref.name → (ds ≡ [] → n ≡ 0) → Free (home p ds x.ref.name) → meant (given_into A D p (home p ds x.ref.name) x.ref n v a) left run ≡ meant a left (written run x.ref.name n v)
        given_at [] n e none ok =
            let z : n ≡ 0 = none refl in
            ap (λ (k : ℕ). meant (given_into A D p (home p [] x.ref.name) x.ref k v a) left run) z ∙ given_scalar (home p [] x.ref.name) x.ref v a left run e ok ∙ ap (λ (k : ℕ). meant a left (written run x.ref.name k v)) (sym z)
        given_at (d ∷ ds) n e none ok = M.keeps x.ref n v a left run e

        no_place : (r : Result (List ℤ) Fault) (ds : List Extent) (n : ℕ) → ds ≡ [] → (r >>= λ xs. Rattle.ast.specs.Symbols.place_of ds xs) ≡ Ok n → n ≡ 0
        no_place (Ok xs) ds n e h =
            let z : Ok 0 ≡ Ok n = sym (ap (λ (es : List Extent). Rattle.ast.specs.Symbols.place_of es xs) e) ∙ h in cc
        no_place (Err f) ds n e h = cc

        placed : (r : Result ℕ Fault) → target p.symbols run.store x ≡ r → given_told r line run (λ n. meant (given_into A D p (home p (dimensions_at p.symbols x.ref.cell) x.ref.name) x.ref n v a) left run) ≡ given_told r line run (λ n. meant a left (written run x.ref.name n v))
        placed (Ok n) e = given_at (dimensions_at p.symbols x.ref.cell) n same (λ z. no_place (meaning.values (looked_up p.symbols run.store) x.subscripts) (dimensions_in p.symbols x.ref.name) n (known.0 ∙ z) e) (subst Free same free)
        placed (Err f) e = refl

    -- ---- PRINT

    abbrev pub ItemsNamed : List PrintItem → Type 0
    ItemsNamed [] = Unit {0}
    ItemsNamed (value_item e ∷ items) = Named p e × ItemsNamed items
    ItemsNamed (text_item t ∷ items) = ItemsNamed items

    items_meant : (line : ℕ) (items : List PrintItem) (κ : List Printed → A) (left : List ℤ) (run : Run) → ItemsNamed items → meant (items_into A D p line items κ) left run ≡ given_told (printed (looked_up p.symbols run.store) items) line run (λ ps. meant (κ ps) left run)
    items_meant line [] κ left run w = refl
    items_meant line (text_item t ∷ items) κ left run w =
        items_meant line items (λ ps. κ (text t ∷ ps)) left run w ∙ given_bound (printed (looked_up p.symbols run.store) items) (λ ps. Ok (text t ∷ ps)) line run (λ ps. meant (κ ps) left run)
    items_meant line (value_item e ∷ items) κ left run w =
        term_meant A (D.evaluate line) (process.on A D p line) run.store O (λ b. meant b left run) (λ k. failed k line run) (M.evaluates line left run) e (λ v. items_into A D p line items (λ ps. κ (number v ∷ ps))) w.0
        ∙ given_on (value (looked_up p.symbols run.store) e) line run (λ v. meant (items_into A D p line items (λ ps. κ (number v ∷ ps))) left run)
        ∙ given_under (value (looked_up p.symbols run.store) e) line run (λ v. meant (items_into A D p line items (λ ps. κ (number v ∷ ps))) left run) (λ v. given_told (printed (looked_up p.symbols run.store) items >>= λ ps. Ok (number v ∷ ps)) line run (λ ps. meant (κ ps) left run)) (λ v.
        items_meant line items (λ ps. κ (number v ∷ ps)) left run w.1 ∙ given_bound (printed (looked_up p.symbols run.store) items) (λ ps. Ok (number v ∷ ps)) line run (λ ps. meant (κ ps) left run))
        ∙ given_bound (value (looked_up p.symbols run.store) e) (λ v. printed (looked_up p.symbols run.store) items >>= λ ps. Ok (number v ∷ ps)) line run (λ ps. meant (κ ps) left run)

    -- ---- READ

    abbrev pub ElementsNamed : List Access → Type 0
    ElementsNamed [] = Unit {0}
    ElementsNamed (x ∷ more) = Named p (accessed x) × Free (home_of p x.ref.name) × ElementsNamed more

    elements_meant : (line : ℕ) (xs : List Access) (a : A) (left : List ℤ) (run : Run) → ElementsNamed xs → run.end ≡ Done → meant (elements_into A D p line xs (D.drop_record a)) left run ≡ then_told (read_elements p.symbols line xs left run) (after a)
    elements_meant line [] a left run w e = M.drops a left run ∙ sym (then_done run (after a) e)
    elements_meant line (x ∷ more) a left run w e =
        M.gets line (λ v. stored_into A D p line x v (elements_into A D p line more (D.drop_record a))) left run
        ∙ given_under (next_integer left run.input) line run (λ y. meant (stored_into A D p line x y.0 (elements_into A D p line more (D.drop_record a))) y.1 (record run { input = y.2 })) (λ y. then_told (given (target p.symbols run.store x) line run (λ n. read_elements p.symbols line more y.1 (written (record run { input = y.2 }) x.ref.name n y.0))) (after a)) (λ y.
        stored_meant line x y.0 (elements_into A D p line more (D.drop_record a)) y.1 (record run { input = y.2 }) w.0 w.1
        ∙ later line y.2 (target p.symbols run.store x) (λ n. meant (elements_into A D p line more (D.drop_record a)) y.1 (written (record run { input = y.2 }) x.ref.name n y.0)) (λ n. read_elements p.symbols line more y.1 (written (record run { input = y.2 }) x.ref.name n y.0)) (λ n. elements_meant line more a y.1 (written (record run { input = y.2 }) x.ref.name n y.0) w.2 e))
        ∙ given_then (next_integer left run.input) line run (λ y. given (target p.symbols run.store x) line run (λ n. read_elements p.symbols line more y.1 (written (record run { input = y.2 }) x.ref.name n y.0))) (after a)
      where
        later : (line : ℕ) (i : List (List ℕ)) (r : Result ℕ Fault) (f : ℕ → O) (g : ℕ → Run) → ((n : ℕ) → f n ≡ then_told (g n) (after a)) → given_told r line (record run { input = i }) f ≡ then_told (given r line run g) (after a)
        later line i (Ok n) f g h = h n
        later line i (Err k) f g h = W.unread k line run i

    -- ---- statements that hold no others

    abbrev pub KindNamed : Kind → Type 0
    KindNamed (assign x e) = Named p e × Named p (accessed x) × Free (home_of p x.ref.name)
    KindNamed (print items) = ItemsNamed items
    KindNamed (read xs) = ElementsNamed xs
    KindNamed _ = Unit {0}

    pub value_meant : (line : ℕ) (e : Term) (κ : ℤ → A) (left : List ℤ) (run : Run) → Named p e → meant (term_into A (D.evaluate line) (process.on A D p line) e κ) left run ≡ given_told (value (looked_up p.symbols run.store) e) line run (λ v. meant (κ v) left run)
    value_meant line e κ left run w =
        term_meant A (D.evaluate line) (process.on A D p line) run.store O (λ b. meant b left run) (λ k. failed k line run) (M.evaluates line left run) e κ w ∙ given_on (value (looked_up p.symbols run.store) e) line run (λ v. meant (κ v) left run)

    nothing_meant : (a : A) (run : Run) → run.end ≡ Done → meant a [] run ≡ then_told run (after a)
    nothing_meant a run e = sym (then_done run (after a) e)

    pub kind_meant : (line : ℕ) (k : Kind) (a : A) (run : Run) → KindNamed k → run.end ≡ Done → meant (kind_into A D p line k a) [] run ≡ then_told (exec_plain p.symbols line k run) (after a)
    kind_meant line (assign x e) a run w d =
        value_meant line e (λ v. stored_into A D p line x v a) [] run w.0
        ∙ given_under (value (looked_up p.symbols run.store) e) line run (λ v. meant (stored_into A D p line x v a) [] run) (λ v. then_told (given (target p.symbols run.store x) line run (λ n. written run x.ref.name n v)) (after a)) (λ v.
        stored_meant line x v a [] run w.1 w.2
        ∙ given_under (target p.symbols run.store x) line run (λ n. meant a [] (written run x.ref.name n v)) (λ n. then_told (written run x.ref.name n v) (after a)) (λ n. nothing_meant a (written run x.ref.name n v) d)
        ∙ given_then (target p.symbols run.store x) line run (λ n. written run x.ref.name n v) (after a))
        ∙ given_then (value (looked_up p.symbols run.store) e) line run (λ v. given (target p.symbols run.store x) line run (λ n. written run x.ref.name n v)) (after a)
    kind_meant line (print items) a run w d =
        items_meant line items (λ ps. D.say (record_of ps) a) [] run w
        ∙ given_under (printed (looked_up p.symbols run.store) items) line run (λ ps. meant (D.say (record_of ps) a) [] run) (λ ps. then_told (record run { output = run.output ++ record_of ps }) (after a)) (λ ps.
        M.says (record_of ps) a [] run ∙ nothing_meant a (record run { output = run.output ++ record_of ps }) d)
        ∙ given_then (printed (looked_up p.symbols run.store) items) line run (λ ps. record run { output = run.output ++ record_of ps }) (after a)
    kind_meant line (read xs) a run w d =
        M.takes line (elements_into A D p line xs (D.drop_record a)) [] run
        ∙ given_under (taken run.input) line run (λ x. meant (elements_into A D p line xs (D.drop_record a)) x.0 (record run { input = x.1 })) (λ x. then_told (read_elements p.symbols line xs x.0 (record run { input = x.1 })) (after a)) (λ x. elements_meant line xs a x.0 (record run { input = x.1 }) w d)
        ∙ given_then (taken run.input) line run (λ x. read_elements p.symbols line xs x.0 (record run { input = x.1 })) (after a)
    kind_meant line stop a run w d = M.stops line [] run
    kind_meant line (program x) a run w d = nothing_meant a run d
    kind_meant line (integer x) a run w d = nothing_meant a run d
    kind_meant line (dimension x) a run w d = nothing_meant a run d
    kind_meant line (parameters x) a run w d = nothing_meant a run d
    kind_meant line (do_loop h) a run w d = nothing_meant a run d
    kind_meant line go_on a run w d = nothing_meant a run d
    kind_meant line (block_if e) a run w d = nothing_meant a run d
    kind_meant line (else_if e) a run w d = nothing_meant a run d
    kind_meant line else_arm a run w d = nothing_meant a run d
    kind_meant line end_if a run w d = nothing_meant a run d
    kind_meant line (logical_if e k) a run w d = nothing_meant a run d
    kind_meant line end a run w d = nothing_meant a run d

    -- ---- DO

    answered_told : (r : Result ℤ Fault) (line : ℕ) (κ : ℤ → A) (left : List ℤ) (run : Run) → meant (answered_into A (D.evaluate line) r κ) left run ≡ given_told r line run (λ v. meant (κ v) left run)
    answered_told (Ok v) line κ left run = (M.evaluates line left run).goes (κ v)
    answered_told (Err e) line κ left run = (M.evaluates line left run).faults e

    abbrev pub StepNamed : Option Term → Type 0
    StepNamed None = Unit {0}
    StepNamed (Some e) = Named p e

    step_meant : (line : ℕ) (e : Option Term) (κ : ℤ → A) (run : Run) → StepNamed e → meant (step_into A D p line e κ) [] run ≡ given_told (step_value (looked_up p.symbols run.store) e) line run (λ v. meant (κ v) [] run)
    step_meant line None κ run w = M.goes (κ (pos 1)) [] run
    step_meant line (Some e) κ run w = value_meant line e κ [] run w

    -- a variable of a DO
    pub record Counts (r : Ref) : Type 0 where
      pub scalar : home_of p r.name ≡ home p [] r.name
      pub free : Free (home p [] r.name)

    variable_meant : (r : Ref) (v : ℤ) (a : A) (run : Run) → Counts r → meant (variable_into A D p r v a) [] run ≡ meant a [] (written run r.name 0 v)
    variable_meant r v a run w = given_scalar (home p [] r.name) r v a [] run w.scalar w.free

    grown_meant : (line : ℕ) (r : Ref) (m3 : ℤ) (a : A) (run : Run) → Counts r → run.end ≡ Done → meant (grown_into A D p line r m3 a) [] run ≡ then_told (grown line r.name m3 run) (after a)
    grown_meant line r m3 a run w d =
        scalar_meant A (D.evaluate line) (process.on A D p line) run.store O (λ b. meant b [] run) (λ e. failed e line run) (M.evaluates line [] run) r (home p [] r.name) (λ v. D.local (answered_into A (D.evaluate line) (value_of Add v m3) (λ u. variable_into A D p r u (D.local a)))) w.scalar
        ∙ M.goes (answered_into A (D.evaluate line) (value_of Add (run.store r.name 0) m3) (λ u. variable_into A D p r u (D.local a))) [] run
        ∙ answered_told (value_of Add (run.store r.name 0) m3) line (λ u. variable_into A D p r u (D.local a)) [] run
        ∙ given_under (value_of Add (run.store r.name 0) m3) line run (λ u. meant (variable_into A D p r u (D.local a)) [] run) (λ u. then_told (written run r.name 0 u) (after a)) (λ u.
        variable_meant r u (D.local a) run w ∙ M.goes a [] (written run r.name 0 u) ∙ nothing_meant a (written run r.name 0 u) d)
        ∙ given_then (value_of Add (run.store r.name 0) m3) line run (λ u. written run r.name 0 u) (after a)

    -- what a part does from a run on: it opens these loops, and leads to that run
    abbrev Makes : (A → A) → (Run → List Opening) → (Run → Run) → Type 0
    Makes goes inner makes = (b : A) (r : Run) → r.end ≡ Done → RunFits p.symbols r → meant (goes b) [] r ≡ W.add (inner r) (then_told (makes r) (after b))

    turns_meant : (n : ℕ) (goes : A → A) (inner : Run → List Opening) (makes : Run → Run) (a : A) (run : Run) → Makes goes inner makes → ((r : Run) → RunFits p.symbols r → RunFits p.symbols (makes r)) → run.end ≡ Done → RunFits p.symbols run
        → meant (turns_into A D p goes n a) [] run ≡ W.add (turns_openings inner makes n run) (then_told (turns makes n run) (after a))
    turns_meant zero goes inner makes a run h keep d f = M.goes a [] run ∙ nothing_meant a run d ∙ sym (W.none (then_told run (after a)))
    turns_meant (suc n) goes inner makes a run h keep d f =
        M.goes (goes (turns_into A D p goes n a)) [] run
        ∙ h (turns_into A D p goes n a) run d f
        ∙ ap (W.add (inner run))
        (then_here (makes run) (after (turns_into A D p goes n a)) (λ r. W.add (turns_openings inner makes n r) (then_told (turns makes n r) (after a))) (λ e. turns_meant n goes inner makes a (makes run) h keep e (keep run f))
        ∙ then_add (makes run) (λ r. turns_openings inner makes n r) (λ r. then_told (turns makes n r) (after a))
        ∙ ap (W.add (then_openings (makes run) (λ r. turns_openings inner makes n r))) (sym (then_then (makes run) (turns makes n) (after a))))
        ∙ sym (W.more (inner run) (then_openings (makes run) (λ r. turns_openings inner makes n r)) (then_told (turns makes (suc n) run) (after a)))

    abbrev pub HeadNamed : DoHead → Type 0
    HeadNamed h = Named p h.first × Named p h.last × StepNamed h.step × Counts h.variable

    -- a DO that isn't opened
    module _ (line : ℕ) (h : DoHead) (range : A → A) (inner : Run → List Opening) (makes : Run → Run) (a : A) (run : Run) (w : HeadNamed h) (body : Makes range inner makes) (keep : (r : Run) → RunFits p.symbols r → RunFits p.symbols (makes r)) (d : run.end ≡ Done) (f : RunFits p.symbols run) where
      trip : (m3 : ℤ) → Makes (λ b. range (grown_into A D p line h.variable m3 b)) inner (turn line h.variable.name makes m3)
      trip m3 b r e g =
          body (grown_into A D p line h.variable m3 b) r e g
          ∙ ap (W.add (inner r))
          (then_under (makes r) (after (grown_into A D p line h.variable m3 b)) (λ x. then_told (grown line h.variable.name m3 x) (after b)) (λ x f. grown_meant line h.variable m3 b x w.3 f)
          ∙ sym (then_then (makes r) (λ x. grown line h.variable.name m3 x) (after b)))

      begun : (m1 m2 m3 : ℤ) → Fits m1 → (zero_step : Bool) → meant (if zero_step then (D.evaluate line).fails ZeroStep else D.local (variable_into A D p h.variable m1 (turns_into A D p (λ b. range (grown_into A D p line h.variable m3 b)) (trips m1 m2 m3) a))) [] run
          ≡ W.add (if zero_step then [] else turns_openings inner (turn line h.variable.name makes m3) (trips m1 m2 m3) (written run h.variable.name 0 m1))
          (then_told (if zero_step then record run { end = Faulted ZeroStep line } else turns (λ x. then_do (makes x) (λ y. grown line h.variable.name m3 y)) (trips m1 m2 m3) (written run h.variable.name 0 m1)) (after a))
      begun m1 m2 m3 g true = (M.evaluates line [] run).faults ZeroStep ∙ sym (W.none (failed ZeroStep line run))
      begun m1 m2 m3 g false =
          M.goes (variable_into A D p h.variable m1 (turns_into A D p (λ b. range (grown_into A D p line h.variable m3 b)) (trips m1 m2 m3) a)) [] run
          ∙ variable_meant h.variable m1 (turns_into A D p (λ b. range (grown_into A D p line h.variable m3 b)) (trips m1 m2 m3) a) run w.3
          ∙ turns_meant (trips m1 m2 m3) (λ b. range (grown_into A D p line h.variable m3 b)) inner (turn line h.variable.name makes m3) a (written run h.variable.name 0 m1) (trip m3)
          (λ r k. then_fits p.symbols (makes r) (λ y. grown line h.variable.name m3 y) (keep r k) (λ y l. grown_fits p.symbols line h.variable.name m3 y l)) d (put_fits run.store h.variable.name 0 m1 f g)

      abbrev look : meaning.LookUp
      look = looked_up p.symbols run.store

      abbrev loop_opens : ℤ → ℤ → ℤ → List Opening
      loop_opens m1 m2 m3 = loop_openings None line h.variable.name inner makes m1 m2 m3 run

      abbrev loop_made : ℤ → ℤ → ℤ → Run
      loop_made m1 m2 m3 = looped line h.variable.name makes m1 m2 m3 run

      abbrev loop_goes : ℤ → ℤ → ℤ → A
      loop_goes m1 m2 m3 = set_up_into A D p line m3 (variable_into A D p h.variable m1 (turns_into A D p (λ b. range (grown_into A D p line h.variable m3 b)) (trips m1 m2 m3) a))

      serial_meant : is_fitting h.first ≡ true → meant (serial_into A D p line h range a) [] run
          ≡ W.add (head_openings p.symbols None line h inner makes run)
          (then_told (given (value look h.first) line run (λ m1. given (value look h.last) line run (λ m2. given (step_value look h.step) line run (λ m3. loop_made m1 m2 m3)))) (after a))
      serial_meant wf =
          value_meant line h.first (λ m1. term_into A (D.evaluate line) (process.on A D p line) h.last (λ m2. step_into A D p line h.step (λ m3. loop_goes m1 m2 m3))) [] run w.0
          ∙ given_more (value look h.first) line run (λ m1. meant (term_into A (D.evaluate line) (process.on A D p line) h.last (λ m2. step_into A D p line h.step (λ m3. loop_goes m1 m2 m3))) [] run) (λ m1. given_openings (value look h.last) (λ m2. given_openings (step_value look h.step) (λ m3. loop_opens m1 m2 m3))) (λ m1. given (value look h.last) line run (λ m2. given (step_value look h.step) line run (λ m3. loop_made m1 m2 m3))) (after a) (λ m1 e1.
          value_meant line h.last (λ m2. step_into A D p line h.step (λ m3. loop_goes m1 m2 m3)) [] run w.1
          ∙ given_more (value look h.last) line run (λ m2. meant (step_into A D p line h.step (λ m3. loop_goes m1 m2 m3)) [] run) (λ m2. given_openings (step_value look h.step) (λ m3. loop_opens m1 m2 m3)) (λ m2. given (step_value look h.step) line run (λ m3. loop_made m1 m2 m3)) (after a) (λ m2 e2.
          step_meant line h.step (λ m3. loop_goes m1 m2 m3) run w.2
          ∙ given_more (step_value look h.step) line run (λ m3. meant (loop_goes m1 m2 m3) [] run) (λ m3. loop_opens m1 m2 m3) (λ m3. loop_made m1 m2 m3) (after a) (λ m3 e3. begun m1 m2 m3 (expression_fits p.symbols run.store f h.first wf m1 e1) (int_eq m3 (pos 0)))))

    -- ---- blocks

    -- opens: the loops whose iterations are run at once
    module _ (opens : ℕ → Option ℕ) where
      -- an opened loop does what the sequential one does
      abbrev pub LoopNamed : Option ℕ → ℕ → DoHead → Block → Type 0 → Type 0
      LoopNamed None line h b inner = HeadNamed h × inner
      LoopNamed (Some n) line h b inner =
          (a : A) (run : Run) → run.end ≡ Done → RunFits p.symbols run
          → meant (opened_into A D p line h n a) [] run ≡ W.add (head_openings p.symbols (Some n) line h (λ r. block_openings p.symbols opens b r) (λ r. exec_block p.symbols b r) run) (then_told (exec p.symbols (tree.loop line h b) run) (after a))

      abbrev mutual
        pub NodeNamed : Node → Type 0
        NodeNamed (tree.plain s) = KindNamed s.kind
        NodeNamed (tree.loop line h b) = LoopNamed (opens h.variable.id) line h b (BlockNamed b)
        NodeNamed (tree.choose arms) = ArmsNamed arms

        pub BlockNamed : Block → Type 0
        BlockNamed tree.no_nodes = Unit {0}
        BlockNamed (tree.then_node n b) = NodeNamed n × BlockNamed b

        pub ArmsNamed : Arms → Type 0
        ArmsNamed tree.no_arms = Unit {0}
        ArmsNamed (tree.then_arm line None b more) = BlockNamed b
        ArmsNamed (tree.then_arm line (Some c) b more) = Named p c × BlockNamed b × ArmsNamed more

      loop_meant : (o : Option ℕ) (line : ℕ) (h : DoHead) (b : Block) (inner : Type 0) (a : A) (run : Run) → LoopNamed o line h b inner → is_fitting h.first ≡ true → are_fitting b ≡ true → (inner → Makes (λ x. block_into A D p opens (plain_block b) x) (λ r. block_openings p.symbols opens b r) (λ r. exec_block p.symbols b r)) → run.end ≡ Done → RunFits p.symbols run
          → meant (loop_into A D p o line h (λ x. block_into A D p opens (plain_block b) x) a) [] run
          ≡ W.add (head_openings p.symbols o line h (λ r. block_openings p.symbols opens b r) (λ r. exec_block p.symbols b r) run) (then_told (exec p.symbols (tree.loop line h b) run) (after a))
      loop_meant None line h b inner a run w wf bf body d f = serial_meant line h (λ x. block_into A D p opens (plain_block b) x) (λ r. block_openings p.symbols opens b r) (λ r. exec_block p.symbols b r) a run w.0 (body w.1) (λ r k. block_fits p.symbols b r bf k) d f wf
      loop_meant (Some n) line h b inner a run w wf bf body d f = w a run d f

      unless_last : (b : Bool) (x a : A) (inner : List Opening) (run last : Run) → run.end ≡ Done → meant x [] run ≡ W.add inner (then_told last (after a)) → meant (if b then a else x) [] run ≡ W.add (if b then [] else inner) (then_told (if b then run else last) (after a))
      unless_last true x a inner run last d h = nothing_meant a run d ∙ sym (W.none (then_told run (after a)))
      unless_last false x a inner run last d h = h

      chosen_meant : (b : Bool) (x y : A) (a : A) (first second : List Opening) (run one other : Run) → meant x [] run ≡ W.add first (then_told one (after a)) → meant y [] run ≡ W.add second (then_told other (after a)) → meant (if b then x else y) [] run ≡ W.add (if b then first else second) (then_told (if b then one else other) (after a))
      chosen_meant true x y a first second run one other h k = h
      chosen_meant false x y a first second run one other h k = k

      mutual
        pub node_meant : (n : Node) (a : A) (run : Run) → NodeNamed n → Fit (node_expressions n) → run.end ≡ Done → RunFits p.symbols run → meant (node_into A D p opens (plain_node n) a) [] run ≡ W.add (node_openings p.symbols opens n run) (then_told (exec p.symbols n run) (after a))
        node_meant (tree.plain s) a run w v d f = kind_meant s.line s.kind a run w d ∙ sym (W.none (then_told (exec_plain p.symbols s.line s.kind run) (after a)))
        node_meant (tree.loop line h b) a run w v d f =
            let q = fit_parts (head_expressions h) (block_expressions b) v in
            loop_meant (opens h.variable.id) line h b (BlockNamed b) a run w (and_parts (is_fitting h.first) _ q.0).0 q.1 (λ n x r e k. block_meant b x r n q.1 e k) d f
        node_meant (tree.choose arms) a run w v d f = arms_meant arms a run w v d f

        pub block_meant : (b : Block) (a : A) (run : Run) → BlockNamed b → are_fitting b ≡ true → run.end ≡ Done → RunFits p.symbols run → meant (block_into A D p opens (plain_block b) a) [] run ≡ W.add (block_openings p.symbols opens b run) (then_told (exec_block p.symbols b run) (after a))
        block_meant tree.no_nodes a run w v d f = nothing_meant a run d ∙ sym (W.none (then_told run (after a)))
        block_meant (tree.then_node n b) a run w v d f =
            let q = fit_parts (node_expressions n) (block_expressions b) v in
            let first = node_openings p.symbols opens n run in
            let second = then_openings (exec p.symbols n run) (λ r. block_openings p.symbols opens b r) in
            ap (λ (z : Bool). meant (if z then a else node_into A D p opens (plain_node n) (block_into A D p opens (plain_block b) a)) [] run) (last_same n b)
            ∙ unless_last (meaning.is_last_stop n b) (node_into A D p opens (plain_node n) (block_into A D p opens (plain_block b) a)) a (first ++ second) run (then_do (exec p.symbols n run) (λ r. exec_block p.symbols b r)) d
            (node_meant n (block_into A D p opens (plain_block b) a) run w.0 q.0 d f
            ∙ ap (W.add first)
            (then_here (exec p.symbols n run) (after (block_into A D p opens (plain_block b) a)) (λ r. W.add (block_openings p.symbols opens b r) (then_told (exec_block p.symbols b r) (after a))) (λ e. block_meant b a (exec p.symbols n run) w.1 q.1 e (node_fits p.symbols n run q.0 f))
            ∙ then_add (exec p.symbols n run) (λ r. block_openings p.symbols opens b r) (λ r. then_told (exec_block p.symbols b r) (after a))
            ∙ ap (W.add second) (sym (then_then (exec p.symbols n run) (λ r. exec_block p.symbols b r) (after a))))
            ∙ sym (W.more first second (then_told (then_do (exec p.symbols n run) (λ r. exec_block p.symbols b r)) (after a))))

        pub arms_meant : (arms : Arms) (a : A) (run : Run) → ArmsNamed arms → Fit (arms_expressions arms) → run.end ≡ Done → RunFits p.symbols run → meant (arms_into A D p opens (plain_arms arms) a) [] run ≡ W.add (arms_openings p.symbols opens arms run) (then_told (exec_arms p.symbols arms run) (after a))
        arms_meant tree.no_arms a run w v d f = nothing_meant a run d ∙ sym (W.none (then_told run (after a)))
        arms_meant (tree.then_arm line None b more) a run w v d f = block_meant b a run w (fit_parts (block_expressions b) (arms_expressions more) v).0 d f
        arms_meant (tree.then_arm line (Some c) b more) a run w v d f =
            let q = fit_parts (c ∷ block_expressions b) (arms_expressions more) v in
            let q1 = and_parts (is_fitting c) (list_all (λ e. is_fitting e) (block_expressions b)) q.0 in
            value_meant line c (λ v. D.local (if is_true v then block_into A D p opens (plain_block b) (D.local a) else arms_into A D p opens (plain_arms more) a)) [] run w.0
            ∙ given_more (value (looked_up p.symbols run.store) c) line run (λ v. meant (D.local (if is_true v then block_into A D p opens (plain_block b) (D.local a) else arms_into A D p opens (plain_arms more) a)) [] run) (λ v. if is_true v then block_openings p.symbols opens b run else arms_openings p.symbols opens more run) (λ v. if is_true v then exec_block p.symbols b run else exec_arms p.symbols more run) (after a) (λ u e.
            M.goes (if is_true u then block_into A D p opens (plain_block b) (D.local a) else arms_into A D p opens (plain_arms more) a) [] run
            ∙ chosen_meant (is_true u) (block_into A D p opens (plain_block b) (D.local a)) (arms_into A D p opens (plain_arms more) a) a (block_openings p.symbols opens b run) (arms_openings p.symbols opens more run) run (exec_block p.symbols b run) (exec_arms p.symbols more run)
            (block_meant b (D.local a) run w.1 q1.1 d f ∙ ap (W.add (block_openings p.symbols opens b run)) (then_under (exec_block p.symbols b run) (after (D.local a)) (after a) (λ r e. M.goes a [] r)))
            (arms_meant more a run w.2 q.1 d f))
