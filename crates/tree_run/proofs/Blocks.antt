-- Laws of blocks.
use Rattle.std.proofs.Common.{◌≡◌, ◌∙◌, ◌+◌, ◌-◌, ◌<◌, ◌≤◌, ℕ, suc, Bool, true, false, List, ◌∷◌, Option, Some, None, Result, Ok, Err, refl, ap, sym, subst, length, map, drop, take, get_or}
use Rattle.std.proofs.lemmas.List.{drop_all, drop_more}
use Rattle.std.specs.Prelude.{ℤ, IsErrAnd, if◌then◌else◌}
use Rattle.ast.specs.Exact.{is_true}
use Rattle.ast.specs.Meaning.{Run, exec, exec_arms, exec_block, given, going_on, grown, is_last_stop_of, looked_up, looped, read_elements, step_value, target, then_do, turns, value, written}
use Rattle.ast.specs.Results.{◌>>=◌}
use Rattle.ast.specs.Symbols.{Symbol}
use Rattle.ast.specs.Tree as tree
use Rattle.ast.specs.Tree.{Arms, Block, DoHead, Term, arms as arms_of, loop, no_nodes, then_arm, then_node}
use Rattle.ast.specs.View.{access as access_of, arm as arm_of, block_view, node as node_of, optional_term}
use Rattle.ast.specs.Input.{next_integer}
use Rattle.ast.specs.declared.expression.Access.{Access}
use Rattle.ast.specs.declared.fault.End.{End}
use Rattle.ast.specs.declared.fault.End.TheVariants.{Done, Fault as Faulted}
use Rattle.ast.specs.declared.fault.Fault.{Fault}
use Rattle.ast.specs.declared.tree.Arm.{Arm}
use Rattle.ast.specs.declared.tree.Node.{Node}
use Rattle.ast.proofs.Nodes.{line_of, condition_of, body_of}
use Rattle.ast.proofs.Lists.{part_left}
use Rattle.tree_run.specs.Executing.{holds_at}
use Rattle.tree_run.specs.Placed.{PlacedAccess, PlacedAccesses, PlacedArms, PlacedBlock, PlacedNode, PlacedOptional}
use Rattle.tree_run.specs.Runs.{Completes, GivesValue, Reaches, closed, run_of}
use Rattle.tree_run.specs.declared.machine.Machine.{Machine}
use Rattle.tree_run.specs.declared.stop.Stop.{Stop}
use Rattle.tree_run.specs.declared.stop.Stop.TheVariants.{Memory, Fault as Fails, Stopped as Stops}
use Rattle.tree_run.proofs.Evaluating.{failed}

-- a run that has ended goes on with nothing
ended : (m : Machine) (s : Stop) (meant : Run) (next : Run → Run) → Reaches (Err s) (run_of m) meant → Reaches (Err s) (run_of m) (then_do meant next)
ended m (Memory e) meant next h = tt
ended m (Fails f l) meant next h = h ∙ ap (λ (x : End). closed (going_on x meant next)) (ap (λ (r : Run). r.end) h)
ended m (Stops l) meant next h = h ∙ ap (λ (x : End). closed (going_on x meant next)) (ap (λ (r : Run). r.end) h)

completed : (m : Machine) (s : Stop) (meant : Run) → Completes (Err s) (run_of m) meant → Reaches (Err s) (run_of m) meant
completed m (Memory e) meant h = tt
completed m (Fails f l) meant h = h
completed m (Stops l) meant h = h

-- a call that failed has ended the run so
fails_at : (r : Result (Unit {0}) Stop) (m : Machine) (s : Stop) (meant whole : Run) → IsErrAnd r (λ e. e ≡ s) → Reaches (Err s) (run_of m) meant → meant ≡ whole → Reaches r (run_of m) whole
fails_at r m s meant whole is h w =
    subst (λ (t : Result (Unit {0}) Stop). Reaches t (run_of m) whole) (sym (failed r s is)) (subst (λ (run : Run). Reaches (Err s) (run_of m) run) w h)

-- one trip of a loop that goes on
pub turned : (ss : List Symbol) (b : Block) (line : ℕ) (name : List ℕ) (step : ℤ) (n : ℕ) (run mid after : Run) → mid ≡ exec_block ss b run → mid.end ≡ Done → after ≡ grown line name step mid → after.end ≡ Done → turns (λ before. then_do (exec_block ss b before) (λ next. grown line name step next)) (suc n) run ≡ turns (λ before. then_do (exec_block ss b before) (λ next. grown line name step next)) n after
turned ss b line name step n run mid after e d f g =
    let once : then_do (exec_block ss b run) (λ next. grown line name step next) ≡ after =
    ap (λ (r : Run). then_do r (λ next. grown line name step next)) (sym e) ∙ ap (λ (x : End). going_on x mid (λ next. grown line name step next)) d ∙ sym f in
    ap (λ (r : Run). then_do r (λ next. turns (λ before. then_do (exec_block ss b before) (λ next. grown line name step next)) n next)) once
    ∙ ap (λ (x : End). going_on x after (λ next. turns (λ before. then_do (exec_block ss b before) (λ next. grown line name step next)) n next)) g

-- and one that doesn't
pub trip_failed : (r : Result (Unit {0}) Stop) (m : Machine) (s : Stop) (ss : List Symbol) (b : Block) (line : ℕ) (name : List ℕ) (step : ℤ) (n : ℕ) (run whole : Run) → turns (λ before. then_do (exec_block ss b before) (λ next. grown line name step next)) (suc n) run ≡ whole → IsErrAnd r (λ e. e ≡ s) → Reaches (Err s) (run_of m) (exec_block ss b run) → Reaches r (run_of m) whole
trip_failed r m s ss b line name step n run whole so_far failing reached =
    let grow : Run → Run = λ (next : Run). grown line name step next in
    let trip : Run → Run = λ (before : Run). then_do (exec_block ss b before) grow in
    fails_at r m s (turns trip (suc n) run) whole failing (ended m s (trip run) (λ (after : Run). turns trip n after) (ended m s (exec_block ss b run) grow reached)) so_far

pub growth_failed : (r : Result (Unit {0}) Stop) (m : Machine) (s : Stop) (ss : List Symbol) (b : Block) (line : ℕ) (name : List ℕ) (step : ℤ) (n : ℕ) (run mid whole : Run) → mid ≡ exec_block ss b run → mid.end ≡ Done → turns (λ before. then_do (exec_block ss b before) (λ next. grown line name step next)) (suc n) run ≡ whole → IsErrAnd r (λ e. e ≡ s) → Completes (Err s) (run_of m) (grown line name step mid) → Reaches r (run_of m) whole
growth_failed r m s ss b line name step n run mid whole e d so_far failing reached =
    let grow : Run → Run = λ (next : Run). grown line name step next in
    let trip : Run → Run = λ (before : Run). then_do (exec_block ss b before) grow in
    let once : trip run ≡ grow mid = ap (λ (x : Run). then_do x grow) (sym e) ∙ ap (λ (x : End). going_on x mid grow) d in
    fails_at r m s (turns trip (suc n) run) whole failing (ended m s (trip run) (λ (after : Run). turns trip n after) (subst (λ (x : Run). Reaches (Err s) (run_of m) x) (sym once) (completed m s (grow mid) reached))) so_far

-- a loop whose parameters have values
pub entered : (ss : List Symbol) (line : ℕ) (h : DoHead) (b : Block) (run : Run) (m1 m2 m3 : ℤ) → value (looked_up ss run.store) h.first ≡ Ok m1 → value (looked_up ss run.store) h.last ≡ Ok m2 → step_value (looked_up ss run.store) h.step ≡ Ok m3 → exec ss (loop line h b) run ≡ looped line h.variable.name (λ before. exec_block ss b before) m1 m2 m3 run
entered ss line h b run m1 m2 m3 e f g = rw (e, f, g) refl

-- the next node of a block, and the others
pub next_node : (ns : List Node) (i : ℕ) (n : Node) → i < length ns → n ≡ get_or ns i n → block_view (drop i ns) ≡ then_node (node_of n) (block_view (drop (i + 1) ns))
next_node ns i n h is =
    ap (λ (ms : List Node). block_view ms) (drop_more ns i n h)
    ∙ ap (λ (m : Node). then_node (node_of m) (block_view (drop (i + 1) ns))) (sym is)

pub placed_node : (ss : List Symbol) (ns : List Node) (i : ℕ) (n : Node) → i < length ns → n ≡ get_or ns i n → PlacedBlock ss (block_view (drop i ns)) → PlacedNode ss (node_of n) × PlacedBlock ss (block_view (drop (i + 1) ns))
placed_node ss ns i n h is p = subst (λ (b : Block). PlacedBlock ss b) (next_node ns i n h is) p

no_stop : (ss : List Symbol) (n : tree.Node) (b : Block) (run : Run) → is_last_stop_of (then_node n b) ≡ false → then_do (exec ss n run) (λ after. exec_block ss b after) ≡ exec_block ss (then_node n b) run
no_stop ss n b run is = ap (λ (x : Bool). if x then run else then_do (exec ss n run) (λ after. exec_block ss b after)) (sym is)

-- a block begins with a node that no END follows
begun : (ss : List Symbol) (ns : List Node) (i : ℕ) (n : Node) (run whole : Run) → i < length ns → n ≡ get_or ns i n → is_last_stop_of (block_view (take (length ns - i) (drop i ns))) ≡ false → exec_block ss (block_view (drop i ns)) run ≡ whole → then_do (exec ss (node_of n) run) (λ after. exec_block ss (block_view (drop (i + 1) ns)) after) ≡ whole
begun ss ns i n run whole h is tested so_far =
    let here = next_node ns i n h is in
    no_stop ss (node_of n) (block_view (drop (i + 1) ns)) run (sym (ap (λ (b : Block). is_last_stop_of b) here) ∙ sym (ap (λ (ms : List Node). is_last_stop_of (block_view ms)) (part_left ns i)) ∙ tested)
    ∙ sym (ap (λ (b : Block). exec_block ss b run) here)
    ∙ so_far

pub node_done : (ss : List Symbol) (ns : List Node) (i : ℕ) (n : Node) (run mid whole : Run) → i < length ns → n ≡ get_or ns i n → is_last_stop_of (block_view (take (length ns - i) (drop i ns))) ≡ false → exec_block ss (block_view (drop i ns)) run ≡ whole → mid ≡ exec ss (node_of n) run → mid.end ≡ Done → exec_block ss (block_view (drop (i + 1) ns)) mid ≡ whole
node_done ss ns i n run mid whole h is tested so_far done d =
    let next : Run → Run = λ (after : Run). exec_block ss (block_view (drop (i + 1) ns)) after in
    sym (ap (λ (x : End). going_on x mid next) d)
    ∙ ap (λ (r : Run). then_do r next) done
    ∙ begun ss ns i n run whole h is tested so_far

pub node_failed : (r : Result (Unit {0}) Stop) (m : Machine) (s : Stop) (ss : List Symbol) (ns : List Node) (i : ℕ) (n : Node) (run whole : Run) → i < length ns → n ≡ get_or ns i n → is_last_stop_of (block_view (take (length ns - i) (drop i ns))) ≡ false → exec_block ss (block_view (drop i ns)) run ≡ whole → IsErrAnd r (λ e. e ≡ s) → Reaches (Err s) (run_of m) (exec ss (node_of n) run) → Reaches r (run_of m) whole
node_failed r m s ss ns i n run whole h is tested so_far failing reached =
    let next : Run → Run = λ (after : Run). exec_block ss (block_view (drop (i + 1) ns)) after in
    fails_at r m s (then_do (exec ss (node_of n) run) next) whole failing (ended m s (exec ss (node_of n) run) next reached) (begun ss ns i n run whole h is tested so_far)

pub all_done : (ss : List Symbol) (ns : List Node) (i : ℕ) (run whole : Run) → length ns ≤ i → exec_block ss (block_view (drop i ns)) run ≡ whole → run ≡ whole
all_done ss ns i run whole h so_far = sym (ap (λ (ms : List Node). exec_block ss (block_view ms) run) (drop_all i ns h)) ∙ so_far

at_stop : (ss : List Symbol) (b : Block) (run : Run) → is_last_stop_of b ≡ true → run ≡ exec_block ss b run
at_stop ss no_nodes run is = refl
at_stop ss (then_node n b) run is = ap (λ (x : Bool). if x then run else then_do (exec ss n run) (λ after. exec_block ss b after)) (sym is)

pub stopped : (ss : List Symbol) (ns : List Node) (i : ℕ) (run whole : Run) → is_last_stop_of (block_view (take (length ns - i) (drop i ns))) ≡ true → exec_block ss (block_view (drop i ns)) run ≡ whole → run ≡ whole
stopped ss ns i run whole tested so_far =
    at_stop ss (block_view (drop i ns)) run (sym (ap (λ (ms : List Node). is_last_stop_of (block_view ms)) (part_left ns i)) ∙ tested)
    ∙ so_far

-- the next arm, and the others
next_arm : (xs : List Arm) (i : ℕ) (a : Arm) → i < length xs → a ≡ get_or xs i a → arms_of (map arm_of (drop i xs)) ≡ then_arm a.line (optional_term a.condition) (block_view a.body.items) (arms_of (map arm_of (drop (i + 1) xs)))
next_arm xs i a h is =
    let others = arms_of (map arm_of (drop (i + 1) xs)) in
    ap (λ (ys : List Arm). arms_of (map arm_of ys)) (drop_more xs i a h ∙ ap (λ (y : Arm). y ∷ drop (i + 1) xs) (sym is))
    ∙ ap (λ (n : ℕ). then_arm n (arm_of a).condition (arm_of a).body others) (line_of a)
    ∙ ap (λ (o : Option Term). then_arm a.line o (arm_of a).body others) (condition_of a)
    ∙ ap (λ (b : Block). then_arm a.line (optional_term a.condition) b others) (body_of a)

pub placed_arm : (ss : List Symbol) (xs : List Arm) (i : ℕ) (a : Arm) → i < length xs → a ≡ get_or xs i a → PlacedArms ss (arms_of (map arm_of (drop i xs))) → PlacedOptional ss (optional_term a.condition) × PlacedBlock ss (block_view a.body.items) × PlacedArms ss (arms_of (map arm_of (drop (i + 1) xs)))
placed_arm ss xs i a h is p = subst (λ (arms : Arms). PlacedArms ss arms) (next_arm xs i a h is) p

tested_by : (v : Result ℤ Fault) (line : ℕ) (run this that : Run) → given (v >>= λ n. Ok (is_true n)) line run (λ (t : Bool). if t then this else that) ≡ given v line run (λ n. if is_true n then this else that)
tested_by (Ok n) line run this that = refl
tested_by (Err f) line run this that = refl

arm_tested : (ss : List Symbol) (line : ℕ) (c : Option Term) (b : Block) (more : Arms) (run : Run) → given (holds_at (looked_up ss run.store) c) line run (λ (t : Bool). if t then exec_block ss b run else exec_arms ss more run) ≡ exec_arms ss (then_arm line c b more) run
arm_tested ss line None b more run = refl
arm_tested ss line (Some c) b more run = tested_by (value (looked_up ss run.store) c) line run (exec_block ss b run) (exec_arms ss more run)

tested_at : (ss : List Symbol) (xs : List Arm) (i : ℕ) (a : Arm) (run whole : Run) → i < length xs → a ≡ get_or xs i a → exec_arms ss (arms_of (map arm_of (drop i xs))) run ≡ whole → given (holds_at (looked_up ss run.store) (optional_term a.condition)) a.line run (λ (t : Bool). if t then exec_block ss (block_view a.body.items) run else exec_arms ss (arms_of (map arm_of (drop (i + 1) xs))) run) ≡ whole
tested_at ss xs i a run whole h is so_far =
    arm_tested ss a.line (optional_term a.condition) (block_view a.body.items) (arms_of (map arm_of (drop (i + 1) xs))) run
    ∙ sym (ap (λ (arms : Arms). exec_arms ss arms run) (next_arm xs i a h is))
    ∙ so_far

pub arm_taken : (ss : List Symbol) (xs : List Arm) (i : ℕ) (a : Arm) (ns : List Node) (run whole : Run) → i < length xs → a ≡ get_or xs i a → ns ≡ a.body.items → holds_at (looked_up ss run.store) (optional_term a.condition) ≡ Ok true → exec_arms ss (arms_of (map arm_of (drop i xs))) run ≡ whole → exec_block ss (block_view ns) run ≡ whole
arm_taken ss xs i a ns run whole h is same holds so_far =
    ap (λ (ms : List Node). exec_block ss (block_view ms) run) same
    ∙ sym (ap (λ (v : Result Bool Fault). given v a.line run (λ (t : Bool). if t then exec_block ss (block_view a.body.items) run else exec_arms ss (arms_of (map arm_of (drop (i + 1) xs))) run)) holds)
    ∙ tested_at ss xs i a run whole h is so_far

pub arm_passed : (ss : List Symbol) (xs : List Arm) (i : ℕ) (a : Arm) (run whole : Run) → i < length xs → a ≡ get_or xs i a → holds_at (looked_up ss run.store) (optional_term a.condition) ≡ Ok false → exec_arms ss (arms_of (map arm_of (drop i xs))) run ≡ whole → exec_arms ss (arms_of (map arm_of (drop (i + 1) xs))) run ≡ whole
arm_passed ss xs i a run whole h is holds so_far =
    sym (ap (λ (v : Result Bool Fault). given v a.line run (λ (t : Bool). if t then exec_block ss (block_view a.body.items) run else exec_arms ss (arms_of (map arm_of (drop (i + 1) xs))) run)) holds)
    ∙ tested_at ss xs i a run whole h is so_far

value_failed : (m : Machine) (s : Stop) (line : ℕ) (v : Result Bool Fault) (next : Bool → Run) → GivesValue (Err s) line v → Reaches (Err s) (run_of m) (given v line (run_of m Done) next)
value_failed m (Memory e) line v next h = absurd h
value_failed m (Fails f l) line v next h =
    ap (λ (n : ℕ). closed (run_of m (Faulted f n))) h.1
    ∙ ap (λ (x : Result Bool Fault). closed (given x line (run_of m Done) next)) (sym h.0)
value_failed m (Stops l) line v next h = absurd h

pub arm_failed : (r : Result (Unit {0}) Stop) (m : Machine) (s : Stop) (ss : List Symbol) (xs : List Arm) (i : ℕ) (a : Arm) (whole : Run) → i < length xs → a ≡ get_or xs i a → exec_arms ss (arms_of (map arm_of (drop i xs))) (run_of m Done) ≡ whole → IsErrAnd r (λ e. e ≡ s) → GivesValue (Err s) a.line (holds_at (looked_up ss (run_of m Done).store) (optional_term a.condition)) → Reaches r (run_of m) whole
arm_failed r m s ss xs i a whole h is so_far failing given_value =
    let run = run_of m Done in
    let next : Bool → Run = λ (t : Bool). if t then exec_block ss (block_view a.body.items) run else exec_arms ss (arms_of (map arm_of (drop (i + 1) xs))) run in
    let v = holds_at (looked_up ss run.store) (optional_term a.condition) in
    fails_at r m s (given v a.line run next) whole failing (value_failed m s a.line v next given_value) (tested_at ss xs i a run whole h is so_far)

pub all_tested : (ss : List Symbol) (xs : List Arm) (i : ℕ) (run whole : Run) → length xs ≤ i → exec_arms ss (arms_of (map arm_of (drop i xs))) run ≡ whole → run ≡ whole
all_tested ss xs i run whole h so_far = sym (ap (λ (ys : List Arm). exec_arms ss (arms_of (map arm_of ys)) run) (drop_all i xs h)) ∙ so_far

-- the next element of a READ, and the others
stored : (v : Result ℕ Fault) (line : ℕ) (run mid new : Run) (put : ℕ → Run) (on : Run → Run) → new ≡ given v line mid put → new.end ≡ Done → on new ≡ given v line run (λ p. on (put p))
stored (Ok p) line run mid new put on e d = ap on e
stored (Err f) line run mid new put on e d = let bad : Done ≡ Faulted f line = sym d ∙ ap (λ (r : Run). r.end) e in cc

pub element_read : (ss : List Symbol) (line : ℕ) (es : List Access) (i : ℕ) (a : Access) (x : ℤ) (xs left : List ℤ) (rs : List (List ℕ)) (run new whole : Run) → i < length es → a ≡ get_or es i a → next_integer left run.input ≡ Ok (x, xs, rs)
    → new ≡ given (target ss run.store (access_of a)) line (record run { input = rs }) (λ p. written (record run { input = rs }) (access_of a).ref.name p x) → new.end ≡ Done
    → read_elements ss line (map access_of (drop i es)) left run ≡ whole → read_elements ss line (map access_of (drop (i + 1) es)) xs new ≡ whole
element_read ss line es i a x xs left rs run new whole h is next put d so_far =
    let more = map access_of (drop (i + 1) es) in
    stored (target ss run.store (access_of a)) line run (record run { input = rs }) new (λ p. written (record run { input = rs }) (access_of a).ref.name p x) (λ (r : Run). read_elements ss line more xs r) put d
    ∙ sym (ap (λ (v : Result (ℤ × List ℤ × List (List ℕ)) Fault). given v line run (λ y. given (target ss run.store (access_of a)) line run (λ p. read_elements ss line more y.1 (written (record run { input = y.2 }) (access_of a).ref.name p y.0)))) next)
    ∙ sym (ap (λ (l : List Access). read_elements ss line (map access_of l) left run) (drop_more es i a h ∙ ap (λ (b : Access). b ∷ drop (i + 1) es) (sym is)))
    ∙ so_far

pub placed_access : (ss : List Symbol) (es : List Access) (i : ℕ) (a : Access) → i < length es → a ≡ get_or es i a → PlacedAccesses ss (map access_of (drop i es)) → PlacedAccess ss (access_of a) × PlacedAccesses ss (map access_of (drop (i + 1) es))
placed_access ss es i a h is p = subst (λ (l : List Access). PlacedAccesses ss (map access_of l)) (drop_more es i a h ∙ ap (λ (b : Access). b ∷ drop (i + 1) es) (sym is)) p
