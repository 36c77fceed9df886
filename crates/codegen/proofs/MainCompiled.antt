-- What emitted code cites stands where it looks for it.
use Rattle.std.proofs.Common.{◌≡◌, ◌+◌, ◌≤◌, ◌^◌, ℕ, Bool, true, false, List, [], ◌∷◌, ◌++◌, Option, Some, None, length, refl, arith, length-append}
use Rattle.std.specs.Prelude.{map, if◌then◌else◌}
use Rattle.std.specs.List.{list_all}
use Rattle.ast.specs.Meaning.{are_stop_and_end}
use Rattle.ast.specs.Program.{is_placed}
use Rattle.ast.specs.References.{arms_expressions, block_expressions, expressions_references, head_expressions, items_expressions, kind_expressions, node_expressions, optional, term_references}
use Rattle.ast.specs.Symbols.{is_sized}
use Rattle.ast.specs.Tree as tree
use Rattle.ast.specs.Tree.{Ref, Access, accessed, Term, element, no_terms, PrintItem, value_item, text_item, DoHead, Kind, assign, print, read, stop, program, integer, dimension, parameters, do_loop, go_on, block_if, else_if, else_arm, end_if, logical_if, end, Node, Block, Arms}
use Rattle.dependence.specs.Plan.{PlanNode, awaits, advances, plain, loop, choose, PlanBlock, no_nodes, then_node, PlanArms, no_arms, made_else, then_arm}
use Rattle.machine.specs.Code.{Code, Part}
use Rattle.machine.specs.declared.instr.Act.TheVariants as acts
use Rattle.machine.specs.declared.instr.Instr.{Instr}
use Rattle.expr_code.specs.Computes.{HasVariables}
use Rattle.expr_code.specs.Emitted.{given_act, instr, short, term_code}
use Rattle.expr_code.specs.Places.{Places, dimensions_at, home}
use Rattle.expr_code.proofs.Running.{Reaches}
use Rattle.codegen.specs.Emitted.{arms_code, arms_records, block_awaits, block_code, block_records, chosen_code, elements_code, grown_code, if_serial, items_code, kind_code, kind_records, loop_code, node_awaits, node_code, node_records, serial_code, step_code, stored_code, turns_code, variable_code}
use Rattle.codegen.specs.Plain.{plain_arms, plain_block, plain_node}
use Rattle.codegen.specs.Process.{is_last_stop}
use Rattle.codegen.proofs.Blocks.{ArmsReach, BlockReaches, LoopReaches, NodeReaches}
use Rattle.codegen.proofs.MainReaching.{back_few, front_few, given_reaches, reaches, reference, both}
use Rattle.codegen.proofs.Nesting.{StepReaches}
use Rattle.codegen.proofs.Running.{ElementsReach, ItemsReach, KindReaches}
use Rattle.std.proofs.lemmas.Bool.{and_parts}

abbrev Short : List Instr → Type 0
Short is = length is ≤ 2 ^ 32

-- ---- references reach their cells

module _ (p : Places) (sized : list_all is_sized p.symbols ≡ true) (code : Code) (variables : HasVariables code p.symbols) (few : length p.symbols ≤ 2 ^ 32) where
  abbrev on : ℕ → Places
  on line = record p { line = line }

  abbrev All : List Ref → Type 0
  All rs = list_all (λ r. is_placed p.symbols r) rs ≡ true

  abbrev Every : List Term → Type 0
  Every es = All (expressions_references es)

  pub one : (e : Term) (es : List Term) → Every (e ∷ es) → All (term_references e) × Every es
  one e es h = both p sized code variables few (term_references e) (expressions_references es) h

  pub apart : (es fs : List Term) → Every (es ++ fs) → Every es × Every fs
  apart [] fs h = (refl, h)
  apart (e ∷ es) fs h =
      let k = one e (es ++ fs) h in
      let l = apart es fs k.1 in
      (joined (term_references e) (expressions_references es) k.0 l.0, l.1)
    where
      joined : (xs ys : List Ref) → All xs → All ys → All (xs ++ ys)
      joined [] ys a b = b
      joined (r ∷ xs) ys a b = let k = and_parts (is_placed p.symbols r) (list_all (λ s. is_placed p.symbols s) xs) a in rw (k.0, joined xs ys k.1 b) refl

  module _ (line : ℕ) where
    pub term_reaches : (e : Term) → All (term_references e) → Short (term_code (on line) e) → Reaches code p e
    term_reaches e h s = reaches (on line) sized code variables few e h s

    stored_reaches : (a : Access) → All (term_references (accessed a)) → Short (stored_code (on line) a) → Reaches code p (accessed a)
    stored_reaches a h s =
        let ds = dimensions_at p.symbols a.ref.cell in
        given_reaches (on line) sized code variables few a (instr line (given_act ds (home (on line) ds a.ref.name) a.ref.cell) ∷ []) h s

    items_reach : (items : List PrintItem) → Every (items_expressions items) → Short (items_code (on line) items) → ItemsReach code p items
    items_reach [] h s = tt
    items_reach (value_item e ∷ items) h s =
        let k = one e (items_expressions items) h in
        (term_reaches e k.0 (front_few (term_code (on line) e) (items_code (on line) items) (2 ^ 32) s), items_reach items k.1 (back_few (term_code (on line) e) (items_code (on line) items) (2 ^ 32) s))
    items_reach (text_item t ∷ items) h s = items_reach items h s

    elements_reach : (xs : List Access) → Every (map accessed xs) → Short (elements_code (on line) xs) → ElementsReach code p xs
    elements_reach [] h s = tt
    elements_reach (a ∷ xs) h s =
        let k = one (accessed a) (map accessed xs) h in
        let t : Short (stored_code (on line) a ++ elements_code (on line) xs) = omega (arith, s) in
        (stored_reaches a k.0 (front_few (stored_code (on line) a) (elements_code (on line) xs) (2 ^ 32) t), elements_reach xs k.1 (back_few (stored_code (on line) a) (elements_code (on line) xs) (2 ^ 32) t))

    pub kind_reaches : (n : ℕ) (k : Kind) → Every (kind_expressions k) → Short (kind_code (on line) n k) → KindReaches code p k
    kind_reaches n (assign a e) h s =
        let k = one e (accessed a ∷ []) h in
        let l = one (accessed a) [] k.1 in
        (term_reaches e k.0 (front_few (term_code (on line) e) (stored_code (on line) a) (2 ^ 32) s), stored_reaches a l.0 (back_few (term_code (on line) e) (stored_code (on line) a) (2 ^ 32) s))
    kind_reaches n (print items) h s = items_reach items h (front_few (items_code (on line) items) (instr line (acts.Print (short n)) ∷ []) (2 ^ 32) s)
    kind_reaches n (read xs) h s =
        let t : Short (elements_code (on line) xs ++ instr line acts.DropRecord ∷ []) = omega (arith, s) in
        elements_reach xs h (front_few (elements_code (on line) xs) (instr line acts.DropRecord ∷ []) (2 ^ 32) t)
    kind_reaches n stop h s = tt
    kind_reaches n (program x) h s = tt
    kind_reaches n (integer x) h s = tt
    kind_reaches n (dimension x) h s = tt
    kind_reaches n (parameters x) h s = tt
    kind_reaches n (do_loop x) h s = tt
    kind_reaches n go_on h s = tt
    kind_reaches n (block_if e) h s = tt
    kind_reaches n (else_if e) h s = tt
    kind_reaches n else_arm h s = tt
    kind_reaches n end_if h s = tt
    kind_reaches n (logical_if e k) h s = tt
    kind_reaches n end h s = tt

    step_reaches : (e : Option Term) (es : List Term) → Every (optional e ++ es) → Short (step_code (on line) e) → StepReaches code p e
    step_reaches None es h s = tt
    step_reaches (Some e) es h s = term_reaches e (one e es h).0 s

    -- a DO, by what reaches its range
    pub loop_reaches : (o : Option ℕ) (opens : ℕ → Option ℕ) (h : DoHead) (range : List Instr) (B : Type 0) (es : List Term) → Every (head_expressions h ++ es) → Short (loop_code o (on line) h range) → (Short range → B) → LoopReaches code p opens o h B
    loop_reaches None opens h range B es w s inner =
        let k = apart (head_expressions h) es w in
        let a = one h.first (h.last ∷ optional h.step ++ element h.variable no_terms ∷ []) k.0 in
        let b = one h.last (optional h.step ++ element h.variable no_terms ∷ []) a.1 in
        let c = apart (optional h.step) (element h.variable no_terms ∷ []) b.1 in
        let c3 = instr line acts.SetUp ∷ (variable_code (on line) h.variable ++ turns_code (on line) h.variable range) in
        let c2 = step_code (on line) h.step ++ c3 in
        let c1 = term_code (on line) h.last ++ c2 in
        let s1 = back_few (term_code (on line) h.first) c1 (2 ^ 32) s in
        let s2 = back_few (term_code (on line) h.last) c2 (2 ^ 32) s1 in
        let s3 = back_few (step_code (on line) h.step) c3 (2 ^ 32) s2 in
        let s4 : Short (variable_code (on line) h.variable ++ turns_code (on line) h.variable range) = omega (arith, s3) in
        let s5 = back_few (variable_code (on line) h.variable) (turns_code (on line) h.variable range) (2 ^ 32) s4 in
        let back = instr line (acts.Back (short (length (range ++ grown_code (on line) h.variable) + 1))) ∷ [] in
        let s6 : Short ((range ++ grown_code (on line) h.variable) ++ back) = omega (arith, s5) in (
          reference p sized code variables few h.variable (one (element h.variable no_terms) [] c.1).0,
          (
            term_reaches h.first a.0 (front_few (term_code (on line) h.first) c1 (2 ^ 32) s),
            term_reaches h.last b.0 (front_few (term_code (on line) h.last) c2 (2 ^ 32) s1),
            step_reaches h.step (element h.variable no_terms ∷ []) b.1 (front_few (step_code (on line) h.step) c3 (2 ^ 32) s2),
          ),
          inner (front_few range (grown_code (on line) h.variable) (2 ^ 32) (front_few (range ++ grown_code (on line) h.variable) back (2 ^ 32) s6)),
        )
    loop_reaches (Some n) opens h range B es w s inner =
        let k = apart (head_expressions h) es w in
        let a = one h.first (h.last ∷ optional h.step ++ element h.variable no_terms ∷ []) k.0 in
        let b = one h.last (optional h.step ++ element h.variable no_terms ∷ []) a.1 in
        let c2 = instr line (acts.Open (short n)) ∷ instr line acts.Join ∷ [] in
        let c1 = term_code (on line) h.last ++ c2 in
        let s1 = back_few (term_code (on line) h.first) c1 (2 ^ 32) s in
        (term_reaches h.first a.0 (front_few (term_code (on line) h.first) c1 (2 ^ 32) s), term_reaches h.last b.0 (front_few (term_code (on line) h.last) c2 (2 ^ 32) s1))

  -- a STOP that END follows has no references
  stop_reaches : (k l : Kind) → are_stop_and_end k l ≡ true → KindReaches code p k × KindReaches code p l
  stop_reaches stop end e = (tt, tt)
  stop_reaches stop _ e = let z : false ≡ true = e in absurd (let w : ⊥ = cc in w)
  stop_reaches _ _ e = let z : false ≡ true = e in absurd (let w : ⊥ = cc in w)

  module _ (opens : ℕ → Option ℕ) where
    last_reaches : (n : Node) (b : Block) → is_last_stop (plain_node n) (plain_block b) ≡ true → NodeReaches code p opens (plain_node n) × BlockReaches code p opens (plain_block b)
    last_reaches (tree.plain s) (tree.then_node (tree.plain t) tree.no_nodes) e = let k = stop_reaches s.kind t.kind e in (k.0, (k.1, tt))
    last_reaches (tree.plain s) tree.no_nodes e = cc
    last_reaches (tree.plain s) (tree.then_node (tree.plain t) (tree.then_node n b)) e = cc
    last_reaches (tree.plain s) (tree.then_node (tree.loop l h c) b) e = cc
    last_reaches (tree.plain s) (tree.then_node (tree.choose a) b) e = cc
    last_reaches (tree.loop l h c) b e = cc
    last_reaches (tree.choose a) b e = cc

    mutual
      node_reaches : (n : Node) (r w : ℕ) → Every (node_expressions n) → Short (node_code p opens r w (plain_node n)) → NodeReaches code p opens (plain_node n)
      node_reaches (tree.plain s) r w h t = kind_reaches s.line r s.kind h t
      node_reaches (tree.loop line d b) r w h t =
          loop_reaches line (opens d.variable.id) opens d (block_code p opens r w (plain_block b)) (BlockReaches code p opens (plain_block b)) (block_expressions b) h t (λ s. block_reaches b r w (apart (head_expressions d) (block_expressions b) h).1 s)
      node_reaches (tree.choose a) r w h t = arms_reach a r w h t

      pub block_reaches : (b : Block) (r w : ℕ) → Every (block_expressions b) → Short (block_code p opens r w (plain_block b)) → BlockReaches code p opens (plain_block b)
      block_reaches tree.no_nodes r w h t = tt
      block_reaches (tree.then_node n b) r w h t =
          let k = apart (node_expressions n) (block_expressions b) h in
          by (is_last_stop (plain_node n) (plain_block b)) refl t (λ s. node_reaches n r w k.0 s) (λ s. block_reaches b (r + length (node_records p opens (plain_node n))) (w + length (node_awaits p opens (plain_node n))) k.1 s)
        where
          by : (last : Bool) → is_last_stop (plain_node n) (plain_block b) ≡ last → Short (if last then [] else node_code p opens r w (plain_node n) ++ block_code p opens (r + length (node_records p opens (plain_node n))) (w + length (node_awaits p opens (plain_node n))) (plain_block b))
              → (Short (node_code p opens r w (plain_node n)) → NodeReaches code p opens (plain_node n)) → (Short (block_code p opens (r + length (node_records p opens (plain_node n))) (w + length (node_awaits p opens (plain_node n))) (plain_block b)) → BlockReaches code p opens (plain_block b))
              → NodeReaches code p opens (plain_node n) × BlockReaches code p opens (plain_block b)
          by true e s first rest = last_reaches n b e
          by false e s first rest =
              let c1 = node_code p opens r w (plain_node n) in
              let c2 = block_code p opens (r + length (node_records p opens (plain_node n))) (w + length (node_awaits p opens (plain_node n))) (plain_block b) in
              (first (front_few c1 c2 (2 ^ 32) s), rest (back_few c1 c2 (2 ^ 32) s))

      arms_reach : (a : Arms) (r w : ℕ) → Every (arms_expressions a) → Short (arms_code p opens r w (plain_arms a)) → ArmsReach code p opens (plain_arms a)
      arms_reach tree.no_arms r w h t = tt
      arms_reach (tree.then_arm line None b more) r w h t = block_reaches b r w (apart (block_expressions b) (arms_expressions more) h).0 t
      arms_reach (tree.then_arm line (Some c) b more) r w h t =
          let k = one c (block_expressions b ++ arms_expressions more) h in
          let l = apart (block_expressions b) (arms_expressions more) k.1 in
          let body = block_code p opens r w (plain_block b) in
          let r2 = r + length (block_records p opens (plain_block b)) in
          let w2 = w + length (block_awaits p opens (plain_block b)) in
          let others = arms_code p opens r2 w2 (plain_arms more) in
          let s1 = back_few (term_code (on line) c) (chosen_code (on line) body others) (2 ^ 32) t in
          let skip = instr line (acts.Skip (short (length others))) in
          let s2 : Short (body ++ (skip ∷ others)) = omega (arith, s1) in
          let s3 = back_few body (skip ∷ others) (2 ^ 32) s2 in (
            term_reaches line c k.0 (front_few (term_code (on line) c) (chosen_code (on line) body others) (2 ^ 32) t),
            block_reaches b r w l.0 (front_few body (skip ∷ others) (2 ^ 32) s2),
            arms_reach more r2 w2 l.1 (omega (arith, s3)),
          )

-- ---- lists that code cites by number

-- ---- each record is printed by an instruction; main awaits nothing

module _ (p : Places) where
  kind_prints : (n : ℕ) (k : Kind) → length (kind_records k) ≤ length (kind_code p n k)
  kind_prints n (print items) = let l = length-append (items_code p items) (instr p.line (acts.Print (short n)) ∷ []) in omega (arith, l)
  kind_prints n (assign a e) = omega arith
  kind_prints n (read xs) = omega arith
  kind_prints n stop = omega arith
  kind_prints n (program x) = omega arith
  kind_prints n (integer x) = omega arith
  kind_prints n (dimension x) = omega arith
  kind_prints n (parameters x) = omega arith
  kind_prints n (do_loop x) = omega arith
  kind_prints n go_on = omega arith
  kind_prints n (block_if e) = omega arith
  kind_prints n (else_if e) = omega arith
  kind_prints n else_arm = omega arith
  kind_prints n end_if = omega arith
  kind_prints n (logical_if e k) = omega arith
  kind_prints n end = omega arith

pub serial_holds : (p : Places) (h : DoHead) (range : List Instr) → length range ≤ length (serial_code p h range)
serial_holds p h range =
    let back = instr p.line (acts.Back (short (length (range ++ grown_code p h.variable) + 1))) ∷ [] in
    let c3 = instr p.line acts.SetUp ∷ (variable_code p h.variable ++ turns_code p h.variable range) in
    let c2 = step_code p h.step ++ c3 in
    let k1 = length-append (term_code p h.first) (term_code p h.last ++ c2) in
    let k2 = length-append (term_code p h.last) c2 in
    let k3 = length-append (step_code p h.step) c3 in
    let k4 = length-append (variable_code p h.variable) (turns_code p h.variable range) in
    let k5 = length-append (range ++ grown_code p h.variable) back in
    let k6 = length-append range (grown_code p h.variable) in
    omega (arith, k1, k2, k3, k4, k5, k6)

module _ (p : Places) (opens : ℕ → Option ℕ) where
  loop_prints : (o : Option ℕ) (line : ℕ) (h : DoHead) (records : List (List Part)) (range : List Instr) → length records ≤ length range → length (if_serial o records) ≤ length (loop_code o (record p { line = line }) h range)
  loop_prints None line h records range few = let k = serial_holds (record p { line = line }) h range in omega (arith, few, k)
  loop_prints (Some n) line h records range few = omega arith

  both_print : {X Y : Type 0} (xs us : List X) (ys vs : List Y) → length xs ≤ length ys → length us ≤ length vs → length (xs ++ us) ≤ length (ys ++ vs)
  both_print xs us ys vs h k = let a = length-append xs us in let b = length-append ys vs in omega (arith, h, k, a, b)

  unless_last : {X Y : Type 0} (b : Bool) (xs : List X) (ys : List Y) → length xs ≤ length ys → length (if b then [] else xs) ≤ length (if b then [] else ys)
  unless_last true xs ys h = omega arith
  unless_last false xs ys h = h

  mutual
    node_prints : (n : PlanNode) (r w : ℕ) → length (node_records p opens n) ≤ length (node_code p opens r w n)
    node_prints (awaits e d) r w = omega arith
    node_prints (advances e) r w = omega arith
    node_prints (plain s) r w = kind_prints (record p { line = s.line }) r s.kind
    node_prints (loop line h b) r w = loop_prints (opens h.variable.id) line h (block_records p opens b) (block_code p opens r w b) (block_prints b r w)
    node_prints (choose a) r w = arms_print a r w

    pub block_prints : (b : PlanBlock) (r w : ℕ) → length (block_records p opens b) ≤ length (block_code p opens r w b)
    block_prints no_nodes r w = omega arith
    block_prints (then_node n b) r w =
        let r2 = r + length (node_records p opens n) in
        let w2 = w + length (node_awaits p opens n) in
        unless_last (is_last_stop n b) (node_records p opens n ++ block_records p opens b) (node_code p opens r w n ++ block_code p opens r2 w2 b)
        (both_print (node_records p opens n) (block_records p opens b) (node_code p opens r w n) (block_code p opens r2 w2 b) (node_prints n r w) (block_prints b r2 w2))

    arms_print : (a : PlanArms) (r w : ℕ) → length (arms_records p opens a) ≤ length (arms_code p opens r w a)
    arms_print no_arms r w = omega arith
    arms_print (made_else b) r w = block_prints b r w
    arms_print (then_arm line None b more) r w = block_prints b r w
    arms_print (then_arm line (Some c) b more) r w =
        let q = record p { line = line } in
        let body = block_code p opens r w b in
        let r2 = r + length (block_records p opens b) in
        let w2 = w + length (block_awaits p opens b) in
        let others = arms_code p opens r2 w2 more in
        let h = block_prints b r w in
        let k = arms_print more r2 w2 in
        let k1 = length-append (block_records p opens b) (arms_records p opens more) in
        let k2 = length-append (term_code q c) (chosen_code q body others) in
        let k3 = length-append body (instr line (acts.Skip (short (length others))) ∷ others) in
        omega (arith, h, k, k1, k2, k3)
