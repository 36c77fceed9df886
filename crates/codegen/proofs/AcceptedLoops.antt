-- What a program's type says makes each of its loops one that a good plan may open.
use Rattle.std.proofs.Common.{◌≡◌, ◌∙◌, ◌≤◌, ◌^◌, inl, inr, ℕ, Bool, true, false, List, [], ◌∷◌, length, refl, sym, ap, subst, arith}
use Rattle.std.specs.Prelude.{◌||◌, not}
use Rattle.std.specs.List.{IsDistinct, list_all}
use Rattle.std.proofs.lemmas.Bool.{and_parts, eqb-true, or_parts}
use Rattle.ast.specs.Program.{ProgramTree, are_placed, is_placed}
use Rattle.ast.specs.References.{are_numbered, block_expressions, block_references, expressions_references}
use Rattle.ast.specs.Regular.{is_none_of, is_regular, block_has_end, arms_have_end}
use Rattle.ast.specs.Stops.{is_end_kind}
use Rattle.ast.specs.Store.{same_name}
use Rattle.ast.specs.Symbols.{dimensions_in, names_of}
use Rattle.ast.specs.Tree.{Ref, Terms, no_terms, then_term, Block, count_of}
use Rattle.ast.proofs.SameNames.{same_itself}
use Rattle.dependence.specs.Plan.{awaits, advances, plain, loop, choose, PlanBlock, no_nodes, then_node, PlanArms, no_arms, made_else, then_arm}
use Rattle.loop_tree.specs.Loops.{Loop, loops_of}
use Rattle.loop_tree.specs.Occurrences.{Occurrence}
use Rattle.loop_tree.proofs.RegularLoops.{Each, RegularLoop, inner_scalars, is_left, is_right, loops_regular}
use Rattle.expr_code.specs.Places.{dimensions_at}
use Rattle.expr_code.specs.Process.{count}
use Rattle.expr_code.proofs.Finding.{dimensions_same}
use Rattle.plan_check.specs.GoodPlan.{GoodPlan, SameBody, made_bare, made_bare_arms, only_events, stripped, stripped_arms}
use Rattle.plan_check.proofs.Members.{In, all_in, among as found, contained}
use Rattle.codegen.specs.Program.{Planned, most_symbols}
use Rattle.codegen.proofs.PrivateNames.{HasScalars, few_scalars, names_once, scalars_of}
use Rattle.codegen.proofs.ProgramFacts.{body_placed, parts_placed, reference_placed, regular, shown_placed, unique}
use Rattle.codegen.proofs.RegularPlans.{ArmsNoEnd, NoEnd, Regular}
use Rattle.codegen.proofs.Theorem.{Opens}

each_at : (P : Loop → Type 0) (ls : List Loop) (l : Loop) → Each P ls → In l ls → P l
each_at P [] l e i = absurd i
each_at P (m ∷ ls) l e (inl z) = subst P (sym z) e.0
each_at P (m ∷ ls) l e (inr i) = each_at P ls l e.1 i

same_count : (es : Terms) → count es ≡ count_of es
same_count no_terms = refl
same_count (then_term e es) = let k = same_count es in omega (arith, k)

-- a range without END has a plan without
mutual
  plan_ends : (b : PlanBlock) → block_has_end (stripped b) ≡ false → made_bare b ≡ true → NoEnd b
  plan_ends no_nodes h m = tt
  plan_ends (then_node (awaits e d) b) h m = plan_ends b h m
  plan_ends (then_node (advances e) b) h m = plan_ends b h m
  plan_ends (then_node (plain s) b) h m = let p = or_parts (is_end_kind s.kind) (block_has_end (stripped b)) h in (p.0, plan_ends b p.1 m)
  plan_ends (then_node (loop l d c) b) h m =
      let p = or_parts (block_has_end (stripped c)) (block_has_end (stripped b)) h in
      let q = and_parts (made_bare c) (made_bare b) m in
      (plan_ends c p.0 q.0, plan_ends b p.1 q.1)
  plan_ends (then_node (choose a) b) h m =
      let p = or_parts (arms_have_end (stripped_arms a)) (block_has_end (stripped b)) h in
      let q = and_parts (made_bare_arms a) (made_bare b) m in
      (arms_end a p.0 q.0, plan_ends b p.1 q.1)

  arms_end : (a : PlanArms) → arms_have_end (stripped_arms a) ≡ false → made_bare_arms a ≡ true → ArmsNoEnd a
  arms_end no_arms h m = tt
  arms_end (made_else b) h m = events_end b m
  arms_end (then_arm l c b more) h m =
      let p = or_parts (block_has_end (stripped b)) (arms_have_end (stripped_arms more)) h in
      let q = and_parts (made_bare b) (made_bare_arms more) m in
      (plan_ends b p.0 q.0, arms_end more p.1 q.1)

  events_end : (b : PlanBlock) → only_events b ≡ true → NoEnd b
  events_end no_nodes m = tt
  events_end (then_node (awaits e d) b) m = events_end b m
  events_end (then_node (advances e) b) m = events_end b m
  events_end (then_node (plain s) b) m = cc
  events_end (then_node (loop l d c) b) m = cc
  events_end (then_node (choose a) b) m = cc

module _ (t : ProgramTree) (distinct : IsDistinct same_name (names_of t.symbols)) (placed : are_placed t.symbols t.block ≡ true) (numbered : are_numbered 0 (block_references t.block) ≡ true) (right : is_regular t.symbols t.block ≡ true) (few : length t.symbols ≤ most_symbols)
    (x : Planned) (among : In x.loop (loops_of t.block)) where
  is : RegularLoop t.symbols x.loop
  is = each_at (RegularLoop t.symbols) (loops_of t.block) x.loop (loops_regular t.symbols t.block right) among

  is_regular_loop : Regular t.symbols x.loop
  is_regular_loop =
      regular t distinct placed numbered x.loop among
      (λ o i.
      same_count o.subscripts
      ∙ eqb-true (count_of o.subscripts) (length (dimensions_in t.symbols o.ref.name)) (all_in (is_right t.symbols) x.loop.references o is.counted i)
      ∙ ap length (dimensions_same t.symbols o.ref distinct (reference_placed t distinct placed numbered x.loop among o i)))
      (sym (dimensions_same t.symbols x.loop.head.variable distinct (parts_placed t distinct placed numbered x.loop among).0) ∙ is.scalar)
      (λ o i d e. unassigned o (all_in (is_left (x.loop.head.variable.name ∷ [])) x.loop.references o is.left i) d e)
    where
      unassigned : (o : Occurrence) → (not o.defines || is_none_of (x.loop.head.variable.name ∷ []) o.ref.name) ≡ true → o.defines ≡ true → o.ref.name ≡ x.loop.head.variable.name → ⊥
      unassigned o h d e =
          let same : same_name o.ref.name x.loop.head.variable.name ≡ true = subst (λ (n : List ℕ). same_name o.ref.name n ≡ true) e (same_itself o.ref.name) in
          let y : false ≡ true = sym (ap (λ (b : Bool). not b || is_none_of (x.loop.head.variable.name ∷ []) o.ref.name) d ∙ ap (λ (b : Bool). not (b || false)) same) ∙ h in cc

  -- what the check's yes leaves open
  pub accepted : GoodPlan x.loop x.plan → SameBody x.loop x.plan → IsDistinct same_name x.plan.privates → Opens t.symbols x
  accepted good same apart = record {
    good = good;
    same = same;
    regular = is_regular_loop;
    no_end = plan_ends x.plan.body (ap block_has_end same.same ∙ is.no_end) same.bare;
    once = names_once x.plan.privates apart;
    few_privates = subst (λ (ns : List (List ℕ)). length ns ≤ 2 ^ 32) scalars.named (let k = few_scalars t.symbols scalars.scalars scalars.apart (λ r i. assigned_placed r (scalars.among r i)) in omega (arith, k, few));
    inner_scalar = inner;
    unique = unique t distinct placed numbered x.loop among;
    placed = subst (λ (b : Block). list_all (λ r. is_placed t.symbols r) (expressions_references (block_expressions b)) ≡ true) (sym same.same) (body_placed t distinct placed numbered x.loop among);
  }
    where
      assigned_placed : (r : Ref) → In r x.loop.assigned → is_placed t.symbols r ≡ true
      assigned_placed r i = all_in (λ q. is_placed t.symbols q) x.loop.assigned r (parts_placed t distinct placed numbered x.loop among).1 i

      scalar : (n : List ℕ) → In n x.plan.privates → (r : Ref) × In r x.loop.assigned × (r.name ≡ n)
      scalar n i = let g = good.scalars n (contained n x.plan.privates i) in (g.0, found g.0 x.loop.assigned g.1, g.2)

      scalars : HasScalars x.loop.assigned x.plan.privates
      scalars = scalars_of t.symbols distinct x.loop.assigned assigned_placed x.plan.privates apart scalar

      inner : (lp : Loop) → In lp (loops_of x.loop.body) → dimensions_at t.symbols lp.head.variable.cell ≡ []
      inner lp i =
          let shown = shown_placed t.symbols x.loop.body lp (body_placed t distinct placed numbered x.loop among) i in
          let there = and_parts (is_placed t.symbols lp.head.variable) _ shown in
          sym (dimensions_same t.symbols lp.head.variable distinct there.0) ∙ each_at (λ (l : Loop). dimensions_in t.symbols l.head.variable.name ≡ []) (loops_of x.loop.body) lp (inner_scalars t.symbols x.loop is) i
