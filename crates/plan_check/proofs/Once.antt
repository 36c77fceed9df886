-- A plan that fits gives no private name twice.
use Rattle.std.proofs.Common.{◌≡◌, ◌∙◌, ℕ, true, false, not, List, [], ◌∷◌}
use Rattle.std.specs.List.{AllByRecursion, IsDistinct, list_all}
use Rattle.std.proofs.lemmas.Bool.{and_parts, not-true, or_parts}
use Rattle.std.proofs.lemmas.Cmp.{nat_list_eq_equiv}
use Rattle.ast.specs.Store.{same_name}
use Rattle.ast.specs.Tree.{Ref}
use Rattle.dependence.specs.Kept.{block_reads, block_variables}
use Rattle.dependence.specs.Plan.{PlanTree}
use Rattle.loop_tree.specs.Loops.{Loop}
use Rattle.plan_check.specs.Checking.{are_once, fits, has_name, has_named, is_step}

others : (n : List ℕ) (ns : List (List ℕ)) → has_name ns n ≡ false → AllByRecursion (λ m. same_name n m ≡ false) ns
others n [] h = tt
others n (m ∷ ns) h = let k = or_parts (same_name m n) (has_name ns n) h in (nat_list_eq_equiv.symm n m ∙ k.0, others n ns k.1)

once_distinct : (ns : List (List ℕ)) → are_once ns ≡ true → IsDistinct same_name ns
unfolding IsDistinct
once_distinct [] h = tt
once_distinct (n ∷ ns) h = let k = and_parts (not (has_name ns n)) (are_once ns) h in (others n ns (not-true (has_name ns n) k.0), once_distinct ns k.1)

pub names_once : (l : Loop) (p : PlanTree) → fits l p ≡ true → IsDistinct same_name p.privates
names_once l p h =
    let a = and_parts (is_step l.step) _ h in
    let b = and_parts (not (block_reads l.body)) _ a.1 in
    let c = and_parts (list_all (λ (r : Ref). has_name p.privates r.name) (block_variables l.body)) _ b.1 in
    let d = and_parts (list_all (λ (n : List ℕ). has_named l.assigned n) p.privates) _ c.1 in
    let e = and_parts (are_once p.privates) _ d.1 in
    once_distinct p.privates e.0
