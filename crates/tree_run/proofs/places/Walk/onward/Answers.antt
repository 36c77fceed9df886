use Rattle.std.proofs.Common.{◌≡◌, ◌≤◌, ◌*◌, ℕ, map, sym, subst, rules}
use Rattle.ast.specs.Symbols.{elements, most_elements, width}
use Rattle.ast.specs.View.{extent}
use Rattle.ast.proofs.Places.{first_few, others_few, longer_positive}
use Rattle.tree_run.proofs.places.Walk.onward.Goals as goal

pub longer-requires-clause-few : goal.longer-requires-clause-few
longer-requires-clause-few c = first_few c.args.stride (extent c.args.dimension.now) (map extent c.args.rest.now) c.requires.few

pub further-requires-clause-few : goal.further-requires-clause-few
further-requires-clause-few c = first_few c.args.stride (extent c.args.dimension.now) (map extent c.args.rest.now) c.requires.few

pub invariant_of-result : goal.invariant_of-result
invariant_of-result c =
    let d = extent c.args.dimension.now in
    let ds = map extent c.args.rest.now in
    let longer : c.longer.result ≡ c.args.stride * width d = c.longer.ensures in
    record {
      «open» = search rules;
      positive = subst (λ (n : ℕ). 1 ≤ n) (sym longer) (longer_positive c.args.stride d c.requires.positive);
      few = subst (λ (n : ℕ). n * elements ds ≤ most_elements) (sym longer) (others_few c.args.stride d ds c.requires.few);
      within = rw longer c.further.ensures.within;
    }
