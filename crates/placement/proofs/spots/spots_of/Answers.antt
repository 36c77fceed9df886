use Rattle.std.proofs.Common.{◌≡◌, ℕ, true, List, map, subst, sym}
use Rattle.placement.specs.Analysed.{triple}
use Rattle.placement.specs.Listed.{list_at}
use Rattle.placement.specs.Placement.{AreAwaits, is_ascending}
use Rattle.placement.specs.Spotted.{awaits_of}
use Rattle.placement.proofs.Spotting.{are_awaits}
use Rattle.placement.proofs.spots.spots_of.Goals as goal

pub returns-clause-awaits : goal.returns-clause-awaits
returns-clause-awaits c = λ l sources triples t.
    let ks = map triple c.args.kept.now in
    let found = subst (λ (ss : List ℕ). is_ascending ss ≡ true → (n : ℕ) → list_at c.in_ok-awaits.awaits.items n ≡ awaits_of ss n ks) c.deref.ensures.value c.in_ok-awaits.ensures in
    subst (λ (a : List (ℕ × ℕ)). AreAwaits l c.args.sources.items t a) (sym (found sources.ascending t)) (are_awaits l c.args.sources.items ks t sources triples)
