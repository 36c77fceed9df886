use Rattle.std.proofs.Common.{◌≡◌, ◌∙◌, true, List, ℕ, subst, sym}
use Rattle.std.specs.Prelude.{Ok, Err}
use Rattle.std.specs.List.Sorted.{IsBinarySearchResult}
use Rattle.std.specs.Ordering.{nat_cmp}
use Rattle.placement.specs.Placement.{is_ascending}
use Rattle.placement.proofs.Insertion.{search_found, search_missed, with_ascending}
use Rattle.placement.proofs.analysis.add_source.Goals as goal

pub returns-in-Ok-clause-added : goal.returns-in-Ok-clause-added
returns-in-Ok-clause-added c =
    search_found c.args.statement c.args.sources.now.items c.in-Ok.field-0 c.requires
    (subst (λ (xs : List ℕ). IsBinarySearchResult (λ y. nat_cmp y c.args.statement) xs (Ok c.in-Ok.field-0)) c.deref.ensures.value c.in-Ok.ensures.position)

pub returns-in_ok-insert-in-Err-clause-added : goal.returns-in_ok-insert-in-Err-clause-added
returns-in_ok-insert-in-Err-clause-added c =
    c.in_ok-insert-in-Err.ensures.items
    ∙ search_missed c.args.statement c.args.sources.now.items c.in-Err.place c.requires
    (subst (λ (xs : List ℕ). IsBinarySearchResult (λ y. nat_cmp y c.args.statement) xs (Err c.in-Err.place)) c.deref.ensures.value c.in-Err.ensures.position)

pub returns-in_ok-insert-in-Err-clause-ascending : goal.returns-in_ok-insert-in-Err-clause-ascending
returns-in_ok-insert-in-Err-clause-ascending c =
    subst (λ (xs : List ℕ). is_ascending xs ≡ true) (sym (returns-in_ok-insert-in-Err-clause-added c)) (with_ascending c.args.statement c.args.sources.now.items c.requires)
