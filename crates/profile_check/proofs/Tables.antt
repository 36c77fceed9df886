-- A turn of a loop over names that takes each into a table.
use Rattle.std.proofs.Common.{◌≡◌, ◌∙◌, ℕ, List, Bool, true, false, not, refl, ap, sym, map, ◌∷◌, ◌+◌, ◌<◌, length, drop, get_or, add-one, drop-cons}
use Rattle.std.proofs.lemmas.List.Sums.{fold-append}
use Rattle.indexmap.specs.IndexSet.{insert_key, insert_all}
use Rattle.ast.specs.Store.{same_name}
use Rattle.ast.specs.Tree.{Statement}
use Rattle.ast.specs.View.{letters, statement}
use Rattle.ast.specs.declared.name.Name.{Name}
use Rattle.ast.specs.declared.statement.Stmt.{Stmt}
use Rattle.ast.specs.contracts.name.NamePartialEq.TheImpl.{eq-value}
use Rattle.profile_check.proofs.Entries.{insert_key-letters, list_any-letters}
use Rattle.profile_check.proofs.Walks.{next_viewed}
use Rattle.profile_check.specs.Rules.{typed_at_top, typed_in_whole}
use Rattle.profile_check.specs.TakenBefore.{taken_before}
use Rattle.std.specs.List.{list_any}

next-name : (names : List Name) (i : ℕ) (d : Name) → i < length names → drop i names ≡ get_or names i d ∷ drop (i + 1) names
next-name names i d h = rw (add-one, drop-cons names i d) refl

pub insert_all-next : (keys more : List Name) (names : List Name) (i : ℕ) (d : Name) → i < length names
    → more ≡ insert_key eq-value.it keys (get_or names i d)
    → insert_all same_name (map letters more) (map letters (drop (i + 1) names)) ≡ insert_all same_name (map letters keys) (map letters (drop i names))
insert_all-next keys more names i d h e = rw (next-name names i d h, e, insert_key-letters keys (get_or names i d)) refl

pub taken_before-next : (keys more : List Name) (names : List Name) (i : ℕ) (d : Name) → i < length names
    → more ≡ insert_key eq-value.it keys (get_or names i d) → list_any (eq-value.it (get_or names i d)) keys ≡ false
    → taken_before (map letters more) (map letters (drop (i + 1) names)) ≡ taken_before (map letters keys) (map letters (drop i names))
taken_before-next keys more names i d h e f = rw (next-name names i d h, e, insert_key-letters keys (get_or names i d), list_any-letters (same_name (letters (get_or names i d))) keys, f) refl

pub taken_before-here : (keys names : List Name) (i : ℕ) (d : Name) → i < length names
    → list_any (eq-value.it (get_or names i d)) keys ≡ true → taken_before (map letters keys) (map letters (drop i names)) ≡ true
taken_before-here keys names i d h f = rw (next-name names i d h, list_any-letters (same_name (letters (get_or names i d))) keys, f) refl

pub was_there : (b a : Bool) → b ≡ not a → b ≡ false → a ≡ true
was_there b true e f = refl
was_there b false e f = cc

pub was_new : (b a : Bool) → b ≡ not a → b ≡ true → a ≡ false
was_new b true e f = cc
was_new b false e f = refl

-- the names that the next statement gives a type are taken in
pub typed_on : (stmts : List Stmt) (i : ℕ) (x : Stmt) (old new target : List (List ℕ)) → i < length stmts → x ≡ get_or stmts i x
    → new ≡ insert_all same_name old (typed_at_top (statement x).kind)
    → insert_all same_name old (typed_in_whole (map statement (drop i stmts))) ≡ target
    → insert_all same_name new (typed_in_whole (map statement (drop (i + 1) stmts))) ≡ target
typed_on stmts i x old new target h is e w =
    let others = typed_in_whole (map statement (drop (i + 1) stmts)) in
    ap (λ (keys : List (List ℕ)). insert_all same_name keys others) e
    ∙ sym (fold-append (insert_key same_name) old (typed_at_top (statement x).kind) others)
    ∙ ap (λ (ss : List Statement). insert_all same_name old (typed_in_whole ss)) (sym (next_viewed statement stmts i x h is))
    ∙ w
