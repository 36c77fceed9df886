-- The first of several rules that is broken.
use Rattle.std.proofs.Common.{◌≡◌, ◌∙◌, ℕ, Bool, true, false, List, ap, ap₂, sym, Option, Some, filter, length}
use Rattle.std.specs.Prelude.{◌+◌, ◌&&◌, ◌||◌, nat_le, nat_lt, if◌then◌else◌}
use Rattle.std.specs.List.{list_any}
use Rattle.ast.specs.Symbols.{most_elements}
use Rattle.ast.specs.Tree.{Declarator, Kind}
use Rattle.ast.specs.declared.rule.Rule.{Rule}
use Rattle.structure.specs.Open.{Open}
use Rattle.profile_check.specs.Counted.{counted}
use Rattle.profile_check.specs.Declarations.{Arrays, total_elements}
use Rattle.profile_check.specs.Rules.{is_larger, opens, most_statements, most_nested, most_names}
use Rattle.profile_check.specs.Uses.{has_bounds}
use Rattle.profile_check.proofs.Sums.{limit_law}

pub pass : {b : Bool} (rule : Rule) {rest r : Option Rule} → b ≡ false → r ≡ rest → r ≡ (if b then Some rule else rest)
pass rule {rest} h e = e ∙ sym (ap (λ x. if x then Some rule else rest) h)

pub hit : {b : Bool} (rule : Rule) (rest : Option Rule) → b ≡ true → Some rule ≡ (if b then Some rule else rest)
hit rule rest h = sym (ap (λ x. if x then Some rule else rest) h)

pub known : {b r c : Bool} → r ≡ b → r ≡ c → b ≡ c
known h e = sym h ∙ e

pub on_uses : {X : Type 0} (P : X → Bool) {xs ys : List X} {r c : Bool} → r ≡ list_any P xs → xs ≡ ys → r ≡ c → list_any P ys ≡ c
on_uses P h same e = sym (h ∙ ap (list_any P) same) ∙ e

pub on_bounds : (P : Declarator → Bool) {xs ys : List Declarator} {r c : Bool} → r ≡ list_any P (filter has_bounds xs) → xs ≡ ys → r ≡ c → list_any P (filter has_bounds ys) ≡ c
on_bounds P h same e = sym (h ∙ ap (λ ds. list_any P (filter has_bounds ds)) same) ∙ e

pub on_larger : (st : ℕ) (op : List Open) (k : Kind) (before : ℕ) (more : Arrays) {ns ms : List (List ℕ)} {es : ℕ} {r c : Bool}
    → r ≡ is_larger st op k ns es → ns ≡ ms → es ≡ counted before more → r ≡ c → is_larger st op k ms (before + total_elements more) ≡ c
on_larger st op k before more {ns} {ms} {es} h n f e =
    let limit : nat_lt most_elements es ≡ nat_lt most_elements (before + total_elements more) = ap (nat_lt most_elements) f ∙ limit_law before more in
    sym (h ∙ ap₂ (λ x y. nat_le most_statements st || ((opens k && nat_le most_nested (length op)) || (nat_lt most_names (length x) || y))) n limit) ∙ e
