use Rattle.std.proofs.Common.{◌≡◌, ◌∙◌, ◌<◌, ◌≤◌, ◌+◌, ◌++◌, ◌∷◌, [], ℕ, List, ap, sym, decimal, ◌/◌, ◌%◌, arith}
use Rattle.std.proofs.lemmas.Fmt.{decimal_digit, decimal_step}
use Rattle.std.proofs.lemmas.Grind.{common_steps}
use Rattle.schedules.proofs.writing.put_small.Goals as goal

two_digits : (n d e : ℕ) → 10 ≤ n → n < 100 → decimal (n / 10) ≡ d ∷ [] → decimal (n % 10) ≡ e ∷ [] → decimal n ≡ d ∷ (e ∷ [])
two_digits n d e more few tens ones =
    decimal_step n more (omega (arith, few)) ∙ ap (λ (ds : List ℕ). ds ++ (48 + n % 10) ∷ []) tens
    ∙ ap (λ (ds : List ℕ). d ∷ ds) (sym (decimal_digit (n % 10) (omega arith)) ∙ ones)

pub returns-clause-put : goal.returns-clause-put
returns-clause-put c =
    grind (arith, common_steps, two_digits c.args.number c.digit-2.result c.digit-3.result c.if-number-lt10.false c.requires.small c.digit-2.ensures c.digit-3.ensures)
