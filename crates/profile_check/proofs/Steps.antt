-- One statement more, as the check's loop meets it; and what its answer says of a whole program.
use Rattle.std.proofs.Common.{◌≡◌, ℕ, ◌+◌, ◌<◌, ◌≤◌, List, [], ap, ◌∙◌, sym, subst, map, length, get_or, drop, Option, None, Result, Ok, Err, IfOk, IfErr}
use Rattle.std.proofs.lemmas.List.{drop_all}
use Rattle.std.specs.Result.{IsErrAnd}
use Rattle.ast.specs.Answers.{Break, Gives, Fails, Says}
use Rattle.ast.specs.Tree.{Statement}
use Rattle.ast.specs.View.{statement}
use Rattle.ast.specs.declared.refusal.Refusal.{Refusal}
use Rattle.ast.specs.declared.refusal.Refusal.TheVariants.{Memory, Refused}
use Rattle.ast.specs.declared.statement.Stmt.{Stmt}
use Rattle.ast.specs.declared.rule.Rule.{Rule}
use Rattle.ast.proofs.Lists.{item_here}
use Rattle.profile_check.proofs.Laws.{ok-whole, err-breaks}
use Rattle.profile_check.specs.Checking.{Before, before_of, and_one, rule_by, going_on, checked, table_of, IsRuleOf}
use Rattle.profile_check.specs.Declarations.{Declared, declared_in}
use Rattle.profile_check.specs.DeclarationsView.{declared}
use Rattle.profile_check.specs.Rules.{InProfile, BreaksFirst, typed_in_whole}
use Rattle.profile_check.specs.declared.declarations.Declarations.{Declarations}

pub next-statement : (typed : List (List ℕ)) (b : Before) (stmts : List Stmt) (i : ℕ) (y : Stmt) → i < length stmts → y ≡ get_or stmts i y
    → checked typed b (map statement (drop i stmts))
    ≡ going_on (rule_by typed b (statement y)) (statement y) (checked typed (and_one b (statement y)) (map statement (drop (i + 1) stmts)))
next-statement typed b stmts i y h e = ap (λ ss. checked typed b (map statement ss)) (item_here stmts i y h e)

-- a statement that breaks no rule is one of those before
pub passed : (typed : List (List ℕ)) (old new : Before) (stmts : List Stmt) (i : ℕ) (y : Stmt) (meant : Result Declared Break) → i < length stmts → y ≡ get_or stmts i y
    → new ≡ and_one old (statement y) → rule_by typed old (statement y) ≡ None → checked typed old (map statement (drop i stmts)) ≡ meant
    → checked typed new (map statement (drop (i + 1) stmts)) ≡ meant
passed typed old new stmts i y meant h e more free same =
    let others = map statement (drop (i + 1) stmts) in
    ap (λ (b : Before). checked typed b others) more
    ∙ ap (λ (rule : Option Rule). going_on rule (statement y) (checked typed (and_one old (statement y)) others)) (sym free)
    ∙ sym (next-statement typed old stmts i y h e)
    ∙ same

-- nothing is left
pub all-passed : (typed : List (List ℕ)) (b : Before) (stmts : List Stmt) (i : ℕ) (meant : Result Declared Break) → length stmts ≤ i
    → checked typed b (map statement (drop i stmts)) ≡ meant → Ok b.declared ≡ meant
all-passed typed b stmts i meant h same = ap (λ (ys : List Stmt). checked typed b (map statement ys)) (sym (drop_all i stmts h)) ∙ same

rule-found : (e : Refusal) (s : Statement) (rule : Option Rule) (later : Result Declared Break) → IsRuleOf e s rule → Fails e (going_on rule s later)
rule-found Memory s rule later h = tt
rule-found (Refused n l) s rule later h =
    ap (λ r. going_on r s later) h.0 ∙ ap (λ k. Err (record { rule = n; line = k })) (sym h.1)

-- what `?` hands on
pub refused : (r : Result Declarations Refusal) (e : Refusal) (s : Statement) (rule : Option Rule) (later meant : Result Declared Break)
    → IsErrAnd r (λ y. y ≡ e) → IsRuleOf e s rule → going_on rule s later ≡ meant → Gives declared r meant
refused (Ok x) e s rule later meant h b same = absurd h
refused (Err y) e s rule later meant h b same =
    let P : Refusal → Type 0 = λ z. Fails z meant in
    let Q : Result Declared Break → Type 0 = λ m. Fails e m in
    subst P (sym h) (subst Q same (rule-found e s rule later b))

-- the answer on a whole program
pub whole : (r : Result Declarations Refusal) (ss : List Statement) (t : List (List ℕ)) (b : Before) → t ≡ table_of (typed_in_whole ss) → b ≡ before_of []
    → Gives declared r (checked t b ss) → Gives declared r (checked (table_of (typed_in_whole ss)) (before_of []) ss)
whole r ss t b h k g =
    let P : List (List ℕ) → Type 0 = λ x. Gives declared r (checked x b ss) in
    let Q : Before → Type 0 = λ x. Gives declared r (checked (table_of (typed_in_whole ss)) x ss) in
    subst Q k (subst P h g)

pub kept : (r : Result Declarations Refusal) (ss : List Statement) → Gives declared r (checked (table_of (typed_in_whole ss)) (before_of []) ss) → IfOk r (λ d. InProfile ss)
kept (Ok d) ss g = record { each = (ok-whole (typed_in_whole ss) [] ss (declared d) g).keep.each }
kept (Err e) ss g = tt

pub all-declared : (r : Result Declarations Refusal) (ss : List Statement) → Gives declared r (checked (table_of (typed_in_whole ss)) (before_of []) ss) → IfOk r (λ d. declared d ≡ declared_in ss)
all-declared (Ok d) ss g = (ok-whole (typed_in_whole ss) [] ss (declared d) g).declared
all-declared (Err e) ss g = tt

pub first-refused : (r : Result Declarations Refusal) (ss : List Statement) → Gives declared r (checked (table_of (typed_in_whole ss)) (before_of []) ss) → IfErr r (Says (BreaksFirst ss))
first-refused (Ok d) ss g = tt
first-refused (Err Memory) ss g = tt
first-refused (Err (Refused n l)) ss g =
    let b = err-breaks (typed_in_whole ss) [] ss (record { rule = n; line = l }) g in
    record { front = b.kept; statement = b.statement; back = b.back; cut = b.cut; kept = record { each = b.keep.each }; broken = b.broken; place = b.place }
