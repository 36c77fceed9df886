-- What is spelled as an expression is read, whatever may follow it.
use Rattle.std.proofs.Common.{◌≡◌, ℕ, ℤ, zero, suc, ◌+◌, ◌-◌, ◌*◌, ◌<◌, ◌≤◌, Bool, true, false, cond, eqb, leb, ◌&&◌, ◌||◌, List, [], ◌∷◌, ◌++◌, length, drop, Option, Some, None, Result, Ok, refl, ap, sym, subst, ◌∙◌, inl, inr, append_assoc, arith}
use Rattle.std.specs.Prelude.{codes}
use Rattle.std.specs.List.{prefix_len, list_all}
use Rattle.std.proofs.lemmas.Bool.{ne_eqb, lt-ltb, leb-true, le-leb, lt-leb, and_parts, cases_lt, cases_eq}
use Rattle.std.proofs.lemmas.List.{append-nil, length-append, take_at, drop_at}
use Rattle.ast.specs.Answers.{Break}
use Rattle.ast.specs.Results.{◌>>=◌}
use Rattle.ast.specs.Tree.{Ref, Term, constant, truth, parameter, element, call, parentheses, unary, binary, Terms, no_terms, then_term, terms, Access, accessed}
use Rattle.ast.specs.declared.expression.Operator.{Operator}
use Rattle.ast.specs.declared.expression.Operator.TheVariants.{Add, Less, LessOrEqual, Equal, NotEqual, Greater, GreaterOrEqual}
use Rattle.ast.specs.declared.expression.Prefix.{Prefix}
use Rattle.ast.specs.declared.expression.Prefix.TheVariants.{Plus, Minus, Not}
use Rattle.expressions.specs.Characters.{is_digit, is_alphanumeric, begins_digit, begins_letter, after, value, constant_limit, longest_name}
use Rattle.ast.specs.Spelling.{prefix_spelling, spelling}
use Rattle.expressions.specs.Levels.{top, relation, level_of, left_level, right_level, prefix_level, operand_level, truth_spelling}
use Rattle.expressions.specs.Real.{continues_real, begins_fraction, begins_real}
use Rattle.expressions.specs.Grammar.{IsConstant, IsName, IsReference, IsAccess, reference_to, Spells, AreSubscripts, AreFurther}
use Rattle.expressions.specs.Reading.{constant_at, name_at, literal_at, operator_at, prefix_at, with_prefix, ended, closed_at, level_at, chain_at, primary_at, operand_at, access_at, subscripts_at, list_at, further_at, front_at, element_at, whole_at}
use Rattle.expressions.proofs.Followers.{Follows, Stops, stops_below, stops_at_end, stops_at_closing, stops_at_further, stops_at_operator, operator_is, spelling_some, level_some, level_top, prefix_is, prefix_some, some_spelled, unprefixed}
use Rattle.expressions.proofs.Sound.{Spells-up, right_is}
use Rattle.expressions.proofs.Tools.{then_reads, done, front_is}

-- ---- leaves

digit_not_real : (u rest : List ℕ) → 0 < length u → list_all is_digit u ≡ true → Follows rest → (begins_real (u ++ rest) ≡ false) × (begins_digit (u ++ rest) ≡ true)
digit_not_real [] rest some h f = absurd (omega arith)
digit_not_real (c ∷ cs) rest some h f =
    let first : is_digit c ≡ true = (and_parts (is_digit c) (list_all is_digit cs) h).0 in
    let low : 48 ≤ c = leb-true 48 c (and_parts (leb 48 c) (leb c 57) first).0 in
    let run : prefix_len is_digit ((c ∷ cs) ++ rest) ≡ length (c ∷ cs) = front_is is_digit (c ∷ cs) rest h f.digits in
    let behind : drop (prefix_len is_digit ((c ∷ cs) ++ rest)) ((c ∷ cs) ++ rest) ≡ rest = ap (λ (n : ℕ). drop n ((c ∷ cs) ++ rest)) run ∙ drop_at (c ∷ cs) rest (length (c ∷ cs)) refl in
    let part : begins_fraction ((c ∷ cs) ++ rest) ≡ false = rw (ne_eqb c 46 (λ e. omega arith)) refl in
    let more : continues_real (drop (prefix_len is_digit ((c ∷ cs) ++ rest)) ((c ∷ cs) ++ rest)) ≡ false = ap continues_real behind ∙ f.real in
    (either_not (begins_fraction ((c ∷ cs) ++ rest)) (is_digit c) (continues_real (drop (prefix_len is_digit ((c ∷ cs) ++ rest)) ((c ∷ cs) ++ rest))) part more, first)
  where
    either_not : (a b d : Bool) → a ≡ false → d ≡ false → (a || (b && d)) ≡ false
    either_not false true false e f = refl
    either_not false false false e f = refl
    either_not true b d e f = absurd cc
    either_not false true true e f = absurd cc
    either_not false false true e f = absurd cc

constant_again : (line : ℕ) (n : ℤ) (u rest : List ℕ) → IsConstant n u → Follows rest → literal_at line (u ++ rest) ≡ Ok (Some (constant n, rest))
constant_again line n u rest h f =
    let real = digit_not_real u rest h.0 h.1 f in
    let run : prefix_len is_digit (u ++ rest) ≡ length u = front_is is_digit u rest h.1 f.digits in
    let read : constant_at line (u ++ rest) ≡ Ok (constant n, rest) = rw (run, take_at u rest (length u) refl, drop_at u rest (length u) refl, lt-ltb (value u) constant_limit h.2, h.3) refl in
    rw (real.0, real.1) (then_reads (constant_at line (u ++ rest)) (λ x. done (Some x)) (constant n, rest) read)

truth_again : (line : ℕ) (b : Bool) (rest : List ℕ) → literal_at line (truth_spelling b ++ rest) ≡ Ok (Some (truth b, rest))
truth_again line true rest = refl
truth_again line false rest = refl

letter_first : (u rest : List ℕ) → begins_letter u ≡ true → begins_letter (u ++ rest) ≡ true
letter_first [] rest h = absurd cc
letter_first (c ∷ cs) rest h = h

pub name_again : (line : ℕ) (x u rest : List ℕ) → IsName x u → prefix_len is_alphanumeric rest ≡ 0 → name_at line (u ++ rest) ≡ Ok (x, rest)
name_again line x u rest h f =
    let run : prefix_len is_alphanumeric (u ++ rest) ≡ length u = front_is is_alphanumeric u rest h.1 f in
    rw (run, take_at u rest (length u) refl, drop_at u rest (length u) refl, letter_first u rest h.0, le-leb (length u) longest_name h.2, h.3) refl

-- no literal begins with a letter
no_literal : (line : ℕ) (u rest : List ℕ) → begins_letter u ≡ true → literal_at line (u ++ rest) ≡ Ok None
no_literal line [] rest h = absurd cc
no_literal line (c ∷ cs) rest h =
    let low : 65 ≤ c = leb-true 65 c (and_parts (leb 65 c) (leb c 90) h).0 in
    let below : leb c 57 ≡ false = lt-leb c 57 (omega arith) in
    let above : leb 48 c ≡ true = le-leb 48 c (omega arith) in
    let real : begins_real (c ∷ (cs ++ rest)) ≡ false = rw (ne_eqb c 46 (λ e. omega arith), above, below) refl in
    let digit : is_digit c ≡ false = rw (above, below) refl in
    let one : after (truth_spelling true) (c ∷ (cs ++ rest)) ≡ None = rw (ne_eqb 46 c (λ e. omega arith)) refl in
    let other : after (truth_spelling false) (c ∷ (cs ++ rest)) ≡ None = rw (ne_eqb 46 c (λ e. omega arith)) refl in
    rw (real, digit) (ap (λ (o : Option (Term × List ℕ)). done o) (neither (after (truth_spelling true) (c ∷ (cs ++ rest))) one (after (truth_spelling false) (c ∷ (cs ++ rest))) other))
  where
    neither : (a : Option (List ℕ)) → a ≡ None → (b : Option (List ℕ)) → b ≡ None
        → ◌≡◌ {A = Option (Term × List ℕ)} (elim a [ Some u ↦ Some (truth true, u) | None ↦ elim b [ Some u ↦ Some (truth false, u) | None ↦ None ] ]) None
    neither None e None f = refl
    neither (Some u) e b f = absurd cc
    neither None e (Some u) f = absurd cc

-- ---- the levels

-- 12 * length u + level is room enough. Where a chain of operators may go on, reading arrives at
-- its state with this tree.
abbrev pub Reads : ℕ → ℕ → Term → List ℕ → Type 0
Reads line level e u = (n : ℕ) (rest : List ℕ) → 12 * length u + level ≤ n → Stops level rest → level_at line n level (u ++ rest) ≡ Ok (e, rest)

abbrev pub Reaches : ℕ → ℕ → Term → List ℕ → Type 0
Reaches line level e u = (n : ℕ) (rest : List ℕ) → 12 * length u + level ≤ n → Stops (level - 1) rest → (m : ℕ) × (level_at line n level (u ++ rest) ≡ chain_at line m level e rest) × (n ≤ m + length u)

pub record Again (line level : ℕ) (e : Term) (u : List ℕ) : Type 0 where
  pub reaches : 1 ≤ level → (level ≡ 3 → ⊥) → Reaches line level e u
  pub reads : Reads line level e u

-- a step of reading, once it is known what stands there
abbrev chain_step : ℕ → ℕ → ℕ → Term → List ℕ → Option (Operator × List ℕ) → Result (Term × List ℕ) Break
chain_step line n level left t None = Ok (left, t)
chain_step line n level left t (Some o) = level_at line n (level - 1) o.1 >>= λ x. cond (eqb level relation) (Ok (binary o.0 left x.0, x.1)) (chain_at line n level (binary o.0 left x.0) x.1)

chain_at_step : (line n level : ℕ) (left : Term) (t : List ℕ) (o : Option (Operator × List ℕ)) → operator_at level t ≡ o → chain_at line (suc n) level left t ≡ chain_step line n level left t o
chain_at_step line n level left t o h = go (operator_at level t) refl ∙ ap (chain_step line n level left t) h
  where
    go : (q : Option (Operator × List ℕ)) → operator_at level t ≡ q → chain_at line (suc n) level left t ≡ chain_step line n level left t (operator_at level t)
    go None is = rw (chain_at, is) refl
    go (Some q) is = rw (chain_at, is) refl

abbrev primary_step : ℕ → ℕ → List ℕ → Option (List ℕ) → Result (Term × List ℕ) Break
primary_step line n t None = literal_at line t >>= λ o. operand_at line n o t
primary_step line n t (Some u) = level_at line n top u >>= λ x. closed_at line x.0 x.1

primary_at_step : (line n : ℕ) (t : List ℕ) (o : Option (List ℕ)) → after (codes "(") t ≡ o → primary_at line (suc n) t ≡ primary_step line n t o
primary_at_step line n t o h = go (after (codes "(") t) refl ∙ ap (primary_step line n t) h
  where
    go : (q : Option (List ℕ)) → after (codes "(") t ≡ q → primary_at line (suc n) t ≡ primary_step line n t (after (codes "(") t)
    go None is = rw (primary_at, is) refl
    go (Some q) is = rw (primary_at, is) refl

-- from one level to the next
level_step : (line n level : ℕ) (t u : List ℕ) (p : Option Prefix) → 1 ≤ level → prefix_at level t ≡ (p, u)
    → level_at line (suc n) level t ≡ (level_at line n (level - 1) u >>= λ x. chain_at line n level (with_prefix p x.0) x.1)
level_step line n level t u p le is =
    ap (λ (b : Bool). cond b (primary_at line n t) (level_at line n (level - 1) (prefix_at level t).1 >>= λ x. chain_at line n level (with_prefix (prefix_at level t).0 x.0) x.1)) (ne_eqb level 0 (λ z. omega arith))
    ∙ ap (λ (q : Option Prefix × List ℕ). level_at line n (level - 1) q.1 >>= λ x. chain_at line n level (with_prefix q.0 x.0) x.1) is

climb : (line level : ℕ) (e : Term) (u : List ℕ) → 1 ≤ level → level ≤ 8 → Spells (level - 1) e u → Reads line (level - 1) e u → Reaches line level e u
climb line level e u le high h reads zero rest big stops = absurd (omega arith)
climb line level e u le high h reads (suc n) rest big stops =
    let some = some_spelled e (level - 1) u (omega arith) h in (
      n,
      level_step line n level (u ++ rest) (u ++ rest) None le (unprefixed level e u rest h)
          ∙ then_reads (level_at line n (level - 1) (u ++ rest)) (λ x. chain_at line n level x.0 x.1) (e, rest) (reads n rest (omega arith) stops),
      omega arith,
    )

chain_stops : (line m level : ℕ) (e : Term) (rest : List ℕ) → 0 < m → Stops level rest → chain_at line m level e rest ≡ Ok (e, rest)
chain_stops line zero level e rest some stops = absurd (omega arith)
chain_stops line (suc m) level e rest some stops = chain_at_step line m level e rest None (stops.none level (omega arith))

arrive : (line level : ℕ) (e : Term) (u : List ℕ) → 0 < length u → Reaches line level e u → Reads line level e u
arrive line level e u some reaches n rest big stops =
    let r = reaches n rest big (stops_below level rest stops) in
    r.1 ∙ chain_stops line r.0 level e rest (omega (arith, r.2)) stops

-- what is read at a level is read at each higher one
lift : (line k level : ℕ) (e : Term) (u : List ℕ) → k ≤ level → level ≤ 7 → Spells k e u → Reads line k e u → Reads line level e u
lift line k zero e u le high h reads = let is : k ≡ 0 = omega arith in subst (λ (j : ℕ). Reads line j e u) is reads
lift line k (suc l) e u le high h reads =
    elim (cases_lt l k) [
      | inl below ↦ let is : k ≡ suc l = omega arith in subst (λ (j : ℕ). Reads line j e u) is reads
      | inr above ↦
          let back : l ≡ suc l - 1 = omega arith in
          let here : Reads line l e u = lift line k l e u above (omega arith) h reads in
          let reaches = climb line (suc l) e u (omega arith) (omega arith) (subst (λ (j : ℕ). Spells j e u) back (Spells-up k l e u above h)) (subst (λ (j : ℕ). Reads line j e u) back here) in
          arrive line (suc l) e u (some_spelled e k u (omega arith) h) reaches
    ]

-- what is read at a level k, and arrives at the chain there unless it is a relation, does so above
from_level : (line k level : ℕ) (e : Term) (u : List ℕ) → k ≤ level → level ≤ 7 → Spells k e u → Reads line k e u → ((k ≡ 3 → ⊥) → 1 ≤ k → Reaches line k e u) → Again line level e u
from_level line k level e u le high h reads reaches = record { reaches = arrives; reads = lift line k level e u le high h reads }
  where
    arrives : 1 ≤ level → (level ≡ 3 → ⊥) → Reaches line level e u
    arrives one chains =
        elim (cases_lt k level) [
          | inl below ↦
              climb line level e u one (omega arith) (Spells-up k (level - 1) e u (omega arith) h) (lift line k (level - 1) e u (omega arith) (omega arith) h reads)
          | inr above ↦
              let is : k ≡ level = omega arith in
              subst (λ (j : ℕ). Reaches line j e u) is (reaches (λ three. chains (sym is ∙ three)) (omega arith))
        ]

from_primary : (line level : ℕ) (e : Term) (u : List ℕ) → level ≤ 7 → Spells 0 e u → Reads line 0 e u → Again line level e u
from_primary line level e u high h reads = from_level line 0 level e u (omega arith) high h reads (λ _ one. absurd (omega arith))

-- ---- primaries

leaf_reads : (line : ℕ) (e : Term) (u : List ℕ) → 0 < length u → ((rest : List ℕ) → after (codes "(") (u ++ rest) ≡ None) → ((rest : List ℕ) → Follows rest → literal_at line (u ++ rest) ≡ Ok (Some (e, rest))) → Reads line 0 e u
leaf_reads line e u some closed again zero rest big stops = absurd (omega arith)
leaf_reads line e u some closed again (suc zero) rest big stops = absurd (omega arith)
leaf_reads line e u some closed again (suc (suc zero)) rest big stops = absurd (omega arith)
leaf_reads line e u some closed again (suc (suc (suc n))) rest big stops =
    primary_at_step line (suc n) (u ++ rest) None (closed rest)
    ∙ then_reads (literal_at line (u ++ rest)) (λ o. operand_at line (suc n) o (u ++ rest)) (Some (e, rest)) (again rest stops.follows)

constant_reads : (line : ℕ) (n : ℤ) (u : List ℕ) → IsConstant n u → Reads line 0 (constant n) u
constant_reads line n u h = leaf_reads line (constant n) u h.0 (λ rest. closed u rest h.0 h.1) (λ rest f. constant_again line n u rest h f)
  where
    closed : (u rest : List ℕ) → 0 < length u → list_all is_digit u ≡ true → after (codes "(") (u ++ rest) ≡ None
    closed [] rest some h = absurd (omega arith)
    closed (c ∷ cs) rest some h =
        let first : is_digit c ≡ true = (and_parts (is_digit c) (list_all is_digit cs) h).0 in
        let low : 48 ≤ c = leb-true 48 c (and_parts (leb 48 c) (leb c 57) first).0 in
        rw (ne_eqb 40 c (λ e. omega arith)) refl

truth_reads : (line : ℕ) (b : Bool) (u : List ℕ) → u ≡ truth_spelling b → Reads line 0 (truth b) u
truth_reads line b u is = subst (λ (w : List ℕ). Reads line 0 (truth b) w) (sym is) (leaf_reads line (truth b) (truth_spelling b) (some b) (closed b) (λ rest f. truth_again line b rest))
  where
    some : (b : Bool) → 0 < length (truth_spelling b)
    some true = omega arith
    some false = omega arith

    closed : (b : Bool) (rest : List ℕ) → after (codes "(") (truth_spelling b ++ rest) ≡ None
    closed true rest = refl
    closed false rest = refl

parentheses_reads : (line : ℕ) (e : Term) (u v : List ℕ) → u ≡ 40 ∷ (v ++ 41 ∷ []) → Reads line top e v → Reads line 0 (parentheses e) u
parentheses_reads line e u v is inner zero rest big stops = absurd (omega (arith, ap length is))
parentheses_reads line e u v is inner (suc zero) rest big stops = absurd (omega (arith, ap length is))
parentheses_reads line e u v is inner (suc (suc n)) rest big stops =
    let text : u ++ rest ≡ 40 ∷ (v ++ 41 ∷ rest) = ap (λ (w : List ℕ). w ++ rest) is ∙ ap (λ (w : List ℕ). 40 ∷ w) (append_assoc v (41 ∷ []) rest) in
    let long : length u ≡ length v + 2 = omega (arith, ap length is, length-append v (41 ∷ [])) in
    let read : level_at line n top (v ++ 41 ∷ rest) ≡ Ok (e, 41 ∷ rest) = inner n (41 ∷ rest) (omega arith) (stops_at_closing rest) in
    ap (primary_at line (suc n)) text ∙ then_reads (level_at line n top (v ++ 41 ∷ rest)) (λ x. closed_at line x.0 x.1) (e, 41 ∷ rest) read

-- ---- accesses

-- the list that terms are
abbrev pub list_of : Terms → List Term
list_of no_terms = []
list_of (then_term e es) = e ∷ list_of es

pub terms_of : (es : Terms) → terms (list_of es) ≡ es
terms_of no_terms = refl
terms_of (then_term e es) = ap (λ (fs : Terms). then_term e fs) (terms_of es)

abbrev pub SubscriptsAgain : ℕ → Terms → List ℕ → Type 0
SubscriptsAgain line es v = (n : ℕ) (rest : List ℕ) → 12 * length v + 1 ≤ n → Follows rest → subscripts_at line n (v ++ rest) ≡ Ok (list_of es, rest)

abbrev pub FurtherAgain : ℕ → Terms → List ℕ → Type 0
FurtherAgain line es w = (n : ℕ) (rest : List ℕ) (fs : List Term) → 12 * length w ≤ n → further_at line n fs (w ++ rest) ≡ Ok (fs ++ list_of es, rest)

no_subscripts : (line n : ℕ) (t : List ℕ) → after (codes "(") t ≡ None → subscripts_at line (suc n) t ≡ Ok ([], t)
no_subscripts line n t is = rw (subscripts_at, is) refl

-- a list whose first expression stands right here
list_again : (line n : ℕ) (e : Term) (es : Terms) (u w rest : List ℕ) (fs : List Term) → Reads line top e u → AreFurther es w → FurtherAgain line es w → 12 * length (u ++ w) + 8 ≤ n
    → list_at line n fs (u ++ (w ++ rest)) ≡ Ok (fs ++ e ∷ list_of es, rest)
list_again line zero e es u w rest fs reads are further big = absurd (omega arith)
list_again line (suc n) e es u w rest fs reads are further big =
    let long : length (u ++ w) ≡ length u + length w = length-append u w in
    then_reads (level_at line n top (u ++ (w ++ rest))) (λ x. further_at line n (fs ++ x.0 ∷ []) x.1) (e, w ++ rest) (reads n (w ++ rest) (omega arith) (stops_at_further es w rest are))
    ∙ further n rest (fs ++ e ∷ []) (omega arith)
    ∙ ap (λ (gs : List Term). done (gs, rest)) (append_assoc fs (e ∷ []) (list_of es))

further_none : (line : ℕ) (w : List ℕ) → w ≡ codes ")" → FurtherAgain line no_terms w
further_none line w is zero rest fs big = absurd (omega (arith, ap length is))
further_none line w is (suc n) rest fs big = ap (λ (v : List ℕ). further_at line (suc n) fs (v ++ rest)) is ∙ ap (λ (gs : List Term). done (gs, rest)) (sym (append-nil fs))

further_some : (line : ℕ) (e : Term) (es : Terms) (w u v : List ℕ) → w ≡ 44 ∷ (u ++ v) → Reads line top e u → AreFurther es v → FurtherAgain line es v → FurtherAgain line (then_term e es) w
further_some line e es w u v is reads are further zero rest fs big = absurd (omega (arith, ap length is))
further_some line e es w u v is reads are further (suc n) rest fs big =
    let long : length w ≡ length (u ++ v) + 1 = omega (arith, ap length is) in
    ap (λ (t : List ℕ). further_at line (suc n) fs (t ++ rest)) is
    ∙ ap (λ (t : List ℕ). list_at line n fs t) (append_assoc u v rest)
    ∙ list_again line n e es u v rest fs reads are further (omega arith)

subscripts_none : (line : ℕ) (v : List ℕ) → v ≡ [] → SubscriptsAgain line no_terms v
subscripts_none line v is zero rest big f = absurd (omega arith)
subscripts_none line v is (suc n) rest big f = ap (λ (w : List ℕ). subscripts_at line (suc n) (w ++ rest)) is ∙ no_subscripts line n rest f.closed

subscripts_some : (line : ℕ) (e : Term) (es : Terms) (v u w : List ℕ) → v ≡ 40 ∷ (u ++ w) → Reads line top e u → AreFurther es w → FurtherAgain line es w → SubscriptsAgain line (then_term e es) v
subscripts_some line e es v u w is reads are further zero rest big f = absurd (omega arith)
subscripts_some line e es v u w is reads are further (suc n) rest big f =
    let long : length v ≡ length (u ++ w) + 1 = omega (arith, ap length is) in
    ap (λ (t : List ℕ). subscripts_at line (suc n) (t ++ rest)) is
    ∙ ap (λ (t : List ℕ). list_at line n [] t) (append_assoc u w rest)
    ∙ list_again line n e es u w rest [] reads are further (omega arith)

-- what stands behind a name lets it end
subscripts_follow : (es : Terms) (v rest : List ℕ) → AreSubscripts es v → Follows rest → prefix_len is_alphanumeric (v ++ rest) ≡ 0
subscripts_follow no_terms v rest h f = rw h f.letters
subscripts_follow (then_term e es) v rest h f = rw h.2 refl

pub letter_some : (u : List ℕ) → begins_letter u ≡ true → 0 < length u
letter_some [] h = absurd cc
letter_some (c ∷ cs) h = omega arith

pub access_again : (line : ℕ) (r : Ref) (es : Terms) (t u v : List ℕ) → t ≡ u ++ v → IsReference r u → AreSubscripts es v → SubscriptsAgain line es v
    → (n : ℕ) (rest : List ℕ) → 12 * length t ≤ n + 3 → Follows rest → access_at line n (t ++ rest) ≡ Ok (record { ref = r; subscripts = es }, rest)
access_again line r es t u v is named are again zero rest big f = absurd (omega (arith, ap length is, length-append u v, letter_some u named.1.0))
access_again line r es t u v is named are again (suc n) rest big f =
    let some = letter_some u named.1.0 in
    let long : length t ≡ length u + length v = ap length is ∙ length-append u v in
    let text : t ++ rest ≡ u ++ (v ++ rest) = ap (λ (w : List ℕ). w ++ rest) is ∙ append_assoc u v rest in
    let x = named.0 in
    let behind : List ℕ × List ℕ → Result (Access × List ℕ) Break = λ a. subscripts_at line n a.1 >>= λ y. done (record { ref = reference_to a.0; subscripts = terms y.0 }, y.1) in
    ap (access_at line (suc n)) text
    ∙ then_reads (name_at line (u ++ (v ++ rest))) behind (x, v ++ rest) (name_again line x u (v ++ rest) named.1 (subscripts_follow es v rest are f))
    ∙ then_reads (subscripts_at line n (v ++ rest)) (λ y. done (record { ref = reference_to x; subscripts = terms y.0 }, y.1)) (list_of es, rest) (again n rest (omega arith) f)
    ∙ ap (λ (fs : Terms). done (record { ref = reference_to x; subscripts = fs }, rest)) (terms_of es)
    ∙ ap (λ (q : Ref). done (record { ref = q; subscripts = es }, rest)) (sym named.2)

letter_closed : (u rest : List ℕ) → begins_letter u ≡ true → after (codes "(") (u ++ rest) ≡ None
letter_closed [] rest h = absurd cc
letter_closed (c ∷ cs) rest h =
    let low : 65 ≤ c = leb-true 65 c (and_parts (leb 65 c) (leb c 90) h).0 in
    rw (ne_eqb 40 c (λ e. omega arith)) refl

element_reads : (line : ℕ) (r : Ref) (es : Terms) (t u v : List ℕ) → t ≡ u ++ v → IsReference r u → AreSubscripts es v → SubscriptsAgain line es v → Reads line 0 (element r es) t
element_reads line r es t u v is named are again zero rest big stops = absurd (omega (arith, ap length is, length-append u v, letter_some u named.1.0))
element_reads line r es t u v is named are again (suc zero) rest big stops = absurd (omega (arith, ap length is, length-append u v, letter_some u named.1.0))
element_reads line r es t u v is named are again (suc (suc zero)) rest big stops = absurd (omega (arith, ap length is, length-append u v, letter_some u named.1.0))
element_reads line r es t u v is named are again (suc (suc (suc n))) rest big stops =
    let text : t ++ rest ≡ u ++ (v ++ rest) = ap (λ (w : List ℕ). w ++ rest) is ∙ append_assoc u v rest in
    let closed : after (codes "(") (t ++ rest) ≡ None = ap (after (codes "(")) text ∙ letter_closed u (v ++ rest) named.1.0 in
    let none : literal_at line (t ++ rest) ≡ Ok None = ap (literal_at line) text ∙ no_literal line u (v ++ rest) named.1.0 in
    primary_at_step line (suc n) (t ++ rest) None closed
    ∙ then_reads (literal_at line (t ++ rest)) (λ o. operand_at line (suc n) o (t ++ rest)) None none
    ∙ then_reads (access_at line n (t ++ rest)) (λ x. done (accessed x.0, x.1)) (record { ref = r; subscripts = es }, rest) (access_again line r es t u v is named are again n rest (omega arith) stops.follows)

-- ---- prefixes and operators

operand_below : (p : Prefix) → operand_level p ≡ prefix_level p - 1
operand_below Plus = refl
operand_below Minus = refl
operand_below Not = refl

prefix_low : (p : Prefix) → (1 ≤ prefix_level p) × (prefix_level p ≤ 7)
prefix_low Plus = (omega arith, omega arith)
prefix_low Minus = (omega arith, omega arith)
prefix_low Not = (omega arith, omega arith)

unary_reaches : (line : ℕ) (p : Prefix) (e : Term) (u v : List ℕ) → u ≡ prefix_spelling p ++ v → Reads line (operand_level p) e v → Reaches line (prefix_level p) (unary p e) u
unary_reaches line p e u v is reads zero rest big stops = absurd (omega (arith, prefix_low p))
unary_reaches line p e u v is reads (suc n) rest big stops =
    let long : length u ≡ length (prefix_spelling p) + length v = ap length is ∙ length-append (prefix_spelling p) v in
    let text : u ++ rest ≡ prefix_spelling p ++ (v ++ rest) = ap (λ (w : List ℕ). w ++ rest) is ∙ append_assoc (prefix_spelling p) v rest in
    let room : 12 * length v + operand_level p ≤ n = omega (arith, prefix_some p, operand_below p) in
    let read : level_at line n (operand_level p) (v ++ rest) ≡ Ok (e, rest) = reads n rest room (subst (λ (k : ℕ). Stops k rest) (sym (operand_below p)) stops) in
    let here : level_at line n (prefix_level p - 1) (v ++ rest) ≡ Ok (e, rest) = subst (λ (k : ℕ). level_at line n k (v ++ rest) ≡ Ok (e, rest)) (operand_below p) read in (
      n,
      ap (level_at line (suc n) (prefix_level p)) text
          ∙ level_step line n (prefix_level p) (prefix_spelling p ++ (v ++ rest)) (v ++ rest) (Some p) (prefix_low p).0 (prefix_is p (v ++ rest))
          ∙ then_reads (level_at line n (prefix_level p - 1) (v ++ rest)) (λ x. chain_at line n (prefix_level p) (unary p x.0) x.1) (e, rest) here,
      omega (arith, prefix_some p),
    )

-- the operator and the operand on its right, in the state of the chain
operator_step : (line n : ℕ) (o : Operator) (a b : Term) (w rest : List ℕ) → level_at line n (level_of o - 1) (w ++ rest) ≡ Ok (b, rest)
    → chain_at line (suc n) (level_of o) a (spelling o ++ (w ++ rest)) ≡ cond (eqb (level_of o) relation) (Ok (binary o a b, rest)) (chain_at line n (level_of o) (binary o a b) rest)
operator_step line n o a b w rest read =
    chain_at_step line n (level_of o) a (spelling o ++ (w ++ rest)) (Some (o, w ++ rest)) (operator_is o (w ++ rest))
    ∙ then_reads (level_at line n (level_of o - 1) (w ++ rest)) (λ x. cond (eqb (level_of o) relation) (Ok (binary o a x.0, x.1)) (chain_at line n (level_of o) (binary o a x.0) x.1)) (b, rest) read

binary_length : (o : Operator) (u v w : List ℕ) → u ≡ v ++ (spelling o ++ w) → length v + 1 + length w ≤ length u
binary_length o u v w is = omega (arith, ap length is, length-append v (spelling o ++ w), length-append (spelling o) w, spelling_some o)

binary_text : (o : Operator) (u v w rest : List ℕ) → u ≡ v ++ (spelling o ++ w) → u ++ rest ≡ v ++ (spelling o ++ (w ++ rest))
binary_text o u v w rest is = ap (λ (z : List ℕ). z ++ rest) is ∙ append_assoc v (spelling o ++ w) rest ∙ ap (λ (z : List ℕ). v ++ z) (append_assoc (spelling o) w rest)

-- where operators chain
binary_reaches : (line : ℕ) (o : Operator) (a b : Term) (u v w : List ℕ) → (level_of o ≡ 3 → ⊥) → u ≡ v ++ (spelling o ++ w) → Reaches line (level_of o) a v → Reads line (level_of o - 1) b w → Reaches line (level_of o) (binary o a b) u
binary_reaches line o a b u v w chains is left right n rest big stops =
    let long = binary_length o u v w is in
    let r = left n (spelling o ++ (w ++ rest)) (omega (arith, level_some o)) (stops_at_operator o (w ++ rest)) in
    let left_is : level_at line n (level_of o) (u ++ rest) ≡ chain_at line r.0 (level_of o) a (spelling o ++ (w ++ rest)) = ap (level_at line n (level_of o)) (binary_text o u v w rest is) ∙ r.1 in
    go r.0 left_is (omega (arith, r.2))
  where
    go : (m : ℕ) → level_at line n (level_of o) (u ++ rest) ≡ chain_at line m (level_of o) a (spelling o ++ (w ++ rest)) → n ≤ m + length v
        → (k : ℕ) × (level_at line n (level_of o) (u ++ rest) ≡ chain_at line k (level_of o) (binary o a b) rest) × (n ≤ k + length u)
    go zero e le = absurd (omega (arith, binary_length o u v w is, level_some o))
    go (suc m) e le =
        let long = binary_length o u v w is in
        let read : level_at line m (level_of o - 1) (w ++ rest) ≡ Ok (b, rest) = right m rest (omega (arith, level_some o)) stops in (
          m,
          e ∙ operator_step line m o a b w rest read ∙ ap (λ (q : Bool). cond q (Ok (binary o a b, rest)) (chain_at line m (level_of o) (binary o a b) rest)) (ne_eqb (level_of o) 3 chains),
          omega arith,
        )

-- a relation
relation_reads : (line : ℕ) (o : Operator) (a b : Term) (u v w : List ℕ) → level_of o ≡ 3 → u ≡ v ++ (spelling o ++ w) → Spells (level_of o - 1) a v → Reads line (level_of o - 1) a v → Reads line (level_of o - 1) b w
    → Reads line (level_of o) (binary o a b) u
relation_reads line o a b u v w three is spelled left right n rest big stops =
    let long = binary_length o u v w is in
    let r = climb line (level_of o) a v (level_some o) (omega (arith, three)) spelled left n (spelling o ++ (w ++ rest)) (omega (arith, level_some o)) (stops_at_operator o (w ++ rest)) in
    let left_is : level_at line n (level_of o) (u ++ rest) ≡ chain_at line r.0 (level_of o) a (spelling o ++ (w ++ rest)) = ap (level_at line n (level_of o)) (binary_text o u v w rest is) ∙ r.1 in
    go r.0 left_is (omega (arith, r.2))
  where
    go : (m : ℕ) → level_at line n (level_of o) (u ++ rest) ≡ chain_at line m (level_of o) a (spelling o ++ (w ++ rest)) → n ≤ m + length v → level_at line n (level_of o) (u ++ rest) ≡ Ok (binary o a b, rest)
    go zero e le = absurd (omega (arith, binary_length o u v w is, level_some o))
    go (suc m) e le =
        let long = binary_length o u v w is in
        let read : level_at line m (level_of o - 1) (w ++ rest) ≡ Ok (b, rest) = right m rest (omega (arith, level_some o)) (stops_below (level_of o) rest stops) in
        e ∙ operator_step line m o a b w rest read ∙ ap (λ (k : ℕ). cond (eqb k 3) (Ok (binary o a b, rest)) (chain_at line m (level_of o) (binary o a b) rest)) three

left_chains : (o : Operator) → (level_of o ≡ 3 → ⊥) → left_level o ≡ level_of o
left_chains Add h = refl
left_chains Less h = absurd (h refl)
left_chains LessOrEqual h = absurd (h refl)
left_chains Equal h = absurd (h refl)
left_chains NotEqual h = absurd (h refl)
left_chains Greater h = absurd (h refl)
left_chains GreaterOrEqual h = absurd (h refl)
left_chains o h = refl

left_relates : (o : Operator) → level_of o ≡ 3 → left_level o ≡ level_of o - 1
left_relates Less h = refl
left_relates LessOrEqual h = refl
left_relates Equal h = refl
left_relates NotEqual h = refl
left_relates Greater h = refl
left_relates GreaterOrEqual h = refl
left_relates o h = absurd (omega (arith, h))

binary_again : (line level : ℕ) (o : Operator) (a b : Term) (u v w : List ℕ) → level_of o ≤ level → level ≤ 7 → u ≡ v ++ (spelling o ++ w) → Spells (left_level o) a v → Spells (right_level o) b w → Again line (left_level o) a v → Again line (right_level o) b w
    → Again line level (binary o a b) u
binary_again line level o a b u v w le high is ha hb left right =
    let reads_right : Reads line (level_of o - 1) b w = subst (λ (k : ℕ). Reads line k b w) (sym (right_is o)) right.reads in
    let spelled : Spells (level_of o) (binary o a b) u = (omega arith, v, w, is, ha, hb) in
    elim (cases_eq (level_of o) 3) [
      | inl three ↦
          let reads = relation_reads line o a b u v w three is (subst (λ (k : ℕ). Spells k a v) (left_relates o three) ha) (subst (λ (k : ℕ). Reads line k a v) (left_relates o three) left.reads) reads_right in
          from_level line (level_of o) level (binary o a b) u le high spelled reads (λ chains one. absurd (chains three))
      | inr chains ↦
          let left_reaches : Reaches line (left_level o) a v = left.reaches (omega (arith, left_chains o chains, level_some o)) (λ e. chains (sym (left_chains o chains) ∙ e)) in
          let reaches = binary_reaches line o a b u v w chains is (subst (λ (k : ℕ). Reaches line k a v) (left_chains o chains) left_reaches) reads_right in
          from_level line (level_of o) level (binary o a b) u le high spelled (arrive line (level_of o) (binary o a b) u (some_spelled (binary o a b) (level_of o) u (level_top o) spelled) reaches) (λ _ _. reaches)
    ]

unary_again : (line level : ℕ) (p : Prefix) (e : Term) (u v : List ℕ) → prefix_level p ≤ level → level ≤ 7 → u ≡ prefix_spelling p ++ v → Spells (operand_level p) e v → Again line (operand_level p) e v → Again line level (unary p e) u
unary_again line level p e u v le high is h again =
    let spelled : Spells (prefix_level p) (unary p e) u = (omega arith, v, is, h) in
    let reaches = unary_reaches line p e u v is again.reads in
    from_level line (prefix_level p) level (unary p e) u le high spelled (arrive line (prefix_level p) (unary p e) u (some_spelled (unary p e) (prefix_level p) u (prefix_low p).1 spelled) reaches) (λ _ _. reaches)

-- ---- whole trees

operand_high : (p : Prefix) → operand_level p ≤ 7
operand_high Plus = omega arith
operand_high Minus = omega arith
operand_high Not = omega arith

sides_high : (o : Operator) → (left_level o ≤ 7) × (right_level o ≤ 7)
sides_high Add = (omega arith, omega arith)
sides_high o = (omega arith, omega arith)

mutual
  pub again : (line : ℕ) (e : Term) (level : ℕ) (u : List ℕ) → level ≤ 7 → Spells level e u → Again line level e u
  again line (constant n) level u le h = from_primary line level (constant n) u le h (constant_reads line n u h)
  again line (truth b) level u le h = from_primary line level (truth b) u le h (truth_reads line b u h)
  again line (parameter x n) level u le h = absurd h
  again line (element r es) level u le h = from_primary line level (element r es) u le h (element_reads line r es u h.0 h.1 h.2 h.3 h.4 (subscripts_again line es h.1 h.4))
  again line (call f es) level u le h = absurd h
  again line (parentheses e) level u le h = from_primary line level (parentheses e) u le h (parentheses_reads line e u h.0 h.1 (again line e 7 h.0 (omega arith) h.2).reads)
  again line (unary p e) level u le h = unary_again line level p e u h.1 h.0 le h.2 h.3 (again line e (operand_level p) h.1 (operand_high p) h.3)
  again line (binary o a b) level u le h =
      binary_again line level o a b u h.1 h.2 h.0 le h.3 h.4 h.5 (again line a (left_level o) h.1 (sides_high o).0 h.4) (again line b (right_level o) h.2 (sides_high o).1 h.5)

  pub subscripts_again : (line : ℕ) (es : Terms) (v : List ℕ) → AreSubscripts es v → SubscriptsAgain line es v
  subscripts_again line no_terms v h = subscripts_none line v h
  subscripts_again line (then_term e es) v h = subscripts_some line e es v h.0 h.1 h.2 (again line e 7 h.0 (omega arith) h.3).reads h.4 (further_again line es h.1 h.4)

  further_again : (line : ℕ) (es : Terms) (w : List ℕ) → AreFurther es w → FurtherAgain line es w
  further_again line no_terms w h = further_none line w h
  further_again line (then_term e es) w h = further_some line e es w h.0 h.1 h.2 (again line e 7 h.0 (omega arith) h.3).reads h.4 (further_again line es h.1 h.4)

pub front_again : (line : ℕ) (e : Term) (u rest : List ℕ) → Spells top e u → Stops top rest → front_at line (u ++ rest) ≡ Ok (e, rest)
front_again line e u rest h stops = (again line e 7 u (omega arith) h).reads (12 * length (u ++ rest) + 12) rest (omega (arith, length-append u rest)) stops

pub element_again : (line : ℕ) (a : Access) (u rest : List ℕ) → IsAccess a u → Follows rest → element_at line (u ++ rest) ≡ Ok (a, rest)
element_again line a u rest h f =
    access_again line a.ref a.subscripts u h.0 h.1 h.2 h.3 h.4 (subscripts_again line a.subscripts h.1 h.4) (12 * length (u ++ rest) + 12) rest (omega (arith, length-append u rest)) f

pub whole_again : (line : ℕ) (t : List ℕ) (e : Term) → Spells top e t → whole_at line t ≡ Ok e
whole_again line t e h =
    let read : front_at line t ≡ Ok (e, []) = ap (front_at line) (sym (append-nil t)) ∙ front_again line e t [] h stops_at_end in
    then_reads (front_at line t) (ended line) (e, []) read
