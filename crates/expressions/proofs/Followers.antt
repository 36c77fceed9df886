-- What may follow an expression, and what one begins with.
use Rattle.std.proofs.Common.{◌≡◌, ℕ, ◌-◌, ◌<◌, ◌≤◌, Bool, true, false, cond, eqb, leb, List, [], ◌∷◌, ◌++◌, length, Option, Some, None, refl, subst, sym, ◌∙◌, append_assoc, arith}
use Rattle.std.specs.Prelude.{codes}
use Rattle.std.specs.List.{prefix_len, list_all}
use Rattle.std.proofs.lemmas.Bool.{eqb-true, ne_eqb, leb-true, and_parts}
use Rattle.std.proofs.lemmas.List.{append-nil}
use Rattle.ast.specs.Tree.{Term, constant, truth, parameter, element, call, parentheses, unary, binary, Terms, no_terms, then_term}
use Rattle.ast.specs.declared.expression.Operator.{Operator}
use Rattle.ast.specs.declared.expression.Operator.TheVariants.{Add, Subtract, Multiply, Divide, Less, LessOrEqual, Equal, NotEqual, Greater, GreaterOrEqual, And, Or, Equivalent, NotEquivalent}
use Rattle.ast.specs.declared.expression.Prefix.{Prefix}
use Rattle.ast.specs.declared.expression.Prefix.TheVariants.{Plus, Minus, Not}
use Rattle.expressions.specs.Characters.{is_digit, is_alphanumeric, begins_letter, after}
use Rattle.ast.specs.Spelling.{prefix_spelling, spelling}
use Rattle.expressions.specs.Levels.{top, level_of, left_level, prefix_level, truth_spelling}
use Rattle.expressions.specs.Real.{begins_operator, continues_real}
use Rattle.expressions.specs.Grammar.{Spells, AreFurther}
use Rattle.expressions.specs.Reading.{operators_of, first_operator, first_prefix, operator_at, prefix_at}

-- ---- what follows

-- A name and a constant end here, and no list in parentheses begins.
pub record Follows (rest : List ℕ) : Type 0 where
  pub letters : prefix_len is_alphanumeric rest ≡ 0
  pub digits : prefix_len is_digit rest ≡ 0
  pub real : continues_real rest ≡ false
  pub closed : after (codes "(") rest ≡ None

-- What follows lets an expression of the level end.
pub record Stops (level : ℕ) (rest : List ℕ) : Type 0 where
  pub follows : Follows rest
  pub none : (k : ℕ) → k ≤ level → operator_at k rest ≡ None

pub stops_below : (level : ℕ) (rest : List ℕ) → Stops level rest → Stops (level - 1) rest
stops_below level rest s = record { follows = s.follows; none = λ k le. s.none k (omega arith) }

no_operator : (t : List ℕ) → ((o : Operator) → after (spelling o) t ≡ None) → (os : List Operator) → first_operator os t ≡ None
no_operator t none [] = refl
no_operator t none (o ∷ os) = go (after (spelling o) t) (none o) (no_operator t none os)
  where
    go : (a : Option (List ℕ)) → a ≡ None → first_operator os t ≡ None → ◌≡◌ {A = Option (Operator × List ℕ)} (elim a [ Some u ↦ Some (o, u) | None ↦ first_operator os t ]) None
    go None e more = more
    go (Some u) e more = absurd cc

pub stops_at_end : Stops top []
stops_at_end = record {
  follows = record { letters = refl; digits = refl; real = refl; closed = refl };
  none = λ k le. no_operator [] end (operators_of k);
}
  where
    end : (o : Operator) → after (spelling o) [] ≡ None
    end Add = refl
    end o = refl

pub stops_at_closing : (t : List ℕ) → Stops top (41 ∷ t)
stops_at_closing t = record {
  follows = record { letters = refl; digits = refl; real = refl; closed = refl };
  none = λ k le. no_operator (41 ∷ t) mark (operators_of k);
}
  where
    mark : (o : Operator) → after (spelling o) (41 ∷ t) ≡ None
    mark Add = refl
    mark o = refl

pub stops_at_comma : (t : List ℕ) → Stops top (44 ∷ t)
stops_at_comma t = record {
  follows = record { letters = refl; digits = refl; real = refl; closed = refl };
  none = λ k le. no_operator (44 ∷ t) mark (operators_of k);
}
  where
    mark : (o : Operator) → after (spelling o) (44 ∷ t) ≡ None
    mark Add = refl
    mark o = refl

pub stops_at_colon : (t : List ℕ) → Stops top (58 ∷ t)
stops_at_colon t = record {
  follows = record { letters = refl; digits = refl; real = refl; closed = refl };
  none = λ k le. no_operator (58 ∷ t) mark (operators_of k);
}
  where
    mark : (o : Operator) → after (spelling o) (58 ∷ t) ≡ None
    mark Add = refl
    mark o = refl

pub follows_equals : (t : List ℕ) → Follows (61 ∷ t)
follows_equals t = record { letters = refl; digits = refl; real = refl; closed = refl }

pub stops_at_further : (es : Terms) (v rest : List ℕ) → AreFurther es v → Stops top (v ++ rest)
stops_at_further no_terms v rest h = subst (λ (w : List ℕ). Stops top (w ++ rest)) (sym h) (stops_at_closing rest)
stops_at_further (then_term e es) v rest h = subst (λ (w : List ℕ). Stops top (w ++ rest)) (sym h.2) (stops_at_comma ((h.0 ++ h.1) ++ rest))

-- ---- operators

follows_operator : (o : Operator) (t : List ℕ) → Follows (spelling o ++ t)
unfolding begins_operator
follows_operator Add t = record { letters = refl; digits = refl; real = refl; closed = refl }
follows_operator o t = record { letters = refl; digits = refl; real = refl; closed = refl }

no_product : (o : Operator) (t : List ℕ) → (1 ≡ level_of o → ⊥) → first_operator (Multiply ∷ Divide ∷ []) (spelling o ++ t) ≡ None
no_product Multiply t h = absurd (h refl)
no_product Divide t h = absurd (h refl)
no_product o t h = refl

no_sum : (o : Operator) (t : List ℕ) → (2 ≡ level_of o → ⊥) → first_operator (Add ∷ Subtract ∷ []) (spelling o ++ t) ≡ None
no_sum Add t h = absurd (h refl)
no_sum Subtract t h = absurd (h refl)
no_sum o t h = refl

no_relation : (o : Operator) (t : List ℕ) → (3 ≡ level_of o → ⊥) → first_operator (Less ∷ LessOrEqual ∷ Equal ∷ NotEqual ∷ Greater ∷ GreaterOrEqual ∷ []) (spelling o ++ t) ≡ None
no_relation Less t h = absurd (h refl)
no_relation LessOrEqual t h = absurd (h refl)
no_relation Equal t h = absurd (h refl)
no_relation NotEqual t h = absurd (h refl)
no_relation Greater t h = absurd (h refl)
no_relation GreaterOrEqual t h = absurd (h refl)
no_relation o t h = refl

no_conjunction : (o : Operator) (t : List ℕ) → (5 ≡ level_of o → ⊥) → first_operator (And ∷ []) (spelling o ++ t) ≡ None
no_conjunction And t h = absurd (h refl)
no_conjunction o t h = refl

no_disjunction : (o : Operator) (t : List ℕ) → (6 ≡ level_of o → ⊥) → first_operator (Or ∷ []) (spelling o ++ t) ≡ None
no_disjunction Or t h = absurd (h refl)
no_disjunction o t h = refl

no_equivalence : (o : Operator) (t : List ℕ) → (7 ≡ level_of o → ⊥) → first_operator (Equivalent ∷ NotEquivalent ∷ []) (spelling o ++ t) ≡ None
no_equivalence Equivalent t h = absurd (h refl)
no_equivalence NotEquivalent t h = absurd (h refl)
no_equivalence o t h = refl

-- at another level than its own an operator is none
elsewhere : (k : ℕ) (o : Operator) (t : List ℕ) → (k ≡ level_of o → ⊥) → operator_at k (spelling o ++ t) ≡ None
elsewhere k o t other = go (eqb k 1) refl (eqb k 2) refl (eqb k 3) refl (eqb k 5) refl (eqb k 6) refl (eqb k 7) refl
  where
    moved : (l : ℕ) → eqb k l ≡ true → l ≡ level_of o → ⊥
    moved l is e = other (eqb-true k l is ∙ e)

    go : (a : Bool) → eqb k 1 ≡ a → (b : Bool) → eqb k 2 ≡ b → (c : Bool) → eqb k 3 ≡ c → (d : Bool) → eqb k 5 ≡ d → (e : Bool) → eqb k 6 ≡ e → (f : Bool) → eqb k 7 ≡ f
        → first_operator (cond a (Multiply ∷ Divide ∷ []) (cond b (Add ∷ Subtract ∷ []) (cond c (Less ∷ LessOrEqual ∷ Equal ∷ NotEqual ∷ Greater ∷ GreaterOrEqual ∷ []) (cond d (And ∷ []) (cond e (Or ∷ []) (cond f (Equivalent ∷ NotEquivalent ∷ []) [])))))) (spelling o ++ t) ≡ None
    go true is b _ c _ d _ e _ f _ = no_product o t (moved 1 is)
    go false _ true is c _ d _ e _ f _ = no_sum o t (moved 2 is)
    go false _ false _ true is d _ e _ f _ = no_relation o t (moved 3 is)
    go false _ false _ false _ true is e _ f _ = no_conjunction o t (moved 5 is)
    go false _ false _ false _ false _ true is f _ = no_disjunction o t (moved 6 is)
    go false _ false _ false _ false _ false _ true is = no_equivalence o t (moved 7 is)
    go false _ false _ false _ false _ false _ false _ = refl

pub level_some : (o : Operator) → 1 ≤ level_of o
level_some Add = omega arith
level_some o = omega arith

pub level_top : (o : Operator) → level_of o ≤ 7
level_top Add = omega arith
level_top o = omega arith

-- an operator ends the operand of a level below its own
pub stops_at_operator : (o : Operator) (t : List ℕ) → Stops (level_of o - 1) (spelling o ++ t)
stops_at_operator o t = record { follows = follows_operator o t; none = λ k le. elsewhere k o t (λ e. omega (arith, e, le, level_some o)) }

pub operator_is : (o : Operator) (t : List ℕ) → operator_at (level_of o) (spelling o ++ t) ≡ Some (o, t)
operator_is Add t = refl
operator_is o t = refl

pub spelling_some : (o : Operator) → 1 ≤ length (spelling o)
spelling_some Add = omega arith
spelling_some o = omega arith

pub prefix_is : (p : Prefix) (t : List ℕ) → prefix_at (prefix_level p) (prefix_spelling p ++ t) ≡ (Some p, t)
prefix_is Plus t = refl
prefix_is Minus t = refl
prefix_is Not t = refl

pub prefix_some : (p : Prefix) → 1 ≤ length (prefix_spelling p)
prefix_some Plus = omega arith
prefix_some Minus = omega arith
prefix_some Not = omega arith

-- ---- what an expression begins with

left_low : (o : Operator) (level : ℕ) → level_of o ≤ level → left_level o ≤ level
left_low Add level h = h
left_low Less level h = omega (arith, h)
left_low LessOrEqual level h = omega (arith, h)
left_low Equal level h = omega (arith, h)
left_low NotEqual level h = omega (arith, h)
left_low Greater level h = omega (arith, h)
left_low GreaterOrEqual level h = omega (arith, h)
left_low o level h = h

-- What holds of each text that begins with a digit, a letter, a logical constant, a parenthesis or
-- a prefix up to the level holds where an expression of the level begins the text.
pub record Begin (level : ℕ) (P : List ℕ → Type 0) : Type 1 where
  pub digit : (c : ℕ) (cs : List ℕ) → 48 ≤ c → c ≤ 57 → P (c ∷ cs)
  pub letter : (c : ℕ) (cs : List ℕ) → 65 ≤ c → c ≤ 90 → P (c ∷ cs)
  pub truth : (b : Bool) (t : List ℕ) → P (truth_spelling b ++ t)
  pub parenthesis : (t : List ℕ) → P (40 ∷ t)
  pub prefix : (p : Prefix) (t : List ℕ) → prefix_level p ≤ level → P (prefix_spelling p ++ t)

digits_begin : (level : ℕ) (P : List ℕ → Type 0) → Begin level P → (u v : List ℕ) → 0 < length u → list_all is_digit u ≡ true → P (u ++ v)
digits_begin level P b [] v some h = absurd (omega arith)
digits_begin level P b (c ∷ cs) v some h =
    let first = and_parts (leb 48 c) (leb c 57) (and_parts (is_digit c) (list_all is_digit cs) h).0 in
    b.digit c (cs ++ v) (leb-true 48 c first.0) (leb-true c 57 first.1)

letters_begin : (level : ℕ) (P : List ℕ → Type 0) → Begin level P → (u v : List ℕ) → begins_letter u ≡ true → P (u ++ v)
letters_begin level P b [] v h = absurd cc
letters_begin level P b (c ∷ cs) v h =
    let first = and_parts (leb 65 c) (leb c 90) h in
    b.letter c (cs ++ v) (leb-true 65 c first.0) (leb-true c 90 first.1)

pub begins : (level : ℕ) (P : List ℕ → Type 0) → Begin level P → (e : Term) (k : ℕ) (u v : List ℕ) → k ≤ level → Spells k e u → P (u ++ v)
begins level P b (constant n) k u v le h = digits_begin level P b u v h.0 h.1
begins level P b (truth x) k u v le h = subst (λ (w : List ℕ). P (w ++ v)) (sym h) (b.truth x v)
begins level P b (parameter x n) k u v le h = absurd h
begins level P b (element r es) k u v le h = subst (λ (w : List ℕ). P (w ++ v)) (sym h.2) (subst P (sym (append_assoc h.0 h.1 v)) (letters_begin level P b h.0 (h.1 ++ v) h.3.1.0))
begins level P b (call f es) k u v le h = absurd h
begins level P b (parentheses e) k u v le h = subst (λ (w : List ℕ). P (w ++ v)) (sym h.1) (b.parenthesis ((h.0 ++ 41 ∷ []) ++ v))
begins level P b (unary p e) k u v le h = subst (λ (w : List ℕ). P (w ++ v)) (sym h.2) (subst P (sym (append_assoc (prefix_spelling p) h.1 v)) (b.prefix p (h.1 ++ v) (omega (arith, h.0, le))))
begins level P b (binary o x y) k u v le h =
    subst (λ (w : List ℕ). P (w ++ v)) (sym h.3)
    (subst P (sym (append_assoc h.1 (spelling o ++ h.2) v)) (begins level P b x (left_level o) h.1 ((spelling o ++ h.2) ++ v) (left_low o level (omega (arith, h.0, le))) h.4))

-- it isn't empty
pub some_spelled : (e : Term) (k : ℕ) (u : List ℕ) → k ≤ 7 → Spells k e u → 0 < length u
some_spelled e k u le h = subst (λ (w : List ℕ). 0 < length w) (append-nil u) (begins 7 (λ t. 0 < length t) any e k u [] le h)
  where
    any : Begin 7 (λ t. 0 < length t)
    any = record {
      digit = λ c cs low high. omega arith;
      letter = λ c cs low high. omega arith;
      truth = λ b t. elim b as (λ x. 0 < length (truth_spelling x ++ t)) [ true ↦ omega arith | false ↦ omega arith ];
      parenthesis = λ t. omega arith;
      prefix = λ p t le. elim p as (λ x. 0 < length (prefix_spelling x ++ t)) [ Plus ↦ omega arith | Minus ↦ omega arith | Not ↦ omega arith ];
    }

other_sign : (c : ℕ) (cs : List ℕ) → (43 ≡ c → ⊥) → (45 ≡ c → ⊥) → first_prefix (Plus ∷ Minus ∷ []) (c ∷ cs) ≡ (None, c ∷ cs)
other_sign c cs plus minus = go (after (codes "+") (c ∷ cs)) (rw (ne_eqb 43 c plus) refl) (after (codes "-") (c ∷ cs)) (rw (ne_eqb 45 c minus) refl)
  where
    go : (a : Option (List ℕ)) → a ≡ None → (b : Option (List ℕ)) → b ≡ None
        → ◌≡◌ {A = Option Prefix × List ℕ} (elim a [ Some u ↦ (Some Plus, u) | None ↦ elim b [ Some u ↦ (Some Minus, u) | None ↦ (None, c ∷ cs) ] ]) (None, c ∷ cs)
    go None e None f = refl
    go (Some u) e b f = absurd cc
    go None e (Some u) f = absurd cc

other_negation : (c : ℕ) (cs : List ℕ) → (46 ≡ c → ⊥) → first_prefix (Not ∷ []) (c ∷ cs) ≡ (None, c ∷ cs)
other_negation c cs other = go (after (codes ".NOT.") (c ∷ cs)) (rw (ne_eqb 46 c other) refl)
  where
    go : (a : Option (List ℕ)) → a ≡ None → ◌≡◌ {A = Option Prefix × List ℕ} (elim a [ Some u ↦ (Some Not, u) | None ↦ (None, c ∷ cs) ]) (None, c ∷ cs)
    go None e = refl
    go (Some u) e = absurd cc

-- no prefix stands before a product or a relation that would be taken for that of the level above
no_sign : Begin 1 (λ t. first_prefix (Plus ∷ Minus ∷ []) t ≡ (None, t))
no_sign = record {
  digit = λ c cs low high. other_sign c cs (λ e. omega arith) (λ e. omega arith);
  letter = λ c cs low high. other_sign c cs (λ e. omega arith) (λ e. omega arith);
  truth = λ b t. elim b as (λ x. first_prefix (Plus ∷ Minus ∷ []) (truth_spelling x ++ t) ≡ (None, truth_spelling x ++ t)) [ true ↦ refl | false ↦ refl ];
  parenthesis = λ t. refl;
  prefix = λ p t le. elim p as (λ x. prefix_level x ≤ 1 → first_prefix (Plus ∷ Minus ∷ []) (prefix_spelling x ++ t) ≡ (None, prefix_spelling x ++ t)) [ Plus ↦ λ h. absurd (omega (arith, h)) | Minus ↦ λ h. absurd (omega (arith, h)) | Not ↦ λ h. refl ] le;
}

no_negation : Begin 3 (λ t. first_prefix (Not ∷ []) t ≡ (None, t))
no_negation = record {
  digit = λ c cs low high. other_negation c cs (λ e. omega arith);
  letter = λ c cs low high. other_negation c cs (λ e. omega arith);
  truth = λ b t. elim b as (λ x. first_prefix (Not ∷ []) (truth_spelling x ++ t) ≡ (None, truth_spelling x ++ t)) [ true ↦ refl | false ↦ refl ];
  parenthesis = λ t. refl;
  prefix = λ p t le. elim p as (λ x. prefix_level x ≤ 3 → first_prefix (Not ∷ []) (prefix_spelling x ++ t) ≡ (None, prefix_spelling x ++ t)) [ Plus ↦ λ h. refl | Minus ↦ λ h. refl | Not ↦ λ h. absurd (omega (arith, h)) ] le;
}

pub unprefixed : (level : ℕ) (e : Term) (u rest : List ℕ) → Spells (level - 1) e u → prefix_at level (u ++ rest) ≡ (None, u ++ rest)
unprefixed level e u rest h = go (eqb level 2) refl (eqb level 4) refl
  where
    go : (a : Bool) → eqb level 2 ≡ a → (b : Bool) → eqb level 4 ≡ b → first_prefix (cond a (Plus ∷ Minus ∷ []) (cond b (Not ∷ []) [])) (u ++ rest) ≡ (None, u ++ rest)
    go true is b _ = begins 1 (λ t. first_prefix (Plus ∷ Minus ∷ []) t ≡ (None, t)) no_sign e (level - 1) u rest (omega (arith, eqb-true level 2 is)) h
    go false _ true is = begins 3 (λ t. first_prefix (Not ∷ []) t ≡ (None, t)) no_negation e (level - 1) u rest (omega (arith, eqb-true level 4 is)) h
    go false _ false _ = refl

-- no expression begins with an apostrophe
pub no_quote : (e : Term) (u rest : List ℕ) → Spells top e u → after (codes "'") (u ++ rest) ≡ None
no_quote e u rest h = begins 7 (λ t. after (codes "'") t ≡ None) any e 7 u rest (omega arith) h
  where
    any : Begin 7 (λ t. after (codes "'") t ≡ None)
    any = record {
      digit = λ c cs low high. rw (ne_eqb 39 c (λ e. omega arith)) refl;
      letter = λ c cs low high. rw (ne_eqb 39 c (λ e. omega arith)) refl;
      truth = λ b t. elim b as (λ x. after (codes "'") (truth_spelling x ++ t) ≡ None) [ true ↦ refl | false ↦ refl ];
      parenthesis = λ t. refl;
      prefix = λ p t le. elim p as (λ x. after (codes "'") (prefix_spelling x ++ t) ≡ None) [ Plus ↦ refl | Minus ↦ refl | Not ↦ refl ];
    }
