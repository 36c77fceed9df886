-- What is read of an expression is spelled so.
use Rattle.std.proofs.Common.{◌≡◌, ℕ, zero, suc, pos, ◌+◌, ◌-◌, ◌*◌, ◌<◌, ◌≤◌, Bool, true, false, cond, eqb, ltb, leb, List, [], ◌∷◌, ◌++◌, length, take, drop, Option, Some, None, Result, Ok, refl, sym, ap, subst, ◌∙◌, append_assoc, arith}
use Rattle.std.specs.Prelude.{codes}
use Rattle.std.specs.List.{prefix_len}
use Rattle.std.proofs.lemmas.Bool.{eqb-true, ltb-true, leb-true}
use Rattle.std.proofs.lemmas.List.{append-nil, take-append-drop, length-take, nil_from_length}
use Rattle.ast.specs.Answers.{Break}
use Rattle.ast.specs.Name.{padded}
use Rattle.ast.specs.Results.{◌>>=◌}
use Rattle.ast.specs.Tree.{Term, constant, truth, parameter, element, call, parentheses, unary, binary, terms, Access, accessed}
use Rattle.ast.specs.declared.expression.Operator.{Operator}
use Rattle.ast.specs.declared.expression.Operator.TheVariants.{Add, Subtract, Multiply, Divide, Less, LessOrEqual, Equal, NotEqual, Greater, GreaterOrEqual, And, Or, Equivalent, NotEquivalent}
use Rattle.ast.specs.declared.expression.Prefix.{Prefix}
use Rattle.ast.specs.declared.expression.Prefix.TheVariants.{Plus, Minus, Not}
use Rattle.expressions.specs.Answers.{refuse}
use Rattle.expressions.specs.Characters.{is_digit, is_letter, is_alphanumeric, begins_digit, begins_letter, after, value, constant_limit, longest_name}
use Rattle.ast.specs.Spelling.{prefix_spelling, spelling}
use Rattle.ast.specs.declared.rule.Rule.TheVariants.{RealConstant, LargeConstant, LongName, Malformed}
use Rattle.expressions.specs.Levels.{top, relation, level_of, left_level, right_level, prefix_level, operand_level, truth_spelling}
use Rattle.expressions.specs.Real.{begins_real}
use Rattle.expressions.specs.Grammar.{IsName, IsAccess, reference_to, Spells, AreSubscripts, AreFurther}
use Rattle.expressions.specs.Reading.{misplaced, constant_at, name_at, truth_at, literal_at, operators_of, prefixes_of, first_operator, first_prefix, operator_at, prefix_at, with_prefix, wanted_at, end_at, ended, closed_at, level_at, chain_at, primary_at, operand_at, access_at, subscripts_at, list_at, further_at, front_at, element_at, whole_at}
use Rattle.expressions.proofs.Tools.{done, bind_ok, ok_is, some_is, on_true, on_false, choice, joined, front_passes, after_law}

-- the text that was read and what it spells
abbrev pub ReadsAs : ℕ → List ℕ → Term → List ℕ → Type 0
ReadsAs level t e rest = (u : List ℕ) × (t ≡ u ++ rest) × Spells level e u

-- ---- marks

pub wanted_law : (line : ℕ) (mark t u : List ℕ) → wanted_at line mark t ≡ Ok u → t ≡ mark ++ u
wanted_law line mark t u e = go (after mark t) refl e
  where
    go : (o : Option (List ℕ)) → after mark t ≡ o → ◌≡◌ {A = Result (List ℕ) Break} (elim o [ Some v ↦ Ok v | None ↦ refuse line (misplaced t) ]) (Ok u) → t ≡ mark ++ u
    go None is f = absurd cc
    go (Some v) is f = after_law mark t v is ∙ ap (λ (w : List ℕ). mark ++ w) (ok_is v u f)

pub end_law : (line : ℕ) (t u : List ℕ) → end_at line t ≡ Ok u → (t ≡ []) × (u ≡ [])
end_law line t u e =
    elim (choice (eqb (length t) 0) (Ok []) (refuse line (misplaced t)) (Ok u) e) [
      | on_true none is ↦ (nil_from_length t (eqb-true _ _ none), sym (ok_is [] u is))
      | on_false more is ↦ absurd cc
    ]

-- ---- leaves

front_some : (p : ℕ → Bool) (c : ℕ) (cs : List ℕ) → p c ≡ true → 0 < length (take (prefix_len p (c ∷ cs)) (c ∷ cs))
front_some p c cs h = let k : 1 + prefix_len p cs ≡ suc (prefix_len p cs) = omega arith in rw (h, k) (omega arith)

-- digits, the first of them there
pub digits_some : (t : List ℕ) → begins_digit t ≡ true → 0 < length (take (prefix_len is_digit t) t)
digits_some [] h = absurd cc
digits_some (c ∷ cs) h = front_some is_digit c cs h

constant_sound : (line level : ℕ) (t : List ℕ) (x : Term × List ℕ) → begins_digit t ≡ true → constant_at line t ≡ Ok x → ReadsAs level t x.0 x.1
constant_sound line level t x h e =
    let n = prefix_len is_digit t in
    elim (choice (ltb (value (take n t)) constant_limit) (Ok (constant (pos (value (take n t))), drop n t)) (refuse line LargeConstant) (Ok x) e) [
      | on_true small is ↦
          subst (λ (y : Term × List ℕ). ReadsAs level t y.0 y.1) (ok_is (constant (pos (value (take n t))), drop n t) x is)
          (take n t, sym (take-append-drop n t), (digits_some t h, front_passes is_digit t, ltb-true _ _ small, refl))
      | on_false large is ↦ absurd cc
    ]

pub name_sound : (line : ℕ) (t : List ℕ) (x : List ℕ × List ℕ) → name_at line t ≡ Ok x → (u : List ℕ) × (t ≡ u ++ x.1) × IsName x.0 u
name_sound line t x e = go t e
  where
    fits : (c : ℕ) (cs : List ℕ) (n : ℕ) → n ≡ prefix_len is_alphanumeric (c ∷ cs) → is_letter c ≡ true → begins_letter (take n (c ∷ cs)) ≡ true
    fits c cs n e h =
        let alike : is_alphanumeric c ≡ true = rw h refl in
        let k : 1 + prefix_len is_alphanumeric cs ≡ suc (prefix_len is_alphanumeric cs) = omega arith in
        rw (e, alike, k) h

    go : (t : List ℕ) → name_at line t ≡ Ok x → (u : List ℕ) × (t ≡ u ++ x.1) × IsName x.0 u
    go [] e = absurd cc
    go (c ∷ cs) e =
        let n = prefix_len is_alphanumeric (c ∷ cs) in
        elim (choice (is_letter c) (cond (leb n longest_name) (Ok (padded (take n (c ∷ cs)), drop n (c ∷ cs))) (refuse line LongName)) (refuse line Malformed) (Ok x) e) [
          | on_true letter f ↦ elim (choice (leb n longest_name) (Ok (padded (take n (c ∷ cs)), drop n (c ∷ cs))) (refuse line LongName) (Ok x) f) [
            | on_true short is ↦
                subst (λ (y : List ℕ × List ℕ). (u : List ℕ) × (c ∷ cs ≡ u ++ y.1) × IsName y.0 u) (ok_is (padded (take n (c ∷ cs)), drop n (c ∷ cs)) x is)
                (take n (c ∷ cs), sym (take-append-drop n (c ∷ cs)), (fits c cs n refl letter, front_passes is_alphanumeric (c ∷ cs), omega (arith, leb-true _ _ short, length-take n (c ∷ cs)), refl))
            | on_false long is ↦ absurd cc
          ]
          | on_false other is ↦ absurd cc
        ]

-- the truth constant that a text begins with
truth_sound : (level : ℕ) (t : List ℕ) (x : Term × List ℕ) → truth_at t ≡ Some x → ReadsAs level t x.0 x.1
truth_sound level t x e = go (after (truth_spelling true) t) refl (after (truth_spelling false) t) refl e
  where
    go : (o : Option (List ℕ)) → after (truth_spelling true) t ≡ o → (p : Option (List ℕ)) → after (truth_spelling false) t ≡ p
        → ◌≡◌ {A = Option (Term × List ℕ)} (elim o [ Some u ↦ Some (truth true, u) | None ↦ elim p [ Some u ↦ Some (truth false, u) | None ↦ None ] ]) (Some x)
        → ReadsAs level t x.0 x.1
    go (Some u) is p also f = subst (λ (y : Term × List ℕ). ReadsAs level t y.0 y.1) (some_is (truth true, u) x f) (truth_spelling true, after_law (truth_spelling true) t u is, refl)
    go None is (Some u) also f = subst (λ (y : Term × List ℕ). ReadsAs level t y.0 y.1) (some_is (truth false, u) x f) (truth_spelling false, after_law (truth_spelling false) t u also, refl)
    go None is None also f = absurd cc

literal_sound : (line level : ℕ) (t : List ℕ) (x : Term × List ℕ) → literal_at line t ≡ Ok (Some x) → ReadsAs level t x.0 x.1
literal_sound line level t x e =
    elim (choice (begins_real t) (refuse line RealConstant) (cond (begins_digit t) (constant_at line t >>= λ y. Ok (Some y)) (Ok (truth_at t))) (Ok (Some x)) e) [
      | on_true real is ↦ absurd cc
      | on_false other f ↦ elim (choice (begins_digit t) (constant_at line t >>= λ y. Ok (Some y)) (Ok (truth_at t)) (Ok (Some x)) f) [
        | on_true digit is ↦
            let b = bind_ok (constant_at line t) (λ y. Ok (Some y)) (Some x) is in
            subst (λ (y : Term × List ℕ). ReadsAs level t y.0 y.1) (some_is b.0 x (ok_is (Some b.0) (Some x) b.2)) (constant_sound line level t b.0 digit b.1)
        | on_false letter is ↦ truth_sound level t x (ok_is (truth_at t) (Some x) is)
      ]
    ]

-- ---- operators and prefixes

abbrev pub Stands : ℕ → List ℕ → Operator × List ℕ → Type 0
Stands level t o = (level ≡ level_of o.0) × (t ≡ spelling o.0 ++ o.1)

abbrev AllAt : ℕ → List Operator → Type 0
AllAt level [] = Unit {0}
AllAt level (o ∷ os) = (level ≡ level_of o) × AllAt level os

first_law : (level : ℕ) (os : List Operator) (t : List ℕ) (o : Operator × List ℕ) → AllAt level os → first_operator os t ≡ Some o → Stands level t o
first_law level [] t o at e = absurd cc
first_law level (p ∷ ps) t o at e = go (after (spelling p) t) refl e (λ f. first_law level ps t o at.1 f)
  where
    go : (a : Option (List ℕ)) → after (spelling p) t ≡ a → ◌≡◌ {A = Option (Operator × List ℕ)} (elim a [ Some u ↦ Some (p, u) | None ↦ first_operator ps t ]) (Some o)
        → (first_operator ps t ≡ Some o → Stands level t o) → Stands level t o
    go None is f more = more f
    go (Some u) is f more = subst (λ (y : Operator × List ℕ). Stands level t y) (some_is (p, u) o f) (at.0, after_law (spelling p) t u is)

all_at : (level : ℕ) → AllAt level (operators_of level)
all_at level = go (eqb level 1) refl (eqb level 2) refl (eqb level 3) refl (eqb level 5) refl (eqb level 6) refl (eqb level 7) refl
  where
    go : (a : Bool) → eqb level 1 ≡ a → (b : Bool) → eqb level 2 ≡ b → (c : Bool) → eqb level 3 ≡ c → (d : Bool) → eqb level 5 ≡ d → (e : Bool) → eqb level 6 ≡ e → (f : Bool) → eqb level 7 ≡ f
        → AllAt level (cond a (Multiply ∷ Divide ∷ []) (cond b (Add ∷ Subtract ∷ []) (cond c (Less ∷ LessOrEqual ∷ Equal ∷ NotEqual ∷ Greater ∷ GreaterOrEqual ∷ []) (cond d (And ∷ []) (cond e (Or ∷ []) (cond f (Equivalent ∷ NotEquivalent ∷ []) []))))))
    go true is b _ c _ d _ e _ f _ = let l : level ≡ 1 = eqb-true _ _ is in (l, (l, tt))
    go false _ true is c _ d _ e _ f _ = let l : level ≡ 2 = eqb-true _ _ is in (l, (l, tt))
    go false _ false _ true is d _ e _ f _ = let l : level ≡ 3 = eqb-true _ _ is in (l, (l, (l, (l, (l, (l, tt))))))
    go false _ false _ false _ true is e _ f _ = let l : level ≡ 5 = eqb-true _ _ is in (l, tt)
    go false _ false _ false _ false _ true is f _ = let l : level ≡ 6 = eqb-true _ _ is in (l, tt)
    go false _ false _ false _ false _ false _ true is = let l : level ≡ 7 = eqb-true _ _ is in (l, (l, tt))
    go false _ false _ false _ false _ false _ false _ = tt

pub operator_law : (level : ℕ) (t : List ℕ) (o : Operator × List ℕ) → operator_at level t ≡ Some o → Stands level t o
operator_law level t o e = first_law level (operators_of level) t o (all_at level) e

abbrev pub PrefixStands : ℕ → List ℕ → Option Prefix → List ℕ → Type 0
PrefixStands level t None u = t ≡ u
PrefixStands level t (Some p) u = (level ≡ prefix_level p) × (t ≡ prefix_spelling p ++ u)

abbrev AllBefore : ℕ → List Prefix → Type 0
AllBefore level [] = Unit {0}
AllBefore level (p ∷ ps) = (level ≡ prefix_level p) × AllBefore level ps

first_before : (level : ℕ) (ps : List Prefix) (t : List ℕ) → AllBefore level ps → PrefixStands level t (first_prefix ps t).0 (first_prefix ps t).1
first_before level [] t at = refl
first_before level (p ∷ ps) t at = go (after (prefix_spelling p) t) refl (first_before level ps t at.1)
  where
    go : (a : Option (List ℕ)) → after (prefix_spelling p) t ≡ a → PrefixStands level t (first_prefix ps t).0 (first_prefix ps t).1
        → PrefixStands level t (elim a as (λ b. Option Prefix × List ℕ) [ Some u ↦ (Some p, u) | None ↦ first_prefix ps t ]).0 (elim a as (λ b. Option Prefix × List ℕ) [ Some u ↦ (Some p, u) | None ↦ first_prefix ps t ]).1
    go None is more = more
    go (Some u) is more = (at.0, after_law (prefix_spelling p) t u is)

all_before : (level : ℕ) → AllBefore level (prefixes_of level)
all_before level = go (eqb level 2) refl (eqb level 4) refl
  where
    go : (a : Bool) → eqb level 2 ≡ a → (b : Bool) → eqb level 4 ≡ b → AllBefore level (cond a (Plus ∷ Minus ∷ []) (cond b (Not ∷ []) []))
    go true is b _ = let l : level ≡ 2 = eqb-true _ _ is in (l, (l, tt))
    go false _ true is = let l : level ≡ 4 = eqb-true _ _ is in (l, tt)
    go false _ false _ = tt

pub prefix_law : (level : ℕ) (t : List ℕ) → PrefixStands level t (prefix_at level t).0 (prefix_at level t).1
prefix_law level t = first_before level (prefixes_of level) t (all_before level)

-- ---- the levels

-- the level of what stands on the left of an operator
abbrev pub left_of : ℕ → ℕ
left_of level = cond (eqb level relation) 2 level

left_is : (o : Operator) → left_of (level_of o) ≡ left_level o
left_is Add = refl
left_is o = refl

pub right_is : (o : Operator) → level_of o - 1 ≡ right_level o
right_is Add = refl
right_is o = refl

operand_is : (p : Prefix) → prefix_level p - 1 ≡ operand_level p
operand_is Plus = refl
operand_is Minus = refl
operand_is Not = refl

not_relation : (p : Prefix) → left_of (prefix_level p) ≡ prefix_level p
not_relation Plus = refl
not_relation Minus = refl
not_relation Not = refl

-- what a lower level spells, a higher one spells
pub Spells-up : (k l : ℕ) (e : Term) (u : List ℕ) → k ≤ l → Spells k e u → Spells l e u
Spells-up k l (constant n) u le h = h
Spells-up k l (truth b) u le h = h
Spells-up k l (parameter x n) u le h = h
Spells-up k l (element r es) u le h = h
Spells-up k l (call f es) u le h = h
Spells-up k l (parentheses e) u le h = h
Spells-up k l (unary p e) u le h = (omega arith, h.1, h.2, h.3)
Spells-up k l (binary o a b) u le h = (omega arith, h.1, h.2, h.3, h.4, h.5)

pub left_low : (level : ℕ) → left_of level ≤ level
left_low level = go (eqb level 3) refl
  where
    go : (b : Bool) → eqb level 3 ≡ b → cond b 2 level ≤ level
    go true is = omega (arith, eqb-true level 3 is)
    go false is = omega arith

below_left : (level : ℕ) → level - 1 ≤ left_of level
below_left level = go (eqb level 3) refl
  where
    go : (b : Bool) → eqb level 3 ≡ b → level - 1 ≤ cond b 2 level
    go true is = omega (arith, eqb-true level 3 is)
    go false is = omega arith

-- an operand and its prefix
prefix_reads : (level : ℕ) (t u v rest : List ℕ) (p : Option Prefix) (e : Term) → PrefixStands level t p u → u ≡ v ++ rest → Spells (level - 1) e v
    → ReadsAs (left_of level) t (with_prefix p e) rest
prefix_reads level t u v rest None e stands cut h = (v, stands ∙ cut, Spells-up (level - 1) (left_of level) e v (below_left level) h)
prefix_reads level t u v rest (Some p) e stands cut h =
    let at : left_of level ≡ prefix_level p = ap left_of stands.0 ∙ not_relation p in
    let one : level - 1 ≡ operand_level p = ap (λ (k : ℕ). k - 1) stands.0 ∙ operand_is p in (
      prefix_spelling p ++ v,
      joined t (prefix_spelling p) u v rest stands.1 cut,
      (omega (arith, at), v, refl, subst (λ (k : ℕ). Spells k e v) one h),
    )

-- two operands and the operator between them
binary_spells : (level : ℕ) (t u w : List ℕ) (o : Operator × List ℕ) (a b : Term) → Stands level t o → Spells (left_of level) a u → Spells (level - 1) b w
    → Spells level (binary o.0 a b) (u ++ (spelling o.0 ++ w))
binary_spells level t u w o a b at ha hb = (
  omega (arith, at.0),
  u,
  w,
  refl,
  subst (λ (k : ℕ). Spells k a u) (ap left_of at.0 ∙ left_is o.0) ha,
  subst (λ (k : ℕ). Spells k b w) (ap (λ (k : ℕ). k - 1) at.0 ∙ right_is o.0) hb,
)

-- a text goes on where an operand, operators and operands stand after what was read
abbrev pub GoesOn : ℕ → List ℕ → List ℕ → Term → List ℕ → Type 0
GoesOn level u t e rest = (v : List ℕ) × (t ≡ v ++ rest) × Spells level e (u ++ v)

chain_ends : (level : ℕ) (u t : List ℕ) (left : Term) (x : Term × List ℕ) → Spells level left u → done (left, t) ≡ Ok x → GoesOn level u t x.0 x.1
chain_ends level u t left x h e = subst (λ (y : Term × List ℕ). GoesOn level u t y.0 y.1) (ok_is (left, t) x e) ([], refl, rw (append-nil u) h)

chain_more : (level : ℕ) (u t w r rest : List ℕ) (o : Operator × List ℕ) (e : Term) → Stands level t o → o.1 ≡ w ++ r → GoesOn level (u ++ (spelling o.0 ++ w)) r e rest → GoesOn level u t e rest
chain_more level u t w r rest o e at cut more =
    let whole : t ≡ (spelling o.0 ++ w) ++ r = joined t (spelling o.0) o.1 w r at.1 cut in
    ((spelling o.0 ++ w) ++ more.0, joined t (spelling o.0 ++ w) r more.0 rest whole more.1, subst (λ (l : List ℕ). Spells level e l) (append_assoc u (spelling o.0 ++ w) more.0) more.2)

closed_sound : (line level : ℕ) (t u v : List ℕ) (e : Term) (x : Term × List ℕ) (r : List ℕ) → t ≡ codes "(" ++ u → u ≡ v ++ r → Spells top e v → closed_at line e r ≡ Ok x → ReadsAs level t x.0 x.1
closed_sound line level t u v e x r opened cut h f =
    let b = bind_ok (wanted_at line (codes ")") r) (λ w. Ok (parentheses e, w)) x f in
    let close : r ≡ codes ")" ++ b.0 = wanted_law line (codes ")") r b.0 b.1 in
    let whole : t ≡ (40 ∷ (v ++ 41 ∷ [])) ++ b.0 = opened ∙ ap (λ (l : List ℕ). 40 ∷ l) (joined u v r (41 ∷ []) b.0 cut close) in
    subst (λ (y : Term × List ℕ). ReadsAs level t y.0 y.1) (ok_is (parentheses e, b.0) x b.2) (40 ∷ (v ++ 41 ∷ []), whole, (v, refl, h))

-- ---- lists in parentheses

-- what a list that was read in part goes on with
abbrev MoreOf : List Term → List ℕ → List Term × List ℕ → Type 0
MoreOf es t y = (fs : List Term) × (w : List ℕ) × (y.0 ≡ es ++ fs) × (t ≡ w ++ y.1) × AreFurther (terms fs) w

abbrev ListOf : List Term → List ℕ → List Term × List ℕ → Type 0
ListOf es t y = (f : Term) × (fs : List Term) × (u : List ℕ) × (w : List ℕ) × (y.0 ≡ es ++ f ∷ fs) × (t ≡ (u ++ w) ++ y.1) × Spells top f u × AreFurther (terms fs) w

list_goes_on : (es : List Term) (t r : List ℕ) (f : Term) (y : List Term × List ℕ) → ReadsAs top t f r → MoreOf (es ++ f ∷ []) r y → ListOf es t y
list_goes_on es t r f y first more = (f, more.0, first.0, more.1, more.2 ∙ append_assoc es (f ∷ []) more.0, joined t first.0 r more.1 y.1 first.1 more.3, first.2, more.4)

further_goes_on : (es : List Term) (t r : List ℕ) (y : List Term × List ℕ) → t ≡ codes "," ++ r → ListOf es r y → MoreOf es t y
further_goes_on es t r y comma list = (list.0 ∷ list.1, 44 ∷ (list.2 ++ list.3), list.4, comma ∙ ap (λ (l : List ℕ). 44 ∷ l) list.5, (list.2, list.3, refl, list.6, list.7))

further_ends : (es : List Term) (t r : List ℕ) (y : List Term × List ℕ) → t ≡ codes ")" ++ r → done (es, r) ≡ Ok y → MoreOf es t y
further_ends es t r y close e = subst (λ (z : List Term × List ℕ). MoreOf es t z) (ok_is (es, r) y e) ([], codes ")", sym (append-nil es), close, refl)

abbrev pub SubscriptsRead : List ℕ → List Term × List ℕ → Type 0
SubscriptsRead t y = (v : List ℕ) × (t ≡ v ++ y.1) × AreSubscripts (terms y.0) v

no_subscripts : (t : List ℕ) (y : List Term × List ℕ) → done ([], t) ≡ Ok y → SubscriptsRead t y
no_subscripts t y e = subst (λ (z : List Term × List ℕ). SubscriptsRead t z) (ok_is ([], t) y e) ([], refl, refl)

some_subscripts : (t r : List ℕ) (y : List Term × List ℕ) → t ≡ codes "(" ++ r → ListOf [] r y → SubscriptsRead t y
some_subscripts t r y opened list =
    (40 ∷ (list.2 ++ list.3), opened ∙ ap (λ (l : List ℕ). 40 ∷ l) list.5, subst (λ (es : List Term). AreSubscripts (terms es) (40 ∷ (list.2 ++ list.3))) (sym list.4) (list.2, list.3, refl, list.6, list.7))

abbrev pub AccessRead : List ℕ → Access × List ℕ → Type 0
AccessRead t x = (u : List ℕ) × (t ≡ u ++ x.1) × IsAccess x.0 u

access_whole : (line : ℕ) (t : List ℕ) (a : List ℕ × List ℕ) (y : List Term × List ℕ) (x : Access × List ℕ) → name_at line t ≡ Ok a → SubscriptsRead a.1 y
    → done (record { ref = reference_to a.0; subscripts = terms y.0 }, y.1) ≡ Ok x → AccessRead t x
access_whole line t a y x named subscripts e =
    let s = name_sound line t a named in
    subst (λ (z : Access × List ℕ). AccessRead t z) (ok_is (record { ref = reference_to a.0; subscripts = terms y.0 }, y.1) x e)
    (s.0 ++ subscripts.0, joined t s.0 a.1 subscripts.0 y.1 s.1 subscripts.1, (s.0, subscripts.0, refl, (a.0, s.2, refl), subscripts.2))

mutual
  pub level_sound : (line n level : ℕ) (t : List ℕ) (x : Term × List ℕ) → level_at line n level t ≡ Ok x → ReadsAs level t x.0 x.1
  level_sound line zero level t x e = absurd cc
  level_sound line (suc n) level t x e =
      elim (choice (eqb level 0) (primary_at line n t) (level_at line n (level - 1) (prefix_at level t).1 >>= λ y. chain_at line n level (with_prefix (prefix_at level t).0 y.0) y.1) (Ok x) e) [
        | on_true at0 is ↦ primary_sound line n level t x is
        | on_false above is ↦
            let a = bind_ok (level_at line n (level - 1) (prefix_at level t).1) (λ y. chain_at line n level (with_prefix (prefix_at level t).0 y.0) y.1) x is in
            let operand = level_sound line n (level - 1) (prefix_at level t).1 a.0 a.1 in
            let first = prefix_reads level t (prefix_at level t).1 operand.0 a.0.1 (prefix_at level t).0 a.0.0 (prefix_law level t) operand.1 operand.2 in
            let more = chain_sound line n level first.0 a.0.1 (with_prefix (prefix_at level t).0 a.0.0) x first.2 a.2 in
            (first.0 ++ more.0, joined t first.0 a.0.1 more.0 x.1 first.1 more.1, more.2)
      ]

  pub chain_sound : (line n level : ℕ) (u t : List ℕ) (left : Term) (x : Term × List ℕ) → Spells (left_of level) left u → chain_at line n level left t ≡ Ok x → GoesOn level u t x.0 x.1
  chain_sound line zero level u t left x h e = absurd cc
  chain_sound line (suc n) level u t left x h e = go (operator_at level t) refl e (λ r y f. level_sound line n (level - 1) r y f) (λ v r l y g f. chain_sound line n level v r l y g f)
    where
      go : (o : Option (Operator × List ℕ)) → operator_at level t ≡ o
          → ◌≡◌ {A = Result (Term × List ℕ) Break} (elim o [ None ↦ Ok (left, t) | Some p ↦ level_at line n (level - 1) p.1 >>= λ y. cond (eqb level relation) (Ok (binary p.0 left y.0, y.1)) (chain_at line n level (binary p.0 left y.0) y.1) ]) (Ok x)
          → ((r : List ℕ) (y : Term × List ℕ) → level_at line n (level - 1) r ≡ Ok y → ReadsAs (level - 1) r y.0 y.1)
          → ((v r : List ℕ) (l : Term) (y : Term × List ℕ) → Spells (left_of level) l v → chain_at line n level l r ≡ Ok y → GoesOn level v r y.0 y.1)
          → GoesOn level u t x.0 x.1
      go None is f operand more = chain_ends level u t left x (Spells-up (left_of level) level left u (left_low level) h) f
      go (Some p) is f operand more =
          let at = operator_law level t p is in
          let b = bind_ok (level_at line n (level - 1) p.1) (λ y. cond (eqb level relation) (Ok (binary p.0 left y.0, y.1)) (chain_at line n level (binary p.0 left y.0) y.1)) x f in
          let right = operand p.1 b.0 b.1 in
          let both = binary_spells level t u right.0 p left b.0.0 at h right.2 in
          elim (choice (eqb level relation) (Ok (binary p.0 left b.0.0, b.0.1)) (chain_at line n level (binary p.0 left b.0.0) b.0.1) (Ok x) b.2) [
            | on_true one g ↦
                chain_more level u t right.0 b.0.1 x.1 p x.0 at right.1 (chain_ends level (u ++ (spelling p.0 ++ right.0)) b.0.1 (binary p.0 left b.0.0) x both g)
            | on_false chains g ↦
                let lifted = subst (λ (k : ℕ). Spells k (binary p.0 left b.0.0) (u ++ (spelling p.0 ++ right.0))) (sym (ap (λ (q : Bool). cond q 2 level) chains)) both in
                chain_more level u t right.0 b.0.1 x.1 p x.0 at right.1 (more (u ++ (spelling p.0 ++ right.0)) b.0.1 (binary p.0 left b.0.0) x lifted g)
          ]

  pub primary_sound : (line n level : ℕ) (t : List ℕ) (x : Term × List ℕ) → primary_at line n t ≡ Ok x → ReadsAs level t x.0 x.1
  primary_sound line zero level t x e = absurd cc
  primary_sound line (suc n) level t x e = go (after (codes "(") t) refl e (λ r y f. level_sound line n top r y f) (λ o f g. operand_sound line n level o t x f g)
    where
      go : (a : Option (List ℕ)) → after (codes "(") t ≡ a
          → ◌≡◌ {A = Result (Term × List ℕ) Break} (elim a [ None ↦ literal_at line t >>= λ o. operand_at line n o t | Some u ↦ level_at line n top u >>= λ y. closed_at line y.0 y.1 ]) (Ok x)
          → ((r : List ℕ) (y : Term × List ℕ) → level_at line n top r ≡ Ok y → ReadsAs top r y.0 y.1)
          → ((o : Option (Term × List ℕ)) → literal_at line t ≡ Ok o → operand_at line n o t ≡ Ok x → ReadsAs level t x.0 x.1)
          → ReadsAs level t x.0 x.1
      go None is f inner operand =
          let b = bind_ok (literal_at line t) (λ o. operand_at line n o t) x f in
          operand b.0 b.1 b.2
      go (Some u) is f inner operand =
          let b = bind_ok (level_at line n top u) (λ y. closed_at line y.0 y.1) x f in
          let s = inner u b.0 b.1 in
          closed_sound line level t u s.0 b.0.0 x b.0.1 (after_law (codes "(") t u is) s.1 s.2 b.2

  pub operand_sound : (line n level : ℕ) (o : Option (Term × List ℕ)) (t : List ℕ) (x : Term × List ℕ) → literal_at line t ≡ Ok o → operand_at line n o t ≡ Ok x → ReadsAs level t x.0 x.1
  operand_sound line zero level o t x literal e = absurd cc
  operand_sound line (suc n) level (Some y) t x literal e = subst (λ (z : Term × List ℕ). ReadsAs level t z.0 z.1) (ok_is y x e) (literal_sound line level t y literal)
  operand_sound line (suc n) level None t x literal e =
      let b = bind_ok (access_at line n t) (λ y. Ok (accessed y.0, y.1)) x e in
      let a = access_sound line n t b.0 b.1 in
      subst (λ (z : Term × List ℕ). ReadsAs level t z.0 z.1) (ok_is (accessed b.0.0, b.0.1) x b.2) (a.0, a.1, a.2)

  pub access_sound : (line n : ℕ) (t : List ℕ) (x : Access × List ℕ) → access_at line n t ≡ Ok x → AccessRead t x
  access_sound line zero t x e = absurd cc
  access_sound line (suc n) t x e =
      let rest = λ (a : List ℕ × List ℕ). subscripts_at line n a.1 >>= λ y. done (record { ref = reference_to a.0; subscripts = terms y.0 }, y.1) in
      let a = bind_ok (name_at line t) rest x e in
      let b = bind_ok (subscripts_at line n a.0.1) (λ y. done (record { ref = reference_to a.0.0; subscripts = terms y.0 }, y.1)) x a.2 in
      access_whole line t a.0 b.0 x a.1 (subscripts_sound line n a.0.1 b.0 b.1) b.2

  pub subscripts_sound : (line n : ℕ) (t : List ℕ) (y : List Term × List ℕ) → subscripts_at line n t ≡ Ok y → SubscriptsRead t y
  subscripts_sound line zero t y e = absurd cc
  subscripts_sound line (suc n) t y e = go (after (codes "(") t) refl e (λ u f. list_sound line n [] u y f)
    where
      go : (a : Option (List ℕ)) → after (codes "(") t ≡ a → ◌≡◌ {A = Result (List Term × List ℕ) Break} (elim a [ None ↦ Ok ([], t) | Some u ↦ list_at line n [] u ]) (Ok y)
          → ((u : List ℕ) → list_at line n [] u ≡ Ok y → ListOf [] u y) → SubscriptsRead t y
      go None is f list = no_subscripts t y f
      go (Some u) is f list = some_subscripts t u y (after_law (codes "(") t u is) (list u f)

  list_sound : (line n : ℕ) (es : List Term) (t : List ℕ) (y : List Term × List ℕ) → list_at line n es t ≡ Ok y → ListOf es t y
  list_sound line zero es t y e = absurd cc
  list_sound line (suc n) es t y e =
      let b = bind_ok (level_at line n top t) (λ x. further_at line n (es ++ x.0 ∷ []) x.1) y e in
      list_goes_on es t b.0.1 b.0.0 y (level_sound line n top t b.0 b.1) (further_sound line n (es ++ b.0.0 ∷ []) b.0.1 y b.2)

  further_sound : (line n : ℕ) (es : List Term) (t : List ℕ) (y : List Term × List ℕ) → further_at line n es t ≡ Ok y → MoreOf es t y
  further_sound line zero es t y e = absurd cc
  further_sound line (suc n) es t y e = go (after (codes ",") t) refl e (λ u f. list_sound line n es u y f)
    where
      go : (a : Option (List ℕ)) → after (codes ",") t ≡ a
          → ◌≡◌ {A = Result (List Term × List ℕ) Break} (elim a [ Some u ↦ list_at line n es u | None ↦ wanted_at line (codes ")") t >>= λ u. Ok (es, u) ]) (Ok y)
          → ((u : List ℕ) → list_at line n es u ≡ Ok y → ListOf es u y) → MoreOf es t y
      go None is f list =
          let b = bind_ok (wanted_at line (codes ")") t) (λ u. Ok (es, u)) y f in
          further_ends es t b.0 y (wanted_law line (codes ")") t b.0 b.1) b.2
      go (Some u) is f list = further_goes_on es t u y (after_law (codes ",") t u is) (list u f)

pub front_sound : (line : ℕ) (t : List ℕ) (x : Term × List ℕ) → front_at line t ≡ Ok x → ReadsAs top t x.0 x.1
front_sound line t x e = level_sound line (12 * length t + 12) top t x e

pub element_sound : (line : ℕ) (t : List ℕ) (x : Access × List ℕ) → element_at line t ≡ Ok x → AccessRead t x
element_sound line t x e = access_sound line (12 * length t + 12) t x e

pub whole_sound : (line : ℕ) (t : List ℕ) (e : Term) → whole_at line t ≡ Ok e → Spells top e t
whole_sound line t e h =
    let b = bind_ok (front_at line t) (ended line) e h in
    let s = front_sound line t b.0 b.1 in
    let c = bind_ok (end_at line b.0.1) (λ u. done b.0.0) e b.2 in
    let last : b.0.1 ≡ [] = (end_law line b.0.1 c.0 c.1).0 in
    let all : t ≡ s.0 = s.1 ∙ ap (λ (w : List ℕ). s.0 ++ w) last ∙ append-nil s.0 in
    subst (λ (x : Term). Spells top x t) (ok_is b.0.0 e c.2) (subst (λ (w : List ℕ). Spells top b.0.0 w) (sym all) s.2)
