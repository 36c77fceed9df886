-- Each fault that reading gives is at the line and of a rule of statements: with the room that it
-- has, reading comes to an end.
use Rattle.std.proofs.Common.{◌≡◌, ℕ, zero, suc, pos, ◌+◌, ◌-◌, ◌*◌, ◌<◌, ◌≤◌, Bool, true, false, cond, eqb, leb, ltb, List, [], ◌∷◌, ◌++◌, length, take, drop, Option, Some, None, Result, Ok, Err, refl, ap, subst, arith}
use Rattle.std.specs.Prelude.{codes}
use Rattle.std.specs.List.{prefix_len}
use Rattle.std.proofs.lemmas.Bool.{eqb-false}
use Rattle.std.proofs.lemmas.List.{length-append}
use Rattle.ast.specs.Answers.{Break}
use Rattle.ast.specs.Name.{padded}
use Rattle.ast.specs.Results.{◌>>=◌}
use Rattle.ast.specs.Tree.{Term, constant, binary, parentheses, terms, Access, accessed, depth}
use Rattle.ast.specs.declared.expression.Operator.{Operator}
use Rattle.ast.specs.declared.expression.Prefix.{Prefix}
use Rattle.expressions.specs.Answers.{refuse}
use Rattle.expressions.specs.Characters.{is_digit, is_alphanumeric, begins_digit, begins_letter, after, value, constant_limit, longest_name}
use Rattle.ast.specs.Spelling.{prefix_spelling, spelling}
use Rattle.ast.specs.Rule.{number_of}
use Rattle.ast.specs.declared.rule.Rule.{Rule}
use Rattle.ast.specs.declared.rule.Rule.TheVariants.{UnendedText, RealConstant, LargeConstant, LongName, Malformed, Deep}
use Rattle.expressions.specs.Levels.{relation}
use Rattle.expressions.specs.Grammar.{reference_to, depth_limit}
use Rattle.expressions.specs.Real.{begins_real}
use Rattle.expressions.specs.Reading.{misplaced, constant_at, name_at, truth_at, literal_at, operator_at, prefix_at, with_prefix, wanted_at, end_at, ended, closed_at, level_at, chain_at, primary_at, operand_at, access_at, subscripts_at, list_at, further_at, front_at, element_at, whole_at, shallow, expression_at}
use Rattle.expressions.proofs.Followers.{some_spelled, spelling_some}
use Rattle.expressions.proofs.Sound.{ReadsAs, PrefixStands, prefix_law, operator_law, level_sound, name_sound}
use Rattle.expressions.proofs.Tools.{after_law}

-- a fault of the text of a statement that is cut into pieces
pub record IsFault (line : ℕ) (fault : Break) : Type 0 where
  pub low : 20 ≤ number_of fault.rule
  pub high : number_of fault.rule ≤ 27
  pub whole : fault.rule ≡ UnendedText → ⊥
  pub at : fault.line ≡ line

abbrev pub Numbered : {X : Type 0} → ℕ → Result X Break → Type 0
Numbered line (Ok x) = Unit {0}
Numbered line (Err d) = IsFault line d

pub fault : {X : Type 0} (line : ℕ) (r : Result X Break) (d : Break) → Numbered line r → r ≡ Err d → IsFault line d
fault line (Ok x) d h e = absurd cc
fault line (Err c) d h e = let is : c ≡ d = cc in subst (λ (b : Break). IsFault line b) is h

pub bind : {X Y : Type 0} (line : ℕ) (r : Result X Break) (f : X → Result Y Break) → Numbered line r → ((x : X) → r ≡ Ok x → Numbered line (f x)) → Numbered line (r >>= f)
bind line (Ok x) f h k = k x refl
bind line (Err n) f h k = h

pub either : {X : Type 0} (line : ℕ) (b : Bool) (r s : Result X Break) → (b ≡ true → Numbered line r) → (b ≡ false → Numbered line s) → Numbered line (cond b r s)
either line true r s h k = h refl
either line false r s h k = k refl

pub of_rule : (line : ℕ) (rule : Rule) → 20 ≤ number_of rule → number_of rule ≤ 27 → (rule ≡ UnendedText → ⊥) → IsFault line (record { rule = rule; line = line })
of_rule line rule low high whole = record { low = low; high = high; whole = whole; at = refl }

pub misplaced_numbered : (line : ℕ) (t : List ℕ) → IsFault line (record { rule = misplaced t; line = line })
misplaced_numbered line t = go (begins_real t)
  where
    go : (b : Bool) → IsFault line (record { rule = cond b RealConstant Malformed; line = line })
    go true = of_rule line RealConstant (omega arith) (omega arith) (λ e. cc)
    go false = of_rule line Malformed (omega arith) (omega arith) (λ e. cc)

pub wanted_numbered : (line : ℕ) (mark t : List ℕ) → Numbered line (wanted_at line mark t)
wanted_numbered line mark t = go (after mark t)
  where
    go : (o : Option (List ℕ)) → Numbered {X = List ℕ} line (elim o [ Some u ↦ Ok u | None ↦ refuse line (misplaced t) ])
    go None = misplaced_numbered line t
    go (Some u) = tt

pub end_numbered : (line : ℕ) (t : List ℕ) → Numbered line (end_at line t)
end_numbered line t = either line (eqb (length t) 0) (Ok []) (refuse line (misplaced t)) (λ _. tt) (λ _. misplaced_numbered line t)

pub name_numbered : (line : ℕ) (t : List ℕ) → Numbered line (name_at line t)
name_numbered line t =
    let n = prefix_len is_alphanumeric t in
    either line (begins_letter t) (cond (leb n longest_name) (Ok (padded (take n t), drop n t)) (refuse line LongName)) (refuse line Malformed)
    (λ _. either line (leb n longest_name) (Ok (padded (take n t), drop n t)) (refuse line LongName) (λ _. tt) (λ _. of_rule line LongName (omega arith) (omega arith) (λ e. cc)))
    (λ _. of_rule line Malformed (omega arith) (omega arith) (λ e. cc))

literal_numbered : (line : ℕ) (t : List ℕ) → Numbered line (literal_at line t)
literal_numbered line t =
    let n = prefix_len is_digit t in
    either line (begins_real t) (refuse line RealConstant) (cond (begins_digit t) (constant_at line t >>= λ x. Ok (Some x)) (Ok (truth_at t)))
    (λ _. of_rule line RealConstant (omega arith) (omega arith) (λ e. cc))
    (λ _. either line (begins_digit t) (constant_at line t >>= λ x. Ok (Some x)) (Ok (truth_at t))
    (λ _. bind line (constant_at line t) (λ x. Ok (Some x))
    (either line (ltb (value (take n t)) constant_limit) (Ok (constant (pos (value (take n t))), drop n t)) (refuse line LargeConstant) (λ _. tt) (λ _. of_rule line LargeConstant (omega arith) (omega arith) (λ e. cc)))
    (λ x e. tt))
    (λ _. tt))

closed_numbered : (line : ℕ) (e : Term) (t : List ℕ) → Numbered line (closed_at line e t)
closed_numbered line e t = bind line (wanted_at line (codes ")") t) (λ u. Ok (parentheses e, u)) (wanted_numbered line (codes ")") t) (λ u e. tt)

-- ---- the levels

-- what is left after an expression is shorter
pub shorter : (level : ℕ) (t : List ℕ) (e : Term) (rest : List ℕ) → level ≤ 7 → ReadsAs level t e rest → length rest < length t
shorter level t e rest high h = omega (arith, ap length h.1, length-append h.0 rest, some_spelled e level h.0 high h.2)

unprefixed_short : (level : ℕ) (t u : List ℕ) (p : Option Prefix) → PrefixStands level t p u → length u ≤ length t
unprefixed_short level t u None h = omega (arith, ap length h)
unprefixed_short level t u (Some p) h = omega (arith, ap length h.1, length-append (prefix_spelling p) u)

marked_short : (mark t u : List ℕ) → after mark t ≡ Some u → length t ≡ length mark + length u
marked_short mark t u is = omega (arith, ap length (after_law mark t u is), length-append mark u)

name_short : (line : ℕ) (t : List ℕ) (x : List ℕ × List ℕ) → name_at line t ≡ Ok x → length x.1 < length t
name_short line t x e =
    let s = name_sound line t x e in
    omega (arith, ap length s.1, length-append s.0 x.1, some s.0 s.2.0)
  where
    some : (u : List ℕ) → begins_letter u ≡ true → 0 < length u
    some [] h = absurd cc
    some (c ∷ cs) h = omega arith

mutual
  level_numbered : (line n level : ℕ) (t : List ℕ) → level ≤ 7 → 12 * length t + level + 5 ≤ n → Numbered line (level_at line n level t)
  level_numbered line zero level t le room = absurd (omega arith)
  level_numbered line (suc n) level t le room =
      let u = (prefix_at level t).1 in
      let short : length u ≤ length t = unprefixed_short level t u (prefix_at level t).0 (prefix_law level t) in
      either line (eqb level 0) (primary_at line n t) (level_at line n (level - 1) u >>= λ x. chain_at line n level (with_prefix (prefix_at level t).0 x.0) x.1)
      (λ z. primary_numbered line n t (omega arith))
      (λ above.
      let some : 0 < level = omega (arith, eqb-false level 0 above) in
      bind line (level_at line n (level - 1) u) (λ x. chain_at line n level (with_prefix (prefix_at level t).0 x.0) x.1)
      (level_numbered line n (level - 1) u (omega arith) (omega arith))
      (λ x e. chain_numbered line n level (with_prefix (prefix_at level t).0 x.0) x.1 le (omega (arith, shorter (level - 1) u x.0 x.1 (omega arith) (level_sound line n (level - 1) u x e)))))

  chain_numbered : (line n level : ℕ) (left : Term) (t : List ℕ) → level ≤ 7 → 12 * length t + 1 ≤ n → Numbered line (chain_at line n level left t)
  chain_numbered line zero level left t le room = absurd (omega arith)
  chain_numbered line (suc n) level left t le room = go (operator_at level t) refl (λ u r. level_numbered line n (level - 1) u (omega arith) r) (λ l u r. chain_numbered line n level l u le r)
    where
      go : (o : Option (Operator × List ℕ)) → operator_at level t ≡ o
          → ((u : List ℕ) → 12 * length u + (level - 1) + 5 ≤ n → Numbered line (level_at line n (level - 1) u))
          → ((l : Term) (u : List ℕ) → 12 * length u + 1 ≤ n → Numbered line (chain_at line n level l u))
          → Numbered line (chain_at line (suc n) level left t)
      go None is operand more = rw (chain_at, is) tt
      go (Some p) is operand more =
          let long : length p.1 + 1 ≤ length t = omega (arith, ap length (operator_law level t p is).1, length-append (spelling p.0) p.1, spelling_some p.0) in
          rw (chain_at, is)
          (bind line (level_at line n (level - 1) p.1) (λ x. cond (eqb level relation) (Ok (binary p.0 left x.0, x.1)) (chain_at line n level (binary p.0 left x.0) x.1)) (operand p.1 (omega arith))
          (λ x e. either line (eqb level relation) (Ok (binary p.0 left x.0, x.1)) (chain_at line n level (binary p.0 left x.0) x.1) (λ _. tt)
          (λ _. more (binary p.0 left x.0) x.1 (omega (arith, shorter (level - 1) p.1 x.0 x.1 (omega arith) (level_sound line n (level - 1) p.1 x e))))))

  primary_numbered : (line n : ℕ) (t : List ℕ) → 12 * length t + 4 ≤ n → Numbered line (primary_at line n t)
  primary_numbered line zero t room = absurd (omega arith)
  primary_numbered line (suc n) t room = go (after (codes "(") t) refl (λ u r. level_numbered line n 7 u (omega arith) r) (λ o. operand_numbered line n o t (omega arith))
    where
      go : (o : Option (List ℕ)) → after (codes "(") t ≡ o → ((u : List ℕ) → 12 * length u + 7 + 5 ≤ n → Numbered line (level_at line n 7 u)) → ((o : Option (Term × List ℕ)) → Numbered line (operand_at line n o t))
          → Numbered line (primary_at line (suc n) t)
      go None is inner operand = rw (primary_at, is) (bind line (literal_at line t) (λ o. operand_at line n o t) (literal_numbered line t) (λ o e. operand o))
      go (Some u) is inner operand =
          let long = marked_short (codes "(") t u is in
          rw (primary_at, is) (bind line (level_at line n 7 u) (λ x. closed_at line x.0 x.1) (inner u (omega arith)) (λ x e. closed_numbered line x.0 x.1))

  operand_numbered : (line n : ℕ) (o : Option (Term × List ℕ)) (t : List ℕ) → 12 * length t + 3 ≤ n → Numbered line (operand_at line n o t)
  operand_numbered line zero o t room = absurd (omega arith)
  operand_numbered line (suc n) (Some x) t room = tt
  operand_numbered line (suc n) None t room = bind line (access_at line n t) (λ x. Ok (accessed x.0, x.1)) (access_numbered line n t (omega arith)) (λ x e. tt)

  access_numbered : (line n : ℕ) (t : List ℕ) → 12 * length t + 2 ≤ n → Numbered line (access_at line n t)
  access_numbered line zero t room = absurd (omega arith)
  access_numbered line (suc n) t room =
      let behind : List ℕ × List ℕ → Result (Access × List ℕ) Break = λ x. subscripts_at line n x.1 >>= λ y. Ok (record { ref = reference_to x.0; subscripts = terms y.0 }, y.1) in
      bind line (name_at line t) behind (name_numbered line t)
      (λ x e. bind line (subscripts_at line n x.1) (λ y. Ok (record { ref = reference_to x.0; subscripts = terms y.0 }, y.1)) (subscripts_numbered line n x.1 (omega (arith, name_short line t x e))) (λ y f. tt))

  subscripts_numbered : (line n : ℕ) (t : List ℕ) → 12 * length t + 13 ≤ n → Numbered line (subscripts_at line n t)
  subscripts_numbered line zero t room = absurd (omega arith)
  subscripts_numbered line (suc n) t room = go (after (codes "(") t) refl (λ u r. list_numbered line n [] u r)
    where
      go : (o : Option (List ℕ)) → after (codes "(") t ≡ o → ((u : List ℕ) → 12 * length u + 13 ≤ n → Numbered line (list_at line n [] u)) → Numbered line (subscripts_at line (suc n) t)
      go None is list = rw (subscripts_at, is) tt
      go (Some u) is list = let long = marked_short (codes "(") t u is in rw (subscripts_at, is) (list u (omega arith))

  list_numbered : (line n : ℕ) (es : List Term) (t : List ℕ) → 12 * length t + 13 ≤ n → Numbered line (list_at line n es t)
  list_numbered line zero es t room = absurd (omega arith)
  list_numbered line (suc n) es t room =
      bind line (level_at line n 7 t) (λ x. further_at line n (es ++ x.0 ∷ []) x.1) (level_numbered line n 7 t (omega arith) (omega arith))
      (λ x e. further_numbered line n (es ++ x.0 ∷ []) x.1 (omega (arith, shorter 7 t x.0 x.1 (omega arith) (level_sound line n 7 t x e))))

  further_numbered : (line n : ℕ) (es : List Term) (t : List ℕ) → 12 * length t + 4 ≤ n → Numbered line (further_at line n es t)
  further_numbered line zero es t room = absurd (omega arith)
  further_numbered line (suc n) es t room = go (after (codes ",") t) refl (λ u r. list_numbered line n es u r)
    where
      go : (o : Option (List ℕ)) → after (codes ",") t ≡ o → ((u : List ℕ) → 12 * length u + 13 ≤ n → Numbered line (list_at line n es u)) → Numbered line (further_at line (suc n) es t)
      go None is list = rw (further_at, is) (bind line (wanted_at line (codes ")") t) (λ u. Ok (es, u)) (wanted_numbered line (codes ")") t) (λ u e. tt))
      go (Some u) is list = let long = marked_short (codes ",") t u is in rw (further_at, is) (list u (omega arith))

pub front_numbered : (line : ℕ) (t : List ℕ) → Numbered line (front_at line t)
front_numbered line t = level_numbered line (12 * length t + 12) 7 t (omega arith) (omega arith)

pub element_numbered : (line : ℕ) (t : List ℕ) → Numbered line (element_at line t)
element_numbered line t = access_numbered line (12 * length t + 12) t (omega arith)

pub ended_numbered : {X : Type 0} (line : ℕ) (x : X × List ℕ) → Numbered line (ended line x)
ended_numbered line x = bind line (end_at line x.1) (λ u. Ok x.0) (end_numbered line x.1) (λ u e. tt)

pub whole_numbered : (line : ℕ) (t : List ℕ) → Numbered line (whole_at line t)
whole_numbered line t = bind line (front_at line t) (ended line) (front_numbered line t) (λ x e. ended_numbered line x)

pub expression_numbered : (line : ℕ) (t : List ℕ) → Numbered line (expression_at line t)
expression_numbered line t =
    bind line (whole_at line t) (shallow line) (whole_numbered line t)
    (λ e h. either line (leb (depth e) depth_limit) (Ok e) (refuse line Deep) (λ _. tt) (λ _. of_rule line Deep (omega arith) (omega arith) (λ e. cc)))
