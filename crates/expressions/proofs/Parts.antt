-- What a call of the parser gives, by what the calls in it gave.
use Rattle.std.proofs.Common.{◌≡◌, ◌∙◌, ◌-◌, ℕ, suc, Bool, true, false, List, [], ◌∷◌, ◌++◌, Option, Some, None, Result, Ok, Err, sym, ap, subst, arith, map}
use Rattle.std.specs.Prelude.{◌==◌, if◌then◌else◌, codes}
use Rattle.std.specs.Result.{IsErrAnd}
use Rattle.ast.specs.Answers.{Break, Fails, Gives}
use Rattle.ast.specs.Results.{◌>>=◌}
use Rattle.ast.specs.Tree as tree
use Rattle.ast.specs.Tree.{Term, accessed, binary, terms}
use Rattle.ast.specs.View.{access, access_step, ref, term, term_step}
use Rattle.ast.specs.declared.expression.Access.{Access}
use Rattle.ast.specs.declared.expression.Expr.{Expr-F, fold-roll-Expr}
use Rattle.ast.specs.declared.expression.Expr.TheVariants.{Element, rolls-Element}
use Rattle.ast.specs.declared.expression.Operator.{Operator}
use Rattle.ast.specs.declared.expression.Prefix.{Prefix}
use Rattle.ast.specs.declared.refusal.Refusal.{Refusal}
use Rattle.ast.specs.declared.refusal.Refusal.TheVariants.{Memory, Refused}
use Rattle.ast.proofs.Terms.{access_of}
use Rattle.expressions.specs.Answers.{refuse}
use Rattle.expressions.specs.Characters.{after}
use Rattle.expressions.specs.Grammar.{reference_to}
use Rattle.expressions.specs.Levels.{relation, top}
use Rattle.expressions.specs.Reading.{access_at, chain_at, closed_at, further_at, level_at, list_at, literal_at, name_at, operand_at, operator_at, prefix_at, primary_at, spent, subscripts_at, wanted_at, with_prefix}

-- where no room is left
pub spent_at : {Y : Type 0} (meant : ℕ → Result Y Break) (e : Refusal) (room line : ℕ) → room ≡ 0 → e ≡ Refused spent line → meant 0 ≡ refuse line spent → Fails e (meant room)
spent_at meant e room line none is ends = subst (λ (n : ℕ). Fails e (meant n)) (sym none) (subst (λ (x : Refusal). Fails x (meant 0)) (sym is) ends)

-- a fault of a part is one of the whole
pub fails_at : {X Y Z : Type 0} (view : X → Y) (r : Result X Refusal) (e : Refusal) (part : Result Z Break) (next : Z → Result Y Break) (meant : Result Y Break) → IsErrAnd r (λ x. x ≡ e) → Fails e part → meant ≡ (part >>= next) → Gives view r meant
fails_at view (Ok x) e part next meant h f whole = absurd h
fails_at view (Err Memory) e part next meant h f whole = tt
fails_at {Z = Z} view (Err (Refused rule line)) e part next meant h f whole =
    whole ∙ ap (λ (p : Result Z Break). p >>= next) (subst (λ (x : Refusal). Fails x part) (sym h) f)

pub wants_memory : {X Y : Type 0} (view : X → Y) (r : Result X Refusal) (meant : Result Y Break) → IsErrAnd r (λ x. x ≡ Memory) → Gives view r meant
wants_memory view (Ok x) meant h = absurd h
wants_memory view (Err Memory) meant h = tt
wants_memory view (Err (Refused rule line)) meant h = absurd cc

-- the whole goes on behind a part
pub goes_on : {Y Z : Type 0} (part : Result Z Break) (x : Z) (next : Z → Result Y Break) (meant : Result Y Break) → part ≡ Ok x → meant ≡ (part >>= next) → meant ≡ next x
goes_on {Z = Z} part x next meant is whole = whole ∙ ap (λ (p : Result Z Break). p >>= next) is

-- and gives what is left of it
pub gives_rest : {X Y : Type 0} (view : X → Y) (r : Result X Refusal) (rest meant : Result Y Break) → meant ≡ rest → Gives view r rest → Gives view r meant
gives_rest {Y = Y} view r rest meant whole given = subst (λ (m : Result Y Break). Gives view r m) (sym whole) given

element_of : (a : Access) → term (Element a) ≡ accessed (access a)
element_of a = ap term (sym (rolls-Element a)) ∙ fold-roll-Expr Term tree.Access term_step access_step (Expr-F.Element a)

-- what the calls of the grammar come to where room is left
module _ (line room : ℕ) (some : room ≡ 0 → ⊥) where
  less : room ≡ suc (room - 1)
  less = omega (arith, some)

  pub level_primary : (level : ℕ) (t : List ℕ) → true ≡ (level == 0) → level_at line room level t ≡ primary_at line (room - 1) t
  level_primary level t lowest =
      ap (λ (n : ℕ). level_at line n level t) less
      ∙ ap (λ (b : Bool). if b then primary_at line (room - 1) t else (level_at line (room - 1) (level - 1) (prefix_at level t).1 >>= λ x. chain_at line (room - 1) level (with_prefix (prefix_at level t).0 x.0) x.1)) (sym lowest)

  pub level_first : (level below : ℕ) (t rest : List ℕ) (prefix : Option Prefix) → false ≡ (level == 0) → (prefix, rest) ≡ prefix_at level t → below ≡ level - 1
      → level_at line room level t ≡ (level_at line (room - 1) below rest >>= λ x. chain_at line (room - 1) level (with_prefix prefix x.0) x.1)
  level_first level below t rest prefix higher at under =
      ap (λ (n : ℕ). level_at line n level t) less
      ∙ ap (λ (b : Bool). if b then primary_at line (room - 1) t else (level_at line (room - 1) (level - 1) (prefix_at level t).1 >>= λ x. chain_at line (room - 1) level (with_prefix (prefix_at level t).0 x.0) x.1)) (sym higher)
      ∙ ap (λ (p : Option Prefix × List ℕ). level_at line (room - 1) (level - 1) p.1 >>= λ x. chain_at line (room - 1) level (with_prefix p.0 x.0) x.1) (sym at)
      ∙ ap (λ (l : ℕ). level_at line (room - 1) l rest >>= λ x. chain_at line (room - 1) level (with_prefix prefix x.0) x.1) (sym under)

  pub level_then : (level below : ℕ) (t rest others : List ℕ) (prefix : Option Prefix) (e first : Term) → false ≡ (level == 0) → (prefix, rest) ≡ prefix_at level t → below ≡ level - 1
      → level_at line (room - 1) below rest ≡ Ok (e, others) → first ≡ with_prefix prefix e → level_at line room level t ≡ chain_at line (room - 1) level first others
  level_then level below t rest others prefix e first higher at under read is =
      goes_on _ _ _ _ read (level_first level below t rest prefix higher at under)
      ∙ ap (λ (x : Term). chain_at line (room - 1) level x others) (sym is)

  pub chain_ends : (level : ℕ) (left : Term) (t : List ℕ) → None ≡ operator_at level t → chain_at line room level left t ≡ Ok (left, t)
  chain_ends level left t none =
      ap (λ (n : ℕ). chain_at line n level left t) less
      ∙ ap (λ (found : Option (Operator × List ℕ)). elim found [
        | None ↦ Ok (left, t)
        | Some o ↦ level_at line (room - 1) (level - 1) o.1 >>= λ x. if level == relation then Ok (binary o.0 left x.0, x.1) else chain_at line (room - 1) level (binary o.0 left x.0) x.1
      ]) (sym none)

  pub chain_next : (level below : ℕ) (left : Term) (t behind : List ℕ) (o : Operator) → Some (o, behind) ≡ operator_at level t → below ≡ level - 1
      → chain_at line room level left t ≡ (level_at line (room - 1) below behind >>= λ x. if level == relation then Ok (binary o left x.0, x.1) else chain_at line (room - 1) level (binary o left x.0) x.1)
  chain_next level below left t behind o at under =
      ap (λ (n : ℕ). chain_at line n level left t) less
      ∙ ap (λ (found : Option (Operator × List ℕ)). elim found [
        | None ↦ Ok (left, t)
        | Some o ↦ level_at line (room - 1) (level - 1) o.1 >>= λ x. if level == relation then Ok (binary o.0 left x.0, x.1) else chain_at line (room - 1) level (binary o.0 left x.0) x.1
      ]) (sym at)
      ∙ ap (λ (l : ℕ). level_at line (room - 1) l behind >>= λ x. if level == relation then Ok (binary o left x.0, x.1) else chain_at line (room - 1) level (binary o left x.0) x.1) (sym under)

  pub chain_related : (level below : ℕ) (left right both : Term) (t behind rest : List ℕ) (o : Operator) → Some (o, behind) ≡ operator_at level t → below ≡ level - 1
      → level_at line (room - 1) below behind ≡ Ok (right, rest) → both ≡ binary o left right → true ≡ (level == relation) → chain_at line room level left t ≡ Ok (both, rest)
  chain_related level below left right both t behind rest o at under read is related =
      goes_on _ _ _ _ read (chain_next level below left t behind o at under)
      ∙ ap (λ (b : Bool). if b then Ok (binary o left right, rest) else chain_at line (room - 1) level (binary o left right) rest) (sym related)
      ∙ ap (λ (x : Term). Ok (x, rest)) (sym is)

  pub chain_further : (level below : ℕ) (left right both : Term) (t behind rest : List ℕ) (o : Operator) → Some (o, behind) ≡ operator_at level t → below ≡ level - 1
      → level_at line (room - 1) below behind ≡ Ok (right, rest) → both ≡ binary o left right → false ≡ (level == relation) → chain_at line room level left t ≡ chain_at line (room - 1) level both rest
  chain_further level below left right both t behind rest o at under read is unrelated =
      goes_on _ _ _ _ read (chain_next level below left t behind o at under)
      ∙ ap (λ (b : Bool). if b then Ok (binary o left right, rest) else chain_at line (room - 1) level (binary o left right) rest) (sym unrelated)
      ∙ ap (λ (x : Term). chain_at line (room - 1) level x rest) (sym is)

  pub primary_inside : (t inside : List ℕ) → Some inside ≡ after (codes "(") t → primary_at line room t ≡ (level_at line (room - 1) top inside >>= λ x. closed_at line x.0 x.1)
  primary_inside t inside at =
      ap (λ (n : ℕ). primary_at line n t) less
      ∙ ap (λ (found : Option (List ℕ)). elim found [ None ↦ literal_at line t >>= λ o. operand_at line (room - 1) o t | Some u ↦ level_at line (room - 1) top u >>= λ x. closed_at line x.0 x.1 ]) (sym at)

  pub primary_operand : (t : List ℕ) → None ≡ after (codes "(") t → primary_at line room t ≡ (literal_at line t >>= λ o. operand_at line (room - 1) o t)
  primary_operand t none =
      ap (λ (n : ℕ). primary_at line n t) less
      ∙ ap (λ (found : Option (List ℕ)). elim found [ None ↦ literal_at line t >>= λ o. operand_at line (room - 1) o t | Some u ↦ level_at line (room - 1) top u >>= λ x. closed_at line x.0 x.1 ]) (sym none)

  pub operand_found : (o : Option (Term × List ℕ)) (x : Term × List ℕ) (t : List ℕ) → o ≡ Some x → operand_at line room o t ≡ Ok x
  operand_found o x t is = ap (λ (n : ℕ). operand_at line n o t) less ∙ ap (λ (found : Option (Term × List ℕ)). operand_at line (suc (room - 1)) found t) is

  pub operand_element : (o : Option (Term × List ℕ)) (t : List ℕ) → o ≡ None → operand_at line room o t ≡ (access_at line (room - 1) t >>= λ x. Ok (accessed x.0, x.1))
  operand_element o t is = ap (λ (n : ℕ). operand_at line n o t) less ∙ ap (λ (found : Option (Term × List ℕ)). operand_at line (suc (room - 1)) found t) is

  pub operand_read : (o : Option (Term × List ℕ)) (a : Access) (t rest : List ℕ) → o ≡ None → access_at line (room - 1) t ≡ Ok (access a, rest) → operand_at line room o t ≡ Ok (term (Element a), rest)
  operand_read o a t rest is read = goes_on _ _ _ _ read (operand_element o t is) ∙ ap (λ (x : Term). Ok (x, rest)) (sym (element_of a))

  pub access_name : (t : List ℕ) → access_at line room t ≡ (name_at line t >>= λ x. subscripts_at line (room - 1) x.1 >>= λ y. Ok (record { ref = reference_to x.0; subscripts = terms y.0 }, y.1))
  access_name t = ap (λ (n : ℕ). access_at line n t) less

  pub access_subscripts : (t name rest : List ℕ) → name_at line t ≡ Ok (name, rest) → access_at line room t ≡ (subscripts_at line (room - 1) rest >>= λ y. Ok (record { ref = reference_to name; subscripts = terms y.0 }, y.1))
  access_subscripts t name rest read = goes_on _ _ _ _ read (access_name t)

  pub access_read : (a : Access) (t name rest others : List ℕ) → name_at line t ≡ Ok (name, rest) → subscripts_at line (room - 1) rest ≡ Ok (map term a.subscripts.items, others) → ref a.reference ≡ reference_to name
      → access_at line room t ≡ Ok (access a, others)
  access_read a t name rest others read inside is =
      goes_on _ _ _ _ inside (access_subscripts t name rest read)
      ∙ ap (λ (r : tree.Ref). Ok (record { ref = r; subscripts = terms (map term a.subscripts.items) }, others)) (sym is)
      ∙ ap (λ (x : tree.Access). Ok (x, others)) (sym (access_of a))

  pub subscripts_none : (es : List Term) (t : List ℕ) → None ≡ after (codes "(") t → es ≡ [] → subscripts_at line room t ≡ Ok (es, t)
  subscripts_none es t none is =
      ap (λ (n : ℕ). subscripts_at line n t) less
      ∙ ap (λ (found : Option (List ℕ)). elim found [ None ↦ Ok ([], t) | Some u ↦ list_at line (room - 1) [] u ]) (sym none)
      ∙ ap (λ (l : List Term). Ok (l, t)) (sym is)

  pub subscripts_inside : (es : List Term) (t inside : List ℕ) → Some inside ≡ after (codes "(") t → es ≡ [] → subscripts_at line room t ≡ list_at line (room - 1) es inside
  subscripts_inside es t inside at is =
      ap (λ (n : ℕ). subscripts_at line n t) less
      ∙ ap (λ (found : Option (List ℕ)). elim found [ None ↦ Ok ([], t) | Some u ↦ list_at line (room - 1) [] u ]) (sym at)
      ∙ ap (λ (l : List Term). list_at line (room - 1) l inside) (sym is)

  pub list_next : (es : List Term) (t : List ℕ) → list_at line room es t ≡ (level_at line (room - 1) top t >>= λ x. further_at line (room - 1) (es ++ x.0 ∷ []) x.1)
  list_next es t = ap (λ (n : ℕ). list_at line n es t) less

  pub list_further : (es longer : List Term) (t rest : List ℕ) (e : Term) → level_at line (room - 1) top t ≡ Ok (e, rest) → longer ≡ es ++ e ∷ [] → list_at line room es t ≡ further_at line (room - 1) longer rest
  list_further es longer t rest e read is = goes_on _ _ _ _ read (list_next es t) ∙ ap (λ (l : List Term). further_at line (room - 1) l rest) (sym is)

  pub further_comma : (es : List Term) (t rest : List ℕ) → Some rest ≡ after (codes ",") t → further_at line room es t ≡ list_at line (room - 1) es rest
  further_comma es t rest at =
      ap (λ (n : ℕ). further_at line n es t) less
      ∙ ap (λ (found : Option (List ℕ)). elim found [ Some u ↦ list_at line (room - 1) es u | None ↦ wanted_at line (codes ")") t >>= λ u. Ok (es, u) ]) (sym at)

  pub further_closes : (es : List Term) (t : List ℕ) → None ≡ after (codes ",") t → further_at line room es t ≡ (wanted_at line (codes ")") t >>= λ u. Ok (es, u))
  further_closes es t none =
      ap (λ (n : ℕ). further_at line n es t) less
      ∙ ap (λ (found : Option (List ℕ)). elim found [ Some u ↦ list_at line (room - 1) es u | None ↦ wanted_at line (codes ")") t >>= λ u. Ok (es, u) ]) (sym none)
