-- The place of a name in a set of names.
use Rattle.std.proofs.Common.{◌≡◌, ℕ, Bool, List, [], ◌∷◌, map, not, refl, ap, ◌+◌, ◌<◌, length, arith}
use Rattle.std.proofs.lemmas.List.{length-map}
use Rattle.std.specs.List.{position, prefix_len}
use Rattle.ast.specs.Store.{same_name}
use Rattle.ast.specs.Tree.{Ref, Term, Terms, element, then_term, terms}
use Rattle.ast.specs.Spelling.{intrinsic_named}
use Rattle.profile_check.specs.Resolving.{Table, count, count_terms, count_all, resolved, all_resolved, list_resolved, with_list}
use Rattle.ast.specs.View.{letters}
use Rattle.ast.specs.declared.name.Name.{Name}
use Rattle.ast.specs.contracts.name.NamePartialEq.TheImpl.{eq-value}

prefix-letters : (p : List ℕ → Bool) (ks : List Name) → prefix_len p (map letters ks) ≡ prefix_len (λ k. p (letters k)) ks
prefix-letters p [] = refl
prefix-letters p (k ∷ ks) = rw (prefix-letters p ks) refl

pub position-of : (x : Name) (ks : List Name) → position (same_name x.letters) (map letters ks) ≡ position (eq-value.it x) ks
position-of x ks = rw (prefix-letters (λ y. not (same_name x.letters y)) ks, length-map) refl

-- a list of expressions, as a list and as terms
pub list_law : (t : Table) (n : ℕ) (es : List Term) → terms (list_resolved t n es) ≡ all_resolved t n (terms es)
list_law t n [] = refl
list_law t n (e ∷ es) = ap (λ (rest : Terms). then_term (resolved t n e) rest) (list_law t (n + count (resolved t n e)) es)

pub count_law : (es : List Term) → count_terms (terms es) ≡ count_all es
count_law [] = refl
count_law (e ∷ es) = ap (λ (m : ℕ). count e + m) (count_law es)

-- a name with a list that isn't empty
pub list_element : (t : Table) (n : ℕ) (r : Ref) (es : List Term) → 0 < length es → with_list t n r (all_resolved t n (terms es)) (intrinsic_named r.name) ≡ resolved t n (element r (terms es))
list_element t n r [] h = absurd (omega (arith, h))
list_element t n r (e ∷ es) h = refl

assoc : (a b c : ℕ) → a + (b + c) ≡ (a + b) + c
assoc a b c = omega arith

none : (a : ℕ) → a ≡ 0 + a
none a = omega arith
