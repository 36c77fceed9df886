-- An expression that is resolved is what its text says, no deeper, with each name meant, placed and
-- numbered.
use Rattle.std.proofs.Common.{◌≡◌, ◌∙◌, ℕ, ℤ, ◌+◌, ◌≤◌, max, Bool, true, false, not, List, [], ◌∷◌, refl, ap, sym, arith, Option, Some, None}
use Rattle.std.specs.Prelude.{if◌then◌else◌, ◌&&◌, ◌||◌, ◌==◌, nat_lt, is_some}
use Rattle.std.specs.List.{list_all}
use Rattle.std.proofs.lemmas.Bool.{and_parts, and_left, and_right, ne_eqb}
use Rattle.ast.specs.Program.{is_placed}
use Rattle.ast.specs.Store.{same_name}
use Rattle.ast.specs.Symbols.{Symbol}
use Rattle.ast.specs.Tree.{Ref, Term, Terms, constant, truth, parameter, element, call, parentheses, unary, binary, no_terms, then_term, depth, deepest}
use Rattle.ast.specs.declared.expression.Intrinsic.{Intrinsic}
use Rattle.ast.specs.declared.expression.Intrinsic.TheVariants.{Abs, Iabs, Max, Max0, Min, Min0, Mod}
use Rattle.ast.proofs.Lists.{all_parts}
use Rattle.ast.proofs.SameNames.{same_is}
use Rattle.profile_check.specs.Declarations.{constant_named}
use Rattle.ast.specs.Spelling.{intrinsic_name, intrinsic_named}
use Rattle.profile_check.specs.Erasure.{ref_to, erased, all_erased}
use Rattle.profile_check.specs.Resolving.{Table, numbered, count, count_terms, alone, list_at, resolved, all_resolved}
use Rattle.profile_check.specs.Uses.{Use, count_of, term_uses, terms_uses, is_among, is_intrinsic, is_call}
use Rattle.profile_check.proofs.Erased.{Settled, AllSettled}
use Rattle.profile_check.proofs.Parts.{Serves, is_free, is_sound}
use Rattle.profile_check.proofs.Settling.{no-terms-settled, element-settled, binary-settled, then-settled}

-- ---- intrinsic functions by their names

by-name : (x : List ℕ) (f g : Intrinsic) (b : Bool) (rest : Option Intrinsic) → same_name x (intrinsic_name f) ≡ b → (rest ≡ Some g → intrinsic_name g ≡ x) → (if b then Some f else rest) ≡ Some g → intrinsic_name g ≡ x
by-name x f g true rest same more e =
    let q : f ≡ g = cc in
    sym (same_is x (intrinsic_name f) same ∙ ap intrinsic_name q)
by-name x f g false rest same more e = more e

intrinsic-name : (x : List ℕ) (f : Intrinsic) → intrinsic_named x ≡ Some f → intrinsic_name f ≡ x
intrinsic-name x f = at Abs (at Iabs (at Max (at Max0 (at Min (at Min0 (at Mod none)))))) where
  at : {rest : Option Intrinsic} (g : Intrinsic) → (rest ≡ Some f → intrinsic_name f ≡ x) → (if same_name x (intrinsic_name g) then Some g else rest) ≡ Some f → intrinsic_name f ≡ x
  at {rest = rest} g more e = by-name x g f (same_name x (intrinsic_name g)) rest refl more e

  none : None ≡ Some f → intrinsic_name f ≡ x
  none e = absurd cc

no-name : (f : Intrinsic) (b c : Bool) (rest : Option Intrinsic) → (rest ≡ None → c ≡ false) → (if b then Some f else rest) ≡ None → (b || c) ≡ false
no-name f true c rest more e = absurd cc
no-name f false c rest more e = more e

no-intrinsic : (x : List ℕ) → intrinsic_named x ≡ None → is_intrinsic x ≡ false
no-intrinsic x = at Abs (at Iabs (at Max (at Max0 (at Min (at Min0 (at Mod (λ e. refl))))))) where
  at : {c : Bool} {rest : Option Intrinsic} (g : Intrinsic) → (rest ≡ None → c ≡ false) → (if same_name x (intrinsic_name g) then Some g else rest) ≡ None → (same_name x (intrinsic_name g) || c) ≡ false
  at {c = c} {rest = rest} g more e = no-name g (same_name x (intrinsic_name g)) c rest more e

-- ---- the text

alone-text : (t : Table) (n : ℕ) (r : Ref) (v : Option ℤ) → erased (alone t n r v) ≡ element (ref_to r.name) no_terms
alone-text t n r None = refl
alone-text t n r (Some v) = refl

list-text : (t : Table) (n : ℕ) (r : Ref) (es : Terms) (f : Option Intrinsic) → intrinsic_named r.name ≡ f → erased (list_at t n r es f) ≡ element (ref_to r.name) (all_erased es)
list-text t n r es None e = refl
list-text t n r es (Some f) e = ap (λ (x : List ℕ). element (ref_to x) (all_erased es)) (intrinsic-name r.name f e)

mutual
  pub term-text : (t : Table) (n : ℕ) (e : Term) → erased (resolved t n e) ≡ erased e
  term-text t n (constant v) = refl
  term-text t n (truth b) = refl
  term-text t n (parameter x v) = refl
  term-text t n (element r no_terms) = alone-text t n r (constant_named t.constants r.name)
  term-text t n (element r (then_term e es)) =
      let f : Term = resolved t n e in
      let fs : Terms = all_resolved t (n + count f) es in
      list-text t (n + count_terms (then_term f fs)) r (then_term f fs) (intrinsic_named r.name) refl
      ∙ λ i. element (ref_to r.name) (then_term (term-text t n e i) (terms-text t (n + count f) es i))
  term-text t n (call f es) = λ i. element (ref_to (intrinsic_name f)) (terms-text t n es i)
  term-text t n (parentheses e) = λ i. parentheses (term-text t n e i)
  term-text t n (unary p e) = λ i. unary p (term-text t n e i)
  term-text t n (binary o a b) = λ i. binary o (term-text t n a i) (term-text t (n + count (resolved t n a)) b i)

  pub terms-text : (t : Table) (n : ℕ) (es : Terms) → all_erased (all_resolved t n es) ≡ all_erased es
  terms-text t n no_terms = refl
  terms-text t n (then_term e es) = λ i. then_term (term-text t n e i) (terms-text t (n + count (resolved t n e)) es i)

-- ---- the depth

alone-depth : (t : Table) (n : ℕ) (r : Ref) (v : Option ℤ) → depth (alone t n r v) ≤ 1
alone-depth t n r None = omega arith
alone-depth t n r (Some v) = omega arith

list-depth : (t : Table) (n : ℕ) (r : Ref) (e : Term) (es : Terms) (f : Option Intrinsic) → depth (list_at t n r (then_term e es) f) ≡ max (depth e) (deepest es) + 1
list-depth t n r e es None = refl
list-depth t n r e es (Some f) = refl

mutual
  pub term-depth : (t : Table) (n : ℕ) (e : Term) → depth (resolved t n e) ≤ depth e
  term-depth t n (constant v) = omega arith
  term-depth t n (truth b) = omega arith
  term-depth t n (parameter x v) = omega arith
  term-depth t n (element r no_terms) = alone-depth t n r (constant_named t.constants r.name)
  term-depth t n (element r (then_term e es)) =
      let f : Term = resolved t n e in
      let fs : Terms = all_resolved t (n + count f) es in
      let same = list-depth t (n + count_terms (then_term f fs)) r f fs (intrinsic_named r.name) in
      let one = term-depth t n e in
      let more = terms-depth t (n + count f) es in
      omega arith
  term-depth t n (call f es) = let more = terms-depth t n es in omega arith
  term-depth t n (parentheses e) = let one = term-depth t n e in omega arith
  term-depth t n (unary p e) = let one = term-depth t n e in omega arith
  term-depth t n (binary o a b) =
      let left = term-depth t n a in
      let right = term-depth t (n + count (resolved t n a)) b in
      omega arith

  pub terms-depth : (t : Table) (n : ℕ) (es : Terms) → deepest (all_resolved t n es) ≤ deepest es
  terms-depth t n no_terms = omega arith
  terms-depth t n (then_term e es) =
      let one = term-depth t n e in
      let more = terms-depth t (n + count (resolved t n e)) es in
      omega arith

-- ---- what names stand for

only-first : (b c : Bool) → c ≡ false → (b || c) ≡ true → b ≡ true
only-first true c q h = refl
only-first false c q h = sym q ∙ h

abbrev pub Sound : Table → List Use → Type 0
Sound t us = list_all (λ u. is_sound t u) us ≡ true

-- a use that calls nothing is of a name in the table
stands : (t : Table) (u : Use) → is_call u ≡ false → is_sound t u ≡ true
    → (is_among t.names u.name ≡ true) × ((is_free t.constants u.name || (u.count == 0 && not u.is_given)) ≡ true)
stands t u named sound = and_parts (is_among t.names u.name) (is_free t.constants u.name || (u.count == 0 && not u.is_given)) (rw named at sound)

-- and of no constant, unless it stands alone and is given nothing
free : (t : Table) (u : Use) → is_call u ≡ false → (u.count == 0 && not u.is_given) ≡ false → is_sound t u ≡ true
    → (is_among t.names u.name ≡ true) × (is_free t.constants u.name ≡ true)
free t u named bound sound =
    let p = stands t u named sound in
    (p.0, only-first (is_free t.constants u.name) (u.count == 0 && not u.is_given) bound p.1)

one-sound : (t : Table) (u : Use) → Sound t (u ∷ []) → is_sound t u ≡ true
one-sound t u h = (and_parts (is_sound t u) true h).0

module _ (symbols : List Symbol) (t : Table) (serves : Serves symbols t) where
  pub given-placed : (n : ℕ) (r : Ref) (m : ℕ) → Sound t (record { name = r.name; count = m; is_given = true } ∷ []) → is_placed symbols (numbered t n r) ≡ true
  given-placed n r m h =
      let u : Use = record { name = r.name; count = m; is_given = true } in
      let p = free t u (and_right (is_intrinsic r.name) _ (and_right (nat_lt 0 m) false refl)) (and_right (m == 0) false refl) (one-sound t u h) in
      serves.places r n p.0 p.1

  alone-settled : (n : ℕ) (r : Ref) (v : Option ℤ) → constant_named t.constants r.name ≡ v → is_among t.names r.name ≡ true → Settled symbols n (alone t n r v)
  alone-settled n r None e h =
      element-settled symbols n (numbered t n r) no_terms (no-terms-settled symbols n) (serves.places r n h (ap (λ (v : Option ℤ). not (is_some v)) e)) (omega arith)
  alone-settled n r (Some v) e h = record { meant = serves.constants r.name v e; placed = refl; numbered = refl }

  named-settled : (n m : ℕ) (r : Ref) (es : Terms) (f : Option Intrinsic) → intrinsic_named r.name ≡ f → Sound t (record { name = r.name; count = m + 1; is_given = false } ∷ []) → AllSettled symbols n es
      → Settled symbols n (list_at t (n + count_terms es) r es f)
  named-settled n m r es None e sound h =
      let u : Use = record { name = r.name; count = m + 1; is_given = false } in
      let p = free t u (and_left (is_intrinsic r.name) _ (no-intrinsic r.name e)) (and_left (m + 1 == 0) _ (ne_eqb (m + 1) 0 (λ z. omega (arith, z)))) (one-sound t u sound) in
      element-settled symbols n (numbered t (n + count_terms es) r) es h (serves.places r (n + count_terms es) p.0 p.1) refl
  named-settled n m r es (Some f) e sound h = record { meant = h.meant; placed = h.placed; numbered = h.numbered }

  mutual
    pub term-settled : (n : ℕ) (e : Term) → erased e ≡ e → Sound t (term_uses e) → Settled symbols n (resolved t n e)
    term-settled n (constant v) bare sound = record { meant = refl; placed = refl; numbered = refl }
    term-settled n (truth b) bare sound = record { meant = refl; placed = refl; numbered = refl }
    term-settled n (parameter x v) bare sound = absurd cc
    term-settled n (element r no_terms) bare sound =
        let u : Use = record { name = r.name; count = 0; is_given = false } in
        let p = stands t u (and_right (is_intrinsic r.name) false refl) (one-sound t u sound) in
        alone-settled n r (constant_named t.constants r.name) refl p.0
    term-settled n (element r (then_term e es)) bare sound =
        let p = all_parts (λ u. is_sound t u) (terms_uses (then_term e es)) _ sound in
        named-settled n (count_of es) r (all_resolved t n (then_term e es)) (intrinsic_named r.name) refl p.1
        (terms-settled n (then_term e es) (let z : then_term (erased e) (all_erased es) ≡ then_term e es = cc in z) p.0)
    term-settled n (call f es) bare sound = absurd cc
    term-settled n (parentheses e) bare sound =
        let h = term-settled n e (let z : erased e ≡ e = cc in z) sound in
        record { meant = h.meant; placed = h.placed; numbered = h.numbered }
    term-settled n (unary p e) bare sound =
        let h = term-settled n e (let z : erased e ≡ e = cc in z) sound in
        record { meant = h.meant; placed = h.placed; numbered = h.numbered }
    term-settled n (binary o a b) bare sound =
        let p = all_parts (λ u. is_sound t u) (term_uses a) (term_uses b) sound in
        let c : Term = resolved t n a in
        binary-settled symbols n o c (resolved t (n + count c) b)
        (term-settled n a (let z : erased a ≡ a = cc in z) p.0)
        (term-settled (n + count c) b (let z : erased b ≡ b = cc in z) p.1)

    pub terms-settled : (n : ℕ) (es : Terms) → all_erased es ≡ es → Sound t (terms_uses es) → AllSettled symbols n (all_resolved t n es)
    terms-settled n no_terms bare sound = no-terms-settled symbols n
    terms-settled n (then_term e es) bare sound =
        let p = all_parts (λ u. is_sound t u) (term_uses e) (terms_uses es) sound in
        let f : Term = resolved t n e in
        then-settled symbols n f (all_resolved t (n + count f) es)
        (term-settled n e (let z : erased e ≡ e = cc in z) p.0)
        (terms-settled (n + count f) es (let z : all_erased es ≡ es = cc in z) p.1)
