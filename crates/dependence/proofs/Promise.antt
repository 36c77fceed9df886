-- A yes to a relation implies what the relation promises.
use Rattle.std.proofs.Common.{◌≡◌, ◌∙◌, ap, sym, refl, ℕ, subst, arith, true≢false, inl, inr, ◌<◌}
use Rattle.std.proofs.lemmas.Bool.{leb-true}
use Rattle.std.proofs.lemmas.Bool.Decides.{Decides-eqb}
use Rattle.std.specs.Prelude.{ℤ, pos, zero, suc, ◌-◌, ◌+ℤ◌, ◌*ℤ◌, ◌⊎◌, Bool, true, false, Option, Some, None}
use Rattle.std.proofs.lemmas.Option.{none-some, same_Some}
use Rattle.ast.specs.Tree.{Term, Terms, no_terms, then_term}
use Rattle.loop_tree.specs.Loops.{Loop}
use Rattle.loop_tree.specs.Occurrences.{Occurrence}
use Rattle.loop_tree.specs.Constants.{if_some}
use Rattle.subscripts.specs.Forms.{Form, form_of}
use Rattle.subscripts.specs.Values.{MayBe}
use Rattle.subscripts.proofs.Meaning.{meant}
use Rattle.dependence.specs.Meets.{IfYes, IsStep, IsWithin, MayAgree, Meets, Promises, PromisesIf}
use Rattle.dependence.specs.Tests.{by_distance, form_at, found_beyond, is_beyond, is_nowhere, is_only, is_verified, is_verified_if, nth_term, on_forms, says_apart}
use Rattle.dependence.specs.declared.relation.Found.TheVariants.{Nothing, Only}
use Rattle.dependence.specs.declared.relation.Reason.{Reason}
use Rattle.dependence.specs.declared.relation.Reason.TheVariants.{Constant, Divisor, Distance as NoDistance, Range}
use Rattle.dependence.specs.declared.relation.Relation.{Relation}
use Rattle.dependence.specs.declared.relation.Relation.TheVariants.{Apart, Distance, Any}
use Rattle.dependence.proofs.Divides.{not_divided}
use Rattle.dependence.proofs.Meeting.{Equal, distance_is, not_constant}

-- ---- the subscripts of a dimension

record Agreeing (l : Loop) (held : ℕ → ℤ) (i j : ℤ) (e f : Term) : Type 0 where
  value : ℤ
  left : MayBe l held i e value
  right : MayBe l held j f value

nth_agree : (l : Loop) (held : ℕ → ℤ) (i j : ℤ) (es fs : Terms) (n : ℕ) (e f : Term) → MayAgree l held i j es fs → nth_term es n ≡ Some e → nth_term fs n ≡ Some f → Agreeing l held i j e f
nth_agree l held i j no_terms fs n e f m p q = absurd (none-some e p)
nth_agree l held i j (then_term a es) no_terms n e f m p q = absurd (none-some f q)
nth_agree l held i j (then_term a es) (then_term b fs) zero e f m p q = absurd (none-some e p)
nth_agree l held i j (then_term a es) (then_term b fs) (suc zero) e f m p q = record {
  value = m.0;
  left = subst (λ t. MayBe l held i t m.0) (same_Some a e p) m.1;
  right = subst (λ t. MayBe l held j t m.0) (same_Some b f q) m.2;
}
nth_agree l held i j (then_term a es) (then_term b fs) (suc (suc n)) e f m p q = nth_agree l held i j es fs (suc n) e f m.3 p q

record AtTerm (l : Loop) (r : Option Term) (h : Form) : Type 0 where
  term : Term
  is : r ≡ Some term
  form : form_of l term ≡ Some h

at_term : (l : Loop) (r : Option Term) (h : Form) → if_some r (λ e. form_of l e) ≡ Some h → AtTerm l r h
at_term l None h e = absurd (none-some h e)
at_term l (Some t) h e = record { term = t; is = refl; form = e }

record AtForms (r s : Option Form) (test : Form → Form → Bool) : Type 0 where
  f : Form
  g : Form
  is_f : r ≡ Some f
  is_g : s ≡ Some g
  yes : test f g ≡ true

at_forms : (r s : Option Form) (test : Form → Form → Bool) → on_forms r s test ≡ true → AtForms r s test
at_forms None s test e = absurd (true≢false (sym e))
at_forms (Some f) None test e = absurd (true≢false (sym e))
at_forms (Some f) (Some g) test e = record { f = f; g = g; is_f = refl; is_g = refl; yes = e }

abbrev place : ℤ → ℕ → ℤ → ℤ
place m k s = m +ℤ (pos k *ℤ s)

equal_at : (l : Loop) (a b : Occurrence) (k j n : ℕ) (f g : Form) → form_at l a.subscripts n ≡ Some f → form_at l b.subscripts n ≡ Some g → (m : Meets l a b k j) → Equal l m.held (place m.first k m.step) (place m.first j m.step) f g
equal_at l a b k j n f g p q m =
    let e = at_term l (nth_term a.subscripts n) f p in
    let h = at_term l (nth_term b.subscripts n) g q in
    let v = nth_agree l m.held (place m.first k m.step) (place m.first j m.step) a.subscripts b.subscripts n e.term h.term m.agree e.is h.is in
    let mf = meant l e.term f e.form in
    let mg = meant l h.term g h.form in
    let x = mf.value m.held (place m.first k m.step) v.value v.left in
    let y = mg.value m.held (place m.first j m.step) v.value v.right in
    record { once_f = mf.once; once_g = mg.once; x = x.values; y = y.values; agree_x = x.agree; agree_y = y.agree; same = sym x.is ∙ y.is }

-- ---- the tests

beyond : (trips : Option ℕ) (j k : ℕ) → k < j → IsWithin trips j → is_beyond trips (j - k) ≡ true → ⊥
beyond None j k h w e = true≢false (sym e)
beyond (Some t) j k h w e = let b = leb-true t (j - k) e in omega (arith, h, w, b)

no_apart : (l : Loop) (held : ℕ → ℤ) (m s : ℤ) (k j : ℕ) (f g : Form) (reason : Reason) → k < j → IsWithin l.trips j → IsStep l.step s
    → Equal l held (place m k s) (place m j s) f g → says_apart l reason f g ≡ true → ⊥
no_apart l held m s k j f g Constant h w i q e = not_constant l held (place m k s) (place m j s) f g e q
no_apart l held m s k j f g Divisor h w i q e = not_divided l held (place m k s) (place m j s) f g e q
no_apart l held m s k j f g NoDistance h w i q e = by (distance_is l held m s k j f g h i q)
  where
    by : (by_distance l f g ≡ Nothing) ⊎ (by_distance l f g ≡ Only (j - k)) → ⊥
    by (inl d) = true≢false (sym e ∙ ap is_nowhere d)
    by (inr d) = true≢false (sym e ∙ ap is_nowhere d)
no_apart l held m s k j f g Range h w i q e = by (distance_is l held m s k j f g h i q)
  where
    by : (by_distance l f g ≡ Nothing) ⊎ (by_distance l f g ≡ Only (j - k)) → ⊥
    by (inl d) = true≢false (sym e ∙ ap (λ x. found_beyond l.trips x) d)
    by (inr d) = beyond l.trips j k h w (sym (ap (λ x. found_beyond l.trips x) d) ∙ e)

this_far : (l : Loop) (held : ℕ → ℤ) (m s : ℤ) (k j d : ℕ) (f g : Form) → k < j → IsStep l.step s
    → Equal l held (place m k s) (place m j s) f g → is_only (by_distance l f g) d ≡ true → j - k ≡ d
this_far l held m s k j d f g h i q e = by (distance_is l held m s k j f g h i q)
  where
    by : (by_distance l f g ≡ Nothing) ⊎ (by_distance l f g ≡ Only (j - k)) → j - k ≡ d
    by (inl x) = absurd (true≢false (sym e ∙ ap (λ y. is_only y d) x))
    by (inr x) = (Decides-eqb (j - k) d).0 (sym (ap (λ y. is_only y d) x) ∙ e)

pub promised : (l : Loop) (a b : Occurrence) (r : Relation) → is_verified l a b r ≡ true → Promises l a b r
promised l a b (Apart n reason) e = λ k j h w m.
    let t = at_forms (form_at l a.subscripts n) (form_at l b.subscripts n) (λ f g. says_apart l reason f g) e in
    no_apart l m.held m.first m.step k j t.f t.g reason h w m.is_step (equal_at l a b k j n t.f t.g t.is_f t.is_g m) t.yes
promised l a b (Distance n d) e = λ k j h w m.
    let t = at_forms (form_at l a.subscripts n) (form_at l b.subscripts n) (λ f g. is_only (by_distance l f g) d) e in
    this_far l m.held m.first m.step k j d t.f t.g h m.is_step (equal_at l a b k j n t.f t.g t.is_f t.is_g m) t.yes
promised l a b Any e = tt

pub promised_if : (l : Loop) (a b : Option Occurrence) (r : Relation) (yes : Bool) → yes ≡ is_verified_if l a b r → IfYes yes (PromisesIf l a b r)
promised_if l a b r false e = tt
promised_if l None b r true e = tt
promised_if l (Some a) None r true e = tt
promised_if l (Some a) (Some b) r true e = promised l a b r (sym e)
