-- A text that reads as no program has one cause for it.
use Rattle.std.proofs.Common.{◌≡◌, ◌∙◌, ℕ, List, [], ◌∷◌, ◌++◌, ap, sym, subst, inl, inr, Some, None, Result, Ok, Err, IfErr}
use Rattle.std.specs.Result.{IsErrAnd}
use Rattle.ast.specs.Answers.{Break, Gives, Says}
use Rattle.ast.specs.Program.{ProgramTree}
use Rattle.ast.specs.ProgramView.{program as program_of}
use Rattle.ast.specs.Tree.{Statement}
use Rattle.ast.specs.declared.program.Program.{Program}
use Rattle.ast.specs.declared.refusal.Refusal.{Refusal}
use Rattle.ast.specs.declared.refusal.Refusal.TheVariants.{Memory, Refused}
use Rattle.ast.specs.declared.rule.Rule.{Rule}
use Rattle.fixed_form.proofs.Laws.{one_list, not_both, one_refusal}
use Rattle.fixed_form.proofs.Splits.{Places, places}
use Rattle.fixed_form.specs.Lines.{Entry, Lines, lines_in}
use Rattle.syntax.proofs.Public.{cut_so, uncut, is_cut}
use Rattle.syntax.specs.Statements.{IsStatement}
use Rattle.profile_check.proofs.WholeText.{one-spelling}
use Rattle.profile_check.specs.Causes.{IsFault, IsNoStatement, UnspelledAt, IsUnread, IsOutOfProfile, Refuses}
use Rattle.profile_check.specs.Reads.{Reads, Spelled}
use Rattle.profile_check.specs.Rules.{KeepRules, BreaksFirst, rule_broken, typed_in_whole}

abbrev Same : Rule → ℕ → Rule → ℕ → Type 0
Same n l m k = (n ≡ m) × (l ≡ k)

-- ---- the profile

broken-kept : (typed : List (List ℕ)) (front whole : List Statement) (s : Statement) (back : List Statement) (n : Rule) → KeepRules typed whole → whole ≡ front ++ s ∷ back → rule_broken typed front s ≡ Some n → ⊥
broken-kept typed front whole s back n keep e h = let both : Some n ≡ None = sym h ∙ keep.each front s back e in cc

one-break : (ss : List Statement) (n : Rule) (l : ℕ) (m : Rule) (k : ℕ) → BreaksFirst ss n l → BreaksFirst ss m k → Same n l m k
one-break ss n l m k a b = by (places a.front a.back b.front b.back a.statement b.statement (sym a.cut ∙ b.cut))
  where
    by : Places a.front b.front a.statement b.statement → Same n l m k
    by (inl s) =
        let e : Some n ≡ Some m = sym a.broken ∙ (λ i. rule_broken (typed_in_whole ss) (s.fronts i) (s.items i)) ∙ b.broken in
        (cc, a.place ∙ ap (λ (x : Statement). x.line) s.items ∙ sym b.place)
    by (inr (inl s)) = absurd (broken-kept (typed_in_whole ss) a.front b.front a.statement s.between n b.kept s.longer a.broken)
    by (inr (inr s)) = absurd (broken-kept (typed_in_whole ss) b.front a.front b.statement s.between m a.kept s.longer b.broken)

-- ---- statements

entry-spelled : (front : List Entry) (e : Entry) (back : List Entry) (ss : List Statement) → Spelled (front ++ e ∷ back) ss → (s : Statement) × IsStatement e.line e.label e.text s
entry-spelled [] e back [] h = absurd h
entry-spelled [] e back (s ∷ ss) h = (s, h.0)
entry-spelled (f ∷ front) e back [] h = absurd h
entry-spelled (f ∷ front) e back (s ∷ ss) h = entry-spelled front e back ss h.1

spelled-none : (front : List Entry) (e : Entry) (back whole : List Entry) (ss : List Statement) (n : Rule) (l : ℕ) → Spelled whole ss → whole ≡ front ++ e ∷ back → IsNoStatement e n l → ⊥
spelled-none front e back whole ss n l h cut fault =
    let x = entry-spelled front e back ss (subst (λ (es : List Entry). Spelled es ss) cut h) in
    fault.none x.0 x.1

abbrev failed : Break → Result Statement Break
failed d = Err d

same-break : (c d : Break) → failed c ≡ failed d → c ≡ d
same-break c d e = cc

one-fault : (e : Entry) (n m : Rule) → IsFault e n → IsFault e m → n ≡ m
one-fault e n m a b =
    elim (is_cut e.line e.label e.text) [
      | cut_so ps cut is ↦ ap (λ (d : Break). d.rule) (same-break (record { rule = n; line = e.line }) (record { rule = m; line = e.line }) (sym (a.read ps cut) ∙ b.read ps cut))
      | uncut none is ↦ a.unfinished none ∙ sym (b.unfinished none)
    ]

one-unspelled : (es : List Entry) (n : Rule) (l : ℕ) (m : Rule) (k : ℕ) → UnspelledAt es n l → UnspelledAt es m k → Same n l m k
one-unspelled es n l m k a b = by (places a.front a.back b.front b.back a.entry b.entry (sym a.cut ∙ b.cut))
  where
    by : Places a.front b.front a.entry b.entry → Same n l m k
    by (inl s) = (
      one-fault b.entry n m (subst (λ (e : Entry). IsFault e n) s.items a.fault.fault) b.fault.fault,
      a.fault.place ∙ ap (λ (e : Entry). e.line) s.items ∙ sym b.fault.place,
    )
    by (inr (inl s)) = absurd (spelled-none a.front a.entry s.between b.front b.statements n l b.spelled s.longer a.fault)
    by (inr (inr s)) = absurd (spelled-none b.front b.entry s.between a.front a.statements m k a.spelled s.longer b.fault)

unspelled-spelled : (es : List Entry) (ss : List Statement) (n : Rule) (l : ℕ) → UnspelledAt es n l → Spelled es ss → ⊥
unspelled-spelled es ss n l u h = spelled-none u.front u.entry u.back es ss n l h u.cut u.fault

-- ---- whole texts

unread-spelled : (text : List ℕ) (n : Rule) (l : ℕ) (es : List Entry) (ss : List Statement) → IsUnread text n l → Lines text es → Spelled es ss → ⊥
unread-spelled text n l es ss u lines h =
    unspelled-spelled es ss n l (subst (λ (fs : List Entry). UnspelledAt fs n l) (one_list (lines_in text) u.entries es u.lines lines) u.at) h

one-unread : (text : List ℕ) (n : Rule) (l : ℕ) (m : Rule) (k : ℕ) → IsUnread text n l → IsUnread text m k → Same n l m k
one-unread text n l m k a b =
    one-unspelled b.entries n l m k (subst (λ (es : List Entry). UnspelledAt es n l) (one_list (lines_in text) a.entries b.entries a.lines b.lines) a.at) b.at

same-statements : (text : List ℕ) (es fs : List Entry) (ss ts : List Statement) → es ≡ fs → Spelled es ss → Spelled fs ts → ss ≡ ts
same-statements text es fs ss ts e h k = one-spelling fs ss ts (subst (λ (gs : List Entry). Spelled gs ss) e h) k

one-out : (text : List ℕ) (n : Rule) (l : ℕ) (m : Rule) (k : ℕ) → IsOutOfProfile text n l → IsOutOfProfile text m k → Same n l m k
one-out text n l m k a b =
    let same = same-statements text a.entries b.entries a.statements b.statements (one_list (lines_in text) a.entries b.entries a.lines b.lines) a.spelled b.spelled in
    one-break b.statements n l m k (subst (λ (ss : List Statement). BreaksFirst ss n l) same a.first) b.first

pub one-cause : (text : List ℕ) (n : Rule) (l : ℕ) (m : Rule) (k : ℕ) → Refuses text n l → Refuses text m k → Same n l m k
one-cause text n l m k (inl a) (inl b) = one_refusal (lines_in text) n l m k a b
one-cause text n l m k (inl a) (inr (inl b)) = absurd (not_both (lines_in text) b.entries n l b.lines a)
one-cause text n l m k (inl a) (inr (inr b)) = absurd (not_both (lines_in text) b.entries n l b.lines a)
one-cause text n l m k (inr (inl a)) (inl b) = absurd (not_both (lines_in text) a.entries m k a.lines b)
one-cause text n l m k (inr (inr a)) (inl b) = absurd (not_both (lines_in text) a.entries m k a.lines b)
one-cause text n l m k (inr (inl a)) (inr (inl b)) = one-unread text n l m k a b
one-cause text n l m k (inr (inl a)) (inr (inr b)) = absurd (unread-spelled text n l b.entries b.statements a b.lines b.spelled)
one-cause text n l m k (inr (inr a)) (inr (inl b)) = absurd (unread-spelled text m k a.entries a.statements b a.lines a.spelled)
one-cause text n l m k (inr (inr a)) (inr (inr b)) = one-out text n l m k a b

-- a text that reads as a program has no cause to be refused
pub not-refused : (text : List ℕ) (p : ProgramTree) (n : Rule) (l : ℕ) → Reads text p → Refuses text n l → ⊥
not-refused text p n l r (inl b) = not_both (lines_in text) r.entries n l r.lines b
not-refused text p n l r (inr (inl u)) = unread-spelled text n l r.entries r.statements u r.lines r.spelled
not-refused text p n l r (inr (inr o)) =
    let same = same-statements text o.entries r.entries o.statements r.statements (one_list (lines_in text) o.entries r.entries o.lines r.lines) o.spelled r.spelled in
    let b = subst (λ (ss : List Statement). BreaksFirst ss n l) same o.first in
    broken-kept (typed_in_whole r.statements) b.front r.statements b.statement b.back n r.profile b.cut b.broken

-- ---- a refusal that has its cause is the one that the text has

pub exact-refusal : (r : Result Program Refusal) (e : Refusal) (text : List ℕ) → IsErrAnd r (λ y. y ≡ e) → IfErr r (Says (Refuses text))
    → (n : Rule) (l : ℕ) → Refuses text n l → Gives program_of r (Err (record { rule = n; line = l }))
exact-refusal (Ok p) e text h says n l cause = absurd h
exact-refusal (Err Memory) e text h says n l cause = tt
exact-refusal (Err (Refused m k)) e text h says n l cause =
    let same = one-cause text n l m k cause says in
    let refusal : Rule → ℕ → Result ProgramTree Break = λ rule line. Err (record { rule = rule; line = line }) in
    λ i. refusal (same.0 i) (same.1 i)
