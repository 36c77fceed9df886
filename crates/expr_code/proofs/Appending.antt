-- Code that is appended piece by piece.
use Rattle.std.proofs.Common.{◌≡◌, ◌∙◌, ◌+◌, ◌<◌, ◌≤◌, inl, inr, ℕ, suc, pos, List, [], ◌∷◌, ◌++◌, Result, ap, sym, refl, subst, length, drop, get_or, map, arith, append_assoc, append-nil}
use Rattle.std.specs.Prelude.{◌⊎◌, OnOk}
use Rattle.std.proofs.lemmas.List.{drop_all, drop_more}
use Rattle.ast.specs.Symbols.{Extent}
use Rattle.ast.specs.Tree.{Ref, Term, Terms, call, terms}
use Rattle.ast.specs.View.{extent, term}
use Rattle.ast.specs.declared.expression.Expr.{Expr}
use Rattle.ast.specs.declared.expression.Intrinsic.{Intrinsic}
use Rattle.ast.specs.declared.program.Dimension.{Dimension}
use Rattle.machine.specs.declared.instr.Act.{Act}
use Rattle.machine.specs.declared.instr.Act.TheVariants.{Constant}
use Rattle.machine.specs.declared.instr.Instr.{Instr}
use Rattle.expr_code.specs.Emitted.{applied_act, applied_code, chosen_code, element_code, further_code, instr, reached_code, term_code, terms_code}
use Rattle.expr_code.specs.Places.{Places, dimensions_at}
use Rattle.expr_code.specs.Process.{count, fewer, just}

-- code that is the same
pub same_code : {X E : Type 0} (r : Result X E) (new old code other : List Instr) → other ≡ code → OnOk r (new ≡ old ++ code) → OnOk r (new ≡ old ++ other)
same_code r new old code other is h = subst (λ (l : List Instr). OnOk r (new ≡ old ++ l)) (sym is) h

pub of_tree : {X E : Type 0} (r : Result X E) (new old : List Instr) (p : Places) (t u : Term) → t ≡ u → OnOk r (new ≡ old ++ term_code p u) → OnOk r (new ≡ old ++ term_code p t)
of_tree r new old p t u is h = same_code r new old (term_code p u) (term_code p t) (ap (term_code p) is) h

-- the code of a call, by what is called
pub of_call : {X E : Type 0} (r : Result X E) (new old : List Instr) (p : Places) (es : Terms) (f g : Intrinsic) → f ≡ g → OnOk r (new ≡ old ++ term_code p (call g es)) → OnOk r (new ≡ old ++ term_code p (call f es))
of_call r new old p es f g is h = of_tree r new old p (call f es) (call g es) (ap (λ (i : Intrinsic). call i es) is) h

pub of_either : {X E : Type 0} (r : Result X E) (new old : List Instr) (p : Places) (es : Terms) (f g h : Intrinsic) → (f ≡ g) ⊎ (f ≡ h) → OnOk r (new ≡ old ++ term_code p (call g es)) → OnOk r (new ≡ old ++ term_code p (call h es)) → OnOk r (new ≡ old ++ term_code p (call f es))
of_either r new old p es f g h (inl is) one other = of_call r new old p es f g is one
of_either r new old p es f g h (inr is) one other = of_call r new old p es f h is other

pub applied_of : (p : Places) (es : Terms) (wanted kept : ℕ) (act made : Act) → kept ≡ just wanted (count es) → made ≡ applied_act act kept → applied_code p es wanted act ≡ terms_code p es kept ++ instr p.line made ∷ []
applied_of p es wanted kept act made as_many is =
    sym (
    ap (λ (a : Act). terms_code p es kept ++ instr p.line a ∷ []) is
    ∙ ap (λ (n : ℕ). terms_code p es n ++ instr p.line (applied_act act n) ∷ []) as_many
    )

-- the code of an element, by the dimensions that were found
lengths : (ds : List Dimension) → length (map extent ds) ≡ length ds
lengths [] = refl
lengths (d ∷ ds) = ap suc (lengths ds)

pub element_by : (p : Places) (r : Ref) (es : Terms) (ds : List Dimension) (kept : ℕ) → map extent ds ≡ dimensions_at p.symbols r.cell → kept ≡ fewer (count es) (length ds) → element_code p r es ≡ terms_code p es (length ds) ++ reached_code p r (map extent ds) kept
element_by p r es ds kept found is =
    sym (
    ap (λ (n : ℕ). terms_code p es (length ds) ++ reached_code p r (map extent ds) n) is
    ∙ ap (λ (n : ℕ). terms_code p es n ++ reached_code p r (map extent ds) (fewer (count es) n)) (sym (lengths ds))
    ∙ ap (λ (xs : List Extent). terms_code p es (length xs) ++ reached_code p r xs (fewer (count es) (length xs))) found
    )

-- the greatest or the least of expressions
pub chosen_none : (p : Places) (es : List Expr) (act : Act) → length es < 1 → chosen_code p (terms (map term es)) act ≡ instr p.line (Constant (pos 0)) ∷ []
chosen_none p [] act h = refl
chosen_none p (e ∷ es) act h = absurd (omega (arith, h))

pub chosen_some : (p : Places) (es : List Expr) (e : Expr) (act : Act) → 1 ≤ length es → e ≡ get_or es 0 e → chosen_code p (terms (map term es)) act ≡ term_code p (term e) ++ further_code p (terms (map term (drop 1 es))) act
chosen_some p [] e act h is = absurd (omega (arith, h))
chosen_some p (d ∷ es) e act h is = ap (λ (x : Expr). term_code p (term x) ++ further_code p (terms (map term es)) act) (sym is)

-- expressions one behind another: what is left of them
onward : (before mid after some more rest : List Instr) → mid ≡ before ++ some → after ≡ mid ++ more → after ++ rest ≡ before ++ (some ++ (more ++ rest))
onward before mid after some more rest one two =
    ap (λ (l : List Instr). l ++ rest) two
    ∙ append_assoc mid more rest
    ∙ ap (λ (l : List Instr). l ++ (more ++ rest)) one
    ∙ append_assoc before some (more ++ rest)

pub next_further : (p : Places) (act : Act) (es : List Expr) (i : ℕ) (e : Expr) (before mid after whole : List Instr) → i < length es → e ≡ get_or es i e → mid ≡ before ++ term_code p (term e) → after ≡ mid ++ instr p.line act ∷ []
    → before ++ further_code p (terms (map term (drop i es))) act ≡ whole → after ++ further_code p (terms (map term (drop (i + 1) es))) act ≡ whole
next_further p act es i e before mid after whole h is one two so_far =
    let rest = further_code p (terms (map term (drop (i + 1) es))) act in
    onward before mid after (term_code p (term e)) (instr p.line act ∷ []) rest one two
    ∙ ap (λ (x : Expr). before ++ (term_code p (term x) ++ (instr p.line act ∷ rest))) is
    ∙ sym (ap (λ (l : List Expr). before ++ further_code p (terms (map term l)) act) (drop_more es i e h))
    ∙ so_far

pub all_further : (p : Places) (act : Act) (es : List Expr) (i : ℕ) (code whole : List Instr) → length es ≤ i → code ++ further_code p (terms (map term (drop i es))) act ≡ whole → code ≡ whole
all_further p act es i code whole h so_far =
    sym (append-nil code) ∙ sym (ap (λ (l : List Expr). code ++ further_code p (terms (map term l)) act) (drop_all i es h)) ∙ so_far

pub all_kept : (p : Places) (es : List Expr) (i left : ℕ) (code whole : List Instr) → length es ≤ i → code ++ terms_code p (terms (map term (drop i es))) left ≡ whole → code ≡ whole
all_kept p es i left code whole h so_far =
    sym (append-nil code) ∙ sym (ap (λ (l : List Expr). code ++ terms_code p (terms (map term l)) left) (drop_all i es h)) ∙ so_far
