-- A whole text: its lines, their statements, the rules of the profile and the tree.
use Rattle.std.proofs.Common.{◌≡◌, ◌∙◌, ℕ, ◌+◌, ◌*◌, ◌<◌, ◌≤◌, ◌^◌, true, false, List, [], ◌∷◌, ◌++◌, refl, ap, sym, subst, map, length, append_assoc, arith, inl, inr, Result, Ok, Err, IfErr}
use Rattle.std.specs.List.{list_all, IsDistinct, list_any}
use Rattle.std.specs.Result.{IsErrAnd}
use Rattle.std.proofs.lemmas.Bool.{or_parts, and_from}
use Rattle.ast.specs.Answers.{Break, Gives, Fails, Says}
use Rattle.ast.specs.Program.{ProgramTree, are_placed, are_shallow, is_placed}
use Rattle.ast.specs.ProgramView.{program as program_of}
use Rattle.ast.specs.References.{are_numbered, block_expressions, block_references, expressions_references}
use Rattle.ast.specs.Store.{same_name}
use Rattle.ast.specs.Symbols.{Symbol, names_of, is_sized}
use Rattle.ast.specs.Tree.{Term, Statement, Block, block, Ref, Kind}
use Rattle.ast.specs.declared.program.Program.{Program}
use Rattle.ast.specs.declared.refusal.Refusal.{Refusal}
use Rattle.ast.specs.declared.refusal.Refusal.TheVariants.{Memory, Refused}
use Rattle.fixed_form.proofs.Laws.{one_list}
use Rattle.fixed_form.specs.Limits.{longest_text}
use Rattle.fixed_form.specs.Lines.{Entry, Lines, Broken, lines_in, AreShaped}
use Rattle.structure.specs.Open.{open_after}
use Rattle.structure.specs.Rules.{holds_wrong_statement, is_misplaced_arm, by_label, is_around, is_block}
use Rattle.syntax.proofs.Public.{text_again}
use Rattle.syntax.specs.Statements.{IsStatement}
use Rattle.profile_check.proofs.Ending.{ends-in-end}
use Rattle.profile_check.proofs.Erased.{ListSettled}
use Rattle.profile_check.proofs.Known.{distinct, known, serves, ranked}
use Rattle.profile_check.proofs.LaidText.{block-text, block-expressions}
use Rattle.profile_check.proofs.OneProgram.{one-program}
use Rattle.profile_check.proofs.Parts.{table_in, text_of, own_text, expressions_in, are_shallow_in, own_expressions}
use Rattle.profile_check.proofs.Resolved.{Fits, AllFit, list-settled, list-shallow, none-resolved}
use Rattle.profile_check.proofs.ResolvedKinds.{kind-text}
use Rattle.profile_check.proofs.SameShape.{nested-lays}
use Rattle.profile_check.proofs.Sized.{few_statements, sized}
use Rattle.profile_check.proofs.Sound.{keeps-structure, in-order, sound, kept, counts}
use Rattle.profile_check.proofs.Texts.{AreShort, all-few, all-bare, all-shallow, spelled-in}
use Rattle.profile_check.specs.Causes.{UnspelledAt, Refuses}
use Rattle.profile_check.specs.Declarations.{declared_in, symbols_of, Arrays}
use Rattle.profile_check.specs.Erasure.{block_erased}
use Rattle.profile_check.specs.Layout.{Lays}
use Rattle.profile_check.specs.Nesting.{nested}
use Rattle.profile_check.specs.Reads.{AreProgram, Reads, Spelled, is_meant}
use Rattle.profile_check.specs.Resolving.{Table, kind_count, kind_resolved, statements_resolved, references_in}
use Rattle.profile_check.specs.Rules.{InProfile, BreaksFirst, most_statements, is_miscounted}
use Rattle.std.specs.Prelude.{◌⊎◌, ⊤}
use Rattle.ast.specs.Regular.{is_counted, is_fitting, block_keeps, ends_outside, is_regular, are_fitting}
use Rattle.ast.specs.declared.rule.Rule.{Rule}
use Rattle.ast.proofs.Lists.{all_joined, all_parts}
use Rattle.ast.proofs.References.{references_append}
use Rattle.profile_check.proofs.CountedTerms.{Ranked, kind-counted}
use Rattle.profile_check.proofs.FittingTerms.{Fit, statement-spelled, kind-fitting}
use Rattle.profile_check.proofs.Orderly.{Rightly, nested-orderly}
use Rattle.profile_check.specs.Fitting.{symbol_fits}
use Rattle.profile_check.specs.Uses.{uses}

-- ---- the statements of a text in the profile

-- a text whose lines, statements and rules are in order
pub record IsRead (es : List Entry) (ss : List Statement) : Type 0 where
  pub shaped : AreShaped es
  pub spelled : Spelled es ss
  pub profile : InProfile ss

-- its statements resolved, and these nested
abbrev pub resolved_in : List Statement → List Statement
resolved_in ss = statements_resolved (table_in (declared_in ss)) 0 ss

abbrev pub body_in : List Statement → Block
body_in ss = block (nested (resolved_in ss)).nodes

holds-right : (ss : List Statement) → InProfile ss → (front : List Statement) (s : Statement) (back : List Statement) → ss ≡ front ++ s ∷ back → holds_wrong_statement s.kind ≡ false
holds-right ss h front s back e =
    let opened = open_after front in
    let p = or_parts (is_misplaced_arm s.kind opened) _ (in-order ss h front s back e).blocks in
    (or_parts (by_label (λ label around. is_around is_block label around) opened s) (holds_wrong_statement s.kind) p.1).1

fits : (es : List Entry) (ss : List Statement) → IsRead es ss → (front : List Statement) (s : Statement) (back : List Statement) → ss ≡ front ++ s ∷ back → Fits (table_in (declared_in ss)) s
fits es ss h front s back e = record {
  alone = holds-right ss h.profile front s back e;
  bare = all-bare es ss front s back e h.spelled;
  sound = sound ss front s back h.profile e;
  shallow = all-shallow es ss front s back e h.spelled;
}

fit-from : (t : Table) (ss : List Statement) → ((front : List Statement) (s : Statement) (back : List Statement) → ss ≡ front ++ s ∷ back → Fits t s)
    → (front rest : List Statement) → ss ≡ front ++ rest → AllFit t rest
fit-from t ss each front [] e = tt
fit-from t ss each front (s ∷ rest) e = (each front s rest e, fit-from t ss each (front ++ s ∷ []) rest (e ∙ sym (append_assoc front (s ∷ []) rest)))

all-fit : (es : List Entry) (ss : List Statement) → IsRead es ss → AllFit (table_in (declared_in ss)) ss
all-fit es ss h = fit-from (table_in (declared_in ss)) ss (fits es ss h) [] ss refl

-- ---- the tree

resolved-texts : (t : Table) (n : ℕ) (ss : List Statement) → AllFit t ss → map text_of (statements_resolved t n ss) ≡ ss
resolved-texts t n [] h = refl
resolved-texts t n (s ∷ ss) h =
    let same : own_text (kind_resolved t n s.kind) ≡ s.kind = kind-text t n s.kind h.0.alone ∙ h.0.bare in
    let more = resolved-texts t (n + kind_count (kind_resolved t n s.kind)) ss h.1 in
    λ i. record { line = s.line; label = s.label; kind = same i } ∷ more i

laid : (es : List Entry) (ss : List Statement) → IsRead es ss → Lays (body_in ss) (resolved_in ss)
laid es ss h = nested-lays (table_in (declared_in ss)) ss (keeps-structure ss h.profile) (ends-in-end es ss h.shaped.ended h.spelled)

laid-text : (es : List Entry) (ss : List Statement) → IsRead es ss → Lays (block_erased (body_in ss)) ss
laid-text es ss h =
    subst (λ (xs : List Statement). Lays (block_erased (body_in ss)) xs) (resolved-texts (table_in (declared_in ss)) 0 ss (all-fit es ss h))
    (block-text (body_in ss) (resolved_in ss) (laid es ss h))

expressions : (es : List Entry) (ss : List Statement) → IsRead es ss → block_expressions (body_in ss) ≡ expressions_in (resolved_in ss)
expressions es ss h = block-expressions (body_in ss) (resolved_in ss) (laid es ss h)

settled : (es : List Entry) (ss : List Statement) → IsRead es ss → ListSettled (symbols_of (declared_in ss)) 0 (block_expressions (body_in ss))
settled es ss h =
    subst (λ (xs : List Term). ListSettled (symbols_of (declared_in ss)) 0 xs) (sym (expressions es ss h))
    (list-settled (symbols_of (declared_in ss)) (table_in (declared_in ss)) (serves ss h.profile) 0 ss (all-fit es ss h))

-- ---- what a program's type asks for, of symbols and a tree that are those of the statements

pub are-distinct : (ss : List Statement) (symbols : List Symbol) → symbols ≡ symbols_of (declared_in ss) → IsDistinct same_name (names_of symbols)
are-distinct ss symbols e = subst (λ (xs : List Symbol). IsDistinct same_name (names_of xs)) (sym e) (distinct ss)

pub are-sized : (ss : List Statement) → InProfile ss → (symbols : List Symbol) → symbols ≡ symbols_of (declared_in ss) → list_all is_sized symbols ≡ true
are-sized ss h symbols e = ap (λ (xs : List Symbol). list_all is_sized xs) e ∙ sized ss h

pub are-placed : (es : List Entry) (ss : List Statement) → IsRead es ss → (symbols : List Symbol) (b : Block) → symbols ≡ symbols_of (declared_in ss) → b ≡ body_in ss → are_placed symbols b ≡ true
are-placed es ss h symbols b e f = (λ i. are_placed (e i) (f i)) ∙ (settled es ss h).placed

pub are-numbered : (es : List Entry) (ss : List Statement) → IsRead es ss → (b : Block) → b ≡ body_in ss → are_numbered 0 (block_references b) ≡ true
are-numbered es ss h b f = ap (λ (x : Block). are_numbered 0 (block_references x)) f ∙ (settled es ss h).numbered

pub are-shallow : (es : List Entry) (ss : List Statement) → IsRead es ss → (b : Block) → b ≡ body_in ss → are_shallow b ≡ true
are-shallow es ss h b f =
    ap (λ (x : Block). are_shallow x) f ∙ ap (λ (xs : List Term). are_shallow_in xs) (expressions es ss h)
    ∙ list-shallow (table_in (declared_in ss)) 0 ss (all-fit es ss h)

-- ---- subscripts, DO variables and END

abbrev AllCount : Arrays → List Statement → Type 0
AllCount arrays [] = ⊤
AllCount arrays (s ∷ ss) = ((own_expressions s.kind ≡ []) ⊎ (list_any (is_miscounted arrays) (uses s.kind) ≡ false)) × AllCount arrays ss

count-from : (ss : List Statement) → InProfile ss → (front rest : List Statement) → ss ≡ front ++ rest → AllCount (declared_in ss).arrays rest
count-from ss h front [] e = tt
count-from ss h front (s ∷ rest) e = (counts ss front s rest h e, count-from ss h (front ++ s ∷ []) rest (e ∙ sym (append_assoc front (s ∷ []) rest)))

list-counted : (symbols : List Symbol) (arrays : Arrays) → Ranked symbols arrays → (t : Table) (n : ℕ) (ss : List Statement) → AllFit t ss → AllCount arrays ss
    → list_all (λ r. is_placed symbols r) (expressions_references (expressions_in (statements_resolved t n ss))) ≡ true
    → list_all (λ e. is_counted symbols e) (expressions_in (statements_resolved t n ss)) ≡ true
list-counted symbols arrays ranked t n [] h c p = refl
list-counted symbols arrays ranked t n (s ∷ ss) h c p =
    let k : Kind = kind_resolved t n s.kind in
    let more : List Term = expressions_in (statements_resolved t (n + kind_count k) ss) in
    let q = all_parts (λ r. is_placed symbols r) (expressions_references (own_expressions k)) (expressions_references more)
    (ap (λ (rs : List Ref). list_all (λ r. is_placed symbols r) rs) (sym (references_append (own_expressions k) more)) ∙ p) in
    all_joined (λ e. is_counted symbols e) (own_expressions k) more
    (by k (none-resolved t n s.kind) (kind-text t n s.kind h.0.alone ∙ h.0.bare) q.0 c.0)
    (list-counted symbols arrays ranked t (n + kind_count k) ss h.1 c.1 q.1)
  where
    by : (k : Kind) → (own_expressions s.kind ≡ [] → own_expressions k ≡ []) → own_text k ≡ s.kind → list_all (λ r. is_placed symbols r) (expressions_references (own_expressions k)) ≡ true
        → (own_expressions s.kind ≡ []) ⊎ (list_any (is_miscounted arrays) (uses s.kind) ≡ false) → list_all (λ e. is_counted symbols e) (own_expressions k) ≡ true
    by k none same p (inl e) = ap (λ (es : List Term). list_all (λ f. is_counted symbols f) es) (none e)
    by k none same p (inr e) = kind-counted symbols arrays ranked k p (ap (λ (j : Kind). list_any (is_miscounted arrays) (uses j)) same ∙ e)

rightly : (ss : List Statement) → InProfile ss → (front : List Statement) (s : Statement) (back : List Statement) → ss ≡ front ++ s ∷ back → Rightly (open_after front) s
rightly ss h front s back e = record { active = (kept ss h front s back e).active; alone = holds-right ss h front s back e }

pub are-regular : (es : List Entry) (ss : List Statement) → IsRead es ss → (symbols : List Symbol) (b : Block) → symbols ≡ symbols_of (declared_in ss) → b ≡ body_in ss → is_regular symbols b ≡ true
are-regular es ss h symbols b e f =
    let t = table_in (declared_in ss) in
    let all = list-settled (symbols_of (declared_in ss)) t (serves ss h.profile) 0 ss (all-fit es ss h) in
    let counted = list-counted (symbols_of (declared_in ss)) (declared_in ss).arrays (ranked ss h.profile) t 0 ss (all-fit es ss h) (count-from ss h.profile [] ss refl) all.placed in
    let orderly = nested-orderly t ss (keeps-structure ss h.profile) (rightly ss h.profile) (ends-in-end es ss h.shaped.ended h.spelled) in
    (λ i. is_regular (e i) (f i))
    ∙ and_from (list_all (λ x. is_counted (symbols_of (declared_in ss)) x) (block_expressions (body_in ss))) _
    (ap (λ (xs : List Term). list_all (λ x. is_counted (symbols_of (declared_in ss)) x) xs) (expressions es ss h) ∙ counted)
    (and_from (block_keeps [] (body_in ss)) (ends_outside (body_in ss)) orderly.0 orderly.1)

-- ---- constants

abbrev AllSpelt : List Statement → Type 0
AllSpelt [] = ⊤
AllSpelt (s ∷ ss) = Fit (own_expressions s.kind) × AllSpelt ss

spelt-from : (es : List Entry) (ss : List Statement) → Spelled es ss → (front rest : List Statement) → ss ≡ front ++ rest → AllSpelt rest
spelt-from es ss h front [] e = tt
spelt-from es ss h front (s ∷ rest) e =
    let x = spelled-in es ss front s rest e h in
    (statement-spelled _ _ _ s x.1, spelt-from es ss h (front ++ s ∷ []) rest (e ∙ sym (append_assoc front (s ∷ []) rest)))

list-fitting : (symbols : List Symbol) → list_all symbol_fits symbols ≡ true → (t : Table) (n : ℕ) (ss : List Statement) → AllFit t ss → AllSpelt ss
    → list_all (λ e. is_meant symbols e) (expressions_in (statements_resolved t n ss)) ≡ true
    → Fit (expressions_in (statements_resolved t n ss))
list-fitting symbols fit t n [] h c m = refl
list-fitting symbols fit t n (s ∷ ss) h c m =
    let k : Kind = kind_resolved t n s.kind in
    let more : List Term = expressions_in (statements_resolved t (n + kind_count k) ss) in
    let q = all_parts (λ e. is_meant symbols e) (own_expressions k) more m in
    let same : own_text k ≡ s.kind = kind-text t n s.kind h.0.alone ∙ h.0.bare in
    all_joined (λ e. is_fitting e) (own_expressions k) more
    (kind-fitting symbols fit k q.0 (subst (λ (j : Kind). Fit (own_expressions j)) (sym same) c.0))
    (list-fitting symbols fit t (n + kind_count k) ss h.1 c.1 q.1)

pub all-fitting : (es : List Entry) (ss : List Statement) → IsRead es ss → (symbols : List Symbol) (b : Block) → symbols ≡ symbols_of (declared_in ss) → list_all symbol_fits symbols ≡ true → b ≡ body_in ss → are_fitting b ≡ true
all-fitting es ss h symbols b e fit f =
    let t = table_in (declared_in ss) in
    let all = list-settled (symbols_of (declared_in ss)) t (serves ss h.profile) 0 ss (all-fit es ss h) in
    let fine : list_all symbol_fits (symbols_of (declared_in ss)) ≡ true = ap (λ (xs : List Symbol). list_all symbol_fits xs) (sym e) ∙ fit in
    ap are_fitting f ∙ ap (λ (xs : List Term). list_all (λ x. is_fitting x) xs) (expressions es ss h)
    ∙ list-fitting (symbols_of (declared_in ss)) fine t 0 ss (all-fit es ss h) (spelt-from es ss h.spelled [] ss refl) all.meant

pub few-references : (es : List Entry) (ss : List Statement) → AreShort es → Spelled es ss → InProfile ss → references_in ss < 2 ^ 64
few-references es ss short spelled profile =
    let many : references_in ss ≤ length ss * longest_text = all-few es ss spelled short in
    let few : length ss ≤ most_statements = few_statements ss profile in
    omega (arith, many, few)

-- ---- the program

pub as-read : (text : List ℕ) (es : List Entry) (ss : List Statement) → Lines text es → IsRead es ss → (p : ProgramTree)
    → p.symbols ≡ symbols_of (declared_in ss) → p.block ≡ body_in ss → p.count ≡ length ss → Reads text p
as-read text es ss lines h p e f g = record {
  entries = es;
  lines = lines;
  statements = ss;
  spelled = h.spelled;
  profile = h.profile;
  tree = record {
    symbols = e;
    laid = subst (λ (b : Block). Lays (block_erased b) ss) (sym f) (laid-text es ss h);
    meant = (λ i. list_all (λ x. is_meant (e i) x) (block_expressions (f i))) ∙ (settled es ss h).meant;
    placed = are-placed es ss h p.symbols p.block e f;
    numbered = are-numbered es ss h p.block f;
    count = g;
  };
}

-- ---- a text reads as at most one program

one-statement : (line : ℕ) (label : _) (text : List ℕ) (s t : Statement) → IsStatement line label text s → IsStatement line label text t → s ≡ t
one-statement line label text s t a b =
    let meant : Statement → Result Statement Break = λ x. Ok x in
    let both : meant s ≡ meant t = sym (text_again line label text s a) ∙ text_again line label text t b in
    cc

pub one-spelling : (es : List Entry) (ss ts : List Statement) → Spelled es ss → Spelled es ts → ss ≡ ts
one-spelling [] [] [] a b = refl
one-spelling [] (s ∷ ss) ts a b = absurd a
one-spelling [] [] (t ∷ ts) a b = absurd b
one-spelling (e ∷ es) [] ts a b = absurd a
one-spelling (e ∷ es) (s ∷ ss) [] a b = absurd b
one-spelling (e ∷ es) (s ∷ ss) (t ∷ ts) a b =
    let first = one-statement e.line e.label e.text s t a.0 b.0 in
    let more = one-spelling es ss ts a.1 b.1 in
    λ i. first i ∷ more i

pub one-reading : (text : List ℕ) (p q : ProgramTree) → Reads text p → Reads text q → p ≡ q
one-reading text p q a b =
    let lines : a.entries ≡ b.entries = one_list (lines_in text) a.entries b.entries a.lines b.lines in
    let spelled = subst (λ (es : List Entry). Spelled es a.statements) lines a.spelled in
    let same : b.statements ≡ a.statements = one-spelling b.entries b.statements a.statements b.spelled spelled in
    one-program a.statements p q a.tree (subst (λ (ss : List Statement). AreProgram ss q) same b.tree) (keeps-structure a.statements a.profile) (known a.statements a.profile)

-- ---- what an answer says of a text that reads as a program, and of one that is refused

no-break : (ss : List Statement) (n : Rule) (l : ℕ) → InProfile ss → BreaksFirst ss n l → ⊥
no-break ss n l h b = let both = sym (h.each b.front b.statement b.back b.cut) ∙ b.broken in cc

pub in-lines : (text : List ℕ) (e : Refusal) → Says (Broken text) e → Says (Refuses text) e
in-lines text Memory s = tt
in-lines text (Refused n l) s = inl s

pub in-statements : (text : List ℕ) (es : List Entry) (e : Refusal) → Lines text es → Says (UnspelledAt es) e → Says (Refuses text) e
in-statements text es Memory lines s = tt
in-statements text es (Refused n l) lines s = inr (inl (record { entries = es; lines = lines; at = s }))

pub out-of-profile : (text : List ℕ) (es : List Entry) (ss : List Statement) (e : Refusal) → Lines text es → Spelled es ss → Says (BreaksFirst ss) e → Says (Refuses text) e
out-of-profile text es ss Memory lines spelled s = tt
out-of-profile text es ss (Refused n l) lines spelled s = inr (inr (record { entries = es; lines = lines; statements = ss; spelled = spelled; first = s }))

-- what `?` hands on
pub handed : (r : Result Program Refusal) (e : Refusal) (m : Result ProgramTree Break) → IsErrAnd r (λ y. y ≡ e) → Fails e m → Gives program_of r m
handed (Ok x) e m h f = absurd h
handed (Err y) e m h f = subst (λ (z : Refusal). Fails z m) (sym h) f

pub handed-cause : (r : Result Program Refusal) (e : Refusal) (text : List ℕ) → IsErrAnd r (λ y. y ≡ e) → Says (Refuses text) e → IfErr r (Says (Refuses text))
handed-cause (Ok x) e text h s = absurd h
handed-cause (Err y) e text h s = subst (λ (z : Refusal). Says (Refuses text) z) (sym h) s

-- ---- a text that reads as a program has no cause to be refused

abbrev listed : List Entry → Result (List Entry) Break
listed es = Ok es

abbrev spelt : List Statement → Result (List Statement) Break
spelt ss = Ok ss

no-refusal : (ss : List Statement) (e : Refusal) (m : Result ProgramTree Break) → InProfile ss → Says (BreaksFirst ss) e → Fails e m
no-refusal ss Memory m h s = tt
no-refusal ss (Refused n l) m h s = absurd (no-break ss n l h s)

same-entries : (es fs : List Entry) → listed fs ≡ listed es → es ≡ fs
same-entries es fs e = cc

same-statements : (ss ts : List Statement) → spelt ts ≡ spelt ss → ss ≡ ts
same-statements ss ts e = cc

none-fails : (e : Refusal) (ss : List Statement) (m : Result ProgramTree Break) → Fails e (spelt ss) → Fails e m
none-fails Memory ss m h = tt
none-fails (Refused n l) ss m h = absurd (let q : spelt ss ≡ Err (record { rule = n; line = l }) = h in differ ss _ q)
  where
    differ : (ss : List Statement) (d : Break) → spelt ss ≡ Err d → ⊥
    differ ss d h = cc

pub unread : (r : Result Program Refusal) (e : Refusal) (text : List ℕ) (es : List Entry) (tree : ProgramTree) → IsErrAnd r (λ y. y ≡ e)
    → ((fs : List Entry) → Lines text fs → listed fs ≡ listed es) → ((ss : List Statement) → Spelled es ss → Fails e (spelt ss))
    → Reads text tree → Gives program_of r (Ok tree)
unread r e text es tree h lines only reads =
    let same = same-entries es reads.entries (lines reads.entries reads.lines) in
    let spelled = subst (λ (fs : List Entry). Spelled fs reads.statements) (sym same) reads.spelled in
    handed r e (Ok tree) h (none-fails e reads.statements (Ok tree) (only reads.statements spelled))

pub refused-not : (r : Result Program Refusal) (e : Refusal) (text : List ℕ) (es : List Entry) (ss : List Statement) (tree : ProgramTree) → IsErrAnd r (λ y. y ≡ e)
    → ((fs : List Entry) → Lines text fs → listed fs ≡ listed es) → ((ts : List Statement) → Spelled es ts → spelt ts ≡ spelt ss) → Says (BreaksFirst ss) e
    → Reads text tree → Gives program_of r (Ok tree)
refused-not r e text es ss tree h lines stmts says reads =
    let same = same-entries es reads.entries (lines reads.entries reads.lines) in
    let spelled = subst (λ (fs : List Entry). Spelled fs reads.statements) (sym same) reads.spelled in
    let these = same-statements ss reads.statements (stmts reads.statements spelled) in
    handed r e (Ok tree) h (no-refusal ss e (Ok tree) (subst (λ (ts : List Statement). InProfile ts) (sym these) reads.profile) says)

-- want of memory says nothing of the text
pub no-memory : (r : Result Program Refusal) (m : Result ProgramTree Break) → IsErrAnd r (λ y. y ≡ Memory) → Gives program_of r m
no-memory r m h = handed r Memory m h tt

pub no-cause : (r : Result Program Refusal) (text : List ℕ) → IsErrAnd r (λ y. y ≡ Memory) → IfErr r (Says (Refuses text))
no-cause r text h = handed-cause r Memory text h tt
