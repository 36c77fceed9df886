-- Texts are read to statements one by one.
use Rattle.std.proofs.Common.{◌≡◌, ℕ, ◌+◌, ◌<◌, List, [], ◌∷◌, ◌++◌, refl, ap, ◌∙◌, sym, subst, map, length, get_or, drop, take, add-one, drop-cons, append_assoc, take-append-drop, Result, Ok, Err, IfErr, Vec, Global}
use Rattle.std.proofs.Math.Seq.{take-suc}
use Rattle.std.proofs.lemmas.List.{map-append}
use Rattle.std.specs.Result.{IsErrAnd}
use Rattle.ast.specs.Tree.{Statement}
use Rattle.ast.specs.View.{statement}
use Rattle.ast.specs.declared.statement.Stmt.{Stmt}
use Rattle.fixed_form.specs.Answers.{entry, entries}
use Rattle.fixed_form.specs.Lines.{Entry}
use Rattle.fixed_form.specs.declared.labelled.Labelled.{Labelled}
use Rattle.syntax.specs.Statements.{IsStatement}
use Rattle.expressions.specs.Answers.{IsOfStatement, refuse}
use Rattle.ast.specs.Answers.{Break, Gives, Says}
use Rattle.syntax.specs.Pieces.{Piece, Cut, marks, constants}
use Rattle.syntax.specs.ReadingStatements.{statement_at}
use Rattle.profile_check.specs.Causes.{IsNoStatement, UnspelledAt}
use Rattle.profile_check.specs.ReadsView.{statements_of}
use Rattle.profile_check.specs.Reads.{Spelled}
use Rattle.ast.specs.declared.refusal.Refusal.{Refusal}
use Rattle.ast.specs.declared.refusal.Refusal.TheVariants.{Memory, Refused}
use Rattle.ast.specs.declared.rule.Rule.{Rule}
use Rattle.ast.specs.declared.rule.Rule.TheVariants.{UnendedText}

pub spelled-snoc : (es : List Entry) (ss : List Statement) (e : Entry) (s : Statement)
    → Spelled es ss → IsStatement e.line e.label e.text s → Spelled (es ++ e ∷ []) (ss ++ s ∷ [])
spelled-snoc [] [] e s h k = (k, tt)
spelled-snoc [] (t ∷ ts) e s h k = absurd h
spelled-snoc (d ∷ ds) [] e s h k = absurd h
spelled-snoc (d ∷ ds) (t ∷ ts) e s h k = (h.0, spelled-snoc ds ts e s h.1 k)

-- Whatever statements all entries are, the first are those read and the others those of the entries
-- left.
pub record Begins (all : List Entry) (read : List Statement) (left : List Entry) : Type 0 where
  pub each : (ss : List Statement) → Spelled all ss → (rest : List Statement) × (ss ≡ read ++ rest) × Spelled left rest

next-rest : (read : List Statement) (e : Entry) (left : List Entry) (stmt : Statement) (ss rest : List Statement)
    → ((s : Statement) → IsStatement e.line e.label e.text s → stmt ≡ s) → ss ≡ read ++ rest → Spelled (e ∷ left) rest
    → (more : List Statement) × (ss ≡ (read ++ stmt ∷ []) ++ more) × Spelled left more
next-rest read e left stmt ss [] only same h = absurd h
next-rest read e left stmt ss (s ∷ more) only same h =
    (more, same ∙ ap (λ x. read ++ x ∷ more) (sym (only s h.0)) ∙ sym (append_assoc read (stmt ∷ []) more), h.1)

pub begins-next : (all : List Entry) (read : List Statement) (e : Entry) (left : List Entry) (stmt : Statement)
    → Begins all read (e ∷ left) → ((s : Statement) → IsStatement e.line e.label e.text s → stmt ≡ s) → Begins all (read ++ stmt ∷ []) left
begins-next all read e left stmt b only = record {
  each = λ ss h. let r = b.each ss h in next-rest read e left stmt ss r.0 only r.1 r.2;
}

some-rest : (e : Entry) (left : List Entry) (rest : List Statement) → Spelled (e ∷ left) rest → (s : Statement) × IsStatement e.line e.label e.text s
some-rest e left [] h = absurd h
some-rest e left (s ∷ ss) h = (s, h.0)

-- the next entry is a statement where all are
pub begins-some : (all : List Entry) (read : List Statement) (e : Entry) (left : List Entry) (ss : List Statement)
    → Begins all read (e ∷ left) → Spelled all ss → (s : Statement) × IsStatement e.line e.label e.text s
begins-some all read e left ss b h = let r = b.each ss h in some-rest e left r.0 r.2

-- the entry at an index, before those left
pub entries-at : (labelled : List Labelled) (i : ℕ) (x : Labelled) → i < length labelled → x ≡ get_or labelled i x
    → entries (drop i labelled) ≡ entry x ∷ entries (drop (i + 1) labelled)
entries-at labelled i x h e = rw (add-one, drop-cons labelled i x, ← e) refl

pub entries-taken : (labelled : List Labelled) (i : ℕ) (x : Labelled) → i < length labelled → x ≡ get_or labelled i x
    → entries (take (i + 1) labelled) ≡ entries (take i labelled) ++ entry x ∷ []
entries-taken labelled i x h e = rw (add-one, take-suc labelled i x h, ← e) (simp map-append)

abbrev Answer : Type 0
Answer = Result Statement Break

-- the answer's statement is the only one
pub only-one : (s t : Statement) (a b : Answer) → a ≡ Ok s → b ≡ Ok t → a ≡ b → t ≡ s
only-one s t a b h k e = cc

impossible : {X : Type 0} (s : Statement) (b : Break) → Ok s ≡ Err b → X
impossible s b e = absurd (cc)

-- what `?` hands on
pub handed-trees : (r : Result (Vec Stmt Global) Refusal) (e : Refusal) (x : Result Stmt Refusal) (s : Statement) (ss : List Statement)
    → IsErrAnd r (λ y. y ≡ e) → x ≡ Err e → Gives statement x (Ok s) → Gives statements_of r (Ok ss)
handed-trees (Ok xs) e x s ss h k g = absurd h
handed-trees (Err Memory) e x s ss h k g = tt
handed-trees (Err (Refused n l)) e x s ss h k g = impossible s (record { rule = n; line = l }) (subst (λ r. Gives statement r (Ok s)) (k ∙ ap (λ y. Err y) (sym h)) g)

pub handed-cause : (r : Result (Vec Stmt Global) Refusal) (e : Refusal) (es : List Entry) → IsErrAnd r (λ y. y ≡ e) → Says (UnspelledAt es) e → IfErr r (Says (UnspelledAt es))
handed-cause (Ok x) e es h m = absurd h
handed-cause (Err y) e es h m = subst (Says (UnspelledAt es)) (sym h) m

pub unspelled-next : (front : List Entry) (x : Entry) (back : List Entry) (read : List Statement) (e : Refusal)
    → Spelled front read → Says (IsNoStatement x) e → Says (UnspelledAt (front ++ x ∷ back)) e
unspelled-next front x back read Memory h k = tt
unspelled-next front x back read (Refused n l) h k = record {
  front = front;
  entry = x;
  back = back;
  cut = refl;
  statements = read;
  spelled = h;
  fault = k;
}

pub entries-cut : (labelled : List Labelled) (i : ℕ) (x : Labelled) → i < length labelled → x ≡ get_or labelled i x
    → entries (take i labelled) ++ entry x ∷ entries (drop (i + 1) labelled) ≡ entries labelled
entries-cut labelled i x h e =
    ap (λ es. entries (take i labelled) ++ es) (sym (entries-at labelled i x h e))
    ∙ sym (map-append entry (take i labelled) (drop i labelled)) ∙ ap entries (take-append-drop i labelled)

-- the list of statements read after one more
pub read-next : (body more : List Stmt) (x : Stmt) → more ≡ body ++ x ∷ [] → map statement more ≡ map statement body ++ statement x ∷ []
read-next body more x e = ap (map statement) e ∙ map-append statement body (x ∷ [])

-- a refusal of the text's reader has its cause
pub no-statement : (r : Result Stmt Refusal) (e : Entry)
    → IfErr r (Says (λ n l. (l ≡ e.line) × IsOfStatement n × ((s : Statement) → IsStatement e.line e.label e.text s → ⊥)))
    → (((ps : List Piece) → Cut ps e.text → ⊥) → Gives statement r (refuse e.line UnendedText))
    → ((ps : List Piece) → Cut ps e.text → Gives statement r (statement_at e.line e.label e.text (marks ps) (constants ps)))
    → IfErr r (Says (IsNoStatement e))
no-statement (Ok x) e refused unfinished exact = tt
no-statement (Err Memory) e refused unfinished exact = tt
no-statement (Err (Refused n l)) e refused unfinished exact = record {
  place = refused.0;
  known = refused.1;
  fault = record {
    read = λ ps cut. subst (λ m. statement_at e.line e.label e.text (marks ps) (constants ps) ≡ Err (record { rule = n; line = m })) refused.0 (exact ps cut);
    unfinished = λ none. sym (ap rule-in (unfinished none));
  };
  none = refused.2;
}
  where
    rule-in : Answer → Rule
    rule-in (Ok s) = UnendedText
    rule-in (Err b) = b.rule
