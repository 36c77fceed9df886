-- Reading line by line answers what the relations on whole texts say.
use Rattle.std.proofs.Common.{◌≡◌, ◌⊎◌, ℕ, ◌+◌, Bool, true, false, List, [], ◌∷◌, ◌++◌, length, Option, Some, None, Result, Ok, Err, refl, sym, ap, subst, ◌∙◌, inl, inr, arith, append_assoc, length-append}
use Rattle.std.specs.Prelude.{not, ◌&&◌, ◌||◌, nat_lt, nat_le, if◌then◌else◌, map, reverse, MatchOption, IfOk, IfErr}
use Rattle.std.specs.List.{list_all, list_any, prefix_len}
use Rattle.std.specs.Str.Parse.{digits_value}
use Rattle.std.proofs.lemmas.Bool.{leb-true, leb-false, le-leb, lt-leb}
use Rattle.std.proofs.lemmas.List.{append-nil, map-append}
use Rattle.std.proofs.lemmas.List.Folds.{list_any-append}
use Rattle.ast.specs.declared.refusal.Refusal.{Refusal}
use Rattle.ast.specs.declared.refusal.Refusal.TheVariants.{Memory, Refused}
use Rattle.ast.specs.Answers.{Break, Gives, Says}
use Rattle.ast.specs.declared.rule.Rule.{Rule}
use Rattle.ast.specs.declared.rule.Rule.TheVariants.{StrangeByte, MalformedLabel, LooseContinuation, ManyContinuations, LabelledContinuation, ManyLines, LineBehindEnd}
use Rattle.ast.proofs.Lists.{not_empty, one_longer}
use Rattle.fixed_form.specs.declared.label.LabelField.TheVariants.{Blank, Label, Malformed}
use Rattle.fixed_form.specs.declared.line.Class.{Class}
use Rattle.fixed_form.specs.declared.line.Class.TheVariants as class
use Rattle.fixed_form.specs.Line.{part_of, is_comment, is_readable, is_continuation, is_empty, is_label, label_field, label_of, is_end, is_end_line}
use Rattle.fixed_form.specs.Lines.{Card, cards, continues, Group, Entry, AreGrouped, statement_of, first_broken, checks, AreUnbroken, HaveStatements, BreakFirst, LackEnd, Lines, Broken, lines_in}
use Rattle.fixed_form.specs.Steps.{broken, class_by, longer, continued, take_class, ◌>>=◌, read_on}
use Rattle.fixed_form.proofs.Snoc.{snoc}
use Rattle.fixed_form.proofs.Groups.{cards-comment, cards-more, alone, longer_by, none_grouped, begun_by, continued_by, all_continue, not_all_continue, count_continued, length-text, longer_text, lone_text, one_grouping}
use Rattle.fixed_form.proofs.Longer.{continued-last}
use Rattle.fixed_form.proofs.Splits.{Places, places}

-- ---- one line

-- the first rule that is broken, by the tests on the line
abbrev pub verdict : Bool → Bool → Bool → Bool → Bool → Bool → Bool → Bool → Bool → Option Rule
verdict past comment ended readable continuation empty lone full label = if past then Some ManyLines else if not comment && ended then Some LineBehindEnd else if not comment && not readable then Some StrangeByte else if not comment && (continuation && not empty) then Some LabelledContinuation else if not comment && (continuation && lone) then Some LooseContinuation else if not comment && (continuation && full) then Some ManyContinuations else if not comment && (not continuation && (not empty && not label)) then Some MalformedLabel else None

-- a line's class, by the tests on it
abbrev class_from : Bool → Bool → Bool → Bool → Bool → ℕ → Class
class_from comment readable continuation empty label v = if comment then class.Comment else if not readable then class.Refused StrangeByte else class_by continuation (if empty then Blank else if label then Label v else Malformed)

abbrev stepped : Bool → Class → List Entry → Bool → ℕ → List ℕ → Result (List Entry × Bool) Break
stepped past k es ended n line = if past then broken ManyLines n else take_class k es ended n line

abbrev first_line : Bool → ℕ → ℕ → List ℕ → Entry
first_line label v n line = record { label = if label then Some v else None; line = n; text = part_of line }

-- the statements after a line, where fs are those that a continuation line gives
abbrev grown : Bool → Bool → Bool → ℕ → List Entry → List Entry → ℕ → List ℕ → List Entry
grown comment continuation label v es fs n line = if comment then es else if continuation then fs else es ++ first_line label v n line ∷ []

-- what a continuation line gives
abbrev goes : Bool → Bool → ℕ → List Entry → Result (List Entry) Break
goes lone full n fs = if lone then broken LooseContinuation n else if full then broken ManyContinuations n else Ok fs

-- What a step gives, whatever the tests say.
abbrev Steps : Bool → Bool → Bool → Bool → Bool → Bool → Bool → Bool → Bool → ℕ → List Entry → List Entry → ℕ → List ℕ → Type 0
Steps past comment ended readable continuation empty lone full label v es fs n line =
    MatchOption (verdict past comment ended readable continuation empty lone full label)
    (stepped past (class_from comment readable continuation empty label v) es ended n line ≡ Ok (grown comment continuation label v es fs n line, ended || (not comment && (not continuation && is_end (part_of line)))))
    (λ rule. stepped past (class_from comment readable continuation empty label v) es ended n line ≡ broken rule n)

steps : (past comment ended readable continuation empty lone full label : Bool) → (empty ≡ true → label ≡ false) → (v : ℕ) (es fs : List Entry) (n : ℕ) (line : List ℕ) → continued es n line ≡ goes lone full n fs → Steps past comment ended readable continuation empty lone full label v es fs n line
steps true c e r k p o f l h v es fs n line g = refl
steps false true true r k p o f l h v es fs n line g = refl
steps false true false r k p o f l h v es fs n line g = refl
steps false false true false k p o f l h v es fs n line g = refl
steps false false true true true true o f l h v es fs n line g = refl
steps false false true true true false o f true h v es fs n line g = refl
steps false false true true true false o f false h v es fs n line g = refl
steps false false true true false true o f l h v es fs n line g = refl
steps false false true true false false o f true h v es fs n line g = refl
steps false false true true false false o f false h v es fs n line g = refl
steps false false false false k p o f l h v es fs n line g = refl
steps false false false true true true true f l h v es fs n line g = ap (λ (r : Result (List Entry) Break). r >>= λ fs. Ok (fs, false)) g
steps false false false true true true false true l h v es fs n line g = ap (λ (r : Result (List Entry) Break). r >>= λ fs. Ok (fs, false)) g
steps false false false true true true false false l h v es fs n line g = ap (λ (r : Result (List Entry) Break). r >>= λ fs. Ok (fs, false)) g
steps false false false true true false o f true h v es fs n line g = refl
steps false false false true true false o f false h v es fs n line g = refl
steps false false false true false true o f true h v es fs n line g = absurd (let e : true ≡ false = h refl in cc)
steps false false false true false true o f false h v es fs n line g = refl
steps false false false true false false o f true h v es fs n line g = refl
steps false false false true false false o f false h v es fs n line g = refl

no_label : (field : List ℕ) → is_empty field ≡ true → is_label field ≡ false
no_label [] e = refl
no_label (c ∷ cs) e = absurd (let d : false ≡ true = e in cc)

-- ---- the statements of a front

-- the statements that the cards of a front are grouped into
pub record Stands (front : List (List ℕ)) (es : List Entry) : Type 0 where
  pub groups : List Group
  pub grouped : AreGrouped (cards front) groups
  pub whole : es ≡ map statement_of groups

pub nothing_stands : Stands [] []
nothing_stands = record { groups = []; grouped = none_grouped; whole = refl }

abbrev card_after : List (List ℕ) → List ℕ → Card
card_after front line = record { number = length front + 1; line = line }

stands_comment : (front : List (List ℕ)) (line : List ℕ) (es : List Entry) → Stands front es → is_comment line ≡ true → Stands (front ++ line ∷ []) es
stands_comment front line es s c = record { groups = s.groups; grouped = subst (λ (cs : List Card). AreGrouped cs s.groups) (sym (cards-comment front line c)) s.grouped; whole = s.whole }

initial_statement : (c : Card) → statement_of (alone c) ≡ record { label = label_of c.line; line = c.number; text = part_of c.line }
initial_statement c = ap (λ (t : List ℕ). record { label = label_of c.line; line = c.number; text = t }) (lone_text c)

stands_initial : (front : List (List ℕ)) (line : List ℕ) (es : List Entry) → Stands front es → is_comment line ≡ false → is_continuation line ≡ false → Stands (front ++ line ∷ []) (es ++ first_line (is_label (label_field line)) (digits_value 10 (label_field line)) (length front + 1) line ∷ [])
stands_initial front line es s c k = record {
  groups = s.groups ++ alone (card_after front line) ∷ [];
  grouped = subst (λ (cs : List Card). AreGrouped cs (s.groups ++ alone (card_after front line) ∷ [])) (sym (cards-more front line c)) (begun_by (cards front) s.groups (card_after front line) s.grouped k);
  whole = ap (λ (l : List Entry). l ++ first_line (is_label (label_field line)) (digits_value 10 (label_field line)) (length front + 1) line ∷ []) s.whole
      ∙ ap (λ (e : Entry). map statement_of s.groups ++ e ∷ []) (sym (initial_statement (card_after front line)))
      ∙ sym (map-append statement_of s.groups (alone (card_after front line) ∷ []));
}

abbrev is_lone : List (List ℕ) → Bool
is_lone front = list_all continues (cards front)

abbrev is_full : List (List ℕ) → Bool
is_full front = nat_le 19 (prefix_len continues (reverse (cards front)))

-- what a continuation line makes of the statements of a front
record Continues (front : List (List ℕ)) (line : List ℕ) (es : List Entry) : Type 0 where
  after : List Entry
  gives : continued es (length front + 1) line ≡ goes (is_lone front) (is_full front) (length front + 1) after
  stands : is_comment line ≡ false → is_continuation line ≡ true → is_lone front ≡ false → Stands (front ++ line ∷ []) after

-- a text of 20 lines is that of an initial line and 19 continuation lines
full_text : (g : Group) (n : ℕ) → n ≡ length g.others → nat_le 1320 (length (statement_of g).text) ≡ nat_le 19 n
full_text g n e = by (nat_le 19 n) refl
  where
    by : (b : Bool) → nat_le 19 n ≡ b → nat_le 1320 (length (statement_of g).text) ≡ b
    by true h = le-leb 1320 (length (statement_of g).text) (omega (arith, e, leb-true 19 n h, length-text (g.head ∷ g.others)))
    by false h = lt-leb 1320 (length (statement_of g).text) (omega (arith, e, leb-false 19 n h, length-text (g.head ∷ g.others)))

longer_as : (full : Bool) (e : Entry) (es : List Entry) (n : ℕ) (line : List ℕ) → nat_le 1320 (length e.text) ≡ full → (longer e n line >>= λ f. Ok (es ++ f ∷ [])) ≡ goes false full n (es ++ record e { text = e.text ++ part_of line } ∷ [])
longer_as true e es n line h = rw h refl
longer_as false e es n line h = rw h refl

continues_last : (front : List (List ℕ)) (line : List ℕ) (gs : List Group) (g : Group) (es : List Entry) → AreGrouped (cards front) (gs ++ g ∷ []) → es ≡ map statement_of (gs ++ g ∷ []) → Continues front line es
continues_last front line gs g es a w =
    let n = length front + 1 in
    let c = card_after front line in
    let f : Entry = record (statement_of g) { text = (statement_of g).text ++ part_of line } in
    let fs = map statement_of gs ++ f ∷ [] in
    let full : nat_le 1320 (length (statement_of g).text) ≡ is_full front = full_text g (prefix_len continues (reverse (cards front))) (count_continued (cards front) gs g a) in
    record {
      after = fs;
      gives = ap (λ (l : List Entry). continued l n line) (w ∙ map-append statement_of gs (g ∷ []))
          ∙ continued-last (map statement_of gs) (statement_of g) n line
          ∙ longer_as (is_full front) (statement_of g) (map statement_of gs) n line full
          ∙ ap (λ (lone : Bool). goes lone (is_full front) n fs) (sym (not_all_continue (cards front) gs g a));
      stands = λ d k l. record {
        groups = gs ++ longer_by g c ∷ [];
        grouped = subst (λ (cs : List Card). AreGrouped cs (gs ++ longer_by g c ∷ [])) (sym (cards-more front line d)) (continued_by (cards front) gs g c a k);
        whole = ap (λ (e : Entry). map statement_of gs ++ e ∷ []) (sym (longer_text g c)) ∙ sym (map-append statement_of gs (longer_by g c ∷ []));
      };
    }

continues_from : (front : List (List ℕ)) (line : List ℕ) (es : List Entry) → Stands front es → Continues front line es
continues_from front line es s = by s.groups s.grouped s.whole
  where
    by : (gs : List Group) → AreGrouped (cards front) gs → es ≡ map statement_of gs → Continues front line es
    by [] a w =
        let lone : is_lone front ≡ true = all_continue (cards front) a in
        record {
          after = [];
          gives = ap (λ (l : List Entry). continued l (length front + 1) line) w ∙ ap (λ (b : Bool). goes b (is_full front) (length front + 1) []) (sym lone);
          stands = λ d k l. absurd (let e : true ≡ false = sym lone ∙ l in cc);
        }
    by (g ∷ gs) a w =
        let t = snoc g gs in
        continues_last front line t.front t.last es (subst (λ (l : List Group). AreGrouped (cards front) l) t.cut a) (w ∙ ap (λ (l : List Group). map statement_of l) t.cut)

-- ---- a line after a front

or_none : (a b : Bool) → (a || (b || false)) ≡ (a || b)
or_none true b = refl
or_none false true = refl
or_none false false = refl

pub ended_after : (front : List (List ℕ)) (line : List ℕ) → list_any is_end_line (front ++ line ∷ []) ≡ (list_any is_end_line front || is_end_line line)
ended_after front line = list_any-append is_end_line front (line ∷ []) ∙ or_none (list_any is_end_line front) (is_end_line line)

abbrev step_of : List (List ℕ) → List ℕ → List Entry → Result (List Entry × Bool) Break
step_of front line es = stepped (nat_lt 65535 (length front + 1)) (class_from (is_comment line) (is_readable line) (is_continuation line) (is_empty (label_field line)) (is_label (label_field line)) (digits_value 10 (label_field line))) es (list_any is_end_line front) (length front + 1) line

-- the statements after one more line
record Taken (front : List (List ℕ)) (line : List ℕ) (es : List Entry) : Type 0 where
  after : List Entry
  gives : step_of front line es ≡ Ok (after, list_any is_end_line (front ++ line ∷ []))
  stands : Stands (front ++ line ∷ []) after

-- What reading a line after a front does.
abbrev Took : List (List ℕ) → List ℕ → List Entry → Option Rule → Type 0
Took front line es o = MatchOption o (Taken front line es) (λ rule. step_of front line es ≡ broken rule (length front + 1))

not_lone : (past comment ended readable continuation empty lone full label : Bool) → verdict past comment ended readable continuation empty lone full label ≡ None → comment ≡ false → continuation ≡ true → lone ≡ false
not_lone p c e r k m false f l h u v = refl
not_lone true c e r k m true f l h u v = absurd (let d : Some ManyLines ≡ None = h in cc)
not_lone false true e r k m true f l h u v = absurd (let d : true ≡ false = u in cc)
not_lone false false true r k m true f l h u v = absurd (let d : Some LineBehindEnd ≡ None = h in cc)
not_lone false false false false k m true f l h u v = absurd (let d : Some StrangeByte ≡ None = h in cc)
not_lone false false false true false m true f l h u v = absurd (let d : false ≡ true = v in cc)
not_lone false false false true true false true f l h u v = absurd (let d : Some LabelledContinuation ≡ None = h in cc)
not_lone false false false true true true true f l h u v = absurd (let d : Some LooseContinuation ≡ None = h in cc)

stands_after : (front : List (List ℕ)) (line : List ℕ) (es : List Entry) → Stands front es → (k : Continues front line es) → (comment continuation : Bool) → is_comment line ≡ comment → is_continuation line ≡ continuation → (comment ≡ false → continuation ≡ true → is_lone front ≡ false) → Stands (front ++ line ∷ []) (grown comment continuation (is_label (label_field line)) (digits_value 10 (label_field line)) es k.after (length front + 1) line)
stands_after front line es s k true b c d h = stands_comment front line es s c
stands_after front line es s k false true c d h = k.stands c d (h refl refl)
stands_after front line es s k false false c d h = stands_initial front line es s c d

took : (front : List (List ℕ)) (line : List ℕ) (es : List Entry) → Stands front es → Took front line es (first_broken checks front line)
took front line es s = by (first_broken checks front line) refl (steps (nat_lt 65535 (length front + 1)) (is_comment line) (list_any is_end_line front) (is_readable line) (is_continuation line) (is_empty (label_field line)) (is_lone front) (is_full front) (is_label (label_field line)) (no_label (label_field line)) (digits_value 10 (label_field line)) es k.after (length front + 1) line k.gives)
  where
    k : Continues front line es
    k = continues_from front line es s

    after : List Entry
    after = grown (is_comment line) (is_continuation line) (is_label (label_field line)) (digits_value 10 (label_field line)) es k.after (length front + 1) line

    by : (o : Option Rule) → first_broken checks front line ≡ o → MatchOption o (step_of front line es ≡ Ok (after, list_any is_end_line front || is_end_line line)) (λ rule. step_of front line es ≡ broken rule (length front + 1)) → Took front line es o
    by None h g = record {
      after = after;
      gives = g ∙ ap (λ (b : Bool). Ok (after, b)) (sym (ended_after front line));
      stands = stands_after front line es s k (is_comment line) (is_continuation line) refl refl (not_lone (nat_lt 65535 (length front + 1)) (is_comment line) (list_any is_end_line front) (is_readable line) (is_continuation line) (is_empty (label_field line)) (is_lone front) (is_full front) (is_label (label_field line)) h);
    }
    by (Some rule) h g = g

-- ---- all lines

unbroken_none : AreUnbroken []
unbroken_none = record { each = λ front line back e. absurd (not_empty front line back e) }

not_longer : (front : List (List ℕ)) (line : List ℕ) (more back : List (List ℕ)) (x : List ℕ) → front ++ line ∷ [] ≡ (front ++ line ∷ more) ++ x ∷ back → ⊥
not_longer front line more back x e = omega (arith, length-append front (line ∷ []), length-append (front ++ line ∷ more) (x ∷ back), length-append front (line ∷ more), ap length e)

unbroken_more : (front : List (List ℕ)) (line : List ℕ) → AreUnbroken front → first_broken checks front line ≡ None → AreUnbroken (front ++ line ∷ [])
unbroken_more front line u h = record { each = λ a x b e. at a x b e (places front [] a b line x e) }
  where
    at : (a : List (List ℕ)) (x : List ℕ) (b : List (List ℕ)) → front ++ line ∷ [] ≡ a ++ x ∷ b → Places front a line x → first_broken checks a x ≡ None
    at a x b e (inl s) = subst (λ (q : List (List ℕ)). first_broken checks q x ≡ None) s.fronts (subst (λ (q : List ℕ). first_broken checks front q ≡ None) s.items h)
    at a x b e (inr (inl s)) = absurd (not_longer front line s.between b x (subst (λ (q : List (List ℕ)). front ++ line ∷ [] ≡ q ++ x ∷ b) s.longer e))
    at a x b e (inr (inr s)) = u.each a x s.between s.longer

abbrev BreakAt : List (List ℕ) → Rule → ℕ → Type 0
BreakAt lines n l = BreakFirst lines n l ⊎ LackEnd lines n l

-- what reading answers, in the words of the relations
abbrev pub Answers : List (List ℕ) → Result (List Entry) Break → Type 0
Answers lines (Ok es) = HaveStatements lines es
Answers lines (Err b) = BreakAt lines b.rule b.line

at_end : (lines : List (List ℕ)) (es : List Entry) → AreUnbroken lines → Stands lines es → (ended : Bool) → list_any is_end_line lines ≡ ended → Answers lines (read_on es (length lines) ended [])
at_end lines es u s true e = record { unbroken = u; ended = e; groups = s.groups; grouped = s.grouped; whole = s.whole }
at_end lines es u s false e = inr (record { unbroken = u; endless = e; lack = refl; place = refl })

abbrev after_step : ℕ → List (List ℕ) → List Entry × Bool → Result (List Entry) Break
after_step n lines s = read_on s.0 n s.1 lines

pub reads : (front back : List (List ℕ)) (es : List Entry) → AreUnbroken front → Stands front es → Answers (front ++ back) (read_on es (length front) (list_any is_end_line front) back)
reads front [] es u s = subst (λ (ls : List (List ℕ)). Answers ls (read_on es (length front) (list_any is_end_line front) [])) (sym (append-nil front)) (at_end front es u s (list_any is_end_line front) refl)
reads front (line ∷ lines) es u s = next (λ fs v t. reads (front ++ line ∷ []) lines fs v t) (first_broken checks front line) refl (took front line es s)
  where
    next : ((fs : List Entry) → AreUnbroken (front ++ line ∷ []) → Stands (front ++ line ∷ []) fs → Answers ((front ++ line ∷ []) ++ lines) (read_on fs (length (front ++ line ∷ [])) (list_any is_end_line (front ++ line ∷ [])) lines)) → (o : Option Rule) → first_broken checks front line ≡ o → Took front line es o → Answers (front ++ line ∷ lines) (step_of front line es >>= after_step (length front + 1) lines)
    next more None e t =
        let r = more t.after (unbroken_more front line u e) t.stands in
        let r2 = subst (λ (n : ℕ). Answers ((front ++ line ∷ []) ++ lines) (read_on t.after n (list_any is_end_line (front ++ line ∷ [])) lines)) (one_longer front line) r in
        let r3 = subst (λ (ls : List (List ℕ)). Answers ls (read_on t.after (length front + 1) (list_any is_end_line (front ++ line ∷ [])) lines)) (append_assoc front (line ∷ []) lines) r2 in
        subst (λ (q : Result (List Entry × Bool) Break). Answers (front ++ line ∷ lines) (q >>= after_step (length front + 1) lines)) (sym t.gives) r3
    next more (Some rule) e t = subst (λ (q : Result (List Entry × Bool) Break). Answers (front ++ line ∷ lines) (q >>= after_step (length front + 1) lines)) (sym t) (inl (record { front = front; line = line; back = lines; cut = refl; unbroken = u; broken = e; place = refl }))

-- ---- one answer

-- One text has one list of statements.
pub one_list : (lines : List (List ℕ)) (es fs : List Entry) → HaveStatements lines es → HaveStatements lines fs → es ≡ fs
one_list lines es fs a b = a.whole ∙ ap (λ (gs : List Group). map statement_of gs) (one_grouping (cards lines) a.groups b.groups a.grouped b.grouped) ∙ sym b.whole

unbroken_breaks : (lines : List (List ℕ)) (n : Rule) (l : ℕ) → AreUnbroken lines → BreakFirst lines n l → ⊥
unbroken_breaks lines n l u b = let e : Some n ≡ None = sym b.broken ∙ u.each b.front b.line b.back b.cut in cc

-- A text that has statements breaks no rule.
pub not_both : (lines : List (List ℕ)) (es : List Entry) (n : Rule) (l : ℕ) → HaveStatements lines es → BreakAt lines n l → ⊥
not_both lines es n l a (inl b) = unbroken_breaks lines n l a.unbroken b
not_both lines es n l a (inr b) = let e : true ≡ false = sym a.ended ∙ b.endless in cc

breaks_apart : (front : List (List ℕ)) (line : List ℕ) (whole more : List (List ℕ)) (n : Rule) → AreUnbroken whole → whole ≡ front ++ line ∷ more → first_broken checks front line ≡ Some n → ⊥
breaks_apart front line whole more n u e h = let d : Some n ≡ None = sym h ∙ u.each front line more e in cc

one_place : (lines : List (List ℕ)) (n : Rule) (l : ℕ) (m : Rule) (k : ℕ) → (a : BreakFirst lines n l) (b : BreakFirst lines m k) → Places a.front b.front a.line b.line → (n ≡ m) × (l ≡ k)
one_place lines n l m k a b (inl s) =
    let e : Some n ≡ Some m = sym a.broken ∙ ap (λ (q : List (List ℕ)). first_broken checks q a.line) s.fronts ∙ ap (λ (q : List ℕ). first_broken checks b.front q) s.items ∙ b.broken in
    (cc, a.place ∙ ap (λ (q : List (List ℕ)). length q + 1) s.fronts ∙ sym b.place)
one_place lines n l m k a b (inr (inl s)) = absurd (breaks_apart a.front a.line b.front s.between n b.unbroken s.longer a.broken)
one_place lines n l m k a b (inr (inr s)) = absurd (breaks_apart b.front b.line a.front s.between m a.unbroken s.longer b.broken)

-- One text breaks one rule first, at one line.
pub one_refusal : (lines : List (List ℕ)) (n : Rule) (l : ℕ) (m : Rule) (k : ℕ) → BreakAt lines n l → BreakAt lines m k → (n ≡ m) × (l ≡ k)
one_refusal lines n l m k (inl a) (inl b) = one_place lines n l m k a b (places a.front a.back b.front b.back a.line b.line (sym a.cut ∙ b.cut))
one_refusal lines n l m k (inl a) (inr b) = absurd (unbroken_breaks lines n l b.unbroken a)
one_refusal lines n l m k (inr a) (inl b) = absurd (unbroken_breaks lines m k a.unbroken b)
one_refusal lines n l m k (inr a) (inr b) = (a.lack ∙ sym b.lack, a.place ∙ sym b.place)

-- ---- the answers of `statements`

abbrev reading : List ℕ → Result (List Entry) Break
reading text = read_on [] 0 false (lines_in text)

read_as : (text : List ℕ) (r : Result (List Entry) Break) → reading text ≡ r → Answers (lines_in text) r
read_as text r e = subst (λ (q : Result (List Entry) Break). Answers (lines_in text) q) e (reads [] (lines_in text) [] unbroken_none nothing_stands)

reads_list : (text : List ℕ) (es : List Entry) → Lines text es → reading text ≡ Ok es
reads_list text es h = by (reading text) refl
  where
    by : (r : Result (List Entry) Break) → reading text ≡ r → reading text ≡ Ok es
    by (Ok fs) e = e ∙ ap (λ (l : List Entry). Ok l) (one_list (lines_in text) fs es (read_as text (Ok fs) e) h)
    by (Err b) e = absurd (not_both (lines_in text) es b.rule b.line h (read_as text (Err b) e))

reads_break : (text : List ℕ) (n : Rule) (l : ℕ) → Broken text n l → reading text ≡ broken n l
reads_break text n l h = by (reading text) refl
  where
    by : (r : Result (List Entry) Break) → reading text ≡ r → reading text ≡ broken n l
    by (Ok es) e = absurd (not_both (lines_in text) es n l (read_as text (Ok es) e) h)
    by (Err b) e =
        let s = one_refusal (lines_in text) b.rule b.line n l (read_as text (Err b) e) h in
        e ∙ ap (λ (k : Rule). broken k b.line) s.0 ∙ ap (λ (k : ℕ). broken n k) s.1

abbrev Read : {X : Type 0} → (X → List Entry) → Result X Refusal → List ℕ → Type 0
Read view result text = Gives view result (reading text)

pub found_of : {X : Type 0} (view : X → List Entry) (r : Result X Refusal) (text : List ℕ) → Read view r text → IfOk r (λ x. Lines text (view x))
found_of view (Ok x) text g = read_as text (Ok (view x)) g
found_of view (Err e) text g = tt

pub refused_of : {X : Type 0} (view : X → List Entry) (r : Result X Refusal) (text : List ℕ) → Read view r text → IfErr r (Says (Broken text))
refused_of view (Ok x) text g = tt
refused_of view (Err Memory) text g = tt
refused_of view (Err (Refused n l)) text g = read_as text (broken n l) g

pub only_of : {X : Type 0} (view : X → List Entry) (r : Result X Refusal) (text : List ℕ) → Read view r text → (es : List Entry) → Lines text es → Gives view r (Ok es)
only_of view r text g es h = subst (λ (q : Result (List Entry) Break). Gives view r q) (reads_list text es h) g

pub exactly_of : {X : Type 0} (view : X → List Entry) (r : Result X Refusal) (text : List ℕ) → Read view r text → (n : Rule) (l : ℕ) → Broken text n l → Gives view r (Err (record { rule = n; line = l }))
exactly_of view r text g n l h = subst (λ (q : Result (List Entry) Break). Gives view r q) (reads_break text n l h) g
