-- What the statements of a text are like: the last one alone is END, and they stand on later and
-- later lines.
use Rattle.std.proofs.Common.{◌≡◌, ℕ, zero, suc, ◌+◌, ◌<◌, ◌≤◌, Bool, true, false, List, [], ◌∷◌, ◌++◌, length, take, Some, None, Result, Ok, Err, refl, sym, ap, subst, ◌∙◌, arith, append_assoc}
use Rattle.std.specs.Prelude.{not, ◌&&◌, ◌||◌, nat_lt, nat_le, map, reverse, IfOk}
use Rattle.std.specs.List.{list_all, list_any, flat_map, prefix_len}
use Rattle.std.proofs.lemmas.Bool.{and_parts, or_parts}
use Rattle.std.proofs.lemmas.List.{map-append}
use Rattle.std.proofs.lemmas.List.Folds.{list_any-append}
use Rattle.ast.specs.declared.refusal.Refusal.{Refusal}
use Rattle.ast.specs.declared.rule.Rule.TheVariants.{ManyLines, LineBehindEnd}
use Rattle.fixed_form.specs.Line.{part_of, is_comment, is_readable, is_continuation, is_empty, is_label, label_field, is_end, is_end_line}
use Rattle.fixed_form.specs.Lines.{Card, cards_from, cards, continues, Group, cards_of, is_statement, AreGrouped, Entry, statement_of, AreUnbroken, HaveStatements, AreEnded, is_end_statement, AreRising, AreShaped, Lines, lines_in}
use Rattle.fixed_form.proofs.Facts.{width_of_part}
use Rattle.fixed_form.proofs.Snoc.{snoc}
use Rattle.fixed_form.proofs.Groups.{card_if, cards_from-append, alone, last_cards, last_statement, lone_text}
use Rattle.fixed_form.proofs.Laws.{ended_after, verdict}
use Rattle.fixed_form.proofs.Splits.{heads}

-- ---- the END line

-- the first element that passes a test
record First {X : Type 0} (p : X → Bool) (xs : List X) : Type 0 where
  front : List X
  item : X
  back : List X
  cut : xs ≡ front ++ item ∷ back
  passes : p item ≡ true
  none : list_any p front ≡ false

first : {X : Type 0} (p : X → Bool) (xs : List X) → list_any p xs ≡ true → First p xs
first p [] e = absurd (let d : false ≡ true = e in cc)
first {X} p (x ∷ xs) e = by (p x) refl (λ d. first p xs d)
  where
    by : (b : Bool) → p x ≡ b → (list_any p xs ≡ true → First p xs) → First p (x ∷ xs)
    by true h more = record { front = []; item = x; back = xs; cut = refl; passes = h; none = refl }
    by false h more =
        let f = more (subst (λ (b : Bool). (b || list_any p xs) ≡ true) h e) in
        record { front = x ∷ f.front; item = f.item; back = f.back; cut = ap (λ (l : List X). x ∷ l) f.cut; passes = f.passes; none = subst (λ (b : Bool). (b || list_any p f.front) ≡ false) (sym h) f.none }

comment_only : (past comment ended readable continuation empty lone full label : Bool) → ended ≡ true → verdict past comment ended readable continuation empty lone full label ≡ None → comment ≡ true
comment_only true c e r k m o f l t h = absurd (let d : Some ManyLines ≡ None = h in cc)
comment_only false true e r k m o f l t h = refl
comment_only false false true r k m o f l t h = absurd (let d : Some LineBehindEnd ≡ None = h in cc)
comment_only false false false r k m o f l t h = absurd (let d : false ≡ true = t in cc)

comments_after : (front back : List (List ℕ)) (n : ℕ) → AreUnbroken (front ++ back) → list_any is_end_line front ≡ true → cards_from n back ≡ []
comments_after front [] n u e = refl
comments_after front (line ∷ back) n u e =
    let c : is_comment line ≡ true = comment_only (nat_lt 65535 (length front + 1)) (is_comment line) (list_any is_end_line front) (is_readable line) (is_continuation line) (is_empty (label_field line)) (list_all continues (cards front)) (nat_le 19 (prefix_len continues (reverse (cards front)))) (is_label (label_field line)) e (u.each front line back refl) in
    let v : AreUnbroken ((front ++ line ∷ []) ++ back) = subst (λ (ls : List (List ℕ)). AreUnbroken ls) (sym (append_assoc front (line ∷ []) back)) u in
    let d : list_any is_end_line (front ++ line ∷ []) ≡ true = ended_after front line ∙ ap (λ (b : Bool). b || is_end_line line) e in
    ap (λ (b : Bool). card_if b (record { number = n; line = line }) (cards_from (n + 1) back)) c ∙ comments_after (front ++ line ∷ []) back (n + 1) v d

end_line : (comment continuation text : Bool) → (not comment && (not continuation && text)) ≡ true → (comment ≡ false) × ((continuation ≡ false) × (text ≡ true))
end_line true k t e = absurd (let d : false ≡ true = e in cc)
end_line false true t e = absurd (let d : false ≡ true = e in cc)
end_line false false t e = (refl, (refl, e))

-- ---- the last card is a statement of its own

record IsSplit (cs : List Card) (c : Card) (gs : List Group) : Type 0 where
  front : List Group
  cut : gs ≡ front ++ alone c ∷ []
  whole : cs ≡ flat_map cards_of front
  each : list_all is_statement front ≡ true

record AreSame (xs ys : List Card) (x y : Card) : Type 0 where
  fronts : xs ≡ ys
  lasts : x ≡ y

last_two : (x y : Card) (d : Card) (ys : List Card) → x ∷ [] ≡ d ∷ (ys ++ y ∷ []) → ⊥
last_two x y d [] e = let f : x ∷ [] ≡ d ∷ y ∷ [] = e in cc
last_two x y d (b ∷ ys) e = let f : x ∷ [] ≡ d ∷ b ∷ (ys ++ y ∷ []) = e in cc

same_last : (xs ys : List Card) (x y : Card) → xs ++ x ∷ [] ≡ ys ++ y ∷ [] → AreSame xs ys x y
same_last [] [] x y e = record { fronts = refl; lasts = (heads x y [] [] e).0 }
same_last [] (d ∷ ys) x y e = absurd (last_two x y d ys e)
same_last (c ∷ xs) [] x y e = absurd (last_two y x c xs (sym e))
same_last (c ∷ xs) (d ∷ ys) x y e =
    let h = heads c d (xs ++ x ∷ []) (ys ++ y ∷ []) e in
    let s = same_last xs ys x y h.1 in
    record { fronts = ap (λ (l : List Card). c ∷ l) s.fronts ∙ ap (λ (b : Card). b ∷ ys) h.0; lasts = s.lasts }

no_cards : (cs : List Card) (c : Card) → cs ++ c ∷ [] ≡ [] → ⊥
no_cards [] c e = let f : c ∷ [] ≡ [] = e in cc
no_cards (b ∷ cs) c e = let f : b ∷ (cs ++ c ∷ []) ≡ [] = e in cc

last_alone : (cs : List Card) (c : Card) (gs : List Group) (h : Card) (others : List Card) → continues c ≡ false → list_all continues others ≡ true → list_all is_statement gs ≡ true → cs ++ c ∷ [] ≡ flat_map cards_of gs ++ h ∷ others → IsSplit cs c (gs ++ record { head = h; others = others } ∷ [])
last_alone cs c gs h [] k l m e =
    let s = same_last cs (flat_map cards_of gs) c h e in
    record { front = gs; cut = ap (λ (d : Card). gs ++ alone d ∷ []) (sym s.lasts); whole = s.fronts; each = m }
last_alone cs c gs h (d ∷ ds) k l m e =
    let t = snoc d ds in
    let a : list_all continues (t.front ++ t.last ∷ []) ≡ true = subst (λ (x : List Card). list_all continues x ≡ true) t.cut l in
    let w : cs ++ c ∷ [] ≡ (flat_map cards_of gs ++ h ∷ t.front) ++ t.last ∷ [] = e ∙ ap (λ (x : List Card). flat_map cards_of gs ++ h ∷ x) t.cut ∙ sym (append_assoc (flat_map cards_of gs) (h ∷ t.front) (t.last ∷ [])) in
    let s = same_last cs (flat_map cards_of gs ++ h ∷ t.front) c t.last w in
    absurd (never (ends_continued t.front t.last a) (sym (ap (λ (x : Card). continues x) s.lasts) ∙ k))
  where
    never : {b : Bool} → b ≡ true → b ≡ false → ⊥
    never x y = let f : true ≡ false = sym x ∙ y in cc

    ends_continued : (xs : List Card) (x : Card) → list_all continues (xs ++ x ∷ []) ≡ true → continues x ≡ true
    ends_continued [] x q = (and_parts (continues x) true q).0
    ends_continued (b ∷ xs) x q = ends_continued xs x (and_parts (continues b) (list_all continues (xs ++ x ∷ [])) q).1

split_last : (cs : List Card) (c : Card) (gs : List Group) → continues c ≡ false → AreGrouped (cs ++ c ∷ []) gs → IsSplit cs c gs
split_last cs c [] k a = absurd (no_cards cs c a.whole)
split_last cs c (g ∷ gs) k a =
    let t = snoc g gs in
    let l = last_statement t.front t.last (subst (λ (x : List Group). list_all is_statement x ≡ true) t.cut a.each) in
    let w : cs ++ c ∷ [] ≡ flat_map cards_of t.front ++ cards_of t.last = a.whole ∙ ap (λ (x : List Group). flat_map cards_of x) t.cut ∙ last_cards t.front t.last in
    subst (λ (x : List Group). IsSplit cs c x) (sym t.cut) (last_alone cs c t.front t.last.head t.last.others k l.others l.before w)

-- ---- no statement before is END

abbrev begins_with_end : Card → Bool
begins_with_end c = not (continues c) && is_end (part_of c.line)

no_end_card : (comment continuation text : Bool) (c : Card) (cs : List Card) → begins_with_end c ≡ (not continuation && text) → (not comment && (not continuation && text)) ≡ false → list_any begins_with_end cs ≡ false → list_any begins_with_end (card_if comment c cs) ≡ false
no_end_card true k t c cs h e more = more
no_end_card false k t c cs h e more = ap (λ (b : Bool). b || list_any begins_with_end cs) (h ∙ e) ∙ more

no_end_cards : (n : ℕ) (lines : List (List ℕ)) → list_any is_end_line lines ≡ false → list_any begins_with_end (cards_from n lines) ≡ false
no_end_cards n [] e = refl
no_end_cards n (line ∷ lines) e =
    let s = or_parts (is_end_line line) (list_any is_end_line lines) e in
    no_end_card (is_comment line) (is_continuation line) (is_end (part_of line)) (record { number = n; line = line }) (cards_from (n + 1) lines) refl s.0 (no_end_cards (n + 1) lines s.1)

taken_front : (n : ℕ) (cs ds : List ℕ) → length cs ≡ n → take n (cs ++ ds) ≡ cs
taken_front zero [] ds e = refl
taken_front (suc n) [] ds e = absurd (omega (arith, e))
taken_front zero (c ∷ cs) ds e = absurd (omega (arith, e))
taken_front (suc n) (c ∷ cs) ds e = ap (λ (l : List ℕ). c ∷ l) (taken_front n cs ds (omega (arith, e)))

first_columns : (g : Group) → is_end_statement (statement_of g) ≡ is_end (part_of g.head.line)
first_columns g = ap (λ (t : List ℕ). is_end t) (taken_front 66 (part_of g.head.line) (flat_map (λ c. part_of c.line) g.others) (width_of_part g.head.line))

not_end : (continuation text : Bool) → not continuation ≡ true → (not continuation && text) ≡ false → text ≡ false
not_end false t h e = e
not_end true t h e = absurd (let d : false ≡ true = h in cc)

no_end_statement : (gs : List Group) → list_all is_statement gs ≡ true → list_any begins_with_end (flat_map cards_of gs) ≡ false → list_any is_end_statement (map statement_of gs) ≡ false
no_end_statement [] h e = refl
no_end_statement (g ∷ gs) h e =
    let a = and_parts (is_statement g) (list_all is_statement gs) h in
    let b = and_parts (not (continues g.head)) (list_all continues g.others) a.0 in
    let s = or_parts (begins_with_end g.head) (list_any begins_with_end (g.others ++ flat_map cards_of gs)) e in
    let o = or_parts (list_any begins_with_end g.others) (list_any begins_with_end (flat_map cards_of gs)) (sym (list_any-append begins_with_end g.others (flat_map cards_of gs)) ∙ s.1) in
    ap (λ (b : Bool). b || list_any is_end_statement (map statement_of gs)) (first_columns g ∙ not_end (continues g.head) (is_end (part_of g.head.line)) b.0 s.0) ∙ no_end_statement gs a.1 o.1

ended_at : (lines : List (List ℕ)) (es : List Entry) → HaveStatements lines es → First is_end_line lines → AreEnded es
ended_at lines es h f =
    let u : AreUnbroken (f.front ++ f.item ∷ f.back) = subst (λ (ls : List (List ℕ)). AreUnbroken ls) f.cut h.unbroken in
    let v : AreUnbroken ((f.front ++ f.item ∷ []) ++ f.back) = subst (λ (ls : List (List ℕ)). AreUnbroken ls) (sym (append_assoc f.front (f.item ∷ []) f.back)) u in
    let t = end_line (is_comment f.item) (is_continuation f.item) (is_end (part_of f.item)) f.passes in
    let d : list_any is_end_line (f.front ++ f.item ∷ []) ≡ true = list_any-append is_end_line f.front (f.item ∷ []) ∙ ap (λ (b : Bool). b || (is_end_line f.item || false)) f.none ∙ ap (λ (b : Bool). b || false) f.passes in
    let n = 1 + length f.front in
    let c : Card = record { number = n; line = f.item } in
    let tail : cards_from n (f.item ∷ f.back) ≡ c ∷ [] =
    ap (λ (b : Bool). card_if b c (cards_from (n + 1) f.back)) t.0
    ∙ ap (λ (cs : List Card). c ∷ cs) (comments_after (f.front ++ f.item ∷ []) f.back (n + 1) v d) in
    let whole : cards lines ≡ cards f.front ++ c ∷ [] =
    ap (λ (ls : List (List ℕ)). cards ls) f.cut ∙ cards_from-append 1 f.front (f.item ∷ f.back) ∙ ap (λ (cs : List Card). cards f.front ++ cs) tail in
    let s = split_last (cards f.front) c h.groups t.1.0 (subst (λ (cs : List Card). AreGrouped cs h.groups) whole h.grouped) in
    let text : (statement_of (alone c)).text ≡ part_of f.item = lone_text c in
    record {
      front = map statement_of s.front;
      last = statement_of (alone c);
      cut = h.whole ∙ ap (λ (gs : List Group). map statement_of gs) s.cut ∙ map-append statement_of s.front (alone c ∷ []);
      end = ap (λ (cs : List ℕ). is_end cs) text ∙ t.1.1;
      width = ap (λ (cs : List ℕ). length cs) text ∙ width_of_part f.item;
      others = no_end_statement s.front s.each (subst (λ (cs : List Card). list_any begins_with_end cs ≡ false) s.whole (no_end_cards 1 f.front f.none));
    }

-- ---- lines rise

abbrev Rise : ℕ → List Card → Type 0
Rise n [] = Unit {0}
Rise n (c ∷ cs) = (n < c.number) × Rise c.number cs

rise_one : (comment : Bool) (m n : ℕ) (line : List ℕ) (cs : List Card) → m < n → ((k : ℕ) → k < n + 1 → Rise k cs) → Rise m (card_if comment (record { number = n; line = line }) cs)
rise_one true m n line cs h more = more m (omega arith)
rise_one false m n line cs h more = (h, more n (omega arith))

cards_rise : (lines : List (List ℕ)) (m n : ℕ) → m < n → Rise m (cards_from n lines)
cards_rise [] m n h = tt
cards_rise (line ∷ lines) m n h = rise_one (is_comment line) m n line (cards_from (n + 1) lines) h (λ k l. cards_rise lines k (n + 1) l)

rise_from_less : (m n : ℕ) (cs : List Card) → m ≤ n → Rise n cs → Rise m cs
rise_from_less m n [] h r = tt
rise_from_less m n (c ∷ cs) h r = (omega (arith, h, r.0), r.1)

rise_past : (n : ℕ) (cs ds : List Card) → Rise n (cs ++ ds) → Rise n ds
rise_past n [] ds r = r
rise_past n (c ∷ cs) ds r = rise_from_less n c.number ds (omega (arith, r.0)) (rise_past c.number cs ds r.1)

statements_rise : (n : ℕ) (gs : List Group) → Rise n (flat_map cards_of gs) → AreRising n (map statement_of gs)
statements_rise n [] r = tt
statements_rise n (g ∷ gs) r = (r.0, statements_rise g.head.number gs (rise_past g.head.number g.others (flat_map cards_of gs) r.1))

rising : (lines : List (List ℕ)) (es : List Entry) → HaveStatements lines es → AreRising 0 es
rising lines es h = subst (λ (l : List Entry). AreRising 0 l) (sym h.whole) (statements_rise 0 h.groups (subst (λ (cs : List Card). Rise 0 cs) h.grouped.whole (cards_rise lines 0 1 (omega arith))))

pub shaped : (text : List ℕ) (es : List Entry) → Lines text es → AreShaped es
shaped text es h = record { ended = ended_at (lines_in text) es h (first is_end_line (lines_in text) h.ended); rising = rising (lines_in text) es h }

pub shaped_of : {X : Type 0} (view : X → List Entry) (r : Result X Refusal) (text : List ℕ) → IfOk r (λ x. Lines text (view x)) → IfOk r (λ x. AreShaped (view x))
shaped_of view (Ok x) text h = shaped text (view x) h
shaped_of view (Err e) text h = tt
