-- The statements that cards are grouped into: one more card, and that there is one grouping.
use Rattle.std.proofs.Common.{◌≡◌, ℕ, ◌+◌, ◌*◌, Bool, true, false, List, [], ◌∷◌, ◌++◌, length, refl, sym, ap, subst, ◌∙◌, arith, append_assoc, length-append}
use Rattle.std.specs.Prelude.{not, ◌&&◌, if◌then◌else◌, reverse}
use Rattle.std.specs.List.{list_all, flat_map, prefix_len}
use Rattle.std.proofs.lemmas.Bool.{and_parts, not-true, and_from, not_from_false}
use Rattle.std.proofs.lemmas.List.{append-nil, reverse-append, length-reverse}
use Rattle.std.proofs.lemmas.List.Folds.{list_all-append}
use Rattle.std.proofs.lemmas.List.Concat.{flat_map-append}
use Rattle.fixed_form.specs.Line.{is_comment, part_of}
use Rattle.fixed_form.specs.Lines.{Card, cards_from, cards, continues, Group, cards_of, is_statement, AreGrouped, statement_of}
use Rattle.fixed_form.proofs.Facts.{width_of_part}
use Rattle.fixed_form.proofs.Splits.{heads}

-- ---- lists

list_all-reverse : {X : Type 0} (p : X → Bool) (xs : List X) → list_all p xs ≡ true → list_all p (reverse xs) ≡ true
list_all-reverse p [] h = refl
list_all-reverse {X} p (x ∷ xs) h =
    let b = and_parts (p x) (list_all p xs) h in
    ap (λ (l : List X). list_all p l) (reverse-append (x ∷ []) xs)
    ∙ list_all-append p (reverse xs) (x ∷ [])
    ∙ and_from (list_all p (reverse xs)) (p x && true) (list_all-reverse p xs b.1) (and_from (p x) true b.0 refl)

prefix_len-all : {X : Type 0} (p : X → Bool) (xs : List X) (y : X) (ys : List X) → list_all p xs ≡ true → p y ≡ false → prefix_len p (xs ++ y ∷ ys) ≡ length xs
prefix_len-all p [] y ys h k = rw k refl
prefix_len-all p (x ∷ xs) y ys h k =
    let b = and_parts (p x) (list_all p xs) h in
    rw b.0 (omega (arith, prefix_len-all p xs y ys b.1 k))

-- ---- the cards of lines

abbrev pub card_if : Bool → Card → List Card → List Card
card_if comment c cs = if comment then cs else c ∷ cs

card_if-append : (comment : Bool) (c : Card) (cs ds : List Card) → card_if comment c cs ++ ds ≡ card_if comment c (cs ++ ds)
card_if-append true c cs ds = refl
card_if-append false c cs ds = refl

abbrev card_of : ℕ → List ℕ → Card
card_of n line = record { number = n; line = line }

pub cards_from-append : (n : ℕ) (xs ys : List (List ℕ)) → cards_from n (xs ++ ys) ≡ cards_from n xs ++ cards_from (n + length xs) ys
cards_from-append n [] ys = ap (λ (k : ℕ). cards_from k ys) (omega arith)
cards_from-append n (x ∷ xs) ys =
    ap (λ (cs : List Card). card_if (is_comment x) (card_of n x) cs) (cards_from-append (n + 1) xs ys ∙ ap (λ (k : ℕ). cards_from (n + 1) xs ++ cards_from k ys) (omega arith))
    ∙ sym (card_if-append (is_comment x) (card_of n x) (cards_from (n + 1) xs) (cards_from (n + length (x ∷ xs)) ys))

pub cards-append : (front : List (List ℕ)) (line : List ℕ) → cards (front ++ line ∷ []) ≡ cards front ++ card_if (is_comment line) (card_of (length front + 1) line) []
cards-append front line =
    cards_from-append 1 front (line ∷ [])
    ∙ ap (λ (k : ℕ). cards front ++ card_if (is_comment line) (card_of k line) []) (omega arith)

pub cards-comment : (front : List (List ℕ)) (line : List ℕ) → is_comment line ≡ true → cards (front ++ line ∷ []) ≡ cards front
cards-comment front line h =
    cards-append front line ∙ ap (λ (b : Bool). cards front ++ card_if b (card_of (length front + 1) line) []) h ∙ append-nil (cards front)

pub cards-more : (front : List (List ℕ)) (line : List ℕ) → is_comment line ≡ false → cards (front ++ line ∷ []) ≡ cards front ++ card_of (length front + 1) line ∷ []
cards-more front line h =
    cards-append front line ∙ ap (λ (b : Bool). cards front ++ card_if b (card_of (length front + 1) line) []) h

-- ---- one more card

abbrev pub alone : Card → Group
alone c = record { head = c; others = [] }

abbrev pub longer_by : Group → Card → Group
longer_by g c = record { head = g.head; others = g.others ++ c ∷ [] }

pub none_grouped : AreGrouped [] []
none_grouped = record { whole = refl; each = refl }

pub begun_by : (cs : List Card) (gs : List Group) (c : Card) → AreGrouped cs gs → continues c ≡ false → AreGrouped (cs ++ c ∷ []) (gs ++ alone c ∷ [])
begun_by cs gs c a h = record {
  whole = ap (λ (l : List Card). l ++ c ∷ []) a.whole ∙ sym (flat_map-append cards_of gs (alone c ∷ []));
  each = list_all-append is_statement gs (alone c ∷ []) ∙ and_from (list_all is_statement gs) (is_statement (alone c) && true) a.each (and_from (is_statement (alone c)) true (and_from (not (continues c)) true (not_from_false (continues c) h) refl) refl);
}

-- the cards of statements of which the last is g
pub last_cards : (gs : List Group) (g : Group) → flat_map cards_of (gs ++ g ∷ []) ≡ flat_map cards_of gs ++ cards_of g
last_cards gs g = flat_map-append cards_of gs (g ∷ []) ∙ ap (λ (l : List Card). flat_map cards_of gs ++ l) (append-nil (cards_of g))

pub record IsLast (gs : List Group) (g : Group) : Type 0 where
  pub before : list_all is_statement gs ≡ true
  pub head : continues g.head ≡ false
  pub others : list_all continues g.others ≡ true

pub last_statement : (gs : List Group) (g : Group) → list_all is_statement (gs ++ g ∷ []) ≡ true → IsLast gs g
last_statement gs g h =
    let a = and_parts (list_all is_statement gs) (list_all is_statement (g ∷ [])) (sym (list_all-append is_statement gs (g ∷ [])) ∙ h) in
    let b = and_parts (is_statement g) true a.1 in
    let c = and_parts (not (continues g.head)) (list_all continues g.others) b.0 in
    record { before = a.0; head = not-true (continues g.head) c.0; others = c.1 }

pub continued_by : (cs : List Card) (gs : List Group) (g : Group) (c : Card) → AreGrouped cs (gs ++ g ∷ []) → continues c ≡ true → AreGrouped (cs ++ c ∷ []) (gs ++ longer_by g c ∷ [])
continued_by cs gs g c a h =
    let l = last_statement gs g a.each in
    record {
      whole = ap (λ (l : List Card). l ++ c ∷ []) (a.whole ∙ last_cards gs g) ∙ append_assoc (flat_map cards_of gs) (cards_of g) (c ∷ []) ∙ sym (last_cards gs (longer_by g c));
      each = list_all-append is_statement gs (longer_by g c ∷ []) ∙ and_from (list_all is_statement gs) (is_statement (longer_by g c) && true) l.before (and_from (is_statement (longer_by g c)) true (and_from (not (continues g.head)) (list_all continues (g.others ++ c ∷ [])) (not_from_false (continues g.head) l.head) (list_all-append continues g.others (c ∷ []) ∙ and_from (list_all continues g.others) (continues c && true) l.others (and_from (continues c) true h refl))) refl);
    }

-- ---- the continuation lines before a card

pub all_continue : (cs : List Card) → AreGrouped cs [] → list_all continues cs ≡ true
all_continue cs a = ap (λ (l : List Card). list_all continues l) a.whole

none_but : (a b c : Bool) → b ≡ false → (a && (b && c)) ≡ false
none_but true b c h = ap (λ (x : Bool). x && c) h
none_but false b c h = refl

pub not_all_continue : (cs : List Card) (gs : List Group) (g : Group) → AreGrouped cs (gs ++ g ∷ []) → list_all continues cs ≡ false
not_all_continue cs gs g a =
    ap (λ (l : List Card). list_all continues l) (a.whole ∙ last_cards gs g)
    ∙ list_all-append continues (flat_map cards_of gs) (cards_of g)
    ∙ none_but (list_all continues (flat_map cards_of gs)) (continues g.head) (list_all continues g.others) (last_statement gs g a.each).head

pub count_continued : (cs : List Card) (gs : List Group) (g : Group) → AreGrouped cs (gs ++ g ∷ []) → prefix_len continues (reverse cs) ≡ length g.others
count_continued cs gs g a =
    let l = last_statement gs g a.each in
    let f = flat_map cards_of gs in
    ap (λ (l : List Card). prefix_len continues (reverse l)) (a.whole ∙ last_cards gs g)
    ∙ ap (λ (l : List Card). prefix_len continues l) (reverse-append f (cards_of g))
    ∙ ap (λ (l : List Card). prefix_len continues (l ++ reverse f)) (reverse-append (g.head ∷ []) g.others)
    ∙ ap (λ (l : List Card). prefix_len continues l) (append_assoc (reverse g.others) (g.head ∷ []) (reverse f))
    ∙ prefix_len-all continues (reverse g.others) g.head (reverse f) (list_all-reverse continues g.others l.others) l.head
    ∙ length-reverse g.others

-- ---- the text of a statement

abbrev text_of : List Card → List ℕ
text_of cs = flat_map (λ c. part_of c.line) cs

pub length-text : (cs : List Card) → length (text_of cs) ≡ 66 * length cs
length-text [] = refl
length-text (c ∷ cs) = omega (arith, length-append (part_of c.line) (text_of cs), width_of_part c.line, length-text cs)

pub longer_text : (g : Group) (c : Card) → statement_of (longer_by g c) ≡ record (statement_of g) { text = (statement_of g).text ++ part_of c.line }
longer_text g c =
    ap (λ (t : List ℕ). record (statement_of g) { text = part_of g.head.line ++ t }) (flat_map-append (λ (d : Card). part_of d.line) g.others (c ∷ []) ∙ ap (λ (t : List ℕ). text_of g.others ++ t) (append-nil (part_of c.line)))
    ∙ ap (λ (t : List ℕ). record (statement_of g) { text = t }) (sym (append_assoc (part_of g.head.line) (text_of g.others) (part_of c.line)))

pub lone_text : (c : Card) → (statement_of (alone c)).text ≡ part_of c.line
lone_text c = append-nil (part_of c.line)

-- ---- one grouping

-- no continuation line is first
abbrev stops : List Card → Bool
stops [] = true
stops (c ∷ cs) = not (continues c)

groups_stop : (gs : List Group) → list_all is_statement gs ≡ true → stops (flat_map cards_of gs) ≡ true
groups_stop [] h = refl
groups_stop (g ∷ gs) h = (and_parts (not (continues g.head)) (list_all continues g.others) (and_parts (is_statement g) (list_all is_statement gs) h).0).0

record AreOne (a b r s : List Card) : Type 0 where
  others : a ≡ b
  rest : r ≡ s

no_stop : (c : Card) → continues c ≡ true → not (continues c) ≡ true → ⊥
no_stop c h k = let e : true ≡ false = sym h ∙ not-true (continues c) k in cc

same_others : (a b r s : List Card) → list_all continues a ≡ true → list_all continues b ≡ true → stops r ≡ true → stops s ≡ true → a ++ r ≡ b ++ s → AreOne a b r s
same_others [] [] r s h k m n e = record { others = refl; rest = e }
same_others [] (d ∷ b) [] s h k m n e = absurd (let f : [] ≡ d ∷ (b ++ s) = e in cc)
same_others [] (d ∷ b) (c ∷ r) s h k m n e =
    absurd (no_stop d (and_parts (continues d) (list_all continues b) k).0 (subst (λ (x : Card). not (continues x) ≡ true) (heads c d r (b ++ s) e).0 m))
same_others (c ∷ a) [] r [] h k m n e = absurd (let f : c ∷ (a ++ r) ≡ [] = e in cc)
same_others (c ∷ a) [] r (d ∷ s) h k m n e =
    absurd (no_stop c (and_parts (continues c) (list_all continues a) h).0 (subst (λ (x : Card). not (continues x) ≡ true) (sym (heads c d (a ++ r) s e).0) n))
same_others (c ∷ a) (d ∷ b) r s h k m n e =
    let i = heads c d (a ++ r) (b ++ s) e in
    let o = same_others a b r s (and_parts (continues c) (list_all continues a) h).1 (and_parts (continues d) (list_all continues b) k).1 m n i.1 in
    record { others = ap (λ (l : List Card). c ∷ l) o.others ∙ ap (λ (x : Card). x ∷ b) i.0; rest = o.rest }

same_groups : (gs hs : List Group) → list_all is_statement gs ≡ true → list_all is_statement hs ≡ true → flat_map cards_of gs ≡ flat_map cards_of hs → gs ≡ hs
same_groups [] [] h k e = refl
same_groups [] (b ∷ hs) h k e = absurd (let f : [] ≡ b.head ∷ (b.others ++ flat_map cards_of hs) = e in cc)
same_groups (a ∷ gs) [] h k e = absurd (let f : a.head ∷ (a.others ++ flat_map cards_of gs) ≡ [] = e in cc)
same_groups (a ∷ gs) (b ∷ hs) h k e =
    let i = heads a.head b.head (a.others ++ flat_map cards_of gs) (b.others ++ flat_map cards_of hs) e in
    let m = and_parts (is_statement a) (list_all is_statement gs) h in
    let n = and_parts (is_statement b) (list_all is_statement hs) k in
    let o = same_others a.others b.others (flat_map cards_of gs) (flat_map cards_of hs) (and_parts (not (continues a.head)) (list_all continues a.others) m.0).1 (and_parts (not (continues b.head)) (list_all continues b.others) n.0).1 (groups_stop gs m.1) (groups_stop hs n.1) i.1 in
    ap (λ (x : Card). record { head = x; others = a.others } ∷ gs) i.0
    ∙ ap (λ (l : List Card). record { head = b.head; others = l } ∷ gs) o.others
    ∙ ap (λ (l : List Group). b ∷ l) (same_groups gs hs m.1 n.1 o.rest)

pub one_grouping : (cs : List Card) (gs hs : List Group) → AreGrouped cs gs → AreGrouped cs hs → gs ≡ hs
one_grouping cs gs hs a b = same_groups gs hs a.each b.each (sym a.whole ∙ b.whole)
