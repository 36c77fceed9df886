-- Going from the last statement to the first, the places where structures end are known.
use Rattle.std.proofs.Common.{◌≡◌, ◌∙◌, ℕ, zero, suc, ◌+◌, ◌-◌, ◌<◌, ◌≤◌, Bool, true, false, cond, List, [], ◌∷◌, ◌++◌, refl, ap, sym, Option, Some, None, nat_eq, get_or, drop, length, reverse, arith, option_to_list}
use Rattle.std.specs.Prelude.{if◌then◌else◌}
use Rattle.std.specs.Option.{unwrap_or}
use Rattle.std.proofs.lemmas.List.{get_or-reverse, reverse-append, append-nil}
use Rattle.ast.specs.Tree.{Statement, Kind, do_loop, block_if, else_if, else_arm, end_if, logical_if, program, integer, dimension, parameters, assign, go_on, print, read, stop, end}
use Rattle.ast.proofs.Numbers.{one_more, one_less}
use Rattle.structure.specs.Backward.{with_end, last_place, span_to}
use Rattle.structure.specs.Parts.{part_of}
use Rattle.structure.specs.Rules.{is_some_and}
use Rattle.structure.specs.Spans.{before_label, before_end_if, nested, is_end_if, span_at, spans_from}

-- what is known of the statements from a place on, the last of which stands before `total`
pub record Behind (labels : ℕ → Option ℕ) (ends : List ℕ) (place total : ℕ) (ss : List Statement) : Type 0 where
  pub label : (l : ℕ) → unwrap_or (labels l) total ≡ place + before_label l ss
  pub end_if : (k : ℕ) → get_or ends k total ≡ place + before_end_if k ss

more : (a b n : ℕ) → a ≡ (n + 1) + b → a ≡ n + (b + 1)
more a b n e = e ∙ (omega arith)

same-both : (a b : ℕ) → nat_eq a b ≡ nat_eq b a
same-both a b = by (nat_eq a b) refl (nat_eq b a) refl
  where
    by : (x : Bool) → nat_eq a b ≡ x → (y : Bool) → nat_eq b a ≡ y → x ≡ y
    by true p true q = refl
    by false p false q = refl
    by true p false q = grind arith
    by false p true q = grind arith

label-behind : (labels labels' : ℕ → Option ℕ) (place total l : ℕ) (s : Statement) (ss : List Statement) (own : Option ℕ) → s.label ≡ own
    → unwrap_or (labels l) total ≡ (place + 1) + before_label l ss
    → labels' l ≡ cond (is_some_and (λ o. nat_eq o l) own) (Some place) (labels l)
    → unwrap_or (labels' l) total ≡ place + before_label l (s ∷ ss)
label-behind labels labels' place total l s ss None e h k =
    ap (λ (o : Option ℕ). unwrap_or o total) k ∙ more (unwrap_or (labels l) total) (before_label l ss) place h
    ∙ ap (λ (own : Option ℕ). place + (if is_some_and (λ o. nat_eq l o) own then 0 else before_label l ss + 1)) (sym e)
label-behind labels labels' place total l s ss (Some m) e h k =
    ap (λ (o : Option ℕ). unwrap_or o total) k ∙ by (nat_eq m l) refl
    ∙ ap (λ (b : Bool). place + (if b then 0 else before_label l ss + 1)) (same-both m l)
    ∙ ap (λ (own : Option ℕ). place + (if is_some_and (λ o. nat_eq l o) own then 0 else before_label l ss + 1)) (sym e)
  where
    by : (b : Bool) → nat_eq m l ≡ b → unwrap_or (cond b (Some place) (labels l)) total ≡ place + (if b then 0 else before_label l ss + 1)
    by true p = omega arith
    by false p = more (unwrap_or (labels l) total) (before_label l ss) place h

-- the k-th END IF that no IF matches, with one statement more
abbrev with_kind : ℕ → Kind → List Statement → ℕ
with_kind zero k ss = if is_end_if k then 0 else before_end_if (nested 0 k) ss + 1
with_kind (suc depth) k ss = before_end_if (nested (suc depth) k) ss + 1

is-with-kind : (d : ℕ) (s : Statement) (ss : List Statement) → before_end_if d (s ∷ ss) ≡ with_kind d s.kind ss
is-with-kind zero s ss = refl
is-with-kind (suc d) s ss = refl

dropped : (ends : List ℕ) (k total : ℕ) → get_or (drop 1 ends) k total ≡ get_or ends (suc k) total
dropped [] k total = refl
dropped (e ∷ ends) k total = refl

pass : (ends : List ℕ) (place total : ℕ) (ss : List Statement) (kind : Kind) → ((k : ℕ) → get_or ends k total ≡ (place + 1) + before_end_if k ss)
    → is_end_if kind ≡ false → ((d : ℕ) → nested d kind ≡ d) → (k : ℕ) → get_or ends k total ≡ place + with_kind k kind ss
pass ends place total ss kind h e n zero =
    more (get_or ends 0 total) (before_end_if 0 ss) place (h 0)
    ∙ ap (λ (d : ℕ). place + (before_end_if d ss + 1)) (sym (n 0))
    ∙ ap (λ (b : Bool). place + (if b then 0 else before_end_if (nested 0 kind) ss + 1)) (sym e)
pass ends place total ss kind h e n (suc k) =
    more (get_or ends (suc k) total) (before_end_if (suc k) ss) place (h (suc k)) ∙ ap (λ (d : ℕ). place + (before_end_if d ss + 1)) (sym (n (suc k)))

end-behind : (ends : List ℕ) (place total : ℕ) (ss : List Statement) (kind : Kind) → ((k : ℕ) → get_or ends k total ≡ (place + 1) + before_end_if k ss)
    → (k : ℕ) → get_or (with_end place (part_of kind) ends) k total ≡ place + with_kind k kind ss
end-behind ends place total ss end_if h zero = omega arith
end-behind ends place total ss end_if h (suc k) =
    more (get_or ends k total) (before_end_if k ss) place (h k) ∙ ap (λ (d : ℕ). place + (before_end_if d ss + 1)) (sym (one_less k))
end-behind ends place total ss (block_if c) h zero =
    dropped ends 0 total ∙ more (get_or ends 1 total) (before_end_if 1 ss) place (h 1)
end-behind ends place total ss (block_if c) h (suc k) =
    dropped ends (suc k) total ∙ more (get_or ends (suc (suc k)) total) (before_end_if (suc (suc k)) ss) place (h (suc (suc k)))
    ∙ ap (λ (d : ℕ). place + (before_end_if d ss + 1)) (sym (one_more (suc k)))
end-behind ends place total ss (program x) h k = pass ends place total ss (program x) h refl (λ d. refl) k
end-behind ends place total ss (integer x) h k = pass ends place total ss (integer x) h refl (λ d. refl) k
end-behind ends place total ss (dimension x) h k = pass ends place total ss (dimension x) h refl (λ d. refl) k
end-behind ends place total ss (parameters x) h k = pass ends place total ss (parameters x) h refl (λ d. refl) k
end-behind ends place total ss (assign a e) h k = pass ends place total ss (assign a e) h refl (λ d. refl) k
end-behind ends place total ss (do_loop x) h k = pass ends place total ss (do_loop x) h refl (λ d. refl) k
end-behind ends place total ss go_on h k = pass ends place total ss go_on h refl (λ d. refl) k
end-behind ends place total ss (else_if c) h k = pass ends place total ss (else_if c) h refl (λ d. refl) k
end-behind ends place total ss else_arm h k = pass ends place total ss else_arm h refl (λ d. refl) k
end-behind ends place total ss (logical_if c x) h k = pass ends place total ss (logical_if c x) h refl (λ d. refl) k
end-behind ends place total ss (print x) h k = pass ends place total ss (print x) h refl (λ d. refl) k
end-behind ends place total ss (read x) h k = pass ends place total ss (read x) h refl (λ d. refl) k
end-behind ends place total ss stop h k = pass ends place total ss stop h refl (λ d. refl) k
end-behind ends place total ss end h k = pass ends place total ss end h refl (λ d. refl) k

pub behind-more : (labels labels' : ℕ → Option ℕ) (ends ends' : List ℕ) (place total : ℕ) (s : Statement) (ss : List Statement)
    → Behind labels ends (place + 1) total ss
    → ((l : ℕ) → labels' l ≡ cond (is_some_and (λ own. nat_eq own l) s.label) (Some place) (labels l))
    → ends' ≡ with_end place (part_of s.kind) ends
    → Behind labels' ends' place total (s ∷ ss)
behind-more labels labels' ends ends' place total s ss h k e = record {
  label = λ l. label-behind labels labels' place total l s ss s.label refl (h.label l) (k l);
  end_if = λ d. ap (λ (es : List ℕ). get_or es d total) e ∙ end-behind ends place total ss s.kind h.end_if d ∙ ap (λ (n : ℕ). place + n) (sym (is-with-kind d s ss));
}

span-by : (labels : ℕ → Option ℕ) (ends : List ℕ) (place total : ℕ) (ss : List Statement) (kind : Kind) → Behind labels ends (place + 1) total ss
    → span_to place (last_place labels ends total (part_of kind)) ≡ span_at place kind ss
span-by labels ends place total ss (do_loop d) h = ap (λ (n : ℕ). (place, n) ∷ []) (h.label d.terminal)
span-by labels ends place total ss (block_if c) h = ap (λ (n : ℕ). (place, n) ∷ []) (h.end_if 0)
span-by labels ends place total ss end_if h = refl
span-by labels ends place total ss (program x) h = refl
span-by labels ends place total ss (integer x) h = refl
span-by labels ends place total ss (dimension x) h = refl
span-by labels ends place total ss (parameters x) h = refl
span-by labels ends place total ss (assign a e) h = refl
span-by labels ends place total ss go_on h = refl
span-by labels ends place total ss (else_if c) h = refl
span-by labels ends place total ss else_arm h = refl
span-by labels ends place total ss (logical_if c x) h = refl
span-by labels ends place total ss (print x) h = refl
span-by labels ends place total ss (read x) h = refl
span-by labels ends place total ss stop h = refl
span-by labels ends place total ss end h = refl

-- the spans from a place on are kept, and what is known behind it
pub record Gathered (labels : ℕ → Option ℕ) (ends : List ℕ) (spans : List (ℕ × ℕ)) (place total : ℕ) (ss : List Statement) : Type 0 where
  pub behind : Behind labels ends place total ss
  pub spans_are : spans ≡ spans_from place ss
  pub within : place ≤ total

pub gathered-more : (labels labels' : ℕ → Option ℕ) (ends ends' : List ℕ) (spans spans' : List (ℕ × ℕ)) (place total : ℕ) (s : Statement) (ss : List Statement)
    → Gathered labels ends spans (place + 1) total ss
    → ((l : ℕ) → labels' l ≡ cond (is_some_and (λ own. nat_eq own l) s.label) (Some place) (labels l))
    → ends' ≡ with_end place (part_of s.kind) ends
    → spans' ≡ span_to place (last_place labels ends total (part_of s.kind)) ++ spans
    → Gathered labels' ends' spans' place total (s ∷ ss)
gathered-more labels labels' ends ends' spans spans' place total s ss h k e f = record {
  behind = behind-more labels labels' ends ends' place total s ss h.behind k e;
  spans_are = f ∙ ap (λ (x : List (ℕ × ℕ)). x ++ spans) (span-by labels ends place total ss s.kind h.behind) ∙ ap (λ (x : List (ℕ × ℕ)). span_at place s.kind ss ++ x) h.spans_are;
  within = let w : place + 1 ≤ total = h.within in omega arith;
}

-- the last of the ends is the innermost
pub innermost : (ends : List ℕ) (total : ℕ) → 0 < length ends → (d : ℕ) → get_or ends (length ends - 1) d ≡ get_or (reverse ends) 0 d
innermost ends total h d = sym (get_or-reverse ends 0 d h ∙ ap (λ (n : ℕ). get_or ends n d) (omega arith))

pub popped : (ends ends' : List ℕ) (x : Option ℕ) → ends ≡ ends' ++ option_to_list x → (x ≡ None → length ends ≡ 0) → reverse ends' ≡ drop 1 (reverse ends)
popped ends ends' (Some y) e h = sym (ap (λ (xs : List ℕ). drop 1 (reverse xs)) e ∙ ap (λ (xs : List ℕ). drop 1 xs) (reverse-append ends' (y ∷ [])))
popped ends ends' None e h = by ends' (e ∙ append-nil ends') (h refl)
  where
    by : (xs : List ℕ) → ends ≡ xs → length ends ≡ 0 → reverse xs ≡ drop 1 (reverse ends)
    by [] p q = sym (ap (λ (ys : List ℕ). drop 1 (reverse ys)) p)
    by (y ∷ ys) p q = absurd (let r : length ends ≡ length (y ∷ ys) = ap length p in omega arith)
