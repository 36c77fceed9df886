-- What is known of events, and how tokens, awaits and advances leave it.
use Rattle.std.proofs.Common.{◌≡◌, ◌∙◌, ◌<◌, ◌⊎◌, inl, inr, ℕ, true, false, List, [], ◌∷◌, ◌++◌, length, get_or, refl, subst, ⊎_elim, Some, arith}
use Rattle.std.specs.List.{list_all}
use Rattle.std.proofs.lemmas.Bool.{and_from, and_parts, cases_eq}
use Rattle.ast.specs.References.{expressions_references, items_expressions, optional, term_references, terms_references}
use Rattle.ast.specs.Tree.{Ref, Access, DoHead, Kind, program, integer, dimension, parameters, assign, do_loop, go_on, block_if, else_if, else_arm, end_if, logical_if, print, read, stop, end}
use Rattle.dependence.specs.Plan.{PlanBlock}
use Rattle.loop_tree.specs.Paths.{Token, uses, defines, await, advance, used, term_tokens, target_tokens, targets_tokens, head_tokens}
use Rattle.plan_check.specs.Checking.{is_in_order}
use Rattle.plan_check.specs.Flow.{Known, Point, after, after_block, after_kind, block_points, has_advanced, has_awaited, is_free, joined, kind_tokens, nowhere, points, put, step}
use Rattle.plan_check.proofs.Members.{In}
use Rattle.plan_check.proofs.Turning.{get_put}
use Rattle.placement.specs.Placing.{with_advances, with_awaits}
use Rattle.placement.proofs.Lists.{all_get, all_length, await_length, await_near, both_length, both_true, near_length, put_length, put_same}

-- there is room for an event
pub record Room (s : Known) (e : ℕ) : Type 0 where
  pub near : e < length s.near
  pub free : e < length s.free
  pub advanced : e < length s.advanced

pub room_step : (x : Token) (s : Known) (e : ℕ) → Room s e → Room (step x s) e
room_step (uses r) s e h = h
room_step (defines r) s e h = record { near = h.near; free = h.free; advanced = h.advanced }
room_step (await n d) s e h = let a = await_length s.near n d in let b = h.near in record { near = omega (arith, a, b); free = h.free; advanced = h.advanced }
room_step (advance n) s e h =
    let a = put_length s.free n false in
    let b = put_length s.advanced n true in
    let c = h.free in
    let d = h.advanced in
    record { near = h.near; free = omega (arith, a, c); advanced = omega (arith, b, d) }

pub room_joined : (s r : Known) (e : ℕ) → Room s e → Room (joined s r) e
room_joined s r e h =
    let a = near_length s.near r.near in
    let b = both_length s.free r.free in
    let c = both_length s.advanced r.advanced in
    let x = h.near in
    let y = h.free in
    let z = h.advanced in
    record { near = omega (arith, a, x); free = omega (arith, b, y); advanced = omega (arith, c, z) }

pub room_nowhere : (s : Known) (e : ℕ) → Room s e → Room (nowhere s) e
room_nowhere s e h =
    let a = all_length (Some 0) s.near in
    let b = all_length true s.free in
    let c = all_length true s.advanced in
    let x = h.near in
    let y = h.free in
    let z = h.advanced in
    record { near = omega (arith, a, x); free = omega (arith, b, y); advanced = omega (arith, c, z) }

-- the second knows of the event what the first does
pub record Keeps (e : ℕ) (s r : Known) : Type 0 where
  pub room : Room s e → Room r e
  pub free : Room s e → is_free s e ≡ true → is_free r e ≡ true
  pub advanced : Room s e → has_advanced s e ≡ true → has_advanced r e ≡ true

pub keeps_same : (e : ℕ) (s : Known) → Keeps e s s
keeps_same e s = record { room = λ h. h; free = λ h k. k; advanced = λ h k. k }

pub keeps_then : (e : ℕ) (s r t : Known) → Keeps e s r → Keeps e r t → Keeps e s t
keeps_then e s r t h k = record { room = λ m. k.room (h.room m); free = λ m x. k.free (h.room m) (h.free m x); advanced = λ m x. k.advanced (h.room m) (h.advanced m x) }

pub keeps_nowhere : (e : ℕ) (s : Known) → Keeps e s (nowhere s)
keeps_nowhere e s = record { room = room_nowhere s e; free = λ m x. all_get s.free e m.free; advanced = λ m x. all_get s.advanced e m.advanced }

-- no advance of it
abbrev Still : ℕ → Token → Type 0
Still e (advance n) = e ≡ n → ⊥
Still e _ = Unit {0}

keeps_step : (e : ℕ) (x : Token) (s : Known) → Still e x → Keeps e s (step x s)
keeps_step e (uses r) s h = keeps_same e s
keeps_step e (defines r) s h = record { room = room_step (defines r) s e; free = λ m k. k; advanced = λ m k. k }
keeps_step e (await n d) s h = record { room = room_step (await n d) s e; free = λ m k. k; advanced = λ m k. k }
keeps_step e (advance n) s h = record {
  room = room_step (advance n) s e;
  free = λ m k. get_put s.free n e false false h ∙ k;
  advanced = λ m k. get_put s.advanced n e true false h ∙ k;
}

-- tokens without events
abbrev pub Plain : List Token → Type 0
Plain [] = Unit {0}
Plain (uses r ∷ t) = Plain t
Plain (defines r ∷ t) = Plain t
Plain (_ ∷ t) = ⊥

plain_append : (t u : List Token) → Plain t → Plain u → Plain (t ++ u)
plain_append [] u h k = k
plain_append (uses r ∷ t) u h k = plain_append t u h k
plain_append (defines r ∷ t) u h k = plain_append t u h k
plain_append (await e d ∷ t) u h k = absurd h
plain_append (advance e ∷ t) u h k = absurd h

pub plain_used : (rs : List Ref) → Plain (used rs)
plain_used [] = tt
plain_used (r ∷ rs) = plain_used rs

plain_target : (a : Access) → Plain (target_tokens a)
plain_target a = plain_append (used (terms_references a.subscripts)) (defines a.ref ∷ []) (plain_used (terms_references a.subscripts)) tt

plain_targets : (xs : List Access) → Plain (targets_tokens xs)
plain_targets [] = tt
plain_targets (a ∷ more) = plain_append (target_tokens a) (targets_tokens more) (plain_target a) (plain_targets more)

pub plain_head : (h : DoHead) → Plain (head_tokens h)
plain_head h = plain_append (used (expressions_references (h.first ∷ h.last ∷ optional h.step))) (defines h.variable ∷ []) (plain_used (expressions_references (h.first ∷ h.last ∷ optional h.step))) tt

pub plain_kind : (k : Kind) → Plain (kind_tokens k)
plain_kind (assign a e) = plain_append (term_tokens e) (target_tokens a) (plain_used (term_references e)) (plain_target a)
plain_kind (print items) = plain_used (expressions_references (items_expressions items))
plain_kind (read elements) = plain_targets elements
plain_kind stop = tt
plain_kind (program x) = tt
plain_kind (integer x) = tt
plain_kind (dimension x) = tt
plain_kind (parameters x) = tt
plain_kind (do_loop x) = tt
plain_kind go_on = tt
plain_kind (block_if x) = tt
plain_kind (else_if x) = tt
plain_kind else_arm = tt
plain_kind end_if = tt
plain_kind (logical_if x y) = tt
plain_kind end = tt

pub keeps_tokens : (e : ℕ) (t : List Token) (s : Known) → Plain t → Keeps e s (after t s)
keeps_tokens e [] s h = keeps_same e s
keeps_tokens e (uses r ∷ t) s h = keeps_tokens e t s h
keeps_tokens e (defines r ∷ t) s h = keeps_then e s (step (defines r) s) (after t (step (defines r) s)) (keeps_step e (defines r) s tt) (keeps_tokens e t (step (defines r) s) h)
keeps_tokens e (await n d ∷ t) s h = absurd h
keeps_tokens e (advance n ∷ t) s h = absurd h

pub keeps_kind : (e : ℕ) (k : Kind) (s : Known) → Keeps e s (after_kind k s)
keeps_kind e (assign a x) s = keeps_tokens e (kind_tokens (assign a x)) s (plain_kind (assign a x))
keeps_kind e (print items) s = keeps_tokens e (kind_tokens (print items)) s (plain_kind (print items))
keeps_kind e (read elements) s = keeps_tokens e (kind_tokens (read elements)) s (plain_kind (read elements))
keeps_kind e stop s = keeps_nowhere e s
keeps_kind e (program x) s = keeps_same e s
keeps_kind e (integer x) s = keeps_same e s
keeps_kind e (dimension x) s = keeps_same e s
keeps_kind e (parameters x) s = keeps_same e s
keeps_kind e (do_loop x) s = keeps_same e s
keeps_kind e go_on s = keeps_same e s
keeps_kind e (block_if x) s = keeps_same e s
keeps_kind e (else_if x) s = keeps_same e s
keeps_kind e else_arm s = keeps_same e s
keeps_kind e end_if s = keeps_same e s
keeps_kind e (logical_if x y) s = keeps_same e s
keeps_kind e end s = keeps_same e s

pub keeps_joined : (e : ℕ) (s r t : Known) → Keeps e s r → Keeps e s t → Keeps e s (joined r t)
keeps_joined e s r t h k = record {
  room = λ m. room_joined r t e (h.room m);
  free = λ m x. both_true r.free t.free e (h.free m x) (k.free m x);
  advanced = λ m x. both_true r.advanced t.advanced e (h.advanced m x) (k.advanced m x);
}

-- ---- awaits and advances, one after another

unfoldable pub awaited_all : List (ℕ × ℕ) → Known → Known
awaited_all [] s = s
awaited_all (a ∷ more) s = awaited_all more (step (await a.0 a.1) s)

unfoldable pub advanced_all : List ℕ → Known → Known
advanced_all [] s = s
advanced_all (e ∷ es) s = advanced_all es (step (advance e) (step (await e 1) s))

pub after_awaits : (xs : List (ℕ × ℕ)) (b : PlanBlock) (s : Known) → after_block (with_awaits xs b) s ≡ after_block b (awaited_all xs s)
unfolding awaited_all
after_awaits [] b s = refl
after_awaits (a ∷ more) b s = after_awaits more b (step (await a.0 a.1) s)

pub after_advances : (es : List ℕ) (b : PlanBlock) (s : Known) → after_block (with_advances es b) s ≡ after_block b (advanced_all es s)
unfolding advanced_all
after_advances [] b s = refl
after_advances (e ∷ es) b s = after_advances es b (step (advance e) (step (await e 1) s))

pub keeps_awaits : (e : ℕ) (xs : List (ℕ × ℕ)) (s : Known) → Keeps e s (awaited_all xs s)
unfolding awaited_all
keeps_awaits e [] s = keeps_same e s
keeps_awaits e (a ∷ more) s = keeps_then e s (step (await a.0 a.1) s) (awaited_all more (step (await a.0 a.1) s)) (keeps_step e (await a.0 a.1) s tt) (keeps_awaits e more (step (await a.0 a.1) s))

pub keeps_advances : (e : ℕ) (es : List ℕ) (s : Known) → (In e es → ⊥) → Keeps e s (advanced_all es s)
unfolding advanced_all
keeps_advances e [] s h = keeps_same e s
keeps_advances e (x ∷ es) s h =
    let s1 = step (await x 1) s in
    let s2 = step (advance x) s1 in
    keeps_then e s s1 (advanced_all es s2) (keeps_step e (await x 1) s tt)
    (keeps_then e s1 s2 (advanced_all es s2) (keeps_step e (advance x) s1 (λ q. h (inl q))) (keeps_advances e es s2 (λ i. h (inr i))))

-- each once
abbrev pub Distinct : List ℕ → Type 0
Distinct [] = Unit {0}
Distinct (e ∷ es) = (In e es → ⊥) × Distinct es

has_in : (e : ℕ) (es : List ℕ) → (In e es) ⊎ (In e es → ⊥)
has_in e [] = inr (λ i. i)
has_in e (x ∷ es) = ⊎_elim (λ q. inl (inl q)) (λ ne. ⊎_elim (λ i. inl (inr i)) (λ no. inr (λ j. ⊎_elim ne no j)) (has_in e es)) (cases_eq e x)

pub room_advances : (e : ℕ) (es : List ℕ) (s : Known) → Room s e → Room (advanced_all es s) e
unfolding advanced_all
room_advances e [] s h = h
room_advances e (x ∷ es) s h = room_advances e es (step (advance x) (step (await x 1) s)) (room_step (advance x) (step (await x 1) s) e (room_step (await x 1) s e h))

pub all_advanced : (e : ℕ) (es : List ℕ) (s : Known) → In e es → Room s e → has_advanced (advanced_all es s) e ≡ true
unfolding advanced_all
all_advanced e [] s i m = absurd i
all_advanced e (x ∷ es) s i m =
    let s1 = step (await x 1) s in
    let s2 = step (advance x) s1 in
    let m2 = room_step (advance x) s1 e (room_step (await x 1) s e m) in
    ⊎_elim
    (λ j. all_advanced e es s2 j m2)
    (λ no. (keeps_advances e es s2 no).advanced m2 (⊎_elim
    (λ q. subst (λ (z : ℕ). get_or (put s.advanced z true) e false ≡ true) q (put_same s.advanced e true false m.advanced))
    (λ j. absurd (no j)) i))
    (has_in e es)

abbrev pub Ordered : List Point → Type 0
Ordered ps = list_all (λ (x : Point). is_in_order x) ps ≡ true

pub ordered_two : (ps qs : List Point) → Ordered ps → Ordered qs → Ordered (ps ++ qs)
ordered_two [] qs h k = k
ordered_two (p ∷ ps) qs h k =
    let g = and_parts (is_in_order p) (list_all (λ (x : Point). is_in_order x) ps) h in
    and_from (is_in_order p) (list_all (λ (x : Point). is_in_order x) (ps ++ qs)) g.0 (ordered_two ps qs g.1 k)

pub ordered_advances : (es : List ℕ) (b : PlanBlock) (s : Known) → Distinct es → ((e : ℕ) → In e es → Room s e × (is_free s e ≡ true)) → Ordered (block_points b (advanced_all es s)) → Ordered (block_points (with_advances es b) s)
unfolding advanced_all
ordered_advances [] b s d h k = k
ordered_advances (e ∷ es) b s d h k =
    let s1 = step (await e 1) s in
    let s2 = step (advance e) s1 in
    let here = h e (inl refl) in
    let now : is_in_order (advance e, s1) ≡ true = and_from (is_free s1 e) (has_awaited s1 e 1) here.1 (await_near s.near e 1 here.0.near) in
    let rest = ordered_advances es b s2 d.1
    (λ x i. let g = h x (inr i) in
    let kept = keeps_step x (advance e) s1 (λ q. d.0 (subst (λ (z : ℕ). In z es) q i)) in
    let room = room_step (await e 1) s x g.0 in
    (kept.room room, kept.free room g.1)) k in
    and_from (is_in_order (advance e, s1)) (list_all (λ (x : Point). is_in_order x) (block_points (with_advances es b) s2)) now rest

pub ordered_awaits : (xs : List (ℕ × ℕ)) (b : PlanBlock) (s : Known) → Ordered (block_points b (awaited_all xs s)) → Ordered (block_points (with_awaits xs b) s)
unfolding awaited_all
ordered_awaits [] b s k = k
ordered_awaits (a ∷ more) b s k = ordered_awaits more b (step (await a.0 a.1) s) k

pub ordered_tokens : (t : List Token) (s : Known) → Plain t → Ordered (points t s)
ordered_tokens [] s h = refl
ordered_tokens (uses r ∷ t) s h = ordered_tokens t s h
ordered_tokens (defines r ∷ t) s h = ordered_tokens t (step (defines r) s) h
ordered_tokens (await e d ∷ t) s h = absurd h
ordered_tokens (advance e ∷ t) s h = absurd h
