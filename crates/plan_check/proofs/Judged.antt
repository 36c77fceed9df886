-- What the walk and the pass over pairs answer is what the check asks.
use Rattle.std.proofs.Common.{◌≡◌, ◌∙◌, ℕ, Bool, true, false, not, ◌&&◌, List, [], ◌∷◌, map, Option, ap, refl, sym, subst}
use Rattle.std.specs.Bool.{Decides}
use Rattle.std.specs.List.{list_all, list_any}
use Rattle.dependence.specs.Hiding.{hides}
use Rattle.dependence.specs.Kept.{block_reads}
use Rattle.dependence.specs.Plan.{PlanTree}
use Rattle.dependence.specs.declared.relation.Relation.{Relation}
use Rattle.loop_tree.specs.Loops.{Loop}
use Rattle.loop_tree.specs.Occurrences.{Occurrence}
use Rattle.loop_tree.specs.Paths.{Token}
use Rattle.loop_tree.specs.Told.{are_told, is_told, known}
use Rattle.plan_check.specs.Checking as checking
use Rattle.plan_check.specs.Checking.{are_once, cells_of, claimed, entries_of, fits, has_named, in_order, is_in_order, is_proper, is_step, tokens_of}
use Rattle.plan_check.specs.Entries.{entries_by, joined_entry}
use Rattle.plan_check.specs.Flow.{Known, Point, flag_at, outside}
use Rattle.plan_check.specs.GoodPlan.{named, token_of}
use Rattle.plan_check.specs.Grouping.{at_cell, chosen, row_at, with_groups}
use Rattle.plan_check.specs.Judging.{Entry, Verdict, best, with_all}
use Rattle.plan_check.specs.Walked.{IsJudged, IsWalked, points_of}
use Rattle.plan_check.specs.Walking.{Note, Seen, token_noted}
use Rattle.plan_check.proofs.Grouped.{by_groups, entries_told}
use Rattle.plan_check.proofs.Verdicts.{ahead_all, held_all, true_all}

fused : {X Y Z : Type 0} (f : Y → Z) (g : X → Y) (xs : List X) → map (λ (x : X). f (g x)) xs ≡ map f (map g xs)
fused f g [] = refl
fused f g (x ∷ xs) = ap (λ ys. f (g x) ∷ ys) (fused f g xs)

-- the tokens of references, and of notes
pub shown_by : {X Y : Type 0} (f : X → Occurrence) (g : Y → Note) (xs : List X) (ys : List Y) (os : List Occurrence) (ts : List Token) (r : Bool) → map f xs ≡ os → map token_noted (map g ys) ≡ ts
    → Decides r (map (λ (x : X). token_of (f x)) xs ≡ map (λ (y : Y). token_noted (g y)) ys) → Decides r (tokens_of os ≡ ts)
shown_by {X} {Y} f g xs ys os ts r e k d =
    let left : map (λ (x : X). token_of (f x)) xs ≡ tokens_of os = fused token_of f xs ∙ ap tokens_of e in
    let right : map (λ (y : Y). token_noted (g y)) ys ≡ ts = fused token_noted g ys ∙ k in
    ((λ h. sym left ∙ d.0 h ∙ right), (λ h. d.1 (left ∙ h ∙ sym right)))

pub ordered_by : (l : Loop) (p : PlanTree) (k : Known) (s : Seen) (ns : List (ℕ × ℕ)) → IsWalked l p k s → ns ≡ named p.body → (a c r : Bool) → r ≡ (a && (not s.disorder && c)) → a ≡ outside p.body
    → c ≡ list_all (λ (n : ℕ × ℕ). flag_at k.advanced n.0) ns → r ≡ in_order (cells_of l) p
ordered_by l p k s ns w e a c r h i j =
    let all = list_all (λ (x : Point). is_in_order x) (points_of l p) in
    h
    ∙ ap (λ b. b && (not s.disorder && c)) i
    ∙ ap (λ b. outside p.body && (not b && c)) w.disorder
    ∙ ap (λ b. outside p.body && (b && c)) (twice all)
    ∙ ap (λ b. outside p.body && (all && b)) (j ∙ ap (λ ms. list_all (λ (n : ℕ × ℕ). flag_at k.advanced n.0) ms) e ∙ ap (λ (z : Known). list_all (λ (n : ℕ × ℕ). flag_at z.advanced n.0) (named p.body)) w.known)
  where
    twice : (b : Bool) → not (not b) ≡ b
    twice true = refl
    twice false = refl

pub fit_by : (l : Loop) (p : PlanTree) (ns : List (ℕ × ℕ)) (a b h s o q r : Bool) → ns ≡ named p.body → r ≡ (a && (not b && (h && (s && (o && q))))) → a ≡ is_step l.step → b ≡ block_reads l.body → h ≡ hides p.privates l
    → s ≡ list_all (λ (n : List ℕ). has_named l.assigned n) p.privates → o ≡ are_once p.privates → q ≡ list_all (λ (n : ℕ × ℕ). is_proper n) ns → r ≡ fits l p
fit_by l p ns a b h s o q r e is ea eb eh es eo eq =
    let named_all = list_all (λ (n : List ℕ). has_named l.assigned n) p.privates in
    is
    ∙ ap (λ x. x && (not b && (h && (s && (o && q))))) ea
    ∙ ap (λ x. is_step l.step && (not x && (h && (s && (o && q))))) eb
    ∙ ap (λ x. is_step l.step && (not (block_reads l.body) && (x && (s && (o && q))))) eh
    ∙ ap (λ x. is_step l.step && (not (block_reads l.body) && (hides p.privates l && (x && (o && q))))) es
    ∙ ap (λ x. is_step l.step && (not (block_reads l.body) && (hides p.privates l && (named_all && (x && q))))) eo
    ∙ ap (λ x. is_step l.step && (not (block_reads l.body) && (hides p.privates l && (named_all && (are_once p.privates && x))))) (eq ∙ ap (λ ms. list_all (λ (n : ℕ × ℕ). is_proper n) ms) e)

pub judged : (l : Loop) (p : PlanTree) (k : Known) (s : Seen) → IsWalked l p k s → are_told (known l) ≡ true
    → (events : List ℕ) (ns : List (ℕ × ℕ)) → ((test : ℕ → Bool) → list_any test events ≡ list_any (λ (n : ℕ × ℕ). test n.0) ns) → ns ≡ named p.body
    → (claim : ℕ → ℕ → Option Relation) → ((a b : ℕ) → claim a b ≡ claimed p.relations a b)
    → (es : List Entry) → es ≡ entries_by l l.references s.notes
    → (all defining : List (List ℕ)) → ((c : ℕ) → chosen es (row_at all c) ≡ at_cell true c es) → ((c : ℕ) → chosen es (row_at defining c) ≡ at_cell false c es)
    → (v : Verdict) → v ≡ with_groups l events claim p.privates all defining es es best → IsJudged l p v
judged l p k s w told events ns named_by e claim claims es is every defining grouped chosen_so v h =
    let all : List checking.Entry = entries_of (cells_of l) l p in
    let same : es ≡ map (joined_entry l) all = is ∙ w.entries l.references in
    let by_events : (test : ℕ → Bool) → list_any test events ≡ list_any (λ (n : ℕ × ℕ). test n.0) (named p.body) = λ test. named_by test ∙ ap (λ ms. list_any (λ (n : ℕ × ℕ). test n.0) ms) e in
    let cells_tell = subst (λ (xs : List Entry). list_all (λ (x : Entry). list_all (λ (y : Entry). is_told x.occurrence.ref y.occurrence.ref) xs) xs ≡ true) (sym is) (entries_told l s.notes told) in
    let whole : v ≡ with_all l events claim p.privates (map (joined_entry l) all) (map (joined_entry l) all) best =
    h ∙ by_groups l events claim p.privates every defining es es best cells_tell grouped chosen_so ∙ ap (λ (xs : List Entry). with_all l events claim p.privates xs xs best) same in
    record {
      ahead = ap (λ (z : Verdict). z.ahead) whole ∙ ahead_all l p events claim by_events claims all;
      held = ap (λ (z : Verdict). z.held) whole ∙ held_all l p events claim by_events claims all;
      claims = ap (λ (z : Verdict). z.claims) whole ∙ true_all l p events claim by_events claims all;
    }
