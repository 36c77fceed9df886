-- What the walk has noted is what the check asks of points.
use Rattle.std.proofs.Common.{◌≡◌, ◌∙◌, Bool, true, false, not, ◌&&◌, ◌||◌, List, [], ◌∷◌, ◌++◌, map, ap, refl, sym, append_assoc}
use Rattle.std.specs.List.{list_all}
use Rattle.std.proofs.lemmas.List.{append-nil}
use Rattle.dependence.specs.Plan.{PlanTree}
use Rattle.loop_tree.specs.Loops.{Loop}
use Rattle.loop_tree.specs.Occurrences.{Occurrence}
use Rattle.loop_tree.specs.Paths.{Token, uses, defines, await, advance}
use Rattle.plan_check.specs.Checking.{at_references, entries, has_name, is_in_order, is_late, reference_tokens}
use Rattle.plan_check.specs.Entries.{entries_by, joined_entry}
use Rattle.plan_check.specs.Flow.{Point, has_awaited, is_defined, is_free}
use Rattle.plan_check.specs.Judging as judging
use Rattle.plan_check.specs.Walking as walking
use Rattle.plan_check.specs.Walking.{Note, Seen, token_noted}
use Rattle.plan_check.proofs.Bridge.{noticed_all}

module _ (p : PlanTree) where
  abbrev run : List Point → Seen → Seen
  run ps s = noticed_all p.privates ps s

  late_by : (a b c d : Bool) → ((a || (b && not c)) || not d) ≡ (a || not ((not b || c) && d))
  late_by true b c d = refl
  late_by false true true d = refl
  late_by false true false d = refl
  late_by false false c d = refl

  -- a use is early exactly where not all are late
  pub early_is : (ps : List Point) (s : Seen) → (run ps s).early ≡ (s.early || not (list_all (λ (x : Point). is_late p x) ps))
  early_is [] s = sym (nothing s.early)
    where
      nothing : (a : Bool) → (a || not true) ≡ a
      nothing true = refl
      nothing false = refl
  early_is ((uses r, k) ∷ ps) s =
      early_is ps (walking.used p.privates r k s)
      ∙ late_by s.early (has_name p.privates r.name) (is_defined k r.cell) (list_all (λ (x : Point). is_late p x) ps)
  early_is ((defines r, k) ∷ ps) s = early_is ps (walking.given p.privates r k s)
  early_is ((await e d, k) ∷ ps) s = early_is ps s
  early_is ((advance e, k) ∷ ps) s = early_is ps (walking.moved_on p.privates e k s)

  order_by : (a b d : Bool) → ((a || not b) || not d) ≡ (a || not (b && d))
  order_by true b d = refl
  order_by false true d = refl
  order_by false false d = refl

  pub disorder_is : (ps : List Point) (s : Seen) → (run ps s).disorder ≡ (s.disorder || not (list_all (λ (x : Point). is_in_order x) ps))
  disorder_is [] s = sym (nothing s.disorder)
    where
      nothing : (a : Bool) → (a || not true) ≡ a
      nothing true = refl
      nothing false = refl
  disorder_is ((uses r, k) ∷ ps) s = disorder_is ps (walking.used p.privates r k s)
  disorder_is ((defines r, k) ∷ ps) s = disorder_is ps (walking.given p.privates r k s)
  disorder_is ((await e d, k) ∷ ps) s = disorder_is ps s
  disorder_is ((advance e, k) ∷ ps) s =
      disorder_is ps (walking.moved_on p.privates e k s)
      ∙ order_by s.disorder (is_free k e && has_awaited k e 1) (list_all (λ (x : Point). is_in_order x) ps)

  -- the notes are those of the points of references, in order
  abbrev pub notes_of : List Point → List Note
  notes_of [] = []
  notes_of ((uses r, k) ∷ ps) = record { ref = r; defines = false; near = k.near; free = k.free } ∷ notes_of ps
  notes_of ((defines r, k) ∷ ps) = record { ref = r; defines = true; near = k.near; free = k.free } ∷ notes_of ps
  notes_of ((await e d, k) ∷ ps) = notes_of ps
  notes_of ((advance e, k) ∷ ps) = notes_of ps

  pub notes_are : (ps : List Point) (s : Seen) → (run ps s).notes ≡ s.notes ++ notes_of ps
  notes_are [] s = sym (append-nil s.notes)
  notes_are ((uses r, k) ∷ ps) s = notes_are ps (walking.used p.privates r k s) ∙ append_assoc s.notes (record { ref = r; defines = false; near = k.near; free = k.free } ∷ []) (notes_of ps)
  notes_are ((defines r, k) ∷ ps) s = notes_are ps (walking.given p.privates r k s) ∙ append_assoc s.notes (record { ref = r; defines = true; near = k.near; free = k.free } ∷ []) (notes_of ps)
  notes_are ((await e d, k) ∷ ps) s = notes_are ps s
  notes_are ((advance e, k) ∷ ps) s = notes_are ps (walking.moved_on p.privates e k s)

  pub tokens_are : (ps : List Point) → map token_noted (notes_of ps) ≡ reference_tokens ps
  tokens_are [] = refl
  tokens_are ((uses r, k) ∷ ps) = ap (λ (t : List Token). uses r ∷ t) (tokens_are ps)
  tokens_are ((defines r, k) ∷ ps) = ap (λ (t : List Token). defines r ∷ t) (tokens_are ps)
  tokens_are ((await e d, k) ∷ ps) = tokens_are ps
  tokens_are ((advance e, k) ∷ ps) = tokens_are ps

  -- with its notes, each reference is with what is known before it
  pub entries_are : (l : Loop) (os : List Occurrence) (ps : List Point) → entries_by l os (notes_of ps) ≡ map (joined_entry l) (entries os (at_references ps))
  entries_are l [] ps = refl
  entries_are l (o ∷ os) [] = refl
  entries_are l (o ∷ os) ((uses r, k) ∷ ps) = ap (λ (es : List judging.Entry). joined_entry l (o, k) ∷ es) (entries_are l os ps)
  entries_are l (o ∷ os) ((defines r, k) ∷ ps) = ap (λ (es : List judging.Entry). joined_entry l (o, k) ∷ es) (entries_are l os ps)
  entries_are l (o ∷ os) ((await e d, k) ∷ ps) = entries_are l (o ∷ os) ps
  entries_are l (o ∷ os) ((advance e, k) ∷ ps) = entries_are l (o ∷ os) ps
