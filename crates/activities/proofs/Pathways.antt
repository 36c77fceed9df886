-- Strides along a path are steps of its kinds.
use Rattle.std.proofs.Common.{◌≡◌, ◌∙◌, ℕ, zero, suc, Bool, List, ◌∷◌, Option, Some, None, refl, sym, ap, subst}
use Rattle.ast.specs.Store.{StoreOf}
use Rattle.machine.specs.Code.{Code}
use Rattle.machine.specs.Frame.{Frame}
use Rattle.machine.specs.Local.{and_then}
use Rattle.machine.specs.Solo.{Still}
use Rattle.machine.specs.State.{Machine, Who, the_main, iteration}
use Rattle.machine.specs.Strides.{Held, Passed, stride_past, strides_past}
use Rattle.activities.specs.Activities.{frame_at, frame_held}
use Rattle.activities.specs.Along.{GoesAlong}
use Rattle.activities.specs.declared.holding.Activities.{Activities}
use Rattle.activities.specs.Kinds.{IsPath, Makes, ahead_at, kinds, kinds_if}
use Rattle.activities.specs.Points.{Moves, Point, frame_of, local_in}
use Rattle.activities.specs.declared.kinds.Ahead.{Ahead}
use Rattle.activities.proofs.Foreseen.{first_told, not_at_end, stride_told, stride_unfaulted}
use Rattle.activities.proofs.Locals.{Stood}
use Rattle.activities.proofs.Strode.{AllTold, gone_at, gone_same, gone_store, gone_to, gone_twice, held_in, one_made, stands_on, told_on, with_store}

gone_still : (u : Who) (b : Held) (m : Machine) → Still m (gone_to u b m)
gone_still the_main b m = (refl, refl)
gone_still (iteration k) b m = (refl, refl)

-- the kind of one
one_of_kind : (ok : Passed) (code : Code) (s : ℕ) (u : Who) (p : Point) (q : ℕ) (f : Frame) (b : Held) (a : Ahead) → AllTold ok u p.machine → Stood p q u f → ahead_at code.instructions f.place ≡ Some a → stride_past ok code (held_in p.machine f) ≡ Some b → Moves code s a.local p q (gone_at u b p)
one_of_kind ok code s u p q f b a y t h e =
    let kind : local_in code (frame_of p.machine u) ≡ a.local = ap (λ (o : Option Frame). local_in code o) t.frame ∙ (stride_told ok code f p.machine.store b a h e).kind in
    subst (λ (k : Bool). Moves code s k p q (gone_at u b p)) kind (one_made ok code s u p q f b y t e)

-- where another one is made behind it, it stands there
pub stands_behind : (ok : Passed) (code : Code) (n : ℕ) (f : Frame) (x : StoreOf) (b c : Held) (a : Ahead) → ahead_at code.instructions f.place ≡ Some a → stride_past ok code (record { frame = f; store = x }) ≡ Some b → IsPath code.instructions n a.next → strides_past ok code n b ≡ Some c
    → IsPath code.instructions n b.frame.place × (kinds code.instructions n b.frame.place ≡ kinds code.instructions n a.next)
stands_behind ok code zero f x b c a h e i j = (refl, refl)
stands_behind ok code (suc n) f x b c a h e i j =
    let unfaulted : b.frame.fault ≡ None = by (stride_past ok code b) refl j in
    let place : b.frame.place ≡ a.next = (stride_told ok code f x b a h e).goes (not_at_end code.instructions n a.next i) unfaulted in
    (subst (λ (p : ℕ). IsPath code.instructions (suc n) p) (sym place) i, ap (λ (p : ℕ). kinds code.instructions (suc n) p) place)
  where
    by : (o : Option Held) → stride_past ok code b ≡ o → and_then o (λ d. strides_past ok code n d) ≡ Some c → b.frame.fault ≡ None
    by None k l = cc
    by (Some d) k l = stride_unfaulted ok code b.frame b.store d k

-- So many strides along a path of so many are steps of its kinds.
pub kinds_made : (ok : Passed) (code : Code) (s : ℕ) (u : Who) (p : Point) (q n : ℕ) (f : Frame) (b : Held) → AllTold ok u p.machine → Stood p q u f → IsPath code.instructions n f.place → strides_past ok code n (held_in p.machine f) ≡ Some b
    → Makes code s (kinds code.instructions n f.place) p q (gone_at u b p)
kinds_made ok code s u p q zero f b y t i e =
    let same : held_in p.machine f ≡ b = cc in
    ap (λ (m : Machine). record { machine = m; order = p.order }) (gone_same u p.machine f t.frame ∙ ap (λ (x : Held). gone_to u x p.machine) same)
kinds_made ok code s u p q (suc n) f b y t i e = by (stride_past ok code (held_in p.machine f)) refl e (λ c d j r. kinds_made ok code s u (gone_at u c p) q n c.frame b (told_on ok u c p.machine y) d j r)
  where
    a : Ahead
    a = (first_told code.instructions n f.place i).0

    told : ahead_at code.instructions f.place ≡ Some a
    told = (first_told code.instructions n f.place i).1

    by : (o : Option Held) → stride_past ok code (held_in p.machine f) ≡ o → and_then o (λ c. strides_past ok code n c) ≡ Some b
        → ((c : Held) → Stood (gone_at u c p) q u c.frame → IsPath code.instructions n c.frame.place → strides_past ok code n (held_in (gone_to u c p.machine) c.frame) ≡ Some b → Makes code s (kinds code.instructions n c.frame.place) (gone_at u c p) q (gone_at u b (gone_at u c p)))
        → Makes code s (kinds code.instructions (suc n) f.place) p q (gone_at u b p)
    by None h j more = cc
    by (Some c) h j more =
        let here : Held = held_in (gone_to u c p.machine) c.frame in
        let same : c ≡ here = ap (λ (x : StoreOf). with_store c.frame x) (sym (gone_store u p.machine c)) in
        let rest : strides_past ok code n here ≡ Some b = subst (λ (x : Held). strides_past ok code n x ≡ Some b) same j in
        let path = stands_behind ok code n f p.machine.store c b a told h (first_told code.instructions n f.place i).2 j in
        let further = subst (λ (ks : List Bool). Makes code s ks (gone_at u c p) q (gone_at u b (gone_at u c p))) path.1 (more c (stands_on u p q f c t) path.0 rest) in
        let whole : Makes code s (a.local ∷ kinds code.instructions n a.next) p q (gone_at u b p) = (
          gone_at u c p,
          one_of_kind ok code s u p q f c a y t told h,
          gone_still u c p.machine,
          subst (λ (m : Machine). Makes code s (kinds code.instructions n a.next) (gone_at u c p) q (record { machine = m; order = p.order })) (gone_twice u p.machine c b) further,
        ) in
        subst (λ (o : Option Ahead). Makes code s (kinds_if o (λ k. kinds code.instructions n k)) p q (gone_at u b p)) (sym told) whole

-- the same of the frame that a processor holds
pub along : (ok : Passed) (code : Code) (s : ℕ) (u : Who) (p : Point) (q n : ℕ) (f : Frame) (b : Held) → AllTold ok u p.machine → Stood p q u f → strides_past ok code n (held_in p.machine f) ≡ Some b
    → (g : Frame) → frame_at q p ≡ Some g → IsPath code.instructions n g.place → Makes code s (kinds code.instructions n g.place) p q (gone_at u b p)
along ok code s u p q n f b y t e g h i =
    let here : frame_at q p ≡ Some f = ap (λ (o : Option Who). frame_held p.machine o) t.holds ∙ t.frame in
    let same : f ≡ g = (let z : Some f ≡ Some g = sym here ∙ h in cc) in
    subst (λ (k : Frame). IsPath code.instructions n k.place → Makes code s (kinds code.instructions n k.place) p q (gone_at u b p)) same (λ j. kinds_made ok code s u p q n f b y t j e) i

-- none is made where nothing is held, or the run has ended
pub along_none : (q : ℕ) (old : Activities) → GoesAlong old q 0 old
along_none q old = λ f h i. refl
