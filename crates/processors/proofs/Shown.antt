-- Records that are handed on while a run goes on.
use Rattle.std.proofs.Common.{◌≡◌, ◌∙◌, ℕ, zero, suc, ◌+◌, ◌-◌, List, [], ◌∷◌, ◌++◌, length, take, drop, Option, refl, sym, ap, subst, arith, append_assoc}
use Rattle.std.specs.Prelude.{◌≤◌, Result, Err, IfErr}
use Rattle.ast.specs.declared.answer.Answer.{Answer}
use Rattle.std.proofs.KnownBytes.{Appends-trans}
use Rattle.std.proofs.Math.Seq.{take-add, take-append_seam}
use Rattle.std.proofs.lemmas.List.{drop-append-le, drop-drop, length-append, length-drop, take-append-drop}
use Rattle.std.specs.Io.KnownBytes.{Appends}
use Rattle.record_writer.proofs.Onward.{part_got}
use Rattle.record_writer.specs.Written.{AppendsPart, Begins}
use Rattle.processors.specs.Telling.{BreaksOn, ShowsOn, Waits}
use Rattle.processors.specs.declared.report.RunRefusal.{RunRefusal}

-- what waits, and what has gone out behind it
pub waits_more : (text pending output : List ℕ) (shown : ℕ) → Waits text pending shown → Begins output text → shown + length pending ≤ length output → Waits text (pending ++ drop (shown + length pending) output) shown
waits_more text pending output shown w b h =
    let k = length pending in
    let more = drop (shown + k) output in
    let many : length (pending ++ more) ≡ k + length more = length-append pending more in
    let size : length more ≡ length output - (shown + k) = length-drop (shown + k) output in
    let whole : length text ≡ length output + length b.0 = ap length b.1 ∙ length-append output b.0 in
    let behind : drop k (drop shown text) ≡ more ++ b.0 =
    drop-drop k shown text ∙ ap (λ (z : List ℕ). drop (shown + k) z) b.1 ∙ drop-append-le (shown + k) output b.0 h in
    let next : take (length more) (drop k (drop shown text)) ≡ more = ap (λ (z : List ℕ). take (length more) z) behind ∙ take-append_seam more b.0 in (
      omega (arith, many, size, whole, h),
      sym (ap (λ (n : ℕ). take n (drop shown text)) many ∙ take-add k (length more) (drop shown text) ∙ ap (λ (z : List ℕ). z ++ take (length more) (drop k (drop shown text))) (sym w.1) ∙ ap (λ (z : List ℕ). pending ++ z) next),
    )

-- nothing waits
pub waits_none : (text : List ℕ) (shown : ℕ) → shown ≤ length text → Waits text [] shown
waits_none text shown h = (omega (arith, h), refl)

front : (text pending : List ℕ) (shown : ℕ) → Waits text pending shown → take (shown + length pending) text ≡ take shown text ++ pending
front text pending shown w = take-add shown (length pending) text ∙ ap (λ (z : List ℕ). take shown text ++ z) (sym w.1)

-- what waits is handed on
pub shows_on : (text pending : List ℕ) (shown : ℕ) (old new : Option (List ℕ)) → Waits text pending shown → Appends old new pending → ShowsOn text shown (shown + length pending) old new
shows_on text pending shown old new w h = λ first s.
    (w.0, subst (λ (z : List ℕ). Appends first new z) (sym (front text pending shown w)) (Appends-trans first old new (take shown text) pending s.1 h))

-- or a part of it
pub breaks_on : (text pending : List ℕ) (shown : ℕ) (old new : Option (List ℕ)) → Waits text pending shown → AppendsPart old new pending → BreaksOn text shown old new
breaks_on text pending shown old new w h = λ first s.
    let n = shown + length pending in
    let part = part_got first old new pending (take shown text ++ pending) (take shown text, s.1, refl) h in
    let got = part.0 in
    let rest = part.2 in
    let whole : text ≡ got ++ rest.0 ∷ (rest.1 ++ drop n text) =
    sym (take-append-drop n text) ∙ ap (λ (z : List ℕ). z ++ drop n text) (front text pending shown w ∙ rest.2) ∙ append_assoc got (rest.0 ∷ rest.1) (drop n text) in
    (got, part.1, (rest.0, rest.1 ++ drop n text, whole))

-- ---- where there is no answer

pub if_err : (came : Result Answer RunRefusal) (why : RunRefusal) (P : RunRefusal → Type 0) → came ≡ Err why → P why → IfErr came P
if_err came why P is h = subst (λ (r : Result Answer RunRefusal). IfErr r P) (sym is) h
