-- Ranges are made one after another.
use Rattle.std.proofs.Common.{◌≡◌, ◌∙◌, ◌+◌, ◌<◌, ℕ, zero, suc, Bool, true, false, List, [], ◌∷◌, ◌++◌, map, drop, length, Option, Some, None, refl, sym, ap, subst, arith, length-append, append_assoc, get_or}
use Rattle.std.specs.Prelude.{slice_get, is_some, if◌then◌else◌}
use Rattle.ast.specs.Symbols.{Symbol}
use Rattle.dependence.specs.Plan.{PlanTree}
use Rattle.dependence.specs.PlanView.{plan_of}
use Rattle.loop_tree.specs.Loops.{Loop, loop_numbered}
use Rattle.machine.specs.Code as machine
use Rattle.machine.specs.Code.{Part}
use Rattle.machine.specs.declared.code.Await.{Await}
use Rattle.machine.specs.declared.instr.Instr.{Instr}
use Rattle.codegen.specs.Made.{Made, with_range, with_ranges}
use Rattle.codegen.specs.Program.{Planned, loop_entry, range_awaits, range_code, range_records, ranges_awaits, ranges_code, ranges_loops, ranges_records}
use Rattle.codegen.specs.Reports.{planned_by, planned_in}
use Rattle.codegen.specs.declared.reports.LoopReport.{LoopReport}

-- ---- which loops are left

from_here : (ls : List Loop) (rs : List LoopReport) (k : ℕ) (l : Loop) (r : LoopReport) → slice_get ls k ≡ Some l → k < length rs → get_or rs k r ≡ r → planned_in (drop k ls) (drop k rs) ≡ planned_by l (plan_of r.plan) ++ planned_in (drop (suc k) ls) (drop (suc k) rs)
from_here [] rs k l r h b i = cc
from_here (m ∷ ls) [] k l r h b i = absurd (omega (arith, b))
from_here (m ∷ ls) (q ∷ rs) zero l r h b i =
    let same : m ≡ l = cc in
    ap (λ (x : Loop). planned_by x (plan_of q.plan) ++ planned_in ls rs) same ∙ ap (λ (x : LoopReport). planned_by l (plan_of x.plan) ++ planned_in ls rs) i
from_here (m ∷ ls) (q ∷ rs) (suc k) l r h b i = from_here ls rs k l r h (omega (arith, b)) i

-- the next loop, and those behind it
pub planned_next : (ls : List Loop) (rs : List LoopReport) (k : ℕ) (l : Loop) (r : LoopReport) → loop_numbered ls (k + 1) ≡ Some l → k < length rs → r ≡ get_or rs k r → planned_in (drop k ls) (drop k rs) ≡ planned_by l (plan_of r.plan) ++ planned_in (drop (k + 1) ls) (drop (k + 1) rs)
planned_next ls rs k l r h b i =
    let next : k + 1 ≡ suc k = omega arith in
    from_here ls rs k l r (subst (λ (n : ℕ). loop_numbered ls n ≡ Some l) next h) b (sym i) ∙ ap (λ (n : ℕ). planned_by l (plan_of r.plan) ++ planned_in (drop n ls) (drop n rs)) (sym next)

-- ---- ranges one behind the other

pub with_more : (symbols : List Symbol) (xs ys : List Planned) (m : Made) → with_ranges symbols (xs ++ ys) m ≡ with_ranges symbols ys (with_ranges symbols xs m)
with_more symbols [] ys m = refl
with_more symbols (x ∷ xs) ys m = with_more symbols xs ys (with_range symbols x m)

-- what all of them come to
pub made_with : (symbols : List Symbol) (xs : List Planned) (m : Made) → with_ranges symbols xs m ≡ record {
  instructions = m.instructions ++ ranges_code symbols (length m.loops) (length m.records) (length m.awaits) xs;
  records = m.records ++ ranges_records symbols xs;
  awaits = m.awaits ++ ranges_awaits symbols xs;
  loops = m.loops ++ ranges_loops symbols (length m.instructions) (length m.loops) (length m.records) (length m.awaits) xs;
}
made_with symbols [] m =
    ap (λ (is : List Instr). record m { instructions = is }) (sym (none_behind m.instructions))
    ∙ ap (λ (rs : List (List Part)). record m { instructions = m.instructions ++ []; records = rs }) (sym (none_behind m.records))
    ∙ ap (λ (ws : List Await). record m { instructions = m.instructions ++ []; records = m.records ++ []; awaits = ws }) (sym (none_behind m.awaits))
    ∙ ap (λ (ls : List machine.Loop). record m { instructions = m.instructions ++ []; records = m.records ++ []; awaits = m.awaits ++ []; loops = ls }) (sym (none_behind m.loops))
  where
    none_behind : {X : Type 0} (xs : List X) → xs ++ [] ≡ xs
    none_behind [] = refl
    none_behind (x ∷ xs) = ap (λ ys. x ∷ ys) (none_behind xs)
made_with symbols (x ∷ xs) m =
    let n = length m.loops in
    let r = length m.records in
    let w = length m.awaits in
    let first = range_code symbols n r w x in
    let n2 : length (m.loops ++ loop_entry symbols (length m.instructions) x ∷ []) ≡ n + 1 = length-append m.loops (loop_entry symbols (length m.instructions) x ∷ []) in
    let r2 = length-append m.records (range_records symbols x) in
    let w2 = length-append m.awaits (range_awaits symbols x) in
    let i2 = length-append m.instructions first in
    let rest = λ (a b c : ℕ). ranges_code symbols a b c xs in
    made_with symbols xs (with_range symbols x m)
    ∙ build
    (append_assoc m.instructions first (rest (length (m.loops ++ loop_entry symbols (length m.instructions) x ∷ [])) (length (m.records ++ range_records symbols x)) (length (m.awaits ++ range_awaits symbols x)))
    ∙ ap (λ (a : ℕ). m.instructions ++ (first ++ rest a (length (m.records ++ range_records symbols x)) (length (m.awaits ++ range_awaits symbols x)))) n2
    ∙ ap (λ (b : ℕ). m.instructions ++ (first ++ rest (n + 1) b (length (m.awaits ++ range_awaits symbols x)))) r2
    ∙ ap (λ (c : ℕ). m.instructions ++ (first ++ rest (n + 1) (r + length (range_records symbols x)) c)) w2)
    (append_assoc m.records (range_records symbols x) (ranges_records symbols xs))
    (append_assoc m.awaits (range_awaits symbols x) (ranges_awaits symbols xs))
    (append_assoc m.loops (loop_entry symbols (length m.instructions) x ∷ []) (ranges_loops symbols (length (m.instructions ++ first)) (length (m.loops ++ loop_entry symbols (length m.instructions) x ∷ [])) (length (m.records ++ range_records symbols x)) (length (m.awaits ++ range_awaits symbols x)) xs)
    ∙ ap (λ (p : ℕ). m.loops ++ (loop_entry symbols (length m.instructions) x ∷ ranges_loops symbols p (length (m.loops ++ loop_entry symbols (length m.instructions) x ∷ [])) (length (m.records ++ range_records symbols x)) (length (m.awaits ++ range_awaits symbols x)) xs)) i2
    ∙ ap (λ (a : ℕ). m.loops ++ (loop_entry symbols (length m.instructions) x ∷ ranges_loops symbols (length m.instructions + length first) a (length (m.records ++ range_records symbols x)) (length (m.awaits ++ range_awaits symbols x)) xs)) n2
    ∙ ap (λ (b : ℕ). m.loops ++ (loop_entry symbols (length m.instructions) x ∷ ranges_loops symbols (length m.instructions + length first) (n + 1) b (length (m.awaits ++ range_awaits symbols x)) xs)) r2
    ∙ ap (λ (c : ℕ). m.loops ++ (loop_entry symbols (length m.instructions) x ∷ ranges_loops symbols (length m.instructions + length first) (n + 1) (r + length (range_records symbols x)) c xs)) w2)
  where
    build : {i j : List Instr} {r s : List (List Part)} {v w : List Await} {k l : List machine.Loop} → i ≡ j → r ≡ s → v ≡ w → k ≡ l → ◌≡◌ {A = Made} (record { instructions = i; records = r; awaits = v; loops = k }) (record { instructions = j; records = s; awaits = w; loops = l })
    build {i} {j} {r} {s} {v} {w} {k} {l} a b c d =
        ap (λ (z : List Instr). record { instructions = z; records = r; awaits = v; loops = k }) a
        ∙ ap (λ (z : List (List Part)). record { instructions = j; records = z; awaits = v; loops = k }) b
        ∙ ap (λ (z : List Await). record { instructions = j; records = s; awaits = z; loops = k }) c
        ∙ ap (λ (z : List machine.Loop). record { instructions = j; records = s; awaits = w; loops = z }) d

-- ---- the variables of the loops that are opened

abbrev Variables : List Planned → List ℕ
Variables xs = map (λ (x : Planned). x.loop.head.variable.id) xs

-- those that are left, with the next loop's if it is opened
pub variable_next : (ls : List Loop) (rs : List LoopReport) (k : ℕ) (l : Loop) (r : LoopReport) → loop_numbered ls (k + 1) ≡ Some l → k < length rs → r ≡ get_or rs k r → (old new target : List ℕ) (b : Bool) → b ≡ is_some (plan_of r.plan)
    → new ≡ (if b then old ++ l.head.variable.id ∷ [] else old) → old ++ Variables (planned_in (drop k ls) (drop k rs)) ≡ target → new ++ Variables (planned_in (drop (k + 1) ls) (drop (k + 1) rs)) ≡ target
variable_next ls rs k l r h c i old new target b e f t = by (plan_of r.plan) refl b e f
  where
    rest : List Planned
    rest = planned_in (drop (k + 1) ls) (drop (k + 1) rs)

    by : (o : Option PlanTree) → plan_of r.plan ≡ o → (b : Bool) → b ≡ is_some o → new ≡ (if b then old ++ l.head.variable.id ∷ [] else old) → new ++ Variables rest ≡ target
    by None q false e f = ap (λ (xs : List ℕ). xs ++ Variables rest) f ∙ ap (λ (xs : List Planned). old ++ Variables xs) (sym (planned_next ls rs k l r h c i ∙ ap (λ (o : Option PlanTree). planned_by l o ++ rest) q)) ∙ t
    by None q true e f = cc
    by (Some p) q true e f =
        ap (λ (xs : List ℕ). xs ++ Variables rest) f
        ∙ append_assoc old (l.head.variable.id ∷ []) (Variables rest)
        ∙ ap (λ (xs : List Planned). old ++ Variables xs) (sym (planned_next ls rs k l r h c i ∙ ap (λ (o : Option PlanTree). planned_by l o ++ rest) q)) ∙ t
    by (Some p) q false e f = cc

pub mapped_end : {X Y : Type 0} (f : X → Y) (xs : List X) (x : X) → map f (xs ++ x ∷ []) ≡ map f xs ++ f x ∷ []
mapped_end f [] x = refl
mapped_end f (y ∷ xs) x = ap (λ ys. f y ∷ ys) (mapped_end f xs x)
