-- Reports of loops, one after another.
use Rattle.std.proofs.Common.{◌≡◌, ◌∙◌, ◌+◌, ◌++◌, ◌∷◌, [], List, Some, ap, arith, subst, sym, suc, take, ℕ, zero}
use Rattle.std.specs.Prelude.{slice_get}
use Rattle.loop_tree.specs.Loops.{Loop, loop_numbered}
use Rattle.codegen.specs.Reports.{AreReports, IsPlacedReport}
use Rattle.codegen.specs.declared.reports.LoopReport.{LoopReport}

-- one report more
more : (all : List Loop) (lines : List ℕ) (ls : List Loop) (rs : List LoopReport) (l : Loop) (r : LoopReport) → AreReports all lines ls rs → IsPlacedReport all lines l r → AreReports all lines (ls ++ l ∷ []) (rs ++ r ∷ [])
more all lines [] [] l r are is = (is, tt)
more all lines [] (q ∷ rs) l r are is = absurd are
more all lines (m ∷ ls) [] l r are is = absurd are
more all lines (m ∷ ls) (q ∷ rs) l r are is = (are.0, more all lines ls rs l r are.1 is)

-- the loops up to the one of the next number
one_more : (ls : List Loop) (n : ℕ) (l : Loop) → slice_get ls n ≡ Some l → take (suc n) ls ≡ take n ls ++ l ∷ []
one_more [] n l is = cc
one_more (m ∷ ls) zero l is = let same : m ≡ l = cc in ap (λ (x : Loop). x ∷ []) same
one_more (m ∷ ls) (suc n) l is = ap (λ (xs : List Loop). m ∷ xs) (one_more ls n l is)

-- the reports of the first n loops, and one more
pub more_taken : (all : List Loop) (lines : List ℕ) (ls : List Loop) (n : ℕ) (rs qs : List LoopReport) (l : Loop) (r : LoopReport)
    → AreReports all lines (take n ls) rs → loop_numbered ls (n + 1) ≡ Some l → IsPlacedReport all lines l r → qs ≡ rs ++ r ∷ []
    → AreReports all lines (take (n + 1) ls) qs
more_taken all lines ls n rs qs l r are is reported grown =
    let next : n + 1 ≡ suc n = omega arith in
    let found : slice_get ls n ≡ Some l = subst (λ k. loop_numbered ls k ≡ Some l) next is in
    subst (λ (ms : List Loop). AreReports all lines ms qs) (sym (ap (λ k. take k ls) next ∙ one_more ls n l found))
    (subst (λ (ps : List LoopReport). AreReports all lines (take n ls ++ l ∷ []) ps) (sym grown) (more all lines (take n ls) rs l r are reported))
