-- Plans of loops that are opened await what is kept.
use Rattle.std.proofs.Common.{◌≡◌, ◌<◌, inl, inr, ℕ, zero, suc, List, [], ◌∷◌, Some, None, length, get_or, refl, subst, arith}
use Rattle.std.specs.Prelude.{slice_get}
use Rattle.ast.specs.Tree.{Block}
use Rattle.loop_tree.specs.Collecting.{after_block, no_collected}
use Rattle.loop_tree.specs.Loops.{AreWhole, IsWhole, Loop, loops_of}
use Rattle.loop_tree.proofs.Gathered.{loops_gathered}
use Rattle.loop_tree.proofs.Ranges.{loops_whole}
use Rattle.placement.proofs.Awaiting.{are_kept}
use Rattle.plan_check.proofs.Members.{In}
use Rattle.codegen.specs.Awaited.{AreAwaitsKept}
use Rattle.codegen.specs.Program.{Planned}
use Rattle.codegen.proofs.OpenedReports.{Known}

numbered : (ls : List Loop) (l : Loop) → In l ls → (n : ℕ) × (slice_get ls n ≡ Some l)
numbered [] l i = absurd i
numbered (m ∷ ls) l (inl e) = let z : l ≡ m = e in (0, cc)
numbered (m ∷ ls) l (inr i) = let k = numbered ls l i in (suc k.0, k.1)

-- a loop of a program is that of its DO and its range
whole : (b : Block) (l : Loop) → In l (loops_of b) → IsWhole l
whole b l i =
    let all : AreWhole (loops_of b) = subst (λ (ls : List Loop). AreWhole ls) (loops_gathered (after_block None b no_collected) b refl) (loops_whole (after_block None b no_collected) b refl) in
    let at = numbered (loops_of b) l i in
    all (suc at.0) l at.1

there : (xs : List Planned) (some x : Planned) (n : ℕ) → slice_get xs n ≡ Some x → (n < length xs) × (get_or xs n some ≡ x)
there [] some x n e = cc
there (y ∷ xs) some x zero e = (omega arith, cc)
there (y ∷ xs) some x (suc n) e = let k = there xs some x n e in (omega (arith, k.0), k.1)

pub awaits_kept : (b : Block) (xs : List Planned) (some : Planned) → ((n : ℕ) → n < length xs → Known (loops_of b) (loops_of b) (get_or xs n some)) → AreAwaitsKept xs
awaits_kept b xs some known n x e =
    let at = there xs some x n e in
    let k : Known (loops_of b) (loops_of b) x = subst (λ (y : Planned). Known (loops_of b) (loops_of b) y) at.1 (known n at.0) in
    ((k.placed).sources, (k.placed).are_sources, are_kept x.loop x.plan (whole b x.loop k.among) k.placed)
