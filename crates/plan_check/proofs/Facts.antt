-- Facts of paths, each a switch that tokens turn.
use Rattle.std.specs.Prelude.{◌≡◌, ◌==◌, nat_le, ℕ, Bool, true, not, ◌&&◌, ◌||◌, List, [], ◌∷◌}
use Rattle.loop_tree.specs.Paths.{Token, defines, await, advance}
use Rattle.plan_check.specs.Flow.{Known, has_advanced, has_awaited, is_defined, is_free}

pub data Fact : Type 0 where
  defined : ℕ → Fact
  near : ℕ → ℕ → Fact
  free : ℕ → Fact
  advanced : ℕ → Fact

abbrev pub turn : Fact → Token → Bool → Bool
turn (defined c) (defines r) b = (r.cell == c) || b
turn (near e d) (await x y) b = ((x == e) && nat_le y d) || b
turn (free e) (advance x) b = not (x == e) && b
turn (advanced e) (advance x) b = (x == e) || b
turn _ _ b = b

abbrev pub run : Fact → List Token → Bool → Bool
run f [] b = b
run f (x ∷ t) b = run f t (turn f x b)

abbrev pub fact : Fact → Known → Bool
fact (defined c) s = is_defined s c
fact (near e d) s = has_awaited s e d
fact (free e) s = is_free s e
fact (advanced e) s = has_advanced s e

-- what is known holds of the paths
abbrev pub Below : Known → (Fact → Bool) → Type 0
Below s b = (f : Fact) → fact f s ≡ true → b f ≡ true

abbrev pub runs : List Token → (Fact → Bool) → Fact → Bool
runs t b f = run f t (b f)
