-- What stands at a place after it was put there.
use Rattle.std.proofs.Common.{◌≡◌, ℕ, Bool, refl, ap}
use Rattle.std.proofs.lemmas.Bool.{eq-eqb}
use Rattle.std.specs.Prelude.{cond}
use Rattle.machine.specs.State.{put_at}

pub put_same : {A : Type 0} (f : ℕ → A) (k : ℕ) (v : A) → put_at f k v k ≡ v
unfolding put_at
put_same f k v = ap (λ (b : Bool). cond b v (f k)) (eq-eqb k k refl)
