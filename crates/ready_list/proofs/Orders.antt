-- Lists in order of value.
use Rattle.std.proofs.Common.{ℕ, ◌≤◌, List, [], ◌∷◌, ◌++◌}
use Rattle.ready_list.specs.Places.{NoneAbove}
use Rattle.ready_list.specs.Lists.{NoneBelow, InOrder}

none-below-insert : (w : ℕ) (xs : List (ℕ × ℕ)) (y : ℕ × ℕ) (ys : List (ℕ × ℕ)) → w ≤ y.1 → NoneBelow w (xs ++ ys) → NoneBelow w (xs ++ y ∷ ys)
none-below-insert w [] y ys h k = (h, k)
none-below-insert w (x ∷ xs) y ys h k = (k.0, none-below-insert w xs y ys h k.1)

none-below-remove : (w : ℕ) (xs : List (ℕ × ℕ)) (y : ℕ × ℕ) (ys : List (ℕ × ℕ)) → NoneBelow w (xs ++ y ∷ ys) → NoneBelow w (xs ++ ys)
none-below-remove w [] y ys k = k.1
none-below-remove w (x ∷ xs) y ys k = (k.0, none-below-remove w xs y ys k.1)

pub order-insert : (xs : List (ℕ × ℕ)) (y : ℕ × ℕ) (ys : List (ℕ × ℕ)) → NoneAbove y.1 xs → NoneBelow y.1 ys → InOrder (xs ++ ys) → InOrder (xs ++ y ∷ ys)
order-insert [] y ys a b o = (b, o)
order-insert (x ∷ xs) y ys a b o = (none-below-insert x.1 xs y ys a.0 o.0, order-insert xs y ys a.1 b o.1)

pub order-remove : (xs : List (ℕ × ℕ)) (y : ℕ × ℕ) (ys : List (ℕ × ℕ)) → InOrder (xs ++ y ∷ ys) → InOrder (xs ++ ys)
order-remove [] y ys o = o.1
order-remove (x ∷ xs) y ys o = (none-below-remove x.1 xs y ys o.0, order-remove xs y ys o.1)
