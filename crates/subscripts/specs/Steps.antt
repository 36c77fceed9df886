-- An account of the code: shares are put into a form one by one.
use Rattle.std.specs.Prelude.{◌≡◌, ℕ, ℤ, pos, ◌*ℤ◌, nat_lt, Bool, if◌then◌else◌}
use Rattle.std.specs.Prelude.{List, [], ◌∷◌, ◌++◌, map, length, Option, Some, None}
use Rattle.std.specs.Ordering.{int_eq}
use Rattle.ast.specs.Exact.{fits}
use Rattle.loop_tree.specs.Constants.{if_some}
use Rattle.subscripts.specs.Forms.{Form, Share, has_share, most_shares, total}
use Rattle.subscripts.specs.Forms.{total_share, new_share, others, times_share}

abbrev pub fitted : ℤ → Option ℤ
fitted z = if fits z then Some z else None

abbrev pub put_nonzero : List Share → Share → Option (List Share)
put_nonzero ss s = if nat_lt (length ss) most_shares then Some (ss ++ s ∷ []) else None

abbrev pub put : List Share → ℕ → ℤ → Option (List Share)
put ss c n = if int_eq n (pos 0) then Some ss else put_nonzero ss (record { cell = c; factor = n })

abbrev pub put_fitted : List Share → Share → Option (List Share)
put_fitted ss s = if_some (fitted s.factor) (λ n. put ss s.cell n)

abbrev pub put_each : List Share → List Share → Option (List Share)
put_each ss [] = Some ss
put_each ss (t ∷ ts) = if_some (put_fitted ss t) (λ us. put_each us ts)

-- one of the second's shares, unless the first has one of its scalar
abbrev pub put_new : Bool → List Share → List Share → Share → Option (List Share)
put_new minus fs ss s = if has_share s.cell fs then Some ss else put_fitted ss (new_share minus s)

-- the shares of a sum or a difference
abbrev pub put_sums : Bool → List Share → List Share → Option (List Share)
put_sums minus fs gs =
    if_some (put_each [] (map (total_share minus gs) fs))
    (λ ss. put_each ss (map (new_share minus) (others fs gs)))

-- A call that answered so left what is meant.
abbrev pub Left : {T : Type 0} → Option (Unit {0}) → T → Option T → Type 0
Left None left meant = meant ≡ None
Left (Some done) left meant = meant ≡ Some left

abbrev pub form_by : ℤ → ℤ → List Share → Form
form_by c k ss = record { constant = c; coefficient = k; shares = ss }

abbrev pub form_with : Option ℤ → Option ℤ → Option (List Share) → Option Form
form_with c k ss = if_some c (λ n. if_some k (λ m. if_some ss (λ ts. Some (form_by n m ts))))

abbrev pub total_step : Bool → Form → Form → Option Form
total_step minus f g =
    form_with (fitted (total minus f.constant g.constant))
    (fitted (total minus f.coefficient g.coefficient)) (put_sums minus f.shares g.shares)

abbrev pub times_step : ℤ → Form → Option Form
times_step k f =
    form_with (fitted (k *ℤ f.constant)) (fitted (k *ℤ f.coefficient))
    (put_each [] (map (times_share k) f.shares))
