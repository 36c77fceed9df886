-- Putting shares one by one, each looked at for its room, is looking at the whole.
use Rattle.std.proofs.Common.{◌≡◌, ◌∙◌, ap, sym, refl, ℕ, List, [], ◌∷◌, map, length, arith}
use Rattle.std.proofs.lemmas.Bool.{le-leb, leb-true, ltb-true, ltb-false}
use Rattle.std.proofs.lemmas.Bool.Decides.{Decides-int_eq}
use Rattle.std.proofs.lemmas.List.{append-nil, append_assoc, length-append}
use Rattle.std.specs.Prelude.{ℤ, pos, ◌+◌, ◌≤◌, ◌<◌, ◌*ℤ◌, nat_le, nat_lt, not, ◌++◌, Bool, true, false, ◌&&◌, if◌then◌else◌, Option, Some, None}
use Rattle.std.specs.List.{list_all}
use Rattle.std.specs.Ordering.{int_eq}
use Rattle.ast.specs.Exact.{fits}
use Rattle.loop_tree.specs.Constants.{if_some}
use Rattle.subscripts.specs.Forms.{Form, Share, nonzero, most_shares, share_fits, shares_fit, in_room, total, total_share, new_share, others, total_form, times_share, times}
use Rattle.subscripts.specs.Steps.{fitted, form_by, form_with, put, put_each, total_step, times_step}

-- what is put behind others, as a whole
abbrev meant : ℕ → List Share → List Share → Option (List Share)
meant n ss ts = if list_all share_fits ts && nat_le (n + length ts) most_shares then Some (ss ++ ts) else None

none_false : (b : Bool) → b && false ≡ false
none_false true = refl
none_false false = refl

over : (n m : ℕ) → m < n → nat_le n m ≡ false
over n m h = by (nat_le n m) refl
  where
    by : (b : Bool) → nat_le n m ≡ b → b ≡ false
    by true e = absurd (let k = leb-true n m e in omega (arith, h, k))
    by false e = refl

not_below : (n m : ℕ) → nat_lt n m ≡ false → m ≤ n
not_below n m e = ltb-false n m e

zero_fits : (n : ℤ) → int_eq n (pos 0) ≡ true → fits n ≡ true
zero_fits n e = ap fits ((Decides-int_eq n (pos 0)).0 e)

-- a share that is put first, by whether it fits, is of factor 0, and finds room
abbrev first_put : Bool → Bool → Bool → List Share → Share → List Share → Option (List Share)
first_put false is_zero is_room ss t ts = None
first_put true true is_room ss t ts = put_each ss ts
first_put true false true ss t ts = put_each (ss ++ t ∷ []) ts
first_put true false false ss t ts = None

put_first : (ss : List Share) (t : Share) (ts : List Share) → put_each ss (t ∷ ts) ≡ first_put (fits t.factor) (int_eq t.factor (pos 0)) (nat_lt (length ss) most_shares) ss t ts
put_first ss t ts = by (fits t.factor) (λ n. put ss t.cell n) ∙ parts (fits t.factor) (int_eq t.factor (pos 0)) (nat_lt (length ss) most_shares)
  where
    by : (b : Bool) (f : ℤ → Option (List Share)) → if_some (if_some (if b then Some t.factor else None) f) (λ us. put_each us ts) ≡ (if b then if_some (f t.factor) (λ us. put_each us ts) else None)
    by true f = refl
    by false f = refl

    parts : (b c d : Bool) → (if b then if_some (if c then Some ss else (if d then Some (ss ++ t ∷ []) else None)) (λ us. put_each us ts) else None) ≡ first_put b c d ss t ts
    parts false c d = refl
    parts true true d = refl
    parts true false true = refl
    parts true false false = refl

pub put_law : (ss ts : List Share) → length ss ≤ most_shares → put_each ss ts ≡ meant (length ss) ss (nonzero ts)
put_law ss [] h =
    sym (ap (λ b. if b then Some (ss ++ []) else None) (le-leb (length ss + 0) most_shares (omega (arith, h))) ∙ ap (λ us. Some us) (append-nil ss))
put_law ss (t ∷ ts) h = put_first ss t ts ∙ by (fits t.factor) (int_eq t.factor (pos 0)) (nat_lt (length ss) most_shares) refl refl refl (put_law ss ts) (λ k. put_law (ss ++ t ∷ []) ts k) h
  where
    by : (b c d : Bool) → fits t.factor ≡ b → int_eq t.factor (pos 0) ≡ c → nat_lt (length ss) most_shares ≡ d
        → (length ss ≤ most_shares → put_each ss ts ≡ meant (length ss) ss (nonzero ts))
        → (length (ss ++ t ∷ []) ≤ most_shares → put_each (ss ++ t ∷ []) ts ≡ meant (length (ss ++ t ∷ [])) (ss ++ t ∷ []) (nonzero ts))
        → length ss ≤ most_shares
        → first_put b c d ss t ts ≡ meant (length ss) ss (if not c then t ∷ nonzero ts else nonzero ts)
    by false true d e f g more longer k = absurd (let z = zero_fits t.factor f in let y = sym z ∙ e in (cc))
    by false false d e f g more longer k = ap (λ (x : Bool). if (x && list_all share_fits (nonzero ts)) && nat_le (length ss + length (t ∷ nonzero ts)) most_shares then Some (ss ++ t ∷ nonzero ts) else None) (sym e)
    by true true d e f g more longer k = more k
    by true false true e f g more longer k =
        let room = ltb-true (length ss) most_shares g in
        let n = length-append ss (t ∷ []) in
        longer (omega (arith, room, n))
        ∙ ap (λ (m : ℕ). if list_all share_fits (nonzero ts) && nat_le m most_shares then Some ((ss ++ t ∷ []) ++ nonzero ts) else None) (let q : length (ss ++ t ∷ []) + length (nonzero ts) ≡ length ss + length (t ∷ nonzero ts) = omega (arith, n) in q)
        ∙ ap (λ us. if list_all share_fits (nonzero ts) && nat_le (length ss + length (t ∷ nonzero ts)) most_shares then Some us else None) (append_assoc ss (t ∷ []) (nonzero ts))
        ∙ ap (λ (x : Bool). if (x && list_all share_fits (nonzero ts)) && nat_le (length ss + length (t ∷ nonzero ts)) most_shares then Some (ss ++ t ∷ nonzero ts) else None) (sym e)
    by true false false e f g more longer k =
        let full = not_below (length ss) most_shares g in
        sym
        (ap (λ (x : Bool). if (fits t.factor && list_all share_fits (nonzero ts)) && x then Some (ss ++ t ∷ nonzero ts) else None) (over (length ss + length (t ∷ nonzero ts)) most_shares (omega (arith, full)))
        ∙ ap (λ (x : Bool). if x then Some (ss ++ t ∷ nonzero ts) else None) (none_false (fits t.factor && list_all share_fits (nonzero ts))))

-- a form by its parts, each looked at for its room
in_parts : (c k : ℤ) (ss : List Share) → form_with (fitted c) (fitted k) (if shares_fit ss then Some ss else None) ≡ in_room (form_by c k ss)
in_parts c k ss = by (fits c) (fits k) (shares_fit ss)
  where
    by : (x y z : Bool) → form_with (if x then Some c else None) (if y then Some k else None) (if z then Some ss else None) ≡ (if (x && y) && z then Some (form_by c k ss) else None)
    by false y z = refl
    by true false z = refl
    by true true false = refl
    by true true true = refl

-- one list behind another
put_both : (ss ts us : List Share) → if_some (put_each ss ts) (λ vs. put_each vs us) ≡ put_each ss (ts ++ us)
put_both ss [] us = refl
put_both ss (t ∷ ts) us =
    ap (λ z. if_some z (λ vs. put_each vs us)) (put_first ss t ts)
    ∙ by (fits t.factor) (int_eq t.factor (pos 0)) (nat_lt (length ss) most_shares) (put_both ss ts us) (put_both (ss ++ t ∷ []) ts us)
    ∙ sym (put_first ss t (ts ++ us))
  where
    by : (b c d : Bool) → if_some (put_each ss ts) (λ vs. put_each vs us) ≡ put_each ss (ts ++ us) → if_some (put_each (ss ++ t ∷ []) ts) (λ vs. put_each vs us) ≡ put_each (ss ++ t ∷ []) (ts ++ us)
        → if_some (first_put b c d ss t ts) (λ vs. put_each vs us) ≡ first_put b c d ss t (ts ++ us)
    by false c d h k = refl
    by true true d h k = h
    by true false true h k = k
    by true false false h k = refl

from_none : (ts : List Share) → meant 0 [] ts ≡ (if shares_fit ts then Some ts else None)
from_none ts = ap (λ (m : ℕ). if list_all share_fits ts && nat_le m most_shares then Some ts else None) (let e : 0 + length ts ≡ length ts = omega arith in e)

pub total_law : (minus : Bool) (f g : Form) → total_step minus f g ≡ in_room (total_form minus f g)
total_law minus f g =
    let ts = map (total_share minus g.shares) f.shares in
    let us = map (new_share minus) (others f.shares g.shares) in
    let c = total minus f.constant g.constant in
    let k = total minus f.coefficient g.coefficient in
    ap (λ ss. form_with (fitted c) (fitted k) ss) (put_both [] ts us ∙ put_law [] (ts ++ us) (omega arith) ∙ from_none (nonzero (ts ++ us)))
    ∙ in_parts c k (nonzero (ts ++ us))

pub times_law : (k : ℤ) (f : Form) → times_step k f ≡ in_room (times k f)
times_law k f =
    ap (λ ss. form_with (fitted (k *ℤ f.constant)) (fitted (k *ℤ f.coefficient)) ss) (put_law [] (map (times_share k) f.shares) (omega arith) ∙ from_none (nonzero (map (times_share k) f.shares)))
    ∙ in_parts (k *ℤ f.constant) (k *ℤ f.coefficient) (nonzero (map (times_share k) f.shares))
