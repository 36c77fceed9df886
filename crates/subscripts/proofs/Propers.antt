-- Adding a number or a scalar in place is adding its form.
use Rattle.std.proofs.Common.{◌≡◌, ◌∙◌, ap, sym, refl, subst, ℕ, List, [], ◌∷◌, map, length, arith, true≢false}
use Rattle.std.proofs.lemmas.Int.{ints}
use Rattle.std.proofs.lemmas.Bool.{le-leb, leb-true, ltb-true, ltb-false}
use Rattle.std.proofs.lemmas.List.{append-nil, length-append}
use Rattle.std.proofs.lemmas.List.Folds.{list_all-append}
use Rattle.std.specs.Prelude.{IfSome, ℤ, pos, ◌+◌, nat_le, nat_lt, not, ◌++◌, ◌==◌, ◌||◌, Bool, true, false, ◌&&◌, if◌then◌else◌, Option, Some, None}
use Rattle.std.specs.List.{list_all}
use Rattle.std.proofs.lemmas.Option.{none-some, same_Some}
use Rattle.ast.specs.Exact.{fits}
use Rattle.ast.specs.declared.expression.Operator.{Operator}
use Rattle.ast.specs.declared.expression.Operator.TheVariants.{Add, Subtract, Multiply, Divide, Less, LessOrEqual, Equal, NotEqual, Greater, GreaterOrEqual, And, Or, Equivalent, NotEquivalent}
use Rattle.loop_tree.specs.Constants.{if_some}
use Rattle.loop_tree.specs.Loops.{Loop}
use Rattle.subscripts.specs.Proper.{IsProper, IsProperLeaf, Once}
use Rattle.subscripts.specs.Forms.{Form, Share, binary_form, factor_in, has_room, has_share, in_room, is_constant, is_nonzero, is_variable, most_shares, new_share, nonzero, number_form, other_form, others, product, scalar_form, share_fits, share_varying, shares_fit, times, times_share, total, total_form, total_of, total_share, variable_form, varies}
use Rattle.subscripts.specs.Leaves.{leaf_form}
use Rattle.subscripts.specs.Steps.{Left, fitted, form_by, put}
use Rattle.subscripts.specs.declared.leaf.Leaf.{Leaf}
use Rattle.subscripts.specs.declared.leaf.Leaf.TheVariants.{Number, Scalar}
use Rattle.subscripts.proofs.Sums.{once_times, once_total, turned}

-- ---- what is added to nothing, or nothing to what

total_zero : (minus : Bool) (a : ℤ) → total minus a (pos 0) ≡ a
total_zero false a = omega (arith, ints)
total_zero true a = omega (arith, ints)

-- a scalar once
abbrev pub one : ℕ → List Share
one c = record { cell = c; factor = pos 1 } ∷ []

kept_share : (minus : Bool) (gs : List Share) (s : Share) → factor_in gs s.cell ≡ pos 0 → total_share minus gs s ≡ s
kept_share minus gs s e = ap (λ n. record { cell = s.cell; factor = n }) (ap (λ n. total minus s.factor n) e ∙ total_zero minus s.factor)

kept_without : (minus : Bool) (fs : List Share) → map (total_share minus []) fs ≡ fs
kept_without minus [] = refl
kept_without minus (s ∷ fs) =
    ap (λ t. t ∷ map (total_share minus []) fs) (kept_share minus [] s refl)
    ∙ ap (λ ts. s ∷ ts) (kept_without minus fs)

not_one : (c d : ℕ) → (d == c) ≡ false → factor_in (one c) d ≡ pos 0
not_one c d e = ap (λ (b : Bool). if b then pos 1 else pos 0) (turned d c false e)

kept_beside : (minus : Bool) (c : ℕ) (fs : List Share) → has_share c fs ≡ false → map (total_share minus (one c)) fs ≡ fs
kept_beside minus c [] h = refl
kept_beside minus c (s ∷ fs) h = by (s.cell == c) refl h (λ k. kept_beside minus c fs k)
  where
    by : (b : Bool) → (s.cell == c) ≡ b → (b || has_share c fs) ≡ false → (has_share c fs ≡ false → map (total_share minus (one c)) fs ≡ fs) → map (total_share minus (one c)) (s ∷ fs) ≡ s ∷ fs
    by true e k more = absurd (true≢false k)
    by false e k more =
        ap (λ t. t ∷ map (total_share minus (one c)) fs) (kept_share minus (one c) s (not_one c s.cell e))
        ∙ ap (λ ts. s ∷ ts) (more k)

no_others_vary : (l : Loop) (fs : List Share) → share_varying l fs [] ≡ false
no_others_vary l [] = refl
no_others_vary l (s ∷ fs) = by (varies l s.cell) (no_others_vary l fs)
  where
    by : (b : Bool) → share_varying l fs [] ≡ false → ((b && false) || share_varying l fs []) ≡ false
    by true h = h
    by false h = h

not_shared : (l : Loop) (c : ℕ) (fs : List Share) → has_share c fs ≡ false → share_varying l fs (one c) ≡ false
not_shared l c [] h = refl
not_shared l c (s ∷ fs) h = by (s.cell == c) refl h (λ k. not_shared l c fs k)
  where
    rest : (b : Bool) → (c == s.cell) ≡ false → share_varying l fs (one c) ≡ false → ((b && ((c == s.cell) || false)) || share_varying l fs (one c)) ≡ false
    rest true e h = ap (λ (x : Bool). (x || false) || share_varying l fs (one c)) e ∙ h
    rest false e h = h

    by : (b : Bool) → (s.cell == c) ≡ b → (b || has_share c fs) ≡ false → (has_share c fs ≡ false → share_varying l fs (one c) ≡ false)
        → ((varies l s.cell && ((c == s.cell) || false)) || share_varying l fs (one c)) ≡ false
    by true e k more = absurd (true≢false k)
    by false e k more = rest (varies l s.cell) (turned s.cell c false e) (more k)

apart_total : (l : Loop) (minus : Bool) (f g : Form) → share_varying l f.shares g.shares ≡ false → total_of l minus f g ≡ in_room (total_form minus f g)
apart_total l minus f g e = ap (λ (b : Bool). if b then None else in_room (total_form minus f g)) e

-- a form without shares is added by its numbers
pub plain_total : (l : Loop) (minus : Bool) (f g : Form) → g.shares ≡ [] → total_of l minus f g ≡ in_room (total_form minus f g)
plain_total l minus f g e = apart_total l minus f g (ap (λ gs. share_varying l f.shares gs) e ∙ no_others_vary l f.shares)

-- ---- shares of a proper form

nonzero_all : (ss : List Share) → list_all is_nonzero ss ≡ true → nonzero ss ≡ ss
nonzero_all [] h = refl
nonzero_all (s ∷ ss) h = by (is_nonzero s) h (λ k. nonzero_all ss k)
  where
    by : (b : Bool) → (b && list_all is_nonzero ss) ≡ true → (list_all is_nonzero ss ≡ true → nonzero ss ≡ ss) → (if b then s ∷ nonzero ss else nonzero ss) ≡ s ∷ ss
    by true k more = ap (λ ts. s ∷ ts) (more k)
    by false k more = absurd (true≢false (sym k))

all_nonzero : (ss : List Share) → list_all is_nonzero (nonzero ss) ≡ true
all_nonzero [] = refl
all_nonzero (s ∷ ss) = by (is_nonzero s) refl (all_nonzero ss)
  where
    by : (b : Bool) → is_nonzero s ≡ b → list_all is_nonzero (nonzero ss) ≡ true → list_all is_nonzero (if b then s ∷ nonzero ss else nonzero ss) ≡ true
    by true e h = ap (λ (x : Bool). x && list_all is_nonzero (nonzero ss)) e ∙ h
    by false e h = h

both_left : (a b : Bool) → a && b ≡ true → a ≡ true
both_left true b h = refl
both_left false b h = absurd (true≢false (sym h))

both_right : (a b : Bool) → a && b ≡ true → b ≡ true
both_right true b h = h
both_right false b h = absurd (true≢false (sym h))

coefficient_fits : (f : Form) → has_room f ≡ true → fits f.coefficient ≡ true
coefficient_fits f h = both_right (fits f.constant) (fits f.coefficient) (both_left (fits f.constant && fits f.coefficient) (shares_fit f.shares) h)

constant_fits : (f : Form) → has_room f ≡ true → fits f.constant ≡ true
constant_fits f h = both_left (fits f.constant) (fits f.coefficient) (both_left (fits f.constant && fits f.coefficient) (shares_fit f.shares) h)

all_fit : (f : Form) → has_room f ≡ true → shares_fit f.shares ≡ true
all_fit f h = both_right (fits f.constant && fits f.coefficient) (shares_fit f.shares) h

-- ---- numbers and the loop's variable

shares_kept : (minus : Bool) (fs : List Share) → list_all is_nonzero fs ≡ true → nonzero (map (total_share minus []) fs ++ []) ≡ fs
shares_kept minus fs h = ap nonzero (append-nil (map (total_share minus []) fs) ∙ kept_without minus fs) ∙ nonzero_all fs h

number_room : (c : ℤ) (f : Form) → has_room f ≡ true → in_room (form_by c f.coefficient f.shares) ≡ if_some (fitted c) (λ n. Some (form_by n f.coefficient f.shares))
number_room c f h =
    ap (λ (x : Bool). if (fits c && x) && shares_fit f.shares then Some (form_by c f.coefficient f.shares) else None) (coefficient_fits f h)
    ∙ ap (λ (x : Bool). if (fits c && true) && x then Some (form_by c f.coefficient f.shares) else None) (all_fit f h)
    ∙ by (fits c)
  where
    by : (x : Bool) → (if (x && true) && true then Some (form_by c f.coefficient f.shares) else None) ≡ if_some (if x then Some c else None) (λ n. Some (form_by n f.coefficient f.shares))
    by true = refl
    by false = refl

variable_room : (k : ℤ) (f : Form) → has_room f ≡ true → in_room (form_by f.constant k f.shares) ≡ if_some (fitted k) (λ n. Some (form_by f.constant n f.shares))
variable_room k f h =
    ap (λ (x : Bool). if (x && fits k) && shares_fit f.shares then Some (form_by f.constant k f.shares) else None) (constant_fits f h)
    ∙ ap (λ (x : Bool). if fits k && x then Some (form_by f.constant k f.shares) else None) (all_fit f h)
    ∙ by (fits k)
  where
    by : (x : Bool) → (if x && true then Some (form_by f.constant k f.shares) else None) ≡ if_some (if x then Some k else None) (λ n. Some (form_by f.constant n f.shares))
    by true = refl
    by false = refl

pub number_law : (minus : Bool) (f : Form) (n : ℤ) → IsProper f
    → in_room (total_form minus f (number_form n)) ≡ if_some (fitted (total minus f.constant n)) (λ c. Some (form_by c f.coefficient f.shares))
number_law minus f n p =
    ap (λ k. in_room (form_by (total minus f.constant n) k (nonzero (map (total_share minus []) f.shares ++ [])))) (total_zero minus f.coefficient)
    ∙ ap (λ ss. in_room (form_by (total minus f.constant n) f.coefficient ss)) (shares_kept minus f.shares p.nonzero)
    ∙ number_room (total minus f.constant n) f p.room

pub variable_law : (minus : Bool) (f : Form) → IsProper f
    → in_room (total_form minus f variable_form) ≡ if_some (fitted (total minus f.coefficient (pos 1))) (λ k. Some (form_by f.constant k f.shares))
variable_law minus f p =
    ap (λ c. in_room (form_by c (total minus f.coefficient (pos 1)) (nonzero (map (total_share minus []) f.shares ++ [])))) (total_zero minus f.constant)
    ∙ ap (λ ss. in_room (form_by f.constant (total minus f.coefficient (pos 1)) ss)) (shares_kept minus f.shares p.nonzero)
    ∙ variable_room (total minus f.coefficient (pos 1)) f p.room

-- ---- another scalar

-- what is put behind
abbrev behind : Bool → ℕ → Share
behind minus c = record { cell = c; factor = total minus (pos 0) (pos 1) }

behind_nonzero : (minus : Bool) (c : ℕ) → is_nonzero (behind minus c) ≡ true
behind_nonzero false c = refl
behind_nonzero true c = refl

behind_fits : (minus : Bool) (c : ℕ) → fits (behind minus c).factor ≡ true
behind_fits false c = refl
behind_fits true c = refl

others_one : (c : ℕ) (fs : List Share) → has_share c fs ≡ false → others fs (one c) ≡ one c
others_one c fs h = ap (λ (b : Bool). if not b then one c else []) h

shares_behind : (minus : Bool) (c : ℕ) (fs : List Share) → list_all is_nonzero fs ≡ true → has_share c fs ≡ false
    → nonzero (map (total_share minus (one c)) fs ++ map (new_share minus) (others fs (one c))) ≡ fs ++ behind minus c ∷ []
shares_behind minus c fs h e =
    ap (λ ts. nonzero (ts ++ map (new_share minus) (others fs (one c)))) (kept_beside minus c fs e)
    ∙ ap (λ os. nonzero (fs ++ map (new_share minus) os)) (others_one c fs e)
    ∙ nonzero_all (fs ++ behind minus c ∷ []) (list_all-append is_nonzero fs (behind minus c ∷ []) ∙ ap (λ (x : Bool). x && (is_nonzero (behind minus c) && true)) h ∙ ap (λ (x : Bool). x && true) (behind_nonzero minus c))

-- there is room for one more
room_behind : (n m : ℕ) → m ≡ n + 1 → nat_le m most_shares ≡ nat_lt n most_shares
room_behind n m e = by (nat_lt n most_shares) refl
  where
    by : (b : Bool) → nat_lt n most_shares ≡ b → nat_le m most_shares ≡ b
    by true h = le-leb m most_shares (let k = ltb-true n most_shares h in omega (arith, e, k))
    by false h = none (nat_le m most_shares) refl
      where
        none : (x : Bool) → nat_le m most_shares ≡ x → x ≡ false
        none true q = absurd (let k = ltb-false n most_shares h in let j = leb-true m most_shares q in omega (arith, e, k, j))
        none false q = refl

fit_behind : (minus : Bool) (c : ℕ) (f : Form) → has_room f ≡ true → shares_fit (f.shares ++ behind minus c ∷ []) ≡ nat_lt (length f.shares) most_shares
fit_behind minus c f h =
    ap (λ (x : Bool). x && nat_le (length (f.shares ++ behind minus c ∷ [])) most_shares)
    (list_all-append share_fits f.shares (behind minus c ∷ [])
    ∙ ap (λ (x : Bool). x && (fits (behind minus c).factor && true)) (both_left (list_all share_fits f.shares) (nat_le (length f.shares) most_shares) (all_fit f h))
    ∙ ap (λ (x : Bool). x && true) (behind_fits minus c))
    ∙ room_behind (length f.shares) (length (f.shares ++ behind minus c ∷ [])) (length-append f.shares (behind minus c ∷ []))

put_behind : (minus : Bool) (c : ℕ) (ss : List Share) → put ss c (total minus (pos 0) (pos 1)) ≡ (if nat_lt (length ss) most_shares then Some (ss ++ behind minus c ∷ []) else None)
put_behind false c ss = refl
put_behind true c ss = refl

behind_room : (minus : Bool) (c : ℕ) (f : Form) → has_room f ≡ true
    → in_room (form_by f.constant f.coefficient (f.shares ++ behind minus c ∷ [])) ≡ if_some (put f.shares c (total minus (pos 0) (pos 1))) (λ ss. Some (form_by f.constant f.coefficient ss))
behind_room minus c f h =
    ap (λ (x : Bool). if x && shares_fit (f.shares ++ behind minus c ∷ []) then Some whole else None) (both_left (fits f.constant && fits f.coefficient) (shares_fit f.shares) h)
    ∙ ap (λ (x : Bool). if x then Some whole else None) (fit_behind minus c f h)
    ∙ by (nat_lt (length f.shares) most_shares)
    ∙ sym (ap (λ o. if_some o (λ ss. Some (form_by f.constant f.coefficient ss))) (put_behind minus c f.shares))
  where
    whole : Form
    whole = form_by f.constant f.coefficient (f.shares ++ behind minus c ∷ [])

    by : (x : Bool) → (if x then Some whole else None) ≡ if_some (if x then Some (f.shares ++ behind minus c ∷ []) else None) (λ ss. Some (form_by f.constant f.coefficient ss))
    by true = refl
    by false = refl

pub other_law : (l : Loop) (minus : Bool) (f : Form) (c : ℕ) → IsProper f → has_share c f.shares ≡ false
    → total_of l minus f (other_form c) ≡ if_some (put f.shares c (total minus (pos 0) (pos 1))) (λ ss. Some (form_by f.constant f.coefficient ss))
other_law l minus f c p e =
    apart_total l minus f (other_form c) (not_shared l c f.shares e)
    ∙ ap (λ x. in_room (form_by x (total minus f.coefficient (pos 0)) (nonzero (map (total_share minus (one c)) f.shares ++ map (new_share minus) (others f.shares (one c)))))) (total_zero minus f.constant)
    ∙ ap (λ x. in_room (form_by f.constant x (nonzero (map (total_share minus (one c)) f.shares ++ map (new_share minus) (others f.shares (one c)))))) (total_zero minus f.coefficient)
    ∙ ap (λ ss. in_room (form_by f.constant f.coefficient ss)) (shares_behind minus c f.shares p.nonzero e)
    ∙ behind_room minus c f p.room

-- ---- what is made of proper forms is proper

in_room_proper : (f h : Form) → Once f.shares → list_all is_nonzero f.shares ≡ true → in_room f ≡ Some h → IsProper h
in_room_proper f h o n e = by (has_room f) refl e
  where
    by : (b : Bool) → has_room f ≡ b → (if b then Some f else None) ≡ Some h → IsProper h
    by true r k = subst (λ g. IsProper g) (same_Some f h k) (record { once = o; nonzero = n; room = r })
    by false r k = absurd (none-some h k)

pub total_proper : (minus : Bool) (f g h : Form) → Once f.shares → Once g.shares → in_room (total_form minus f g) ≡ Some h → IsProper h
total_proper minus f g h o p e =
    in_room_proper (total_form minus f g) h (once_total minus f.shares g.shares o p)
    (all_nonzero (map (total_share minus g.shares) f.shares ++ map (new_share minus) (others f.shares g.shares))) e

total_of_proper : (l : Loop) (minus : Bool) (f g h : Form) → IsProper f → IsProper g → total_of l minus f g ≡ Some h → IsProper h
total_of_proper l minus f g h p q e = by (share_varying l f.shares g.shares) e
  where
    by : (b : Bool) → (if b then None else in_room (total_form minus f g)) ≡ Some h → IsProper h
    by true k = absurd (none-some h k)
    by false k = total_proper minus f g h p.once q.once k

times_proper : (k : ℤ) (f h : Form) → IsProper f → in_room (times k f) ≡ Some h → IsProper h
times_proper k f h p e = in_room_proper (times k f) h (once_times k f.shares p.once) (all_nonzero (map (times_share k) f.shares)) e

product_proper : (f g h : Form) → IsProper f → IsProper g → product f g ≡ Some h → IsProper h
product_proper f g h p q e = by (is_constant f) (is_constant g) e
  where
    by : (b d : Bool) → (if b then in_room (times f.constant g) else if d then in_room (times g.constant f) else None) ≡ Some h → IsProper h
    by true d k = times_proper f.constant g h q k
    by false true k = times_proper g.constant f h p k
    by false false k = absurd (none-some h k)

pub binary_proper : (l : Loop) (o : Operator) (f g h : Form) → IsProper f → IsProper g → binary_form l o f g ≡ Some h → IsProper h
binary_proper l Add f g h p q e = total_of_proper l false f g h p q e
binary_proper l Subtract f g h p q e = total_of_proper l true f g h p q e
binary_proper l Multiply f g h p q e = product_proper f g h p q e
binary_proper l Divide f g h p q e = absurd (none-some h e)
binary_proper l Less f g h p q e = absurd (none-some h e)
binary_proper l LessOrEqual f g h p q e = absurd (none-some h e)
binary_proper l Equal f g h p q e = absurd (none-some h e)
binary_proper l NotEqual f g h p q e = absurd (none-some h e)
binary_proper l Greater f g h p q e = absurd (none-some h e)
binary_proper l GreaterOrEqual f g h p q e = absurd (none-some h e)
binary_proper l And f g h p q e = absurd (none-some h e)
binary_proper l Or f g h p q e = absurd (none-some h e)
binary_proper l Equivalent f g h p q e = absurd (none-some h e)
binary_proper l NotEquivalent f g h p q e = absurd (none-some h e)

pub number_proper : (n : ℤ) → fits n ≡ true → IsProper (number_form n)
number_proper n e = record { once = tt; nonzero = refl; room = ap (λ (x : Bool). (x && true) && true) e }

scalar_proper : (l : Loop) (c : ℕ) → IsProper (scalar_form l c)
scalar_proper l c = by (is_variable l c)
  where
    by : (b : Bool) → IsProper (if b then variable_form else other_form c)
    by true = record { once = tt; nonzero = refl; room = refl }
    by false = record { once = (refl, tt); nonzero = refl; room = refl }

pub leaf_proper : (l : Loop) (x : Leaf) → IsProperLeaf x → IsProper (leaf_form l x)
leaf_proper l (Number n) h = number_proper n h
leaf_proper l (Scalar c) h = scalar_proper l c

-- ---- what calls have left

pub left_same : {T : Type 0} → (r : Option (Unit {0})) (left : T) (o p : Option T) → p ≡ o → Left r left o → Left r left p
left_same None left o p e h = e ∙ h
left_same (Some done) left o p e h = e ∙ h

pub left_then : {S T : Type 0} → (r : Option (Unit {0})) (left : S) (o : Option S) (next : S → T) → Left r left o → Left r (next left) (if_some o (λ x. Some (next x)))
left_then None left o next h = ap (λ z. if_some z (λ x. Some (next x))) h
left_then (Some done) left o next h = ap (λ z. if_some z (λ x. Some (next x))) h

-- what is left of a proper form is proper
pub left_proper : (l : Loop) (o : Operator) (f g h : Form) (r : Option (Unit {0})) → IsProper f → IsProper g → Left r h (binary_form l o f g) → IfSome r (λ done. IsProper h)
left_proper l o f g h None p q e = tt
left_proper l o f g h (Some done) p q e = binary_proper l o f g h p q e

pub negated_proper : (f h : Form) (r : Option (Unit {0})) → IsProper f → Left r h (in_room (total_form true (number_form (pos 0)) f)) → IfSome r (λ done. IsProper h)
negated_proper f h None p e = tt
negated_proper f h (Some done) p e = total_proper true (number_form (pos 0)) f h tt p.once e
