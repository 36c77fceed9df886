-- The lists that are read off a table are those that it holds.
use Rattle.std.proofs.Common.{◌≡◌, ◌∙◌, ℕ, zero, suc, ◌+◌, ◌-◌, ◌<◌, ◌≤◌, List, [], ◌∷◌, length, get_or, true, false, refl, arith}
use Rattle.std.specs.Prelude.{nat_lt}
use Rattle.std.proofs.lemmas.Bool.{lt-ltb, le-ltb}
use Rattle.std.proofs.lemmas.List.{ext_get_or}
use Rattle.std.proofs.lemmas.List.FromFn.{length-map-range_with_len, get_or-map-range_with_len}
use Rattle.ready_list.specs.Table.{node, walk, lists_of, Path, Holds}
use Rattle.ready_list.specs.declared.table.Node.{Node}
use Rattle.ready_list.proofs.Counts.{few, times-le-places}
use Rattle.ready_list.proofs.Paths.{owner-in}

walked : (k : ℕ) (t : List Node) (n l u : ℕ) (xs : List (ℕ × ℕ)) → length xs ≤ k → Path t n l u xs → walk k t n (node t u).next ≡ xs
walked zero t n l u [] h p = refl
walked zero t n l u (x ∷ xs) h p = absurd (omega arith)
walked (suc k) t n l u [] h p = rw p (let e : nat_lt (n + l) n ≡ false = le-ltb (n + l) n (omega arith) in rw e refl)
walked (suc k) t n l u (x ∷ xs) h p =
    let e : nat_lt x.0 n ≡ true = lt-ltb x.0 n p.1 in
    let r : walk k t n (node t x.0).next ≡ xs = walked k t n l x.0 xs (omega arith) p.4 in
    rw p.0 (rw e (rw (p.3, r) refl))

pub seen : (t : List Node) (n : ℕ) (ls : List (List (ℕ × ℕ))) → Holds t n ls → lists_of t n ≡ ls
seen t n ls h =
    let f : ℕ → List (ℕ × ℕ) = λ head. walk n t n (node t head).next in
    let len : length (lists_of t n) ≡ length ls = omega (arith, length-map-range_with_len f n (length t - n), h.size) in
    ext_get_or [] (lists_of t n) ls len (λ l hl.
    let ll : l < length ls = omega arith in
    let path = h.path l ll in
    let short : length (get_or ls l []) ≤ n = few n (get_or ls l []) (λ w. omega (arith, times-le-places w ls l, h.once w)) (λ w a. (owner-in t n l (n + l) w (get_or ls l []) path a).0) in
    get_or-map-range_with_len f n (length t - n) l (n + l) [] (omega (arith, h.size)) refl ∙ walked n t n l (n + l) (get_or ls l []) short path)
