-- Runs with one pair more.
use Rattle.std.proofs.Common.{◌≡◌, ◌∙◌, ◌+◌, ◌*◌, ◌≤◌, ℕ, zero, suc, true, ◌&&◌, List, [], ◌∷◌, ◌++◌, ap, append_assoc, append-nil, arith, length, refl, subst, sym}
use Rattle.std.specs.Prelude.{nat_lt}
use Rattle.std.proofs.lemmas.Bool.Decides.{nat_tests}
use Rattle.std.proofs.lemmas.List.{get_or_append_left}
use Rattle.std.proofs.lemmas.Bool.{and_parts, ltb-true}
use Rattle.dependence.specs.Runs.{are_numbered, relation_at, run, runs, stepped}
use Rattle.dependence.specs.declared.relation.Relation.{Relation}
use Rattle.dependence.specs.declared.relation.Relation.TheVariants.{Any}
use Rattle.dependence.specs.declared.run.Run.{Run}

pub one_more : (a b step n : ℕ) (r : Relation) → stepped a b step (suc n) r ≡ stepped a b step n r ++ (a, b + step * n, r) ∷ []
one_more a b step zero r =
    let here : b ≡ b + step * 0 = omega (arith) in
    ap (λ x. (a, x, r) ∷ []) here
one_more a b step (suc n) r =
    let behind : (b + step) + step * n ≡ b + step * suc n = omega (arith) in
    ap (λ xs. (a, b, r) ∷ xs) (one_more a (b + step) step n r ∙ ap (λ x. stepped a (b + step) step n r ++ (a, x, r) ∷ []) behind)

pub runs_more : (ks : List Relation) (rs : List Run) (r : Run) → runs ks (rs ++ r ∷ []) ≡ runs ks rs ++ run ks r
runs_more ks [] r = append-nil (run ks r)
runs_more ks (x ∷ rs) r = ap (λ ps. run ks x ++ ps) (runs_more ks rs r) ∙ sym (append_assoc (run ks x) (runs ks rs) (run ks r))

-- a run with the pair that continues it
pub lengthened : (ks : List Relation) (r : Run) (a b step relation : ℕ) → r.first ≡ a → r.relation ≡ relation
    → stepped r.first r.second step r.count (relation_at ks r.relation) ≡ run ks r → b ≡ r.second + step * r.count
    → stepped a r.second step (suc r.count) (relation_at ks relation) ≡ run ks r ++ (a, b, relation_at ks relation) ∷ []
lengthened ks r a b step relation e f same next =
    subst (λ x. stepped x r.second step (suc r.count) (relation_at ks relation) ≡ run ks r ++ (x, b, relation_at ks relation) ∷ []) e
    (subst (λ q. stepped r.first r.second step (suc r.count) (relation_at ks q) ≡ run ks r ++ (r.first, b, relation_at ks q) ∷ []) f
    (one_more r.first r.second step r.count (relation_at ks r.relation)
    ∙ ap (λ ps. ps ++ (r.first, r.second + step * r.count, relation_at ks r.relation) ∷ []) same
    ∙ ap (λ x. run ks r ++ (r.first, x, relation_at ks r.relation) ∷ []) (sym next)))

-- a last run is another
pub last_run : (ks : List Relation) (rs : List Run) (new old : Run) (ps : List (ℕ × ℕ × Relation)) → run ks new ≡ run ks old ++ ps → runs ks (rs ++ new ∷ []) ≡ runs ks (rs ++ old ∷ []) ++ ps
last_run ks rs new old ps e =
    runs_more ks rs new ∙ ap (λ xs. runs ks rs ++ xs) e ∙ sym (append_assoc (runs ks rs) (run ks old) ps) ∙ ap (λ xs. xs ++ ps) (sym (runs_more ks rs old))

-- ---- runs, and one relation more that they may have

still_below : (a n m : ℕ) → n ≤ m → nat_lt a n ≡ true → nat_lt a m ≡ true
still_below a n m l e = grind (arith, nat_tests, l, e)

pub still_numbered : (n m : ℕ) (rs : List Run) → n ≤ m → are_numbered n rs ≡ true → are_numbered m rs ≡ true
still_numbered n m [] l e = refl
still_numbered n m (r ∷ rs) l e =
    let two = and_parts (nat_lt r.relation n) (are_numbered n rs) e in
    ap (λ b. b && are_numbered m rs) (still_below r.relation n m l two.0) ∙ still_numbered n m rs l two.1

pub runs_kept : (ks : List Relation) (k : Relation) (rs : List Run) → are_numbered (length ks) rs ≡ true → runs (ks ++ k ∷ []) rs ≡ runs ks rs
runs_kept ks k [] e = refl
runs_kept ks k (r ∷ rs) e =
    let two = and_parts (nat_lt r.relation (length ks)) (are_numbered (length ks) rs) e in
    ap (λ q. stepped r.first r.second r.step r.count q ++ runs (ks ++ k ∷ []) rs) (get_or_append_left ks (k ∷ []) Any r.relation (ltb-true r.relation (length ks) two.0))
    ∙ ap (λ ps. run ks r ++ ps) (runs_kept ks k rs two.1)
