-- An await that is told of needn't wait.
use Rattle.std.proofs.Common.{◌≡◌, ◌∙◌, ℕ, zero, suc, ◌+◌, ◌-◌, ◌<◌, ◌≤◌, Bool, true, false, List, Option, Some, None, refl, sym, ap, subst, get_or, length, arith}
use Rattle.std.specs.Prelude.{nat_lt, if◌then◌else◌}
use Rattle.std.proofs.lemmas.Bool.{lt-ltb, ltb-false, ltb-true}
use Rattle.std.proofs.lemmas.List.{get_or_past}
use Rattle.ast.specs.Store.{StoreOf}
use Rattle.machine.specs.Code.{Code}
use Rattle.machine.specs.Frame.{Frame}
use Rattle.machine.specs.Local.{and_then}
use Rattle.machine.specs.Strides.{Held, Passed, gone_past, stride_past, strides_past}
use Rattle.machine.specs.View.{View, awaiting, doing, loading, storing, view}
use Rattle.machine.specs.declared.code.Open.{Open}
use Rattle.stretches.specs.Reached.{AreReached, passes}
use Rattle.stretches.proofs.Appending.{and_both}
use Rattle.activities.specs.Parts.{counts_of}
use Rattle.activities.specs.Told.{is_told}
use Rattle.activities.proofs.Maps.{count_is}

pub told_by : (counts : List ℕ) (k e d r : ℕ) → (e ≡ 0 → ⊥) → d ≤ k → r ≡ get_or counts e 0 → nat_lt (k - d) r ≡ true → is_told counts k e d ≡ true
told_by counts k e d r some near is h =
    let c : counts_of counts e ≡ get_or counts e 0 = count_is counts e some in
    lt-ltb k (counts_of counts e + d) (omega (arith, near, is, c, ltb-true (k - d) r h))

-- what is passed by counts that were seen is told of where these are reached
pub reached_told : (seen counts : List ℕ) (k e d : ℕ) → AreReached seen counts → passes seen k e d ≡ true → is_told counts k e d ≡ true
reached_told seen counts k e d reached h =
    let b = and_both (nat_lt 0 e) (nat_lt k (get_or seen e 0 + d)) h in
    let some : 0 < e = ltb-true 0 e b.0 in
    let c : counts_of counts e ≡ get_or counts e 0 = count_is counts e (λ z. omega (arith, z, some)) in
    lt-ltb k (counts_of counts e + d) (omega (arith, reached e, c, ltb-true k (get_or seen e 0 + d) b.1))

-- where more is passed, what was made is made
gone_more : (ok more : Passed) → ((e d : ℕ) → ok e d ≡ true → more e d ≡ true) → (v : View Frame Open) (x : StoreOf) (b : Held) → gone_past ok v x ≡ Some b → gone_past more v x ≡ Some b
gone_more ok more all (doing g) x b h = h
gone_more ok more all (loading c φ) x b h = h
gone_more ok more all (storing c v g) x b h = h
gone_more ok more all (awaiting e d g) x b h = by (ok e d) refl h
  where
    there : Option Held
    there = Some (record { frame = g; store = x })

    by : (t : Bool) → ok e d ≡ t → (if t then there else None) ≡ Some b → (if more e d then there else None) ≡ Some b
    by true i j = ap (λ (t : Bool). if t then there else None) (all e d i) ∙ j
    by false i j = cc
gone_more ok more all _ x b h = cc

pub strides_more : (ok more : Passed) → ((e d : ℕ) → ok e d ≡ true → more e d ≡ true) → (code : Code) (n : ℕ) (a b : Held) → strides_past ok code n a ≡ Some b → strides_past more code n a ≡ Some b
strides_more ok more all code zero a b e = e
strides_more ok more all code (suc n) a b e = by (stride_past ok code a) refl e (λ x i. strides_more ok more all code n x b i)
  where
    by : (o : Option Held) → stride_past ok code a ≡ o → and_then o (λ x. strides_past ok code n x) ≡ Some b → ((x : Held) → strides_past ok code n x ≡ Some b → strides_past more code n x ≡ Some b) → and_then (stride_past more code a) (λ x. strides_past more code n x) ≡ Some b
    by None h i rest = cc
    by (Some x) h i rest = ap (λ (o : Option Held). and_then o (λ y. strides_past more code n y)) (gone_more ok more all (view code a.frame) a.store x h) ∙ rest x i

-- one count more that is reached
pub reached_more : (seen counts : List ℕ) (n : ℕ) → ((e : ℕ) → e < n → get_or seen e 0 ≤ get_or counts e 0) → get_or seen n 0 ≤ get_or counts n 0 → (e : ℕ) → e < n + 1 → get_or seen e 0 ≤ get_or counts e 0
reached_more seen counts n before last e h = by (nat_lt e n) refl
  where
    by : (t : Bool) → nat_lt e n ≡ t → get_or seen e 0 ≤ get_or counts e 0
    by true i = before e (ltb-true e n i)
    by false i =
        let same : e ≡ n = omega (arith, h, ltb-false e n i) in
        subst (λ (m : ℕ). get_or seen m 0 ≤ get_or counts m 0) (sym same) last

-- behind the last that was seen there is nothing to reach
pub reached_all : (seen counts : List ℕ) (n : ℕ) → ((e : ℕ) → e < n → get_or seen e 0 ≤ get_or counts e 0) → length seen ≤ n → AreReached seen counts
reached_all seen counts n before h e = by (nat_lt e n) refl
  where
    by : (t : Bool) → nat_lt e n ≡ t → get_or seen e 0 ≤ get_or counts e 0
    by true i = before e (ltb-true e n i)
    by false i =
        let none : get_or seen e 0 ≡ 0 = get_or_past seen e 0 (omega (arith, h, ltb-false e n i)) in
        omega (arith, none)
