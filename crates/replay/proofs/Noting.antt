-- A schedule to which steps are added one after another, and of which they are taken back.
use Rattle.std.proofs.Common.{inl, inr, ◌≡◌, ◌∙◌, ℕ, zero, suc, ◌+◌, ◌≤◌, Bool, true, false, List, [], ◌∷◌, ◌++◌, length, refl, sym, ap, subst, arith}
use Rattle.std.proofs.lemmas.List.{append-nil, length-append}
use Rattle.std.specs.Prelude.{◌*◌, replicate, take}
use Rattle.schedules.specs.Noting.{AllNoted, IsLonger, Notes}
use Rattle.schedules.specs.Schedules.{Act, AreEntries, Entry, IsAct, Schedule, bursts, longest_burst, picks, picks_main, shares, takes_ticket, with_entries, with_entry, works}
use Rattle.schedules.specs.declared.entry.Version.{Version}
use Rattle.schedules.specs.declared.entry.Version.TheVariants.{Second}
use Rattle.schedules.proofs.Bursts.{burst}
use Rattle.schedules.proofs.Recounting.{one_burst}
use Rattle.replay.specs.Striding.{Left, steps_in}
use Rattle.replay.specs.Tallies.{steps}

-- ---- added

pub noted_on : (q : ℕ) (ks ls : List Bool) (x y z : Schedule) → AllNoted q ks x y → AllNoted q ls y z → AllNoted q (ks ++ ls) x z
noted_on q [] ls x y z e h = subst (λ (w : Schedule). AllNoted q ls w z) (sym e) h
noted_on q (k ∷ ks) ls x y z n h = (n.0, n.1, noted_on q ks ls n.0 y z n.2 h)

longer : (q r c : ℕ) (z : Schedule) → 1 ≤ c → c + r ≤ longest_burst → AllNoted q (replicate r true) (with_entry z (burst q c)) (with_entry z (burst q (c + r)))
longer q zero c z l h = ap (λ (n : ℕ). with_entry z (burst q n)) (let e : c ≡ c + 0 = omega arith in e)
longer q (suc r) c z l h = (
  with_entry z (burst q (c + 1)),
  inr (record { before = z; count = c; some = l; few = omega (arith, h); was = refl; is = refl }),
  subst (λ (n : ℕ). AllNoted q (replicate r true) (with_entry z (burst q (c + 1))) (with_entry z (burst q n))) (let e : c + 1 + r ≡ c + suc r = omega arith in e)
      (longer q r (c + 1) z (omega arith) (omega (arith, h))),
)

-- a run of local instructions in the last entry, or in one of its own
pub run_longer : (q r : ℕ) (x y : Schedule) → IsLonger q r x y → AllNoted q (replicate r true) x y
run_longer q r x y l =
    subst (λ (v : Schedule). AllNoted q (replicate r true) v y) (sym l.was)
    (subst (λ (v : Schedule). AllNoted q (replicate r true) (with_entry l.before (burst q l.count)) v) (sym l.is) (longer q r l.count l.before l.some l.few))

pub run_alone : (q r : ℕ) (x y : Schedule) → 1 ≤ r → r ≤ longest_burst → y ≡ with_entry x (record { processor = q; act = works r }) → AllNoted q (replicate r true) x y
run_alone q zero x y l h e = absurd (omega (arith, l))
run_alone q (suc r) x y l h e =
    let more : with_entry x (burst q (1 + r)) ≡ y = ap (λ (n : ℕ). with_entry x (burst q n)) (let f : 1 + r ≡ suc r = omega arith in f) ∙ sym e in
    (with_entry x (burst q 1), inl refl, subst (λ (v : Schedule). AllNoted q (replicate r true) (with_entry x (burst q 1)) v) more (longer q r 1 x (omega arith) (omega (arith, h))))

pub share_noted : (q : ℕ) (x y : Schedule) → y ≡ with_entry x (record { processor = q; act = shares }) → AllNoted q (false ∷ []) x y
share_noted q x y e = (y, e, refl)

-- ---- taken back

-- the last of them
pub noted_last : (q n : ℕ) (ks : List Bool) (x y : Schedule) → length ks ≡ suc n → AllNoted q ks x y → (z : Schedule) × (k : Bool) × AllNoted q (take n ks) x z × Notes q k z y
noted_last q n [] x y e h = absurd (omega (arith, e))
noted_last q zero (k ∷ []) x y e h = (x, k, refl, subst (λ (v : Schedule). Notes q k x v) h.2 h.1)
noted_last q (suc n) (k ∷ []) x y e h = absurd (omega (arith, e))
noted_last q zero (k ∷ (l ∷ ks)) x y e h = absurd (omega (arith, e))
noted_last q (suc n) (k ∷ (l ∷ ks)) x y e h =
    let r = noted_last q n (l ∷ ks) h.0 y (omega (arith, e)) h.2 in
    (r.0, r.1, (h.0, h.1, r.2), r.3)

none_more : (x : Schedule) (es : List Entry) → es ≡ [] → with_entries x es ≡ x
none_more x es e = ap (λ (fs : List Entry). with_entries x fs) e ∙ ap (λ (fs : List Entry). record x { entries = fs }) (append-nil x.entries)

-- a schedule that is shortened is the one before the last step
pub shortened : (q : ℕ) (k : Bool) (z y new : Schedule) → ((x : Schedule) (i n : ℕ) → y ≡ with_entry x (record { processor = i; act = works (suc n) }) → new ≡ with_entries x (bursts i n))
    → ((x : Schedule) (i : ℕ) → y ≡ with_entry x (record { processor = i; act = shares }) → new ≡ x) → Notes q k z y → new ≡ z
shortened q false z y new bursts_back shares_back e = shares_back z q e
shortened q true z y new bursts_back shares_back (inl e) = bursts_back z q 0 e ∙ none_more z (bursts q 0) refl
shortened q true z y new bursts_back shares_back (inr l) =
    bursts_back l.before q l.count (l.is ∙ ap (λ (n : ℕ). with_entry l.before (burst q n)) (let e : l.count + 1 ≡ suc l.count = omega arith in e))
    ∙ ap (λ (es : List Entry). with_entries l.before es) (one_burst q l.count l.some (omega (arith, l.few))) ∙ sym l.was

take_less : {X : Type 0} (n : ℕ) (xs : List X) → take n (take (suc n) xs) ≡ take n xs
take_less zero xs = refl
take_less (suc n) [] = refl
take_less (suc n) (x ∷ xs) = ap (λ (ys : List _). x ∷ ys) (take_less n xs)

pub length_take : {X : Type 0} (n : ℕ) (xs : List X) → n ≤ length xs → length (take n xs) ≡ n
length_take zero xs h = refl
length_take (suc n) [] h = absurd (omega (arith, h))
length_take (suc n) (x ∷ xs) h = omega (arith, length_take n xs (omega (arith, h)))

pub take_all : {X : Type 0} (n : ℕ) (xs : List X) → length xs ≡ n → take n xs ≡ xs
take_all zero [] h = refl
take_all (suc n) [] h = refl
take_all zero (x ∷ xs) h = absurd (omega (arith, h))
take_all (suc n) (x ∷ xs) h = ap (λ (ys : List _). x ∷ ys) (take_all n xs (omega (arith, h)))

pub left_all : (n : ℕ) (x : Schedule) → Left n n x x
left_all n x w q ks e h = subst (λ (ls : List Bool). AllNoted q ls w x) (sym (take_all n ks e)) h

pub left_less : (planned left less : ℕ) (old y new : Schedule) → left ≡ suc less → left ≤ planned → Left planned left old y → ((x : Schedule) (i n : ℕ) → y ≡ with_entry x (record { processor = i; act = works (suc n) }) → new ≡ with_entries x (bursts i n))
    → ((x : Schedule) (i : ℕ) → y ≡ with_entry x (record { processor = i; act = shares }) → new ≡ x) → Left planned less old new
left_less planned left less old y new e l h bursts_back shares_back x q ks f n =
    let here : AllNoted q (take (suc less) ks) x y = subst (λ (i : ℕ). AllNoted q (take i ks) x y) e (h x q ks f n) in
    let r = noted_last q less (take (suc less) ks) x y (length_take (suc less) ks (omega (arith, e, f, l))) here in
    let same : new ≡ r.0 = shortened q r.1 r.0 y new bursts_back shares_back r.3 in
    subst (λ (v : Schedule). AllNoted q (take less ks) x v) (sym same) (subst (λ (ls : List Bool). AllNoted q ls x r.0) (take_less less ks) r.2)

-- ---- what stays, and how many steps there are

pub record SameHeader (x y : Schedule) : Type 0 where
  pub version : y.version ≡ x.version
  pub processors : y.processors ≡ x.processors
  pub slots : y.slots ≡ x.slots
  pub length_is : length x.entries ≤ length y.entries

with_header : (x y : Schedule) (es : List Entry) → y ≡ with_entries x es → SameHeader x y
with_header x y es e = record {
  version = ap (λ (z : Schedule). z.version) e;
  processors = ap (λ (z : Schedule). z.processors) e;
  slots = ap (λ (z : Schedule). z.slots) e;
  length_is = omega (arith, ap (λ (z : Schedule). length z.entries) e, length-append x.entries es);
}

one_header : (q : ℕ) (k : Bool) (x y : Schedule) → Notes q k x y → SameHeader x y
one_header q false x y e = with_header x y (record { processor = q; act = shares } ∷ []) e
one_header q true x y (inl e) = with_header x y (record { processor = q; act = works 1 } ∷ []) e
one_header q true x y (inr l) = record {
  version = ap (λ (z : Schedule). z.version) l.is ∙ sym (ap (λ (z : Schedule). z.version) l.was);
  processors = ap (λ (z : Schedule). z.processors) l.is ∙ sym (ap (λ (z : Schedule). z.processors) l.was);
  slots = ap (λ (z : Schedule). z.slots) l.is ∙ sym (ap (λ (z : Schedule). z.slots) l.was);
  length_is = omega (arith, ap (λ (z : Schedule). length z.entries) l.is, ap (λ (z : Schedule). length z.entries) l.was, length-append l.before.entries (burst q l.count ∷ []), length-append l.before.entries (burst q (l.count + 1) ∷ []));
}

pub same_header : (q : ℕ) (ks : List Bool) (x y : Schedule) → AllNoted q ks x y → SameHeader x y
same_header q [] x y e = record {
  version = ap (λ (z : Schedule). z.version) (sym e);
  processors = ap (λ (z : Schedule). z.processors) (sym e);
  slots = ap (λ (z : Schedule). z.slots) (sym e);
  length_is = omega (arith, ap (λ (z : Schedule). length z.entries) e);
}
same_header q (k ∷ ks) x y n =
    let one = one_header q k x n.0 n.1 in
    let more = same_header q ks n.0 y n.2 in
    record {
      version = more.version ∙ one.version;
      processors = more.processors ∙ one.processors;
      slots = more.slots ∙ one.slots;
      length_is = omega (arith, one.length_is, more.length_is);
    }

steps_on : (es fs : List Entry) → steps_in (es ++ fs) ≡ steps_in es + steps_in fs
steps_on [] fs = omega arith
steps_on (e ∷ es) fs = omega (arith, steps_on es fs)

steps_with : (x y : Schedule) (e : Entry) → y ≡ with_entry x e → steps_in y.entries ≡ steps_in x.entries + steps e.act
steps_with x y e h = omega (arith, ap (λ (z : Schedule). steps_in z.entries) h, steps_on x.entries (e ∷ []))

one_more : (q : ℕ) (k : Bool) (x y : Schedule) → Notes q k x y → steps_in y.entries ≡ steps_in x.entries + 1
one_more q false x y e = steps_with x y (record { processor = q; act = shares }) e
one_more q true x y (inl e) = steps_with x y (record { processor = q; act = works 1 }) e
one_more q true x y (inr l) = omega (arith, steps_with l.before x (burst q l.count) l.was, steps_with l.before y (burst q (l.count + 1)) l.is)

pub steps_noted : (q : ℕ) (ks : List Bool) (x y : Schedule) → AllNoted q ks x y → steps_in y.entries ≡ steps_in x.entries + length ks
steps_noted q [] x y e = omega (arith, ap (λ (z : Schedule). steps_in z.entries) e)
steps_noted q (k ∷ ks) x y n = omega (arith, one_more q k x n.0 n.1, steps_noted q ks n.0 y n.2)

steps_few : (v : Version) (p : ℕ) (es : List Entry) → v ≡ Second → AreEntries v p es → steps_in es ≤ longest_burst * length es
steps_few v p [] s h = omega arith
steps_few v p (e ∷ es) s h = omega (arith, one e.act h.0.1, steps_few v p es s h.1)
  where
    one : (a : Act) → IsAct v a → steps a ≤ longest_burst
    one (works n) i = i.1
    one shares i = omega arith
    one picks_main i = omega arith
    one (picks k) i = omega arith
    one takes_ticket i = omega arith

pub few_steps : (x : Schedule) → x.version ≡ Second → AreEntries x.version x.processors x.entries → steps_in x.entries ≤ longest_burst * length x.entries
few_steps x s h = steps_few x.version x.processors x.entries s h
