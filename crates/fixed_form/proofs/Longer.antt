-- The last statement of a list goes on.
use Rattle.std.proofs.Common.{◌≡◌, ℕ, ◌-◌, ◌<◌, ◌≤◌, Bool, List, [], ◌∷◌, ◌++◌, length, Result, Ok, Err, refl, sym, ap, ◌∙◌, arith, length-append}
use Rattle.std.specs.Prelude.{nat_le, if◌then◌else◌, slice_set, slice_index_or}
use Rattle.std.proofs.lemmas.Bool.{le-leb, lt-leb}
use Rattle.std.proofs.lemmas.List.{map-append}
use Rattle.std.proofs.Math.Seq.{get_or-append_seam, set-append_seam}
use Rattle.ast.specs.Answers.{Break}
use Rattle.ast.specs.declared.rule.Rule.TheVariants.{ManyContinuations}
use Rattle.fixed_form.specs.declared.labelled.Labelled.{Labelled}
use Rattle.fixed_form.specs.Line.{part_of}
use Rattle.fixed_form.specs.Lines.{Entry}
use Rattle.fixed_form.specs.Answers.{entry, entries}
use Rattle.fixed_form.specs.Steps.{broken, ◌>>=◌, longer, continued}
use Rattle.fixed_form.proofs.Snoc.{snoc}

after_one : (e : Entry) (es : List Entry) (r : Result Entry Break) → ((r >>= λ f. Ok (es ++ f ∷ [])) >>= λ fs. Ok (e ∷ fs)) ≡ (r >>= λ f. Ok ((e ∷ es) ++ f ∷ []))
after_one e es (Ok f) = refl
after_one e es (Err b) = refl

pub continued-last : (es : List Entry) (e : Entry) (n : ℕ) (line : List ℕ) → continued (es ++ e ∷ []) n line ≡ (longer e n line >>= λ f. Ok (es ++ f ∷ []))
continued-last [] e n line = refl
continued-last (d ∷ []) e n line = after_one d [] (longer e n line)
continued-last (d ∷ c ∷ es) e n line = ap (λ (r : Result (List Entry) Break). r >>= λ fs. Ok (d ∷ fs)) (continued-last (c ∷ es) e n line) ∙ after_one d (c ∷ es) (longer e n line)

-- a list of k statements of which x is the last
record HasLast (xs : List Labelled) (k : ℕ) (x : Labelled) : Type 0 where
  front : List Labelled
  cut : xs ≡ front ++ x ∷ []
  with : (y : Labelled) → slice_set xs (k - 1) y ≡ front ++ y ∷ []

has_last : (xs : List Labelled) (k : ℕ) (x : Labelled) → k ≡ length xs → 0 < length xs → x ≡ slice_index_or xs (k - 1) x → HasLast xs k x
has_last [] k x n h e = absurd (omega (arith, h))
has_last (a ∷ more) k x n h e =
    let s = snoc a more in
    let place : k - 1 ≡ length s.front = omega (arith, n, ap length s.cut, length-append s.front (s.last ∷ [])) in
    let same : x ≡ s.last = e ∙ ap (λ (i : ℕ). slice_index_or (a ∷ more) i x) place ∙ ap (λ (l : List Labelled). slice_index_or l (length s.front) x) s.cut ∙ get_or-append_seam s.front s.last [] x in
    record {
      front = s.front;
      cut = s.cut ∙ ap (λ (l : Labelled). s.front ++ l ∷ []) (sym same);
      with = λ y. ap (λ (i : ℕ). slice_set (a ∷ more) i y) place ∙ ap (λ (l : List Labelled). slice_set l (length s.front) y) s.cut ∙ set-append_seam s.front s.last [] y;
    }

-- what a continuation line gives, by whether the last statement has its last line
abbrev by_length : Bool → List Labelled → Labelled → ℕ → List ℕ → Result (List Entry) Break
by_length longest front x n line = (if longest then broken ManyContinuations n else Ok (record (entry x) { text = x.text.items ++ part_of line })) >>= λ f. Ok (entries front ++ f ∷ [])

continued_entries : (xs : List Labelled) (k : ℕ) (x : Labelled) (n : ℕ) (line : List ℕ) → (l : HasLast xs k x) → continued (entries xs) n line ≡ by_length (nat_le 1320 (length x.text.items)) l.front x n line
continued_entries xs k x n line l =
    ap (λ (ls : List Labelled). continued (entries ls) n line) l.cut
    ∙ ap (λ (es : List Entry). continued es n line) (map-append entry l.front (x ∷ []))
    ∙ continued-last (entries l.front) (entry x) n line

pub is_longest : (xs : List Labelled) (k : ℕ) (x : Labelled) (n : ℕ) (line : List ℕ) → k ≡ length xs → 0 < length xs → x ≡ slice_index_or xs (k - 1) x → 1320 ≤ length x.text.items → continued (entries xs) n line ≡ broken ManyContinuations n
is_longest xs k x n line c h e m =
    let l = has_last xs k x c h e in
    continued_entries xs k x n line l ∙ ap (λ (b : Bool). by_length b l.front x n line) (le-leb 1320 (length x.text.items) m)

pub goes_on : (xs : List Labelled) (k : ℕ) (x y : Labelled) (n : ℕ) (line : List ℕ) → k ≡ length xs → 0 < length xs → x ≡ slice_index_or xs (k - 1) x → length x.text.items < 1320 → entry y ≡ record (entry x) { text = x.text.items ++ part_of line } → continued (entries xs) n line ≡ Ok (entries (slice_set xs (k - 1) y))
goes_on xs k x y n line c h e m g =
    let l = has_last xs k x c h e in
    continued_entries xs k x n line l
    ∙ ap (λ (b : Bool). by_length b l.front x n line) (lt-leb 1320 (length x.text.items) m)
    ∙ ap (λ (f : Entry). Ok (entries l.front ++ f ∷ [])) (sym g)
    ∙ ap (λ (es : List Entry). Ok es) (sym (map-append entry l.front (y ∷ [])))
    ∙ ap (λ (ls : List Labelled). Ok (entries ls)) (sym (l.with y))
