-- What calls that may fail say: nothing where they failed, and where they append, what stands
-- behind what. Options without a value.
use Rattle.std.proofs.Common.{Result, Ok, Err, ◌≡◌, false, Option, Some, None, refl, ◌∙◌, List, ◌++◌, ap, append_assoc}
use Rattle.std.specs.Prelude.{IsErr, OnOk, is_some}

-- a call that failed says nothing
pub no_answer : {X E : Type 0} (r : Result X E) (P : Type 0) → IsErr r → OnOk r P
no_answer (Ok x) P h = absurd cc
no_answer (Err e) P h = tt

pub not_some : {X : Type 0} (o : Option X) → is_some o ≡ false → o ≡ None
not_some None e = refl
not_some (Some x) e = cc

-- what is appended behind what another call appended
pub behind : {X E S : Type 0} (r : Result X E) (last mid old front rest whole : List S) → mid ≡ old ++ front → front ++ rest ≡ whole → OnOk r (last ≡ mid ++ rest) → OnOk r (last ≡ old ++ whole)
behind {S = S} (Ok x) last mid old front rest whole e w h = h ∙ ap (λ (l : List S). l ++ rest) e ∙ append_assoc old front rest ∙ ap (λ (l : List S). old ++ l) w
behind (Err f) last mid old front rest whole e w h = tt

pub behind_two : {X E S : Type 0} (r : Result X E) (last next mid old first second rest whole : List S) → mid ≡ old ++ first → next ≡ mid ++ second → first ++ (second ++ rest) ≡ whole → OnOk r (last ≡ next ++ rest) → OnOk r (last ≡ old ++ whole)
behind_two r last next mid old first second rest whole e f w h = behind r last mid old first (second ++ rest) whole e w (behind r last next mid second rest (second ++ rest) f refl h)
