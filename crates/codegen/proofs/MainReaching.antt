-- The references in a program's statements reach their cells, where their code is no longer than 32
-- bits can number.
use Rattle.std.proofs.Common.{◌≡◌, ◌≤◌, ◌^◌, ℕ, zero, suc, Bool, true, List, [], ◌∷◌, ◌++◌, length, refl, arith, length-append}
use Rattle.std.specs.List.{list_all}
use Rattle.std.proofs.lemmas.Bool.{and_parts}
use Rattle.ast.specs.Program.{is_placed}
use Rattle.ast.specs.References.{term_references, terms_references}
use Rattle.ast.specs.Symbols.{Extent, is_sized}
use Rattle.ast.specs.Tree.{Ref, Access, accessed, Term, constant, truth, parameter, element, call, parentheses, unary, binary, Terms, no_terms, then_term}
use Rattle.ast.specs.declared.expression.Intrinsic.TheVariants.{Abs, Iabs, Max, Max0, Min, Min0, Mod}
use Rattle.machine.specs.Code.{Code}
use Rattle.machine.specs.declared.instr.Act.{Act}
use Rattle.machine.specs.declared.instr.Act.TheVariants as acts
use Rattle.machine.specs.declared.instr.Instr.{Instr}
use Rattle.expr_code.specs.Computes.{HasVariables}
use Rattle.expr_code.specs.Emitted.{applied_to, chosen_code, further_code, instr, reached_code, target_code, term_code, terms_code, place_code, short, dropping, located_code}
use Rattle.expr_code.specs.Places.{Places, dimensions_at}
use Rattle.expr_code.specs.Process.{count, fewer, just}
use Rattle.expr_code.proofs.Finding.{Reach, reach}
use Rattle.expr_code.proofs.Running.{AllReach, Reaches}

-- a list of two parts has a bound for each
pub front_few : {X : Type 0} (xs ys : List X) (n : ℕ) → length (xs ++ ys) ≤ n → length xs ≤ n
front_few xs ys n h = let k = length-append xs ys in omega (arith, h, k)

pub back_few : {X : Type 0} (xs ys : List X) (n : ℕ) → length (xs ++ ys) ≤ n → length ys ≤ n
back_few xs ys n h = let k = length-append xs ys in omega (arith, h, k)

module _ (p : Places) where
  -- no expression is without code
  mutual
    pub some_code : (e : Term) → 1 ≤ length (term_code p e)
    some_code (constant n) = omega arith
    some_code (truth b) = omega arith
    some_code (parameter x n) = omega arith
    some_code (element r es) = by (dimensions_at p.symbols r.cell)
      where
        by : (ds : List Extent) → 1 ≤ length (terms_code p es (length ds) ++ reached_code p r ds (fewer (count es) (length ds)))
        by [] = let k = length-append (terms_code p es 0) (reached_code p r [] (fewer (count es) 0)) in omega (arith, k)
        by (d ∷ ds) =
            let m = fewer (count es) (length (d ∷ ds)) in
            let k = length-append (terms_code p es (length (d ∷ ds))) (reached_code p r (d ∷ ds) m) in
            let l = length-append (place_code p.line d ds m) (instr p.line (acts.LoadElement (short r.cell)) ∷ []) in
            omega (arith, k, l)
    some_code (call Mod es) = let k = length-append (terms_code p es (just 2 (count es))) (applied_to p.line acts.Modulo (just 2 (count es))) in omega (arith, k)
    some_code (call Abs es) = let k = length-append (terms_code p es (just 1 (count es))) (applied_to p.line acts.Absolute (just 1 (count es))) in omega (arith, k)
    some_code (call Iabs es) = let k = length-append (terms_code p es (just 1 (count es))) (applied_to p.line acts.Absolute (just 1 (count es))) in omega (arith, k)
    some_code (call Max es) = some_chosen es acts.Greatest
    some_code (call Max0 es) = some_chosen es acts.Greatest
    some_code (call Min es) = some_chosen es acts.Least
    some_code (call Min0 es) = some_chosen es acts.Least
    some_code (parentheses e) = some_code e
    some_code (unary o e) = let k = length-append (term_code p e) (instr p.line (acts.Unary o) ∷ []) in omega (arith, k)
    some_code (binary o a b) = let i = some_code a in let k = length-append (term_code p a) (term_code p b ++ instr p.line (acts.Binary o) ∷ []) in omega (arith, i, k)

    some_chosen : (es : Terms) (act : Act) → 1 ≤ length (chosen_code p es act)
    some_chosen no_terms act = omega arith
    some_chosen (then_term e es) act = let i = some_code e in let k = length-append (term_code p e) (further_code p es act) in omega (arith, i, k)

  -- as many terms as their code is long, at most
  count_code : (es : Terms) (n : ℕ) → count es ≤ length (terms_code p es n)
  count_code no_terms n = omega arith
  count_code (then_term e es) zero =
      let i = some_code e in
      let j = count_code es 0 in
      let k = length-append (term_code p e) (instr p.line dropping ∷ terms_code p es 0) in
      omega (arith, i, j, k)
  count_code (then_term e es) (suc n) = let i = some_code e in let j = count_code es n in let k = length-append (term_code p e) (terms_code p es n) in omega (arith, i, j, k)

  module _ (sized : list_all is_sized p.symbols ≡ true) (code : Code) (variables : HasVariables code p.symbols) (few : length p.symbols ≤ 2 ^ 32) where
    abbrev placed : Ref → Bool
    placed r = is_placed p.symbols r

    abbrev All : List Ref → Type 0
    All rs = list_all placed rs ≡ true

    abbrev Short : List Instr → Type 0
    Short is = length is ≤ 2 ^ 32

    pub both : (xs ys : List Ref) → All (xs ++ ys) → All xs × All ys
    both [] ys h = (refl, h)
    both (r ∷ xs) ys h =
        let k = and_parts (placed r) (list_all placed (xs ++ ys)) h in
        let l = both xs ys k.1 in
        (rw (k.0, l.0) refl, l.1)

    pub reference : (r : Ref) → All (r ∷ []) → Reach code.variables r (dimensions_at p.symbols r.cell)
    reference r h = reach code.variables p.symbols r variables sized few (and_parts (placed r) true h).0

    mutual
      pub reaches : (e : Term) → All (term_references e) → Short (term_code p e) → Reaches code p e
      reaches (element r es) h s =
          let k = both (terms_references es) (r ∷ []) h in
          let n = length (dimensions_at p.symbols r.cell) in
          let t = front_few (terms_code p es n) (reached_code p r (dimensions_at p.symbols r.cell) (fewer (count es) n)) (2 ^ 32) s in
          let c = count_code es n in
          (reference r k.1, omega (arith, t, c), all_reach es n k.0 t)
      reaches (call Mod es) h s = all_reach es (just 2 (count es)) h (front_few (terms_code p es (just 2 (count es))) (applied_to p.line acts.Modulo (just 2 (count es))) (2 ^ 32) s)
      reaches (call Abs es) h s = all_reach es (just 1 (count es)) h (front_few (terms_code p es (just 1 (count es))) (applied_to p.line acts.Absolute (just 1 (count es))) (2 ^ 32) s)
      reaches (call Iabs es) h s = all_reach es (just 1 (count es)) h (front_few (terms_code p es (just 1 (count es))) (applied_to p.line acts.Absolute (just 1 (count es))) (2 ^ 32) s)
      reaches (call Max es) h s = chosen_reach es acts.Greatest h s
      reaches (call Max0 es) h s = chosen_reach es acts.Greatest h s
      reaches (call Min es) h s = chosen_reach es acts.Least h s
      reaches (call Min0 es) h s = chosen_reach es acts.Least h s
      reaches (parentheses e) h s = reaches e h s
      reaches (unary o e) h s = reaches e h (front_few (term_code p e) (instr p.line (acts.Unary o) ∷ []) (2 ^ 32) s)
      reaches (binary o a b) h s =
          let k = both (term_references a) (term_references b) h in
          let t = back_few (term_code p a) (term_code p b ++ instr p.line (acts.Binary o) ∷ []) (2 ^ 32) s in
          (reaches a k.0 (front_few (term_code p a) (term_code p b ++ instr p.line (acts.Binary o) ∷ []) (2 ^ 32) s), reaches b k.1 (front_few (term_code p b) (instr p.line (acts.Binary o) ∷ []) (2 ^ 32) t))
      reaches (constant n) h s = tt
      reaches (truth b) h s = tt
      reaches (parameter x n) h s = tt

      all_reach : (es : Terms) (n : ℕ) → All (terms_references es) → Short (terms_code p es n) → AllReach code p es
      all_reach no_terms n h s = tt
      all_reach (then_term e es) zero h s =
          let k = both (term_references e) (terms_references es) h in
          let rest = instr p.line dropping ∷ terms_code p es 0 in
          let t = back_few (term_code p e) rest (2 ^ 32) s in
          (reaches e k.0 (front_few (term_code p e) rest (2 ^ 32) s), all_reach es 0 k.1 (omega (arith, t)))
      all_reach (then_term e es) (suc n) h s =
          let k = both (term_references e) (terms_references es) h in
          (reaches e k.0 (front_few (term_code p e) (terms_code p es n) (2 ^ 32) s), all_reach es n k.1 (back_few (term_code p e) (terms_code p es n) (2 ^ 32) s))

      chosen_reach : (es : Terms) (act : Act) → All (terms_references es) → Short (chosen_code p es act) → AllReach code p es
      chosen_reach no_terms act h s = tt
      chosen_reach (then_term e es) act h s =
          let k = both (term_references e) (terms_references es) h in
          (reaches e k.0 (front_few (term_code p e) (further_code p es act) (2 ^ 32) s), further_reach es act k.1 (back_few (term_code p e) (further_code p es act) (2 ^ 32) s))

      further_reach : (es : Terms) (act : Act) → All (terms_references es) → Short (further_code p es act) → AllReach code p es
      further_reach no_terms act h s = tt
      further_reach (then_term e es) act h s =
          let k = both (term_references e) (terms_references es) h in
          let t = back_few (term_code p e) (instr p.line act ∷ further_code p es act) (2 ^ 32) s in
          (reaches e k.0 (front_few (term_code p e) (instr p.line act ∷ further_code p es act) (2 ^ 32) s), further_reach es act k.1 (omega (arith, t)))

    -- the place of a variable that is given a value
    pub given_reaches : (a : Access) (more : List Instr) → All (term_references (accessed a)) → Short (target_code p a.ref a.subscripts ++ more) → Reaches code p (accessed a)
    given_reaches a more h s =
        let k = both (terms_references a.subscripts) (a.ref ∷ []) h in
        let n = length (dimensions_at p.symbols a.ref.cell) in
        let located = located_code p.line (dimensions_at p.symbols a.ref.cell) (fewer (count a.subscripts) n) in
        let t = front_few (terms_code p a.subscripts n) located (2 ^ 32) (front_few (terms_code p a.subscripts n ++ located) more (2 ^ 32) s) in
        let c = count_code a.subscripts n in
        (reference a.ref k.1, omega (arith, t, c), all_reach a.subscripts n k.0 t)
