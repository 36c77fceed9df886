-- What the clauses say of an answer.
use Rattle.std.proofs.Common.{◌≡◌, ℕ, List, Option, Some, None, Result, Ok, Err, refl, sym, ap, subst, ◌∙◌, arith}
use Rattle.std.specs.Prelude.{IfOk, IfErr}
use Rattle.ast.specs.Answers.{Break, Gives, Says}
use Rattle.ast.specs.Results.{◌>>=◌}
use Rattle.ast.specs.Tree.{Statement}
use Rattle.ast.specs.View.{statement}
use Rattle.ast.specs.declared.refusal.Refusal.{Refusal}
use Rattle.ast.specs.declared.refusal.Refusal.TheVariants.{Memory, Refused}
use Rattle.ast.specs.declared.statement.Stmt.{Stmt}
use Rattle.ast.specs.Rule.{number_of}
use Rattle.ast.specs.declared.rule.Rule.TheVariants.{UnendedText}
use Rattle.expressions.specs.Answers.{refuse, IsOfStatement}
use Rattle.expressions.proofs.Numbered.{fault}
use Rattle.expressions.proofs.Tools.{done}
use Rattle.syntax.specs.Pieces.{Piece, Cut, marks, constants}
use Rattle.syntax.specs.ReadingStatements.{statement_at}
use Rattle.syntax.specs.Squeezing.{squeezed, finished, text_at}
use Rattle.syntax.specs.Statements.{IsStatement}
use Rattle.syntax.proofs.Rest.{nested_short}
use Rattle.syntax.proofs.Squeezing.{squeezed_cut, cut_squeezed}
use Rattle.syntax.proofs.StatementComplete.{statement_again}
use Rattle.syntax.proofs.StatementNumbered.{statement_numbered}
use Rattle.syntax.proofs.StatementSound.{statement_sound}

text_cut : (line : ℕ) (label : Option ℕ) (t : List ℕ) (ps : List Piece) → Cut ps t → text_at line label t ≡ statement_at line label t (marks ps) (constants ps)
text_cut line label t ps cut = ap (λ (o : Option (List ℕ × List (List ℕ))). finished line o >>= λ x. statement_at line label t x.0 x.1) (squeezed_cut ps t cut)

abbrev at_fault : Break → Result Statement Break
at_fault d = Err d

fault_is : (c d : Break) → at_fault c ≡ at_fault d → c ≡ d
fault_is c d e = cc

-- a text is cut, or it ends in a character constant
pub data IsCut (line : ℕ) (label : Option ℕ) (t : List ℕ) : Type 0 where
  cut_so : (ps : List Piece) → Cut ps t → text_at line label t ≡ statement_at line label t (marks ps) (constants ps) → IsCut line label t
  uncut : ((ps : List Piece) → Cut ps t → ⊥) → text_at line label t ≡ refuse line UnendedText → IsCut line label t

pub is_cut : (line : ℕ) (label : Option ℕ) (t : List ℕ) → IsCut line label t
is_cut line label t = go (squeezed t) refl
  where
    go : (o : Option (List ℕ × List (List ℕ))) → squeezed t ≡ o → IsCut line label t
    go (Some x) is = let c = cut_squeezed t x is in cut_so c.0 c.1 (text_cut line label t c.0 c.1)
    go None is = uncut (λ ps cut. let both : squeezed t ≡ Some (marks ps, constants ps) = squeezed_cut ps t cut in cc) (ap (λ (o : Option (List ℕ × List (List ℕ))). finished line o >>= λ x. statement_at line label t x.0 x.1) is)

text_sound : (line : ℕ) (label : Option ℕ) (t : List ℕ) (s : Statement) → text_at line label t ≡ Ok s → IsStatement line label t s
text_sound line label t s e =
    elim (is_cut line label t) [
      | cut_so ps cut is ↦
          let d = statement_sound line label t (marks ps) (constants ps) s (sym is ∙ e) in
          record { pieces = ps; cut = cut; derived = d.derived; initial = d.initial; shallow = d.shallow; at = d.at; labelled = d.labelled }
      | uncut none is ↦ let both : refuse line UnendedText ≡ done s = sym is ∙ e in absurd cc
    ]

pub text_again : (line : ℕ) (label : Option ℕ) (t : List ℕ) (s : Statement) → IsStatement line label t s → text_at line label t ≡ Ok s
text_again line label t s h =
    text_cut line label t h.pieces h.cut
    ∙ statement_again line label t (marks h.pieces) (constants h.pieces) s (record { derived = h.derived; initial = h.initial; shallow = h.shallow; at = h.at; labelled = h.labelled })
    (omega (arith, nested_short s.kind (marks h.pieces) (constants h.pieces) h.derived))

pub statement_found : (line : ℕ) (label : Option ℕ) (t : List ℕ) (r : Result Stmt Refusal) → Gives statement r (text_at line label t) → IfOk r (λ s. IsStatement line label t (statement s))
statement_found line label t (Ok s) h = text_sound line label t (statement s) h
statement_found line label t (Err f) h = tt

pub statement_only : (line : ℕ) (label : Option ℕ) (t : List ℕ) (r : Result Stmt Refusal) → Gives statement r (text_at line label t) → (s : Statement) → IsStatement line label t s → Gives statement r (Ok s)
statement_only line label t r h s is = subst (λ (x : Result Statement Break). Gives statement r x) (text_again line label t s is) h

pub statement_refused : (line : ℕ) (label : Option ℕ) (t : List ℕ) (r : Result Stmt Refusal) → Gives statement r (text_at line label t) → IfErr r (Says (λ rule at. (at ≡ line) × IsOfStatement rule × ((s : Statement) → IsStatement line label t s → ⊥)))
statement_refused line label t (Ok s) h = tt
statement_refused line label t (Err Memory) h = tt
statement_refused line label t (Err (Refused rule at)) h =
    let none : (s : Statement) → IsStatement line label t s → ⊥ = λ s is. let both : done s ≡ Err (record { rule = rule; line = at }) = sym (text_again line label t s is) ∙ h in cc in
    elim (is_cut line label t) [
      | cut_so ps cut is ↦
          let f = fault line (statement_at line label t (marks ps) (constants ps)) (record { rule = rule; line = at }) (statement_numbered line label t (marks ps) (constants ps)) (sym is ∙ h) in
          (f.at, (f.low, f.high), none)
      | uncut _ is ↦
          let same = fault_is (record { rule = UnendedText; line = line }) (record { rule = rule; line = at }) (sym is ∙ h) in
          let n : number_of UnendedText ≡ number_of rule = ap (λ (d : Break). number_of d.rule) same in
          (ap (λ (d : Break). d.line) (sym same), (omega (arith, n), omega (arith, n)), none)
    ]

pub statement_unfinished : (line : ℕ) (label : Option ℕ) (t : List ℕ) (r : Result Stmt Refusal) → Gives statement r (text_at line label t) → ((ps : List Piece) → Cut ps t → ⊥) → Gives statement r (refuse line UnendedText)
statement_unfinished line label t r h none =
    elim (is_cut line label t) [
      | cut_so ps cut is ↦ absurd (none ps cut)
      | uncut _ is ↦ subst (λ (x : Result Statement Break). Gives statement r x) is h
    ]

pub statement_finished : (line : ℕ) (label : Option ℕ) (t : List ℕ) (r : Result Stmt Refusal) → Gives statement r (text_at line label t) → IfErr r (Says (λ rule at. rule ≡ UnendedText → (ps : List Piece) → Cut ps t → ⊥))
statement_finished line label t (Ok s) h = tt
statement_finished line label t (Err Memory) h = tt
statement_finished line label t (Err (Refused rule at)) h = λ unfinished ps cut.
    let f = fault line (statement_at line label t (marks ps) (constants ps)) (record { rule = rule; line = at }) (statement_numbered line label t (marks ps) (constants ps)) (sym (text_cut line label t ps cut) ∙ h) in
    f.whole unfinished

pub statement_exact : (line : ℕ) (label : Option ℕ) (t : List ℕ) (r : Result Stmt Refusal) → Gives statement r (text_at line label t) → (ps : List Piece) → Cut ps t → Gives statement r (statement_at line label t (marks ps) (constants ps))
statement_exact line label t r h ps cut = subst (λ (x : Result Statement Break). Gives statement r x) (text_cut line label t ps cut) h
