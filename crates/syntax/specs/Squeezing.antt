-- Going through a text once, byte by byte: an account of the code, which no public clause names.
use Rattle.std.specs.Prelude.{ℕ, ◌==◌, if◌then◌else◌, List, [], ◌∷◌, ◌++◌}
use Rattle.std.specs.Prelude.{map, Vec, Option, Some, None, Result, Ok}
use Rattle.std.specs.Global.{Global}
use Rattle.std.specs.Vec.Iter.{into_iter_items}
use Rattle.std.specs.declared.vec.IntoIter.{IntoIter}
use Rattle.ast.specs.Answers.{Break}
use Rattle.ast.specs.Results.{◌>>=◌}
use Rattle.ast.specs.Tree.{Statement}
use Rattle.ast.specs.declared.rule.Rule.TheVariants.{UnendedText}
use Rattle.expressions.specs.Answers.{refuse}
use Rattle.syntax.specs.declared.pieces.Place.{Place}
use Rattle.syntax.specs.declared.pieces.Place.TheVariants.{Outside, Inside, Closing}
use Rattle.syntax.specs.declared.pieces.Squeezing.{Squeezing}
use Rattle.syntax.specs.Pieces.{folded}
use Rattle.syntax.specs.ReadingStatements.{statement_at}

-- what the rest of a text makes of marks and constants so far, the text of the constant that is
-- read, and the place; nothing where the text ends in a constant
abbrev pub run : Place → List ℕ → List (List ℕ) → List ℕ → List ℕ → Option (List ℕ × List (List ℕ))
run Outside ms ks read [] = Some (ms, ks)
run Outside ms ks read (c ∷ t) =
    if c == 39 then (run Inside (ms ++ c ∷ []) ks read t)
    else (run Outside (ms ++ folded c) ks read t)
run Inside ms ks read [] = None
run Inside ms ks read (c ∷ t) =
    if c == 39 then (run Closing ms ks read t) else (run Inside ms ks (read ++ c ∷ []) t)
run Closing ms ks read [] = Some (ms, ks ++ read ∷ [])
run Closing ms ks read (c ∷ t) =
    if c == 39 then (run Inside ms ks (read ++ c ∷ []) t)
    else (run Outside (ms ++ folded c) (ks ++ read ∷ []) [] t)

abbrev pub left_of : Squeezing → List ℕ → Option (List ℕ × List (List ℕ))
left_of s t = run s.place s.marks.items (map (λ v. v.items) s.constants.items) s.open.items t

-- the texts of the character constants that are still to come
abbrev pub texts_left : IntoIter (Vec ℕ Global) Global → List (List ℕ)
texts_left constants = map (λ v. v.items) (into_iter_items constants)

abbrev pub squeezed : List ℕ → Option (List ℕ × List (List ℕ))
squeezed t = run Outside [] [] [] t

abbrev pub finished : ℕ → Option (List ℕ × List (List ℕ)) → Result (List ℕ × List (List ℕ)) Break
finished line None = refuse line UnendedText
finished line (Some x) = Ok x

abbrev pub text_at : ℕ → Option ℕ → List ℕ → Result Statement Break
text_at line label t = finished line (squeezed t) >>= λ x. statement_at line label t x.0 x.1
