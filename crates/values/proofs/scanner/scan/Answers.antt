use Rattle.std.proofs.Common.{◌≡◌, ◌∙◌, Bool, true, List, [], Option, Some, None, ap, sym}
use Rattle.std.specs.Prelude.{ℤ}
use Rattle.ast.specs.Input.{integers_of}
use Rattle.values.specs.Scanning.{if_some, kept, part_onto, parts_onto, pieces}
use Rattle.values.specs.declared.scanner.Separator.TheVariants.{Comma}
use Rattle.values.proofs.Scanning.{record_law}
use Rattle.values.proofs.scanner.scan.Goals as goal

pub returns-then-not-branch : goal.returns-then-not-branch
returns-then-not-branch c =
    let part = c.cut.result.0.now in
    let behind = c.cut.result.1 in
    let none : part_onto c.is_some.result [] part ≡ None =
    ap (λ (xs : List ℤ). part_onto c.is_some.result xs part) (sym c.clear.ensures.items) ∙ c.in_ok-add_part.ensures ∙ ap (λ (b : Bool). kept b c.add_part.new.integers.items) c.if-not-branch.true in
    record_law c.args.text.now part behind c.cut.ensures
    ∙ ap (λ (b : Bool). if_some (part_onto b [] part) (λ ys. parts_onto true ys (pieces Comma behind))) (sym c.is_some.ensures)
    ∙ ap (λ (o : Option (List ℤ)). if_some o (λ ys. parts_onto true ys (pieces Comma behind))) none

pub returns : goal.returns
returns c =
    let part = c.cut.result.0.now in
    let behind = c.cut.result.1 in
    let first = c.add_part.new.integers.items in
    let some : part_onto c.is_some.result [] part ≡ Some first =
    ap (λ (xs : List ℤ). part_onto c.is_some.result xs part) (sym c.clear.ensures.items) ∙ c.in_ok-add_part.ensures ∙ ap (λ (b : Bool). kept b first) c.if-not-branch.false in
    let whole : integers_of c.args.text.now ≡ parts_onto true first (pieces Comma behind) =
    record_law c.args.text.now part behind c.cut.ensures
    ∙ ap (λ (b : Bool). if_some (part_onto b [] part) (λ ys. parts_onto true ys (pieces Comma behind))) (sym c.is_some.ensures)
    ∙ ap (λ (o : Option (List ℤ)). if_some o (λ ys. parts_onto true ys (pieces Comma behind))) some in
    rw whole c.add_parts.ensures
