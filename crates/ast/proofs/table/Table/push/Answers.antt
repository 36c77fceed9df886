use Rattle.std.proofs.Common.{◌≡◌, ◌+◌, ◌++◌, ◌∷◌, [], List, true, refl, rules, subst, sym}
use Rattle.ast.specs.Laid.{is_laid}
use Rattle.ast.specs.declared.table.Seat.{Seat}
use Rattle.ast.proofs.Cells.{laid_push}
use Rattle.ast.proofs.table.Table.push.Goals as goal

pub invariant_of-self-2 : goal.invariant_of-self-2
invariant_of-self-2 c =
    let table = c.args.self.now in
    let seat : Seat = record { name = c.args.name; start = table.total; size = c.args.size } in
    let whole : c.in-Some.total ≡ table.total + c.args.size = search rules in
    let items : c.push.new.self.items ≡ table.seats.items ++ seat ∷ [] = (c.in_ok-push.ensures {u = tt}).items in
    record {
      laid = subst (λ (seats : List Seat). is_laid 0 seats c.in-Some.total ≡ true) (sym items)
          (subst (λ n. is_laid 0 (table.seats.items ++ seat ∷ []) n ≡ true) (sym whole)
          (laid_push table.seats.items table.total seat table.laid refl));
    }
