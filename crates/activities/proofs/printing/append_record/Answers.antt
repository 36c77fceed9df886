use Rattle.std.proofs.Common.{◌++◌, ◌∷◌, [], ℕ, List, true, drop, length, map, sym, ap, arith}
use Rattle.std.proofs.lemmas.List.{drop_all}
use Rattle.ast.proofs.Records.{keeps_on}
use Rattle.machine.specs.CodeView.{part}
use Rattle.activities.specs.Printing.{to_print}
use Rattle.activities.proofs.Records.{goes_on, is_whole, keeps_more, keeps_same}
use Rattle.activities.proofs.printing.append_record.Goals as goal

pub returns-in_err-push-clause-kept : goal.returns-in_err-push-clause-kept
returns-in_err-push-clause-kept c = keeps_same c.args.out.now.items c.push.new.self.items c.in_err-push.ensures.items

pub loop-piece-init : goal.loop-piece-init
loop-piece-init c = record {
  wanted = sym c.requires.values;
  most = omega arith;
  onto = ap (λ (l : List ℕ). l ++ to_print true (map part c.args.pieces.now) (length c.args.operands.now) c.args.operands.now) c.in_ok-push.ensures.items;
  kept = keeps_more c.args.out.now.items (32 ∷ []) c.push.new.self.items c.in_ok-push.ensures.items;
}

pub append_piece-requires : goal.append_piece-requires
append_piece-requires c = record { left = c.loop-piece.invariant.most }

pub returns-in_err-left-clause-kept : goal.returns-in_err-left-clause-kept
returns-in_err-left-clause-kept c =
    keeps_on c.args.out.now.items c.loop-piece.out.items c.append_piece.new.out.items c.loop-piece.invariant.kept c.append_piece.ensures.kept

pub loop-piece-preserved : goal.loop-piece-preserved
loop-piece-preserved c =
    let l = c.loop-piece in
    let vs = c.args.operands.now in
    let start = (c.args.out.now.items ++ 32 ∷ []) ++ to_print true (map part c.args.pieces.now) (length vs) vs in
    let r = goes_on start l.out.items c.append_piece.new.out.items l.is_first c.args.pieces.now l.piece-index l.left c.in_ok-left.left vs c.piece-item.result c.loop-piece-test.true c.piece-item.is
    l.invariant.wanted l.invariant.most l.invariant.onto c.in_ok-left.ensures.printed in
    record {
      wanted = r.0;
      most = omega (arith, c.in_ok-left.ensures.left, l.invariant.most);
      onto = r.1;
      kept = keeps_on c.args.out.now.items l.out.items c.append_piece.new.out.items l.invariant.kept c.append_piece.ensures.kept;
    }

pub returns-in_err-push-2-clause-kept : goal.returns-in_err-push-2-clause-kept
returns-in_err-push-2-clause-kept c =
    keeps_on c.args.out.now.items c.loop-piece.out.items c.push-2.new.self.items c.loop-piece.invariant.kept (keeps_same c.loop-piece.out.items c.push-2.new.self.items c.in_err-push-2.ensures.items)

pub returns-clause-appended : goal.returns-clause-appended
returns-clause-appended c =
    let l = c.loop-piece in
    is_whole c.args.out.now.items l.out.items c.push-2.new.self.items l.is_first c.args.pieces.now (drop l.piece-index c.args.pieces.now) l.left c.args.operands.now
    (drop_all l.piece-index c.args.pieces.now (omega (arith, c.loop-piece-test.false))) l.invariant.onto c.in_ok-push-2.ensures.items

pub returns-clause-kept : goal.returns-clause-kept
returns-clause-kept c =
    keeps_on c.args.out.now.items c.loop-piece.out.items c.push-2.new.self.items c.loop-piece.invariant.kept (keeps_more c.loop-piece.out.items (10 ∷ []) c.push-2.new.self.items c.in_ok-push-2.ensures.items)
