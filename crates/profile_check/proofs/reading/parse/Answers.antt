use Rattle.std.proofs.Common.{refl, List, map, drop, take, subst, sym, ◌++◌, ◌∷◌, [], ◌+◌}
use Rattle.ast.specs.Tree.{Statement}
use Rattle.ast.specs.View.{statement}
use Rattle.fixed_form.specs.Answers.{entry, entries}
use Rattle.fixed_form.specs.Lines.{Entry}
use Rattle.profile_check.proofs.Parsing.{Begins, begins-some, begins-next, entries-at, entries-taken, entries-cut, spelled-snoc, handed-trees, handed-cause, unspelled-next, read-next, only-one}
use Rattle.ast.specs.Answers.{Says}
use Rattle.profile_check.specs.Causes.{UnspelledAt}
use Rattle.profile_check.specs.Reads.{Spelled}
use Rattle.profile_check.proofs.reading.parse.Goals as goal

pub returns-in_err-parse_one-clause-only : goal.returns-in_err-parse_one-clause-only
returns-in_err-parse_one-clause-only c = λ ss h.
    let i = c.loop-one.one-index in
    let begins = subst (Begins (entries c.args.labelled.now) (map statement c.loop-one.stmts.items)) (entries-at c.args.labelled.now i c.one-item.result c.loop-one-test.true c.one-item.is) c.loop-one.invariant.begins in
    let some = begins-some _ _ (entry c.one-item.result) _ ss begins h in
    handed-trees c.from_residual-in_err-parse_one.result c.in_err-parse_one.field-0.0 _ some.0 ss c.from_residual-in_err-parse_one.ensures.1 refl (c.in_err-parse_one.ensures.only some.0 some.1)

pub returns-in_err-parse_one-clause-refused : goal.returns-in_err-parse_one-clause-refused
returns-in_err-parse_one-clause-refused c =
    let i = c.loop-one.one-index in
    let P : List Entry → Type 0 = λ es. Says (UnspelledAt es) c.in_err-parse_one.field-0.0 in
    handed-cause c.from_residual-in_err-parse_one.result c.in_err-parse_one.field-0.0 (entries c.args.labelled.now) c.from_residual-in_err-parse_one.ensures.1
    (subst P (entries-cut c.args.labelled.now i c.one-item.result c.loop-one-test.true c.one-item.is)
    (unspelled-next (entries (take i c.args.labelled.now)) (entry c.one-item.result) (entries (drop (i + 1) c.args.labelled.now)) (map statement c.loop-one.stmts.items) _
    c.loop-one.invariant.spelled c.in_err-parse_one.ensures.refused))

pub loop-one-preserved : goal.loop-one-preserved
loop-one-preserved c =
    let i = c.loop-one.one-index in
    let more = read-next c.loop-one.stmts.items c.push.new.self.items c.in_ok-parse_one.field-0 c.in_ok-push.ensures.items in
    let begins = subst (Begins (entries c.args.labelled.now) (map statement c.loop-one.stmts.items)) (entries-at c.args.labelled.now i c.one-item.result c.loop-one-test.true c.one-item.is) c.loop-one.invariant.begins in
    record {
      spelled =
          let P : List Statement → Type 0 = λ ss. Spelled (entries (take (i + 1) c.args.labelled.now)) ss in
          let Q : List Entry → Type 0 = λ es. Spelled es (map statement c.loop-one.stmts.items ++ statement c.in_ok-parse_one.field-0 ∷ []) in
          subst P (sym more) (subst Q (sym (entries-taken c.args.labelled.now i c.one-item.result c.loop-one-test.true c.one-item.is))
          (spelled-snoc (entries (take i c.args.labelled.now)) (map statement c.loop-one.stmts.items) (entry c.one-item.result) (statement c.in_ok-parse_one.field-0) c.loop-one.invariant.spelled c.in_ok-parse_one.ensures.found));
      begins =
          let P : List Statement → Type 0 = λ ss. Begins (entries c.args.labelled.now) ss (entries (drop (i + 1) c.args.labelled.now)) in
          subst P (sym more) (begins-next _ _ (entry c.one-item.result) _ (statement c.in_ok-parse_one.field-0) begins (λ s h. only-one s (statement c.in_ok-parse_one.field-0) _ _ refl refl (c.in_ok-parse_one.ensures.only s h)));
    }
