use Rattle.std.proofs.Common.{◌≡◌, ◌∙◌, ap, sym, length, Ok, rules}
use Rattle.std.proofs.lemmas.List.{length-map}
use Rattle.ast.specs.Program.{ProgramTree}
use Rattle.ast.specs.Tree.{block}
use Rattle.ast.specs.View.{statement}
use Rattle.fixed_form.specs.Answers.{entries}
use Rattle.ast.specs.declared.refusal.Refusal.TheVariants.{Memory}
use Rattle.profile_check.proofs.OneCause.{not-refused, exact-refusal}
use Rattle.profile_check.proofs.Parts.{table_in}
use Rattle.profile_check.proofs.Texts.{entries-short}
use Rattle.profile_check.proofs.WholeText.{IsRead, are-distinct, are-sized, are-placed, are-numbered, are-shallow, are-regular, all-fitting, few-references, as-read, one-reading, unread, refused-not, handed-cause, in-lines, in-statements, out-of-profile, no-memory, no-cause}
use Rattle.profile_check.specs.Declarations.{Declared, symbols_of}
use Rattle.profile_check.specs.Nesting.{nested}
use Rattle.profile_check.specs.ReadsView.{statements_of}
use Rattle.profile_check.specs.Resolving.{statements_resolved}
use Rattle.profile_check.proofs.whole.program.Goals as goal

pub returns-in_err-labelled-clause-one : goal.returns-in_err-labelled-clause-one
returns-in_err-labelled-clause-one c = one-reading c.args.text.now

pub returns-in_err-stmts-clause-one : goal.returns-in_err-stmts-clause-one
returns-in_err-stmts-clause-one c = one-reading c.args.text.now

pub returns-in_err-declarations-clause-one : goal.returns-in_err-declarations-clause-one
returns-in_err-declarations-clause-one c = one-reading c.args.text.now

pub returns-in_err-symbols-clause-one : goal.returns-in_err-symbols-clause-one
returns-in_err-symbols-clause-one c = one-reading c.args.text.now

pub returns-in_err-body-clause-one : goal.returns-in_err-body-clause-one
returns-in_err-body-clause-one c = one-reading c.args.text.now

pub returns-clause-one : goal.returns-clause-one
returns-clause-one c = one-reading c.args.text.now

pub returns-in_err-stmts-clause-only : goal.returns-in_err-stmts-clause-only
returns-in_err-stmts-clause-only c = λ tree reads.
    unread c.from_residual-in_err-stmts.result c.in_err-stmts.field-0.0 c.args.text.now (entries c.in_ok-labelled.labelled.items) tree
    c.from_residual-in_err-stmts.ensures.1 c.in_ok-labelled.ensures.only (rw (c.deref.ensures.value) at c.in_err-stmts.ensures.only) reads

pub returns-in_err-declarations-clause-only : goal.returns-in_err-declarations-clause-only
returns-in_err-declarations-clause-only c = λ tree reads.
    refused-not c.from_residual-in_err-declarations.result c.in_err-declarations.field-0.0 c.args.text.now (entries c.in_ok-labelled.labelled.items) (statements_of c.in_ok-stmts.stmts) tree
    c.from_residual-in_err-declarations.ensures.1 c.in_ok-labelled.ensures.only (rw (c.deref.ensures.value) at c.in_ok-stmts.ensures.only)
    (rw (c.deref-2.ensures.value) at c.in_err-declarations.ensures.refused) reads

pub returns-in_err-symbols-clause-only : goal.returns-in_err-symbols-clause-only
returns-in_err-symbols-clause-only c = λ tree reads. no-memory c.from_residual-in_err-symbols.result (Ok tree) c.from_residual-in_err-symbols.ensures.1

pub returns-in_err-symbols-clause-refused : goal.returns-in_err-symbols-clause-refused
returns-in_err-symbols-clause-refused c = no-cause c.from_residual-in_err-symbols.result c.args.text.now c.from_residual-in_err-symbols.ensures.1

pub returns-in_err-body-clause-only : goal.returns-in_err-body-clause-only
returns-in_err-body-clause-only c = λ tree reads. no-memory c.from_residual-in_err-body.result (Ok tree) c.from_residual-in_err-body.ensures.1

pub returns-in_err-body-clause-refused : goal.returns-in_err-body-clause-refused
returns-in_err-body-clause-refused c = no-cause c.from_residual-in_err-body.result c.args.text.now c.from_residual-in_err-body.ensures.1

pub returns-in_err-declarations-clause-refused : goal.returns-in_err-declarations-clause-refused
returns-in_err-declarations-clause-refused c =
    handed-cause c.from_residual-in_err-declarations.result c.in_err-declarations.field-0.0 c.args.text.now c.from_residual-in_err-declarations.ensures.1
    (out-of-profile c.args.text.now (entries c.in_ok-labelled.labelled.items) (statements_of c.in_ok-stmts.stmts) c.in_err-declarations.field-0.0
    c.in_ok-labelled.ensures.found (rw (c.deref.ensures.value) at c.in_ok-stmts.ensures.found) (rw (c.deref-2.ensures.value) at c.in_err-declarations.ensures.refused))

pub tree-requires : goal.tree-requires
tree-requires c =
    few-references (entries c.in_ok-labelled.labelled.items) (statements_of c.in_ok-stmts.stmts) (entries-short c.in_ok-labelled.labelled.items)
    (rw (c.deref.ensures.value) at c.in_ok-stmts.ensures.found) (rw (c.deref-2.ensures.value) at c.in_ok-declarations.ensures.kept)

pub invariant_of-result : goal.invariant_of-result
invariant_of-result c =
    let es = entries c.in_ok-labelled.labelled.items in
    let ss = statements_of c.in_ok-stmts.stmts in
    let read : IsRead es ss = record {
      shaped = c.in_ok-labelled.ensures.shaped;
      spelled = rw (c.deref.ensures.value) at c.in_ok-stmts.ensures.found;
      profile = rw (c.deref-2.ensures.value) at c.in_ok-declarations.ensures.kept;
    } in
    let declared = rw (c.deref-2.ensures.value) at c.in_ok-declarations.ensures.declared in
    let symbols = c.in_ok-symbols.ensures.found ∙ ap symbols_of declared in
    let body = ap block (c.in_ok-body.ensures ∙ ap (λ (d : Declared). (nested (statements_resolved (table_in d) 0 ss)).nodes) declared) in
    record {
      distinct = are-distinct ss _ symbols;
      sized = are-sized ss read.profile _ symbols;
      placed = are-placed es ss read _ _ symbols body;
      numbered = are-numbered es ss read _ body;
      shallow = are-shallow es ss read _ body;
      regular = are-regular es ss read _ _ symbols body;
      fitting = all-fitting es ss read _ _ symbols c.in_ok-symbols.ensures.fitting body;
    }

pub returns-clause-found : goal.returns-clause-found
returns-clause-found c =
    let es = entries c.in_ok-labelled.labelled.items in
    let ss = statements_of c.in_ok-stmts.stmts in
    let read : IsRead es ss = record {
      shaped = c.in_ok-labelled.ensures.shaped;
      spelled = rw (c.deref.ensures.value) at c.in_ok-stmts.ensures.found;
      profile = rw (c.deref-2.ensures.value) at c.in_ok-declarations.ensures.kept;
    } in
    let declared = rw (c.deref-2.ensures.value) at c.in_ok-declarations.ensures.declared in
    as-read c.args.text.now es ss c.in_ok-labelled.ensures.found read _
    (c.in_ok-symbols.ensures.found ∙ ap symbols_of declared)
    (ap block (c.in_ok-body.ensures ∙ ap (λ (d : Declared). (nested (statements_resolved (table_in d) 0 ss)).nodes) declared))
    (let n : c.len-statements.result ≡ length c.in_ok-stmts.stmts.items = search rules in n ∙ sym (length-map c.in_ok-stmts.stmts.items statement))

pub returns-clause-only : goal.returns-clause-only
returns-clause-only c = λ tree reads. ap (λ (p : ProgramTree). Ok p) (one-reading c.args.text.now tree _ reads (returns-clause-found c))

pub returns-in_err-labelled-clause-refused : goal.returns-in_err-labelled-clause-refused
returns-in_err-labelled-clause-refused c = handed-cause c.from_residual.result c.in_err-labelled.field-0.0 c.args.text.now c.from_residual.ensures.1 (in-lines c.args.text.now c.in_err-labelled.field-0.0 c.in_err-labelled.ensures.refused)

pub returns-in_err-stmts-clause-refused : goal.returns-in_err-stmts-clause-refused
returns-in_err-stmts-clause-refused c =
    handed-cause c.from_residual-in_err-stmts.result c.in_err-stmts.field-0.0 c.args.text.now c.from_residual-in_err-stmts.ensures.1
    (in-statements c.args.text.now (entries c.in_ok-labelled.labelled.items) c.in_err-stmts.field-0.0 c.in_ok-labelled.ensures.found (rw (c.deref.ensures.value) at c.in_err-stmts.ensures.refused))

pub returns-in_err-labelled-clause-exactly : goal.returns-in_err-labelled-clause-exactly
returns-in_err-labelled-clause-exactly c = exact-refusal c.from_residual.result c.in_err-labelled.field-0.0 c.args.text.now c.from_residual.ensures.1 (returns-in_err-labelled-clause-refused c)

pub returns-in_err-stmts-clause-exactly : goal.returns-in_err-stmts-clause-exactly
returns-in_err-stmts-clause-exactly c = exact-refusal c.from_residual-in_err-stmts.result c.in_err-stmts.field-0.0 c.args.text.now c.from_residual-in_err-stmts.ensures.1 (returns-in_err-stmts-clause-refused c)

pub returns-in_err-declarations-clause-exactly : goal.returns-in_err-declarations-clause-exactly
returns-in_err-declarations-clause-exactly c = exact-refusal c.from_residual-in_err-declarations.result c.in_err-declarations.field-0.0 c.args.text.now c.from_residual-in_err-declarations.ensures.1 (returns-in_err-declarations-clause-refused c)

pub returns-in_err-symbols-clause-exactly : goal.returns-in_err-symbols-clause-exactly
returns-in_err-symbols-clause-exactly c = exact-refusal c.from_residual-in_err-symbols.result Memory c.args.text.now c.from_residual-in_err-symbols.ensures.1 (returns-in_err-symbols-clause-refused c)

pub returns-in_err-body-clause-exactly : goal.returns-in_err-body-clause-exactly
returns-in_err-body-clause-exactly c = exact-refusal c.from_residual-in_err-body.result Memory c.args.text.now c.from_residual-in_err-body.ensures.1 (returns-in_err-body-clause-refused c)

pub returns-clause-exactly : goal.returns-clause-exactly
returns-clause-exactly c = λ rule line cause. absurd (not-refused c.args.text.now _ rule line (returns-clause-found c) cause)
