use Rattle.std.proofs.Common.{◌∙◌, ◌++◌, List, ℕ, ap, length, subst}
use Rattle.std.specs.Prelude.{IfErr}
use Rattle.schedules.specs.View.{entry}
use Rattle.activities.specs.Activities.{code_in, point_in}
use Rattle.state_lines.specs.States.{block}
use Rattle.states.specs.Followed.{Falls}
use Rattle.states.proofs.following.show_entry.Goals as goal

pub returns-clause-err : goal.returns-clause-err
returns-clause-err g c =
    let a = c.args.activities.now in
    let text = block (code_in a) (length a.held.items) c.args.line (entry c.args.entry) c.args.before (point_in a) in
    subst (λ (t : List ℕ). IfErr c.put.result (Falls (g.W.Write.contents c.args.out.now) (g.W.Write.contents c.put.new.out) t))
    (c.deref.ensures.value ∙ c.in_ok-append_block.ensures ∙ ap (λ (t : List ℕ). t ++ text) c.new-text.ensures.items) c.put.ensures.err
