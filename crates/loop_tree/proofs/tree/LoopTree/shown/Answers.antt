use Rattle.std.proofs.Common.{◌≡◌, ◌∙◌, ap, List, map}
use Rattle.loop_tree.specs.Collecting.{loop_by, part}
use Rattle.loop_tree.specs.CollectedView.{span}
use Rattle.loop_tree.specs.Occurrences as spec
use Rattle.loop_tree.specs.Told.{are_in_turn, are_told, known, references}
use Rattle.loop_tree.specs.View.{occurrence}
use Rattle.loop_tree.specs.declared.occurrence.Occurrence.{Occurrence}
use Rattle.loop_tree.proofs.Ends.{part_seen}
use Rattle.loop_tree.proofs.Numbers.{part_in_turn}
use Rattle.loop_tree.proofs.tree.LoopTree.shown.Goals as goal

pub invariant_of-result : goal.invariant_of-result
invariant_of-result c =
    let xs = c.args.self.now.collected.references.items in
    let os = map occurrence xs in
    let info = c.args.info.now in
    let shown : map occurrence c.part.result.now ≡ part os info.first info.last =
    ap (λ (ys : List Occurrence). map occurrence ys) (c.part.ensures ∙ ap (λ (ys : List Occurrence). part ys info.first info.last) c.deref.ensures.value) ∙ part_seen xs info.first info.last in
    record {
      in_turn = ap (λ (ps : List spec.Occurrence). are_in_turn (references ps)) shown ∙ part_in_turn os info.first info.last c.args.self.now.numbered;
      told = ap (λ (ps : List spec.Occurrence). are_told (known (record (loop_by os (span info)) { references = ps }))) shown ∙ c.requires;
    }

pub returns-clause-seen : goal.returns-clause-seen
returns-clause-seen c =
    let xs = c.args.self.now.collected.references.items in
    let os = map occurrence xs in
    let info = c.args.info.now in
    ap (λ (ps : List spec.Occurrence). record (loop_by os (span info)) { references = ps })
    (ap (λ (ys : List Occurrence). map occurrence ys) (c.part.ensures ∙ ap (λ (ys : List Occurrence). part ys info.first info.last) c.deref.ensures.value) ∙ part_seen xs info.first info.last)
