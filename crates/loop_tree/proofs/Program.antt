-- What holds of the references of a program holds of what is collected of it.
use Rattle.std.proofs.Common.{◌≡◌, ◌∙◌, ap, List}
use Rattle.std.specs.Prelude.{true, None}
use Rattle.std.specs.List.{IsDistinct, list_all}
use Rattle.ast.specs.Program.{are_placed}
use Rattle.ast.specs.References.{are_numbered, block_references}
use Rattle.ast.specs.Store.{same_name}
use Rattle.ast.specs.Symbols.{Symbol, names_of}
use Rattle.ast.specs.Tree.{Block}
use Rattle.loop_tree.specs.Collecting.{Collected, after_block, no_collected, loops_in}
use Rattle.loop_tree.specs.Loops.{Loop}
use Rattle.loop_tree.specs.Occurrences.{Occurrence}
use Rattle.loop_tree.specs.Told.{are_told, known, references}
use Rattle.loop_tree.proofs.Gathered.{loops_gathered, references_gathered}
use Rattle.loop_tree.proofs.Known.{loops_told}
use Rattle.loop_tree.proofs.Placed.{all_told}
use Rattle.loop_tree.proofs.References.{block_same}

pub numbered_whole : (c : Collected) (b : Block) → c ≡ after_block None b no_collected → are_numbered 0 (block_references b) ≡ true → are_numbered 0 (references c.references) ≡ true
numbered_whole c b e h = ap (λ (os : List Occurrence). are_numbered 0 (references os)) (references_gathered c b e) ∙ ap (λ rs. are_numbered 0 rs) (block_same 0 b) ∙ h

pub told_whole : (c : Collected) (b : Block) (ss : List Symbol) → c ≡ after_block None b no_collected → IsDistinct same_name (names_of ss) → are_placed ss b ≡ true
    → list_all (λ (l : Loop). are_told (known l)) (loops_in c) ≡ true
told_whole c b ss e d p = ap (λ (ls : List Loop). list_all (λ (l : Loop). are_told (known l)) ls) (loops_gathered c b e) ∙ loops_told b (all_told ss (block_references b) d p)
