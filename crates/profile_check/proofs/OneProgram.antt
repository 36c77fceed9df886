-- A list of statements is at most one program, where they keep the rules on structure and each name
-- stands for one thing.
use Rattle.std.proofs.Common.{◌≡◌, ◌∙◌, true, List, sym, subst}
use Rattle.std.specs.List.{list_all}
use Rattle.ast.specs.Program.{ProgramTree, is_placed}
use Rattle.ast.specs.References.{block_expressions, block_references}
use Rattle.ast.specs.Symbols.{Symbol}
use Rattle.ast.specs.Tree.{Statement}
use Rattle.structure.specs.Rules.{Keep, checks}
use Rattle.profile_check.specs.Declarations.{declared_in, symbols_of}
use Rattle.profile_check.specs.Erasure.{block_erased}
use Rattle.profile_check.specs.Reads.{AreProgram, is_meant}
use Rattle.profile_check.proofs.Erased.{Known, ListSettled, same-block}
use Rattle.profile_check.proofs.Unique.{same-tree}

settled : (ss : List Statement) (p : ProgramTree) → AreProgram ss p → ListSettled (symbols_of (declared_in ss)) 0 (block_expressions p.block)
settled ss p h = record {
  meant = subst (λ (symbols : List Symbol). list_all (λ e. is_meant symbols e) (block_expressions p.block) ≡ true) h.symbols h.meant;
  placed = subst (λ (symbols : List Symbol). list_all (λ r. is_placed symbols r) (block_references p.block) ≡ true) h.symbols h.placed;
  numbered = h.numbered;
}

pub one-program : (ss : List Statement) (p q : ProgramTree) → AreProgram ss p → AreProgram ss q → Keep checks ss → Known (symbols_of (declared_in ss)) → p ≡ q
one-program ss p q h g keep known =
    let texts : block_erased p.block ≡ block_erased q.block = same-tree (block_erased p.block) (block_erased q.block) ss h.laid g.laid keep in
    let blocks : p.block ≡ q.block = same-block (symbols_of (declared_in ss)) known 0 p.block q.block texts (settled ss p h) (settled ss q g) in
    let symbols : p.symbols ≡ q.symbols = h.symbols ∙ sym g.symbols in
    let count : p.count ≡ q.count = h.count ∙ sym g.count in
    λ i. record { symbols = symbols i; block = blocks i; count = count i }
