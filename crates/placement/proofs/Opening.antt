-- What is placed is what placement promises.
use Rattle.std.proofs.Common.{◌≡◌, ◌∙◌, ◌+◌, inl, inr, ap, ℕ, Bool, true, false, List, map}
use Rattle.ast.specs.Tree.{Block}
use Rattle.dependence.specs.Hiding.{hides}
use Rattle.dependence.specs.Kept.{Suits}
use Rattle.dependence.specs.Plan.{PlanTree}
use Rattle.dependence.specs.Related.{relations as relations_in}
use Rattle.dependence.specs.declared.serial.SerialReason.{SerialReason}
use Rattle.dependence.specs.declared.serial.SerialReason.TheVariants.{Inside}
use Rattle.loop_tree.specs.Loops.{IsWhole, Loop}
use Rattle.loop_tree.specs.Told.{are_told, known}
use Rattle.placement.specs.Analysed.{AreAnalysed, AreTriples, triple}
use Rattle.placement.specs.Judged.{IsHindered, IsOpened, IsPlaced, IsPlain, IsSerial}
use Rattle.placement.specs.Listed.{awaited}
use Rattle.placement.specs.Placement.{AreAwaits, AreSources, IsPlacedBody}
use Rattle.placement.specs.Placing.{placed_block}
use Rattle.placement.specs.declared.analysis.Analysis.{Analysis}
use Rattle.placement.specs.declared.analysis.Kept.{Kept}
use Rattle.placement.specs.declared.placing.Spots.{Spots}
use Rattle.placement.specs.declared.planning.Placed.{Placed}
use Rattle.placement.proofs.Judging.{hindered, suiting}

-- what is awaited at the spots of sources is what is kept
abbrev pub AreSpots : List ℕ → List Kept → Spots → Type 0
AreSpots sources kept s = (l : Loop) → AreSources l sources → AreTriples l (map triple kept) → (t : ℕ) → AreAwaits l sources t (awaited s t)

pub placed_body : (l : Loop) (p : PlanTree) (a : Analysis) (s : Spots) (o : ℕ) (b : Block) → IsPlain l p.privates → AreAnalysed l p.privates a → s.sources.items ≡ a.sources.items → AreSpots a.sources.items a.kept.items s
    → o ≡ l.statement + 1 → b ≡ l.body → p.body ≡ placed_block s.sources.items (awaited s) o b → p.relations ≡ relations_in a.relations → IsPlacedBody l p
placed_body l p a s o b plain found same spots e f h r = record {
  privates = plain.privates;
  sources = a.sources.items;
  are_sources = found.sources;
  before = awaited s;
  awaits = λ t. spots l found.sources found.triples t;
  body = h ∙ ap (λ ss. placed_block ss (awaited s) o b) same ∙ ap (λ n. placed_block a.sources.items (awaited s) n b) e ∙ ap (λ c. placed_block a.sources.items (awaited s) (l.statement + 1) c) f;
  relations = r ∙ found.relations;
}

module _ (l : Loop) (whole : IsWhole l) (told : are_told (known l) ≡ true) (placed : Placed) where
  pub stays_serial : (inside : Bool) (r : SerialReason) → IsHindered l r → IsSerial r placed → placed.suits ≡ false → IsPlaced l inside placed
  stays_serial inside r h p s = let g = hindered l whole told r h in inr (s, g.0, (r, p, g.1))

  suits : (names : List (List ℕ)) (a : Analysis) → IsPlain l names → hides names l ≡ true → AreAnalysed l names a → Suits l
  suits names a plain h found = suiting l whole told names a plain h found

  pub stays_inside : (names : List (List ℕ)) (a : Analysis) → IsPlain l names → hides names l ≡ true → AreAnalysed l names a → IsSerial Inside placed → placed.suits ≡ true → IsPlaced l true placed
  stays_inside names a plain h found p s = inl (s, suits names a plain h found, p)

  pub is_open : (names : List (List ℕ)) (a : Analysis) → IsPlain l names → hides names l ≡ true → AreAnalysed l names a → IsOpened l placed → placed.suits ≡ true → IsPlaced l false placed
  is_open names a plain h found p s = inl (s, suits names a plain h found, p)
