-- A loop may be open exactly where it suits and no loop around it does.
use Rattle.std.proofs.Common.{List, [], ◌∷◌}
use Rattle.dependence.specs.Kept.{EligibleIn, NoneEligible, Suits}
use Rattle.loop_tree.specs.Loops.{Loop}
use Rattle.placement.specs.Opening.{IsOutermost, NoneSuits}

mutual
  none_eligible : (around : List Loop) → NoneSuits around → NoneEligible around
  none_eligible [] h = tt
  none_eligible (m ∷ around) h = ((λ e. h.0 (suits m around e)), none_eligible around h.1)

  pub suits : (m : Loop) (around : List Loop) → EligibleIn m around → Suits m
  suits m [] e = e
  suits m (n ∷ around) e = e.0

none_suits : (around : List Loop) → NoneEligible around → NoneSuits around
none_suits [] h = tt
none_suits (m ∷ []) h = ((λ s. h.0 s), tt)
none_suits (m ∷ n ∷ around) h = ((λ s. h.0 (s, h.1.0, h.1.1)), none_suits (n ∷ around) h.1)

pub is_outermost : IsOutermost
is_outermost l around = (only around, if_outermost around)
  where
    only : (around : List Loop) → EligibleIn l around → Suits l × NoneSuits around
    only [] e = (e, tt)
    only (m ∷ more) e = (e.0, none_suits (m ∷ more) (e.1, e.2))

    if_outermost : (around : List Loop) → Suits l × NoneSuits around → EligibleIn l around
    if_outermost [] h = h.0
    if_outermost (m ∷ more) h = let g = none_eligible (m ∷ more) h.1 in (h.0, g.0, g.1)
