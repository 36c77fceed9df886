-- What an entry does leads to one point alone.
use Rattle.std.proofs.Common.{inl, inr, ◌≡◌, ◌∙◌, ℕ, false, refl, ap, subst}
use Rattle.machine.specs.Code.{Code}
use Rattle.machine.specs.State.{Choice, take_main, take_iteration, take_ticket}
use Rattle.schedules.specs.Schedules.{works, shares, IsAct}
use Rattle.schedules.specs.declared.entry.Version.{Version}
use Rattle.schedules.specs.declared.entry.Version.TheVariants.{First, Second}
use Rattle.activities.specs.Activities.{Stays, code_in, kept_in, point_in}
use Rattle.replay.specs.Making.{IsNamed, MadeAs, pick_of}
use Rattle.activities.specs.Parts.{Kept, point_of}
use Rattle.activities.specs.Points.{Point, ByRule, Moves, Picks, Works}
use Rattle.replay.specs.Replays.{Does}
use Rattle.activities.specs.declared.holding.Activities.{Activities}
use Rattle.replay.proofs.Determined.{moves_same, picks_same, works_same, holds_no_pick}

pub made_work : (v : Version) (code : Code) (s n : ℕ) (a : Point) (q : ℕ) (b : Point) → IsAct v (works n) → Works code s n a q b → MadeAs v code s (works n) a q (works n) b
made_work v code s n a q b i w = record {
  does = w;
  only = λ c x. works_same code s n a q c b x w;
  named = w;
  allowed = i;
  is_named = refl;
  same = λ e. refl;
}

pub made_share : (v : Version) (code : Code) (s : ℕ) (a : Point) (q : ℕ) (b : Point) → Moves code s false a q b → MadeAs v code s shares a q shares b
made_share First code s a q b m = record {
  does = inl m;
  only = only;
  named = m;
  allowed = tt;
  is_named = tt;
  same = λ e. refl;
}
  where
    only : (c : Point) → Does First code s shares a q c → c ≡ b
    only c (inl x) = moves_same code s false false a q c b x m
    only c (inr x) = absurd (holds_no_pick code s false x.0 a q b c m x.2)
made_share Second code s a q b m = record {
  does = m;
  only = λ c x. moves_same code s false false a q c b x m;
  named = m;
  allowed = tt;
  is_named = tt;
  same = λ e. refl;
}

pub named_pick : (code : Code) (s : ℕ) (v : Version) (c : Choice) (a : Point) (q : ℕ) (b : Point) → Picks code s c a q b → Does v code s (pick_of c) a q b
named_pick code s v take_main a q b h = h
named_pick code s v (take_iteration k) a q b h = h
named_pick code s v take_ticket a q b h = h

pub pick_named : (code : Code) (s : ℕ) (v : Version) (c : Choice) (a : Point) (q : ℕ) (b : Point) → Does v code s (pick_of c) a q b → Picks code s c a q b
pick_named code s v take_main a q b h = h
pick_named code s v (take_iteration k) a q b h = h
pick_named code s v take_ticket a q b h = h

pick_itself : (c : Choice) → IsNamed (pick_of c) (pick_of c)
pick_itself take_main = refl
pick_itself (take_iteration k) = refl
pick_itself take_ticket = refl

pick_of_share : (c : Choice) → IsNamed shares (pick_of c)
pick_of_share take_main = tt
pick_of_share (take_iteration k) = tt
pick_of_share take_ticket = tt

pub made_pick : (v : Version) (code : Code) (s : ℕ) (c : Choice) (a : Point) (q : ℕ) (b : Point) → IsAct Second (pick_of c) → Picks code s c a q b → MadeAs v code s (pick_of c) a q (pick_of c) b
made_pick v code s c a q b i h = record {
  does = named_pick code s v c a q b h;
  only = λ d x. picks_same code s c a q d b (pick_named code s v c a q d x) h;
  named = named_pick code s Second c a q b h;
  allowed = i;
  is_named = pick_itself c;
  same = λ e. refl;
}

-- by the rule
pub made_by_rule : (code : Code) (s : ℕ) (c : Choice) (a : Point) (q : ℕ) (b : Point) → IsAct Second (pick_of c) → ((d : Choice) (r : ℕ) (x : Point) → ByRule s a.order d → Picks code s d a r x → d ≡ c) → ByRule s a.order c → Picks code s c a q b
    → MadeAs First code s shares a q (pick_of c) b
made_by_rule code s c a q b i alone rule h = record {
  does = inr (c, rule, h);
  only = only;
  named = named_pick code s Second c a q b h;
  allowed = i;
  is_named = pick_of_share c;
  same = λ e. (let z : First ≡ Second = e in cc);
}
  where
    only : (d : Point) → Does First code s shares a q d → d ≡ b
    only d (inl x) = absurd (holds_no_pick code s false c a q d b x h)
    only d (inr x) = picks_same code s c a q d b (subst (λ (e : Choice). Picks code s e a q d) (alone x.0 q d x.1 x.2) x.2) h

pub none_by_rule : (code : Code) (s : ℕ) (c : Choice) (a : Point) (q : ℕ) → ((b : Point) → Moves code s false a q b → ⊥) → ((d : Choice) (r : ℕ) (x : Point) → ByRule s a.order d → Picks code s d a r x → d ≡ c)
    → ((b : Point) → Picks code s c a q b → ⊥) → (b : Point) → Does First code s shares a q b → ⊥
none_by_rule code s c a q still alone idle b (inl x) = still b x
none_by_rule code s c a q still alone idle b (inr x) = idle b (subst (λ (e : Choice). Picks code s e a q b) (alone x.0 q b x.1 x.2) x.2)

-- nothing has changed
pub point_stays : (old new : Activities) → Stays old new → kept_in new ≡ kept_in old → point_in new ≡ point_in old
point_stays old new h e =
    ap (λ (c : Code). point_of c.variables new.slots (kept_in new)) h.code_is
    ∙ ap (λ (s : ℕ). point_of (code_in old).variables s (kept_in new)) h.slots
    ∙ ap (λ (k : Kept). point_of (code_in old).variables old.slots k) e
