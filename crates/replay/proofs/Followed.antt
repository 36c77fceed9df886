-- Entries one after another.
use Rattle.std.proofs.Common.{inl, inr, ◌≡◌, ◌∙◌, ℕ, zero, suc, ◌+◌, ◌≤◌, List, [], ◌∷◌, ◌++◌, length, Option, Some, None, refl, sym, ap, subst, append_assoc, arith}
use Rattle.std.proofs.lemmas.List.{length-append}
use Rattle.ast.specs.declared.fault.End.{End}
use Rattle.machine.specs.Code.{Code}
use Rattle.schedules.specs.Refusals.{Explains}
use Rattle.schedules.specs.Schedules.{Act, works, shares, picks_main, picks, takes_ticket, AreEntries, Entry, IsAct, Schedule, with_entry}
use Rattle.schedules.specs.declared.entry.Version.{Version}
use Rattle.schedules.specs.declared.entry.Version.TheVariants.{First, Second}
use Rattle.schedules.specs.declared.flaw.Flaw.{Flaw}
use Rattle.schedules.specs.declared.flaw.Flaw.TheVariants.{Header, Entry as NoEntry, Processor as NoProcessor, Impossible, Unended, BehindEnd}
use Rattle.schedules.specs.declared.refusal.ReplayRefusal.{ReplayRefusal}
use Rattle.schedules.specs.declared.refusal.ReplayRefusal.TheVariants.{Memory, Refused}
use Rattle.activities.specs.Activities.{AreActivities, Stays, code_in, point_in}
use Rattle.replay.specs.Making.{AreNamed, IsNamed, LeadsOnly, MadeAs}
use Rattle.replay.specs.Replayed.{CannotBeMade, NamesPicks, NoneLeads, StopsAt}
use Rattle.activities.specs.Points.{Point, Works}
use Rattle.replay.specs.Replays.{Does, Leads}
use Rattle.activities.specs.declared.holding.Activities.{Activities}

-- the entries before this line were made, and the rest is left
pub record Follows (v : Version) (code : Code) (s : ℕ) (start : Point) (all rest : List Entry) (line : ℕ) (a : Point) : Type 0 where
  pub front : List Entry
  pub is : all ≡ front ++ rest
  pub at : line ≡ 3 + length front
  pub leads : Leads v code s start front a
  pub only : (b : Point) → Leads v code s start all b → Leads v code s a rest b

-- one entry more
pub leads_more : (v : Version) (code : Code) (s : ℕ) (a b c : Point) (es : List Entry) (e : Entry) → Leads v code s a es b → Does v code s e.act b e.processor c → Leads v code s a (es ++ e ∷ []) c
leads_more v code s a b c [] e l d = (c, subst (λ (x : Point). Does v code s e.act x e.processor c) (sym l) d, refl)
leads_more v code s a b c (x ∷ es) e l d = (l.0, l.1, leads_more v code s l.0 b c es e l.2 d)

pub goes_on : (v : Version) (code : Code) (s : ℕ) (start : Point) (all rest : List Entry) (e : Entry) (line : ℕ) (a b : Point) (y : Act) → Follows v code s start all (e ∷ rest) line a → MadeAs v code s e.act a e.processor y b
    → Follows v code s start all rest (line + 1) b
goes_on v code s start all rest e line a b y f m = record {
  front = f.front ++ e ∷ [];
  is = f.is ∙ sym (append_assoc f.front (e ∷ []) rest);
  at = omega (arith, f.at, length-append f.front (e ∷ []));
  leads = leads_more v code s start a b f.front e f.leads m.does;
  only = λ c l. (let n = f.only c l in subst (λ (x : Point). Leads v code s x rest c) (m.only n.0 n.1) n.2);
}

pub stops : (v : Version) (code : Code) (s : ℕ) (start : Point) (all rest : List Entry) (e : Entry) (line : ℕ) (flaw : Flaw) (a : Point) → Follows v code s start all (e ∷ rest) line a → CannotBeMade v code s e.act a e.processor flaw
    → StopsAt v code s start all flaw line
stops v code s start all rest e line flaw a f d = record {
  before = f.front;
  entry = e;
  behind = rest;
  is = f.is;
  at = f.at;
  point = a;
  leads = f.leads;
  cannot = d;
}

-- how far it has come
pub lines_left : (v : Version) (code : Code) (s : ℕ) (start : Point) (all rest : List Entry) (line : ℕ) (a : Point) → Follows v code s start all rest line a → line + length rest ≡ 3 + length all
lines_left v code s start all rest line a f = omega (arith, f.at, ap length f.is, length-append f.front rest)

-- ---- activities that follow entries

pub stays_on : (a b c : Activities) → Stays a b → Stays b c → Stays a c
stays_on a b c h k = record { code_is = k.code_is ∙ h.code_is; processors = k.processors ∙ h.processors; slots = k.slots ∙ h.slots }

-- what an entry does is the same where the code and the slots are
pub made_here : (v : Version) (a b : Activities) (s : ℕ) (x : Act) (q : ℕ) (y : Act) (c : Point) → Stays a b → a.slots ≡ s → MadeAs v (code_in b) b.slots x (point_in b) q y c → MadeAs v (code_in a) s x (point_in b) q y c
made_here v a b s x q y c h e m =
    subst (λ (k : Code). MadeAs v k s x (point_in b) q y c) h.code_is (subst (λ (n : ℕ). MadeAs v (code_in b) n x (point_in b) q y c) (h.slots ∙ e) m)

pub cannot_here : (v : Version) (a b : Activities) (s : ℕ) (x : Act) (q : ℕ) (flaw : Flaw) → Stays a b → a.slots ≡ s → CannotBeMade v (code_in b) b.slots x (point_in b) q flaw → CannotBeMade v (code_in a) s x (point_in b) q flaw
cannot_here v a b s x q flaw h e m =
    subst (λ (k : Code). CannotBeMade v k s x (point_in b) q flaw) h.code_is (subst (λ (n : ℕ). CannotBeMade v (code_in b) n x (point_in b) q flaw) (h.slots ∙ e) m)

-- what always holds while entries are followed
abbrev pub Following : Version → ℕ → ℕ → List Entry → Activities → List Entry → ℕ → Activities → Type 0
Following v p s all a rest line b =
    Follows v (code_in a) s (point_in a) all rest line (point_in b) × AreEntries v p rest × AreActivities b × Stays a b

pub follows_on : (v : Version) (p s : ℕ) (all : List Entry) (a b d : Activities) (rest more : List Entry) (e : Entry) (line : ℕ) (y : Act) → a.slots ≡ s → Following v p s all a rest line b → rest ≡ e ∷ more
    → MadeAs v (code_in b) b.slots e.act (point_in b) e.processor y (point_in d) → AreActivities d → Stays b d → Following v p s all a more (line + 1) d
follows_on v p s all a b d rest more e line y h f r m i t =
    let g = subst (λ (es : List Entry). Following v p s all a es line b) r f in
    (goes_on v (code_in a) s (point_in a) all more e line (point_in b) (point_in d) y g.0 (made_here v a b s e.act e.processor y (point_in d) g.3 h m), g.1.1, i, stays_on a b d g.3 t)

pub follows_stop : (v : Version) (p s : ℕ) (all : List Entry) (a b : Activities) (rest more : List Entry) (e : Entry) (line : ℕ) (flaw : Flaw) → a.slots ≡ s → Following v p s all a rest line b → rest ≡ e ∷ more
    → CannotBeMade v (code_in b) b.slots e.act (point_in b) e.processor flaw → StopsAt v (code_in a) s (point_in a) all flaw line
follows_stop v p s all a b rest more e line flaw h f r d =
    let g = subst (λ (es : List Entry). Following v p s all a es line b) r f in
    stops v (code_in a) s (point_in a) all more e line flaw (point_in b) g.0 (cannot_here v a b s e.act e.processor flaw g.3 h d)

-- behind the end nothing is done
ended_is : (o : Option End) (e : End) → o ≡ None → o ≡ Some e → ⊥
ended_is o e h k = let z : None ≡ Some e = sym h ∙ k in cc

ended_work : (code : Code) (s n : ℕ) (a : Point) (q : ℕ) (b : Point) (e : End) → a.machine.ended ≡ Some e → 1 ≤ n → Works code s n a q b → ⊥
ended_work code s zero a q b e h i w = absurd (omega (arith, i))
ended_work code s (suc n) a q b e h i w = ended_is a.machine.ended e w.1.step.going h

pub none_behind_end : (v : Version) (code : Code) (s : ℕ) (x : Act) (a : Point) (q : ℕ) (b : Point) (e : End) → a.machine.ended ≡ Some e → IsAct v x → Does v code s x a q b → ⊥
none_behind_end v code s (works n) a q b e h i d = ended_work code s n a q b e h i.0 d
none_behind_end First code s shares a q b e h i (inl d) = ended_is a.machine.ended e d.step.going h
none_behind_end First code s shares a q b e h i (inr d) = ended_is a.machine.ended e d.2.going h
none_behind_end Second code s shares a q b e h i d = ended_is a.machine.ended e d.step.going h
none_behind_end v code s picks_main a q b e h i d = ended_is a.machine.ended e d.going h
none_behind_end v code s (picks k) a q b e h i d = ended_is a.machine.ended e d.going h
none_behind_end v code s takes_ticket a q b e h i d = ended_is a.machine.ended e d.going h

cannot_be : (v : Version) (code : Code) (s : ℕ) (x : Act) (a : Point) (q : ℕ) (flaw : Flaw) → IsAct v x → CannotBeMade v code s x a q flaw → (b : Point) → Does v code s x a q b → ⊥
cannot_be v code s x a q Impossible i h b d = h.1 b d
cannot_be v code s x a q BehindEnd i h b d = none_behind_end v code s x a q b h.0 h.1 i d
cannot_be v code s x a q Header i h b d = h
cannot_be v code s x a q NoEntry i h b d = h
cannot_be v code s x a q NoProcessor i h b d = h
cannot_be v code s x a q Unended i h b d = h

pub follows_nowhere : (v : Version) (p s : ℕ) (all : List Entry) (a b : Activities) (rest more : List Entry) (e : Entry) (line : ℕ) (flaw : Flaw) → a.slots ≡ s → Following v p s all a rest line b → rest ≡ e ∷ more
    → CannotBeMade v (code_in b) b.slots e.act (point_in b) e.processor flaw → NoneLeads v (code_in a) s (point_in a) all
follows_nowhere v p s all a b rest more e line flaw h f r d c l =
    let g = subst (λ (es : List Entry). Following v p s all a es line b) r f in
    let n = g.0.only c l in
    cannot_be v (code_in a) s e.act (point_in b) e.processor flaw g.1.0.1 (cannot_here v a b s e.act e.processor flaw g.3 h d) n.0 n.1

-- ---- refusals

pub explained : (r : ReplayRefusal) (P Q : Flaw → ℕ → Type 0) → ((w : Flaw) (l : ℕ) → P w l → Q w l) → Explains r P → Explains r Q
explained Memory P Q f h = tt
explained (Refused w l) P Q f h = f w l h

pub refused_nowhere : (r : ReplayRefusal) (v w : Version) (p s : ℕ) (all : List Entry) (a b : Activities) (rest more : List Entry) (e : Entry) (line : ℕ) → w ≡ v → a.slots ≡ s → Following v p s all a rest line b → rest ≡ e ∷ more
    → Explains r (λ flaw at. (at ≡ line) × CannotBeMade w (code_in b) b.slots e.act (point_in b) e.processor flaw) → Explains r (λ flaw at. NoneLeads v (code_in a) s (point_in a) all)
refused_nowhere r v w p s all a b rest more e line t h f k x =
    explained r (λ flaw at. (at ≡ line) × CannotBeMade w (code_in b) b.slots e.act (point_in b) e.processor flaw) (λ flaw at. NoneLeads v (code_in a) s (point_in a) all)
    (λ n l d. follows_nowhere v p s all a b rest more e line n h f k (subst (λ (u : Version). CannotBeMade u (code_in b) b.slots e.act (point_in b) e.processor n) t d.1)) x

pub refused_stop : (r : ReplayRefusal) (v w : Version) (p s : ℕ) (all : List Entry) (a b : Activities) (rest more : List Entry) (e : Entry) (line : ℕ) → w ≡ v → a.slots ≡ s → Following v p s all a rest line b → rest ≡ e ∷ more
    → Explains r (λ flaw at. (at ≡ line) × CannotBeMade w (code_in b) b.slots e.act (point_in b) e.processor flaw) → Explains r (StopsAt v (code_in a) s (point_in a) all)
refused_stop r v w p s all a b rest more e line t h f k x =
    explained r (λ flaw at. (at ≡ line) × CannotBeMade w (code_in b) b.slots e.act (point_in b) e.processor flaw) (StopsAt v (code_in a) s (point_in a) all)
    (λ n l d. subst (λ (m : ℕ). StopsAt v (code_in a) s (point_in a) all n m) (sym d.0)
    (follows_stop v p s all a b rest more e line n h f k (subst (λ (u : Version). CannotBeMade u (code_in b) b.slots e.act (point_in b) e.processor n) t d.1))) x

-- ---- the same with picks named

pub record FollowingNamed (x : Schedule) (a : Activities) (rest : List Entry) (line : ℕ) (b : Activities) (y : Schedule) : Type 0 where
  pub follows : Following x.version x.processors x.slots x.entries a rest line b
  pub named : Leads Second (code_in a) x.slots (point_in a) y.entries (point_in b)
  pub front : List Entry
  pub is : x.entries ≡ front ++ rest
  pub each : AreNamed front y.entries
  pub sizes : y ≡ record { version = Second; processors = x.processors; slots = x.slots; entries = y.entries }

named_more : (xs ys : List Entry) (x : Entry) (n : Act) → AreNamed xs ys → IsNamed x.act n → AreNamed (xs ++ x ∷ []) (ys ++ record { processor = x.processor; act = n } ∷ [])
named_more [] [] x n h i = (refl, i, tt)
named_more [] (b ∷ ys) x n h i = absurd h
named_more (a ∷ xs) [] x n h i = absurd h
named_more (a ∷ xs) (b ∷ ys) x n h i = (h.0, h.1, named_more xs ys x n h.2 i)

-- entries are named by themselves
itself : (x : Act) → IsNamed x x
itself (works n) = refl
itself shares = tt
itself picks_main = refl
itself (picks k) = refl
itself takes_ticket = refl

all_themselves : (xs : List Entry) → AreNamed xs xs
all_themselves [] = tt
all_themselves (x ∷ xs) = (refl, itself x.act, all_themselves xs)

pub names_itself : (code : Code) (a b : Point) (x y : Schedule) → x.version ≡ Second → y ≡ x → LeadsOnly x.version code x.slots a x.entries b → NamesPicks code a x y
names_itself code a b x y v e l =
    subst (λ (z : Schedule). NamesPicks code a x z) (sym e) (record {
      version = v;
      processors = refl;
      slots = refl;
      entries = all_themselves x.entries;
      point = b;
      old = l.leads;
      new = subst (λ (w : Version). Leads w code x.slots a x.entries b) v l.leads;
      same = λ d. refl;
    })

pub names_on : (x : Schedule) (a b d : Activities) (rest more : List Entry) (e : Entry) (line : ℕ) (n : Act) (y z : Schedule) → a.slots ≡ x.slots → FollowingNamed x a rest line b y → rest ≡ e ∷ more
    → MadeAs x.version (code_in b) b.slots e.act (point_in b) e.processor n (point_in d) → AreActivities d → Stays b d → z ≡ with_entry y (record { processor = e.processor; act = n }) → FollowingNamed x a more (line + 1) d z
names_on x a b d rest more e line n y z h f r m i t w = record {
  follows = follows_on x.version x.processors x.slots x.entries a b d rest more e line n h f.follows r m i t;
  named = subst (λ (es : List Entry). Leads Second (code_in a) x.slots (point_in a) es (point_in d)) (sym (ap (λ (v : Schedule). v.entries) w))
      (leads_more Second (code_in a) x.slots (point_in a) (point_in b) (point_in d) y.entries (record { processor = e.processor; act = n }) f.named
      (made_here x.version a b x.slots e.act e.processor n (point_in d) f.follows.3 h m).named);
  front = f.front ++ e ∷ [];
  is = f.is ∙ ap (λ (es : List Entry). f.front ++ es) r ∙ sym (append_assoc f.front (e ∷ []) more);
  each = subst (λ (es : List Entry). AreNamed (f.front ++ e ∷ []) es) (sym (ap (λ (v : Schedule). v.entries) w))
      (named_more f.front y.entries e n f.each m.is_named);
  sizes = w ∙ ap (λ (v : Schedule). with_entry v (record { processor = e.processor; act = n })) f.sizes ∙ ap (λ (es : List Entry). sized x es) (sym (ap (λ (v : Schedule). v.entries) w));
}
  where
    sized : Schedule → List Entry → Schedule
    sized v es = record { version = Second; processors = v.processors; slots = v.slots; entries = es }
