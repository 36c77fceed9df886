-- Where a schedule leads from the beginning.
use Rattle.std.proofs.Common.{◌≡◌, ◌∙◌, ℕ, ◌+◌, List, length, Some, None, sym, ap, subst}
use Rattle.std.specs.Prelude.{Result, Ok, Err, IfOk, IfErr}
use Rattle.std.proofs.lemmas.Result.{IfOk-weaker}
use Rattle.ast.specs.View.{cells}
use Rattle.ast.specs.declared.answer.Answer.{Answer}
use Rattle.ast.specs.declared.fault.End.{End}
use Rattle.machine.specs.Code.{Code}
use Rattle.schedules.specs.Refusals.{Explains}
use Rattle.schedules.specs.Schedules.{Schedule}
use Rattle.schedules.specs.declared.flaw.Flaw.{Flaw}
use Rattle.schedules.specs.declared.flaw.Flaw.TheVariants.{Header, Entry, Processor, Impossible, Unended, BehindEnd}
use Rattle.schedules.specs.declared.refusal.ReplayRefusal.{ReplayRefusal}
use Rattle.activities.specs.Activities.{AreOf, Stays, code_in, point_in}
use Rattle.replay.specs.Making.{LeadsOnly}
use Rattle.machine.specs.StoreView.{store_of}
use Rattle.replay.specs.Replayed.{GivesNone, HasStop, IsReplay, IsUpgrade, LeadsNowhere, NamesPicks, NeverEnds, NoneLeads, NotEnded, StopsAt, stored}
use Rattle.activities.specs.Points.{Point, beginning}
use Rattle.activities.specs.declared.holding.Activities.{Activities}
use Rattle.replay.proofs.Followed.{explained}

-- a claim about the beginning is one about the activities that have just begun
begins : (code : Code) (input : List ℕ) (p s : ℕ) (a : Activities) (P : Code → Point → Type 0) → AreOf code p s a → point_in a ≡ beginning code input s → P (code_in a) (point_in a) → P code (beginning code input s)
begins code input p s a P h e x = subst (λ (k : Code). P k (beginning code input s)) h.code_is (subst (λ (b : Point). P (code_in a) b) e x)

led : (code : Code) (input : List ℕ) (x : Schedule) (a b : Activities) → AreOf code x.processors x.slots a → point_in a ≡ beginning code input x.slots
    → LeadsOnly x.version (code_in a) x.slots (point_in a) x.entries (point_in b) → LeadsOnly x.version code x.slots (beginning code input x.slots) x.entries (point_in b)
led code input x a b h e l = begins code input x.processors x.slots a (λ k c. LeadsOnly x.version k x.slots c x.entries (point_in b)) h e l

pub is_replay : (code : Code) (input : List ℕ) (x : Schedule) (a b : Activities) (y : Answer) (e : End) → AreOf code x.processors x.slots a → point_in a ≡ beginning code input x.slots
    → LeadsOnly x.version (code_in a) x.slots (point_in a) x.entries (point_in b) → Stays a b → b.shared.ended ≡ Some e
    → y.output.items ≡ b.shared.output.items → cells y.store ≡ stored code.variables (store_of code.variables b.shared.cells.items) → y.end ≡ e → IsReplay code input x y
is_replay code input x a b y e h p l t d o s f = record {
  point = point_in b;
  replays = record { leads = (led code input x a b h p l).leads };
  is = record {
    end = d ∙ ap (λ (z : End). Some z) (sym f);
    output = o;
    store = s ∙ ap (λ (k : Code). stored code.variables (store_of k.variables b.shared.cells.items)) (sym (t.code_is ∙ h.code_is));
  };
}

pub not_ended : (code : Code) (input : List ℕ) (x : Schedule) (a b : Activities) (n line : ℕ) → AreOf code x.processors x.slots a → point_in a ≡ beginning code input x.slots
    → LeadsOnly x.version (code_in a) x.slots (point_in a) x.entries (point_in b) → b.shared.ended ≡ None → n ≡ length x.entries → line ≡ 2 + n → NotEnded code input x line
not_ended code input x a b n line h p l d e f = record {
  point = point_in b;
  replays = record { leads = (led code input x a b h p l).leads };
  going = d;
  at = f ∙ ap (λ (i : ℕ). 2 + i) e;
}

pub never_ends : (code : Code) (input : List ℕ) (x : Schedule) (a b : Activities) → AreOf code x.processors x.slots a → point_in a ≡ beginning code input x.slots
    → LeadsOnly x.version (code_in a) x.slots (point_in a) x.entries (point_in b) → b.shared.ended ≡ None → NeverEnds code input x
never_ends code input x a b h p l d c e r f =
    let same : c ≡ point_in b = (led code input x a b h p l).only c r.leads in
    let z : None ≡ Some e = sym d ∙ sym (ap (λ (q : Point). q.machine.ended) same) ∙ f in cc

pub has_stop : (code : Code) (input : List ℕ) (x : Schedule) (a : Activities) (r : ReplayRefusal) → AreOf code x.processors x.slots a → point_in a ≡ beginning code input x.slots
    → Explains r (StopsAt x.version (code_in a) x.slots (point_in a) x.entries) → Explains r (HasStop code input x)
has_stop code input x a r h p s =
    begins code input x.processors x.slots a (λ k c. Explains r (StopsAt x.version k x.slots c x.entries)) h p s

-- an entry that can't be made is no want of an end
stop_gives_none : (code : Code) (input : List ℕ) (x : Schedule) (w : Flaw) (l : ℕ) → HasStop code input x w l → GivesNone code input x w l
stop_gives_none code input x Header l d = d
stop_gives_none code input x Entry l d = d
stop_gives_none code input x Processor l d = d
stop_gives_none code input x Impossible l d = d
stop_gives_none code input x Unended l d = absurd d.cannot
stop_gives_none code input x BehindEnd l d = d

pub gives_none : (code : Code) (input : List ℕ) (x : Schedule) (a : Activities) (r : ReplayRefusal) → AreOf code x.processors x.slots a → point_in a ≡ beginning code input x.slots
    → Explains r (StopsAt x.version (code_in a) x.slots (point_in a) x.entries) → Explains r (GivesNone code input x)
gives_none code input x a r h p s = explained r (HasStop code input x) (GivesNone code input x) (stop_gives_none code input x) (has_stop code input x a r h p s)

pub leads_nowhere : (code : Code) (input : List ℕ) (x : Schedule) (a : Activities) (r : ReplayRefusal) → AreOf code x.processors x.slots a → point_in a ≡ beginning code input x.slots
    → Explains r (λ w l. NoneLeads x.version (code_in a) x.slots (point_in a) x.entries) → Explains r (λ w l. LeadsNowhere code input x)
leads_nowhere code input x a r h p s =
    explained r (λ w l. NoneLeads x.version code x.slots (beginning code input x.slots) x.entries) (λ w l. LeadsNowhere code input x) (λ w l d b q. d b q.leads)
    (begins code input x.processors x.slots a (λ k c. Explains r (λ w l. NoneLeads x.version k x.slots c x.entries)) h p s)

pub nowhere_ends : (code : Code) (input : List ℕ) (x : Schedule) (a : Activities) (r : ReplayRefusal) → AreOf code x.processors x.slots a → point_in a ≡ beginning code input x.slots
    → Explains r (λ w l. NoneLeads x.version (code_in a) x.slots (point_in a) x.entries) → Explains r (λ w l. NeverEnds code input x)
nowhere_ends code input x a r h p s =
    explained r (λ w l. LeadsNowhere code input x) (λ w l. NeverEnds code input x) (λ w l d b e q f. d b q) (leads_nowhere code input x a r h p s)

pub is_upgrade : (code : Code) (input : List ℕ) (x y : Schedule) (a : Activities) → AreOf code x.processors x.slots a → point_in a ≡ beginning code input x.slots
    → NamesPicks (code_in a) (point_in a) x y → NamesPicks code (beginning code input x.slots) x y
is_upgrade code input x y a h p n = begins code input x.processors x.slots a (λ k c. NamesPicks k c x y) h p n

-- ---- results

if_err : {X E : Type 0} (r : Result X E) (P Q : E → Type 0) → ((e : E) → P e → Q e) → IfErr r P → IfErr r Q
if_err (Ok x) P Q f h = h
if_err (Err e) P Q f h = f e h

abbrev pub Upgraded : Type 0
Upgraded = Result Schedule ReplayRefusal

pub found_upgrade : (code : Code) (input : List ℕ) (x : Schedule) (a : Activities) (r : Upgraded) → AreOf code x.processors x.slots a → point_in a ≡ beginning code input x.slots
    → IfOk r (NamesPicks (code_in a) (point_in a) x) → IfOk r (IsUpgrade code input x)
found_upgrade code input x a r h p n = IfOk-weaker r (NamesPicks (code_in a) (point_in a) x) (IsUpgrade code input x) (λ y m. is_upgrade code input x y a h p m) n

pub refused_upgrade : (code : Code) (input : List ℕ) (x : Schedule) (a : Activities) (r : Upgraded) → AreOf code x.processors x.slots a → point_in a ≡ beginning code input x.slots
    → IfErr r (λ f. Explains f (StopsAt x.version (code_in a) x.slots (point_in a) x.entries)) → IfErr r (λ f. Explains f (HasStop code input x))
refused_upgrade code input x a r h p n =
    if_err r (λ f. Explains f (StopsAt x.version (code_in a) x.slots (point_in a) x.entries)) (λ f. Explains f (HasStop code input x)) (λ f s. has_stop code input x a f h p s) n

pub no_upgrade : (code : Code) (input : List ℕ) (x : Schedule) (a : Activities) (r : Upgraded) → AreOf code x.processors x.slots a → point_in a ≡ beginning code input x.slots
    → IfErr r (λ f. Explains f (λ w l. NoneLeads x.version (code_in a) x.slots (point_in a) x.entries)) → IfErr r (λ f. Explains f (λ w l. LeadsNowhere code input x))
no_upgrade code input x a r h p n =
    if_err r (λ f. Explains f (λ w l. NoneLeads x.version (code_in a) x.slots (point_in a) x.entries)) (λ f. Explains f (λ i l. LeadsNowhere code input x)) (λ f s. leads_nowhere code input x a f h p s) n
