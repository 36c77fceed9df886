-- Schedules of turns lead to where the turns lead.
use Rattle.std.proofs.Common.{◌≡◌, ◌∙◌, ℕ, Bool, true, false, List, [], ◌∷◌, ◌++◌, Option, Some, None, refl, sym, ap, subst}
use Rattle.std.specs.Prelude.{IfSome, is_some, option_map}
use Rattle.machine.specs.Code.{Code}
use Rattle.machine.specs.State.{Choice, take_iteration, take_main, take_ticket}
use Rattle.activities.specs.Activities.{chosen}
use Rattle.activities.specs.Points.{Picks, Point, beginning}
use Rattle.replay.specs.Making.{pick_of}
use Rattle.replay.specs.Replays.{Does, Leads, Replays}
use Rattle.schedules.specs.Schedules.{Entry, IsSchedule, Schedule, with_entries}
use Rattle.schedules.specs.declared.entry.Version.{Version}
use Rattle.schedules.specs.declared.entry.Version.TheVariants.{Second}
use Rattle.unrecorded.specs.View.{IsSameRun, RunView, point_at}
use Rattle.model_time.specs.Records.{AlsoRecords, IsRecord, Records, entries_of, new_schedule}
use Rattle.model_time.specs.Turns.{IsTurn, Turn}
use Rattle.model_time.specs.declared.turned.Turned.{Turned}
use Rattle.model_time.specs.declared.turned.Turned.TheVariants.{Local, Shared, Picked, Waited}

-- entries, and further ones
leads_on : (v : Version) (code : Code) (s : ℕ) (a b c : Point) (es fs : List Entry) → Leads v code s a es b → Leads v code s b fs c → Leads v code s a (es ++ fs) c
leads_on v code s a b c [] fs h k = subst (λ (x : Point). Leads v code s x fs c) (sym h) k
leads_on v code s a b c (e ∷ es) fs h k = (h.0, h.1, leads_on v code s h.0 b c es fs h.2 k)

picks_so : (code : Code) (s q : ℕ) (a b : Point) (c : Choice) → Picks code s c a q b → Does Second code s (pick_of c) a q b
picks_so code s q a b take_main h = h
picks_so code s q a b (take_iteration k) h = h
picks_so code s q a b take_ticket h = h

-- a turn's entries lead where the turn does
turn_leads : (code : Code) (s q : ℕ) (a b : Point) (t : Turned) → Turn code s a q t b → Leads Second code s a (entries_of q t) b
turn_leads code s q a b Local h = (b, (b, h, refl), refl)
turn_leads code s q a b (Shared l) h = (b, h.0, refl)
turn_leads code s q a b (Picked c) h = (b, picks_so code s q a b (chosen c) h.1, refl)
turn_leads code s q a b Waited h = sym h.0

longer : (code : Code) (input : List ℕ) (p s q : ℕ) (x : Schedule) (a b : Point) (t : Turned) → IsRecord code input p s x a → Turn code s a q t b → IsSchedule (with_entries x (entries_of q t)) → IsRecord code input p s (with_entries x (entries_of q t)) b
longer code input p s q x a b t h turn kept = record {
  version = h.version;
  processors = h.processors;
  slots = h.slots;
  kept = kept;
  replays = record { leads = leads_on x.version code x.slots (beginning code input x.slots) a b x.entries (entries_of q t) h.replays.leads here };
}
  where
    first : Leads x.version code s a (entries_of q t) b
    first = subst (λ (v : Version). Leads v code s a (entries_of q t) b) (sym h.version) (turn_leads code s q a b t turn)

    here : Leads x.version code x.slots a (entries_of q t) b
    here = subst (λ (n : ℕ). Leads x.version code n a (entries_of q t) b) (sym h.slots) first

-- what is so of a run's code, input and numbers is so of them later
records_same : (x y : RunView) (b : Point) (z : Schedule) → IsSameRun x y → IsRecord x.code x.input x.processors x.slots z b → IsRecord y.code y.input y.processors y.slots z b
records_same x y b z h r =
    let one = subst (λ (c : Code). IsRecord c x.input x.processors x.slots z b) (sym h.code_is) r in
    let two = subst (λ (i : List ℕ). IsRecord y.code i x.processors x.slots z b) (sym h.input_is) one in
    let three = subst (λ (n : ℕ). IsRecord y.code y.input n x.slots z b) (sym h.processors) two in
    subst (λ (n : ℕ). IsRecord y.code y.input y.processors n z b) (sym h.slots) three

-- a turn was added to what was kept
noted_so : (x y : RunView) (q : ℕ) (t : Turned) (old : Option Schedule) → Records x old → IsTurn x q t y → IfSome (option_map (λ z. with_entries z (entries_of q t)) old) IsSchedule → AlsoRecords old y (option_map (λ z. with_entries z (entries_of q t)) old)
noted_so x y q t None r turn kept = (refl, tt)
noted_so x y q t (Some z) r turn kept =
    (refl, records_same x y (point_at y) (with_entries z (entries_of q t)) turn.0 (longer x.code x.input x.processors x.slots q z (point_at x) (point_at y) t r turn.1 kept))

pub noted : (x y : RunView) (q : ℕ) (t : Turned) (first old new : Option Schedule) → AlsoRecords first x old → IsTurn x q t y → new ≡ option_map (λ z. with_entries z (entries_of q t)) old → IfSome new IsSchedule → AlsoRecords first y new
noted x y q t first old new r turn e kept =
    let so : AlsoRecords old y new = subst (AlsoRecords old y) (sym e) (noted_so x y q t old r.1 turn (subst (λ (o : Option Schedule). IfSome o IsSchedule) e kept)) in
    (so.0 ∙ r.0, so.1)

-- one unit behind others
pub also : (x y : RunView) (first old new : Option Schedule) → AlsoRecords first x old → AlsoRecords old y new → AlsoRecords first y new
also x y first old new h k = (k.0 ∙ h.0, k.1)

-- a schedule is there from the beginning on, if it is wanted
pub is_wanted : (wanted : Bool) (p s : ℕ) (o : Option Schedule) → o ≡ new_schedule wanted p s → is_some o ≡ wanted
is_wanted false p s o e = ap is_some e
is_wanted true p s o e = ap is_some e
