-- What a core gives is of its call.
use Rattle.std.proofs.Common.{◌≡◌, ℕ, List, [], sym, subst, refl}
use Rattle.machine.specs.Code.{Code}
use Rattle.machine.specs.State.{AreSizes, Machine}
use Rattle.ast.specs.declared.answer.Answer.{Answer}
use Rattle.replay.specs.CoreView.{CoreView, point_at}
use Rattle.replay.specs.Replayed.{IsAnswer}
use Rattle.activities.specs.Points.{Point, beginning}
use Rattle.replay.specs.Replays.{Replays}
use Rattle.schedules.specs.Schedules.{IsSchedule, Schedule}
use Rattle.schedules.specs.declared.entry.Version.TheVariants.{Second}
use Rattle.processors.specs.Calls.{HasTally, IsCoreOf, IsOutputOf, IsRunOf, IsStateOf}
use Rattle.replay.specs.Tallies.{Tallies}

-- nothing has gone out where nothing has been done
pub first_output : (code : Code) (input : List ℕ) (p s : ℕ) → AreSizes p s → IsOutputOf code input p s []
first_output code input p s sizes = record {
  schedule = record { version = Second; processors = p; slots = s; entries = [] };
  processors = refl;
  slots = refl;
  kept = (sizes, tt);
  point = beginning code input s;
  replays = record { leads = refl };
  holds = refl;
}

replays_of : (code : Code) (input : List ℕ) (p s : ℕ) (x : CoreView) (y : Schedule) (b : Point) → IsCoreOf code input p s x → Replays x.code x.input y b → Replays code input y b
replays_of code input p s x y b o r = subst (λ (i : List ℕ). Replays code i y b) o.input_is (subst (λ (k : Code). Replays k x.input y b) o.code_is r)

pub state_of : (code : Code) (input : List ℕ) (p s : ℕ) (x : CoreView) (P : Machine → Type 0) → IsCoreOf code input p s x → Replays x.code x.input x.schedule (point_at x) → IsSchedule x.schedule → P (point_at x).machine
    → IsStateOf code input p s P
state_of code input p s x P o r k h = record {
  schedule = x.schedule;
  processors = o.processors;
  slots = o.slots;
  kept = k;
  point = point_at x;
  replays = replays_of code input p s x x.schedule (point_at x) o r;
  holds = h;
}

pub output_of : (code : Code) (input : List ℕ) (p s : ℕ) (x : CoreView) (xs : List ℕ) → IsCoreOf code input p s x → Replays x.code x.input x.schedule (point_at x) → IsSchedule x.schedule → xs ≡ (point_at x).machine.output
    → IsOutputOf code input p s xs
output_of code input p s x xs = state_of code input p s x (λ m. xs ≡ m.output)

own_run : (code : Code) (input : List ℕ) (p s : ℕ) (x : CoreView) (answer : Answer) → IsCoreOf code input p s x → Replays x.code x.input x.schedule (point_at x) → IsAnswer x.code (point_at x).machine answer → IsSchedule x.schedule → IsRunOf code input p s answer x.schedule
own_run code input p s x answer o r a k = record {
  sizes = o.sizes;
  processors = o.processors;
  slots = o.slots;
  kept = k;
  replay = record {
    point = point_at x;
    replays = replays_of code input p s x x.schedule (point_at x) o r;
    is = subst (λ (k : Code). IsAnswer k (point_at x).machine answer) o.code_is a;
  };
}

pub run_of : (code : Code) (input : List ℕ) (p s : ℕ) (x : CoreView) (answer : Answer) (y : Schedule) → IsCoreOf code input p s x → Replays x.code x.input x.schedule (point_at x) → IsAnswer x.code (point_at x).machine answer → IsSchedule x.schedule → y ≡ x.schedule
    → IsRunOf code input p s answer y
run_of code input p s x answer y o r a k e = subst (λ (z : Schedule). IsRunOf code input p s answer z) (sym e) (own_run code input p s x answer o r a k)

pub tally_of : (code : Code) (input : List ℕ) (p s : ℕ) (x : CoreView) (y : Schedule) (made again : ℕ) → IsCoreOf code input p s x
    → Tallies Second x.code x.schedule.slots (beginning x.code x.input x.schedule.slots) x.schedule.entries (point_at x) made again → y ≡ x.schedule → HasTally code input s y made again
tally_of code input p s x y made again o t e = (
  point_at x,
  subst (λ (z : Schedule). Tallies Second code s (beginning code input s) z.entries (point_at x) made again) (sym e)
      (subst (λ (n : ℕ). Tallies Second code n (beginning code input n) x.schedule.entries (point_at x) made again) o.slots
      (subst (λ (i : List ℕ). Tallies Second code x.schedule.slots (beginning code i x.schedule.slots) x.schedule.entries (point_at x) made again) o.input_is
      (subst (λ (k : Code). Tallies Second k x.schedule.slots (beginning k x.input x.schedule.slots) x.schedule.entries (point_at x) made again) o.code_is t))),
)
