-- A run without a record is of its call.
use Rattle.std.proofs.Common.{◌≡◌, ℕ, List, [], refl, subst}
use Rattle.ast.specs.declared.answer.Answer.{Answer}
use Rattle.machine.specs.Code.{Code}
use Rattle.machine.specs.State.{AreSizes, Init, Machine}
use Rattle.replay.specs.Replayed.{IsAnswer}
use Rattle.unrecorded.specs.View.{IsReached, IsRun, RunView, point_at}
use Rattle.processors.specs.Reached.{IsAnswerOf, IsRunIn, Reaches}

-- where nothing has been done
pub at_first : (code : Code) (input : List ℕ) (p s : ℕ) → AreSizes p s → Reaches code input p s (λ m. ◌≡◌ {A = List ℕ} [] m.output)
at_first code input p s sizes = record {
  sizes = sizes;
  machine = Init code input;
  reached = record { turns = []; run = refl };
  holds = refl;
}

pub reached_in : (code : Code) (input : List ℕ) (p s : ℕ) (x : RunView) → IsRunIn code input p s x → IsRun x → IsReached code input p s (point_at x).machine
reached_in code input p s x o r =
    let one = subst (λ (k : Code). IsReached k x.input x.processors x.slots (point_at x).machine) o.code_is r in
    let two = subst (λ (i : List ℕ). IsReached code i x.processors x.slots (point_at x).machine) o.input_is one in
    let three = subst (λ (n : ℕ). IsReached code input n x.slots (point_at x).machine) o.processors two in
    subst (λ (n : ℕ). IsReached code input p n (point_at x).machine) o.slots three

pub reaches : (code : Code) (input : List ℕ) (p s : ℕ) (x : RunView) (P : Machine → Type 0) → IsRunIn code input p s x → IsRun x → P (point_at x).machine → Reaches code input p s P
reaches code input p s x P o r h = record {
  sizes = o.sizes;
  machine = (point_at x).machine;
  reached = reached_in code input p s x o r;
  holds = h;
}

pub output_reached : (code : Code) (input : List ℕ) (p s : ℕ) (x : RunView) (xs : List ℕ) → IsRunIn code input p s x → IsRun x → xs ≡ (point_at x).machine.output → Reaches code input p s (λ m. xs ≡ m.output)
output_reached code input p s x xs = reaches code input p s x (λ m. xs ≡ m.output)
