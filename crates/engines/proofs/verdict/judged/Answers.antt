use Rattle.engines.proofs.Pages.{refusal}
use Rattle.engines.proofs.verdict.judged.Goals as goal

pub returns-in-Err-Refused : goal.returns-in-Err-Refused
returns-in-Err-Refused c =
    let answered = rw c.in-Err-Refused.field-0-is at c.in-Err-Refused.ensures in
    refusal _ _ _ answered.only answered.refused
