-- What the answer of the code's walk stands for.
use Rattle.loop_tree.specs.TreeView.{seen as shown}
use Rattle.loop_tree.specs.declared.tree.LoopView.{LoopView}
use Rattle.plan_check.specs.GivenView.{given}
use Rattle.plan_check.specs.KnownView.{known}
use Rattle.plan_check.specs.SeenView.{seen}
use Rattle.plan_check.specs.Walked.{IsWalked}
use Rattle.plan_check.specs.declared.given.Given.{Given}
use Rattle.plan_check.specs.declared.start.Walked.{Walked}

-- it is that of a walk over the plan's body
abbrev pub Answers : LoopView → Given → Walked → Type 0
Answers view plan walked =
    IsWalked (shown view) (given plan) (known walked.known) (seen walked.seen)
