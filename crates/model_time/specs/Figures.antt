-- What is counted of turns.
use Rattle.std.specs.Prelude.{ℕ, ◌+◌, ◌-◌, ◌^◌, min, nat_lt, if◌then◌else◌}
use Rattle.activities.specs.declared.holding.Choice.TheVariants.{Main, Iteration, Ticket}
use Rattle.model_time.specs.declared.figures.Figures.{Figures}
use Rattle.model_time.specs.declared.turned.Left.TheVariants.{Held, Parked, Retired}
use Rattle.model_time.specs.declared.turned.Turned.{Turned}
use Rattle.model_time.specs.declared.turned.Turned.TheVariants.{Local, Shared, Picked, Waited}

-- counts stop there
abbrev pub sum : ℕ → ℕ → ℕ
sum a b = min (a + b) (2 ^ 64 - 1)

abbrev pub greater : ℕ → ℕ → ℕ
greater a b = if nat_lt a b then b else a

-- nothing
abbrev pub no_figures : Figures
no_figures = record { time = 0; steps = 0; again = 0; waits = 0; retired = 0; overlap = 0 }

-- of a unit in which no turn was made
abbrev pub one_unit : Figures
one_unit = record no_figures { time = 1 }

-- With a turn. Who parks, or takes up what was parked, makes a step that is counted apart.
abbrev pub told : Figures → Turned → Figures
told f Local = record f { steps = sum f.steps 1 }
told f (Shared Held) = record f { steps = sum f.steps 1 }
told f (Shared Parked) = record f { again = sum f.again 1 }
told f (Shared Retired) = record f { steps = sum f.steps 1; retired = sum f.retired 1 }
told f (Picked Ticket) = record f { steps = sum f.steps 1 }
told f (Picked Main) = record f { again = sum f.again 1 }
told f (Picked (Iteration k)) = record f { again = sum f.again 1 }
told f Waited = record f { waits = sum f.waits 1 }

-- the same, where so many iterations are open after it
abbrev pub counted : Figures → Turned → ℕ → Figures
counted f t n = record (told f t) { overlap = greater f.overlap n }

-- the figures of some units and of others
abbrev pub joined : Figures → Figures → Figures
joined f g = record {
  time = sum f.time g.time;
  steps = sum f.steps g.steps;
  again = sum f.again g.again;
  waits = sum f.waits g.waits;
  retired = sum f.retired g.retired;
  overlap = greater f.overlap g.overlap;
}
