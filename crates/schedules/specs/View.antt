-- What the code's values stand for.
use Rattle.std.specs.Prelude.{Result, Ok, Err}
use Rattle.schedules.specs.Schedules as spec
use Rattle.schedules.specs.Schedules.{works, shares, picks_main, picks, takes_ticket}
use Rattle.schedules.specs.declared.entry.Act.{Act}
use Rattle.schedules.specs.declared.entry.Act.TheVariants.{Work, Share, PickMain}
use Rattle.schedules.specs.declared.entry.Act.TheVariants.{PickIteration, TakeTicket}
use Rattle.schedules.specs.declared.entry.Entry.{Entry}

abbrev pub act : Act → spec.Act
act (Work n) = works n
act Share = shares
act PickMain = picks_main
act (PickIteration k) = picks k
act TakeTicket = takes_ticket

abbrev pub entry : Entry → spec.Entry
entry e = record { processor = e.processor; act = act e.act }

-- what is read, seen so
abbrev pub read_as : {X Y E : Type 0} → (X → Y) → Result X E → Result Y E
read_as view (Ok x) = Ok (view x)
read_as view (Err e) = Err e
