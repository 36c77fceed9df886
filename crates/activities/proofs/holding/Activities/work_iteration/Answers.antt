use Rattle.std.specs.Prelude.{option_map}
use Rattle.machine.specs.State.{iteration}
use Rattle.activities.specs.Activities.{code_in}
use Rattle.activities.specs.PartsView.{standing_of}
use Rattle.activities.specs.Sharing.{WorkedAt}
use Rattle.activities.proofs.Labour.{iteration_framed, iteration_stands, not_worked, stood_iteration, with_place, worked, worked_there}
use Rattle.activities.proofs.holding.Activities.work_iteration.Goals as goal

pub returns-clause-went : goal.returns-clause-went
returns-clause-went c =
    let old = c.args.self.now in
    let s = (c.requires.stand.core.runs c.args.q c.args.k c.requires.holds).standing in
    let w : WorkedAt (code_in old).instructions c.args.n c.work_at.result s (option_map standing_of c.work_at.new.place) =
    worked_there c.args.q c.args.k c.place_from-at.result c.args.n c.work_at.result c.index_mut.result.now c.work_at.new.place old c.requires.stand c.requires.holds c.place_from-at.ensures c.index_mut.ensures.value c.work_at.ensures in
    worked (iteration c.args.k) c.args.q c.args.n c.work_at.result s.frame w.frame old (with_place c.place_from-at.result c.work_at.new.place old) (stood_iteration c.args.q c.args.k old c.requires.stand c.requires.going c.requires.holds) w.working
    (iteration_framed c.args.q c.args.k c.place_from-at.result c.work_at.new.place w.frame old c.requires.stand c.requires.holds c.place_from-at.ensures w.standing)

pub returns-clause-fails : goal.returns-clause-fails
returns-clause-fails c e b =
    let old = c.args.self.now in
    let s = (c.requires.stand.core.runs c.args.q c.args.k c.requires.holds).standing in
    let w : WorkedAt (code_in old).instructions c.args.n c.work_at.result s (option_map standing_of c.work_at.new.place) =
    worked_there c.args.q c.args.k c.place_from-at.result c.args.n c.work_at.result c.index_mut.result.now c.work_at.new.place old c.requires.stand c.requires.holds c.place_from-at.ensures c.index_mut.ensures.value c.work_at.ensures in
    not_worked (iteration c.args.k) c.args.q c.args.n c.work_at.result s.frame w.frame old b (stood_iteration c.args.q c.args.k old c.requires.stand c.requires.going c.requires.holds) w.working e

pub returns-clause-stand : goal.returns-clause-stand
returns-clause-stand c =
    let old = c.args.self.now in
    let s = (c.requires.stand.core.runs c.args.q c.args.k c.requires.holds).standing in
    let w : WorkedAt (code_in old).instructions c.args.n c.work_at.result s (option_map standing_of c.work_at.new.place) =
    worked_there c.args.q c.args.k c.place_from-at.result c.args.n c.work_at.result c.index_mut.result.now c.work_at.new.place old c.requires.stand c.requires.holds c.place_from-at.ensures c.index_mut.ensures.value c.work_at.ensures in
    iteration_stands c.args.q c.args.k c.place_from-at.result c.work_at.new.place w.frame old c.requires.stand c.requires.holds c.place_from-at.ensures w.standing
