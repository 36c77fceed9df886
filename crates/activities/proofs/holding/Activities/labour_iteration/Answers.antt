use Rattle.std.specs.Prelude.{option_map}
use Rattle.machine.specs.State.{iteration}
use Rattle.activities.specs.Activities.{code_in}
use Rattle.activities.specs.PartsView.{standing_of}
use Rattle.activities.specs.Sharing.{MadeAt}
use Rattle.activities.proofs.Labour.{iteration_framed, iteration_stands, made_so_many, made_there, no_more, stood_iteration, with_place}
use Rattle.activities.proofs.holding.Activities.labour_iteration.Goals as goal

pub returns-clause-made : goal.returns-clause-made
returns-clause-made c =
    let old = c.args.self.now in
    let s = (c.requires.stand.core.runs c.args.q c.args.k c.requires.holds).standing in
    let w : MadeAt (code_in old).instructions c.args.n c.labour_at.result s (option_map standing_of c.labour_at.new.place) =
    made_there c.args.q c.args.k c.place_from-at.result c.args.n c.labour_at.result c.index_mut.result.now c.labour_at.new.place old c.requires.stand c.requires.holds c.place_from-at.ensures c.index_mut.ensures.value c.labour_at.ensures.made in
    made_so_many (iteration c.args.k) c.args.q c.args.n c.labour_at.result s.frame w.frame old (with_place c.place_from-at.result c.labour_at.new.place old) (stood_iteration c.args.q c.args.k old c.requires.stand c.requires.going c.requires.holds) w.works
    (iteration_framed c.args.q c.args.k c.place_from-at.result c.labour_at.new.place w.frame old c.requires.stand c.requires.holds c.place_from-at.ensures w.standing)

pub returns-clause-stand : goal.returns-clause-stand
returns-clause-stand c =
    let old = c.args.self.now in
    let s = (c.requires.stand.core.runs c.args.q c.args.k c.requires.holds).standing in
    let w : MadeAt (code_in old).instructions c.args.n c.labour_at.result s (option_map standing_of c.labour_at.new.place) =
    made_there c.args.q c.args.k c.place_from-at.result c.args.n c.labour_at.result c.index_mut.result.now c.labour_at.new.place old c.requires.stand c.requires.holds c.place_from-at.ensures c.index_mut.ensures.value c.labour_at.ensures.made in
    iteration_stands c.args.q c.args.k c.place_from-at.result c.labour_at.new.place w.frame old c.requires.stand c.requires.holds c.place_from-at.ensures w.standing

pub returns-clause-all : goal.returns-clause-all
returns-clause-all c =
    let old = c.args.self.now in
    let s = (c.requires.stand.core.runs c.args.q c.args.k c.requires.holds).standing in
    let w : MadeAt (code_in old).instructions c.args.n c.labour_at.result s (option_map standing_of c.labour_at.new.place) =
    made_there c.args.q c.args.k c.place_from-at.result c.args.n c.labour_at.result c.index_mut.result.now c.labour_at.new.place old c.requires.stand c.requires.holds c.place_from-at.ensures c.index_mut.ensures.value c.labour_at.ensures.made in
    no_more (iteration c.args.k) c.args.q c.args.n c.labour_at.result s.frame w.frame old (with_place c.place_from-at.result c.labour_at.new.place old) (stood_iteration c.args.q c.args.k old c.requires.stand c.requires.going c.requires.holds) w.works
    (iteration_framed c.args.q c.args.k c.place_from-at.result c.labour_at.new.place w.frame old c.requires.stand c.requires.holds c.place_from-at.ensures w.standing)
