use Rattle.activities.proofs.Gone.{along_main, main_strode_stands, strode_main}
use Rattle.activities.proofs.holding.Activities.stride_main.Goals as goal

pub returns-clause-made : goal.returns-clause-made
returns-clause-made c = strode_main c.args.q c.stride_noting.result c.stride_noting.new.frame c.stride_noting.new.cells c.args.self.now c.requires.stand c.requires.going c.requires.holds c.stride_noting.ensures.made

pub returns-clause-stand : goal.returns-clause-stand
returns-clause-stand c = main_strode_stands c.stride_noting.new.frame c.stride_noting.new.cells c.args.self.now c.requires.stand c.stride_noting.ensures.cells

pub returns-clause-along : goal.returns-clause-along
returns-clause-along c = along_main c.args.q c.stride_noting.result c.stride_noting.new.frame c.stride_noting.new.cells c.args.self.now c.requires.stand c.requires.going c.requires.holds c.stride_noting.ensures.made
