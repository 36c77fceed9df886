-- The class that a value of the code stands for.
use Rattle.syntax.specs.Classes as classes
use Rattle.syntax.specs.declared.class.Class.{Class}
use Rattle.syntax.specs.declared.class.Class.TheVariants.{BlockIf, LogicalIf, Do, Assignment}
use Rattle.syntax.specs.declared.class.Class.TheVariants.{Worded, Unclosed, Unknown}

abbrev pub class : Class → classes.Class
class (BlockIf u) = classes.block_if u.now
class (LogicalIf u v) = classes.logical_if u.now v.now
class (Do u) = classes.do_loop u.now
class (Assignment u) = classes.assignment u.now
class (Worded k u) = classes.worded k u.now
class Unclosed = classes.unclosed
class Unknown = classes.unknown
