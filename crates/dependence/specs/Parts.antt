-- An account of the code: the greatest common divisor that the divisor test takes, part by part.
use Rattle.std.specs.Prelude.{ℕ, unsigned_abs}
use Rattle.loop_tree.specs.Loops.{Loop}
use Rattle.subscripts.specs.Forms.{Form, others}
use Rattle.dependence.specs.Tests.{gaps, gcd, gcd_with, sizes, steady, varying}

abbrev pub divisor_by_parts : Loop → Form → Form → ℕ
divisor_by_parts l f g =
    gcd_with (gcd_with (gcd_with (gcd_with (gcd (gcd 0 (unsigned_abs f.coefficient))
    (unsigned_abs g.coefficient)) (sizes (varying l f.shares))) (sizes (varying l g.shares)))
    (gaps (steady l f.shares) g.shares)) (sizes (others f.shares (steady l g.shares)))
