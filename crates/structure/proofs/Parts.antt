-- What is open after a statement, by what it opens or ends.
use Rattle.std.proofs.Common.{◌≡◌, List, refl}
use Rattle.ast.specs.Tree.{Kind, program, integer, dimension, parameters, assign, do_loop, go_on, block_if, else_if, else_arm, end_if, logical_if, print, read, stop, end}
use Rattle.structure.specs.Open.{Open, begun}
use Rattle.structure.specs.Parts.{begun_by, part_of}

pub begun_is : (k : Kind) (opened : List Open) → begun k opened ≡ begun_by (part_of k) opened
begun_is (program x) opened = refl
begun_is (integer ds) opened = refl
begun_is (dimension ds) opened = refl
begun_is (parameters ds) opened = refl
begun_is (assign a e) opened = refl
begun_is (do_loop h) opened = refl
begun_is go_on opened = refl
begun_is (block_if c) opened = refl
begun_is (else_if c) opened = refl
begun_is else_arm opened = refl
begun_is end_if opened = refl
begun_is (logical_if c k) opened = refl
begun_is (print items) opened = refl
begun_is (read elements) opened = refl
begun_is stop opened = refl
begun_is end opened = refl
