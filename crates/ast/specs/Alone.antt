-- An account of the code: what a statement does by itself.
use Rattle.ast.specs.Tree.{Kind, do_loop, go_on, block_if, else_if, else_arm, end_if, logical_if}

-- one that holds others or is a part of an IF block does nothing
abbrev pub alone : Kind → Kind
alone (do_loop h) = go_on
alone (block_if c) = go_on
alone (else_if c) = go_on
alone else_arm = go_on
alone end_if = go_on
alone (logical_if c k) = go_on
alone k = k
