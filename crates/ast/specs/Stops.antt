-- An account of the code: a STOP and an END among nodes.
use Rattle.std.specs.Prelude.{Bool, true, false}
use Rattle.ast.specs.Tree.{Kind, stop, end, Node, plain}

abbrev pub is_stop_kind : Kind → Bool
is_stop_kind stop = true
is_stop_kind _ = false

abbrev pub is_end_kind : Kind → Bool
is_end_kind end = true
is_end_kind _ = false

abbrev pub is_stop : Node → Bool
is_stop (plain s) = is_stop_kind s.kind
is_stop _ = false

abbrev pub is_end : Node → Bool
is_end (plain s) = is_end_kind s.kind
is_end _ = false
