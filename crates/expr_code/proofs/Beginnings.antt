-- Lists of instructions that begin with others.
use Rattle.std.proofs.Common.{◌≡◌, ◌∙◌, List, [], ◌++◌, ap, sym, append_assoc}
use Rattle.std.proofs.lemmas.List.{append-nil}
use Rattle.machine.specs.declared.instr.Instr.{Instr}
use Rattle.expr_code.specs.Emitted.{Begins}

pub begins_same : (xs ys : List Instr) → ys ≡ xs → Begins xs ys
begins_same xs ys h = ([], h ∙ sym (append-nil xs))

pub begins_with : (xs ys zs : List Instr) → ys ≡ xs ++ zs → Begins xs ys
begins_with xs ys zs h = (zs, h)

pub begins_more : (xs ys zs : List Instr) → Begins xs ys → Begins ys zs → Begins xs zs
begins_more xs ys zs h k = (h.0 ++ k.0, k.1 ∙ ap (λ (us : List Instr). us ++ k.0) h.1 ∙ append_assoc xs h.0 k.0)

pub ruleset begins_rules = (begins_same, begins_with, begins_more)
