-- A fault that is given on.
use Rattle.std.proofs.Common.{◌≡◌, Result, Ok, Err, IfErr, subst, sym}
use Rattle.std.specs.Prelude.{IsErrAnd}
use Rattle.command_output.specs.declared.fault.EngineFault.{EngineFault}

-- what holds of a fault holds of the error that gives it on
pub on_fault : {T : Type 0} (r : Result T EngineFault) (fault : EngineFault) (P : EngineFault → Type 0) → IsErrAnd r (λ e. e ≡ fault) → P fault → IfErr r P
on_fault (Ok done) fault P is holds = absurd is
on_fault (Err e) fault P is holds = subst P (sym is) holds
