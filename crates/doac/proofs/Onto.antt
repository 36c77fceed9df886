-- What follows once it is known whether a schedule's file may be written, and once it is written.
use Rattle.std.proofs.Common.{◌≡◌, refl, ℕ, List, Option, Some, None, Result, Ok, Err, subst}
use Rattle.named_files.specs.Deeds.{Deed}
use Rattle.command_output.specs.declared.status.Status.{Status}
use Rattle.doac.specs.Deeds.{MayWrite, UnlessOnto, WroteFirst}
use Rattle.doac.specs.Running.{WritesFirst}

-- a file may be written, and what is done then goes on from there
pub allowed : {T : Type 0} (done : T) (onto : Option (List ℕ)) (source : List ℕ) (input : Option (List ℕ)) (before mid after : Option (List Deed)) (old new : Option (List ℕ)) (status : Status) (made : Option (List Deed) → Type 0)
    → MayWrite {T = T} onto source input before mid (Ok done) → made mid → UnlessOnto onto source input before after old new status made
allowed done None source input before mid after old new status made is rest = subst made is rest
allowed done (Some onto) source input before mid after old new status made is rest = record { clash = None; rest = subst made is rest }

-- it may not, and nothing more is done
pub not_allowed : (T : Type 0) (onto : Option (List ℕ)) (source : List ℕ) (input : Option (List ℕ)) (before mid : Option (List Deed)) (old : Option (List ℕ)) (status : Status) (made : Option (List Deed) → Type 0)
    → MayWrite {T = T} onto source input before mid (Err status) → UnlessOnto onto source input before mid old old status made
not_allowed T None source input before mid old status made is = absurd is
not_allowed T (Some onto) source input before mid old status made is = record { clash = Some is.0; rest = (is.1, refl, is.2) }

-- the text is that of the schedule
wrote_first : {T : Type 0} (onto text schedule : Option (List ℕ)) (before after : Option (List Deed)) (r : Result T Status) → text ≡ schedule
    → WroteFirst {T = T} onto text before after r → WroteFirst {T = T} onto schedule before after r
wrote_first {T = T} onto text schedule before after r same = subst (λ (s : Option (List ℕ)). WroteFirst {T = T} onto s before after r) same

-- a schedule went to its file, and the rest is done
pub written : {T : Type 0} (done : T) (onto text schedule : Option (List ℕ)) (before after : Option (List Deed)) (old new : Option (List ℕ)) (status : Status) (rest : Type 0)
    → text ≡ schedule → WroteFirst {T = T} onto text before after (Ok done) → rest → WritesFirst onto schedule before after old new status rest
written done (Some onto) text (Some schedule) before after old new status rest same is holds =
    record { put = None; is = wrote_first (Some onto) text (Some schedule) before after (Ok done) same is; then = holds }
written done (Some onto) text None before after old new status rest same is holds = (wrote_first (Some onto) text None before after (Ok done) same is, holds)
written done None text schedule before after old new status rest same is holds = (is, holds)

-- it couldn't, and nothing is shown
pub not_written : (T : Type 0) (onto text schedule : Option (List ℕ)) (before after : Option (List Deed)) (old : Option (List ℕ)) (status : Status) (rest : Type 0)
    → text ≡ schedule → WroteFirst {T = T} onto text before after (Err status) → WritesFirst onto schedule before after old old status rest
not_written T (Some onto) text (Some schedule) before after old status rest same is =
    let went = wrote_first {T = T} (Some onto) text (Some schedule) before after (Err status) same is in
    record { put = Some went.0; is = went.1; then = (refl, went.2) }
not_written T (Some onto) text None before after old status rest same is = absurd (wrote_first {T = T} (Some onto) text None before after (Err status) same is)
not_written T None text schedule before after old status rest same is = absurd is
