-- What clap's matches of the words say of the words themselves.
use Rattle.std.proofs.Common.{◌≡◌, IfErr, IfOk, IsErrAnd, inl, inr, sym, List, Option, Some, None, Ok, Err, Result, [], true, refl, subst}
use Rattle.clap.specs.declared.parser.matches.ArgMatches.{ArgMatches}
use Rattle.clap.specs.declared.error.Error.{Error}
use Rattle.clap.specs.Words.{App, HasKind, HasMatchesOf, IsAmong, kind_of, Row, Text, fault_of, is_simple_and_free, subcommand_of, subcommand_rows_of}
use Rattle.clap.specs.declared.error.kind.ErrorKind.TheVariants.{OutOfMemory}
use Rattle.command_line.specs.declared.command.Command.{Command}
use Rattle.command_line.specs.declared.matches.LineFault.{LineFault}
use Rattle.command_line.specs.declared.matches.LineFault.TheVariants.{Help, Mistake, NoCommand, NoSuchNumber, NoSize, NoPortion, Memory}
use Rattle.command_line.specs.CommandLine.{HeldIn, HeldInNone, IsHelp, MadeOf, Names, NamesNone, doac}

-- a parse that clap takes
abbrev pub Taken : App → List Text → ArgMatches → Type 0
Taken app words m = HasMatchesOf app words m × (is_simple_and_free app ≡ true → fault_of app words ≡ [])

sound : (words : List Text) (m : ArgMatches) → Taken doac words m → fault_of doac words ≡ []
sound words m taken = taken.1 refl

same : (words : List Text) (m : ArgMatches) → Taken doac words m → subcommand_rows_of m ≡ subcommand_of doac words
same words m taken = (taken.0 refl).1

no_error_of_claps : (found : Option (Text × List Row)) (fault : LineFault) → HeldInNone found fault → (fault ≡ NoCommand → ⊥) → (fault ≡ NoSuchNumber → ⊥) → (fault ≡ NoSize → ⊥) → (fault ≡ NoPortion → ⊥) → ⊥
no_error_of_claps None fault held a b d e = a held
no_error_of_claps (Some found) NoCommand held a b d e = a refl
no_error_of_claps (Some found) NoSuchNumber held a b d e = b refl
no_error_of_claps (Some found) NoSize held a b d e = d refl
no_error_of_claps (Some found) NoPortion held a b d e = e refl
no_error_of_claps (Some found) (Help x) held a b d e = held
no_error_of_claps (Some found) (Mistake x) held a b d e = held
no_error_of_claps (Some found) Memory held a b d e = held

none : (words : List Text) (fault : LineFault) → fault_of doac words ≡ [] → HeldInNone (subcommand_of doac words) fault → NamesNone words fault
none words NoCommand s held = (s, held)
none words NoSuchNumber s held = (s, held)
none words NoSize s held = (s, held)
none words NoPortion s held = (s, held)
none words Memory s held = tt
none words (Help e) s held = absurd (no_error_of_claps (subcommand_of doac words) (Help e) held (λ h. cc) (λ h. cc) (λ h. cc) (λ h. cc))
none words (Mistake e) s held = absurd (no_error_of_claps (subcommand_of doac words) (Mistake e) held (λ h. cc) (λ h. cc) (λ h. cc) (λ h. cc))

pub names : (app : App) (words : List Text) (m : ArgMatches) (r : Result Command LineFault) → app ≡ doac → Taken app words m
    → IfOk r (HeldIn (subcommand_rows_of m)) → IfOk r (Names words)
names app words m (Ok command) e t held =
    let taken = subst (λ a. Taken a words m) e t in
    (sound words m taken, subst (λ found. HeldIn found command) (same words m taken) held)
names app words m (Err fault) e t held = held

pub names_none : (app : App) (words : List Text) (m : ArgMatches) (r : Result Command LineFault) → app ≡ doac → Taken app words m
    → IfErr r (HeldInNone (subcommand_rows_of m)) → IfErr r (NamesNone words)
names_none app words m (Ok command) e t held = held
names_none app words m (Err fault) e t held =
    let taken = subst (λ a. Taken a words m) e t in
    none words fault (sound words m taken) (subst (λ found. HeldInNone found fault) (same words m taken) held)

-- an error that no parse makes for want of memory has one of the kinds that clap's account gives
among : (words : List Text) (e : Error) → HasKind (fault_of doac words) e → (kind_of e ≡ OutOfMemory → ⊥) → IsAmong (kind_of e) (fault_of doac words)
among words e (inl full) has_room = absurd (has_room full)
among words e (inr h) has_room = h

helps : (e : Error) → IsHelp e → kind_of e ≡ OutOfMemory → ⊥
helps e (inl h) full = cc
helps e (inr h) full = cc

no_parse : (words : List Text) (error : Error) (fault : LineFault) → HasKind (fault_of doac words) error → MadeOf error fault → NamesNone words fault
no_parse words error (Help e) kinds made =
    let help = subst (λ x. IsHelp x) (sym made.0) made.1 in
    (help, among words e (subst (λ x. HasKind (fault_of doac words) x) (sym made.0) kinds) (helps e help))
no_parse words error (Mistake e) kinds made = (
  subst (λ x. IsHelp x → ⊥) (sym made.0) made.1,
  among words e (subst (λ x. HasKind (fault_of doac words) x) (sym made.0) kinds) (subst (λ x. kind_of x ≡ OutOfMemory → ⊥) (sym made.0) made.2),
)
no_parse words error NoCommand kinds made = absurd made
no_parse words error NoSuchNumber kinds made = absurd made
no_parse words error NoSize kinds made = absurd made
no_parse words error NoPortion kinds made = absurd made
no_parse words error Memory kinds made = tt

pub parses_none : (app : App) (words : List Text) (error : Error) (r : Result Command LineFault) → app ≡ doac
    → (is_simple_and_free app ≡ true → HasKind (fault_of app words) error) → IsErrAnd r (MadeOf error) → IfErr r (NamesNone words)
parses_none app words error (Ok command) is kinds made = tt
parses_none app words error (Err fault) is kinds made =
    let has = subst (λ a. is_simple_and_free a ≡ true → HasKind (fault_of a words) error) is kinds in
    no_parse words error fault (has refl) made
