-- Files are read one after another, and what follows of that.
use Rattle.std.proofs.Common.{◌≡◌, ◌∙◌, refl, ℕ, List, [], Option, Some, None, Result, Ok, Err, inl, inr, subst}
use Rattle.named_files.specs.Deeds.{Compares, Deed, HasGiven, HasRead, Reads, noted}
use Rattle.named_files.specs.declared.fault.FileFault.{FileFault}
use Rattle.named_files.specs.declared.files.Clash.{Clash}
use Rattle.named_files.specs.declared.files.Given.{Given}
use Rattle.named_files.specs.declared.files.Unread.{Unread}
use Rattle.command_output.specs.declared.status.Status.{Status}
use Rattle.doac.specs.Deeds.{AfterCompare, AfterFile, AfterGiven, AfterTexts, ReadsFile, ReadsGiven, ReadsTexts, UnlessRead}
use Rattle.command_output.specs.declared.texts.Texts.{Texts}

-- a file was read, and what is made of it goes on from there
pub read_on : (name : List ℕ) (before mid after : Option (List Deed)) (old new : Option (List ℕ)) (status : Status) (made : Option (List Deed) → List ℕ → Type 0) (given : Result (List ℕ) FileFault)
    → mid ≡ noted before (Reads name given) → AfterFile given mid after old new status (made mid) → ReadsFile name before after old new status made
read_on name before mid after old new status made given is rest =
    record { given = given; rest = subst (λ (d : Option (List Deed)). AfterFile given d after old new status (made d)) is rest }

-- nothing more was done with files
stays : (given : Result (List ℕ) FileFault) (mid : Option (List Deed)) (old new : Option (List ℕ)) (status : Status) (made : List ℕ → Type 0)
    → AfterFile given mid mid old new status made → AfterFile given mid mid old new status (λ text. (mid ≡ mid) × made text)
stays (Ok text) mid old new status made rest = (refl, rest)
stays (Err fault) mid old new status made rest = rest

-- a file was read, and no other is
pub read_last : (name : List ℕ) (before mid : Option (List Deed)) (old new : Option (List ℕ)) (status : Status) (made : List ℕ → Type 0) (given : Result (List ℕ) FileFault)
    → mid ≡ noted before (Reads name given) → AfterFile given mid mid old new status made → ReadsFile name before mid old new status (λ done text. (mid ≡ done) × made text)
read_last name before mid old new status made given is rest =
    read_on name before mid mid old new status (λ done text. (mid ≡ done) × made text) given is (stays given mid old new status made rest)

-- a source was read, and then an input, and what is made of both goes on from there
pub read_two : (source : List ℕ) (input : Option (List ℕ)) (before mid after : Option (List Deed)) (old new : Option (List ℕ)) (status : Status) (made : Option (List Deed) → List ℕ → List ℕ → Type 0) (r : Result Given Unread)
    → HasGiven source input before mid r → AfterGiven r mid after old new status (made mid) → ReadsGiven source input before after old new status made
read_two source None before mid after old new status made (Ok given) is rest =
    record {
      given = Ok given.source.items;
      rest = subst (λ (d : Option (List Deed)). made d given.source.items []) is.0 (subst (λ (bytes : List ℕ). made mid given.source.items bytes) is.1 rest);
    }
read_two source None before mid after old new status made (Err file) is rest =
    record { given = Err file.fault; rest = (rest.0 ∙ is, rest.1, rest.2) }
read_two source (Some input) before mid after old new status made (Ok given) is rest =
    record {
      given = Ok given.source.items;
      rest = record {
        given = Ok given.input.items;
        rest = subst (λ (d : Option (List Deed)). made d given.source.items given.input.items) is rest;
      };
    }
read_two source (Some input) before mid after old new status made (Err file) (inl is) rest =
    record { given = Err file.fault; rest = (rest.0 ∙ is, rest.1, rest.2) }
read_two source (Some input) before mid after old new status made (Err file) (inr had) rest =
    record { given = Ok had.0; rest = record { given = Err file.fault; rest = (rest.0 ∙ had.1, rest.1, rest.2) } }

both_stay : (r : Result Given Unread) (mid : Option (List Deed)) (old new : Option (List ℕ)) (status : Status) (made : List ℕ → List ℕ → Type 0)
    → AfterGiven r mid mid old new status made → AfterGiven r mid mid old new status (λ text given. (mid ≡ mid) × made text given)
both_stay (Ok given) mid old new status made rest = (refl, rest)
both_stay (Err file) mid old new status made rest = rest

-- a source was read, and then an input, and no other file is
pub read_two_last : (source : List ℕ) (input : Option (List ℕ)) (before mid : Option (List Deed)) (old new : Option (List ℕ)) (status : Status) (made : List ℕ → List ℕ → Type 0) (r : Result Given Unread)
    → HasGiven source input before mid r → AfterGiven r mid mid old new status made → ReadsGiven source input before mid old new status (λ done text given. (mid ≡ done) × made text given)
read_two_last source input before mid old new status made r is rest =
    read_two source input before mid mid old new status (λ done text given. (mid ≡ done) × made text given) r is (both_stay r mid old new status made rest)

-- three files were read, and what is made of them goes on from there
pub read_three : (source input schedule : List ℕ) (before mid after : Option (List Deed)) (old new : Option (List ℕ)) (status : Status) (made : Option (List Deed) → List ℕ → List ℕ → List ℕ → Type 0) (r : Result Texts Unread)
    → HasRead source input schedule before mid r → AfterTexts r mid after old new status (made mid) → ReadsTexts source input schedule before after old new status made
read_three source input schedule before mid after old new status made (Ok texts) is rest =
    record {
      given = Ok texts.source.items;
      rest = record {
        given = Ok texts.input.items;
        rest = record {
          given = Ok texts.schedule.items;
          rest = subst (λ (d : Option (List Deed)). made d texts.source.items texts.input.items texts.schedule.items) is rest;
        };
      };
    }
read_three source input schedule before mid after old new status made (Err file) (inl is) rest =
    record { given = Err file.fault; rest = (rest.0 ∙ is, rest.1, rest.2) }
read_three source input schedule before mid after old new status made (Err file) (inr (inl had)) rest =
    record { given = Ok had.0; rest = record { given = Err file.fault; rest = (rest.0 ∙ had.1, rest.1, rest.2) } }
read_three source input schedule before mid after old new status made (Err file) (inr (inr had)) rest =
    record { given = Ok had.0; rest = record { given = Ok had.1; rest = record { given = Err file.fault; rest = (rest.0 ∙ had.2, rest.1, rest.2) } } }

stay : (r : Result Texts Unread) (mid : Option (List Deed)) (old new : Option (List ℕ)) (status : Status) (made : List ℕ → List ℕ → List ℕ → Type 0)
    → AfterTexts r mid mid old new status made → AfterTexts r mid mid old new status (λ text given picks. (mid ≡ mid) × made text given picks)
stay (Ok texts) mid old new status made rest = (refl, rest)
stay (Err file) mid old new status made rest = rest

-- three files were read, and no other is
pub read_three_last : (source input schedule : List ℕ) (before mid : Option (List Deed)) (old new : Option (List ℕ)) (status : Status) (made : List ℕ → List ℕ → List ℕ → Type 0) (r : Result Texts Unread)
    → HasRead source input schedule before mid r → AfterTexts r mid mid old new status made
    → ReadsTexts source input schedule before mid old new status (λ done text given picks. (mid ≡ done) × made text given picks)
read_three_last source input schedule before mid old new status made r is rest =
    read_three source input schedule before mid mid old new status (λ done text given picks. (mid ≡ done) × made text given picks) r is (stay r mid old new status made rest)

-- a name was compared with those of files that are read, and what is done where it may be written
-- goes on from there
pub compared : (name : List ℕ) (others : List (List ℕ)) (before mid after : Option (List Deed)) (old new : Option (List ℕ)) (status : Status) (made : Option (List Deed) → Type 0) (clash : Option Clash)
    → mid ≡ noted before (Compares name others clash) → AfterCompare clash mid after old new status (made mid) → UnlessRead name others before after old new status made
compared name others before mid after old new status made clash is rest =
    record { clash = clash; rest = subst (λ (d : Option (List Deed)). AfterCompare clash d after old new status (made d)) is rest }
