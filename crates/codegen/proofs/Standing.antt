-- Frames from statement to statement.
use Rattle.std.proofs.Common.{◌≡◌, ◌∙◌, ◌<◌, ◌≤◌, ◌+◌, ℕ, ℤ, Bool, List, [], ◌∷◌, ◌++◌, Option, Some, None, length, drop, take, refl, sym, ap, arith, append_assoc}
use Rattle.std.specs.Prelude.{reverse, slice_get, slice_set, if◌then◌else◌}
use Rattle.std.proofs.Math.Seq.{take-append_seam}
use Rattle.std.proofs.lemmas.Bool.{le-leb, lt-ltb}
use Rattle.std.proofs.lemmas.Grind.{reverse_onto}
use Rattle.std.proofs.lemmas.List.{length-reverse, reverse-reverse, length-set}
use Rattle.ast.specs.Record.{record_of}
use Rattle.machine.specs.Code.{Code, Part}
use Rattle.machine.specs.Frame.{Frame}
use Rattle.machine.specs.Local.{going_on, without}
use Rattle.machine.specs.View.{View, doing, doing_if, filled, printing, printing_if, printing_of, stuck, values_wanted, view}
use Rattle.machine.specs.declared.code.Open.{Open as Opened}
use Rattle.machine.specs.declared.instr.Act.TheVariants.{Print, SetPrivate}
use Rattle.expr_code.specs.Emitted.{instr}
use Rattle.expr_code.proofs.Standing.{at, onto, seen}

-- a frame with one private scalar changed
abbrev pub with_private : Frame → ℕ → ℤ → Frame
with_private f x v = record f { privates = slice_set f.privates x (Some v) }

-- a frame that has come from another through statements: it may differ in its private scalars
pub record Keeps (f g : Frame) : Type 0 where
  pub index : g.index ≡ f.index
  pub privates : length g.privates ≡ length f.privates
  pub room : g.operands.room ≡ f.operands.room
  pub counters : g.counters ≡ f.counters

pub keeps_same : (f : Frame) → Keeps f f
keeps_same f = record { index = refl; privates = refl; room = refl; counters = refl }

pub keeps_on : (f g h : Frame) → Keeps f g → Keeps g h → Keeps f h
keeps_on f g h a b = record { index = b.index ∙ a.index; privates = b.privates ∙ a.privates; room = b.room ∙ a.room; counters = b.counters ∙ a.counters }

pub keeps_set : (f : Frame) (x : ℕ) (v : ℤ) → Keeps f (with_private f x v)
keeps_set f x v = record { index = refl; privates = length-set f.privates x (Some v); room = refl; counters = refl }

onto_is : (vs st : List ℤ) → onto vs st ≡ reverse vs ++ st
onto_is [] st = refl
onto_is (v ∷ vs) st = onto_is vs (v ∷ st) ∙ sym (append_assoc (reverse vs) (v ∷ []) st) ∙ ap (λ (us : List ℤ). us ++ st) (sym (reverse_onto vs v []))

drop_seam : (us st : List ℤ) → drop (length us) (us ++ st) ≡ st
drop_seam [] st = refl
drop_seam (u ∷ us) st = drop_seam us st

length_seam : (us st : List ℤ) → length us ≤ length (us ++ st)
length_seam [] st = omega arith
length_seam (u ∷ us) st = let k = length_seam us st in omega (arith, k)

module _ (code : Code) (f : Frame) where
  abbrev shown : List Part → List ℤ → ℕ → ℕ → View Frame Opened
  shown ps us pc k = printing (record_of (filled ps (reverse (take k us)))) (at code f (pc + 1) (drop k us))

  -- a record is printed, of the values on top
  pub print_seen : (ps : List Part) (vs st : List ℤ) (n line pc : ℕ) → slice_get code.instructions pc ≡ Some (instr line (Print n)) → slice_get code.records n ≡ Some ps → length vs ≡ values_wanted ps
      → view code (at code f pc (onto vs st)) ≡ printing (record_of (filled ps vs)) (at code f (pc + 1) st)
  print_seen ps vs st n line pc h r len =
      seen code f (instr line (Print n)) pc (onto vs st) h
      ∙ ap (λ (o : Option (List Part)). printing_if o (at code f pc (onto vs st))) r
      ∙ ap (λ (us : List ℤ). printing_of ps (at code f pc us)) (onto_is vs st)
      ∙ ap (λ (b : Bool). if b then shown ps (reverse vs ++ st) pc (values_wanted ps) else stuck) (le-leb (values_wanted ps) (length (reverse vs ++ st)) enough)
      ∙ ap (shown ps (reverse vs ++ st) pc) (sym wanted)
      ∙ ap (λ (us : List ℤ). printing (record_of (filled ps (reverse us))) (at code f (pc + 1) (drop (length (reverse vs)) (reverse vs ++ st)))) (take-append_seam (reverse vs) st)
      ∙ ap (λ (us : List ℤ). printing (record_of (filled ps us)) (at code f (pc + 1) (drop (length (reverse vs)) (reverse vs ++ st)))) (reverse-reverse vs)
      ∙ ap (λ (us : List ℤ). printing (record_of (filled ps vs)) (at code f (pc + 1) us)) (drop_seam (reverse vs) st)
    where
      wanted : length (reverse vs) ≡ values_wanted ps
      wanted = length-reverse vs ∙ len

      enough : values_wanted ps ≤ length (reverse vs ++ st)
      enough = let k = length_seam (reverse vs) st in omega (arith, k, wanted)

  -- a private scalar is given the value on top
  pub set_seen : (x : ℕ) (v : ℤ) (st : List ℤ) (line pc : ℕ) → slice_get code.instructions pc ≡ Some (instr line (SetPrivate x)) → x < length f.privates → view code (at code f pc (v ∷ st)) ≡ doing (at code (with_private f x v) (pc + 1) st)
  set_seen x v st line pc h l =
      seen code f (instr line (SetPrivate x)) pc (v ∷ st) h
      ∙ ap (λ (b : Bool). doing_if (if b then Some (record (going_on (without 1 (at code f pc (v ∷ st)).operands) (at code f pc (v ∷ st))) { privates = slice_set f.privates x (Some v) }) else None)) (lt-ltb x (length f.privates) l)
