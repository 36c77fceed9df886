-- The relation of two references is one that the check says yes to.
use Rattle.std.proofs.Common.{◌≡◌, ◌∙◌, ap, refl, ℕ, arith}
use Rattle.std.proofs.lemmas.Bool.Decides.{Decides-eqb}
use Rattle.std.specs.Prelude.{suc, ◌+◌, Bool, true, false, if◌then◌else◌, Option, Some, None}
use Rattle.ast.specs.Tree.{Term, Terms, no_terms, then_term}
use Rattle.loop_tree.specs.Loops.{Loop}
use Rattle.loop_tree.specs.Occurrences.{Occurrence}
use Rattle.subscripts.specs.Forms.{Form, form_of}
use Rattle.dependence.specs.Tests.{before, by_constant, by_distance, by_divisor, by_found, dimension, dimensions, found_beyond, in_dimension, is_beyond, is_nowhere, is_only, is_verified, is_verified_if, on_forms, relation, relation_if, says_apart, tested}
use Rattle.dependence.specs.declared.relation.Found.{Found}
use Rattle.dependence.specs.declared.relation.Found.TheVariants.{Nothing, Nowhere, Only}
use Rattle.dependence.specs.declared.relation.Reason.TheVariants.{Constant, Divisor, Range}
use Rattle.dependence.specs.declared.relation.Relation.{Relation}
use Rattle.dependence.specs.declared.relation.Relation.TheVariants.{Apart, Distance, Any}

-- the test that a relation names says so of two forms
abbrev Says : Loop → ℕ → Relation → Form → Form → Type 0
Says l n (Apart m reason) f g = (m ≡ n) × (says_apart l reason f g ≡ true)
Says l n (Distance m d) f g = (m ≡ n) × (is_only (by_distance l f g) d ≡ true)
Says l n Any f g = Unit {0}

tested_says : (l : Loop) (n : ℕ) (f g : Form) → Says l n (tested l n f g) f g
tested_says l n f g = by (by_constant l f g) (by_divisor l f g) refl refl
  where
    range : (d : ℕ) (b : Bool) → by_distance l f g ≡ Only d → is_beyond l.trips d ≡ b → Says l n (if b then Apart n Range else Distance n d) f g
    range d true e h = (refl, ap (λ x. found_beyond l.trips x) e ∙ h)
    range d false e h = (refl, ap (λ x. is_only x d) e ∙ (Decides-eqb d d).1 refl)

    found : (x : Found) → by_distance l f g ≡ x → Says l n (by_found n l.trips x) f g
    found Nothing e = tt
    found Nowhere e = (refl, ap is_nowhere e)
    found (Only d) e = range d (is_beyond l.trips d) e refl

    by : (a b : Bool) → by_constant l f g ≡ a → by_divisor l f g ≡ b → Says l n (if a then Apart n Constant else if b then Apart n Divisor else by_found n l.trips (by_distance l f g)) f g
    by true b e h = (refl, e)
    by false true e h = (refl, h)
    by false false e h = found (by_distance l f g) refl

-- the same in the dimensions behind the first k
abbrev SaysIn : Loop → ℕ → Relation → Terms → Terms → Type 0
SaysIn l k (Apart m reason) es fs = (i : ℕ) × (m ≡ k + suc i) × (in_dimension l (suc i) es fs (λ f g. says_apart l reason f g) ≡ true)
SaysIn l k (Distance m d) es fs = (i : ℕ) × (m ≡ k + suc i) × (in_dimension l (suc i) es fs (λ f g. is_only (by_distance l f g) d) ≡ true)
SaysIn l k Any es fs = Unit {0}

-- and of forms that may not be there
abbrev SaysOn : Loop → ℕ → Relation → Option Form → Option Form → Type 0
SaysOn l n (Apart m reason) r s = (m ≡ n) × (on_forms r s (λ f g. says_apart l reason f g) ≡ true)
SaysOn l n (Distance m d) r s = (m ≡ n) × (on_forms r s (λ f g. is_only (by_distance l f g) d) ≡ true)
SaysOn l n Any r s = Unit {0}

there : (l : Loop) (n : ℕ) (f g : Form) (q : Relation) → Says l n q f g → SaysOn l n q (Some f) (Some g)
there l n f g (Apart m reason) h = h
there l n f g (Distance m d) h = h
there l n f g Any h = tt

dimension_says : (l : Loop) (n : ℕ) (r s : Option Form) → SaysOn l n (dimension l n r s) r s
dimension_says l n (Some f) (Some g) = there l n f g (tested l n f g) (tested_says l n f g)
dimension_says l n (Some f) None = tt
dimension_says l n None s = tt

first : (l : Loop) (n k : ℕ) (a b : Term) (es fs : Terms) (r : Relation) → n ≡ k + 1 → SaysOn l n r (form_of l a) (form_of l b) → SaysIn l k r (then_term a es) (then_term b fs)
first l n k a b es fs (Apart m reason) e h = (0, let p = h.0 in omega (arith, p, e), h.1)
first l n k a b es fs (Distance m d) e h = (0, let p = h.0 in omega (arith, p, e), h.1)
first l n k a b es fs Any e h = tt

later : (l : Loop) (k : ℕ) (a b : Term) (es fs : Terms) (q : Relation) → SaysIn l (k + 1) q es fs → SaysIn l k q (then_term a es) (then_term b fs)
later l k a b es fs (Apart m reason) h = (suc h.0, let p = h.1 in omega (arith, p), h.2)
later l k a b es fs (Distance m d) h = (suc h.0, let p = h.1 in omega (arith, p), h.2)
later l k a b es fs Any h = tt

joined : (l : Loop) (n k : ℕ) (a b : Term) (es fs : Terms) (r q : Relation) → n ≡ k + 1 → SaysOn l n r (form_of l a) (form_of l b) → SaysIn l (k + 1) q es fs → SaysIn l k (before r q) (then_term a es) (then_term b fs)
joined l n k a b es fs (Apart m reason) q e h j = first l n k a b es fs (Apart m reason) e h
joined l n k a b es fs (Distance m d) (Apart o reason) e h j = later l k a b es fs (Apart o reason) j
joined l n k a b es fs (Distance m d) (Distance o c) e h j = first l n k a b es fs (Distance m d) e h
joined l n k a b es fs (Distance m d) Any e h j = first l n k a b es fs (Distance m d) e h
joined l n k a b es fs Any q e h j = later l k a b es fs q j

dimensions_say : (l : Loop) (n k : ℕ) (es fs : Terms) → n ≡ k + 1 → SaysIn l k (dimensions l n es fs) es fs
dimensions_say l n k no_terms fs e = tt
dimensions_say l n k (then_term a es) no_terms e = tt
dimensions_say l n k (then_term a es) (then_term b fs) e =
    joined l n k a b es fs (dimension l n (form_of l a) (form_of l b)) (dimensions l (n + 1) es fs) e
    (dimension_says l n (form_of l a) (form_of l b))
    (dimensions_say l (n + 1) (k + 1) es fs (omega (arith, e)))

said : (l : Loop) (a b : Occurrence) (r : Relation) → SaysIn l 0 r a.subscripts b.subscripts → is_verified l a b r ≡ true
said l a b (Apart m reason) h = ap (λ n. in_dimension l n a.subscripts b.subscripts (λ f g. says_apart l reason f g)) (let p = h.1 in let e : m ≡ suc h.0 = omega (arith, p) in e) ∙ h.2
said l a b (Distance m d) h = ap (λ n. in_dimension l n a.subscripts b.subscripts (λ f g. is_only (by_distance l f g) d)) (let p = h.1 in let e : m ≡ suc h.0 = omega (arith, p) in e) ∙ h.2
said l a b Any h = refl

pub agreed : (l : Loop) (a b : Option Occurrence) → is_verified_if l a b (relation_if l a b) ≡ true
agreed l (Some a) (Some b) = said l a b (relation l a b) (dimensions_say l 1 0 a.subscripts b.subscripts (omega arith))
agreed l (Some a) None = refl
agreed l None b = refl
