-- A statement that is resolved has its text, the references that are counted, and no deeper
-- expressions.
use Rattle.std.proofs.Common.{◌≡◌, ◌∙◌, ℕ, ◌+◌, ◌≤◌, true, false, not, List, [], ◌∷◌, ◌++◌, map, length, refl, ap, arith, Option, Some, None, option_map}
use Rattle.std.specs.Prelude.{⊤, nat_le}
use Rattle.std.proofs.lemmas.Bool.{and_parts, and_from, leb-true, le-leb, not-false}
use Rattle.std.proofs.lemmas.List.{length-append}
use Rattle.ast.specs.Program.{greatest_depth}
use Rattle.ast.specs.References.{term_references, expressions_references, optional, items_expressions, kind_expressions, head_expressions}
use Rattle.ast.specs.Tree.{Ref, Term, Terms, element, no_terms, then_term, Access, accessed, PrintItem, value_item, text_item, DoHead, Kind, assign, do_loop, block_if, else_if, logical_if, print, read, depth}
use Rattle.structure.specs.Rules.{may_stand_in_if, holds_wrong_statement}
use Rattle.profile_check.specs.Erasure.{ref_to, erased, access_erased, item_erased, kind_erased, head_erased}
use Rattle.profile_check.specs.Resolving.{Table, total, count, resolved, all_resolved, access_count, access_resolved, accesses_resolved, item_resolved, item_count, items_resolved, count_optional, head_resolved, head_count, kind_resolved, kind_count}
use Rattle.profile_check.proofs.Parts.{own_expressions, own_text, are_shallow_in}
use Rattle.profile_check.proofs.ResolvedTerms.{term-text, terms-text, term-depth, terms-depth}
use Rattle.profile_check.proofs.Settling.{term-counted}

-- ---- the text

access-text : (t : Table) (n : ℕ) (a : Access) → access_erased (access_resolved t n a) ≡ access_erased a
access-text t n a = λ i. record { ref = ref_to a.ref.name; subscripts = terms-text t n a.subscripts i }

accesses-text : (t : Table) (n : ℕ) (elements : List Access) → map access_erased (accesses_resolved t n elements) ≡ map access_erased elements
accesses-text t n [] = refl
accesses-text t n (a ∷ more) = λ i. access-text t n a i ∷ accesses-text t (n + access_count (access_resolved t n a)) more i

item-text : (t : Table) (n : ℕ) (i : PrintItem) → item_erased (item_resolved t n i) ≡ item_erased i
item-text t n (value_item e) = ap value_item (term-text t n e)
item-text t n (text_item x) = refl

items-text : (t : Table) (n : ℕ) (items : List PrintItem) → map item_erased (items_resolved t n items) ≡ map item_erased items
items-text t n [] = refl
items-text t n (one ∷ more) = λ i. item-text t n one i ∷ items-text t (n + item_count (item_resolved t n one)) more i

optional-text : (t : Table) (n : ℕ) (o : Option Term) → option_map erased (option_map (λ e. resolved t n e) o) ≡ option_map erased o
optional-text t n None = refl
optional-text t n (Some e) = ap (λ (x : Term). Some x) (term-text t n e)

head-text : (t : Table) (n : ℕ) (h : DoHead) → head_erased (head_resolved t n h) ≡ head_erased h
head-text t n h =
    let first : Term = resolved t n h.first in
    let last : Term = resolved t (n + count first) h.last in
    λ i. record {
      terminal = h.terminal;
      variable = ref_to h.variable.name;
      first = term-text t n h.first i;
      last = term-text t (n + count first) h.last i;
      step = optional-text t (n + count first + count last) h.step i;
    }

-- of a statement that may stand in a logical IF
inner-text : (t : Table) (n : ℕ) (k : Kind) → may_stand_in_if k ≡ true → kind_erased (kind_resolved t n k) ≡ kind_erased k
inner-text t n (assign a e) h = λ i. assign (access-text t (n + count (resolved t n e)) a i) (term-text t n e i)
inner-text t n (print items) h = ap print (items-text t n items)
inner-text t n (read elements) h = ap read (accesses-text t n elements)
inner-text t n (do_loop h) e = absurd cc
inner-text t n (block_if c) h = absurd cc
inner-text t n (else_if c) h = absurd cc
inner-text t n (logical_if c k) h = absurd cc
inner-text t n _ h = refl

pub kind-text : (t : Table) (n : ℕ) (k : Kind) → holds_wrong_statement k ≡ false → own_text (kind_resolved t n k) ≡ own_text k
kind-text t n (assign a e) h = inner-text t n (assign a e) refl
kind-text t n (print items) h = inner-text t n (print items) refl
kind-text t n (read elements) h = inner-text t n (read elements) refl
kind-text t n (do_loop d) h = ap do_loop (head-text t n d)
kind-text t n (block_if c) h = ap block_if (term-text t n c)
kind-text t n (else_if c) h = ap else_if (term-text t n c)
kind-text t n (logical_if c k) h = λ i. logical_if (term-text t n c i) (inner-text t (n + count (resolved t n c)) k (not-false (may_stand_in_if k) h) i)
kind-text t n _ h = refl

-- ---- how many references

more-counted : (m : ℕ) (e : Term) (es : List Term) → length (expressions_references es) ≡ m → length (expressions_references (e ∷ es)) ≡ count e + m
more-counted m e es h = length-append (term_references e) (expressions_references es) ∙ λ i. term-counted e i + h i

accesses-counted : (elements : List Access) → length (expressions_references (map accessed elements)) ≡ total access_count elements
accesses-counted [] = refl
accesses-counted (a ∷ more) = more-counted (total access_count more) (accessed a) (map accessed more) (accesses-counted more)

items-counted : (items : List PrintItem) → length (expressions_references (items_expressions items)) ≡ total item_count items
items-counted [] = refl
items-counted (value_item e ∷ more) = more-counted (total item_count more) e (items_expressions more) (items-counted more)
items-counted (text_item x ∷ more) = let h = items-counted more in omega arith

step-counted : (o : Option Term) (r : Ref) → length (expressions_references (optional o ++ element r no_terms ∷ [])) ≡ count_optional o + 1
step-counted None r = refl
step-counted (Some e) r = more-counted 1 e (element r no_terms ∷ []) refl

head-counted : (h : DoHead) → length (expressions_references (head_expressions h)) ≡ head_count h
head-counted h =
    let rest : List Term = optional h.step ++ element h.variable no_terms ∷ [] in
    let m : ℕ = count_optional h.step + 1 in
    let whole = more-counted (count h.last + m) h.first (h.last ∷ rest) (more-counted m h.last rest (step-counted h.step h.variable)) in
    whole ∙ (let z : count h.first + (count h.last + m) ≡ head_count h = omega arith in z)

inner-counted : (k : Kind) → may_stand_in_if k ≡ true → length (expressions_references (kind_expressions k)) ≡ kind_count k
inner-counted (assign a e) h =
    let whole = more-counted (access_count a + 0) e (accessed a ∷ []) (more-counted 0 (accessed a) [] refl) in
    whole ∙ (let z : count e + (access_count a + 0) ≡ count e + access_count a = omega arith in z)
inner-counted (print items) h = items-counted items
inner-counted (read elements) h = accesses-counted elements
inner-counted (do_loop h) e = absurd cc
inner-counted (block_if c) h = absurd cc
inner-counted (else_if c) h = absurd cc
inner-counted (logical_if c k) h = absurd cc
inner-counted _ h = refl

counted : (k : Kind) → holds_wrong_statement k ≡ false → length (expressions_references (own_expressions k)) ≡ kind_count k
counted (assign a e) h = inner-counted (assign a e) refl
counted (print items) h = inner-counted (print items) refl
counted (read elements) h = inner-counted (read elements) refl
counted (do_loop d) h = head-counted d
counted (block_if c) h = more-counted 0 c [] refl ∙ (let z : count c + 0 ≡ count c = omega arith in z)
counted (else_if c) h = more-counted 0 c [] refl ∙ (let z : count c + 0 ≡ count c = omega arith in z)
counted (logical_if c k) h = more-counted (kind_count k) c (kind_expressions k) (inner-counted k (not-false (may_stand_in_if k) h))
counted _ h = refl

pub may-stand : (t : Table) (n : ℕ) (k : Kind) → may_stand_in_if (kind_resolved t n k) ≡ may_stand_in_if k
may-stand t n (assign a e) = refl
may-stand t n _ = refl

wrong-statement : (t : Table) (n : ℕ) (k : Kind) → holds_wrong_statement (kind_resolved t n k) ≡ holds_wrong_statement k
wrong-statement t n (logical_if c k) = ap not (may-stand t (n + count (resolved t n c)) k)
wrong-statement t n _ = refl

pub kind-counted : (t : Table) (n : ℕ) (k : Kind) → holds_wrong_statement k ≡ false → length (expressions_references (own_expressions (kind_resolved t n k))) ≡ kind_count (kind_resolved t n k)
kind-counted t n k h = counted (kind_resolved t n k) (wrong-statement t n k ∙ h)

-- ---- the depth

-- as many expressions, each no deeper
abbrev pub Below : List Term → List Term → Type 0
Below [] [] = ⊤
Below (e ∷ es) (f ∷ fs) = (depth e ≤ depth f) × Below es fs
Below _ _ = ⊥

below-shallow : (es fs : List Term) → Below es fs → are_shallow_in fs ≡ true → are_shallow_in es ≡ true
below-shallow [] [] b h = refl
below-shallow [] (f ∷ fs) b h = absurd b
below-shallow (e ∷ es) [] b h = absurd b
below-shallow (e ∷ es) (f ∷ fs) b h =
    let p = and_parts (nat_le (depth f) greatest_depth) (are_shallow_in fs) h in
    let deep = leb-true (depth f) greatest_depth p.0 in
    and_from (nat_le (depth e) greatest_depth) (are_shallow_in es) (le-leb (depth e) greatest_depth (omega (arith, b.0, deep))) (below-shallow es fs b.1 p.1)

pub below-nothing : (es : List Term) → Below es [] → es ≡ []
below-nothing [] b = refl
below-nothing (e ∷ es) b = absurd b

access-depth : (t : Table) (n : ℕ) (r s : Ref) (es : Terms) → depth (element r (all_resolved t n es)) ≤ depth (element s es)
access-depth t n r s no_terms = omega arith
access-depth t n r s (then_term e es) = let deep = terms-depth t n (then_term e es) in omega arith

accesses-below : (t : Table) (n : ℕ) (elements : List Access) → Below (map accessed (accesses_resolved t n elements)) (map accessed elements)
accesses-below t n [] = tt
accesses-below t n (a ∷ more) = (access-depth t n (access_resolved t n a).ref a.ref a.subscripts, accesses-below t (n + access_count (access_resolved t n a)) more)

items-below : (t : Table) (n : ℕ) (items : List PrintItem) → Below (items_expressions (items_resolved t n items)) (items_expressions items)
items-below t n [] = tt
items-below t n (value_item e ∷ more) = (term-depth t n e, items-below t (n + count (resolved t n e)) more)
items-below t n (text_item x ∷ more) = items-below t (n + 0) more

step-below : (t : Table) (n : ℕ) (o : Option Term) (r s : Ref) → Below (optional (option_map (λ e. resolved t n e) o) ++ element r no_terms ∷ []) (optional o ++ element s no_terms ∷ [])
step-below t n None r s = (let z : 1 ≤ 1 = omega arith in z, tt)
step-below t n (Some e) r s = (term-depth t n e, (let z : 1 ≤ 1 = omega arith in z, tt))

head-below : (t : Table) (n : ℕ) (h : DoHead) → Below (head_expressions (head_resolved t n h)) (head_expressions h)
head-below t n h =
    let first : Term = resolved t n h.first in
    let last : Term = resolved t (n + count first) h.last in
    (term-depth t n h.first, (term-depth t (n + count first) h.last, step-below t (n + count first + count last) h.step (head_resolved t n h).variable h.variable))

inner-below : (t : Table) (n : ℕ) (k : Kind) → Below (kind_expressions (kind_resolved t n k)) (kind_expressions k)
inner-below t n (assign a e) =
    let m : ℕ = n + count (resolved t n e) in
    (term-depth t n e, (access-depth t m (access_resolved t m a).ref a.ref a.subscripts, tt))
inner-below t n (print items) = items-below t n items
inner-below t n (read elements) = accesses-below t n elements
inner-below t n _ = tt

pub kind-below : (t : Table) (n : ℕ) (k : Kind) → Below (own_expressions (kind_resolved t n k)) (own_expressions k)
kind-below t n (do_loop h) = head-below t n h
kind-below t n (block_if c) = (term-depth t n c, tt)
kind-below t n (else_if c) = (term-depth t n c, tt)
kind-below t n (logical_if c k) = (term-depth t n c, inner-below t (n + count (resolved t n c)) k)
kind-below t n (assign a e) = inner-below t n (assign a e)
kind-below t n (print items) = inner-below t n (print items)
kind-below t n (read elements) = inner-below t n (read elements)
kind-below t n _ = tt

pub kind-shallow : (t : Table) (n : ℕ) (k : Kind) → are_shallow_in (own_expressions k) ≡ true → are_shallow_in (own_expressions (kind_resolved t n k)) ≡ true
kind-shallow t n k h = below-shallow (own_expressions (kind_resolved t n k)) (own_expressions k) (kind-below t n k) h
