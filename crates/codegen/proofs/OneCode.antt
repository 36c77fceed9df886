-- A program has one code at most, and none where that would be too long.
use Rattle.std.proofs.Common.{◌≡◌, ◌∙◌, ◌+◌, ◌^◌, inl, inr, ℕ, true, List, [], ◌∷◌, refl, ap, sym, subst, arith}
use Rattle.std.specs.Prelude.{◌==◌, ◌&&◌, nat_lt}
use Rattle.std.proofs.lemmas.Bool.{and_parts, eqb-true}
use Rattle.ast.specs.Program.{ProgramTree}
use Rattle.ast.specs.declared.name.Name.{Name}
use Rattle.dependence.specs.Plan.{PlanTree}
use Rattle.expr_code.specs.Computes.{variables_in}
use Rattle.loop_tree.specs.Loops as tree
use Rattle.loop_tree.specs.Loops.{loops_of}
use Rattle.machine.specs.Code.{Code, Part, Loop}
use Rattle.machine.specs.Laid.{are_laid}
use Rattle.machine.specs.declared.code.Await.{Await}
use Rattle.machine.specs.declared.code.Variable.{Variable}
use Rattle.machine.specs.declared.instr.Instr.{Instr}
use Rattle.codegen.specs.Program.{AreOpened, AreOpenedOf, HasLongCode, IsCodeOf, IsCompiled, IsTooLong, Planned}
use Rattle.codegen.proofs.OnePlan.{one_plan}

opened_one : (all ls : List tree.Loop) (xs ys : List Planned) → AreOpenedOf all ls xs → AreOpenedOf all ls ys → xs ≡ ys
opened_one all [] xs ys a b = a ∙ sym b
opened_one all (l ∷ ls) xs ys (inl a) (inl b) =
    let u = a.1 in
    let v = b.1 in
    let one : PlanTree → List Planned = λ p. record { loop = l; plan = p } ∷ u.2.0 in
    let two : List Planned → List Planned = λ zs. record { loop = l; plan = v.0 } ∷ zs in
    u.2.1 ∙ ap one (one_plan l u.0 v.0 u.1 v.1) ∙ ap two (opened_one all ls u.2.0 v.2.0 u.2.2 v.2.2) ∙ sym v.2.1
opened_one all (l ∷ ls) xs ys (inl a) (inr b) = absurd (b.0 a.0)
opened_one all (l ∷ ls) xs ys (inr a) (inl b) = absurd (a.0 b.0)
opened_one all (l ∷ ls) xs ys (inr a) (inr b) = opened_one all ls xs ys a.1 b.1

-- ---- variables

abbrev Pairs : Type 0
Pairs = List (List ℕ × ℕ)

abbrev first_of : Pairs → List ℕ × ℕ
first_of [] = ([], 0)
first_of (x ∷ xs) = x

abbrev rest_of : Pairs → Pairs
rest_of [] = []
rest_of (x ∷ xs) = xs

abbrev is_some : Pairs → Type 0
is_some [] = ⊥
is_some (x ∷ xs) = Unit {0}

name_one : (x y : Name) → x.letters ≡ y.letters → x ≡ y
name_one x y e = let f : List ℕ → Name = λ z. record { letters = z } in ap f e

variable_one : (x y : Variable) → x.name.letters ≡ y.name.letters → x.start ≡ y.start → x.size ≡ y.size → x ≡ y
variable_one x y e f g =
    let one : Name → Variable = λ z. record { name = z; start = x.start; size = x.size } in
    let two : ℕ → Variable = λ z. record { name = y.name; start = z; size = x.size } in
    let three : ℕ → Variable = λ z. record { name = y.name; start = y.start; size = z } in
    ap one (name_one x.name y.name e) ∙ ap two f ∙ ap three g

variables_one : (n : ℕ) (xs ys : List Variable) → variables_in xs ≡ variables_in ys → are_laid n xs ≡ true → are_laid n ys ≡ true → xs ≡ ys
variables_one n [] [] e a b = refl
variables_one n [] (y ∷ ys) e a b = absurd (subst is_some (sym e) tt)
variables_one n (x ∷ xs) [] e a b = absurd (subst is_some e tt)
variables_one n (x ∷ xs) (y ∷ ys) e a b =
    let p = and_parts (x.start == n) (nat_lt (n + x.size) (2 ^ 62) && are_laid (n + x.size) xs) a in
    let q = and_parts (y.start == n) (nat_lt (n + y.size) (2 ^ 62) && are_laid (n + y.size) ys) b in
    let u = and_parts (nat_lt (n + x.size) (2 ^ 62)) (are_laid (n + x.size) xs) p.1 in
    let v = and_parts (nat_lt (n + y.size) (2 ^ 62)) (are_laid (n + y.size) ys) q.1 in
    let h = ap first_of e in
    let size : x.size ≡ y.size = ap (λ (z : List ℕ × ℕ). z.1) h in
    let letters : x.name.letters ≡ y.name.letters = ap (λ (z : List ℕ × ℕ). z.0) h in
    let start : x.start ≡ y.start = eqb-true x.start n p.0 ∙ sym (eqb-true y.start n q.0) in
    let laid : are_laid (n + x.size) ys ≡ true = subst (λ (z : ℕ). are_laid (n + z) ys ≡ true) (sym size) v.1 in
    let more : xs ≡ ys = variables_one (n + x.size) xs ys (ap rest_of e) u.1 laid in
    ap (λ (z : Variable). z ∷ xs) (variable_one x y letters start size) ∙ ap (λ (z : List Variable). y ∷ z) more

-- ---- code

code_one : (t : ProgramTree) (xs : List Planned) (c d : Code) → IsCodeOf t xs c → IsCodeOf t xs d → c ≡ d
code_one t xs c d a b =
    let f1 : List Instr → Code = λ z. record { instructions = z; records = c.records; awaits = c.awaits; variables = c.variables; loops = c.loops; operands = c.operands; counters = c.counters } in
    let f2 : List (List Part) → Code = λ z. record { instructions = d.instructions; records = z; awaits = c.awaits; variables = c.variables; loops = c.loops; operands = c.operands; counters = c.counters } in
    let f3 : List Await → Code = λ z. record { instructions = d.instructions; records = d.records; awaits = z; variables = c.variables; loops = c.loops; operands = c.operands; counters = c.counters } in
    let f4 : List Variable → Code = λ z. record { instructions = d.instructions; records = d.records; awaits = d.awaits; variables = z; loops = c.loops; operands = c.operands; counters = c.counters } in
    let f5 : List Loop → Code = λ z. record { instructions = d.instructions; records = d.records; awaits = d.awaits; variables = d.variables; loops = z; operands = c.operands; counters = c.counters } in
    let f6 : ℕ → Code = λ z. record { instructions = d.instructions; records = d.records; awaits = d.awaits; variables = d.variables; loops = d.loops; operands = z; counters = c.counters } in
    let f7 : ℕ → Code = λ z. record { instructions = d.instructions; records = d.records; awaits = d.awaits; variables = d.variables; loops = d.loops; operands = d.operands; counters = z } in
    ap f1 (a.instructions ∙ sym b.instructions)
    ∙ ap f2 (a.records ∙ sym b.records)
    ∙ ap f3 (a.awaits ∙ sym b.awaits)
    ∙ ap f4 (variables_one 0 c.variables d.variables (a.variables ∙ sym b.variables) a.laid b.laid)
    ∙ ap f5 (a.loops ∙ sym b.loops)
    ∙ ap f6 (a.operands ∙ sym b.operands)
    ∙ ap f7 (a.counters ∙ sym b.counters)

pub one_opened : (t : ProgramTree) (xs ys : List Planned) → AreOpened t xs → AreOpened t ys → xs ≡ ys
one_opened t xs ys a b = opened_one (loops_of t.block) (loops_of t.block) xs ys a b

pub one_code : (t : ProgramTree) (c d : Code) → IsCompiled t c → IsCompiled t d → c ≡ d
one_code t c d a b = code_one t b.0 c d (subst (λ (z : List Planned). IsCodeOf t z c) (one_opened t a.0 b.0 a.1 b.1) a.2) b.2

not_long : (t : ProgramTree) (xs : List Planned) (c : Code) → IsCodeOf t xs c → IsTooLong t xs → ⊥
not_long t xs c is (inl h) = let k = is.few in absurd (omega (arith, h, k))
not_long t xs c is (inr (inl h)) = let k = is.few_room in absurd (omega (arith, h, k))
not_long t xs c is (inr (inr h)) = let k = is.few_symbols in absurd (omega (arith, h, k))

pub never_long : (t : ProgramTree) (c : Code) → IsCompiled t c → HasLongCode t → ⊥
never_long t c a b = not_long t a.0 c a.2 (subst (λ (z : List Planned). IsTooLong t z) (one_opened t b.0 a.0 b.1 a.1) b.2)
