-- Code is emitted piece by piece: laws of what was appended, and of what was filled in.
use Rattle.std.proofs.Common.{◌≡◌, ◌∙◌, ◌+◌, ◌-◌, ◌≤◌, ℕ, Bool, false, List, [], ◌∷◌, ◌++◌, length, drop, Option, Some, refl, sym, ap, arith}
use Rattle.std.specs.Prelude.{if◌then◌else◌, set, Vec}
use Rattle.std.specs.Global.{Global}
use Rattle.std.proofs.lemmas.List.{append_assoc, length-append, length-map, length-set, set_at}
use Rattle.ast.specs.Tree.{Term, Ref}
use Rattle.dependence.specs.Plan.{PlanNode, PlanBlock, then_node, PlanArms, then_arm}
use Rattle.machine.specs.Code.{Part}
use Rattle.machine.specs.declared.code.Await.{Await}
use Rattle.machine.specs.declared.code.Piece.{Piece}
use Rattle.machine.specs.declared.instr.Act.TheVariants as acts
use Rattle.machine.specs.declared.instr.Instr.{Instr}
use Rattle.expr_code.specs.Emitted.{instr, short, term_code}
use Rattle.expr_code.specs.Places.{Places}
use Rattle.codegen.specs.Blocks.{Ends, body_ended, body_left_open, closed, trip_ended}
use Rattle.codegen.specs.Emitted.{arms_awaits, arms_code, arms_records, block_awaits, block_code, block_records, chosen_code, grown_code, node_awaits, node_code, node_records, turns_code}
use Rattle.codegen.specs.Process.{is_last_stop}
use Rattle.codegen.specs.Records.{pieces_of, records_of}
use Rattle.codegen.specs.declared.skips.Pending.{Pending}

-- ---- lists

-- one more of a list has been appended
next : {X : Type 0} (old new first rest all target : List X) → all ≡ first ++ rest → new ≡ old ++ first → old ++ all ≡ target → new ++ rest ≡ target
next old new first rest all target e f w = ap (λ xs. xs ++ rest) f ∙ append_assoc old first rest ∙ ap (λ xs. old ++ xs) (sym e) ∙ w

unless : {X : Type 0} (x : Bool) (xs : List X) → false ≡ x → (if x then [] else xs) ≡ xs
unless x xs h = ap (λ (y : Bool). if y then [] else xs) (sym h)

-- what holds of all from an index on holds of all
pub all_done : {X : Type 0} (f : List X → ℕ) (xs : List X) (n most : ℕ) → n ≤ 0 → most ≡ f (drop n xs) → most ≡ f xs
all_done f xs n most h e = let z : n ≡ 0 = omega (arith, h) in e ∙ ap (λ (k : ℕ). f (drop k xs)) z

-- ---- numbers of records and awaits

pub records_count : (rs : Vec (Vec Piece Global) Global) → length (records_of rs) ≡ length rs.items
records_count rs = length-map rs.items (λ r. pieces_of r)

pub count_on : (rs ss : Vec (Vec Piece Global) Global) (ps : List (List Part)) → records_of ss ≡ records_of rs ++ ps → length ss.items ≡ length rs.items + length ps
count_on rs ss ps h = sym (records_count ss) ∙ ap length h ∙ length-append (records_of rs) ps ∙ ap (λ (n : ℕ). n + length ps) (records_count rs)

pub awaits_count : (old new ws : List Await) → new ≡ old ++ ws → length new ≡ length old + length ws
awaits_count old new ws h = ap length h ∙ length-append old ws

-- ---- what was filled in

-- an instruction in the middle was left open
filled_in : (old c1 c2 c3 : List Instr) (x y : Instr) (b last : List Instr) (n : ℕ) → n ≡ length old → c1 ≡ old ++ x ∷ [] → c2 ≡ c1 ++ b → c3 ≡ c2 ++ last → set c3 n y ≡ old ++ (y ∷ (b ++ last))
filled_in old c1 c2 c3 x y b last n e f g h =
    let whole : c3 ≡ old ++ (x ∷ (b ++ last)) =
    h ∙ ap (λ (is : List Instr). is ++ last) (g ∙ ap (λ (is : List Instr). is ++ b) f ∙ append_assoc old (x ∷ []) b) ∙ append_assoc old (x ∷ b) last in
    ap (λ (is : List Instr). set is n y) whole ∙ set_at old x (b ++ last) y n (sym e)

-- what was appended since a place, one instruction at that place included
since : (old c1 c2 b : List Instr) (x : Instr) (n : ℕ) → n ≡ length old → c1 ≡ old ++ x ∷ [] → c2 ≡ c1 ++ b → length c2 - n ≡ length b + 1
since old c1 c2 b x n e f g =
    let k1 : length c1 ≡ length old + 1 = ap length f ∙ length-append old (x ∷ []) in
    let k2 : length c2 ≡ length c1 + length b = ap length g ∙ length-append c1 b in
    omega (arith, e, k1, k2)

pub body_emitted : (line : ℕ) (old b c1 c2 c3 : List Instr) (n : ℕ) → n ≡ length old → c1 ≡ old ++ instr line (acts.SkipUnless 0) ∷ [] → c2 ≡ c1 ++ b → c3 ≡ body_ended line n c2 → c3 ≡ old ++ body_left_open line b
body_emitted line old b c1 c2 c3 n e f g h =
    let skip = instr line (acts.Skip 0) ∷ [] in
    let behind : short (length c2 - n) ≡ short (length b + 1) = ap short (since old c1 c2 b (instr line (acts.SkipUnless 0)) n e f g) in
    h
    ∙ filled_in old c1 c2 (c2 ++ skip) (instr line (acts.SkipUnless 0)) (instr line (acts.SkipUnless (short (length c2 - n)))) b skip n e f g refl
    ∙ ap (λ (m : ℕ). old ++ (instr line (acts.SkipUnless m) ∷ (b ++ skip))) behind

pub trips_emitted : (q : Places) (r : Ref) (old b c1 c2 c3 : List Instr) (n : ℕ) → n ≡ length old → c1 ≡ old ++ instr q.line (acts.CountDown 0) ∷ [] → c2 ≡ c1 ++ b → c3 ≡ trip_ended q r n c2 → c3 ≡ old ++ turns_code q r b
trips_emitted q r old b c1 c2 c3 n e f g h =
    let range = b ++ grown_code q r in
    let grown = c2 ++ grown_code q r in
    let back = instr q.line (acts.Back (short (length grown - n))) ∷ [] in
    let both : grown ≡ c1 ++ range = ap (λ (is : List Instr). is ++ grown_code q r) g ∙ append_assoc c1 b (grown_code q r) in
    let trip : short (length grown - n) ≡ short (length range + 1) = ap short (since old c1 grown range (instr q.line (acts.CountDown 0)) n e f both) in
    h
    ∙ filled_in old c1 grown (grown ++ back) (instr q.line (acts.CountDown 0)) (instr q.line (acts.CountDown (short (length grown - n)))) range back n e f both refl
    ∙ ap (λ (m : ℕ). old ++ (instr q.line (acts.CountDown m) ∷ (range ++ instr q.line (acts.Back m) ∷ []))) trip

-- ---- arms

closed_snoc : (last : ℕ) (ss : List Pending) (s : Pending) (is : List Instr) → closed last (ss ++ s ∷ []) is ≡ closed last ss (closed last (s ∷ []) is)
closed_snoc last [] s is = refl
closed_snoc last (t ∷ ss) s is = ap (λ (js : List Instr). set js t.place (instr t.line (acts.Skip (short (last - t.place - 1))))) (closed_snoc last ss s is)

-- the skip behind an arm, and what it comes to with the arms behind it
arm_closed : (line : ℕ) (t b others : List Instr) (code e c : List Instr) (k : ℕ) → e ≡ code ++ t → c ≡ e ++ body_left_open line b → k ≡ length c - 1
    → set (c ++ others) k (instr line (acts.Skip (short (length (c ++ others) - k - 1)))) ≡ code ++ (t ++ (instr line (acts.SkipUnless (short (length b + 1))) ∷ (b ++ instr line (acts.Skip (short (length others))) ∷ others)))
arm_closed line t b others code e c k f g h =
    let first = instr line (acts.SkipUnless (short (length b + 1))) in
    let front = code ++ (t ++ (first ∷ b)) in
    let ended : c ≡ front ++ instr line (acts.Skip 0) ∷ [] =
    g ∙ ap (λ (is : List Instr). is ++ body_left_open line b) f ∙ append_assoc code t (body_left_open line b)
    ∙ ap (λ (is : List Instr). code ++ is) (sym (append_assoc t (first ∷ b) (instr line (acts.Skip 0) ∷ []))) ∙ sym (append_assoc code (t ++ (first ∷ b)) (instr line (acts.Skip 0) ∷ [])) in
    let whole : (c ++ others) ≡ front ++ (instr line (acts.Skip 0) ∷ others) = ap (λ (is : List Instr). is ++ others) ended ∙ append_assoc front (instr line (acts.Skip 0) ∷ []) others in
    let k1 : length c ≡ length front + 1 = ap length ended ∙ length-append front (instr line (acts.Skip 0) ∷ []) in
    let k2 : length (c ++ others) ≡ length c + length others = length-append c others in
    let at : length front ≡ k = omega (arith, h, k1) in
    let left : length (c ++ others) - k - 1 ≡ length others = omega (arith, h, k1, k2) in
    ap (λ (m : ℕ). set (c ++ others) k (instr line (acts.Skip (short m)))) left
    ∙ ap (λ (is : List Instr). set is k (instr line (acts.Skip (short (length others))))) whole
    ∙ set_at front (instr line (acts.Skip 0)) others (instr line (acts.Skip (short (length others)))) k at
    ∙ append_assoc code (t ++ (first ∷ b)) (instr line (acts.Skip (short (length others))) ∷ others)
    ∙ ap (λ (is : List Instr). code ++ is) (append_assoc t (first ∷ b) (instr line (acts.Skip (short (length others))) ∷ others))

-- an arm has been emitted, whose skip is left open behind those of the arms before it
arm_ends : (line : ℕ) (t b others all : List Instr) (ss : List Pending) (code e c target : List Instr) (k : ℕ) → all ≡ t ++ (instr line (acts.SkipUnless (short (length b + 1))) ∷ (b ++ instr line (acts.Skip (short (length others))) ∷ others)) → e ≡ code ++ t → c ≡ e ++ body_left_open line b
    → k ≡ length c - 1 → Ends ss (code ++ all) target → Ends (ss ++ record { place = k; line = line } ∷ []) (c ++ others) target
arm_ends line t b others all ss code e c target k a f g h w =
    let s : Pending = record { place = k; line = line } in
    let one : closed (length (c ++ others)) (s ∷ []) (c ++ others) ≡ code ++ all = arm_closed line t b others code e c k f g h ∙ ap (λ (is : List Instr). code ++ is) (sym a) in
    let same_length : length (c ++ others) ≡ length (code ++ all) = sym (length-set (c ++ others) k (instr line (acts.Skip (short (length (c ++ others) - k - 1))))) ∙ ap length one in
    closed_snoc (length (c ++ others)) ss s (c ++ others) ∙ ap (λ (is : List Instr). closed (length (c ++ others)) ss is) one ∙ ap (λ (n : ℕ). closed n ss (code ++ all)) same_length ∙ w

-- ---- statements and arms, one after another

module _ (p : Places) (opens : ℕ → Option ℕ) where
  pub block_next : (n : PlanNode) (b all : PlanBlock) (r r2 w w2 : ℕ) (code code2 target : List Instr) → all ≡ then_node n b → false ≡ is_last_stop n b → code2 ≡ code ++ node_code p opens r w n → r2 ≡ r + length (node_records p opens n) → w2 ≡ w + length (node_awaits p opens n)
      → code ++ block_code p opens r w all ≡ target → code2 ++ block_code p opens r2 w2 b ≡ target
  block_next n b all r r2 w w2 code code2 target a f g h i k =
      let first = node_code p opens r w n in
      let w3 = w + length (node_awaits p opens n) in
      next code code2 first (block_code p opens r2 w2 b) (block_code p opens r w all) target
      (ap (block_code p opens r w) a ∙ unless (is_last_stop n b) (first ++ block_code p opens (r + length (node_records p opens n)) w3 b) f
      ∙ ap (λ (m : ℕ). first ++ block_code p opens m w3 b) (sym h) ∙ ap (λ (m : ℕ). first ++ block_code p opens r2 m b) (sym i)) g k

  pub records_next : (n : PlanNode) (b all : PlanBlock) (old new target : List (List Part)) → all ≡ then_node n b → false ≡ is_last_stop n b → new ≡ old ++ node_records p opens n → old ++ block_records p opens all ≡ target → new ++ block_records p opens b ≡ target
  records_next n b all old new target a f g k =
      let first = node_records p opens n in
      let rest = block_records p opens b in
      next old new first rest (block_records p opens all) target (ap (block_records p opens) a ∙ unless (is_last_stop n b) (first ++ rest) f) g k

  pub awaits_next : (n : PlanNode) (b all : PlanBlock) (old new target : List Await) → all ≡ then_node n b → false ≡ is_last_stop n b → new ≡ old ++ node_awaits p opens n → old ++ block_awaits p opens all ≡ target → new ++ block_awaits p opens b ≡ target
  awaits_next n b all old new target a f g k =
      let first = node_awaits p opens n in
      let rest = block_awaits p opens b in
      next old new first rest (block_awaits p opens all) target (ap (block_awaits p opens) a ∙ unless (is_last_stop n b) (first ++ rest) f) g k

  pub arm_next : (line : ℕ) (x : Term) (b : PlanBlock) (others all : PlanArms) (r r2 w w2 : ℕ) (ss : List Pending) (code e c target : List Instr) (k : ℕ) → all ≡ then_arm line (Some x) b others → e ≡ code ++ term_code (record p { line = line }) x
      → c ≡ e ++ body_left_open line (block_code p opens r w b) → r2 ≡ r + length (block_records p opens b) → w2 ≡ w + length (block_awaits p opens b) → k ≡ length c - 1
      → Ends ss (code ++ arms_code p opens r w all) target → Ends (ss ++ record { place = k; line = line } ∷ []) (c ++ arms_code p opens r2 w2 others) target
  arm_next line x b others all r r2 w w2 ss code e c target k a f g h i j m =
      let q = record p { line = line } in
      let body = block_code p opens r w b in
      let w3 = w + length (block_awaits p opens b) in
      arm_ends line (term_code q x) body (arms_code p opens r2 w2 others) (arms_code p opens r w all) ss code e c target k
      (ap (arms_code p opens r w) a ∙ ap (λ (n : ℕ). term_code q x ++ chosen_code q body (arms_code p opens n w3 others)) (sym h) ∙ ap (λ (n : ℕ). term_code q x ++ chosen_code q body (arms_code p opens r2 n others)) (sym i)) f g j m

  pub arm_records_next : (line : ℕ) (x : Term) (b : PlanBlock) (others all : PlanArms) (old new target : List (List Part)) → all ≡ then_arm line (Some x) b others → new ≡ old ++ block_records p opens b → old ++ arms_records p opens all ≡ target → new ++ arms_records p opens others ≡ target
  arm_records_next line x b others all old new target a g k =
      next old new (block_records p opens b) (arms_records p opens others) (arms_records p opens all) target (ap (arms_records p opens) a) g k

  pub arm_awaits_next : (line : ℕ) (x : Term) (b : PlanBlock) (others all : PlanArms) (old new target : List Await) → all ≡ then_arm line (Some x) b others → new ≡ old ++ block_awaits p opens b → old ++ arms_awaits p opens all ≡ target → new ++ arms_awaits p opens others ≡ target
  arm_awaits_next line x b others all old new target a g k = next old new (block_awaits p opens b) (arms_awaits p opens others) (arms_awaits p opens all) target (ap (arms_awaits p opens) a) g k
