-- What is collected on the way through a program are its lines, its references and its loops.
use Rattle.std.proofs.Common.{◌≡◌, ◌∙◌, ap, sym, refl, ℕ, List, [], ◌∷◌, map, length, arith}
use Rattle.std.proofs.lemmas.Bool.{le-leb}
use Rattle.std.proofs.lemmas.List.{append_assoc, length-append, length-map, map-append, append-nil}
use Rattle.std.proofs.Math.Seq.{take-append_seam, drop-append_seam}
use Rattle.std.specs.Prelude.{◌+◌, ◌-◌, ◌++◌, take, drop, Bool, true, nat_le, ◌&&◌, if◌then◌else◌, Option, Some, None}
use Rattle.ast.specs.Tree.{DoHead, Node, plain, loop, choose, Block, no_nodes, then_node, Arms, no_arms, then_arm}
use Rattle.ast.proofs.Lists.{one_longer}
use Rattle.loop_tree.specs.Collecting.{Span, Collected, span_at, begun, with_end, ended_at, ended, after_node, after_block, after_arms, no_collected, part, loop_by, loops_in}
use Rattle.loop_tree.specs.Loops.{Loop, loop_at, node_loops, block_loops, arms_loops, loops_of}
use Rattle.loop_tree.specs.Occurrences.{Occurrence, first_line, head_occurrences, kind_occurrences, optional_occurrences, node_lines, block_lines, arms_lines, node_occurrences, block_occurrences, arms_occurrences}

-- The loops of statements that are numbered from n on, by the places of their references; k loops
-- and f references come before.
abbrev mutual
  node_spans : Option ℕ → ℕ → ℕ → ℕ → Node → List Span
  node_spans around k n f (plain s) = []
  node_spans around k n f (loop l h b) =
      with_end ((f + length (head_occurrences n h)) + length (block_occurrences (n + 1) b)) (span_at around n l h b (f + length (head_occurrences n h)))
      ∷ block_spans (Some (k + 1)) (k + 1) (n + 1) (f + length (head_occurrences n h)) b
  node_spans around k n f (choose a) = arms_spans around k n (n + 1) f a

  block_spans : Option ℕ → ℕ → ℕ → ℕ → Block → List Span
  block_spans around k n f no_nodes = []
  block_spans around k n f (then_node x b) =
      node_spans around k n f x
      ++ block_spans around (k + length (node_spans around k n f x)) (n + length (node_lines x)) (f + length (node_occurrences n x)) b

  arms_spans : Option ℕ → ℕ → ℕ → ℕ → ℕ → Arms → List Span
  arms_spans around k i n f no_arms = []
  arms_spans around k i n f (then_arm l e b more) =
      block_spans around k n (f + length (optional_occurrences i e)) b
      ++ arms_spans around (k + length (block_spans around k n (f + length (optional_occurrences i e)) b)) i (n + length (block_lines b)) ((f + length (optional_occurrences i e)) + length (block_occurrences n b)) more

abbrev collected_of : List ℕ → List Occurrence → List Span → Collected
collected_of ls rs ss = record { lines = ls; references = rs; spans = ss }

abbrev grown : Collected → List ℕ → List Occurrence → List Span → Collected
grown c ls rs ss = collected_of (c.lines ++ ls) (c.references ++ rs) (c.spans ++ ss)

same : {ls ms : List ℕ} {rs os : List Occurrence} {ss ts : List Span} → ls ≡ ms → rs ≡ os → ss ≡ ts → collected_of ls rs ss ≡ collected_of ms os ts
same {ls} {ms} {rs} {os} {ss} {ts} p q r = ap (λ x. collected_of x rs ss) p ∙ ap (λ x. collected_of ms x ss) q ∙ ap (λ x. collected_of ms os x) r

twice : (c : Collected) (ls ms : List ℕ) (rs os : List Occurrence) (ss ts : List Span) → grown (grown c ls rs ss) ms os ts ≡ grown c (ls ++ ms) (rs ++ os) (ss ++ ts)
twice c ls ms rs os ss ts = same (append_assoc c.lines ls ms) (append_assoc c.references rs os) (append_assoc c.spans ss ts)

-- ---- what a part adds

abbrev with_block_from : Option ℕ → ℕ → ℕ → ℕ → Block → Collected → Collected
with_block_from around k n f b c = grown c (block_lines b) (block_occurrences n b) (block_spans around k n f b)

abbrev with_arms_from : Option ℕ → ℕ → ℕ → ℕ → ℕ → Arms → Collected → Collected
with_arms_from around k i n f a c = grown c (arms_lines a) (arms_occurrences i n a) (arms_spans around k i n f a)

abbrev with_node_from : Option ℕ → ℕ → ℕ → ℕ → Node → Collected → Collected
with_node_from around k n f x c = grown c (node_lines x) (node_occurrences n x) (node_spans around k n f x)

block_moved : (around : Option ℕ) (b : Block) (c : Collected) {k k' n n' f f' : ℕ} → k ≡ k' → n ≡ n' → f ≡ f' → with_block_from around k n f b c ≡ with_block_from around k' n' f' b c
block_moved around b c {k} {k'} {n} {n'} {f} {f'} p q r =
    ap (λ x. with_block_from around x n f b c) p ∙ ap (λ x. with_block_from around k' x f b c) q ∙ ap (λ x. with_block_from around k' n' x b c) r

arms_moved : (around : Option ℕ) (i : ℕ) (a : Arms) (c : Collected) {k k' n n' f f' : ℕ} → k ≡ k' → n ≡ n' → f ≡ f' → with_arms_from around k i n f a c ≡ with_arms_from around k' i n' f' a c
arms_moved around i a c {k} {k'} {n} {n'} {f} {f'} p q r =
    ap (λ x. with_arms_from around x i n f a c) p ∙ ap (λ x. with_arms_from around k' i x f a c) q ∙ ap (λ x. with_arms_from around k' i n' x a c) r

ended_between : (xs ys : List Span) (s : Span) (n : ℕ) → ended_at (length xs) n (xs ++ s ∷ ys) ≡ xs ++ with_end n s ∷ ys
ended_between [] ys s n = refl
ended_between (x ∷ xs) ys s n = ap (λ zs. x ∷ zs) (ended_between xs ys s n)

-- the loop that is begun, and what its range adds
range_added : (around : Option ℕ) (l : ℕ) (h : DoHead) (b : Block) (c : Collected) (ls : List ℕ) (rs : List Occurrence) (ss : List Span)
    → ended (length c.spans) (grown (begun around l h b c) ls rs ss)
    ≡ grown c (l ∷ ls) (head_occurrences (length c.lines) h ++ rs)
    (with_end ((length c.references + length (head_occurrences (length c.lines) h)) + length rs) (span_at around (length c.lines) l h b (length c.references + length (head_occurrences (length c.lines) h))) ∷ ss)
range_added around l h b c ls rs ss =
    let hs = head_occurrences (length c.lines) h in
    let g = length (c.references ++ hs) in
    same
    (append_assoc c.lines (l ∷ []) ls)
    (append_assoc c.references hs rs)
    (ap (λ xs. ended_at (length c.spans) (length ((c.references ++ hs) ++ rs)) xs) (append_assoc c.spans (span_at around (length c.lines) l h b g ∷ []) ss)
    ∙ ended_between c.spans ss (span_at around (length c.lines) l h b g) (length ((c.references ++ hs) ++ rs))
    ∙ ap (λ n. c.spans ++ with_end n (span_at around (length c.lines) l h b g) ∷ ss) (length-append (c.references ++ hs) rs)
    ∙ ap (λ n. c.spans ++ with_end (n + length rs) (span_at around (length c.lines) l h b n) ∷ ss) (length-append c.references hs))

mutual
  node_gathered : (around : Option ℕ) (x : Node) (c : Collected) → after_node around x c ≡ with_node_from around (length c.spans) (length c.lines) (length c.references) x c
  node_gathered around (plain s) c = ap (λ ss. collected_of (c.lines ++ s.line ∷ []) (c.references ++ kind_occurrences (length c.lines) s.kind) ss) (sym (append-nil c.spans))
  node_gathered around (loop l h b) c =
      let hs = head_occurrences (length c.lines) h in
      let d = begun around l h b c in
      ap (λ e. ended (length c.spans) e)
      (block_gathered (Some (length c.spans + 1)) b d
      ∙ block_moved (Some (length c.spans + 1)) b d (one_longer c.spans _) (one_longer c.lines l) (length-append c.references hs))
      ∙ range_added around l h b c (block_lines b) (block_occurrences (length c.lines + 1) b) (block_spans (Some (length c.spans + 1)) (length c.spans + 1) (length c.lines + 1) (length c.references + length hs) b)
  node_gathered around (choose a) c =
      let d = collected_of (c.lines ++ first_line a ∷ []) c.references c.spans in
      arms_gathered around (length c.lines) a d
      ∙ arms_moved around (length c.lines) a d refl (one_longer c.lines (first_line a)) refl
      ∙ same (append_assoc c.lines (first_line a ∷ []) (arms_lines a)) refl refl

  block_gathered : (around : Option ℕ) (b : Block) (c : Collected) → after_block around b c ≡ with_block_from around (length c.spans) (length c.lines) (length c.references) b c
  block_gathered around no_nodes c = sym (same (append-nil c.lines) (append-nil c.references) (append-nil c.spans))
  block_gathered around (then_node x b) c =
      let ls = node_lines x in
      let rs = node_occurrences (length c.lines) x in
      let ss = node_spans around (length c.spans) (length c.lines) (length c.references) x in
      let d = grown c ls rs ss in
      ap (λ e. after_block around b e) (node_gathered around x c)
      ∙ block_gathered around b d
      ∙ block_moved around b d (length-append c.spans ss) (length-append c.lines ls) (length-append c.references rs)
      ∙ twice c ls (block_lines b) rs (block_occurrences (length c.lines + length ls) b) ss (block_spans around (length c.spans + length ss) (length c.lines + length ls) (length c.references + length rs) b)

  arms_gathered : (around : Option ℕ) (i : ℕ) (a : Arms) (c : Collected) → after_arms around i a c ≡ with_arms_from around (length c.spans) i (length c.lines) (length c.references) a c
  arms_gathered around i no_arms c = sym (same (append-nil c.lines) (append-nil c.references) (append-nil c.spans))
  arms_gathered around i (then_arm l e b more) c =
      let os = optional_occurrences i e in
      let c' = collected_of c.lines (c.references ++ os) c.spans in
      let n = length c.lines in
      let k = length c.spans in
      let f = length c.references + length os in
      let ls = block_lines b in
      let rs = block_occurrences n b in
      let ss = block_spans around k n f b in
      let d = grown c' ls rs ss in
      ap (λ z. after_arms around i more z) (block_gathered around b c' ∙ block_moved around b c' refl refl (length-append c.references os))
      ∙ arms_gathered around i more d
      ∙ arms_moved around i more d (length-append c.spans ss) (length-append c.lines ls) (length-append (c.references ++ os) rs ∙ ap (λ m. m + length rs) (length-append c.references os))
      ∙ twice c' ls (arms_lines more) rs (arms_occurrences i (n + length ls) more) ss (arms_spans around (k + length ss) i (n + length ls) (f + length rs) more)
      ∙ same refl (append_assoc c.references os (rs ++ arms_occurrences i (n + length ls) more) ∙ ap (λ zs. c.references ++ zs) (sym (append_assoc os rs (arms_occurrences i (n + length ls) more)))) refl

-- ---- the loops by their places

part_between : {X : Type 0} (us vs ws : List X) (n : ℕ) → n ≡ length us → part (us ++ (vs ++ ws)) n (n + length vs) ≡ vs
part_between us vs ws n e =
    let a = length-append us (vs ++ ws) in
    let b = length-append vs ws in
    let p : nat_le n (n + length vs) ≡ true = le-leb n (n + length vs) (omega arith) in
    let q : nat_le (n + length vs) (length (us ++ (vs ++ ws))) ≡ true = le-leb (n + length vs) (length (us ++ (vs ++ ws))) (omega (arith, a, b, e)) in
    let d : (n + length vs) - n ≡ length vs = omega arith in
    ap (λ (x : Bool). if x && nat_le (n + length vs) (length (us ++ (vs ++ ws))) then take ((n + length vs) - n) (drop n (us ++ (vs ++ ws))) else []) p
    ∙ ap (λ (x : Bool). if x then take ((n + length vs) - n) (drop n (us ++ (vs ++ ws))) else []) q
    ∙ ap (λ (m : ℕ). take m (drop n (us ++ (vs ++ ws)))) d
    ∙ ap (λ (m : ℕ). take (length vs) (drop m (us ++ (vs ++ ws)))) e
    ∙ ap (λ xs. take (length vs) xs) (drop-append_seam us (vs ++ ws))
    ∙ take-append_seam vs ws

-- the references of a part, behind f others
record Placed (all : List Occurrence) (f : ℕ) (part : List Occurrence) : Type 0 where
  front : List Occurrence
  back : List Occurrence
  is : all ≡ front ++ (part ++ back)
  at : f ≡ length front

placed_first : (all : List Occurrence) (f : ℕ) (xs ys : List Occurrence) → Placed all f (xs ++ ys) → Placed all f xs
placed_first all f xs ys p = record { front = p.front; back = ys ++ p.back; is = p.is ∙ ap (λ zs. p.front ++ zs) (append_assoc xs ys p.back); at = p.at }

placed_second : (all : List Occurrence) (f : ℕ) (xs ys : List Occurrence) → Placed all f (xs ++ ys) → Placed all (f + length xs) ys
placed_second all f xs ys p = record {
  front = p.front ++ xs;
  back = p.back;
  is = p.is ∙ ap (λ zs. p.front ++ zs) (append_assoc xs ys p.back) ∙ sym (append_assoc p.front xs (ys ++ p.back));
  at = ap (λ n. n + length xs) p.at ∙ sym (length-append p.front xs);
}

placed_part : (all : List Occurrence) (f : ℕ) (xs : List Occurrence) → Placed all f xs → part all f (f + length xs) ≡ xs
placed_part all f xs p = ap (λ zs. part zs f (f + length xs)) p.is ∙ part_between p.front xs p.back f p.at

as_many : (all : List Occurrence) (ss : List Span) (ls : List Loop) → map (loop_by all) ss ≡ ls → length ss ≡ length ls
as_many all ss ls e = sym (length-map ss (loop_by all)) ∙ ap (λ xs. length xs) e

with_references : (around : Option ℕ) (n line : ℕ) (h : DoHead) (b : Block) (g : ℕ) (all : List Occurrence) → Placed all g (block_occurrences (n + 1) b)
    → loop_by all (with_end (g + length (block_occurrences (n + 1) b)) (span_at around n line h b g)) ≡ loop_at around n line h b
with_references around n line h b g all p = ap (λ rs. record (loop_at around n line h b) { references = rs }) (placed_part all g (block_occurrences (n + 1) b) p)

mutual
  node_shown : (around : Option ℕ) (k n f : ℕ) (x : Node) (all : List Occurrence) → Placed all f (node_occurrences n x) → map (loop_by all) (node_spans around k n f x) ≡ node_loops around k n x
  node_shown around k n f (plain s) all p = refl
  node_shown around k n f (loop l h b) all p =
      let g = f + length (head_occurrences n h) in
      let q : Placed all g (block_occurrences (n + 1) b) = placed_second all f (head_occurrences n h) (block_occurrences (n + 1) b) p in
      ap (λ y. y ∷ map (loop_by all) (block_spans (Some (k + 1)) (k + 1) (n + 1) g b)) (with_references around n l h b g all q)
      ∙ ap (λ ys. loop_at around n l h b ∷ ys) (block_shown (Some (k + 1)) (k + 1) (n + 1) g b all q)
  node_shown around k n f (choose a) all p = arms_shown around k n (n + 1) f a all p

  block_shown : (around : Option ℕ) (k n f : ℕ) (b : Block) (all : List Occurrence) → Placed all f (block_occurrences n b) → map (loop_by all) (block_spans around k n f b) ≡ block_loops around k n b
  block_shown around k n f no_nodes all p = refl
  block_shown around k n f (then_node x b) all p =
      let os = node_occurrences n x in
      let rest = block_occurrences (n + length (node_lines x)) b in
      let ss = node_spans around k n f x in
      let e = node_shown around k n f x all (placed_first all f os rest p) in
      let more = λ (m : ℕ). block_spans around (k + m) (n + length (node_lines x)) (f + length os) b in
      map-append (loop_by all) ss (more (length ss))
      ∙ ap (λ ys. ys ++ map (loop_by all) (more (length ss))) e
      ∙ ap (λ m. node_loops around k n x ++ map (loop_by all) (more m)) (as_many all ss (node_loops around k n x) e)
      ∙ ap (λ ys. node_loops around k n x ++ ys) (block_shown around (k + length (node_loops around k n x)) (n + length (node_lines x)) (f + length os) b all (placed_second all f os rest p))

  arms_shown : (around : Option ℕ) (k i n f : ℕ) (a : Arms) (all : List Occurrence) → Placed all f (arms_occurrences i n a) → map (loop_by all) (arms_spans around k i n f a) ≡ arms_loops around k n a
  arms_shown around k i n f no_arms all p = refl
  arms_shown around k i n f (then_arm l c b more) all p =
      let os = optional_occurrences i c in
      let bs = block_occurrences n b in
      let rest = arms_occurrences i (n + length (block_lines b)) more in
      let g = f + length os in
      let q : Placed all f (os ++ (bs ++ rest)) = record { front = p.front; back = p.back; is = p.is ∙ ap (λ zs. p.front ++ (zs ++ p.back)) (append_assoc os bs rest); at = p.at } in
      let r : Placed all g (bs ++ rest) = placed_second all f os (bs ++ rest) q in
      let ss = block_spans around k n g b in
      let e = block_shown around k n g b all (placed_first all g bs rest r) in
      let others = λ (m : ℕ). arms_spans around (k + m) i (n + length (block_lines b)) (g + length bs) more in
      map-append (loop_by all) ss (others (length ss))
      ∙ ap (λ ys. ys ++ map (loop_by all) (others (length ss))) e
      ∙ ap (λ m. block_loops around k n b ++ map (loop_by all) (others m)) (as_many all ss (block_loops around k n b) e)
      ∙ ap (λ ys. block_loops around k n b ++ ys) (arms_shown around (k + length (block_loops around k n b)) i (n + length (block_lines b)) (g + length bs) more all (placed_second all g bs rest r))

-- What is collected of a program has its references and its lines, and shows its loops.
pub references_gathered : (c : Collected) (b : Block) → c ≡ after_block None b no_collected → c.references ≡ block_occurrences 0 b
references_gathered c b e = ap (λ (x : Collected). x.references) (e ∙ block_gathered None b no_collected)

pub lines_gathered : (c : Collected) (b : Block) → c ≡ after_block None b no_collected → c.lines ≡ block_lines b
lines_gathered c b e = ap (λ (x : Collected). x.lines) (e ∙ block_gathered None b no_collected)

pub loops_gathered : (c : Collected) (b : Block) → c ≡ after_block None b no_collected → loops_in c ≡ loops_of b
loops_gathered c b e =
    ap (λ (x : Collected). loops_in x) (e ∙ block_gathered None b no_collected)
    ∙ block_shown None 0 0 0 b (block_occurrences 0 b) (record { front = []; back = []; is = sym (append-nil (block_occurrences 0 b)); at = refl })
