-- How deep a statement is: as deep as the deepest of its expressions, each counted by itself.
use Rattle.std.specs.Prelude.{ℕ, max, List, [], ◌∷◌, Option, Some, None}
use Rattle.ast.specs.Tree.{Term, depth, Access, accessed, PrintItem, value_item, text_item}
use Rattle.ast.specs.Tree.{Bounds, Declarator, Definition, DoHead, Kind, integer, dimension}
use Rattle.ast.specs.Tree.{parameters, assign, do_loop, block_if, else_if, logical_if, print, read}

-- the greatest of the depths
abbrev pub greatest : {X : Type 0} → (X → ℕ) → List X → ℕ
greatest depth_of [] = 0
greatest depth_of (x ∷ xs) = max (depth_of x) (greatest depth_of xs)

abbrev pub depth_of_optional : Option Term → ℕ
depth_of_optional None = 0
depth_of_optional (Some e) = depth e

abbrev pub depth_of_access : Access → ℕ
depth_of_access a = depth (accessed a)

abbrev pub depth_of_bounds : Bounds → ℕ
depth_of_bounds b = max (depth_of_optional b.lower) (depth b.upper)

abbrev pub depth_of_declarator : Declarator → ℕ
depth_of_declarator d = greatest depth_of_bounds d.bounds

abbrev pub depth_of_definition : Definition → ℕ
depth_of_definition d = depth d.value

abbrev pub depth_of_item : PrintItem → ℕ
depth_of_item (value_item e) = depth e
depth_of_item (text_item t) = 0

abbrev pub depth_of_head : DoHead → ℕ
depth_of_head h = max (depth h.first) (max (depth h.last) (depth_of_optional h.step))

-- the depth of the deepest expression of a statement, that of a logical IF included; 0 without one
abbrev pub depth_of_kind : Kind → ℕ
depth_of_kind (integer ds) = greatest depth_of_declarator ds
depth_of_kind (dimension ds) = greatest depth_of_declarator ds
depth_of_kind (parameters ds) = greatest depth_of_definition ds
depth_of_kind (assign a e) = max (depth_of_access a) (depth e)
depth_of_kind (do_loop h) = depth_of_head h
depth_of_kind (block_if e) = depth e
depth_of_kind (else_if e) = depth e
depth_of_kind (logical_if e k) = max (depth e) (depth_of_kind k)
depth_of_kind (print items) = greatest depth_of_item items
depth_of_kind (read elements) = greatest depth_of_access elements
depth_of_kind _ = 0
