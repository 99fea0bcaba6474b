-- How many nodes a program has after inlining, and which definition is too deep.
use Rattle.std.specs.Prelude.{◌≡◌, ℕ, suc, ◌+◌, ◌<◌, true, if◌then◌else◌, List, [], ◌∷◌, slice_get, Some}
use Rattle.dk_base.specs.declared.TheConstants.{MAX_INLINED_DEPTH}
use Rattle.dk_base.specs.declared.span.Span.{Span}
use Rattle.dk_types.specs.Typed.{Definition, Typing}
use Rattle.pointwise_ir.specs.Trees.{Tree, constant, read, shifted, unary, binary, select, convert, scale, depth_of}
use Rattle.dk_inline.specs.Inlined.{inlined_body, substitutes, stays}

-- A constant or a read is one node, any other form one more than its operands have; so a read of an inline image is one more than its body.
abbrev pub nodes_of : Tree → ℕ
nodes_of (constant v t) = 1
nodes_of (read edge g dx dy) = 1
nodes_of (shifted edge dx dy a) = nodes_of a + 1
nodes_of (unary op a) = nodes_of a + 1
nodes_of (binary op a b) = nodes_of a + nodes_of b + 1
nodes_of (select c a b) = nodes_of c + nodes_of a + nodes_of b + 1
nodes_of (convert how a t) = nodes_of a + 1
nodes_of (scale op a k) = nodes_of a + 1

-- what the k-th definition counts: its nodes where it stays, else nothing
abbrev pub counted_nodes : Typing → ℕ → Definition → ℕ
counted_nodes p k d = if stays p k d then nodes_of (inlined_body (substitutes p) d) else 0

-- of definitions that are numbered on from k: the sum over those that stay
abbrev pub nodes_from : Typing → ℕ → List Definition → ℕ
nodes_from p k [] = 0
nodes_from p k (d ∷ ds) = counted_nodes p k d + nodes_from p (suc k) ds

abbrev pub node_count : Typing → ℕ
node_count p = nodes_from p 0 p.definitions

-- the k-th definition stays, and is deeper than the limit
pub record IsDeep (p : Typing) (k : ℕ) (d : Definition) : Type 0 where
  pub at : slice_get p.definitions k ≡ Some d
  pub stays : stays p k d ≡ true
  pub deep : MAX_INLINED_DEPTH < depth_of (inlined_body (substitutes p) d)

-- the first such definition has its name there
pub record IsFirstDeep (p : Typing) (name : Span) : Type 0 where
  pub place : ℕ
  pub definition : Definition
  pub is : IsDeep p place definition
  pub before : (j : ℕ) (c : Definition) → j < place → IsDeep p j c → ⊥
  pub named : name ≡ definition.name.span
