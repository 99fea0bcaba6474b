-- Used by private functions only.
-- Sizes of expressions, as they are counted.
use Rattle.std.specs.Prelude.{◌≡◌, ℕ, ◌<◌, min, List, length, slice_get, slice_index_or, Option, Some, None}
use Rattle.dk_types.specs.Typed.{Definition, Typing}
use Rattle.pointwise_ir.specs.Trees.{Tree, depth_of}
use Rattle.dk_inline.specs.declared.extent.InlinedSize.{InlinedSize}
use Rattle.dk_inline.specs.Inlined.{Substitute, itself, body, inlined_body, substitutes}
use Rattle.dk_inline.specs.Nodes.{nodes_of}

-- the number, or 2^64 - 1 where it is greater
abbrev pub saturated : ℕ → ℕ
saturated n = min n 18446744073709551615

-- An extent of `count` nodes and `levels` deep.
pub record HasExtent (x : InlinedSize) (count levels : ℕ) : Type 0 where
  -- its nodes
  pub nodes : x.nodes ≡ count
  -- its depth
  pub depth : x.depth ≡ levels

-- reads of this many images, which are not inline, add nothing
pub record AreUnread (known : List (Option InlinedSize)) (count : ℕ) : Type 0 where
  -- there is one for each
  pub long : length known ≡ count
  -- none adds anything
  pub none : (g : ℕ) → slice_index_or known g None ≡ None

pub record IsExtent (x : InlinedSize) (e : Tree) : Type 0 where
  pub nodes : x.nodes ≡ saturated (nodes_of e)
  pub depth : x.depth ≡ saturated (depth_of e)

-- of the substitute of an image; an image that stays has none
abbrev pub IsExtentOf : Option InlinedSize → Substitute → Type 0
IsExtentOf None itself = Unit {0}
IsExtentOf (Some x) (body e) = IsExtent x e
IsExtentOf None (body e) = ⊥
IsExtentOf (Some x) itself = ⊥

abbrev pub AreExtents : List (Option InlinedSize) → List Substitute → Type 0
AreExtents known images = (g : ℕ) → IsExtentOf (slice_index_or known g None) (slice_index_or images g itself)

-- of the definitions' inlined bodies
pub record HaveExtents (p : Typing) (extents : List InlinedSize) : Type 0 where
  pub long : length extents ≡ length p.definitions
  pub each : (k : ℕ) (d : Definition) (x : InlinedSize) → slice_get p.definitions k ≡ Some d → slice_get extents k ≡ Some x → IsExtent x (inlined_body (substitutes p) d)

-- The extent of the definition of this number is among them.
pub record HaveExtentAt (p : Typing) (all : List InlinedSize) (place : ℕ) : Type 0 where
  -- they are of the definitions' inlined bodies
  pub extents : HaveExtents p all
  -- it is there
  pub number : place < length all
