-- A typed program with its inline images substituted.
use Rattle.std.specs.Prelude.{◌≡◌, ◌⊎◌, ℕ, suc, ◌+◌, ◌<◌, pos, Bool, true, false, if◌then◌else◌, nat_eq, List, [], ◌∷◌, ◌++◌, length, map, fold, slice_get, slice_index_or, Option, Some, None}
use Rattle.std.specs.List.{list_any}
use Rattle.dk_base.specs.declared.ty.Ty.{Ty}
use Rattle.dk_base.specs.declared.operator.Conversion.TheVariants.{Cast}
use Rattle.dk_types.specs.declared.typed.TypedRead.{TypedRead}
use Rattle.dk_types.specs.Typed.{Typed, fetch, single, double, scaled, converted, chosen, Definition, Typing, image_type}
use Rattle.dk_types.specs.Typed as T
use Rattle.pointwise_ir.specs.declared.expr.Edge.{Edge}
use Rattle.pointwise_ir.specs.declared.expr.Edge.TheVariants.{Zero, Clamp}
use Rattle.pointwise_ir.specs.Trees.{Tree, constant, read, shifted, unary, binary, select, convert, scale}

-- what is in place of the reads of an image: the image itself, or the inlined body of an inline one
pub data Substitute : Type 0 where
  itself : Substitute
  body : Tree → Substitute

abbrev pub edge_of : (is_clamped : Bool) → Edge
edge_of true = Clamp
edge_of false = Zero

-- A read of an image that stays is a read; that of an inline one is its body, moved, so that each point of a path is tested by itself.
abbrev pub read_of : Substitute → TypedRead → Tree
read_of itself r = read (edge_of r.clamped) r.image r.dx r.dy
read_of (body e) r = shifted (edge_of r.clamped) r.dx r.dy e

-- the expression with these in place of the images that it reads
abbrev pub inlined : List Substitute → Typed → Tree
inlined known (T.constant t v) = constant (pos v) t
inlined known (fetch t r) = read_of (slice_index_or known r.image itself) r
inlined known (single t o a) = unary o (inlined known a)
inlined known (double t o a b) = binary o (inlined known a) (inlined known b)
inlined known (scaled t o a k) = scale o (inlined known a) k
inlined known (converted t o a) = convert o (inlined known a) t
inlined known (chosen t c a b) = select (inlined known c) (inlined known a) (inlined known b)

-- a declared type is a cast of the body
abbrev pub declared_as : Option Ty → Tree → Tree
declared_as None e = e
declared_as (Some t) e = convert Cast e t

abbrev pub inlined_body : List Substitute → Definition → Tree
inlined_body known d = declared_as d.declared (inlined known d.body)

abbrev pub substitute_of : List Substitute → Definition → Substitute
substitute_of known d = if d.inline then body (inlined_body known d) else itself

-- what is in place of each image, and of each of the definitions after them
abbrev pub substitutes_from : List Substitute → List Definition → List Substitute
substitutes_from known ds = fold (λ before d. before ++ substitute_of before d ∷ []) known ds

-- of all images of a program, the inputs first
abbrev pub substitutes : Typing → List Substitute
substitutes p = substitutes_from (map (λ i. itself) p.inputs) p.definitions

-- the image is an output
abbrev pub is_output : Typing → ℕ → Bool
is_output p g = list_any (λ o. nat_eq o g) p.outputs

-- The k-th definition stays an image: it is not inline, or it is an output. An output that is marked inline stays too, and its reads are substituted all the same.
abbrev pub stays : Typing → ℕ → Definition → Bool
stays p k d = if d.inline then is_output p (length p.inputs + k) else true

-- the body of the k-th definition's image: an inline image that no output is, which nobody reads any more, is 0
abbrev pub body_of : Typing → ℕ → Definition → Tree
body_of p k d = if stays p k d then inlined_body (substitutes p) d else constant (pos 0) (image_type d)

-- of definitions that are numbered on from k
abbrev pub bodies_from : Typing → ℕ → List Definition → List Tree
bodies_from p k [] = []
bodies_from p k (d ∷ ds) = body_of p k d ∷ bodies_from p (suc k) ds

abbrev pub bodies : Typing → List Tree
bodies p = bodies_from p 0 p.definitions

-- image g is an input, or a definition that stays an image
abbrev pub Stays : Typing → ℕ → Type 0
Stays p g = (g < length p.inputs) ⊎ ((k : ℕ) × (d : Definition) × (g ≡ length p.inputs + k) × (slice_get p.definitions k ≡ Some d) × (stays p k d ≡ true))
