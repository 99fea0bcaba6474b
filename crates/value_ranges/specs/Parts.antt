-- The values of expressions, of their parts and of images, and the intervals that they are in.
use Rattle.std.specs.Prelude.{◌≡◌, ℕ, ℤ, List, Some, slice_get}
use Rattle.dk_base.specs.Frames.{Size, Picture, picture_at}
use Rattle.pointwise_ir.specs.Trees.{Tree, constant, read, shifted, unary, binary, select, convert, scale}
use Rattle.pointwise_ir.specs.Meaning.{value}
use Rattle.value_ranges.specs.declared.interval.Interval.{Interval}
use Rattle.value_ranges.specs.Intervals.{IsBetween}

-- P holds of each value of the expression
abbrev pub EachValue : (ℤ → Type 0) → Size → List Picture → Tree → Type 0
EachValue P size known e = (x y : ℤ) → P (value size known e x y)

-- and of each value of its parts, and of the images that are read
abbrev pub EachPart : (ℤ → Type 0) → Size → List Picture → Tree → Type 0
EachPart P size known (constant v t) = EachValue P size known (constant v t)
EachPart P size known (read edge g dx dy) = EachValue P size known (read edge g dx dy) × ((x y : ℤ) → P (picture_at known g x y))
EachPart P size known (shifted edge dx dy a) = EachValue P size known (shifted edge dx dy a) × EachPart P size known a
EachPart P size known (unary op a) = EachValue P size known (unary op a) × EachPart P size known a
EachPart P size known (binary op a b) = EachValue P size known (binary op a b) × EachPart P size known a × EachPart P size known b
EachPart P size known (select c a b) = EachValue P size known (select c a b) × EachPart P size known c × EachPart P size known a × EachPart P size known b
EachPart P size known (convert how a t) = EachValue P size known (convert how a t) × EachPart P size known a
EachPart P size known (scale op a k) = EachValue P size known (scale op a k) × EachPart P size known a

-- each image's picture has its values in its interval, at every point
abbrev pub AreBetween : List Interval → List Picture → Type 0
AreBetween ranges known = (g : ℕ) (r : Interval) → slice_get ranges g ≡ Some r → (x y : ℤ) → IsBetween r (picture_at known g x y)

-- where the images' values are in these intervals, each value of the expression is in r
abbrev pub IsRangeOf : List Interval → Tree → Interval → Type 0
IsRangeOf ranges e r = (size : Size) (known : List Picture) → AreBetween ranges known → EachValue (IsBetween r) size known e

-- and each value of its parts
abbrev pub IsRangeOfParts : List Interval → Tree → Interval → Type 0
IsRangeOfParts ranges e r = (size : Size) (known : List Picture) → AreBetween ranges known → EachPart (IsBetween r) size known e
