-- The lanes of rows, and the expressions that they can compute.
use Rattle.std.specs.Prelude.{◌≡◌, ℕ, ◌+◌, ◌*◌, ◌<◌, ◌≤◌, ℤ, List, length}
use Rattle.dk_base.specs.declared.TheConstants.{MAX_INLINED_DEPTH}
use Rattle.dk_base.specs.declared.ty.Ty.{Ty}
use Rattle.dk_base.specs.declared.ty.Ty.TheVariants.{Signed}
use Rattle.dk_base.specs.Types.{IsIn}
use Rattle.dk_base.specs.Frames.{Size, area, Picture}
use Rattle.pointwise_ir.specs.Trees.{Tree, EachImage, depth_of}
use Rattle.value_ranges.specs.declared.interval.Interval.{Interval}
use Rattle.value_ranges.specs.Parts.{AreBetween}
use Rattle.pointwise_eval.specs.declared.lane.Lane.{Lane}
use Rattle.pointwise_eval.specs.declared.lane.Lane.TheVariants.{Bits16, Bits32, Bits64}
use Rattle.pointwise_eval.specs.declared.plane.Plane.{Plane}
use Rattle.pointwise_eval.specs.Narrow.{AreAllIn, ArePartsIn}
use Rattle.pointwise_eval.specs.Planes.{shown, all_shown, HasRows, CanEvaluate}

-- the type of a lane's elements
abbrev pub lane_type : Lane → Ty
lane_type Bits16 = Signed 16
lane_type Bits32 = Signed 32
lane_type Bits64 = Signed 64

-- where the images' values are in these intervals, the lane holds the values of the expression's parts; that of 64 bits is asked nothing
abbrev pub HoldsParts : Lane → List Interval → Tree → Type 0
HoldsParts Bits16 ranges e = (size : Size) (known : List Picture) → AreBetween ranges known → ArePartsIn (Signed 16) size known e
HoldsParts Bits32 ranges e = (size : Size) (known : List Picture) → AreBetween ranges known → ArePartsIn (Signed 32) size known e
HoldsParts Bits64 ranges e = Unit {0}

-- rows of this type can compute the expression: it has values over the planes, it reads planes that have rows, and each part's values are numbers of the type
pub record FitsLane (lane : Ty) (size : Size) (planes : List Plane) (e : Tree) : Type 0 where
  pub can : CanEvaluate size planes e
  pub rows : EachImage (HasRows planes) e
  pub parts : ArePartsIn lane size (all_shown size planes) e

-- Rows of this type can compute the expression, and elements of another can hold it.
pub record FitsRows (lane_of ty : Ty) (size : Size) (planes : List Plane) (e : Tree) : Type 0 where
  -- rows can compute it
  pub lane : FitsLane lane_of size planes e
  -- its values are of the other type
  pub typed : AreAllIn size (all_shown size planes) e ty
  -- it is not too deep for the rows that it needs
  pub depth : depth_of e ≤ MAX_INLINED_DEPTH

-- Row y of the frame, and memory for the values of an expression along it.
pub record HasRowMemory (size : Size) (e : Tree) (y to scratch : ℕ) : Type 0 where
  -- it is a row of the frame
  pub down : y < size.height
  -- there is a row to write
  pub row : to ≡ size.width
  -- and two rows for each level of the expression
  pub room : depth_of e * (size.width + size.width) ≤ scratch

-- a lane of this type can have row y of values in raster order
pub record IsReadable (lane : Ty) (size : Size) (values : List ℤ) (y : ℕ) : Type 0 where
  pub whole : length values ≡ area size
  pub down : y < size.height
  pub fits : (x z : ℤ) → IsIn lane (shown size values x z)
