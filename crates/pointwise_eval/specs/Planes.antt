-- The values of an image in raster order, and the picture that they make.
use Rattle.std.specs.Prelude.{◌≡◌, ◌≢◌, ℕ, ◌*◌, ◌+◌, ◌<◌, ℤ, ◌≤ℤ◌, ◌<ℤ◌, pos, unsigned_abs, List, length, map, slice_get, slice_index_or, Option, Some, ◌⊎◌, Bool, IsTrue, IsFalse, []}
use Rattle.std.specs.List.{All}
use Rattle.dk_base.specs.declared.ty.Ty.{Ty}
use Rattle.dk_base.specs.Types.{IsType, IsIn}
use Rattle.dk_base.specs.Frames.{Size, area, Picture}
use Rattle.pointwise_ir.specs.declared.expr.Edge.{Edge}
use Rattle.pointwise_ir.specs.Trees.{Tree, EachImage}
use Rattle.pointwise_ir.specs.Typing.{HasType}
use Rattle.dk_base.specs.Types.{IsPort}
use Rattle.dk_base.specs.Stencils.{IsDistinct}
use Rattle.dk_base.specs.Frames.{framed, picture_at}
use Rattle.pointwise_ir.specs.Meaning.{edged, value}
use Rattle.pointwise_eval.specs.declared.plane.Plane.{Plane}
use Rattle.pointwise_eval.specs.declared.plane.Plane.TheVariants.{Input8, Input16, Unsigned8, Unsigned16, Unsigned32, Signed8, Signed16, Signed32, Signed64, Wide, Gone}
use Rattle.value_ranges.specs.declared.interval.Interval.{Interval}
use Rattle.value_ranges.specs.Parts.{AreBetween}
use Rattle.pointwise_eval.specs.Needs.{IsNeeded}

-- its values
abbrev pub values_of : Plane → List ℤ
values_of (Input8 samples) = map pos samples.now
values_of (Input16 samples) = map pos samples.now
values_of (Unsigned8 elements) = map pos elements.items
values_of (Unsigned16 elements) = map pos elements.items
values_of (Unsigned32 elements) = map pos elements.items
values_of (Signed8 elements) = map (λ v. v) elements.items
values_of (Signed16 elements) = map (λ v. v) elements.items
values_of (Signed32 elements) = map (λ v. v) elements.items
values_of (Signed64 elements) = map (λ v. v) elements.items
values_of (Wide values) = values.items
values_of Gone = []

-- a plane of values of 64 bits
abbrev pub IsByRows : Plane → Type 0
IsByRows (Input8 samples) = Unit {0}
IsByRows (Input16 samples) = Unit {0}
IsByRows (Unsigned8 elements) = Unit {0}
IsByRows (Unsigned16 elements) = Unit {0}
IsByRows (Unsigned32 elements) = Unit {0}
IsByRows (Signed8 elements) = Unit {0}
IsByRows (Signed16 elements) = Unit {0}
IsByRows (Signed32 elements) = Unit {0}
IsByRows (Signed64 elements) = Unit {0}
IsByRows (Wide values) = ⊥
IsByRows Gone = ⊥

-- the picture of values in raster order
abbrev pub shown : Size → List ℤ → Picture
shown size values = framed size (λ x y. slice_index_or values (unsigned_abs y * size.width + unsigned_abs x) (pos 0))

abbrev pub all_shown : Size → List Plane → List Picture
all_shown size planes = map (λ p. shown size (values_of p)) planes

-- the plane of image g has a value for each pixel
pub record IsWhole (size : Size) (planes : List Plane) (g : ℕ) : Type 0 where
  pub plane : Plane
  pub there : slice_get planes g ≡ Some plane
  pub whole : length (values_of plane) ≡ area size

-- the plane of image g can be read by rows
pub record HasRows (planes : List Plane) (g : ℕ) : Type 0 where
  pub plane : Plane
  pub there : slice_get planes g ≡ Some plane
  pub rows : IsByRows plane

-- the values of the images are in their types
abbrev pub AreValues : Size → List Ty → List Plane → Type 0
AreValues size types planes = (g : ℕ) (t : Ty) → slice_get types g ≡ Some t → (x y : ℤ) → IsIn t (picture_at (all_shown size planes) g x y)

-- The expression has a type over images of these types, which the planes have values of, and the planes that it reads are whole.
pub record CanEvaluate (size : Size) (planes : List Plane) (e : Tree) : Type 0 where
  pub types : List Ty
  pub ty : Ty
  pub typed : HasType types e ty
  pub types_are : (g : ℕ) (t : Ty) → slice_get types g ≡ Some t → IsType t
  pub values : AreValues size types planes
  pub whole : EachImage (IsWhole size planes) e

-- What is known of images of these types: their planes show values of the types, and in these intervals.
pub record AreSources (size : Size) (planes : List Plane) (intervals : List Interval) (tys : List Ty) : Type 0 where
  -- the types are types of values
  pub types : All IsType tys
  -- each value is of its image's type
  pub values : AreValues size tys planes
  -- each value is in its image's interval
  pub ranges : AreBetween intervals (all_shown size planes)

-- a pixel of the frame
pub record IsPixel (size : Size) (x y : ℕ) : Type 0 where
  -- its column
  pub across : x < size.width
  -- its row
  pub down : y < size.height

-- a step to the point (x, y) that leads nowhere: what is there is 0
abbrev pub IsNowhere : Size → Edge → (x y : ℤ) → Type 0
IsNowhere size edge x y = (picture : Picture) → edged size edge picture x y ≡ pos 0

-- a step to the point (x, y) that leads to the pixel (u, v)
pub record LeadsTo (size : Size) (edge : Edge) (x y : ℤ) (u v : ℕ) : Type 0 where
  pub across : u < size.width
  pub down : v < size.height
  pub same : (picture : Picture) → edged size edge picture x y ≡ picture (pos u) (pos v)

-- the values of the expression at all pixels, in raster order
pub record ArePixelsOf (size : Size) (planes : List Plane) (e : Tree) (values : List ℤ) : Type 0 where
  pub whole : length values ≡ area size
  pub shown : shown size values ≡ framed size (value size (all_shown size planes) e)

-- the plane of an image that is not an input: the expression's value at each pixel if it is needed, else empty
pub record IsPlaneOf (size : Size) (planes : List Plane) (e : Tree) (wanted : Bool) (plane : Plane) : Type 0 where
  pub pixels : IsTrue wanted → ArePixelsOf size planes e (values_of plane)
  pub empty : IsFalse wanted → values_of plane ≡ []

-- the planes of images, of which those that are needed after the first n have these pictures
pub record ShowsNeeded (size : Size) (types : List Ty) (known : List Picture) (until : List ℕ) (n : ℕ) (planes : List Plane) : Type 0 where
  pub one_each : length planes ≡ length types
  pub values : AreValues size types planes
  pub whole : (g : ℕ) → IsNeeded until n g → g < length planes → IsWhole size planes g
  pub pictures : (g : ℕ) → IsNeeded until n g → g < length planes → picture_at (all_shown size planes) g ≡ picture_at known g

-- the plane at a place is the one that was there, or it is gone
abbrev pub AreSameOrGone : Option Plane → Option Plane → Type 0
AreSameOrGone old new = (new ≡ old) ⊎ (new ≡ Some Gone)

-- The planes of images that are not needed any more after the first n may be gone.
pub record DropsSome (until : List ℕ) (n : ℕ) (old new : List Plane) : Type 0 where
  -- there are as many
  pub count : length new ≡ length old
  -- each that is needed is there
  pub kept : (g : ℕ) → IsNeeded until n g → slice_get new g ≡ slice_get old g
  -- each is as before, or gone
  pub each : (g : ℕ) → AreSameOrGone (slice_get old g) (slice_get new g)

-- The plane of one image may be gone, where it is not needed after the first n.
pub record DropsOne (image limit n : ℕ) (old new : List Plane) : Type 0 where
  -- the others stay
  pub others : (g : ℕ) → g ≢ image → slice_get new g ≡ slice_get old g
  -- it stays where it is needed
  pub kept : n < limit → slice_get new image ≡ slice_get old image
  -- else it may be gone
  pub here : AreSameOrGone (slice_get old image) (slice_get new image)

-- The plane of one image is taken out.
pub record Takes (image : ℕ) (old new : List Plane) (plane : Plane) : Type 0 where
  -- it is that plane
  pub taken : slice_get old image ≡ Some plane
  -- the others stay
  pub others : (g : ℕ) → g ≢ image → slice_get new g ≡ slice_get old g

-- a sample: a number of at most 16 bits
abbrev pub IsSample : ℤ → Type 0
IsSample v = (pos 0 ≤ℤ v) × (v <ℤ pos 65536)

-- a whole plane whose values are samples of an output
pub record IsOutputPlane (size : Size) (planes : List Plane) (g : ℕ) : Type 0 where
  pub whole : IsWhole size planes g
  pub ty : Ty
  pub port : IsPort ty
  pub values : (x y : ℤ) → IsIn ty (picture_at (all_shown size planes) g x y)

-- Whole planes of some images, each of them once, whose values are samples of outputs.
pub record AreOutputPlanes (size : Size) (planes : List Plane) (numbers : List ℕ) : Type 0 where
  -- the plane of each is such a plane
  pub outputs : All (IsOutputPlane size planes) numbers
  -- no two are the same
  pub distinct : IsDistinct numbers

-- each picture that the planes show is a known one, or 0 everywhere where the plane is gone or not there
abbrev pub AreKnownOrGone : Size → List Picture → List Plane → Type 0
AreKnownOrGone size known planes = (g : ℕ) → (picture_at (all_shown size planes) g ≡ picture_at known g) ⊎ ((x y : ℤ) → picture_at (all_shown size planes) g x y ≡ pos 0)
