-- The lane of an expression can compute it.
use Rattle.std.proofs.Common.{List}
use Rattle.dk_base.specs.declared.ty.Ty.{Ty}
use Rattle.dk_base.specs.declared.ty.Ty.TheVariants.{Signed}
use Rattle.dk_base.specs.Types.{IsIn}
use Rattle.dk_base.specs.Frames.{Size, Picture}
use Rattle.pointwise_ir.specs.Trees.{Tree, EachImage}
use Rattle.value_ranges.specs.declared.interval.Interval.{Interval}
use Rattle.value_ranges.specs.Intervals.{IsBetween, IsHeldBy}
use Rattle.value_ranges.specs.Parts.{AreBetween, IsRangeOfParts}
use Rattle.value_ranges.proofs.Ranged.{parts_weaker}
use Rattle.pointwise_eval.specs.declared.plane.Plane.{Plane}
use Rattle.pointwise_eval.specs.Planes.{all_shown, HasRows, CanEvaluate}
use Rattle.pointwise_eval.specs.declared.lane.Lane.{Lane}
use Rattle.pointwise_eval.specs.declared.lane.Lane.TheVariants.{Bits16, Bits32, Bits64}
use Rattle.pointwise_eval.specs.Narrow.{ArePartsIn}
use Rattle.pointwise_eval.specs.Lanes.{lane_type, HoldsParts, FitsLane}

-- the parts are numbers of a type that holds their interval
pub parts_held : (ranges : List Interval) (e : Tree) (r : Interval) (t : Ty) → IsRangeOfParts ranges e r → IsHeldBy r t → (size : Size) (known : List Picture) → AreBetween ranges known → ArePartsIn t size known e
parts_held ranges e r t range held size known are = parts_weaker (IsBetween r) (IsIn t) held size known e (range size known are)

-- the lane that holds the parts
pub lane_fits : (lane : Lane) (size : Size) (planes : List Plane) (ranges : List Interval) (e : Tree) → HoldsParts lane ranges e → CanEvaluate size planes e → EachImage (HasRows planes) e → AreBetween ranges (all_shown size planes) →
    ArePartsIn (Signed 64) size (all_shown size planes) e → FitsLane (lane_type lane) size planes e
lane_fits Bits16 size planes ranges e holds can rows are narrow = record { can = can; rows = rows; parts = holds size (all_shown size planes) are }
lane_fits Bits32 size planes ranges e holds can rows are narrow = record { can = can; rows = rows; parts = holds size (all_shown size planes) are }
lane_fits Bits64 size planes ranges e holds can rows are narrow = record { can = can; rows = rows; parts = narrow }
