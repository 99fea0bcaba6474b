-- What the private functions say of expressions and of images by number.
use Rattle.std.specs.Prelude.{◌≡◌, ◌⊎◌, ℕ, ◌^◌, false, IsTrue, ℤ, pos, ◌+ℤ◌, ◌*ℤ◌, ◌≤ℤ◌, List, Option, Some, slice_get}
use Rattle.dk_base.specs.declared.ty.Ty.{Ty}
use Rattle.dk_base.specs.declared.operator.Conversion.{Conversion}
use Rattle.dk_base.specs.Types.{IsIn}
use Rattle.dk_base.specs.Frames.{Size, IsFrame, in_frame, clamped, Picture}
use Rattle.pointwise_ir.specs.declared.expr.Edge.{Edge}
use Rattle.pointwise_ir.specs.declared.expr.Edge.TheVariants.{Zero, Clamp}
use Rattle.pointwise_ir.specs.Trees.{Tree, constant, read, shifted, select, convert}
use Rattle.pointwise_ir.specs.Programs.{Program, IsProgram}
use Rattle.pointwise_ir.specs.Meaning.{edged, value, pictures, IsRound}
use Rattle.value_ranges.specs.declared.interval.Interval.{Interval}
use Rattle.value_ranges.specs.Images.{AreRangesOf}
use Rattle.same_pictures.specs.declared.moves.Step.{Step}
use Rattle.same_pictures.specs.Same.{HaveSamePicture}

-- the expression is a read of image g at the point itself
abbrev pub IsReadHere : Tree → (g : ℕ) → Type 0
IsReadHere e g = (edge : Edge) × (e ≡ read edge g (pos 0) (pos 0))

-- on each round the expression b of the new program has the value of the expression a of the old one, at each point of the frame
abbrev pub HaveSameValue : (old new : Program) → (a b : Tree) → Type 0
HaveSameValue old new a b = (round : List Picture) → IsRound old round → (x y : ℤ) → IsTrue (in_frame old.size x y) →
    value old.size (pictures old round) a x y ≡ value new.size (pictures new round) b x y

-- in each round of the program the expression b has the value of a, at each point of the frame
abbrev pub StandsFor : (p : Program) → (a b : Tree) → Type 0
StandsFor p a b = (round : List Picture) → IsRound p round → (x y : ℤ) → IsTrue (in_frame p.size x y) →
    value p.size (pictures p round) a x y ≡ value p.size (pictures p round) b x y

-- on each round the type holds each value of the expression
abbrev pub HoldsValues : (p : Program) → Ty → Tree → Type 0
HoldsValues p t e = (round : List Picture) → IsRound p round → (x y : ℤ) → IsIn t (value p.size (pictures p round) e x y)

-- on each round a conversion of the expression has the value of the expression, at every point
abbrev pub ChangesNothing : (p : Program) → Conversion → Tree → Ty → Type 0
ChangesNothing p how e t = (round : List Picture) → IsRound p round → (x y : ℤ) → value p.size (pictures p round) (convert how e t) x y ≡ value p.size (pictures p round) e x y

-- At each point of the frame the whole is the low part, and the high part times 2 ^ by: so it is divided into bits.
abbrev pub AreHalves : (p : Program) → (by : ℕ) → (low high whole : Tree) → Type 0
AreHalves p by low high whole = (round : List Picture) → IsRound p round → (x y : ℤ) → IsTrue (in_frame p.size x y) →
    value p.size (pictures p round) whole x y ≡ value p.size (pictures p round) low x y +ℤ (value p.size (pictures p round) high x y *ℤ pos (2 ^ by))

-- for images of the old program, by number, an image of the new one with the same picture, or none
abbrev pub ArePairs : (old new : Program) → (pairs : List (Option ℕ)) → Type 0
ArePairs old new pairs = (g h : ℕ) → slice_get pairs g ≡ Some (Some h) → HaveSamePicture old new g h

-- the programs have one size and the same inputs
pub record HaveSameInputs (old new : Program) : Type 0 where
  pub size : new.size ≡ old.size
  pub inputs : new.inputs ≡ old.inputs

-- what a comparison of expressions builds on: the intervals of the old program's images, and those of the new one's
pub record CanCompare (old new : Program) (old_ranges ranges : List Interval) (pairs : List (Option ℕ)) : Type 0 where
  pub inputs : HaveSameInputs old new
  pub old_ranged : AreRangesOf old old_ranges
  pub ranged : AreRangesOf new ranges
  pub paired : ArePairs old new pairs

-- The point (u, v) of the frame that is seen from the point (x, y) by a move: the moved point, brought to the frame's edge (Clamp), or only where it is in the frame (Zero).
abbrev pub IsSeen : Size → Edge → (dx dy : ℤ) → (x y u v : ℤ) → Type 0
IsSeen size Clamp dx dy x y u v = (u ≡ clamped size.width (x +ℤ dx)) × (v ≡ clamped size.height (y +ℤ dy))
IsSeen size Zero dx dy x y u v = (u ≡ x +ℤ dx) × (v ≡ y +ℤ dy) × IsTrue (in_frame size u v)

-- On each round the expression b of the new program has, at each point of the frame, the value that the expression a of the old one has at the point that is seen from there, where one is.
abbrev pub HaveSameMoved : (old new : Program) → Edge → (dx dy : ℤ) → (a b : Tree) → Type 0
HaveSameMoved old new edge dx dy a b = (round : List Picture) → IsRound old round → (x y : ℤ) → IsTrue (in_frame old.size x y) → (u v : ℤ) → IsSeen old.size edge dx dy x y u v →
    value old.size (pictures old round) a u v ≡ value new.size (pictures new round) b x y

-- On each round the expression b of the new program has, at the point that is seen by the move from a point of the frame, the value that the expression a of the old one has at that point.
abbrev pub HaveSameBehind : (old new : Program) → Edge → (dx dy : ℤ) → (a b : Tree) → Type 0
HaveSameBehind old new edge dx dy a b = (round : List Picture) → IsRound old round → (x y : ℤ) → IsTrue (in_frame old.size x y) → (u v : ℤ) → IsSeen old.size edge dx dy x y u v →
    value old.size (pictures old round) a x y ≡ value new.size (pictures new round) b u v

-- the expression is 0 at each point whose move is outside the frame, whatever the pictures are
abbrev pub VanishesOutside : (dx dy : ℤ) → Tree → Type 0
VanishesOutside dx dy e = (size : Size) (known : List Picture) (x y : ℤ) → in_frame size (x +ℤ dx) (y +ℤ dy) ≡ false → value size known e x y ≡ pos 0

-- Two moves to one side of a line are one move by their sum, also with clamped points.
abbrev pub IsJoined : (d e sum : ℤ) → Type 0
IsJoined d e sum = (sum ≡ d +ℤ e) × (((pos 0 ≤ℤ d) × (pos 0 ≤ℤ e)) ⊎ ((d ≤ℤ pos 0) × (e ≤ℤ pos 0)))

-- On a picture a read by (ex, ey) from the point that is seen by the move (dx, dy) is a read by (fx, fy) from the point itself.
abbrev pub IsPushed : (seen : Edge) → (dx dy : ℤ) → (edge : Edge) → (ex ey : ℤ) → (to : Edge) → (fx fy : ℤ) → Type 0
IsPushed seen dx dy edge ex ey to fx fy = (size : Size) → IsFrame size.width size.height → (picture : Picture) → (x y : ℤ) → IsTrue (in_frame size x y) → (u v : ℤ) → IsSeen size seen dx dy x y u v →
    edged size edge picture (u +ℤ ex) (v +ℤ ey) ≡ edged size to picture (x +ℤ fx) (y +ℤ fy)

-- What is read by (ex, ey) from the point that is seen by the move (dx, dy) is what a picture shows at the point that is seen by the move (fx, fy).
abbrev pub IsSeenBehind : (seen : Edge) → (dx dy : ℤ) → (edge : Edge) → (ex ey : ℤ) → (to : Edge) → (fx fy : ℤ) → Type 0
IsSeenBehind seen dx dy edge ex ey to fx fy = (size : Size) → IsFrame size.width size.height → (picture : Picture) → (x y : ℤ) → IsTrue (in_frame size x y) → (u v : ℤ) → IsSeen size seen dx dy x y u v →
    (r : ℤ) × (s : ℤ) × IsSeen size to fx fy x y r s × (edged size edge picture (u +ℤ ex) (v +ℤ ey) ≡ picture r s)

-- Where a part of the new program has the value of an inline body at the point that is seen by the move `to`, b has the value that a read of this body by (ex, ey) has at the point that is seen by the move `at`.
abbrev pub ShowsShifted : (new : Program) → (at : Step) → (edge : Edge) → (ex ey : ℤ) → (to : Step) → (part b : Tree) → Type 0
ShowsShifted new at edge ex ey to part b = (old : Program) → IsProgram old → HaveSameInputs old new → (body : Tree) →
    HaveSameMoved old new to.edge to.dx to.dy body part → HaveSameMoved old new at.edge at.dx at.dy (shifted edge ex ey body) b

-- the expression is 1 at the points whose move by (dx, dy) is in the frame, and 0 at the others
abbrev pub IsFrameTest : (p : Program) → (dx dy : ℤ) → Tree → Type 0
IsFrameTest p dx dy e = (t : Ty) × StandsFor p e (shifted Zero dx dy (constant (pos 1) t))

-- the expression has the value of the arm at these points, and is 0 at the others
pub record IsFramed (p : Program) (dx dy : ℤ) (e arm : Tree) : Type 0 where
  pub test : Tree
  pub other : Ty
  pub is : e ≡ select test arm (constant (pos 0) other)
  pub tests : IsFrameTest p dx dy test
