-- The pointwise meaning of programs: each image is a picture, a function of two whole coordinates that is 0 outside the frame.
use Rattle.std.specs.Prelude.{◌≡◌, ℕ, false, IsTrue, ℤ, pos, ◌+ℤ◌, List, [], ◌∷◌, ◌++◌, length, fold, Some, slice_get}
use Rattle.dk_base.specs.declared.ty.Ty.{Ty}
use Rattle.dk_base.specs.Types.{IsIn}
use Rattle.dk_base.specs.Operators.{unary_value, binary_value, scaling_value, conversion_value, select_value}
use Rattle.dk_base.specs.Frames.{Size, in_frame, clamped, Picture, framed, picture_at}
use Rattle.pointwise_ir.specs.declared.expr.Edge.{Edge}
use Rattle.pointwise_ir.specs.declared.expr.Edge.TheVariants.{Zero, Clamp}
use Rattle.pointwise_ir.specs.declared.program.Input.{Input}
use Rattle.pointwise_ir.specs.Trees.{Tree, constant, read, shifted, unary, binary, select, convert, scale}
use Rattle.pointwise_ir.specs.Programs.{Program, bodies_of}

-- the picture in the frame, and outside it 0 or its pixel at the nearest point of the frame, each coordinate by itself
abbrev pub edged : Size → Edge → Picture → Picture
edged size Zero picture x y = framed size picture x y
edged size Clamp picture x y = picture (clamped size.width x) (clamped size.height y)

-- the value of an expression at a point, where the images have these pictures
abbrev pub value : Size → List Picture → Tree → Picture
value size known (constant v t) x y = v
value size known (read edge g dx dy) x y = edged size edge (picture_at known g) (x +ℤ dx) (y +ℤ dy)
value size known (shifted edge dx dy a) x y = edged size edge (value size known a) (x +ℤ dx) (y +ℤ dy)
value size known (unary op a) x y = unary_value op (value size known a x y)
value size known (binary op a b) x y = binary_value op (value size known a x y) (value size known b x y)
value size known (select c a b) x y = select_value (value size known c x y) (value size known a x y) (value size known b x y)
value size known (convert how a t) x y = conversion_value how t (value size known a x y)
value size known (scale op a k) x y = scaling_value op (value size known a x y) k

-- the known pictures, and those of images with these bodies, each over the pictures before it
abbrev pub pictures_from : Size → List Picture → List Tree → List Picture
pictures_from size known bodies = fold (λ known body. known ++ framed size (value size known body) ∷ []) known bodies

-- the pictures of all images on a round: a picture for each input
abbrev pub pictures : Program → (round : List Picture) → List Picture
pictures p round = pictures_from p.size round (bodies_of p)

-- a picture of the type's values
pub record IsPicture (size : Size) (t : Ty) (picture : Picture) : Type 0 where
  pub values : (x y : ℤ) → IsIn t (picture x y)
  pub outside : (x y : ℤ) → in_frame size x y ≡ false → picture x y ≡ pos 0

-- one picture for each input in order
pub record IsRound (p : Program) (round : List Picture) : Type 0 where
  pub one_each : length round ≡ length p.inputs
  pub pictures : (k : ℕ) (input : Input) → slice_get p.inputs k ≡ Some input → IsPicture p.size input.ty (picture_at round k)

-- pictures that have the same pixels
abbrev pub AgreeInside : Size → (one other : List Picture) → Type 0
AgreeInside size one other = (g : ℕ) (x y : ℤ) → IsTrue (in_frame size x y) → picture_at one g x y ≡ picture_at other g x y
