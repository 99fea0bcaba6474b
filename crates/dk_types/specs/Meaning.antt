-- What a typed program means: the pictures of its images on a round of frames.
use Rattle.std.specs.Prelude.{◌≡◌, ℕ, ℤ, pos, ◌+ℤ◌, List, [], ◌∷◌, ◌++◌, fold, map, slice_get, Some, if◌then◌else◌}
use Rattle.dk_base.specs.declared.ty.Ty.{Ty}
use Rattle.dk_base.specs.Types.{IsType, IsIn}
use Rattle.dk_base.specs.Frames.{Size, Picture, clamped, picture_of, framed, picture_at}
use Rattle.dk_base.specs.Operators.{unary_value, binary_value, scaling_value, conversion_value, select_value}
use Rattle.dk_types.specs.declared.typed.TypedRead.{TypedRead}
use Rattle.dk_types.specs.Typed.{Typed, constant, fetch, single, double, scaled, converted, chosen, Definition, Typing}

-- what a read at (x, y) gives: the image at the moved point, or 0 where that is outside; a clamped read brings the point to the frame's edge
abbrev pub read_value : Size → List Picture → TypedRead → Picture
read_value size known r x y =
    if r.clamped
    then picture_at known r.image (clamped size.width (x +ℤ r.dx)) (clamped size.height (y +ℤ r.dy))
    else framed size (picture_at known r.image) (x +ℤ r.dx) (y +ℤ r.dy)

-- the value of an expression at (x, y), over the pictures of the images that it reads
abbrev pub value : Size → List Picture → Typed → Picture
value size known (constant t v) x y = pos v
value size known (fetch t r) x y = read_value size known r x y
value size known (single t o a) x y = unary_value o (value size known a x y)
value size known (double t o a b) x y = binary_value o (value size known a x y) (value size known b x y)
value size known (scaled t o a k) x y = scaling_value o (value size known a x y) k
value size known (converted t o a) x y = conversion_value o t (value size known a x y)
value size known (chosen t c a b) x y = select_value (value size known c x y) (value size known a x y) (value size known b x y)

-- the pictures of images, and those of the definitions after them. A definition's picture is that of its body; `inline` plays no part.
abbrev pub pictures : Size → List Picture → List Definition → List Picture
pictures size known ds = fold (λ before d. before ++ framed size (value size before d.body) ∷ []) known ds

-- the pictures of all images of a program, on one picture for each input
abbrev pub meaning : Typing → List Picture → List Picture
meaning p inputs = pictures p.size inputs p.definitions

-- the same on a round: the samples of one frame for each input, in raster order
abbrev pub meaning_on : Typing → (round : List (List ℕ)) → List Picture
meaning_on p round = meaning p (map (picture_of p.size) round)

-- the values of these pictures are in these types
abbrev pub AreIn : List Ty → List Picture → Type 0
AreIn types known = (g : ℕ) (t : Ty) → slice_get types g ≡ Some t → (x y : ℤ) → IsIn t (picture_at known g x y)

-- types of 1 to 64 bits
abbrev pub AreTypes : List Ty → Type 0
AreTypes types = (g : ℕ) (t : Ty) → slice_get types g ≡ Some t → IsType t
