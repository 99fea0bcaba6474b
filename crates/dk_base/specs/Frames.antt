-- Frames: points by two whole coordinates, pictures, and pixels in raster order.
use Rattle.std.specs.Prelude.{ℕ, ◌+◌, ◌-◌, ◌*◌, ◌/◌, ◌%◌, ◌≤◌, min, ℤ, pos, negsuc, ◌+ℤ◌, ◌*ℤ◌, Bool, false, ◌&&◌, nat_lt, List, map, slice_index, slice_index_or, unsigned_abs, if◌then◌else◌}
use Rattle.std.specs.List.{flat_map, range_with_len}
use Rattle.dk_base.specs.declared.TheConstants.{MAX_SIDE}

pub record Size : Type 0 where
  pub width : ℕ
  pub height : ℕ

-- both sides have 1 to 4,096 pixels
pub record IsFrame (width height : ℕ) : Type 0 where
  pub some_columns : 1 ≤ width
  pub most_columns : width ≤ MAX_SIDE
  pub some_rows : 1 ≤ height
  pub most_rows : height ≤ MAX_SIDE

-- the number of pixels of a frame
abbrev pub area : Size → ℕ
area size = size.width * size.height

abbrev pub is_below : ℤ → ℕ → Bool
is_below (pos n) limit = nat_lt n limit
is_below (negsuc n) limit = false

-- the point (x, y) is in the frame
abbrev pub in_frame : Size → (x y : ℤ) → Bool
in_frame size x y = is_below x size.width && is_below y size.height

-- a coordinate brought into 0 to limit - 1
abbrev pub clamped : (limit : ℕ) → ℤ → ℤ
clamped limit (pos n) = pos (min n (limit - 1))
clamped limit (negsuc n) = pos 0

-- the number of column x and row y in raster order: rows from top to bottom, each from left to right
abbrev pub raster_number : Size → (x y : ℕ) → ℕ
raster_number size x y = y * size.width + x

-- how much further in raster order a point is that lies dx columns to the right and dy rows down
abbrev pub raster_offset : Size → (dx dy : ℤ) → ℤ
raster_offset size dx dy = (dy *ℤ pos size.width) +ℤ dx

-- column, row and frame of pixel k of frames that follow one another
abbrev pub column : Size → ℕ → ℕ
column size k = k % area size % size.width

abbrev pub row : Size → ℕ → ℕ
row size k = k % area size / size.width

abbrev pub frame_of : Size → ℕ → ℕ
frame_of size k = k / area size

-- a picture, at column x and row y
abbrev pub Picture : Type 0
Picture = ℤ → ℤ → ℤ

-- the picture in the frame, and 0 outside it
abbrev pub framed : Size → Picture → Picture
framed size picture x y = if in_frame size x y then picture x y else pos 0

-- the picture of image g, of these
abbrev pub picture_at : List Picture → ℕ → Picture
picture_at known g = slice_index_or known g (λ _ _. pos 0)

-- pixel k of pictures that follow one another
abbrev pub pixel_of : Size → (ℕ → Picture) → ℕ → ℤ
pixel_of size pictures k = pictures (frame_of size k) (pos (column size k)) (pos (row size k))

-- the picture that samples in raster order make; it is 0 outside the frame
abbrev pub picture_of : Size → List ℕ → Picture
picture_of size samples x y =
    if in_frame size x y then pos (slice_index samples (raster_number size (unsigned_abs x) (unsigned_abs y))) else pos 0

-- the samples of a picture in raster order
unfoldable pub raster : Size → Picture → List ℕ
raster size picture =
    flat_map (λ y. map (λ x. unsigned_abs (picture (pos x) (pos y))) (range_with_len 0 size.width)) (range_with_len 0 size.height)
