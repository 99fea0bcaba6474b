-- The image of a number.
use Rattle.std.specs.Prelude.{ℕ, ◌*◌, List, ◌++◌, map}
use Rattle.std.specs.List.{range_with_len}
use Rattle.pgm_codec.specs.Images.{Image, header_of}
use Rattle.made_program.specs.Draws.{drawn, after}
use Rattle.made_program.specs.Programs.{width_of, height_of, count_of, seed_of}

-- this many samples, drawn from this state on
abbrev pub samples_from : (count state : ℕ) → List ℕ
samples_from count state = map (λ place. drawn 256 (after place state)) (range_with_len 0 count)

-- the samples of the image, drawn after the numbers of the program
abbrev pub samples_of : ℕ → List ℕ
samples_of n = samples_from (width_of n * height_of n) (after (7 * count_of n) (seed_of n))

-- the image of number n, of one byte a sample
abbrev pub picture_of : ℕ → Image
picture_of n = record { width = width_of n; height = height_of n; maxval = 255; samples = samples_of n }

-- the image file of number n
abbrev pub image_of : ℕ → List ℕ
image_of n = header_of (width_of n) (height_of n) 255 ++ samples_of n
