-- The samples of a slice.
use Rattle.std.specs.Prelude.{ℕ, List}
use Rattle.dk_frames.specs.declared.samples.SampleSlice.{SampleSlice}
use Rattle.dk_frames.specs.declared.samples.SampleSlice.TheVariants.{U8, U16}

-- its samples, whatever they are held in
abbrev pub samples_of : SampleSlice → List ℕ
samples_of (U8 samples) = samples.now
samples_of (U16 samples) = samples.now
