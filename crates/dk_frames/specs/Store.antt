-- The samples that are held.
use Rattle.std.specs.Prelude.{ℕ, List}
use Rattle.dk_frames.specs.declared.samples.Store.{Store}
use Rattle.dk_frames.specs.declared.samples.Store.TheVariants.{U8, U16}

-- the samples in memory, whatever they are held in
abbrev pub samples_in : Store → List ℕ
samples_in (U8 samples) = samples.items
samples_in (U16 samples) = samples.items
