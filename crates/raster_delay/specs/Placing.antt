-- Images and reads by their place among the kept images.
use Rattle.std.specs.Prelude.{ℕ, List, map}
use Rattle.dk_base.specs.declared.stencils.Image.{Image}
use Rattle.dk_base.specs.declared.stencils.LiveRead.{LiveRead}
use Rattle.dk_base.specs.Stencils.{place}
use Rattle.raster_delay.specs.declared.placed.PlacedRead.{PlacedRead}

abbrev pub widths_of : List Image → List ℕ
widths_of images = map (λ i. i.width) images

-- a read, with the places of its images
abbrev pub placed : List Image → LiveRead → PlacedRead
placed images r = record { f = place images r.f; g = place images r.g; dx = r.dx; dy = r.dy }

abbrev pub reads_of : List Image → List LiveRead → List PlacedRead
reads_of images reads = map (placed images) reads
