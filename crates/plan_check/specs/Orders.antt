-- Used by private functions only.
-- The order of live reads by place: that of live reads, with places for the numbers of the images.
use Rattle.std.specs.Prelude.{List, map}
use Rattle.dk_base.specs.declared.stencils.LiveRead.{LiveRead}
use Rattle.dk_base.specs.Stencils.{IsBefore, AreInOrder}
use Rattle.raster_delay.specs.declared.placed.PlacedRead.{PlacedRead}

abbrev pub by_place : PlacedRead → LiveRead
by_place r = record { f = r.f; g = r.g; dx = r.dx; dy = r.dy }

abbrev pub IsEarlier : PlacedRead → PlacedRead → Type 0
IsEarlier a b = IsBefore (by_place a) (by_place b)

abbrev pub AreSorted : List PlacedRead → Type 0
AreSorted reads = AreInOrder (map by_place reads)
