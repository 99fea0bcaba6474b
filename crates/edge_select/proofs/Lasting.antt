-- What lasts as a netlist grows.
use Rattle.std.proofs.Common.{◌≡◌, ℕ, ◌+◌, [], length}
use Rattle.std.specs.Prelude.{IsTrue}
use Rattle.wiring.specs.Netlist.{Netlist}
use Rattle.wiring.specs.History.{was_reset, counted}
use Rattle.wiring.specs.declared.netlist.Holder.TheVariants.{OfNet}
use Rattle.net_build.specs.Includes.{Includes}
use Rattle.net_build.proofs.Runs.{InEachRun-more}
use Rattle.net_build.proofs.Stops.{still_more}
use Rattle.edge_select.specs.declared.pixel.Pixel.{Pixel}
use Rattle.edge_select.specs.Pixels.{Follows, IsPixel, IsOnFrame}

pub follows_more : (b a : Netlist) (delay : ℕ) (p : Pixel) → Includes b a → Follows a delay p → Follows b delay p
follows_more b a delay p f is = record {
  pixel = InEachRun-more (λ m before c s. IsTrue (was_reset before) → (k : ℕ) → k + delay ≡ length (counted m before) → IsPixel p k s) b a f is.pixel;
  on_frame = InEachRun-more (λ m before c s. IsTrue (was_reset before) → IsOnFrame p s) b a f is.on_frame;
  column_still = still_more b a [] (OfNet p.column) f is.column_still;
  row_still = still_more b a [] (OfNet p.row) f is.row_still;
}
