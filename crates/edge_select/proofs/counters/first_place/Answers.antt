use Rattle.std.proofs.Common.{◌<◌, ℕ, sym, subst}
use Rattle.dk_base.specs.Frames.{area}
use Rattle.dk_base.specs.FrameSizes.{size_of}
use Rattle.edge_select.specs.Counters.{lead_in}
use Rattle.edge_select.proofs.Raster.{place, place_is}
use Rattle.edge_select.proofs.counters.first_place.Goals as goal

pub returns : goal.returns
returns c =
    let size = size_of c.args.size in
    let some = c.args.size.sides.some_columns in
    let tall = c.args.size.sides.some_rows in
    let across = (place_is size c.args.delay c.area-pixels.result c.from.result c.area-pixels.ensures c.from.ensures some tall).0 in
    let down = (place_is size c.args.delay c.area-pixels.result c.from-2.result c.area-pixels.ensures c.from-2.ensures some tall).1 in
    let there = place size (lead_in (area size) c.args.delay) some tall in
    record {
      column = across;
      row = down;
      in_row = subst (λ (x : ℕ). x < size.width) (sym across) there.column_below;
      in_column = subst (λ (y : ℕ). y < size.height) (sym down) there.row_below;
    }
