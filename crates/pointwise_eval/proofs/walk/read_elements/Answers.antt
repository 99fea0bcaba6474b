use Rattle.std.proofs.Common.{◌≡◌, ◌<◌, length, map, pos, arith, rules}
use Rattle.std.proofs.lemmas.List.{length-map}
use Rattle.dk_base.specs.FrameSizes.{size_of}
use Rattle.pointwise_eval.specs.Planes.{shown}
use Rattle.pointwise_eval.proofs.Sides.{entry_in, part_row, row_within}
use Rattle.pointwise_eval.proofs.walk.read_elements.Goals as goal

pub elements_part-row-requires : goal.elements_part-row-requires
elements_part-row-requires g c = row_within c.args.y c.args.size.width c.args.size.height _ c.requires.read.down c.requires.read.whole

pub shift_row-requires-clause-fits : goal.shift_row-requires-clause-fits
shift_row-requires-clause-fits g c k lt =
    let size = size_of c.args.size in
    let values = map g.T.Element.worth c.args.elements.now in
    let part = map g.T.Element.worth c.elements_part-row.result.now in
    let long : length part ≡ length c.elements_part-row.result.now = length-map c.elements_part-row.result.now g.T.Element.worth in
    let whole : length part ≡ c.args.size.width = c.elements_part-row.ensures.whole in
    let within : k < c.args.size.width = omega (arith, lt, long, whole) in
    entry_in g.L.Element.ty size (shown size values) (pos c.args.y) part (part_row size values part c.args.y c.requires.read.down whole c.elements_part-row.ensures.values) c.requires.read.fits k within

pub returns : goal.returns
returns g c =
    let size = size_of c.args.size in
    let values = map g.T.Element.worth c.args.elements.now in
    let part = map g.T.Element.worth c.elements_part-row.result.now in
    record {
      row = part;
      is = part_row size values part c.args.y c.requires.read.down c.elements_part-row.ensures.whole c.elements_part-row.ensures.values;
      placed = search rules;
    }
