use Rattle.std.proofs.Common.{ap, ◌∙◌}
use Rattle.std.specs.Vec.{vec_items}
use Rattle.net_names.specs.Words.{is_name}
use Rattle.net_build.proofs.MadeNames.{made_is_name, of_wires}
use Rattle.net_build.proofs.naming.wire_name.Goals as goal

pub new-requires : goal.new-requires
new-requires c = ap is_name (ap vec_items c.into_bytes.ensures.value ∙ c.in_ok-format.ensures.ok) ∙ made_is_name 110 c.args.k of_wires c.ranges.k.fits
