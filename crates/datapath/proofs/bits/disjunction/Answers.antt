use Rattle.std.proofs.Common.{bit_or, ◌≡◌, max, rules}
use Rattle.dk_base.specs.Types.{width_of}
use Rattle.datapath.proofs.Bitwise.{bitwise_common, greater_width}
use Rattle.datapath.proofs.bits.disjunction.Goals as goal

pub combined-requires : goal.combined-requires
combined-requires c =
    let wider : c.max-width.result ≡ max (width_of c.args.x.ty) (width_of c.args.y.ty) = search rules in
    let width = greater_width _ c.args.x c.args.y _ wider c.requires.x c.requires.y in
    record { width = width; wide = width; x = c.requires.x; y = c.requires.y; divisor = λ a. tt }

pub returns : goal.returns
returns c =
    let wider : c.max-width.result ≡ max (width_of c.args.x.ty) (width_of c.args.y.ty) = search rules in
    bitwise_common bit_or c.args.x c.args.y wider c.requires c.in_ok-bits.ensures
