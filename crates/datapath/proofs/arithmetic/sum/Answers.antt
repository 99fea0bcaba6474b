use Rattle.std.proofs.Common.{◌+ℤ◌, ◌^◌, ◌%◌, ◌+◌}
use Rattle.dk_base.proofs.Codes.{code_add}
use Rattle.dk_base.proofs.Ranges.{sum_in}
use Rattle.datapath.proofs.Carried.{binary_carries}
use Rattle.datapath.proofs.Composed.{width_is}
use Rattle.datapath.proofs.arithmetic.sum.Goals as goal

pub combined-requires : goal.combined-requires
combined-requires c =
    let width = width_is _ _ _ c.sum-ty.ensures c.width-wider.ensures c.requires.ty in
    record { width = width; wide = width; x = c.requires.x; y = c.requires.y; divisor = λ a. tt }

pub returns : goal.returns
returns c = binary_carries (λ w p q. (p + q) % 2 ^ w) (λ v u. v +ℤ u) code_add c.args.x c.args.y (λ v u. sum_in c.args.x.ty c.args.y.ty v u c.requires.x.ty) c.sum-ty.ensures c.width-wider.ensures c.requires.ty c.requires.x c.requires.y c.in_ok-bits.ensures
