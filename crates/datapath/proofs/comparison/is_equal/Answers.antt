use Rattle.std.proofs.Common.{arith}
use Rattle.datapath.proofs.Compared.{equal_carries}
use Rattle.datapath.proofs.Composed.{width_is}
use Rattle.datapath.proofs.comparison.is_equal.Goals as goal

pub combined-requires : goal.combined-requires
combined-requires c = record {
  width = width_is _ _ _ c.common-ty.ensures c.width-width.ensures c.requires.ty;
  wide = (omega arith, omega arith);
  x = c.requires.x;
  y = c.requires.y;
  divisor = λ a. tt;
}

pub returns : goal.returns
returns c = equal_carries c.args.x c.args.y c.common-ty.result _ c.common-ty.ensures c.width-width.ensures c.requires.ty c.requires.x c.requires.y c.in_ok-bits.ensures
