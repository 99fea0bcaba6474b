use Rattle.std.proofs.Common.{arith}
use Rattle.std.specs.Prelude.{nat_lt}
use Rattle.datapath.specs.Nets.{bit}
use Rattle.datapath.proofs.Growth.{then_grows, width_later, has_width_of}
use Rattle.datapath.proofs.Carried.{operand_later}
use Rattle.datapath.proofs.Compared.{within_left, within_right, less_carries}
use Rattle.datapath.proofs.Composed.{two_words, as_type}
use Rattle.datapath.proofs.Failing.{at_err}
use Rattle.datapath.proofs.comparison.is_less.Goals as goal

pub offset-requires : goal.offset-requires
offset-requires c = record { x = c.requires.x; ty = as_type _ _ c.common-ty.ensures c.requires.ty; within = within_left c.args.x.ty c.args.y.ty _ c.common-ty.ensures }

pub offset-requires-2 : goal.offset-requires-2
offset-requires-2 c = record { x = operand_later _ _ _ c.in_ok-left.ensures.grows c.requires.y; ty = as_type _ _ c.common-ty.ensures c.requires.ty; within = within_right c.args.x.ty c.args.y.ty _ c.common-ty.ensures }

pub operated-requires : goal.operated-requires
operated-requires c = record {
  width = (omega arith, omega arith);
  x = width_later _ _ _ _ c.in_ok-right.ensures.grows (has_width_of c.width.ensures c.in_ok-left.ensures.word.width);
  y = has_width_of c.width.ensures c.in_ok-right.ensures.word.width;
  divisor = tt;
}

pub returns-in_err-right : goal.returns-in_err-right
returns-in_err-right c = at_err _ _ c.from_residual-in_err-right.result c.from_residual-in_err-right.ensures.1 (then_grows c.in_ok-left.ensures.grows c.in_err-right.ensures)

pub returns-in_err-atom : goal.returns-in_err-atom
returns-in_err-atom c = at_err _ _ c.from_residual-in_err-atom.result c.from_residual-in_err-atom.ensures.1 (then_grows (then_grows c.in_ok-left.ensures.grows c.in_ok-right.ensures.grows) c.in_err-atom.ensures)

pub returns : goal.returns
returns c = less_carries c.args.x c.args.y c.common-ty.result c.common-ty.ensures c.requires.x c.requires.y (two_words (λ p q. bit (nat_lt p q)) 1 c.in_ok-left.ensures c.in_ok-right.ensures c.in_ok-atom.ensures)
