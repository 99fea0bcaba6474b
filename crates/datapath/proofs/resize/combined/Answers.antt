use Rattle.wiring.specs.Rights.{operator_value}
use Rattle.datapath.proofs.Growth.{then_grows, width_later}
use Rattle.datapath.proofs.Carried.{operand_later}
use Rattle.datapath.proofs.Composed.{two_words}
use Rattle.datapath.proofs.Failing.{at_err}
use Rattle.datapath.proofs.resize.combined.Goals as goal

pub resized-requires : goal.resized-requires
resized-requires c = record { operand = c.requires.x; width = c.requires.width }

pub resized-requires-2 : goal.resized-requires-2
resized-requires-2 c = record { operand = operand_later _ _ _ c.in_ok-left.ensures.grows c.requires.y; width = c.requires.width }

pub operated-requires : goal.operated-requires
operated-requires c = record { width = c.requires.wide; x = width_later _ _ _ _ c.in_ok-right.ensures.grows c.in_ok-left.ensures.word.width; y = c.in_ok-right.ensures.word.width; divisor = c.requires.divisor _ }

pub returns-in_err-right : goal.returns-in_err-right
returns-in_err-right c = at_err _ _ c.from_residual-in_err-right.result c.from_residual-in_err-right.ensures.1 (then_grows c.in_ok-left.ensures.grows c.in_err-right.ensures)

pub returns-in_err-bits : goal.returns-in_err-bits
returns-in_err-bits c = at_err _ _ c.from_residual-in_err-bits.result c.from_residual-in_err-bits.ensures.1 (then_grows (then_grows c.in_ok-left.ensures.grows c.in_ok-right.ensures.grows) c.in_err-bits.ensures)

pub returns : goal.returns
returns c = two_words (operator_value c.args.operator c.args.width) 0 c.in_ok-left.ensures c.in_ok-right.ensures c.in_ok-bits.ensures
