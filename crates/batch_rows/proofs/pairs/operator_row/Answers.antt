use Rattle.batch_rows.specs.Rows.{number_in}
use Rattle.batch_rows.proofs.Masks.{sum_row, difference_row, product_row}
use Rattle.batch_rows.proofs.pairs.operator_row.Goals as goal

pub returns-in-Add : goal.returns-in-Add
returns-in-Add g c = sum_row g.L.Lane.value c.args.to.now c.pair_row.new.to g.L.Lane.bits (g.L.Lane.value c.mask_of-mask.result) c.args.width c.requires.narrow c.mask_of-mask.ensures c.args.op (number_in g.L.Lane.value c.args.a.now) (number_in g.L.Lane.value c.args.b.now) c.in-Add.is c.pair_row.ensures

pub returns-in-Subtract : goal.returns-in-Subtract
returns-in-Subtract g c = difference_row g.L.Lane.value c.args.to.now c.pair_row-in-Subtract.new.to g.L.Lane.bits (g.L.Lane.value c.mask_of-mask.result) c.args.width c.requires.narrow c.mask_of-mask.ensures c.args.op (number_in g.L.Lane.value c.args.a.now) (number_in g.L.Lane.value c.args.b.now) c.in-Subtract.is c.pair_row-in-Subtract.ensures

pub returns-in-Multiply : goal.returns-in-Multiply
returns-in-Multiply g c = product_row g.L.Lane.value c.args.to.now c.pair_row-in-Multiply.new.to g.L.Lane.bits (g.L.Lane.value c.mask_of-mask.result) c.args.width c.requires.narrow c.mask_of-mask.ensures c.args.op (number_in g.L.Lane.value c.args.a.now) (number_in g.L.Lane.value c.args.b.now) c.in-Multiply.is c.pair_row-in-Multiply.ensures
