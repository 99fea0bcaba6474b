use Rattle.batch_rows.specs.Rows.{number_in}
use Rattle.batch_rows.proofs.Masks.{sum_row, difference_row, product_row}
use Rattle.batch_rows.proofs.pairs.operator_number_row.Goals as goal

pub returns-in-Add : goal.returns-in-Add
returns-in-Add g c = sum_row g.L.Lane.value c.args.to.now c.with_number.new.to g.L.Lane.bits (g.L.Lane.value c.mask_of-mask.result) c.args.width c.requires.narrow c.mask_of-mask.ensures c.args.op (number_in g.L.Lane.value c.args.a.now) (λ _. g.L.Lane.value c.args.second) c.in-Add.is c.with_number.ensures

pub returns-in-Subtract : goal.returns-in-Subtract
returns-in-Subtract g c = difference_row g.L.Lane.value c.args.to.now c.with_number-in-Subtract.new.to g.L.Lane.bits (g.L.Lane.value c.mask_of-mask.result) c.args.width c.requires.narrow c.mask_of-mask.ensures c.args.op (number_in g.L.Lane.value c.args.a.now) (λ _. g.L.Lane.value c.args.second) c.in-Subtract.is c.with_number-in-Subtract.ensures

pub returns-in-Multiply : goal.returns-in-Multiply
returns-in-Multiply g c = product_row g.L.Lane.value c.args.to.now c.with_number-in-Multiply.new.to g.L.Lane.bits (g.L.Lane.value c.mask_of-mask.result) c.args.width c.requires.narrow c.mask_of-mask.ensures c.args.op (number_in g.L.Lane.value c.args.a.now) (λ _. g.L.Lane.value c.args.second) c.in-Multiply.is c.with_number-in-Multiply.ensures
