use Rattle.circuit.proofs.Dividing.{found, missed}
use Rattle.circuit.proofs.splits.least_from.Goals as goal

pub returns-in-Ok : goal.returns-in-Ok
returns-in-Ok c = found c.args.numbers.now c.args.bound c.binary_search.result c.in-Ok.field-0 c.binary_search.ensures.position c.requires c.in-Ok.is

pub returns-then-place-numbers : goal.returns-then-place-numbers
returns-then-place-numbers c = missed c.args.numbers.now c.args.bound c.binary_search.result c.in-Err.place c.binary_search.ensures.position c.requires c.in-Err.is c.if-place-numbers.true
