use Rattle.circuit.proofs.Searching.{found_there}
use Rattle.circuit.proofs.finer.place_among.Goals as goal

pub returns-in-Err : goal.returns-in-Err
returns-in-Err c = λ has. found_there c.args.split.now c.args.age c.binary_search.result c.in-Err.field-0 c.binary_search.ensures.position c.requires has c.in-Err.is
