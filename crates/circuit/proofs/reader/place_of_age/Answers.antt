use Rattle.circuit.proofs.Searching.{found_there}
use Rattle.circuit.proofs.reader.place_of_age.Goals as goal

pub returns-in-Err : goal.returns-in-Err
returns-in-Err c = absurd (found_there c.args.ages.now c.args.age c.binary_search.result c.in-Err.field-0 c.binary_search.ensures.position c.requires.ascending c.requires.there c.in-Err.is)
