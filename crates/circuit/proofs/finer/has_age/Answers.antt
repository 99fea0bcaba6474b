use Rattle.circuit.proofs.Splitting.{has_yes, has_no}
use Rattle.circuit.proofs.finer.has_age.Goals as goal

pub returns-in-None : goal.returns-in-None
returns-in-None c = has_no c.args.split.now c.args.age c.if-age-eq0.false c.in-None.ensures

pub returns-in-Some : goal.returns-in-Some
returns-in-Some c = has_yes c.args.split.now c.args.age c.in-Some.field-0 c.if-age-eq0.false c.in-Some.ensures
