use Rattle.std.proofs.Common.{refl}
use Rattle.netlist.proofs.Profiles.{dins_yes, dins_no}
use Rattle.netlist.proofs.profile.+are_from_dins.Goals as goal

pub returns-then-is_din-clause-yes : goal.returns-then-is_din-clause-yes
returns-then-is_din-clause-yes t c = λ e. dins_yes c.args.ports.now c.in-Some.rest.now c.in-Some.din.now c.args.number c.in-Some.ensures.cases.0 (c.if-is_din.ensures.yes refl).1 (c.are_from_dins.ensures.yes e)

pub returns-then-is_din-clause-no : goal.returns-then-is_din-clause-no
returns-then-is_din-clause-no t c = λ are. c.are_from_dins.ensures.no (dins_no c.args.ports.now c.in-Some.rest.now c.in-Some.din.now c.args.number c.in-Some.ensures.cases.0 (c.if-is_din.ensures.yes refl).1 are)
