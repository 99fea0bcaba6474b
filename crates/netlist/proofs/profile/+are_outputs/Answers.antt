use Rattle.std.proofs.Common.{refl}
use Rattle.netlist.proofs.Profiles.{outputs_yes, outputs_split}
use Rattle.netlist.proofs.profile.+are_outputs.Goals as goal

pub returns-clause-yes : goal.returns-clause-yes
returns-clause-yes t c = λ e. outputs_yes c.args.ports.now c.in-Some.rest.now c.in-Some-split_first.more.now c.in-Some.valid.now c.in-Some-split_first.dout.now c.args.number c.in-Some.ensures.cases.0 c.in-Some-split_first.ensures.cases.0 (c.if-not-fits.ensures.yes refl) (c.if-not-fits-2.ensures.yes refl) (c.are_outputs.ensures.yes e)

pub returns-clause-no : goal.returns-clause-no
returns-clause-no t c = λ are. c.are_outputs.ensures.no (outputs_split c.args.ports.now c.in-Some.rest.now c.in-Some-split_first.more.now c.in-Some.valid.now c.in-Some-split_first.dout.now c.args.number c.in-Some.ensures.cases.0 c.in-Some-split_first.ensures.cases.0 are).rest_are
