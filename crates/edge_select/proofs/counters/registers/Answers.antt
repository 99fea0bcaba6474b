use Rattle.net_build.proofs.Parts.{includes_on}
use Rattle.edge_select.proofs.counters.registers.Goals as goal

pub returns-clause-on : goal.returns-clause-on
returns-clause-on c = record {
  includes = includes_on _ _ _ c.reg.ensures.includes c.reg-2.ensures.includes;
  stops = λ h. c.reg-2.ensures.stops (c.reg.ensures.stops h);
  control = λ copies is. c.reg-2.ensures.control copies (c.reg.ensures.control copies is);
}

pub returns-in_err-row-clause-on : goal.returns-in_err-row-clause-on
returns-in_err-row-clause-on c = record {
  includes = includes_on _ _ _ c.reg.ensures.includes c.reg-2.ensures.includes;
  stops = λ h. c.reg-2.ensures.stops (c.reg.ensures.stops h);
  control = λ copies is. c.reg-2.ensures.control copies (c.reg.ensures.control copies is);
}
