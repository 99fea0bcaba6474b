use Rattle.circuit.specs.Reads.{IsNetOf}
use Rattle.wiring.specs.declared.netlist.Net.{Net}
use Rattle.std.proofs.Common.{rules, Option, subst, sym}
use Rattle.edge_select.proofs.Failing.{at_err}
use Rattle.net_build.proofs.Logic.{logic_none}
use Rattle.circuit.proofs.choices.net_of.Goals as goal

pub returns-in-Some : goal.returns-in-Some
returns-in-Some c = record {
  logic = logic_none c.args.b.now;
  test = search rules;
}

pub returns-in_err-net-in-None : goal.returns-in_err-net-in-None
returns-in_err-net-in-None c = at_err _ _ c.from_residual.result c.from_residual.ensures.1 c.gate.ensures.logic

pub returns-in_ok-net-in-None : goal.returns-in_ok-net-in-None
returns-in_ok-net-in-None c = record {
  logic = c.gate.ensures.logic;
  test = subst (λ (o : Option Net). IsNetOf c.gate.new.b c.args.b.now c.args.bits o c.in_ok-net-in-None.net) (sym c.in-None.is) (record { there = tt; zero = search rules; levels = search rules });
}
