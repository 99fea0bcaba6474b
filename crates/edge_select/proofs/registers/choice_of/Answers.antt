use Rattle.net_build.proofs.Logic.{logic_none}
use Rattle.edge_select.proofs.Beside.{load_is}
use Rattle.edge_select.proofs.Failing.{at_err}
use Rattle.std.proofs.Common.{rules}
use Rattle.edge_select.proofs.Levels.{always_over, load_over}
use Rattle.edge_select.proofs.registers.choice_of.Goals as goal

pub returns-in-None : goal.returns-in-None
returns-in-None c = record {
  logic = logic_none c.args.b.now;
  test = search rules;
  depth = always_over c.args.b.now c.args.load c.args.test c.args.register c.in-None.is;
}

pub returns-in_ok-net-in-Some : goal.returns-in_ok-net-in-Some
returns-in_ok-net-in-Some c = record {
  logic = c.gate.ensures.logic;
  test = load_is c.args.b.now c.gate.new.b c.args.load c.in-Some.load c.args.test c.args.register c.in_ok-net-in-Some.net c.in-Some.is c.gate.ensures.logic.includes c.requires.load c.requires.test.net c.requires.test.width c.requires.register.net c.requires.register.width c.in_ok-net-in-Some.ensures.gate;
  depth = load_over c.gate.new.b c.args.b.now c.args.load c.in-Some.load c.args.test c.args.register c.in_ok-net-in-Some.net c.in-Some.is c.gate.ensures.logic.includes c.in_ok-net-in-Some.ensures.gate;
}

pub returns-in_err-net-in-Some : goal.returns-in_err-net-in-Some
returns-in_err-net-in-Some c = at_err _ _ c.from_residual.result c.from_residual.ensures.1 (c.gate.ensures.logic)
