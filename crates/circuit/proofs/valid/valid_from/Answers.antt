use Rattle.std.proofs.Common.{ℕ, List, ap, ◌∙◌, sym, rules}
use Rattle.std.specs.Prelude.{sum}
use Rattle.circuit.proofs.Placing.{tests_logic}
use Rattle.circuit.proofs.Validity.{started_free, started_enabled}
use Rattle.circuit.proofs.valid.valid_from.Goals as goal

pub returns-then-has_en : goal.returns-then-has_en
returns-then-has_en c = record {
  adds = tests_logic c.gate.new.b c.started.new.b c.args.b.now c.args.tests.now c.args.tests.now c.in_ok-begun.ensures.start.adds c.gate.ensures.logic;
  bits = ap (λ (rs : List ℕ). sum rs) c.gate.ensures.logic.wires.regs ∙ c.in_ok-begun.ensures.start.bits;
  net = c.in_ok-net.ensures.gate.net;
  width = search rules;
  valid = started_enabled c.gate.new.b c.started.new.b c.args.latency c.en-en.result c.in_ok-begun.begun c.in_ok-net.net (c.gate.ensures.logic.includes.enable ∙ sym c.has_en.ensures ∙ c.if-has_en.true) c.en-en.ensures.enable c.gate.ensures.logic.includes
      c.in_ok-begun.ensures.start.starts c.in_ok-begun.ensures.start.depth c.in_ok-net.ensures.gate;
}

pub returns : goal.returns
returns c = record {
  adds = c.in_ok-begun.ensures.start.adds;
  bits = c.in_ok-begun.ensures.start.bits;
  net = c.in_ok-begun.ensures.start.net;
  width = c.in_ok-begun.ensures.start.width;
  valid = started_free c.started.new.b c.args.latency c.in_ok-begun.begun (sym c.has_en.ensures ∙ c.if-has_en.false) c.in_ok-begun.ensures.start.starts c.in_ok-begun.ensures.start.depth;
}
