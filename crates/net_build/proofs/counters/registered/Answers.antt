use Rattle.std.proofs.Common.{◌∙◌, ap}
use Rattle.std.proofs.Math.Pow.{pow_pos}
use Rattle.wiring.specs.declared.right.Atom.{Atom}
use Rattle.wiring.specs.declared.netlist.Net.{Net}
use Rattle.wiring.specs.Rights.{atom_width}
use Rattle.wiring.specs.Netlist.{net_width}
use Rattle.net_build.proofs.Parts.{includes_on}
use Rattle.net_build.proofs.Grown.{net_more, width_more}
use Rattle.net_build.proofs.Logic.{logic_on, computes_more}
use Rattle.net_build.proofs.Registers.{index_is, next_is}
use Rattle.net_build.proofs.CounterDepth.{index_over}
use Rattle.net_build.proofs.Parts.{Includes-refl}
use Rattle.net_build.proofs.Levels.{counted_over}
use Rattle.net_build.proofs.counters.registered.Goals as goal

pub returns-in_err-more-clause-logic : goal.returns-in_err-more-clause-logic
returns-in_err-more-clause-logic c = logic_on _ _ _ c.gate.ensures.logic c.count.ensures.logic

pub register_value-requires-clause-now : goal.register_value-requires-clause-now
register_value-requires-clause-now c = net_more c.count.new.b c.gate.new.b c.count.ensures.logic.includes c.in_ok-index.index c.in_ok-index.ensures.gate.net

pub register_value-requires-clause-now_width : goal.register_value-requires-clause-now_width
register_value-requires-clause-now_width c =
    width_more c.count.new.b c.gate.new.b c.count.ensures.logic.includes c.in_ok-index.index c.in_ok-index.ensures.gate.net.declared
    ∙ c.in_ok-index.ensures.gate.width
    ∙ ap (λ (a : Atom Net). atom_width (net_width c.args.b.now) a) c.number.ensures

pub returns-in_err-next-clause-logic : goal.returns-in_err-next-clause-logic
returns-in_err-next-clause-logic c = logic_on _ _ _ c.gate.ensures.logic (logic_on _ _ _ c.count.ensures.logic c.register_value.ensures.logic)

pub returns-clause-logic : goal.returns-clause-logic
returns-clause-logic c = logic_on _ _ _ c.gate.ensures.logic (logic_on _ _ _ c.count.ensures.logic c.register_value.ensures.logic)

pub returns-clause-count : goal.returns-clause-count
returns-clause-count c = record {
  index = computes_more c.register_value.new.b c.gate.new.b c.args.b.now _ c.args.bits _ c.in_ok-index.index (includes_on _ _ _ c.count.ensures.logic.includes c.register_value.ensures.logic.includes)
      (index_is c.args.b.now c.gate.new.b c.args.register c.rst-reset.result c.in_ok-index.index c.number.result c.args.bits 0 c.gate.ensures.logic.includes c.rst-reset.ensures.reset c.rst-reset.ensures.net c.rst-reset.ensures.width c.number.ensures c.requires.range.wide (pow_pos c.args.bits) c.requires.register c.requires.width c.in_ok-index.ensures.gate);
  depth = index_over c.register_value.new.b c.gate.new.b c.args.b.now c.args.register c.rst-reset.result c.in_ok-index.index c.number.result (record { width = c.args.bits; value = 0 }) c.gate.ensures.logic.includes (includes_on _ _ _ c.count.ensures.logic.includes c.register_value.ensures.logic.includes) c.rst-reset.ensures.reset c.number.ensures c.in_ok-index.ensures.gate;
  next = next_is c.args.b.now c.gate.new.b c.count.new.b c.register_value.new.b c.args.register c.in_ok-index.index c.in_ok-more.more.next c.in_ok-next.next c.args.bits c.args.last c.args.wraps c.gate.ensures.logic.includes c.count.ensures.logic.includes c.register_value.ensures.logic.includes
      (index_is c.args.b.now c.gate.new.b c.args.register c.rst-reset.result c.in_ok-index.index c.number.result c.args.bits 0 c.gate.ensures.logic.includes c.rst-reset.ensures.reset c.rst-reset.ensures.net c.rst-reset.ensures.width c.number.ensures c.requires.range.wide (pow_pos c.args.bits) c.requires.register c.requires.width c.in_ok-index.ensures.gate)
      c.in_ok-more.ensures.next c.in_ok-next.ensures.net;
  next_depth = counted_over c.args.b.now c.gate.new.b c.count.new.b c.register_value.new.b c.args.register c.in_ok-index.index c.in_ok-more.more.next c.in_ok-next.next c.gate.ensures.logic.includes c.count.ensures.logic.includes c.register_value.ensures.logic.includes
      (index_over c.gate.new.b c.gate.new.b c.args.b.now c.args.register c.rst-reset.result c.in_ok-index.index c.number.result (record { width = c.args.bits; value = 0 }) c.gate.ensures.logic.includes (Includes-refl _) c.rst-reset.ensures.reset c.number.ensures c.in_ok-index.ensures.gate)
      c.in_ok-more.ensures.next_depth c.in_ok-next.ensures.depth;
}
