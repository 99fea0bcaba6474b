use Rattle.std.proofs.Common.{◌∙◌}
use Rattle.net_build.proofs.Parts.{Includes-refl, includes_on}
use Rattle.net_build.proofs.Grown.{net_more, width_more}
use Rattle.net_build.proofs.Logic.{logic_on, computes_more}
use Rattle.net_build.proofs.Registers.{index_is}
use Rattle.net_build.proofs.Cycling.{step_is, loads_is}
use Rattle.net_build.proofs.CounterDepth.{index_over}
use Rattle.net_build.proofs.Levels.{step_over, loads_over}
use Rattle.net_build.proofs.counters.cycled.Goals as goal

pub returns-clause-logic : goal.returns-clause-logic
returns-clause-logic c = logic_on _ _ _ c.gate.ensures.logic (logic_on _ _ _ c.count.ensures.logic c.loaded.ensures.logic)

pub returns-in_err-more-clause-logic : goal.returns-in_err-more-clause-logic
returns-in_err-more-clause-logic c = logic_on _ _ _ c.gate.ensures.logic c.count.ensures.logic

pub returns-in_err-taken-clause-logic : goal.returns-in_err-taken-clause-logic
returns-in_err-taken-clause-logic c = logic_on _ _ _ c.gate.ensures.logic (logic_on _ _ _ c.count.ensures.logic c.loaded.ensures.logic)

pub loaded-requires : goal.loaded-requires
loaded-requires c = record {
  now = net_more c.count.new.b c.args.b.now (includes_on _ _ _ c.gate.ensures.logic.includes c.count.ensures.logic.includes) c.args.register c.requires.register;
  next = c.in_ok-more.ensures.next.net;
  now_width = width_more c.count.new.b c.args.b.now (includes_on _ _ _ c.gate.ensures.logic.includes c.count.ensures.logic.includes) c.args.register c.requires.register.declared ∙ c.requires.width;
  next_width = c.in_ok-more.ensures.next.width;
  wide = c.requires.range.wide;
}

pub returns-clause-indices : goal.returns-clause-indices
returns-clause-indices c = record {
  now = computes_more c.loaded.new.b c.gate.new.b c.args.b.now _ c.args.bits _ c.in_ok-now.now (includes_on _ _ _ c.count.ensures.logic.includes c.loaded.ensures.logic.includes)
      (index_is c.args.b.now c.gate.new.b c.args.register c.rst-reset.result c.in_ok-now.now c.number.result c.args.bits c.args.last c.gate.ensures.logic.includes c.rst-reset.ensures.reset c.rst-reset.ensures.net c.rst-reset.ensures.width c.number.ensures c.requires.range.wide c.requires.range.fits c.requires.register c.requires.width c.in_ok-now.ensures.gate);
  next = step_is c.args.b.now c.gate.new.b c.count.new.b c.loaded.new.b c.args.register c.in_ok-now.now c.in_ok-more.more.next c.args.bits c.args.last c.loaded.ensures.logic.includes
      (index_is c.args.b.now c.gate.new.b c.args.register c.rst-reset.result c.in_ok-now.now c.number.result c.args.bits c.args.last c.gate.ensures.logic.includes c.rst-reset.ensures.reset c.rst-reset.ensures.net c.rst-reset.ensures.width c.number.ensures c.requires.range.wide c.requires.range.fits c.requires.register c.requires.width c.in_ok-now.ensures.gate)
      c.in_ok-more.ensures.next;
  taken = loads_is c.args.b.now c.count.new.b c.loaded.new.b c.args.register c.in_ok-more.more.next c.in_ok-taken.taken c.args.bits _ (includes_on _ _ _ c.gate.ensures.logic.includes c.count.ensures.logic.includes)
      (step_is c.args.b.now c.gate.new.b c.count.new.b c.count.new.b c.args.register c.in_ok-now.now c.in_ok-more.more.next c.args.bits c.args.last (Includes-refl _)
      (index_is c.args.b.now c.gate.new.b c.args.register c.rst-reset.result c.in_ok-now.now c.number.result c.args.bits c.args.last c.gate.ensures.logic.includes c.rst-reset.ensures.reset c.rst-reset.ensures.net c.rst-reset.ensures.width c.number.ensures c.requires.range.wide c.requires.range.fits c.requires.register c.requires.width c.in_ok-now.ensures.gate)
      c.in_ok-more.ensures.next)
      c.in_ok-taken.ensures.net;
  now_depth = index_over c.loaded.new.b c.gate.new.b c.args.b.now c.args.register c.rst-reset.result c.in_ok-now.now c.number.result (record { width = c.args.bits; value = c.args.last }) c.gate.ensures.logic.includes (includes_on _ _ _ c.count.ensures.logic.includes c.loaded.ensures.logic.includes) c.rst-reset.ensures.reset c.number.ensures c.in_ok-now.ensures.gate;
  next_depth = step_over c.loaded.new.b c.args.b.now c.gate.new.b c.count.new.b c.args.register c.in_ok-now.now c.in_ok-more.more.next c.loaded.ensures.logic.includes (index_over c.gate.new.b c.gate.new.b c.args.b.now c.args.register c.rst-reset.result c.in_ok-now.now c.number.result (record { width = c.args.bits; value = c.args.last }) c.gate.ensures.logic.includes (Includes-refl _) c.rst-reset.ensures.reset c.number.ensures c.in_ok-now.ensures.gate) c.in_ok-more.ensures.next_depth;
  taken_depth = loads_over c.args.b.now c.count.new.b c.loaded.new.b c.args.register c.in_ok-more.more.next c.in_ok-taken.taken (includes_on _ _ _ c.gate.ensures.logic.includes c.count.ensures.logic.includes)
      (step_over c.count.new.b c.args.b.now c.gate.new.b c.count.new.b c.args.register c.in_ok-now.now c.in_ok-more.more.next (Includes-refl _) (index_over c.gate.new.b c.gate.new.b c.args.b.now c.args.register c.rst-reset.result c.in_ok-now.now c.number.result (record { width = c.args.bits; value = c.args.last }) c.gate.ensures.logic.includes (Includes-refl _) c.rst-reset.ensures.reset c.number.ensures c.in_ok-now.ensures.gate) c.in_ok-more.ensures.next_depth)
      c.in_ok-taken.ensures.depth;
}
