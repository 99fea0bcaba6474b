use Rattle.std.proofs.Common.{ℕ, length, subst, arith}
use Rattle.net_build.specs.Counters.{AddsRegister, IsIndexNet}
use Rattle.net_build.proofs.Cycling.{cycle_cycles, now_net, next_net, cycle_takes, cycle_adds}
use Rattle.net_build.specs.Depth.{control_levels}
use Rattle.net_build.proofs.Levels.{control_path, register_depth}
use Rattle.net_build.proofs.Failing.{at_err}
use Rattle.net_build.proofs.Parts.{includes_on}
use Rattle.net_build.proofs.counters.cycle.Goals as goal

pub returns : goal.returns
returns c = record {
  adds = subst (AddsRegister c.set.new.self c.args.b.now) c.bits_for-bits.ensures.value
      (cycle_adds c.args.b.now c.reg.new.self c.cycled.new.b c.set.new.self c.in_ok-register.register c.in_ok-values.values.now c.in_ok-values.values.next c.in_ok-values.values.taken c.bits_for-bits.result c.args.last c.in_ok-register.ensures.ok c.in_ok-register.ensures.number c.cycled.ensures.logic c.set.ensures.update c.in_ok-values.ensures.indices.now c.in_ok-values.ensures.indices.next c.in_ok-values.ensures.indices.taken c.set.ensures.edge
      (λ h. c.set.ensures.stops (c.cycled.ensures.logic.stops (c.reg.ensures.stops h))) (λ copies h. c.set.ensures.control copies (c.cycled.ensures.logic.control copies (c.reg.ensures.control copies h)) (cycle_takes c.args.b.now c.reg.new.self c.cycled.new.b c.set.new.self c.in_ok-register.register c.in_ok-values.values.now c.in_ok-values.values.next c.in_ok-values.values.taken c.bits_for-bits.result c.args.last c.in_ok-register.ensures.ok c.in_ok-register.ensures.number c.cycled.ensures.logic c.set.ensures.update c.in_ok-values.ensures.indices.now c.in_ok-values.ensures.indices.next c.in_ok-values.ensures.indices.taken c.set.ensures.edge copies h) (control_path c.set.new.self 5 (control_levels c.set.new.self.enable) c.in_ok-values.values.taken (omega arith) (register_depth c.set.new.self c.cycled.new.b c.reg.new.self c.in_ok-register.register c.in_ok-values.values.taken _ 5 c.in_ok-register.ensures.number c.cycled.ensures.logic.includes c.set.ensures.includes c.in_ok-values.ensures.indices.taken_depth)))
      (control_path c.set.new.self 5 (control_levels c.set.new.self.enable) c.in_ok-values.values.taken (omega arith) (register_depth c.set.new.self c.cycled.new.b c.reg.new.self c.in_ok-register.register c.in_ok-values.values.taken _ 5 c.in_ok-register.ensures.number c.cycled.ensures.logic.includes c.set.ensures.includes c.in_ok-values.ensures.indices.taken_depth)));
  now = subst (λ (bits : ℕ). IsIndexNet c.set.new.self (length c.args.b.now.regs) bits c.args.last c.in_ok-values.values.now) c.bits_for-bits.ensures.value (now_net c.args.b.now c.reg.new.self c.cycled.new.b c.set.new.self c.in_ok-register.register c.in_ok-values.values.now c.in_ok-values.values.next c.in_ok-values.values.taken c.bits_for-bits.result c.args.last c.in_ok-register.ensures.ok c.in_ok-register.ensures.number c.cycled.ensures.logic c.set.ensures.update c.in_ok-values.ensures.indices.now c.in_ok-values.ensures.indices.next c.in_ok-values.ensures.indices.taken c.set.ensures.edge);
  next = subst (λ (bits : ℕ). IsIndexNet c.set.new.self (length c.args.b.now.regs) bits c.args.last c.in_ok-values.values.next) c.bits_for-bits.ensures.value (next_net c.args.b.now c.reg.new.self c.cycled.new.b c.set.new.self c.in_ok-register.register c.in_ok-values.values.now c.in_ok-values.values.next c.in_ok-values.values.taken c.bits_for-bits.result c.args.last c.in_ok-register.ensures.ok c.in_ok-register.ensures.number c.cycled.ensures.logic c.set.ensures.update c.in_ok-values.ensures.indices.now c.in_ok-values.ensures.indices.next c.in_ok-values.ensures.indices.taken c.set.ensures.edge);
  cycles = cycle_cycles c.args.b.now c.reg.new.self c.cycled.new.b c.set.new.self c.in_ok-register.register c.in_ok-values.values.now c.in_ok-values.values.next c.in_ok-values.values.taken c.bits_for-bits.result c.args.last c.in_ok-register.ensures.ok c.in_ok-register.ensures.number c.cycled.ensures.logic c.set.ensures.update c.in_ok-values.ensures.indices.now c.in_ok-values.ensures.indices.next c.in_ok-values.ensures.indices.taken c.set.ensures.edge;
  now_depth = register_depth c.set.new.self c.cycled.new.b c.reg.new.self c.in_ok-register.register c.in_ok-values.values.now _ 1 c.in_ok-register.ensures.number c.cycled.ensures.logic.includes c.set.ensures.includes c.in_ok-values.ensures.indices.now_depth;
  next_depth = register_depth c.set.new.self c.cycled.new.b c.reg.new.self c.in_ok-register.register c.in_ok-values.values.next _ 3 c.in_ok-register.ensures.number c.cycled.ensures.logic.includes c.set.ensures.includes c.in_ok-values.ensures.indices.next_depth;
}

pub returns-in_err-register : goal.returns-in_err-register
returns-in_err-register c = at_err _ _ _ c.from_residual.result c.from_residual.ensures.1 c.reg.ensures.includes

pub returns-in_err-values : goal.returns-in_err-values
returns-in_err-values c = at_err _ _ _ c.from_residual-in_err-values.result c.from_residual-in_err-values.ensures.1 (includes_on _ _ _ c.reg.ensures.includes c.cycled.ensures.logic.includes)
