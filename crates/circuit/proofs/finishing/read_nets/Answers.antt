use Rattle.std.proofs.Common.{◌≡◌, suc, ◌+◌, ℕ, sym, subst, arith}
use Rattle.circuit.specs.Taps.{AreTapsOf}
use Rattle.circuit.proofs.Behaving.{tap_room, next_tap}
use Rattle.circuit.proofs.finishing.read_nets.Goals as goal

pub tap_of-tap-requires-clause-there : goal.tap_of-tap-requires-clause-there
tap_of-tap-requires-clause-there c = (tap_room c.args.plan.now c.args.taps.now c.live_reads-read-items.result.now c.loop-read.read-index _ c.law.ensures c.requires.taps c.live_reads-read-items.ensures c.loop-read-test.true).0

pub tap_of-tap-requires-clause-one_each : goal.tap_of-tap-requires-clause-one_each
tap_of-tap-requires-clause-one_each c = (tap_room c.args.plan.now c.args.taps.now c.live_reads-read-items.result.now c.loop-read.read-index _ c.law.ensures c.requires.taps c.live_reads-read-items.ensures c.loop-read-test.true).1

pub loop-read-preserved : goal.loop-read-preserved
loop-read-preserved c =
    let next : suc c.loop-read.read-index ≡ c.loop-read.read-index + 1 = omega arith in
    subst (λ (n : ℕ). AreTapsOf c.args.plan.now c.args.taps.now n c.push.new.self.items) next
    (subst (AreTapsOf c.args.plan.now c.args.taps.now (suc c.loop-read.read-index)) (sym c.in_ok-push.ensures.items)
    (next_tap c.args.plan.now c.args.taps.now c.live_reads-read-items.result.now c.loop-read.read-index _ c.loop-read.reads.items c.tap_of-tap.result c.loop-read.invariant c.live_reads-read-items.ensures c.loop-read-test.true c.tap_of-tap.ensures))
