use Rattle.std.proofs.Common.{◌≡◌, ◌∙◌, ◌+◌, ◌++◌, ap, sym, arith}
use Rattle.cycle_sim.specs.Ports.{din_widths}
use Rattle.stimulus.specs.Stimulus.{clocks_left, clocks_at}
use Rattle.stimulus.specs.Given.{rounds_of}
use Rattle.stimulus.proofs.Ranges.{flat_more}
use Rattle.test_bench.proofs.batch.fill_batch.Goals as goal

pub loop-number-preserved : goal.loop-number-preserved
loop-number-preserved c =
    let inv = c.loop-number.invariant in
    let k = c.loop-number.number in
    record {
      clocks = λ m size fed.
          let f = clocks_at c.args.feed.now.hold (din_widths m) (rounds_of c.args.rounds.now) in
          c.push_clocks.ensures.clocks m size fed ∙ ap (λ z. z ++ f (c.args.start + k)) (inv.clocks m size fed) ∙ sym (flat_more f c.args.start k);
      count = omega (arith, inv.count, c.push_clocks.ensures.given.count);
      whole = c.push_clocks.ensures.given.whole;
      room = (let r = c.push_clocks.ensures.given.room in record { enables = r.enables ∙ inv.room.enables; dins = r.dins ∙ inv.room.dins; outs = r.outs ∙ inv.room.outs });
      left =
          let on : c.args.start + k + 1 ≡ c.args.start + (k + 1) = omega arith in
          c.next_left-left.ensures (c.args.start + k) inv.left ∙ ap (clocks_left c.args.feed.now.hold) on;
    }
