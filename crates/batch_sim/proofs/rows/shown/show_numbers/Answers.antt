use Rattle.std.proofs.Common.{◌≤◌, ◌<◌, ◌∙◌, ◌+◌, ◌*◌, length, map, arith, rules}
use Rattle.batch_sim.specs.Shown.{shown_at}
use Rattle.batch_sim.proofs.Clockwise.{place_inside}
use Rattle.batch_sim.proofs.Outputs.{here_more, others_stay}
use Rattle.batch_sim.proofs.rows.shown.show_numbers.Goals as goal

pub loop-t-preserved : goal.loop-t-preserved
loop-t-preserved g c =
    let outs = c.loop-t.outs in
    let t = c.loop-t.t in
    let count = c.args.count in
    let output = c.args.output in
    let valid = map g.V.Lane.value c.args.valid.now in
    let dout = map g.D.Lane.value c.args.dout.now in
    let room : t * count + count ≤ length outs = place_inside t c.args.clocks count (length outs) c.loop-t-test.true (c.loop-t.invariant.long ∙ c.requires.outs) in
    let inside : t * count + output < length outs = omega (arith, room, c.requires.output) in
    record {
      long = search rules;
      here = here_more outs count output t (λ j. shown_at valid dout j) c.out_at.result c.requires.output inside c.out_at.ensures c.loop-t.invariant.here;
      others = others_stay outs c.args.outs.now count output t c.out_at.result c.requires.output c.loop-t.invariant.others;
    }
