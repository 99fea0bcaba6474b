use Rattle.std.proofs.Common.{◌≡◌, ◌∙◌, ◌++◌, ap, length, true, arith, rules}
use Rattle.stimulus.specs.Stimulus.{dins_at}
use Rattle.stimulus.specs.Given.{rounds_of}
use Rattle.test_bench.proofs.Filled.{clock_more, whole_more, dins_count}
use Rattle.test_bench.proofs.batch.push_pixel_clock.Goals as goal

pub returns-clause-clocks : goal.returns-clause-clocks
returns-clause-clocks c =
    let n = length c.args.feed.now.held.items in
    let rounds = rounds_of c.args.rounds.now in
    let is = c.push_pixels.ensures.is ∙ ap (λ k. c.args.batch.now.dins.items ++ dins_at k rounds c.args.number) (let e : c.len.result ≡ n = omega (arith, c.len.ensures) in e) in
    clock_more n c.args.batch.now.enables.items c.push_reserved.new.self.items true c.args.batch.now.dins.items c.push_pixels.new.dins.items (dins_at n rounds c.args.number) c.push_reserved.ensures.items is c.requires.places.whole (dins_count n rounds c.args.number)

pub returns-clause-given : goal.returns-clause-given
returns-clause-given c =
    let n = length c.args.feed.now.held.items in
    let rounds = rounds_of c.args.rounds.now in
    let is = c.push_pixels.ensures.is ∙ ap (λ k. c.args.batch.now.dins.items ++ dins_at k rounds c.args.number) (let e : c.len.result ≡ n = omega (arith, c.len.ensures) in e) in
    record {
      count = search rules;
      whole = whole_more n c.args.batch.now.enables.items c.push_reserved.new.self.items true c.args.batch.now.dins.items c.push_pixels.new.dins.items (dins_at n rounds c.args.number) c.push_reserved.ensures.items is c.requires.places.whole (dins_count n rounds c.args.number);
      room = search rules;
    }
