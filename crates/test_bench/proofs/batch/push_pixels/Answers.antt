use Rattle.std.proofs.Common.{◌≡◌, ◌+◌, ◌++◌, [], ◌∷◌, length, ap, ◌∙◌, arith, append_assoc, length-append}
use Rattle.stimulus.specs.Stimulus.{dins_at}
use Rattle.stimulus.specs.Given.{rounds_of}
use Rattle.test_bench.proofs.Filled.{dins_count, dins_more}
use Rattle.test_bench.proofs.batch.push_pixels.Goals as goal

pub push_reserved-requires : goal.push_reserved-requires
push_reserved-requires c =
    let rounds = rounds_of c.args.rounds.now in
    let inv = c.loop-input.invariant in
    let count : length c.loop-input.dins.items ≡ length c.args.dins.now.items + c.loop-input.input =
    ap length inv.is ∙ length-append c.args.dins.now.items (dins_at c.loop-input.input rounds c.args.number) ∙ ap (λ n. length c.args.dins.now.items + n) (dins_count c.loop-input.input rounds c.args.number) in
    omega (arith, count, inv.room, c.requires.room, c.loop-input-test.true)

pub loop-input-preserved : goal.loop-input-preserved
loop-input-preserved c =
    let rounds = rounds_of c.args.rounds.now in
    let inv = c.loop-input.invariant in
    let k = c.loop-input.input in
    record {
      is = c.push_reserved.ensures.items ∙ ap (λ z. z ++ c.pixel.result ∷ []) inv.is ∙ append_assoc c.args.dins.now.items (dins_at k rounds c.args.number) (c.pixel.result ∷ [])
          ∙ ap (λ x. c.args.dins.now.items ++ (dins_at k rounds c.args.number ++ x ∷ [])) c.pixel.ensures ∙ ap (λ z. c.args.dins.now.items ++ z) (Rattle.std.proofs.Common.sym (dins_more rounds c.args.number k));
      room = c.push_reserved.ensures.capacity ∙ inv.room;
    }
