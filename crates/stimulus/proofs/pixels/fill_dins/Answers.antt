use Rattle.std.proofs.Common.{◌≡◌, ◌∙◌, ◌+◌, ap, arith}
use Rattle.std.specs.Prelude.{slice_index}
use Rattle.stimulus.specs.Stimulus.{stream, dins_at}
use Rattle.stimulus.specs.Given.{rounds_of}
use Rattle.stimulus.proofs.Stimuli.{made_of}
use Rattle.stimulus.proofs.pixels.fill_dins.Goals as goal

pub returns-clause-is : goal.returns-clause-is
returns-clause-is c =
    let rounds = rounds_of c.args.rounds.now in
    let end = c.len-input-end.ensures in
    made_of (λ input. slice_index (stream rounds input) c.args.number) c.loop-input.dins.items 0
    (λ k l. c.loop-input.invariant.done k (omega (arith, l, end, c.loop-input.invariant.count, c.loop-input-test.false)) ∙ ap (λ z. slice_index (stream rounds z) c.args.number) (let e : k ≡ 0 + k = omega arith in e))
    ∙ ap (λ n. dins_at n rounds c.args.number) c.loop-input.invariant.count
