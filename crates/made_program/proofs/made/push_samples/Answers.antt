use Rattle.std.proofs.Common.{◌++◌, ◌∷◌, [], ap, ◌∙◌}
use Rattle.made_program.proofs.Samples.{after_more, sample_more}
use Rattle.made_program.proofs.made.push_samples.Goals as goal

pub loop-preserved : goal.loop-preserved
loop-preserved c =
    let before = c.loop.to.items in
    record {
      items = sample_more c.loop.counter c.args.state.now c.loop.state c.args.to.now.items before c.push.new.self.items c.loop.invariant.items c.loop.invariant.state
          (c.in_ok-push.ensures.items ∙ ap (λ sample. before ++ sample ∷ []) c.draw-sample.ensures.drawn);
      state = c.draw-sample.ensures.state ∙ after_more c.loop.counter c.args.state.now c.loop.state c.loop.invariant.state;
    }
