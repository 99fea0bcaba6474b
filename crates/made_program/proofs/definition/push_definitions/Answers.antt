use Rattle.std.proofs.Common.{◌+◌, ◌++◌, ap, refl, ◌∙◌}
use Rattle.made_program.specs.Programs.{definition}
use Rattle.made_program.proofs.Definitions.{definition_more, seven_more}
use Rattle.made_program.proofs.definition.push_definitions.Goals as goal

pub loop-index-preserved : goal.loop-index-preserved
loop-index-preserved c =
    let i = c.loop-index.index in
    let before = c.loop-index.to.items in
    record {
      items = definition_more c.args.last c.args.state.now i (i + 1) c.loop-index.state c.args.to.now.items before c.push_definition.new.to.items refl c.loop-index.invariant.items c.loop-index.invariant.state
          (c.in_ok-push_definition.ensures ∙ ap (λ d. before ++ definition (i + 1) c.args.last d) c.draw_image-draws.ensures.draws);
      state = seven_more i c.args.state.now c.loop-index.state c.draw_image-draws.new.state c.loop-index.invariant.state c.draw_image-draws.ensures.state;
    }
