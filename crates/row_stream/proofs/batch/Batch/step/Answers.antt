use Rattle.std.proofs.Common.{rules, ◌∙◌}
use Rattle.row_stream.proofs.Batches.{enables_first}
use Rattle.row_stream.proofs.batch.Batch.step.Goals as goal

pub step_front-requires-clause-clocks : goal.step_front-requires-clause-clocks
step_front-requires-clause-clocks c = record {
  can = search rules;
  enables =
      enables_first _ _ _ c.args.count _ c.split_at.ensures.front (c.deref.ensures.value ∙ c.requires.room.1.enables) c.requires.room.2 (search rules);
}

pub returns-clause-batch : goal.returns-clause-batch
returns-clause-batch c = λ width h. record { enables = h.enables; dins = h.dins; outs = c.step_front.ensures.outs ∙ h.outs }
