use Rattle.std.proofs.Common.{rules, ◌∙◌}
use Rattle.pointwise_eval.proofs.Outputs.{outputs_there, frames_are}
use Rattle.pointwise_eval.proofs.evaluation.evaluate.Goals as goal

pub frames_of_outputs-requires : goal.frames_of_outputs-requires
frames_of_outputs-requires c =
    let needs = rw c.deref.ensures.value at c.in_ok-planes.ensures in
    record {
      outputs = rw (c.size.ensures, c.outputs.ensures, c.deref_mut.ensures.value) (outputs_there c.args.ir.now _ c.in_ok-until.until.items c.in_ok-planes.planes.items c.law.ensures c.in_ok-until.ensures needs);
      distinct = search rules;
    }

pub returns : goal.returns
returns c =
    let shows = rw c.deref.ensures.value at c.in_ok-planes.ensures in
    c.in_ok-outs.ensures ∙ frames_are c.args.ir.now _ c.in_ok-until.until.items c.in_ok-planes.planes.items _ _ _ c.law.ensures c.in_ok-until.ensures shows c.size.ensures c.outputs.ensures c.deref_mut.ensures.value
