use Rattle.std.proofs.Common.{◌∙◌, length, ap}
use Rattle.pointwise_eval.proofs.fit.frames_fit.Goals as goal

pub returns-clause-yes : goal.returns-clause-yes
returns-clause-yes c = λ holds. record {
  one_each = c.if-frames-inputs.false ∙ ap length c.inputs-inputs.ensures;
  each = rw (c.size.ensures, c.inputs-inputs.ensures) at (c.each_fits.ensures.0 holds);
}

pub returns-clause-no : goal.returns-clause-no
returns-clause-no c = λ are. c.each_fits.ensures.1 (rw (c.size.ensures, c.inputs-inputs.ensures) are.each)
