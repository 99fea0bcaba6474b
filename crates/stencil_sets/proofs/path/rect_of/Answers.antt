use Rattle.std.proofs.Common.{rules}
use Rattle.stencil_sets.proofs.Walked.{rect_leads}
use Rattle.stencil_sets.proofs.path.rect_of.Goals as goal

pub returns : goal.returns
returns c = record {
  leads = rect_leads c.args.path c.args.image _ _ c.offsets-across.ensures.offsets c.offsets-down.ensures.offsets;
  near = search rules;
}
