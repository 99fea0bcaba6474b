use Rattle.stencil_sets.proofs.Unique.{one_list, not_too_many}
use Rattle.stencil_sets.proofs.Unique as unique
use Rattle.stencil_sets.proofs.Same.{one_images}
use Rattle.stencil_sets.proofs.laws.one_answer_law.Goals as goal

pub returns : goal.returns
returns c = record { images = one_images; reads = one_list; count = unique.one_count; apart = not_too_many }
