use Rattle.std.proofs.Common.{false, inr, refl}
use Rattle.net_build.specs.Draft.{with_wire}
use Rattle.wiring.specs.declared.right.Right.TheVariants.{Word}
use Rattle.net_build.proofs.Reading.{reads_none, reads_nets, reads_word, reads_joined, reads_weaker, outputs_read}
use Rattle.net_build.proofs.laws.reads_grow_law.Goals as goal

pub returns-clause-none : goal.returns-clause-none
returns-clause-none c new old arrays e = reads_none new old arrays e

pub returns-clause-nets : goal.returns-clause-nets
returns-clause-nets c old r e = reads_nets old (with_wire old r) r (λ x. false) (inr refl) e

pub returns-clause-word : goal.returns-clause-word
returns-clause-word c old m i arrays is = reads_word old (with_wire old (Word m i)) m i arrays (inr refl) is

pub returns-clause-joined : goal.returns-clause-joined
returns-clause-joined c z y x arrays f later earlier = reads_joined z y x arrays f later earlier

pub returns-clause-wider : goal.returns-clause-wider
returns-clause-wider c new old arrays wider up is = reads_weaker new old arrays wider up is

pub returns-clause-outputs : goal.returns-clause-outputs
returns-clause-outputs c old sources = outputs_read old sources
