use Rattle.expected_tokens.proofs.Table.{sampled, in_table}
use Rattle.expected_tokens.proofs.class.samples_law.Goals as goal

pub returns : goal.returns
returns c = record { samples = sampled; all = in_table }
