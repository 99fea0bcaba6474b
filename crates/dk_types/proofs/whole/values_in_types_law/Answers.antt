use Rattle.dk_types.proofs.Values.{meaning_in, value_in}
use Rattle.dk_types.proofs.whole.values_in_types_law.Goals as goal

pub returns : goal.returns
returns c = record { images = meaning_in; parts = value_in }
