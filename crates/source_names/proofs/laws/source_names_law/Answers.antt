use Rattle.source_names.proofs.Naming.{text_names}
use Rattle.source_names.proofs.laws.source_names_law.Goals as goal

pub returns : goal.returns
returns c = text_names
