use Rattle.report_text.proofs.Laws.{layout_is_one}
use Rattle.report_text.proofs.reading_laws.read_again_law.Goals as goal

pub returns : goal.returns
returns c = λ r s m a. layout_is_one r s m a
