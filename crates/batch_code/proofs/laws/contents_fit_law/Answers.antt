use Rattle.batch_code.proofs.laws.contents_fit_law.Goals as goal
use Rattle.batch_code.proofs.Left.{left_fits}

-- src/laws.rt
pub returns : goal.returns
returns c m code rules is from to rows long count room fitting are left = left_fits m code rules is from to rows long count room fitting are left
