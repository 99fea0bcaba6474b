use Rattle.batch_code.proofs.laws.array_kept_law.Goals as goal
use Rattle.batch_code.proofs.Arrays.{array_is_kept}

-- src/laws.rt
pub returns : goal.returns
returns c rows r p count words to read index value reads indexes values inside puts is same = array_is_kept rows p count words index value indexes values r to read reads inside puts is same
