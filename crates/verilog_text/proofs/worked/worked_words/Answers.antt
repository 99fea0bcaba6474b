use Rattle.std.proofs.Common.{refl}
use Rattle.verilog_text.proofs.worked.worked_words.Goals as goal

pub returns : goal.returns
returns c = record { name = refl; clock = refl; keyword = refl; upper = refl; refused = refl; longest = refl; shorter = refl; no_symbol = refl; open_comment = refl; not_closed = refl; closed = refl }
