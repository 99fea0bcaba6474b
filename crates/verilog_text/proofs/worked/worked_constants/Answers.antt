use Rattle.std.proofs.Common.{refl}
use Rattle.verilog_text.proofs.worked.worked_constants.Goals as goal

pub returns : goal.returns
returns c = record { decimal = refl; hexadecimal = refl; binary = refl; last_underscore = refl; size = refl; size_of_0 = refl; before_dollar = refl; plain = refl; first_underscore = refl; too_great = refl; no_size = refl; wide = refl; octal = refl; signed = refl }
