use Rattle.std.proofs.Common.{sym}
use Rattle.dk_parser.proofs.Tokens as K
use Rattle.dk_parser.proofs.single.literal.Goals as goal

pub returns-in_default-clause-parsed : goal.returns-in_default-clause-parsed
returns-in_default-clause-parsed c = K.no_literal _ c.in_default.ensures

pub returns-in-None-clause-parsed : goal.returns-in-None-clause-parsed
returns-in-None-clause-parsed c = K.other_literal _ _ _ _ c.in-Some.ensures (sym c.in-None.ensures)
