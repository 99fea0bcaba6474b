use Rattle.std.proofs.Common.{sym}
use Rattle.dk_parser.proofs.Keeping as Q
use Rattle.dk_parser.proofs.items.is_declared.Goals as goal

pub returns-in_default-clause-parsed : goal.returns-in_default-clause-parsed
returns-in_default-clause-parsed c =
    Q.no_declares _ c.in_default.ensures

pub returns-in-None-clause-parsed : goal.returns-in-None-clause-parsed
returns-in-None-clause-parsed c =
    Q.other_declares _ _ _ _ c.in-Some.ensures (sym c.in-None.ensures)
