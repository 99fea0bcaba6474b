use Rattle.std.proofs.Common.{sym}
use Rattle.dk_parser.proofs.Keeping as Q
use Rattle.dk_parser.proofs.items.lead_after.Goals as goal

pub returns-in_default-clause-parsed : goal.returns-in_default-clause-parsed
returns-in_default-clause-parsed c =
    Q.no_next _ _ c.requires c.in_default.ensures

pub returns-in-None-clause-parsed : goal.returns-in-None-clause-parsed
returns-in-None-clause-parsed c =
    Q.other_next _ _ _ _ _ c.lead_at.result c.requires c.in-Some.ensures c.lead_at.ensures (sym c.in-None.ensures)
