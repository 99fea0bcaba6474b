use Rattle.dk_parser.proofs.Tokens as K
use Rattle.dk_parser.proofs.single.name.Goals as goal

pub returns-in_default-clause-parsed : goal.returns-in_default-clause-parsed
returns-in_default-clause-parsed c = K.no_name _ c.in_default.ensures

pub returns-in_default-kind : goal.returns-in_default-kind
returns-in_default-kind c = record { parsed = K.other_name _ _ _ _ c.in-Some.ensures c.in_default-kind.not-Name; fewer = tt }
