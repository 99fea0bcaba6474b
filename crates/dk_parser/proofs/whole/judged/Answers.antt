use Rattle.dk_parser.proofs.Ending as W
use Rattle.dk_parser.proofs.LexedEnd as E
use Rattle.dk_parser.proofs.Keeping as Q
use Rattle.dk_parser.proofs.whole.judged.Goals as goal

pub unreachable-requires : goal.unreachable-requires
unreachable-requires c =
    W.not_behind_at c.args.tokens.now _ _ c.in-Err-Faulty.field-0-is (E.ended_as _ c.requires) c.in-None-front.ensures c.in-Err-Faulty.ensures.parsed

pub returns-in-Some-deep : goal.returns-in-Some-deep
returns-in-Some-deep c =
    let g = c.in-Ok.ensures.parsed in
    (c.in_default.ensures, record { program = _; derives = W.derives _ _ _ (E.ended_as _ c.requires) g.phrase; first = Q.deep_is _ _ _ g.holds c.in-Some-deep.is })

pub returns-in-None : goal.returns-in-None
returns-in-None c =
    let g = c.in-Ok.ensures.parsed in
    Q.whole_is c.args.tokens.now _ _ _ g.items g.holds c.in-None.is c.in_default.ensures (W.derives _ _ _ (E.ended_as _ c.requires) g.phrase)

pub returns-in-Some-front : goal.returns-in-Some-front
returns-in-Some-front c =
    (c.in_default.ensures, W.faulty_there c.args.tokens.now _ _ _ c.in-Some-front.first.now c.in-Err-Faulty.field-0-is c.in-Some-front.ensures.whole c.in-Err-Faulty.ensures.parsed)
