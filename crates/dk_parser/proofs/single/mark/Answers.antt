use Rattle.std.proofs.Common.{rules, ◌≢◌}
use Rattle.dk_parser.specs.Marks.{mark_terminal}
use Rattle.dk_parser.proofs.Tokens as K
use Rattle.dk_parser.proofs.single.mark.Goals as goal

pub returns-in_default-clause-parsed : goal.returns-in_default-clause-parsed
returns-in_default-clause-parsed c = K.no_mark _ _ c.in_default.ensures

pub returns-else-eq-clause-parsed : goal.returns-else-eq-clause-parsed
returns-else-eq-clause-parsed c =
    let other : c.in-Some.kind ≢ mark_terminal c.args.mark = search rules in
    K.other_mark _ _ _ _ _ c.in-Some.ensures other
