use Rattle.std.proofs.Common.{rules, ◌≢◌, sym}
use Rattle.dk_parser.specs.Marks.{mark_terminal}
use Rattle.dk_parser.proofs.Tokens as K
use Rattle.dk_parser.proofs.single.sign_or.Goals as goal

pub returns-in_default-clause-parsed : goal.returns-in_default-clause-parsed
returns-in_default-clause-parsed c = K.no_turn _ _ c.requires c.in_default.ensures

pub returns-in-None-clause-parsed : goal.returns-in-None-clause-parsed
returns-in-None-clause-parsed c =
    let other : c.in-Some.kind ≢ mark_terminal c.args.mark = search rules in
    K.other_turn _ _ _ _ _ c.requires c.in-Some.ensures other (sym c.in-None.ensures)
